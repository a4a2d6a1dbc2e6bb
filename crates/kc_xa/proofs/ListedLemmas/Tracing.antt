-- Positions that are passed one after the other, where the memory is told or not.
use Rattle.std.proofs.Common.{◌≡◌, ℕ, zero, suc, ◌+◌, ◌≤◌, nat_eq, Bool, true, false, ◌&&◌, List, [], ◌∷◌, ◌++◌, length, drop, slice_get, Option, Some, None, refl, sym, ◌∙◌, ap, arith, eq-eqb, append_assoc, append-nil}
use Rattle.std.specs.Prelude.{Result, Ok, Err, IfErr, IfSome, OnOk, is_none, is_some, not, reverse, if◌then◌else◌}
use Rattle.std.proofs.lemmas.Bool.{and_left, and_parts, cond-false, cond-true, eqb-true, false_from_ne_true}
use Rattle.std.proofs.lemmas.List.{drop_all, reverse-append, reverse-reverse}
use Rattle.kc_memory.specs.declared.words.VWord.{VWord}
use Rattle.kc_memory.specs.Image.{Image}
use Rattle.kc_memory.specs.Translation.{vword}
use Rattle.kc_found.specs.declared.asked.Asked.{Asked}
use Rattle.kc_found.specs.declared.found.WalkStop.{WalkStop}
use Rattle.kc_found.specs.declared.found.WalkStop.TheVariants as ends
use Rattle.kc_found.specs.declared.xarrays.XaNode.{XaNode}
use Rattle.kc_found.specs.declared.xarrays.XaWords.{XaWords}
use Rattle.kc_found.specs.Nodes.{at_offset}
use Rattle.kc_found.specs.Taken.{with_word}
use Rattle.kc_found.specs.Trials.{claimed, passed}
use Rattle.kc_found.specs.Violations.{Violation}
use Rattle.kc_found.specs.Walks.{IsWalk, WalksAs}
use Rattle.kc_found.specs.XaEntries.{kind}
use Rattle.kc_found.specs.XaLayouts.{XaLayout}
use Rattle.kc_found.specs.XaNodes.{XaCourse, behind_entry}
use Rattle.kc_found.specs.XaSites.{words_behind, xa_course}
use Rattle.kc_found.specs.declared.test.TestStop.{TestStop}
use Rattle.kc_found.specs.declared.test.TestStop.TheVariants as halts
use Rattle.kc_found.specs.Tests.{TellsAs, test_stop_of}
use Rattle.kc_xa.specs.Steps.{IsOpened}
use Rattle.kc_xa.specs.declared.listed.spots.XaSpot.{XaSpot}
use Rattle.kc_xa.specs.Listed.Answers.{ListsAs, PassesAs}
use Rattle.kc_xa.specs.Listed.Entries.{entered, head_spot, headed, is_node, is_xarray, listed, slot_spot, slot_spots, spot_site, spots_below}

and_so : (a b : Bool) → a ≡ true → (a && b) ≡ b
and_so true b e = refl
and_so false b e = absurd (cc)

-- the stack, whose last position is looked at first
pub last_first : (rest : List XaSpot) (s : XaSpot) → reverse (rest ++ s ∷ []) ≡ s ∷ reverse rest
last_first rest s = reverse-append rest (s ∷ [])

pub slots_first : (rest next spots : List XaSpot) → next ≡ rest ++ reverse spots → reverse next ≡ spots ++ reverse rest
slots_first rest next spots e = ap reverse e ∙ reverse-append rest (reverse spots) ∙ ap (λ xs. xs ++ reverse rest) (reverse-reverse spots)

-- one more slot is added to the stack
pub drop_at : {X : Type 0} (xs : List X) (i : ℕ) (x : X) → slice_get xs i ≡ Some x → drop i xs ≡ x ∷ drop (i + 1) xs
drop_at [] i x is = absurd (let none : ⊥ = cc in none)
drop_at (y ∷ ys) zero x is = let same : y ≡ x = cc in ap (λ z. z ∷ ys) same
drop_at (y ∷ ys) (suc i) x is =
    let same : suc i + 1 ≡ suc (i + 1) = omega arith in
    rw same (drop_at ys i x is)

-- the slots of a node from number i on, the last one first
abbrev pub turned_slots : ℕ → XaNode → ℕ → List XaSpot
turned_slots chunk o i = reverse (slot_spots chunk o i (drop i o.slots))

pub no_slots : (chunk : ℕ) (o : XaNode) (old : List XaSpot) (i : ℕ) → length o.slots ≤ i → old ≡ old ++ turned_slots chunk o i
no_slots chunk o old i le = sym (append-nil old) ∙ ap (λ ws. old ++ reverse (slot_spots chunk o i ws)) (sym (drop_all i o.slots le))

pub slot_more : (chunk : ℕ) (o : XaNode) (old now next : List XaSpot) (i j k : ℕ) (w : VWord) (s : XaSpot) → j ≡ i → k ≡ i + 1 → slice_get o.slots i ≡ Some w → s ≡ slot_spot chunk o i w → now ≡ old ++ turned_slots chunk o k → next ≡ now ++ s ∷ [] → next ≡ old ++ turned_slots chunk o j
slot_more chunk o old now next i j k w s ej ek is es e more =
    more ∙ ap (λ x. now ++ x ∷ []) es ∙ ap (λ xs. xs ++ slot_spot chunk o i w ∷ []) (e ∙ ap (λ j. old ++ turned_slots chunk o j) ek) ∙ append_assoc old (turned_slots chunk o (i + 1)) (slot_spot chunk o i w ∷ [])
    ∙ ap (λ xs. old ++ xs) (sym (ap (λ ws. reverse (slot_spots chunk o i ws)) (drop_at o.slots i w is) ∙ reverse-append (slot_spot chunk o i w ∷ []) (slot_spots chunk o (i + 1) (drop (i + 1) o.slots)))) ∙ ap (λ k. old ++ turned_slots chunk o k) (sym ej)

pub all_slots : (chunk : ℕ) (o : XaNode) (old now : List XaSpot) (i : ℕ) → i ≡ 0 → now ≡ old ++ turned_slots chunk o i → now ≡ old ++ reverse (slot_spots chunk o 0 o.slots)
all_slots chunk o old now i none e = e ∙ ap (λ j. old ++ turned_slots chunk o j) none

-- what is tested of the position that is looked at, where its number stands there
abbrev Rest : XaCourse → List ℕ → XaSpot → List XaSpot → List ℕ → Bool
Rest c taken s ss ns =
    if is_node (kind c.shape.chunk s.word.value) then entered (passed taken (spot_site c s)) (words_behind c s.word) (λ more w. listed c more (spots_below c s w ++ ss) ns) else listed c taken ss ns

own_number : (c : XaCourse) (taken : List ℕ) (s : XaSpot) (ss : List XaSpot) (ns : List ℕ) → listed c taken (s ∷ ss) (s.word.value ∷ ns) ≡ (is_none s.fault && Rest c taken s ss ns)
own_number c taken s ss ns = and_so (nat_eq s.word.value s.word.value) _ (eq-eqb s.word.value s.word.value refl)

no_fault : (c : XaCourse) (taken : List ℕ) (s : XaSpot) (ss : List XaSpot) (ns : List ℕ) → is_some s.fault ≡ false → listed c taken (s ∷ ss) (s.word.value ∷ ns) ≡ Rest c taken s ss ns
no_fault c taken s ss ns f = own_number c taken s ss ns ∙ and_so (is_none s.fault) _ (ap not f)

-- the tests before and after a position
abbrev pub Before : XaLayout → Asked → List ℕ → XaSpot → List XaSpot → Image → List ℕ → Bool
Before shape asked taken s pending i ns = listed (xa_course i shape asked) taken (s ∷ reverse pending) (s.word.value ∷ ns)

abbrev pub After : XaLayout → Asked → List ℕ → List XaSpot → Image → List ℕ → Bool
After shape asked taken pending i ns = listed (xa_course i shape asked) taken (reverse pending) ns

-- its entry breaks a rule
pub fault_halts : (A : Type 0) (image : Option Image) (shape : XaLayout) (asked : Asked) (taken after : List ℕ) (s : XaSpot) (pending next : List XaSpot) → is_some s.fault ≡ true → PassesAs {A = A} (Before shape asked taken s pending) (After shape asked after next) image (Err halts.Unfit)
fault_halts A None shape asked taken after s pending next f = tt
fault_halts A (Some m) shape asked taken after s pending next f = λ ns. own_number (xa_course m shape asked) taken s (reverse pending) ns ∙ and_left (is_none s.fault) _ (ap not f)

-- it leads to no node
pub leaf_goes : {A : Type 0} (image : Option Image) (shape : XaLayout) (asked : Asked) (taken : List ℕ) (s : XaSpot) (pending : List XaSpot) (u : A) → is_some s.fault ≡ false → is_node (kind shape.chunk s.word.value) ≡ false → PassesAs (Before shape asked taken s pending) (After shape asked taken pending) image (Ok u)
leaf_goes None shape asked taken s pending u f leaf = tt
leaf_goes (Some m) shape asked taken s pending u f leaf = λ ns. no_fault (xa_course m shape asked) taken s (reverse pending) ns f ∙ cond-false (is_node (kind shape.chunk s.word.value)) _ _ leaf

-- it leads to a node
broken_is : (p : Result (List ℕ) Violation) (there : Result XaWords Violation) (go : List ℕ → XaWords → Bool) (v : Violation) → p ≡ Err v → entered p there go ≡ false
broken_is (Ok m) there go v e = absurd (cc)
broken_is (Err w) there go v e = refl

pub node_halts : (A : Type 0) {B : Type 0} (u : B → List ℕ) (image : Option Image) (shape : XaLayout) (asked : Asked) (taken after : List ℕ) (s : XaSpot) (pending next : List XaSpot) (stop : WalkStop) (halt : TestStop) → is_some s.fault ≡ false → is_node (kind shape.chunk s.word.value) ≡ true → halt ≡ test_stop_of stop →
    WalksAs u (λ i. passed taken (spot_site (xa_course i shape asked) s)) image (Err stop) → PassesAs {A = A} (Before shape asked taken s pending) (After shape asked after next) image (Err halt)
node_halts A u None shape asked taken after s pending next stop halt f node to e = tt
node_halts A u (Some m) shape asked taken after s pending next (ends.Broken v) halt f node to e =
    rw to (λ ns. no_fault (xa_course m shape asked) taken s (reverse pending) ns f ∙ cond-true (is_node (kind shape.chunk s.word.value)) _ _ node ∙ broken_is (passed taken (spot_site (xa_course m shape asked) s)) (words_behind (xa_course m shape asked) s.word) _ v e)
node_halts A u (Some m) shape asked taken after s pending next ends.Fault halt f node to e = rw to tt
node_halts A u (Some m) shape asked taken after s pending next ends.NoMemory halt f node to e = rw to tt

entered_at : (c : XaCourse) (s : XaSpot) (p : Result (List ℕ) Violation) (there : Result XaWords Violation) (more : List ℕ) (o : XaNode) (ss : List XaSpot) (ns : List ℕ) → p ≡ Ok more → IsOpened c.shape s.word s.index there o →
    entered p there (λ taken w. listed c taken (spots_below c s w ++ ss) ns) ≡ listed c more (slot_spots c.shape.chunk o 0 o.slots ++ ss) ns
entered_at c s (Ok m) (Ok w) more o ss ns e is = let same : m ≡ more = cc in ap (λ taken. listed c taken (spots_below c s w ++ ss) ns) same ∙ ap (λ (n : XaNode). listed c more (slot_spots c.shape.chunk n 0 n.slots ++ ss) ns) (sym is)
entered_at c s (Ok m) (Err v) more o ss ns e is = absurd is
entered_at c s (Err v) there more o ss ns e is = absurd (cc)

pub node_goes : {A B : Type 0} (v : B → List ℕ) (image : Option Image) (shape : XaLayout) (asked : Asked) (taken : List ℕ) (s : XaSpot) (pending next : List XaSpot) (o : XaNode) (x : B) (u : A) → is_some s.fault ≡ false → is_node (kind shape.chunk s.word.value) ≡ true →
    WalksAs v (λ i. passed taken (spot_site (xa_course i shape asked) s)) image (Ok x) → IfSome image (λ i. IsOpened shape s.word s.index (words_behind (xa_course i shape asked) s.word) o) → next ≡ pending ++ reverse (slot_spots shape.chunk o 0 o.slots) →
    PassesAs (Before shape asked taken s pending) (After shape asked (v x) next) image (Ok u)
node_goes v None shape asked taken s pending next o x u f node e is to = tt
node_goes v (Some m) shape asked taken s pending next o x u f node e is to =
    let c = xa_course m shape asked in
    λ ns. no_fault c taken s (reverse pending) ns f ∙ cond-true (is_node (kind shape.chunk s.word.value)) _ _ node
    ∙ entered_at c s (passed taken (spot_site c s)) (words_behind c s.word) (v x) o (reverse pending) ns e is
    ∙ ap (λ ss. listed c (v x) ss ns) (sym (slots_first pending next (slot_spots shape.chunk o 0 o.slots) to))

pub no_memory : (A : Type 0) {I : Type 0} (before after : I → List ℕ → Bool) (image : Option I) (halt : TestStop) → halt ≡ halts.NoMemory → PassesAs {A = A} before after image (Err halt)
no_memory A before after None halt e = tt
no_memory A before after (Some i) halt e = rw e tt

pub node_answers : {A B : Type 0} (v : B → List ℕ) (image : Option Image) (shape : XaLayout) (asked : Asked) (taken : List ℕ) (s : XaSpot) (pending next : List XaSpot) (o : XaNode) (x : B) (r : Result A TestStop) → is_some s.fault ≡ false → is_node (kind shape.chunk s.word.value) ≡ true →
    WalksAs v (λ i. passed taken (spot_site (xa_course i shape asked) s)) image (Ok x) → IfSome image (λ i. IsOpened shape s.word s.index (words_behind (xa_course i shape asked) s.word) o) → OnOk r (next ≡ pending ++ reverse (slot_spots shape.chunk o 0 o.slots)) →
    IfErr r (λ halt. halt ≡ halts.NoMemory) → PassesAs (Before shape asked taken s pending) (After shape asked (v x) next) image r
node_answers v image shape asked taken s pending next o x (Ok u) f node e is to none = node_goes v image shape asked taken s pending next o x u f node e is to
node_answers v image shape asked taken s pending next o x (Err halt) f node e is to none = no_memory _ (Before shape asked taken s pending) (After shape asked (v x) next) image halt none

-- the head
abbrev pub asked_at : ℕ → Asked
asked_at start = record { audit = 0; start = start }

headed_not : (c : XaCourse) (r : Result VWord Violation) (v : Violation) (ns : List ℕ) → r ≡ Err v → headed c r ns ≡ false
headed_not c (Ok h) v ns e = absurd (cc)
headed_not c (Err w) v ns e = refl

headed_at : (c : XaCourse) (r : Result VWord Violation) (h : VWord) (ns : List ℕ) → r ≡ Ok h → headed c r ns ≡ listed c (with_word [] h.pa) (head_spot c.shape.chunk h ∷ []) ns
headed_at c r h ns e = ap (λ r. headed c r ns) e

pub head_halts : (A : Type 0) (image : Option Image) (shape : XaLayout) (start : ℕ) (after : List ℕ) (next : List XaSpot) (stop : WalkStop) (halt : TestStop) → halt ≡ test_stop_of stop →
    WalksAs (λ (w : VWord). w) (λ i. behind_entry (vword i) (asked_at start) None (at_offset start shape.head)) image (Err stop) → PassesAs {A = A} (λ i ns. is_xarray i shape start ns) (After shape (asked_at start) after next) image (Err halt)
unfolding is_xarray
head_halts A None shape start after next stop halt to e = tt
head_halts A (Some m) shape start after next (ends.Broken v) halt to e = rw to (λ ns. headed_not (xa_course m shape (asked_at start)) (behind_entry (vword m) (asked_at start) None (at_offset start shape.head)) v ns e)
head_halts A (Some m) shape start after next ends.Fault halt to e = rw to tt
head_halts A (Some m) shape start after next ends.NoMemory halt to e = rw to tt

-- a word is new where none was taken
never : {B : Type 0} (u : B → List ℕ) (taken : List ℕ) (pa : ℕ) (v w : Violation) → taken ≡ [] → claimed taken pa v ≡ Err w → ⊥
never u taken pa v w e is = let no : Ok (with_word [] pa) ≡ Err w = sym (ap (λ ts. claimed ts pa v) e) ∙ is in cc

pub claim_halts : (A : Type 0) {B : Type 0} (u : B → List ℕ) (before after : Image → List ℕ → Bool) (image : Option Image) (taken : List ℕ) (pa : ℕ) (v : Violation) (stop : WalkStop) (halt : TestStop) → halt ≡ test_stop_of stop → taken ≡ [] → IsWalk u (claimed taken pa v) (Err stop) → PassesAs {A = A} before after image (Err halt)
claim_halts A u before after None taken pa v stop halt to none e = tt
claim_halts A u before after (Some m) taken pa v (ends.Broken f) halt to none e = absurd (never u taken pa v f none e)
claim_halts A u before after (Some m) taken pa v ends.Fault halt to none e = rw to tt
claim_halts A u before after (Some m) taken pa v ends.NoMemory halt to none e = rw to tt

pub head_goes : {A : Type 0} (image : Option Image) (shape : XaLayout) (start : ℕ) (taken more : List ℕ) (pending next : List XaSpot) (h : VWord) (v : Violation) (u : A) → taken ≡ [] → pending ≡ [] →
    WalksAs (λ (w : VWord). w) (λ i. behind_entry (vword i) (asked_at start) None (at_offset start shape.head)) image (Ok h) → claimed taken h.pa v ≡ Ok more → next ≡ pending ++ head_spot shape.chunk h ∷ [] →
    PassesAs (λ i ns. is_xarray i shape start ns) (After shape (asked_at start) more next) image (Ok u)
unfolding is_xarray
head_goes None shape start taken more pending next h v u none empty e is to = tt
head_goes (Some m) shape start taken more pending next h v u none empty e is to =
    let c = xa_course m shape (asked_at start) in
    let same : with_word [] h.pa ≡ more = let q : Ok (with_word [] h.pa) ≡ Ok more = sym (ap (λ ts. claimed ts h.pa v) none) ∙ is in cc in
    let spots : next ≡ head_spot shape.chunk h ∷ [] = to ∙ ap (λ ss. ss ++ head_spot shape.chunk h ∷ []) empty in
    λ ns. headed_at c (behind_entry (vword m) (asked_at start) None (at_offset start shape.head)) h ns e ∙ ap (λ ts. listed c ts (head_spot shape.chunk h ∷ []) ns) same ∙ ap (λ ss. listed c more (reverse ss) ns) (sym spots)

pub head_answers : {A : Type 0} (image : Option Image) (shape : XaLayout) (start : ℕ) (taken more : List ℕ) (pending next : List XaSpot) (h : VWord) (s : XaSpot) (v : Violation) (r : Result A TestStop) → taken ≡ [] → pending ≡ [] →
    WalksAs (λ (w : VWord). w) (λ i. behind_entry (vword i) (asked_at start) None (at_offset start shape.head)) image (Ok h) → claimed taken h.pa v ≡ Ok more → s ≡ head_spot shape.chunk h → OnOk r (next ≡ pending ++ s ∷ []) → IfErr r (λ halt. halt ≡ halts.NoMemory) →
    PassesAs (λ i ns. is_xarray i shape start ns) (After shape (asked_at start) more next) image r
head_answers image shape start taken more pending next h s v (Ok u) none empty e is spot to memory = head_goes image shape start taken more pending next h v u none empty e is (to ∙ ap (λ x. pending ++ x ∷ []) spot)
head_answers image shape start taken more pending next h s v (Err halt) none empty e is spot to memory = no_memory _ (λ i ns. is_xarray i shape start ns) (After shape (asked_at start) more next) image halt memory

-- the test of numbers at positions
abbrev pub Tested : XaLayout → Asked → List ℕ → List XaSpot → List ℕ → Image → Bool
Tested shape asked taken pending ns i = After shape asked taken pending i ns

-- a list that is tested: the test of all numbers is that of those that are left
abbrev pub Paced : Option Image → XaLayout → Asked → (Image → Bool) → List ℕ → List XaSpot → List ℕ → Type 0
Paced image shape asked whole taken pending ns = IfSome image (λ i. whole i ≡ After shape asked taken pending i ns)

pub paces_from : (image : Option Image) (shape : XaLayout) (asked : Asked) (taken : List ℕ) (pending : List XaSpot) (ns : List ℕ) → Paced image shape asked (Tested shape asked taken pending ns) taken pending ns
paces_from None shape asked taken pending ns = tt
paces_from (Some i) shape asked taken pending ns = refl

opens : (m : Image) (shape : XaLayout) (asked : Asked) (taken : List ℕ) (pending rest : List XaSpot) (s : XaSpot) (ns : List ℕ) (i n : ℕ) → slice_get ns i ≡ Some n → pending ≡ rest ++ s ∷ [] →
    After shape asked taken pending m (drop i ns) ≡ listed (xa_course m shape asked) taken (s ∷ reverse rest) (n ∷ drop (i + 1) ns)
opens m shape asked taken pending rest s ns i n is e =
    ap (λ ss. listed (xa_course m shape asked) taken ss (drop i ns)) (ap reverse e ∙ last_first rest s) ∙ ap (λ ms. listed (xa_course m shape asked) taken (s ∷ reverse rest) ms) (drop_at ns i n is)

-- no position is left
pub runs_out : (A : Type 0) (image : Option Image) (shape : XaLayout) (asked : Asked) (whole : Image → Bool) (taken : List ℕ) (pending : List XaSpot) (ns : List ℕ) (i n : ℕ) → slice_get ns i ≡ Some n → pending ≡ [] → Paced image shape asked whole taken pending (drop i ns) → TellsAs {A = A} whole image (Err halts.Unfit)
runs_out A None shape asked whole taken pending ns i n is e p = tt
runs_out A (Some m) shape asked whole taken pending ns i n is e p =
    p ∙ ap (λ ss. listed (xa_course m shape asked) taken (reverse ss) (drop i ns)) e ∙ ap (λ ms. listed (xa_course m shape asked) taken [] ms) (drop_at ns i n is)

-- another number stands there
pub strays : (A : Type 0) (image : Option Image) (shape : XaLayout) (asked : Asked) (whole : Image → Bool) (taken : List ℕ) (pending rest : List XaSpot) (s : XaSpot) (ns : List ℕ) (i n : ℕ) → slice_get ns i ≡ Some n → pending ≡ rest ++ s ∷ [] → nat_eq n s.word.value ≡ false →
    Paced image shape asked whole taken pending (drop i ns) → TellsAs {A = A} whole image (Err halts.Unfit)
strays A None shape asked whole taken pending rest s ns i n is e d p = tt
strays A (Some m) shape asked whole taken pending rest s ns i n is e d p = p ∙ opens m shape asked taken pending rest s ns i n is e ∙ and_left (nat_eq n s.word.value) _ d

-- the position's own number stands there
at_own : (m : Image) (shape : XaLayout) (asked : Asked) (taken : List ℕ) (pending rest : List XaSpot) (s : XaSpot) (ns : List ℕ) (i n : ℕ) → slice_get ns i ≡ Some n → pending ≡ rest ++ s ∷ [] → nat_eq n s.word.value ≡ true →
    After shape asked taken pending m (drop i ns) ≡ Before shape asked taken s rest m (drop (i + 1) ns)
at_own m shape asked taken pending rest s ns i n is e d = opens m shape asked taken pending rest s ns i n is e ∙ ap (λ k. listed (xa_course m shape asked) taken (s ∷ reverse rest) (k ∷ drop (i + 1) ns)) (eqb-true n s.word.value d)

pub paces_stop : (A B : Type 0) (image : Option Image) (shape : XaLayout) (asked : Asked) (whole : Image → Bool) (taken after : List ℕ) (pending rest next : List XaSpot) (s : XaSpot) (ns : List ℕ) (i n : ℕ) (halt : TestStop) → slice_get ns i ≡ Some n → pending ≡ rest ++ s ∷ [] → nat_eq n s.word.value ≡ true →
    PassesAs {A = B} (Before shape asked taken s rest) (After shape asked after next) image (Err halt) → Paced image shape asked whole taken pending (drop i ns) → TellsAs {A = A} whole image (Err halt)
paces_stop A B None shape asked whole taken after pending rest next s ns i n halt is e d q p = tt
paces_stop A B (Some m) shape asked whole taken after pending rest next s ns i n halts.Unfit is e d q p = p ∙ at_own m shape asked taken pending rest s ns i n is e d ∙ q (drop (i + 1) ns)
paces_stop A B (Some m) shape asked whole taken after pending rest next s ns i n halts.Fault is e d q p = tt
paces_stop A B (Some m) shape asked whole taken after pending rest next s ns i n halts.NoMemory is e d q p = tt

pub paces_on : {B : Type 0} (image : Option Image) (shape : XaLayout) (asked : Asked) (whole : Image → Bool) (taken after : List ℕ) (pending rest next : List XaSpot) (s : XaSpot) (ns : List ℕ) (i n : ℕ) (u : B) → slice_get ns i ≡ Some n → pending ≡ rest ++ s ∷ [] → nat_eq n s.word.value ≡ true →
    PassesAs (Before shape asked taken s rest) (After shape asked after next) image (Ok u) → Paced image shape asked whole taken pending (drop i ns) → Paced image shape asked whole after next (drop (i + 1) ns)
paces_on None shape asked whole taken after pending rest next s ns i n u is e d q p = tt
paces_on (Some m) shape asked whole taken after pending rest next s ns i n u is e d q p = p ∙ at_own m shape asked taken pending rest s ns i n is e d ∙ q (drop (i + 1) ns)

-- the end
pub paces_out : {A : Type 0} (image : Option Image) (shape : XaLayout) (asked : Asked) (whole : Image → Bool) (taken : List ℕ) (pending : List XaSpot) (ns : List ℕ) (i : ℕ) (u : A) → length ns ≤ i → pending ≡ [] → Paced image shape asked whole taken pending (drop i ns) → TellsAs whole image (Ok u)
paces_out None shape asked whole taken pending ns i u le none p = tt
paces_out (Some m) shape asked whole taken pending ns i u le none p =
    p ∙ ap (λ ss. listed (xa_course m shape asked) taken (reverse ss) (drop i ns)) none ∙ ap (λ ms. listed (xa_course m shape asked) taken [] ms) (drop_all i ns le)

still_waits : (c : XaCourse) (taken : List ℕ) (ss : List XaSpot) → (ss ≡ [] → ⊥) → listed c taken ss [] ≡ false
still_waits c taken [] n = absurd (n refl)
still_waits c taken (s ∷ ss) n = refl

pub paces_short : (A : Type 0) (image : Option Image) (shape : XaLayout) (asked : Asked) (whole : Image → Bool) (taken : List ℕ) (pending : List XaSpot) (ns : List ℕ) (i : ℕ) → length ns ≤ i → 1 ≤ length pending → Paced image shape asked whole taken pending (drop i ns) → TellsAs {A = A} whole image (Err halts.Unfit)
paces_short A None shape asked whole taken pending ns i le some p = tt
paces_short A (Some m) shape asked whole taken pending ns i le some p =
    p ∙ ap (λ ms. listed (xa_course m shape asked) taken (reverse pending) ms) (drop_all i ns le)
    ∙ still_waits (xa_course m shape asked) taken (reverse pending) (λ e. let none = ap (λ (ss : List XaSpot). length ss) (sym (reverse-reverse pending) ∙ ap reverse e) in omega (arith, none, some))

-- the test after the head
pub tells_through : {A B : Type 0} (image : Option Image) (before after : Image → List ℕ → Bool) (ns : List ℕ) (u : B) (r : Result A TestStop) → PassesAs before after image (Ok u) → TellsAs (λ i. after i ns) image r → TellsAs (λ i. before i ns) image r
tells_through None before after ns u r p t = tt
tells_through (Some m) before after ns u (Ok x) p t = p ns ∙ t
tells_through (Some m) before after ns u (Err halts.Unfit) p t = p ns ∙ t
tells_through (Some m) before after ns u (Err halts.Fault) p t = tt
tells_through (Some m) before after ns u (Err halts.NoMemory) p t = tt

pub tells_halt : (A B : Type 0) (image : Option Image) (before after : Image → List ℕ → Bool) (ns : List ℕ) (halt : TestStop) → PassesAs {A = B} before after image (Err halt) → TellsAs {A = A} (λ i. before i ns) image (Err halt)
tells_halt A B None before after ns halt p = tt
tells_halt A B (Some m) before after ns halts.Unfit p = p ns
tells_halt A B (Some m) before after ns halts.Fault p = tt
tells_halt A B (Some m) before after ns halts.NoMemory p = tt

-- a list that is made: the lists of which the test is true begin with what is written, and of the rest the test of what is left
-- is true
pub record Written (whole after : List ℕ → Bool) (ms : List ℕ) : Type 0 where
  pub goes : (ns : List ℕ) → whole (ms ++ ns) ≡ after ns
  pub only : (ns : List ℕ) → whole ns ≡ true → (rest : List ℕ) × (ns ≡ ms ++ rest)

abbrev pub Writes : Option Image → XaLayout → Asked → (Image → List ℕ → Bool) → List ℕ → List XaSpot → List ℕ → Type 0
Writes image shape asked whole taken pending ms = IfSome image (λ i. Written (whole i) (After shape asked taken pending i) ms)

pub writes_from : (image : Option Image) (shape : XaLayout) (asked : Asked) (taken : List ℕ) (pending : List XaSpot) (ms : List ℕ) → ms ≡ [] → Writes image shape asked (After shape asked taken pending) taken pending ms
writes_from None shape asked taken pending ms e = tt
writes_from (Some i) shape asked taken pending ms e = rw e (record { goes = λ ns. refl; only = λ ns t. (ns, refl) })

-- a list of which the test is true has the position's own number first
first_own : (c : XaCourse) (taken : List ℕ) (s : XaSpot) (ss : List XaSpot) (ns : List ℕ) → listed c taken (s ∷ ss) ns ≡ true → (rest : List ℕ) × (ns ≡ s.word.value ∷ rest)
first_own c taken s ss [] e = absurd (cc)
first_own c taken s ss (n ∷ ns) e = (ns, ap (λ k. k ∷ ns) (eqb-true n s.word.value (and_parts (nat_eq n s.word.value) _ e).0))

record Forward (m : Image) (shape : XaLayout) (asked : Asked) (whole : Image → List ℕ → Bool) (taken : List ℕ) (rest : List XaSpot) (s : XaSpot) (ms more : List ℕ) : Type 0 where
  pub goes : (ns : List ℕ) → whole m (more ++ ns) ≡ Before shape asked taken s rest m ns
  pub only : (ns : List ℕ) → whole m ns ≡ true → (after : List ℕ) × (ns ≡ more ++ after)

forward : (m : Image) (shape : XaLayout) (asked : Asked) (whole : Image → List ℕ → Bool) (taken : List ℕ) (pending rest : List XaSpot) (s : XaSpot) (ms more : List ℕ) → pending ≡ rest ++ s ∷ [] → more ≡ ms ++ s.word.value ∷ [] →
    Written (whole m) (After shape asked taken pending m) ms → Forward m shape asked whole taken rest s ms more
forward m shape asked whole taken pending rest s ms more e to p =
    let c = xa_course m shape asked in
    let front : (ns : List ℕ) → After shape asked taken pending m ns ≡ listed c taken (s ∷ reverse rest) ns = λ ns. ap (λ ss. listed c taken ss ns) (ap reverse e ∙ last_first rest s) in
    let longer : (ns : List ℕ) → more ++ ns ≡ ms ++ (s.word.value ∷ ns) = λ ns. ap (λ xs. xs ++ ns) to ∙ append_assoc ms (s.word.value ∷ []) ns in
    record {
      goes = λ ns. ap (whole m) (longer ns) ∙ p.goes (s.word.value ∷ ns) ∙ front (s.word.value ∷ ns);
      only = λ ns t.
          let q = p.only ns t in
          let f = first_own c taken s (reverse rest) q.0 (sym (front q.0) ∙ sym (p.goes q.0) ∙ ap (whole m) (sym q.1) ∙ t) in
          (f.0, q.1 ∙ ap (λ xs. ms ++ xs) f.1 ∙ sym (longer f.0));
    }

pub writes_on : {B : Type 0} (image : Option Image) (shape : XaLayout) (asked : Asked) (whole : Image → List ℕ → Bool) (taken after : List ℕ) (pending rest next : List XaSpot) (s : XaSpot) (ms more : List ℕ) (u : B) → pending ≡ rest ++ s ∷ [] → more ≡ ms ++ s.word.value ∷ [] →
    PassesAs (Before shape asked taken s rest) (After shape asked after next) image (Ok u) → Writes image shape asked whole taken pending ms → Writes image shape asked whole after next more
writes_on None shape asked whole taken after pending rest next s ms more u e to q p = tt
writes_on (Some m) shape asked whole taken after pending rest next s ms more u e to q p =
    let f = forward m shape asked whole taken pending rest s ms more e to p in
    record { goes = λ ns. f.goes ns ∙ q ns; only = f.only }

pub writes_stop : (B : Type 0) (image : Option Image) (shape : XaLayout) (asked : Asked) (whole : Image → List ℕ → Bool) (taken after : List ℕ) (pending rest next : List XaSpot) (s : XaSpot) (ms more : List ℕ) (halt : TestStop) → pending ≡ rest ++ s ∷ [] → more ≡ ms ++ s.word.value ∷ [] →
    PassesAs {A = B} (Before shape asked taken s rest) (After shape asked after next) image (Err halt) → Writes image shape asked whole taken pending ms → ListsAs whole image (Err halt)
writes_stop B None shape asked whole taken after pending rest next s ms more halt e to q p = tt
writes_stop B (Some m) shape asked whole taken after pending rest next s ms more halts.Unfit e to q p =
    let f = forward m shape asked whole taken pending rest s ms more e to p in
    λ ns. false_from_ne_true (whole m ns) (λ t.
    let o = f.only ns t in
    let yes : Before shape asked taken s rest m o.0 ≡ true = sym (f.goes o.0) ∙ ap (whole m) (sym o.1) ∙ t in
    let no : Before shape asked taken s rest m o.0 ≡ false = q o.0 in
    let both : true ≡ false = sym yes ∙ no in cc)
writes_stop B (Some m) shape asked whole taken after pending rest next s ms more halts.Fault e to q p = tt
writes_stop B (Some m) shape asked whole taken after pending rest next s ms more halts.NoMemory e to q p = tt

pub writes_out : (image : Option Image) (shape : XaLayout) (asked : Asked) (whole : Image → List ℕ → Bool) (taken : List ℕ) (pending : List XaSpot) (ms : List ℕ) → pending ≡ [] → Writes image shape asked whole taken pending ms → ListsAs whole image (Ok ms)
writes_out None shape asked whole taken pending ms e p = tt
writes_out (Some m) shape asked whole taken pending ms e p =
    ap (whole m) (sym (append-nil ms)) ∙ p.goes [] ∙ ap (λ ss. listed (xa_course m shape asked) taken (reverse ss) []) e

pub memory_out : {I : Type 0} (whole : I → List ℕ → Bool) (image : Option I) (halt : TestStop) → halt ≡ halts.NoMemory → ListsAs whole image (Err halt)
memory_out whole None halt e = tt
memory_out whole (Some i) halt e = rw e tt

pub lists_through : {B : Type 0} (image : Option Image) (before after : Image → List ℕ → Bool) (u : B) (r : Result (List ℕ) TestStop) → PassesAs before after image (Ok u) → ListsAs after image r → ListsAs before image r
lists_through None before after u r p t = tt
lists_through (Some m) before after u (Ok ns) p t = p ns ∙ t
lists_through (Some m) before after u (Err halts.Unfit) p t = λ ns. p ns ∙ t ns
lists_through (Some m) before after u (Err halts.Fault) p t = tt
lists_through (Some m) before after u (Err halts.NoMemory) p t = tt

pub lists_halt : (B : Type 0) (image : Option Image) (before after : Image → List ℕ → Bool) (halt : TestStop) → PassesAs {A = B} before after image (Err halt) → ListsAs before image (Err halt)
lists_halt B None before after halt p = tt
lists_halt B (Some m) before after halts.Unfit p = p
lists_halt B (Some m) before after halts.Fault p = tt
lists_halt B (Some m) before after halts.NoMemory p = tt
