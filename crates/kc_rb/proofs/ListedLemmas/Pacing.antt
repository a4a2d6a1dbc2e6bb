-- Numbers that are passed one after the other, where the memory is told or not.
use Rattle.std.proofs.Common.{◌≡◌, ℕ, zero, suc, ◌+◌, ◌≤◌, ◌<◌, nat_eq, Bool, true, false, ◌&&◌, List, [], ◌∷◌, ◌++◌, length, drop, slice_get, Option, Some, None, refl, sym, ◌∙◌, ap, arith, eq-eqb, append_assoc, append-nil}
use Rattle.std.specs.Prelude.{Result, Ok, Err, not, reverse, IfSome, ⊤, if◌then◌else◌}
use Rattle.std.proofs.lemmas.List.{reverse-append, drop_all}
use Rattle.kc_memory.specs.Image.{Image}
use Rattle.kc_memory.specs.Stopped.{Stopped}
use Rattle.kc_memory.specs.Translation.{vword}
use Rattle.kc_found.specs.declared.asked.Asked.{Asked}
use Rattle.kc_found.specs.declared.found.WalkStop.{WalkStop}
use Rattle.kc_found.specs.declared.found.WalkStop.TheVariants as ends
use Rattle.kc_found.specs.declared.shapes.RbShape.{RbShape}
use Rattle.kc_found.specs.declared.trees.RbKey.{RbKey}
use Rattle.kc_found.specs.declared.trees.RbLinks.{RbLinks}
use Rattle.kc_found.specs.declared.trees.RbSpot.{RbSpot}
use Rattle.kc_found.specs.RbTrees.{RbCourse, course_of, differs, head_at, head_of, head_site, keys_at, key_of, left_spot, links_at, links_of, node_site, reads_of, right_spot, root_spot}
use Rattle.kc_found.specs.Trials.{passed}
use Rattle.kc_found.specs.Violations.{Violation}
use Rattle.kc_found.specs.Walks.{TakesAs}
use Rattle.kc_rb.specs.Faults.{or_else}
use Rattle.kc_laws.specs.Drops.{drop_at}
use Rattle.kc_found.specs.declared.test.TestStop.{TestStop}
use Rattle.kc_found.specs.declared.test.TestStop.TheVariants as halts
use Rattle.kc_found.specs.Tests.{TellsAs}
use Rattle.kc_found.specs.declared.trees.RbHead.{RbHead}
use Rattle.kc_rb.specs.Listed.Trees.{entered, headed, is_first, is_tree, listed, popped, turn}
use Rattle.kc_found.specs.Tests.{test_stop_of}

-- the test of all numbers is that of those that are left
abbrev pub Paced : Option Image → RbShape → Asked → (Image → Bool) → Option ℕ → List ℕ → List RbSpot → List ℕ → Type 0
Paced image shape asked whole first taken pending ns = IfSome image (λ i. whole i ≡ listed (course_of i shape asked) first taken (reverse pending) ns)

pub paces_from : (image : Option Image) (shape : RbShape) (asked : Asked) (first : Option ℕ) (taken : List ℕ) (s : RbSpot) (pending : List RbSpot) (ns : List ℕ) → pending ≡ s ∷ [] → Paced image shape asked (λ i. listed (course_of i shape asked) first taken (s ∷ []) ns) first taken pending ns
paces_from None shape asked first taken s pending ns e = tt
paces_from (Some i) shape asked first taken s pending ns e = ap (λ ss. listed (course_of i shape asked) first taken (reverse ss) ns) (sym e)

-- in front of the number that is looked at
top : (rest : List RbSpot) (s : RbSpot) → reverse (rest ++ s ∷ []) ≡ s ∷ reverse rest
top rest s = reverse-append rest (s ∷ [])

opens : (image : Image) (shape : RbShape) (asked : Asked) (first : Option ℕ) (taken : List ℕ) (pending rest : List RbSpot) (s : RbSpot) (ns : List ℕ) (i n : ℕ) → slice_get ns i ≡ Some n → pending ≡ rest ++ s ∷ [] →
    listed (course_of image shape asked) first taken (reverse pending) (drop i ns) ≡ listed (course_of image shape asked) first taken (s ∷ reverse rest) (n ∷ drop (i + 1) ns)
opens image shape asked first taken pending rest s ns i n is e =
    ap (λ ss. listed (course_of image shape asked) first taken (reverse ss) (drop i ns)) e ∙ ap (λ ss. listed (course_of image shape asked) first taken ss (drop i ns)) (top rest s) ∙ ap (listed (course_of image shape asked) first taken (s ∷ reverse rest)) (drop_at ns i n is)

none_left : (c : RbCourse) (first : Option ℕ) (taken : List ℕ) (ns : List ℕ) (i n : ℕ) → slice_get ns i ≡ Some n → listed c first taken [] (drop i ns) ≡ false
none_left c first taken ns i n is = ap (listed c first taken []) (drop_at ns i n is)

-- no position is left
pub runs_out : (A : Type 0) (image : Option Image) (shape : RbShape) (asked : Asked) (whole : Image → Bool) (first : Option ℕ) (taken : List ℕ) (pending : List RbSpot) (ns : List ℕ) (i n : ℕ) → slice_get ns i ≡ Some n → pending ≡ [] →
    Paced image shape asked whole first taken pending (drop i ns) → TellsAs {A = A} whole image (Err halts.Unfit)
runs_out A None shape asked whole first taken pending ns i n is e p = tt
runs_out A (Some m) shape asked whole first taken pending ns i n is e p =
    p ∙ ap (λ ss. listed (course_of m shape asked) first taken (reverse ss) (drop i ns)) e ∙ none_left (course_of m shape asked) first taken ns i n is

and_left : (a b : Bool) → a ≡ false → (a && b) ≡ false
and_left true b e = absurd (cc)
and_left false b e = refl

and_right : (a b : Bool) → a ≡ true → (a && b) ≡ b
and_right true b e = refl
and_right false b e = absurd (cc)

if_null : {A : Type 0} (b : Bool) (x y : A) → b ≡ true → (if b then x else y) ≡ x
if_null true x y e = refl
if_null false x y e = absurd (cc)

if_inner : {A : Type 0} (b : Bool) (x y : A) → b ≡ false → (if b then x else y) ≡ y
if_inner true x y e = absurd (cc)
if_inner false x y e = refl

-- another number stands there
pub strays : (A : Type 0) (image : Option Image) (shape : RbShape) (asked : Asked) (whole : Image → Bool) (first : Option ℕ) (taken : List ℕ) (pending rest : List RbSpot) (s : RbSpot) (ns : List ℕ) (i n : ℕ) → slice_get ns i ≡ Some n → pending ≡ rest ++ s ∷ [] → nat_eq n s.link.value ≡ false →
    Paced image shape asked whole first taken pending (drop i ns) → TellsAs {A = A} whole image (Err halts.Unfit)
strays A None shape asked whole first taken pending rest s ns i n is e d p = tt
strays A (Some m) shape asked whole first taken pending rest s ns i n is e d p =
    p ∙ opens m shape asked first taken pending rest s ns i n is e ∙ and_left (nat_eq n s.link.value) _ d

-- a null
null_at : (c : RbCourse) (first : Option ℕ) (taken : List ℕ) (s : RbSpot) (ss : List RbSpot) (n : ℕ) (ns : List ℕ) → nat_eq n s.link.value ≡ true → nat_eq n 0 ≡ true →
    listed c first taken (s ∷ ss) (n ∷ ns) ≡ (not (differs first s.black) && listed c (Some (or_else first s.black)) taken ss ns)
null_at c first taken s ss n ns e null = and_right (nat_eq n s.link.value) _ e ∙ if_null (nat_eq n 0) _ _ null

pub null_halts : (A : Type 0) (image : Option Image) (shape : RbShape) (asked : Asked) (whole : Image → Bool) (first : Option ℕ) (taken : List ℕ) (pending rest : List RbSpot) (s : RbSpot) (ns : List ℕ) (i n : ℕ) → slice_get ns i ≡ Some n → pending ≡ rest ++ s ∷ [] → nat_eq n s.link.value ≡ true → nat_eq n 0 ≡ true →
    differs first s.black ≡ true → Paced image shape asked whole first taken pending (drop i ns) → TellsAs {A = A} whole image (Err halts.Unfit)
null_halts A None shape asked whole first taken pending rest s ns i n is e d null f p = tt
null_halts A (Some m) shape asked whole first taken pending rest s ns i n is e d null f p =
    p ∙ opens m shape asked first taken pending rest s ns i n is e ∙ null_at (course_of m shape asked) first taken s (reverse rest) n (drop (i + 1) ns) d null ∙ and_left (not (differs first s.black)) _ (ap not f)

pub null_goes : (image : Option Image) (shape : RbShape) (asked : Asked) (whole : Image → Bool) (first : Option ℕ) (taken : List ℕ) (pending rest : List RbSpot) (s : RbSpot) (ns : List ℕ) (i n after : ℕ) → slice_get ns i ≡ Some n → pending ≡ rest ++ s ∷ [] → nat_eq n s.link.value ≡ true → nat_eq n 0 ≡ true →
    differs first s.black ≡ false → after ≡ or_else first s.black → Paced image shape asked whole first taken pending (drop i ns) → Paced image shape asked whole (Some after) taken rest (drop (i + 1) ns)
null_goes None shape asked whole first taken pending rest s ns i n after is e d null f to p = tt
null_goes (Some m) shape asked whole first taken pending rest s ns i n after is e d null f to p =
    p ∙ opens m shape asked first taken pending rest s ns i n is e ∙ null_at (course_of m shape asked) first taken s (reverse rest) n (drop (i + 1) ns) d null ∙ and_right (not (differs first s.black)) _ (ap not f)
    ∙ ap (λ b. listed (course_of m shape asked) (Some b) taken (reverse rest) (drop (i + 1) ns)) (sym to)

-- a node

node_at : (c : RbCourse) (first : Option ℕ) (taken : List ℕ) (s : RbSpot) (ss : List RbSpot) (n : ℕ) (ns : List ℕ) → nat_eq n s.link.value ≡ true → nat_eq n 0 ≡ false →
    listed c first taken (s ∷ ss) (n ∷ ns) ≡ entered (passed taken (node_site c s)) (links_at c s) (keys_at c s) (λ more w k. listed c first more (left_spot s w k ∷ right_spot s w k ∷ ss) ns)
node_at c first taken s ss n ns e inner = and_right (nat_eq n s.link.value) _ e ∙ if_inner (nat_eq n 0) _ _ inner

broken_is : (p : Result (List ℕ) Violation) (there : Result RbLinks Stopped) (key : Result (Option RbKey) Stopped) (go : List ℕ → RbLinks → Option RbKey → Bool) (v : Violation) → p ≡ Err v → entered p there key go ≡ false
broken_is (Ok m) there key go v e = absurd (cc)
broken_is (Err w) there key go v e = refl

entered_at : (p : Result (List ℕ) Violation) (there : Result RbLinks Stopped) (key : Result (Option RbKey) Stopped) (go : List ℕ → RbLinks → Option RbKey → Bool) (more : List ℕ) (w : RbLinks) (k : Option RbKey) →
    p ≡ Ok more → there ≡ Ok w → key ≡ Ok k → entered p there key go ≡ go more w k
entered_at (Ok m) (Ok v) (Ok l) go more w k a b d = let x : m ≡ more = cc in let y : v ≡ w = cc in let z : l ≡ k = cc in rw (x, y, z) refl
entered_at (Ok m) (Ok v) (Err s) go more w k a b d = absurd (cc)
entered_at (Ok m) (Err s) key go more w k a b d = absurd (cc)
entered_at (Err v) there key go more w k a b d = absurd (cc)

pub node_halts : (A B : Type 0) (image : Option Image) (shape : RbShape) (asked : Asked) (whole : Image → Bool) (first : Option ℕ) (taken after : List ℕ) (pending rest : List RbSpot) (s : RbSpot) (ns : List ℕ) (i n : ℕ) (stop : WalkStop) (halt : TestStop) → slice_get ns i ≡ Some n → pending ≡ rest ++ s ∷ [] → nat_eq n s.link.value ≡ true → nat_eq n 0 ≡ false →
    halt ≡ test_stop_of stop → TakesAs {A = B} (λ m. node_site (course_of m shape asked) s) taken after image (Err stop) → Paced image shape asked whole first taken pending (drop i ns) → TellsAs {A = A} whole image (Err halt)
node_halts A B None shape asked whole first taken after pending rest s ns i n stop halt is e d inner to t p = tt
node_halts A B (Some m) shape asked whole first taken after pending rest s ns i n (ends.Broken v) halt is e d inner to t p =
    rw to (p ∙ opens m shape asked first taken pending rest s ns i n is e ∙ node_at (course_of m shape asked) first taken s (reverse rest) n (drop (i + 1) ns) d inner
    ∙ broken_is (passed taken (node_site (course_of m shape asked) s)) (links_at (course_of m shape asked) s) (keys_at (course_of m shape asked) s) _ v t)
node_halts A B (Some m) shape asked whole first taken after pending rest s ns i n ends.Fault halt is e d inner to t p = rw to tt
node_halts A B (Some m) shape asked whole first taken after pending rest s ns i n ends.NoMemory halt is e d inner to t p = rw to tt

turn_two : (rest : List RbSpot) (r l : RbSpot) → reverse (rest ++ r ∷ l ∷ []) ≡ l ∷ r ∷ reverse rest
turn_two rest r l = reverse-append rest (r ∷ l ∷ [])

pub node_goes : {B : Type 0} (image : Option Image) (shape : RbShape) (asked : Asked) (whole : Image → Bool) (first : Option ℕ) (taken more : List ℕ) (pending rest next : List RbSpot) (s : RbSpot) (ns : List ℕ) (i n : ℕ) (w : RbLinks) (k : Option RbKey) (u : B) → slice_get ns i ≡ Some n → pending ≡ rest ++ s ∷ [] → nat_eq n s.link.value ≡ true → nat_eq n 0 ≡ false →
    TakesAs (λ m. node_site (course_of m shape asked) s) taken more image (Ok u) → IfSome image (λ m. links_of (vword m) shape s.link.value ≡ Ok w) → IfSome image (λ m. key_of (reads_of m) shape s.link.value ≡ Ok k) → next ≡ rest ++ right_spot s w k ∷ left_spot s w k ∷ [] →
    Paced image shape asked whole first taken pending (drop i ns) → Paced image shape asked whole first more next (drop (i + 1) ns)
node_goes None shape asked whole first taken more pending rest next s ns i n w k u is e d inner t el ek to p = tt
node_goes (Some m) shape asked whole first taken more pending rest next s ns i n w k u is e d inner t el ek to p =
    p ∙ opens m shape asked first taken pending rest s ns i n is e ∙ node_at (course_of m shape asked) first taken s (reverse rest) n (drop (i + 1) ns) d inner
    ∙ entered_at (passed taken (node_site (course_of m shape asked) s)) (links_at (course_of m shape asked) s) (keys_at (course_of m shape asked) s) _ more w k t el ek
    ∙ ap (λ ss. listed (course_of m shape asked) first more ss (drop (i + 1) ns)) (sym (ap reverse to ∙ turn_two rest (right_spot s w k) (left_spot s w k)))

-- the end
pub paces_out : {A : Type 0} (image : Option Image) (shape : RbShape) (asked : Asked) (whole : Image → Bool) (first : Option ℕ) (taken : List ℕ) (pending : List RbSpot) (ns : List ℕ) (i : ℕ) (u : A) → length ns ≤ i → length pending ≡ 0 → Paced image shape asked whole first taken pending (drop i ns) → TellsAs whole image (Ok u)
paces_out None shape asked whole first taken pending ns i u le none p = tt
paces_out (Some m) shape asked whole first taken [] ns i u le none p = p ∙ ap (listed (course_of m shape asked) first taken []) (drop_all i ns le)
paces_out (Some m) shape asked whole first taken (s ∷ ss) ns i u le none p = absurd (omega (arith, none))

length_turned : (ss : List RbSpot) → reverse ss ≡ [] → ss ≡ []
length_turned [] e = refl
length_turned (s ∷ ss) e = absurd (not_nil (reverse ss) s (sym (reverse-append (s ∷ []) ss) ∙ e))
  where
    not_nil : (xs : List RbSpot) (x : RbSpot) → xs ++ x ∷ [] ≡ [] → ⊥
    not_nil [] x e = cc
    not_nil (y ∷ ys) x e = cc

still_waits : (c : RbCourse) (first : Option ℕ) (taken : List ℕ) (ss : List RbSpot) → (ss ≡ [] → ⊥) → listed c first taken ss [] ≡ false
still_waits c first taken [] n = absurd (n refl)
still_waits c first taken (s ∷ ss) n = refl

pub paces_short : (A : Type 0) (image : Option Image) (shape : RbShape) (asked : Asked) (whole : Image → Bool) (first : Option ℕ) (taken : List ℕ) (pending : List RbSpot) (ns : List ℕ) (i : ℕ) → length ns ≤ i → nat_eq (length pending) 0 ≡ false → Paced image shape asked whole first taken pending (drop i ns) → TellsAs {A = A} whole image (Err halts.Unfit)
paces_short A None shape asked whole first taken pending ns i le some p = tt
paces_short A (Some m) shape asked whole first taken pending ns i le some p =
    p ∙ ap (listed (course_of m shape asked) first taken (reverse pending)) (drop_all i ns le)
    ∙ still_waits (course_of m shape asked) first taken (reverse pending) (λ e. let none : nat_eq (length pending) 0 ≡ true = ap (λ ss. nat_eq (length ss) 0) (length_turned pending e) in let no : ⊥ = cc in no)

-- each position has few black nodes above it
abbrev pub AreFew : ℕ → List RbSpot → Type 0
AreFew n [] = ⊤
AreFew n (s ∷ ss) = (s.black ≤ n) × AreFew n ss

few_more : (n : ℕ) (ss : List RbSpot) → AreFew n ss → AreFew (n + 1) ss
few_more n [] h = tt
few_more n (s ∷ ss) h = let le = h.0 in (omega (arith, le), few_more n ss h.1)

few_both : (n : ℕ) (xs ys : List RbSpot) → AreFew n xs → AreFew n ys → AreFew n (xs ++ ys)
few_both n [] ys h k = k
few_both n (x ∷ xs) ys h k = (h.0, few_both n xs ys h.1 k)

few_parts : (n : ℕ) (xs ys : List RbSpot) → AreFew n (xs ++ ys) → AreFew n xs × AreFew n ys
few_parts n [] ys h = (tt, h)
few_parts n (x ∷ xs) ys h = let p = few_parts n xs ys h.1 in ((h.0, p.0), p.1)

pub few_pop : (n : ℕ) (pending rest : List RbSpot) (s : RbSpot) → pending ≡ rest ++ s ∷ [] → AreFew n pending → AreFew (n + 1) rest × (s.black ≤ n)
few_pop n pending rest s e h = let p = few_parts n rest (s ∷ []) (rw e at h) in (few_more n rest p.0, p.1.0)

blacks_few : (b n : ℕ) (red : Bool) → b ≤ n → (if red then b else b + 1) ≤ n + 1
blacks_few b n true le = omega (arith, le)
blacks_few b n false le = omega (arith, le)

pub few_push : (n : ℕ) (rest next : List RbSpot) (s : RbSpot) (w : RbLinks) (k : Option RbKey) → next ≡ rest ++ right_spot s w k ∷ left_spot s w k ∷ [] → AreFew (n + 1) rest → s.black ≤ n → AreFew (n + 1) next
few_push n rest next s w k e h le = rw e (few_both (n + 1) rest (right_spot s w k ∷ left_spot s w k ∷ []) h (blacks_few s.black n _ le, (blacks_few s.black n _ le, tt)))

-- the nodes from left to right
abbrev pub Turns : List ℕ → List ℕ → List ℕ → List ℕ → Type 0
Turns whole nodes above rest = turn [] whole ≡ nodes ++ turn (reverse above) rest

pub turns_down : (whole nodes above next : List ℕ) (i n : ℕ) → slice_get whole i ≡ Some n → nat_eq n 0 ≡ false → next ≡ above ++ n ∷ [] → Turns whole nodes above (drop i whole) → Turns whole nodes next (drop (i + 1) whole)
turns_down whole nodes above next i n is inner to t =
    t ∙ ap (λ xs. nodes ++ turn (reverse above) xs) (drop_at whole i n is) ∙ ap (λ xs. nodes ++ xs) (if_inner (nat_eq n 0) (popped (reverse above) (λ ms. turn ms (drop (i + 1) whole))) (turn (n ∷ reverse above) (drop (i + 1) whole)) inner)
    ∙ ap (λ ms. nodes ++ turn ms (drop (i + 1) whole)) (sym (ap reverse to ∙ reverse-append above (n ∷ [])))

pub turns_out : (whole nodes above : List ℕ) (i n : ℕ) → slice_get whole i ≡ Some n → nat_eq n 0 ≡ true → above ≡ [] → Turns whole nodes above (drop i whole) → nodes ≡ turn [] whole
turns_out whole nodes above i n is null none t =
    sym (t ∙ ap (λ xs. nodes ++ turn (reverse above) xs) (drop_at whole i n is) ∙ ap (λ xs. nodes ++ xs) (if_null (nat_eq n 0) (popped (reverse above) (λ ms. turn ms (drop (i + 1) whole))) (turn (n ∷ reverse above) (drop (i + 1) whole)) null)
    ∙ ap (λ ms. nodes ++ popped (reverse ms) (λ ks. turn ks (drop (i + 1) whole))) none ∙ append-nil nodes)

pub turns_up : (whole nodes more above rest : List ℕ) (i n m : ℕ) → slice_get whole i ≡ Some n → nat_eq n 0 ≡ true → above ≡ rest ++ m ∷ [] → more ≡ nodes ++ m ∷ [] → Turns whole nodes above (drop i whole) → Turns whole more rest (drop (i + 1) whole)
turns_up whole nodes more above rest i n m is null e to t =
    t ∙ ap (λ xs. nodes ++ turn (reverse above) xs) (drop_at whole i n is) ∙ ap (λ xs. nodes ++ xs) (if_null (nat_eq n 0) (popped (reverse above) (λ ms. turn ms (drop (i + 1) whole))) (turn (n ∷ reverse above) (drop (i + 1) whole)) null)
    ∙ ap (λ ms. nodes ++ popped ms (λ ks. turn ks (drop (i + 1) whole))) (ap reverse e ∙ reverse-append rest (m ∷ [])) ∙ sym (append_assoc nodes (m ∷ []) (turn (reverse rest) (drop (i + 1) whole))) ∙ ap (λ xs. xs ++ turn (reverse rest) (drop (i + 1) whole)) (sym to)

turn_none : (above : List ℕ) → turn above [] ≡ []
turn_none above = refl

pub turns_end : (whole nodes above : List ℕ) (i : ℕ) → length whole ≤ i → Turns whole nodes above (drop i whole) → nodes ≡ turn [] whole
turns_end whole nodes above i le t = sym (t ∙ ap (λ xs. nodes ++ turn (reverse above) xs) (drop_all i whole le) ∙ append-nil nodes)

-- the whole tree
abbrev pub asked_at : ℕ → Asked
asked_at start = record { audit = 0; start = start }

headed_not : (p : Result (List ℕ) Violation) (there : Result RbHead Stopped) (go : List ℕ → RbHead → Bool) (v : Violation) → p ≡ Err v → headed p there go ≡ false
headed_not (Ok t) there go v e = absurd (cc)
headed_not (Err w) there go v e = refl

headed_at : (p : Result (List ℕ) Violation) (there : Result RbHead Stopped) (go : List ℕ → RbHead → Bool) (taken : List ℕ) (h : RbHead) → p ≡ Ok taken → there ≡ Ok h → headed p there go ≡ go taken h
headed_at (Ok t) (Ok x) go taken h a b = let y : t ≡ taken = cc in let z : x ≡ h = cc in rw (y, z) refl
headed_at (Ok t) (Err m) go taken h a b = absurd (cc)
headed_at (Err v) there go taken h a b = absurd (cc)

pub head_halts : (A B : Type 0) (image : Option Image) (shape : RbShape) (start : ℕ) (ns none after : List ℕ) (stop : WalkStop) (halt : TestStop) → none ≡ [] → halt ≡ test_stop_of stop → TakesAs {A = B} (λ i. head_site (course_of i shape (asked_at start))) none after image (Err stop) → TellsAs {A = A} (λ i. is_tree i shape start ns) image (Err halt)
unfolding is_tree
head_halts A B None shape start ns none after stop halt e to t = tt
head_halts A B (Some i) shape start ns none after (ends.Broken v) halt e to t = rw to (headed_not (passed [] (head_site (course_of i shape (asked_at start)))) (head_at (course_of i shape (asked_at start))) _ v (rw e at t))
head_halts A B (Some i) shape start ns none after ends.Fault halt e to t = rw to tt
head_halts A B (Some i) shape start ns none after ends.NoMemory halt e to t = rw to tt

-- what is left to test behind the head
abbrev pub Headed : Option Image → RbShape → ℕ → List ℕ → List ℕ → RbHead → Type 0
Headed image shape start ns taken h = IfSome image (λ i. is_tree i shape start ns ≡ (listed (course_of i shape (asked_at start)) None taken (root_spot h.root ∷ []) ns && is_first h.leftmost (turn [] ns)))

pub head_goes : {B : Type 0} (image : Option Image) (shape : RbShape) (start : ℕ) (ns none taken : List ℕ) (h : RbHead) (u : B) → none ≡ [] → TakesAs (λ i. head_site (course_of i shape (asked_at start))) none taken image (Ok u) → IfSome image (λ i. head_of (vword i) shape start ≡ Ok h) → Headed image shape start ns taken h
unfolding is_tree
head_goes None shape start ns none taken h u e t there = tt
head_goes (Some i) shape start ns none taken h u e t there = headed_at (passed [] (head_site (course_of i shape (asked_at start)))) (head_at (course_of i shape (asked_at start))) _ taken h (rw e at t) there

pub numbers_halt : (A B : Type 0) (image : Option Image) (shape : RbShape) (start : ℕ) (ns taken : List ℕ) (h : RbHead) (halt : TestStop) → Headed image shape start ns taken h → TellsAs {A = B} (λ i. listed (course_of i shape (asked_at start)) None taken (root_spot h.root ∷ []) ns) image (Err halt) →
    TellsAs {A = A} (λ i. is_tree i shape start ns) image (Err halt)
numbers_halt A B None shape start ns taken h halt is e = tt
numbers_halt A B (Some i) shape start ns taken h halts.Unfit is e = is ∙ and_left _ (is_first h.leftmost (turn [] ns)) e
numbers_halt A B (Some i) shape start ns taken h halts.Fault is e = tt
numbers_halt A B (Some i) shape start ns taken h halts.NoMemory is e = tt

pub first_told : {B : Type 0} (image : Option Image) (shape : RbShape) (start : ℕ) (ns taken : List ℕ) (h : RbHead) (u : B) (b : Bool) → Headed image shape start ns taken h → TellsAs (λ i. listed (course_of i shape (asked_at start)) None taken (root_spot h.root ∷ []) ns) image (Ok u) → b ≡ is_first h.leftmost (turn [] ns) →
    IfSome image (λ i. is_tree i shape start ns ≡ b)
first_told None shape start ns taken h u b is e f = tt
first_told (Some i) shape start ns taken h u b is e f = is ∙ and_right _ (is_first h.leftmost (turn [] ns)) e ∙ sym f

pub told_true : {A : Type 0} (image : Option Image) (test : Image → Bool) (b : Bool) (u : A) → IfSome image (λ i. test i ≡ b) → b ≡ true → TellsAs test image (Ok u)
told_true None test b u is e = tt
told_true (Some i) test b u is e = is ∙ e

pub told_false : (A : Type 0) (image : Option Image) (test : Image → Bool) (b : Bool) → IfSome image (λ i. test i ≡ b) → b ≡ false → TellsAs {A = A} test image (Err halts.Unfit)
told_false A None test b is e = tt
told_false A (Some i) test b is e = is ∙ e
