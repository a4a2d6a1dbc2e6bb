-- Pointers that are gathered with their indexes as positions are passed, where the memory is told or not.
use Rattle.std.proofs.Common.{◌≡◌, ℕ, ◌+◌, ◌≤◌, Bool, true, false, List, [], ◌∷◌, ◌++◌, length, drop, slice_get, Option, Some, None, refl, sym, ◌∙◌, ap, append_assoc, append-nil}
use Rattle.std.specs.Prelude.{Result, Ok, Err, IfOk, IfSome, OnOk, reverse}
use Rattle.std.proofs.lemmas.Bool.{cond-false, cond-true}
use Rattle.std.proofs.lemmas.List.{drop_all}
use Rattle.kc_memory.specs.declared.words.VWord.{VWord}
use Rattle.kc_memory.specs.Image.{Image}
use Rattle.kc_memory.specs.Translation.{vword}
use Rattle.kc_found.specs.declared.asked.Asked.{Asked}
use Rattle.kc_found.specs.declared.xarrays.XaItem.{XaItem}
use Rattle.kc_found.specs.declared.xarrays.XaNode.{XaNode}
use Rattle.kc_found.specs.declared.xarrays.XaWords.{XaWords}
use Rattle.kc_found.specs.Nodes.{at_offset}
use Rattle.kc_found.specs.Violations.{Violation}
use Rattle.kc_found.specs.Walks.{WalksAs}
use Rattle.kc_found.specs.XaEntries.{kind}
use Rattle.kc_found.specs.XaLayouts.{XaLayout}
use Rattle.kc_found.specs.XaNodes.{XaCourse, behind_entry}
use Rattle.kc_found.specs.XaSites.{words_behind, xa_course}
use Rattle.kc_found.specs.declared.test.TestStop.{TestStop}
use Rattle.kc_found.specs.declared.test.TestStop.TheVariants as halts
use Rattle.kc_found.specs.Tests.{TellsAs}
use Rattle.kc_xa.specs.Steps.{IsOpened}
use Rattle.kc_xa.specs.declared.listed.spots.XaSpot.{XaSpot}
use Rattle.kc_xa.specs.Listed.Entries.{head_spot, headed_items, is_node, item_at, items_at, items_in, slot_spots, spots_behind, spots_below, spots_next}
use Rattle.kc_xa.proofs.ListedLemmas.Tracing.{asked_at, drop_at, last_first, slots_first}

-- the positions after one
pub leaf_spots : (image : Option Image) (shape : XaLayout) (asked : Asked) (s : XaSpot) (pending : List XaSpot) → is_node (kind shape.chunk s.word.value) ≡ false →
    IfSome image (λ i. reverse pending ≡ spots_next (xa_course i shape asked) s ++ reverse pending)
leaf_spots None shape asked s pending leaf = tt
leaf_spots (Some i) shape asked s pending leaf = ap (λ xs. xs ++ reverse pending) (sym (cond-false (is_node (kind shape.chunk s.word.value)) _ _ leaf))

opened_spots : (c : XaCourse) (s : XaSpot) (there : Result XaWords Violation) (o : XaNode) → IsOpened c.shape s.word s.index there o → spots_behind there (spots_below c s) ≡ slot_spots c.shape.chunk o 0 o.slots
opened_spots c s (Ok n) o is = ap (λ (x : XaNode). slot_spots c.shape.chunk x 0 x.slots) (sym is)
opened_spots c s (Err v) o is = absurd is

pub node_spots : {A : Type 0} (image : Option Image) (shape : XaLayout) (asked : Asked) (s : XaSpot) (pending next : List XaSpot) (o : XaNode) (r : Result A TestStop) → is_node (kind shape.chunk s.word.value) ≡ true →
    IfSome image (λ i. IsOpened shape s.word s.index (words_behind (xa_course i shape asked) s.word) o) → OnOk r (next ≡ pending ++ reverse (slot_spots shape.chunk o 0 o.slots)) →
    OnOk r (IfSome image (λ i. reverse next ≡ spots_next (xa_course i shape asked) s ++ reverse pending))
node_spots image shape asked s pending next o (Err halt) node is to = tt
node_spots None shape asked s pending next o (Ok u) node is to = tt
node_spots (Some i) shape asked s pending next o (Ok u) node is to =
    let c = xa_course i shape asked in
    slots_first pending next (slot_spots shape.chunk o 0 o.slots) to
    ∙ ap (λ xs. xs ++ reverse pending) (sym (cond-true (is_node (kind shape.chunk s.word.value)) _ _ node ∙ opened_spots c s (words_behind c s.word) o is))

-- the head's position
pub head_gathers : {A : Type 0} (image : Option Image) (shape : XaLayout) (start : ℕ) (pending next : List XaSpot) (h : VWord) (s : XaSpot) (r : Result A TestStop) → pending ≡ [] →
    WalksAs (λ (w : VWord). w) (λ i. behind_entry (vword i) (asked_at start) None (at_offset start shape.head)) image (Ok h) → s ≡ head_spot shape.chunk h → OnOk r (next ≡ pending ++ s ∷ []) →
    OnOk r (IfSome image (λ i. (ns : List ℕ) → items_in i shape start ns ≡ items_at (xa_course i shape (asked_at start)) (reverse next) ns))
unfolding items_in
head_gathers image shape start pending next h s (Err halt) empty e spot to = tt
head_gathers None shape start pending next h s (Ok u) empty e spot to = tt
head_gathers (Some i) shape start pending next h s (Ok u) empty e spot to =
    let c = xa_course i shape (asked_at start) in
    let spots : next ≡ head_spot shape.chunk h ∷ [] = to ∙ ap (λ ss. ss ++ s ∷ []) empty ∙ ap (λ x. x ∷ []) spot in
    λ ns. ap (λ r. headed_items c r ns) e ∙ ap (λ ss. items_at c (reverse ss) ns) (sym spots)

-- what is gathered, of all pointers at positions
abbrev pub Whole : XaLayout → Asked → List XaSpot → List ℕ → Image → List XaItem
Whole shape asked pending ns i = items_at (xa_course i shape asked) (reverse pending) ns

abbrev pub Gathers : Option Image → XaLayout → Asked → (Image → List XaItem) → List XaSpot → List ℕ → List XaItem → Type 0
Gathers image shape asked whole pending ns items = IfSome image (λ i. whole i ≡ items ++ items_at (xa_course i shape asked) (reverse pending) ns)

pub gathers_from : (image : Option Image) (shape : XaLayout) (asked : Asked) (pending : List XaSpot) (ns : List ℕ) (items : List XaItem) → items ≡ [] → Gathers image shape asked (Whole shape asked pending ns) pending ns items
gathers_from None shape asked pending ns items none = tt
gathers_from (Some i) shape asked pending ns items none = ap (λ xs. xs ++ items_at (xa_course i shape asked) (reverse pending) ns) (sym none)

pub gathers_on : (image : Option Image) (shape : XaLayout) (asked : Asked) (whole : Image → List XaItem) (pending rest next : List XaSpot) (s : XaSpot) (ns : List ℕ) (i n : ℕ) (items more : List XaItem) → slice_get ns i ≡ Some n → pending ≡ rest ++ s ∷ [] →
    more ≡ items ++ item_at shape.chunk s → IfSome image (λ m. reverse next ≡ spots_next (xa_course m shape asked) s ++ reverse rest) → Gathers image shape asked whole pending (drop i ns) items → Gathers image shape asked whole next (drop (i + 1) ns) more
gathers_on None shape asked whole pending rest next s ns i n items more is e to spots g = tt
gathers_on (Some m) shape asked whole pending rest next s ns i n items more is e to spots g =
    let c = xa_course m shape asked in
    let left = drop (i + 1) ns in
    g ∙ ap (λ ss. items ++ items_at c ss (drop i ns)) (ap reverse e ∙ last_first rest s) ∙ ap (λ ms. items ++ items_at c (s ∷ reverse rest) ms) (drop_at ns i n is)
    ∙ sym (append_assoc items (item_at shape.chunk s) (items_at c (spots_next c s ++ reverse rest) left))
    ∙ ap (λ xs. xs ++ items_at c (spots_next c s ++ reverse rest) left) (sym to) ∙ ap (λ ss. more ++ items_at c ss left) (sym spots)

no_more : (c : XaCourse) (ss : List XaSpot) → items_at c ss [] ≡ []
no_more c [] = refl
no_more c (s ∷ ss) = refl

pub gathers_out : (image : Option Image) (shape : XaLayout) (asked : Asked) (whole : Image → List XaItem) (pending : List XaSpot) (ns : List ℕ) (i : ℕ) (items : List XaItem) → length ns ≤ i → Gathers image shape asked whole pending (drop i ns) items → IfSome image (λ m. items ≡ whole m)
gathers_out None shape asked whole pending ns i items le g = tt
gathers_out (Some m) shape asked whole pending ns i items le g =
    let c = xa_course m shape asked in
    sym (g ∙ ap (λ ms. items ++ items_at c (reverse pending) ms) (drop_all i ns le) ∙ ap (λ xs. items ++ xs) (no_more c (reverse pending)) ∙ append-nil items)

-- all that follows the head
pub gathers_through : (image : Option Image) (before : Image → List ℕ → List XaItem) (after : Image → List ℕ → List XaItem) (ns : List ℕ) (r : Result (List XaItem) TestStop) → IfSome image (λ i. (ms : List ℕ) → before i ms ≡ after i ms) →
    IfOk r (λ items. IfSome image (λ i. items ≡ after i ns)) → IfOk r (λ items. IfSome image (λ i. items ≡ before i ns))
gathers_through image before after ns (Err halt) same e = tt
gathers_through None before after ns (Ok items) same e = tt
gathers_through (Some i) before after ns (Ok items) same e = e ∙ sym (same ns)

-- a test ends for want of memory
pub memory_tells : (A : Type 0) {I : Type 0} (test : I → Bool) (image : Option I) (halt : TestStop) → halt ≡ halts.NoMemory → TellsAs {A = A} test image (Err halt)
memory_tells A test None halt e = tt
memory_tells A test (Some i) halt e = rw e tt
