-- The law of xarrays, by their pointers alone and whichever audit asks.
use Rattle.std.proofs.Common.{◌≡◌, ℕ, suc, zero, ◌+◌, List, [], ◌∷◌, ◌++◌, take, slice_get, Some, refl, ◌∙◌, ap, add-one}
use Rattle.std.specs.Prelude.{Result, Ok, Err}
use Rattle.kc_memory.specs.declared.words.VWord.{VWord}
use Rattle.kc_memory.specs.Image.{Image}
use Rattle.kc_memory.specs.Places.{AllStandIn}
use Rattle.kc_memory.specs.Translation.{vword}
use Rattle.kc_found.specs.declared.xarrays.XaItem.{XaItem}
use Rattle.kc_found.specs.declared.xarrays.XaNode.{XaNode}
use Rattle.kc_found.specs.FiniteXarrays.{IsTop, IsTree, Top, Bare, Root, Tree, End, Leaf, Down, XArray, item_of, items, top_items}
use Rattle.kc_found.specs.Trials.{Reader}
use Rattle.kc_found.specs.Violations.{Violation}
use Rattle.kc_found.specs.XaEntries.{kind}
use Rattle.kc_found.specs.XaLayouts.{XaLayout}
use Rattle.kc_found.specs.XaNodes.{XaCourse}
use Rattle.kc_found.specs.XaSites.{index_of, xa_judged, xa_node}
use Rattle.kc_found.specs.XaSites.{entries, entries_in}
use Rattle.kc_found.specs.FiniteXarrays.{XArrayOf}
use Rattle.kc_xa.specs.Laws.{XarraysAreWalked, XarrayPlacesStand}

-- one pointer more
entry_next : (xs : List XaItem) (i : ℕ) (x : XaItem) → slice_get xs i ≡ Some x → entries (take (suc i) xs) ≡ entries (take i xs) ++ x.entry ∷ []
entry_next [] i x is = absurd (let none : ⊥ = cc in none)
entry_next (y ∷ ys) zero x is = let same : y ≡ x = cc in ap (λ (z : XaItem). z.entry ∷ []) same
entry_next (y ∷ ys) (suc i) x is = ap (λ es. y.entry ∷ es) (entry_next ys i x is)

pub entry_added : (xs : List XaItem) (i : ℕ) (x : XaItem) → slice_get xs i ≡ Some x → entries (take (i + 1) xs) ≡ entries (take i xs) ++ x.entry ∷ []
entry_added xs i x is = rw add-one (entry_next xs i x is)

abbrev course : Reader → XaLayout → ℕ → ℕ → XaCourse
course read shape start audit = record { read = read; shape = shape; asked = record { audit = audit; start = start } }

tree_asked : (read : Reader) (shape : XaLayout) (start a b : ℕ) (o : XaNode) (i : ℕ) (ws : List VWord) (t : Tree) → IsTree (course read shape start a) o i ws t → IsTree (course read shape start b) o i ws t
tree_asked read shape start a b o i [] End is = tt
tree_asked read shape start a b o i (w ∷ ws) End is = absurd is
tree_asked read shape start a b o i [] (Leaf t) is = absurd is
tree_asked read shape start a b o i (w ∷ ws) (Leaf t) is = (is.0, is.1, tree_asked read shape start a b o (i + 1) ws t is.2)
tree_asked read shape start a b o i [] (Down n under t) is = absurd is
tree_asked read shape start a b o i (w ∷ ws) (Down n under t) is =
    (is.0, is.1, is.2, is.3, tree_asked read shape start a b (xa_node shape w (index_of o i) n) 0 n.slots under is.4, tree_asked read shape start a b o (i + 1) ws t is.5)

items_asked : (read : Reader) (shape : XaLayout) (start a b : ℕ) (o : XaNode) (i : ℕ) (ws : List VWord) (t : Tree) → items (course read shape start b) o i ws t ≡ items (course read shape start a) o i ws t
items_asked read shape start a b o i [] End = refl
items_asked read shape start a b o i (w ∷ ws) End = refl
items_asked read shape start a b o i [] (Leaf t) = refl
items_asked read shape start a b o i (w ∷ ws) (Leaf t) = ap (λ xs. item_of (kind shape.chunk w.value) (index_of o i) w ++ xs) (items_asked read shape start a b o (i + 1) ws t)
items_asked read shape start a b o i [] (Down n under t) = refl
items_asked read shape start a b o i (w ∷ ws) (Down n under t) =
    ap (λ xs. xs ++ items (course read shape start b) o (i + 1) ws t) (items_asked read shape start a b (xa_node shape w (index_of o i) n) 0 n.slots under)
    ∙ ap (λ xs. items (course read shape start a) (xa_node shape w (index_of o i) n) 0 n.slots under ++ xs) (items_asked read shape start a b o (i + 1) ws t)

top_asked : (read : Reader) (shape : XaLayout) (start a b : ℕ) (h : VWord) (top : Top) → IsTop (course read shape start a) h top → IsTop (course read shape start b) h top
top_asked read shape start a b h Bare is = is
top_asked read shape start a b h (Root n t) is = (is.0, is.1, is.2, tree_asked read shape start a b (xa_node shape h 0 n) 0 n.slots t is.3)

top_items_asked : (read : Reader) (shape : XaLayout) (start a b : ℕ) (h : VWord) (top : Top) → top_items (course read shape start b) h top ≡ top_items (course read shape start a) h top
top_items_asked read shape start a b h Bare = refl
top_items_asked read shape start a b h (Root n t) = items_asked read shape start a b (xa_node shape h 0 n) 0 n.slots t

-- an xarray is one whichever audit asks
array_asked : (read : Reader) (shape : XaLayout) (start a b : ℕ) (walked : List XaItem) → XArray (course read shape start a) walked → XArray (course read shape start b) walked
array_asked read shape start a b walked x = record {
  head = x.head;
  read = x.read;
  top = x.top;
  is = top_asked read shape start a b x.head x.top x.is;
  different = x.different;
  order = top_items_asked read shape start a b x.head x.top ∙ x.order;
}

-- an answer's items, by their entries
by_items : (r : Result (List XaItem) Violation) (nodes : List ℕ) → entries_in r ≡ Ok nodes → (walked : List XaItem) × (r ≡ Ok walked) × (entries walked ≡ nodes)
by_items (Ok walked) nodes is = let same : entries walked ≡ nodes = cc in (walked, refl, same)
by_items (Err v) nodes is = let none : ⊥ = cc in absurd none

by_violation : (r : Result (List XaItem) Violation) (v : Violation) → entries_in r ≡ Err v → r ≡ Err v
by_violation (Ok walked) v is = let none : ⊥ = cc in absurd none
by_violation (Err w) v is = let same : w ≡ v = cc in ap Err same

pub array_sound : XarraysAreWalked → (image : Image) (shape : XaLayout) (n start : ℕ) (nodes : List ℕ) → entries_in (xa_judged image shape n start) ≡ Ok nodes → XArrayOf image shape start nodes
array_sound arrays image shape n start nodes is =
    let found = by_items (xa_judged image shape n start) nodes is in
    (found.0, array_asked (vword image) shape start n 0 found.0 ((arrays image shape n start found.0).1 found.1), found.2)

pub array_complete : XarraysAreWalked → (image : Image) (shape : XaLayout) (n start : ℕ) (nodes : List ℕ) → XArrayOf image shape start nodes → entries_in (xa_judged image shape n start) ≡ Ok nodes
array_complete arrays image shape n start nodes holds =
    ap entries_in ((arrays image shape n start holds.0).0 (array_asked (vword image) shape start 0 n holds.0 holds.1)) ∙ ap Ok holds.2

pub array_shows : XarrayPlacesStand → (image : Image) (shape : XaLayout) (n start : ℕ) (v : Violation) → entries_in (xa_judged image shape n start) ≡ Err v → AllStandIn image v.places
array_shows stand image shape n start v is = stand image shape n start v (by_violation (xa_judged image shape n start) v is)
