-- The pointers of a finite xarray are those among its entries.
use Rattle.std.proofs.Common.{◌≡◌, ℕ, ◌+◌, ◌/◌, ◌%◌, ◌≤◌, nat_eq, nat_lt, Bool, true, false, ◌&&◌, List, [], ◌∷◌, ◌++◌, length, refl, sym, ◌∙◌, ap, arith}
use Rattle.std.specs.Prelude.{nat_le, not, if◌then◌else◌}
use Rattle.kc_memory.specs.declared.words.VWord.{VWord}
use Rattle.kc_found.specs.declared.xarrays.XaEntry.TheVariants.{Nothing, Pointer, Odd, Node, Zero, Sibling, Bad}
use Rattle.kc_found.specs.declared.xarrays.XaItem.{XaItem}
use Rattle.kc_found.specs.declared.xarrays.XaNode.{XaNode}
use Rattle.kc_found.specs.FiniteXarrays.{Bare, Down, End, IsTop, IsTree, Leaf, Root, Top, Tree, item_of, items, top_items}
use Rattle.kc_found.specs.XaEntries.{kind}
use Rattle.kc_found.specs.XaNodes.{XaCourse}
use Rattle.kc_found.specs.XaSites.{index_of, xa_node}
use Rattle.kc_xa.specs.Listed.Entries.{entries, is_pointer, pointers, top_entries}
use Rattle.kc_xa.specs.Listed.Laws.{PointersAreFew, met_pointers}

pointers_first : (b : Bool) (n : ℕ) (ns : List ℕ) → (if b then n ∷ pointers ns else pointers ns) ≡ (if b then n ∷ [] else []) ++ pointers ns
pointers_first true n ns = refl
pointers_first false n ns = refl

first_append : (b : Bool) (n : ℕ) (xs ys : List ℕ) → (if b then n ∷ xs else xs) ++ ys ≡ (if b then n ∷ (xs ++ ys) else (xs ++ ys))
first_append true n xs ys = refl
first_append false n xs ys = refl

pointers_append : (xs ys : List ℕ) → pointers (xs ++ ys) ≡ pointers xs ++ pointers ys
pointers_append [] ys = refl
pointers_append (x ∷ xs) ys = ap (λ zs. if is_pointer x then x ∷ zs else zs) (pointers_append xs ys) ∙ sym (first_append (is_pointer x) x (pointers xs) (pointers ys))

met_append : (xs ys : List XaItem) → met_pointers (xs ++ ys) ≡ met_pointers xs ++ met_pointers ys
met_append [] ys = refl
met_append (x ∷ xs) ys = ap (λ zs. x.entry ∷ zs) (met_append xs ys)

-- what an entry is, test by test
by_tests : (a b d e f g : Bool) (v index : ℕ) (w : VWord) →
    met_pointers (item_of (if a then Nothing else (if b then Pointer else (if d then Odd else (if e then Node else (if f then Zero else (if g then Sibling v else Bad)))))) index w) ≡ (if not a && b then w.value ∷ [] else [])
by_tests true b d e f g v index w = refl
by_tests false true d e f g v index w = refl
by_tests false false true e f g v index w = refl
by_tests false false false true f g v index w = refl
by_tests false false false false true g v index w = refl
by_tests false false false false false true v index w = refl
by_tests false false false false false false v index w = refl

entry_pointers : (chunk index : ℕ) (w : VWord) → met_pointers (item_of (kind chunk w.value) index w) ≡ (if is_pointer w.value then w.value ∷ [] else [])
unfolding kind
entry_pointers chunk index w =
    by_tests (nat_eq w.value 0) (nat_eq (w.value % 4) 0) (nat_eq (w.value % 2) 1) (nat_lt 4096 w.value && nat_lt w.value 0xffffffffffffc006) (nat_eq (w.value / 4) 257) (nat_le (w.value / 4 + 2) chunk) (w.value / 4) index w

-- one entry, and those after it
first_pointers : (chunk index : ℕ) (w : VWord) (ns : List ℕ) → pointers (w.value ∷ ns) ≡ met_pointers (item_of (kind chunk w.value) index w) ++ pointers ns
first_pointers chunk index w ns = pointers_first (is_pointer w.value) w.value ns ∙ ap (λ xs. xs ++ pointers ns) (sym (entry_pointers chunk index w))

node_pointers : (chunk : ℕ) (w : VWord) (ns : List ℕ) → kind chunk w.value ≡ Node → pointers (w.value ∷ ns) ≡ pointers ns
node_pointers chunk w ns e = first_pointers chunk 0 w ns ∙ ap (λ k. met_pointers (item_of k 0 w) ++ pointers ns) e

tree_pointers : (c : XaCourse) (o : XaNode) (i : ℕ) (ws : List VWord) (t : Tree) → IsTree c o i ws t → met_pointers (items c o i ws t) ≡ pointers (entries ws t)
tree_pointers c o i [] End h = refl
tree_pointers c o i (w ∷ ws) End h = absurd h
tree_pointers c o i [] (Leaf t) h = absurd h
tree_pointers c o i (w ∷ ws) (Leaf t) h =
    met_append (item_of (kind c.shape.chunk w.value) (index_of o i) w) (items c o (i + 1) ws t) ∙ ap (λ xs. met_pointers (item_of (kind c.shape.chunk w.value) (index_of o i) w) ++ xs) (tree_pointers c o (i + 1) ws t h.2)
    ∙ sym (first_pointers c.shape.chunk (index_of o i) w (entries ws t))
tree_pointers c o i [] (Down n b t) h = absurd h
tree_pointers c o i (w ∷ ws) (Down n b t) h =
    let under = items c (xa_node c.shape w (index_of o i) n) 0 n.slots b in
    met_append under (items c o (i + 1) ws t) ∙ ap (λ xs. xs ++ met_pointers (items c o (i + 1) ws t)) (tree_pointers c (xa_node c.shape w (index_of o i) n) 0 n.slots b h.4)
    ∙ ap (λ xs. pointers (entries n.slots b) ++ xs) (tree_pointers c o (i + 1) ws t h.5)
    ∙ sym (node_pointers c.shape.chunk w (entries n.slots b ++ entries ws t) h.0 ∙ pointers_append (entries n.slots b) (entries ws t))

bare_pointers : (chunk : ℕ) (h : VWord) → met_pointers (item_of (kind chunk h.value) 0 h) ≡ pointers (h.value ∷ [])
bare_pointers chunk h = entry_pointers chunk 0 h

pub top_pointers : (c : XaCourse) (h : VWord) (t : Top) → IsTop c h t → met_pointers (top_items c h t) ≡ pointers (top_entries h t)
top_pointers c h Bare is = bare_pointers c.shape.chunk h
top_pointers c h (Root n t) is = tree_pointers c (xa_node c.shape h 0 n) 0 n.slots t is.3 ∙ sym (node_pointers c.shape.chunk h (entries n.slots t) is.0)

few_more : (b : Bool) (n : ℕ) (ns : List ℕ) → length (pointers ns) ≤ length ns → length (if b then n ∷ pointers ns else pointers ns) ≤ length (n ∷ ns)
few_more true n ns le = omega (arith, le)
few_more false n ns le = omega (arith, le)

pub pointers_few : PointersAreFew
pointers_few [] = omega arith
pointers_few (n ∷ ns) = few_more (is_pointer n) n ns (pointers_few ns)
