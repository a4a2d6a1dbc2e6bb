-- Numbers that are collected along the pointers of a tree.
use Rattle.std.proofs.Common.{◌≡◌, ℕ, suc, ◌+◌, ◌*◌, ◌≤◌, nat_eq, Bool, true, false, List, [], ◌∷◌, ◌++◌, length, Option, Some, None, refl, sym, ◌∙◌, ap, subst, arith, eq-eqb, append_assoc, append-nil, length-append}
use Rattle.std.specs.Prelude.{Result, Ok, Err, reverse, IfSome, ⊤, ℤ}
use Rattle.std.proofs.lemmas.List.{reverse-append}
use Rattle.std.proofs.lemmas.Bool.{eqb-true}
use Rattle.kc_memory.specs.declared.words.VWord.{VWord}
use Rattle.kc_memory.specs.Image.{Image}
use Rattle.kc_memory.specs.Stopped.{Stopped}
use Rattle.kc_memory.specs.Translation.{vword}
use Rattle.kc_found.specs.declared.shapes.RbShape.{RbShape}
use Rattle.kc_found.specs.declared.trees.RbHead.{RbHead}
use Rattle.kc_found.specs.declared.trees.RbLinks.{RbLinks}
use Rattle.kc_found.specs.Nodes.{at_offset}
use Rattle.kc_found.specs.RbFinite.{IsRb, RbTree, Tree, Leaf, Node, inorder}
use Rattle.kc_found.specs.RbTrees.{Reads, bound_of, is_red, leftmost_of, links_of, reads_of}
use Rattle.kc_found.specs.Trials.{Reader, and_then}
use Rattle.kc_found.specs.declared.test.TestStop.{TestStop}
use Rattle.kc_found.specs.declared.test.TestStop.TheVariants as halts
use Rattle.kc_rb.specs.Listed.Collected.{Collected, CollectsTree, Leads, ReadsAs}
use Rattle.kc_rb.specs.Listed.Laws.{TreesPass}
use Rattle.kc_found.specs.declared.trees.RbKey.{RbKey}
use Rattle.kc_rb.specs.Listed.Trees.{is_tree, pre}

abbrev pub pres : List Tree → List ℕ
pres [] = []
pres (t ∷ ts) = pre t ++ pres ts

abbrev pub AllLead : Reader → RbShape → List ℕ → List Tree → Type 0
AllLead read shape [] [] = ⊤
AllLead read shape [] (t ∷ ts) = ⊥
AllLead read shape (a ∷ bs) [] = ⊥
AllLead read shape (a ∷ bs) (t ∷ ts) = Leads read shape t a × AllLead read shape bs ts

-- the numbers so far, and those of the trees that wait
abbrev pub Collects : Option Image → RbShape → ℕ → List ℕ → List ℕ → Type 0
Collects image shape root ns pending = IfSome image (λ i. (t : Tree) → Leads (vword i) shape t root → (ts : List Tree) × AllLead (vword i) shape (reverse pending) ts × (pre t ≡ ns ++ pres ts))

pub begins : (image : Option Image) (shape : RbShape) (root : ℕ) (ns pending : List ℕ) → ns ≡ [] → pending ≡ root ∷ [] → Collects image shape root ns pending
begins None shape root ns pending e p = tt
begins (Some i) shape root ns pending e p = λ t l. (t ∷ [], subst (λ bs. AllLead (vword i) shape (reverse bs) (t ∷ [])) (sym p) (l, tt), sym (append-nil (pre t)) ∙ ap (λ xs. xs ++ (pre t ++ [])) (sym e))

-- what the words of a node are
links_are : (read : Reader) (shape : RbShape) (a : ℕ) (w : RbLinks) (p r l : Result VWord Stopped) → and_then p (λ x. and_then r (λ y. and_then l (λ z. Ok (record { parent = x; right = y; left = z })))) ≡ Ok w → (r ≡ Ok w.right) × (l ≡ Ok w.left)
links_are read shape a w (Ok x) (Ok y) (Ok z) e =
    let both : RbLinks = record { parent = x; right = y; left = z } in
    let same : both ≡ w = cc in
    (ap (λ (n : RbLinks). Ok n.right) same, ap (λ (n : RbLinks). Ok n.left) same)
links_are read shape a w (Ok x) (Ok y) (Err s) e = let none : ⊥ = cc in absurd none
links_are read shape a w (Ok x) (Err s) l e = let none : ⊥ = cc in absurd none
links_are read shape a w (Err s) r l e = let none : ⊥ = cc in absurd none

right_left : (read : Reader) (shape : RbShape) (a : ℕ) (w : RbLinks) → links_of read shape a ≡ Ok w → (read (at_offset a shape.right) ≡ Ok w.right) × (read (at_offset a shape.left) ≡ Ok w.left)
right_left read shape a w e = links_are read shape a w (read (at_offset a shape.parent_color)) (read (at_offset a shape.right)) (read (at_offset a shape.left)) e

-- the tree at the pointer that is taken
record Topped (read : Reader) (shape : RbShape) (a : ℕ) (rest : List ℕ) (whole : List ℕ) (ns : List ℕ) : Type 0 where
  top : Tree
  others : List Tree
  leads : Leads read shape top a
  wait : AllLead read shape (reverse rest) others
  all : whole ≡ ns ++ (pre top ++ pres others)

topped : (read : Reader) (shape : RbShape) (a : ℕ) (rest pending whole ns : List ℕ) (ts : List Tree) → pending ≡ rest ++ a ∷ [] → AllLead read shape (reverse pending) ts → whole ≡ ns ++ pres ts → Topped read shape a rest whole ns
topped read shape a rest pending whole ns ts p l e = by_list ts (subst (λ bs. AllLead read shape bs ts) (ap reverse p ∙ reverse-append rest (a ∷ [])) l) e
  where
    by_list : (ts : List Tree) → AllLead read shape (a ∷ reverse rest) ts → whole ≡ ns ++ pres ts → Topped read shape a rest whole ns
    by_list [] l e = absurd l
    by_list (t ∷ ts) l e = record { top = t; others = ts; leads = l.0; wait = l.1; all = e }

-- a null
null_on : (read : Reader) (shape : RbShape) (a : ℕ) (t : Tree) → Leads read shape t a → nat_eq a 0 ≡ true → pre t ≡ a ∷ []
null_on read shape a Leaf l e = ap (λ x. x ∷ []) (sym l)
null_on read shape a (Node n x y) l e = let none : ⊥ = let f = l.1 in cc in absurd none

pub nulls_on : (image : Option Image) (shape : RbShape) (root a : ℕ) (ns more pending rest : List ℕ) → pending ≡ rest ++ a ∷ [] → nat_eq a 0 ≡ true → more ≡ ns ++ a ∷ [] → Collects image shape root ns pending → Collects image shape root more rest
nulls_on None shape root a ns more pending rest p e m c = tt
nulls_on (Some i) shape root a ns more pending rest p e m c = λ t l.
    let o = c t l in
    let d = topped (vword i) shape a rest pending (pre t) ns o.0 p o.1 o.2 in
    (d.others, d.wait, d.all ∙ ap (λ xs. ns ++ (xs ++ pres d.others)) (null_on (vword i) shape a d.top d.leads e) ∙ sym (append_assoc ns (a ∷ []) (pres d.others)) ∙ ap (λ xs. xs ++ pres d.others) (sym m))

-- a node
record Noded (read : Reader) (shape : RbShape) (a : ℕ) (t : Tree) : Type 0 where
  left : Tree
  right : Tree
  links : RbLinks
  there : links_of read shape a ≡ Ok links
  lefts : Leads read shape left links.left.value
  rights : Leads read shape right links.right.value
  is : pre t ≡ a ∷ (pre left ++ pre right)

noded : (read : Reader) (shape : RbShape) (a : ℕ) (t : Tree) → Leads read shape t a → nat_eq a 0 ≡ false → Noded read shape a t
noded read shape a Leaf l e = let none : ⊥ = let f = eq-eqb a 0 l in cc in absurd none
noded read shape a (Node n x y) l e = record { left = x; right = y; links = l.2.0; there = l.2.1; lefts = l.2.2; rights = l.2.3; is = ap (λ m. m ∷ (pre x ++ pre y)) (sym l.0) }

same_word : (r : Result VWord Stopped) (w v : VWord) (a : ℕ) → r ≡ Ok w → r ≡ Ok v → w.value ≡ a → v.value ≡ a
same_word r w v a e f g = let same : w ≡ v = cc in ap (λ (x : VWord). x.value) (sym same) ∙ g

pub nodes_on : (image : Option Image) (shape : RbShape) (root a right left : ℕ) (ns more pending rest next : List ℕ) → pending ≡ rest ++ a ∷ [] → nat_eq a 0 ≡ false → more ≡ ns ++ a ∷ [] → ReadsAs (λ i. vword i (at_offset a shape.right)) image (Ok right) → ReadsAs (λ i. vword i (at_offset a shape.left)) image (Ok left) →
    next ≡ (rest ++ right ∷ []) ++ left ∷ [] → Collects image shape root ns pending → Collects image shape root more next
nodes_on None shape root a right left ns more pending rest next p e m r l to c = tt
nodes_on (Some i) shape root a right left ns more pending rest next p e m r l to c = λ t lead.
    let o = c t lead in
    let d = topped (vword i) shape a rest pending (pre t) ns o.0 p o.1 o.2 in
    let n = noded (vword i) shape a d.top d.leads e in
    let words = right_left (vword i) shape a n.links n.there in
    let is_right : n.links.right.value ≡ right = same_word (vword i (at_offset a shape.right)) r.0 n.links.right right r.1 words.0 r.2 in
    let is_left : n.links.left.value ≡ left = same_word (vword i (at_offset a shape.left)) l.0 n.links.left left l.1 words.1 l.2 in
    let order : reverse next ≡ left ∷ right ∷ reverse rest = ap reverse to ∙ reverse-append (rest ++ right ∷ []) (left ∷ []) ∙ ap (λ xs. left ∷ xs) (reverse-append rest (right ∷ [])) in
    let wait : AllLead (vword i) shape (left ∷ right ∷ reverse rest) (n.left ∷ n.right ∷ d.others) = (subst (Leads (vword i) shape n.left) is_left n.lefts, (subst (Leads (vword i) shape n.right) is_right n.rights, d.wait)) in (
      n.left ∷ n.right ∷ d.others,
      subst (λ bs. AllLead (vword i) shape bs (n.left ∷ n.right ∷ d.others)) (sym order) wait,
      d.all ∙ ap (λ xs. ns ++ (xs ++ pres d.others)) n.is ∙ ap (λ xs. ns ++ (a ∷ xs)) (append_assoc (pre n.left) (pre n.right) (pres d.others))
          ∙ sym (append_assoc ns (a ∷ []) (pre n.left ++ (pre n.right ++ pres d.others))) ∙ ap (λ xs. xs ++ (pre n.left ++ (pre n.right ++ pres d.others))) (sym m),
    )

-- a word that can't be read stands in no tree
no_word : (r : Result VWord Stopped) (w : VWord) (s : Stopped) → r ≡ Ok w → r ≡ Err s → ⊥
no_word r w s e f = cc

pub right_halts : (image : Option Image) (shape : RbShape) (root limit a : ℕ) (ns pending rest : List ℕ) (halt : TestStop) → pending ≡ rest ++ a ∷ [] → nat_eq a 0 ≡ false → ReadsAs (λ i. vword i (at_offset a shape.right)) image (Err halt) → Collects image shape root ns pending → Collected shape root limit image (Err halt)
right_halts None shape root limit a ns pending rest halts.Unfit p e r c = tt
right_halts None shape root limit a ns pending rest halts.Fault p e r c = tt
right_halts None shape root limit a ns pending rest halts.NoMemory p e r c = tt
right_halts (Some i) shape root limit a ns pending rest halts.Fault p e r c = tt
right_halts (Some i) shape root limit a ns pending rest halts.NoMemory p e r c = tt
right_halts (Some i) shape root limit a ns pending rest halts.Unfit p e r c = λ t lead few.
    let o = c t lead in
    let d = topped (vword i) shape a rest pending (pre t) ns o.0 p o.1 o.2 in
    let n = noded (vword i) shape a d.top d.leads e in
    no_word (vword i (at_offset a shape.right)) n.links.right r.0 (right_left (vword i) shape a n.links n.there).0 r.1

pub left_halts : (image : Option Image) (shape : RbShape) (root limit a : ℕ) (ns pending rest : List ℕ) (halt : TestStop) → pending ≡ rest ++ a ∷ [] → nat_eq a 0 ≡ false → ReadsAs (λ i. vword i (at_offset a shape.left)) image (Err halt) → Collects image shape root ns pending → Collected shape root limit image (Err halt)
left_halts None shape root limit a ns pending rest halts.Unfit p e r c = tt
left_halts None shape root limit a ns pending rest halts.Fault p e r c = tt
left_halts None shape root limit a ns pending rest halts.NoMemory p e r c = tt
left_halts (Some i) shape root limit a ns pending rest halts.Fault p e r c = tt
left_halts (Some i) shape root limit a ns pending rest halts.NoMemory p e r c = tt
left_halts (Some i) shape root limit a ns pending rest halts.Unfit p e r c = λ t lead few.
    let o = c t lead in
    let d = topped (vword i) shape a rest pending (pre t) ns o.0 p o.1 o.2 in
    let n = noded (vword i) shape a d.top d.leads e in
    no_word (vword i (at_offset a shape.left)) n.links.left r.0 (right_left (vword i) shape a n.links n.there).1 r.1

-- the end
none_wait : (read : Reader) (shape : RbShape) (ts : List Tree) → AllLead read shape [] ts → ts ≡ []
none_wait read shape [] l = refl
none_wait read shape (t ∷ ts) l = absurd l

pub collected : (image : Option Image) (shape : RbShape) (root limit : ℕ) (ns pending : List ℕ) → pending ≡ [] → Collects image shape root ns pending → Collected shape root limit image (Ok ns)
collected None shape root limit ns pending none c = tt
collected (Some i) shape root limit ns pending none c = λ t lead.
    let o = c t lead in
    let empty = none_wait (vword i) shape o.0 (subst (λ bs. AllLead (vword i) shape (reverse bs) o.0) none o.1) in
    sym (o.2 ∙ ap (λ ts. ns ++ pres ts) empty ∙ append-nil ns)

some_pre : (t : Tree) → 1 ≤ length (pre t)
some_pre Leaf = omega arith
some_pre (Node n l r) = omega arith

some_wait : (ts : List Tree) → (ts ≡ [] → ⊥) → 1 ≤ length (pres ts)
some_wait [] n = absurd (n refl)
some_wait (t ∷ ts) n = let one = some_pre t in let both = length-append (pre t) (pres ts) in omega (arith, one, both)

not_nil : (xs : List ℕ) (x : ℕ) → xs ++ x ∷ [] ≡ [] → ⊥
not_nil [] x e = cc
not_nil (y ∷ ys) x e = cc

turned_nil : (bs : List ℕ) → reverse bs ≡ [] → bs ≡ []
turned_nil [] e = refl
turned_nil (a ∷ bs) e = absurd (not_nil (reverse bs) a (sym (reverse-append (a ∷ []) bs) ∙ e))

lead_nil : (read : Reader) (shape : RbShape) (bs : List ℕ) → AllLead read shape bs [] → bs ≡ []
lead_nil read shape [] l = refl
lead_nil read shape (a ∷ bs) l = absurd l

pub too_many : (image : Option Image) (shape : RbShape) (root limit : ℕ) (ns pending : List ℕ) → limit ≤ length ns → nat_eq (length pending) 0 ≡ false → Collects image shape root ns pending → Collected shape root limit image (Err halts.Unfit)
too_many None shape root limit ns pending le some c = tt
too_many (Some i) shape root limit ns pending le some c = λ t lead few.
    let o = c t lead in
    let wait : o.0 ≡ [] → ⊥ = λ none. (let empty : pending ≡ [] = turned_nil pending (lead_nil (vword i) shape (reverse pending) (subst (AllLead (vword i) shape (reverse pending)) none o.1)) in let zero : nat_eq (length pending) 0 ≡ true = ap (λ bs. nat_eq (length bs) 0) empty in let no : ⊥ = cc in no) in
    let one = some_wait o.0 wait in
    let size = ap length o.2 in
    let both = length-append ns (pres o.0) in
    omega (arith, few, le, one, size, both)

pub longer : (ns more : List ℕ) (a n : ℕ) → more ≡ ns ++ a ∷ [] → length ns ≡ n → length more ≡ n + 1
longer ns more a n e is = let both = length-append ns (a ∷ []) in ap length e ∙ omega (arith, both, is)

-- the pointers of a red-black tree
leads_is : (read : Reads) (shape : RbShape) (t : Tree) (a q : ℕ) (red : Bool) (b : ℕ) (low high : Option ℤ) → IsRb read shape t a q red b low high → Leads read.word shape t a
leads_is read shape Leaf a q red b low high is = is.0
leads_is read shape (Node n l r) a q red b low high is =
    let w : RbLinks = is.2.0 in
    let k : Option RbKey = is.2.4.0 in
    let m : ℕ = is.2.4.3.0 in
    (is.0, is.1, (w, is.2.1, leads_is read shape l w.left.value a (is_red w.parent.value) m low (bound_of k) is.2.4.3.2, leads_is read shape r w.right.value a (is_red w.parent.value) m (bound_of k) high is.2.4.3.3))

numbers_are : (t : Tree) → length (pre t) ≡ 2 * length (inorder t) + 1
numbers_are Leaf = refl
numbers_are (Node n l r) =
    let one = numbers_are l in
    let two = numbers_are r in
    let pres_are = length-append (pre l) (pre r) in
    let nodes_are = length-append (inorder l) (n ∷ inorder r) in
    omega (arith, one, two, pres_are, nodes_are)

-- the word of the root
root_read : (read : Reader) (shape : RbShape) (start : ℕ) (h : RbHead) (root : Result VWord Stopped) (first : Result (Option VWord) Stopped) → and_then root (λ r. and_then first (λ l. Ok (record { root = r; leftmost = l }))) ≡ Ok h → root ≡ Ok h.root
root_read read shape start h (Ok r) (Ok l) e =
    let both : RbHead = record { root = r; leftmost = l } in
    let same : both ≡ h = cc in
    ap (λ (x : RbHead). Ok x.root) same
root_read read shape start h (Ok r) (Err s) e = let none : ⊥ = cc in absurd none
root_read read shape start h (Err s) first e = let none : ⊥ = cc in absurd none

root_is : (image : Image) (shape : RbShape) (start : ℕ) (ms : List ℕ) (t : RbTree (reads_of image) shape start ms) → vword image (at_offset start shape.root) ≡ Ok t.head.root
root_is image shape start ms t = root_read (vword image) shape start t.head (vword image (at_offset start shape.root)) (leftmost_of (vword image) start shape.leftmost) t.there

-- it leads to the tree, which has so many numbers
leads_to : (image : Image) (shape : RbShape) (start root : ℕ) (ms : List ℕ) (t : RbTree (reads_of image) shape start ms) → (w : VWord) × (vword image (at_offset start shape.root) ≡ Ok w) × (w.value ≡ root) → Leads (vword image) shape t.tree root
leads_to image shape start root ms t r =
    let same : t.head.root.value ≡ root = same_word (vword image (at_offset start shape.root)) r.0 t.head.root root r.1 (root_is image shape start ms t) r.2 in
    subst (Leads (vword image) shape t.tree) same (leads_is (reads_of image) shape t.tree t.head.root.value 0 true t.number None None t.is)

so_many : (image : Image) (shape : RbShape) (start : ℕ) (ms : List ℕ) (t : RbTree (reads_of image) shape start ms) → length (pre t.tree) ≡ 2 * length ms + 1
so_many image shape start ms t = numbers_are t.tree ∙ ap (λ ns. 2 * length ns + 1) t.order

pub tree_collected : TreesPass → (image : Option Image) (shape : RbShape) (start root limit : ℕ) (ms : List ℕ) (r : Result (List ℕ) TestStop) → limit ≡ 2 * length ms + 1 → ReadsAs (λ i. vword i (at_offset start shape.root)) image (Ok root) → Collected shape root limit image r → CollectsTree shape start ms image r
tree_collected law None shape start root limit ms (Ok ns) many read is = tt
tree_collected law None shape start root limit ms (Err halts.Unfit) many read is = tt
tree_collected law (Some i) shape start root limit ms (Ok ns) many read is = λ t. ap (is_tree i shape start) (is t.tree (leads_to i shape start root ms t read)) ∙ (law i shape start ms t).0
tree_collected law (Some i) shape start root limit ms (Err halts.Unfit) many read is = λ t. is t.tree (leads_to i shape start root ms t read) (let size = so_many i shape start ms t in omega (arith, size, many))
tree_collected law image shape start root limit ms (Err halts.Fault) many read is = tt
tree_collected law image shape start root limit ms (Err halts.NoMemory) many read is = tt

pub root_missed : (image : Option Image) (shape : RbShape) (start : ℕ) (ms : List ℕ) (halt : TestStop) → ReadsAs (λ i. vword i (at_offset start shape.root)) image (Err halt) → CollectsTree shape start ms image (Err halt)
root_missed None shape start ms halts.Unfit read = tt
root_missed (Some i) shape start ms halts.Unfit read = λ t. no_word (vword i (at_offset start shape.root)) t.head.root read.0 (root_is i shape start ms t) read.1
root_missed image shape start ms halts.Fault read = tt
root_missed image shape start ms halts.NoMemory read = tt
