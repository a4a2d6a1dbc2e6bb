-- In a finite red-black tree all nulls have one number of black nodes above them.
use Rattle.std.proofs.Common.{◌≡◌, ℕ, ◌+◌, Bool, true, List, [], ◌∷◌, ◌++◌, Option, None, arith, ap, subst}
use Rattle.std.specs.Prelude.{Ok, ℤ}
use Rattle.std.specs.List.{AllByRecursion}
use Rattle.kc_found.specs.declared.shapes.RbShape.{RbShape}
use Rattle.kc_found.specs.declared.trees.RbLinks.{RbLinks}
use Rattle.kc_found.specs.RbFinite.{Tree, Leaf, Node, IsRb, black_of, blacks_above, count_of}
use Rattle.kc_found.specs.RbTrees.{Reads, reads_of, links_of, is_red}
use Rattle.kc_rb.specs.Laws.{NullsAgree}

-- each is this number
abbrev AreAll : ℕ → List ℕ → Type 0
AreAll m ns = AllByRecursion (λ n. n ≡ m) ns

all_append : (m : ℕ) (ns ms : List ℕ) → AreAll m ns → AreAll m ms → AreAll m (ns ++ ms)
all_append m [] ms a b = b
all_append m (n ∷ ns) ms a b = (a.0, all_append m ns ms a.1 b)

all_are : (read : Reads) (shape : RbShape) (t : Tree) (a q : ℕ) (red : Bool) (b : ℕ) (low high : Option ℤ) (above m : ℕ) → IsRb read shape t a q red b low high → m ≡ above + b → AreAll m (blacks_above read shape t above)
all_are read shape Leaf a q red b low high above m is e = let none : b ≡ 0 = is.1 in (omega (arith, e, none), tt)
all_are read shape (Node n l r) a q red b low high above m is e =
    let here : a ≡ n = is.0 in
    let w : RbLinks = is.2.0 in
    let there : links_of read.word shape n ≡ Ok w = subst (λ x. links_of read.word shape x ≡ Ok w) here is.2.1 in
    let own : black_of (links_of read.word shape n) ≡ count_of (is_red w.parent.value) = ap black_of there in
    let below = is.2.4.3 in
    let d : ℕ = below.0 in
    let sum : b ≡ d + count_of (is_red w.parent.value) = below.1 in
    let rest : m ≡ (above + black_of (links_of read.word shape n)) + d = omega (arith, e, own, sum) in
    all_append m (blacks_above read shape l (above + black_of (links_of read.word shape n))) (blacks_above read shape r (above + black_of (links_of read.word shape n)))
    (all_are read shape l _ _ _ d _ _ (above + black_of (links_of read.word shape n)) m below.2 rest)
    (all_are read shape r _ _ _ d _ _ (above + black_of (links_of read.word shape n)) m below.3 rest)

pub nulls_agree : NullsAgree
nulls_agree image shape start ns t = all_are (reads_of image) shape t.tree t.head.root.value 0 true t.number None None 0 t.number t.is (omega arith)
