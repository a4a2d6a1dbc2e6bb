-- The numbers of a tree, by its pointers alone.
use Rattle.std.specs.Prelude.{◌≡◌, ℕ, ◌≤◌, true, false, nat_eq, List, length, IfSome, Option, Some, None, Result, Ok, Err, ⊤}
use Rattle.kc_memory.specs.declared.words.VWord.{VWord}
use Rattle.kc_memory.specs.Image.{Image}
use Rattle.kc_memory.specs.Stopped.{Stopped}
use Rattle.kc_memory.specs.Translation.{vword}
use Rattle.kc_found.specs.declared.shapes.RbShape.{RbShape}
use Rattle.kc_found.specs.declared.trees.RbLinks.{RbLinks}
use Rattle.kc_found.specs.RbFinite.{RbTree, Tree, Leaf, Node}
use Rattle.kc_found.specs.RbTrees.{links_of, reads_of}
use Rattle.kc_found.specs.Trials.{Reader}
use Rattle.kc_found.specs.declared.test.TestStop.{TestStop}
use Rattle.kc_found.specs.declared.test.TestStop.TheVariants.{Unfit, Fault, NoMemory}
use Rattle.kc_rb.specs.Listed.Trees.{is_tree, pre}

-- a pointer leads to a tree
abbrev pub Leads : Reader → RbShape → Tree → ℕ → Type 0
Leads read shape Leaf a = a ≡ 0
Leads read shape (Node n l r) a =
    (a ≡ n) × (nat_eq a 0 ≡ false) × ((w : RbLinks) × (links_of read shape a ≡ Ok w) × Leads read shape l w.left.value × Leads read shape r w.right.value)

-- a pointer is read, or it can't be
abbrev pub ReadsAs : {I : Type 0} → (I → Result VWord Stopped) → Option I → Result ℕ TestStop → Type 0
ReadsAs read None r = ⊤
ReadsAs read (Some i) (Ok a) = (w : VWord) × (read i ≡ Ok w) × (w.value ≡ a)
ReadsAs read (Some i) (Err Unfit) = (s : Stopped) × (read i ≡ Err s)
ReadsAs read (Some i) (Err Fault) = ⊤
ReadsAs read (Some i) (Err NoMemory) = ⊤

-- the numbers are those of the tree that a pointer leads to, or there is none with so few
abbrev pub Collected : RbShape → ℕ → ℕ → Option Image → Result (List ℕ) TestStop → Type 0
Collected shape root limit image (Ok ns) = IfSome image (λ i. (t : Tree) → Leads (vword i) shape t root → ns ≡ pre t)
Collected shape root limit image (Err Unfit) = IfSome image (λ i. (t : Tree) → Leads (vword i) shape t root → length (pre t) ≤ limit → ⊥)
Collected shape root limit image (Err Fault) = ⊤
Collected shape root limit image (Err NoMemory) = ⊤

-- where these nodes are those of the red-black tree from a start, the numbers are its; or they aren't
abbrev pub CollectsTree : RbShape → ℕ → List ℕ → Option Image → Result (List ℕ) TestStop → Type 0
CollectsTree shape start nodes image (Ok ns) = IfSome image (λ i. RbTree (reads_of i) shape start nodes → is_tree i shape start ns ≡ true)
CollectsTree shape start nodes image (Err Unfit) = IfSome image (λ i. RbTree (reads_of i) shape start nodes → ⊥)
CollectsTree shape start nodes image (Err Fault) = ⊤
CollectsTree shape start nodes image (Err NoMemory) = ⊤
