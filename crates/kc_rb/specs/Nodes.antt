-- What it says that no rule is broken at a node.
use Rattle.std.specs.Prelude.{◌≡◌, ◌&&◌, false, Option, Ok}
use Rattle.kc_found.specs.declared.trees.RbKey.{RbKey}
use Rattle.kc_found.specs.declared.trees.RbLinks.{RbLinks}
use Rattle.kc_found.specs.declared.trees.RbSpot.{RbSpot}
use Rattle.kc_found.specs.RbFinite.{IsBetween}
use Rattle.kc_found.specs.RbTrees.{RbCourse, is_red, keys_at, links_at, node_site, parent_in}
use Rattle.kc_found.specs.Trials.{IsUnbroken}

-- a node whose words and key can be read, and at which no rule is broken
pub record Good (c : RbCourse) (s : RbSpot) (n : RbLinks) (k : Option RbKey) : Type 0 where
  pub links : links_at c s ≡ Ok n
  pub keys : keys_at c s ≡ Ok k
  pub parent : parent_in n.parent.value ≡ s.parent
  pub colour : (s.red && is_red n.parent.value) ≡ false
  pub between : IsBetween c.shape.unique s.low s.high k

-- no trial of a position's node breaks a rule exactly where the node is such a one
abbrev pub NodesAreGood : Type 0
NodesAreGood =
    (c : RbCourse) (s : RbSpot)
    → (IsUnbroken (node_site c s) → (n : RbLinks) × (k : Option RbKey) × Good c s n k)
    × ((n : RbLinks) (k : Option RbKey) → Good c s n k → IsUnbroken (node_site c s))
