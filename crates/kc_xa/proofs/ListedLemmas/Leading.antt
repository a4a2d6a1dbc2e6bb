-- What an entry is by the test whether it leads to a node.
use Rattle.std.proofs.Common.{◌≡◌, false, true, Option, Some, None, refl}
use Rattle.std.specs.Prelude.{is_some}
use Rattle.kc_found.specs.declared.xarrays.XaEntry.{XaEntry}
use Rattle.kc_found.specs.declared.xarrays.XaEntry.TheVariants.{Nothing, Pointer, Odd, Node, Zero, Sibling, Bad}
use Rattle.kc_found.specs.FiniteXarrays.{IsLeaf}
use Rattle.kc_xa.specs.Listed.Entries.{is_node}

pub leaf_is : (k : XaEntry) → is_node k ≡ false → IsLeaf k
leaf_is Nothing e = tt
leaf_is Pointer e = tt
leaf_is Odd e = tt
leaf_is Node e = absurd (cc)
leaf_is Zero e = tt
leaf_is (Sibling v) e = tt
leaf_is Bad e = tt

pub leaf_not : (k : XaEntry) → IsLeaf k → is_node k ≡ false
leaf_not Nothing h = refl
leaf_not Pointer h = refl
leaf_not Odd h = refl
leaf_not Node h = absurd h
leaf_not Zero h = refl
leaf_not (Sibling v) h = refl
leaf_not Bad h = refl

pub node_is : (k : XaEntry) → is_node k ≡ true → k ≡ Node
node_is Nothing e = absurd (cc)
node_is Pointer e = absurd (cc)
node_is Odd e = absurd (cc)
node_is Node e = refl
node_is Zero e = absurd (cc)
node_is (Sibling v) e = absurd (cc)
node_is Bad e = absurd (cc)

-- no rule is broken
pub none_is : {A : Type 0} (a : Option A) → is_some a ≡ false → a ≡ None
none_is None e = refl
none_is (Some x) e = absurd (cc)
