-- Whether what the walk took for an element leads back to where it came from. Where it doesn't, the pointer that led there may be the wrong word.
use Rattle.std.specs.Prelude.{Bool, true, false}
use Rattle.kc_memory.specs.declared.rule.Rule.{Rule}
use Rattle.kc_memory.specs.declared.rule.Rule.TheVariants.{C, L1, H1, R1, X1, X2, X3, X4, U4, G1}
use Rattle.kc_kinds.specs.declared.kind.Kind.{Kind}
use Rattle.kc_kinds.specs.declared.kind.Kind.TheVariants.{Xarray}

-- These rules say that it doesn't: a node's own link backwards, its level, slot, node above and array, a slab that is no page's descriptor, and a
-- process id with another number. The walks look at all others after these.
abbrev pub leads_back : Rule → Bool
leads_back L1 = false
leads_back H1 = false
leads_back R1 = false
leads_back X1 = false
leads_back X2 = false
leads_back X3 = false
leads_back X4 = false
leads_back U4 = false
leads_back G1 = false
leads_back _ = true

-- what an xarray has as its elements has no link to it
abbrev pub has_links : Kind → Bool
has_links (Xarray shape) = false
has_links _ = true

-- a check is about an element of the audit
abbrev pub is_confirmed : Kind → Rule → Bool
is_confirmed kind C = has_links kind
is_confirmed kind rule = leads_back rule
