use Rattle.kc_slab_page.proofs.EnumLemmas.{NoneBefore}
use Rattle.kc_slab_page.proofs.guards.has_enum.Given as goal

-- no type before the index is one
abbrev pub invariant-loop-index : goal.invariant-loop-index
invariant-loop-index l = NoneBefore l.types l.name l.index
