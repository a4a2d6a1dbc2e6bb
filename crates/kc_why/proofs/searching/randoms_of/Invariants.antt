use Rattle.std.proofs.Common.{◌≡◌, map, take}
use Rattle.kc_owner.specs.declared.object.keys.CacheKey.{CacheKey}
use Rattle.kc_why.proofs.searching.randoms_of.Given as goal

-- those of the keys so far
abbrev pub invariant-loop-key : goal.invariant-loop-key
invariant-loop-key l = l.randoms.items ≡ map (λ (k : CacheKey). k.random) (take l.key-index l.keys)
