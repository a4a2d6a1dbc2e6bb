use Rattle.std.proofs.Common.{◌≡◌, drop, nat_eq}
use Rattle.std.specs.List.{find}
use Rattle.kc_owner.specs.declared.object.keys.CacheKey.{CacheKey}
use Rattle.kc_refs.proofs.lines.push_first.Given as goal

-- none of those so far has it, and nothing was added
abbrev pub invariant-loop-key : goal.invariant-loop-key
invariant-loop-key l = record {
  left : find (λ (k : CacheKey). nat_eq k.random l.random) (drop l.key-index l.keys) ≡ find (λ (k : CacheKey). nat_eq k.random l.random) l.keys;
  text : l.text.items ≡ l.fn.text.items;
}
