use Rattle.std.proofs.Common.{◌≡◌, drop}
use Rattle.kc_layout.specs.Names.{first_in}
use Rattle.kc_layout.proofs.names.first_in.Given as goal

-- the first is among those that are left
abbrev pub invariant-loop-id : goal.invariant-loop-id
invariant-loop-id l = first_in l.btf l.numbers l.name l.wanted ≡ first_in l.btf (drop l.id-index l.numbers) l.name l.wanted
