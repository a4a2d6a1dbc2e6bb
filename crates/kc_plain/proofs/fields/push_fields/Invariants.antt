use Rattle.std.proofs.Common.{◌≡◌, ◌++◌, drop}
use Rattle.kc_plain.specs.Fields.{spelled}
use Rattle.kc_plain.proofs.fields.push_fields.Given as goal

-- what was put, and what is still to come, are the whole
abbrev pub invariant-loop-field : goal.invariant-loop-field
invariant-loop-field l = l.bytes.items ++ spelled (drop l.field-index l.fields) ≡ l.initial.bytes.items ++ spelled l.fields
