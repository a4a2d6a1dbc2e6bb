use Rattle.std.proofs.Common.{arith}
use Rattle.kc_plain.proofs.FieldLemmas.{no_more, one_more}
use Rattle.kc_plain.proofs.fields.push_fields.Goals as goal

pub loop-field-preserved : goal.loop-field-preserved
loop-field-preserved c = one_more c.loop-field.bytes.items c.push_field.new.bytes.items c.args.bytes.now.items c.args.fields.now c.args.fields.now c.loop-field.field-index _ (omega arith) c.in_ok-push_field.ensures c.loop-field.invariant

pub returns : goal.returns
returns c = no_more c.loop-field.bytes.items c.args.bytes.now.items c.args.fields.now c.args.fields.now c.loop-field.field-index (omega arith) c.loop-field.invariant
