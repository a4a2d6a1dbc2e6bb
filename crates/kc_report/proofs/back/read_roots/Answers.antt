use Rattle.std.proofs.Common.{◌-◌, ◌∙◌, length, sym, arith}
use Rattle.std.proofs.lemmas.Bool.{eqb-true, eqb-false}
use Rattle.kc_report.proofs.BackLemmas.{more_roots, stop_roots, all_roots, too_many}
use Rattle.kc_report.proofs.back.read_roots.Goals as goal

pub loop-left-preserved : goal.loop-left-preserved
loop-left-preserved c =
    more_roots c.args.count c.args.bytes.now c.loop-left.left (c.loop-left.left - 1) c.loop-left.roots c.next_root.new.roots c.loop-left.rest.now c.in-Ok.next (omega arith)
    c.loop-left.invariant c.in-Ok.ensures

pub returns-in-Err : goal.returns-in-Err
returns-in-Err c =
    stop_roots c.args.count c.args.bytes.now c.loop-left.left (c.loop-left.left - 1) c.loop-left.roots c.next_root.new.roots c.loop-left.rest.now c.in-Err.stop (omega arith)
    c.loop-left.invariant c.in-Err.ensures

pub returns-then-is_empty : goal.returns-then-is_empty
returns-then-is_empty c =
    all_roots c.args.bytes.now c.args.count c.loop-left.left c.loop-left.roots c.loop-left.rest.now (omega arith) c.loop-left.invariant
    (eqb-true (length c.loop-left.rest.now) 0 (sym c.is_empty.ensures ∙ c.if-is_empty.true))

pub returns : goal.returns
returns c =
    too_many c.args.bytes.now c.args.count c.loop-left.left c.loop-left.roots c.loop-left.rest.now (omega arith) c.loop-left.invariant
    (eqb-false (length c.loop-left.rest.now) 0 (sym c.is_empty.ensures ∙ c.if-is_empty.false))
