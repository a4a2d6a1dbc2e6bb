use Rattle.std.proofs.Common.{ℕ, arith, ◌+◌, ◌-◌, length}
use Rattle.kc_xa.proofs.ListedLemmas.Tracing.{all_slots, no_slots, slot_more}
use Rattle.kc_xa.proofs.listed.spots.push_slots.Goals as goal

pub loop-i-init : goal.loop-i-init
loop-i-init c = no_slots c.args.shape.now.chunk c.args.node.now c.args.pending.now.items (length c.args.node.now.slots - 0) (omega arith)

pub loop-i-preserved : goal.loop-i-preserved
loop-i-preserved c =
    let count : ℕ = length c.args.node.now.slots in
    let same = c.len-count.ensures in
    let more = c.loop-i-test.true in
    slot_more c.args.shape.now.chunk c.args.node.now c.args.pending.now.items c.loop-i.pending.items c.push_spot.new.pending.items (c.len-count.result - 1 - c.loop-i.i) (count - (c.loop-i.i + 1)) (count - c.loop-i.i) c.get.result.now c.slot_spot-spot.result
    (omega (arith, same, more)) (omega (arith, same, more)) c.get.ensures c.slot_spot-spot.ensures c.loop-i.invariant c.in_ok-push_spot.ensures.added

pub returns-clause-added : goal.returns-clause-added
returns-clause-added c =
    let same = c.len-count.ensures in
    let end = c.loop-i-test.false in
    all_slots c.args.shape.now.chunk c.args.node.now c.args.pending.now.items c.loop-i.pending.items (length c.args.node.now.slots - c.loop-i.i) (omega (arith, same, end)) c.loop-i.invariant
