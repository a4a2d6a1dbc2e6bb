use Rattle.std.proofs.Common.{arith, ◌≡◌, ◌≤◌, ◌++◌, ◌∙◌, ap, sym}
use Rattle.std.specs.Prelude.{reverse}
use Rattle.kc_found.specs.declared.xarrays.XaNode.{XaNode}
use Rattle.kc_xa.specs.Listed.Entries.{is_node, slot_spots}
use Rattle.kc_xa.specs.Listed.Falling.{level}
use Rattle.kc_xa.proofs.ListedLemmas.Gathering.{leaf_spots, node_spots}
use Rattle.kc_xa.proofs.ListedLemmas.Lowering.{leaf_falls, level_some, node_falls, node_steps_few, on_ok, shift_falls, shift_low, sound_push}
use Rattle.kc_xa.proofs.ListedLemmas.Tracing.{fault_halts, leaf_goes, node_answers, node_halts}
use Rattle.kc_xa.proofs.listed.steps.pass_spot.Goals as goal

pub returns-then-is_some-clause-passes : goal.returns-then-is_some-clause-passes
returns-then-is_some-clause-passes g c =
    fault_halts _ (g.S.Space.image c.args.space.now) c.args.pass.now.shape c.args.pass.now.asked c.args.claims.now c.args.claims.now c.args.spot.now c.args.pending.now.items c.args.pending.now.items (sym c.is_some.ensures ∙ c.if-is_some.true)

pub returns-then-not-is_node-clause-passes : goal.returns-then-not-is_node-clause-passes
returns-then-not-is_node-clause-passes g c =
    leaf_goes (g.S.Space.image c.args.space.now) c.args.pass.now.shape c.args.pass.now.asked c.args.claims.now c.args.spot.now c.args.pending.now.items _ (sym c.is_some.ensures ∙ c.if-is_some.false) (ap is_node (sym c.entry_of.ensures) ∙ sym c.is_node.ensures ∙ c.if-not-is_node.true)

pub returns-then-not-is_node-clause-falls : goal.returns-then-not-is_node-clause-falls
returns-then-not-is_node-clause-falls g c = leaf_falls c.args.spot.now c.args.pending.now.items

pub returns-in-Err-clause-passes : goal.returns-in-Err-clause-passes
returns-in-Err-clause-passes g c =
    node_halts _ _ (g.S.Space.image c.args.space.now) c.args.pass.now.shape c.args.pass.now.asked c.args.claims.now c.open_node.new.claims c.args.spot.now c.args.pending.now.items c.args.pending.now.items c.in-Err.stop c.test_stop_of.result (sym c.is_some.ensures ∙ c.if-is_some.false)
    (ap is_node (sym c.entry_of.ensures) ∙ sym c.is_node.ensures ∙ c.if-not-is_node.false) c.test_stop_of.ensures c.in-Err.ensures.site

pub push_slots-requires-clause-small : goal.push_slots-requires-clause-small
push_slots-requires-clause-small g c = shift_low c.args.pass.now.shape.chunk c.args.spot.now.holder c.in-Ok.node.shift c.in-Ok.ensures.is c.requires.spot.0

pub returns-clause-passes : goal.returns-clause-passes
returns-clause-passes g c =
    node_answers (λ (x : XaNode). c.open_node.new.claims) (g.S.Space.image c.args.space.now) c.args.pass.now.shape c.args.pass.now.asked c.args.claims.now c.args.spot.now c.args.pending.now.items c.push_slots.new.pending.items c.in-Ok.node c.in-Ok.node c.push_slots.result (sym c.is_some.ensures ∙ c.if-is_some.false)
    (ap is_node (sym c.entry_of.ensures) ∙ sym c.is_node.ensures ∙ c.if-not-is_node.false) c.in-Ok.ensures.site c.in-Ok.ensures.opened c.push_slots.ensures.added c.push_slots.ensures.memory

pub returns-clause-sound : goal.returns-clause-sound
returns-clause-sound g c =
    on_ok c.push_slots.result _ _
    (λ (e : c.push_slots.new.pending.items ≡ c.args.pending.now.items ++ reverse (slot_spots c.args.pass.now.shape.chunk c.in-Ok.node 0 c.in-Ok.node.slots)).
    sound_push c.args.pass.now.shape.chunk c.in-Ok.node c.args.pending.now.items c.push_slots.new.pending.items e (shift_low c.args.pass.now.shape.chunk c.args.spot.now.holder c.in-Ok.node.shift c.in-Ok.ensures.is c.requires.spot.0) c.requires.pending) c.push_slots.ensures.added

pub returns-clause-falls : goal.returns-clause-falls
returns-clause-falls g c =
    let few = c.know_chunk.ensures.small in
    let size = c.in-Ok.ensures.size in
    let low = shift_low c.args.pass.now.shape.chunk c.args.spot.now.holder c.in-Ok.node.shift c.in-Ok.ensures.is c.requires.spot.0 in
    let some : 1 ≤ level c.args.spot.now.holder = level_some c.args.pass.now.shape.chunk c.args.spot.now (sym c.is_some.ensures ∙ c.if-is_some.false) (ap is_node (sym c.entry_of.ensures) ∙ sym c.is_node.ensures ∙ c.if-not-is_node.false) c.requires.spot in
    on_ok c.push_slots.result _ _
    (λ (e : c.push_slots.new.pending.items ≡ c.args.pending.now.items ++ reverse (slot_spots c.args.pass.now.shape.chunk c.in-Ok.node 0 c.in-Ok.node.slots)).
    node_falls c.args.pass.now.shape.chunk c.in-Ok.node c.args.spot.now c.args.pending.now.items c.push_slots.new.pending.items e (omega (arith, few, size)) (shift_falls c.args.pass.now.shape.chunk c.args.spot.now.holder c.in-Ok.node.shift c.in-Ok.ensures.is low some)) c.push_slots.ensures.added

pub returns-clause-steps : goal.returns-clause-steps
returns-clause-steps g c =
    let most = c.know_most.ensures in
    let all = node_steps_few (g.S.Space.most c.args.space.now) c.args.pass.now.shape.chunk most c.know_chunk.ensures.small in
    let steps = c.in-Ok.ensures.steps in
    omega (arith, all, steps)

pub returns-in-Err-clause-steps : goal.returns-in-Err-clause-steps
returns-in-Err-clause-steps g c =
    let most = c.know_most.ensures in
    let all = node_steps_few (g.S.Space.most c.args.space.now) c.args.pass.now.shape.chunk most c.know_chunk.ensures.small in
    let steps = c.in-Err.ensures.steps in
    omega (arith, all, steps)

pub returns-then-not-is_node-clause-next : goal.returns-then-not-is_node-clause-next
returns-then-not-is_node-clause-next g c =
    leaf_spots (g.S.Space.image c.args.space.now) c.args.pass.now.shape c.args.pass.now.asked c.args.spot.now c.args.pending.now.items (ap is_node (sym c.entry_of.ensures) ∙ sym c.is_node.ensures ∙ c.if-not-is_node.true)

pub returns-clause-next : goal.returns-clause-next
returns-clause-next g c =
    node_spots (g.S.Space.image c.args.space.now) c.args.pass.now.shape c.args.pass.now.asked c.args.spot.now c.args.pending.now.items c.push_slots.new.pending.items c.in-Ok.node c.push_slots.result
    (ap is_node (sym c.entry_of.ensures) ∙ sym c.is_node.ensures ∙ c.if-not-is_node.false) c.in-Ok.ensures.opened c.push_slots.ensures.added
