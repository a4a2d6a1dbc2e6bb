use Rattle.std.proofs.Common.{◌≡◌, ◌≤◌, length, ◌-◌, ◌+◌, ◌*◌, drop, true}
use Rattle.kc_plan.specs.Kept.{are_between}
use Rattle.kc_plan.specs.Planned.{audit_seen}
use Rattle.kc_plan.specs.Views.{plan_seen}
use Rattle.kc_memory.specs.Stays.{SpaceStays}
use Rattle.kc_cert.specs.Rechecking.Answers.{cost, progress}
use Rattle.kc_cert.specs.Fits.Size.{size}
use Rattle.kc_cert.proofs.RecheckingLemmas.Judging.{Left, looked, node_judged, elements_judged, under}
use Rattle.kc_cert.proofs.rechecking.nest.+nested.Given as goal

abbrev pub decreases-enter : goal.decreases-enter
decreases-enter g l = 3 * (length l.known.now.plan.now.audits - l.base.now.audit)

abbrev pub decreases-look : goal.decreases-look
decreases-look g l = 3 * (length l.known.now.plan.now.audits - l.asked.now.audit) - 1

abbrev pub decreases-look_below : goal.decreases-look_below
decreases-look_below g l = 3 * (length l.known.now.plan.now.audits - l.asked.now.audit) - 2

abbrev pub invariant-look-loop-i : goal.invariant-look-loop-i
invariant-look-loop-i g l =
    Left (g.S.Space.image l.fn.space) (progress l.known.cert.now l.fn.cursor) (looked (plan_seen l.known.plan.now) (audit_seen l.audit) l.asked.audit l.asked.start) (progress l.known.cert.now l.cursor) (node_judged (plan_seen l.known.plan.now) (audit_seen l.audit)) (drop l.i l.nodes-inside.items.items)
    × SpaceStays g.S.Space.image g.S.Space.files g.S.Space.through g.S.Space.most l.fn.space l.space
    × (g.S.Space.faults l.space ≡ g.S.Space.faults l.fn.space)
    × (length l.cursor.counts ≡ length l.fn.cursor.counts)
    × (l.steps + cost * size (drop l.cursor.at l.known.cert.now) + 12288 * (length l.nodes-inside.items.items - l.i) ≤ l.fn.steps + cost * size (drop l.fn.cursor.at l.known.cert.now))

abbrev pub invariant-look_below-loop-i : goal.invariant-look_below-loop-i
invariant-look_below-loop-i g l =
    Left (g.S.Space.image l.fn.space) (progress l.known.cert.now l.fn.cursor) (elements_judged (plan_seen l.known.plan.now) (audit_seen l.audit) l.element) (progress l.known.cert.now l.cursor) (λ m n. under m (plan_seen l.known.plan.now) n l.element) (drop l.i l.audit.each)
    × SpaceStays g.S.Space.image g.S.Space.files g.S.Space.through g.S.Space.most l.fn.space l.space
    × (g.S.Space.faults l.space ≡ g.S.Space.faults l.fn.space)
    × (length l.cursor.counts ≡ length l.fn.cursor.counts)
    × (are_between l.asked.audit (length l.known.plan.now.audits) (drop l.i l.audit.each) ≡ true)
    × (l.steps + cost * size (drop l.cursor.at l.known.cert.now) ≤ l.fn.steps + cost * size (drop l.fn.cursor.at l.known.cert.now) + 48 * l.i)
