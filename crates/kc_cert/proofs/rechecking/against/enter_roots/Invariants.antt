use Rattle.std.proofs.Common.{◌≡◌, ◌≤◌, ◌+◌, ◌*◌, length, drop}
use Rattle.kc_memory.specs.Stays.{SpaceStays}
use Rattle.kc_plan.specs.Seen.{roots}
use Rattle.kc_plan.specs.Views.{plan_seen}
use Rattle.kc_cert.specs.Rechecking.Answers.{cost, progress}
use Rattle.kc_cert.specs.Rechecking.Certificates.{roots_judged}
use Rattle.kc_cert.specs.Fits.Size.{size}
use Rattle.kc_cert.proofs.RecheckingLemmas.Judging.{Left, from_root}
use Rattle.kc_cert.proofs.rechecking.against.enter_roots.Given as goal

abbrev pub invariant-loop-number : goal.invariant-loop-number
invariant-loop-number g l =
    Left (g.S.Space.image l.fn.space) (progress l.known.cert.now l.fn.cursor) (λ i. roots_judged i (plan_seen l.known.plan.now)) (progress l.known.cert.now l.cursor) (from_root (plan_seen l.known.plan.now)) (roots l.number (drop l.number (plan_seen l.known.plan.now)))
    × SpaceStays g.S.Space.image g.S.Space.files g.S.Space.through g.S.Space.most l.fn.space l.space
    × (g.S.Space.faults l.space ≡ g.S.Space.faults l.fn.space)
    × (length l.cursor.counts ≡ length l.fn.cursor.counts)
    × (l.steps + cost * size (drop l.cursor.at l.known.cert.now) ≤ l.fn.steps + cost * size (drop l.fn.cursor.at l.known.cert.now) + 48 * l.number)
