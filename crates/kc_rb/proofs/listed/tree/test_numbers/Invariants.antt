use Rattle.std.proofs.Common.{◌≡◌, ◌≤◌, ◌+◌, ◌*◌, None, [], ◌∷◌, drop}
use Rattle.kc_memory.specs.Stays.{SpaceStays}
use Rattle.kc_found.specs.RbTrees.{course_of}
use Rattle.kc_rb.specs.Listed.Trees.{listed}
use Rattle.kc_rb.proofs.ListedLemmas.Pacing.{AreFew, Paced}
use Rattle.kc_rb.proofs.listed.tree.test_numbers.Given as goal

abbrev pub invariant-loop-i : goal.invariant-loop-i
invariant-loop-i g l =
    Paced (g.S.Space.image l.fn.space) l.pass.shape l.pass.asked (λ i. listed (course_of i l.pass.shape l.pass.asked) None l.fn.claims (l.fn.root ∷ []) l.numbers) l.first l.claims l.pending.items (drop l.i l.numbers)
    × SpaceStays g.S.Space.image g.S.Space.files g.S.Space.through g.S.Space.most l.fn.space l.space
    × (g.S.Space.faults l.space ≡ g.S.Space.faults l.fn.space)
    × (l.steps ≤ l.fn.steps + 30 * l.i)
    × AreFew l.i l.pending.items
