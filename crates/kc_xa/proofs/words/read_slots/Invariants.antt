use Rattle.std.proofs.Common.{◌≡◌, ◌+◌, ◌*◌, ◌≤◌, length}
use Rattle.std.specs.Prelude.{Ok, IfSome}
use Rattle.kc_memory.specs.Stays.{SpaceStays}
use Rattle.kc_found.specs.XaNodes.{first_words}
use Rattle.kc_xa.proofs.SlotWords.{reader}
use Rattle.kc_xa.proofs.words.read_slots.Given as goal

-- the words read so far are the first ones
abbrev pub invariant-loop-i : goal.invariant-loop-i
invariant-loop-i g l =
    IfSome (g.S.Space.image l.fn.space) (λ image. first_words (reader image l.asked l.led) l.va l.i ≡ Ok l.slots)
    × SpaceStays g.S.Space.image g.S.Space.files g.S.Space.through g.S.Space.most l.fn.space l.space
    × (g.S.Space.faults l.space ≡ g.S.Space.faults l.fn.space)
    × (length l.slots ≡ l.i)
    × (l.steps ≤ l.fn.steps + g.S.Space.most l.fn.space * l.i)
