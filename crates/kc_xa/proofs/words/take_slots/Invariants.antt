use Rattle.std.proofs.Common.{◌≡◌, ◌+◌, length, map, drop}
use Rattle.kc_found.specs.Trials.{claim, passed}
use Rattle.kc_found.specs.declared.xarrays.XaItem.{XaItem}
use Rattle.kc_xa.proofs.words.take_slots.Given as goal

abbrev pub invariant-loop-word : goal.invariant-loop-word
invariant-loop-word l =
    (passed {X = XaItem} l.fn.claims (map (claim l.asked) l.slots) ≡ passed {X = XaItem} l.claims (map (claim l.asked) (drop l.word-index l.slots)))
    × (length l.claims ≡ length l.fn.claims + l.word-index)
