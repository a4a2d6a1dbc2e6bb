use Rattle.std.proofs.Common.{◌+◌, ◌*◌, ℕ}
use Rattle.kc_gen.specs.Bytes.{word_bytes}
use Rattle.kc_gen.proofs.Loops.{more}
use Rattle.kc_gen.proofs.memory.push_entries.Goals as goal

pub loop-i-preserved : goal.loop-i-preserved
loop-i-preserved c =
    more c.args.bytes.now.items c.loop-i.bytes.items c.push_word.new.bytes.items c.loop-i.i (λ (i : ℕ). word_bytes (c.args.entries.first + c.args.entries.step * i))
    c.loop-i.invariant (rw (c.from.ensures, c.from-in-loop-i.ensures, c.from-in-loop-i-2.ensures) at c.in_ok-push_word.ensures)
