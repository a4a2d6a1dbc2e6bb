use Rattle.std.proofs.Common.{◌≡◌, ◌++◌, drop, flat_map}
use Rattle.kc_gen.specs.Bytes.{word_bytes}
use Rattle.kc_gen.proofs.bytes.push_words.Given as goal

-- what was added, and what is still to come, are the whole
abbrev pub invariant-loop-word : goal.invariant-loop-word
invariant-loop-word l = l.bytes.items ++ flat_map word_bytes (drop l.word-index l.words) ≡ l.fn.bytes.items ++ flat_map word_bytes l.words
