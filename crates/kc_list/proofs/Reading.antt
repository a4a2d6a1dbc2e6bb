-- The words of a dump are among those that it holds, and each is at the address that was asked.
use Rattle.std.proofs.Common.{◌≡◌, ℕ, ◌%◌, nat_eq, Bool, true, false, if◌then◌else◌, Option, Some, None, Result, Ok, Err}
use Rattle.kc_memory.specs.declared.rule.Rule.TheVariants.{M1}
use Rattle.kc_memory.specs.declared.words.PWord.{PWord}
use Rattle.kc_memory.specs.declared.words.VWord.{VWord}
use Rattle.kc_memory.specs.Stopped.{Stopped}
use Rattle.kc_memory.specs.Held.{held}
use Rattle.kc_memory.specs.Image.{Image, pword}
use Rattle.kc_memory.specs.Translation.{and_then, stop, translated, vword, word_or_stop}
use Rattle.kc_laws.specs.Words.{found_is_held}
use Rattle.kc_list.proofs.HashLaw.{ReadsThere}
use Rattle.kc_found.specs.Passing.{ReadsAmong}

pub reads_held : (image : Image) → ReadsAmong (held image.physical) (vword image)
reads_held image va w e = found_is_held image va w e

word_there : (va pa : ℕ) (there : Option PWord) (w : VWord) → word_or_stop va pa there ≡ Ok w → w.va ≡ va
word_there va pa None w e = absurd (cc)
word_there va pa (Some p) w e = cc

after_there : (image : Image) (va : ℕ) (at : Result ℕ Stopped) (w : VWord) → and_then at (λ pa. word_or_stop va pa (pword image.physical pa)) ≡ Ok w → w.va ≡ va
after_there image va (Ok pa) w e = word_there va pa (pword image.physical pa) w e
after_there image va (Err s) w e = absurd (cc)

tested_there : (image : Image) (va : ℕ) (b : Bool) (w : VWord) → (if b then and_then (translated image va) (λ pa. word_or_stop va pa (pword image.physical pa)) else stop va M1 0 0 None) ≡ Ok w → w.va ≡ va
tested_there image va true w e = after_there image va (translated image va) w e
tested_there image va false w e = absurd (cc)

pub reads_there : (image : Image) → ReadsThere (vword image)
unfolding vword
reads_there image va w e = tested_there image va (nat_eq (va % 8) 0) w e
