-- What is told of an address by what was seen of it.
use Rattle.std.proofs.Common.{◌≡◌, ℕ, List, Option, Some, None, Result, Ok, Err, ap, ◌∙◌}
use Rattle.kc_memory.specs.declared.words.VWord.{VWord}
use Rattle.kc_memory.specs.Image.{Image}
use Rattle.kc_memory.specs.Stopped.{Stopped}
use Rattle.kc_memory.specs.Translation.{vword}
use Rattle.kc_found.specs.declared.failed.ReadFailed.{ReadFailed}
use Rattle.kc_sight.specs.Looks.{LooksAs, words}
use Rattle.kc_sight.specs.Sights.{page_start, word_start}
use Rattle.kc_told.specs.Objects.{Shapes, Told, told_by, told_of}

-- by the word that holds it and those of its 4096 bytes, as they were seen
pub told_seen : {X Y Z : Type 0} (image after : Option Image) (shapes : Shapes) (address : ℕ) (word : X → Result VWord Stopped) (page : X → List (Result VWord Stopped)) (seen : X) (view : Y → Told) (told : Y)
    (shown : Z → Told) (all : Z) → LooksAs word (λ m. vword m (word_start address)) image (Ok seen) → LooksAs page (λ m. words m (page_start address) 512) image (Ok seen) → after ≡ image
    → LooksAs view (λ m. told_by m shapes address (word seen) (page seen)) after (Ok told) → shown all ≡ view told → LooksAs shown (λ m. told_of m shapes address) image (Ok all)
told_seen None after shapes address word page seen view told shown all reads fills same tells is = tt
told_seen (Some m) after shapes address word page seen view told shown all reads fills same tells is =
    let as_seen : view told ≡ told_by m shapes address (word seen) (page seen) = rw same at tells in
    is ∙ as_seen ∙ ap (λ w. told_by m shapes address w (page seen)) reads ∙ ap (λ p. told_by m shapes address (vword m (word_start address)) p) fills

-- after a failure nothing has to be told
pub told_failed : {X : Type 0} (view : X → Told) (truth : Image → Told) (image : Option Image) (told : Result X ReadFailed) (stop : ReadFailed) → told ≡ Err stop → LooksAs view truth image told
told_failed view truth None told stop is = tt
told_failed view truth (Some m) (Err other) stop is = tt
told_failed view truth (Some m) (Ok x) stop is = absurd (let no : ⊥ = cc in no)
