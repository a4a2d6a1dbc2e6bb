-- How many words an answer needs: those that it shows, and those of the pointers on the way.
use Rattle.std.specs.Prelude.{ℕ, ◌+◌, ◌*◌, ◌≤◌, List, [], ◌∷◌, nat_eq, if◌then◌else◌, is_none, Option, Some, None, Result, Ok, Err, ⊤}
use Rattle.kc_layout.specs.Ends.{BitsAt}
use Rattle.kc_memory.specs.declared.space.Stop.{Stop}
use Rattle.kc_memory.specs.Bits.{Number, bits, first_bit, word_of}
use Rattle.kc_memory.specs.Image.{Image}
use Rattle.kc_memory.specs.Space.{UnlessFault}
use Rattle.kc_memory.specs.Stopped.{Stopped}
use Rattle.kc_found.specs.declared.found.WalkStop.{WalkStop}
use Rattle.kc_found.specs.declared.found.WalkStop.TheVariants as ends
use Rattle.kc_view.specs.Pointers.{behind, pointer, target}
use Rattle.kc_view.specs.Typed.{bytes_on}

-- a number shows the one or two words that hold it, and a stop at the first word that was asked shows that one
abbrev pub words_shown : ℕ → Result Number Stopped → ℕ
words_shown first (Ok number) = if is_none number.second then 1 else 2
words_shown first (Err s) = if nat_eq s.va first then 1 else 2

-- the words of a number, whose bits are counted from an address
abbrev pub words_of_number : Image → ℕ → BitsAt → ℕ
words_of_number image at b = words_shown (word_of (first_bit at b.bit)) (bits image at b.bit b.width b.signed)

-- the words of the pointer at a byte offset from an address
abbrev pub words_of_pointer : Image → ℕ → ℕ → ℕ
words_of_pointer image at offset = words_shown (word_of (first_bit (bytes_on at offset) 0)) (pointer image at offset)

-- the words that are read after a reading, which are none after a stop
abbrev pub words_after : {A : Type 0} → Result A Stopped → (A → ℕ) → ℕ
words_after (Ok a) words = words a
words_after (Err s) words = 0

-- the words up to the address behind the pointers at these offsets
unfoldable pub words_behind : Image → ℕ → List ℕ → ℕ
words_behind image at [] = 0
words_behind image at (offset ∷ offsets) =
    words_of_pointer image at offset
    + words_after (pointer image at offset) (λ p. words_behind image (target p.value) offsets)

-- the words up to the number of these bits behind them
abbrev pub words_at : Image → ℕ → List ℕ → BitsAt → ℕ
words_at image at hops b =
    words_behind image at hops + words_after (behind image at hops) (λ end. words_of_number image end b)

-- the words that are read after a pointer, which are none after a null one
abbrev pub words_unless_null : Number → (ℕ → ℕ) → ℕ
words_unless_null p words = if nat_eq (target p.value) 0 then 0 else words (target p.value)

-- the words up to where the pointers at these offsets lead, or to the first one that is null
unfoldable pub words_reached : Image → ℕ → List ℕ → ℕ
words_reached image at [] = 0
words_reached image at (offset ∷ offsets) =
    words_of_pointer image at offset
    + words_after (pointer image at offset) (λ p. words_unless_null p (λ next. words_reached image next offsets))

-- An answer about a dump that is told took the steps of so many words at most, of which each takes so many at most.
-- A fault may have come at any of them.
abbrev pub StepsOf : {A : Type 0} → (Image → ℕ) → Option Image → Result A Stop → ℕ → ℕ → ℕ → Type 0
StepsOf words None answer most before after = ⊤
StepsOf words (Some image) answer most before after = UnlessFault answer (after ≤ before + words image * most)

-- the same of a walk's answer: a violation and want of memory too
abbrev pub WalkStepsOf : {A : Type 0} → (Image → ℕ) → Option Image → Result A WalkStop → ℕ → ℕ → ℕ → Type 0
WalkStepsOf words None answer most before after = ⊤
WalkStepsOf words (Some image) (Ok a) most before after = after ≤ before + words image * most
WalkStepsOf words (Some image) (Err (ends.Broken f)) most before after = after ≤ before + words image * most
WalkStepsOf words (Some image) (Err ends.Fault) most before after = ⊤
WalkStepsOf words (Some image) (Err ends.NoMemory) most before after = after ≤ before + words image * most
