-- What the bound on steps says of the words that a walk asks, and of all its steps.
use Rattle.std.specs.Prelude.{ℕ, ◌+◌, ◌*◌, ◌≤◌, IfSome, Option}
use Rattle.kc_memory.specs.Held.{word_count}
use Rattle.kc_memory.specs.Image.{Image}
use Rattle.kc_found.specs.Walks.{WithinSteps}

-- Where each word is one step, in a memory of W words at most 2 * W + 128 words are asked.
abbrev pub WithinWords : Option Image → ℕ → ℕ → Type 0
WithinWords image before after = WithinSteps image 1 before after

-- Where each word takes at most 6 steps, as in every memory, at most 12 * W + 768 steps are taken.
abbrev pub StepsAreFew : Type 0
StepsAreFew =
    (image : Option Image) (most before after : ℕ) → most ≤ 6 → WithinSteps image most before after
    → IfSome image (λ i. after ≤ before + (12 * word_count i.physical + 768))
