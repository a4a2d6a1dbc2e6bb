-- How many steps an answer takes.
use Rattle.std.specs.Prelude.{ℕ, ◌+◌, ◌*◌, ◌≤◌, IfSome, List, Option, Result, Ok, Err}
use Rattle.kc_memory.specs.Held.{word_count}
use Rattle.kc_memory.specs.Image.{Image}
use Rattle.kc_found.specs.declared.shapes.ListShape.{ListShape}
use Rattle.kc_found.specs.Rings.{ring_walk}
use Rattle.kc_found.specs.Violations.{Violation}
use Rattle.kc_owner.specs.Rings.{most_nodes}

-- In a memory of W words, where a word takes so many steps at most: so many walks, each of 2 * W + 128 words at most, and so many steps more.
abbrev pub WithinWalks : Option Image → ℕ → ℕ → ℕ → ℕ → ℕ → Type 0
WithinWalks image most walks more before after =
    IfSome image (λ i. after ≤ before + walks * (most * (2 * word_count i.physical + 128)) + more)

-- For the nodes of a ring that is broken there are more.
abbrev pub ring_steps : Result (List ℕ) Violation → ℕ
ring_steps (Ok nodes) = 0
ring_steps (Err v) = 24 * most_nodes

-- The same, with the nodes of a ring.
abbrev pub WithinRing : Option Image → ListShape → ℕ → ℕ → ℕ → ℕ → ℕ → ℕ → Type 0
WithinRing image list head most walks more before after =
    IfSome image (λ i. after ≤ before + walks * (most * (2 * word_count i.physical + 128)) + more + ring_steps (ring_walk i list 0 head))
