-- One pointer on the way.
use Rattle.std.proofs.Common.{◌≡◌, ◌≢◌, ℕ, ◌+◌, ◌%◌, ◌^◌, ◌≤◌, ◌<◌, List, [], ◌∷◌, length, drop, slice_index_or, nat_eq, false, Option, Some, None, Result, Ok, Err, refl, arith}
use Rattle.std.proofs.lemmas.Bool.{ne_eqb}
use Rattle.kc_memory.specs.declared.space.Stop.{Stop}
use Rattle.kc_memory.specs.declared.space.Stop.TheVariants.{Miss, Fault}
use Rattle.kc_memory.specs.declared.words.Place.{Place}
use Rattle.kc_memory.specs.Bits.{Number}
use Rattle.kc_memory.specs.Image.{Image}
use Rattle.kc_memory.specs.Space.{AnswersAs}
use Rattle.kc_view.specs.declared.pointers.Reached.{Reached}
use Rattle.kc_view.specs.declared.pointers.Reached.TheVariants.{Address, NullPointer}
use Rattle.kc_view.specs.Pointers.{behind, pointer, reached, target}

pub behind-none : (image : Option Image) (at : ℕ) (offsets : List ℕ) → length offsets < 1 → AnswersAs {A = ℕ} (λ i. behind i at offsets) image (Ok at)
unfolding behind
behind-none None at offsets none = tt
behind-none (Some image) at [] none = refl
behind-none (Some image) at (o ∷ os) none = absurd (omega arith)

pub behind-next : (image : Option Image) (at : ℕ) (offsets : List ℕ) (p : Number) (next : ℕ) (r : Result ℕ Stop) → 1 ≤ length offsets
    → AnswersAs {A = Number} (λ i. pointer i at (slice_index_or offsets 0 0)) image (Ok p) → next ≡ target p.value
    → AnswersAs (λ i. behind i next (drop 1 offsets)) image r
    → AnswersAs (λ i. behind i at offsets) image r
unfolding behind
behind-next None at offsets p next r some here to rest = tt
behind-next (Some image) at [] p next r some here to rest = absurd (omega arith)
behind-next (Some image) at (o ∷ os) p next r some here to rest = rw (here, ← to) rest

pub behind-stop : (image : Option Image) (at : ℕ) (offsets : List ℕ) (stop : Stop) → 1 ≤ length offsets
    → AnswersAs {A = Number} (λ i. pointer i at (slice_index_or offsets 0 0)) image (Err stop)
    → AnswersAs {A = ℕ} (λ i. behind i at offsets) image (Err stop)
unfolding behind
behind-stop None at offsets stop some here = tt
behind-stop (Some image) at [] stop some here = absurd (omega arith)
behind-stop (Some image) at (o ∷ os) (Miss m) some here = rw here refl
behind-stop (Some image) at (o ∷ os) Fault some here = tt

pub reached-none : (image : Option Image) (at : ℕ) (offsets : List ℕ) → length offsets < 1 → AnswersAs {A = Reached} (λ i. reached i at offsets) image (Ok (Address at))
unfolding reached
reached-none None at offsets none = tt
reached-none (Some image) at [] none = refl
reached-none (Some image) at (o ∷ os) none = absurd (omega arith)

-- the pointer is null
pub reached-null : (image : Option Image) (at : ℕ) (offsets : List ℕ) (p : Number) (place : Place) (next : ℕ) → 1 ≤ length offsets
    → AnswersAs {A = Number} (λ i. pointer i at (slice_index_or offsets 0 0)) image (Ok p) → place ≡ p.first → next ≡ target p.value → next ≡ 0
    → AnswersAs {A = Reached} (λ i. reached i at offsets) image (Ok (NullPointer place ((at + slice_index_or offsets 0 0) % 2 ^ 64)))
unfolding reached
reached-null None at offsets p place next some here same to null = tt
reached-null (Some image) at [] p place next some here same to null = absurd (omega arith)
reached-null (Some image) at (o ∷ os) p place next some here same to null = rw (here, ← to, null, same) refl

-- the pointer isn't null
pub reached-next : (image : Option Image) (at : ℕ) (offsets : List ℕ) (p : Number) (next : ℕ) (r : Result Reached Stop) → 1 ≤ length offsets
    → AnswersAs {A = Number} (λ i. pointer i at (slice_index_or offsets 0 0)) image (Ok p) → next ≡ target p.value → next ≢ 0
    → AnswersAs (λ i. reached i next (drop 1 offsets)) image r
    → AnswersAs (λ i. reached i at offsets) image r
unfolding reached
reached-next None at offsets p next r some here to real rest = tt
reached-next (Some image) at [] p next r some here to real rest = absurd (omega arith)
reached-next (Some image) at (o ∷ os) p next r some here to real rest =
    let other : nat_eq next 0 ≡ false = ne_eqb next 0 real in
    rw (here, ← to, other) rest

pub reached-stop : (image : Option Image) (at : ℕ) (offsets : List ℕ) (stop : Stop) → 1 ≤ length offsets
    → AnswersAs {A = Number} (λ i. pointer i at (slice_index_or offsets 0 0)) image (Err stop)
    → AnswersAs {A = Reached} (λ i. reached i at offsets) image (Err stop)
unfolding reached
reached-stop None at offsets stop some here = tt
reached-stop (Some image) at [] stop some here = absurd (omega arith)
reached-stop (Some image) at (o ∷ os) (Miss m) some here = rw here refl
reached-stop (Some image) at (o ∷ os) Fault some here = tt
