-- How many words one more reading on the way needs.
use Rattle.std.proofs.Common.{◌≡◌, ◌≢◌, ℕ, ◌+◌, ◌*◌, ◌≤◌, Bool, false, List, [], ◌∷◌, length, drop, slice_index_or, nat_eq, if◌then◌else◌, Option, Some, None, Result, Ok, Err, sym, ap, subst, arith}
use Rattle.std.proofs.Math.Nat.{add-mul}
use Rattle.std.proofs.lemmas.Bool.{ne_eqb}
use Rattle.kc_memory.specs.declared.space.Stop.{Stop}
use Rattle.kc_memory.specs.declared.space.Stop.TheVariants.{Miss, Fault}
use Rattle.kc_memory.specs.Bits.{Number}
use Rattle.kc_memory.specs.Image.{Image}
use Rattle.kc_memory.specs.Space.{AnswersAs}
use Rattle.kc_memory.specs.Stopped.{Stopped}
use Rattle.kc_view.specs.declared.pointers.Reached.{Reached}
use Rattle.kc_view.specs.Pointers.{pointer, target}
use Rattle.kc_view.specs.Words.{StepsOf, words_after, words_behind, words_of_pointer, words_reached, words_unless_null}

-- the steps of some words, and then those of some more
more_words : (a b c most before between after : ℕ) → c ≡ b
    → between ≤ before + a * most → after ≤ between + b * most → after ≤ before + (a + c) * most
more_words a b c most before between after same first second = omega (arith, add-mul a c most, ap (λ n. n * most) same)

-- a reading that didn't stop, and what is read after it
read_on : {A B : Type 0} (image : Option Image) (way : Image → Result A Stopped) (words : Image → ℕ) (rest : Image → A → ℕ)
    (a : A) (r : Result B Stop) (most before between after : ℕ) → AnswersAs way image (Ok a)
    → StepsOf {A = A} words image (Ok a) most before between → StepsOf (λ i. rest i a) image r most between after
    → StepsOf (λ i. words i + words_after (way i) (rest i)) image r most before after
read_on None way words rest a r most before between after here first second = tt
read_on (Some image) way words rest a (Ok b) most before between after here first second =
    more_words _ _ _ most before between after (ap (λ w. words_after w (rest image)) here) first second
read_on (Some image) way words rest a (Err (Miss s)) most before between after here first second =
    more_words _ _ _ most before between after (ap (λ w. words_after w (rest image)) here) first second
read_on (Some image) way words rest a (Err Fault) most before between after here first second = tt

-- a reading that stopped
stopped : {A : Type 0} (B : Type 0) (image : Option Image) (way : Image → Result A Stopped) (words : Image → ℕ) (rest : Image → A → ℕ)
    (stop : Stop) (most before after : ℕ) → StepsOf {A = A} words image (Err stop) most before after
    → StepsOf {A = B} (λ i. words i + words_after (way i) (rest i)) image (Err stop) most before after
stopped B None way words rest stop most before after first = tt
stopped B (Some image) way words rest (Miss s) most before after first =
    omega (arith, add-mul (words image) (words_after (way image) (rest image)) most)
stopped B (Some image) way words rest Fault most before after first = tt

pub behind_words-next : (image : Option Image) (at : ℕ) (offsets : List ℕ) (p : Number) (next : ℕ) (r : Result ℕ Stop)
    (most before between after : ℕ) → 1 ≤ length offsets
    → AnswersAs {A = Number} (λ i. pointer i at (slice_index_or offsets 0 0)) image (Ok p) → next ≡ target p.value
    → StepsOf {A = Number} (λ i. words_of_pointer i at (slice_index_or offsets 0 0)) image (Ok p) most before between
    → StepsOf (λ i. words_behind i next (drop 1 offsets)) image r most between after
    → StepsOf (λ i. words_behind i at offsets) image r most before after
unfolding words_behind
behind_words-next image at [] p next r most before between after some here to first second = absurd (omega arith)
behind_words-next image at (o ∷ os) p next r most before between after some here to first second =
    let P : ℕ → Type 0 = λ n. StepsOf (λ i. words_behind i n os) image r most between after in
    read_on image (λ i. pointer i at o) (λ i. words_of_pointer i at o) (λ i p. words_behind i (target p.value) os)
    p r most before between after here first (subst P to second)

pub behind_words-stop : (image : Option Image) (at : ℕ) (offsets : List ℕ) (stop : Stop) (most before after : ℕ)
    → 1 ≤ length offsets
    → StepsOf {A = Number} (λ i. words_of_pointer i at (slice_index_or offsets 0 0)) image (Err stop) most before after
    → StepsOf {A = ℕ} (λ i. words_behind i at offsets) image (Err stop) most before after
unfolding words_behind
behind_words-stop image at [] stop most before after some first = absurd (omega arith)
behind_words-stop image at (o ∷ os) stop most before after some first =
    stopped ℕ image (λ i. pointer i at o) (λ i. words_of_pointer i at o) (λ i p. words_behind i (target p.value) os)
    stop most before after first

-- what was read before is no more than all that is read
no_more : {A : Type 0} (image : Option Image) (words : Image → ℕ) (a : A) (most before : ℕ) → StepsOf words image (Ok a) most before before
no_more None words a most before = tt
no_more (Some image) words a most before = omega arith

pub reached_words-null : (image : Option Image) (at : ℕ) (offsets : List ℕ) (p : Number) (end : Reached) (most before after : ℕ)
    → 1 ≤ length offsets → AnswersAs {A = Number} (λ i. pointer i at (slice_index_or offsets 0 0)) image (Ok p)
    → StepsOf {A = Number} (λ i. words_of_pointer i at (slice_index_or offsets 0 0)) image (Ok p) most before after
    → StepsOf (λ i. words_reached i at offsets) image (Ok end) most before after
unfolding words_reached
reached_words-null image at [] p end most before after some here first = absurd (omega arith)
reached_words-null image at (o ∷ os) p end most before after some here first =
    let rest : Image → Number → ℕ = λ i p. words_unless_null p (λ next. words_reached i next os) in
    read_on image (λ i. pointer i at o) (λ i. words_of_pointer i at o) rest
    p (Ok end) most before after after here first (no_more image (λ i. rest i p) end most after)

pub reached_words-next : (image : Option Image) (at : ℕ) (offsets : List ℕ) (p : Number) (next : ℕ) (r : Result Reached Stop)
    (most before between after : ℕ) → 1 ≤ length offsets
    → AnswersAs {A = Number} (λ i. pointer i at (slice_index_or offsets 0 0)) image (Ok p) → next ≡ target p.value → next ≢ 0
    → StepsOf {A = Number} (λ i. words_of_pointer i at (slice_index_or offsets 0 0)) image (Ok p) most before between
    → StepsOf (λ i. words_reached i next (drop 1 offsets)) image r most between after
    → StepsOf (λ i. words_reached i at offsets) image r most before after
unfolding words_reached
reached_words-next image at [] p next r most before between after some here to real first second = absurd (omega arith)
reached_words-next image at (o ∷ os) p next r most before between after some here to real first second =
    let P : ℕ → Type 0 = λ n. StepsOf (λ i. if nat_eq n 0 then 0 else words_reached i n os) image r most between after in
    let other : false ≡ nat_eq next 0 = sym (ne_eqb next 0 real) in
    let Q : Bool → Type 0 = λ b. StepsOf (λ i. if b then 0 else words_reached i next os) image r most between after in
    read_on image (λ i. pointer i at o) (λ i. words_of_pointer i at o) (λ i p. words_unless_null p (λ next. words_reached i next os))
    p r most before between after here first (subst P to (subst Q other second))

pub reached_words-stop : (image : Option Image) (at : ℕ) (offsets : List ℕ) (stop : Stop) (most before after : ℕ)
    → 1 ≤ length offsets
    → StepsOf {A = Number} (λ i. words_of_pointer i at (slice_index_or offsets 0 0)) image (Err stop) most before after
    → StepsOf {A = Reached} (λ i. words_reached i at offsets) image (Err stop) most before after
unfolding words_reached
reached_words-stop image at [] stop most before after some first = absurd (omega arith)
reached_words-stop image at (o ∷ os) stop most before after some first =
    stopped Reached image (λ i. pointer i at o) (λ i. words_of_pointer i at o) (λ i p. words_unless_null p (λ next. words_reached i next os))
    stop most before after first
