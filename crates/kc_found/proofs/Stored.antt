-- Words taken in blocks.
use Rattle.std.proofs.Common.{◌≡◌, ℕ, ◌+◌, ◌*◌, ◌/◌, ◌%◌, ◌<◌, ◌≤◌, ◌≢◌, nat_eq, Bool, true, false, cond, List, [], ◌∷◌, length, set, drop, get_or, not, if◌then◌else◌, replicate, refl, sym, ◌∙◌, ap, arith, zero, suc}
use Rattle.std.proofs.lemmas.Bool.Decides.{nat_tests}
use Rattle.std.proofs.lemmas.List.{get_or-replicate}
use Rattle.kc_found.proofs.Rising.{one_longer}
use Rattle.kc_found.specs.declared.blocks.Block.{Block}
use Rattle.kc_found.specs.Taken.{is_taken, with_word}
use Rattle.kc_found.specs.Blocks.{free, none, with_words, with_block, with_blocks, Misses, MissesBlock}

-- two words, in either order
pub in_either_order : (xs : List ℕ) (p q : ℕ) → with_word (with_word xs p) q ≡ with_word (with_word xs q) p
in_either_order [] p q = grind (arith, nat_tests)
in_either_order (x ∷ xs) p q = grind (arith, nat_tests, in_either_order xs p q)

pub taken_then : (xs : List ℕ) (p : ℕ) → is_taken (with_word xs p) p ≡ true
taken_then [] p = grind (arith, nat_tests)
taken_then (x ∷ xs) p = grind (arith, nat_tests, taken_then xs p)

pub stays_taken : (xs : List ℕ) (p q : ℕ) → is_taken xs q ≡ true → is_taken (with_word xs p) q ≡ true
stays_taken [] p q is = grind (arith, nat_tests)
stays_taken (x ∷ xs) p q is = grind (arith, nat_tests, stays_taken xs p q)

pub stays_new : (xs : List ℕ) (p q : ℕ) → is_taken xs q ≡ false → q ≢ p → is_taken (with_word xs p) q ≡ false
stays_new [] p q is other = grind (arith, nat_tests)
stays_new (x ∷ xs) p q is other = grind (arith, nat_tests, stays_new xs p q)

-- a word more before a block's words, or after them
pub words_then : (flags : List Bool) (taken : List ℕ) (pa p : ℕ) → with_words (with_word taken p) pa flags ≡ with_word (with_words taken pa flags) p
unfolding with_words
words_then [] taken pa p = refl
words_then (true ∷ more) taken pa p = ap (λ t. with_words t (pa + 8) more) (in_either_order taken p pa) ∙ words_then more (with_word taken pa) (pa + 8) p
words_then (false ∷ more) taken pa p = words_then more taken (pa + 8) p

pub block_then : (taken : List ℕ) (block : Block) (p : ℕ) → with_block (with_word taken p) block ≡ with_word (with_block taken block) p
unfolding with_block
block_then taken block p = elim (nat_eq block.number none) as (λ b. cond b (with_word taken p) (with_words (with_word taken p) (64 * block.number) block.words) ≡ with_word (cond b taken (with_words taken (64 * block.number) block.words)) p) [ true ↦ refl | false ↦ words_then block.words taken (64 * block.number) p ]

pub blocks_then : (blocks : List Block) (taken : List ℕ) (p : ℕ) → with_blocks (with_word taken p) blocks ≡ with_word (with_blocks taken blocks) p
unfolding with_blocks
blocks_then [] taken p = refl
blocks_then (block ∷ more) taken p = ap (λ t. with_blocks t more) (block_then taken block p) ∙ blocks_then more (with_block taken block) p

-- a flag set is a word more
pub flag_set : (flags : List Bool) (taken : List ℕ) (pa k : ℕ) → k < length flags → get_or flags k false ≡ false → with_words taken pa (set flags k true) ≡ with_word (with_words taken pa flags) (pa + 8 * k)
unfolding with_words
flag_set [] taken pa k within is = absurd (omega arith)
flag_set (true ∷ more) taken pa zero within is = absurd (cc)
flag_set (false ∷ more) taken pa zero within is = let here : pa + 8 * 0 ≡ pa = omega arith in rw here (words_then more taken (pa + 8) pa)
flag_set (is-set ∷ more) taken pa (suc k) within is =
    let there : pa + 8 * suc k ≡ (pa + 8) + 8 * k = omega arith in
    rw there (flag_set more (cond is-set (with_word taken pa) taken) (pa + 8) k (omega arith) is)

-- a block in another's place, with a word more, is a word more in all
pub block_set : (blocks : List Block) (taken : List ℕ) (place : ℕ) (block : Block) (p : ℕ) → place < length blocks → ((t : List ℕ) → with_block t block ≡ with_word (with_block t (get_or blocks place free)) p) → with_blocks taken (set blocks place block) ≡ with_word (with_blocks taken blocks) p
unfolding with_blocks
block_set [] taken place block p within one = absurd (omega arith)
block_set (first ∷ more) taken zero block p within one = ap (λ t. with_blocks t more) (one taken) ∙ blocks_then more (with_block taken first) p
block_set (first ∷ more) taken (suc place) block p within one = block_set more (with_block taken first) place block p (omega arith) one

-- a block in a free place is as the block after all others
pub words_over : (flags : List Bool) (blocks : List Block) (taken : List ℕ) (pa : ℕ) → with_blocks (with_words taken pa flags) blocks ≡ with_words (with_blocks taken blocks) pa flags
unfolding with_words
words_over [] blocks taken pa = refl
words_over (true ∷ more) blocks taken pa = words_over more blocks (with_word taken pa) (pa + 8) ∙ ap (λ t. with_words t (pa + 8) more) (blocks_then blocks taken pa)
words_over (false ∷ more) blocks taken pa = words_over more blocks taken (pa + 8)

pub block_over : (block : Block) (blocks : List Block) (taken : List ℕ) → with_blocks (with_block taken block) blocks ≡ with_block (with_blocks taken blocks) block
unfolding with_block
block_over block blocks taken = elim (nat_eq block.number none) as (λ b. with_blocks (cond b taken (with_words taken (64 * block.number) block.words)) blocks ≡ cond b (with_blocks taken blocks) (with_words (with_blocks taken blocks) (64 * block.number) block.words)) [ true ↦ refl | false ↦ words_over block.words blocks taken (64 * block.number) ]

pub nothing_free : (taken : List ℕ) (block : Block) → block.number ≡ none → with_block taken block ≡ taken
unfolding with_block
nothing_free taken block is = rw is refl

pub block_put : (blocks : List Block) (taken : List ℕ) (place : ℕ) (block : Block) → place < length blocks → (get_or blocks place free).number ≡ none → with_blocks taken (set blocks place block) ≡ with_block (with_blocks taken blocks) block
unfolding with_blocks
block_put [] taken place block within is = absurd (omega arith)
block_put (first ∷ more) taken zero block within is = block_over block more taken ∙ sym (ap (λ t. with_block (with_blocks t more) block) (nothing_free taken first is))
block_put (first ∷ more) taken (suc place) block within is = block_put more (with_block taken first) place block (omega arith) is

pub nothing_in : (n : ℕ) (block : Block) (taken : List ℕ) → block.number ≡ none → with_blocks taken (replicate n block) ≡ taken
unfolding with_blocks
nothing_in zero block taken is = refl
nothing_in (suc n) block taken is = ap (λ t. with_blocks t (replicate n block)) (nothing_free taken block is) ∙ nothing_in n block taken is

-- what is taken stays so
pub words_stay : (flags : List Bool) (taken : List ℕ) (pa p : ℕ) → is_taken taken p ≡ true → is_taken (with_words taken pa flags) p ≡ true
unfolding with_words
words_stay [] taken pa p is = is
words_stay (true ∷ more) taken pa p is = words_stay more (with_word taken pa) (pa + 8) p (stays_taken taken pa p is)
words_stay (false ∷ more) taken pa p is = words_stay more taken (pa + 8) p is

pub block_stays : (taken : List ℕ) (block : Block) (p : ℕ) → is_taken taken p ≡ true → is_taken (with_block taken block) p ≡ true
unfolding with_block
block_stays taken block p is = elim (nat_eq block.number none) as (λ b. is_taken (cond b taken (with_words taken (64 * block.number) block.words)) p ≡ true) [ true ↦ is | false ↦ words_stay block.words taken (64 * block.number) p is ]

pub blocks_stay : (blocks : List Block) (taken : List ℕ) (p : ℕ) → is_taken taken p ≡ true → is_taken (with_blocks taken blocks) p ≡ true
unfolding with_blocks
blocks_stay [] taken p is = is
blocks_stay (block ∷ more) taken p is = blocks_stay more (with_block taken block) p (block_stays taken block p is)

-- a word whose flag is set is taken
pub flag_takes : (flags : List Bool) (taken : List ℕ) (pa k : ℕ) → k < length flags → get_or flags k false ≡ true → is_taken (with_words taken pa flags) (pa + 8 * k) ≡ true
unfolding with_words
flag_takes [] taken pa k within is = absurd (omega arith)
flag_takes (false ∷ more) taken pa zero within is = absurd (cc)
flag_takes (true ∷ more) taken pa zero within is = let here : pa + 8 * 0 ≡ pa = omega arith in rw here (words_stay more (with_word taken pa) (pa + 8) pa (taken_then taken pa))
flag_takes (is-set ∷ more) taken pa (suc k) within is =
    let there : pa + 8 * suc k ≡ (pa + 8) + 8 * k = omega arith in
    rw there (flag_takes more (cond is-set (with_word taken pa) taken) (pa + 8) k (omega arith) is)

pub block_takes : (taken : List ℕ) (block : Block) (k : ℕ) → nat_eq block.number none ≡ false → k < length block.words → get_or block.words k false ≡ true → is_taken (with_block taken block) (64 * block.number + 8 * k) ≡ true
unfolding with_block
block_takes taken block k some within is = rw some (flag_takes block.words taken (64 * block.number) k within is)

pub blocks_take : (blocks : List Block) (taken : List ℕ) (place k : ℕ) → place < length blocks → nat_eq (get_or blocks place free).number none ≡ false → k < length (get_or blocks place free).words → get_or (get_or blocks place free).words k false ≡ true → is_taken (with_blocks taken blocks) (64 * (get_or blocks place free).number + 8 * k) ≡ true
unfolding with_blocks
blocks_take [] taken place k inside some within is = absurd (omega arith)
blocks_take (block ∷ more) taken zero k inside some within is = blocks_stay more (with_block taken block) _ (block_takes taken block k some within is)
blocks_take (block ∷ more) taken (suc place) k inside some within is = blocks_take more (with_block taken block) place k (omega arith) some within is

-- a word that no flag names isn't taken
pub flags_miss : (flags : List Bool) (taken : List ℕ) (pa p : ℕ) → ((k : ℕ) → k < length flags → get_or flags k false ≡ true → p ≢ pa + 8 * k) → is_taken taken p ≡ false → is_taken (with_words taken pa flags) p ≡ false
unfolding with_words
flags_miss [] taken pa p misses is = is
flags_miss (true ∷ more) taken pa p misses is =
    flags_miss more (with_word taken pa) (pa + 8) p (λ k within set-there same. misses (suc k) (omega arith) set-there (omega arith))
    (stays_new taken pa p is (λ same. misses 0 (omega arith) refl (omega arith)))
flags_miss (false ∷ more) taken pa p misses is = flags_miss more taken (pa + 8) p (λ k within set-there same. misses (suc k) (omega arith) set-there (omega arith)) is

pub misses_all : (blocks : List Block) (taken : List ℕ) (p : ℕ) → Misses blocks p → is_taken taken p ≡ false → is_taken (with_blocks taken blocks) p ≡ false
unfolding with_blocks
misses_all [] taken p misses is = is
misses_all (block ∷ more) taken p misses is = misses_all more (with_block taken block) p (record { each = λ place within. misses.each (suc place) (omega arith) }) (misses.each 0 (omega arith) taken is)

pub block_misses : (block : Block) (p : ℕ) → length block.words ≡ 8 → block.number ≢ p / 64 → MissesBlock block p
unfolding with_block
block_misses block p wide other taken is = elim (nat_eq block.number none) as (λ b. is_taken (cond b taken (with_words taken (64 * block.number) block.words)) p ≡ false) [ true ↦ is | false ↦ flags_miss block.words taken (64 * block.number) p (λ k within set-there same. other (omega arith)) is ]

pub flag_misses : (block : Block) (p k : ℕ) → p ≡ 64 * block.number + 8 * k → get_or block.words k false ≡ false → MissesBlock block p
unfolding with_block
flag_misses block p k at not-set taken is = elim (nat_eq block.number none) as (λ b. is_taken (cond b taken (with_words taken (64 * block.number) block.words)) p ≡ false) [ true ↦ is | false ↦ flags_miss block.words taken (64 * block.number) p (λ j within set-there same. let here : j ≡ k = omega arith in absurd (cc)) is ]

pub odd_block_misses : (block : Block) (p : ℕ) → p % 8 ≢ 0 → MissesBlock block p
unfolding with_block
odd_block_misses block p odd taken is = elim (nat_eq block.number none) as (λ b. is_taken (cond b taken (with_words taken (64 * block.number) block.words)) p ≡ false) [ true ↦ is | false ↦ flags_miss block.words taken (64 * block.number) p (λ k within set-there same. odd (omega arith)) is ]

-- what no block has is taken where it was
misses_by : (b : Bool) (blocks : List Block) (taken : List ℕ) (p : ℕ) → Misses blocks p → is_taken taken p ≡ b → is_taken (with_blocks taken blocks) p ≡ b
misses_by true blocks taken p misses is = blocks_stay blocks taken p is
misses_by false blocks taken p misses is = misses_all blocks taken p misses is

pub misses_same : (blocks : List Block) (taken : List ℕ) (p : ℕ) → Misses blocks p → is_taken (with_blocks taken blocks) p ≡ is_taken taken p
misses_same blocks taken p misses = misses_by (is_taken taken p) blocks taken p misses refl

-- the blocks from a place on: the first, then the others
pub next_block : (blocks : List Block) (i : ℕ) (d : Block) (taken : List ℕ) → i < length blocks → with_blocks taken (drop i blocks) ≡ with_blocks (with_block taken (get_or blocks i d)) (drop (i + 1) blocks)
unfolding with_blocks
next_block [] i d taken within = absurd (omega arith)
next_block (block ∷ more) zero d taken within = refl
next_block (block ∷ more) (suc i) d taken within = let e : suc i + 1 ≡ suc (i + 1) = omega arith in rw e (next_block more i d taken (omega arith))

pub no_more : (blocks : List Block) (i : ℕ) (taken : List ℕ) → length blocks ≤ i → with_blocks taken (drop i blocks) ≡ taken
unfolding with_blocks
no_more [] zero taken past = refl
no_more [] (suc i) taken past = refl
no_more (block ∷ more) zero taken past = absurd (omega arith)
no_more (block ∷ more) (suc i) taken past = no_more more i taken (omega arith)

pub any_default : (blocks : List Block) (i : ℕ) (d e : Block) → i < length blocks → get_or blocks i d ≡ get_or blocks i e
any_default [] i d e within = absurd (omega arith)
any_default (block ∷ more) zero d e within = refl
any_default (block ∷ more) (suc i) d e within = any_default more i d e (omega arith)

-- the address of a word by its block and its place there
apart : (p : ℕ) → p % 8 ≡ 0 → p ≡ 64 * (p / 64) + 8 * (p / 8 % 8)
apart p even = omega arith

-- a word whose flag is set is taken already
pub set_already : (blocks : List Block) (taken : List ℕ) (place p : ℕ) → place < length blocks → (get_or blocks place free).number ≡ p / 64 → nat_eq (p / 64) none ≡ false → p % 8 ≡ 0 → p / 8 % 8 < length (get_or blocks place free).words → get_or (get_or blocks place free).words (p / 8 % 8) false ≡ true → is_taken (with_blocks taken blocks) p ≡ true
set_already blocks taken place p inside same some even within is =
    let at : p ≡ 64 * (get_or blocks place free).number + 8 * (p / 8 % 8) = rw same (apart p even) in
    rw at (blocks_take blocks taken place (p / 8 % 8) inside (rw same some) within is)

-- a flag set in the block that stands there
pub mark_words : (blocks : List Block) (taken : List ℕ) (place p : ℕ) (words : List Bool) → place < length blocks → (get_or blocks place free).number ≡ p / 64 → (get_or blocks place free).words ≡ words → nat_eq (p / 64) none ≡ false → p % 8 ≡ 0 → p / 8 % 8 < length words → get_or words (p / 8 % 8) false ≡ false → with_blocks taken (set blocks place (record { number = p / 64; words = set words (p / 8 % 8) true })) ≡ with_word (with_blocks taken blocks) p
unfolding with_block
mark_words blocks taken place p words inside same alike some even within not-set =
    block_set blocks taken place (record { number = p / 64; words = set words (p / 8 % 8) true }) p inside
    (λ t. let old : with_block t (get_or blocks place free) ≡ with_words t (64 * (p / 64)) words = rw (same, alike, some) refl in
    rw (old, some) (flag_set words t (64 * (p / 64)) (p / 8 % 8) within not-set ∙ ap (with_word (with_words t (64 * (p / 64)) words)) (sym (apart p even))))

-- a block of one word in a free place
pub first_word : (blocks : List Block) (taken : List ℕ) (place p : ℕ) → place < length blocks → (get_or blocks place free).number ≡ none → nat_eq (p / 64) none ≡ false → p % 8 ≡ 0 → with_blocks taken (set blocks place (record { number = p / 64; words = set (replicate 8 false) (p / 8 % 8) true })) ≡ with_word (with_blocks taken blocks) p
unfolding with_block with_words
first_word blocks taken place p inside is some even =
    block_put blocks taken place (record { number = p / 64; words = set (replicate 8 false) (p / 8 % 8) true }) inside is
    ∙ rw some (flag_set (replicate 8 false) (with_blocks taken blocks) (64 * (p / 64)) (p / 8 % 8) (omega arith) (get_or-replicate 8 (p / 8 % 8) false false (omega arith)) ∙ ap (with_word (with_blocks taken blocks)) (sym (apart p even)))

-- a block that an address is in has a number
pub some_number : (p : ℕ) → p < 18446744073709551616 → nat_eq (p / 64) none ≡ false
some_number p fits = grind (arith, nat_tests)

not_so : (b : Bool) → true ≡ not b → b ≡ false
not_so true e = absurd (cc)
not_so false e = refl

-- one word more is counted
pub counted : (new : Bool) (old after : List ℕ) (p count : ℕ) → new ≡ true → new ≡ not (is_taken old p) → after ≡ (if new then with_word old p else old) → count ≡ length old + 1 → count ≡ length after
counted true old after p count is answer words one = one ∙ sym (ap length words ∙ one_longer old p (not_so (is_taken old p) answer))
counted false old after p count is answer words one = absurd (cc)
