-- The table of blocks.
use Rattle.std.proofs.Common.{◌≡◌, ℕ, ◌+◌, ◌/◌, ◌%◌, ◌<◌, ◌≤◌, ◌≢◌, ◌⊎◌, inl, inr, false, List, [], length, set, get_or, replicate, refl, sym, ◌∙◌, ap, subst, arith, zero, suc}
use Rattle.std.proofs.lemmas.List.{get_or-set_same, get_or-set_other, length-set, get_or-replicate, length-replicate}
use Rattle.kc_found.specs.declared.blocks.Block.{Block}
use Rattle.kc_found.specs.Blocks.{free, none, number_at, first_place, IsTable, Reaches, Misses}
use Rattle.kc_found.proofs.Stored.{block_misses, flag_misses, odd_block_misses}

pub none_stands : IsTable []
none_stands = record { reached = λ place within other. absurd (omega arith); eight = λ place within. absurd (omega arith) }

here_or_not : (i place : ℕ) → (i ≡ place) ⊎ (i ≢ place)
here_or_not zero zero = inl refl
here_or_not zero (suc place) = inr (λ e. omega arith)
here_or_not (suc i) zero = inr (λ e. omega arith)
here_or_not (suc i) (suc place) = elim (here_or_not i place) [ inl e ↦ inl (ap suc e) | inr other ↦ inr (λ e. other (omega arith)) ]

-- where the numbers are the same, the places are reached the same
along : (blocks others : List Block) (number place : ℕ) → length others ≡ length blocks → ((i : ℕ) → i < place → number_at others i ≡ number_at blocks i) → Reaches blocks number place → Reaches others number place
along blocks others number place long same here = record {
  from = rw long (here.from);
  within = rw long (here.within);
  near = rw long (here.near);
  others = λ i from before. let one : first_place number (length blocks) ≤ i = rw (sym long) from in rw (same i before) (here.others i one before);
}

-- a block in a free place leaves what was reached
still_reached : (blocks : List Block) (place : ℕ) (block : Block) (number i : ℕ) → number_at blocks place ≡ none → Reaches blocks number i → Reaches (set blocks place block) number i
still_reached blocks place block number i is here = record {
  from = rw (length-set blocks place block) (here.from);
  within = rw (length-set blocks place block) (here.within);
  near = rw (length-set blocks place block) (here.near);
  others = λ j from before.
      let one : first_place number (length blocks) ≤ j = rw (sym (length-set blocks place block)) from in
      let both = here.others j one before in
      let apart : j ≢ place = λ e. both.1 (ap (number_at blocks) e ∙ is) in
      let kept : number_at (set blocks place block) j ≡ number_at blocks j = ap (λ b. b.number) (get_or-set_other blocks place j block free apart) in
      rw kept both;
}

pub put_in : (blocks : List Block) (place : ℕ) (block : Block) → IsTable blocks → Reaches blocks block.number place → number_at blocks place ≡ none → length block.words ≡ 8 → IsTable (set blocks place block)
put_in blocks place block table here is wide = record {
  reached = λ i within some. elim (here_or_not i place) [
    | inl e ↦
        let put : number_at (set blocks place block) i ≡ block.number = ap (number_at (set blocks place block)) e ∙ ap (λ b. b.number) (get_or-set_same blocks place block free here.within) in
        rw put (subst (λ j. Reaches (set blocks place block) block.number j) (sym e) (still_reached blocks place block block.number place is here))
    | inr apart ↦
        let kept : number_at (set blocks place block) i ≡ number_at blocks i = ap (λ b. b.number) (get_or-set_other blocks place i block free apart) in
        rw kept (still_reached blocks place block (number_at blocks i) i is (table.reached i (rw (sym (length-set blocks place block)) within) (λ e. some (kept ∙ e))))
  ];
  eight = λ i within. elim (here_or_not i place) [
    | inl e ↦ rw (e, get_or-set_same blocks place block free here.within) wide
    | inr apart ↦ rw (get_or-set_other blocks place i block free apart) (table.eight i (rw (sym (length-set blocks place block)) within))
  ];
}

-- other words of a block leave all numbers
numbers_stay : (blocks : List Block) (place : ℕ) (block : Block) → place < length blocks → block.number ≡ number_at blocks place → (i : ℕ) → number_at (set blocks place block) i ≡ number_at blocks i
numbers_stay blocks place block within is i = elim (here_or_not i place) [
  | inl e ↦ ap (number_at (set blocks place block)) e ∙ (ap (λ b. b.number) (get_or-set_same blocks place block free within) ∙ (is ∙ sym (ap (number_at blocks) e)))
  | inr apart ↦ ap (λ b. b.number) (get_or-set_other blocks place i block free apart)
]

pub marked_in : (blocks : List Block) (place : ℕ) (block : Block) → IsTable blocks → place < length blocks → block.number ≡ number_at blocks place → length block.words ≡ 8 → IsTable (set blocks place block)
marked_in blocks place block table inside is wide =
    let stay = numbers_stay blocks place block inside is in record {
      reached = λ i within some. rw (stay i) (along blocks (set blocks place block) (number_at blocks i) i (length-set blocks place block) (λ j before. stay j) (table.reached i (rw (sym (length-set blocks place block)) within) (λ e. some (stay i ∙ e))));
      eight = λ i within. elim (here_or_not i place) [
        | inl e ↦ rw (e, get_or-set_same blocks place block free inside) wide
        | inr apart ↦ rw (get_or-set_other blocks place i block free apart) (table.eight i (rw (sym (length-set blocks place block)) within))
      ];
    }

-- a number whose place is free stands nowhere
nowhere_else : (blocks : List Block) (number place : ℕ) → IsTable blocks → Reaches blocks number place → number_at blocks place ≡ none → number ≢ none → (i : ℕ) → i < length blocks → number_at blocks i ≢ number
nowhere_else blocks number place table here is some i within same =
    let there : Reaches blocks number i = subst (λ n. Reaches blocks n i) same (table.reached i within (λ e. some (sym same ∙ e))) in
    grind (arith, here.others i, there.others place, there.from, here.from)

-- and one that isn't in its window
beyond_window : (blocks : List Block) (number : ℕ) → IsTable blocks → ((i : ℕ) → first_place number (length blocks) ≤ i → i < length blocks → i < first_place number (length blocks) + 128 → number_at blocks i ≢ number) → number ≢ none → (i : ℕ) → i < length blocks → number_at blocks i ≢ number
beyond_window blocks number table not-near some i within same =
    let there : Reaches blocks number i = subst (λ n. Reaches blocks n i) same (table.reached i within (λ e. some (sym same ∙ e))) in
    not-near i there.from within there.near same

-- a number stands at one place
only_here : (blocks : List Block) (number place : ℕ) → IsTable blocks → Reaches blocks number place → number_at blocks place ≡ number → number ≢ none → (i : ℕ) → i < length blocks → number_at blocks i ≡ number → i ≡ place
only_here blocks number place table here is some i within same =
    let there : Reaches blocks number i = subst (λ n. Reaches blocks n i) same (table.reached i within (λ e. some (sym same ∙ e))) in
    grind (arith, here.others i, there.others place, there.from, here.from)

pub free_misses : (blocks : List Block) (pa place : ℕ) → IsTable blocks → Reaches blocks (pa / 64) place → number_at blocks place ≡ none → pa / 64 ≢ none → Misses blocks pa
free_misses blocks pa place table here is some = record { each = λ i within. block_misses (get_or blocks i free) pa (table.eight i within) (nowhere_else blocks (pa / 64) place table here is some i within) }

pub nowhere_misses : (blocks : List Block) (pa : ℕ) → IsTable blocks → ((i : ℕ) → first_place (pa / 64) (length blocks) ≤ i → i < length blocks → i < first_place (pa / 64) (length blocks) + 128 → number_at blocks i ≢ pa / 64) → pa / 64 ≢ none → Misses blocks pa
nowhere_misses blocks pa table beyond some = record { each = λ i within. block_misses (get_or blocks i free) pa (table.eight i within) (beyond_window blocks (pa / 64) table beyond some i within) }

pub flag_is_all : (blocks : List Block) (pa place : ℕ) → IsTable blocks → Reaches blocks (pa / 64) place → number_at blocks place ≡ pa / 64 → pa / 64 ≢ none → pa % 8 ≡ 0 → get_or (get_or blocks place free).words (pa / 8 % 8) false ≡ false → Misses blocks pa
flag_is_all blocks pa place table here is some even not-set = record {
  each = λ i within. elim (here_or_not i place) [
    | inl e ↦ rw e (flag_misses (get_or blocks place free) pa (pa / 8 % 8) (omega (arith, is)) not-set)
    | inr apart ↦ block_misses (get_or blocks i free) pa (table.eight i within) (λ same. apart (only_here blocks (pa / 64) place table here is some i within same))
  ];
}

pub all_free : (n : ℕ) (block : Block) → block.number ≡ none → length block.words ≡ 8 → IsTable (replicate n block)
all_free n block is wide = record {
  reached = λ place within some. absurd (some (ap (λ b. b.number) (get_or-replicate n place block free (omega (arith, within, length-replicate n block))) ∙ is));
  eight = λ place within. rw (get_or-replicate n place block free (omega (arith, within, length-replicate n block))) wide;
}

-- an address that isn't a multiple of 8 is in no block
pub odd_misses : (blocks : List Block) (pa : ℕ) → pa % 8 ≢ 0 → Misses blocks pa
odd_misses blocks pa odd = record { each = λ i within. odd_block_misses (get_or blocks i free) pa odd }
