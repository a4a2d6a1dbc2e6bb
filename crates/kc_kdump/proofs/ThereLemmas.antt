-- The pages that are in the file, block by block of their descriptors.
use Rattle.std.proofs.Common.{◌≡◌, ℕ, zero, suc, ◌+◌, ◌-◌, ◌*◌, ◌≤◌, ◌<◌, min, Bool, true, false, ◌&&◌, nat_eq, nat_le, List, take, drop, Option, Some, None, IfSome, refl, sym, ap, ◌∙◌, subst, arith}
use Rattle.std.proofs.lemmas.Bool.{cond-true, cond-false, eqb-true, eqb-false, le-leb, lt-leb, leb-true, leb-false}
use Rattle.std.proofs.lemmas.List.{drop-drop, drop-take, take-take}
use Rattle.kc_outside.specs.Files.{HasPart}
use Rattle.kc_kdump.specs.declared.layout.Layout.{Layout}
use Rattle.kc_kdump.specs.Bytes.{part}
use Rattle.kc_kdump.specs.Dump.{descriptor_at, descriptor_of, is_inside, is_there, there_from}
use Rattle.kc_kdump.specs.Header.{table_in}

by_test : {P : Type 0} (b : Bool) → (b ≡ true → P) → (b ≡ false → P) → P
by_test true f g = f refl
by_test false f g = g refl

-- ---- one page

there_on : (size : ℕ) (layout : Layout) (bytes : List ℕ) (index n : ℕ) → is_there size layout bytes index ≡ true → there_from size layout bytes index (suc n) ≡ there_from size layout bytes (index + 1) n
unfolding there_from
there_on size layout bytes index n is = cond-true _ _ _ is

there_off : (size : ℕ) (layout : Layout) (bytes : List ℕ) (index n : ℕ) → is_there size layout bytes index ≡ false → there_from size layout bytes index (suc n) ≡ index
unfolding there_from
there_off size layout bytes index n is = cond-false _ _ _ is

there_none : (size : ℕ) (layout : Layout) (bytes : List ℕ) (index n : ℕ) → n ≡ 0 → there_from size layout bytes index n ≡ index
unfolding there_from
there_none size layout bytes index zero none = refl
there_none size layout bytes index (suc n) none = absurd (omega (arith, none))

in_table : (size : ℕ) (layout : Layout) (bytes : List ℕ) (index : ℕ) → table_in layout + 24 * (index + 1) ≤ size → is_there size layout bytes index ≡ is_inside size (descriptor_at layout bytes index)
unfolding is_there
in_table size layout bytes index here = ap (λ (b : Bool). b && is_inside size (descriptor_at layout bytes index)) (le-leb (table_in layout + 24 * (index + 1)) size here)

past_table : (size : ℕ) (layout : Layout) (bytes : List ℕ) (index : ℕ) → size < table_in layout + 24 * (index + 1) → is_there size layout bytes index ≡ false
unfolding is_there
past_table size layout bytes index past = ap (λ (b : Bool). b && is_inside size (descriptor_at layout bytes index)) (lt-leb (table_in layout + 24 * (index + 1)) size past)

-- ---- the first pages of a block

-- a descriptor in a block of them
block_part : (table index many k : ℕ) (bytes : List ℕ) → k < many → part (24 * k) 24 (part (table + 24 * index) (24 * many) bytes) ≡ part (table + 24 * (index + k)) 24 bytes
block_part table index many k bytes here =
    let rest = drop (table + 24 * index) bytes in
    let split : 24 * many ≡ 24 * k + (24 * many - 24 * k) = omega arith in
    let at : table + 24 * index + 24 * k ≡ table + 24 * (index + k) = omega arith in
    ap (λ (n : ℕ). take 24 (drop (24 * k) (take n rest))) split
    ∙ ap (take 24) (drop-take (24 * k) (24 * many - 24 * k) rest)
    ∙ take-take 24 (24 * many - 24 * k) (drop (24 * k) rest) (omega arith)
    ∙ ap (take 24) (drop-drop (24 * k) (table + 24 * index) bytes)
    ∙ ap (λ (n : ℕ). take 24 (drop n bytes)) at

first_there : (size : ℕ) (layout : Layout) (bytes : List ℕ) (n many index : ℕ) → n ≤ many → ((k : ℕ) → k < n → is_there size layout bytes (index + k) ≡ true)
    → (n < many → is_there size layout bytes (index + n) ≡ false) → index + n ≡ there_from size layout bytes index many
first_there size layout bytes zero zero index few each next = let sum : index + 0 ≡ index = omega arith in sum ∙ sym (there_none size layout bytes index 0 refl)
first_there size layout bytes zero (suc many) index few each next =
    let sum : index + 0 ≡ index = omega arith in
    sum ∙ sym (there_off size layout bytes index many (subst (λ (i : ℕ). is_there size layout bytes i ≡ false) sum (next (omega arith))))
first_there size layout bytes (suc n) zero index few each next = absurd (omega arith)
first_there size layout bytes (suc n) (suc many) index few each next =
    let sum : index + 0 ≡ index = omega arith in
    let last : index + suc n ≡ index + 1 + n = omega arith in
    last
    ∙ first_there size layout bytes n many (index + 1) (omega arith)
    (λ k here. let at : index + suc k ≡ index + 1 + k = omega arith in subst (λ (i : ℕ). is_there size layout bytes i ≡ true) at (each (suc k) (omega arith)))
    (λ less. subst (λ (i : ℕ). is_there size layout bytes i ≡ false) last (next (omega arith)))
    ∙ sym (there_on size layout bytes index many (subst (λ (i : ℕ). is_there size layout bytes i ≡ true) sum (each 0 (omega arith))))

-- of a block of descriptors that was read
pub block_first : (content : Option (List ℕ)) (size : ℕ) (layout : Layout) (block : List ℕ) (index many n off count : ℕ) → table_in layout + 24 * (index + many) ≤ size
    → off ≡ table_in layout + 24 * index → count ≡ 24 * many → HasPart content off count block → n ≤ many
    → ((k : ℕ) → k < n → is_inside size (descriptor_of (part (24 * k) 24 block)) ≡ true)
    → (24 * (n + 1) ≤ 24 * many → is_inside size (descriptor_of (part (24 * n) 24 block)) ≡ false)
    → IfSome content (λ bytes. index + n ≡ there_from size layout bytes index many)
block_first None size layout block index many n off count inside at long read few each next = tt
block_first (Some bytes) size layout block index many n off count inside at long read few each next =
    let block_is : block ≡ part (table_in layout + 24 * index) (24 * many) bytes = read ∙ ap (λ (k : ℕ). take k (drop off bytes)) long ∙ ap (λ (k : ℕ). take (24 * many) (drop k bytes)) at in
    let one : (k : ℕ) → k < many → is_there size layout bytes (index + k) ≡ is_inside size (descriptor_of (part (24 * k) 24 block)) = λ k here.
    in_table size layout bytes (index + k) (omega arith)
    ∙ ap (λ (b : List ℕ). is_inside size (descriptor_of b)) (sym (block_part (table_in layout) index many k bytes here))
    ∙ ap (λ (b : List ℕ). is_inside size (descriptor_of (part (24 * k) 24 b))) (sym block_is) in
    first_there size layout bytes n many index few (λ k here. one k (omega arith) ∙ each k here) (λ less. one n less ∙ next (omega arith))

-- ---- a block, and the pages after it

split_on : (size : ℕ) (layout : Layout) (bytes : List ℕ) (n rest index : ℕ) → there_from size layout bytes index n ≡ index + n
    → there_from size layout bytes index (n + rest) ≡ there_from size layout bytes (index + n) rest
split_on size layout bytes zero rest index whole =
    let one : 0 + rest ≡ rest = omega arith in
    let two : index ≡ index + 0 = omega arith in
    ap (λ (k : ℕ). there_from size layout bytes index k) one ∙ ap (λ (k : ℕ). there_from size layout bytes k rest) two
split_on size layout bytes (suc n) rest index whole =
    let sum : suc n + rest ≡ suc (n + rest) = omega arith in
    let last : index + 1 + n ≡ index + suc n = omega arith in
    by_test (is_there size layout bytes index)
    (λ on.
    ap (λ (k : ℕ). there_from size layout bytes index k) sum
    ∙ there_on size layout bytes index (n + rest) on
    ∙ split_on size layout bytes n rest (index + 1) (sym (there_on size layout bytes index n on) ∙ whole ∙ sym last)
    ∙ ap (λ (k : ℕ). there_from size layout bytes k rest) last)
    (λ off. absurd (omega (arith, there_off size layout bytes index n off, whole)))

split_off : (size : ℕ) (layout : Layout) (bytes : List ℕ) (n rest index : ℕ) → there_from size layout bytes index n < index + n
    → there_from size layout bytes index (n + rest) ≡ there_from size layout bytes index n
split_off size layout bytes zero rest index less = absurd (omega (arith, there_none size layout bytes index 0 refl, less))
split_off size layout bytes (suc n) rest index less =
    let sum : suc n + rest ≡ suc (n + rest) = omega arith in
    by_test (is_there size layout bytes index)
    (λ on.
    ap (λ (k : ℕ). there_from size layout bytes index k) sum
    ∙ there_on size layout bytes index (n + rest) on
    ∙ split_off size layout bytes n rest (index + 1) (omega (arith, there_on size layout bytes index n on, less))
    ∙ sym (there_on size layout bytes index n on))
    (λ off.
    ap (λ (k : ℕ). there_from size layout bytes index k) sum
    ∙ there_off size layout bytes index (n + rest) off
    ∙ sym (there_off size layout bytes index n off))

-- no page past a block is counted with it
few_there : (size : ℕ) (layout : Layout) (bytes : List ℕ) (n index : ℕ) → there_from size layout bytes index n ≤ index + n
few_there size layout bytes zero index = omega (arith, there_none size layout bytes index 0 refl)
few_there size layout bytes (suc n) index =
    by_test (is_there size layout bytes index)
    (λ on. omega (arith, there_on size layout bytes index n on, few_there size layout bytes n (index + 1)))
    (λ off. omega (arith, there_off size layout bytes index n off))

-- a block that is all there, one that isn't, and the end
pub block_on : (content one : Option (List ℕ)) (size : ℕ) (layout : Layout) (index many end most : ℕ) → one ≡ content → end ≡ index + many → index + many ≤ most
    → IfSome one (λ bytes. end ≡ there_from size layout bytes index many)
    → IfSome content (λ bytes. there_from size layout bytes index (most - index) ≡ there_from size layout bytes 0 most)
    → IfSome content (λ bytes. there_from size layout bytes end (most - end) ≡ there_from size layout bytes 0 most)
block_on None one size layout index many end most same whole within told before = tt
block_on (Some bytes) one size layout index many end most same whole within told before =
    let now : end ≡ there_from size layout bytes index many = subst (λ (t : Option (List ℕ)). IfSome t (λ b. end ≡ there_from size layout b index many)) same told in
    let left : many + (most - end) ≡ most - index = omega (arith, whole) in
    ap (λ (k : ℕ). there_from size layout bytes k (most - end)) whole
    ∙ sym (split_on size layout bytes many (most - end) index (sym now ∙ whole))
    ∙ ap (λ (k : ℕ). there_from size layout bytes index k) left
    ∙ before

pub block_off : (content one : Option (List ℕ)) (size : ℕ) (layout : Layout) (index many end most : ℕ) → one ≡ content → end < index + many → index + many ≤ most
    → IfSome one (λ bytes. end ≡ there_from size layout bytes index many)
    → IfSome content (λ bytes. there_from size layout bytes index (most - index) ≡ there_from size layout bytes 0 most)
    → IfSome content (λ bytes. end ≡ there_from size layout bytes 0 most)
block_off None one size layout index many end most same less within told before = tt
block_off (Some bytes) one size layout index many end most same less within told before =
    let now : end ≡ there_from size layout bytes index many = subst (λ (t : Option (List ℕ)). IfSome t (λ b. end ≡ there_from size layout b index many)) same told in
    let left : many + (most - index - many) ≡ most - index = omega arith in
    now
    ∙ sym (split_off size layout bytes many (most - index - many) index (omega (arith, now, less)))
    ∙ ap (λ (k : ℕ). there_from size layout bytes index k) left
    ∙ before

pub blocks_end : (content : Option (List ℕ)) (size : ℕ) (layout : Layout) (index most : ℕ) → most ≤ index
    → IfSome content (λ bytes. there_from size layout bytes index (most - index) ≡ there_from size layout bytes 0 most)
    → IfSome content (λ bytes. index ≡ there_from size layout bytes 0 most)
blocks_end None size layout index most past before = tt
blocks_end (Some bytes) size layout index most past before = sym (there_none size layout bytes index (most - index) (omega arith)) ∙ before

-- ---- pages whose descriptors aren't in the file aren't there

beyond : (size : ℕ) (layout : Layout) (bytes : List ℕ) (pages fits : ℕ) → size < table_in layout + 24 * (fits + 1)
    → there_from size layout bytes 0 (min pages fits) ≡ there_from size layout bytes 0 pages
beyond size layout bytes pages fits past =
    by_test (nat_le pages fits)
    (λ few.
    let all : min pages fits ≡ pages = omega (arith, leb-true pages fits few) in
    ap (λ (k : ℕ). there_from size layout bytes 0 k) all)
    (λ many.
    let more : fits < pages = leb-false pages fits many in
    let some : min pages fits ≡ fits = omega arith in
    let rest : fits + suc (pages - fits - 1) ≡ pages = omega arith in
    let none : 0 + fits ≡ fits = omega arith in
    ap (λ (k : ℕ). there_from size layout bytes 0 k) some
    ∙ by_test (nat_eq (there_from size layout bytes 0 fits) fits)
    (λ on.
    let all = eqb-true (there_from size layout bytes 0 fits) fits on in
    all
    ∙ sym (there_off size layout bytes fits (pages - fits - 1) (past_table size layout bytes fits past))
    ∙ sym (ap (λ (k : ℕ). there_from size layout bytes k (suc (pages - fits - 1))) none)
    ∙ sym (split_on size layout bytes fits (suc (pages - fits - 1)) 0 (all ∙ sym none)))
    (λ off.
    let less : there_from size layout bytes 0 fits < 0 + fits = omega (arith, eqb-false (there_from size layout bytes 0 fits) fits off, few_there size layout bytes fits 0) in
    sym (split_off size layout bytes fits (suc (pages - fits - 1)) 0 less))
    ∙ ap (λ (k : ℕ). there_from size layout bytes 0 k) rest)

pub first_all : (content : Option (List ℕ)) (size : ℕ) (layout : Layout) (n pages most fits : ℕ) → most ≡ min pages fits → size < table_in layout + 24 * (fits + 1)
    → IfSome content (λ bytes. n ≡ there_from size layout bytes 0 most) → IfSome content (λ bytes. n ≡ there_from size layout bytes 0 pages)
first_all None size layout n pages most fits is past told = tt
first_all (Some bytes) size layout n pages most fits is past told = told ∙ ap (λ (k : ℕ). there_from size layout bytes 0 k) is ∙ beyond size layout bytes pages fits past
