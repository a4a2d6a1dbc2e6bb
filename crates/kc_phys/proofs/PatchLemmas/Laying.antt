-- Bytes that are laid over a file, and over a part of it that was read.
use Rattle.std.proofs.Common.{◌≡◌, ℕ, zero, suc, ◌+◌, ◌-◌, ◌<◌, ◌≤◌, Bool, true, false, cond, List, [], ◌∷◌, ◌++◌, length, get_or, slice_get, take, drop, set, Some, None, inl, inr, append_assoc, refl, sym, ap, ◌∙◌, subst, arith, rules, tests}
use Rattle.std.specs.Prelude.{◌⊎◌, ◌||◌, nat_le}
use Rattle.std.specs.Int.{from_le_bytes, to_le_bytes, w64}
use Rattle.std.specs.List.{All}
use Rattle.std.proofs.Math.Seq.{set_out, sets, sets-eq, take-set-lt}
use Rattle.std.proofs.lemmas.List.{drop-drop, drop-set-add, drop-set-lt, drop_at, get_or-take, get_or_past, length-drop, length-set, length-take, length-take-le, take-append-drop, take-set-le, take_all, take_more}
use Rattle.std.proofs.lemmas.Bool.{leb-true}
use Rattle.std.proofs.lemmas.Bool.Decides.{nat_tests}
use Rattle.std.proofs.lemmas.List.Elements.{All-drop, All-get_or, All-take}
use Rattle.std.proofs.lemmas.Nat.{le_bytes_8}
use Rattle.std.proofs.lemmas.Option.{cond_some}
use Rattle.byteorder.specs.Endian.{little_from, little_number}
use Rattle.byteorder.specs.Numbers.{little_number-reads_back}
use Rattle.kc_phys.specs.declared.patch.change.Change.{Change}
use Rattle.kc_phys.specs.Patch.Changed.{IsPart, changed, changed_all, laid, share, share_any}
use Rattle.kc_phys.specs.Patch.Laws.{AllKeepLength, AllOthersStay, KeepsLength, LastLiesOver, OthersStay, ReadsBack, SameStays}

pub lt_or_le : (a b : ℕ) → (a < b) ⊎ (b ≤ a)
lt_or_le zero zero = inr (omega arith)
lt_or_le zero (suc b) = inl (omega arith)
lt_or_le (suc a) zero = inr (omega arith)
lt_or_le (suc a) (suc b) = elim (lt_or_le a b) [ inl lt ↦ inl (omega arith) | inr le ↦ inr (omega arith) ]

-- the length stays
pub length-laid : (more file : List ℕ) (off : ℕ) → length (laid off more file) ≡ length file
unfolding laid
length-laid [] file off = refl
length-laid (b ∷ more) file off = length-laid more (set file off b) (suc off) ∙ length-set file off b

-- one byte more is laid after the others
pub laid-one_more : (more file : List ℕ) (off b : ℕ) → laid off (more ++ b ∷ []) file ≡ set (laid off more file) (off + length more) b
unfolding laid
laid-one_more [] file off b = ap (λ (i : ℕ). set file i b) (omega arith)
laid-one_more (x ∷ more) file off b =
    laid-one_more more (set file off x) (suc off) b ∙ ap (λ (i : ℕ). set (laid (suc off) more (set file off x)) i b) (omega arith)

laid_more : (xs file : List ℕ) (off i : ℕ) → i < length xs → laid off (take (i + 1) xs) file ≡ set (laid off (take i xs) file) (off + i) (get_or xs i 0)
laid_more xs file off i lt =
    ap (λ (l : List ℕ). laid off l file) (take_more xs i 0 lt)
    ∙ laid-one_more (take i xs) file off (get_or xs i 0)
    ∙ ap (λ (n : ℕ). set (laid off (take i xs) file) (off + n) (get_or xs i 0)) (length-take-le i xs (omega arith))

-- a buffer over which one byte more is laid
pub lays_more : (xs file buffer new : List ℕ) (n start off i : ℕ) → i < length xs → length buffer ≡ n → IsPart buffer n start (laid off (take i xs) file)
    → (IsPart buffer (length buffer) start (laid off (take i xs) file) → IsPart new (length buffer) start (set (laid off (take i xs) file) (off + i) (get_or xs i 0)))
    → IsPart new n start (laid off (take (i + 1) xs) file)
lays_more xs file buffer new n start off i lt size is put =
    rw (laid_more xs file off i lt) (subst (λ (m : ℕ). IsPart new m start (set (laid off (take i xs) file) (off + i) (get_or xs i 0))) size
    (put (subst (λ (m : ℕ). IsPart buffer m start (laid off (take i xs) file)) (sym size) is)))

-- and over which all are
pub lays_all : (xs file buffer : List ℕ) (n start off value i : ℕ) → xs ≡ to_le_bytes w64 value → length xs ≤ i → IsPart buffer n start (laid off (take i xs) file) → IsPart buffer n start (changed off value file)
unfolding changed
lays_all xs file buffer n start off value i same past is =
    subst (λ (l : List ℕ). IsPart buffer n start (laid off l file)) (take_all i xs past ∙ same) is

-- a byte in a part of a file
pub part-set : (count off place b : ℕ) (file : List ℕ) → off ≤ place → take count (drop off (set file place b)) ≡ set (take count (drop off file)) (place - off) b
part-set count off place b file after =
    let there : off + (place - off) ≡ place = omega arith in
    let moved : drop off (set file place b) ≡ set (drop off file) (place - off) b =
    ap (λ (i : ℕ). drop off (set file i b)) (sym there) ∙ drop-set-add off file (place - off) b in
    ap (take count) moved ∙ inside (lt_or_le (place - off) count)
  where
    inside : (place - off < count) ⊎ (count ≤ place - off) → take count (set (drop off file) (place - off) b) ≡ set (take count (drop off file)) (place - off) b
    inside (inl lt) = take-set-lt count (drop off file) (place - off) b lt
    inside (inr le) =
        take-set-le count (drop off file) (place - off) b le
        ∙ sym (set_out (take count (drop off file)) (place - off) b (omega (arith, length-take count (drop off file))))

-- and a byte outside it
pub part-set_other : (count off place b : ℕ) (file : List ℕ) → (place < off) ⊎ (off + count ≤ place) → take count (drop off (set file place b)) ≡ take count (drop off file)
part-set_other count off place b file (inl before) = ap (take count) (drop-set-lt off file place b before)
part-set_other count off place b file (inr after) =
    let there : off + (place - off) ≡ place = omega arith in
    ap (λ (i : ℕ). take count (drop off (set file i b))) (sym there)
    ∙ ap (take count) (drop-set-add off file (place - off) b)
    ∙ take-set-le count (drop off file) (place - off) b (omega arith)

-- bytes that are laid outside a part leave it
pub part-laid_other : (more file : List ℕ) (count off at : ℕ) → (at + length more ≤ off) ⊎ (off + count ≤ at) → take count (drop off (laid at more file)) ≡ take count (drop off file)
unfolding laid
part-laid_other [] file count off at apart = refl
part-laid_other (b ∷ more) file count off at (inl before) =
    part-laid_other more (set file at b) count off (suc at) (inl (omega arith)) ∙ part-set_other count off at b file (inl (omega arith))
part-laid_other (b ∷ more) file count off at (inr after) =
    part-laid_other more (set file at b) count off (suc at) (inr (omega arith)) ∙ part-set_other count off at b file (inr after)

-- ---- numbers

-- numbers of the same bytes are the same
same_number : (n i : ℕ) (xs ys : List ℕ) → ((k : ℕ) → k < i + n → get_or xs k 0 ≡ get_or ys k 0) → little_from i n xs ≡ little_from i n ys
same_number zero i xs ys same = refl
same_number (suc n) i xs ys same =
    let rest = same_number n (suc i) xs ys (λ k lt. same k (omega arith)) in
    let first = same i (omega arith) in
    cc

-- a number of eight bytes is that of the first eight
pub number-take : (xs : List ℕ) → little_number 8 (take 8 xs) ≡ little_number 8 xs
number-take xs = same_number 8 0 (take 8 xs) xs (λ k lt. get_or-take 8 xs k 0 (omega arith))

-- ---- laws

pub keeps-length : KeepsLength
unfolding changed
keeps-length off value file = length-laid (to_le_bytes w64 value) file off

set-other : (file : List ℕ) (i k b : ℕ) → (k ≡ i → ⊥) → slice_get (set file i b) k ≡ slice_get file k
set-other [] i k b other = refl
set-other (x ∷ xs) zero zero b other = absurd (other refl)
set-other (x ∷ xs) zero (suc k) b other = refl
set-other (x ∷ xs) (suc i) zero b other = refl
set-other (x ∷ xs) (suc i) (suc k) b other = set-other xs i k b (λ e. other (ap (λ (n : ℕ). suc n) e))

laid-other : (more file : List ℕ) (off i : ℕ) → (i < off) ⊎ (off + length more ≤ i) → slice_get (laid off more file) i ≡ slice_get file i
unfolding laid
laid-other [] file off i apart = refl
laid-other (b ∷ more) file off i (inl before) = laid-other more (set file off b) (suc off) i (inl (omega arith)) ∙ set-other file off i b (λ e. omega arith)
laid-other (b ∷ more) file off i (inr after) = laid-other more (set file off b) (suc off) i (inr (omega arith)) ∙ set-other file off i b (λ e. omega arith)

pub others-stay : OthersStay
unfolding changed
others-stay off value i file apart = laid-other (to_le_bytes w64 value) file off i apart

-- where the file has all of the bytes, they stand in it
laid-sets : (more file : List ℕ) (off : ℕ) → laid off more file ≡ sets file off more
unfolding laid
laid-sets [] file off = refl
laid-sets (b ∷ more) file off = laid-sets more (set file off b) (suc off)

changed-is : (off value : ℕ) (file : List ℕ) → off + 8 ≤ length file → changed off value file ≡ take off file ++ to_le_bytes w64 value ++ drop (off + 8) file
unfolding changed
changed-is off value file fits = laid-sets (to_le_bytes w64 value) file off ∙ sets-eq (to_le_bytes w64 value) file off fits

changed-at : (off value : ℕ) (file : List ℕ) → off + 8 ≤ length file → drop off (changed off value file) ≡ to_le_bytes w64 value ++ drop (off + 8) file
changed-at off value file fits =
    ap (drop off) (changed-is off value file fits ∙ append_assoc (take off file) (to_le_bytes w64 value) (drop (off + 8) file))
    ∙ drop_at (take off file) (to_le_bytes w64 value ++ drop (off + 8) file) off (length-take-le off file (omega arith))

at-true : (b : Bool) (x : ℕ) → b ≡ true → cond b (Some x) None ≡ Some x
at-true true x e = refl
at-true false x e = let none : ⊥ = cc in absurd none

pub reads-back : ReadsBack
reads-back off value file small fits =
    let all : nat_le (off + 8) (length (changed off value file)) ≡ true = rw (keeps-length off value file) (search (rules, tests)) in
    let back : little_number 8 (drop off (changed off value file)) ≡ value =
    rw (changed-at off value file fits) (little_number-reads_back 8 value (drop (off + 8) file) small) in
    at-true _ _ all ∙ ap (λ (n : ℕ). Some n) back

byte-small : (file : List ℕ) (i : ℕ) → All (λ b. b < 256) file → get_or file i 0 < 256
byte-small file i small = elim (lt_or_le i (length file)) [
  | inl within ↦ All-get_or (λ b. b < 256) file i 0 within small
  | inr past ↦ omega (arith, get_or_past file i 0 past)
]

word-bytes : (xs : List ℕ) → 8 ≤ length xs → All (λ b. b < 256) xs → to_le_bytes w64 (little_number 8 xs) ≡ take 8 xs
word-bytes xs fits small =
    let same : little_number 8 (take 8 xs) ≡ from_le_bytes w64 (take 8 xs) = omega arith in
    le_bytes_8 (take 8 xs) (little_number 8 xs) (length-take-le 8 xs fits) (λ i. byte-small (take 8 xs) i (All-take (λ b. b < 256) 8 xs small)) (sym (number-take xs) ∙ same)

whole : (off : ℕ) (file : List ℕ) → take off file ++ take 8 (drop off file) ++ drop (off + 8) file ≡ file
whole off file =
    append_assoc (take off file) (take 8 (drop off file)) (drop (off + 8) file)
    ∙ ap (λ (l : List ℕ). take off file ++ l) (ap (λ (l : List ℕ). take 8 (drop off file) ++ l) (sym (drop-drop 8 off file)) ∙ take-append-drop 8 (drop off file))
    ∙ take-append-drop off file

pub same-stays : SameStays
same-stays off value file small is =
    let both = cond_some _ _ _ is in
    let fits : off + 8 ≤ length file = leb-true (off + 8) (length file) both.0 in
    let bytes : to_le_bytes w64 value ≡ take 8 (drop off file) =
    ap (to_le_bytes w64) (sym both.1) ∙ word-bytes (drop off file) (omega (arith, length-drop off file)) (All-drop (λ b. b < 256) off file small) in
    changed-is off value file fits ∙ ap (λ (l : List ℕ). take off file ++ l ++ drop (off + 8) file) bytes ∙ whole off file

-- a word outside a change stays
pub word-other : (at value off : ℕ) (file : List ℕ) → (at + 8 ≤ off) ⊎ (off + 8 ≤ at) → little_number 8 (drop off (changed at value file)) ≡ little_number 8 (drop off file)
unfolding changed
word-other at value off file apart =
    sym (number-take (drop off (laid at (to_le_bytes w64 value) file)))
    ∙ ap (little_number 8) (part-laid_other (to_le_bytes w64 value) file 8 off at apart)
    ∙ number-take (drop off file)

-- ---- several changes

pub last-lies_over : LastLiesOver
last-lies_over [] last file = refl
last-lies_over (c ∷ changes) last file = last-lies_over changes last (changed c.off c.value file)

pub all-keep_length : AllKeepLength
all-keep_length [] file = refl
all-keep_length (c ∷ changes) file = all-keep_length changes (changed c.off c.value file) ∙ keeps-length c.off c.value file

pub all-others_stay : AllOthersStay
all-others_stay [] i file all = refl
all-others_stay (c ∷ changes) i file all = all-others_stay changes i (changed c.off c.value file) all.1 ∙ others-stay c.off c.value i file all.0

-- a buffer over which one change more is laid
pub changes_more : (changes : List Change) (file buffer new : List ℕ) (n start i : ℕ) (d : Change) → i < length changes → length buffer ≡ n
    → IsPart buffer n start (changed_all (take i changes) file)
    → (IsPart buffer (length buffer) start (changed_all (take i changes) file)
    → IsPart new (length buffer) start (changed (get_or changes i d).off (get_or changes i d).value (changed_all (take i changes) file)))
    → IsPart new n start (changed_all (take (i + 1) changes) file)
changes_more changes file buffer new n start i d lt size is put =
    let whole : changed_all (take (i + 1) changes) file ≡ changed (get_or changes i d).off (get_or changes i d).value (changed_all (take i changes) file) =
    ap (λ (l : List Change). changed_all l file) (take_more changes i d lt) ∙ last-lies_over (take i changes) (get_or changes i d) file in
    subst (λ (f : List ℕ). IsPart new n start f) (sym whole)
    (subst (λ (m : ℕ). IsPart new m start (changed (get_or changes i d).off (get_or changes i d).value (changed_all (take i changes) file))) size
    (put (subst (λ (m : ℕ). IsPart buffer m start (changed_all (take i changes) file)) (sym size) is)))

-- and over which all are
pub changes_all : (changes : List Change) (file buffer : List ℕ) (n start i : ℕ) → length changes ≤ i
    → IsPart buffer n start (changed_all (take i changes) file) → IsPart buffer n start (changed_all changes file)
changes_all changes file buffer n start i past is = subst (λ (l : List Change). IsPart buffer n start (changed_all l file)) (take_all i changes past) is

-- two words that share no byte
apart : (a b : ℕ) → share a b ≡ false → (b + 8 ≤ a) ⊎ (a + 8 ≤ b)
apart a b none =
    elim (lt_or_le a (b + 8)) [
      | inr after ↦ inl after
      | inl near ↦ elim (lt_or_le b (a + 8)) [
        | inr before ↦ inr before
        | inl close ↦ absurd (grind (arith, nat_tests))
      ]
    ]

either-false : (a b : Bool) → a || b ≡ false → (a ≡ false) × (b ≡ false)
either-false true b e = absurd (let none : ⊥ = cc in none)
either-false false b e = (refl, e)

-- a word that shares no byte with any of them stays
pub word-other_all : (changes : List Change) (off : ℕ) (file : List ℕ) → share_any changes off ≡ false
    → little_number 8 (drop off (changed_all changes file)) ≡ little_number 8 (drop off file)
word-other_all [] off file none = refl
word-other_all (c ∷ changes) off file none =
    let parts = either-false (share off c.off) (share_any changes off) none in
    word-other_all changes off (changed c.off c.value file) parts.1 ∙ word-other c.off c.value off file (apart off c.off parts.0)
