-- Records that were read, written out again, are the bytes of the types.
use Rattle.std.proofs.Common.{◌≡◌, ℕ, zero, suc, ◌+◌, ◌-◌, ◌*◌, ◌/◌, ◌%◌, ◌^◌, ◌<◌, ◌≤◌, Bool, true, false, List, [], ◌∷◌, ◌++◌, length, get_or, take, drop, slice_range, subst, Option, Some, None, cond, ◌==◌, if◌then◌else◌, Result, Ok, Err, ap, ◌∙◌, sym, refl, arith, IsSome, unwrap_or, inl, inr, ◌⊎◌, nat_le}
use Rattle.std.specs.Prelude.{All}
use Rattle.std.specs.List.{find, flat_map}
use Rattle.std.proofs.lemmas.List.{length-drop, drop-drop, get_or-drop}
use Rattle.std.proofs.Math.Seq.{take-add}
use Rattle.std.proofs.lemmas.Bool.Decides.{nat_tests}
use Rattle.byteorder.specs.Endian.{little_bytes, little_number}
use Rattle.kc_btf.specs.declared.kind.Kind.{Kind}
use Rattle.kc_btf.specs.declared.kind.Kind.TheVariants.{Int}
use Rattle.kc_btf.specs.declared.stop.BtfFault.{BtfFault}
use Rattle.kc_btf.proofs.MemberLemmas.{words-three}
use Rattle.kc_btf.specs.Numbers.{word, words}
use Rattle.kc_btf.specs.Kind.{kind_number, kind_of, kinds, following}
use Rattle.kc_btf.specs.Records.{kind_number_at, record_of, record_at, record_size, record_fault, kind_fault, places, before, IsRecord}
use Rattle.kc_btf.specs.Answers.{unless}
use Rattle.kc_btf.specs.Spelling.{info, numbers, spelled, HasForm}

abbrev pub IsBytes : List ℕ → Type 0
IsBytes bytes = (i : ℕ) → get_or bytes i 0 < 256

-- past the end a list reads as 0
pub are_bytes : (bytes : List ℕ) → ((i : ℕ) → i < length bytes → get_or bytes i 0 < 256) → IsBytes bytes
are_bytes [] fit i = omega arith
are_bytes (x ∷ xs) fit zero = fit 0 (omega arith)
are_bytes (x ∷ xs) fit (suc i) = are_bytes xs (λ k more. fit (suc k) (omega arith)) i

-- four bytes of a number
four : (a b c d : ℕ) → a < 256 → b < 256 → c < 256 → d < 256 → little_bytes 4 (a + 256 * (b + 256 * (c + 256 * (d + 256 * 0)))) ≡ a ∷ b ∷ c ∷ d ∷ []
four a b c d la lb lc ld =
    let n = a + 256 * (b + 256 * (c + 256 * (d + 256 * 0))) in
    let first : n % 256 ≡ a = omega arith in
    let second : n / 256 ^ 1 % 256 ≡ b = omega arith in
    let third : n / 256 ^ 2 % 256 ≡ c = omega arith in
    let fourth : n / 256 ^ 3 % 256 ≡ d = omega arith in
    rw (first, second, third, fourth) refl

front : (xs : List ℕ) → 4 ≤ length xs → IsBytes xs → little_bytes 4 (little_number 4 xs) ≡ take 4 xs
front [] long fit = absurd (omega arith)
front (a ∷ []) long fit = absurd (omega arith)
front (a ∷ b ∷ []) long fit = absurd (omega arith)
front (a ∷ b ∷ c ∷ []) long fit = absurd (omega arith)
front (a ∷ b ∷ c ∷ d ∷ xs) long fit = four a b c d (fit 0) (fit 1) (fit 2) (fit 3)

dropped : (bytes : List ℕ) (at : ℕ) → IsBytes bytes → IsBytes (drop at bytes)
dropped bytes at fit i = rw get_or-drop (fit (at + i))

-- a number written out
word-bytes : (bytes : List ℕ) (at : ℕ) → IsBytes bytes → at + 4 ≤ length bytes → little_bytes 4 (word bytes at) ≡ take 4 (drop at bytes)
unfolding word
word-bytes bytes at fit within = front (drop at bytes) (simp length-drop (omega arith)) (dropped bytes at fit)

-- numbers written out
words-bytes : (n at : ℕ) (bytes : List ℕ) → IsBytes bytes → at + 4 * n ≤ length bytes → flat_map (little_bytes 4) (words n bytes at) ≡ take (4 * n) (drop at bytes)
unfolding words
words-bytes zero at bytes fit within = refl
words-bytes (suc n) at bytes fit within =
    let size : 4 * suc n ≡ 4 + 4 * n = omega arith in
    let rest = words-bytes n (at + 4) bytes fit (omega arith) in
    ap (λ x. x ++ flat_map (little_bytes 4) (words n bytes (at + 4))) (word-bytes bytes at fit (omega arith))
    ∙ ap (λ x. take 4 (drop at bytes) ++ x) rest
    ∙ ap (λ x. take 4 (drop at bytes) ++ take (4 * n) x) (sym (drop-drop 4 at bytes))
    ∙ sym (take-add 4 (4 * n) (drop at bytes))
    ∙ ap (λ m. take m (drop at bytes)) (sym size)

word-small : (bytes : List ℕ) (at : ℕ) → IsBytes bytes → word bytes at < 2 ^ 32
unfolding word
word-small bytes at fit =
    let here = dropped bytes at fit in
    let b0 = here 0 in let b1 = here 1 in let b2 = here 2 in let b3 = here 3 in
    omega arith

-- a kind that was found has the number
found_kind : (ks : List Kind) (n : ℕ) (kind : Kind) → find (λ k. kind_number k == n) ks ≡ Some kind → kind_number kind ≡ n
found_kind [] n kind is = let none : ⊥ = cc in absurd none
found_kind (k ∷ ks) n kind is = grind (arith, nat_tests, found_kind ks n kind)

-- an info from its parts
info_parts : (w : ℕ) (kind : ℕ) → w < 2 ^ 32 → kind ≡ w / 2 ^ 24 % 32 →
    w % 2 ^ 16 + 2 ^ 16 * (w / 2 ^ 16 % 2 ^ 8) + 2 ^ 24 * kind + 2 ^ 29 * (w / 2 ^ 29 % 4) + 2 ^ 31 * (if w / 2 ^ 31 == 1 then 1 else 0) ≡ w
info_parts w kind small is =
    let flag : (if w / 2 ^ 31 == 1 then 1 else 0) ≡ w / 2 ^ 31 = grind (arith, nat_tests) in
    rw flag (omega arith)

known : (o : Option Kind) (other : Kind) → IsSome o → o ≡ Some (unwrap_or o other)
known None other is = let none : ⊥ = cc in absurd none
known (Some kind) other is = refl

-- the info of a record that was read
info-record_at : (bytes : List ℕ) (at : ℕ) → IsBytes bytes → IsRecord bytes at → info (record_at bytes at) ≡ word bytes (at + 4)
unfolding record_at
info-record_at bytes at fit is =
    let kind = unwrap_or (kind_of (kind_number_at bytes at)) Int in
    let number = found_kind kinds (kind_number_at bytes at) kind (known (kind_of (kind_number_at bytes at)) Int is.known) in
    info_parts (word bytes (at + 4)) (kind_number kind) (word-small bytes (at + 4) fit) number

-- its numbers are those that stand there
numbers-record_at : (bytes : List ℕ) (at : ℕ) → IsBytes bytes → IsRecord bytes at → let r = record_at bytes at in numbers r ≡ words (suc (suc (suc (following r.kind r.vlen)))) bytes at
unfolding record_at
numbers-record_at bytes at fit is =
    let n = following (record_at bytes at).kind (record_at bytes at).vlen in
    ap (λ i. word bytes at ∷ i ∷ word bytes (at + 8) ∷ words n bytes (at + 12)) (info-record_at bytes at fit is) ∙ sym (words-three n at bytes)

-- a record written out
spelled-record_at : (bytes : List ℕ) (at : ℕ) → IsBytes bytes → IsRecord bytes at → spelled (record_at bytes at) ≡ take (record_size (record_at bytes at)) (drop at bytes)
unfolding spelled
spelled-record_at bytes at fit is =
    let r = record_at bytes at in
    let size : 4 * suc (suc (suc (following r.kind r.vlen))) ≡ record_size r = omega arith in
    ap (flat_map (little_bytes 4)) (numbers-record_at bytes at fit is)
    ∙ words-bytes (suc (suc (suc (following r.kind r.vlen)))) at bytes fit (omega (arith, is.whole))
    ∙ ap (λ n. take n (drop at bytes)) size

-- what stands where no rule is broken
known_fits : (o : Option Kind) (bytes : List ℕ) (at end : ℕ) → kind_fault o bytes at end ≡ None → IsSome o × (at + record_size (record_of (unwrap_or o Int) bytes at) ≤ end)
known_fits None bytes at end none = let no_fault : ⊥ = cc in absurd no_fault
known_fits (Some kind) bytes at end none = (refl, grind (arith, nat_tests))

long_enough : (bytes : List ℕ) (at end : ℕ) → record_fault bytes at end ≡ None → kind_fault (kind_of (kind_number_at bytes at)) bytes at end ≡ None
unfolding record_fault
long_enough bytes at end none = grind (arith, nat_tests)

pub stands : (bytes : List ℕ) (at end : ℕ) → end ≤ length bytes → record_fault bytes at end ≡ None → IsRecord bytes at × (at + record_size (record_at bytes at) ≤ end)
unfolding record_at
stands bytes at end within none =
    let fits = known_fits (kind_of (kind_number_at bytes at)) bytes at end (long_enough bytes at end none) in
    (record { known = fits.0; whole = omega arith }, fits.1)

-- the first of places that were found
opened : (b : Bool) (fault : Option BtfFault) (at : ℕ) (rest : Result (List ℕ) BtfFault) (ps : List ℕ) → cond b (Ok []) (unless fault (before at rest)) ≡ Ok ps →
    ((b ≡ true) × (ps ≡ [])) ⊎ ((b ≡ false) × (fault ≡ None) × (more : List ℕ) × (rest ≡ Ok more) × (ps ≡ at ∷ more))
opened true fault at rest ps is = inl (refl, cc)
opened false None at (Ok more) ps is = inr (refl, refl, more, refl, cc)
opened false None at (Err fault) ps is = let none : ⊥ = cc in absurd none
opened false (Some fault) at rest ps is = let none : ⊥ = cc in absurd none

-- the records at places, written out
pub spelled-places : (most at end : ℕ) (bytes ps : List ℕ) → IsBytes bytes → end ≤ length bytes → at ≤ end → end - at ≤ most → places most bytes at end ≡ Ok ps →
    flat_map (λ place. spelled (record_at bytes place)) ps ≡ slice_range bytes at end
unfolding places
spelled-places zero at end bytes ps fit within order enough found =
    let none : ps ≡ [] = cc in
    let size : end - at ≡ 0 = omega arith in
    rw (none, size) refl
spelled-places (suc most) at end bytes ps fit within order enough found =
    elim (opened (nat_le end at) (record_fault bytes at end) at (places most bytes (at + record_size (record_at bytes at)) end) ps found) [
      | inl last ↦
          let past : end ≤ at = grind (arith, nat_tests) in
          let size : end - at ≡ 0 = omega arith in
          rw (last.1, size) refl
      | inr next ↦
          let here = stands bytes at end within next.1 in
          let size = record_size (record_at bytes at) in
          let rest = spelled-places most (at + size) end bytes next.2 fit within here.1 (omega arith) next.3 in
          let length : size + (end - (at + size)) ≡ end - at = omega arith in
          rw next.4 (ap (λ x. x ++ flat_map (λ place. spelled (record_at bytes place)) next.2) (spelled-record_at bytes at fit here.0)
          ∙ ap (λ x. take size (drop at bytes) ++ x) rest
          ∙ ap (λ x. take size (drop at bytes) ++ take (end - (at + size)) x) (sym (drop-drop size at bytes))
          ∙ sym (take-add size (end - (at + size)) (drop at bytes))
          ∙ ap (λ m. take m (drop at bytes)) length)
    ]

-- each record that was read has a form
words-small : (n at : ℕ) (bytes : List ℕ) → IsBytes bytes → All (λ x. x < 2 ^ 32) (words n bytes at)
unfolding words
words-small zero at bytes fit k d more = absurd (omega arith)
words-small (suc n) at bytes fit zero d more = word-small bytes at fit
words-small (suc n) at bytes fit (suc k) d more = words-small n (at + 4) bytes fit k d (omega arith)

length-words : (n at : ℕ) (bytes : List ℕ) → length (words n bytes at) ≡ n
unfolding words
length-words zero at bytes = refl
length-words (suc n) at bytes = omega (arith, length-words n (at + 4) bytes)

pub form-record_at : (bytes : List ℕ) (at : ℕ) → IsBytes bytes → IsRecord bytes at → HasForm (record_at bytes at)
unfolding record_at
form-record_at bytes at fit is =
    let r = record_at bytes at in
    record {
      count = length-words (following r.kind r.vlen) (at + 12) bytes;
      vlen = omega arith;
      low_spare = omega arith;
      high_spare = omega arith;
      numbers = subst (All (λ x. x < 2 ^ 32)) (sym (numbers-record_at bytes at fit is)) (words-small (suc (suc (suc (following r.kind r.vlen)))) at bytes fit);
    }
