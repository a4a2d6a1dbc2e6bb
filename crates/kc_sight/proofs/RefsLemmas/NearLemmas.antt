-- Near the direct map's beginning a word that holds the value has the lowest 16 bits of one that does so at its beginning.
use Rattle.std.proofs.Common.{◌≡◌, ℕ, ◌+◌, ◌*◌, ◌/◌, ◌%◌, ◌^◌, ◌<◌, ◌||◌, Bool, true, false, nat_eq, nat_lt, if◌then◌else◌, [], ◌∷◌, List, map, drop, get_or, Option, None, Some, option_map, inl, inr, refl, sym, ap, subst, ◌∙◌, arith}
use Rattle.std.specs.List.{find, list_all}
use Rattle.std.specs.Int.{byte_at, swap_bytes, w64}
use Rattle.std.specs.Int.Bits.{bit_xor}
use Rattle.std.proofs.lemmas.Bool.{and_parts, lt-ltb, ltb-true}
use Rattle.std.proofs.lemmas.Bool.Decides.{eqb_tells}
use Rattle.std.proofs.lemmas.Nat.{field_of, shr-shr, xor_comm, xor_mod}
use Rattle.byteorder.specs.Endian.{little_number}
use Rattle.kc_found.specs.FreeLists.{decoded}
use Rattle.kc_sight.specs.declared.refs.sought.Writing.{Writing}
use Rattle.kc_sight.specs.declared.refs.sought.Writing.TheVariants.{Plain, Encoded}
use Rattle.kc_sight.specs.Refs.Writings.{NoneHolds, Sought, codes, has_bit, is_among, is_encoded, is_near, writing}
use Rattle.kc_sight.proofs.RefsLemmas.WritingLemmas.{is_no_one, xor_back}

-- the lowest 16 bits of a number whose bytes are swapped are its upper two bytes
last_two : (a b c d e f g h : ℕ) → (a * 256 ^ 7 + b * 256 ^ 6 + c * 256 ^ 5 + d * 256 ^ 4 + e * 256 ^ 3 + f * 256 ^ 2 + g * 256 + h) % 65536 ≡ (g * 256 + h) % 65536
last_two a b c d e f g h = omega arith

swapped : (n : ℕ) → swap_bytes w64 n % 65536 ≡ (byte_at 6 n * 256 + byte_at 7 n) % 65536
swapped n = last_two (byte_at 0 n) (byte_at 1 n) (byte_at 2 n) (byte_at 3 n) (byte_at 4 n) (byte_at 5 n) (byte_at 6 n) (byte_at 7 n)

-- near the beginning these are those of the beginning
same_top : (direct pa : ℕ) → direct % 2 ^ 48 + pa < 2 ^ 48 → (direct + pa) / 2 ^ 48 ≡ direct / 2 ^ 48
same_top direct pa near = omega (arith, near)

lowest : (q : ℕ) → q % 65536 % 256 ≡ q % 256
lowest q = omega arith

sixth : (n d : ℕ) → n / 2 ^ 48 ≡ d / 2 ^ 48 → byte_at 6 (n % 2 ^ 64) ≡ byte_at 6 d
sixth n d same = ap (λ (q : ℕ). q % 256) (field_of n 16 48) ∙ lowest (n / 2 ^ 48) ∙ ap (λ (q : ℕ). q % 256) same

again : (q : ℕ) → q % 256 % 256 ≡ q % 256
again q = omega arith

seventh : (n d : ℕ) → n / 2 ^ 48 ≡ d / 2 ^ 48 → byte_at 7 (n % 2 ^ 64) ≡ byte_at 7 d
seventh n d same =
    ap (λ (q : ℕ). q % 256) (field_of n 8 56) ∙ again (n / 2 ^ 56)
    ∙ ap (λ (q : ℕ). q % 256) (sym (shr-shr n 48 8) ∙ ap (λ (q : ℕ). q / 256) same ∙ shr-shr d 48 8)

same_swapped : (n d : ℕ) → n / 2 ^ 48 ≡ d / 2 ^ 48 → swap_bytes w64 (n % 2 ^ 64) % 65536 ≡ swap_bytes w64 d % 65536
same_swapped n d same =
    swapped (n % 2 ^ 64)
    ∙ ap (λ (g : ℕ). (g * 256 + byte_at 7 (n % 2 ^ 64)) % 65536) (sixth n d same)
    ∙ ap (λ (h : ℕ). (byte_at 6 d * 256 + h) % 65536) (seventh n d same)
    ∙ sym (swapped d)

-- the word that a number encodes at one address has the lowest 16 bits of the one that it encodes at the other
same_low : (v w a d : ℕ) → a % 65536 ≡ d % 65536 → bit_xor (bit_xor v (bit_xor (bit_xor w v) a)) d % 65536 ≡ w % 65536
same_low v w a d same =
    let x = bit_xor v (bit_xor (bit_xor w v) a) in
    xor_mod x d 16
    ∙ ap (bit_xor (x % 65536)) (sym same)
    ∙ sym (xor_mod x a 16)
    ∙ ap (λ (y : ℕ). bit_xor (bit_xor v (bit_xor y a)) a % 65536) (xor_comm w v)
    ∙ ap (λ (y : ℕ). y % 65536) (xor_back v w a)

-- so a number that makes a word hold the value has its bit
lacking : (near : List Bool) (value direct w at : ℕ) (randoms : List ℕ) → swap_bytes w64 at % 65536 ≡ swap_bytes w64 direct % 65536
    → list_all (has_bit near) (map (λ r. decoded value r direct) randoms) ≡ true → has_bit near w ≡ false → is_among (decoded w value at) randoms ≡ false
lacking near value direct w at [] same all lacks = refl
lacking near value direct w at (x ∷ xs) same all lacks =
    let r = decoded w value at in
    let parts = and_parts (has_bit near (decoded value x direct)) (list_all (has_bit near) (map (λ r. decoded value r direct) xs)) all in
    elim (eqb_tells x r) [
      | inl one ↦
          let low : decoded value r direct % 65536 ≡ w % 65536 = same_low value w (swap_bytes w64 at) (swap_bytes w64 direct) same in
          let has : has_bit near (decoded value r direct) ≡ true = subst (λ (n : ℕ). has_bit near (decoded value n direct) ≡ true) one.1 parts.0 in
          let set : has_bit near w ≡ true = subst (λ (j : ℕ). get_or near j false ≡ true) low has in
          absurd (let both : ⊥ = cc in both)
      | inr other ↦ ap (λ (b : Bool). b || is_among r xs) other.0 ∙ lacking near value direct w at xs same parts.1 lacks
    ]

holds_none : (s : Sought) (near : List Bool) (w pa : ℕ) → list_all (has_bit near) (codes s.value s.direct s.randoms) ≡ true
    → is_near s.direct pa ≡ true → has_bit near w ≡ false → writing s w pa ≡ None
holds_none s near w pa all close lacks =
    let parts = and_parts (has_bit near s.value) (list_all (has_bit near) (map (λ r. decoded s.value r s.direct) s.randoms)) all in
    elim (eqb_tells w s.value) [
      | inl one ↦ let has : has_bit near w ≡ true = subst (λ (n : ℕ). has_bit near n ≡ true) (sym one.1) parts.0 in absurd (let both : ⊥ = cc in both)
      | inr other ↦
          let at = (s.direct + pa) % 2 ^ 64 in
          let top = same_top s.direct pa (ltb-true (s.direct % 2 ^ 48 + pa) (2 ^ 48) close) in
          ap (λ (b : Bool). if b then Some Plain else option_map Encoded (find (is_encoded s w pa) s.randoms)) other.0
          ∙ is_no_one s w pa (decoded w s.value at) refl (lacking near s.value s.direct w at s.randoms (same_swapped (s.direct + pa) s.direct top) parts.1 lacks)
    ]

pub one_less : (s : Sought) (near : List Bool) (bytes : List ℕ) (n : ℕ) → list_all (has_bit near) (codes s.value s.direct s.randoms) ≡ true
    → NoneHolds s bytes n → has_bit near (little_number 8 (drop (8 * n) bytes)) ≡ false → NoneHolds s bytes (n + 1)
one_less s near bytes n all before lacks k pa below close =
    elim (eqb_tells k n) [
      | inl same ↦ subst (λ (j : ℕ). writing s (little_number 8 (drop (8 * j) bytes)) pa ≡ None) (sym same.1) (holds_none s near (little_number 8 (drop (8 * n) bytes)) pa all close lacks)
      | inr other ↦ before k pa (omega (arith, below, other.1)) close
    ]

-- what is nearer is near
pub nearer : (direct pa end : ℕ) → is_near direct end ≡ true → pa < end → is_near direct pa ≡ true
nearer direct pa end close below = lt-ltb (direct % 2 ^ 48 + pa) (2 ^ 48) (omega (arith, ltb-true (direct % 2 ^ 48 + end) (2 ^ 48) close, below))
