-- A fault is what its bytes say.
use Rattle.std.specs.Prelude.{nat_lt, nat_le, if◌then◌else◌, ⊤}
use Rattle.std.specs.Result.{result_err}
use Rattle.std.proofs.Common.{◌≡◌, ℕ, zero, suc, ◌+◌, ◌<◌, ◌≤◌, ◌^◌, Bool, true, false, List, [], ◌∷◌, length, take, Option, Some, None, Result, Ok, Err, refl, ap, subst, arith}
use Rattle.std.proofs.lemmas.Bool.{ltb-true, ltb-false, leb-true, leb-false}
use Rattle.kc_flattened.specs.declared.fault.FlatFault.{FlatFault}
use Rattle.kc_flattened.specs.declared.fault.FlatFault.TheVariants.{Header, Bounds, PastEnd, NoEnd, TooMany}
use Rattle.kc_flattened.specs.declared.record.Record.{Record}
use Rattle.kc_flattened.specs.Flat.{and_more, before, found_of, is_flat_by, is_head, is_last, meant_by, record_at, records_from, records_of, unflat}
use Rattle.kc_flattened_store.specs.Broken.{HasHeader, IsBroken, IsRecord, IsWrongAfter, IsWrongFrom, Lead, said_offset, said_size}
use Rattle.kc_flattened_store.specs.Faults.{refusal}

-- what a record at a place says
abbrev Says : ℕ → ℕ → ℕ → ℕ → Result (Option Record) FlatFault → Type 0
Says size at to count (Err Header) = ⊥
Says size at to count (Err NoEnd) = size < at + 16
Says size at to count (Err Bounds) = (at + 16 ≤ size) × (is_last to count ≡ false) × (2 ^ 63 ≤ to + count)
Says size at to count (Err PastEnd) = (at + 16 ≤ size) × (to + count < 2 ^ 63) × (size < at + 16 + count)
Says size at to count (Err TooMany) = ⊥
Says size at to count (Ok None) = ⊤
Says size at to count (Ok (Some r)) = (at + 16 ≤ size) × (is_last to count ≡ false) × (to + count < 2 ^ 63) × (at + 16 + count ≤ size) × (r.from + r.count ≡ at + 16 + count)

said_by : (size at to count : ℕ) (short last big past : Bool) (r : Result (Option Record) FlatFault)
    → nat_lt size (at + 16) ≡ short → is_last to count ≡ last → nat_le (2 ^ 63) (to + count) ≡ big → nat_lt size (at + 16 + count) ≡ past
    → (if short then Err NoEnd else (if last then Ok None else (if big then Err Bounds else (if past then Err PastEnd else Ok (Some (record { to = to; count = count; from = at + 16 })))))) ≡ r
    → Says size at to count r
said_by size at to count true last big past r s l b p is = subst (λ (x : Result (Option Record) FlatFault). Says size at to count x) is (ltb-true size (at + 16) s)
said_by size at to count false true big past r s l b p is = subst (λ (x : Result (Option Record) FlatFault). Says size at to count x) is tt
said_by size at to count false false true past r s l b p is =
    subst (λ (x : Result (Option Record) FlatFault). Says size at to count x) is (ltb-false size (at + 16) s, l, leb-true (2 ^ 63) (to + count) b)
said_by size at to count false false false true r s l b p is =
    subst (λ (x : Result (Option Record) FlatFault). Says size at to count x) is (ltb-false size (at + 16) s, leb-false (2 ^ 63) (to + count) b, ltb-true size (at + 16 + count) p)
said_by size at to count false false false false r s l b p is =
    subst (λ (x : Result (Option Record) FlatFault). Says size at to count x) is (ltb-false size (at + 16) s, l, leb-false (2 ^ 63) (to + count) b, ltb-false size (at + 16 + count) p, refl)

said : (bytes : List ℕ) (at : ℕ) (r : Result (Option Record) FlatFault) → record_at (length bytes) at bytes ≡ r → Says (length bytes) at (said_offset bytes at) (said_size bytes at) r
said bytes at r is =
    said_by (length bytes) at (said_offset bytes at) (said_size bytes at) (nat_lt (length bytes) (at + 16)) (is_last (said_offset bytes at) (said_size bytes at))
    (nat_le (2 ^ 63) (said_offset bytes at + said_size bytes at)) (nat_lt (length bytes) (at + 16 + said_size bytes at)) r refl refl refl refl is

-- what is wrong after a record more
longer : (bytes : List ℕ) (n at next : ℕ) (P : ℕ → Type 0) → IsRecord bytes at next → IsWrongAfter bytes n next P → IsWrongAfter bytes (suc n) at P
unfolding Lead
longer bytes n at next P is w = record { count = suc w.count; few = omega (arith, w.few); place = w.place; led = (next, is, w.led); is = w.is }

one_more : (bytes : List ℕ) (n at next : ℕ) (fault : FlatFault) → IsRecord bytes at next → IsWrongFrom bytes n next fault → IsWrongFrom bytes (suc n) at fault
unfolding Lead
one_more bytes n at next Header is w = w
one_more bytes n at next Bounds is w = longer bytes n at next _ is w
one_more bytes n at next PastEnd is w = longer bytes n at next _ is w
one_more bytes n at next NoEnd is w = longer bytes n at next _ is w
one_more bytes n at next TooMany is w = (w.0, (next, is, w.1))

-- what is wrong at once
at_once : (bytes : List ℕ) (n at : ℕ) (P : ℕ → Type 0) → P at → IsWrongAfter bytes (suc n) at P
unfolding Lead
at_once bytes n at P is = record { count = 0; few = omega arith; place = at; led = refl; is = is }

rest_wrong : (xs : List Record) (d : Result (List Record) FlatFault) (fault : FlatFault) → before xs d ≡ Err fault → d ≡ Err fault
rest_wrong xs (Ok records) fault is = absurd (let none : ⊥ = cc in none)
rest_wrong xs (Err other) fault is = is

record_wrong : (n : ℕ) (bytes : List ℕ) (at : ℕ) (fault : FlatFault) (r : Result (Option Record) FlatFault) → record_at (length bytes) at bytes ≡ r
    → ((next : ℕ) → records_from n (length bytes) next bytes ≡ Err fault → IsWrongFrom bytes n next fault)
    → and_more r (λ next. records_from n (length bytes) next bytes) ≡ Err fault → IsWrongFrom bytes (suc n) at fault
record_wrong n bytes at fault (Err Header) here rest is = absurd (said bytes at (Err Header) here)
record_wrong n bytes at fault (Err Bounds) here rest is =
    let same : Bounds ≡ fault = cc in subst (λ (f : FlatFault). IsWrongFrom bytes (suc n) at f) same (at_once bytes n at _ (said bytes at (Err Bounds) here))
record_wrong n bytes at fault (Err PastEnd) here rest is =
    let same : PastEnd ≡ fault = cc in subst (λ (f : FlatFault). IsWrongFrom bytes (suc n) at f) same (at_once bytes n at _ (said bytes at (Err PastEnd) here))
record_wrong n bytes at fault (Err NoEnd) here rest is =
    let same : NoEnd ≡ fault = cc in subst (λ (f : FlatFault). IsWrongFrom bytes (suc n) at f) same (at_once bytes n at _ (said bytes at (Err NoEnd) here))
record_wrong n bytes at fault (Err TooMany) here rest is = absurd (said bytes at (Err TooMany) here)
record_wrong n bytes at fault (Ok None) here rest is = absurd (let none : ⊥ = cc in none)
record_wrong n bytes at fault (Ok (Some r)) here rest is =
    let s = said bytes at (Ok (Some r)) here in
    one_more bytes n at (r.from + r.count) fault (record { whole = s.0; more = s.1; bounds = s.2; inside = s.3; after = s.4 })
    (rest (r.from + r.count) (rest_wrong (r ∷ []) (records_from n (length bytes) (r.from + r.count) bytes) fault is))

records_wrong : (n : ℕ) (bytes : List ℕ) (at : ℕ) (fault : FlatFault) → records_from n (length bytes) at bytes ≡ Err fault → IsWrongFrom bytes n at fault
unfolding records_from Lead
records_wrong zero bytes at fault is = let same : TooMany ≡ fault = cc in subst (λ (f : FlatFault). IsWrongFrom bytes 0 at f) same (at, refl)
records_wrong (suc n) bytes at fault is = record_wrong n bytes at fault (record_at (length bytes) at bytes) refl (λ next wrong. records_wrong n bytes next fault wrong) is

-- a file with no whole header, and one with it
no_header : (bytes : List ℕ) (fault : FlatFault) → is_flat_by (length bytes) bytes ≡ true → (HasHeader bytes → ⊥) → Header ≡ fault → IsBroken bytes fault
no_header bytes fault flat none same = subst (λ (f : FlatFault). IsBroken bytes f) same (flat, none)

with_header : (bytes : List ℕ) (fault : FlatFault) → is_flat_by (length bytes) bytes ≡ true → HasHeader bytes → IsWrongFrom bytes 4194304 4096 fault → IsBroken bytes fault
with_header bytes Header flat head wrong = absurd wrong
with_header bytes Bounds flat head wrong = (flat, head, wrong)
with_header bytes PastEnd flat head wrong = (flat, head, wrong)
with_header bytes NoEnd flat head wrong = (flat, head, wrong)
with_header bytes TooMany flat head wrong = (flat, head, wrong)

header_wrong : (bytes : List ℕ) (fault : FlatFault) (short head : Bool) → is_flat_by (length bytes) bytes ≡ true → nat_lt (length bytes) 4096 ≡ short → is_head (take 32 bytes) ≡ head
    → (if short then Err Header else (if head then records_from 4194304 (length bytes) 4096 bytes else Err Header)) ≡ Err fault → IsBroken bytes fault
header_wrong bytes fault true head flat s h is = no_header bytes fault flat (λ whole. omega (arith, whole.0, ltb-true (length bytes) 4096 s)) (let same : Header ≡ fault = cc in same)
header_wrong bytes fault false true flat s h is = with_header bytes fault flat (ltb-false (length bytes) 4096 s, h) (records_wrong 4194304 bytes 4096 fault is)
header_wrong bytes fault false false flat s h is = no_header bytes fault flat (λ whole. let none : ⊥ = cc (whole.1, h) in none) (let same : Header ≡ fault = cc in same)

records_broken : (bytes : List ℕ) (fault : FlatFault) → is_flat_by (length bytes) bytes ≡ true → records_of (length bytes) bytes ≡ Err fault → IsBroken bytes fault
unfolding records_of
records_broken bytes fault flat is = header_wrong bytes fault (nat_lt (length bytes) 4096) (is_head (take 32 bytes)) flat refl refl is

found_wrong : (bytes : List ℕ) (d : Result (List Record) FlatFault) (fault : FlatFault) → result_err (meant_by bytes (found_of d)) ≡ Some fault → d ≡ Err fault
found_wrong bytes (Ok records) fault is = absurd (let none : ⊥ = cc in none)
found_wrong bytes (Err other) fault is = let same : other ≡ fault = cc in ap (λ (f : FlatFault). Err f) same

file_broken : (bytes : List ℕ) (fault : FlatFault) (flat : Bool) → is_flat_by (length bytes) bytes ≡ flat
    → result_err (meant_by bytes (if flat then found_of (records_of (length bytes) bytes) else Ok None)) ≡ Some fault → IsBroken bytes fault
file_broken bytes fault true flat is = records_broken bytes fault flat (found_wrong bytes (records_of (length bytes) bytes) fault is)
file_broken bytes fault false flat is = absurd (let none : ⊥ = cc in none)

pub refused_broken : (bytes : List ℕ) (fault : FlatFault) → refusal bytes ≡ Some fault → IsBroken bytes fault
unfolding unflat
refused_broken bytes fault is = file_broken bytes fault (is_flat_by (length bytes) bytes) refl is
