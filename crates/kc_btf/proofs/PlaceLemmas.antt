-- The places of records, one after the other.
use Rattle.std.proofs.Common.{◌≡◌, ℕ, zero, suc, ◌+◌, ◌-◌, ◌<◌, ◌≤◌, List, [], ◌∷◌, ◌++◌, length, map, Some, None, Result, Ok, Err, sym, ap, ◌∙◌, refl, arith, append_assoc}
use Rattle.std.proofs.lemmas.Bool.Decides.{nat_tests}
use Rattle.std.proofs.lemmas.List.{map-append, length-append}
use Rattle.kc_btf.specs.declared.stop.BtfFault.{BtfFault}
use Rattle.kc_btf.specs.Records.{places, before, record_at, record_size, record_fault}

-- places that are known, before those that are still to come
abbrev pub continues : List ℕ → Result (List ℕ) BtfFault → Result (List ℕ) BtfFault
continues front (Ok more) = Ok (front ++ more)
continues front (Err fault) = Err fault

pub continues-before : (front : List ℕ) (place : ℕ) (rest : Result (List ℕ) BtfFault) → continues front (before place rest) ≡ continues (front ++ place ∷ []) rest
continues-before front place (Ok more) = ap (λ (ps : List ℕ). Ok ps) (sym (append_assoc front (place ∷ []) more))
continues-before front place (Err fault) = refl

-- at the types' end no record is left
pub places-end : (most at end : ℕ) (bytes : List ℕ) → end ≤ at → places most bytes at end ≡ Ok []
unfolding places
places-end zero at end bytes past = refl
places-end (suc most) at end bytes past = grind (arith, nat_tests)

-- a record that breaks a rule
pub places-fault : (most at end : ℕ) (bytes : List ℕ) (fault : BtfFault) → 0 < most → at < end → record_fault bytes at end ≡ Some fault → places most bytes at end ≡ Err fault
unfolding places
places-fault zero at end bytes fault some within is = absurd (omega arith)
places-fault (suc most) at end bytes fault some within is = rw is grind (arith, nat_tests)

-- a record that stands whole
pub places-next : (most at end size : ℕ) (bytes : List ℕ) → 0 < most → at < end → record_fault bytes at end ≡ None → size ≡ record_size (record_at bytes at) →
    places most bytes at end ≡ before at (places (most - 1) bytes (at + size) end)
unfolding places
places-next zero at end size bytes some within is long = absurd (omega arith)
places-next (suc most) at end size bytes some within is long =
    let left : suc most - 1 ≡ most = omega arith in
    rw (left, long, is) grind (arith, nat_tests)

-- one place more in the table
pub places-pushed : (bytes : List ℕ) (types at end size most : ℕ) (table : List ℕ) → types ≤ at → at < end → length table < most → record_fault bytes at end ≡ None → size ≡ record_size (record_at bytes at) →
    continues (map (λ place. types + place) (table ++ (at - types) ∷ [])) (places (most - length (table ++ (at - types) ∷ [])) bytes (at + size) end)
    ≡ continues (map (λ place. types + place) table) (places (most - length table) bytes at end)
places-pushed bytes types at end size most table start more few is long =
    let shift : ℕ → ℕ = λ place. types + place in
    let place : types + (at - types) ≡ at = omega arith in
    let left : most - length (table ++ (at - types) ∷ []) ≡ most - length table - 1 = simp length-append (omega arith) in
    let rest = places (most - length table - 1) bytes (at + size) end in
    let next = places-next (most - length table) at end size bytes (omega arith) more is long in
    ap (λ n. continues (map shift (table ++ (at - types) ∷ [])) (places n bytes (at + size) end)) left
    ∙ ap (λ (front : List ℕ). continues front rest) (map-append shift table ((at - types) ∷ []) ∙ ap (λ p. map shift table ++ p ∷ []) place)
    ∙ sym (continues-before (map shift table) at rest)
    ∙ ap (continues (map shift table)) (sym next)
