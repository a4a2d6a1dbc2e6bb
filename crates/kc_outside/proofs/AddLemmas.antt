-- What a store in memory shows once a file was replaced by another of its name, or was added.
use Rattle.std.proofs.Common.{◌≡◌, ℕ, ◌<◌, Bool, true, false, List, [], ◌∷◌, ◌++◌, length, nat_eq, zero, suc, Option, Some, None, inl, inr, get_or, set, arith, refl, sym, ap, ◌∙◌, if◌then◌else◌, ◌≢◌}
use Rattle.std.specs.Option.{option_map, option_or}
use Rattle.std.specs.List.{find, position_or_len, slice_get}
use Rattle.std.specs.Str.{bytes_eq}
use Rattle.std.proofs.lemmas.Bool.{eq-eqb, eqb-true}
use Rattle.std.proofs.lemmas.Bool.Decides.{eqb_tells}
use Rattle.std.proofs.lemmas.List.Folds.{find-append, find-set, find_past, position_or_len-set, position_or_len_push}
use Rattle.std.proofs.lemmas.Option.{same_Some, slice_get_within, get_or_from_slice_get}
use Rattle.std.proofs.lemmas.Slice.Eq.{bytes_eq-Decides}
use Rattle.kc_outside.specs.declared.mem_file.MemFile.{MemFile}
use Rattle.kc_outside.specs.declared.mem_file.Held.{Held}
use Rattle.kc_outside.specs.declared.mem_file.Held.TheVariants.{Nothing, Opened, Learnt}
use Rattle.kc_outside.specs.declared.store.Slot.{Slot}
use Rattle.kc_outside.specs.declared.store.Slot.TheVariants.{Dump, Btf, Map, Plan, Report, Module}
use Rattle.kc_outside.specs.declared.slots.Slots.{Slots}
use Rattle.kc_outside.specs.Slots.{in_slot}
use Rattle.kc_outside.specs.MemLaws.{named_bytes-first}
use Rattle.kc_outside.specs.MemFiles.{name_of, bytes_of, has_name, named_bytes, held_name, held_size, is_first, is_held, is_name, without_size, all_without_size}

-- the place that was written
pub slice_get-set_same : {X : Type 0} (xs : List X) (i : ℕ) (y : X) → i < length xs → slice_get (set xs i y) i ≡ Some y
slice_get-set_same [] i y within = absurd (omega arith)
slice_get-set_same (x ∷ xs) zero y within = refl
slice_get-set_same (x ∷ xs) (suc i) y within = slice_get-set_same xs i y (omega arith)

-- another place
pub slice_get-set_other : {X : Type 0} (xs : List X) (i k : ℕ) (y : X) → k ≢ i → slice_get (set xs i y) k ≡ slice_get xs k
slice_get-set_other [] i k y other = refl
slice_get-set_other (x ∷ xs) zero zero y other = absurd (other refl)
slice_get-set_other (x ∷ xs) zero (suc k) y other = refl
slice_get-set_other (x ∷ xs) (suc i) zero y other = refl
slice_get-set_other (x ∷ xs) (suc i) (suc k) y other = slice_get-set_other xs i k y (λ e. other (ap (λ (n : ℕ). suc n) e))

-- a place that was there
pub slice_get-append : {X : Type 0} (xs ys : List X) (k : ℕ) (x : X) → slice_get xs k ≡ Some x → slice_get (xs ++ ys) k ≡ Some x
slice_get-append [] ys k x here = let none : ⊥ = cc in absurd none
slice_get-append (y ∷ xs) ys zero x here = here
slice_get-append (y ∷ xs) ys (suc k) x here = slice_get-append xs ys k x here

-- the file at a place is the first of its name, and the other file has that name too
pub record Replaces (files : List MemFile) (at : ℕ) (old file : MemFile) : Type 0 where
  pub here : slice_get files at ≡ Some old
  pub first : is_first files at (Some old) ≡ true
  pub named : name_of old ≡ name_of file

pub replaces : (files : List MemFile) (at : ℕ) (file : MemFile) → is_held files (Opened at) ≡ true → held_name files (Opened at) ≡ Some (name_of file) → (old : MemFile) × Replaces files at old file
replaces files at file is name = at_file (slice_get files at) refl is name
  where
    at_file : (found : Option MemFile) → slice_get files at ≡ found → is_first files at found ≡ true → option_map name_of found ≡ Some (name_of file) → (old : MemFile) × Replaces files at old file
    at_file None here is name = let none : ⊥ = cc in absurd none
    at_file (Some old) here is name = (old, record { here = here; first = is; named = same_Some _ _ name })

-- no name changes its place
same-place : (files : List MemFile) (at : ℕ) (old file : MemFile) (name : List ℕ) → Replaces files at old file → position_or_len (has_name name) (set files at file) ≡ position_or_len (has_name name) files
same-place files at old file name r =
    let there : get_or files at old ≡ old = get_or_from_slice_get files at old old r.here in
    position_or_len-set (has_name name) files at file old (rw (there, r.named) refl)

-- a first file stays one
first-set : (files : List MemFile) (at : ℕ) (old file : MemFile) (k : ℕ) → Replaces files at old file → (found : Option MemFile) → slice_get files k ≡ found → is_first files k found ≡ true → is_first (set files at file) k (slice_get (set files at file) k) ≡ true
first-set files at old file k r None there is = let none : ⊥ = cc in absurd none
first-set files at old file k r (Some other) there is =
    elim (eqb_tells k at) [
      | inl here ↦
          let same : slice_get (set files at file) k ≡ Some file = rw here.1 (slice_get-set_same files at file (slice_get_within files at old r.here)) in
          rw (same, here.1, same-place files at old file (name_of file) r, ← r.named) r.first
      | inr apart ↦
          rw (slice_get-set_other files at k file apart.1, there, same-place files at old file (name_of other) r) is
    ]

-- a slot that holds the first file of a name still does
pub is_held-set : (files : List MemFile) (at : ℕ) (old file : MemFile) → Replaces files at old file → (held : Held) → is_held files held ≡ true → is_held (set files at file) (without_size at held) ≡ true
is_held-set files at old file r Nothing is = refl
is_held-set files at old file r (Opened k) is = first-set files at old file k r (slice_get files k) refl is
is_held-set files at old file r (Learnt k) is =
    let first = first-set files at old file k r (slice_get files k) refl is in
    elim (nat_eq k at) as (λ b. is_held (set files at file) (if b then Opened k else Learnt k) ≡ true) [ true ↦ first | false ↦ first ]

-- each place has a file of the same name
name-set : (files : List MemFile) (at : ℕ) (old file : MemFile) (k : ℕ) → Replaces files at old file → option_map name_of (slice_get (set files at file) k) ≡ option_map name_of (slice_get files k)
name-set files at old file k r =
    elim (eqb_tells k at) [
      | inl here ↦ rw (here.1, slice_get-set_same files at file (slice_get_within files at old r.here), r.here, r.named) refl
      | inr apart ↦ rw (slice_get-set_other files at k file apart.1) refl
    ]

-- each slot holds the same name
pub held_name-set : (files : List MemFile) (at : ℕ) (old file : MemFile) → Replaces files at old file → (held : Held) → held_name (set files at file) (without_size at held) ≡ held_name files held
held_name-set files at old file r Nothing = refl
held_name-set files at old file r (Opened k) = name-set files at old file k r
held_name-set files at old file r (Learnt k) =
    let name = name-set files at old file k r in
    elim (nat_eq k at) as (λ b. held_name (set files at file) (if b then Opened k else Learnt k) ≡ held_name files (Learnt k)) [ true ↦ name | false ↦ name ]

-- another first file has another name
other-name : (files : List MemFile) (at : ℕ) (old file other : MemFile) (k : ℕ) → Replaces files at old file → is_first files k (Some other) ≡ true → k ≢ at → bytes_eq (name_of other) (name_of file) ≡ false
other-name files at old file other k r is apart = at_test (bytes_eq (name_of other) (name_of file)) refl
  where
    at_test : (b : Bool) → bytes_eq (name_of other) (name_of file) ≡ b → b ≡ false
    at_test false e = refl
    at_test true e =
        let same : name_of other ≡ name_of old = (bytes_eq-Decides _ _).0 e ∙ sym r.named in
        let there : position_or_len (has_name (name_of other)) files ≡ k = eqb-true _ _ is in
        let here : position_or_len (has_name (name_of old)) files ≡ at = eqb-true _ _ r.first in
        absurd (apart (sym there ∙ ap (λ (name : List ℕ). position_or_len (has_name name) files) same ∙ here))

same-both : (b : Bool) (size : Option ℕ) → size ≡ (if b then size else size)
same-both true size = refl
same-both false size = refl

-- a slot that holds the name forgets its size, and each other slot keeps it
pub held_size-set : (files : List MemFile) (at : ℕ) (old file : MemFile) → Replaces files at old file → (held : Held) → is_held files held ≡ true → held_size (set files at file) (without_size at held) ≡ (if is_name (held_name files held) (name_of file) then None else held_size files held)
held_size-set files at old file r Nothing is = refl
held_size-set files at old file r (Opened k) is = same-both _ None
held_size-set files at old file r (Learnt k) is = at_file (slice_get files k) refl is
  where
    at_file : (found : Option MemFile) → slice_get files k ≡ found → is_first files k found ≡ true → held_size (set files at file) (without_size at (Learnt k)) ≡ (if is_name (option_map name_of found) (name_of file) then None else option_map (λ f. length (bytes_of f)) found)
    at_file None there is = let none : ⊥ = cc in absurd none
    at_file (Some other) there is =
        elim (eqb_tells k at) [
          | inl here ↦
              let same : other ≡ old = same_Some _ _ (sym there ∙ ap (λ (n : ℕ). slice_get files n) here.1 ∙ r.here) in
              let named : bytes_eq (name_of other) (name_of file) ≡ true = (bytes_eq-Decides _ _).1 (ap name_of same ∙ r.named) in
              rw (here.0, named) refl
          | inr apart ↦
              rw (apart.0, slice_get-set_other files at k file apart.1, there, other-name files at old file other k r is apart.1) refl
        ]

-- the name stands for the bytes of the new file, and each other name for what it stood for
pub named_bytes-set : (files : List MemFile) (at : ℕ) (old file : MemFile) → Replaces files at old file → (name : List ℕ) → named_bytes (set files at file) name ≡ (if bytes_eq (name_of file) name then Some (bytes_of file) else named_bytes files name)
named_bytes-set files at old file r name = at_test (bytes_eq (name_of file) name) refl
  where
    within : at < length files
    within = slice_get_within files at old r.here

    at_test : (b : Bool) → bytes_eq (name_of file) name ≡ b → named_bytes (set files at file) name ≡ (if b then Some (bytes_of file) else named_bytes files name)
    at_test true e =
        let named : name_of old ≡ name = r.named ∙ (bytes_eq-Decides _ _).0 e in
        let here : position_or_len (has_name (name_of old)) files ≡ at = eqb-true _ _ r.first in
        let place : at ≡ position_or_len (has_name name) files = rw (← named) (sym here) in
        rw (find-set (has_name name) files at file place within e) refl
    at_test false e =
        let there : get_or files at old ≡ old = get_or_from_slice_get files at old old r.here in
        let fails : has_name name (get_or files at old) ≡ false = rw (there, r.named) e in
        rw (find_past (has_name name) files at file old fails e) refl

-- a first file stays one when a file is added
first-push : (files : List MemFile) (file : MemFile) (k : ℕ) → (found : Option MemFile) → slice_get files k ≡ found → is_first files k found ≡ true → (slice_get (files ++ file ∷ []) k ≡ found) × (is_first (files ++ file ∷ []) k found ≡ true)
first-push files file k None there is = let none : ⊥ = cc in absurd none
first-push files file k (Some other) there is =
    let place : position_or_len (has_name (name_of other)) files ≡ k = eqb-true _ _ is in
    let within : k < length files = slice_get_within files k other there in
    let stays : position_or_len (has_name (name_of other)) (files ++ file ∷ []) ≡ k = grind (arith, position_or_len_push (has_name (name_of other)) files file, eqb_tells (position_or_len (has_name (name_of other)) files) (length files)) in
    (slice_get-append files (file ∷ []) k other there, eq-eqb _ _ stays)

pub is_held-push : (files : List MemFile) (file : MemFile) (held : Held) → is_held files held ≡ true → is_held (files ++ file ∷ []) held ≡ true
is_held-push files file Nothing is = refl
is_held-push files file (Opened k) is = let both = first-push files file k (slice_get files k) refl is in rw both.0 both.1
is_held-push files file (Learnt k) is = let both = first-push files file k (slice_get files k) refl is in rw both.0 both.1

-- whether it was added or not
pub is_held-added : (files : List MemFile) (file : MemFile) (held : Held) (b : Bool) → is_held files held ≡ true → is_held (if b then files ++ file ∷ [] else files) held ≡ true
is_held-added files file held true is = is_held-push files file held is
is_held-added files file held false is = is

-- each slot holds the same name
pub held_name-push : (files : List MemFile) (file : MemFile) (held : Held) → is_held files held ≡ true → held_name (files ++ file ∷ []) held ≡ held_name files held
held_name-push files file Nothing is = refl
held_name-push files file (Opened k) is = rw (first-push files file k (slice_get files k) refl is).0 refl
held_name-push files file (Learnt k) is = rw (first-push files file k (slice_get files k) refl is).0 refl

-- no slot holds a name that isn't there
unknown-name : (files : List MemFile) (name : List ℕ) (k : ℕ) → named_bytes files name ≡ None → (found : Option MemFile) → slice_get files k ≡ found → is_first files k found ≡ true → is_name (option_map name_of found) name ≡ false
unknown-name files name k unknown None there is = refl
unknown-name files name k unknown (Some other) there is = at_test (bytes_eq (name_of other) name) refl
  where
    at_test : (b : Bool) → bytes_eq (name_of other) name ≡ b → b ≡ false
    at_test false e = refl
    at_test true e =
        let named : name_of other ≡ name = (bytes_eq-Decides _ _).0 e in
        let known : named_bytes files name ≡ Some (bytes_of other) = rw (← named) (named_bytes-first files k other there is) in
        let none : ⊥ = cc in absurd none

-- each slot knows the same size
pub held_size-push : (files : List MemFile) (file : MemFile) → named_bytes files (name_of file) ≡ None → (held : Held) → is_held files held ≡ true → held_size (files ++ file ∷ []) held ≡ (if is_name (held_name files held) (name_of file) then None else held_size files held)
held_size-push files file unknown Nothing is = refl
held_size-push files file unknown (Opened k) is = same-both _ None
held_size-push files file unknown (Learnt k) is =
    rw ((first-push files file k (slice_get files k) refl is).0, unknown-name files (name_of file) k unknown (slice_get files k) refl is) refl

-- the name stands for the bytes of the new file, and each other name for what it stood for
pub named_bytes-push : (files : List MemFile) (file : MemFile) → named_bytes files (name_of file) ≡ None → (name : List ℕ) → named_bytes (files ++ file ∷ []) name ≡ (if bytes_eq (name_of file) name then Some (bytes_of file) else named_bytes files name)
named_bytes-push files file unknown name = rw (find-append (has_name name) files (file ∷ [])) (at_test (bytes_eq (name_of file) name) refl (find (has_name name) files) refl)
  where
    at_test : (b : Bool) → bytes_eq (name_of file) name ≡ b → (found : Option MemFile) → find (has_name name) files ≡ found → option_map bytes_of (option_or found (if b then Some file else None)) ≡ (if b then Some (bytes_of file) else option_map bytes_of found)
    at_test false e None there = refl
    at_test false e (Some other) there = refl
    at_test true e None there = refl
    at_test true e (Some other) there =
        let named : name_of file ≡ name = (bytes_eq-Decides _ _).0 e in
        let known : named_bytes files (name_of file) ≡ Some (bytes_of other) = rw (named, there) refl in
        let none : ⊥ = cc in absurd none

-- what a slot holds, once the slots with a place forgot its size
pub in_slot-all_without_size : (at : ℕ) (slots : Slots Held) (slot : Slot) → in_slot (all_without_size at slots) slot ≡ without_size at (in_slot slots slot)
in_slot-all_without_size at slots Dump = refl
in_slot-all_without_size at slots Btf = refl
in_slot-all_without_size at slots Map = refl
in_slot-all_without_size at slots Plan = refl
in_slot-all_without_size at slots Report = refl
in_slot-all_without_size at slots Module = refl
