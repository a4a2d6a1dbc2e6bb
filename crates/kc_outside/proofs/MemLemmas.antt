-- Steps of the store in memory.
use Rattle.std.proofs.Common.{◌≡◌, ℕ, ◌<◌, true, List, length, position, Option, Some, None, IsTrue, IfSome, is_some, get_or, subst, arith, refl, sym, ap, ◌∙◌}
use Rattle.std.specs.Option.{option_map, option_and_then}
use Rattle.std.specs.List.{position_or_len, slice_get}
use Rattle.std.proofs.lemmas.Bool.{eq-eqb}
use Rattle.std.proofs.lemmas.List.Folds.{find_at}
use Rattle.std.proofs.lemmas.List.Sums.{passes_at_first}
use Rattle.std.proofs.lemmas.Option.{cond_some, same_Some, slice_get_cases, get_or_from_slice_get}
use Rattle.std.proofs.lemmas.Slice.Eq.{bytes_eq-Decides}
use Rattle.kc_outside.specs.declared.store.Slot.{Slot}
use Rattle.kc_outside.specs.declared.store.Slot.TheVariants.{Dump, Btf, Map, Plan, Report, Module}
use Rattle.kc_outside.specs.declared.slots.Slots.{Slots}
use Rattle.kc_outside.specs.declared.mem_file.MemFile.{MemFile}
use Rattle.kc_outside.specs.declared.mem_file.Held.{Held}
use Rattle.kc_outside.specs.declared.mem_file.Held.TheVariants.{Nothing, Opened, Learnt}
use Rattle.kc_outside.specs.MemLaws.{named_bytes-first}
use Rattle.kc_outside.specs.Slots.{in_slot, with_slot}
use Rattle.kc_outside.specs.MemFiles.{name_of, bytes_of, has_name, named_bytes, held_place, held_name, held_size, is_first, is_held}

-- what holds of each slot holds when one gets another value of which it holds
pub each-with_slot : {T : Type 0} (P : T → Type 0) (slots : Slots T) (slot : Slot) (value : T) → P value → ((other : Slot) → P (in_slot slots other)) → (other : Slot) → P (in_slot (with_slot slots slot value) other)
each-with_slot P slots Dump value here all = elim [ Dump ↦ here | Btf ↦ all Btf | Map ↦ all Map | Plan ↦ all Plan | Report ↦ all Report | Module ↦ all Module ]
each-with_slot P slots Btf value here all = elim [ Dump ↦ all Dump | Btf ↦ here | Map ↦ all Map | Plan ↦ all Plan | Report ↦ all Report | Module ↦ all Module ]
each-with_slot P slots Map value here all = elim [ Dump ↦ all Dump | Btf ↦ all Btf | Map ↦ here | Plan ↦ all Plan | Report ↦ all Report | Module ↦ all Module ]
each-with_slot P slots Plan value here all = elim [ Dump ↦ all Dump | Btf ↦ all Btf | Map ↦ all Map | Plan ↦ here | Report ↦ all Report | Module ↦ all Module ]
each-with_slot P slots Report value here all = elim [ Dump ↦ all Dump | Btf ↦ all Btf | Map ↦ all Map | Plan ↦ all Plan | Report ↦ here | Module ↦ all Module ]
each-with_slot P slots Module value here all = elim [ Dump ↦ all Dump | Btf ↦ all Btf | Map ↦ all Map | Plan ↦ all Plan | Report ↦ all Report | Module ↦ here ]

-- a name has a place exactly where it stands for bytes
pub place-known : (files : List MemFile) (name : List ℕ) → is_some (position (has_name name) files) ≡ is_some (named_bytes files name)
place-known files name = rw (find_at (has_name name) files) (grind (arith, slice_get_cases))

-- the place of a name has the first file of that name
pub record HasFirst (files : List MemFile) (name : List ℕ) (at : ℕ) (file : MemFile) : Type 0 where
  pub here : slice_get files at ≡ Some file
  pub named : name_of file ≡ name
  pub first : is_first files at (Some file) ≡ true

pub place-first : (files : List MemFile) (name : List ℕ) (at : ℕ) → position (has_name name) files ≡ Some at → (file : MemFile) × HasFirst files name at file
place-first files name at e = at_file (slice_get files at) refl
  where
    place : position_or_len (has_name name) files ≡ at
    place = (cond_some _ _ _ e).1

    at_file : (found : Option MemFile) → slice_get files at ≡ found → (file : MemFile) × HasFirst files name at file
    at_file None here = absurd (grind (arith, cond_some, slice_get_cases, place))
    at_file (Some file) here =
        let within : position_or_len (has_name name) files < length files = grind (arith, cond_some) in
        let passes : has_name name file ≡ true = grind (arith, passes_at_first (has_name name) files file within, get_or_from_slice_get, place) in
        let named : name_of file ≡ name = (bytes_eq-Decides (name_of file) name).0 passes in
        (file, record { here = here; named = named; first = rw named (eq-eqb _ _ place) })

-- a place that was found for a name may be put into a slot
pub place-held : (files : List MemFile) (name : List ℕ) (found : Option ℕ) → found ≡ position (has_name name) files → IfSome found (λ at. IsTrue (is_held files (Opened at)))
place-held files name None e = tt
place-held files name (Some at) e =
    let first = place-first files name at (sym e) in
    rw first.1.here first.1.first

-- and then the slot holds the name
pub place-named : (files : List MemFile) (name : List ℕ) (found : Option ℕ) → found ≡ position (has_name name) files → IfSome found (λ at. held_name files (Opened at) ≡ Some name)
place-named files name None e = tt
place-named files name (Some at) e =
    let first = place-first files name at (sym e) in
    rw first.1.here (ap Some first.1.named)

-- the name of a first file stands for its bytes
pub first-bytes : (files : List MemFile) (at : ℕ) (file : MemFile) → slice_get files at ≡ Some file → is_first files at (slice_get files at) ≡ true → option_and_then (named_bytes files) (option_map name_of (slice_get files at)) ≡ Some (bytes_of file)
first-bytes files at file here is = rw here (named_bytes-first files at file here (rw here at is))

-- what is read at the place of a first file is that file
pub first-here : (files : List MemFile) (at : ℕ) (file : MemFile) → file ≡ get_or files at file → is_first files at (slice_get files at) ≡ true → slice_get files at ≡ Some file
first-here files at file read is = at_file (slice_get files at) refl is
  where
    at_file : (found : Option MemFile) → slice_get files at ≡ found → is_first files at found ≡ true → slice_get files at ≡ Some file
    at_file None here is = let none : ⊥ = cc in absurd none
    at_file (Some other) here is = here ∙ ap Some (sym (read ∙ get_or_from_slice_get files at other file here))

-- a slot with a place has the first file of a name there
pub first-held : (files : List MemFile) (held : Held) (at : ℕ) → held_place held ≡ Some at → is_held files held ≡ true → is_first files at (slice_get files at) ≡ true
first-held files Nothing at place is = let none : ⊥ = cc in absurd none
first-held files (Opened here) at place is = subst (λ (k : ℕ). is_first files k (slice_get files k) ≡ true) (same_Some _ _ place) is
first-held files (Learnt here) at place is = subst (λ (k : ℕ). is_first files k (slice_get files k) ≡ true) (same_Some _ _ place) is

-- the name in a slot stands for the bytes of the file that is read at the slot's place
pub held-bytes : (files : List MemFile) (held : Held) (at : ℕ) (file : MemFile) → held_place held ≡ Some at → is_held files held ≡ true → file ≡ get_or files at file → option_and_then (named_bytes files) (held_name files held) ≡ Some (bytes_of file)
held-bytes files held at file place is read =
    let first = first-held files held at place is in
    rw place (first-bytes files at file (first-here files at file read first) first)

-- and a size that was learnt is their length
pub held-size : (files : List MemFile) (held : Held) (at : ℕ) (file : MemFile) → held_place held ≡ Some at → is_held files held ≡ true → file ≡ get_or files at file → IfSome (held_size files held) (λ n. n ≡ length (bytes_of file))
held-size files Nothing at file place is read = tt
held-size files (Opened here) at file place is read = tt
held-size files (Learnt here) at file place is read =
    let first = first-held files (Learnt here) at place is in
    let same : here ≡ at = same_Some _ _ place in
    rw (same, first-here files at file read first) refl

-- what a slot has that got a value
pub in_slot-with_slot : {T : Type 0} (slots : Slots T) (slot : Slot) (value : T) → in_slot (with_slot slots slot value) slot ≡ value
in_slot-with_slot slots Dump value = refl
in_slot-with_slot slots Btf value = refl
in_slot-with_slot slots Map value = refl
in_slot-with_slot slots Plan value = refl
in_slot-with_slot slots Report value = refl
in_slot-with_slot slots Module value = refl

-- a slot that learns its size has the length of what its name stands for
pub learnt-size : (files : List MemFile) (slots : Slots Held) (slot : Slot) (at : ℕ) → held_place (in_slot slots slot) ≡ Some at → is_held files (in_slot slots slot) ≡ true → held_size files (in_slot (with_slot slots slot (Learnt at)) slot) ≡ option_map length (option_and_then (named_bytes files) (held_name files (in_slot slots slot)))
learnt-size files slots slot at place is =
    let first = first-held files (in_slot slots slot) at place is in
    rw (in_slot-with_slot slots slot (Learnt at), place) (at_file (slice_get files at) refl first)
  where
    at_file : (found : Option MemFile) → slice_get files at ≡ found → is_first files at found ≡ true → option_map (λ file. length (bytes_of file)) found ≡ option_map length (option_and_then (named_bytes files) (option_map name_of found))
    at_file None here is = let none : ⊥ = cc in absurd none
    at_file (Some file) here is = rw (named_bytes-first files at file here is) refl
