-- What a read of slot Dump gives.
use Rattle.std.specs.Prelude.{option_map}
use Rattle.std.specs.Result.{result_err, result_ok}
use Rattle.std.proofs.Common.{◌≡◌, ℕ, ◌<◌, ◌≤◌, true, false, List, take, drop, Option, Some, None, Result, Ok, Err, IfSome, refl, sym, ap, ◌∙◌, subst, arith}
use Rattle.kc_outside.specs.declared.store.Slot.{Slot}
use Rattle.kc_outside.specs.declared.store.Slot.TheVariants.{Dump, Btf, Map, Plan, Report, Module}
use Rattle.kc_outside.specs.Files.{Files, HasLength, HasPart, IsOther, content}
use Rattle.kc_word.specs.Answers.{Tells}
use Rattle.kc_flattened.specs.declared.fault.FlatFault.{FlatFault}
use Rattle.kc_flattened.specs.declared.fault.FlatStop.{FlatStop}
use Rattle.kc_flattened.specs.declared.fault.FlatStop.TheVariants.{Fault, ReadFault, NoMemory}
use Rattle.kc_flattened.specs.Answers.{told}
use Rattle.kc_flattened.specs.declared.record.Record.{Record}
use Rattle.kc_flattened.specs.Flat.{flat_of, meant_by, pasted, unflat}
use Rattle.kc_flattened_store.specs.declared.shape.FlatShape.{FlatShape}
use Rattle.kc_flattened_store.specs.declared.stop.FlattenedFault.{FlattenedFault}
use Rattle.kc_flattened_store.specs.declared.stop.FlattenedFault.TheVariants as as_fault
use Rattle.kc_flattened_store.specs.Counts.{fault_of}
use Rattle.kc_flattened_store.specs.Faults.{IfRefused, refusal}
use Rattle.kc_flattened_store.specs.Seen.{is_dump, opened_by, seen_by, seen_bytes, seen_files, seen_opened}
use Rattle.kc_flattened_store.specs.Shapes.{file_size, shape_bytes, shape_size}
use Rattle.kc_flattened_store.specs.StoreLaws.{content_seen, dump_length}

told_part : (told : Option (List ℕ)) (s : FlatShape) (off count : ℕ) (buf : List ℕ) → ((bytes : List ℕ) → told ≡ Some bytes → seen_bytes bytes ≡ Some (shape_bytes s bytes))
    → IfSome told (λ bytes. buf ≡ take count (drop off (shape_bytes s bytes))) → HasPart (seen_by true told) off count buf
told_part None s off count buf is part = tt
told_part (Some bytes) s off count buf is part = subst (λ (seen : Option (List ℕ)). HasPart seen off count buf) (sym (is bytes refl)) part

dump_part : (shape : Option FlatShape) (files : Option Files) (name : Option (List ℕ)) (off count : ℕ) (buf : List ℕ)
    → ((s : FlatShape) (bytes : List ℕ) → shape ≡ Some s → content files Dump name ≡ Some bytes → seen_bytes bytes ≡ Some (shape_bytes s bytes))
    → ((s : FlatShape) → shape ≡ Some s → IfSome (content files Dump name) (λ bytes. buf ≡ take count (drop off (shape_bytes s bytes))))
    → HasPart (content (seen_files files) Dump (opened_by true shape name)) off count buf
dump_part (Some s) files name off count buf told part =
    subst (λ (seen : Option (List ℕ)). HasPart seen off count buf) (sym (content_seen files Dump name)) (told_part (content files Dump name) s off count buf (λ bytes. told s bytes refl) (part s refl))
dump_part None None name off count buf told part = tt
dump_part None (Some files) name off count buf told part = tt

pub read_seen : (slot : Slot) (shape : Option FlatShape) (files : Option Files) (opened : Slot → Option (List ℕ)) (off count : ℕ) (buf : List ℕ) → is_dump slot ≡ true
    → ((s : FlatShape) (bytes : List ℕ) → shape ≡ Some s → content files Dump (opened Dump) ≡ Some bytes → seen_bytes bytes ≡ Some (shape_bytes s bytes))
    → ((s : FlatShape) → shape ≡ Some s → IfSome (content files Dump (opened Dump)) (λ bytes. buf ≡ take count (drop off (shape_bytes s bytes))))
    → HasPart (content (seen_files files) slot (seen_opened shape opened slot)) off count buf
read_seen Dump shape files opened off count buf is told part = dump_part shape files (opened Dump) off count buf told part
read_seen Btf shape files opened off count buf is told part = absurd (let none : ⊥ = cc in none)
read_seen Map shape files opened off count buf is told part = absurd (let none : ⊥ = cc in none)
read_seen Plan shape files opened off count buf is told part = absurd (let none : ⊥ = cc in none)
read_seen Report shape files opened off count buf is told part = absurd (let none : ⊥ = cc in none)
read_seen Module shape files opened off count buf is told part = absurd (let none : ⊥ = cc in none)

pub seen_length : (slot : Slot) (shape : Option FlatShape) (files : Option Files) (opened : Slot → Option (List ℕ)) (n : ℕ) → is_dump slot ≡ true
    → ((s : FlatShape) → shape ≡ Some s → HasLength (content files Dump (opened Dump)) (file_size s))
    → ((s : FlatShape) (bytes : List ℕ) → shape ≡ Some s → content files Dump (opened Dump) ≡ Some bytes → seen_bytes bytes ≡ Some (shape_bytes s bytes))
    → option_map shape_size shape ≡ Some n → HasLength (content (seen_files files) slot (seen_opened shape opened slot)) n
seen_length Dump shape files opened n is long told known = dump_length true shape files (opened Dump) n long told known
seen_length Btf shape files opened n is long told known = absurd (let none : ⊥ = cc in none)
seen_length Map shape files opened n is long told known = absurd (let none : ⊥ = cc in none)
seen_length Plan shape files opened n is long told known = absurd (let none : ⊥ = cc in none)
seen_length Report shape files opened n is long told known = absurd (let none : ⊥ = cc in none)
seen_length Module shape files opened n is long told known = absurd (let none : ⊥ = cc in none)

-- the records of a flattened file say what it means
pub told_flat : (o : Option (List ℕ)) (size : ℕ) (found : Option (List Record)) (records : List Record) → HasLength o size → found ≡ Some records
    → IfSome o (λ bytes. flat_of size bytes ≡ Ok found) → IfSome o (λ bytes. seen_bytes bytes ≡ Some (pasted bytes records))
unfolding unflat
told_flat None size found records long here is = tt
told_flat (Some bytes) size found records long here is =
    ap (λ (n : ℕ). result_ok (meant_by bytes (flat_of n bytes))) (sym long)
    ∙ ap (λ (r : Result (Option (List Record)) FlatFault). result_ok (meant_by bytes r)) (is ∙ ap (λ (f : Option (List Record)). Ok f) here)

pub told_whole : (o : Option (List ℕ)) (size : ℕ) (found : Option (List Record)) → HasLength o size → found ≡ None
    → IfSome o (λ bytes. flat_of size bytes ≡ Ok found) → IfSome o (λ bytes. seen_bytes bytes ≡ Some bytes)
unfolding unflat
told_whole None size found long here is = tt
told_whole (Some bytes) size found long here is =
    ap (λ (n : ℕ). result_ok (meant_by bytes (flat_of n bytes))) (sym long)
    ∙ ap (λ (r : Result (Option (List Record)) FlatFault). result_ok (meant_by bytes r)) (is ∙ ap (λ (f : Option (List Record)). Ok f) here)

-- a fault that ends the reading of the records is the file's
refused_by : (o : Option (List ℕ)) (size : ℕ) (stop : FlatStop) → HasLength o size → IfSome o (λ bytes. Tells (told stop) (flat_of size bytes))
    → IfRefused {A = FlatShape} (Err (fault_of stop)) (λ fault. IfSome o (λ bytes. refusal bytes ≡ Some fault))
unfolding unflat
refused_by None size (Fault fault) long is = tt
refused_by (Some bytes) size (Fault fault) long is =
    ap (λ (n : ℕ). result_err (meant_by bytes (flat_of n bytes))) (sym long) ∙ ap (λ (r : Result (Option (List Record)) FlatFault). result_err (meant_by bytes r)) is
refused_by o size ReadFault long is = tt
refused_by o size NoMemory long is = tt

pub told_refused : (o : Option (List ℕ)) (size : ℕ) (stop : FlatStop) (answer : FlattenedFault) → HasLength o size → answer ≡ fault_of stop
    → IfSome o (λ bytes. Tells (told stop) (flat_of size bytes)) → IfRefused {A = FlatShape} (Err answer) (λ fault. IfSome o (λ bytes. refusal bytes ≡ Some fault))
told_refused o size stop answer long is tells =
    subst (λ (a : FlattenedFault). IfRefused {A = FlatShape} (Err a) (λ fault. IfSome o (λ bytes. refusal bytes ≡ Some fault))) (sym is) (refused_by o size stop long tells)

-- a slot that isn't the dump's
pub not_dump : (slot : Slot) → is_dump slot ≡ false → IsOther slot Dump
not_dump Dump is = absurd (let none : ⊥ = cc in none)
not_dump Btf is = refl
not_dump Map is = refl
not_dump Plan is = refl
not_dump Report is = refl
not_dump Module is = refl

-- what was put down to the store below
pub still_failed : (old new : Option FlattenedFault) (before after : ℕ) → new ≡ old → before ≤ after → (old ≡ Some as_fault.Store → 0 < before) → new ≡ Some as_fault.Store → 0 < after
still_failed old new before after same more law is = omega (arith, law (sym same ∙ is), more)
