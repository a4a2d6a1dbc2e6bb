-- What a read of slot Dump gives.
use Rattle.std.proofs.Common.{◌≡◌, ℕ, Bool, true, false, List, take, drop, Option, Some, None, IfSome, option_map, refl, sym, subst}
use Rattle.kc_outside.specs.declared.store.Slot.{Slot}
use Rattle.kc_outside.specs.declared.store.Slot.TheVariants.{Dump, Btf, Map, Plan, Report, Module}
use Rattle.kc_outside.specs.Files.{Files, HasLength, HasPart, IsOther, content}
use Rattle.kc_plain_store.specs.declared.shape.PlainShape.{PlainShape}
use Rattle.kc_plain_store.specs.Seen.{is_dump, opened_by, seen_by, seen_bytes, seen_files, seen_opened}
use Rattle.kc_plain_store.specs.Shapes.{file_size, shape_bytes, shape_size}
use Rattle.kc_plain_store.specs.ViewLaws.{content_seen, sizes_length}

told_part : (told : Option (List ℕ)) (s : PlainShape) (off count : ℕ) (buf : List ℕ) → ((bytes : List ℕ) → told ≡ Some bytes → seen_bytes bytes ≡ Some (shape_bytes s bytes))
    → IfSome told (λ bytes. buf ≡ take count (drop off (shape_bytes s bytes))) → HasPart (seen_by true told) off count buf
told_part None s off count buf is part = tt
told_part (Some bytes) s off count buf is part = subst (λ (seen : Option (List ℕ)). HasPart seen off count buf) (sym (is bytes refl)) part

dump_part : (shape : Option PlainShape) (files : Option Files) (name : Option (List ℕ)) (off count : ℕ) (buf : List ℕ)
    → ((s : PlainShape) (bytes : List ℕ) → shape ≡ Some s → content files Dump name ≡ Some bytes → seen_bytes bytes ≡ Some (shape_bytes s bytes))
    → ((s : PlainShape) → shape ≡ Some s → IfSome (content files Dump name) (λ bytes. buf ≡ take count (drop off (shape_bytes s bytes))))
    → HasPart (content (seen_files files) Dump (opened_by true shape name)) off count buf
dump_part (Some s) files name off count buf told part =
    subst (λ (seen : Option (List ℕ)). HasPart seen off count buf) (sym (content_seen files Dump name)) (told_part (content files Dump name) s off count buf (λ bytes. told s bytes refl) (part s refl))
dump_part None None name off count buf told part = tt
dump_part None (Some files) name off count buf told part = tt

pub read_part : (slot : Slot) (shape : Option PlainShape) (files : Option Files) (opened : Slot → Option (List ℕ)) (off count : ℕ) (buf : List ℕ) → is_dump slot ≡ true
    → ((s : PlainShape) (bytes : List ℕ) → shape ≡ Some s → content files Dump (opened Dump) ≡ Some bytes → seen_bytes bytes ≡ Some (shape_bytes s bytes))
    → ((s : PlainShape) → shape ≡ Some s → IfSome (content files Dump (opened Dump)) (λ bytes. buf ≡ take count (drop off (shape_bytes s bytes))))
    → HasPart (content (seen_files files) slot (seen_opened shape opened slot)) off count buf
read_part Dump shape files opened off count buf is told part = dump_part shape files (opened Dump) off count buf told part
read_part Btf shape files opened off count buf is told part = absurd (let none : ⊥ = cc in none)
read_part Map shape files opened off count buf is told part = absurd (let none : ⊥ = cc in none)
read_part Plan shape files opened off count buf is told part = absurd (let none : ⊥ = cc in none)
read_part Report shape files opened off count buf is told part = absurd (let none : ⊥ = cc in none)
read_part Module shape files opened off count buf is told part = absurd (let none : ⊥ = cc in none)

-- the size that slot Dump tells
pub size_long : (slot : Slot) (shape : Option PlainShape) (files : Option Files) (opened : Slot → Option (List ℕ)) (sizes : Slot → Option ℕ) (n : ℕ) → is_dump slot ≡ true
    → ((s : PlainShape) → shape ≡ Some s → sizes Dump ≡ Some (file_size s))
    → ((s : PlainShape) (bytes : List ℕ) → shape ≡ Some s → content files Dump (opened Dump) ≡ Some bytes → seen_bytes bytes ≡ Some (shape_bytes s bytes))
    → ((m : ℕ) → sizes Dump ≡ Some m → HasLength (content files Dump (opened Dump)) m)
    → option_map shape_size shape ≡ Some n → HasLength (content (seen_files files) slot (seen_opened shape opened slot)) n
size_long Dump shape files opened sizes n is known told law long = sizes_length true shape files opened sizes Dump n known told law (λ here. law n here) long
size_long Btf shape files opened sizes n is known told law long = absurd (let none : ⊥ = cc in none)
size_long Map shape files opened sizes n is known told law long = absurd (let none : ⊥ = cc in none)
size_long Plan shape files opened sizes n is known told law long = absurd (let none : ⊥ = cc in none)
size_long Report shape files opened sizes n is known told law long = absurd (let none : ⊥ = cc in none)
size_long Module shape files opened sizes n is known told law long = absurd (let none : ⊥ = cc in none)

-- a slot that isn't the dump's
pub not_dump : (slot : Slot) → is_dump slot ≡ false → IsOther slot Dump
not_dump Dump is = absurd (let none : ⊥ = cc in none)
not_dump Btf is = refl
not_dump Map is = refl
not_dump Plan is = refl
not_dump Report is = refl
not_dump Module is = refl
