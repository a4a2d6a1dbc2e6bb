-- What always holds of the files that are seen.
use Rattle.std.specs.Prelude.{◌≡◌, ℕ, zero, suc, ◌+◌, ◌<◌, ◌^◌, Bool, true, false, List, length, Option, Some, None, IsSome}
use Rattle.std.proofs.Common.{refl, sym, ap, ◌∙◌, subst}
use Rattle.kc_outside.specs.declared.store.Slot.{Slot}
use Rattle.kc_outside.specs.declared.store.Slot.TheVariants.{Dump, Btf, Map, Plan, Report, Module}
use Rattle.kc_outside.specs.Files.{Files, HasLength, content}
use Rattle.kc_flattened.specs.Flat.{size_of, values, written}
use Rattle.kc_flattened_store.specs.declared.shape.FlatShape.{FlatShape}
use Rattle.kc_flattened_store.specs.declared.shape.FlatShape.TheVariants.{Whole, Flat}
use Rattle.kc_flattened_store.specs.Seen.{is_dump, learnt_size, opened_by, seen_by, seen_bytes, seen_files, seen_opened, seen_sizes}
use Rattle.kc_flattened_store.specs.Shapes.{file_size, shape_bytes, shape_size}

-- ---- a slot whose size is learnt holds a file

dump_opened : (learnt : Bool) (shape : Option FlatShape) (name : Option (List ℕ)) → ((s : FlatShape) → shape ≡ Some s → IsSome name) → IsSome (learnt_size learnt shape) → IsSome (opened_by true shape name)
dump_opened true (Some s) name there known = there s refl
dump_opened true None name there known = let none : ⊥ = Prim.cc in absurd none
dump_opened false shape name there known = let none : ⊥ = Prim.cc in absurd none

pub sizes_opened : (learnt : Bool) (shape : Option FlatShape) (opened : Slot → Option (List ℕ)) (sizes : Slot → Option ℕ) (slot : Slot)
    → ((s : FlatShape) → shape ≡ Some s → IsSome (opened Dump)) → (IsSome (sizes slot) → IsSome (opened slot))
    → IsSome (seen_sizes (learnt_size learnt shape) sizes slot) → IsSome (seen_opened shape opened slot)
sizes_opened learnt shape opened sizes Dump there law known = dump_opened learnt shape (opened Dump) there known
sizes_opened learnt shape opened sizes Btf there law known = law known
sizes_opened learnt shape opened sizes Map there law known = law known
sizes_opened learnt shape opened sizes Plan there law known = law known
sizes_opened learnt shape opened sizes Report there law known = law known
sizes_opened learnt shape opened sizes Module there law known = law known

-- ---- a size fits 64 bits

dump_fits : (learnt : Bool) (shape : Option FlatShape) (n : ℕ) → ((s : FlatShape) → shape ≡ Some s → shape_size s < 2 ^ 64) → learnt_size learnt shape ≡ Some n → n < 2 ^ 64
dump_fits true (Some s) n fits known = let same : shape_size s ≡ n = Prim.cc in subst (λ (k : ℕ). k < 2 ^ 64) same (fits s refl)
dump_fits true None n fits known = let none : ⊥ = Prim.cc in absurd none
dump_fits false shape n fits known = let none : ⊥ = Prim.cc in absurd none

pub sizes_fit : (learnt : Bool) (shape : Option FlatShape) (sizes : Slot → Option ℕ) (slot : Slot) (n : ℕ)
    → ((s : FlatShape) → shape ≡ Some s → shape_size s < 2 ^ 64) → (sizes slot ≡ Some n → n < 2 ^ 64)
    → seen_sizes (learnt_size learnt shape) sizes slot ≡ Some n → n < 2 ^ 64
sizes_fit learnt shape sizes Dump n fits law known = dump_fits learnt shape n fits known
sizes_fit learnt shape sizes Btf n fits law known = law known
sizes_fit learnt shape sizes Map n fits law known = law known
sizes_fit learnt shape sizes Plan n fits law known = law known
sizes_fit learnt shape sizes Report n fits law known = law known
sizes_fit learnt shape sizes Module n fits law known = law known

-- ---- a learnt size is the file's length

pub content_seen : (files : Option Files) (slot : Slot) (name : Option (List ℕ)) → content (seen_files files) slot name ≡ seen_by (is_dump slot) (content files slot name)
content_seen None Dump name = refl
content_seen None Btf name = refl
content_seen None Map name = refl
content_seen None Plan name = refl
content_seen None Report name = refl
content_seen None Module name = refl
content_seen (Some files) slot (Some name) = refl
content_seen (Some files) Dump None = refl
content_seen (Some files) Btf None = refl
content_seen (Some files) Map None = refl
content_seen (Some files) Plan None = refl
content_seen (Some files) Report None = refl
content_seen (Some files) Module None = refl

length_values : (f : ℕ → ℕ) (at n : ℕ) → length (values f at n) ≡ n
unfolding values
length_values f at zero = refl
length_values f at (suc n) = ap suc (length_values f (at + 1) n)

shape_long : (s : FlatShape) (bytes : List ℕ) → file_size s ≡ length bytes → shape_size s ≡ length (shape_bytes s bytes)
shape_long (Whole size) bytes long = long
shape_long (Flat file) bytes long = file.sized ∙ sym (length_values (λ i. written bytes file.records.items i 0) 0 (size_of file.records.items))

told_long : (told : Option (List ℕ)) (s : FlatShape) → HasLength told (file_size s) → ((bytes : List ℕ) → told ≡ Some bytes → seen_bytes bytes ≡ Some (shape_bytes s bytes)) → HasLength (seen_by true told) (shape_size s)
told_long None s long is = tt
told_long (Some bytes) s long is = subst (λ (seen : Option (List ℕ)). HasLength seen (shape_size s)) (sym (is bytes refl)) (shape_long s bytes long)

pub dump_length : (learnt : Bool) (shape : Option FlatShape) (files : Option Files) (name : Option (List ℕ)) (n : ℕ)
    → ((s : FlatShape) → shape ≡ Some s → HasLength (content files Dump name) (file_size s))
    → ((s : FlatShape) (bytes : List ℕ) → shape ≡ Some s → content files Dump name ≡ Some bytes → seen_bytes bytes ≡ Some (shape_bytes s bytes))
    → learnt_size learnt shape ≡ Some n → HasLength (content (seen_files files) Dump (opened_by true shape name)) n
dump_length true (Some s) files name n long is known =
    let same : shape_size s ≡ n = Prim.cc in
    subst (λ (k : ℕ). HasLength (content (seen_files files) Dump name) k) same
    (subst (λ (seen : Option (List ℕ)). HasLength seen (shape_size s)) (sym (content_seen files Dump name)) (told_long (content files Dump name) s (long s refl) (λ bytes. is s bytes refl)))
dump_length true None files name n long is known = let none : ⊥ = Prim.cc in absurd none
dump_length false shape files name n long is known = let none : ⊥ = Prim.cc in absurd none

other_length : (files : Option Files) (slot : Slot) (name : Option (List ℕ)) (n : ℕ) → is_dump slot ≡ false → HasLength (content files slot name) n → HasLength (content (seen_files files) slot name) n
other_length files slot name n other long =
    subst (λ (seen : Option (List ℕ)). HasLength seen n) (sym (content_seen files slot name ∙ ap (λ (b : Bool). seen_by b (content files slot name)) other)) long

pub sizes_length : (learnt : Bool) (shape : Option FlatShape) (files : Option Files) (opened : Slot → Option (List ℕ)) (sizes : Slot → Option ℕ) (slot : Slot) (n : ℕ)
    → ((s : FlatShape) → shape ≡ Some s → sizes Dump ≡ Some (file_size s))
    → ((s : FlatShape) (bytes : List ℕ) → shape ≡ Some s → content files Dump (opened Dump) ≡ Some bytes → seen_bytes bytes ≡ Some (shape_bytes s bytes))
    → ((m : ℕ) → sizes Dump ≡ Some m → HasLength (content files Dump (opened Dump)) m)
    → (sizes slot ≡ Some n → HasLength (content files slot (opened slot)) n)
    → seen_sizes (learnt_size learnt shape) sizes slot ≡ Some n → HasLength (content (seen_files files) slot (seen_opened shape opened slot)) n
sizes_length learnt shape files opened sizes Dump n at is dump law known = dump_length learnt shape files (opened Dump) n (λ s here. dump (file_size s) (at s here)) is known
sizes_length learnt shape files opened sizes Btf n at is dump law known = other_length files Btf (opened Btf) n refl (law known)
sizes_length learnt shape files opened sizes Map n at is dump law known = other_length files Map (opened Map) n refl (law known)
sizes_length learnt shape files opened sizes Plan n at is dump law known = other_length files Plan (opened Plan) n refl (law known)
sizes_length learnt shape files opened sizes Report n at is dump law known = other_length files Report (opened Report) n refl (law known)
sizes_length learnt shape files opened sizes Module n at is dump law known = other_length files Module (opened Module) n refl (law known)
