-- What always holds of the files of a store in memory.
use Rattle.std.specs.Prelude.{◌≡◌, ℕ, ◌<◌, ◌^◌, true, List, length, slice_get, Option, Some, None, IsSome}
use Rattle.std.specs.Option.{option_map, option_and_then}
use Rattle.std.specs.List.{position_or_len}
use Rattle.std.proofs.Common.{arith, rules}
use Rattle.std.proofs.lemmas.Bool.{eqb-true}
use Rattle.std.proofs.lemmas.List.Folds.{find_at}
use Rattle.kc_outside.specs.Files.{HasLength}
use Rattle.kc_outside.specs.declared.mem_file.MemFile.{MemFile}
use Rattle.kc_outside.specs.declared.mem_file.Held.{Held}
use Rattle.kc_outside.specs.declared.mem_file.Held.TheVariants.{Nothing, Opened, Learnt}
use Rattle.kc_outside.specs.MemFiles.{name_of, bytes_of, has_name, named_bytes, held_name, held_size, is_first, is_held}

-- a name stands for the bytes of its first file
pub named_bytes-first : (files : List MemFile) (at : ℕ) (file : MemFile) → slice_get files at ≡ Some file → is_first files at (Some file) ≡ true → named_bytes files (name_of file) ≡ Some (bytes_of file)
named_bytes-first files at file found first =
    let place : position_or_len (has_name (name_of file)) files ≡ at = eqb-true _ _ first in
    Prim.rw (find_at (has_name (name_of file)) files, place, found) (Prim.search rules)

-- a learnt size is the length of the bytes that the slot's name stands for
pub size_is_length : (files : List MemFile) (held : Held) (n : ℕ) → is_held files held ≡ true → held_size files held ≡ Some n → HasLength (option_and_then (named_bytes files) (held_name files held)) n
size_is_length files Nothing n is known = let none : ⊥ = Prim.cc in absurd none
size_is_length files (Opened at) n is known = let none : ⊥ = Prim.cc in absurd none
size_is_length files (Learnt at) n is known = at_file (slice_get files at) (Prim.search rules) is known
  where
    at_file : (found : Option MemFile) → slice_get files at ≡ found → is_first files at found ≡ true → option_map (λ file. length (bytes_of file)) found ≡ Some n → HasLength (option_and_then (named_bytes files) (option_map name_of found)) n
    at_file None here is known = let none : ⊥ = Prim.cc in absurd none
    at_file (Some file) here is known = Prim.rw (named_bytes-first files at file here is) (Prim.cc)

-- a slot whose size is learnt holds a name
pub size_has_name : (files : List MemFile) (held : Held) → IsSome (held_size files held) → IsSome (held_name files held)
size_has_name files Nothing known = let none : ⊥ = Prim.cc in absurd none
size_has_name files (Opened at) known = let none : ⊥ = Prim.cc in absurd none
size_has_name files (Learnt at) known = at_file (slice_get files at) known
  where
    at_file : (found : Option MemFile) → IsSome (option_map (λ file. length (bytes_of file)) found) → IsSome (option_map name_of found)
    at_file None known = let none : ⊥ = Prim.cc in absurd none
    at_file (Some file) known = Prim.search rules

-- a size fits 64 bits
pub size_is_small : (files : List MemFile) (held : Held) (n : ℕ) → held_size files held ≡ Some n → n < 2 ^ 64
size_is_small files Nothing n known = let none : ⊥ = Prim.cc in absurd none
size_is_small files (Opened at) n known = let none : ⊥ = Prim.cc in absurd none
size_is_small files (Learnt at) n known = at_file (slice_get files at) known
  where
    at_file : (found : Option MemFile) → option_map (λ file. length (bytes_of file)) found ≡ Some n → n < 2 ^ 64
    at_file None known = let none : ⊥ = Prim.cc in absurd none
    at_file (Some file) known =
        let whole : length file.bytes.items ≡ n = Prim.cc in
        let len = file.bytes.ok.0 in
        let cap = file.bytes.ok.1 in
        let small = file.bytes.small in
        Prim.omega arith
