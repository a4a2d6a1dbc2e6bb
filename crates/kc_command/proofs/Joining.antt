-- What becomes of the answer of a joining.
use Rattle.std.proofs.Common.{◌≡◌, ℕ, ◌-◌, ◌≤◌, ◌^◌, Bool, true, false, ◌||◌, List, length, drop, Some, Result, Ok, Err, cond, slice_range, refl, arith}
use Rattle.std.specs.List.{flat_map}
use Rattle.std.proofs.lemmas.Bool.Decides.{nat_tests}
use Rattle.std.proofs.lemmas.List.{length-take, length-drop}
use Rattle.kc_btf.specs.declared.stop.BtfFault.{BtfFault}
use Rattle.kc_btf.specs.Btf.{Types}
use Rattle.kc_btf.specs.Header.{types_at, types_end, strings_at, strings_end, type_section, string_section}
use Rattle.kc_btf.specs.Records.{Record}
use Rattle.kc_btf.specs.Spelling.{spelled}
use Rattle.kc_split.specs.declared.stop.SplitStop.TheVariants as split_stop
use Rattle.kc_split.specs.Join.{with_module, is_too_long, are_too_long, join_of}
use Rattle.kc_command.specs.declared.refusal.Refusal.TheVariants.{Module}
use Rattle.kc_command.specs.Inputs.{AreShort}
use Rattle.kc_command.specs.Made.{◌>>=◌, Made, checked, gives}

-- what is made of a module's records
abbrev made_of : Types → List ℕ → Result (List Record) BtfFault → Made Types
made_of base bytes records = checked Module records >>= (λ rs. gives (with_module base bytes rs))

fits : (long : Bool) (x types : Types) → cond long (Err split_stop.TooLong) (Ok x) ≡ Ok types → x ≡ types
fits true x types is = let none : ⊥ = cc in absurd none
fits false x types is = cc

pub joined_ok : (base types : Types) (bytes : List ℕ) (records : Result (List Record) BtfFault) → join_of base bytes records ≡ Ok types → made_of base bytes records ≡ Some (Ok types)
joined_ok base types bytes (Ok rs) is =
    let same = fits (are_too_long base bytes) (with_module base bytes rs) types is in
    rw same refl
joined_ok base types bytes (Err fault) is = let none : ⊥ = cc in absurd none

no_fault : (long : Bool) (x : Types) (fault : BtfFault) → cond long (Err split_stop.TooLong) (Ok x) ≡ Err (split_stop.Fault fault) → ⊥
no_fault true x fault is = cc
no_fault false x fault is = cc

pub joined_fault : (base : Types) (fault : BtfFault) (bytes : List ℕ) (records : Result (List Record) BtfFault) → join_of base bytes records ≡ Err (split_stop.Fault fault) →
    made_of base bytes records ≡ Some (Err (Module fault))
joined_fault base fault bytes (Ok rs) is = absurd (no_fault (are_too_long base bytes) (with_module base bytes rs) fault is)
joined_fault base fault bytes (Err other) is = let same : other ≡ fault = cc in rw same refl

part_short : (at end : ℕ) (bytes : List ℕ) → length (slice_range bytes at end) ≤ length bytes
part_short at end bytes = omega (arith, length-take (end - at) (drop at bytes), length-drop at bytes)

short_enough : (a b c d : ℕ) → a ≤ 2 ^ 26 → b ≤ 2 ^ 26 → c ≤ 2 ^ 26 → d ≤ 2 ^ 26 → (is_too_long a b || is_too_long c d) ≡ false
short_enough a b c d w x y z = grind (arith, nat_tests)

long_stop : (long : Bool) (x : Types) → long ≡ false → cond long (Err split_stop.TooLong) (Ok x) ≡ Err split_stop.TooLong → ⊥
long_stop true x short is = cc
long_stop false x short is = cc

-- no two files of 64 MiB have types that are too long together
pub never_long : (base : Types) (bytes : List ℕ) (records : Result (List Record) BtfFault) → AreShort base → length bytes ≤ 2 ^ 26 → join_of base bytes records ≡ Err split_stop.TooLong → ⊥
never_long base bytes (Err fault) own short is = cc
never_long base bytes (Ok rs) own short is =
    let types = part_short (types_at bytes) (types_end bytes) bytes in
    let strings = part_short (strings_at bytes) (strings_end bytes) bytes in
    long_stop (are_too_long base bytes) (with_module base bytes rs)
    (short_enough (length (flat_map spelled base.records)) (length (type_section bytes)) (length base.strings) (length (string_section bytes)) own.types (omega arith) own.strings (omega arith)) is
