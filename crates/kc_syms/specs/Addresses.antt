-- The address of a symbol at run time.
use Rattle.std.specs.Prelude.{ℕ, ◌+◌, ◌%◌, ◌^◌, ◌==◌, not, nat_le, List, [], ◌∷◌, map, find, Option, Some, None, Result, Ok, Err, if◌then◌else◌}
use Rattle.kc_syms.specs.declared.fault.SymFault.{SymFault}
use Rattle.kc_syms.specs.declared.fault.SymFault.TheVariants.{S2, S3}

-- where a listed address is at run time: KASLR moves the kernel's image, which is linked to stand at
-- 0xffffffff80000000 and above
abbrev pub at_run : ℕ → ℕ → ℕ
at_run kaslr listed = if nat_le 0xffffffff80000000 listed then (listed + kaslr) % 2 ^ 64 else listed

-- the first of these that is another address
abbrev pub another : ℕ → List ℕ → Option ℕ
another address others = find (λ other. not (other == address)) others

-- the address, where no row has another
abbrev pub agreed : ℕ → Option ℕ → Result ℕ SymFault
agreed address None = Ok address
agreed address (Some other) = Err (S3 address other)

-- the address of a symbol whose rows list these
abbrev pub common_of : ℕ → List ℕ → Result ℕ SymFault
common_of kaslr [] = Err S2
common_of kaslr (first ∷ rest) = agreed (at_run kaslr first) (another (at_run kaslr first) (map (at_run kaslr) rest))
