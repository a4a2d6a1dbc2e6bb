-- The symbol that stands nearest below an address, or at it.
use Rattle.std.specs.Prelude.{ℕ, ◌&&◌, ◌||◌, Bool, false, not, codes, nat_le, nat_lt, if◌then◌else◌, List, [], ◌∷◌, Option, Some, None}
use Rattle.std.specs.Result.{result_ok}
use Rattle.std.specs.Str.{bytes_eq}
use Rattle.kc_syms.specs.Addresses.{at_run, common_of}
use Rattle.kc_syms.specs.Rows.{RowText, addresses}
use Rattle.kc_sight.specs.declared.symbol.ImageParts.{ImageParts}

-- a symbol, by its name and its address at run time
pub record SymbolAt : Type 0 where
  pub name : List ℕ
  pub address : ℕ

-- Rows that name no variable: where the variables of processors begin, which none of them is named for, and a number of bytes, which a map lists
-- among them. Source: the kernel's arch/x86/kernel/relocate_kernel_64.S.
abbrev pub names_none : List ℕ → Bool
names_none name = bytes_eq name (codes "__per_cpu_start") || bytes_eq name (codes "kexec_control_code_size")

-- one that a row lists, where its address at run time is this one or a higher one, and isn't above an address
abbrev pub below : ℕ → ℕ → ℕ → ℕ → List ℕ → Option SymbolAt
below from kaslr address listed name =
    if nat_le from (at_run kaslr listed) && nat_le (at_run kaslr listed) address && not (names_none name)
    then Some (record { name = name; address = at_run kaslr listed }) else None

-- the one at the higher address, and of two at the same the first
abbrev pub higher_of : SymbolAt → SymbolAt → SymbolAt
higher_of a b = if nat_lt a.address b.address then b else a

abbrev pub higher : Option SymbolAt → Option SymbolAt → Option SymbolAt
higher None b = b
higher (Some a) None = Some a
higher (Some a) (Some b) = Some (higher_of a b)

-- the highest that rows list from an address on, not above another one; of several at the same address the first
abbrev pub nearest : ℕ → ℕ → ℕ → List RowText → Option SymbolAt
nearest from kaslr address [] = None
nearest from kaslr address (row ∷ rows) = higher (below from kaslr address row.listed row.name) (nearest from kaslr address rows)

-- Where the image's text and the image end, and the memory that only the kernel's start needs, which it then frees. Source: the kernel's
-- arch/x86/kernel/vmlinux.lds.S; arch/x86/mm/init.c, `free_initmem`. Each is at a symbol, where that has one address at run time.
abbrev pub parts_by : ℕ → (List ℕ → List ℕ) → ImageParts
parts_by kaslr listed = record {
  text_end = result_ok (common_of kaslr (listed (codes "_etext")));
  end = result_ok (common_of kaslr (listed (codes "_end")));
  init_start = result_ok (common_of kaslr (listed (codes "__init_begin")));
  init_end = result_ok (common_of kaslr (listed (codes "__init_end")));
}

-- by the addresses that a map's rows list of each symbol
abbrev pub image_parts : ℕ → List RowText → ImageParts
image_parts kaslr rows = parts_by kaslr (λ name. addresses name rows)

-- an address is in the image
abbrev pub in_image : Option ℕ → ℕ → Bool
in_image None address = false
in_image (Some end) address = nat_le 0xffffffff80000000 address && nat_lt address end

-- an address isn't below one and is below another one, where both are known
abbrev pub is_between : Option ℕ → Option ℕ → ℕ → Bool
is_between None end address = false
is_between (Some start) None address = false
is_between (Some start) (Some end) address = nat_le start address && nat_lt address end

-- an address of the image that isn't freed
abbrev pub is_kept : ImageParts → ℕ → Bool
is_kept parts address = in_image parts.end address && not (is_between parts.init_start parts.init_end address)

-- the symbol of such an address of the image, which is linked to stand at 0xffffffff80000000 and above, by the rows of a map
abbrev pub image_symbol : ℕ → List RowText → ℕ → Option SymbolAt
image_symbol kaslr rows address = if is_kept (image_parts kaslr rows) address then nearest 0xffffffff80000000 kaslr address rows else None
