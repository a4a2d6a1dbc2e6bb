-- The other addresses of the same physical word that the kernel has by rule.
-- Source: the kernel's arch/x86/include/asm/page_64_types.h (__PAGE_OFFSET_BASE_L4, __PAGE_OFFSET_BASE_L5, __START_KERNEL_map) and
-- page_64.h (page_offset_base, phys_base).
use Rattle.std.specs.Prelude.{ℕ, ◌+◌, ◌-◌, ◌%◌, ◌^◌, ◌==◌, if◌then◌else◌, Bool, Option, Some, None, option_and_then, option_map, Result, Ok, Err}
use Rattle.std.specs.Result.{result_ok}
use Rattle.kc_memory.specs.declared.words.VWord.{VWord}
use Rattle.kc_memory.specs.Image.{Image}
use Rattle.kc_memory.specs.Stopped.{Stopped}
use Rattle.kc_memory.specs.Translation.{vword}
use Rattle.kc_syms.specs.declared.fault.SymFault.{SymFault}
use Rattle.kc_syms.specs.declared.fault.SymFault.TheVariants.{S2, S3}
use Rattle.kc_sight.specs.declared.aliases.Aliases.{Aliases}
use Rattle.kc_sight.specs.declared.aliases.Rules.{Rules}

-- where the direct map begins that has no variable: by the number of levels of page tables
abbrev pub fixed_base : Bool → ℕ
fixed_base five = if five then 0xff11000000000000 else 0xffff888000000000

-- where it begins: the word at the variable, or that fixed address where the kernel has no variable. None where the word can't be
-- read, or where the variable's rows have different addresses.
abbrev pub direct_base : Image → Bool → Result ℕ SymFault → Option ℕ
direct_base image five (Ok at) = option_map (λ w. w.value) (result_ok (vword image at))
direct_base image five (Err S2) = Some (fixed_base five)
direct_base image five (Err (S3 first other)) = None

-- a word read at another address is an alias, where it is the same physical word
abbrev pub same_word : ℕ → Result VWord Stopped → Option VWord
same_word pa (Ok w) = if w.pa == pa then Some w else None
same_word pa (Err s) = None

abbrev pub alias_at : Image → VWord → ℕ → Option VWord
alias_at image w at = if at == w.va then None else same_word w.pa (vword image at)

-- by the direct map, in which a physical address stands so far behind the base, and by the kernel's image, in which it stands less phys_base
-- behind 0xffffffff80000000; addresses wrap at 2^64
abbrev pub by_direct : Image → VWord → Option ℕ → Option VWord
by_direct image w base = option_and_then (λ b. alias_at image w ((b + w.pa) % 2 ^ 64)) base

abbrev pub by_image : Image → VWord → ℕ → Option VWord
by_image image w base = alias_at image w ((0xffffffff80000000 + w.pa + 2 ^ 64 - base) % 2 ^ 64)

-- of a word that is there
abbrev pub aliases : Image → Rules → Result VWord Stopped → Aliases
aliases image rules (Ok w) = record { direct = by_direct image w (direct_base image rules.five rules.direct); image = by_image image w rules.phys_base }
aliases image rules (Err s) = record { direct = None; image = None }
