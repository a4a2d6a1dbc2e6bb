-- What the files of a kernel hold, step by step.
use Rattle.std.proofs.Common.{◌≡◌, ℕ, List, Option, Some, None, Result, Ok, Err, refl}
use Rattle.std.specs.Global.{Vec}
use Rattle.kc_outside.specs.Files.{Files as Told}
use Rattle.kc_outside.specs.declared.store.Slot.TheVariants as slot
use Rattle.kc_elf.specs.Parts.{Parts}
use Rattle.kc_btf.specs.Btf.{Types}
use Rattle.kc_notes.specs.declared.info.Info.{Info}
use Rattle.kc_notes.specs.Info.{info}
use Rattle.kc_command.specs.declared.kernel.Noted.{Noted}
use Rattle.kc_command.specs.declared.refusal.Refusal.TheVariants.{Notes}
use Rattle.kc_command.specs.Inputs.{dump_parts, map_in, types_in}
use Rattle.kc_command.specs.Kernels.{kernel_in, kernel_view, noted_in, noted_view}
use Rattle.kc_command.specs.Made.{IsOf, checked, gives}

-- a dump, where its bytes are told, and then its notes
pub noted_told : (most : ℕ) (files : Option Told) (dump : List ℕ) (core : Parts) (told : Info)
    → IsOf {X = Parts} (λ x. x) (λ files. dump_parts most (files slot.Dump dump)) files (Ok core) → checked Notes (info core.notes) ≡ gives told
    → IsOf noted_view (λ files. noted_in most (files slot.Dump dump)) files (Ok (record { core = core; info = told }))
noted_told most None dump core told is noted = tt
noted_told most (Some files) dump core told is noted = rw (is, noted) refl

-- and the files of a kernel
pub kernel_told : (most : ℕ) (files : Option Told) (dump btf map : List ℕ) (noted : Noted) (types : Types) (listed : Vec ℕ)
    → IsOf noted_view (λ files. noted_in most (files slot.Dump dump)) files (Ok noted)
    → IsOf {X = Types} (λ x. x) (λ files. types_in (files slot.Btf btf)) files (Ok types)
    → IsOf {X = Vec ℕ} (λ m. m.items) (λ files. map_in (files slot.Map map)) files (Ok listed)
    → IsOf kernel_view (λ files. kernel_in most (files slot.Dump dump) (files slot.Btf btf) (files slot.Map map)) files
    (Ok (record { core = noted.core; info = noted.info; types = types; map = listed }))
kernel_told most None dump btf map noted types listed is typed mapped = tt
kernel_told most (Some files) dump btf map noted types listed is typed mapped = rw (is, typed, mapped) refl
