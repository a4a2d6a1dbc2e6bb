-- Fields that stand further on.
use Rattle.std.proofs.Common.{◌≡◌, ◌<◌, ◌≤◌, ◌+◌, ◌*◌, ◌^◌, ℕ, Some, option_map, ap, sym}
use Rattle.kc_word.specs.declared.bits.Bits.{Bits}
use Rattle.kc_layout.specs.declared.place.Field.{Field}
use Rattle.kc_kinds.specs.Pids.{moved}
use Rattle.kc_kinds.proofs.BitsLemmas.{bits_kept}

abbrev with_bits : Field → Bits → Field
with_bits f bits = record { hops = f.hops; bits = bits; ty = f.ty }

pub moved_near : (f : Field) (byte : ℕ) (near : f.bits.bit + 8 * byte < 2 ^ 36) (some : 1 ≤ f.bits.width) (word : f.bits.width ≤ 64)
    → Some (with_bits f (record { bit = f.bits.bit + 8 * byte; width = f.bits.width; signed = f.bits.signed; near = near; some = some; word = word })) ≡ moved f byte
moved_near f byte near some word =
    let bits : Bits = record { bit = f.bits.bit + 8 * byte; width = f.bits.width; signed = f.bits.signed; near = near; some = some; word = word } in
    sym (ap (option_map (with_bits f)) (bits_kept bits))
