use Rattle.std.proofs.Common.{◌≡◌, ℕ, ◌+◌, ◌-◌, ◌*◌, true, take, drop, sym, ap, ◌∙◌, arith, below_more}
use Rattle.kc_kdump.specs.declared.descriptor.Descriptor.{Descriptor}
use Rattle.kc_kdump.specs.Bytes.{part}
use Rattle.kc_kdump.specs.Dump.{descriptor_of, is_inside}
use Rattle.kc_kdump.proofs.there.count_inside.Goals as goal

pub loop-at-preserved : goal.loop-at-preserved
loop-at-preserved c =
    let size = c.args.size in
    let bytes = c.args.bytes.now in
    let at = c.loop-at.at in
    let width : at + 24 - at ≡ 24 = omega arith in
    let place : 24 * c.loop-at.count ≡ at = omega (arith, c.loop-at.invariant.place) in
    let here : is_inside size (descriptor_of (part (24 * c.loop-at.count) 24 bytes)) ≡ true =
    ap (λ (k : ℕ). is_inside size (descriptor_of (take 24 (drop k bytes)))) place
    ∙ sym (ap (λ (k : ℕ). is_inside size (descriptor_of (take k (drop at bytes)))) width)
    ∙ ap (λ (d : Descriptor). is_inside size d) (sym c.read.ensures) ∙ sym c.is_inside.ensures ∙ c.if-not-is_inside.false in
    record {
      place = omega arith;
      within = omega arith;
      each = below_more _ _ c.loop-at.invariant.each here;
    }
