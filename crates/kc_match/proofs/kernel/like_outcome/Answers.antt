use Rattle.std.proofs.Common.{◌≡◌, ◌∙◌, ap, sym, length, arith, w64, of_z, to_z}
use Rattle.std.proofs.Math.Facts.{to_z-of_z}
use Rattle.kc_match.specs.Outcomes.{either}
use Rattle.kc_match.specs.Views.{measured}
use Rattle.kc_match.proofs.TypesOfNames.{all_types, so_far, so_far-more}
use Rattle.kc_match.proofs.kernel.like_outcome.Goals as goal

pub loop-index-preserved : goal.loop-index-preserved
loop-index-preserved c =
    let stated = to_z w64 (of_z w64 c.args.stated) in
    c.or-outcome.ensures ∙ ap (λ o. either o c.type_outcome-told.result) c.loop-index.invariant
    ∙ ap (either (so_far c.args.types.now c.args.name.now c.args.first (measured c.args.types.now c.args.measure) stated c.loop-index.index)) c.type_outcome-told.ensures
    ∙ sym (so_far-more c.args.types.now c.args.name.now c.args.first (measured c.args.types.now c.args.measure) stated c.loop-index.index)

pub returns : goal.returns
returns c =
    let stated = to_z w64 (of_z w64 c.args.stated) in
    let whole : c.loop-index.index ≡ length c.args.types.now.records = omega arith in
    c.loop-index.invariant ∙ ap (so_far c.args.types.now c.args.name.now c.args.first (measured c.args.types.now c.args.measure) stated) whole
    ∙ ap (λ s. so_far c.args.types.now c.args.name.now c.args.first (measured c.args.types.now c.args.measure) s (length c.args.types.now.records)) (to_z-of_z c.ranges.stated)
    ∙ all_types c.args.types.now c.args.name.now c.args.first (measured c.args.types.now c.args.measure) c.args.stated c.requires
