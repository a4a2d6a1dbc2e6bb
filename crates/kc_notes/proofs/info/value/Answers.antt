use Rattle.std.proofs.Common.{sym, ◌∙◌, ap}
use Rattle.std.proofs.lemmas.List.{take_rest}
use Rattle.kc_notes.specs.Values.{behind_key}
use Rattle.kc_notes.proofs.LineLemmas.{value_of-found, value_of-passed, value_of-last}
use Rattle.kc_notes.proofs.info.value.Goals as goal

pub returns-in-Some-behind_key : goal.returns-in-Some-behind_key
returns-in-Some-behind_key c =
    sym (value_of-found c.args.key.now c.loop-end.rest.now c.in-Some-behind_key.found.now c.in-Some.end (sym c.in-Some.ensures.value) (ap (behind_key c.args.key.now) (sym c.split_at.ensures.front) ∙ sym c.in-Some-behind_key.ensures)) ∙ c.loop-end.invariant

pub loop-end-preserved : goal.loop-end-preserved
loop-end-preserved c =
    rw (take_rest, c.split_at.ensures.back) (value_of-passed c.args.key.now c.loop-end.rest.now c.in-Some.end (sym c.in-Some.ensures.value) (ap (behind_key c.args.key.now) (sym c.split_at.ensures.front) ∙ sym c.in_default-behind_key.ensures) ∙ c.loop-end.invariant)

pub returns : goal.returns
returns c =
    c.behind_key-2.ensures ∙ sym (value_of-last c.args.key.now c.loop-end.rest.now (sym c.in_default.ensures.value)) ∙ c.loop-end.invariant
