use Rattle.std.proofs.Common.{◌≡◌, ◌+◌, drop, max, sym, ap, ◌∙◌, arith}
use Rattle.std.proofs.lemmas.List.{drop_all}
use Rattle.kc_flattened.specs.declared.record.Record.{Record}
use Rattle.kc_flattened.specs.Flat.{size_of}
use Rattle.kc_flattened.proofs.FlatLemmas.{size_more, size_none}
use Rattle.kc_flattened.proofs.part.size_of.Goals as goal

pub loop-record-preserved : goal.loop-record-preserved
loop-record-preserved c =
    let d : Record = record { to = 0; count = 0; from = 0 } in
    ap (λ e. max e (size_of (drop (c.loop-record.record-index + 1) c.args.records.now))) (c.max-end.ensures ∙ ap (λ r. max r c.loop-record.end) c.reach.ensures)
    ∙ size_more c.args.records.now c.loop-record.record-index c.loop-record.end d c.loop-record-test.true
    ∙ c.loop-record.invariant

pub returns : goal.returns
returns c =
    let none : size_of (drop c.loop-record.record-index c.args.records.now) ≡ 0 =
    ap (λ rs. size_of rs) (drop_all c.loop-record.record-index c.args.records.now c.loop-record-test.false) ∙ size_none in
    let top : c.loop-record.end ≡ max c.loop-record.end 0 = omega arith in
    top ∙ ap (λ n. max c.loop-record.end n) (sym none) ∙ c.loop-record.invariant
