use Rattle.std.proofs.Common.{◌<◌, length, ◌∙◌, arith}
use Rattle.kc_syms.proofs.IndexLemmas.{listed-put, on_ok}
use Rattle.kc_syms.proofs.index.add.Goals as goal

pub returns-clause-put : goal.returns-clause-put
returns-clause-put c =
    let room : c.from.result < length c.args.index.now.items = omega (arith, c.args.index.now.ok.0) in
    on_ok c.put_last.result c.put_last.ensures (λ longer query.
    listed-put c.args.index.now.items c.args.row c.index_mut.result.now c.put_last.new.rows query c.from.result room
    (c.from.ensures ∙ c.part_of.ensures) c.index_mut.ensures.value longer)
