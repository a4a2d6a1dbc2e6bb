use Rattle.std.proofs.Common.{◌≡◌, ◌+◌, ℕ, List, Option, None, map, sym, ◌∙◌, arith}
use Rattle.std.proofs.lemmas.List.{at_drop_all}
use Rattle.kc_btf.specs.declared.stop.BtfFault.{BtfFault}
use Rattle.kc_btf.specs.Btf.{outside_fault}
use Rattle.kc_btf.proofs.ReadLemmas.{none-outside}
use Rattle.kc_btf.proofs.inside.check_inside.Goals as goal

pub returns-clause-inside : goal.returns-clause-inside
returns-clause-inside c =
    let l = c.args.limits in
    let shift : ℕ → ℕ = λ place. c.args.types + place in
    let rest : List ℕ → Option BtfFault = λ places. outside_fault c.args.bytes.now l.strings l.types (map shift places) in
    let none : rest c.args.table.now ≡ None = sym c.loop-place.invariant ∙ at_drop_all rest c.args.table.now c.loop-place.place-index (omega arith) in
    none-outside c.args.bytes.now l.strings l.types c.args.types c.args.table.now none
