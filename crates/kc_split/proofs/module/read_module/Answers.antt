use Rattle.std.proofs.Common.{◌≡◌, ◌+◌, ◌-◌, Option, Some, Ok, length, map, arith, ap, ◌∙◌}
use Rattle.std.proofs.lemmas.Result.{err_from_is_err_and}
use Rattle.kc_btf.specs.declared.stop.BtfFault.{BtfFault}
use Rattle.kc_btf.specs.Answers.{unless}
use Rattle.kc_btf.specs.Btf.{outside_fault}
use Rattle.kc_split.proofs.SplitLemmas.{IsTabled, there, split-table, are_split}
use Rattle.kc_split.proofs.module.read_module.Goals as goal

pub returns-in_err-check_inside-clause-exact : goal.returns-in_err-check_inside-clause-exact
returns-in_err-check_inside-clause-exact c =
    let gave = err_from_is_err_and c.from_residual-in_err-check_inside.result c.from_residual-in_err-check_inside.ensures.1 in
    let base = c.args.base.now in
    let bytes = c.args.bytes.now in
    let header = c.in_ok-header.header in
    let table = c.in_ok-table.table.items in
    let is : IsTabled bytes header table = record {
      read = c.in_ok-header.ensures.header;
      inside = c.in_ok-header.ensures.inside;
      sound = c.in_ok-header.ensures.fault;
      places = c.in_ok-table.ensures.exact;
    } in
    let count : c.in_ok-table.table.len ≡ length table = omega arith in
    let outside : outside_fault bytes (length base.strings + (header.strings_end - header.strings)) (length base.records + length table) (map (λ place. header.types + place) table) ≡ Some c.in_err-check_inside.field-0.0 =
    rw (c.deref.ensures.value, c.strings.ensures.exact, c.count.ensures, c.len.ensures, count) at c.in_err-check_inside.ensures.exact in
    rw (gave.1, gave.2) (split-table base bytes header table is ∙ ap (λ (f : Option BtfFault). unless f (Ok (there bytes header table))) outside)

pub returns-clause-exact : goal.returns-clause-exact
returns-clause-exact c =
    let base = c.args.base.now in
    let bytes = c.args.bytes.now in
    let header = c.in_ok-header.header in
    let table = c.in_ok-table.table.items in
    let is : IsTabled bytes header table = record {
      read = c.in_ok-header.ensures.header;
      inside = c.in_ok-header.ensures.inside;
      sound = c.in_ok-header.ensures.fault;
      places = c.in_ok-table.ensures.exact;
    } in
    let count : c.in_ok-table.table.len ≡ length table = omega arith in
    are_split base bytes header table is c.in_ok-table.ensures.spelled c.in_ok-table.ensures.form
    (rw (c.deref.ensures.value, c.strings.ensures.exact, c.count.ensures, c.len.ensures, count) at c.in_ok-check_inside.ensures.exact)
    (rw (c.deref.ensures.value, c.strings.ensures.exact, c.count.ensures, c.len.ensures, count) at c.in_ok-check_inside.ensures.inside)
