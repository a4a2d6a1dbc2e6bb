use Rattle.std.proofs.Common.{◌≡◌, ◌+◌, ◌-◌, Option, None, Some, Ok, length, map, arith, ap, ◌∙◌}
use Rattle.std.proofs.lemmas.Result.{err_from_is_err_and}
use Rattle.kc_btf.specs.declared.stop.BtfFault.{BtfFault}
use Rattle.kc_btf.specs.Answers.{unless}
use Rattle.kc_btf.specs.Btf.{outside_fault}
use Rattle.kc_btf.specs.Kept.{kept}
use Rattle.kc_btf.specs.Whole.{AreOf}
use Rattle.kc_btf.proofs.ReadLemmas.{part_short, IsTabled, AreRecords, ReferInside, btf-table, none-outside, length-strings, spelled-kept, form-kept, inside-kept}
use Rattle.kc_btf.proofs.SpellingLemmas.{IsBytes, are_bytes}
use Rattle.kc_btf.proofs.btf.Btf.read.Goals as goal
use Rattle.kc_btf.specs.Header.{types_at, types_end}

pub returns-in_err-check_inside-clause-exact : goal.returns-in_err-check_inside-clause-exact
returns-in_err-check_inside-clause-exact c =
    let gave = err_from_is_err_and c.from_residual-in_err-check_inside.result c.from_residual-in_err-check_inside.ensures.1 in
    let bytes = c.args.bytes.items in
    let header = c.in_ok-header.header in
    let table = c.in_ok-table.table.items in
    let is : IsTabled bytes header table = record {
      read = rw c.deref.ensures.value at c.in_ok-header.ensures.header;
      inside = rw c.deref.ensures.value at c.in_ok-header.ensures.inside;
      sound = rw c.deref.ensures.value at c.in_ok-header.ensures.fault;
      places = rw c.deref-2.ensures.value at c.in_ok-table.ensures.exact;
    } in
    let count : c.in_ok-table.table.len ≡ length table = omega arith in
    let outside : outside_fault bytes (header.strings_end - header.strings) (length table) (map (λ place. header.types + place) table) ≡ Some c.in_err-check_inside.field-0.0 =
    rw (c.deref-3.ensures.value, c.deref-4.ensures.value, c.len.ensures, count) at c.in_err-check_inside.ensures.exact in
    rw (gave.1, gave.2) (btf-table bytes header table is ∙ ap (λ (f : Option BtfFault). unless f (Ok (kept bytes header table))) outside)

-- what the calls before gave
tabled : (c : goal.In_ok-check_inside) → IsTabled c.args.bytes.items c.in_ok-header.header c.in_ok-table.table.items
tabled c = record {
  read = rw c.deref.ensures.value at c.in_ok-header.ensures.header;
  inside = rw c.deref.ensures.value at c.in_ok-header.ensures.inside;
  sound = rw c.deref.ensures.value at c.in_ok-header.ensures.fault;
  places = rw c.deref-2.ensures.value at c.in_ok-table.ensures.exact;
}

none : (c : goal.In_ok-check_inside) → let header = c.in_ok-header.header in let table = c.in_ok-table.table.items in
    outside_fault c.args.bytes.items (header.strings_end - header.strings) (length table) (map (λ place. header.types + place) table) ≡ None
none c =
    let count : c.in_ok-table.table.len ≡ length c.in_ok-table.table.items = omega arith in
    rw (c.deref-3.ensures.value, c.deref-4.ensures.value, c.len.ensures, count) at c.in_ok-check_inside.ensures.exact

bytes_fit : (c : goal.In_ok-check_inside) → IsBytes c.args.bytes.items
bytes_fit c = are_bytes c.args.bytes.items (λ i within. omega arith)

found : (c : goal.In_ok-check_inside) → AreRecords c.args.bytes.items c.in_ok-header.header c.in_ok-table.table.items
found c = rw c.deref-2.ensures.value at c.in_ok-table.ensures.found

refer : (c : goal.In_ok-check_inside) → ReferInside c.args.bytes.items c.in_ok-header.header c.in_ok-table.table.items
refer c =
    let bytes = c.args.bytes.items in
    let header = c.in_ok-header.header in
    let table = c.in_ok-table.table.items in
    rw (length-strings bytes header (tabled c).inside) (none-outside bytes (header.strings_end - header.strings) (length table) header.types table (none c))

whole : (c : goal.In_ok-check_inside) → let header = c.in_ok-header.header in let table = c.in_ok-table.table.items in
    AreOf c.args.bytes.items (kept c.args.bytes.items header table)
whole c =
    let bytes = c.args.bytes.items in
    let header = c.in_ok-header.header in
    let table = c.in_ok-table.table.items in
    record {
      read = btf-table bytes header table (tabled c) ∙ ap (λ (f : Option BtfFault). unless f (Ok (kept bytes header table))) (none c);
      spelled = spelled-kept bytes header table (bytes_fit c) (tabled c);
      form = form-kept bytes header table (bytes_fit c) (found c);
      inside = inside-kept bytes header table (refer c);
    }

pub invariant_of-result : goal.invariant_of-result
invariant_of-result c = record {
  read = (tabled c).read;
  sections = (tabled c).inside;
  few = omega (arith, (tabled c).inside.short, c.in_ok-table.ensures.few);
  found = found c;
  refer = refer c;
  whole = whole c;
}

pub returns-clause-exact : goal.returns-clause-exact
returns-clause-exact c = (whole c).read

pub returns-clause-spelled : goal.returns-clause-spelled
returns-clause-spelled c = (whole c).spelled

pub returns-clause-form : goal.returns-clause-form
returns-clause-form c = (whole c).form

pub returns-clause-inside : goal.returns-clause-inside
returns-clause-inside c = (whole c).inside

pub returns-clause-types_short : goal.returns-clause-types_short
returns-clause-types_short c =
    let bytes = c.args.bytes.items in
    rw (whole c).spelled (part_short (types_at bytes) (types_end bytes) bytes)

pub returns-clause-strings_short : goal.returns-clause-strings_short
returns-clause-strings_short c = part_short c.in_ok-header.header.strings c.in_ok-header.header.strings_end c.args.bytes.items
