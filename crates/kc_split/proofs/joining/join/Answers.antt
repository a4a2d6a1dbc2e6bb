use Rattle.std.proofs.Common.{Ok, Err, cond, ap, ◌∙◌}
use Rattle.kc_btf.specs.Btf.{btf}
use Rattle.kc_split.specs.declared.stop.SplitStop.TheVariants.{TooLong}
use Rattle.kc_split.specs.Join.{with_module, join_of}
use Rattle.kc_split.proofs.JoinLemmas.{IsMade, is_made, answered, refused}
use Rattle.kc_split.proofs.joining.join.Goals as goal

pub unreachable-requires : goal.unreachable-requires
unreachable-requires c =
    let base = c.args.base.now in
    let bytes = c.args.module.now in
    let items = c.in_ok-file.file.items in
    let is = c.in_ok-header.ensures in
    let both : IsMade base bytes items is.exact.0 =
    is_made base bytes items c.in_ok-header.header is.exact.0 c.know_types.ensures c.strings.ensures.form is.header is.exact.1 is.strings (rw (c.types.ensures, c.strings.ensures.exact) at c.in_ok-file.ensures) in
    refused (btf items) (with_module base bytes is.exact.0) c.in-Err-Fault.field-0-0 both.read (rw c.in-Err-Fault.field-0-is at c.in-Err-Fault.ensures.exact)

pub returns-in-Ok : goal.returns-in-Ok
returns-in-Ok c =
    let base = c.args.base.now in
    let bytes = c.args.module.now in
    let items = c.in_ok-file.file.items in
    let is = c.in_ok-header.ensures in
    let both : IsMade base bytes items is.exact.0 =
    is_made base bytes items c.in_ok-header.header is.exact.0 c.know_types.ensures c.strings.ensures.form is.header is.exact.1 is.strings (rw (c.types.ensures, c.strings.ensures.exact) at c.in_ok-file.ensures) in
    let same = answered (btf items) (with_module base bytes is.exact.0) c.in-Ok.types both.read c.in-Ok.ensures.exact in
    record {
      exact = ap (join_of base bytes) is.exact.1.read
          ∙ ap (λ t. cond t (Err TooLong) (Ok (with_module base bytes is.exact.0))) both.short
          ∙ ap (λ x. Ok x) same;
    }
