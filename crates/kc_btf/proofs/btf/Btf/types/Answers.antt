use Rattle.std.proofs.Common.{ap, ◌∙◌, sym, slice_range}
use Rattle.std.specs.List.{flat_map}
use Rattle.kc_btf.specs.Btf.{Types}
use Rattle.kc_btf.specs.Spelling.{spelled}
use Rattle.kc_btf.specs.Header.{types_end}
use Rattle.kc_btf.proofs.btf.Btf.types.Goals as goal

pub returns : goal.returns
returns c =
    let s = c.self.inside in
    let bytes = s.bytes.items in
    let is = c.self.invariant in
    rw c.deref.ensures.value (sym (ap (λ (t : Types). flat_map spelled t.records) (sym c.self.view_is)
    ∙ is.whole.spelled
    ∙ ap (λ at. slice_range bytes at (types_end bytes)) (sym is.read.types)
    ∙ ap (λ end. slice_range bytes s.header.types end) (sym is.read.types_end)))
