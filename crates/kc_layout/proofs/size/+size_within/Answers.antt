use Rattle.std.proofs.Common.{◌≡◌, ◌*◌, ◌-◌, Some, None, option_and_then, ap, arith, ◌∙◌, sym}
use Rattle.kc_layout.specs.Size.{if_counted, size_within}
use Rattle.kc_layout.proofs.LayerLemmas.{size-bytes, size-unknown, size-last_target, size-last_elements, size-target, size-elements}
use Rattle.kc_layout.proofs.size.+size_within.Goals as goal

pub returns-in-Bytes-clause-exact : goal.returns-in-Bytes-clause-exact
returns-in-Bytes-clause-exact t c = ap (λ n. Some n) c.from.ensures ∙ sym (size-bytes c.args.most c.args.btf.now c.args.id c.in-Bytes.size (sym c.in-Bytes.ensures.exact))

pub returns-in-Unknown-clause-exact : goal.returns-in-Unknown-clause-exact
returns-in-Unknown-clause-exact t c = sym (size-unknown c.args.most c.args.btf.now c.args.id (sym c.in-Unknown.ensures.exact))

pub returns-then-most-eq0-clause-exact : goal.returns-then-most-eq0-clause-exact
returns-then-most-eq0-clause-exact t c = sym (size-last_target c.args.most c.args.btf.now c.args.id c.in-Target.target (omega arith) (sym c.in-Target.ensures.exact))

pub returns-else-most-eq0-clause-exact : goal.returns-else-most-eq0-clause-exact
returns-else-most-eq0-clause-exact t c = c.size_within.ensures.exact ∙ sym (size-target c.args.most c.args.btf.now c.args.id c.in-Target.target (omega arith) (sym c.in-Target.ensures.exact))

pub returns-then-most-eq0-2-clause-exact : goal.returns-then-most-eq0-2-clause-exact
returns-then-most-eq0-2-clause-exact t c = sym (size-last_elements c.args.most c.args.btf.now c.args.id c.in-Elements.array (omega arith) (sym c.in-Elements.ensures.exact))

pub returns-in_err-element-in-Elements-clause-exact : goal.returns-in_err-element-in-Elements-clause-exact
returns-in_err-element-in-Elements-clause-exact t c =
    let a = c.in-Elements.array in
    let none : size_within (c.args.most - 1) c.args.btf.now a.ty ≡ None = sym c.in_err-element-in-Elements.ensures.exact in
    c.from_residual.ensures ∙ sym (size-elements c.args.most c.args.btf.now c.args.id a (omega arith) (sym c.in-Elements.ensures.exact) ∙ ap (option_and_then (λ size. if_counted (a.nelems * size))) none)

pub returns-in_ok-element-in-Elements-clause-exact : goal.returns-in_ok-element-in-Elements-clause-exact
returns-in_ok-element-in-Elements-clause-exact t c =
    let a = c.in-Elements.array in
    let some : size_within (c.args.most - 1) c.args.btf.now a.ty ≡ Some c.in_ok-element-in-Elements.element = sym c.in_ok-element-in-Elements.ensures.exact in
    let times : c.if_counted.result ≡ if_counted (a.nelems * c.in_ok-element-in-Elements.element) = c.if_counted.ensures.exact ∙ ap (λ n. if_counted (n * c.in_ok-element-in-Elements.element)) c.from-in-Elements.ensures in
    times ∙ sym (size-elements c.args.most c.args.btf.now c.args.id a (omega arith) (sym c.in-Elements.ensures.exact) ∙ ap (option_and_then (λ size. if_counted (a.nelems * size))) some)
