use Rattle.std.proofs.Common.{◌≡◌, true, false, refl, sym, ◌∙◌, arith}
use Rattle.kc_layout.specs.Names.{bears}
use Rattle.kc_layout.proofs.IndexLemmas.{first_drop, first_end}
use Rattle.kc_layout.proofs.names.first_in.Goals as goal

pub loop-id-init : goal.loop-id-init
loop-id-init c = refl

pub returns-then-is_named-clause-exact : goal.returns-then-is_named-clause-exact
returns-then-is_named-clause-exact c =
    let named : bears c.args.btf.now c.args.name.now c.args.wanted c.ty.result ≡ true = sym c.is_named.ensures ∙ c.if-is_named.true in
    let here = first_drop c.args.btf.now c.args.name.now c.args.wanted c.args.numbers.now c.loop-id.id-index c.ty.result (omega arith) c.ty.ensures.exact in
    sym (c.loop-id.invariant ∙ (rw named at here))

pub loop-id-preserved : goal.loop-id-preserved
loop-id-preserved c =
    let other : bears c.args.btf.now c.args.name.now c.args.wanted c.ty.result ≡ false = sym c.is_named.ensures ∙ c.if-is_named.false in
    let here = first_drop c.args.btf.now c.args.name.now c.args.wanted c.args.numbers.now c.loop-id.id-index c.ty.result (omega arith) c.ty.ensures.exact in
    c.loop-id.invariant ∙ (rw other at here)

pub returns-clause-exact : goal.returns-clause-exact
returns-clause-exact c =
    sym (c.loop-id.invariant ∙ first_end c.args.btf.now c.args.name.now c.args.wanted c.args.numbers.now c.loop-id.id-index (omega arith))
