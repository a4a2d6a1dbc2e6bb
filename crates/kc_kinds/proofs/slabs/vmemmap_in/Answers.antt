use Rattle.std.proofs.Common.{◌∙◌, sym, ap, ℕ, codes}
use Rattle.std.proofs.lemmas.Bool.{cond-true, cond-false}
use Rattle.kc_kinds.specs.Kernels.{address_in, base_at, kernel}
use Rattle.kc_kinds.proofs.slabs.vmemmap_in.Goals as goal
use Rattle.kc_kinds.proofs.slabs.vmemmap_in.Goals.{then-known, else-known}

pub returns : goal.returns
returns c = elim c.if-known.branch [
  | then-known w ↦ c.base_at.ensures ∙ ap (λ (u : ℕ). base_at (address_in (kernel c.args.known.now) (codes "vmemmap_base")) u) (w.usual-is ∙ sym (cond-true _ _ _ w.if-known.true))
  | else-known w ↦ c.base_at.ensures ∙ ap (λ (u : ℕ). base_at (address_in (kernel c.args.known.now) (codes "vmemmap_base")) u) (w.usual-is ∙ sym (cond-false _ _ _ w.if-known.false))
]
