-- The names of a plan's audits.
use Rattle.std.proofs.Common.{◌≡◌, ℕ, zero, suc, ◌+◌, List, [], ◌∷◌, ◌++◌, take, slice_get, Some, ap, add-one}
use Rattle.kc_plan.specs.Planned.{AuditAt}
use Rattle.kc_audit.specs.Audits.{names_of}

one_more : (audits : List AuditAt) (i : ℕ) (a : AuditAt) → slice_get audits i ≡ Some a → names_of (take (suc i) audits) ≡ names_of (take i audits) ++ a.name ∷ []
one_more [] i a is = absurd (let none : ⊥ = cc in none)
one_more (b ∷ bs) zero a is = let same : b ≡ a = cc in ap (λ (z : AuditAt). z.name ∷ []) same
one_more (b ∷ bs) (suc i) a is = ap (λ names. b.name ∷ names) (one_more bs i a is)

-- the names with one more
pub name_more : (audits : List AuditAt) (i : ℕ) (a : AuditAt) → slice_get audits i ≡ Some a → names_of (take (i + 1) audits) ≡ names_of (take i audits) ++ a.name ∷ []
name_more audits i a is = rw add-one (one_more audits i a is)
