-- Which audits of a plan a root audit reaches.
use Rattle.std.specs.Prelude.{◌≡◌, ◌↔◌, ℕ, suc, ◌<◌, Bool, true, ◌&&◌, nat_le, List, [], ◌∷◌, length, slice_get, Some}
use Rattle.kc_plan.specs.Kept.{are_later}
use Rattle.kc_plan.specs.Planned.{AuditAt}
use Rattle.kc_plan.specs.Roots.{is_among, reached_from}

-- `each` of audit n names audit m
abbrev pub Names : List AuditAt → ℕ → ℕ → Type 0
Names audits n m = (a : AuditAt) × (slice_get audits n ≡ Some a) × (is_among m a.each ≡ true)

-- a path of `each` leads from audit n to audit m by way of these
abbrev pub Leads : List AuditAt → ℕ → List ℕ → ℕ → Type 0
Leads audits n [] m = n ≡ m
Leads audits n (k ∷ ks) m = Names audits n k × Leads audits k ks m

-- numbers that rise from k on
abbrev pub rise : ℕ → List ℕ → Bool
rise k [] = true
rise k (n ∷ ns) = nat_le k n && rise (suc n) ns

-- A root audit of a plan reaches exactly the audits that a path of `each` leads to, itself by the empty one, and they stand in the
-- plan's order.
abbrev pub ReachedByPaths : Type 0
ReachedByPaths =
    (audits : List AuditAt) (root m : ℕ) → are_later 0 (length audits) audits ≡ true → root < length audits
    → ((is_among m (reached_from root audits) ≡ true) ↔ ((path : List ℕ) × Leads audits root path m)) × (rise 0 (reached_from root audits) ≡ true)
