-- The keys of a plan.
use Rattle.std.specs.Prelude.{ℕ, List, [], ◌∷◌, Bool}
use Rattle.std.specs.List.{list_any}
use Rattle.std.specs.Str.{bytes_eq}
use Rattle.kc_expr.specs.declared.keys.fault.PlanKey.{PlanKey}
use Rattle.kc_expr.specs.declared.keys.fault.PlanKey.TheVariants as key
use Rattle.kc_expr.specs.Keys.Keys.{spelled}

-- a text spells one of these keys
abbrev pub is_one_of : List PlanKey → List ℕ → Bool
is_one_of keys text = list_any (λ one. bytes_eq text (spelled one)) keys

-- the keys of a plan
abbrev pub top_keys : List PlanKey
top_keys = key.Version ∷ key.Tail ∷ key.Audit ∷ []

-- the keys of an audit
abbrev pub audit_keys : List PlanKey
audit_keys =
    key.Name ∷ key.Kind ∷ key.Root ∷ key.RootType ∷ key.RootPath ∷ key.From ∷ key.Optional
    ∷ key.Element ∷ key.Link ∷ key.Key ∷ key.Unique ∷ key.Cached ∷ key.Check ∷ key.Each ∷ []
