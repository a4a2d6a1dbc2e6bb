-- A value at a key, as it is needed, or the rule that it breaks.
use Rattle.std.specs.Prelude.{ℕ, List, [], ◌∷◌, Bool, Option, Some, None, Result, Ok, Err, ⊤, is_some, if◌then◌else◌}
use Rattle.std.specs.Option.{ok_or}
use Rattle.toml.specs.Data.{Data, Items, no_items, item, Members, get_member, as_str, as_bool}
use Rattle.kc_expr.specs.declared.keys.fault.PRule.{PRule}
use Rattle.kc_expr.specs.declared.keys.fault.PRule.TheVariants.{P3, P4}
use Rattle.kc_expr.specs.declared.keys.fault.PlanKey.{PlanKey}
use Rattle.kc_expr.specs.declared.keys.fault.PlanFault.{PlanFault}
use Rattle.kc_kinds.specs.declared.needs.Need.{Need}
use Rattle.kc_kinds.specs.declared.needs.Need.TheVariants.{Required, Allowed, Barred}
use Rattle.kc_expr.specs.Keys.Keys.{spelled}

infixl 10 ◌>>=◌
abbrev pub ◌>>=◌ : {A B E : Type 0} → Result A E → (A → Result B E) → Result B E
(Ok x) >>= f = f x
(Err e) >>= f = Err e

-- a fault at a key: of the plan, or of the audit with a number
abbrev pub at : {A : Type 0} → Option ℕ → PlanKey → Result A PRule → Result A PlanFault
at audit key (Ok x) = Ok x
at audit key (Err rule) = Err (record { rule = rule; audit = audit; key = Some key })

-- a rule that is broken
abbrev pub refuse_if : Bool → PRule → Result ⊤ PRule
refuse_if broken rule = if broken then Err rule else Ok _

-- a value of a kind, which `read` reads
abbrev pub value_of : {A : Type 0} → (Data → Option A) → Data → Result A PRule
value_of read found = ok_or (read found) P4

abbrev pub some_of : {A : Type 0} → Result A PRule → Result (Option A) PRule
some_of (Ok x) = Ok (Some x)
some_of (Err rule) = Err rule

-- what is at a key that must be there
abbrev pub required : {A : Type 0} → (Data → Option A) → Option Data → Result A PRule
required read None = Err P3
required read (Some found) = value_of read found

-- what is at a key of which a kind asks this
abbrev pub asked : {A : Type 0} → (Data → Option A) → Need → Option Data → Result (Option A) PRule
asked read Required None = Err P3
asked read Required (Some found) = some_of (value_of read found)
asked read Allowed None = Ok None
asked read Allowed (Some found) = some_of (value_of read found)
asked read Barred None = Ok None
asked read Barred (Some found) = Err P3

-- the value at a key
abbrev pub value_at : PlanKey → Members → Option Data
value_at key table = get_member (spelled key) table

abbrev pub has : PlanKey → Members → Bool
has key table = is_some (value_at key table)

abbrev pub text_for : Option ℕ → Need → PlanKey → Members → Result (Option (List ℕ)) PlanFault
text_for audit need key table = at audit key (asked as_str need (value_at key table))

abbrev pub flag_for : Option ℕ → Need → PlanKey → Members → Result (Option Bool) PlanFault
flag_for audit need key table = at audit key (asked as_bool need (value_at key table))

-- items that are all read
abbrev pub put_first : {A : Type 0} → Option A → Option (List A) → Option (List A)
put_first None rest = None
put_first (Some x) None = None
put_first (Some x) (Some xs) = Some (x ∷ xs)

abbrev pub all_read : {A : Type 0} → (Data → Option A) → Items → Option (List A)
all_read read no_items = Some []
all_read read (item found items) = put_first (read found) (all_read read items)
