-- A member by its name.
use Rattle.std.specs.Prelude.{◌≡◌, ◌≤◌, ⊤, Contains, IsSome, true, ℕ, zero, suc, ◌+◌, List, [], ◌∷◌, length, Option, Some, None, ◌==◌, bytes_eq, if◌then◌else◌}
use Rattle.std.specs.Option.{option_map_or}
use Rattle.kc_btf.specs.declared.types.Member.{Member}
use Rattle.kc_btf.specs.Btf.{Types}
use Rattle.kc_btf.specs.Readers.{name_at}
use Rattle.kc_layout.specs.declared.place.Spot.{Spot}
use Rattle.kc_layout.specs.declared.member.Search.{Search}
use Rattle.kc_layout.specs.declared.member.Search.TheVariants.{Found, Absent, Beyond}
use Rattle.kc_layout.specs.Bare.{under, compound_numbered, members_numbered}

-- where a member of a struct lies that begins at a bit
abbrev pub spot_of : ℕ → Member → Spot
spot_of base m = record { bit = base + m.bit; width = m.width; ty = m.ty }

-- what a type lends: its members, where it is a struct or union; nothing, where it is another; and under
-- too many modifiers the search ends
abbrev pub lent_by : (ℕ → ℕ → ℕ → Search) → Types → ℕ → ℕ → Option ℕ → Search
lent_by inner types base left None = Beyond
lent_by inner types base left (Some bare) = option_map_or (λ t. inner bare base left) (compound_numbered types bare) (Absent left)

-- what a member lends: one without a name lends what is under the modifiers of its type, at its bit. `inner`
-- searches a type, from a bit on, through so many members at most.
abbrev pub lent : (ℕ → ℕ → ℕ → Search) → Types → ℕ → ℕ → Member → Search
lent inner types base left m =
    if length (name_at types.strings m.name) == 0 then lent_by inner types (base + m.bit) left (under 32 types m.ty) else Absent left

-- where nothing was found, the search goes on
abbrev pub and_on : (ℕ → Search) → Search → Search
and_on next (Found spot) = Found spot
and_on next (Absent left) = next left
and_on next Beyond = Beyond

-- the search through members in their order, of which so many may still be looked at, at a bit
unfoldable pub among : (ℕ → ℕ → ℕ → Search) → Types → List ℕ → ℕ → ℕ → List Member → Search
among inner types name base left [] = Absent left
among inner types name base zero (m ∷ ms) = Beyond
among inner types name base (suc left) (m ∷ ms) =
    if bytes_eq (name_at types.strings m.name) name then Found (spot_of base m)
    else and_on (λ rest. among inner types name base rest ms) (lent inner types base left m)

-- the search through a struct or union and those without a name in it, depth first, of which so many
-- levels may be entered
unfoldable pub search : ℕ → Types → List ℕ → ℕ → ℕ → ℕ → Search
search zero types name id base left = Beyond
search (suc levels) types name id base left = among (search levels types name) types name base left (members_numbered types id)

-- a spot that was found lies at or behind a bit, and its type is there
abbrev pub LiesBehind : ℕ → ℕ → Search → Type 0
LiesBehind base count (Found spot) = (base ≤ spot.bit) × (spot.ty ≤ count)
LiesBehind base count _ = ⊤

-- a member with a name lies at a bit of a type: it is one of the type's own members, or it lies in a struct
-- or union without a name that is one of them, and then the bits on the way add up
pub data Lies : Types → List ℕ → ℕ → ℕ → Member → Type 0 where
  own : (types : Types) (name : List ℕ) (id : ℕ) (m : Member) → Contains (members_numbered types id) m →
      bytes_eq (name_at types.strings m.name) name ≡ true → Lies types name id m.bit m
  inner : (types : Types) (name : List ℕ) (id within bit : ℕ) (m last : Member) → Contains (members_numbered types id) m →
      length (name_at types.strings m.name) ≡ 0 → under 32 types m.ty ≡ Some within → IsSome (compound_numbered types within) →
      Lies types name within bit last → Lies types name id (m.bit + bit) last

-- a spot that was found from a bit on is a member's with the name
pub record IsMember (types : Types) (name : List ℕ) (id base : ℕ) (spot : Spot) : Type 0 where
  pub bit : ℕ
  pub member : Member
  pub lies : Lies types name id bit member
  pub same : spot ≡ record { bit = base + bit; width = member.width; ty = member.ty }

-- what is found is such a member, and where none is, none lies there
abbrev pub FindsMember : Types → List ℕ → ℕ → ℕ → Search → Type 0
FindsMember types name id base (Found spot) = IsMember types name id base spot
FindsMember types name id base (Absent left) = (bit : ℕ) (m : Member) → Lies types name id bit m → ⊥
FindsMember types name id base Beyond = ⊤
