-- Where the paths of a type lead.
use Rattle.std.specs.Prelude.{◌<◌, ◌≤◌, ℕ, ◌+◌, ◌*◌, ◌/◌, ◌%◌, ◌^◌, List, [], ◌∷◌, ◌++◌, length, Option, Some, None, Result, Ok, Err, ◌==◌, ◌&&◌, nat_lt, if◌then◌else◌}
use Rattle.std.specs.Option.{ok_or}
use Rattle.kc_btf.specs.declared.types.ArrayOf.{ArrayOf}
use Rattle.kc_btf.specs.Btf.{Types}
use Rattle.kc_layout.specs.declared.fault.QRule.{QRule}
use Rattle.kc_layout.specs.declared.fault.QRule.TheVariants.{Q2, Q3, Q4, Q5, Q7, Q8}
use Rattle.kc_layout.specs.declared.fault.PathFault.{PathFault}
use Rattle.kc_layout.specs.declared.place.Spot.{Spot}
use Rattle.kc_layout.specs.declared.member.Search.{Search}
use Rattle.kc_layout.specs.declared.member.Search.TheVariants.{Found, Absent, Beyond}
use Rattle.kc_layout.specs.Bare.{under, compound_numbered, array_numbered, target_numbered}
use Rattle.kc_layout.specs.Path.{Step, path_steps}
use Rattle.kc_layout.specs.Path.Step.{Member, Element, Pointee}
use Rattle.kc_layout.specs.Search.{search}
use Rattle.kc_layout.specs.Size.{size}

infixl 10 ◌>>=◌
abbrev pub ◌>>=◌ : {A B E : Type 0} → Result A E → (A → Result B E) → Result B E
(Ok x) >>= f = f x
(Err e) >>= f = Err e

-- a place: the byte offsets of the pointers that lead to a struct, and a spot in it
pub record Place : Type 0 where
  pub hops : List ℕ
  pub spot : Spot

-- a place that a path led to, and how many steps it has
pub record End : Type 0 where
  pub place : Place
  pub step : ℕ

-- the first bit of a type
abbrev pub start_of : ℕ → Spot
start_of ty = record { bit = 0; width = 0; ty = ty }

-- bits below 2^36 are counted
abbrev pub if_near : Spot → Result Spot QRule
if_near spot = if nat_lt spot.bit (2 ^ 36) then Ok spot else Err Q5

-- what is known of a spot that was reached, where so many types are counted
pub record IsReached (count : ℕ) (spot : Spot) : Type 0 where
  pub near : spot.bit < 2 ^ 36
  pub there : spot.ty ≤ count

-- the type under the modifiers of a type
abbrev pub bare : Types → ℕ → Result ℕ QRule
bare types ty = ok_or (under 32 types ty) Q5

-- how a search for a member ended
abbrev pub ended : Search → Result Spot QRule
ended (Found spot) = if_near spot
ended (Absent left) = Err Q2
ended Beyond = Err Q5

-- the member with a name. At most 65,536 members are looked at, in the struct itself and at most 32 levels
-- without a name.
unfoldable pub member_step : Types → Spot → List ℕ → Result Spot QRule
member_step types spot name = do
  id ← bare types spot.ty
  t ← ok_or (compound_numbered types id) Q3
  ended (search 33 types name t.id spot.bit 65536)

-- an element of an array, which is no bit-field
abbrev pub element_at : ArrayOf → Spot → ℕ → Option ℕ → Result Spot QRule
element_at array spot index None = Err Q5
element_at array spot index (Some size) = if_near (record { bit = spot.bit + 8 * (index * size); width = 0; ty = array.ty })

-- the index is below the length, and the element has a size
abbrev pub element_of : Types → ArrayOf → Spot → ℕ → Result Spot QRule
element_of types array spot index = if nat_lt index array.nelems then element_at array spot index (size types array.ty) else Err Q4

-- the element with an index
unfoldable pub element_step : Types → Spot → ℕ → Result Spot QRule
element_step types spot index = do
  id ← bare types spot.ty
  array ← ok_or (array_numbered types id) Q3
  element_of types array spot index

-- the byte at which a spot begins that is no bit-field
abbrev pub whole_byte : Spot → Option ℕ
whole_byte spot = if (spot.width == 0) && (spot.bit % 8 == 0) then Some (spot.bit / 8) else None

-- at most four pointers are followed
abbrev pub with_hop : List ℕ → ℕ → Option (List ℕ)
with_hop hops byte = if nat_lt (length hops) 4 then Some (hops ++ byte ∷ []) else None

-- the pointer at a place is followed
unfoldable pub follow : Types → Place → Result Place QRule
follow types place = do
  id ← bare types place.spot.ty
  target ← ok_or (target_numbered types id) Q7
  byte ← ok_or (whole_byte place.spot) Q7
  hops ← ok_or (with_hop place.hops byte) Q5
  Ok (record { hops = hops; spot = start_of target })

-- a spot behind the same pointers
abbrev pub behind : List ℕ → Result Spot QRule → Result Place QRule
behind hops (Ok spot) = Ok (record { hops = hops; spot = spot })
behind hops (Err rule) = Err rule

-- the member with a name, at a place
abbrev pub member_of : Types → List ℕ → Place → Result Place QRule
member_of types name place = behind place.hops (member_step types place.spot name)

-- one step
abbrev pub take_step : Types → Place → Step → Result Place QRule
take_step types place (Member name) = member_of types name place
take_step types place (Element index) = behind place.hops (element_step types place.spot index)
take_step types place (Pointee name) = follow types place >>= member_of types name

-- a rule that is broken at a step
abbrev pub at_step : {A : Type 0} → ℕ → Result A QRule → Result A PathFault
at_step step (Ok x) = Ok x
at_step step (Err rule) = Err (record { rule = rule; step = step })

-- the steps in their order, behind so many
unfoldable pub take_steps : Types → ℕ → Place → List Step → Result End PathFault
take_steps types taken place [] = Ok (record { place = place; step = taken })
take_steps types taken place (s ∷ ss) = at_step (taken + 1) (take_step types place s) >>= (λ next. take_steps types (taken + 1) next ss)

-- where the steps of a path lead; the text that is no path is told first
abbrev pub led : Types → ℕ → Place → Option (List Step) → Result End PathFault
led types taken place None = Err (record { rule = Q8; step = 0 })
led types taken place (Some steps) = take_steps types taken place steps

-- where a path leads from a type's first bit
abbrev pub end_of : Types → ℕ → List ℕ → Result End PathFault
end_of types id path = led types 0 (record { hops = []; spot = start_of id }) (path_steps path)
