-- Each step of a member's path leads to a part of the type, at the byte that was looked for.
use Rattle.std.proofs.Common.{◌≡◌, ℕ, ◌+◌, ◌-◌, ◌*◌, ◌/◌, ◌%◌, ◌≤◌, Bool, true, false, ◌&&◌, ◌||◌, ◌==◌, nat_le, nat_lt, List, [], ◌∷◌, Option, Some, None, option_map, refl, sym, ap, ◌∙◌, subst, arith, inl, inr}
use Rattle.std.specs.Prelude.{◌⊎◌, if◌then◌else◌, find, option_and_then}
use Rattle.std.specs.Option.{option_map_or, option_or}
use Rattle.std.proofs.lemmas.Bool.{and_parts}
use Rattle.std.proofs.lemmas.Bool.Decides.{nat_tests}
use native.Mathlib.Nat.{div-add-mod'}
use Rattle.kc_btf.specs.Btf.{Types}
use Rattle.kc_btf.specs.declared.types.ArrayOf.{ArrayOf}
use Rattle.kc_btf.specs.declared.types.Member.{Member}
use Rattle.kc_btf.specs.declared.types.TypeRef.{TypeRef}
use Rattle.kc_layout.specs.Bare.{array_under, compound_under, members_numbered}
use Rattle.kc_layout.specs.Size.{size}
use Rattle.kc_layout.specs.declared.member_path.step.Label.TheVariants.{Name, Index}
use Rattle.kc_layout.specs.declared.member_path.step.Step.{Step}
use Rattle.kc_layout.specs.MemberPath.MemberPaths.{element_of, element_step, has, holder, if_open, is_open, last_or, member_step}
use Rattle.kc_element.specs.Laws.{IsOne, IsPart, StepsLeadBack}

-- a step leads to a part, at the byte that was looked for
abbrev Leads : Types → ℕ → ℕ → Step → Type 0
Leads types ty byte s = (first : ℕ) × IsPart types ty s.label s.ty first × (first + s.byte ≡ byte)

-- the member that has a byte is one of these, and begins at the byte or before it
abbrev IsHolder : List Member → ℕ → Member → Type 0
IsHolder ms byte m = IsOne m ms × (m.bit / 8 ≤ byte)

from_le : (a b : ℕ) → nat_le a b ≡ true → a ≤ b
from_le a b is = grind (arith, nat_tests)

found : (types : Types) (byte : ℕ) (ms : List Member) (m : Member) → find (has types byte) ms ≡ Some m → IsHolder ms byte m
found types byte [] m is = absurd (let none : ⊥ = cc in none)
found types byte (n ∷ ns) m is = first_or (has types byte n) refl (found types byte ns m) is where
  first_or : (b : Bool) → has types byte n ≡ b → (find (has types byte) ns ≡ Some m → IsHolder ns byte m) → (if b then Some n else find (has types byte) ns) ≡ Some m
      → IsHolder (n ∷ ns) byte m
  first_or true here later is =
      let same : n ≡ m = cc in
      (inl (sym same), subst (λ (m : Member). m.bit / 8 ≤ byte) same (from_le (n.bit / 8) byte ((and_parts (nat_le (n.bit / 8) byte) _ here).0)))
  first_or false here later is = let rest = later is in (inr rest.0, rest.1)

last_one : (other : Member) (ms : List Member) (m : Member) → last_or (Some other) ms ≡ Some m → (m ≡ other) ⊎ IsOne m ms
unfolding last_or
last_one other [] m is = let same : other ≡ m = cc in inl (sym same)
last_one other (n ∷ ns) m is = elim (last_one n ns m is) [
  | inl same ↦ inr (inl same)
  | inr rest ↦ inr (inr rest)
]

last_of : (ms : List Member) (m : Member) → last_or None ms ≡ Some m → IsOne m ms
unfolding last_or
last_of [] m is = absurd (let none : ⊥ = cc in none)
last_of (n ∷ ns) m is = last_one n ns m is

open_one : (types : Types) (byte : ℕ) (ms : List Member) (last : Option Member) (m : Member) → last_or None ms ≡ last → option_and_then (if_open types byte) last ≡ Some m → IsHolder ms byte m
open_one types byte ms None m same is = absurd (let none : ⊥ = cc in none)
open_one types byte ms (Some n) m same is = by_test (is_open types byte n) refl is where
  by_test : (b : Bool) → is_open types byte n ≡ b → (if b then Some n else None) ≡ Some m → IsHolder ms byte m
  by_test true here is =
      let one : n ≡ m = cc in
      (last_of ms m (same ∙ ap Some one), subst (λ (m : Member). m.bit / 8 ≤ byte) one (from_le (n.bit / 8) byte ((and_parts (nat_le (n.bit / 8) byte) _ here).0)))
  by_test false here is = absurd (let none : ⊥ = cc in none)

held_by : (types : Types) (byte : ℕ) (ms : List Member) (first : Option Member) (m : Member) → find (has types byte) ms ≡ first
    → option_or first (option_and_then (if_open types byte) (last_or None ms)) ≡ Some m → IsHolder ms byte m
held_by types byte ms (Some n) m same is = let one : n ≡ m = cc in found types byte ms m (same ∙ ap Some one)
held_by types byte ms None m same is = open_one types byte ms (last_or None ms) m refl is

member_leads : (types : Types) (ty byte : ℕ) (t : TypeRef) (s : Step) → compound_under types ty ≡ Some t → (h : Option Member) → holder types byte t.id ≡ h
    → option_map (λ (m : Member). record { label = Name m.name; ty = m.ty; byte = byte - m.bit / 8 }) h ≡ Some s → Leads types ty byte s
member_leads types ty byte t s under None same is = absurd (let none : ⊥ = cc in none)
member_leads types ty byte t s under (Some m) same is =
    let step : ◌≡◌ {A = Step} (record { label = Name m.name; ty = m.ty; byte = byte - m.bit / 8 }) s = cc in
    let here = held_by types byte (members_numbered types t.id) (find (has types byte) (members_numbered types t.id)) m refl same in
    subst (λ (s : Step). Leads types ty byte s) step (m.bit / 8, (t, m, under, here.0, refl, refl, refl), omega (arith, here.1))

element_leads : (types : Types) (ty byte : ℕ) (array : ArrayOf) (each : Option ℕ) (s : Step) → array_under types ty ≡ Some array → size types array.ty ≡ each → element_of byte array each ≡ Some s
    → Leads types ty byte s
element_leads types ty byte array None s under same is = absurd (let none : ⊥ = cc in none)
element_leads types ty byte array (Some each) s under same is = by_test (nat_lt byte (array.nelems * each) || ((array.nelems == 0) && nat_lt 0 each)) is where
  by_test : (b : Bool) → (if b then Some (record { label = Index (byte / each); ty = array.ty; byte = byte % each }) else None) ≡ Some s → Leads types ty byte s
  by_test true is =
      let step : ◌≡◌ {A = Step} (record { label = Index (byte / each); ty = array.ty; byte = byte % each }) s = cc in
      subst (λ (s : Step). Leads types ty byte s) step (byte / each * each, (array, each, under, same, refl, refl), div-add-mod' byte each)
  by_test false is = absurd (let none : ⊥ = cc in none)

array_leads : (types : Types) (ty byte : ℕ) (array : Option ArrayOf) (s : Step) → array_under types ty ≡ array → option_and_then (element_step types byte) array ≡ Some s → Leads types ty byte s
array_leads types ty byte None s under is = absurd (let none : ⊥ = cc in none)
array_leads types ty byte (Some array) s under is = element_leads types ty byte array (size types array.ty) s under refl is

leads : (types : Types) (ty byte : ℕ) (t : Option TypeRef) (s : Step) → compound_under types ty ≡ t
    → option_map_or (λ (t : TypeRef). member_step types byte t.id) t (option_and_then (element_step types byte) (array_under types ty)) ≡ Some s → Leads types ty byte s
leads types ty byte (Some t) s under is = member_leads types ty byte t s under (holder types byte t.id) refl is
leads types ty byte None s under is = array_leads types ty byte (array_under types ty) s refl is

pub steps_lead_back : StepsLeadBack
steps_lead_back types ty byte s is = leads types ty byte (compound_under types ty) s refl is
