-- What a search finds is a member with the name, and where it finds none, none lies there.
use Rattle.std.proofs.Common.{◌≡◌, ℕ, zero, suc, ◌+◌, ◌<◌, ◌==◌, Bool, true, false, cond, List, [], ◌∷◌, ◌++◌, length, get_or, Option, Some, None, ap, ◌∙◌, sym, refl, subst, arith, append_assoc}
use Rattle.std.specs.Prelude.{⊤, Contains, IsSome, bytes_eq, is_some}
use Rattle.std.specs.Option.{option_map_or}
use Rattle.std.proofs.lemmas.Bool.Decides.{nat_tests}
use Rattle.std.proofs.lemmas.List.Elements.{Contains-append_right}
use Rattle.kc_btf.specs.declared.types.TypeRef.{TypeRef}
use Rattle.kc_btf.specs.declared.types.Member.{Member}
use Rattle.kc_btf.specs.Btf.{Types}
use Rattle.kc_btf.specs.Readers.{name_at}
use Rattle.kc_layout.specs.declared.member.Search.{Search}
use Rattle.kc_layout.specs.declared.place.Spot.{Spot}
use Rattle.kc_layout.specs.declared.member.Search.TheVariants.{Found, Absent, Beyond}
use Rattle.kc_layout.specs.Bare.{under, members_numbered, compound_numbered}
use Rattle.kc_layout.specs.Search.{among, search, lent, lent_by, and_on, spot_of, FindsMember, IsMember, Lies}
use Rattle.kc_layout.specs.Search.Lies.{own, inner}

-- what is found is such a member
abbrev pub FindsOnly : Types → List ℕ → ℕ → ℕ → Search → Type 0
FindsOnly types name id base (Found spot) = IsMember types name id base spot
FindsOnly types name id base _ = ⊤

-- a search that finds such members alone
FindOnly : Types → List ℕ → (ℕ → ℕ → ℕ → Search) → Type 0
FindOnly types name go = (id base left : ℕ) → FindsOnly types name id base (go id base left)

-- a member further in, by the member without a name that it lies in
deeper : (types : Types) (name : List ℕ) (id within base : ℕ) (m : Member) (s : Search) → Contains (members_numbered types id) m → length (name_at types.strings m.name) ≡ 0 → under 32 types m.ty ≡ Some within → IsSome (compound_numbered types within) →
    FindsOnly types name within (base + m.bit) s → FindsOnly types name id base s
deeper types name id within base m (Found spot) among_them nameless bare compound found = record {
  bit = m.bit + found.bit;
  member = found.member;
  lies = inner types name id within found.bit m found.member among_them nameless bare compound found.lies;
  same = found.same ∙ ap (λ n. record { bit = n; width = found.member.width; ty = found.member.ty }) (omega arith);
}
deeper types name id within base m (Absent left) among_them nameless bare compound found = tt
deeper types name id within base m Beyond among_them nameless bare compound found = tt

by_compound : (go : ℕ → ℕ → ℕ → Search) (types : Types) (name : List ℕ) (id within base left : ℕ) (m : Member) (t : Option TypeRef) → FindOnly types name go → Contains (members_numbered types id) m → length (name_at types.strings m.name) ≡ 0 → under 32 types m.ty ≡ Some within → compound_numbered types within ≡ t →
    FindsOnly types name id base (option_map_or (λ (x : TypeRef). go within (base + m.bit) left) t (Absent left))
unfolding FindOnly
by_compound go types name id within base left m None finds among_them nameless bare is = tt
by_compound go types name id within base left m (Some t) finds among_them nameless bare is = deeper types name id within base m (go within (base + m.bit) left) among_them nameless bare (ap (λ o. is_some o) is) (finds within (base + m.bit) left)

by_bare : (go : ℕ → ℕ → ℕ → Search) (types : Types) (name : List ℕ) (id base left : ℕ) (m : Member) (bare : Option ℕ) → FindOnly types name go → Contains (members_numbered types id) m → length (name_at types.strings m.name) ≡ 0 → under 32 types m.ty ≡ bare →
    FindsOnly types name id base (lent_by go types (base + m.bit) left bare)
by_bare go types name id base left m None finds among_them nameless is = tt
by_bare go types name id base left m (Some within) finds among_them nameless is = by_compound go types name id within base left m (compound_numbered types within) finds among_them nameless is refl

by_name : (go : ℕ → ℕ → ℕ → Search) (types : Types) (name : List ℕ) (id base left : ℕ) (m : Member) (b : Bool) → FindOnly types name go → Contains (members_numbered types id) m → (length (name_at types.strings m.name) == 0) ≡ b →
    FindsOnly types name id base (cond b (lent_by go types (base + m.bit) left (under 32 types m.ty)) (Absent left))
by_name go types name id base left m true finds among_them is =
    let nameless : length (name_at types.strings m.name) ≡ 0 = grind (arith, nat_tests) in
    by_bare go types name id base left m (under 32 types m.ty) finds among_them nameless refl
by_name go types name id base left m false finds among_them is = tt

-- a search that goes on behind another
onward : (types : Types) (name : List ℕ) (id base : ℕ) (next : ℕ → Search) (s : Search) → FindsOnly types name id base s → ((left : ℕ) → FindsOnly types name id base (next left)) → FindsOnly types name id base (and_on next s)
onward types name id base next (Found spot) found later = found
onward types name id base next (Absent left) found later = later left
onward types name id base next Beyond found later = tt

here_or : (types : Types) (name : List ℕ) (id base : ℕ) (m : Member) (s : Search) (b : Bool) → bytes_eq (name_at types.strings m.name) name ≡ b → Contains (members_numbered types id) m → FindsOnly types name id base s →
    FindsOnly types name id base (cond b (Found (spot_of base m)) s)
here_or types name id base m s true named among_them later = record { bit = m.bit; member = m; lies = own types name id m among_them named; same = refl }
here_or types name id base m s false named among_them later = later

among-finds : (go : ℕ → ℕ → ℕ → Search) (types : Types) (name : List ℕ) (id base left : ℕ) (front ms : List Member) → FindOnly types name go → front ++ ms ≡ members_numbered types id → FindsOnly types name id base (among go types name base left ms)
unfolding among
among-finds go types name id base left front [] finds all = tt
among-finds go types name id base zero front (m ∷ ms) finds all = tt
among-finds go types name id base (suc left) front (m ∷ ms) finds all =
    let first : Contains (m ∷ ms) m = (0, omega arith, refl) in
    let contained : Contains (members_numbered types id) m = rw (← all) (Contains-append_right front (m ∷ ms) m first) in
    here_or types name id base m (and_on (λ rest. among go types name base rest ms) (lent go types base left m)) (bytes_eq (name_at types.strings m.name) name) refl contained
    (onward types name id base (λ rest. among go types name base rest ms) (lent go types base left m)
    (by_name go types name id base left m (length (name_at types.strings m.name) == 0) finds contained refl)
    (λ rest. among-finds go types name id base rest (front ++ m ∷ []) ms finds (append_assoc front (m ∷ []) ms ∙ all)))

search-only : (levels : ℕ) (types : Types) (name : List ℕ) (id base left : ℕ) → FindsOnly types name id base (search levels types name id base left)
unfolding search FindOnly
search-only zero types name id base left = tt
search-only (suc levels) types name id base left = among-finds (search levels types name) types name id base left [] (members_numbered types id) (λ i b l. search-only levels types name i b l) refl

-- a member that a search passed: it hasn't the name, and lends nothing
record Passed (go : ℕ → ℕ → ℕ → Search) (types : Types) (name : List ℕ) (base : ℕ) (m : Member) : Type 0 where
  left : ℕ
  rest : ℕ
  other : bytes_eq (name_at types.strings m.name) name ≡ false
  lends : lent go types base left m ≡ Absent rest

-- what is known where a search went on to its end
record WentOn (other : Bool) (lends : Search) (next : ℕ → Search) (last : ℕ) : Type 0 where
  rest : ℕ
  off : other ≡ false
  lent : lends ≡ Absent rest
  goes : next rest ≡ Absent last

went-on : (named : Bool) (spot : Spot) (lends : Search) (next : ℕ → Search) (last : ℕ) → cond named (Found spot) (and_on next lends) ≡ Absent last → WentOn named lends next last
went-on true spot lends next last is = absurd (cc)
went-on false spot (Found other) next last is = absurd (cc)
went-on false spot (Absent rest) next last is = record { rest = rest; off = refl; lent = refl; goes = is }
went-on false spot Beyond next last is = absurd (cc)

each-passed : (go : ℕ → ℕ → ℕ → Search) (types : Types) (name : List ℕ) (base left last k : ℕ) (ms : List Member) (m : Member) → among go types name base left ms ≡ Absent last → k < length ms → get_or ms k m ≡ m → Passed go types name base m
unfolding among
each-passed go types name base left last k [] m is below at = absurd (omega arith)
each-passed go types name base zero last k (x ∷ ms) m is below at = absurd (cc)
each-passed go types name base (suc left) last zero (x ∷ ms) m is below at =
    let on = went-on (bytes_eq (name_at types.strings x.name) name) (spot_of base x) (lent go types base left x) (λ rest. among go types name base rest ms) last is in
    let same : x ≡ m = at in
    rw (← same) (record { left = left; rest = on.rest; other = on.off; lends = on.lent })
each-passed go types name base (suc left) last (suc k) (x ∷ ms) m is below at =
    let on = went-on (bytes_eq (name_at types.strings x.name) name) (spot_of base x) (lent go types base left x) (λ rest. among go types name base rest ms) last is in
    let fewer : k < length ms = omega arith in
    each-passed go types name base on.rest last k ms m on.goes fewer at

-- what a nameless struct or union lends is what is found in it
lends-inner : (go : ℕ → ℕ → ℕ → Search) (types : Types) (base left rest within : ℕ) (m : Member) (t : Option TypeRef) → lent go types base left m ≡ Absent rest → length (name_at types.strings m.name) ≡ 0 → under 32 types m.ty ≡ Some within →
    compound_numbered types within ≡ t → IsSome t → go within (base + m.bit) left ≡ Absent rest
lends-inner go types base left rest within m None lends nameless bare is some = absurd (cc)
lends-inner go types base left rest within m (Some t) lends nameless bare is some =
    let here : lent go types base left m ≡ go within (base + m.bit) left = rw (nameless, bare, is) refl in
    sym here ∙ lends

-- a search that finds none only where none lies
FindAll : Types → List ℕ → (ℕ → ℕ → ℕ → Search) → Type 0
FindAll types name go = (id base left last : ℕ) → go id base left ≡ Absent last → (bit : ℕ) (m : Member) → Lies types name id bit m → ⊥

none-among : (go : ℕ → ℕ → ℕ → Search) (types : Types) (name : List ℕ) (id base left last bit : ℕ) (m : Member) → FindAll types name go → among go types name base left (members_numbered types id) ≡ Absent last → Lies types name id bit m → ⊥
unfolding FindAll
none-among go types name id base left last _ _ finds_all is (own _ _ _ m among_them named) =
    let passed = each-passed go types name base left last among_them.0 (members_numbered types id) m is among_them.1 among_them.2 in
    let other = passed.other in
    cc
none-among go types name id base left last _ _ finds_all is (inner _ _ _ within bit m deep among_them nameless bare compound lies) =
    let passed = each-passed go types name base left last among_them.0 (members_numbered types id) m is among_them.1 among_them.2 in
    finds_all within (base + m.bit) passed.left passed.rest (lends-inner go types base passed.left passed.rest within m (compound_numbered types within) passed.lends nameless bare refl compound) bit deep lies

search-all : (levels : ℕ) (types : Types) (name : List ℕ) (id base left last : ℕ) → search levels types name id base left ≡ Absent last → (bit : ℕ) (m : Member) → Lies types name id bit m → ⊥
unfolding search FindAll
search-all zero types name id base left last is = absurd (cc)
search-all (suc levels) types name id base left last is = λ bit m lies. none-among (search levels types name) types name id base left last bit m (λ i b l n e. search-all levels types name i b l n e) is lies

-- what a search finds
pub search-finds : (levels : ℕ) (types : Types) (name : List ℕ) (id base left : ℕ) (s : Search) → search levels types name id base left ≡ s → FindsMember types name id base s
search-finds levels types name id base left (Found spot) is = subst (FindsOnly types name id base) is (search-only levels types name id base left)
search-finds levels types name id base left (Absent last) is = search-all levels types name id base left last is
search-finds levels types name id base left Beyond is = tt
