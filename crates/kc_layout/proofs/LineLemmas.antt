-- The lines of a layout are those of members that lie there.
use Rattle.std.proofs.Common.{◌≡◌, ℕ, zero, suc, ◌+◌, ◌==◌, Bool, true, false, cond, List, [], ◌∷◌, ◌++◌, length, Option, Some, None, option_map, option_and_then, ap, ◌∙◌, sym, refl, arith, append_assoc}
use Rattle.std.specs.Prelude.{All, Contains, IsSome, is_some}
use Rattle.std.specs.Option.{option_map_or}
use Rattle.std.proofs.lemmas.Bool.Decides.{nat_tests}
use Rattle.std.proofs.lemmas.List.Elements.{All-append, All-cons, All-nil, Contains-append_right}
use Rattle.std.proofs.lemmas.Slice.Eq.{bytes_eq-Decides}
use Rattle.kc_btf.specs.declared.types.Member.{Member}
use Rattle.kc_btf.specs.declared.types.TypeRef.{TypeRef}
use Rattle.kc_btf.specs.Btf.{Types}
use Rattle.kc_btf.specs.Kind.{is_compound}
use Rattle.kc_btf.specs.Records.{Record}
use Rattle.kc_btf.specs.Readers.{name_at, record_numbered, type_ref}
use Rattle.kc_layout.specs.declared.listing.Line.{Line}
use Rattle.kc_layout.specs.Listing.{Listed, behind, and_list, anonymous, line_at, listed, listed_all, lists, listing, IsLine}
use Rattle.kc_layout.specs.Bare.{compound_under, under, compound_numbered, if_compound, members_numbered}
use Rattle.kc_layout.specs.Search.Lies.{own, inner}

-- what was listed are lines of members
abbrev AreLines : Types → ℕ → ℕ → Option Listed → Type 0
AreLines types id base None = Unit {0}
AreLines types id base (Some l) = All (IsLine types id base) l.lines

ListsLines : Types → (ℕ → ℕ → ℕ → Option Listed) → Type 0
ListsLines types go = (id base left : ℕ) → AreLines types id base (go id base left)

-- the number of a struct or union
compound-if : (b : Bool) (t u : TypeRef) → cond b (Some t) None ≡ Some u → u ≡ t
compound-if true t u is = cc
compound-if false t u is = absurd (cc)

compound-record : (id : ℕ) (r : Option Record) (t : TypeRef) → option_and_then if_compound (option_map (type_ref id) r) ≡ Some t → t.id ≡ id
compound-record id None t is = absurd (cc)
compound-record id (Some r) t is = ap (λ (u : TypeRef). u.id) (compound-if (is_compound r.kind) (type_ref id r) t is)

pub record IsAnonymous (types : Types) (m : Member) (id : ℕ) : Type 0 where
  pub nameless : length (name_at types.strings m.name) ≡ 0
  pub bare : under 32 types m.ty ≡ Some id
  pub compound : IsSome (compound_numbered types id)

anonymous-bare : (types : Types) (m : Member) (bare : Option ℕ) (t : TypeRef) → under 32 types m.ty ≡ bare → length (name_at types.strings m.name) ≡ 0 →
    option_and_then (compound_numbered types) bare ≡ Some t → IsAnonymous types m t.id
anonymous-bare types m None t is nameless compound = absurd (cc)
anonymous-bare types m (Some id) t is nameless compound =
    let same : t.id ≡ id = compound-record id (record_numbered types id) t compound in
    record {
      nameless = nameless;
      bare = is ∙ ap (λ n. Some n) (sym same);
      compound = rw same (ap (λ o. is_some o) compound);
    }

anonymous-name : (types : Types) (m : Member) (b : Bool) (t : TypeRef) → (length (name_at types.strings m.name) == 0) ≡ b → cond b (compound_under types m.ty) None ≡ Some t → IsAnonymous types m t.id
anonymous-name types m true t is compound =
    let nameless : length (name_at types.strings m.name) ≡ 0 = grind (arith, nat_tests) in
    anonymous-bare types m (under 32 types m.ty) t refl nameless compound
anonymous-name types m false t is compound = absurd (cc)

anonymous-is : (types : Types) (m : Member) (t : TypeRef) → anonymous types m ≡ Some t → IsAnonymous types m t.id
anonymous-is types m t is = anonymous-name types m (length (name_at types.strings m.name) == 0) t refl is

-- a line of a member further in
deeper : (types : Types) (id within base : ℕ) (m : Member) (line : Line) → Contains (members_numbered types id) m → IsAnonymous types m within → IsLine types within (base + m.bit) line → IsLine types id base line
deeper types id within base m line among_them is found = record {
  bit = m.bit + found.bit;
  member = found.member;
  lies = inner types (name_at types.strings found.member.name) id within found.bit m found.member among_them is.nameless is.bare is.compound found.lies;
  same = found.same ∙ ap (λ n. line_at types n found.member) (omega arith);
}

all-deeper : (types : Types) (id within base : ℕ) (m : Member) (l : Option Listed) → Contains (members_numbered types id) m → IsAnonymous types m within → AreLines types within (base + m.bit) l → AreLines types id base l
all-deeper types id within base m None among_them is lines = tt
all-deeper types id within base m (Some l) among_them is lines = λ k d below. deeper types id within base m _ among_them is (lines k d below)

-- the line of a member of the type itself
own-line : (types : Types) (id base : ℕ) (m : Member) → Contains (members_numbered types id) m → IsLine types id base (line_at types (base + m.bit) m)
own-line types id base m among_them = record {
  bit = m.bit;
  member = m;
  lies = own types (name_at types.strings m.name) id m among_them ((bytes_eq-Decides (name_at types.strings m.name) (name_at types.strings m.name)).1 refl);
  same = refl;
}

member-lists : (go : ℕ → ℕ → ℕ → Option Listed) (types : Types) (id base left : ℕ) (m : Member) (t : Option TypeRef) → ListsLines types go → Contains (members_numbered types id) m → anonymous types m ≡ t →
    AreLines types id base (option_map_or (λ (x : TypeRef). go x.id (base + m.bit) left) t (Some (record { lines = line_at types (base + m.bit) m ∷ []; left = left })))
unfolding ListsLines
member-lists go types id base left m None lists_lines among_them is =
    All-cons (IsLine types id base) (line_at types (base + m.bit) m) [] (own-line types id base m among_them) (All-nil (IsLine types id base))
member-lists go types id base left m (Some t) lists_lines among_them is =
    all-deeper types id t.id base m (go t.id (base + m.bit) left) among_them (anonymous-is types m t is) (lists_lines t.id (base + m.bit) left)

-- lines behind others
behind-lines : (types : Types) (id base : ℕ) (lines : List Line) (l : Option Listed) → All (IsLine types id base) lines → AreLines types id base l → AreLines types id base (option_map (behind lines) l)
behind-lines types id base lines None first later = tt
behind-lines types id base lines (Some l) first later = All-append (IsLine types id base) lines l.lines first later

onward : (types : Types) (id base : ℕ) (next : ℕ → Option Listed) (l : Option Listed) → AreLines types id base l → ((left : ℕ) → AreLines types id base (next left)) → AreLines types id base (and_list next l)
onward types id base next None first later = tt
onward types id base next (Some l) first later = behind-lines types id base l.lines (next l.left) first (later l.left)

members-list : (go : ℕ → ℕ → ℕ → Option Listed) (types : Types) (id base left : ℕ) (front ms : List Member) → ListsLines types go → front ++ ms ≡ members_numbered types id → AreLines types id base (listed_all go types base left ms)
unfolding listed_all
members-list go types id base left front [] lists_lines all = All-nil (IsLine types id base)
members-list go types id base zero front (m ∷ ms) lists_lines all = tt
members-list go types id base (suc left) front (m ∷ ms) lists_lines all =
    let first : Contains (m ∷ ms) m = (0, omega arith, refl) in
    let contained : Contains (members_numbered types id) m = rw (← all) (Contains-append_right front (m ∷ ms) m first) in
    onward types id base (λ rest. listed_all go types base rest ms) (listed go types base left m)
    (member-lists go types id base left m (anonymous types m) lists_lines contained refl)
    (λ rest. members-list go types id base rest (front ++ m ∷ []) ms lists_lines (append_assoc front (m ∷ []) ms ∙ all))

lists-lines : (levels : ℕ) (types : Types) (id base left : ℕ) → AreLines types id base (lists levels types id base left)
unfolding lists ListsLines
lists-lines zero types id base left = tt
lists-lines (suc levels) types id base left = members-list (lists levels types) types id base left [] (members_numbered types id) (λ i b l. lists-lines levels types i b l) refl

whole-lines : (types : Types) (id : ℕ) (l : Option Listed) (lines : List Line) → AreLines types id 0 l → option_map (λ (x : Listed). x.lines) l ≡ Some lines → All (IsLine types id 0) lines
whole-lines types id None lines all is = absurd (cc)
whole-lines types id (Some l) lines all is =
    let same : l.lines ≡ lines = cc in
    rw (← same) all

-- each line of a layout is a member's
pub listing-lines : (types : Types) (id : ℕ) (lines : List Line) → listing types id ≡ Some lines → All (IsLine types id 0) lines
unfolding listing
listing-lines types id lines is = whole-lines types id (lists 33 types id 0 65536) lines (lists-lines 33 types id 0 65536) is
