-- A layout has the line of each member that has one.
use Rattle.std.proofs.Common.{◌≡◌, ℕ, zero, suc, ◌+◌, ◌<◌, List, [], ◌∷◌, ◌++◌, length, get_or, Option, Some, None, option_map, ap, ◌∙◌, sym, refl, subst, arith}
use Rattle.std.specs.Prelude.{Contains}
use Rattle.std.specs.Option.{option_map_or}
use Rattle.std.proofs.lemmas.List.Elements.{Contains-append_left, Contains-append_right}
use Rattle.kc_btf.specs.declared.types.Member.{Member}
use Rattle.kc_btf.specs.declared.types.TypeRef.{TypeRef}
use Rattle.kc_btf.specs.Btf.{Types}
use Rattle.kc_layout.specs.declared.listing.Line.{Line}
use Rattle.kc_layout.specs.Listing.{Listed, behind, and_list, line_at, listed, listed_all, lists, listing, HasLine, AreAll}
use Rattle.kc_layout.specs.Listing.HasLine.{itself, inside}
use Rattle.kc_layout.specs.Bare.{members_numbered}

-- what a member listed on the way to a list stands in it
pub record ListsInto (go : ℕ → ℕ → ℕ → Option Listed) (types : Types) (base : ℕ) (m : Member) (lines : List Line) : Type 0 where
  pub left : ℕ
  pub first : Listed
  pub lists : listed go types base left m ≡ Some first
  pub into : (line : Line) → Contains first.lines line → Contains lines line

-- the parts of a list that goes on behind another
pub record GoesOn (next : ℕ → Option Listed) (start : Option Listed) (whole : Listed) : Type 0 where
  pub first : Listed
  pub rest : Listed
  pub starts : start ≡ Some first
  pub goes : next first.left ≡ Some rest
  pub lines : whole.lines ≡ first.lines ++ rest.lines

goes-behind : (next : ℕ → Option Listed) (first whole : Listed) (l : Option Listed) → next first.left ≡ l → option_map (behind first.lines) l ≡ Some whole → GoesOn next (Some first) whole
goes-behind next first whole None goes is = absurd (cc)
goes-behind next first whole (Some rest) goes is =
    let both : behind first.lines rest ≡ whole = cc in
    record { first = first; rest = rest; starts = refl; goes = goes; lines = sym (ap (λ (l : Listed). l.lines) both) }

goes-on : (next : ℕ → Option Listed) (start : Option Listed) (whole : Listed) → and_list next start ≡ Some whole → GoesOn next start whole
goes-on next None whole is = absurd (cc)
goes-on next (Some first) whole is = goes-behind next first whole (next first.left) refl is

into-whole : (first rest whole : List Line) → whole ≡ first ++ rest → ((line : Line) → Contains first line → Contains whole line) × ((line : Line) → Contains rest line → Contains whole line)
into-whole first rest whole is = (λ line within. rw is (Contains-append_left first rest line within), λ line within. rw is (Contains-append_right first rest line within))

-- each member lists into the whole
each-lists : (go : ℕ → ℕ → ℕ → Option Listed) (types : Types) (base left k : ℕ) (ms : List Member) (whole : Listed) (m : Member) → listed_all go types base left ms ≡ Some whole → k < length ms → get_or ms k m ≡ m → ListsInto go types base m whole.lines
unfolding listed_all
each-lists go types base left k [] whole m is below at = absurd (omega arith)
each-lists go types base zero k (x ∷ ms) whole m is below at = absurd (cc)
each-lists go types base (suc left) zero (x ∷ ms) whole m is below at =
    let on = goes-on (λ rest. listed_all go types base rest ms) (listed go types base left x) whole is in
    let same : x ≡ m = at in
    record { left = left; first = on.first; lists = ap (listed go types base left) (sym same) ∙ on.starts; into = (into-whole on.first.lines on.rest.lines whole.lines on.lines).0 }
each-lists go types base (suc left) (suc k) (x ∷ ms) whole m is below at =
    let on = goes-on (λ rest. listed_all go types base rest ms) (listed go types base left x) whole is in
    let fewer : k < length ms = omega arith in
    let later = each-lists go types base on.first.left k ms on.rest m on.goes fewer at in
    record { left = later.left; first = later.first; lists = later.lists; into = λ line within. (into-whole on.first.lines on.rest.lines whole.lines on.lines).1 line (later.into line within) }

-- a list that has all lines of each type
ListsAll : Types → (ℕ → ℕ → ℕ → Option Listed) → Type 0
ListsAll types go = (id base left : ℕ) (l : Listed) → go id base left ≡ Some l → AreAll types id base l.lines

all-of : (go : ℕ → ℕ → ℕ → Option Listed) (types : Types) (id base left bit : ℕ) (last : Member) (l : Listed) → ListsAll types go → listed_all go types base left (members_numbered types id) ≡ Some l → HasLine types id bit last → Contains l.lines (line_at types (base + bit) last)
unfolding ListsAll
all-of go types id base left _ _ l lists_all is (itself _ _ m among_them plain) =
    let m_lists = each-lists go types base left among_them.0 (members_numbered types id) l m is among_them.1 among_them.2 in
    let line = line_at types (base + m.bit) m in
    let its : Some (record { lines = line ∷ []; left = m_lists.left }) ≡ Some m_lists.first =
    ap (λ (t : Option TypeRef). option_map_or (λ (x : TypeRef). go x.id (base + m.bit) m_lists.left) t (Some (record { lines = line ∷ []; left = m_lists.left }))) (sym plain) ∙ m_lists.lists in
    let alone : record { lines = line ∷ []; left = m_lists.left } ≡ m_lists.first = cc in
    let lines : line ∷ [] ≡ m_lists.first.lines = ap (λ (x : Listed). x.lines) alone in
    let first : Contains (line ∷ []) line = (0, omega arith, refl) in
    m_lists.into line (rw (← lines) first)
all-of go types id base left _ _ l lists_all is (inside _ _ bit m last t among_them compound within) =
    let m_lists = each-lists go types base left among_them.0 (members_numbered types id) l m is among_them.1 among_them.2 in
    let its : go t.id (base + m.bit) m_lists.left ≡ Some m_lists.first =
    ap (λ (o : Option TypeRef). option_map_or (λ (x : TypeRef). go x.id (base + m.bit) m_lists.left) o (Some (record { lines = line_at types (base + m.bit) m ∷ []; left = m_lists.left }))) (sym compound) ∙ m_lists.lists in
    let there : Contains m_lists.first.lines (line_at types (base + m.bit + bit) last) = lists_all t.id (base + m.bit) m_lists.left m_lists.first its bit last within in
    let bits : base + m.bit + bit ≡ base + (m.bit + bit) = omega arith in
    m_lists.into (line_at types (base + (m.bit + bit)) last) (subst (λ (n : ℕ). Contains m_lists.first.lines (line_at types n last)) bits there)

lists-all : (levels : ℕ) (types : Types) (id base left : ℕ) (l : Listed) → lists levels types id base left ≡ Some l → AreAll types id base l.lines
unfolding lists ListsAll
lists-all zero types id base left l is = absurd (cc)
lists-all (suc levels) types id base left l is = λ bit m has. all-of (lists levels types) types id base left bit m l (λ i b n k e. lists-all levels types i b n k e) is has

whole-all : (types : Types) (id : ℕ) (l : Option Listed) (lines : List Line) → lists 33 types id 0 65536 ≡ l → option_map (λ (x : Listed). x.lines) l ≡ Some lines → AreAll types id 0 lines
whole-all types id None lines from is = absurd (cc)
whole-all types id (Some l) lines from is =
    let same : l.lines ≡ lines = cc in
    rw (← same) (lists-all 33 types id 0 65536 l from)

-- no line is missing
pub listing-all : (types : Types) (id : ℕ) (lines : List Line) → listing types id ≡ Some lines → AreAll types id 0 lines
unfolding listing
listing-all types id lines is = whole-all types id (lists 33 types id 0 65536) lines refl is
