-- The list of members, one by one.
use Rattle.std.proofs.Common.{◌≡◌, ℕ, zero, suc, ◌-◌, ◌<◌, List, [], ◌∷◌, ◌++◌, Option, Some, None, option_map, append_assoc, append-nil, ap, ◌∙◌, sym, refl, arith}
use Rattle.kc_btf.specs.declared.types.Member.{Member}
use Rattle.kc_btf.specs.Btf.{Types}
use Rattle.kc_layout.specs.declared.listing.Line.{Line}
use Rattle.kc_layout.specs.Listing.{Listed, behind, so_far, and_list, listed, listed_all, lists, listing}
use Rattle.kc_layout.specs.Bare.{members_numbered}

-- a list that may enter one more level
pub lists-next : (levels : ℕ) (types : Types) (id base left : ℕ) → 0 < levels →
    lists levels types id base left ≡ listed_all (lists (levels - 1) types) types base left (members_numbered types id)
unfolding lists
lists-next zero types id base left some = absurd (omega arith)
lists-next (suc levels) types id base left some =
    let one : suc levels - 1 ≡ levels = omega arith in
    rw one refl

pub lists-last : (levels : ℕ) (types : Types) (id base left : ℕ) → levels ≡ 0 → lists levels types id base left ≡ None
unfolding lists
lists-last zero types id base left last = refl
lists-last (suc levels) types id base left last = absurd (omega arith)

-- lines behind no others
behind-none : (l : Option Listed) → option_map (behind []) l ≡ l
behind-none None = refl
behind-none (Some l) = refl

-- lines behind others, and those behind others
behind-behind : (first second : List Line) (l : Option Listed) → option_map (behind (first ++ second)) l ≡ option_map (behind first) (option_map (behind second) l)
behind-behind first second None = refl
behind-behind first second (Some l) = ap (λ lines. Some (record { lines = lines; left = l.left })) (append_assoc first second l.lines)

-- no member is left
pub listed_all-end : (inner : ℕ → ℕ → ℕ → Option Listed) (types : Types) (base left : ℕ) (lines : List Line) (ms : List Member) → ms ≡ [] →
    Some (record { lines = lines; left = left }) ≡ option_map (behind lines) (listed_all inner types base left ms)
unfolding listed_all
listed_all-end inner types base left lines ms end = rw end (ap (λ all. Some (record { lines = all; left = left })) (sym (append-nil lines)))

-- one member too many
pub listed_all-last : (inner : ℕ → ℕ → ℕ → Option Listed) (types : Types) (base left : ℕ) (m : Member) (ms rest : List Member) → ms ≡ m ∷ rest → left ≡ 0 →
    listed_all inner types base left ms ≡ None
unfolding listed_all
listed_all-last inner types base zero m ms rest is last = rw is refl
listed_all-last inner types base (suc left) m ms rest is last = absurd (omega arith)

-- one member
listed_all-next : (inner : ℕ → ℕ → ℕ → Option Listed) (types : Types) (base left : ℕ) (m : Member) (ms rest : List Member) → ms ≡ m ∷ rest → 0 < left →
    listed_all inner types base left ms ≡ and_list (λ n. listed_all inner types base n rest) (listed inner types base (left - 1) m)
unfolding listed_all
listed_all-next inner types base zero m ms rest is some = absurd (omega arith)
listed_all-next inner types base (suc left) m ms rest is some =
    let one : suc left - 1 ≡ left = omega arith in
    rw (is, one) refl

-- what goes on behind lines that a member listed
and_list-on : (next : ℕ → Option Listed) (old new : List Line) (n : ℕ) (first : Option Listed) → so_far new (Some n) ≡ option_map (behind old) first →
    option_map (behind new) (next n) ≡ option_map (behind old) (and_list next first)
and_list-on next old new n None is = absurd (cc)
and_list-on next old new n (Some first) is =
    let both : record { lines = new; left = n } ≡ behind old first = cc in
    let lines : new ≡ old ++ first.lines = ap (λ (l : Listed). l.lines) both in
    let left : n ≡ first.left = ap (λ (l : Listed). l.left) both in
    rw (lines, left) (behind-behind old first.lines (next first.left))

and_list-stops : (next : ℕ → Option Listed) (old : List Line) (first : Option Listed) → None ≡ option_map (behind old) first → option_map (behind old) (and_list next first) ≡ None
and_list-stops next old None is = refl
and_list-stops next old (Some first) is = absurd (cc)

-- where a member listed something, the list goes on behind it
pub listed_all-on : (inner : ℕ → ℕ → ℕ → Option Listed) (types : Types) (base left n : ℕ) (old new : List Line) (m : Member) (ms rest : List Member) →
    ms ≡ m ∷ rest → 0 < left → so_far new (Some n) ≡ option_map (behind old) (listed inner types base (left - 1) m) →
    option_map (behind new) (listed_all inner types base n rest) ≡ option_map (behind old) (listed_all inner types base left ms)
listed_all-on inner types base left n old new m ms rest is some member =
    and_list-on (λ n. listed_all inner types base n rest) old new n (listed inner types base (left - 1) m) member
    ∙ ap (option_map (behind old)) (sym (listed_all-next inner types base left m ms rest is some))

-- where a member passed a limit, the list does
pub listed_all-stops : (inner : ℕ → ℕ → ℕ → Option Listed) (types : Types) (base left : ℕ) (old : List Line) (m : Member) (ms rest : List Member) →
    ms ≡ m ∷ rest → 0 < left → None ≡ option_map (behind old) (listed inner types base (left - 1) m) →
    None ≡ option_map (behind old) (listed_all inner types base left ms)
listed_all-stops inner types base left old m ms rest is some member =
    sym (ap (option_map (behind old)) (listed_all-next inner types base left m ms rest is some)
    ∙ and_list-stops (λ n. listed_all inner types base n rest) old (listed inner types base (left - 1) m) member)

-- the whole list begins behind no line
pub listing-whole : (types : Types) (id : ℕ) (start lines : List Line) (left : Option ℕ) → start ≡ [] →
    so_far lines left ≡ option_map (behind start) (lists 33 types id 0 65536) → listing types id ≡ option_map (λ n. lines) left
unfolding listing
listing-whole types id start lines None empty is =
    let whole : None ≡ lists 33 types id 0 65536 = is ∙ rw empty (behind-none (lists 33 types id 0 65536)) in
    sym (ap (option_map (λ l. l.lines)) whole)
listing-whole types id start lines (Some n) empty is =
    let whole : so_far lines (Some n) ≡ lists 33 types id 0 65536 = is ∙ rw empty (behind-none (lists 33 types id 0 65536)) in
    sym (ap (option_map (λ l. l.lines)) whole)
