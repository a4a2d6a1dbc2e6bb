-- The search through members, one by one.
use Rattle.std.proofs.Common.{◌≡◌, ℕ, zero, suc, ◌-◌, ◌<◌, true, false, List, [], ◌∷◌, ap, ◌∙◌, sym, refl, arith}
use Rattle.std.specs.Prelude.{bytes_eq}
use Rattle.kc_btf.specs.declared.types.Member.{Member}
use Rattle.kc_btf.specs.Btf.{Types}
use Rattle.kc_btf.specs.Readers.{name_at}
use Rattle.kc_layout.specs.declared.member.Search.{Search}
use Rattle.kc_layout.specs.declared.member.Search.TheVariants.{Found, Absent, Beyond}
use Rattle.kc_layout.specs.Bare.{members_numbered}
use Rattle.kc_layout.specs.Search.{among, search, lent, and_on, spot_of}

-- a search that may enter one more level
pub search-next : (levels : ℕ) (types : Types) (name : List ℕ) (id base left : ℕ) → 0 < levels →
    search levels types name id base left ≡ among (search (levels - 1) types name) types name base left (members_numbered types id)
unfolding search
search-next zero types name id base left some = absurd (omega arith)
search-next (suc levels) types name id base left some =
    let one : suc levels - 1 ≡ levels = omega arith in
    rw one refl

pub search-last : (levels : ℕ) (types : Types) (name : List ℕ) (id base left : ℕ) → levels ≡ 0 → search levels types name id base left ≡ Beyond
unfolding search
search-last zero types name id base left last = refl
search-last (suc levels) types name id base left last = absurd (omega arith)

-- no member is left
pub among-end : (inner : ℕ → ℕ → ℕ → Search) (types : Types) (name : List ℕ) (base left : ℕ) (ms : List Member) → ms ≡ [] → among inner types name base left ms ≡ Absent left
unfolding among
among-end inner types name base left ms end = rw end refl

-- one member too many
pub among-last : (inner : ℕ → ℕ → ℕ → Search) (types : Types) (name : List ℕ) (base left : ℕ) (m : Member) (ms rest : List Member) → ms ≡ m ∷ rest → left ≡ 0 → among inner types name base left ms ≡ Beyond
unfolding among
among-last inner types name base zero m ms rest is last = rw is refl
among-last inner types name base (suc left) m ms rest is last = absurd (omega arith)

-- the member that is looked for
pub among-found : (inner : ℕ → ℕ → ℕ → Search) (types : Types) (name : List ℕ) (base left : ℕ) (m : Member) (ms rest : List Member) → ms ≡ m ∷ rest → 0 < left →
    bytes_eq (name_at types.strings m.name) name ≡ true → among inner types name base left ms ≡ Found (spot_of base m)
unfolding among
among-found inner types name base zero m ms rest is some named = absurd (omega arith)
among-found inner types name base (suc left) m ms rest is some named = rw (is, named) refl

-- another member
pub among-next : (inner : ℕ → ℕ → ℕ → Search) (types : Types) (name : List ℕ) (base left : ℕ) (m : Member) (ms rest : List Member) → ms ≡ m ∷ rest → 0 < left →
    bytes_eq (name_at types.strings m.name) name ≡ false → among inner types name base left ms ≡ and_on (λ n. among inner types name base n rest) (lent inner types base (left - 1) m)
unfolding among
among-next inner types name base zero m ms rest is some other = absurd (omega arith)
among-next inner types name base (suc left) m ms rest is some other =
    let one : suc left - 1 ≡ left = omega arith in
    rw (is, other, one) refl

-- where a member lent something, the search goes on behind it
pub search-lent : (levels : ℕ) (types : Types) (name : List ℕ) (id base whole left : ℕ) (m : Member) (ms rest : List Member) (lends : Search) →
    among (search (levels - 1) types name) types name base left ms ≡ among (search (levels - 1) types name) types name base whole (members_numbered types id) →
    ms ≡ m ∷ rest → 0 < left → bytes_eq (name_at types.strings m.name) name ≡ false → lends ≡ lent (search (levels - 1) types name) types base (left - 1) m →
    and_on (λ n. among (search (levels - 1) types name) types name base n rest) lends ≡ among (search (levels - 1) types name) types name base whole (members_numbered types id)
search-lent levels types name id base whole left m ms rest lends so_far is some other lending =
    ap (and_on (λ n. among (search (levels - 1) types name) types name base n rest)) lending
    ∙ sym (among-next (search (levels - 1) types name) types name base left m ms rest is some other)
    ∙ so_far
