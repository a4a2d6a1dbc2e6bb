-- A root audit reaches the audits that a path of `each` leads to.
use Rattle.std.proofs.Common.{◌≡◌, ℕ, zero, suc, ◌+◌, ◌-◌, ◌<◌, ◌≤◌, Bool, true, false, ◌&&◌, nat_eq, nat_le, nat_lt, List, [], ◌∷◌, ◌++◌, length, drop, slice_get, Some, refl, sym, ◌∙◌, ap, subst, arith, inl, inr}
use Rattle.std.specs.Prelude.{◌⊎◌, ◌||◌, if◌then◌else◌}
use Rattle.std.proofs.lemmas.Bool.{and_from, and_parts, eqb-true, le-leb, leb-true, ltb-true}
use Rattle.std.proofs.lemmas.Bool.Decides.{nat_tests}
use Rattle.std.proofs.lemmas.List.{length-drop}
use Rattle.kc_plan.specs.Kept.{are_between, are_later}
use Rattle.kc_plan.specs.Planned.{AuditAt}
use Rattle.kc_plan.specs.Roots.{is_among, reached, reached_from}
use Rattle.kc_audit.specs.Reached.{Leads, Names, ReachedByPaths, rise}

-- a number is among some
abbrev In : ℕ → List ℕ → Type 0
In n numbers = is_among n numbers ≡ true

either : (b c : Bool) → (b || c) ≡ true → (b ≡ true) ⊎ (c ≡ true)
either true c is = inl refl
either false c is = inr is

or_left : (b c : Bool) → b ≡ true → (b || c) ≡ true
or_left true c is = refl
or_left false c is = absurd (let none : ⊥ = cc in none)

or_right : (b c : Bool) → c ≡ true → (b || c) ≡ true
or_right true c is = refl
or_right false c is = is

in_parts : (n : ℕ) (xs ys : List ℕ) → In n (xs ++ ys) → In n xs ⊎ In n ys
in_parts n [] ys in_all = inr in_all
in_parts n (x ∷ xs) ys in_all = elim (either (nat_eq x n) (is_among n (xs ++ ys)) in_all) [
  | inl here ↦ inl (or_left (nat_eq x n) (is_among n xs) here)
  | inr rest ↦ elim (in_parts n xs ys rest) [
    | inl first ↦ inl (or_right (nat_eq x n) (is_among n xs) first)
    | inr second ↦ inr second
  ]
]

in_first : (n : ℕ) (xs ys : List ℕ) → In n xs → In n (xs ++ ys)
in_first n [] ys in_xs = absurd (let none : ⊥ = cc in none)
in_first n (x ∷ xs) ys in_xs = elim (either (nat_eq x n) (is_among n xs) in_xs) [
  | inl here ↦ or_left (nat_eq x n) (is_among n (xs ++ ys)) here
  | inr rest ↦ or_right (nat_eq x n) (is_among n (xs ++ ys)) (in_first n xs ys rest)
]

in_second : (n : ℕ) (xs ys : List ℕ) → In n ys → In n (xs ++ ys)
in_second n [] ys in_ys = in_ys
in_second n (x ∷ xs) ys in_ys = or_right (nat_eq x n) (is_among n (xs ++ ys)) (in_second n xs ys in_ys)

-- the audit at a number, and those after it
drop_head : {X : Type 0} (xs : List X) (k : ℕ) (a : X) (later : List X) → drop k xs ≡ a ∷ later → (slice_get xs k ≡ Some a) × (drop (suc k) xs ≡ later)
drop_head [] zero a later is = absurd (let none : ⊥ = cc in none)
drop_head [] (suc k) a later is = absurd (let none : ⊥ = cc in none)
drop_head (x ∷ xs) zero a later is = let head : x ≡ a = cc in let rest : xs ≡ later = cc in (ap Some head, rest)
drop_head (x ∷ xs) (suc k) a later is = drop_head xs k a later is

-- audits name later ones
between_at : (k count j : ℕ) (ms : List ℕ) → are_between k count ms ≡ true → In j ms → (k < j) × (j < count)
between_at k count j [] between in_ms = absurd (let none : ⊥ = cc in none)
between_at k count j (m ∷ ms) between in_ms =
    let parts = and_parts (nat_lt k m && nat_lt m count) (are_between k count ms) between in
    let here = and_parts (nat_lt k m) (nat_lt m count) parts.0 in
    elim (either (nat_eq m j) (is_among j ms) in_ms) [
      | inl same ↦ subst (λ (n : ℕ). (k < n) × (n < count)) (eqb-true m j same) (ltb-true k m here.0, ltb-true m count here.1)
      | inr rest ↦ between_at k count j ms parts.1 rest
    ]

later_at : (audits : List AuditAt) (k count n : ℕ) (a : AuditAt) → are_later k count audits ≡ true → slice_get audits n ≡ Some a → are_between (k + n) count a.each ≡ true
later_at [] k count n a later there = absurd (let none : ⊥ = cc in none)
later_at (x ∷ xs) k count zero a later there =
    let same : x ≡ a = cc in
    let at : k + 0 ≡ k = omega arith in
    rw at (subst (λ (y : AuditAt). are_between k count y.each ≡ true) same (and_parts (are_between k count x.each) (are_later (suc k) count xs) later).0)
later_at (x ∷ xs) k count (suc n) a later there =
    let at : k + suc n ≡ suc k + n = omega arith in
    rw at (later_at xs (suc k) count n a (and_parts (are_between k count x.each) (are_later (suc k) count xs) later).1 there)

abbrev AreLater : List AuditAt → Type 0
AreLater audits = are_later 0 (length audits) audits ≡ true

names_later : (audits : List AuditAt) (n m : ℕ) → AreLater audits → Names audits n m → (n < m) × (m < length audits)
names_later audits n m later names =
    let from : 0 + n ≡ n = omega arith in
    between_at n (length audits) m names.0.each (subst (λ (k : ℕ). are_between k (length audits) names.0.each ≡ true) from (later_at audits 0 (length audits) n names.0 later names.1)) names.2

-- a path leads to an audit from one of some, which has a number from k on
record From (audits : List AuditAt) (some : List ℕ) (k m : ℕ) : Type 0 where
  pub first : ℕ
  pub there : In first some
  pub past : k ≤ first
  pub below : first < length audits
  pub path : List ℕ
  pub leads : Leads audits first path m

-- so it is with each that is reached
from_past : (audits : List AuditAt) (some : List ℕ) (k m : ℕ) → From audits some (suc k) m → From audits some k m
from_past audits some k m f = record { first = f.first; there = f.there; past = omega (arith, f.past); below = f.below; path = f.path; leads = f.leads }

item_below : {X : Type 0} (xs : List X) (k : ℕ) (a : X) → slice_get xs k ≡ Some a → k < length xs
item_below [] k a is = absurd (let none : ⊥ = cc in none)
item_below (x ∷ xs) zero a is = omega arith
item_below (x ∷ xs) (suc k) a is = let lt : k < length xs = item_below xs k a is in omega (arith, lt)

from_named : (audits : List AuditAt) (some : List ℕ) (a : AuditAt) (k m : ℕ) → slice_get audits k ≡ Some a → In k some → From audits (some ++ a.each) (suc k) m → From audits some k m
from_named audits some a k m at here f = elim (in_parts f.first some a.each f.there) [
  | inl old ↦ record { first = f.first; there = old; past = omega (arith, f.past); below = f.below; path = f.path; leads = f.leads }
  | inr new ↦ record { first = k; there = here; past = omega arith; below = item_below audits k a at; path = f.first ∷ f.path; leads = ((a, at, new), f.leads) }
]

from_test : (audits : List AuditAt) (some : List ℕ) (a : AuditAt) (k m : ℕ) (named others : List ℕ) (b : Bool) → slice_get audits k ≡ Some a → is_among k some ≡ b
    → (In m named → From audits (some ++ a.each) (suc k) m) → (In m others → From audits some (suc k) m) → In m (if b then k ∷ named else others) → From audits some k m
from_test audits some a k m named others true at here of_named of_others there = elim (either (nat_eq k m) (is_among m named) there) [
  | inl same ↦ record { first = k; there = here; past = omega arith; below = item_below audits k a at; path = []; leads = eqb-true k m same }
  | inr rest ↦ from_named audits some a k m at here (of_named rest)
]
from_test audits some a k m named others false at here of_named of_others there = from_past audits some k m (of_others there)

reached_from_some : (audits later : List AuditAt) (k : ℕ) (some : List ℕ) (m : ℕ) → drop k audits ≡ later → In m (reached some k later) → From audits some k m
reached_from_some audits [] k some m is there = absurd (let none : ⊥ = cc in none)
reached_from_some audits (a ∷ later) k some m is there =
    let at = drop_head audits k a later is in
    from_test audits some a k m (reached (some ++ a.each) (suc k) later) (reached some (suc k) later) (is_among k some) at.0 refl
    (λ rest. reached_from_some audits later (suc k) (some ++ a.each) m at.1 rest) (λ rest. reached_from_some audits later (suc k) some m at.1 rest) there

-- and each that a path leads to is reached
same_test : (n m : ℕ) → n ≡ m → nat_eq n m ≡ true
same_test n m is = grind (arith, nat_tests)

other_past : (n m : ℕ) → nat_eq n m ≡ false → n ≤ m → suc n ≤ m
other_past n m is le = grind (arith, nat_tests)

one_item : {X : Type 0} (xs : List X) (k : ℕ) (a b : X) → slice_get xs k ≡ Some a → slice_get xs k ≡ Some b → a ≡ b
one_item xs k a b is other = let same : Some a ≡ Some b = sym is ∙ other in cc

none_past : (audits : List AuditAt) (k n : ℕ) → drop k audits ≡ [] → k ≤ n → n < length audits → ⊥
none_past audits k n is past below =
    let size : length (drop k audits) ≡ 0 = ap (λ (xs : List AuditAt). length xs) is in
    let left : length (drop k audits) ≡ length audits - k = length-drop k audits in
    omega (arith, size, left, past, below)

-- a path from audit k is empty, or goes on from one that k names
goes_on : (audits : List AuditAt) (a : AuditAt) (some : List ℕ) (k m : ℕ) (path : List ℕ) → AreLater audits → slice_get audits k ≡ Some a → Leads audits k path m → (k ≡ m) ⊎ From audits (some ++ a.each) (suc k) m
goes_on audits a some k m [] later at leads = inl leads
goes_on audits a some k m (j ∷ js) later at leads =
    let past = names_later audits k j later leads.0 in
    let named : In j a.each = subst (λ (x : AuditAt). In j x.each) (one_item audits k leads.0.0 a leads.0.1 at) leads.0.2 in
    inr (record { first = j; there = in_second j some a.each named; past = omega (arith, past.0); below = past.1; path = js; leads = leads.1 })

-- where k itself is one of some
by_path : (audits : List AuditAt) (a : AuditAt) (some named : List ℕ) (k m : ℕ) (path : List ℕ) → AreLater audits → slice_get audits k ≡ Some a → (From audits (some ++ a.each) (suc k) m → In m named)
    → Leads audits k path m → In m (k ∷ named)
by_path audits a some named k m path later at further leads = elim (goes_on audits a some k m path later at leads) [
  | inl same ↦ or_left (nat_eq k m) (is_among m named) (same_test k m same)
  | inr more ↦ or_right (nat_eq k m) (is_among m named) (further more)
]

by_first : (audits : List AuditAt) (a : AuditAt) (some named : List ℕ) (k m : ℕ) (f : From audits some k m) (same : Bool) → AreLater audits → slice_get audits k ≡ Some a
    → (From audits (some ++ a.each) (suc k) m → In m named) → nat_eq k f.first ≡ same → In m (k ∷ named)
by_first audits a some named k m f true later at further same =
    by_path audits a some named k m f.path later at further (subst (λ (n : ℕ). Leads audits n f.path m) (sym (eqb-true k f.first same)) f.leads)
by_first audits a some named k m f false later at further other =
    or_right (nat_eq k m) (is_among m named)
    (further (record { first = f.first; there = in_first f.first some a.each f.there; past = other_past k f.first other f.past; below = f.below; path = f.path; leads = f.leads }))

-- and where it isn't
passed : (audits : List AuditAt) (some others : List ℕ) (k m : ℕ) (f : From audits some k m) (same : Bool) → is_among k some ≡ false → (From audits some (suc k) m → In m others) → nat_eq k f.first ≡ same → In m others
passed audits some others k m f true not_among further same =
    let among : is_among k some ≡ true = subst (λ (n : ℕ). In n some) (sym (eqb-true k f.first same)) f.there in
    absurd (let no : true ≡ false = sym among ∙ not_among in let none : ⊥ = cc in none)
passed audits some others k m f false not_among further other =
    further (record { first = f.first; there = f.there; past = other_past k f.first other f.past; below = f.below; path = f.path; leads = f.leads })

by_test : (audits : List AuditAt) (a : AuditAt) (some named others : List ℕ) (k m : ℕ) (f : From audits some k m) (b : Bool) → is_among k some ≡ b → AreLater audits → slice_get audits k ≡ Some a
    → (From audits (some ++ a.each) (suc k) m → In m named) → (From audits some (suc k) m → In m others) → In m (if b then k ∷ named else others)
by_test audits a some named others k m f true is later at of_named of_others = by_first audits a some named k m f (nat_eq k f.first) later at of_named refl
by_test audits a some named others k m f false is later at of_named of_others = passed audits some others k m f (nat_eq k f.first) is of_others refl

some_reached : (audits later : List AuditAt) (k : ℕ) (some : List ℕ) (m : ℕ) → AreLater audits → drop k audits ≡ later → From audits some k m → In m (reached some k later)
some_reached audits [] k some m law is f = absurd (none_past audits k f.first is f.past f.below)
some_reached audits (a ∷ later) k some m law is f =
    let at = drop_head audits k a later is in
    by_test audits a some (reached (some ++ a.each) (suc k) later) (reached some (suc k) later) k m f (is_among k some) refl law at.0
    (λ g. some_reached audits later (suc k) (some ++ a.each) m law at.1 g) (λ g. some_reached audits later (suc k) some m law at.1 g)

-- they rise
rise_past : (k : ℕ) (ns : List ℕ) → rise (suc k) ns ≡ true → rise k ns ≡ true
rise_past k [] is = refl
rise_past k (n ∷ ns) is =
    let parts = and_parts (nat_le (suc k) n) (rise (suc n) ns) is in
    let le : k ≤ n = let more : suc k ≤ n = leb-true (suc k) n parts.0 in omega (arith, more) in
    and_from (nat_le k n) (rise (suc n) ns) (le-leb k n le) parts.1

test_rises : (k : ℕ) (named others : List ℕ) (b : Bool) → rise (suc k) named ≡ true → rise (suc k) others ≡ true → rise k (if b then k ∷ named else others) ≡ true
test_rises k named others true of_named of_others = let le : k ≤ k = omega arith in and_from (nat_le k k) (rise (suc k) named) (le-leb k k le) of_named
test_rises k named others false of_named of_others = rise_past k others of_others

reached_rise : (later : List AuditAt) (k : ℕ) (some : List ℕ) → rise k (reached some k later) ≡ true
reached_rise [] k some = refl
reached_rise (a ∷ later) k some =
    test_rises k (reached (some ++ a.each) (suc k) later) (reached some (suc k) later) (is_among k some) (reached_rise later (suc k) (some ++ a.each)) (reached_rise later (suc k) some)

-- the first is the root
only_root : (root first : ℕ) → In first (root ∷ []) → root ≡ first
only_root root first there = elim (either (nat_eq root first) false there) [
  | inl same ↦ eqb-true root first same
  | inr none ↦ absurd (let no : ⊥ = cc in no)
]

pub reached_by_paths : ReachedByPaths
reached_by_paths audits root m later below = (
  (
    (λ there. let f = reached_from_some audits audits 0 (root ∷ []) m refl there in (f.path, subst (λ (n : ℕ). Leads audits n f.path m) (sym (only_root root f.first f.there)) f.leads)),
    (λ path. some_reached audits audits 0 (root ∷ []) m later refl
        (record { first = root; there = or_left (nat_eq root root) false (same_test root root refl); past = omega arith; below = below; path = path.0; leads = path.1 })),
  ),
  reached_rise audits 0 (root ∷ []),
)
