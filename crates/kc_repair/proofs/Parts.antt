-- The suspects that are tried, parted by those that pass.
use Rattle.std.proofs.Common.{◌≡◌, ℕ, zero, suc, ◌+◌, Bool, true, false, cond, List, [], ◌∷◌, ◌++◌, length, take, drop, find, is_some, Option, Some, None, refl, sym, ap, ◌∙◌, subst, append-nil, arith}
use Rattle.std.specs.Prelude.{IfSome, option_to_list}
use Rattle.std.specs.List.{AllByRecursion}
use Rattle.std.proofs.lemmas.List.{length-append}
use Rattle.kc_repair.specs.declared.suspect.suspect.Suspect.{Suspect}
use Rattle.kc_repair.specs.declared.others.Stand.{Stand}
use Rattle.kc_repair.specs.Others.{most_more, next_ones, stand_after, stand_by, up_to}
use Rattle.kc_repair.proofs.Ups.{none-passes, steps, stops}

-- ---- what holds of each

pub all-both : (P : Suspect → Type 0) (xs ys : List Suspect) → AllByRecursion P xs → AllByRecursion P ys → AllByRecursion P (xs ++ ys)
all-both P [] ys one two = two
all-both P (x ∷ xs) ys one two = (one.0, all-both P xs ys one.1 two)

all-front : (P : Suspect → Type 0) (xs ys : List Suspect) → AllByRecursion P (xs ++ ys) → AllByRecursion P xs
all-front P [] ys all = tt
all-front P (x ∷ xs) ys all = (all.0, all-front P xs ys all.1)

all-back : (P : Suspect → Type 0) (xs ys : List Suspect) → AllByRecursion P (xs ++ ys) → AllByRecursion P ys
all-back P [] ys all = all
all-back P (x ∷ xs) ys all = all-back P xs ys all.1

all-taken : (P : Suspect → Type 0) (n : ℕ) (xs : List Suspect) → AllByRecursion P xs → AllByRecursion P (take n xs)
all-taken P zero xs all = tt
all-taken P (suc n) [] all = tt
all-taken P (suc n) (x ∷ xs) all = (all.0, all-taken P n xs all.1)

pub all-so : (P Q : Suspect → Type 0) (xs : List Suspect) → ((x : Suspect) → P x → Q x) → AllByRecursion P xs → AllByRecursion Q xs
all-so P Q [] so all = tt
all-so P Q (x ∷ xs) so all = (so x all.0, all-so P Q xs so all.1)

-- ---- up to the first that passes

abbrev Fails : (Suspect → Bool) → Suspect → Type 0
Fails passes x = passes x ≡ false

record Split (passes : Suspect → Bool) (xs : List Suspect) (s : Suspect) : Type 0 where
  before : List Suspect
  later : List Suspect
  whole : xs ≡ before ++ s ∷ later
  none : AllByRecursion (Fails passes) before
  place : up_to passes xs ≡ suc (length before)
  passes_it : passes s ≡ true

split : (passes : Suspect → Bool) (xs : List Suspect) (s : Suspect) → find passes xs ≡ Some s → Split passes xs s
split passes [] s is = let never : ⊥ = cc in absurd never
split passes (x ∷ xs) s is = at (passes x) refl is (split passes xs s)
  where
    at : (b : Bool) → passes x ≡ b → cond b (Some x) (find passes xs) ≡ Some s → (find passes xs ≡ Some s → Split passes xs s) → Split passes (x ∷ xs) s
    at true e is later =
        let same : x ≡ s = cc in
        record {
          before = [];
          later = xs;
          whole = ap (λ (y : Suspect). y ∷ xs) same;
          none = tt;
          place = stops (passes x) (up_to passes xs) e;
          passes_it = subst (λ (t : Suspect). passes t ≡ true) same e;
        }
    at false e is later =
        let rest = later is in
        record {
          before = x ∷ rest.before;
          later = rest.later;
          whole = ap (λ (l : List Suspect). x ∷ l) rest.whole;
          none = (e, rest.none);
          place = steps (passes x) (up_to passes xs) e ∙ ap suc rest.place;
          passes_it = rest.passes_it;
        }

none-pass : (passes : Suspect → Bool) (xs : List Suspect) → find passes xs ≡ None → AllByRecursion (Fails passes) xs
none-pass passes [] none = tt
none-pass passes (x ∷ xs) none = at (passes x) refl none (none-pass passes xs)
  where
    at : (b : Bool) → passes x ≡ b → cond b (Some x) (find passes xs) ≡ None → (find passes xs ≡ None → AllByRecursion (Fails passes) xs) → AllByRecursion (Fails passes) (x ∷ xs)
    at true e none later = let never : ⊥ = cc in absurd never
    at false e none later = (e, later none)

after-it : (before : List Suspect) (s : Suspect) (later : List Suspect) → drop (suc (length before)) (before ++ s ∷ later) ≡ later
after-it [] s later = refl
after-it (x ∷ before) s later = after-it before s later

-- ---- those that are tried

pub record Tried (passes : Suspect → Bool) (There : Suspect → Type 0) (s : Suspect) (stand : Stand) : Type 0 where
  pub before : List Suspect
  pub after : List Suspect
  pub other : Option Suspect
  pub there : AllByRecursion There (before ++ after ++ option_to_list other)
  pub fail : AllByRecursion (Fails passes) (before ++ after)
  pub also : IfSome other (λ (x : Suspect). passes x ≡ true)
  pub two : stand.also ≡ is_some other
  pub number : stand.tried ≡ length (before ++ s ∷ after ++ option_to_list other)

count-none : (before others : List Suspect) (s : Suspect) (n : ℕ) → n ≡ length others → suc (length before) + n ≡ length (before ++ s ∷ others ++ [])
count-none before others s n is =
    let all : length (before ++ s ∷ others ++ []) ≡ length (before ++ s ∷ others) = ap length (append-nil (before ++ s ∷ others)) in
    let one : length (before ++ s ∷ others) ≡ length before + suc (length others) = length-append before (s ∷ others) in
    omega (arith, all, one, is)

count-one : (before after : List Suspect) (s t : Suspect) (n : ℕ) → n ≡ suc (length after) → suc (length before) + n ≡ length (before ++ s ∷ after ++ t ∷ [])
count-one before after s t n is =
    let all : length (before ++ s ∷ after ++ t ∷ []) ≡ length (before ++ s ∷ after) + 1 = length-append (before ++ s ∷ after) (t ∷ []) in
    let one : length (before ++ s ∷ after) ≡ length before + suc (length after) = length-append before (s ∷ after) in
    omega (arith, all, one, is)

tried-by : (passes : Suspect → Bool) (There : Suspect → Type 0) (before others : List Suspect) (s : Suspect) (second : Option Suspect) → find passes others ≡ second
    → AllByRecursion There before → AllByRecursion There others → AllByRecursion (Fails passes) before → Tried passes There s (stand_after passes (suc (length before)) others)
tried-by passes There before others s None is there there_too fail = record {
  before = before;
  after = others;
  other = None;
  there = all-both There (before ++ others) [] (all-both There before others there there_too) tt;
  fail = all-both (Fails passes) before others fail (none-pass passes others is);
  also = tt;
  two = ap is_some is;
  number = count-none before others s (up_to passes others) (sym (none-passes passes others is));
}
tried-by passes There before others s (Some t) is there there_too fail =
    let parts : Split passes others t = split passes others t is in
    let both : AllByRecursion There (parts.before ++ t ∷ parts.later) = subst (λ (l : List Suspect). AllByRecursion There l) parts.whole there_too in
    record {
      before = before;
      after = parts.before;
      other = Some t;
      there = all-both There (before ++ parts.before) (t ∷ []) (all-both There before parts.before there (all-front There parts.before (t ∷ parts.later) both)) ((all-back There parts.before (t ∷ parts.later) both).0, tt);
      fail = all-both (Fails passes) before parts.before fail parts.none;
      also = parts.passes_it;
      two = ap is_some is;
      number = count-one before parts.before s t (up_to passes others) parts.place;
    }

pub tried-parts : (passes : Suspect → Bool) (There : Suspect → Type 0) (xs : List Suspect) (s : Suspect) → AllByRecursion There xs → find passes xs ≡ Some s → Tried passes There s (stand_by passes xs)
tried-parts passes There xs s all is =
    let parts : Split passes xs s = split passes xs s is in
    let both : AllByRecursion There (parts.before ++ s ∷ parts.later) = subst (λ (l : List Suspect). AllByRecursion There l) parts.whole all in
    let left : drop (suc (length parts.before)) xs ≡ parts.later = ap (drop (suc (length parts.before))) parts.whole ∙ after-it parts.before s parts.later in
    let others : List Suspect = take most_more parts.later in
    let same : stand_after passes (suc (length parts.before)) others ≡ stand_by passes xs
    = sym (ap (λ (n : ℕ). stand_after passes n (next_ones n xs)) parts.place ∙ ap (λ (l : List Suspect). stand_after passes (suc (length parts.before)) (take most_more l)) left) in
    subst (λ (w : Stand). Tried passes There s w) same
    (tried-by passes There parts.before others s (find passes others) refl (all-front There parts.before (s ∷ parts.later) both)
    (all-taken There most_more parts.later (all-back There parts.before (s ∷ parts.later) both).1) parts.none)
