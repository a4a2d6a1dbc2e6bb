-- An index of types by name is asked as the types themselves are.
use Rattle.std.proofs.Common.{◌≡◌, ◌≢◌, min, map, ℕ, zero, suc, ◌+◌, ◌*◌, ◌%◌, ◌<◌, ◌≤◌, ◌==◌, ◌&&◌, ◌||◌, Bool, true, false, List, [], ◌∷◌, ◌++◌, length, take, drop, get_or, Option, Some, None, if◌then◌else◌, refl, ap, sym, ◌∙◌, arith, add-one, All}
use Rattle.std.proofs.Math.ListN.{set}
use Rattle.std.specs.Prelude.{bytes_eq}
use Rattle.std.specs.Option.{option_or, option_map_or}
use Rattle.std.specs.List as list
use Rattle.std.proofs.lemmas.Bool.{eq-eqb, eqb-true}
use Rattle.std.proofs.lemmas.List.{append-nil, get_or-map, get_or-set_other, get_or-set_same, length-map, map-set, take_min}
use Rattle.std.proofs.Math.ListN.{drop_of_length-le, length-set}
use Rattle.std.proofs.Math.Seq.{drop-cons}
use Rattle.std.proofs.lemmas.List.Elements.{All-append, All-nil}
use Rattle.std.proofs.lemmas.List.Folds.{find-append}
use Rattle.std.proofs.lemmas.Option.{slice_get-get_or}
use Rattle.std.proofs.lemmas.Slice.Eq.{bytes_eq-Decides}
use Rattle.kc_btf.specs.declared.kind.Kind.{Kind}
use Rattle.kc_btf.specs.declared.types.TypeRef.{TypeRef}
use Rattle.kc_btf.specs.Btf.{Types}
use Rattle.kc_btf.specs.Kind.{is_compound}
use Rattle.kc_btf.specs.Records.{Record}
use Rattle.kc_btf.specs.Readers.{name_at, type_numbered}
use Rattle.kc_layout.specs.declared.find.Wanted.{Wanted}
use Rattle.kc_layout.specs.declared.find.Wanted.TheVariants.{Compound, Alias}
use Rattle.kc_layout.specs.Find.{find, least, is_named, is_wanted, is_typedef, leads_to_compound}
use Rattle.kc_layout.specs.Names.{chosen, bucket_of, is_kept, falls, kept_one, kept, bears, is_bearer, first_in, sought, IsNumber, StandsFor}
use Rattle.kc_layout.proofs.FindLemmas.{nothing, position-at, position-none}
use Rattle.kc_layout.proofs.FoundLemmas.{both}

either : (a b : Bool) → b ≡ true → (a || b) ≡ true
either true b is = refl
either false b is = is

-- what has a name and is wanted is kept in the name's bucket

wanted_kept : (types : Types) (wanted : Wanted) (kind : Kind) (rest : ℕ) → is_wanted types wanted kind rest ≡ true → is_kept kind ≡ true
wanted_kept types Compound kind rest is = ap (λ b. b || is_typedef kind) is
wanted_kept types Alias kind rest is = either (is_compound kind) (is_typedef kind) (both (is_typedef kind) (leads_to_compound 31 types rest) is).0

bearer_falls : (types : Types) (name : List ℕ) (wanted : Wanted) (t : TypeRef) → bears types name wanted t ≡ true → falls types (bucket_of name) t ≡ true
bearer_falls types name wanted t is =
    let each = both (bytes_eq (name_at types.strings t.name) name) (is_wanted types wanted t.kind t.rest) is in
    let same : name_at types.strings t.name ≡ name = (bytes_eq-Decides (name_at types.strings t.name) name).0 each.0 in
    let there : (bucket_of (name_at types.strings t.name) == bucket_of name) ≡ true = eq-eqb (bucket_of (name_at types.strings t.name)) (bucket_of name) (ap bucket_of same) in
    ap (λ b. b && (bucket_of (name_at types.strings t.name) == bucket_of name)) (wanted_kept types wanted t.kind t.rest each.1) ∙ there

numbered_falls : (types : Types) (name : List ℕ) (wanted : Wanted) (o : Option TypeRef) → option_map_or (bears types name wanted) o false ≡ true → option_map_or (falls types (bucket_of name)) o false ≡ true
numbered_falls types name wanted None is = is
numbered_falls types name wanted (Some t) is = bearer_falls types name wanted t is

-- the first of the types up to one that has a name and is wanted

if_bearer : Types → List ℕ → Wanted → ℕ → Option ℕ
if_bearer types name wanted id = if is_bearer types name wanted id then Some id else None

named_up_to : Types → List ℕ → Wanted → ℕ → Option ℕ
named_up_to types name wanted zero = None
named_up_to types name wanted (suc id) = option_or (named_up_to types name wanted id) (if_bearer types name wanted (suc id))

one_by : (p : ℕ → Bool) (id : ℕ) (fall : Bool) → (p id ≡ true → fall ≡ true) → list.find p (if fall then id ∷ [] else []) ≡ (if p id then Some id else None)
one_by p id true falls = alone (p id) refl
  where
    alone : (b : Bool) → p id ≡ b → list.find p (id ∷ []) ≡ (if b then Some id else None)
    alone true is = rw is refl
    alone false is = rw is refl
one_by p id false falls = never (p id) refl
  where
    never : (b : Bool) → p id ≡ b → None ≡ (if b then Some id else None)
    never true is = let none : ⊥ = cc (falls is) in absurd none
    never false is = refl

one_more : (types : Types) (name : List ℕ) (wanted : Wanted) (id : ℕ) → first_in types (kept_one types (bucket_of name) id) name wanted ≡ if_bearer types name wanted id
unfolding if_bearer
one_more types name wanted id =
    one_by (is_bearer types name wanted) id (option_map_or (falls types (bucket_of name)) (type_numbered types id) false) (numbered_falls types name wanted (type_numbered types id))

kept_finds : (types : Types) (name : List ℕ) (wanted : Wanted) (count : ℕ) → first_in types (kept types (bucket_of name) count) name wanted ≡ named_up_to types name wanted count
unfolding kept named_up_to
kept_finds types name wanted zero = refl
kept_finds types name wanted (suc id) =
    find-append (is_bearer types name wanted) (kept types (bucket_of name) id) (kept_one types (bucket_of name) (suc id))
    ∙ ap (λ o. option_or o (first_in types (kept_one types (bucket_of name) (suc id)) name wanted)) (kept_finds types name wanted id)
    ∙ ap (λ o. option_or (named_up_to types name wanted id) o) (one_more types name wanted (suc id))

-- and that is the least of all

bearer_is : (types : Types) (name : List ℕ) (wanted : Wanted) (k : ℕ) (d : Record) → k < length types.records → is_bearer types name wanted (suc k) ≡ is_named types name wanted (get_or types.records k d)
bearer_is types name wanted k d within = rw (slice_get-get_or types.records k d within) refl

-- no record before one is named so
Unnamed : Types → List ℕ → Wanted → ℕ → Type 0
Unnamed types name wanted count = (k : ℕ) (d : Record) → k < count → is_named types name wanted (get_or types.records k d) ≡ false

-- what is found is the first that is named so
Named : Types → List ℕ → Wanted → ℕ → Option ℕ → Type 0
Named types name wanted count None = Unnamed types name wanted count
Named types name wanted count (Some id) = (i : ℕ) × (id ≡ suc i) × (i < count) × Unnamed types name wanted i × (is_named types name wanted (get_or types.records i nothing) ≡ true)

unnamed_more : (types : Types) (name : List ℕ) (wanted : Wanted) (id : ℕ) → id < length types.records → is_bearer types name wanted (suc id) ≡ false → Unnamed types name wanted id → Unnamed types name wanted (suc id)
unfolding Unnamed
unnamed_more types name wanted id within other before k d less = by (k == id) refl
  where
    by : (b : Bool) → (k == id) ≡ b → is_named types name wanted (get_or types.records k d) ≡ false
    by true is = let same : k ≡ id = eqb-true k id is in rw same (sym (bearer_is types name wanted id d within) ∙ other)
    by false is = before k d (let apart : k ≢ id = λ same. (let none : ⊥ = cc (eq-eqb k id same) in absurd none) in omega arith)

named_more : (types : Types) (name : List ℕ) (wanted : Wanted) (id : ℕ) (found : Option ℕ) (b : Bool) → id < length types.records → is_bearer types name wanted (suc id) ≡ b
    → Named types name wanted id found → Named types name wanted (suc id) (option_or found (if b then Some (suc id) else None))
unfolding Named
named_more types name wanted id None true within is before = (id, refl, omega arith, before, sym (bearer_is types name wanted id nothing within) ∙ is)
named_more types name wanted id None false within is before = unnamed_more types name wanted id within is before
named_more types name wanted id (Some found) b within is before = (before.0, before.1, let less : before.0 < id = before.2 in omega arith, before.3, before.4)

up_to_is : (types : Types) (name : List ℕ) (wanted : Wanted) (count : ℕ) → count ≤ length types.records → Named types name wanted count (named_up_to types name wanted count)
unfolding named_up_to if_bearer Named Unnamed
up_to_is types name wanted zero within = λ k d less. absurd (omega arith)
up_to_is types name wanted (suc id) within =
    named_more types name wanted id (named_up_to types name wanted id) (is_bearer types name wanted (suc id)) (omega arith) refl (up_to_is types name wanted id (omega arith))

least_of : (types : Types) (name : List ℕ) (wanted : Wanted) (found : Option ℕ) → Named types name wanted (length types.records) found → found ≡ least types name wanted
unfolding Named Unnamed
least_of types name wanted None before =
    sym (rw (position-none (is_named types name wanted) types.records (length types.records) nothing refl (λ k. before k nothing)) refl)
least_of types name wanted (Some id) is =
    ap (λ i. Some i) is.1 ∙ sym (rw (position-at (is_named types name wanted) types.records is.0 nothing is.2 (λ k. is.3 k nothing) is.4) refl)

kept_least : (types : Types) (name : List ℕ) (wanted : Wanted) → first_in types (kept types (bucket_of name) (length types.records)) name wanted ≡ least types name wanted
kept_least types name wanted =
    kept_finds types name wanted (length types.records)
    ∙ least_of types name wanted (named_up_to types name wanted (length types.records)) (up_to_is types name wanted (length types.records) (omega arith))

-- the buckets as far as the types have been gone through

chosen_below : (start : ℕ) (bytes : List ℕ) → start < 8192 → chosen start bytes < 8192
unfolding chosen
chosen_below start [] low = low
chosen_below start (c ∷ cs) low = chosen_below ((31 * start + c) % 8192) cs (omega arith)

bucket_below : (name : List ℕ) → bucket_of name < 8192
unfolding bucket_of
bucket_below name = chosen_below 0 (take 64 name) (omega arith)

pub record Holds (types : Types) (count : ℕ) (buckets : List (List ℕ)) : Type 0 where
  pub many : length buckets ≡ 8192
  pub each : (bucket : ℕ) → bucket < 8192 → get_or buckets bucket [] ≡ kept types bucket count

pub holds_none : (types : Types) (buckets : List (List ℕ)) → length buckets ≡ 8192 → ((bucket : ℕ) → get_or buckets bucket [] ≡ []) → Holds types 0 buckets
unfolding kept
holds_none types buckets many empty = record { many = many; each = λ bucket low. empty bucket }

-- a type more that is kept nowhere
pub holds_other : (types : Types) (count : ℕ) (buckets : List (List ℕ)) (t : TypeRef) → Holds types count buckets → type_numbered types (count + 1) ≡ Some t → is_kept t.kind ≡ false → Holds types (count + 1) buckets
unfolding kept
holds_other types count buckets t holds is other =
    let next : count + 1 ≡ suc count = omega arith in
    let there : type_numbered types (suc count) ≡ Some t = rw next at is in
    rw next (record {
      many = holds.many;
      each = λ bucket low. holds.each bucket low ∙ sym (rw (there, other) (append-nil (kept types bucket count)));
    })

-- one more that is kept in its bucket
pub holds_more : (types : Types) (count : ℕ) (buckets : List (List ℕ)) (t : TypeRef) → Holds types count buckets → type_numbered types (count + 1) ≡ Some t → is_kept t.kind ≡ true
    → Holds types (count + 1) (set buckets (bucket_of (name_at types.strings t.name)) (get_or buckets (bucket_of (name_at types.strings t.name)) [] ++ (count + 1) ∷ []))
unfolding kept
holds_more types count buckets t holds is kind =
    let own = bucket_of (name_at types.strings t.name) in
    let next : count + 1 ≡ suc count = omega arith in
    let there : type_numbered types (suc count) ≡ Some t = rw next at is in
    let low : own < 8192 = bucket_below (name_at types.strings t.name) in
    rw next (record {
      many = length-set buckets own (get_or buckets own [] ++ suc count ∷ []) ∙ holds.many;
      each = λ bucket within. at bucket within (own == bucket) refl;
    })
  where
    at : (bucket : ℕ) → bucket < 8192 → (b : Bool) → (bucket_of (name_at types.strings t.name) == bucket) ≡ b
        → get_or (set buckets (bucket_of (name_at types.strings t.name)) (get_or buckets (bucket_of (name_at types.strings t.name)) [] ++ suc count ∷ [])) bucket [] ≡ kept types bucket (suc count)
    at bucket within true same =
        let here : bucket_of (name_at types.strings t.name) ≡ bucket = eqb-true (bucket_of (name_at types.strings t.name)) bucket same in
        let one : kept_one types bucket (suc count) ≡ suc count ∷ [] = rw (rw (add-one count) at is, kind, same) refl in
        let low : bucket < length buckets = omega (arith, holds.many) in
        rw (here, get_or-set_same buckets bucket (get_or buckets bucket [] ++ suc count ∷ []) [] low, one) (ap (λ ids. ids ++ suc count ∷ []) (holds.each bucket within))
    at bucket within false other =
        let apart : bucket ≢ bucket_of (name_at types.strings t.name) =
        λ here. (let none : ⊥ = cc (eq-eqb (bucket_of (name_at types.strings t.name)) bucket (sym here)) in absurd none) in
        let none : kept_one types bucket (suc count) ≡ [] = rw (rw (add-one count) at is, kind, other) refl in
        get_or-set_other buckets (bucket_of (name_at types.strings t.name)) bucket (get_or buckets (bucket_of (name_at types.strings t.name)) [] ++ suc count ∷ []) [] apart
        ∙ holds.each bucket within ∙ sym (rw none (append-nil (kept types bucket count)))

-- the index of all types

sought_is : (types : Types) (buckets : List (List ℕ)) → Holds types (length types.records) buckets → (name : List ℕ) → sought types buckets name ≡ find types name
sought_is types buckets holds [] = refl
sought_is types buckets holds (c ∷ cs) =
    let name = c ∷ cs in
    let numbers = holds.each (bucket_of name) (bucket_below name) in
    ap (λ ids. option_or (first_in types ids name Compound) (first_in types ids name Alias)) numbers
    ∙ ap (λ o. option_or o (first_in types (kept types (bucket_of name) (length types.records)) name Alias)) (kept_least types name Compound)
    ∙ ap (λ o. option_or (least types name Compound) o) (kept_least types name Alias)

one_numbers : (types : Types) (bucket id : ℕ) → 0 < id → id ≤ length types.records → All (IsNumber types) (kept_one types bucket id)
one_numbers types bucket id some within = by (option_map_or (falls types bucket) (type_numbered types id) false)
  where
    alone : All (IsNumber types) (id ∷ [])
    alone zero d less = (some, within)
    alone (suc k) d less = absurd (omega arith)

    by : (b : Bool) → All (IsNumber types) (if b then id ∷ [] else [])
    by true = alone
    by false = All-nil (IsNumber types)

kept_numbers : (types : Types) (bucket count : ℕ) → count ≤ length types.records → All (IsNumber types) (kept types bucket count)
unfolding kept
kept_numbers types bucket zero within = All-nil (IsNumber types)
kept_numbers types bucket (suc id) within =
    All-append (IsNumber types) (kept types bucket id) (kept_one types bucket (suc id)) (kept_numbers types bucket id (omega arith)) (one_numbers types bucket (suc id) (omega arith) within)

pub stands_for : (types : Types) (count : ℕ) (buckets : List (List ℕ)) → count ≡ length types.records → Holds types count buckets → StandsFor types buckets
stands_for types count buckets all so_far =
    let holds : Holds types (length types.records) buckets = rw (sym all) so_far in
    record {
      answers = sought_is types buckets holds;
      numbers = λ bucket low. rw (holds.each bucket low) (kept_numbers types bucket (length types.records) (omega arith));
      many = holds.many;
    }

-- what the code keeps

pub chosen_drop : (bytes : List ℕ) (start at c : ℕ) → at < length bytes → c ≡ get_or bytes at 0 → chosen start (drop at bytes) ≡ chosen ((31 * start + c) % 8192) (drop (at + 1) bytes)
unfolding chosen
chosen_drop bytes start at c within is = rw (drop-cons bytes at 0 within, add-one at, is) refl

pub chosen_end : (bytes : List ℕ) (start at : ℕ) → length bytes ≤ at → chosen start (drop at bytes) ≡ start
unfolding chosen
chosen_end bytes start at past = rw (drop_of_length-le bytes past) refl

pub first_drop : (types : Types) (name : List ℕ) (wanted : Wanted) (numbers : List ℕ) (at : ℕ) (t : TypeRef) → at < length numbers → type_numbered types (get_or numbers at 0) ≡ Some t
    → first_in types (drop at numbers) name wanted ≡ (if bears types name wanted t then Some (get_or numbers at 0) else first_in types (drop (at + 1) numbers) name wanted)
first_drop types name wanted numbers at t within is = rw (drop-cons numbers at 0 within, add-one at, is) refl

pub first_end : (types : Types) (name : List ℕ) (wanted : Wanted) (numbers : List ℕ) (at : ℕ) → length numbers ≤ at → first_in types (drop at numbers) name wanted ≡ None
first_end types name wanted numbers at past = rw (drop_of_length-le numbers past) refl

pub empty_more : {X : Type 0} (f : X → List ℕ) (xs : List X) (x : X) → f x ≡ [] → ((bucket : ℕ) → get_or (map f xs) bucket [] ≡ []) → (bucket : ℕ) → get_or (map f (xs ++ x ∷ [])) bucket [] ≡ []
empty_more f [] x is so_far zero = is
empty_more f [] x is so_far (suc bucket) = refl
empty_more f (y ∷ ys) x is so_far zero = so_far zero
empty_more f (y ∷ ys) x is so_far (suc bucket) = empty_more f ys x is (λ k. so_far (suc k)) bucket

-- a bucket as contracts see it
pub bucket_seen : {X : Type 0} (f : X → List ℕ) (xs : List X) (at : ℕ) (x : X) → at < length xs → x ≡ get_or xs at x → f x ≡ get_or (map f xs) at []
bucket_seen f xs at x within is = ap f is ∙ sym (get_or-map f xs at x [] within)

pub added_seen : {X : Type 0} (f : X → List ℕ) (xs : List X) (at id : ℕ) (old new : X) → at < length xs → old ≡ get_or xs at old → f new ≡ f old ++ id ∷ []
    → map f (set xs at new) ≡ set (map f xs) at (get_or (map f xs) at [] ++ id ∷ [])
added_seen f xs at id old new within is added =
    map-set f xs at new ∙ ap (λ ids. set (map f xs) at ids) (added ∙ ap (λ ids. ids ++ id ∷ []) (bucket_seen f xs at old within is))

pub bucket_start : (name : List ℕ) (n : ℕ) → n ≡ min 64 (length name) → chosen 0 (take n name) ≡ bucket_of name
unfolding bucket_of
bucket_start name n is = rw is (ap (λ bytes. chosen 0 bytes) (take_min 64 name))

pub bucket_cut : (name start : List ℕ) (bucket : ℕ) → start ≡ take 64 name → bucket ≡ chosen 0 start → bucket ≡ bucket_of name
unfolding bucket_of
bucket_cut name start bucket cut is = is ∙ ap (λ bytes. chosen 0 bytes) cut

pub sought_by : (types : Types) (buckets : List (List ℕ)) (name numbers : List ℕ) → StandsFor types buckets → 0 < length name → numbers ≡ get_or buckets (bucket_of name) []
    → option_or (first_in types numbers name Compound) (first_in types numbers name Alias) ≡ find types name
sought_by types buckets [] numbers stands some is = absurd (omega arith)
sought_by types buckets (c ∷ cs) numbers stands some is = rw is (stands.answers (c ∷ cs))

pub bucket_read : {X : Type 0} (f : X → List ℕ) (xs : List X) (buckets : List (List ℕ)) (at : ℕ) (x : X) (numbers : List ℕ) → map f xs ≡ buckets → length buckets ≡ 8192 → at < 8192 → x ≡ get_or xs at x → numbers ≡ f x
    → numbers ≡ get_or buckets at []
bucket_read f xs buckets at x numbers seen many low is read =
    let within : at < length xs = omega (arith, sym (length-map xs f), ap length seen, many) in
    read ∙ bucket_seen f xs at x within is ∙ ap (λ all. get_or all at []) seen
