-- The records of a file that is kept, by their type numbers.
use Rattle.std.proofs.Common.{◌≡◌, ℕ, zero, suc, ◌+◌, ◌-◌, ◌*◌, ◌&&◌, ◌<◌, ◌≤◌, Bool, true, false, List, [], ◌∷◌, length, map, get_or, subst, slice_get, slice_index, Some, option_map, ap, ◌∙◌, sym, refl, arith}
use Rattle.std.specs.Prelude.{All}
use Rattle.std.proofs.lemmas.Bool.Decides.{nat_tests}
use Rattle.kc_btf.specs.declared.header.Header.{Header}
use Rattle.kc_btf.specs.declared.kind.Kind.{Kind}
use Rattle.kc_btf.specs.declared.kind.Kind.TheVariants.{Array}
use Rattle.kc_btf.specs.declared.kind.Role.{Role}
use Rattle.kc_btf.specs.declared.kind.Role.TheVariants.{ToName, ToType, Plain}
use Rattle.kc_btf.specs.declared.types.TypeRef.{TypeRef}
use Rattle.kc_btf.specs.declared.types.Member.{Member}
use Rattle.kc_btf.specs.declared.types.ArrayOf.{ArrayOf}
use Rattle.kc_btf.specs.Kind.{is_compound, following}
use Rattle.kc_btf.specs.Role.{is_inside, LiesInside, role_of, rest_role, of_three}
use Rattle.kc_btf.specs.Records.{Record, record_at, words_inside, refers_inside, IsRecord}
use Rattle.kc_btf.specs.Readers.{record_numbered, type_ref, type_numbered, members, member_of, array_in}
use Rattle.kc_btf.specs.Btf.{Types}
use Rattle.kc_btf.specs.Kept.{kept, IsKept}
use Rattle.kc_btf.specs.Numbers.{words}
use Rattle.std.proofs.lemmas.List.{length-map}

-- where the record of a type lies
abbrev pub place_of : Header → List ℕ → ℕ → ℕ
place_of header table id = header.types + slice_index table (id - 1)

got : (f : ℕ → Record) (table : List ℕ) (i : ℕ) → i < length table → slice_get (map f table) i ≡ Some (f (get_or table i 0))
got f [] i within = absurd (omega arith)
got f (x ∷ xs) zero within = refl
got f (x ∷ xs) (suc i) within = got f xs i (omega arith)

record_numbered-kept : (bytes : List ℕ) (header : Header) (table : List ℕ) (id : ℕ) → 0 < id → id ≤ length table → record_numbered (kept bytes header table) id ≡ Some (record_at bytes (place_of header table id))
record_numbered-kept bytes header table zero first last = absurd (omega arith)
record_numbered-kept bytes header table (suc i) first last =
    let index : suc i - 1 ≡ i = omega arith in
    rw index (got (λ place. record_at bytes (header.types + place)) table i (omega arith))

in_range : (f : ℕ → Record) (table : List ℕ) (i id : ℕ) (t : TypeRef) → option_map (type_ref id) (slice_get (map f table) i) ≡ Some t → (i < length table) × (t ≡ type_ref id (f (get_or table i 0)))
in_range f [] i id t is = let none : ⊥ = cc in absurd none
in_range f (x ∷ xs) zero id t is = (omega arith, cc)
in_range f (x ∷ xs) (suc i) id t is = let rest = in_range f xs i id t is in (omega arith, rest.1)

own_id : (bytes : List ℕ) (header : Header) (table : List ℕ) (id : ℕ) (t : TypeRef) → type_numbered (kept bytes header table) id ≡ Some t → (0 < id) × (id ≤ length table) × (t ≡ type_ref id (record_at bytes (place_of header table id)))
own_id bytes header table zero t is = let none : ⊥ = cc in absurd none
own_id bytes header table (suc i) t is =
    let index : suc i - 1 ≡ i = omega arith in
    let found = in_range (λ place. record_at bytes (header.types + place)) table i (suc i) t is in
    (omega arith, omega arith, rw index found.1)

-- a test that passed, as a fact
pub lies : (strings types : ℕ) (role : Role) (n : ℕ) → is_inside strings types role n ≡ true → LiesInside strings types role n
lies strings types ToName n is = grind (arith, nat_tests)
lies strings types ToType n is = grind (arith, nat_tests)
lies strings types Plain n is = tt

-- what a record refers to
pub record Refers (strings types : ℕ) (r : Record) : Type 0 where
  pub name : r.name < strings
  pub rest : LiesInside strings types (rest_role r.kind) r.rest
  pub words : words_inside strings types r.kind 0 r.words ≡ true

both : (a b : Bool) → (a && b) ≡ true → (a ≡ true) × (b ≡ true)
both true true is = (refl, refl)
both true false is = let none : ⊥ = cc in absurd none
both false b is = let none : ⊥ = cc in absurd none

pub refers : (strings types : ℕ) (r : Record) → refers_inside strings types r ≡ true → Refers strings types r
unfolding refers_inside
refers strings types r is =
    let outer = both (is_inside strings types ToName r.name && is_inside strings types (rest_role r.kind) r.rest) (words_inside strings types r.kind 0 r.words) is in
    let inner = both (is_inside strings types ToName r.name) (is_inside strings types (rest_role r.kind) r.rest) outer.0 in
    record { name = lies strings types ToName r.name inner.0; rest = lies strings types (rest_role r.kind) r.rest inner.1; words = outer.1 }

-- the roles of a member's numbers
role_of-compound : (kind : Kind) (i : ℕ) → is_compound kind ≡ true → role_of kind i ≡ of_three ToName ToType Plain i
role_of-compound kind i is = grind arith

member_name : (i j : ℕ) → i ≡ 3 * j → of_three ToName ToType Plain i ≡ ToName
member_name i j is = grind (arith, nat_tests)

member_type : (i j : ℕ) → i ≡ 3 * j + 1 → of_three ToName ToType Plain i ≡ ToType
member_type i j is = grind (arith, nat_tests)

-- the three numbers of a member
record Three (strings types : ℕ) (kind : Kind) (i name ty : ℕ) (more : List ℕ) : Type 0 where
  name_inside : is_inside strings types (role_of kind i) name ≡ true
  ty_inside : is_inside strings types (role_of kind (i + 1)) ty ≡ true
  more_inside : words_inside strings types kind (i + 3) more ≡ true

three : (strings types : ℕ) (kind : Kind) (i name ty place : ℕ) (more : List ℕ) → words_inside strings types kind i (name ∷ ty ∷ place ∷ more) ≡ true → Three strings types kind i name ty more
unfolding words_inside
three strings types kind i name ty place more inside =
    let next : i + 1 + 1 + 1 ≡ i + 3 = omega arith in
    let first = both (is_inside strings types (role_of kind i) name) (words_inside strings types kind (i + 1) (ty ∷ place ∷ more)) inside in
    let second = both (is_inside strings types (role_of kind (i + 1)) ty) (words_inside strings types kind (i + 1 + 1) (place ∷ more)) first.1 in
    let third = both (is_inside strings types (role_of kind (i + 1 + 1)) place) (words_inside strings types kind (i + 1 + 1 + 1) more) second.1 in
    record { name_inside = first.0; ty_inside = second.0; more_inside = subst (λ (x : ℕ). words_inside strings types kind x more ≡ true) next third.1 }

of_member : (flag : Bool) (name ty place strings types : ℕ) → name < strings → ty ≤ types → ((member_of flag name ty place).name < strings) × ((member_of flag name ty place).ty ≤ types)
of_member true name ty place strings types a b = (a, b)
of_member false name ty place strings types a b = (a, b)

every : (strings types : ℕ) (kind : Kind) (flag : Bool) (j : ℕ) (numbers : List ℕ) → is_compound kind ≡ true → words_inside strings types kind (3 * j) numbers ≡ true →
    (k : ℕ) (d : Member) → k < length (members flag numbers) → let m = get_or (members flag numbers) k d in (m.name < strings) × (m.ty ≤ types)
unfolding members
every strings types kind flag j [] compound inside k d more = absurd (omega arith)
every strings types kind flag j (a ∷ []) compound inside k d more = absurd (omega arith)
every strings types kind flag j (a ∷ b ∷ []) compound inside k d more = absurd (omega arith)
every strings types kind flag j (name ∷ ty ∷ place ∷ more) compound inside zero d within =
    let is = three strings types kind (3 * j) name ty place more inside in
    let name_role : role_of kind (3 * j) ≡ ToName = role_of-compound kind (3 * j) compound ∙ member_name (3 * j) j refl in
    let type_role : role_of kind (3 * j + 1) ≡ ToType = role_of-compound kind (3 * j + 1) compound ∙ member_type (3 * j + 1) j refl in
    of_member flag name ty place strings types (lies strings types ToName name (rw name_role at is.name_inside)) (lies strings types ToType ty (rw type_role at is.ty_inside))
every strings types kind flag j (name ∷ ty ∷ place ∷ more) compound inside (suc k) d within =
    let is = three strings types kind (3 * j) name ty place more inside in
    let next : 3 * j + 3 ≡ 3 * (j + 1) = omega arith in
    every strings types kind flag (j + 1) more compound (rw next at is.more_inside) k d (omega arith)

-- each member of a struct or union lies inside
pub members_inside : (strings types : ℕ) (kind : Kind) (flag : Bool) (numbers : List ℕ) → is_compound kind ≡ true → words_inside strings types kind 0 numbers ≡ true →
    All (λ (m : Member). (m.name < strings) × (m.ty ≤ types)) (members flag numbers)
members_inside strings types kind flag numbers compound inside = every strings types kind flag 0 numbers compound inside

-- an array's elements are of a type that there is
pub array_inside : (strings types : ℕ) (numbers : List ℕ) (a : ArrayOf) → words_inside strings types Array 0 numbers ≡ true → array_in numbers ≡ Some a → a.ty ≤ types
unfolding words_inside
array_inside strings types [] a inside is = let none : ⊥ = cc in absurd none
array_inside strings types (ty ∷ []) a inside is = let none : ⊥ = cc in absurd none
array_inside strings types (ty ∷ index ∷ []) a inside is = let none : ⊥ = cc in absurd none
array_inside strings types (ty ∷ index ∷ nelems ∷ []) a inside is =
    let first = both (is_inside strings types ToType ty) (words_inside strings types Array 1 (index ∷ nelems ∷ [])) inside in
    let same : a.ty ≡ ty = cc in
    rw same (lies strings types ToType ty first.0)
array_inside strings types (ty ∷ index ∷ nelems ∷ x ∷ xs) a inside is = let none : ⊥ = cc in absurd none

-- the numbers behind a record
words-record_at : (bytes : List ℕ) (at : ℕ) → (record_at bytes at).words ≡ words (following (record_at bytes at).kind (record_at bytes at).vlen) bytes (at + 12)
unfolding record_at
words-record_at bytes at = refl

following-compound : (kind : Kind) (vlen : ℕ) → is_compound kind ≡ true → following kind vlen ≡ 3 * vlen
following-compound kind vlen is = grind arith

-- a struct or union has three numbers for each member
pub words-compound : (bytes : List ℕ) (at id : ℕ) (t : TypeRef) → t ≡ type_ref id (record_at bytes at) → is_compound t.kind ≡ true → (record_at bytes at).words ≡ words (3 * t.vlen) bytes (at + 12)
words-compound bytes at id t same compound =
    let r = record_at bytes at in
    let kind : is_compound r.kind ≡ true = rw same at compound in
    let vlen : r.vlen ≡ t.vlen = ap (λ (x : TypeRef). x.vlen) (sym same) in
    words-record_at bytes at ∙ ap (λ n. words n bytes (at + 12)) (following-compound r.kind r.vlen kind ∙ ap (λ n. 3 * n) vlen)

pub room-compound : (bytes : List ℕ) (at id : ℕ) (t : TypeRef) → t ≡ type_ref id (record_at bytes at) → is_compound t.kind ≡ true → IsRecord bytes at → at + 12 + 12 * t.vlen ≤ length bytes
room-compound bytes at id t same compound found =
    let r = record_at bytes at in
    let kind : is_compound r.kind ≡ true = rw same at compound in
    let vlen : r.vlen ≡ t.vlen = ap (λ (x : TypeRef). x.vlen) (sym same) in
    let following : following r.kind r.vlen ≡ 3 * r.vlen = following-compound r.kind r.vlen kind in
    omega (arith, found.whole)

count-kept : (bytes : List ℕ) (header : Header) (table : List ℕ) → length (kept bytes header table).records ≡ length table
count-kept bytes header table = simp length-map

-- the record of a number in range
pub record Numbered (bytes : List ℕ) (header : Header) (table : List ℕ) (types : Types) (id : ℕ) : Type 0 where
  pub last : id ≤ length table
  pub numbered : record_numbered types id ≡ Some (record_at bytes (place_of header table id))
  pub found : IsRecord bytes (place_of header table id)
  pub refer : Refers (length types.strings) (length types.records) (record_at bytes (place_of header table id))

pub in_kept : (bytes : List ℕ) (header : Header) (table : List ℕ) (types : Types) (id : ℕ) → IsKept bytes header table → kept bytes header table ≡ types → 0 < id → id ≤ length table → Numbered bytes header table types id
in_kept bytes header table types id is same first last =
    let place = place_of header table id in
    let count : length (kept bytes header table).records ≡ length table = count-kept bytes header table in
    let refer = refers (length (kept bytes header table).strings) (length table) (record_at bytes place) (is.refer (id - 1) 0 (omega arith)) in
    let here : Numbered bytes header table (kept bytes header table) id = record {
      last = last;
      numbered = record_numbered-kept bytes header table id first last;
      found = is.found (id - 1) 0 (omega arith);
      refer = subst (λ (n : ℕ). Refers (length (kept bytes header table).strings) n (record_at bytes place)) (sym count) refer;
    } in
    subst (λ (x : Types). Numbered bytes header table x id) same here

pub numbered : (bytes : List ℕ) (header : Header) (table : List ℕ) (types : Types) (id : ℕ) → IsKept bytes header table → kept bytes header table ≡ types → 0 < id → id ≤ length types.records → Numbered bytes header table types id
numbered bytes header table types id is same first last =
    let count : length types.records ≡ length table = ap (λ (x : Types). length x.records) (sym same) ∙ count-kept bytes header table in
    in_kept bytes header table types id is same first (omega arith)

-- a type of the file
pub record Owned (bytes : List ℕ) (header : Header) (table : List ℕ) (types : Types) (t : TypeRef) : Type 0 where
  pub first : 0 < t.id
  pub same : t ≡ type_ref t.id (record_at bytes (place_of header table t.id))
  pub is : Numbered bytes header table types t.id

pub owned : (bytes : List ℕ) (header : Header) (table : List ℕ) (types : Types) (t : TypeRef) → IsKept bytes header table → kept bytes header table ≡ types → type_numbered types t.id ≡ Some t → Owned bytes header table types t
owned bytes header table types t is same ours =
    let found = own_id bytes header table t.id t (subst (λ (x : Types). type_numbered x t.id ≡ Some t) (sym same) ours) in
    record { first = found.0; same = found.2; is = in_kept bytes header table types t.id is same found.0 found.1 }
