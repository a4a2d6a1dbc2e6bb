-- What a type that is found is.
use Rattle.std.proofs.Common.{◌≡◌, ℕ, zero, suc, ◌<◌, ◌&&◌, Bool, true, false, List, [], ◌∷◌, length, get_or, Option, Some, None, option_map, option_and_then, is_some, ap, ◌∙◌, sym, refl, arith, slice_get}
use Rattle.std.specs.Prelude.{position, bytes_eq}
use Rattle.std.specs.Option.{option_or}
use Rattle.std.proofs.lemmas.List.Quantifiers.{position-Some}
use Rattle.std.proofs.lemmas.List.Sums.{fails_before_first}
use Rattle.std.proofs.lemmas.Option.{slice_get-get_or}
use Rattle.kc_btf.specs.declared.kind.Kind.{Kind}
use Rattle.kc_btf.specs.declared.kind.Kind.TheVariants.{Typedef}
use Rattle.kc_btf.specs.declared.types.TypeRef.{TypeRef}
use Rattle.kc_btf.specs.Btf.{Types}
use Rattle.kc_btf.specs.Kind.{is_compound}
use Rattle.kc_btf.specs.Records.{Record}
use Rattle.kc_btf.specs.Readers.{name_at, type_numbered, type_ref}
use Rattle.kc_layout.specs.declared.find.Wanted.{Wanted}
use Rattle.kc_layout.specs.declared.find.Wanted.TheVariants.{Compound, Alias}
use Rattle.kc_layout.specs.Find.{find, least, is_named, is_wanted, is_typedef, leads_to_compound, Serves, Bears, IsFound, FindsType}
use Rattle.kc_layout.specs.Bare.{modified, refers_if, under, compound_numbered, if_compound}
use Rattle.kc_layout.proofs.FindLemmas.{nothing, named-at}
use Rattle.kc_layout.proofs.PathLemmas.{position_or_len-None}
use Rattle.kc_layout.proofs.LayerLemmas.{under-here, under-next}

pub both : (a b : Bool) → (a && b) ≡ true → (a ≡ true) × (b ≡ true)
both true true is = (refl, refl)
both true false is = let none : ⊥ = cc in absurd none
both false b is = let none : ⊥ = cc in absurd none

compound_refers : (kind : Kind) (rest : ℕ) → is_compound kind ≡ true → refers_if kind rest ≡ None
compound_refers kind rest is = grind arith

typedef_is : (kind : Kind) → is_typedef kind ≡ true → kind ≡ Typedef
typedef_is kind is = grind arith

modified-of : (types : Types) (id : ℕ) (t : TypeRef) → type_numbered types id ≡ Some t → modified types id ≡ refers_if t.kind t.rest
modified-of types id t is = rw is refl

-- a struct or union leads to itself
leads-compound : (types : Types) (id : ℕ) (t : TypeRef) → type_numbered types id ≡ Some t → is_compound t.kind ≡ true → leads_to_compound 32 types id ≡ true
leads-compound types id t is compound =
    let here : under 32 types id ≡ Some id = under-here 32 types id (modified-of types id t is ∙ compound_refers t.kind t.rest compound) in
    let itself : compound_numbered types id ≡ Some t = ap (λ (o : Option TypeRef). option_and_then if_compound o) is ∙ (rw compound refl) in
    ap (λ (o : Option ℕ). is_some (option_and_then (compound_numbered types) o)) here ∙ ap (λ (o : Option TypeRef). is_some o) itself

-- a typedef leads to what its target leads to
leads-typedef : (types : Types) (id : ℕ) (t : TypeRef) → type_numbered types id ≡ Some t → t.kind ≡ Typedef → leads_to_compound 32 types id ≡ leads_to_compound 31 types t.rest
leads-typedef types id t is typedef =
    let next : under 32 types id ≡ under 31 types t.rest = under-next 32 types id t.rest (omega arith) (modified-of types id t is ∙ ap (λ kind. refers_if kind t.rest) typedef) in
    ap (λ (o : Option ℕ). is_some (option_and_then (compound_numbered types) o)) next

-- what is wanted serves, and what serves is wanted
serves : (types : Types) (wanted : Wanted) (id : ℕ) (t : TypeRef) → type_numbered types id ≡ Some t → is_wanted types wanted t.kind t.rest ≡ true → Serves types wanted id t.kind
serves types Compound id t is wants = wants
serves types Alias id t is wants =
    let each = both (is_typedef t.kind) (leads_to_compound 31 types t.rest) wants in
    let typedef = typedef_is t.kind each.0 in
    (typedef, leads-typedef types id t is typedef ∙ each.1)

wanted-of : (types : Types) (wanted : Wanted) (id : ℕ) (t : TypeRef) → type_numbered types id ≡ Some t → Serves types wanted id t.kind → is_wanted types wanted t.kind t.rest ≡ true
wanted-of types Compound id t is serves = serves
wanted-of types Alias id t is serves =
    let target : leads_to_compound 31 types t.rest ≡ true = sym (leads-typedef types id t is serves.0) ∙ serves.1 in
    ap (λ kind. is_typedef kind && leads_to_compound 31 types t.rest) serves.0 ∙ target

leads : (types : Types) (wanted : Wanted) (id : ℕ) (t : TypeRef) → type_numbered types id ≡ Some t → Serves types wanted id t.kind → leads_to_compound 32 types id ≡ true
leads types Compound id t is serves = leads-compound types id t is serves
leads types Alias id t is serves = serves.1

no_position : {X : Type 0} (p : X → Bool) (xs : List X) (k : ℕ) (d : X) → position p xs ≡ None → k < length xs → p (get_or xs k d) ≡ false
no_position p xs k d none within = fails_before_first p xs k d (let end = position_or_len-None p xs (sym none) in omega arith)

in_range : (xs : List Record) (i id : ℕ) (t : TypeRef) → option_map (type_ref id) (slice_get xs i) ≡ Some t → i < length xs
in_range [] i id t is = let none : ⊥ = cc in absurd none
in_range (x ∷ xs) zero id t is = omega arith
in_range (x ∷ xs) (suc i) id t is = let rest = in_range xs i id t is in omega arith

unmapped : (o : Option ℕ) → option_map (λ (i : ℕ). suc i) o ≡ None → o ≡ None
unmapped None is = refl
unmapped (Some i) is = let none : ⊥ = cc in absurd none

-- a type that bears a name passes the test, and its record is there
passes : (types : Types) (name : List ℕ) (wanted : Wanted) (k : ℕ) → Bears types name wanted (suc k) → is_named types name wanted (get_or types.records k nothing) ≡ true
passes types name wanted k bears =
    let t = bears.type_ref in
    let wants = wanted-of types wanted (suc k) t bears.there bears.serves in
    named-at types name wanted k t nothing bears.there ∙ ap (λ b. b && is_wanted types wanted t.kind t.rest) bears.named ∙ wants

within : (types : Types) (name : List ℕ) (wanted : Wanted) (k : ℕ) → Bears types name wanted (suc k) → k < length types.records
within types name wanted k bears = in_range types.records k (suc k) bears.type_ref bears.there

void : (types : Types) (name : List ℕ) (wanted : Wanted) → Bears types name wanted zero → ⊥
void types name wanted bears = let there = bears.there in cc

-- where none is the least, none bears the name
none-bears : (types : Types) (name : List ℕ) (wanted : Wanted) (k : ℕ) → least types name wanted ≡ None → Bears types name wanted k → ⊥
none-bears types name wanted zero none bears = void types name wanted bears
none-bears types name wanted (suc k) none bears =
    let off = no_position (is_named types name wanted) types.records k nothing (unmapped (position (is_named types name wanted) types.records) none) (within types name wanted k bears) in
    let on = passes types name wanted k bears in
    cc

-- the least bears the name, and none before it does
record IsLeast (types : Types) (name : List ℕ) (wanted : Wanted) (id : ℕ) : Type 0 where
  bears : Bears types name wanted id
  before : (k : ℕ) → k < id → Bears types name wanted k → ⊥

least-is : (types : Types) (name : List ℕ) (wanted : Wanted) (found : Option ℕ) (id : ℕ) → position (is_named types name wanted) types.records ≡ found → option_map (λ (i : ℕ). suc i) found ≡ Some id → IsLeast types name wanted id
least-is types name wanted None id at is = let none : ⊥ = cc in absurd none
least-is types name wanted (Some i) zero at is = let none : ⊥ = cc in absurd none
least-is types name wanted (Some i) (suc j) at is =
    let same : i ≡ j = cc in
    let found = position-Some (is_named types name wanted) types.records i nothing at in
    let r = get_or types.records i nothing in
    let t = type_ref (suc i) r in
    let here : type_numbered types (suc i) ≡ Some t = ap (λ (o : Option Record). option_map (type_ref (suc i)) o) (slice_get-get_or types.records i nothing found.0) in
    let each = both (bytes_eq (name_at types.strings r.name) name) (is_wanted types wanted r.kind r.rest) found.1 in
    rw (← same) (record {
      bears = record { type_ref = t; there = here; named = each.0; serves = serves types wanted (suc i) t here each.1 };
      before = earlier types name wanted i found.2;
    })
  where
    earlier : (types : Types) (name : List ℕ) (wanted : Wanted) (i : ℕ) → ((k : ℕ) → k < i → is_named types name wanted (get_or types.records k nothing) ≡ false) →
        (k : ℕ) → k < suc i → Bears types name wanted k → ⊥
    earlier types name wanted i other zero less bears = void types name wanted bears
    earlier types name wanted i other (suc k) less bears =
        let off = other k (omega arith) in
        let on = passes types name wanted k bears in
        cc

neither : (types : Types) (name : List ℕ) → least types name Compound ≡ None → least types name Alias ≡ None → (wanted : Wanted) (k : ℕ) → Bears types name wanted k → ⊥
neither types name first second Compound k bears = none-bears types name Compound k first bears
neither types name first second Alias k bears = none-bears types name Alias k second bears

found-as : (types : Types) (name : List ℕ) (wanted : Wanted) (id : ℕ) → 0 < length name → IsLeast types name wanted id → (wanted ≡ Alias → (k : ℕ) → Bears types name Compound k → ⊥) → IsFound types name id
found-as types name wanted id some is first = record {
  wanted = wanted;
  some = some;
  bears = is.bears;
  leads = leads types wanted id is.bears.type_ref is.bears.there is.bears.serves;
  least = is.before;
  compounds_first = first;
}

found-by : (types : Types) (name : List ℕ) (a b found : Option ℕ) → 0 < length name → least types name Compound ≡ a → least types name Alias ≡ b → found ≡ option_or a b → FindsType types name found
found-by types name (Some i) b None some first second is = let wrong : ⊥ = cc in absurd wrong
found-by types name (Some i) b (Some id) some first second is =
    found-as types name Compound id some (least-is types name Compound (position (is_named types name Compound) types.records) id refl (first ∙ sym is)) (λ same k bears. let wrong : ⊥ = cc in wrong)
found-by types name None b (Some id) some first second is =
    found-as types name Alias id some (least-is types name Alias (position (is_named types name Alias) types.records) id refl (second ∙ sym is)) (λ same k bears. none-bears types name Compound k first bears)
found-by types name None b None some first second is = λ more. neither types name first (second ∙ sym is)

pub find-finds : (types : Types) (name : List ℕ) (found : Option ℕ) → found ≡ find types name → FindsType types name found
find-finds types [] None is = λ more. absurd (omega arith)
find-finds types [] (Some id) is = let none : ⊥ = cc in absurd none
find-finds types (c ∷ cs) found is = found-by types (c ∷ cs) (least types (c ∷ cs) Compound) (least types (c ∷ cs) Alias) found (omega arith) refl refl is
