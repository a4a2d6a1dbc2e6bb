-- That what comes of a fact is what the files tell of it.
use Rattle.std.proofs.Common.{◌≡◌, ◌≢◌, ℕ, ◌+◌, ◌==◌, nat_le, Bool, true, false, if◌then◌else◌, pos, negsuc, List, [], ◌∷◌, length, map, Option, Some, None, option_and_then, Result, Ok, Err, inl, inr, refl, ap, arith}
use Rattle.std.specs.Prelude.{IsTrue, ℤ}
use Rattle.std.specs.Result.{result_ok}
use Rattle.std.proofs.lemmas.Bool.{eqb-true}
use Rattle.std.proofs.lemmas.Bool.Decides.{nat_tests}
use Rattle.std.proofs.lemmas.List.Sums.{sum_by-cons}
use Rattle.kc_layout.specs.declared.fault.PathFault.{PathFault}
use Rattle.kc_layout.specs.Ends.{ByteAt, located}
use Rattle.kc_btf.specs.Btf.{Types}
use Rattle.kc_layout.specs.Size.{size}
use Rattle.kc_syms.specs.declared.fault.SymFault.{SymFault}
use Rattle.kc_syms.specs.Addresses.{common_of}
use Rattle.kc_match.specs.declared.outcome.Other.TheVariants.{Map, Btf}
use Rattle.kc_match.specs.declared.outcome.Outcome.{Outcome}
use Rattle.kc_match.specs.declared.outcome.Outcome.TheVariants.{Same, Differs, Unknown}
use Rattle.kc_match.specs.Facts.{Symbol, Size, Offset}
use Rattle.kc_match.specs.Findings.{Finding}
use Rattle.kc_match.specs.Named.{is_type_of, types_named}
use Rattle.kc_match.specs.Outcomes.{Compared, byte_of, differs, either, fits, fits_named, if_direct, if_image, image_address, is_same, is_unknown, stands, symbol_outcome, together}
use Rattle.kc_match.specs.Laws.{CountsAddUp, OutcomesStand, Stands, TellsAddress, TellsByte, TellsSize}
use Rattle.kc_match.proofs.TypesOfNames.{Among, among_is, is_among}

-- how often a test counts one more finding
abbrev count_one : (Outcome → Bool) → Finding → ℕ
count_one test f = if test f.outcome then 1 else 0

-- it is counted once
counted_once : (o : Outcome) → (if is_same o then 1 else 0) + (if differs o then 1 else 0) + (if is_unknown o then 1 else 0) ≡ 1
counted_once Same = refl
counted_once (Differs other) = refl
counted_once Unknown = refl

pub counts_add_up : CountsAddUp
counts_add_up [] = refl
counts_add_up (f ∷ fs) =
    omega (arith, counts_add_up fs, counted_once f.outcome, sum_by-cons (count_one is_same) f fs, sum_by-cons (count_one differs) f fs, sum_by-cons (count_one is_unknown) f fs)

-- which of two a test picks
pick : {X : Type 0} (b : Bool) (P : X → Type 0) (x y : X) → (b ≡ true → P x) → (b ≡ false → P y) → P (if b then x else y)
pick true P x y first second = first refl
pick false P x y first second = second refl

-- an address beside another
address_stands : (P : Outcome → Type 0) (address told : ℕ) → (address ≡ told → P Same) → (address ≢ told → P (Differs (Map told))) → P (if address == told then Same else Differs (Map told))
address_stands P address told same other =
    pick (address == told) P Same (Differs (Map told)) (λ is. same (eqb-true address told is)) (λ is. other (λ e. grind (arith, nat_tests)))

-- a number beside another
number_stands : (P : Outcome → Type 0) (number : ℤ) (told : ℕ) → (number ≡ pos told → P Same) → (number ≢ pos told → P (Differs (Btf told))) → P (fits number (Some told))
number_stands P (pos m) told same other =
    pick (m == told) P Same (Differs (Btf told)) (λ is. same (ap pos (eqb-true m told is))) (λ is. other (λ e. let one : m ≡ told = cc in grind (arith, nat_tests)))
number_stands P (negsuc m) told same other = other (λ e. cc)

module _ (kernel : Compared) (name : List ℕ) where
  told_address : (address told : ℕ) → common_of kernel.kaslr (kernel.listed name) ≡ Ok told → Stands kernel (Symbol name address) (stands address (if_image told))
  told_address address told is =
      pick (nat_le 0xffffffff80000000 told) (λ o. Stands kernel (Symbol name address) (stands address o)) (Some told) None
      (λ high. let tells : TellsAddress kernel name told = record { common = is; image = grind (arith, nat_tests) } in
      address_stands (Stands kernel (Symbol name address)) address told (λ e. (told, tells, ap pos e))
      (λ unlike. (tells, (λ other there e. let one : told ≡ other = cc (is, there.common) in unlike (cc)))))
      (λ low other compared tells. let same : told ≡ other = cc in let high = tells.image in grind (arith, nat_tests))

  common_address : (address : ℕ) (r : Result ℕ SymFault) → common_of kernel.kaslr (kernel.listed name) ≡ r → Stands kernel (Symbol name address) (stands address (option_and_then if_image (result_ok r)))
  common_address address (Ok told) is = told_address address told is
  common_address address (Err fault) is = λ other compared tells. let none : ⊥ = cc in none

  symbol_stands : (address : ℕ) → Stands kernel (Symbol name address) (symbol_outcome kernel name address)
  unfolding symbol_outcome image_address
  symbol_stands address =
      pick (nat_le 0xffffffff80000000 address) (Stands kernel (Symbol name address)) (stands address (option_and_then if_image (result_ok (common_of kernel.kaslr (kernel.listed name))))) Unknown
      (λ high. common_address address (common_of kernel.kaslr (kernel.listed name)) refl) (λ low other compared tells. grind (arith, nat_tests))

-- some of these types tell a number
record TellsAmong (tell : ℕ → Option ℕ) (ids : List ℕ) (told : ℕ) : Type 0 where
  id : ℕ
  among : Among ids id
  tells : tell id ≡ Some told

later : (tell : ℕ → Option ℕ) (x : ℕ) (ids : List ℕ) (told : ℕ) → TellsAmong tell ids told → TellsAmong tell (x ∷ ids) told
later tell x ids told t = record { id = t.id; among = inr t.among; tells = t.tells }

-- what they say of a number that is stated
abbrev Says : (ℕ → Type 0) → ℤ → Outcome → Type 0
Says Told number Same = (told : ℕ) × Told told × (number ≡ pos told)
Says Told number (Differs (Btf n)) = Told n × ((told : ℕ) → Told told → number ≢ pos told)
Says Told number (Differs (Map n)) = ⊥
Says Told number Unknown = (told : ℕ) → Told told → ⊥

says_map : (P Q : ℕ → Type 0) (number : ℤ) (o : Outcome) → ((n : ℕ) → P n → Q n) → ((n : ℕ) → Q n → P n) → Says P number o → Says Q number o
says_map P Q number Same to from says = (says.0, to says.0 says.1, says.2)
says_map P Q number (Differs (Btf n)) to from says = (to n says.0, (λ told there. says.1 told (from told there)))
says_map P Q number (Differs (Map n)) to from says = says
says_map P Q number Unknown to from says = λ told there. says told (from told there)

module _ (tell : ℕ → Option ℕ) (number : ℤ) (x : ℕ) (ids : List ℕ) where
  -- a type that tells nothing
  silent : (told : ℕ) → tell x ≡ None → TellsAmong tell (x ∷ ids) told → TellsAmong tell ids told
  silent told none t =
      elim t.among [
        | inl same ↦ absurd (let e : tell x ≡ Some told = rw same t.tells in let never : ⊥ = cc in never)
        | inr inside ↦ record { id = t.id; among = inside; tells = t.tells }
      ]

  -- a type that tells another number
  others : (n told : ℕ) → tell x ≡ Some n → number ≢ pos n → (TellsAmong tell ids told → number ≢ pos told) → TellsAmong tell (x ∷ ids) told → number ≢ pos told
  others n told is unlike rest t =
      elim t.among [
        | inl same ↦ (let e : tell x ≡ Some told = rw same t.tells in let one : n ≡ told = cc in λ equal. unlike (cc))
        | inr inside ↦ rest (record { id = t.id; among = inside; tells = t.tells })
      ]

  differs_more : (n : ℕ) (rest : Outcome) → tell x ≡ Some n → number ≢ pos n → Says (TellsAmong tell ids) number rest → Says (TellsAmong tell (x ∷ ids)) number (either (Differs (Btf n)) rest)
  differs_more n Same is unlike says = (says.0, later tell x ids says.0 says.1, says.2)
  differs_more n (Differs (Btf m)) is unlike says =
      (record { id = x; among = inl refl; tells = is }, (λ told. others n told is unlike (says.1 told)))
  differs_more n (Differs (Map m)) is unlike says = absurd says
  differs_more n Unknown is unlike says =
      (record { id = x; among = inl refl; tells = is }, (λ told. others n told is unlike (λ there. absurd (says told there))))

  one_more : (o : Option ℕ) (rest : Outcome) → tell x ≡ o → Says (TellsAmong tell ids) number rest → Says (TellsAmong tell (x ∷ ids)) number (either (fits number o) rest)
  one_more None rest is says = says_map (TellsAmong tell ids) (TellsAmong tell (x ∷ ids)) number rest (later tell x ids) (λ told. silent told is) says
  one_more (Some n) rest is says =
      number_stands (λ o. Says (TellsAmong tell (x ∷ ids)) number (either o rest)) number n
      (λ equal. (n, record { id = x; among = inl refl; tells = is }, equal)) (λ unlike. differs_more n rest is unlike says)

all_say : (tell : ℕ → Option ℕ) (number : ℤ) (ids : List ℕ) → Says (TellsAmong tell ids) number (together (map (λ id. fits number (tell id)) ids))
all_say tell number [] = λ told t. t.among
all_say tell number (x ∷ ids) = one_more tell number x ids (tell x) (together (map (λ id. fits number (tell id)) ids)) refl (all_say tell number ids)

-- the size of a type of a name
size_stands : (kernel : Compared) (name : List ℕ) (number : ℤ) (o : Outcome) → Says (TellsSize kernel.types name) number o → Stands kernel (Size name number) o
size_stands kernel name number Same says = says
size_stands kernel name number (Differs (Btf n)) says = says
size_stands kernel name number (Differs (Map n)) says = absurd says
size_stands kernel name number Unknown says = λ told compared tells. says told tells

to_size : (types : Types) (name : List ℕ) (told : ℕ) → TellsAmong (size types) (types_named types name) told → TellsSize types name told
to_size types name told t = record { id = t.id; of = among_is types name t.id t.among; sized = t.tells }

from_size : (types : Types) (name : List ℕ) (told : ℕ) → TellsSize types name told → TellsAmong (size types) (types_named types name) told
from_size types name told t = record { id = t.id; among = is_among types name t.id t.of; tells = t.sized }

-- and the byte at which a member begins in one
byte_stands : (kernel : Compared) (name member : List ℕ) (number : ℤ) (o : Outcome) → Says (TellsByte kernel.types name member) number o → Stands kernel (Offset name member number) o
byte_stands kernel name member number Same says = says
byte_stands kernel name member number (Differs (Btf n)) says = says
byte_stands kernel name member number (Differs (Map n)) says = absurd says
byte_stands kernel name member number Unknown says = λ told compared tells. says told tells

no_hops : (hops : List ℕ) → (length hops == 0) ≡ true → hops ≡ []
no_hops [] is = refl
no_hops (h ∷ hs) is = absurd (let e : length (h ∷ hs) ≡ 0 = eqb-true (length (h ∷ hs)) 0 is in omega arith)

direct_byte : (place : ByteAt) (told : ℕ) (b : Bool) → (length place.hops == 0) ≡ b → (if b then Some place.byte else None) ≡ Some told → (place.hops ≡ []) × (place.byte ≡ told)
direct_byte place told true direct is = (no_hops place.hops direct, cc)
direct_byte place told false direct is = absurd (let none : ⊥ = cc in none)

located_byte : (types : Types) (name : List ℕ) (c : ℕ) (cs : List ℕ) (id told : ℕ) (r : Result ByteAt PathFault) → IsTrue (is_type_of types name id)
    → located types id (c ∷ cs) ≡ r → option_and_then if_direct (result_ok r) ≡ Some told → TellsByte types name (c ∷ cs) told
located_byte types name c cs id told (Ok place) of leads is =
    let parts = direct_byte place told (length place.hops == 0) refl is in
    record { named = (λ e. cc); id = id; of = of; place = place; leads = leads; direct = parts.0; there = parts.1 }
located_byte types name c cs id told (Err fault) of leads is = absurd (let none : ⊥ = cc in none)

named_byte : (types : Types) (name member : List ℕ) (id told : ℕ) → IsTrue (is_type_of types name id) → byte_of types member id ≡ Some told → TellsByte types name member told
unfolding byte_of
named_byte types name [] id told of is = absurd (let none : ⊥ = cc in none)
named_byte types name (c ∷ cs) id told of is = located_byte types name c cs id told (located types id (c ∷ cs)) of refl is

to_byte : (types : Types) (name member : List ℕ) (told : ℕ) → TellsAmong (byte_of types member) (types_named types name) told → TellsByte types name member told
to_byte types name member told t = named_byte types name member t.id told (among_is types name t.id t.among) t.tells

told_byte : (types : Types) (name member : List ℕ) (told : ℕ) → (t : TellsByte types name member told) → byte_of types member t.id ≡ Some told
unfolding byte_of
told_byte types name [] told t = absurd (t.named refl)
told_byte types name (c ∷ cs) told t = rw (t.leads, t.direct, t.there) refl

from_byte : (types : Types) (name member : List ℕ) (told : ℕ) → TellsByte types name member told → TellsAmong (byte_of types member) (types_named types name) told
from_byte types name member told t = record { id = t.id; among = is_among types name t.id t.of; tells = told_byte types name member told t }

pub outcomes_stand : OutcomesStand
outcomes_stand kernel (Symbol name address) = symbol_stands kernel name address
outcomes_stand kernel (Size name number) =
    let ids = types_named kernel.types name in
    size_stands kernel name number (fits_named kernel.types name (size kernel.types) number)
    (says_map (TellsAmong (size kernel.types) ids) (TellsSize kernel.types name) number (fits_named kernel.types name (size kernel.types) number) (to_size kernel.types name) (from_size kernel.types name) (all_say (size kernel.types) number ids))
outcomes_stand kernel (Offset name member number) =
    let ids = types_named kernel.types name in
    byte_stands kernel name member number (fits_named kernel.types name (byte_of kernel.types member) number)
    (says_map (TellsAmong (byte_of kernel.types member) ids) (TellsByte kernel.types name member) number (fits_named kernel.types name (byte_of kernel.types member) number) (to_byte kernel.types name member) (from_byte kernel.types name member) (all_say (byte_of kernel.types member) number ids))
