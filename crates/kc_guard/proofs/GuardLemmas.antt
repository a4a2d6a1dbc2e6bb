-- The loops over bytes, runs and objects: what is looked at so far, and the next step.
use Rattle.std.proofs.Common.{◌≡◌, ℕ, zero, suc, ◌+◌, ◌-◌, ◌<◌, ◌≤◌, Bool, true, false, nat_eq, ◌||◌, ◌∷◌, [], List, drop, length, slice_get, if◌then◌else◌, Option, Some, None, refl, sym, ap, ◌∙◌, add-one, arith, eq-eqb}
use Rattle.std.specs.Prelude.{IfSome, Result, Ok, Err, ⊤, cond}
use Rattle.std.specs.BTreeMap.{is_at}
use Rattle.std.specs.Cmp.{unsigned_tied}
use Rattle.std.specs.Ordering.{nat_cmp}
use Rattle.std.proofs.lemmas.Bool.{eqb-true}
use Rattle.kc_memory.specs.declared.words.Place.{Place}
use Rattle.kc_memory.specs.Bits.{Number}
use Rattle.kc_memory.specs.Image.{Image}
use Rattle.kc_found.specs.declared.asked.Asked.{Asked}
use Rattle.kc_found.specs.declared.free.Grid.{Grid}
use Rattle.kc_found.specs.declared.found.WalkStop.{WalkStop}
use Rattle.kc_found.specs.declared.found.WalkStop.TheVariants as ends
use Rattle.kc_found.specs.FreeLists.{low_word}
use Rattle.kc_found.specs.Nodes.{at_offset}
use Rattle.kc_found.specs.Trials.{and_then}
use Rattle.kc_found.specs.Violations.{Violation}
use Rattle.kc_found.specs.Walks.{WalksAs}
use Rattle.kc_guard.specs.declared.byte.WrongByte.{WrongByte}
use Rattle.kc_guard.specs.declared.guards.GuardRun.{GuardRun}
use Rattle.kc_guard.specs.declared.object.Spoiled.{Spoiled}
use Rattle.kc_guard.specs.Bytes.{byte_in, other_from}
use Rattle.kc_guard.specs.Objects.{is_free, looked_up, object_at, object_checked, objects_from, or_next, run_checked}

-- bytes
abbrev pub by_byte : Image → Asked → ℕ → ℕ → ℕ → Number → Result (Option WrongByte) Violation
by_byte i asked byte left at n = if nat_eq (low_word n.value) byte then other_from i asked byte left (at_offset at 1) else Ok (Some (record { at = at; place = n.first }))

pub other_next : (i : Image) (asked : Asked) (byte left at : ℕ) → other_from i asked byte (suc left) at ≡ and_then (byte_in i asked at) (by_byte i asked byte left at)
unfolding other_from
other_next i asked byte left at = refl

pub other_none : (i : Image) (asked : Asked) (byte at : ℕ) → other_from i asked byte 0 at ≡ Ok None
unfolding other_from
other_none i asked byte at = refl

left_next : (i : Image) (asked : Asked) (byte left at : ℕ) → 0 < left → other_from i asked byte left at ≡ and_then (byte_in i asked at) (by_byte i asked byte (left - 1) at)
left_next i asked byte left at some =
    let e : left ≡ suc (left - 1) = omega (arith, some) in
    ap (λ (n : ℕ). other_from i asked byte n at) e ∙ other_next i asked byte (left - 1) at

module _ (asked : Asked) (byte count from : ℕ) where
  abbrev pub Looking : Option Image → ℕ → ℕ → Type 0
  Looking image left at = IfSome image (λ i. other_from i asked byte left at ≡ other_from i asked byte count from)

  pub looking_begin : (image : Option Image) → Looking image count from
  looking_begin None = tt
  looking_begin (Some i) = refl

  pub looking_next : (image : Option Image) (left at : ℕ) (n : Number) → 0 < left → nat_eq (low_word n.value) byte ≡ true
      → WalksAs {A = Number} {B = Number} (λ n. n) (λ i. byte_in i asked at) image (Ok n) → Looking image left at → Looking image (left - 1) (at_offset at 1)
  looking_next None left at n some same read far = tt
  looking_next (Some i) left at n some same read far =
      sym (left_next i asked byte left at some ∙ ap (λ (r : Result Number Violation). and_then r (by_byte i asked byte (left - 1) at)) read
      ∙ ap (λ (b : Bool). if b then other_from i asked byte (left - 1) (at_offset at 1) else Ok (Some (record { at = at; place = n.first }))) same) ∙ far

  pub looking_found : (image : Option Image) (left at : ℕ) (n : Number) (place : Place) → 0 < left → place ≡ n.first → nat_eq (low_word n.value) byte ≡ false
      → WalksAs {A = Number} {B = Number} (λ n. n) (λ i. byte_in i asked at) image (Ok n) → Looking image left at
      → WalksAs {A = Option WrongByte} {B = Option WrongByte} (λ w. w) (λ i. other_from i asked byte count from) image (Ok (Some (record { at = at; place = place })))
  looking_found None left at n place some same other read far = tt
  looking_found (Some i) left at n place some same other read far =
      sym far ∙ left_next i asked byte left at some ∙ ap (λ (r : Result Number Violation). and_then r (by_byte i asked byte (left - 1) at)) read
      ∙ ap (λ (b : Bool). if b then other_from i asked byte (left - 1) (at_offset at 1) else Ok (Some (record { at = at; place = n.first }))) other
      ∙ ap (λ (p : Place). Ok (Some (record { at = at; place = p }))) (sym same)

  pub looking_stop : (image : Option Image) (left at : ℕ) (stop : WalkStop) → 0 < left
      → WalksAs {A = Number} {B = Number} (λ n. n) (λ i. byte_in i asked at) image (Err stop) → Looking image left at
      → WalksAs {A = Option WrongByte} {B = Option WrongByte} (λ w. w) (λ i. other_from i asked byte count from) image (Err stop)
  looking_stop None left at stop some broken far = tt
  looking_stop (Some i) left at (ends.Broken v) some broken far =
      sym far ∙ left_next i asked byte left at some ∙ ap (λ (r : Result Number Violation). and_then r (by_byte i asked byte (left - 1) at)) broken
  looking_stop (Some i) left at ends.Fault some broken far = tt
  looking_stop (Some i) left at ends.NoMemory some broken far = tt

  pub looking_done : (image : Option Image) (left at : ℕ) → left ≤ 0 → Looking image left at
      → WalksAs {A = Option WrongByte} {B = Option WrongByte} (λ w. w) (λ i. other_from i asked byte count from) image (Ok None)
  looking_done None left at none far = tt
  looking_done (Some i) left at none far =
      let e : left ≡ 0 = omega (arith, none) in
      sym far ∙ ap (λ (n : ℕ). other_from i asked byte n at) e ∙ other_none i asked byte at

-- lists
drop_next : {X : Type 0} (xs : List X) (n : ℕ) (x : X) → slice_get xs n ≡ Some x → drop n xs ≡ x ∷ drop (suc n) xs
drop_next [] n x is = absurd (let none : ⊥ = cc in none)
drop_next (y ∷ ys) zero x is = let same : y ≡ x = cc in ap (λ z. z ∷ ys) same
drop_next (y ∷ ys) (suc n) x is = drop_next ys n x is

dropped : {X : Type 0} (xs : List X) (n : ℕ) → length xs ≤ n → drop n xs ≡ []
dropped [] zero all = refl
dropped [] (suc n) all = refl
dropped (x ∷ xs) zero all = absurd (omega (arith, all))
dropped (x ∷ xs) (suc n) all = dropped xs n (omega (arith, all))

-- an answer that ends a look
abbrev pub Ends : Result (Option Spoiled) WalkStop → Type 0
Ends (Ok None) = ⊥
Ends (Ok (Some s)) = ⊤
Ends (Err stop) = ⊤

abbrev Answers : Option Image → (Image → Result (Option Spoiled) Violation) → Result (Option Spoiled) WalkStop → Type 0
Answers image truth r = WalksAs {A = Option Spoiled} {B = Option Spoiled} (λ s. s) truth image r

none_first : (r next : Result (Option Spoiled) Violation) → r ≡ Ok None → or_next r next ≡ next
none_first r next is = ap (λ q. or_next q next) is

end_first : (image : Image) (truth next : Result (Option Spoiled) Violation) (r : Result (Option Spoiled) WalkStop) → Ends r → Answers (Some image) (λ i. truth) r → Answers (Some image) (λ i. or_next truth next) r
end_first image truth next (Ok None) some is = absurd some
end_first image truth next (Ok (Some s)) some is = ap (λ q. or_next q next) is
end_first image truth next (Err (ends.Broken v)) some is = ap (λ q. or_next q next) is
end_first image truth next (Err ends.Fault) some is = tt
end_first image truth next (Err ends.NoMemory) some is = tt

moved : (image : Image) (one two : Result (Option Spoiled) Violation) (r : Result (Option Spoiled) WalkStop) → one ≡ two → Answers (Some image) (λ i. one) r → Answers (Some image) (λ i. two) r
moved image one two (Ok s) same is = sym same ∙ is
moved image one two (Err (ends.Broken v)) same is = sym same ∙ is
moved image one two (Err ends.Fault) same is = tt
moved image one two (Err ends.NoMemory) same is = tt

-- runs
run_next : (i : Image) (asked : Asked) (free : Bool) (object : ℕ) (run : GuardRun) (runs : List GuardRun)
    → object_checked i asked free object (run ∷ runs) ≡ or_next (run_checked i asked free object run) (object_checked i asked free object runs)
unfolding object_checked
run_next i asked free object run runs = refl

run_none : (i : Image) (asked : Asked) (free : Bool) (object : ℕ) → object_checked i asked free object [] ≡ Ok None
unfolding object_checked
run_none i asked free object = refl

module _ (asked : Asked) (free : Bool) (object : ℕ) (runs : List GuardRun) where
  abbrev pub OfRuns : Option Image → ℕ → Type 0
  OfRuns image n = IfSome image (λ i. object_checked i asked free object (drop n runs) ≡ object_checked i asked free object runs)

  pub runs_begin : (image : Option Image) → OfRuns image 0
  runs_begin None = tt
  runs_begin (Some i) = refl

  here : (i : Image) (n : ℕ) (run : GuardRun) → slice_get runs n ≡ Some run
      → object_checked i asked free object (drop n runs) ≡ or_next (run_checked i asked free object run) (object_checked i asked free object (drop (suc n) runs))
  here i n run at = ap (object_checked i asked free object) (drop_next runs n run at) ∙ run_next i asked free object run (drop (suc n) runs)

  pub runs_next : (image : Option Image) (n : ℕ) (run : GuardRun) → slice_get runs n ≡ Some run
      → Answers image (λ i. run_checked i asked free object run) (Ok None) → OfRuns image n → OfRuns image (n + 1)
  runs_next None n run at none far = tt
  runs_next (Some i) n run at none far =
      ap (λ (k : ℕ). object_checked i asked free object (drop k runs)) (add-one n)
      ∙ sym (none_first (run_checked i asked free object run) (object_checked i asked free object (drop (suc n) runs)) none)
      ∙ sym (here i n run at) ∙ far

  pub runs_end : (image : Option Image) (n : ℕ) (run : GuardRun) (r : Result (Option Spoiled) WalkStop) → slice_get runs n ≡ Some run → Ends r
      → Answers image (λ i. run_checked i asked free object run) r → OfRuns image n → Answers image (λ i. object_checked i asked free object runs) r
  runs_end None n run r at some is far = tt
  runs_end (Some i) n run r at some is far =
      moved i (or_next (run_checked i asked free object run) (object_checked i asked free object (drop (suc n) runs))) (object_checked i asked free object runs) r (sym (here i n run at) ∙ far)
      (end_first i (run_checked i asked free object run) (object_checked i asked free object (drop (suc n) runs)) r some is)

  pub runs_done : (image : Option Image) (n : ℕ) → length runs ≤ n → OfRuns image n → Answers image (λ i. object_checked i asked free object runs) (Ok None)
  runs_done None n all far = tt
  runs_done (Some i) n all far = sym far ∙ ap (object_checked i asked free object) (dropped runs n all) ∙ run_none i asked free object

-- objects
object_next : (i : Image) (asked : Asked) (runs : List GuardRun) (grid : Grid) (free : ℕ → Bool) (left number : ℕ) → objects_from i asked runs grid free (suc left) number
    ≡ or_next (object_checked i asked (free (object_at grid number)) (object_at grid number) runs) (objects_from i asked runs grid free left (suc number))
unfolding objects_from
object_next i asked runs grid free left number = refl

object_none : (i : Image) (asked : Asked) (runs : List GuardRun) (grid : Grid) (free : ℕ → Bool) (number : ℕ) → objects_from i asked runs grid free 0 number ≡ Ok None
unfolding objects_from
object_none i asked runs grid free number = refl

module _ (asked : Asked) (runs : List GuardRun) (grid : Grid) (free : ℕ → Bool) where
  abbrev pub OfObjects : Option Image → ℕ → Type 0
  OfObjects image number = IfSome image (λ i. objects_from i asked runs grid free (grid.objects - number) number ≡ objects_from i asked runs grid free grid.objects 0)

  pub objects_begin : (image : Option Image) → OfObjects image 0
  objects_begin None = tt
  objects_begin (Some i) = let e : grid.objects - 0 ≡ grid.objects = omega arith in ap (λ (n : ℕ). objects_from i asked runs grid free n 0) e

  there : (i : Image) (number : ℕ) → number < grid.objects → objects_from i asked runs grid free (grid.objects - number) number
      ≡ or_next (object_checked i asked (free (object_at grid number)) (object_at grid number) runs) (objects_from i asked runs grid free (grid.objects - (number + 1)) (number + 1))
  there i number more =
      let e : grid.objects - number ≡ suc (grid.objects - (number + 1)) = omega (arith, more) in
      ap (λ (n : ℕ). objects_from i asked runs grid free n number) e ∙ object_next i asked runs grid free (grid.objects - (number + 1)) number
      ∙ ap (λ (n : ℕ). or_next (object_checked i asked (free (object_at grid number)) (object_at grid number) runs) (objects_from i asked runs grid free (grid.objects - (number + 1)) n)) (sym (add-one number))

  pub objects_next : (image : Option Image) (number : ℕ) → number < grid.objects
      → Answers image (λ i. object_checked i asked (free (object_at grid number)) (object_at grid number) runs) (Ok None) → OfObjects image number → OfObjects image (number + 1)
  objects_next None number more none far = tt
  objects_next (Some i) number more none far =
      sym (none_first (object_checked i asked (free (object_at grid number)) (object_at grid number) runs) (objects_from i asked runs grid free (grid.objects - (number + 1)) (number + 1)) none)
      ∙ sym (there i number more) ∙ far

  pub objects_end : (image : Option Image) (number : ℕ) (r : Result (Option Spoiled) WalkStop) → number < grid.objects → Ends r
      → Answers image (λ i. object_checked i asked (free (object_at grid number)) (object_at grid number) runs) r → OfObjects image number
      → Answers image (λ i. objects_from i asked runs grid free grid.objects 0) r
  objects_end None number r more some is far = tt
  objects_end (Some i) number r more some is far =
      moved i (or_next (object_checked i asked (free (object_at grid number)) (object_at grid number) runs) (objects_from i asked runs grid free (grid.objects - (number + 1)) (number + 1)))
      (objects_from i asked runs grid free grid.objects 0) r (sym (there i number more) ∙ far)
      (end_first i (object_checked i asked (free (object_at grid number)) (object_at grid number) runs) (objects_from i asked runs grid free (grid.objects - (number + 1)) (number + 1)) r some is)

  pub objects_done : (image : Option Image) (number : ℕ) → grid.objects ≤ number → OfObjects image number → Answers image (λ i. objects_from i asked runs grid free grid.objects 0) (Ok None)
  objects_done None number all far = tt
  objects_done (Some i) number all far =
      let e : grid.objects - number ≡ 0 = omega (arith, all) in
      sym far ∙ ap (λ (n : ℕ). objects_from i asked runs grid free n number) e ∙ object_none i asked runs grid free number

-- free objects: those that are looked up so far, and those that are still to come
either : (a b r : Bool) → (cond a true b || r) ≡ (b || (a || r))
either true true r = refl
either true false r = refl
either false b r = refl

other_way : (x q : ℕ) (b c : Bool) → nat_eq x q ≡ b → nat_eq q x ≡ c → b ≡ c
other_way x q true true one two = refl
other_way x q false false one two = refl
other_way x q true false one two = sym (eq-eqb q x (sym (eqb-true x q one))) ∙ two
other_way x q false true one two = sym one ∙ eq-eqb x q (sym (eqb-true q x two))

here_or_there : (x q : ℕ) → is_at (nat_cmp x) q ≡ nat_eq q x
here_or_there x q = unsigned_tied x q ∙ other_way x q (nat_eq x q) (nat_eq q x) refl refl

abbrev pub Found : List ℕ → ℕ → List ℕ → Type 0
Found objects n keys = (q : ℕ) → (looked_up keys q || is_free (drop n objects) q) ≡ is_free objects q

pub found_begin : (objects : List ℕ) → Found objects 0 []
found_begin objects q = refl

pub found_next : (objects : List ℕ) (n x : ℕ) (old new : List ℕ) → slice_get objects n ≡ Some x
    → ((q : ℕ) → looked_up new q ≡ cond (is_at (nat_cmp x) q) true (looked_up old q)) → Found objects n old → Found objects (n + 1) new
found_next objects n x old new at added far q =
    ap (λ (k : ℕ). looked_up new q || is_free (drop k objects) q) (add-one n)
    ∙ ap (λ (b : Bool). b || is_free (drop (suc n) objects) q) (added q ∙ ap (λ (b : Bool). cond b true (looked_up old q)) (here_or_there x q))
    ∙ either (nat_eq q x) (looked_up old q) (is_free (drop (suc n) objects) q)
    ∙ ap (λ (xs : List ℕ). looked_up old q || is_free xs q) (sym (drop_next objects n x at)) ∙ far q

or_false : (b : Bool) → b ≡ (b || false)
or_false true = refl
or_false false = refl

pub found_all : (objects : List ℕ) (n : ℕ) (keys : List ℕ) → length objects ≤ n → Found objects n keys → looked_up keys ≡ is_free objects
found_all objects n keys all far =
    λ i q. (or_false (looked_up keys q) ∙ ap (λ (xs : List ℕ). looked_up keys q || is_free xs q) (sym (dropped objects n all)) ∙ far q) i
