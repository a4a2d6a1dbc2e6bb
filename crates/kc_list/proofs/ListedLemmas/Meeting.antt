-- Words that are met one after the other, where the memory is told or not.
use Rattle.std.proofs.Common.{◌≡◌, ℕ, zero, suc, ◌+◌, ◌-◌, ◌≤◌, ◌<◌, get_or, List, [], ◌∷◌, length, drop, slice_get, Bool, true, false, ◌&&◌, Option, Some, None, refl, sym, ◌∙◌, ap, arith}
use Rattle.std.specs.Prelude.{Result, Ok, Err, IfOk, IfSome, is_some}
use Rattle.std.proofs.lemmas.List.{drop_all, get_or-drop}
use Rattle.kc_memory.specs.Image.{Image}
use Rattle.kc_memory.specs.Translation.{vword}
use Rattle.kc_found.specs.Nodes.{at_offset}
use Rattle.kc_found.specs.Trials.{Reader}
use Rattle.kc_laws.specs.Drops.{drop_at}
use Rattle.kc_found.specs.declared.test.TestStop.{TestStop}
use Rattle.kc_found.specs.declared.test.TestStop.TheVariants.{Unfit, Fault, NoMemory}
use Rattle.kc_list.specs.declared.listed.Linking.{Linking}
use Rattle.kc_found.specs.Tests.{MeetsAs, TellsAs}
use Rattle.kc_list.specs.Listed.{Want, all_met, last_or, led_back, met_by, node_wants, then_on}

abbrev pub want : ℕ → ℕ → Want
want at value = record { at = at; value = value }

-- what is taken after all words is what is taken after those that are left
abbrev pub Left : Option Image → List ℕ → List Want → List ℕ → List Want → Type 0
Left image before whole now rest = IfSome image (λ i. all_met (vword i) before whole ≡ all_met (vword i) now rest)

pub words_begin : (image : Option Image) (before : List ℕ) (whole : List Want) → Left image before whole before whole
words_begin None before whole = tt
words_begin (Some i) before whole = refl

pub words_go : {A : Type 0} (image : Option Image) (before now after : List ℕ) (whole rest : List Want) (va at value : ℕ) (u : A) → va ≡ at → Left image before whole now (want at value ∷ rest) →
    MeetsAs (λ i. met_by now value (vword i va)) after image (Ok u) → Left image before whole after rest
words_go None before now after whole rest va at value u same l e = tt
words_go (Some i) before now after whole rest va at value u same l e =
    l ∙ ap (λ a. then_on (met_by now value (vword i a)) (λ more. all_met (vword i) more rest)) (sym same) ∙ ap (λ o. then_on o (λ more. all_met (vword i) more rest)) e

pub words_halt : (A B : Type 0) (image : Option Image) (before now after end : List ℕ) (whole rest : List Want) (va at value : ℕ) (halt : TestStop) → va ≡ at → Left image before whole now (want at value ∷ rest) →
    MeetsAs {A = B} (λ i. met_by now value (vword i va)) after image (Err halt) → MeetsAs {A = A} (λ i. all_met (vword i) before whole) end image (Err halt)
words_halt A B None before now after end whole rest va at value halt same l e = tt
words_halt A B (Some i) before now after end whole rest va at value Unfit same l e =
    l ∙ ap (λ a. then_on (met_by now value (vword i a)) (λ more. all_met (vword i) more rest)) (sym same) ∙ ap (λ o. then_on o (λ more. all_met (vword i) more rest)) e
words_halt A B (Some i) before now after end whole rest va at value Fault same l e = tt
words_halt A B (Some i) before now after end whole rest va at value NoMemory same l e = tt

pub words_end : {A : Type 0} (image : Option Image) (before now : List ℕ) (whole rest : List Want) (u : A) → rest ≡ [] → Left image before whole now rest → MeetsAs (λ i. all_met (vword i) before whole) now image (Ok u)
words_end None before now whole rest u none l = tt
words_end (Some i) before now whole rest u none l = l ∙ ap (all_met (vword i) now) none

-- the last words are met as they are met
pub words_last : {A : Type 0} (image : Option Image) (before now after : List ℕ) (whole rest : List Want) (r : Result A TestStop) → Left image before whole now rest → MeetsAs (λ i. all_met (vword i) now rest) after image r →
    MeetsAs (λ i. all_met (vword i) before whole) after image r
words_last None before now after whole rest r l e = tt
words_last (Some i) before now after whole rest (Ok u) l e = l ∙ e
words_last (Some i) before now after whole rest (Err Unfit) l e = l ∙ e
words_last (Some i) before now after whole rest (Err Fault) l e = tt
words_last (Some i) before now after whole rest (Err NoMemory) l e = tt

-- the words of the nodes from one on
pub nodes_at : (l : Linking) (before : ℕ) (ns : List ℕ) (i n next : ℕ) → slice_get ns i ≡ Some n → next ≡ get_or ns (i + 1) l.end →
    node_wants l before (drop i ns) ≡ want (at_offset n l.next) next ∷ want (at_offset n l.back) before ∷ node_wants l (led_back l.from n) (drop (i + 1) ns)
nodes_at l before ns i n next is at =
    let on : i + 1 + 0 ≡ i + 1 = omega arith in
    let same : get_or (drop (i + 1) ns) 0 l.end ≡ next = get_or-drop (i + 1) ns 0 l.end ∙ ap (λ k. get_or ns k l.end) on ∙ sym at in
    ap (node_wants l before) (drop_at ns i n is) ∙ ap (λ v. want (at_offset n l.next) v ∷ want (at_offset n l.back) before ∷ node_wants l (led_back l.from n) (drop (i + 1) ns)) same

pub left_at : (image : Option Image) (before now : List ℕ) (whole rest other : List Want) → rest ≡ other → Left image before whole now rest → Left image before whole now other
left_at None before now whole rest other same l = tt
left_at (Some i) before now whole rest other same l = l ∙ ap (all_met (vword i) now) same

-- the two words of a node, one after the other
abbrev pub after_node : Linking → ℕ → List ℕ → ℕ → ℕ → ℕ → List Want
after_node l prev ns i n next = want (at_offset n l.back) prev ∷ node_wants l (led_back l.from n) (drop (i + 1) ns)

nodes_left : (image : Option Image) (before now : List ℕ) (whole : List Want) (l : Linking) (prev : ℕ) (ns : List ℕ) (i n next : ℕ) → slice_get ns i ≡ Some n → next ≡ get_or ns (i + 1) l.end →
    Left image before whole now (node_wants l prev (drop i ns)) → Left image before whole now (want (at_offset n l.next) next ∷ after_node l prev ns i n next)
nodes_left image before now whole l prev ns i n next is at left =
    left_at image before now whole (node_wants l prev (drop i ns)) (want (at_offset n l.next) next ∷ after_node l prev ns i n next) (nodes_at l prev ns i n next is at) left

pub first_halts : (A B : Type 0) (image : Option Image) (before now after : List ℕ) (whole : List Want) (l : Linking) (prev : ℕ) (ns : List ℕ) (i n next : ℕ) (halt : TestStop) → slice_get ns i ≡ Some n → next ≡ get_or ns (i + 1) l.end →
    Left image before whole now (node_wants l prev (drop i ns)) → MeetsAs {A = B} (λ m. met_by now next (vword m (at_offset n l.next))) after image (Err halt) → MeetsAs {A = A} (λ m. all_met (vword m) before whole) after image (Err halt)
first_halts A B image before now after whole l prev ns i n next halt is at left e =
    words_halt A B image before now after after whole (after_node l prev ns i n next) (at_offset n l.next) (at_offset n l.next) next halt refl (nodes_left image before now whole l prev ns i n next is at left) e

first_goes : {A : Type 0} (image : Option Image) (before now after : List ℕ) (whole : List Want) (l : Linking) (prev : ℕ) (ns : List ℕ) (i n next : ℕ) (u : A) → slice_get ns i ≡ Some n → next ≡ get_or ns (i + 1) l.end →
    Left image before whole now (node_wants l prev (drop i ns)) → MeetsAs (λ m. met_by now next (vword m (at_offset n l.next))) after image (Ok u) → Left image before whole after (after_node l prev ns i n next)
first_goes image before now after whole l prev ns i n next u is at left e =
    words_go image before now after whole (after_node l prev ns i n next) (at_offset n l.next) (at_offset n l.next) next u refl (nodes_left image before now whole l prev ns i n next is at left) e

pub second_halts : {C : Type 0} (A B : Type 0) (image : Option Image) (before now mid after : List ℕ) (whole : List Want) (l : Linking) (prev : ℕ) (ns : List ℕ) (i n next : ℕ) (u : C) (halt : TestStop) → slice_get ns i ≡ Some n → next ≡ get_or ns (i + 1) l.end →
    Left image before whole now (node_wants l prev (drop i ns)) → MeetsAs (λ m. met_by now next (vword m (at_offset n l.next))) mid image (Ok u) → MeetsAs {A = B} (λ m. met_by mid prev (vword m (at_offset n l.back))) after image (Err halt) →
    MeetsAs {A = A} (λ m. all_met (vword m) before whole) after image (Err halt)
second_halts A B image before now mid after whole l prev ns i n next u halt is at left one other =
    words_halt A B image before mid after after whole (node_wants l (led_back l.from n) (drop (i + 1) ns)) (at_offset n l.back) (at_offset n l.back) prev halt refl (first_goes image before now mid whole l prev ns i n next u is at left one) other

pub both_go : {C D : Type 0} (image : Option Image) (before now mid after : List ℕ) (whole : List Want) (l : Linking) (prev back : ℕ) (ns : List ℕ) (i n next : ℕ) (u : C) (v : D) → slice_get ns i ≡ Some n → next ≡ get_or ns (i + 1) l.end → back ≡ led_back l.from n →
    Left image before whole now (node_wants l prev (drop i ns)) → MeetsAs (λ m. met_by now next (vword m (at_offset n l.next))) mid image (Ok u) → MeetsAs (λ m. met_by mid prev (vword m (at_offset n l.back))) after image (Ok v) →
    Left image before whole after (node_wants l back (drop (i + 1) ns))
both_go image before now mid after whole l prev back ns i n next u v is at to left one other =
    left_at image before after whole (node_wants l (led_back l.from n) (drop (i + 1) ns)) (node_wants l back (drop (i + 1) ns)) (ap (λ b. node_wants l b (drop (i + 1) ns)) (sym to))
    (words_go image before mid after whole (node_wants l (led_back l.from n) (drop (i + 1) ns)) (at_offset n l.back) (at_offset n l.back) prev v refl (first_goes image before now mid whole l prev ns i n next u is at left one) other)

pub none_wanted : (l : Linking) (before i : ℕ) (ns : List ℕ) → length ns ≤ i → node_wants l before (drop i ns) ≡ []
none_wanted l before i ns le = ap (node_wants l before) (drop_all i ns le)

-- the last one of a list
last_is : (before : ℕ) (ns : List ℕ) (n : ℕ) → slice_get ns (length ns - 1) ≡ Some n → last_or before ns ≡ n
last_is before [] n is = let none : ⊥ = cc in absurd none
last_is before (m ∷ []) n is = let same : m ≡ n = cc in same
last_is before (m ∷ k ∷ ns) n is = last_is m (k ∷ ns) n (let at : suc (suc (length ns)) - 1 ≡ suc (suc (length ns) - 1) = omega arith in rw at at is)

pub last_at : (before i : ℕ) (ns : List ℕ) (n : ℕ) → slice_get ns i ≡ Some n → i ≡ length ns - 1 → n ≡ last_or before ns
last_at before i ns n is at = sym (last_is before ns n (ap (slice_get ns) (sym at) ∙ is))

-- the tests of nodes and of their words, one after the other
pub tests_go : {A : Type 0} (image : Option Image) (nodes : Bool) (met : Image → Option (List ℕ)) (after : List ℕ) (r : Result A TestStop) → nodes ≡ true → MeetsAs met after image r → TellsAs (λ i. nodes && is_some (met i)) image r
tests_go None nodes met after r are e = tt
tests_go (Some i) nodes met after (Ok u) are e = rw (are, e) refl
tests_go (Some i) nodes met after (Err Unfit) are e = rw (are, e) refl
tests_go (Some i) nodes met after (Err Fault) are e = tt
tests_go (Some i) nodes met after (Err NoMemory) are e = tt

pub tests_halt : (A : Type 0) (image : Option Image) (nodes : Bool) (met : Image → Option (List ℕ)) → nodes ≡ false → TellsAs {A = A} (λ i. nodes && is_some (met i)) image (Err Unfit)
tests_halt A None nodes met are = tt
tests_halt A (Some i) nodes met are = rw are refl
