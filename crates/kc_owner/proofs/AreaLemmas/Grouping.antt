-- The tasks of groups, group after group.
use Rattle.std.proofs.Common.{◌≡◌, ℕ, zero, suc, ◌+◌, ◌<◌, ◌≤◌, Bool, true, false, nat_le, List, [], ◌∷◌, ◌++◌, length, slice_get, Option, Some, None, refl, sym, ap, ◌∙◌, arith}
use Rattle.std.specs.Prelude.{IfSome, Ok, if◌then◌else◌}
use Rattle.std.proofs.lemmas.Bool.Decides.{nat_tests}
use Rattle.std.proofs.lemmas.List.{append_assoc, append-nil, length-append}
use Rattle.kc_memory.specs.Image.{Image}
use Rattle.kc_view.specs.declared.tasks.TaskShape.{TaskShape}
use Rattle.kc_found.specs.Walks.{WalksAs}
use Rattle.kc_owner.specs.Area.Stacks.{group_of, groups_of}
use Rattle.kc_owner.specs.Rings.{most_nodes}

no_group : (i : Image) (shape : TaskShape) (had : ℕ) → groups_of i shape had [] ≡ []
unfolding groups_of
no_group i shape had = refl

one_group : (i : Image) (shape : TaskShape) (had l : ℕ) (ls : List ℕ)
    → groups_of i shape had (l ∷ ls) ≡ (if nat_le most_nodes had then [] else group_of i shape l ++ groups_of i shape (had + length (group_of i shape l)) ls)
unfolding groups_of
one_group i shape had l ls = refl

-- there are enough
full : (i : Image) (shape : TaskShape) (had : ℕ) (ls : List ℕ) → most_nodes ≤ had → groups_of i shape had ls ≡ []
full i shape had [] enough = no_group i shape had
full i shape had (l ∷ ls) enough =
    let yes : nat_le most_nodes had ≡ true = grind (arith, nat_tests) in
    one_group i shape had l ls ∙ ap (λ (b : Bool). if b then [] else group_of i shape l ++ groups_of i shape (had + length (group_of i shape l)) ls) yes

-- there is room for another group
room : (i : Image) (shape : TaskShape) (had l : ℕ) (ls : List ℕ) → had < most_nodes
    → groups_of i shape had (l ∷ ls) ≡ group_of i shape l ++ groups_of i shape (had + length (group_of i shape l)) ls
room i shape had l ls few =
    let no : nat_le most_nodes had ≡ false = grind (arith, nat_tests) in
    one_group i shape had l ls ∙ ap (λ (b : Bool). if b then [] else group_of i shape l ++ groups_of i shape (had + length (group_of i shape l)) ls) no

-- the tasks that were read, and those of the groups that are left, are all
abbrev pub Grouping : Option Image → TaskShape → List ℕ → List ℕ → List ℕ → Type 0
Grouping image shape all tasks rest = IfSome image (λ i. tasks ++ groups_of i shape (length tasks) rest ≡ groups_of i shape 0 all)

pub group_begin : (image : Option Image) (shape : TaskShape) (all : List ℕ) → Grouping image shape all [] all
group_begin None shape all = tt
group_begin (Some i) shape all = refl

pub group_next : (image : Option Image) (shape : TaskShape) (all old new group rest left : List ℕ) (l : ℕ) → rest ≡ l ∷ left → length old < most_nodes → new ≡ old ++ group
    → WalksAs {A = List ℕ} {B = List ℕ} (λ ts. ts) (λ i. Ok (group_of i shape l)) image (Ok group) → Grouping image shape all old rest → Grouping image shape all new left
group_next None shape all old new group rest left l is few added read so_far = tt
group_next (Some i) shape all old new group rest left l is few added read so_far =
    let same : group_of i shape l ≡ group = cc in
    let first : groups_of i shape (length old) rest ≡ group ++ groups_of i shape (length old + length group) left =
    ap (groups_of i shape (length old)) is ∙ room i shape (length old) l left few ∙ ap (λ (g : List ℕ). g ++ groups_of i shape (length old + length g) left) same in
    let long : length new ≡ length old + length group = ap (λ (xs : List ℕ). length xs) added ∙ length-append old group in
    ap (λ (xs : List ℕ). xs ++ groups_of i shape (length new) left) added ∙ ap (λ (n : ℕ). (old ++ group) ++ groups_of i shape n left) long
    ∙ append_assoc old group (groups_of i shape (length old + length group) left) ∙ sym (ap (λ (xs : List ℕ). old ++ xs) first) ∙ so_far

pub group_full : (image : Option Image) (shape : TaskShape) (all tasks rest : List ℕ) → most_nodes ≤ length tasks → Grouping image shape all tasks rest
    → WalksAs {A = List ℕ} {B = List ℕ} (λ ts. ts) (λ i. Ok (groups_of i shape 0 all)) image (Ok tasks)
group_full None shape all tasks rest enough so_far = tt
group_full (Some i) shape all tasks rest enough so_far =
    ap (λ (ts : List ℕ). Ok ts) (sym so_far ∙ ap (λ (xs : List ℕ). tasks ++ xs) (full i shape (length tasks) rest enough) ∙ append-nil tasks)

pub group_done : (image : Option Image) (shape : TaskShape) (all tasks rest : List ℕ) → rest ≡ [] → Grouping image shape all tasks rest
    → WalksAs {A = List ℕ} {B = List ℕ} (λ ts. ts) (λ i. Ok (groups_of i shape 0 all)) image (Ok tasks)
group_done None shape all tasks rest none so_far = tt
group_done (Some i) shape all tasks rest none so_far =
    ap (λ (ts : List ℕ). Ok ts) (sym so_far ∙ ap (λ (xs : List ℕ). tasks ++ groups_of i shape (length tasks) xs) none ∙ ap (λ (xs : List ℕ). tasks ++ xs) (no_group i shape (length tasks)) ∙ append-nil tasks)

-- something of two lists is of one of them
of_either : (xs ys : List ℕ) (k x : ℕ) (Q : Type 0) → ((j : ℕ) → slice_get xs j ≡ Some x → Q) → ((j : ℕ) → slice_get ys j ≡ Some x → Q) → slice_get (xs ++ ys) k ≡ Some x → Q
of_either [] ys k x Q left right is = right k is
of_either (z ∷ zs) ys zero x Q left right is = left 0 is
of_either (z ∷ zs) ys (suc k) x Q left right is = of_either zs ys k x Q (λ j at. left (suc j) at) right is

-- each of the tasks is of the group of one of the leaders
module _ (i : Image) (shape : TaskShape) (Q : Type 0) where
  by_room : (b : Bool) (had l : ℕ) (ls : List ℕ) (k task : ℕ) → ((place : ℕ) → slice_get (group_of i shape l) place ≡ Some task → Q)
      → ((j : ℕ) → slice_get (groups_of i shape (had + length (group_of i shape l)) ls) j ≡ Some task → Q)
      → slice_get (if b then [] else group_of i shape l ++ groups_of i shape (had + length (group_of i shape l)) ls) k ≡ Some task → Q
  by_room true had l ls k task here later is = absurd (let no : ⊥ = cc in no)
  by_room false had l ls k task here later is = of_either (group_of i shape l) (groups_of i shape (had + length (group_of i shape l)) ls) k task Q here later is

  pub of_groups : (had : ℕ) (ls : List ℕ) (k task : ℕ)
      → ((j l : ℕ) → slice_get ls j ≡ Some l → (place : ℕ) → slice_get (group_of i shape l) place ≡ Some task → Q) → slice_get (groups_of i shape had ls) k ≡ Some task → Q
  of_groups had [] k task each is =
      let none : slice_get [] k ≡ Some task = rw (no_group i shape had) at is in
      absurd (let no : ⊥ = cc in no)
  of_groups had (l ∷ ls) k task each is =
      by_room (nat_le most_nodes had) had l ls k task (each 0 l refl)
      (λ j at. of_groups (had + length (group_of i shape l)) ls j task (λ n m led place thread. each (suc n) m led place thread) at) (rw (one_group i shape had l ls) at is)
