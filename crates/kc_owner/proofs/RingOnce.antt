-- No node stands twice among those of a ring. Of a broken one: one node leads to each, and what both walks reach ends the second.
use Rattle.std.proofs.Common.{◌≡◌, ℕ, zero, suc, Bool, true, false, nat_eq, ◌||◌, ◌-◌, if◌then◌else◌, List, [], ◌∷◌, ◌++◌, drop, length, length-drop, map, not, slice_get, Option, Some, None, Result, Ok, Err, option_map, refl, sym, ap, subst, ◌∙◌, arith}
use Rattle.std.specs.List.{AllByRecursion, IsDistinct}
use Rattle.std.proofs.lemmas.Bool.{eqb-false, ne_eqb}
use Rattle.kc_memory.specs.declared.words.VWord.{VWord}
use Rattle.kc_memory.specs.Image.{Image}
use Rattle.kc_memory.specs.Stopped.{Stopped}
use Rattle.kc_memory.specs.Translation.{vword}
use Rattle.kc_found.specs.declared.shapes.ListShape.{ListShape}
use Rattle.kc_found.specs.FiniteLists.{IsMember, value_of, values}
use Rattle.kc_found.specs.Nodes.{at_offset, is_poison, readable}
use Rattle.kc_found.specs.Rings.{ring_walk}
use Rattle.kc_found.specs.Violations.{Violation}
use Rattle.kc_list.specs.Laws.{RingsAreWalked}
use Rattle.kc_list.specs.Listed.{last_or}
use Rattle.kc_owner.specs.declared.ring.Ends.{Ends}
use Rattle.kc_owner.specs.declared.ring.Way.{Way}
use Rattle.kc_owner.specs.RingLaws.{AreLinked, Leads, RingNodesOnce}
use Rattle.kc_owner.specs.Rings.{by_next, by_prev, most_nodes, next_in, next_of, on_node, parts_of, reached, reached_by_next, reached_by_prev, ring_by, within, word_at}
use Rattle.kc_owner.proofs.RingParts.{from_some, linked}

-- a list has this node nowhere
abbrev IsNot : List ℕ → ℕ → Type 0
IsNot xs x = (j : ℕ) → slice_get xs j ≡ Some x → ⊥

-- what stands at two places of a list stands at one
abbrev StandsOnce : List ℕ → Type 0
StandsOnce xs = (i j x : ℕ) → slice_get xs i ≡ Some x → slice_get xs j ≡ Some x → i ≡ j

others : (x : ℕ) (xs : List ℕ) → IsNot xs x → AllByRecursion (λ y. nat_eq x y ≡ false) xs
others x [] none = tt
others x (y ∷ ys) none = (ne_eqb x y (λ same. none 0 (ap (λ (z : ℕ). Some z) (sym same))), others x ys (λ j there. none (suc j) there))

later : (i j : ℕ) → suc i ≡ suc j → i ≡ j
later i j same = omega (arith, same)

not_first : (j : ℕ) → 0 ≡ suc j → ⊥
not_first j same = omega (arith, same)

tail_once : (x : ℕ) (xs : List ℕ) → StandsOnce (x ∷ xs) → StandsOnce xs
tail_once x xs once i j y here there = later i j (once (suc i) (suc j) y here there)

head_once : (x : ℕ) (xs : List ℕ) → StandsOnce (x ∷ xs) → IsNot xs x
head_once x xs once j there = not_first j (once 0 (suc j) x refl there)

none_once : StandsOnce []
none_once i j x here there = absurd (let none : ⊥ = cc in none)

distinct : (xs : List ℕ) → StandsOnce xs → IsDistinct nat_eq xs
unfolding IsDistinct
distinct [] once = tt
distinct (x ∷ xs) once = (others x xs (head_once x xs once), distinct xs (tail_once x xs once))

-- one more in front
more_once : (x : ℕ) (xs : List ℕ) → IsNot xs x → StandsOnce xs → StandsOnce (x ∷ xs)
more_once x xs none once zero zero y here there = refl
more_once x xs none once zero (suc j) y here there = let same : x ≡ y = cc in absurd (none j (subst (λ (z : ℕ). slice_get xs j ≡ Some z) (sym same) there))
more_once x xs none once (suc i) zero y here there = let same : x ≡ y = cc in absurd (none i (subst (λ (z : ℕ). slice_get xs i ≡ Some z) (sym same) here))
more_once x xs none once (suc i) (suc j) y here there = ap suc (once i j y here there)

-- two lists that have no node in common
not_joined : (x : ℕ) (xs ys : List ℕ) → IsNot xs x → IsNot ys x → IsNot (xs ++ ys) x
not_joined x [] ys first second j is = second j is
not_joined x (y ∷ xs) ys first second zero is = first 0 is
not_joined x (y ∷ xs) ys first second (suc j) is = not_joined x xs ys (λ k there. first (suc k) there) second j is

joined_once : (xs ys : List ℕ) → StandsOnce xs → StandsOnce ys → ((i x : ℕ) → slice_get xs i ≡ Some x → IsNot ys x) → StandsOnce (xs ++ ys)
joined_once [] ys first second apart = second
joined_once (x ∷ xs) ys first second apart =
    more_once x (xs ++ ys) (not_joined x xs ys (head_once x xs first) (apart 0 x refl))
    (joined_once xs ys (tail_once x xs first) second (λ i y here. apart (suc i) y here))

same_of : (a b : ℕ) (o : Option ℕ) → o ≡ Some a → o ≡ Some b → a ≡ b
same_of a b o first second = let same : a ≡ b = cc in same

-- none of the nodes that are reached ends the walk
abbrev IsInside : Ends → ℕ → Type 0
IsInside ends n = (n ≡ ends.head → ⊥) × (n ≡ ends.last → ⊥)

inside_by : (ends : Ends) (n m : ℕ) (a b : Bool) → nat_eq n ends.head ≡ a → nat_eq n ends.last ≡ b → (if a || b then None else Some n) ≡ Some m → IsInside ends m
inside_by ends n m true b first second is = absurd (let none : ⊥ = cc in none)
inside_by ends n m false true first second is = absurd (let none : ⊥ = cc in none)
inside_by ends n m false false first second is =
    let same : n ≡ m = cc in
    ((λ at. eqb-false n ends.head first (same ∙ at)), (λ at. eqb-false n ends.last second (same ∙ at)))

module _ (image : Image) (way : Way) where
  inside : (ends : Ends) (node n : ℕ) → next_in image way ends node ≡ Some n → IsInside ends n
  inside ends node n is =
      from_some (within ends) (next_of image way node) n is (λ next leads tests.
      inside_by ends next n (nat_eq next ends.head) (nat_eq next ends.last) refl refl tests)

  on_inside : (ends : Ends) (node j x : ℕ) (o : Option ℕ) (rest : ℕ → List ℕ) → next_in image way ends node ≡ o
      → ((n k : ℕ) → slice_get (rest n) k ≡ Some x → IsInside ends x) → slice_get (on_node o rest) j ≡ Some x → IsInside ends x
  on_inside ends node j x None rest from more is = absurd (let none : ⊥ = cc in none)
  on_inside ends node zero x (Some n) rest from more is = let same : n ≡ x = cc in subst (IsInside ends) same (inside ends node n from)
  on_inside ends node (suc j) x (Some n) rest from more is = more n j is

  reached_inside : (ends : Ends) (left node j x : ℕ) → slice_get (reached image way ends left node) j ≡ Some x → IsInside ends x
  unfolding reached
  reached_inside ends zero node j x is = absurd (let none : ⊥ = cc in none)
  reached_inside ends (suc left) node j x is =
      on_inside ends node j x (next_in image way ends node) (λ next. reached image way ends left next) refl (λ n k there. reached_inside ends left n k x there) is

  -- what leads to a node
  before : {P : Type 0} (h : ℕ) (ns : List ℕ) (i x : ℕ) → AreLinked image way h ns → slice_get ns i ≡ Some x
      → ((a : ℕ) → slice_get (h ∷ ns) i ≡ Some a → Leads image way a x → P) → P
  before h [] i x links is go = absurd (let none : ⊥ = cc in none)
  before h (n ∷ ns) zero x links is go = let same : n ≡ x = cc in go h refl (subst (λ (m : ℕ). Leads image way h m) same links.0)
  before h (n ∷ ns) (suc i) x links is go = before n ns i x links.1 is go

  -- what it leads to, or it is the last one
  after_first : {P : Type 0} (n : ℕ) (ns : List ℕ) (x : ℕ) → n ≡ x → AreLinked image way n ns
      → ((b : ℕ) → slice_get ns 0 ≡ Some b → Leads image way x b → P) → (last_or n ns ≡ x → P) → P
  after_first n [] x same links on end = end same
  after_first n (m ∷ ns) x same links on end = on m refl (subst (λ (y : ℕ). Leads image way y m) same links.0)

  after : {P : Type 0} (h : ℕ) (ns : List ℕ) (i x : ℕ) → AreLinked image way h ns → slice_get ns i ≡ Some x
      → ((b : ℕ) → slice_get ns (suc i) ≡ Some b → Leads image way x b → P) → (last_or h ns ≡ x → P) → P
  after h [] i x links is on end = absurd (let none : ⊥ = cc in none)
  after h (n ∷ ns) zero x links is on end = let same : n ≡ x = cc in after_first n ns x same links.1 on end
  after h (n ∷ ns) (suc i) x links is on end = after n ns i x links.1 is on end

  -- a walk that never comes to its head stands nowhere twice
  linked_once : (h : ℕ) (ns : List ℕ) → AreLinked image way h ns → IsNot ns h → StandsOnce (h ∷ ns)
  linked_once h ns links none zero zero x here there = refl
  linked_once h ns links none zero (suc j) x here there = let same : h ≡ x = cc in absurd (none j (subst (λ (y : ℕ). slice_get ns j ≡ Some y) (sym same) there))
  linked_once h ns links none (suc i) zero x here there = let same : h ≡ x = cc in absurd (none i (subst (λ (y : ℕ). slice_get ns i ≡ Some y) (sym same) here))
  linked_once h ns links none (suc i) (suc j) x here there =
      before h ns i x links here (λ a first on.
      before h ns j x links there (λ b second back.
      ap suc (linked_once h ns links none i j a first
      (subst (λ (y : ℕ). slice_get (h ∷ ns) j ≡ Some y) (same_of b a (word_at image (at_offset x way.back)) back.back on.back) second))))

-- the two walks have no node in common
module _ (image : Image) (list : ListShape) (head : ℕ) (xs ys : List ℕ) (forward : AreLinked image (by_next list) head xs) (backward : AreLinked image (by_prev list) head ys)
    (past : IsNot xs head) (short : IsNot ys (last_or head xs)) where
  never_meet : (j i x : ℕ) → slice_get xs i ≡ Some x → slice_get (head ∷ ys) j ≡ Some x → ⊥
  never_meet zero i x here there = let same : head ≡ x = cc in past i (subst (λ (y : ℕ). slice_get xs i ≡ Some y) (sym same) here)
  never_meet (suc j) i x here there =
      before image (by_prev list) head ys j x backward there (λ a first on.
      after image (by_next list) head xs i x forward here
      (λ b next leads. never_meet j (suc i) b next
      (subst (λ (y : ℕ). slice_get (head ∷ ys) j ≡ Some y) (same_of a b (word_at image (at_offset x list.next)) on.back leads.on) first))
      (λ ends. short j (subst (λ (y : ℕ). slice_get ys j ≡ Some y) (sym ends) there)))

  both_once : IsNot ys head → IsDistinct nat_eq (xs ++ ys)
  both_once apart =
      distinct (xs ++ ys) (joined_once xs ys (tail_once head xs (linked_once image (by_next list) head xs forward past)) (tail_once head ys (linked_once image (by_prev list) head ys backward apart))
      (λ i x here j there. never_meet (suc j) i x here there))

parts_once : (image : Image) (list : ListShape) (head : ℕ) → IsDistinct nat_eq (parts_of image list head)
parts_once image list head =
    both_once image list head (reached_by_next image list head) (reached_by_prev image list head (last_or head (reached_by_next image list head)))
    (linked image (by_next list) (record { head = head; last = head }) most_nodes head)
    (linked image (by_prev list) (record { head = head; last = last_or head (reached_by_next image list head) }) most_nodes head)
    (λ j there. (reached_inside image (by_next list) (record { head = head; last = head }) most_nodes head j head there).0 refl)
    (λ j there. (reached_inside image (by_prev list) (record { head = head; last = last_or head (reached_by_next image list head) }) most_nodes head j (last_or head (reached_by_next image list head)) there).1 refl)
    (λ j there. (reached_inside image (by_prev list) (record { head = head; last = last_or head (reached_by_next image list head) }) most_nodes head j head there).0 refl)

-- A whole ring: from where a node stands, it goes on in one way.
same_value : (r : Result VWord Stopped) → option_map (λ (w : VWord). w.value) (readable r) ≡ value_of r
same_value (Ok w) = refl
same_value (Err s) = refl

same_head : (x y : Option ℕ) (xs ys : List (Option ℕ)) → x ∷ xs ≡ y ∷ ys → x ≡ y
same_head x y xs ys is = let same : x ≡ y = cc in same

same_tail : (x y : Option ℕ) (xs ys : List (Option ℕ)) → x ∷ xs ≡ y ∷ ys → xs ≡ ys
same_tail x y xs ys is = let same : xs ≡ ys = cc in same

member_isnt : (head n : ℕ) (a b c : Bool) → nat_eq n head ≡ c → not (a || (b || c)) ≡ true → n ≡ head → ⊥
member_isnt head n true b c test is same = let none : ⊥ = cc in none
member_isnt head n false true c test is same = let none : ⊥ = cc in none
member_isnt head n false false true test is same = let none : ⊥ = cc in none
member_isnt head n false false false test is same = eqb-false n head test same

-- from an address on the words lead to these nodes, in this order, and then to the head, which is none of them
abbrev LeadsRound : Image → ListShape → ℕ → ℕ → List ℕ → Type 0
LeadsRound image list head at [] = word_at image (at_offset at list.next) ≡ Some head
LeadsRound image list head at (n ∷ ns) = (word_at image (at_offset at list.next) ≡ Some n) × ((n ≡ head → ⊥) × LeadsRound image list head n ns)

module _ (image : Image) (list : ListShape) (head : ℕ) where
  round : (at : ℕ) (ns : List ℕ) → AllByRecursion (IsMember head) ns → values (vword image) list.next (at ∷ ns) ≡ map Some (ns ++ head ∷ []) → LeadsRound image list head at ns
  round at [] members is =
      same_value (vword image (at_offset at list.next)) ∙ same_head (value_of (vword image (at_offset at list.next))) (Some head) [] [] is
  round at (n ∷ ns) members is =
      let more = values (vword image) list.next (n ∷ ns) in (
        same_value (vword image (at_offset at list.next)) ∙ same_head (value_of (vword image (at_offset at list.next))) (Some n) more (map Some (ns ++ head ∷ [])) is,
        (
          member_isnt head n (nat_eq n 0) (is_poison n) (nat_eq n head) refl members.0,
          round n ns members.1 (same_tail (value_of (vword image (at_offset at list.next))) (Some n) more (map Some (ns ++ head ∷ [])) is),
        ),
      )

  one_way : (at : ℕ) (xs ys : List ℕ) → LeadsRound image list head at xs → LeadsRound image list head at ys → xs ≡ ys
  one_way at [] [] first second = refl
  one_way at [] (y ∷ ys) first second = absurd (second.1.0 (same_of y head (word_at image (at_offset at list.next)) second.0 first))
  one_way at (x ∷ xs) [] first second = absurd (first.1.0 (same_of x head (word_at image (at_offset at list.next)) first.0 second))
  one_way at (x ∷ xs) (y ∷ ys) first second =
      let same : y ≡ x = same_of y x (word_at image (at_offset at list.next)) second.0 first.0 in
      ap (λ (l : List ℕ). x ∷ l) (one_way x xs ys first.1.1 (subst (λ (n : ℕ). LeadsRound image list head n ys) same second.1.1))
      ∙ ap (λ (n : ℕ). n ∷ ys) (sym same)

  goes_on : (at j x : ℕ) (ns : List ℕ) → LeadsRound image list head at ns → slice_get ns j ≡ Some x → LeadsRound image list head x (drop (suc j) ns)
  goes_on at j x [] leads is = absurd (let none : ⊥ = cc in none)
  goes_on at zero x (n ∷ ns) leads is = let same : n ≡ x = cc in subst (λ (y : ℕ). LeadsRound image list head y ns) same leads.1.1
  goes_on at (suc j) x (n ∷ ns) leads is = goes_on n j x ns leads.1.1 is

  first_once : (x : ℕ) (xs : List ℕ) → LeadsRound image list head x xs → IsNot xs x
  first_once x [] leads j is = let none : ⊥ = cc in none
  first_once x (y ∷ ys) leads j is =
      let long : length (y ∷ ys) ≡ length (y ∷ ys) - suc j = ap length (one_way x (y ∷ ys) (drop (suc j) (y ∷ ys)) leads (goes_on x j x (y ∷ ys) leads is)) ∙ length-drop (suc j) (y ∷ ys) in
      omega (arith, long)

  round_once : (at : ℕ) (ns : List ℕ) → LeadsRound image list head at ns → StandsOnce ns
  round_once at [] leads = none_once
  round_once at (n ∷ ns) leads = more_once n ns (first_once n ns leads.1.1) (round_once n ns leads.1.1)

by_walk : RingsAreWalked → (image : Image) (list : ListShape) (head : ℕ) (r : Result (List ℕ) Violation) → ring_walk image list 0 head ≡ r → IsDistinct nat_eq (ring_by (parts_of image list head) r).nodes
by_walk known image list head (Ok ns) is =
    let ring = (known image list 0 head ns).1 is in
    distinct ns (round_once image list head head ns (round image list head head ns ring.members ring.forward))
by_walk known image list head (Err v) is = parts_once image list head

pub nodes_once : RingsAreWalked → RingNodesOnce
nodes_once known image list head = by_walk known image list head (ring_walk image list 0 head) refl
