-- A plan's verdict is clean exactly where the plan stands.
use Rattle.std.proofs.Common.{◌≡◌, ℕ, suc, Bool, true, false, nat_eq, List, [], ◌∷◌, ◌++◌, length, refl}
use Rattle.std.specs.Prelude.{◌↔◌, Option, Some, None, Result, Ok, Err, ⊤, IfSome, MatchBool, IsTrue, if◌then◌else◌}
use Rattle.std.specs.List.{AllByRecursion}
use Rattle.kc_memory.specs.Bits.{Number}
use Rattle.kc_memory.specs.Image.{Image}
use Rattle.kc_memory.specs.Stopped.{Stopped}
use Rattle.kc_found.specs.declared.asked.Asked.{Asked}
use Rattle.kc_found.specs.declared.verdict.Verdict.{Verdict}
use Rattle.kc_found.specs.Violations.{Violation}
use Rattle.kc_expr.specs.Values.{is_true}
use Rattle.kc_kinds.specs.declared.kind.Kind.{Kind}
use Rattle.kc_plan.specs.Checks.{CheckHolds, checked, numbers_of, value_of}
use Rattle.kc_plan.specs.Events.{Event, Walk, Wrong, first_wrong, verdict_of}
use Rattle.kc_plan.specs.Planned.{AuditAt, CheckAt}
use Rattle.kc_kinds.specs.Structures.{nodes_of, Holds}
use Rattle.kc_plan.specs.Seen.{PathEnd, EndsAt, NullAt, world, path_end, path_of, is_optional, container_of, in_turn, below, checks_seen, number_at, at_element, walked, entered, seen, roots, all_seen}
use Rattle.kc_plan.specs.Stands.{ElementStands, WalkStands, EnterStands, PlanStands, Stands}
use Rattle.kc_plan.specs.Roots.{reached_from, root_seen, verdict_among}
use Rattle.kc_plan.specs.Verdicts.{IsClean, verdict}
use Rattle.kc_run.specs.Laws.{CleanRootsStand, CleanWhereStanding, KindsAreWalked}

-- no violation is seen
NoneWrong : List Event → Type 0
NoneWrong [] = ⊤
NoneWrong (Walk n size ∷ es) = NoneWrong es
NoneWrong (Wrong v ∷ es) = ⊥

none_parts : (es us : List Event) → NoneWrong (es ++ us) → NoneWrong es × NoneWrong us
unfolding NoneWrong
none_parts [] us c = (tt, c)
none_parts (Walk n size ∷ es) us c = none_parts es us c
none_parts (Wrong v ∷ es) us c = absurd c

none_whole : (es us : List Event) → NoneWrong es → NoneWrong us → NoneWrong (es ++ us)
unfolding NoneWrong
none_whole [] us c d = d
none_whole (Walk n size ∷ es) us c d = none_whole es us c d
none_whole (Wrong v ∷ es) us c d = absurd c

turn_stands : {X : Type 0} (see : X → List Event) (P : X → Type 0) (xs : List X) → ((x : X) → NoneWrong (see x) → P x) → NoneWrong (in_turn see xs) → AllByRecursion P xs
turn_stands see P [] go c = tt
turn_stands see P (x ∷ xs) go c = let parts = none_parts (see x) (in_turn see xs) c in (go x parts.0, turn_stands see P xs go parts.1)

turn_clean : {X : Type 0} (see : X → List Event) (P : X → Type 0) (xs : List X) → ((x : X) → P x → NoneWrong (see x)) → AllByRecursion P xs → NoneWrong (in_turn see xs)
unfolding NoneWrong
turn_clean see P [] go s = tt
turn_clean see P (x ∷ xs) go s = none_whole (see x) (in_turn see xs) (go x s.0) (turn_clean see P xs go s.1)

-- the law of the kinds: a walk gives these nodes exactly where they make up the structure
record Kinds (image : Image) : Type 0 where
  sound : (kind : Kind) (n start : ℕ) (nodes : List ℕ) → nodes_of image kind n start ≡ Ok nodes → Holds image kind start nodes
  complete : (kind : Kind) (n start : ℕ) (nodes : List ℕ) → Holds image kind start nodes → nodes_of image kind n start ≡ Ok nodes

kinds_of : KindsAreWalked → (image : Image) → Kinds image
kinds_of law image = record {
  sound = λ kind n start nodes is. (law image kind n start nodes).1 is;
  complete = λ kind n start nodes holds. (law image kind n start nodes).0 holds;
}

-- what is seen from an address, and that it stands there
abbrev Going : Type 0
Going = ℕ → ℕ → List Event

abbrev Standing : Type 1
Standing = ℕ → ℕ → Type 0

-- a violation unless something is true
unless_stands : (b : Bool) (v : Violation) → NoneWrong (if b then [] else (Wrong v ∷ [])) → IsTrue b
unfolding NoneWrong
unless_stands true v c = refl
unless_stands false v c = absurd c

unless_clean : (b : Bool) (v : Violation) → IsTrue b → NoneWrong (if b then [] else (Wrong v ∷ []))
unfolding NoneWrong
unless_clean true v s = tt
unless_clean false v s = absurd (cc)

check_stands : (asked : Asked) (element : ℕ) (check : CheckAt) (there : Result (List Number) Stopped) → NoneWrong (checked asked element check there) → CheckHolds check there
unfolding NoneWrong
check_stands asked element check (Err s) c = absurd c
check_stands asked element check (Ok numbers) c = unless_stands (is_true (value_of check numbers)) _ c

check_clean : (asked : Asked) (element : ℕ) (check : CheckAt) (there : Result (List Number) Stopped) → CheckHolds check there → NoneWrong (checked asked element check there)
check_clean asked element check (Err s) h = absurd h
check_clean asked element check (Ok numbers) h = unless_clean (is_true (value_of check numbers)) _ h

element_stands : (image : Image) (n : ℕ) (a : AuditAt) (start : ℕ) (go : Going) (Go : Standing) (element : ℕ) → ((m x : ℕ) → NoneWrong (go m x) → Go m x) →
    NoneWrong (at_element (world image) n a start go element) → ElementStands image a Go element
element_stands image n a start go Go element further c =
    let asked : Asked = record { audit = n; start = start } in
    let there = λ (check : CheckAt). numbers_of (number_at image element) check.fields in
    let parts = none_parts (checks_seen (world image) asked a.checks element) (below a go element) c in (
      turn_stands (λ check. checked asked element check (there check)) (λ check. CheckHolds check (there check)) a.checks (λ check d. check_stands asked element check (there check) d) parts.0,
      turn_stands (λ m. go m element) (λ m. Go m element) a.each (λ m d. further m element d) parts.1,
    )

element_clean : (image : Image) (n : ℕ) (a : AuditAt) (start : ℕ) (go : Going) (Go : Standing) (element : ℕ) → ((m x : ℕ) → Go m x → NoneWrong (go m x)) →
    ElementStands image a Go element → NoneWrong (at_element (world image) n a start go element)
element_clean image n a start go Go element further st =
    let asked : Asked = record { audit = n; start = start } in
    let there = λ (check : CheckAt). numbers_of (number_at image element) check.fields in
    none_whole (checks_seen (world image) asked a.checks element) (below a go element)
    (turn_clean (λ check. checked asked element check (there check)) (λ check. CheckHolds check (there check)) a.checks (λ check h. check_clean asked element check (there check) h) st.0)
    (turn_clean (λ m. go m element) (λ m. Go m element) a.each (λ m s. further m element s) st.1)

walk_stands : (image : Image) (n : ℕ) (a : AuditAt) (go : Going) (Go : Standing) (start : ℕ) (there : Result (List ℕ) Violation) → Kinds image → ((m x : ℕ) → NoneWrong (go m x) → Go m x) →
    nodes_of image a.kind n start ≡ there → NoneWrong (walked (world image) n a start go there) → WalkStands image a Go start
unfolding NoneWrong
walk_stands image n a go Go start (Err v) kinds further is c = absurd c
walk_stands image n a go Go start (Ok nodes) kinds further is c = (
  nodes,
  kinds.sound a.kind n start nodes is,
  turn_stands (λ node. at_element (world image) n a start go (container_of a.link node)) (λ node. ElementStands image a Go (container_of a.link node)) nodes
      (λ node d. element_stands image n a start go Go (container_of a.link node) further d) c,
)

walk_clean : (image : Image) (n : ℕ) (a : AuditAt) (go : Going) (Go : Standing) (start : ℕ) → Kinds image → ((m x : ℕ) → Go m x → NoneWrong (go m x)) →
    WalkStands image a Go start → NoneWrong (walked (world image) n a start go (nodes_of image a.kind n start))
unfolding NoneWrong
walk_clean image n a go Go start kinds further st =
    rw (kinds.complete a.kind n start st.0 st.1) (turn_clean (λ node. at_element (world image) n a start go (container_of a.link node)) (λ node. ElementStands image a Go (container_of a.link node)) st.0
    (λ node d. element_clean image n a start go Go (container_of a.link node) further d) st.2)

enter_stands : (image : Image) (n : ℕ) (a : AuditAt) (go : Going) (Go : Standing) (base : ℕ) (there : Result PathEnd Stopped) → Kinds image → ((m x : ℕ) → NoneWrong (go m x) → Go m x) →
    NoneWrong (entered (world image) n a go base there) → EnterStands image a Go there
unfolding NoneWrong
enter_stands image n a go Go base (Err s) kinds further c = absurd c
enter_stands image n a go Go base (Ok (NullAt place at)) kinds further c = unless_stands (is_optional a.start) _ c
enter_stands image n a go Go base (Ok (EndsAt start)) kinds further c = walk_stands image n a go Go start _ kinds further refl c

enter_clean : (image : Image) (n : ℕ) (a : AuditAt) (go : Going) (Go : Standing) (base : ℕ) (there : Result PathEnd Stopped) → Kinds image → ((m x : ℕ) → Go m x → NoneWrong (go m x)) →
    EnterStands image a Go there → NoneWrong (entered (world image) n a go base there)
enter_clean image n a go Go base (Err s) kinds further st = absurd st
enter_clean image n a go Go base (Ok (NullAt place at)) kinds further st = unless_clean (is_optional a.start) _ st
enter_clean image n a go Go base (Ok (EndsAt start)) kinds further st = walk_clean image n a go Go start kinds further st

pick_stands : (b : Bool) (es us : List Event) (P Q : Type 0) → (NoneWrong es → P) → (NoneWrong us → Q) → NoneWrong (if b then es else us) → MatchBool b P Q
pick_stands true es us P Q p q c = p c
pick_stands false es us P Q p q c = q c

pick_clean : (b : Bool) (es us : List Event) (P Q : Type 0) → (P → NoneWrong es) → (Q → NoneWrong us) → MatchBool b P Q → NoneWrong (if b then es else us)
pick_clean true es us P Q p q s = p s
pick_clean false es us P Q p q s = q s

clean_stands : (image : Image) (plan : List AuditAt) (k m base : ℕ) → Kinds image → NoneWrong (seen (world image) plan k m base) → Stands image plan k m base
unfolding seen Stands
clean_stands image [] k m base kinds c = tt
clean_stands image (a ∷ later) k m base kinds c =
    pick_stands (nat_eq m k) _ _ _ _
    (enter_stands image k a (λ n x. seen (world image) later (suc k) n x) (λ n x. Stands image later (suc k) n x) base (path_end image base (path_of a.start).hops (path_of a.start).byte) kinds (λ n x d. clean_stands image later (suc k) n x kinds d))
    (clean_stands image later (suc k) m base kinds) c

stands_clean : (image : Image) (plan : List AuditAt) (k m base : ℕ) → Kinds image → Stands image plan k m base → NoneWrong (seen (world image) plan k m base)
unfolding NoneWrong seen Stands
stands_clean image [] k m base kinds s = tt
stands_clean image (a ∷ later) k m base kinds s =
    pick_clean (nat_eq m k) _ _ _ _
    (enter_clean image k a (λ n x. seen (world image) later (suc k) n x) (λ n x. Stands image later (suc k) n x) base (path_end image base (path_of a.start).hops (path_of a.start).byte) kinds (λ n x d. stands_clean image later (suc k) n x kinds d))
    (stands_clean image later (suc k) m base kinds) s

none_is : (n : ℕ) (all es : List Event) → IsClean (verdict_of n all (first_wrong es)) → NoneWrong es
unfolding NoneWrong
none_is n all [] c = tt
none_is n all (Walk m size ∷ es) c = none_is n all es c
none_is n all (Wrong v ∷ es) c = absurd c

is_none : (n : ℕ) (all es : List Event) → NoneWrong es → IsClean (verdict_of n all (first_wrong es))
unfolding NoneWrong
is_none n all [] c = tt
is_none n all (Walk m size ∷ es) c = is_none n all es c
is_none n all (Wrong v ∷ es) c = absurd c

among_is : (numbers : List ℕ) (all es : List Event) → IsClean (verdict_among numbers all (first_wrong es)) → NoneWrong es
unfolding NoneWrong
among_is numbers all [] c = tt
among_is numbers all (Walk m size ∷ es) c = among_is numbers all es c
among_is numbers all (Wrong v ∷ es) c = absurd c

is_among_none : (numbers : List ℕ) (all es : List Event) → NoneWrong es → IsClean (verdict_among numbers all (first_wrong es))
unfolding NoneWrong
is_among_none numbers all [] c = tt
is_among_none numbers all (Walk m size ∷ es) c = is_among_none numbers all es c
is_among_none numbers all (Wrong v ∷ es) c = absurd c

pub clean_where_standing : KindsAreWalked → CleanWhereStanding
clean_where_standing law image plan =
    let kinds = kinds_of law image in
    let see = λ (r : ℕ × ℕ). seen (world image) plan 0 r.0 r.1 in
    let Stand = λ (r : ℕ × ℕ). Stands image plan 0 r.0 r.1 in (
      λ c. turn_stands see Stand (roots 0 plan) (λ r d. clean_stands image plan 0 r.0 r.1 kinds d) (none_is (length plan) (all_seen (world image) plan) (all_seen (world image) plan) c),
      λ s. is_none (length plan) (all_seen (world image) plan) (all_seen (world image) plan) (turn_clean see Stand (roots 0 plan) (λ r d. stands_clean image plan 0 r.0 r.1 kinds d) s),
    )

pub clean_roots_stand : KindsAreWalked → CleanRootsStand
clean_roots_stand law image audits r =
    let kinds = kinds_of law image in
    let es = root_seen (world image) audits r in (
      λ c. clean_stands image audits 0 r.0 r.1 kinds (among_is (reached_from r.0 audits) es es c),
      λ s. is_among_none (reached_from r.0 audits) es es (stands_clean image audits 0 r.0 r.1 kinds s),
    )

-- and so is the verdict that a dump has, where it is told
pub stands_told : CleanWhereStanding → (image : Option Image) (plan : List AuditAt) (found : Verdict) → IfSome image (λ i. verdict i plan ≡ found) → IfSome image (λ i. IsClean found ↔ PlanStands i plan)
stands_told law None plan found is = tt
stands_told law (Some i) plan found is = rw is at (law i plan)
