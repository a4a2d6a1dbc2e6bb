-- Numbers that pass the test of a tree are the only ones.
use Rattle.std.proofs.Common.{◌≡◌, ℕ, nat_eq, Bool, true, false, ◌&&◌, List, [], ◌∷◌, Option, Some, None, refl, sym, ◌∙◌, ap, subst}
use Rattle.std.specs.Prelude.{Result, Ok, Err, not, if◌then◌else◌}
use Rattle.std.proofs.lemmas.Bool.{and_parts, eqb-true}
use Rattle.kc_memory.specs.Image.{Image}
use Rattle.kc_memory.specs.Stopped.{Stopped}
use Rattle.kc_found.specs.declared.asked.Asked.{Asked}
use Rattle.kc_found.specs.declared.shapes.RbShape.{RbShape}
use Rattle.kc_found.specs.declared.trees.RbHead.{RbHead}
use Rattle.kc_found.specs.declared.trees.RbKey.{RbKey}
use Rattle.kc_found.specs.declared.trees.RbLinks.{RbLinks}
use Rattle.kc_found.specs.declared.trees.RbSpot.{RbSpot}
use Rattle.kc_found.specs.RbTrees.{RbCourse, course_of, differs, head_at, head_site, keys_at, left_spot, links_at, node_site, right_spot, root_spot}
use Rattle.kc_found.specs.Trials.{passed}
use Rattle.kc_found.specs.Violations.{Violation}
use Rattle.kc_rb.specs.Faults.{or_else}
use Rattle.kc_rb.specs.Listed.Trees.{entered, headed, is_first, is_tree, listed, turn}

-- what two lists come to at one node
both_entered : (A : Type 0) (p : Result (List ℕ) Violation) (there : Result RbLinks Stopped) (key : Result (Option RbKey) Stopped) (go on : List ℕ → RbLinks → Option RbKey → Bool) → entered p there key go ≡ true → entered p there key on ≡ true →
    ((more : List ℕ) (w : RbLinks) (k : Option RbKey) → go more w k ≡ true → on more w k ≡ true → A) → A
both_entered A (Ok more) (Ok w) (Ok k) go on e f give = give more w k e f
both_entered A (Ok more) (Ok w) (Err m) go on e f give = absurd (cc)
both_entered A (Ok more) (Err m) key go on e f give = absurd (cc)
both_entered A (Err v) there key go on e f give = absurd (cc)

-- and at the head
both_headed : (A : Type 0) (p : Result (List ℕ) Violation) (there : Result RbHead Stopped) (go on : List ℕ → RbHead → Bool) → headed p there go ≡ true → headed p there on ≡ true → ((taken : List ℕ) (h : RbHead) → go taken h ≡ true → on taken h ≡ true → A) → A
both_headed A (Ok taken) (Ok h) go on e f give = give taken h e f
both_headed A (Ok taken) (Err m) go on e f give = absurd (cc)
both_headed A (Err v) there go on e f give = absurd (cc)

-- what follows a number
abbrev follow : RbCourse → Option ℕ → List ℕ → RbSpot → List RbSpot → Bool → List ℕ → Bool
follow c first taken s ss null ns =
    if null then (not (differs first s.black) && listed c (Some (or_else first s.black)) taken ss ns)
    else entered (passed taken (node_site c s)) (links_at c s) (keys_at c s) (λ more w k. listed c first more (left_spot s w k ∷ right_spot s w k ∷ ss) ns)

follow_once : (c : RbCourse) (first : Option ℕ) (taken : List ℕ) (s : RbSpot) (ss : List RbSpot) (null : Bool) (ns ms : List ℕ) → follow c first taken s ss null ns ≡ true → follow c first taken s ss null ms ≡ true →
    (listed c (Some (or_else first s.black)) taken ss ns ≡ true → listed c (Some (or_else first s.black)) taken ss ms ≡ true → ns ≡ ms) →
    ((more : List ℕ) (w : RbLinks) (k : Option RbKey) → listed c first more (left_spot s w k ∷ right_spot s w k ∷ ss) ns ≡ true → listed c first more (left_spot s w k ∷ right_spot s w k ∷ ss) ms ≡ true → ns ≡ ms) → ns ≡ ms
follow_once c first taken s ss true ns ms e f on_null on_node =
    on_null (and_parts (not (differs first s.black)) (listed c (Some (or_else first s.black)) taken ss ns) e).1 (and_parts (not (differs first s.black)) (listed c (Some (or_else first s.black)) taken ss ms) f).1
follow_once c first taken s ss false ns ms e f on_null on_node =
    both_entered (ns ≡ ms) (passed taken (node_site c s)) (links_at c s) (keys_at c s) (λ more w k. listed c first more (left_spot s w k ∷ right_spot s w k ∷ ss) ns) (λ more w k. listed c first more (left_spot s w k ∷ right_spot s w k ∷ ss) ms) e f on_node

listed_once : (c : RbCourse) (first : Option ℕ) (taken : List ℕ) (ss : List RbSpot) (ns ms : List ℕ) → listed c first taken ss ns ≡ true → listed c first taken ss ms ≡ true → ns ≡ ms
listed_once c first taken [] [] [] e f = refl
listed_once c first taken [] [] (m ∷ ms) e f = absurd (cc)
listed_once c first taken [] (n ∷ ns) ms e f = absurd (cc)
listed_once c first taken (s ∷ ss) [] ms e f = absurd (cc)
listed_once c first taken (s ∷ ss) (n ∷ ns) [] e f = absurd (cc)
listed_once c first taken (s ∷ ss) (n ∷ ns) (m ∷ ms) e f =
    let a = and_parts (nat_eq n s.link.value) (follow c first taken s ss (nat_eq n 0) ns) e in
    let b = and_parts (nat_eq m s.link.value) (follow c first taken s ss (nat_eq m 0) ms) f in
    let same : m ≡ n = eqb-true m s.link.value b.0 ∙ sym (eqb-true n s.link.value a.0) in
    let after = subst (λ x. follow c first taken s ss (nat_eq x 0) ms ≡ true) same b.1 in
    let rest = follow_once c first taken s ss (nat_eq n 0) ns ms a.1 after (λ x y. listed_once c (Some (or_else first s.black)) taken ss ns ms x y)
    (λ more w k x y. listed_once c first more (left_spot s w k ∷ right_spot s w k ∷ ss) ns ms x y) in
    ap (λ x. x ∷ ns) (sym same) ∙ ap (λ xs. m ∷ xs) rest

pub trees_once : (image : Image) (shape : RbShape) (start : ℕ) (ns ms : List ℕ) → is_tree image shape start ns ≡ true → is_tree image shape start ms ≡ true → ns ≡ ms
unfolding is_tree
trees_once image shape start ns ms e f =
    let asked : Asked = record { audit = 0; start = start } in
    let c = course_of image shape asked in
    both_headed (ns ≡ ms) (passed [] (head_site c)) (head_at c) (λ taken h. listed c None taken (root_spot h.root ∷ []) ns && is_first h.leftmost (turn [] ns)) (λ taken h. listed c None taken (root_spot h.root ∷ []) ms && is_first h.leftmost (turn [] ms)) e f
    (λ taken h x y. listed_once c None taken (root_spot h.root ∷ []) ns ms (and_parts (listed c None taken (root_spot h.root ∷ []) ns) (is_first h.leftmost (turn [] ns)) x).0
    (and_parts (listed c None taken (root_spot h.root ∷ []) ms) (is_first h.leftmost (turn [] ms)) y).0)
