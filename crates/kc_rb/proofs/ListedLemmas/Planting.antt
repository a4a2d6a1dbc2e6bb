-- Numbers pass the test of a tree exactly where they are those of a finite tree in preorder.
use Rattle.std.proofs.Common.{◌≡◌, ℕ, zero, suc, ◌+◌, nat_eq, Bool, true, false, ◌&&◌, List, [], ◌∷◌, ◌++◌, length, Option, Some, None, refl, sym, ◌∙◌, ap, subst, arith, eq-eqb, append_assoc, append-nil}
use Rattle.std.specs.Prelude.{Result, Ok, Err, not, get_or, ⊤, ℤ, if◌then◌else◌}
use Rattle.std.specs.List.{IsDistinct, AllByRecursion}
use Rattle.std.proofs.lemmas.Bool.{and_parts, eqb-true}
use Rattle.kc_memory.specs.declared.words.VWord.{VWord}
use Rattle.kc_memory.specs.Image.{Image}
use Rattle.kc_memory.specs.Stopped.{Stopped}
use Rattle.kc_found.specs.declared.asked.Asked.{Asked}
use Rattle.kc_found.specs.declared.shapes.RbShape.{RbShape}
use Rattle.kc_found.specs.declared.trees.RbHead.{RbHead}
use Rattle.kc_found.specs.declared.trees.RbKey.{RbKey}
use Rattle.kc_found.specs.declared.trees.RbLinks.{RbLinks}
use Rattle.kc_found.specs.declared.trees.RbSpot.{RbSpot}
use Rattle.kc_found.specs.RbFinite.{Tree, Leaf, Node, inorder, IsRb, IsFirst, RbTree, count_of, head_words, leftmost_word, pas, pas_of, tree_words}
use Rattle.kc_found.specs.RbTrees.{Reads, RbCourse, blacks, bound_of, course_of, differs, head_at, head_claims, head_site, is_red, key_fault, keys_at, left_spot, leftmost_claims, link_fault, links_at, links_of, node_site, reads_of, right_spot, root_spot, site_with, where_ok, broken_by}
use Rattle.kc_found.specs.Trials.{Trial, passed, claimed_in, IsUnbroken}
use Rattle.kc_found.specs.Violations.{Violation, missed}
use Rattle.kc_laws.specs.Claiming.{Takes, claims, distinct_takes, from_claims, only_claims, takes_distinct, takes_on, takes_parts}
use Rattle.kc_rb.specs.Faults.{or_else}
use Rattle.kc_rb.specs.Listed.Laws.{OnlyTreesPass, TreesPass}
use Rattle.kc_rb.specs.Listed.Trees.{entered, headed, is_first, is_tree, is_tree_of, listed, popped, pre, turn}
use Rattle.kc_rb.specs.Nodes.{Good, NodesAreGood}
use Rattle.kc_rb.proofs.ListedLemmas.Growing.{Agrees, Grove, Stand, agreed, all_words, claimed_head, claimed_site, entered_by, grove, pres, sum_down, unbroken_head, words_of_node}

-- the numbers of trees that stand there pass
both_true : (a b : Bool) → a ≡ true → b ≡ true → (a && b) ≡ true
both_true true b x y = y
both_true false b x y = absurd (cc)

if_so : (b x y : Bool) → b ≡ true → x ≡ true → (if b then x else y) ≡ true
if_so true x y e f = f
if_so false x y e f = absurd (cc)

if_not : (b x y : Bool) → b ≡ false → y ≡ true → (if b then x else y) ≡ true
if_not true x y e f = absurd (cc)
if_not false x y e f = f

planted : NodesAreGood → (c : RbCourse) (first : Option ℕ) (total : ℕ) (taken : List ℕ) (ss : List RbSpot) (ts : List Tree) (ns : List ℕ) → pres ts ≡ ns → Stand c total ss ts → Agrees first total → Takes taken (all_words c ts) → listed c first taken ss ns ≡ true
planted law c first total taken [] [] [] e st a d = refl
planted law c first total taken [] [] (n ∷ ns) e st a d = absurd (cc)
planted law c first total taken (s ∷ ss) [] ns e st a d = absurd st
planted law c first total taken [] (t ∷ ts) ns e st a d = absurd st
planted law c first total taken (s ∷ ss) (Leaf ∷ ts) [] e st a d = absurd (cc)
planted law c first total taken (s ∷ ss) (Node v l r ∷ ts) [] e st a d = absurd (cc)
planted law c first total taken (s ∷ ss) (Leaf ∷ ts) (n ∷ ns) e st a d =
    let none : n ≡ 0 = cc in
    let rest : pres ts ≡ ns = cc in
    let link : s.link.value ≡ 0 = st.0.1.0 in
    let number : st.0.0 ≡ 0 = st.0.1.1 in
    let sum = st.0.2 in
    let black : s.black ≡ total = omega (arith, sum, number) in
    let both = agreed first s.black total a black in
    both_true (nat_eq n s.link.value) _ (eq-eqb n s.link.value (none ∙ sym link))
    (if_so (nat_eq n 0) _ _ (eq-eqb n 0 none) (both_true (not (differs first s.black)) _ (ap not both.0) (planted law c (Some (or_else first s.black)) total taken ss ts ns rest st.1 both.1 d)))
planted law c first total taken (s ∷ ss) (Node v l r ∷ ts) (n ∷ ns) e st a d =
    let is : IsRb c.read c.shape (Node v l r) s.link.value s.parent s.red st.0.0 s.low s.high = st.0.1 in
    let top : v ≡ n = cc in
    let rest : (pre l ++ pre r) ++ pres ts ≡ ns = cc in
    let w : RbLinks = is.2.0 in
    let el : links_at c s ≡ Ok w = is.2.1 in
    let k : Option RbKey = is.2.4.0 in
    let ek : keys_at c s ≡ Ok k = is.2.4.1 in
    let g : Good c s w k = record { links = el; keys = ek; parent = is.2.2; colour = is.2.3; between = is.2.4.2 } in
    let m : ℕ = is.2.4.3.0 in
    let step : st.0.0 ≡ m + count_of (is_red w.parent.value) = is.2.4.3.1 in
    let down : blacks s w + m ≡ total = sum_down (is_red w.parent.value) s.black st.0.0 m total step st.0.2 in
    let named : all_words c (Node v l r ∷ ts) ≡ all_words c (Node s.link.value l r ∷ ts) = ap (λ x. all_words c (Node x l r ∷ ts)) (sym is.0) in
    let all : Takes taken (pas w ++ all_words c (l ∷ r ∷ ts)) = subst (Takes taken) (named ∙ sym (words_of_node c s w l r ts el)) d in
    let took = takes_parts taken (pas w) (all_words c (l ∷ r ∷ ts)) all in
    let words : claimed_in (node_site c s) ≡ pas w = claimed_site c s (links_at c s) (keys_at c s) w el in
    let site : passed taken (node_site c s) ≡ Ok took.0 = from_claims taken (node_site c s) took.0 ((law c s).1 w k g) (ap (λ ws. passed taken (claims ws)) words ∙ took.1) in
    let below = planted law c first total took.0 (left_spot s w k ∷ right_spot s w k ∷ ss) (l ∷ r ∷ ts) ns (sym (append_assoc (pre l) (pre r) (pres ts)) ∙ rest) ((m, is.2.4.3.2, down), ((m, is.2.4.3.3, down), st.1)) a took.2 in
    both_true (nat_eq n s.link.value) _ (eq-eqb n s.link.value (sym top ∙ sym is.0))
    (if_not (nat_eq n 0) _ _ (subst (λ x. nat_eq x 0 ≡ false) (is.0 ∙ top) is.1) (entered_by (passed taken (node_site c s)) (links_at c s) (keys_at c s) _ took.0 w k site el ek below))

-- the numbers in preorder tell the addresses from left to right
if_null : {A : Type 0} (b : Bool) (x y : A) → b ≡ true → (if b then x else y) ≡ x
if_null true x y e = refl
if_null false x y e = absurd (cc)

if_inner : {A : Type 0} (b : Bool) (x y : A) → b ≡ false → (if b then x else y) ≡ y
if_inner true x y e = absurd (cc)
if_inner false x y e = refl

turn_is : (read : Reads) (shape : RbShape) (t : Tree) (a q : ℕ) (red : Bool) (b : ℕ) (low high : Option ℤ) → IsRb read shape t a q red b low high → (above rest : List ℕ) → turn above (pre t ++ rest) ≡ inorder t ++ popped above (λ ms. turn ms rest)
turn_is read shape Leaf a q red b low high is above rest = refl
turn_is read shape (Node n l r) a q red b low high is above rest =
    let w : RbLinks = is.2.0 in
    let k : Option RbKey = is.2.4.0 in
    let m : ℕ = is.2.4.3.0 in
    let node : nat_eq n 0 ≡ false = subst (λ x. nat_eq x 0 ≡ false) is.0 is.1 in
    let first = turn_is read shape l w.left.value a (is_red w.parent.value) m low (bound_of k) is.2.4.3.2 (n ∷ above) (pre r ++ rest) in
    let second = turn_is read shape r w.right.value a (is_red w.parent.value) m (bound_of k) high is.2.4.3.3 above rest in
    if_inner (nat_eq n 0) (popped above (λ ms. turn ms ((pre l ++ pre r) ++ rest))) (turn (n ∷ above) ((pre l ++ pre r) ++ rest)) node
    ∙ ap (turn (n ∷ above)) (append_assoc (pre l) (pre r) rest) ∙ first ∙ ap (λ xs. inorder l ++ n ∷ xs) second ∙ sym (append_assoc (inorder l) (n ∷ inorder r) (popped above (λ ms. turn ms rest)))

turned : (c : RbCourse) (s : RbSpot) (t : Tree) (number : ℕ) → IsRb c.read c.shape t s.link.value s.parent s.red number s.low s.high → turn [] (pre t) ≡ inorder t
turned c s t number is = ap (turn []) (sym (append-nil (pre t))) ∙ turn_is c.read c.shape t s.link.value s.parent s.red number s.low s.high is [] [] ∙ append-nil (inorder t)

-- the head and the end
headed_is : (p : Result (List ℕ) Violation) (there : Result RbHead Stopped) (go : List ℕ → RbHead → Bool) → headed p there go ≡ true → (taken : List ℕ) × (h : RbHead) × (p ≡ Ok taken) × (there ≡ Ok h) × (go taken h ≡ true)
headed_is (Ok taken) (Ok h) go e = (taken, h, refl, refl, e)
headed_is (Ok taken) (Err m) go e = absurd (cc)
headed_is (Err v) there go e = absurd (cc)

headed_by : (p : Result (List ℕ) Violation) (there : Result RbHead Stopped) (go : List ℕ → RbHead → Bool) (taken : List ℕ) (h : RbHead) → p ≡ Ok taken → there ≡ Ok h → go taken h ≡ true → headed p there go ≡ true
headed_by (Ok t) (Ok x) go taken h a b e = let y : t ≡ taken = cc in let z : x ≡ h = cc in rw (y, z) e
headed_by (Ok t) (Err m) go taken h a b e = absurd (cc)
headed_by (Err v) there go taken h a b e = absurd (cc)

first_is : (l : Option VWord) (ns : List ℕ) → is_first l ns ≡ true → IsFirst l ns
first_is None ns e = tt
first_is (Some w) ns e = eqb-true w.value (get_or ns 0 0) e

first_by : (l : Option VWord) (ns : List ℕ) → IsFirst l ns → is_first l ns ≡ true
first_by None ns e = refl
first_by (Some w) ns e = eq-eqb w.value (get_or ns 0 0) e

tree_from : (c : RbCourse) (h : RbHead) (taken : List ℕ) (ns : List ℕ) → head_at c ≡ Ok h → passed [] (claims (head_words h)) ≡ Ok taken → is_first h.leftmost (turn [] ns) ≡ true → (total : ℕ) (ts : List Tree) → Stand c total (root_spot h.root ∷ []) ts → ns ≡ pres ts →
    Takes taken (all_words c ts) → RbTree c.read c.shape c.asked.start (turn [] ns)
tree_from c h taken ns there words f total [] st num took = absurd st
tree_from c h taken ns there words f total (t ∷ u ∷ ts) st num took = absurd st.1
tree_from c h taken ns there words f total (t ∷ []) st num took =
    let same : ns ≡ pre t = num ∙ append-nil (pre t) in
    let whole = takes_on [] taken (head_words h) (tree_words c.read c.shape t ++ []) words took in
    let all : IsDistinct nat_eq (head_words h ++ tree_words c.read c.shape t) =
    takes_distinct (head_words h ++ tree_words c.read c.shape t) (subst (λ x. Takes [] (head_words h ++ x)) (append-nil (tree_words c.read c.shape t)) whole) in
    record {
      head = h;
      there = there;
      tree = t;
      number = st.0.0;
      is = st.0.1;
      different = all;
      first = first_is h.leftmost (turn [] ns) f;
      order = sym (ap (turn []) same ∙ turned c (root_spot h.root) t st.0.0 st.0.1);
    }

only_trees_of : NodesAreGood → (c : RbCourse) (ns : List ℕ) → is_tree_of c ns ≡ true → RbTree c.read c.shape c.asked.start (turn [] ns)
only_trees_of law c ns e =
    let o = headed_is (passed [] (head_site c)) (head_at c) (λ taken h. listed c None taken (root_spot h.root ∷ []) ns && is_first h.leftmost (turn [] ns)) e in
    let taken : List ℕ = o.0 in
    let h : RbHead = o.1 in
    let parts = and_parts (listed c None taken (root_spot h.root ∷ []) ns) (is_first h.leftmost (turn [] ns)) o.4 in
    let g = grove law c None taken (root_spot h.root ∷ []) ns parts.0 in
    let words : passed [] (claims (head_words h)) ≡ Ok taken = ap (λ ws. passed [] (claims ws)) (sym (claimed_head c (head_at c) h o.3)) ∙ only_claims [] (head_site c) taken o.2 in
    tree_from c h taken ns o.3 words parts.1 g.total g.trees g.stand g.numbers g.takes

pub only_trees : NodesAreGood → OnlyTreesPass
unfolding is_tree
only_trees law image shape start ns e = only_trees_of law (course_of image shape (record { audit = 0; start = start })) ns e

trees_pass_of : NodesAreGood → (c : RbCourse) (ms : List ℕ) (t : RbTree c.read c.shape c.asked.start ms) → (is_tree_of c (pre t.tree) ≡ true) × (turn [] (pre t.tree) ≡ ms)
trees_pass_of law c ms t =
    let h : RbHead = t.head in
    let there : head_at c ≡ Ok h = t.there in
    let order : turn [] (pre t.tree) ≡ ms = turned c (root_spot h.root) t.tree t.number t.is ∙ t.order in
    let claimed : claimed_in {X = ℕ} (head_site c) ≡ head_words h = claimed_head c (head_at c) h there in
    let words = tree_words c.read c.shape t.tree in
    let took = takes_parts [] (head_words h) words (distinct_takes (head_words h ++ words) t.different) in
    let site : passed {X = ℕ} [] (head_site c) ≡ Ok took.0 = from_claims [] (head_site c) took.0 (unbroken_head c (head_at c) h there) (ap (λ ws. passed [] (claims ws)) claimed ∙ took.1) in
    let all : Takes took.0 (all_words c (t.tree ∷ [])) = subst (Takes took.0) (sym (append-nil words)) took.2 in
    let is : listed c None took.0 (root_spot h.root ∷ []) (pre t.tree) ≡ true = planted law c None t.number took.0 (root_spot h.root ∷ []) (t.tree ∷ []) (pre t.tree) (append-nil (pre t.tree)) ((t.number, t.is, omega arith), tt) tt all in
    (headed_by (passed [] (head_site c)) (head_at c) _ took.0 h site there (both_true _ (is_first h.leftmost (turn [] (pre t.tree))) is (first_by h.leftmost (turn [] (pre t.tree)) (subst (IsFirst h.leftmost) (sym order) t.first))), order)

pub trees_pass : NodesAreGood → TreesPass
unfolding is_tree
trees_pass law image shape start ms t = trees_pass_of law (course_of image shape (record { audit = 0; start = start })) ms t
