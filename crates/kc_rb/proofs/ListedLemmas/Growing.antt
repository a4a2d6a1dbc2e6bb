-- Numbers that pass the test of a tree are those of a finite tree in preorder.
use Rattle.std.proofs.Common.{◌≡◌, ℕ, zero, suc, ◌+◌, nat_eq, Bool, true, false, ◌&&◌, List, [], ◌∷◌, ◌++◌, length, Option, Some, None, refl, sym, ◌∙◌, ap, subst, arith, eq-eqb, append_assoc, append-nil}
use Rattle.std.specs.Prelude.{Result, Ok, Err, not, get_or, ⊤, ℤ, if◌then◌else◌}
use Rattle.std.specs.List.{IsDistinct, AllByRecursion}
use Rattle.std.proofs.lemmas.Bool.{and_parts, eqb-true}
use Rattle.kc_memory.specs.declared.words.VWord.{VWord}
use Rattle.kc_memory.specs.Image.{Image}
use Rattle.kc_memory.specs.Stopped.{Stopped}
use Rattle.kc_found.specs.declared.asked.Asked.{Asked}
use Rattle.kc_found.specs.declared.shapes.RbShape.{RbShape}
use Rattle.kc_found.specs.declared.trees.RbHead.{RbHead}
use Rattle.kc_found.specs.declared.trees.RbKey.{RbKey}
use Rattle.kc_found.specs.declared.trees.RbLinks.{RbLinks}
use Rattle.kc_found.specs.declared.trees.RbSpot.{RbSpot}
use Rattle.kc_found.specs.RbFinite.{Tree, Leaf, Node, inorder, IsRb, IsFirst, RbTree, count_of, head_words, leftmost_word, pas, pas_of, tree_words}
use Rattle.kc_found.specs.RbTrees.{Reads, RbCourse, blacks, bound_of, course_of, differs, head_at, head_claims, head_site, is_red, key_fault, keys_at, left_spot, leftmost_claims, link_fault, links_at, links_of, node_site, reads_of, right_spot, root_spot, site_with, where_ok, broken_by}
use Rattle.kc_found.specs.Trials.{Trial, passed, claimed_in, IsUnbroken}
use Rattle.kc_found.specs.Violations.{Violation, missed}
use Rattle.kc_laws.specs.Trials.{passed_is}
use Rattle.kc_rb.specs.Faults.{or_else}
use Rattle.kc_rb.specs.Listed.Trees.{entered, headed, is_first, is_tree, is_tree_of, listed, popped, pre, turn}
use Rattle.kc_rb.specs.Nodes.{Good, NodesAreGood}
use Rattle.kc_laws.specs.Claiming.{Takes, claims, only_claims, takes_on}

-- trees one after another
abbrev pub pres : List Tree → List ℕ
pres [] = []
pres (t ∷ ts) = pre t ++ pres ts

abbrev pub all_words : RbCourse → List Tree → List ℕ
all_words c [] = []
all_words c (t ∷ ts) = tree_words c.read c.shape t ++ all_words c ts

-- they stand at these positions, with so many black nodes above each null
abbrev pub Stand : RbCourse → ℕ → List RbSpot → List Tree → Type 0
Stand c total [] [] = ⊤
Stand c total [] (t ∷ ts) = ⊥
Stand c total (s ∷ ss) [] = ⊥
Stand c total (s ∷ ss) (t ∷ ts) = ((number : ℕ) × IsRb c.read c.shape t s.link.value s.parent s.red number s.low s.high × (s.black + number ≡ total)) × Stand c total ss ts

abbrev pub Agrees : Option ℕ → ℕ → Type 0
Agrees None total = ⊤
Agrees (Some n) total = n ≡ total

not_differs : (m n : ℕ) (b : Bool) → nat_eq m n ≡ b → not b ≡ false → m ≡ n
not_differs m n true is e = eqb-true m n is
not_differs m n false is e = absurd (cc)

settles : (first : Option ℕ) (b total : ℕ) → differs first b ≡ false → or_else first b ≡ total → Agrees first total × (b ≡ total)
settles None b total d e = (tt, e)
settles (Some m) b total d e = (e, sym (not_differs m b (nat_eq m b) refl d) ∙ e)

pub agreed : (first : Option ℕ) (b total : ℕ) → Agrees first total → b ≡ total → (differs first b ≡ false) × (or_else first b ≡ total)
agreed None b total a e = (refl, e)
agreed (Some m) b total a e = (ap not (eq-eqb m b (a ∙ sym e)), a)

-- what the words of a head and of a node are
no_claim : (a : Option Violation) → claimed_in {X = ℕ} (broken_by a) ≡ []
no_claim None = refl
no_claim (Some f) = refl

rules_claim : (a : Option Violation) (key : Result (Option RbKey) Stopped) (stop : Stopped → Violation) (go : Option RbKey → Option Violation) → claimed_in {X = ℕ} (broken_by a ++ where_ok key stop (λ k. broken_by (go k))) ≡ []
rules_claim None (Ok k) stop go = no_claim (go k)
rules_claim None (Err m) stop go = refl
rules_claim (Some f) (Ok k) stop go = no_claim (go k)
rules_claim (Some f) (Err m) stop go = refl

pub claimed_site : (c : RbCourse) (s : RbSpot) (there : Result RbLinks Stopped) (key : Result (Option RbKey) Stopped) (n : RbLinks) → there ≡ Ok n → claimed_in (site_with c s there key) ≡ pas n
claimed_site c s (Ok n') key n e = let same : n' ≡ n = cc in ap (λ xs. pas n' ++ xs) (rules_claim (link_fault c.asked s n') key (missed c.asked (Some s.link)) (key_fault c.asked c.shape.unique s)) ∙ ap pas same
claimed_site c s (Err m) key n e = absurd (cc)

claimed_leftmost : (asked : Asked) (l : Option VWord) → claimed_in {X = ℕ} (leftmost_claims asked l) ≡ leftmost_word l
claimed_leftmost asked None = refl
claimed_leftmost asked (Some w) = refl

pub claimed_head : (c : RbCourse) (there : Result RbHead Stopped) (h : RbHead) → there ≡ Ok h → claimed_in {X = ℕ} (where_ok there (missed c.asked None) (head_claims c.asked)) ≡ head_words h
claimed_head c (Ok x) h e = let same : x ≡ h = cc in ap (λ xs. x.root.pa ∷ xs) (claimed_leftmost c.asked x.leftmost) ∙ ap head_words same
claimed_head c (Err m) h e = absurd (cc)

unbroken_leftmost : (asked : Asked) (l : Option VWord) → IsUnbroken {X = ℕ} (leftmost_claims asked l)
unbroken_leftmost asked None = tt
unbroken_leftmost asked (Some w) = tt

pub unbroken_head : (c : RbCourse) (there : Result RbHead Stopped) (h : RbHead) → there ≡ Ok h → IsUnbroken {X = ℕ} (where_ok there (missed c.asked None) (head_claims c.asked))
unbroken_head c (Ok x) h e = unbroken_leftmost c.asked x.leftmost
unbroken_head c (Err m) h e = absurd (cc)

words_are : (there : Result RbLinks Stopped) (n : RbLinks) → there ≡ Ok n → pas_of there ≡ pas n
words_are (Ok x) n e = let same : x ≡ n = cc in ap pas same
words_are (Err m) n e = absurd (cc)

sum_up : (red : Bool) (b m total : ℕ) → (if red then b else b + 1) + m ≡ total → b + (m + (if red then 0 else 1)) ≡ total
sum_up true b m total e = omega (arith, e)
sum_up false b m total e = omega (arith, e)

pub sum_down : (red : Bool) (b n m total : ℕ) → n ≡ m + (if red then 0 else 1) → b + n ≡ total → (if red then b else b + 1) + m ≡ total
sum_down true b n m total e d = omega (arith, e, d)
sum_down false b n m total e d = omega (arith, e, d)

regroup : (p l r t : List ℕ) → p ++ (l ++ (r ++ t)) ≡ (p ++ (l ++ r)) ++ t
regroup p l r t = ap (λ x. p ++ x) (sym (append_assoc l r t)) ∙ sym (append_assoc p (l ++ r) t)

-- the words of a node and of all below it
pub words_of_node : (c : RbCourse) (s : RbSpot) (w : RbLinks) (l r : Tree) (ts : List Tree) → links_at c s ≡ Ok w → pas w ++ all_words c (l ∷ r ∷ ts) ≡ all_words c (Node s.link.value l r ∷ ts)
words_of_node c s w l r ts el =
    let a = tree_words c.read c.shape l in
    let b = tree_words c.read c.shape r in
    regroup (pas w) a b (all_words c ts) ∙ ap (λ x. (x ++ (a ++ b)) ++ all_words c ts) (sym (words_are (links_of c.read.word c.shape s.link.value) w el))

-- what a node that is entered gives
entered_is : (p : Result (List ℕ) Violation) (there : Result RbLinks Stopped) (key : Result (Option RbKey) Stopped) (go : List ℕ → RbLinks → Option RbKey → Bool) → entered p there key go ≡ true →
    (more : List ℕ) × (w : RbLinks) × (k : Option RbKey) × (p ≡ Ok more) × (there ≡ Ok w) × (key ≡ Ok k) × (go more w k ≡ true)
entered_is (Ok more) (Ok w) (Ok k) go e = (more, w, k, refl, refl, refl, e)
entered_is (Ok more) (Ok w) (Err m) go e = absurd (cc)
entered_is (Ok more) (Err m) key go e = absurd (cc)
entered_is (Err v) there key go e = absurd (cc)

pub entered_by : (p : Result (List ℕ) Violation) (there : Result RbLinks Stopped) (key : Result (Option RbKey) Stopped) (go : List ℕ → RbLinks → Option RbKey → Bool) (more : List ℕ) (w : RbLinks) (k : Option RbKey) →
    p ≡ Ok more → there ≡ Ok w → key ≡ Ok k → go more w k ≡ true → entered p there key go ≡ true
entered_by (Ok m) (Ok v) (Ok l) go more w k a b d e = let x : m ≡ more = cc in let y : v ≡ w = cc in let z : l ≡ k = cc in rw (x, y, z) e
entered_by (Ok m) (Ok v) (Err s) go more w k a b d e = absurd (cc)
entered_by (Ok m) (Err s) key go more w k a b d e = absurd (cc)
entered_by (Err v) there key go more w k a b d e = absurd (cc)

-- numbers that pass are those of trees that stand there
pub record Grove (c : RbCourse) (first : Option ℕ) (taken : List ℕ) (ss : List RbSpot) (ns : List ℕ) : Type 0 where
  pub trees : List Tree
  pub total : ℕ
  pub agrees : Agrees first total
  pub stand : Stand c total ss trees
  pub numbers : ns ≡ pres trees
  pub takes : Takes taken (all_words c trees)

bare : (c : RbCourse) (first : Option ℕ) (taken : List ℕ) → Grove c first taken [] []
bare c None taken = record { trees = []; total = 0; agrees = tt; stand = tt; numbers = refl; takes = (taken, refl) }
bare c (Some n) taken = record { trees = []; total = n; agrees = refl; stand = tt; numbers = refl; takes = (taken, refl) }

with_null : (c : RbCourse) (first : Option ℕ) (taken : List ℕ) (s : RbSpot) (ss : List RbSpot) (n : ℕ) (ns : List ℕ) → n ≡ s.link.value → nat_eq n 0 ≡ true → differs first s.black ≡ false →
    Grove c (Some (or_else first s.black)) taken ss ns → Grove c first taken (s ∷ ss) (n ∷ ns)
with_null c first taken s ss n ns link null d g =
    let none : n ≡ 0 = eqb-true n 0 null in
    let both = settles first s.black g.total d g.agrees in
    let sum = both.1 in
    record {
      trees = Leaf ∷ g.trees;
      total = g.total;
      agrees = both.0;
      stand = ((0, (sym link ∙ none, refl), omega (arith, sum)), g.stand);
      numbers = ap (λ x. x ∷ ns) none ∙ ap (λ xs. 0 ∷ xs) g.numbers;
      takes = g.takes;
    }

node_from : NodesAreGood → (c : RbCourse) (first : Option ℕ) (taken : List ℕ) (s : RbSpot) (ss : List RbSpot) (n : ℕ) (ns more : List ℕ) (w : RbLinks) (k : Option RbKey) → n ≡ s.link.value → nat_eq n 0 ≡ false →
    passed taken (node_site c s) ≡ Ok more → links_at c s ≡ Ok w → keys_at c s ≡ Ok k → (trees : List Tree) (total : ℕ) → Agrees first total → Stand c total (left_spot s w k ∷ right_spot s w k ∷ ss) trees → ns ≡ pres trees →
    Takes more (all_words c trees) → Grove c first taken (s ∷ ss) (n ∷ ns)
node_from law c first taken s ss n ns more w k link inner e el ek [] total a st num took = absurd st
node_from law c first taken s ss n ns more w k link inner e el ek (l ∷ []) total a st num took = absurd st.1
node_from law c first taken s ss n ns more w k link inner e el ek (l ∷ r ∷ ts) total a st num took =
    let is = passed_is {X = ℕ} taken (node_site c s) more e in
    let o = (law c s).0 is.unbroken in
    let old : Good c s o.0 o.1 = o.2 in
    let same_w : o.0 ≡ w = let x = old.links in cc in
    let same_k : o.1 ≡ k = let x = old.keys in cc in
    let g : Good c s w k = subst (λ y. Good c s w y) same_k (subst (λ x. Good c s x o.1) same_w old) in
    let m : ℕ = st.0.0 in
    let lsum : blacks s w + m ≡ total = st.0.2 in
    let rsum : blacks s w + st.1.0.0 ≡ total = st.1.0.2 in
    let same : st.1.0.0 ≡ m = omega (arith, lsum, rsum) in
    let right = subst (λ x. IsRb c.read c.shape r w.right.value s.link.value (is_red w.parent.value) x (bound_of k) s.high) same st.1.0.1 in
    let words : passed taken (claims (pas w)) ≡ Ok more = ap (λ ws. passed taken (claims ws)) (sym (claimed_site c s (links_at c s) (keys_at c s) w el)) ∙ only_claims taken (node_site c s) more e in
    record {
      trees = Node s.link.value l r ∷ ts;
      total = total;
      agrees = a;
      stand = ((m + count_of (is_red w.parent.value), (refl, subst (λ x. nat_eq x 0 ≡ false) link inner, (w, el, g.parent, g.colour, (k, ek, g.between, (m, refl, st.0.1, right)))), sum_up (is_red w.parent.value) s.black m total lsum), st.1.1);
      numbers = ap (λ x. x ∷ ns) link ∙ ap (λ xs. s.link.value ∷ xs) (num ∙ sym (append_assoc (pre l) (pre r) (pres ts)));
      takes = subst (Takes taken) (words_of_node c s w l r ts el) (takes_on taken more (pas w) (all_words c (l ∷ r ∷ ts)) words took);
    }

not_false : (b : Bool) → not b ≡ true → b ≡ false
not_false true e = absurd (cc)
not_false false e = refl

grove_at : NodesAreGood → (c : RbCourse) (first : Option ℕ) (taken : List ℕ) (s : RbSpot) (ss : List RbSpot) (n : ℕ) (ns : List ℕ) (b : Bool) → nat_eq n 0 ≡ b → n ≡ s.link.value →
    (if b then (not (differs first s.black) && listed c (Some (or_else first s.black)) taken ss ns)
    else entered (passed taken (node_site c s)) (links_at c s) (keys_at c s) (λ more w k. listed c first more (left_spot s w k ∷ right_spot s w k ∷ ss) ns)) ≡ true →
    (listed c (Some (or_else first s.black)) taken ss ns ≡ true → Grove c (Some (or_else first s.black)) taken ss ns) →
    ((more : List ℕ) (w : RbLinks) (k : Option RbKey) → listed c first more (left_spot s w k ∷ right_spot s w k ∷ ss) ns ≡ true → Grove c first more (left_spot s w k ∷ right_spot s w k ∷ ss) ns) → Grove c first taken (s ∷ ss) (n ∷ ns)
grove_at law c first taken s ss n ns true null link e on_null on_node =
    let parts = and_parts (not (differs first s.black)) (listed c (Some (or_else first s.black)) taken ss ns) e in
    with_null c first taken s ss n ns link null (not_false (differs first s.black) parts.0) (on_null parts.1)
grove_at law c first taken s ss n ns false inner link e on_null on_node =
    let o = entered_is (passed taken (node_site c s)) (links_at c s) (keys_at c s) (λ more w k. listed c first more (left_spot s w k ∷ right_spot s w k ∷ ss) ns) e in
    let g = on_node o.0 o.1 o.2 o.6 in
    node_from law c first taken s ss n ns o.0 o.1 o.2 link inner o.3 o.4 o.5 g.trees g.total g.agrees g.stand g.numbers g.takes

pub grove : NodesAreGood → (c : RbCourse) (first : Option ℕ) (taken : List ℕ) (ss : List RbSpot) (ns : List ℕ) → listed c first taken ss ns ≡ true → Grove c first taken ss ns
grove law c first taken [] [] e = bare c first taken
grove law c first taken (s ∷ ss) [] e = absurd (cc)
grove law c first taken [] (n ∷ ns) e = absurd (cc)
grove law c first taken (s ∷ ss) (n ∷ ns) e =
    let parts = and_parts (nat_eq n s.link.value) _ e in
    grove_at law c first taken s ss n ns (nat_eq n 0) refl (eqb-true n s.link.value parts.0) parts.1 (λ f. grove law c (Some (or_else first s.black)) taken ss ns f) (λ more w k f. grove law c first more (left_spot s w k ∷ right_spot s w k ∷ ss) ns f)
