-- The trials of a position without a broken rule go over a finite tree, and those of a finite tree break no rule.
use Rattle.std.proofs.Common.{◌≡◌, ℕ, zero, suc, ◌+◌, ◌*◌, ◌<◌, ◌≤◌, nat_eq, Bool, true, false, List, [], ◌∷◌, ◌++◌, length, Option, Some, refl, sym, ◌∙◌, ap, arith, ◌⊎◌, inl, inr, length-append, eq-eqb}
use Rattle.std.specs.Prelude.{Result, Ok, Err, if◌then◌else◌, not}
use Rattle.std.specs.Cmp.{nat_eq_equiv}
use Rattle.std.proofs.lemmas.Bool.{eqb-true}
use Rattle.kc_memory.specs.Stopped.{Stopped}
use Rattle.kc_memory.specs.declared.rule.Rule.TheVariants.{R5}
use Rattle.kc_found.specs.declared.trees.RbKey.{RbKey}
use Rattle.kc_found.specs.declared.trees.RbLinks.{RbLinks}
use Rattle.kc_found.specs.declared.trees.RbSpot.{RbSpot}
use Rattle.kc_found.specs.RbFinite.{Tree, Leaf, Node, inorder, IsRb, tree_words, pas, pas_of, count_of}
use Rattle.kc_found.specs.RbTrees.{RbCourse, links_of, links_at, keys_at, node_site, null_site, nulls, tree_trials, left_spot, right_spot, blacks, bound_of, is_red, key_in, behind_ok}
use Rattle.kc_found.specs.Trials.{Trial, Meet, broken_if, met, claimed_in, IsUnbroken}
use Rattle.kc_found.specs.Violations.{Violation, breaks}
use Rattle.kc_laws.specs.Trials.{met-append, claimed_in-append, unbroken_parts, unbroken_whole}
use Rattle.kc_rb.proofs.Descent.{at_null, at_node, node_is, nulls_null, nulls_node, nulls_is, claimed_site, met_site}
use Rattle.kc_rb.specs.Nodes.{Good}
use Rattle.kc_rb.proofs.Opening.{good, fine}

-- the trials below a node
abbrev pub below : RbCourse → Option ℕ → ℕ → RbSpot → RbLinks → Option RbKey → List (Trial ℕ)
below c b left s n k = tree_trials c b left (left_spot s n k) ++ (Meet s.link.value ∷ tree_trials c b left (right_spot s n k))

pub node_trials : (c : RbCourse) (b : Option ℕ) (left : ℕ) (s : RbSpot) (n : RbLinks) (k : Option RbKey) → nat_eq s.link.value 0 ≡ false → links_at c s ≡ Ok n → keys_at c s ≡ Ok k → tree_trials c b (suc left) s ≡ node_site c s ++ below c b left s n k
node_trials c b left s n k node en ek = at_node c b left s node ∙ node_is c b left s (links_at c s) (keys_at c s) n k en ek

-- a spot without a violation is a null or a good node
pub record Opened (c : RbCourse) (b : Option ℕ) (left : ℕ) (s : RbSpot) : Type 0 where
  pub links : RbLinks
  pub key : Option RbKey
  pub inner : nat_eq s.link.value 0 ≡ false
  pub good : Good c s links key
  pub trials : tree_trials c b (suc left) s ≡ node_site c s ++ below c b left s links key
  pub lefts : IsUnbroken (tree_trials c b left (left_spot s links key))
  pub rights : IsUnbroken (tree_trials c b left (right_spot s links key))

opened_node : (c : RbCourse) (b : Option ℕ) (left : ℕ) (s : RbSpot) → nat_eq s.link.value 0 ≡ false → IsUnbroken (tree_trials c b (suc left) s) → Opened c b left s
opened_node c b left s node u =
    let site = node_site c s in
    let rest = behind_ok (links_at c s) (λ n. tree_trials c b left (left_spot s n (key_in (keys_at c s))) ++ (Meet s.link.value ∷ tree_trials c b left (right_spot s n (key_in (keys_at c s))))) in
    let site_good : IsUnbroken site = (unbroken_parts site rest (rw (at_node c b left s node) at u)).0 in
    let g = good c s (links_at c s) (keys_at c s) refl refl site_good in
    let n = g.0 in
    let k = g.1 in
    let is = node_trials c b left s n k node g.2.links g.2.keys in
    let children : IsUnbroken (below c b left s n k) = (unbroken_parts site (below c b left s n k) (rw is at u)).1 in
    let parts = unbroken_parts (tree_trials c b left (left_spot s n k)) (Meet s.link.value ∷ tree_trials c b left (right_spot s n k)) children in
    record { links = n; key = k; inner = node; good = g.2; trials = is; lefts = parts.0; rights = parts.1 }

opened_at : (c : RbCourse) (b : Option ℕ) (left : ℕ) (s : RbSpot) (t : Bool) → nat_eq s.link.value 0 ≡ t → IsUnbroken (tree_trials c b (suc left) s) → (nat_eq s.link.value 0 ≡ true) ⊎ Opened c b left s
opened_at c b left s true e u = inl e
opened_at c b left s false e u = inr (opened_node c b left s e u)

pub opened : (c : RbCourse) (b : Option ℕ) (left : ℕ) (s : RbSpot) → IsUnbroken (tree_trials c b (suc left) s) → (nat_eq s.link.value 0 ≡ true) ⊎ Opened c b left s
opened c b left s u = opened_at c b left s (nat_eq s.link.value 0) refl u

pub split_claims : (c : RbCourse) (b : Option ℕ) (left : ℕ) (s : RbSpot) (n : RbLinks) (k : Option RbKey) → links_at c s ≡ Ok n → tree_trials c b (suc left) s ≡ node_site c s ++ below c b left s n k →
    claimed_in (tree_trials c b (suc left) s) ≡ pas n ++ (claimed_in (tree_trials c b left (left_spot s n k)) ++ claimed_in (tree_trials c b left (right_spot s n k)))
split_claims c b left s n k en is =
    ap claimed_in is ∙ claimed_in-append (node_site c s) (below c b left s n k) ∙ ap (λ xs. xs ++ claimed_in (below c b left s n k)) (claimed_site c s (links_at c s) (keys_at c s) n en)
    ∙ ap (λ xs. pas n ++ xs) (claimed_in-append (tree_trials c b left (left_spot s n k)) (Meet s.link.value ∷ tree_trials c b left (right_spot s n k)))

split_meets : (c : RbCourse) (b : Option ℕ) (left : ℕ) (s : RbSpot) (n : RbLinks) (k : Option RbKey) → tree_trials c b (suc left) s ≡ node_site c s ++ below c b left s n k →
    met (tree_trials c b (suc left) s) ≡ met (tree_trials c b left (left_spot s n k)) ++ s.link.value ∷ met (tree_trials c b left (right_spot s n k))
split_meets c b left s n k is =
    ap met is ∙ met-append (node_site c s) (below c b left s n k) ∙ ap (λ xs. xs ++ met (below c b left s n k)) (met_site c s (links_at c s) (keys_at c s))
    ∙ met-append (tree_trials c b left (left_spot s n k)) (Meet s.link.value ∷ tree_trials c b left (right_spot s n k))

pub words_are : (there : Result RbLinks Stopped) (n : RbLinks) → there ≡ Ok n → pas_of there ≡ pas n
words_are (Ok x) n e = let same : x ≡ n = cc in ap pas same
words_are (Err m) n e = absurd (cc)

-- the finite tree that trials without a broken rule go over; `total` black nodes are above each null
pub record Grown (c : RbCourse) (total left : ℕ) (s : RbSpot) : Type 0 where
  pub tree : Tree
  pub number : ℕ
  pub is : IsRb c.read c.shape tree s.link.value s.parent s.red number s.low s.high
  pub sum : s.black + number ≡ total
  pub meets : met (tree_trials c (Some total) left s) ≡ inorder tree
  pub claims : claimed_in (tree_trials c (Some total) left s) ≡ tree_words c.read c.shape tree

unbroken_test : (t : Bool) (f : Violation) → IsUnbroken {X = ℕ} (broken_if (not t) f) → t ≡ true
unbroken_test true f u = refl
unbroken_test false f u = absurd u

null_trials : (c : RbCourse) (total : ℕ) (s : RbSpot) → total ≡ s.black → null_site c.asked (Some total) s ≡ []
null_trials c total s e = rw (e, nat_eq_equiv.refl s.black) refl

grown_null : (c : RbCourse) (total left : ℕ) (s : RbSpot) → nat_eq s.link.value 0 ≡ true → IsUnbroken (tree_trials c (Some total) (suc left) s) → Grown c total (suc left) s
grown_null c total left s null u =
    let is = at_null c (Some total) left s null in
    let same : total ≡ s.black = eqb-true _ _ (unbroken_test (nat_eq total s.black) (breaks c.asked R5 s.link (Some total)) (rw is at u)) in
    let none = is ∙ null_trials c total s same in
    record { tree = Leaf; number = 0; is = (eqb-true _ _ null, refl); sum = omega (arith, same); meets = ap met none; claims = ap claimed_in none }

sum_up : (red : Bool) (b m total : ℕ) → (if red then b else b + 1) + m ≡ total → b + (m + (if red then 0 else 1)) ≡ total
sum_up true b m total e = omega (arith, e)
sum_up false b m total e = omega (arith, e)

grown_node : (c : RbCourse) (total left : ℕ) (s : RbSpot) (o : Opened c (Some total) left s) → Grown c total left (left_spot s o.links o.key) → Grown c total left (right_spot s o.links o.key) → Grown c total (suc left) s
grown_node c total left s o l r =
    let n = o.links in
    let k = o.key in
    let lsum : blacks s n + l.number ≡ total = l.sum in
    let rsum : blacks s n + r.number ≡ total = r.sum in
    let same : r.number ≡ l.number = omega (arith, lsum, rsum) in
    let right : IsRb c.read c.shape r.tree n.right.value s.link.value (is_red n.parent.value) l.number (bound_of k) s.high = rw same at r.is in
    let words = words_are (links_of c.read.word c.shape s.link.value) n o.good.links in
    record {
      tree = Node s.link.value l.tree r.tree;
      number = l.number + count_of (is_red n.parent.value);
      is = (refl, o.inner, (n, o.good.links, o.good.parent, o.good.colour, (k, o.good.keys, o.good.between, (l.number, refl, l.is, right))));
      sum = sum_up (is_red n.parent.value) s.black l.number total lsum;
      meets = split_meets c (Some total) left s n k o.trials ∙ ap (λ xs. xs ++ s.link.value ∷ met (tree_trials c (Some total) left (right_spot s n k))) l.meets ∙ ap (λ xs. inorder l.tree ++ s.link.value ∷ xs) r.meets;
      claims = split_claims c (Some total) left s n k o.good.links o.trials ∙ ap (λ xs. pas n ++ (xs ++ claimed_in (tree_trials c (Some total) left (right_spot s n k)))) l.claims
          ∙ ap (λ xs. pas n ++ (tree_words c.read c.shape l.tree ++ xs)) r.claims ∙ sym (ap (λ xs. xs ++ (tree_words c.read c.shape l.tree ++ tree_words c.read c.shape r.tree)) words);
    }

abbrev pub IsLong : RbCourse → Option ℕ → ℕ → RbSpot → Type 0
IsLong c b left s = 3 * left ≤ length (claimed_in (tree_trials c b left s))

long_node : (c : RbCourse) (b : Option ℕ) (left : ℕ) (s : RbSpot) (o : Opened c b left s) → IsLong c b left (left_spot s o.links o.key) ⊎ IsLong c b left (right_spot s o.links o.key) → IsLong c b (suc left) s
long_node c b left s o h =
    let xs = claimed_in (tree_trials c b left (left_spot s o.links o.key)) in
    let ys = claimed_in (tree_trials c b left (right_spot s o.links o.key)) in
    let all = ap length (split_claims c b left s o.links o.key o.good.links o.trials) in
    let both = length-append xs ys in
    elim h [ inl le ↦ omega (arith, le, all, both) | inr le ↦ omega (arith, le, all, both) ]

grown_both : (c : RbCourse) (total left : ℕ) (s : RbSpot) (o : Opened c (Some total) left s) → Grown c total left (left_spot s o.links o.key) ⊎ IsLong c (Some total) left (left_spot s o.links o.key) →
    Grown c total left (right_spot s o.links o.key) ⊎ IsLong c (Some total) left (right_spot s o.links o.key) → Grown c total (suc left) s ⊎ IsLong c (Some total) (suc left) s
grown_both c total left s o (inl l) (inl r) = inl (grown_node c total left s o l r)
grown_both c total left s o (inl l) (inr le) = inr (long_node c (Some total) left s o (inr le))
grown_both c total left s o (inr le) r = inr (long_node c (Some total) left s o (inl le))

-- the tree, or a way down as long as the trials reach
pub grown : (c : RbCourse) (total left : ℕ) (s : RbSpot) → IsUnbroken (tree_trials c (Some total) left s) → Grown c total left s ⊎ IsLong c (Some total) left s
grown c total zero s u = inr (omega arith)
grown c total (suc left) s u = elim (opened c (Some total) left s u) [
  | inl null ↦ inl (grown_null c total left s null u)
  | inr o ↦ grown_both c total left s o (grown c total left (left_spot s o.links o.key) o.lefts) (grown c total left (right_spot s o.links o.key) o.rights)
]

front_none : (xs ys : List ℕ) → xs ++ ys ≡ [] → xs ≡ []
front_none [] ys e = refl
front_none (x ∷ xs) ys e = absurd (cc)

-- without a null the first way down is as long as the trials reach
pub no_null : (c : RbCourse) (b : Option ℕ) (left : ℕ) (s : RbSpot) → nulls c left s ≡ [] → IsUnbroken (tree_trials c b left s) → IsLong c b left s
no_null c b zero s e u = omega arith
no_null c b (suc left) s e u = elim (opened c b left s u) [
  | inl null ↦ absurd (let one : s.black ∷ [] ≡ [] = sym (nulls_null c left s null) ∙ e in cc)
  | inr o ↦
      let two = sym (nulls_node c left s o.inner ∙ nulls_is c left s (links_at c s) (keys_at c s) o.links o.key o.good.links o.good.keys) ∙ e in
      long_node c b left s o (inl (no_null c b left (left_spot s o.links o.key) (front_none _ (nulls c left (right_spot s o.links o.key)) two) o.lefts))
]

-- the trials of a finite tree
pub record Regrown (c : RbCourse) (total left : ℕ) (s : RbSpot) (t : Tree) : Type 0 where
  pub unbroken : IsUnbroken (tree_trials c (Some total) left s)
  pub meets : met (tree_trials c (Some total) left s) ≡ inorder t
  pub claims : claimed_in (tree_trials c (Some total) left s) ≡ tree_words c.read c.shape t
  pub more : List ℕ
  pub nulls_are : nulls c left s ≡ total ∷ more

sum_down : (red : Bool) (b n m total : ℕ) → n ≡ m + (if red then 0 else 1) → b + n ≡ total → (if red then b else b + 1) + m ≡ total
sum_down true b n m total e d = omega (arith, e, d)
sum_down false b n m total e d = omega (arith, e, d)

pub regrown : (c : RbCourse) (total left : ℕ) (s : RbSpot) (t : Tree) (number : ℕ) → IsRb c.read c.shape t s.link.value s.parent s.red number s.low s.high → s.black + number ≡ total → length (tree_words c.read c.shape t) < 3 * left → Regrown c total left s t
regrown c total zero s t number h sum lt = absurd (omega arith)
regrown c total (suc left) s Leaf number h sum lt =
    let null : nat_eq s.link.value 0 ≡ true = eq-eqb _ _ h.0 in
    let same : total ≡ s.black = omega (arith, sum, h.1) in
    let none = at_null c (Some total) left s null ∙ null_trials c total s same in
    record { unbroken = rw none tt; meets = ap met none; claims = ap claimed_in none; more = []; nulls_are = nulls_null c left s null ∙ ap (λ x. x ∷ []) (sym same) }
regrown c total (suc left) s (Node a l r) number h sum lt =
    let n : RbLinks = h.2.0 in
    let en : links_at c s ≡ Ok n = h.2.1 in
    let k : Option RbKey = h.2.4.0 in
    let ek : keys_at c s ≡ Ok k = h.2.4.1 in
    let g : Good c s n k = record { links = en; keys = ek; parent = h.2.2; colour = h.2.3; between = h.2.4.2 } in
    let m : ℕ = h.2.4.3.0 in
    let step : number ≡ m + count_of (is_red n.parent.value) = h.2.4.3.1 in
    let is = node_trials c (Some total) left s n k h.1 en ek in
    let down : blacks s n + m ≡ total = sum_down (is_red n.parent.value) s.black number m total step sum in
    let words : tree_words c.read c.shape (Node a l r) ≡ pas n ++ (tree_words c.read c.shape l ++ tree_words c.read c.shape r) =
    ap (λ xs. xs ++ (tree_words c.read c.shape l ++ tree_words c.read c.shape r)) (words_are (links_of c.read.word c.shape a) n (rw h.0 at en)) in
    let long = ap length words in
    let both = length-append (tree_words c.read c.shape l) (tree_words c.read c.shape r) in
    let x = regrown c total left (left_spot s n k) l m h.2.4.3.2 down (omega (arith, lt, long, both)) in
    let y = regrown c total left (right_spot s n k) r m h.2.4.3.3 down (omega (arith, lt, long, both)) in
    let lt_ = tree_trials c (Some total) left (left_spot s n k) in
    let rt_ = tree_trials c (Some total) left (right_spot s n k) in
    record {
      unbroken = rw is (unbroken_whole (node_site c s) (below c (Some total) left s n k) (fine c s n k g) (unbroken_whole lt_ (Meet s.link.value ∷ rt_) x.unbroken y.unbroken));
      meets = split_meets c (Some total) left s n k is ∙ ap (λ xs. xs ++ s.link.value ∷ met rt_) x.meets ∙ ap (λ xs. inorder l ++ s.link.value ∷ xs) y.meets ∙ ap (λ v. inorder l ++ v ∷ inorder r) h.0;
      claims = split_claims c (Some total) left s n k en is ∙ ap (λ xs. pas n ++ (xs ++ claimed_in rt_)) x.claims ∙ ap (λ xs. pas n ++ (tree_words c.read c.shape l ++ xs)) y.claims ∙ sym words;
      more = x.more ++ nulls c left (right_spot s n k);
      nulls_are = nulls_node c left s h.1 ∙ nulls_is c left s (links_at c s) (keys_at c s) n k en ek ∙ ap (λ xs. xs ++ nulls c left (right_spot s n k)) x.nulls_are;
    }
