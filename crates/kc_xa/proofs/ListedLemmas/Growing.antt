-- Numbers that pass the test are the entries of finite trees that stand there.
use Rattle.std.proofs.Common.{◌≡◌, ℕ, ◌-◌, nat_eq, Bool, true, false, List, [], ◌∷◌, ◌++◌, None, refl, sym, ◌∙◌, ap, subst, append_assoc}
use Rattle.std.specs.Prelude.{Result, Ok, Err, is_none, is_some, if◌then◌else◌}
use Rattle.std.proofs.lemmas.Bool.{and_parts, eqb-true, not-true}
use Rattle.kc_found.specs.declared.xarrays.XaEntry.TheVariants.{Node}
use Rattle.kc_found.specs.declared.xarrays.XaItem.{XaItem}
use Rattle.kc_found.specs.declared.xarrays.XaWords.{XaWords}
use Rattle.kc_found.specs.FiniteXarrays.{Bare, IsLeaf, Root, Top, own, tree_words}
use Rattle.kc_found.specs.Trials.{IsUnbroken, Trial, claimed_in, passed}
use Rattle.kc_found.specs.Violations.{Violation}
use Rattle.kc_found.specs.XaEntries.{kind}
use Rattle.kc_found.specs.XaNodes.{XaCourse}
use Rattle.kc_found.specs.XaSites.{node_site, words_behind, xa_node}
use Rattle.kc_laws.specs.Trials.{passed_is}
use Rattle.kc_xa.specs.Nodes.{EntriesAreGood, NodesAreGood}
use Rattle.kc_laws.specs.Claiming.{Takes, claims, only_claims, takes_on}
use Rattle.kc_xa.specs.declared.listed.spots.XaSpot.{XaSpot}
use Rattle.kc_xa.specs.Listed.Entries.{entered, is_node, listed, spot_site, spots_below}
use Rattle.kc_xa.proofs.ListedLemmas.Leading.{leaf_is, node_is, none_is}
use Rattle.kc_xa.proofs.ListedLemmas.Standing.{Stand, all_words, numbers, slots_are}

-- numbers that pass are those of trees that stand there
pub record Grove (c : XaCourse) (taken : List ℕ) (ss : List XaSpot) (ns : List ℕ) : Type 0 where
  pub tops : List Top
  pub stand : Stand c ss tops
  pub listed : ns ≡ numbers ss tops
  pub takes : Takes taken (all_words tops)

-- what a node that is entered gives
entered_is : (p : Result (List ℕ) Violation) (there : Result XaWords Violation) (go : List ℕ → XaWords → Bool) → entered p there go ≡ true →
    (more : List ℕ) × (w : XaWords) × (p ≡ Ok more) × (there ≡ Ok w) × (go more w ≡ true)
entered_is (Ok more) (Ok w) go e = (more, w, refl, refl, e)
entered_is (Ok more) (Err v) go e = absurd (cc)
entered_is (Err v) there go e = absurd (cc)

with_leaf : (c : XaCourse) (taken : List ℕ) (s : XaSpot) (ss : List XaSpot) (n : ℕ) (ns : List ℕ) → n ≡ s.word.value → s.fault ≡ None → IsLeaf (kind c.shape.chunk s.word.value) → Grove c taken ss ns → Grove c taken (s ∷ ss) (n ∷ ns)
with_leaf c taken s ss n ns e f leaf g = record {
  tops = Bare ∷ g.tops;
  stand = ((f, leaf), g.stand);
  listed = ap (λ x. x ∷ ns) e ∙ ap (λ xs. s.word.value ∷ xs) g.listed;
  takes = g.takes;
}

-- the trials of a node whose words can be read
pub site_is : (c : XaCourse) (s : XaSpot) (w : XaWords) → words_behind c s.word ≡ Ok w → spot_site c s ≡ node_site c.asked c.shape s.holder (s.word.value - 2) (Ok w)
site_is c s w e = ap (λ there. node_site c.asked c.shape s.holder (s.word.value - 2) there) e

with_node : NodesAreGood → EntriesAreGood → (c : XaCourse) (taken : List ℕ) (s : XaSpot) (ss : List XaSpot) (n : ℕ) (ns more : List ℕ) (w : XaWords) → n ≡ s.word.value → s.fault ≡ None → kind c.shape.chunk s.word.value ≡ Node →
    passed taken (spot_site c s) ≡ Ok more → words_behind c s.word ≡ Ok w → Grove c more (spots_below c s w ++ ss) ns → Grove c taken (s ∷ ss) (n ∷ ns)
with_node nodes law c taken s ss n ns more w e f ek p ew g =
    let site = nodes c s.holder s.word w in
    let same = site_is c s w ew in
    let q = slots_are law c (xa_node c.shape s.word s.index w) 0 w.slots ss g.tops g.stand in
    let unbroken : IsUnbroken (node_site c.asked c.shape s.holder (s.word.value - 2) (Ok w)) = subst (λ (ts : List (Trial XaItem)). IsUnbroken ts) same (passed_is {X = XaItem} taken (spot_site c s) more p).unbroken in
    let words : passed taken (claims (own w)) ≡ Ok more = ap (λ ws. passed taken (claims ws)) (sym (ap claimed_in same ∙ site.claims)) ∙ only_claims taken (spot_site c s) more p in
    record {
      tops = Root w q.tree ∷ q.rest;
      stand = ((f, ek, site.plain ew, site.holds unbroken, q.is), q.stand);
      listed = ap (λ x. x ∷ ns) e ∙ ap (λ xs. s.word.value ∷ xs) (g.listed ∙ q.listed);
      takes = subst (Takes taken) (ap (λ xs. own w ++ xs) q.words ∙ sym (append_assoc (own w) (tree_words q.tree) (all_words q.rest))) (takes_on taken more (own w) (all_words g.tops) words g.takes);
    }

grove_at : NodesAreGood → EntriesAreGood → (c : XaCourse) (taken : List ℕ) (s : XaSpot) (ss : List XaSpot) (n : ℕ) (ns : List ℕ) (b : Bool) → is_node (kind c.shape.chunk s.word.value) ≡ b → n ≡ s.word.value → s.fault ≡ None →
    (if b then entered (passed taken (spot_site c s)) (words_behind c s.word) (λ more w. listed c more (spots_below c s w ++ ss) ns) else listed c taken ss ns) ≡ true →
    (listed c taken ss ns ≡ true → Grove c taken ss ns) → ((more : List ℕ) (w : XaWords) → listed c more (spots_below c s w ++ ss) ns ≡ true → Grove c more (spots_below c s w ++ ss) ns) → Grove c taken (s ∷ ss) (n ∷ ns)
grove_at nodes law c taken s ss n ns true is e f t on_leaf on_node =
    let o = entered_is (passed taken (spot_site c s)) (words_behind c s.word) (λ more w. listed c more (spots_below c s w ++ ss) ns) t in
    with_node nodes law c taken s ss n ns o.0 o.1 e f (node_is (kind c.shape.chunk s.word.value) is) o.2 o.3 (on_node o.0 o.1 o.4)
grove_at nodes law c taken s ss n ns false is e f t on_leaf on_node = with_leaf c taken s ss n ns e f (leaf_is (kind c.shape.chunk s.word.value) is) (on_leaf t)

pub grove : NodesAreGood → EntriesAreGood → (c : XaCourse) (taken : List ℕ) (ss : List XaSpot) (ns : List ℕ) → listed c taken ss ns ≡ true → Grove c taken ss ns
grove nodes law c taken [] [] e = record { tops = []; stand = tt; listed = refl; takes = (taken, refl) }
grove nodes law c taken (s ∷ ss) [] e = absurd (cc)
grove nodes law c taken [] (n ∷ ns) e = absurd (cc)
grove nodes law c taken (s ∷ ss) (n ∷ ns) e =
    let first = and_parts (nat_eq n s.word.value) _ e in
    let second = and_parts (is_none s.fault) _ first.1 in
    grove_at nodes law c taken s ss n ns (is_node (kind c.shape.chunk s.word.value)) refl (eqb-true n s.word.value first.0) (none_is s.fault (not-true (is_some s.fault) second.0)) second.1 (λ f. grove nodes law c taken ss ns f) (λ more w f. grove nodes law c more (spots_below c s w ++ ss) ns f)
