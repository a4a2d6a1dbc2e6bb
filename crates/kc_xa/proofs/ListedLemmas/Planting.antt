-- The entries of finite trees that stand at positions pass the test.
use Rattle.std.proofs.Common.{◌≡◌, ℕ, nat_eq, Bool, true, List, [], ◌∷◌, ◌++◌, refl, sym, ◌∙◌, ap, subst, eq-eqb, append_assoc}
use Rattle.std.specs.Prelude.{Result, Ok, Err, is_none}
use Rattle.std.proofs.lemmas.Bool.{and_from, cond-false, cond-true}
use Rattle.kc_found.specs.declared.xarrays.XaItem.{XaItem}
use Rattle.kc_found.specs.declared.xarrays.XaWords.{XaWords}
use Rattle.kc_found.specs.FiniteXarrays.{Bare, Root, Top, own, tree_words}
use Rattle.kc_found.specs.Trials.{IsUnbroken, Trial, claimed_in, passed}
use Rattle.kc_found.specs.Violations.{Violation}
use Rattle.kc_found.specs.XaEntries.{kind}
use Rattle.kc_found.specs.XaNodes.{XaCourse}
use Rattle.kc_found.specs.XaSites.{words_behind, xa_node}
use Rattle.kc_xa.specs.Nodes.{EntriesAreGood, NodesAreGood}
use Rattle.kc_laws.specs.Claiming.{Takes, claims, from_claims, takes_parts}
use Rattle.kc_xa.specs.declared.listed.spots.XaSpot.{XaSpot}
use Rattle.kc_xa.specs.Listed.Entries.{entered, entries, is_node, listed, spot_site, spots_below}
use Rattle.kc_xa.proofs.ListedLemmas.Growing.{site_is}
use Rattle.kc_xa.proofs.ListedLemmas.Leading.{leaf_not}
use Rattle.kc_xa.proofs.ListedLemmas.Standing.{Stand, all_words, numbers, slots_listed, slots_stand, slots_words, tops_of}

entered_by : (p : Result (List ℕ) Violation) (there : Result XaWords Violation) (go : List ℕ → XaWords → Bool) (more : List ℕ) (w : XaWords) → p ≡ Ok more → there ≡ Ok w → go more w ≡ true → entered p there go ≡ true
entered_by (Ok m) (Ok v) go more w a b e = let x : m ≡ more = cc in let y : v ≡ w = cc in rw (x, y) e
entered_by (Ok m) (Err s) go more w a b e = absurd (cc)
entered_by (Err v) there go more w a b e = absurd (cc)

pub planted : NodesAreGood → EntriesAreGood → (c : XaCourse) (taken : List ℕ) (ss : List XaSpot) (ts : List Top) (ns : List ℕ) → numbers ss ts ≡ ns → Stand c ss ts → Takes taken (all_words ts) → listed c taken ss ns ≡ true
planted nodes law c taken [] [] [] e st d = refl
planted nodes law c taken [] [] (n ∷ ns) e st d = absurd (cc)
planted nodes law c taken [] (t ∷ ts) ns e st d = absurd st
planted nodes law c taken (s ∷ ss) [] ns e st d = absurd st
planted nodes law c taken (s ∷ ss) (Bare ∷ ts) [] e st d = absurd (cc)
planted nodes law c taken (s ∷ ss) (Root w t ∷ ts) [] e st d = absurd (cc)
planted nodes law c taken (s ∷ ss) (Bare ∷ ts) (n ∷ ns) e st d =
    let first : s.word.value ≡ n = cc in
    let rest : numbers ss ts ≡ ns = cc in
    and_from (nat_eq n s.word.value) _ (eq-eqb n s.word.value (sym first))
    (and_from (is_none s.fault) _ (ap is_none st.0.0) (cond-false (is_node (kind c.shape.chunk s.word.value)) _ _ (leaf_not (kind c.shape.chunk s.word.value) st.0.1) ∙ planted nodes law c taken ss ts ns rest st.1 d))
planted nodes law c taken (s ∷ ss) (Root w t ∷ ts) (n ∷ ns) e st d =
    let first : s.word.value ≡ n = cc in
    let rest : entries w.slots t ++ numbers ss ts ≡ ns = cc in
    let site = nodes c s.holder s.word w in
    let there : words_behind c s.word ≡ Ok w = site.told st.0.2 in
    let same = site_is c s w there in
    let words : Takes taken (own w ++ all_words (tops_of t ++ ts)) =
    subst (Takes taken) (append_assoc (own w) (tree_words t) (all_words ts) ∙ ap (λ xs. own w ++ xs) (sym (slots_words t ts))) d in
    let took = takes_parts taken (own w) (all_words (tops_of t ++ ts)) words in
    let unbroken : IsUnbroken (spot_site c s) = subst (λ (ts : List (Trial XaItem)). IsUnbroken ts) (sym same) (site.unbroken st.0.3) in
    let passes : passed taken (spot_site c s) ≡ Ok took.0 = from_claims taken (spot_site c s) took.0 unbroken (ap (λ ws. passed taken (claims ws)) (ap claimed_in same ∙ site.claims) ∙ took.1) in
    let o = xa_node c.shape s.word s.index w in
    let below = planted nodes law c took.0 (spots_below c s w ++ ss) (tops_of t ++ ts) ns (slots_listed c o 0 w.slots t ss ts st.0.4 ∙ rest) (slots_stand law c o 0 w.slots t ss ts st.0.4 st.1) took.2 in
    and_from (nat_eq n s.word.value) _ (eq-eqb n s.word.value (sym first))
    (and_from (is_none s.fault) _ (ap is_none st.0.0)
    (cond-true (is_node (kind c.shape.chunk s.word.value)) _ _ (ap is_node st.0.1) ∙ entered_by (passed taken (spot_site c s)) (words_behind c s.word) _ took.0 w passes there below))
