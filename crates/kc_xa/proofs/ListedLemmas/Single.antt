-- Numbers that pass the test of an xarray are the only ones.
use Rattle.std.proofs.Common.{◌≡◌, ℕ, nat_eq, Bool, true, false, ◌&&◌, List, [], ◌∷◌, ◌++◌, None, refl, sym, ◌∙◌, ap}
use Rattle.std.specs.Prelude.{Result, Ok, Err, is_none, if◌then◌else◌}
use Rattle.std.proofs.lemmas.Bool.{and_parts, eqb-true}
use Rattle.kc_memory.specs.declared.words.VWord.{VWord}
use Rattle.kc_memory.specs.Image.{Image}
use Rattle.kc_found.specs.declared.asked.Asked.{Asked}
use Rattle.kc_found.specs.declared.xarrays.XaWords.{XaWords}
use Rattle.kc_found.specs.Nodes.{at_offset}
use Rattle.kc_found.specs.Taken.{with_word}
use Rattle.kc_found.specs.Trials.{passed}
use Rattle.kc_found.specs.Violations.{Violation}
use Rattle.kc_found.specs.XaEntries.{kind}
use Rattle.kc_found.specs.XaLayouts.{XaLayout}
use Rattle.kc_found.specs.XaNodes.{XaCourse, behind_entry}
use Rattle.kc_found.specs.XaSites.{words_behind, xa_course}
use Rattle.kc_xa.specs.declared.listed.spots.XaSpot.{XaSpot}
use Rattle.kc_xa.specs.Listed.Entries.{entered, head_spot, headed, is_node, is_xarray, listed, spot_site, spots_below}

-- what two lists come to at one node
both_entered : (A : Type 0) (p : Result (List ℕ) Violation) (there : Result XaWords Violation) (go on : List ℕ → XaWords → Bool) → entered p there go ≡ true → entered p there on ≡ true → ((more : List ℕ) (w : XaWords) → go more w ≡ true → on more w ≡ true → A) → A
both_entered A (Ok more) (Ok w) go on e f give = give more w e f
both_entered A (Ok more) (Err v) go on e f give = absurd (cc)
both_entered A (Err v) there go on e f give = absurd (cc)

-- what follows a number
abbrev follow : XaCourse → List ℕ → XaSpot → List XaSpot → Bool → List ℕ → Bool
follow c taken s ss node ns =
    if node then entered (passed taken (spot_site c s)) (words_behind c s.word) (λ more w. listed c more (spots_below c s w ++ ss) ns)
    else listed c taken ss ns

follow_once : (c : XaCourse) (taken : List ℕ) (s : XaSpot) (ss : List XaSpot) (node : Bool) (ns ms : List ℕ) → follow c taken s ss node ns ≡ true → follow c taken s ss node ms ≡ true →
    (listed c taken ss ns ≡ true → listed c taken ss ms ≡ true → ns ≡ ms) →
    ((more : List ℕ) (w : XaWords) → listed c more (spots_below c s w ++ ss) ns ≡ true → listed c more (spots_below c s w ++ ss) ms ≡ true → ns ≡ ms) → ns ≡ ms
follow_once c taken s ss true ns ms e f on_leaf on_node =
    both_entered (ns ≡ ms) (passed taken (spot_site c s)) (words_behind c s.word) (λ more w. listed c more (spots_below c s w ++ ss) ns) (λ more w. listed c more (spots_below c s w ++ ss) ms) e f on_node
follow_once c taken s ss false ns ms e f on_leaf on_node = on_leaf e f

listed_once : (c : XaCourse) (taken : List ℕ) (ss : List XaSpot) (ns ms : List ℕ) → listed c taken ss ns ≡ true → listed c taken ss ms ≡ true → ns ≡ ms
listed_once c taken [] [] [] e f = refl
listed_once c taken [] [] (m ∷ ms) e f = absurd (cc)
listed_once c taken [] (n ∷ ns) ms e f = absurd (cc)
listed_once c taken (s ∷ ss) [] ms e f = absurd (cc)
listed_once c taken (s ∷ ss) (n ∷ ns) [] e f = absurd (cc)
listed_once c taken (s ∷ ss) (n ∷ ns) (m ∷ ms) e f =
    let node = is_node (kind c.shape.chunk s.word.value) in
    let a = and_parts (nat_eq n s.word.value) (is_none s.fault && follow c taken s ss node ns) e in
    let b = and_parts (nat_eq m s.word.value) (is_none s.fault && follow c taken s ss node ms) f in
    let same : m ≡ n = eqb-true m s.word.value b.0 ∙ sym (eqb-true n s.word.value a.0) in
    let rest = follow_once c taken s ss node ns ms (and_parts (is_none s.fault) (follow c taken s ss node ns) a.1).1 (and_parts (is_none s.fault) (follow c taken s ss node ms) b.1).1
    (λ x y. listed_once c taken ss ns ms x y) (λ more w x y. listed_once c more (spots_below c s w ++ ss) ns ms x y) in
    ap (λ x. x ∷ ns) (sym same) ∙ ap (λ xs. m ∷ xs) rest

headed_once : (c : XaCourse) (there : Result VWord Violation) (ns ms : List ℕ) → headed c there ns ≡ true → headed c there ms ≡ true → ns ≡ ms
headed_once c (Err v) ns ms e f = absurd (cc)
headed_once c (Ok h) ns ms e f = listed_once c (with_word [] h.pa) (head_spot c.shape.chunk h ∷ []) ns ms e f

pub xarrays_once : (image : Image) (shape : XaLayout) (start : ℕ) (ns ms : List ℕ) → is_xarray image shape start ns ≡ true → is_xarray image shape start ms ≡ true → ns ≡ ms
unfolding is_xarray
xarrays_once image shape start ns ms e f =
    let asked : Asked = record { audit = 0; start = start } in
    let c = xa_course image shape asked in
    headed_once c (behind_entry c.read c.asked None (at_offset c.asked.start c.shape.head)) ns ms e f
