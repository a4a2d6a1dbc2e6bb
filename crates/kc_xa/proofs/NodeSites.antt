-- A node's claims and rules, one behind the other.
use Rattle.std.proofs.Common.{◌≡◌, ℕ, ◌-◌, List, Option, None, Some, ◌∙◌}
use Rattle.std.specs.Prelude.{Result, Ok, Err}
use Rattle.kc_laws.specs.Trials.{passed_goes, passed_stops}
use Rattle.kc_found.specs.Trials.{passed}
use Rattle.kc_found.specs.Violations.{Violation}
use Rattle.kc_found.specs.Walks.{IsWalk, WalksAs}
use Rattle.kc_found.specs.XaLayouts.{XaLayout}
use Rattle.kc_found.specs.XaNodes.{xa_words, xa_rules, xa_claims}
use Rattle.kc_found.specs.XaSites.{node_site}
use Rattle.kc_found.specs.declared.asked.Asked.{Asked}
use Rattle.kc_found.specs.declared.found.WalkStop.{WalkStop}
use Rattle.kc_found.specs.declared.xarrays.XaHolder.{XaHolder}
use Rattle.kc_found.specs.declared.xarrays.XaItem.{XaItem}
use Rattle.kc_found.specs.declared.xarrays.XaWords.{XaWords}
use Rattle.kc_memory.specs.Image.{Image}
use Rattle.kc_memory.specs.declared.words.VWord.{VWord}
use Rattle.kc_xa.proofs.SlotWords.{reader}
use Rattle.kc_found.specs.declared.found.WalkStop.TheVariants as ends

site_claims : (taken : List ℕ) (asked : Asked) (shape : XaLayout) (holder : Option XaHolder) (node : ℕ) (there : Result XaWords Violation) (n : XaWords) (f : Violation) → there ≡ Ok n → passed taken (xa_claims asked n) ≡ Err f → passed taken (node_site asked shape holder node there) ≡ Err f
site_claims taken asked shape holder node (Ok q) n f e h = let same : q ≡ n = cc in rw same (passed_stops taken (xa_claims asked n) (xa_rules shape asked holder node n) f h)
site_claims taken asked shape holder node (Err g) n f e h = absurd (cc)

site_rules : (taken more : List ℕ) (asked : Asked) (shape : XaLayout) (holder : Option XaHolder) (node : ℕ) (there : Result XaWords Violation) (n : XaWords) (r : Result (List ℕ) Violation) → there ≡ Ok n → passed taken (xa_claims asked n) ≡ Ok more →
    passed more (xa_rules shape asked holder node n) ≡ r → passed taken (node_site asked shape holder node there) ≡ r
site_rules taken more asked shape holder node (Ok q) n r e h k = let same : q ≡ n = cc in rw same (passed_goes taken (xa_claims asked n) (xa_rules shape asked holder node n) more h ∙ k)
site_rules taken more asked shape holder node (Err g) n r e h k = absurd (cc)

pub claims_stop : {A B : Type 0} (v : A → List ℕ) (u : B → List ℕ) (image : Option Image) (taken : List ℕ) (asked : Asked) (shape : XaLayout) (holder : Option XaHolder) (led : VWord) (n : XaWords) (stop : WalkStop) →
    WalksAs (λ (x : XaWords). x) (λ m. xa_words (reader m asked led) shape (led.value - 2)) image (Ok n) → IsWalk v (passed {X = XaItem} taken (xa_claims asked n)) (Err stop) →
    WalksAs u (λ m. passed taken (node_site asked shape holder (led.value - 2) (xa_words (reader m asked led) shape (led.value - 2)))) image (Err stop)
claims_stop v u None taken asked shape holder led n stop e h = tt
claims_stop v u (Some m) taken asked shape holder led n (ends.Broken f) e h = site_claims taken asked shape holder (led.value - 2) (xa_words (reader m asked led) shape (led.value - 2)) n f e h
claims_stop v u (Some m) taken asked shape holder led n ends.Fault e h = tt
claims_stop v u (Some m) taken asked shape holder led n ends.NoMemory e h = tt

pub rules_stop : {A B : Type 0} (v : A → List ℕ) (u : B → List ℕ) (image : Option Image) (taken more : List ℕ) (asked : Asked) (shape : XaLayout) (holder : Option XaHolder) (led : VWord) (node : ℕ) (n : XaWords) (stop : WalkStop) → node ≡ led.value - 2 →
    WalksAs (λ (x : XaWords). x) (λ m. xa_words (reader m asked led) shape (led.value - 2)) image (Ok n) → passed {X = XaItem} taken (xa_claims asked n) ≡ Ok more →
    IsWalk v (passed more (xa_rules shape asked holder node n)) (Err stop) →
    WalksAs u (λ m. passed taken (node_site asked shape holder (led.value - 2) (xa_words (reader m asked led) shape (led.value - 2)))) image (Err stop)
rules_stop v u None taken more asked shape holder led node n stop here e h k = tt
rules_stop v u (Some m) taken more asked shape holder led node n (ends.Broken f) here e h k = site_rules taken more asked shape holder (led.value - 2) (xa_words (reader m asked led) shape (led.value - 2)) n (Err f) e h (rw here at k)
rules_stop v u (Some m) taken more asked shape holder led node n ends.Fault here e h k = tt
rules_stop v u (Some m) taken more asked shape holder led node n ends.NoMemory here e h k = tt

pub rules_pass : {B : Type 0} (u : B → List ℕ) (image : Option Image) (taken : List ℕ) (asked : Asked) (shape : XaLayout) (holder : Option XaHolder) (led : VWord) (n : XaWords) (x : B) →
    WalksAs (λ (y : XaWords). y) (λ m. xa_words (reader m asked led) shape (led.value - 2)) image (Ok n) → passed {X = XaItem} taken (xa_claims asked n) ≡ Ok (u x) →
    passed (u x) (xa_rules shape asked holder (led.value - 2) n) ≡ Ok (u x) →
    WalksAs u (λ m. passed taken (node_site asked shape holder (led.value - 2) (xa_words (reader m asked led) shape (led.value - 2)))) image (Ok x)
rules_pass u None taken asked shape holder led n x e h k = tt
rules_pass u (Some m) taken asked shape holder led n x e h k = site_rules taken (u x) asked shape holder (led.value - 2) (xa_words (reader m asked led) shape (led.value - 2)) n (Ok (u x)) e h k
