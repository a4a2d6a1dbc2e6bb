-- Trials without a broken rule go over a finite tree.
use Rattle.std.proofs.Common.{◌≡◌, ℕ, suc, ◌-◌, nat_eq, Bool, true, false, List, [], ◌∷◌, ◌++◌, map, Option, None, Some, refl, ◌∙◌, ap, ◌⊎◌, inl, inr}
use Rattle.std.specs.Prelude.{Result, Ok, Err, not}
use Rattle.kc_laws.specs.Trials.{met-append, claimed_in-append}
use Rattle.kc_found.specs.FiniteXarrays.{own, NodeHolds, IsLeaf, item_of}
use Rattle.kc_found.specs.Nodes.{at_offset}
use Rattle.kc_found.specs.Trials.{Trial, broken_if, claim, met, claimed_in, IsUnbroken}
use Rattle.kc_found.specs.Violations.{Violation, breaks}
use Rattle.kc_found.specs.XaLayouts.{XaLayout}
use Rattle.kc_found.specs.XaNodes.{XaCourse, breaks_in, byte_in, is_shift, shift_wanted, is_slot, slot_wanted, parent_wanted, filled, odd, is_count, is_odd_count, xa_rules, xa_claims}
use Rattle.kc_found.specs.XaSites.{entry_trials, Below, slots_trials, xa_node, node_site, below_words, words_behind, node_trials}
use Rattle.kc_found.specs.declared.asked.Asked.{Asked}
use Rattle.kc_found.specs.declared.xarrays.XaEntry.{XaEntry}
use Rattle.kc_found.specs.declared.xarrays.XaEntry.TheVariants.{Nothing, Pointer, Odd, Node, Zero, Sibling, Bad}
use Rattle.kc_found.specs.declared.xarrays.XaHolder.{XaHolder}
use Rattle.kc_found.specs.declared.xarrays.XaItem.{XaItem}
use Rattle.kc_found.specs.declared.xarrays.XaWords.{XaWords}
use Rattle.kc_memory.specs.declared.rule.Rule.{Rule}
use Rattle.kc_memory.specs.declared.rule.Rule.TheVariants.{X1, X2, X3, X4, X5, X6}
use Rattle.kc_memory.specs.declared.words.VWord.{VWord}
use Rattle.kc_xa.proofs.Behind.{node_is}
use Rattle.kc_xa.proofs.Quiet.{site_met, site_claimed}
use Rattle.kc_xa.specs.Steps.{below}

-- rules that hold
if_true : (b : Bool) (f : Violation) (ts : List (Trial XaItem)) → IsUnbroken (broken_if (not b) f ++ ts) → (b ≡ true) × IsUnbroken ts
if_true true f ts u = (refl, u)
if_true false f ts u = absurd u

if_last : (b : Bool) (f : Violation) → IsUnbroken {X = XaItem} (broken_if (not b) f) → b ≡ true
if_last true f u = refl
if_last false f u = absurd u

pub holds : (shape : XaLayout) (asked : Asked) (holder : Option XaHolder) (node : ℕ) (n : XaWords) → IsUnbroken (xa_rules shape asked holder node n) → NodeHolds shape asked.start holder node n
unfolding xa_rules
holds shape asked holder node n u =
    let a = if_true (is_shift shape.chunk holder (byte_in (at_offset node shape.shift) n.shift.value)) (breaks_in asked X1 (at_offset node shape.shift) n.shift (shift_wanted shape.chunk holder)) _ u in
    let b = if_true (is_slot holder (byte_in (at_offset node shape.offset) n.offset.value)) (breaks_in asked X2 (at_offset node shape.offset) n.offset (slot_wanted holder)) _ a.1 in
    let d = if_true (nat_eq n.parent.value (parent_wanted holder)) (breaks asked X3 n.parent (Some (parent_wanted holder))) _ b.1 in
    let e = if_true (nat_eq n.array.value asked.start) (breaks asked X4 n.array (Some asked.start)) _ d.1 in
    let g = if_true (is_count shape (byte_in (at_offset node shape.count) n.count.value) n.slots) (breaks_in asked X5 (at_offset node shape.count) n.count (Some (filled n.slots))) _ e.1 in
    let h = if_last (is_odd_count shape (byte_in (at_offset node shape.nr_values) n.values.value) n.slots) (breaks_in asked X6 (at_offset node shape.nr_values) n.values (Some (odd n.slots))) g.1 in
    record { x1 = a.0; x2 = b.0; x3 = d.0; x4 = e.0; x5 = g.0; x6 = h }

true_if : (b : Bool) (f : Violation) (ts : List (Trial XaItem)) → b ≡ true → IsUnbroken ts → IsUnbroken (broken_if (not b) f ++ ts)
true_if true f ts e u = u
true_if false f ts e u = absurd (cc)

true_last : (b : Bool) (f : Violation) → b ≡ true → IsUnbroken {X = XaItem} (broken_if (not b) f)
true_last true f e = tt
true_last false f e = absurd (cc)

pub unheld : (shape : XaLayout) (asked : Asked) (holder : Option XaHolder) (node : ℕ) (n : XaWords) → NodeHolds shape asked.start holder node n → IsUnbroken (xa_rules shape asked holder node n)
unfolding xa_rules
unheld shape asked holder node n h =
    true_if (is_shift shape.chunk holder (byte_in (at_offset node shape.shift) n.shift.value)) (breaks_in asked X1 (at_offset node shape.shift) n.shift (shift_wanted shape.chunk holder)) _ h.x1
    (true_if (is_slot holder (byte_in (at_offset node shape.offset) n.offset.value)) (breaks_in asked X2 (at_offset node shape.offset) n.offset (slot_wanted holder)) _ h.x2
    (true_if (nat_eq n.parent.value (parent_wanted holder)) (breaks asked X3 n.parent (Some (parent_wanted holder))) _ h.x3
    (true_if (nat_eq n.array.value asked.start) (breaks asked X4 n.array (Some asked.start)) _ h.x4
    (true_if (is_count shape (byte_in (at_offset node shape.count) n.count.value) n.slots) (breaks_in asked X5 (at_offset node shape.count) n.count (Some (filled n.slots))) _ h.x5
    (true_last (is_odd_count shape (byte_in (at_offset node shape.nr_values) n.values.value) n.slots) (breaks_in asked X6 (at_offset node shape.nr_values) n.values (Some (odd n.slots))) h.x6)))))

slots_unbroken : (asked : Asked) (ws : List VWord) → IsUnbroken {X = XaItem} (map (claim asked) ws)
slots_unbroken asked [] = tt
slots_unbroken asked (w ∷ ws) = slots_unbroken asked ws

pub claims_unbroken : (asked : Asked) (n : XaWords) → IsUnbroken (xa_claims asked n)
claims_unbroken asked n = slots_unbroken asked n.slots

-- entries: plain, or a node
pub which : (asked : Asked) (fault : Option Rule) (k : XaEntry) (w : VWord) (index : ℕ) (ts : List (Trial XaItem)) → IsUnbroken (entry_trials asked fault k w index ts) → (fault ≡ None) × (IsLeaf k ⊎ (k ≡ Node))
which asked (Some r) k w index ts u = absurd u
which asked None Nothing w index ts u = (refl, inl tt)
which asked None Pointer w index ts u = (refl, inl tt)
which asked None Odd w index ts u = (refl, inl tt)
which asked None Node w index ts u = (refl, inr refl)
which asked None Zero w index ts u = (refl, inl tt)
which asked None (Sibling v) w index ts u = (refl, inl tt)
which asked None Bad w index ts u = (refl, inl tt)

pub record PlainTrials (ts : List (Trial XaItem)) (k : XaEntry) (index : ℕ) (w : VWord) : Type 0 where
  pub claims : claimed_in ts ≡ []
  pub meets : met ts ≡ item_of k index w
  pub unbroken : IsUnbroken ts

plain_kind : (asked : Asked) (k : XaEntry) (w : VWord) (index : ℕ) (ts : List (Trial XaItem)) → IsLeaf k → PlainTrials (entry_trials asked None k w index ts) k index w
plain_kind asked Nothing w index ts p = record { claims = refl; meets = refl; unbroken = tt }
plain_kind asked Pointer w index ts p = record { claims = refl; meets = refl; unbroken = tt }
plain_kind asked Odd w index ts p = record { claims = refl; meets = refl; unbroken = tt }
plain_kind asked Node w index ts p = absurd p
plain_kind asked Zero w index ts p = record { claims = refl; meets = refl; unbroken = tt }
plain_kind asked (Sibling v) w index ts p = record { claims = refl; meets = refl; unbroken = tt }
plain_kind asked Bad w index ts p = record { claims = refl; meets = refl; unbroken = tt }

pub plain_entry : (asked : Asked) (fault : Option Rule) (k : XaEntry) (w : VWord) (index : ℕ) (ts : List (Trial XaItem)) → fault ≡ None → IsLeaf k → PlainTrials (entry_trials asked fault k w index ts) k index w
plain_entry asked fault k w index ts e p = rw e (plain_kind asked k w index ts p)

-- a node whose words were read: its trials, and those below it
pub record Open (c : XaCourse) (left : ℕ) (holder : Option XaHolder) (w : VWord) (index : ℕ) : Type 0 where
  pub node : XaWords
  pub reads : words_behind c w ≡ Ok node
  pub trials : node_trials c (suc left) holder w index ≡ (xa_claims c.asked node ++ xa_rules c.shape c.asked holder (w.value - 2) node) ++ slots_trials c (below c left) (xa_node c.shape w index node) 0 node.slots

pub there_is : (c : XaCourse) (b : Below) (holder : Option XaHolder) (w : VWord) (index : ℕ) (there : Result XaWords Violation) (n : XaWords) → there ≡ Ok n →
    node_site c.asked c.shape holder (w.value - 2) there ++ below_words c b w index there ≡ (xa_claims c.asked n ++ xa_rules c.shape c.asked holder (w.value - 2) n) ++ slots_trials c b (xa_node c.shape w index n) 0 n.slots
there_is c b holder w index (Ok q) n e = let same : q ≡ n = cc in rw same refl
there_is c b holder w index (Err f) n e = absurd (cc)

unfoldable pub open_at : (c : XaCourse) (left : ℕ) (holder : Option XaHolder) (w : VWord) (index : ℕ) (n : XaWords) → words_behind c w ≡ Ok n → Open c left holder w index
open_at c left holder w index n e = record { node = n; reads = e; trials = node_is c left holder w index ∙ there_is c (below c left) holder w index (words_behind c w) n e }

open_there : (c : XaCourse) (left : ℕ) (holder : Option XaHolder) (w : VWord) (index : ℕ) (there : Result XaWords Violation) → words_behind c w ≡ there → IsUnbroken (node_site c.asked c.shape holder (w.value - 2) there ++ below_words c (below c left) w index there) → Open c left holder w index
open_there c left holder w index (Ok n) e u = open_at c left holder w index n e
open_there c left holder w index (Err f) e u = absurd u

pub open_from : (c : XaCourse) (left : ℕ) (holder : Option XaHolder) (w : VWord) (index : ℕ) → IsUnbroken (node_trials c (suc left) holder w index) → Open c left holder w index
open_from c left holder w index u = open_there c left holder w index (words_behind c w) refl (rw (node_is c left holder w index) at u)

pub open_claims : (c : XaCourse) (left : ℕ) (holder : Option XaHolder) (w : VWord) (index : ℕ) (o : Open c left holder w index) → claimed_in (node_trials c (suc left) holder w index) ≡ own o.node ++ claimed_in (slots_trials c (below c left) (xa_node c.shape w index o.node) 0 o.node.slots)
open_claims c left holder w index o =
    let site = xa_claims c.asked o.node ++ xa_rules c.shape c.asked holder (w.value - 2) o.node in
    let under = slots_trials c (below c left) (xa_node c.shape w index o.node) 0 o.node.slots in
    ap claimed_in o.trials ∙ claimed_in-append site under ∙ ap (λ xs. xs ++ claimed_in under) (site_claimed c.shape c.asked holder (w.value - 2) o.node)

pub open_meets : (c : XaCourse) (left : ℕ) (holder : Option XaHolder) (w : VWord) (index : ℕ) (o : Open c left holder w index) → met (node_trials c (suc left) holder w index) ≡ met (slots_trials c (below c left) (xa_node c.shape w index o.node) 0 o.node.slots)
open_meets c left holder w index o =
    let site = xa_claims c.asked o.node ++ xa_rules c.shape c.asked holder (w.value - 2) o.node in
    let under = slots_trials c (below c left) (xa_node c.shape w index o.node) 0 o.node.slots in
    ap met o.trials ∙ met-append site under ∙ ap (λ xs. xs ++ met under) (site_met c.shape c.asked holder (w.value - 2) o.node)
