-- What the steps of an xarray's walk say.
use Rattle.std.specs.Prelude.{◌≡◌, ℕ, suc, ◌+◌, ◌*◌, true, ◌<◌, ◌≤◌, nat_eq, List, ◌++◌, length, Option, Some, None, Result, Ok, Err, ⊤}
use Rattle.std.specs.List.{IsDistinct, AllByRecursion}
use Rattle.std.specs.Set.{is_member}
use Rattle.kc_memory.specs.declared.words.VWord.{VWord}
use Rattle.kc_memory.specs.Held.{held, word_count}
use Rattle.kc_memory.specs.Image.{Image}
use Rattle.kc_found.specs.declared.found.WalkStop.{WalkStop}
use Rattle.kc_found.specs.declared.found.WalkStop.TheVariants as ends
use Rattle.kc_found.specs.declared.xarrays.XaItem.{XaItem}
use Rattle.kc_found.specs.declared.xarrays.XaNode.{XaNode}
use Rattle.kc_found.specs.declared.xarrays.XaWords.{XaWords}
use Rattle.kc_found.specs.Trials.{passed, met}
use Rattle.kc_found.specs.Violations.{Violation}
use Rattle.kc_found.specs.XaLayouts.{XaLayout}
use Rattle.kc_found.specs.XaNodes.{XaCourse}
use Rattle.kc_found.specs.XaSites.{Below, node_trials, slot_trials, slots_trials, xa_node}

-- a node that was opened is the one that its words give
abbrev pub IsOpened : XaLayout → VWord → ℕ → Result XaWords Violation → XaNode → Type 0
IsOpened shape led base (Err v) o = ⊥
IsOpened shape led base (Ok n) o = o ≡ xa_node shape led base n

-- different addresses, all of words that the dump holds
pub record Kept (image : Image) (taken : List ℕ) : Type 0 where
  pub different : IsDistinct nat_eq taken
  pub among : AllByRecursion (λ pa. is_member nat_eq (held image.physical) pa ≡ true) taken

-- what lies below an entry, over at most so many nodes one below the other
abbrev pub below : XaCourse → ℕ → Below
below c left h w b = node_trials c left h w b

-- One slot: what is tried there is done, and the slots of a node that was opened are still to be walked.
abbrev pub Enters : Image → XaCourse → XaNode → ℕ → VWord → List ℕ → List ℕ → List XaItem → List XaItem → Result (Option XaNode) WalkStop → Type 0
Enters image c o i w old new before after (Ok None) =
    (left : ℕ) → (passed old (slot_trials c (below c left) o i w) ≡ Ok new)
    × (after ≡ before ++ met (slot_trials c (below c left) o i w)) × (new ≡ old)
Enters image c o i w old new before after (Ok (Some child)) =
    (left : ℕ) → (passed old (slot_trials c (below c (suc left)) o i w) ≡ passed new (slots_trials c (below c left) child 0 child.slots))
    × (met (slot_trials c (below c (suc left)) o i w) ≡ met (slots_trials c (below c left) child 0 child.slots))
    × (after ≡ before) × (Kept image old → Kept image new)
Enters image c o i w old new before after (Err (ends.Broken f)) = (left : ℕ) → passed old (slot_trials c (below c (suc left)) o i w) ≡ Err f
Enters image c o i w old new before after (Err ends.Fault) = ⊤
Enters image c o i w old new before after (Err ends.NoMemory) = ⊤

-- All slots of a node, each with all below it. Each node takes words, so where as many nodes as there are words that
-- aren't taken may stand one below the other, no way down is cut short.
abbrev pub Walks : Image → XaCourse → XaNode → List ℕ → List ℕ → List XaItem → List XaItem → Result (Unit {0}) WalkStop → Type 0
Walks image c o old new before after (Ok u) = Kept image old → (left : ℕ) → word_count image.physical < left + length old →
    (passed old (slots_trials c (below c left) o 0 o.slots) ≡ Ok new)
    × (after ≡ before ++ met (slots_trials c (below c left) o 0 o.slots)) × Kept image new
Walks image c o old new before after (Err (ends.Broken f)) = Kept image old → (left : ℕ) → word_count image.physical < left + length old →
    passed old (slots_trials c (below c left) o 0 o.slots) ≡ Err f
Walks image c o old new before after (Err ends.Fault) = ⊤
Walks image c o old new before after (Err ends.NoMemory) = ⊤

-- at most two words were read for each one that was taken, where a word takes so many steps at most
abbrev pub Pays : ℕ → List ℕ → List ℕ → ℕ → ℕ → Type 0
Pays most taken now before after = after + most * (2 * length taken) ≤ before + most * (2 * length now)

-- the same short of the words of one node, whatever is answered
abbrev pub PaysIn : Image → ℕ → List ℕ → ℕ → ℕ → Type 0
PaysIn image most taken before after = Kept image taken → after + most * (2 * length taken) ≤ before + most * (2 * word_count image.physical + 70)

-- a node's words: its slots and six more
abbrev pub node_steps : ℕ → ℕ → ℕ
node_steps most chunk = most * chunk + 6 * most
