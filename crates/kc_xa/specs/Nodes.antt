-- What it says that no rule is broken at a node, at a slot's entry and at the head's.
use Rattle.std.specs.Prelude.{◌≡◌, ℕ, ◌-◌, Option, None, Ok}
use Rattle.kc_memory.specs.declared.words.VWord.{VWord}
use Rattle.kc_found.specs.declared.xarrays.XaEntry.{XaEntry}
use Rattle.kc_found.specs.declared.xarrays.XaHolder.{XaHolder}
use Rattle.kc_found.specs.declared.xarrays.XaNode.{XaNode}
use Rattle.kc_found.specs.declared.xarrays.XaWords.{XaWords}
use Rattle.kc_found.specs.FiniteXarrays.{IsHeadLeaf, IsLeaf, MayStand, NodeHolds, own}
use Rattle.kc_found.specs.Trials.{IsUnbroken, claimed_in}
use Rattle.kc_found.specs.XaEntries.{fit, head_fault, slot_fault}
use Rattle.kc_found.specs.XaNodes.{XaCourse, xa_words}
use Rattle.kc_found.specs.XaSites.{index_of, node_site, words_behind}

-- what the trials of a node are, by the entry that leads to it and its words
pub record NodeSite (c : XaCourse) (holder : Option XaHolder) (led : VWord) (n : XaWords) : Type 0 where
  pub plain : words_behind c led ≡ Ok n → xa_words c.read c.shape (led.value - 2) ≡ Ok n
  pub told : xa_words c.read c.shape (led.value - 2) ≡ Ok n → words_behind c led ≡ Ok n
  pub holds : IsUnbroken (node_site c.asked c.shape holder (led.value - 2) (Ok n)) → NodeHolds c.shape c.asked.start holder (led.value - 2) n
  pub unbroken : NodeHolds c.shape c.asked.start holder (led.value - 2) n → IsUnbroken (node_site c.asked c.shape holder (led.value - 2) (Ok n))
  pub claims : claimed_in (node_site c.asked c.shape holder (led.value - 2) (Ok n)) ≡ own n

-- no trial of a node breaks a rule exactly where X1 to X6 hold, and its own words are taken
abbrev pub NodesAreGood : Type 0
NodesAreGood = (c : XaCourse) (holder : Option XaHolder) (led : VWord) (n : XaWords) → NodeSite c holder led n

-- an entry breaks no rule in a slot exactly where it may stand there
abbrev pub EntriesAreGood : Type 0
EntriesAreGood =
    (chunk : ℕ) (o : XaNode) (i : ℕ) (k : XaEntry)
    → (slot_fault chunk o.slots o.shift i (fit (index_of o i)) k ≡ None → MayStand chunk o i k)
    × (MayStand chunk o i k → slot_fault chunk o.slots o.shift i (fit (index_of o i)) k ≡ None)

-- and so with an entry of the head that leads to no node
abbrev pub HeadsAreGood : Type 0
HeadsAreGood =
    (k : XaEntry)
    → (IsLeaf k → head_fault k ≡ None → IsHeadLeaf k)
    × (IsHeadLeaf k → (head_fault k ≡ None) × IsLeaf k)
