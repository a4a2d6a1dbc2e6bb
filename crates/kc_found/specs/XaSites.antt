-- The sites of an xarray: its head, and then each node before what hangs in its slots, a lower slot first. Source: the
-- kernel's include/linux/xarray.h, `xa_to_node`, and lib/xarray.c, `get_offset`; the order is this project's.
use Rattle.std.specs.Prelude.{ℕ, zero, suc, ◌+◌, ◌-◌, ◌*◌, ◌^◌, List, [], ◌∷◌, ◌++◌, map, Option, Some, None, Result, Ok, Err}
use Rattle.kc_memory.specs.declared.words.VWord.{VWord}
use Rattle.kc_memory.specs.declared.rule.Rule.{Rule}
use Rattle.kc_memory.specs.Held.{word_count}
use Rattle.kc_memory.specs.Image.{Image}
use Rattle.kc_memory.specs.Translation.{vword}
use Rattle.kc_found.specs.declared.asked.Asked.{Asked}
use Rattle.kc_found.specs.declared.xarrays.XaEntry.{XaEntry}
use Rattle.kc_found.specs.declared.xarrays.XaEntry.TheVariants.{Nothing, Pointer, Odd, Node, Zero, Sibling, Bad}
use Rattle.kc_found.specs.declared.xarrays.XaHolder.{XaHolder}
use Rattle.kc_found.specs.declared.xarrays.XaItem.{XaItem}
use Rattle.kc_found.specs.declared.xarrays.XaNode.{XaNode}
use Rattle.kc_found.specs.declared.xarrays.XaWords.{XaWords}
use Rattle.kc_found.specs.Nodes.{at_offset}
use Rattle.kc_found.specs.Trials.{Trial, Break, Meet, claim, judged}
use Rattle.kc_found.specs.Violations.{Violation, breaks}
use Rattle.kc_found.specs.XaEntries.{kind, slot_fault, head_fault, fit}
use Rattle.kc_found.specs.XaLayouts.{XaLayout}
use Rattle.kc_found.specs.XaNodes.{XaCourse, behind_entry, xa_words, xa_rules, xa_claims, shift_in}

-- what is tried of an entry: the rule that it breaks, or what it is, with what lies below a node
abbrev pub entry_trials : Asked → Option Rule → XaEntry → VWord → ℕ → List (Trial XaItem) → List (Trial XaItem)
entry_trials asked (Some r) k w index below = Break (breaks asked r w None) ∷ []
entry_trials asked None Nothing w index below = []
entry_trials asked None Pointer w index below = Meet (record { index = index; entry = w.value }) ∷ []
entry_trials asked None Odd w index below = []
entry_trials asked None Node w index below = below
entry_trials asked None Zero w index below = []
entry_trials asked None (Sibling v) w index below = []
entry_trials asked None Bad w index below = []

-- what is tried of the node that an entry leads to, where it hangs in a slot, with the first index below it
abbrev pub Below : Type 0
Below = Option XaHolder → VWord → ℕ → List (Trial XaItem)

-- the index of a slot
abbrev pub index_of : XaNode → ℕ → ℕ
index_of o i = o.base + i * 2 ^ o.shift

-- a slot with all below it
abbrev pub slot_trials : XaCourse → Below → XaNode → ℕ → VWord → List (Trial XaItem)
slot_trials c below o i w =
    entry_trials c.asked (slot_fault c.shape.chunk o.slots o.shift i (fit (index_of o i)) (kind c.shape.chunk w.value)) (kind c.shape.chunk w.value) w (index_of o i)
    (below (Some (record { node = o.node; slot = i; shift = o.shift })) w (index_of o i))

-- the slots from number i on
abbrev pub slots_trials : XaCourse → Below → XaNode → ℕ → List VWord → List (Trial XaItem)
slots_trials c below o i [] = []
slots_trials c below o i (w ∷ ws) = slot_trials c below o i w ++ slots_trials c below o (i + 1) ws

-- a node, by the entry that leads to it, its first index and its words
abbrev pub xa_node : XaLayout → VWord → ℕ → XaWords → XaNode
xa_node shape led base n = record { node = led.value - 2; shift = shift_in shape (led.value - 2) n; base = base; slots = n.slots }

-- a node's own words
abbrev pub node_site : Asked → XaLayout → Option XaHolder → ℕ → Result XaWords Violation → List (Trial XaItem)
node_site asked shape holder node (Err v) = Break v ∷ []
node_site asked shape holder node (Ok n) = xa_claims asked n ++ xa_rules shape asked holder node n

-- what hangs in its slots
abbrev pub below_words : XaCourse → Below → VWord → ℕ → Result XaWords Violation → List (Trial XaItem)
below_words c below led base (Err v) = []
below_words c below led base (Ok n) = slots_trials c below (xa_node c.shape led base n) 0 n.slots

-- the words of the node that an entry leads to
abbrev pub words_behind : XaCourse → VWord → Result XaWords Violation
words_behind c led = xa_words (behind_entry c.read c.asked (Some led)) c.shape (led.value - 2)

-- the node that an entry leads to, and what hangs in it, over at most so many nodes one below the other
unfoldable pub node_trials : XaCourse → ℕ → Option XaHolder → VWord → ℕ → List (Trial XaItem)
node_trials c zero holder led base = []
node_trials c (suc left) holder led base =
    node_site c.asked c.shape holder (led.value - 2) (words_behind c led)
    ++ below_words c (λ h w b. node_trials c left h w b) led base (words_behind c led)

-- the head, and what hangs in it
abbrev pub head_trials : XaCourse → Below → Result VWord Violation → List (Trial XaItem)
head_trials c below (Err v) = Break v ∷ []
head_trials c below (Ok w) = claim c.asked w ∷ entry_trials c.asked (head_fault (kind c.shape.chunk w.value)) (kind c.shape.chunk w.value) w 0 (below None w 0)

-- the head, the nodes that are at most so many slots below it, and the entries in their slots
abbrev pub xa_trials : XaCourse → ℕ → List (Trial XaItem)
xa_trials c deep = head_trials c (λ h e b. node_trials c (deep + 1) h e b) (behind_entry c.read c.asked None (at_offset c.asked.start c.shape.head))

-- an xarray of a dump
abbrev pub xa_course : Image → XaLayout → Asked → XaCourse
xa_course image shape asked = record { read = vword image; shape = shape; asked = asked }

-- The pointers of the xarray at an address, or its first violation. In a memory of W words the nodes up to W + 1 slots
-- below the head are looked at: good ones one below the other down to there would take more than W words.
abbrev pub xa_judged : Image → XaLayout → ℕ → ℕ → Result (List XaItem) Violation
xa_judged image shape audit start =
    judged (xa_trials (xa_course image shape (record { audit = audit; start = start })) (word_count image.physical + 1))

-- the pointers of an xarray, which are its elements
abbrev pub entries : List XaItem → List ℕ
entries items = map (λ (i : XaItem). i.entry) items

abbrev pub entries_in : Result (List XaItem) Violation → Result (List ℕ) Violation
entries_in (Ok items) = Ok (entries items)
entries_in (Err v) = Err v
