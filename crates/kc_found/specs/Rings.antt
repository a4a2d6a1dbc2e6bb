-- The sites of a ring. Source: the kernel's include/linux/list.h, `struct list_head`; the order is this project's.
use Rattle.std.specs.Prelude.{ℕ, Bool, nat_eq, not, List, ◌++◌, Some, None, option_map, Result}
use Rattle.kc_memory.specs.declared.words.VWord.{VWord}
use Rattle.kc_memory.specs.declared.rule.Rule.TheVariants.{N, K, L1}
use Rattle.kc_memory.specs.Image.{Image}
use Rattle.kc_memory.specs.Stopped.{Stopped}
use Rattle.kc_memory.specs.Translation.{vword}
use Rattle.kc_found.specs.declared.asked.Asked.{Asked}
use Rattle.kc_found.specs.declared.shapes.ListShape.{ListShape}
use Rattle.kc_found.specs.Chains.{ChainOf, from_there, chain_walk}
use Rattle.kc_found.specs.Nodes.{is_poison, node_words, readable, two_taken}
use Rattle.kc_found.specs.Trials.{Reader, Trial, broken_if}
use Rattle.kc_found.specs.Violations.{Violation, breaks}

-- the words `next` and `prev` of a node
abbrev pub links : Reader → ListShape → ℕ → Result (VWord × VWord) Stopped
links read shape node = node_words read shape.next shape.prev node

-- what leads to a site of a ring: the pointer there, the node that holds it, and the head's `prev`
pub record RingLed : Type 0 where
  pub from : VWord
  pub before : ℕ
  pub last : VWord

-- what leads to a head's first node, by the head's words
abbrev pub led_first : ℕ → VWord × VWord → RingLed
led_first head p = record { from = p.0; before = head; last = p.1 }

-- what leads on from a node, by its words
abbrev pub led_on : RingLed → VWord × VWord → RingLed
led_on s p = record { from = p.0; before = s.from.value; last = s.last }

-- `prev` isn't the node before
abbrev pub is_wrong : ℕ → VWord × VWord → Bool
is_wrong before p = not (nat_eq p.1.value before)

-- The site that a pointer leads to, by its two words: N and K of the pointer, both words are read and taken, and then
-- L1 of `prev`.
abbrev pub ring_site : Asked → Result (VWord × VWord) Stopped → VWord → ℕ → List (Trial ℕ)
ring_site asked there from before =
    broken_if (nat_eq from.value 0) (breaks asked N from None)
    ++ (broken_if (is_poison from.value) (breaks asked K from None)
    ++ (two_taken asked (Some from) there
    ++ from_there (readable there) (λ p. broken_if (is_wrong before p) (breaks asked L1 p.1 (Some before)))))

-- A ring, whose head is where the walk starts. It ends where a pointer leads back to the head: L1 of the head's `prev`.
abbrev pub ring_chain : Reader → ListShape → Asked → ChainOf RingLed
ring_chain read shape asked = record {
  head = two_taken asked None (links read shape asked.start);
  start = option_map (led_first asked.start) (readable (links read shape asked.start));
  ends = λ s. nat_eq s.from.value asked.start;
  last = λ s. broken_if (not (nat_eq s.last.value s.before)) (breaks asked L1 s.last (Some s.before));
  site = λ s. ring_site asked (links read shape s.from.value) s.from s.before;
  element = λ s. s.from.value;
  next = λ s. option_map (led_on s) (readable (links read shape s.from.value));
}

-- the nodes of a ring without its head, or its first violation
abbrev pub ring_walk : Image → ListShape → ℕ → ℕ → Result (List ℕ) Violation
ring_walk image shape audit head =
    chain_walk image.physical (ring_chain (vword image) shape (record { audit = audit; start = head }))
