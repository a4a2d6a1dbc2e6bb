-- The sites of a hash chain. Source: the kernel's include/linux/list.h, `struct hlist_head` and `struct hlist_node`;
-- the order is this project's.
use Rattle.std.specs.Prelude.{ℕ, Bool, nat_eq, not, List, [], ◌++◌, Some, None, option_map, Result}
use Rattle.kc_memory.specs.declared.words.VWord.{VWord}
use Rattle.kc_memory.specs.declared.rule.Rule.TheVariants.{K, H1}
use Rattle.kc_memory.specs.Image.{Image}
use Rattle.kc_memory.specs.Stopped.{Stopped}
use Rattle.kc_memory.specs.Translation.{vword}
use Rattle.kc_found.specs.declared.asked.Asked.{Asked}
use Rattle.kc_found.specs.declared.shapes.HShape.{HShape}
use Rattle.kc_found.specs.Chains.{ChainOf, from_there, chain_walk}
use Rattle.kc_found.specs.Nodes.{at_offset, is_poison, node_words, readable, one_taken, two_taken}
use Rattle.kc_found.specs.Trials.{Reader, Trial, broken_if}
use Rattle.kc_found.specs.Violations.{Violation, breaks}

-- the words `next` and `pprev` of a node
abbrev pub hash_links : Reader → HShape → ℕ → Result (VWord × VWord) Stopped
hash_links read shape node = node_words read shape.next shape.pprev node

-- `pprev` isn't the address of the pointer
abbrev pub points_wrong : VWord → VWord × VWord → Bool
points_wrong from p = not (nat_eq p.1.value from.va)

-- the pointer that leads on from a node
abbrev pub next_of : VWord × VWord → VWord
next_of p = p.0

-- The site that a pointer leads to, by its two words: K of the pointer, both words are read and taken, and then H1 of
-- `pprev`, which has the address of that pointer.
abbrev pub hash_site : Asked → Result (VWord × VWord) Stopped → VWord → List (Trial ℕ)
hash_site asked there from =
    broken_if (is_poison from.value) (breaks asked K from None)
    ++ (two_taken asked (Some from) there
    ++ from_there (readable there) (λ p. broken_if (points_wrong from p) (breaks asked H1 p.1 (Some from.va))))

-- A hash chain, whose head is where the walk starts. It ends at the pointer 0.
abbrev pub hash_chain : Reader → HShape → Asked → ChainOf VWord
hash_chain read shape asked = record {
  head = one_taken asked None (read (at_offset asked.start shape.first));
  start = readable (read (at_offset asked.start shape.first));
  ends = λ from. nat_eq from.value 0;
  last = λ from. [];
  site = λ from. hash_site asked (hash_links read shape from.value) from;
  element = λ from. from.value;
  next = λ from. option_map next_of (readable (hash_links read shape from.value));
}

-- the nodes of a hash chain, or its first violation
abbrev pub hash_walk : Image → HShape → ℕ → ℕ → Result (List ℕ) Violation
hash_walk image shape audit head =
    chain_walk image.physical (hash_chain (vword image) shape (record { audit = audit; start = head }))
