-- Worked trees: a made dump's, and changes of it.
use Rattle.std.proofs.Common.{◌≡◌, ℕ, ◌+◌, ◌%◌, nat_eq, List, [], ◌∷◌, Option, None, Some, refl, arith}
use Rattle.std.specs.Prelude.{Result, Ok, Err, false, true, if◌then◌else◌, nat_le, Bool}
use Rattle.kc_word.specs.declared.bits.Bits.{Bits}
use Rattle.kc_memory.specs.declared.words.Origin.TheVariants.{File}
use Rattle.kc_memory.specs.declared.words.VWord.{VWord}
use Rattle.kc_memory.specs.declared.rule.Rule.TheVariants.{M6, A, R1, R2, R3, R4, R5, R6}
use Rattle.kc_memory.specs.Bits.{Number, first_bit, in_one, in_two, next_word, word_of}
use Rattle.kc_memory.specs.Stopped.{Stopped}
use Rattle.kc_found.specs.declared.asked.Asked.{Asked}
use Rattle.kc_found.specs.declared.shapes.RbShape.{RbShape}
use Rattle.kc_found.specs.RbTrees.{Reads, RbCourse, tree_trials, nulls, rb_trials}
use Rattle.kc_found.specs.Trials.{Reader, and_then, judged}
use Rattle.kc_found.specs.Violations.{Violation, breaks, missed}

-- a memory of these words
abbrev absent : ℕ → Stopped
absent va = record { va = va; rule = M6; level = 0; pa = va % 0x100000; entry = None }

abbrev look : List VWord → Reader
look [] va = Err (absent va)
look (w ∷ ws) va = if nat_eq w.va va then Ok w else look ws va

abbrev with_low : List VWord → ℕ → Bits → VWord → Result Number Stopped
with_low ws n b low =
    if nat_le (n % 64 + b.width) 64 then Ok (in_one (n % 64) b.width b.signed low)
    else and_then (look ws (next_word (word_of n))) (λ high. Ok (in_two (n % 64) b.width b.signed low high))

abbrev memory : List VWord → Reads
memory ws = record {
  word = look ws;
  number = λ at b. and_then (look ws (word_of (first_bit at b.bit))) (with_low ws (first_bit at b.bit) b);
}

-- a word, whose physical address is its virtual one without the upper bits
abbrev word : ℕ → ℕ → VWord
word va value = record { va = va; pa = va % 0x100000; off = File (va % 0x100000 + 0x2000); value = value }

-- two maps of memory
abbrev image_at : ℕ → ℕ
image_at x = 0xffffffff80000000 + x

abbrev direct : ℕ → ℕ
direct x = 0xffff888000000000 + x

abbrev key : Option Bits
key = Some (record { bit = 256; width = 32; signed = true; near = omega arith; some = omega arith; word = omega arith })

-- items of 64 bytes: a signed key of 32 bits at byte 32, and the node at byte 40
abbrev shape : Option ℕ → Bool → RbShape
shape leftmost unique = record {
  parent_color = 0;
  right = 8;
  left = 16;
  root = 0;
  leftmost = leftmost;
  link = 40;
  key = key;
  unique = unique;
}

abbrev asked : Asked
asked = record { audit = 0; start = image_at 0xb130 }

abbrev course : Option ℕ → Bool → List VWord → RbCourse
course leftmost unique ws = record { read = memory ws; shape = shape leftmost unique; asked = asked }

-- the verdict on the tree of these words, in a memory of so many: of a plain root, of a cached one, with unique keys
abbrev plain : List VWord → Result (List ℕ) Violation
plain ws = judged (rb_trials (course None false ws) 12)

abbrev cached : List VWord → Result (List ℕ) Violation
cached ws = judged (rb_trials (course (Some 8) false ws) 12)

abbrev unique : List VWord → Result (List ℕ) Violation
unique ws = judged (rb_trials (course None true ws) 12)

-- a black top node with the key 9, and two red nodes with the keys 7 and 12
abbrev words : List VWord
words =
    word (image_at 0xb130) (direct 0x11068) ∷ word (image_at 0xb138) (direct 0x11028)
    ∷ word (direct 0x11020) 0x700000007 ∷ word (direct 0x11028) (direct 0x11068) ∷ word (direct 0x11030) 0 ∷ word (direct 0x11038) 0
    ∷ word (direct 0x11060) 9 ∷ word (direct 0x11068) 1 ∷ word (direct 0x11070) (direct 0x110a8) ∷ word (direct 0x11078) (direct 0x11028)
    ∷ word (direct 0x110a0) 12 ∷ word (direct 0x110a8) (direct 0x11068) ∷ word (direct 0x110b0) 0 ∷ word (direct 0x110b8) 0 ∷ []

three_nodes : plain words ≡ Ok (direct 0x11028 ∷ direct 0x11068 ∷ direct 0x110a8 ∷ [])
unfolding tree_trials nulls
three_nodes = refl

cached_root : cached words ≡ Ok (direct 0x11028 ∷ direct 0x11068 ∷ direct 0x110a8 ∷ [])
unfolding tree_trials nulls
cached_root = refl

-- one node is both children
one_leaf_twice : plain (word (direct 0x11070) (direct 0x11028) ∷ words) ≡ Err (breaks asked A (word (direct 0x11028) (direct 0x11068)) None)
unfolding tree_trials nulls
one_leaf_twice = refl

-- the black count is off at the last null alone
last_null : plain (word (direct 0x11028) (direct 0x11068 + 1) ∷ word (direct 0x110b8) (direct 0x110e8) ∷ word (direct 0x110e0) 10
    ∷ word (direct 0x110e8) (direct 0x110a8 + 1) ∷ word (direct 0x110f0) 0 ∷ word (direct 0x110f8) 0 ∷ words)
    ≡ Err (breaks asked R5 (word (direct 0x110b0) 0) (Some 2))
unfolding tree_trials nulls
last_null = refl

-- the leftmost word names the top node
wrong_leftmost : cached (word (image_at 0xb138) (direct 0x11068) ∷ words) ≡ Err (breaks asked R6 (word (image_at 0xb138) (direct 0x11068)) (Some (direct 0x11028)))
unfolding tree_trials nulls
wrong_leftmost = refl

-- two keys are equal
equal_keys : plain (word (direct 0x11060) 7 ∷ words) ≡ Ok (direct 0x11028 ∷ direct 0x11068 ∷ direct 0x110a8 ∷ [])
unfolding tree_trials nulls
equal_keys = refl

unique_keys : unique (word (direct 0x11060) 7 ∷ words) ≡ Err (record {
  audit = 0;
  start = image_at 0xb130;
  rule = R4;
  at = direct 0x11020;
  expected = Some 7;
  stop = None;
  places = record { va = Some (direct 0x11020); pa = 0x11020; off = File 0x13020; value = 0x700000007 } ∷ [];
})
unfolding tree_trials nulls
unique_keys = refl

-- a key is above the bound from two levels up, and that bound is negative
far_bound : plain (word (direct 0x11060) 0xfffffff9 ∷ word (direct 0x11020) 0xfffffff0 ∷ word (direct 0x11030) (direct 0x110e8) ∷ word (direct 0x110e0) 0xfffffffa
    ∷ word (direct 0x110e8) (direct 0x11028) ∷ word (direct 0x11028) (direct 0x11068 + 1) ∷ word (direct 0x110a8) (direct 0x11068 + 1) ∷ word (direct 0x110f0) 0 ∷ word (direct 0x110f8) 0 ∷ words)
    ≡ Err (record {
      audit = 0;
      start = image_at 0xb130;
      rule = R4;
      at = direct 0x110e0;
      expected = Some 0xfffffffffffffff9;
      stop = None;
      places = record { va = Some (direct 0x110e0); pa = 0x110e0; off = File 0x130e0; value = 0xfffffffa } ∷ [];
    })
unfolding tree_trials nulls
far_bound = refl

red_top : plain (word (direct 0x11068) 0 ∷ words) ≡ Err (breaks asked R2 (word (direct 0x11068) 0) (Some 1))
unfolding tree_trials nulls
red_top = refl

-- a red node below a red one, whose words and key are otherwise good
red_twice : plain (word (direct 0x11038) (direct 0x110e8) ∷ word (direct 0x110e8) (direct 0x11028) ∷ word (direct 0x110f0) 0 ∷ word (direct 0x110f8) 0 ∷ words)
    ≡ Err (breaks asked R3 (word (direct 0x110e8) (direct 0x11028)) (Some (direct 0x11028 + 1)))
unfolding tree_trials nulls
red_twice = refl

-- bits 0 and 1 are no part of the parent's address
wrong_parent : plain (word (direct 0x110a8) (direct 0x11028 + 3) ∷ words) ≡ Err (breaks asked R1 (word (direct 0x110a8) (direct 0x11028 + 3)) (Some (direct 0x11068)))
unfolding tree_trials nulls
wrong_parent = refl

empty_tree : plain (word (image_at 0xb130) 0 ∷ []) ≡ Ok []
unfolding tree_trials nulls
empty_tree = refl

empty_cached : cached (word (image_at 0xb130) 0 ∷ word (image_at 0xb138) 0 ∷ []) ≡ Ok []
unfolding tree_trials nulls
empty_cached = refl

-- a key that isn't in the dump: its node's words are taken before, and the pointer to the node is shown
no_key : plain (word (direct 0x11070) (direct 0x120e8) ∷ word (direct 0x120e8) (direct 0x11068) ∷ word (direct 0x120f0) 0 ∷ word (direct 0x120f8) 0 ∷ words)
    ≡ Err (missed asked (Some (word (direct 0x11070) (direct 0x120e8))) (absent (direct 0x120e0)))
unfolding tree_trials nulls
no_key = refl
