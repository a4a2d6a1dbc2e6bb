-- The sites of a slab's free list. Source: the kernel's mm/slub.c, `get_freepointer`, and `freelist_ptr_encode` for
-- CONFIG_SLAB_FREELIST_HARDENED; the order is this project's.
use Rattle.std.specs.Prelude.{ℕ, ◌+◌, ◌-◌, ◌/◌, ◌%◌, ◌^◌, ◌≤◌, ℤ, pos, unsigned_abs, Bool, true, false, ◌&&◌, nat_eq, nat_lt, not, bit_xor, if◌then◌else◌, List, [], ◌∷◌, ◌++◌, Option, Some, None, option_map, Result, Ok, Err}
use Rattle.std.specs.Int.{int_rem_euclid, swap_bytes, w64}
use Rattle.std.specs.Option.{unwrap_or}
use Rattle.kc_memory.specs.declared.words.Place.{Place}
use Rattle.kc_memory.specs.declared.words.VWord.{VWord}
use Rattle.kc_memory.specs.declared.rule.Rule.TheVariants.{U5}
use Rattle.kc_memory.specs.Bits.{Number, bits}
use Rattle.kc_memory.specs.Image.{Image}
use Rattle.kc_memory.specs.Stopped.{Stopped}
use Rattle.kc_found.specs.declared.asked.Asked.{Asked}
use Rattle.kc_found.specs.declared.free.FreeLed.{FreeLed}
use Rattle.kc_found.specs.declared.free.Grid.{Grid}
use Rattle.kc_found.specs.Chains.{ChainOf, chain_walk}
use Rattle.kc_found.specs.Nodes.{at_offset, readable}
use Rattle.kc_found.specs.Trials.{Trial, Break, broken_if, claim}
use Rattle.kc_found.specs.Violations.{Violation, breaks_field, missed_behind, places_by}

-- the 64 bits at an address, which may stand in two words
abbrev pub NumberReader : Type 0
NumberReader = ℕ → Result Number Stopped

abbrev pub number_in : Image → NumberReader
number_in image at = bits image at 0 64 false

-- a number modulo 2^64
abbrev pub low_word : ℤ → ℕ
low_word n = unsigned_abs (int_rem_euclid n (pos (2 ^ 64)))

-- the pointer that a word at an address stands for, in a cache with this random number
abbrev pub decoded : ℕ → ℕ → ℕ → ℕ
decoded word random at = bit_xor (bit_xor word random) (swap_bytes w64 at)

-- the pointer that a number at an address stands for: it is plain where the cache has no random number
abbrev pub pointer_by : Option ℕ → ℕ → Number → ℕ
pointer_by None at n = low_word n.value
pointer_by (Some random) at n = decoded (low_word n.value) random at

-- objects have a size, in which the 8 bytes of their free pointer lie
pub record IsGrid (grid : Grid) : Type 0 where
  pub some : 1 ≤ grid.size
  pub inside : grid.offset + 8 ≤ grid.size

-- how far an address lies above the first object
abbrev pub above_base : Grid → ℕ → ℕ
above_base grid at = (at + (2 ^ 64 - grid.base)) % 2 ^ 64

-- an object begins there
abbrev pub is_object : Grid → ℕ → Bool
is_object grid at = nat_eq (above_base grid at % grid.size) 0 && nat_lt (above_base grid at / grid.size) grid.objects

-- the address of an object's free pointer
abbrev pub pointer_at : Grid → ℕ → ℕ
pointer_at grid object = at_offset object grid.offset

-- the word at a place
abbrev pub word_shown : Place → VWord
word_shown p = record { va = unwrap_or p.va 0; pa = p.pa; off = p.off; value = p.value }

-- the words of a number are taken, the lower one first
abbrev pub places_taken : {X : Type 0} → Asked → List Place → List (Trial X)
places_taken asked [] = []
places_taken asked (p ∷ ps) = claim asked (word_shown p) ∷ places_taken asked ps

-- a number is read and then its words are taken
abbrev pub number_taken : {X : Type 0} → Asked → List Place → Result Number Stopped → List (Trial X)
number_taken asked led (Ok n) = places_taken asked (places_by (Some n))
number_taken asked led (Err s) = Break (missed_behind asked led s) ∷ []

-- the pointer that leads to a site, where it is shown: not that of the first one
abbrev pub led_by : FreeLed → Option Number
led_by s = if s.is_first then None else Some s.by

-- The site that a pointer leads to, by its free pointer: U5 of the pointer, and then the free pointer is read and its
-- words are taken.
abbrev pub free_site : Asked → Grid → Result Number Stopped → FreeLed → List (Trial ℕ)
free_site asked grid there s =
    broken_if (not (is_object grid s.to)) (breaks_field asked U5 s.to s.by None) ++ number_taken asked (places_by (led_by s)) there

-- what leads on from an object, by its free pointer
abbrev pub free_next : Grid → FreeLed → Number → FreeLed
free_next grid s n = record { to = pointer_by grid.random (pointer_at grid s.to) n; by = n; is_first = false }

-- A free list. It ends at the pointer 0.
abbrev pub free_chain : NumberReader → Grid → Asked → FreeLed → ChainOf FreeLed
free_chain read grid asked first = record {
  head = [];
  start = Some first;
  ends = λ s. nat_eq s.to 0;
  last = λ s. [];
  site = λ s. free_site asked grid (read (pointer_at grid s.to)) s;
  element = λ s. s.to;
  next = λ s. option_map (free_next grid s) (readable (read (pointer_at grid s.to)));
}

-- what leads to the first free object: the number of the slab's `freelist`, plain
abbrev pub free_first : Number → FreeLed
free_first n = record { to = low_word n.value; by = n; is_first = true }

-- the free objects of a slab, or the first violation
abbrev pub free_list : Image → Grid → Number → Asked → Result (List ℕ) Violation
free_list image grid first asked = chain_walk image.physical (free_chain (number_in image) grid asked (free_first first))
