-- How a word holds a value. Source: the kernel's mm/slub.c, `freelist_ptr_encode` (CONFIG_SLAB_FREELIST_HARDENED); objects are reached by the direct map
-- (Documentation/arch/x86/x86_64/mm.rst).
use Rattle.std.specs.Prelude.{◌≡◌, ℕ, ◌+◌, ◌*◌, ◌%◌, ◌^◌, ◌<◌, Bool, true, false, nat_eq, nat_lt, if◌then◌else◌, List, ◌∷◌, map, drop, get_or, Option, Some, None, option_map}
use Rattle.std.specs.List.{find, list_any}
use Rattle.byteorder.specs.Endian.{little_number}
use Rattle.kc_found.specs.FreeLists.{decoded}
use Rattle.kc_sight.specs.declared.refs.sought.Writing.{Writing}
use Rattle.kc_sight.specs.declared.refs.sought.Writing.TheVariants.{Plain, Encoded}

-- what is looked for: a value, the virtual address at which the direct map begins, and the random numbers of slab caches
pub record Sought : Type 0 where
  pub value : ℕ
  pub direct : ℕ
  pub randoms : List ℕ

-- a word at a physical address is the value, as a free pointer that is encoded with a random number
abbrev pub is_encoded : Sought → ℕ → ℕ → ℕ → Bool
is_encoded s word pa random = nat_eq (decoded word random ((s.direct + pa) % 2 ^ 64)) s.value

-- How a word at a physical address holds the value, where it does: as it is, or else encoded with the first random number that makes it so.
abbrev pub writing : Sought → ℕ → ℕ → Option Writing
writing s word pa = if nat_eq word s.value then Some Plain else option_map Encoded (find (is_encoded s word pa) s.randoms)

-- as the code keeps the random numbers: a number is one of some, and a filter has its lowest 16 bits
abbrev pub is_among : ℕ → List ℕ → Bool
is_among random randoms = list_any (λ one. nat_eq one random) randoms

abbrev pub has_bit : List Bool → ℕ → Bool
has_bit filter random = get_or filter (random % 65536) false

-- the words that hold a value where the direct map begins: it, and it encoded with each of these random numbers
abbrev pub codes : ℕ → ℕ → List ℕ → List ℕ
codes value direct randoms = value ∷ map (λ r. decoded value r direct) randoms

-- the addresses at which the direct map has the physical ones below an end have the upper 16 bits of its first one
abbrev pub is_near : ℕ → ℕ → Bool
is_near direct end = nat_lt (direct % 2 ^ 48 + end) (2 ^ 48)

-- none of so many words holds the value, at a physical address with such an address
abbrev pub NoneHolds : Sought → List ℕ → ℕ → Type 0
NoneHolds s bytes n = (k pa : ℕ) → k < n → is_near s.direct pa ≡ true → writing s (little_number 8 (drop (8 * k) bytes)) pa ≡ None
