-- The entries of an xarray. Source: the kernel's include/linux/xarray.h and lib/xarray.c; the order of the rules is this
-- project's.
use Rattle.std.specs.Prelude.{ℕ, ◌+◌, ◌/◌, ◌%◌, ◌^◌, Bool, true, false, ◌&&◌, nat_eq, nat_lt, nat_le, List, slice_get, Option, Some, None, if◌then◌else◌}
use Rattle.kc_memory.specs.declared.words.VWord.{VWord}
use Rattle.kc_memory.specs.declared.rule.Rule.{Rule}
use Rattle.kc_memory.specs.declared.rule.Rule.TheVariants.{X7, X8, X9}
use Rattle.kc_found.specs.declared.xarrays.XaEntry.{XaEntry}
use Rattle.kc_found.specs.declared.xarrays.XaEntry.TheVariants.{Nothing, Pointer, Odd, Node, Zero, Sibling, Bad}

-- What an entry is, in a node of so many slots. Where its low two bits are 2, it is internal, with a number above them:
-- errors stand at the top, nodes below them and above 4096, and small numbers are siblings, a retry (256) and the zero
-- entry (257).
unfoldable pub kind : ℕ → ℕ → XaEntry
kind chunk e =
    if nat_eq e 0 then Nothing
    else (if nat_eq (e % 4) 0 then Pointer
    else (if nat_eq (e % 2) 1 then Odd
    else (if nat_lt 4096 e && nat_lt e 0xffffffffffffc006 then Node
    else (if nat_eq (e / 4) 257 then Zero
    else (if nat_le (e / 4 + 2) chunk then Sibling (e / 4) else Bad)))))

-- what a sibling may stand for
abbrev pub may_have_siblings : XaEntry → Bool
may_have_siblings Nothing = false
may_have_siblings Pointer = true
may_have_siblings Odd = true
may_have_siblings Node = false
may_have_siblings Zero = true
may_have_siblings (Sibling v) = false
may_have_siblings Bad = false

abbrev pub is_sibling : XaEntry → Bool
is_sibling Nothing = false
is_sibling Pointer = false
is_sibling Odd = false
is_sibling Node = false
is_sibling Zero = false
is_sibling (Sibling v) = true
is_sibling Bad = false

abbrev pub good_at : ℕ → Option VWord → Bool
good_at chunk None = false
good_at chunk (Some w) = may_have_siblings (kind chunk w.value)

-- the slot that a sibling names holds what it may stand for
abbrev pub names : ℕ → List VWord → ℕ → Bool
names chunk slots v = good_at chunk (slice_get slots v)

-- an index, where it is below 2^64
abbrev pub fit : ℕ → Option ℕ
fit n = if nat_lt n (2 ^ 64) then Some n else None

-- an index at or above 2^64 breaks X7, before any other rule
abbrev pub within : Option ℕ → Option Rule → Option Rule
within None other = Some X7
within (Some n) other = other

-- the first rule that the entry in a slot breaks, by the node's slots and shift, the slot's number and its index
abbrev pub slot_fault : ℕ → List VWord → ℕ → ℕ → Option ℕ → XaEntry → Option Rule
slot_fault chunk slots shift i index Nothing = None
slot_fault chunk slots shift i index Pointer = within index None
slot_fault chunk slots shift i index Odd = within index None
slot_fault chunk slots shift i index Node = within index (if nat_eq shift 0 then Some X9 else None)
slot_fault chunk slots shift i index Zero = within index None
slot_fault chunk slots shift i index (Sibling v) = within index (if nat_lt v i && names chunk slots v then None else Some X8)
slot_fault chunk slots shift i index Bad = Some X7

-- the first rule that the head's entry breaks
abbrev pub head_fault : XaEntry → Option Rule
head_fault Nothing = None
head_fault Pointer = None
head_fault Odd = None
head_fault Node = None
head_fault Zero = None
head_fault (Sibling v) = Some X7
head_fault Bad = Some X7
