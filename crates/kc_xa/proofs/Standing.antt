-- An entry may stand in its slot exactly where it breaks no rule there.
use Rattle.std.proofs.Common.{◌≡◌, ℕ, zero, suc, ◌^◌, ◌<◌, ◌≤◌, nat_eq, nat_lt, Bool, true, false, Option, None, Some, refl, arith}
use Rattle.std.specs.Prelude.{◌&&◌, if◌then◌else◌}
use Rattle.std.proofs.lemmas.Bool.{ltb-true, lt-ltb, ne_eqb}
use Rattle.kc_memory.specs.declared.rule.Rule.{Rule}
use Rattle.kc_memory.specs.declared.rule.Rule.TheVariants.{X8, X9}
use Rattle.kc_memory.specs.declared.words.VWord.{VWord}
use Rattle.kc_found.specs.declared.xarrays.XaEntry.{XaEntry}
use Rattle.kc_found.specs.declared.xarrays.XaEntry.TheVariants.{Nothing, Pointer, Odd, Node, Zero, Sibling, Bad}
use Rattle.kc_found.specs.declared.xarrays.XaNode.{XaNode}
use Rattle.kc_found.specs.FiniteXarrays.{MayStand, IsLeaf, IsHeadLeaf}
use Rattle.kc_found.specs.XaEntries.{kind, names, fit, within, slot_fault, head_fault}
use Rattle.kc_found.specs.XaNodes.{XaCourse}
use Rattle.kc_found.specs.XaSites.{index_of}

-- the entry of a slot breaks no rule there
abbrev pub IsFine : XaCourse → XaNode → ℕ → VWord → Type 0
IsFine c o i w = slot_fault c.shape.chunk o.slots o.shift i (fit (index_of o i)) (kind c.shape.chunk w.value) ≡ None

-- a fault within the indexes
fits_at : (b : Bool) (n : ℕ) (other : Option Rule) → within (if b then Some n else None) other ≡ None → (b ≡ true) × (other ≡ None)
fits_at true n other e = (refl, e)
fits_at false n other e = absurd (cc)

at_fits : (b : Bool) (n : ℕ) (other : Option Rule) → b ≡ true → other ≡ None → within (if b then Some n else None) other ≡ None
at_fits true n other e f = f
at_fits false n other e f = absurd (cc)

fits_below : (n : ℕ) (other : Option Rule) → within (fit n) other ≡ None → (n < 2 ^ 64) × (other ≡ None)
fits_below n other e = let f = fits_at (nat_lt n (2 ^ 64)) n other e in (ltb-true n (2 ^ 64) f.0, f.1)

below_fits : (n : ℕ) (other : Option Rule) → n < 2 ^ 64 → other ≡ None → within (fit n) other ≡ None
below_fits n other lt e = at_fits (nat_lt n (2 ^ 64)) n other (lt-ltb n (2 ^ 64) lt) e

if_not : (b : Bool) (r : Rule) → (if b then Some r else None) ≡ None → b ≡ false
if_not true r e = absurd (cc)
if_not false r e = refl

not_if : (b : Bool) (r : Rule) → b ≡ false → (if b then Some r else None) ≡ None
not_if true r e = absurd (cc)
not_if false r e = refl

if_so : (b : Bool) (r : Rule) → (if b then None else Some r) ≡ None → b ≡ true
if_so true r e = refl
if_so false r e = absurd (cc)

so_if : (b : Bool) (r : Rule) → b ≡ true → (if b then None else Some r) ≡ None
so_if true r e = refl
so_if false r e = absurd (cc)

some_shift : (s : ℕ) → nat_eq s 0 ≡ false → 1 ≤ s
some_shift zero e = absurd (cc)
some_shift (suc s) e = omega arith

shift_some : (s : ℕ) → 1 ≤ s → nat_eq s 0 ≡ false
shift_some s le = ne_eqb s 0 (λ e. absurd (omega (arith, le, e)))

and_parts : (a b : Bool) → (a && b) ≡ true → (a ≡ true) × (b ≡ true)
and_parts true b e = (refl, e)
and_parts false b e = absurd (cc)

and_whole : (a b : Bool) → a ≡ true → b ≡ true → (a && b) ≡ true
and_whole true b e f = f
and_whole false b e f = absurd (cc)

pub stands : (chunk : ℕ) (o : XaNode) (i : ℕ) (k : XaEntry) → slot_fault chunk o.slots o.shift i (fit (index_of o i)) k ≡ None → MayStand chunk o i k
stands chunk o i Nothing e = tt
stands chunk o i Pointer e = (fits_below (index_of o i) None e).0
stands chunk o i Odd e = (fits_below (index_of o i) None e).0
stands chunk o i Node e = let f = fits_below (index_of o i) (if nat_eq o.shift 0 then Some X9 else None) e in (f.0, some_shift o.shift (if_not (nat_eq o.shift 0) X9 f.1))
stands chunk o i Zero e = (fits_below (index_of o i) None e).0
stands chunk o i (Sibling v) e =
    let f = fits_below (index_of o i) (if nat_lt v i && names chunk o.slots v then None else Some X8) e in
    let both = and_parts (nat_lt v i) (names chunk o.slots v) (if_so (nat_lt v i && names chunk o.slots v) X8 f.1) in
    (f.0, ltb-true v i both.0, both.1)
stands chunk o i Bad e = absurd (cc)

pub fine_of : (chunk : ℕ) (o : XaNode) (i : ℕ) (k : XaEntry) → MayStand chunk o i k → slot_fault chunk o.slots o.shift i (fit (index_of o i)) k ≡ None
fine_of chunk o i Nothing h = refl
fine_of chunk o i Pointer h = below_fits (index_of o i) None h refl
fine_of chunk o i Odd h = below_fits (index_of o i) None h refl
fine_of chunk o i Node h = below_fits (index_of o i) (if nat_eq o.shift 0 then Some X9 else None) h.0 (not_if (nat_eq o.shift 0) X9 (shift_some o.shift h.1))
fine_of chunk o i Zero h = below_fits (index_of o i) None h refl
fine_of chunk o i (Sibling v) h =
    below_fits (index_of o i) (if nat_lt v i && names chunk o.slots v then None else Some X8) h.0
    (so_if (nat_lt v i && names chunk o.slots v) X8 (and_whole (nat_lt v i) (names chunk o.slots v) (lt-ltb v i h.1) h.2))
fine_of chunk o i Bad h = absurd h

-- the same of the head's entry
pub head_stands : (k : XaEntry) → IsLeaf k → head_fault k ≡ None → IsHeadLeaf k
head_stands Nothing h e = tt
head_stands Pointer h e = tt
head_stands Odd h e = tt
head_stands Node h e = absurd h
head_stands Zero h e = tt
head_stands (Sibling v) h e = absurd (cc)
head_stands Bad h e = absurd (cc)

pub head_fine : (k : XaEntry) → IsHeadLeaf k → (head_fault k ≡ None) × IsLeaf k
head_fine Nothing h = (refl, tt)
head_fine Pointer h = (refl, tt)
head_fine Odd h = (refl, tt)
head_fine Node h = absurd h
head_fine Zero h = (refl, tt)
head_fine (Sibling v) h = absurd h
head_fine Bad h = absurd h
