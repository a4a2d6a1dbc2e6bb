-- What fields and paths show is true of the dump, and where they lead.
use Rattle.std.proofs.Common.{◌≡◌, ℕ, ◌+◌, ◌*◌, ◌/◌, ◌%◌, Bool, true, false, nat_eq, if◌then◌else◌, List, [], ◌∷◌, Result, Ok, Err, refl, ap, ◌∙◌, arith}
use Rattle.kc_memory.specs.Bits.{Number, bits, bits_at, first_bit, number_places}
use Rattle.kc_memory.specs.Image.{Image}
use Rattle.kc_memory.specs.Laws.{NumbersStand}
use Rattle.kc_memory.specs.Places.{AllStandIn}
use Rattle.kc_memory.specs.Stopped.{Stopped}
use Rattle.kc_memory.specs.Translation.{and_then}
use Rattle.kc_layout.specs.declared.place.Located.{Located}
use Rattle.kc_layout.specs.Ends.{BitsAt}
use Rattle.kc_layout.specs.HopList.{hop_list}
use Rattle.kc_view.specs.declared.pointers.Reached.{Reached}
use Rattle.kc_view.specs.declared.pointers.Reached.TheVariants.{Address, NullPointer}
use Rattle.kc_view.specs.declared.view.Led.{Led}
use Rattle.kc_view.specs.declared.view.Led.TheVariants.{At}
use Rattle.kc_view.specs.Laws.{PathsStand, ReadsFromByte, ReadsWhereLed, ValuesStand, led_places}
use Rattle.kc_view.specs.Paths.{led}
use Rattle.kc_view.specs.Pointers.{behind, pointer, reached, target, unless_null, value_at}
use Rattle.kc_view.specs.Typed.{Typed, bytes_on, laid}

-- a number that is read, and then another one
then_stands : (image : Image) (r : Result Number Stopped) (go : Number → Result ℕ Stopped) (read : ℕ → Result Number Stopped)
    → AllStandIn image (number_places r) → ((p : Number) → AllStandIn image (number_places (and_then (go p) read)))
    → AllStandIn image (number_places (and_then (and_then r go) read))
then_stands image (Ok p) go read here next = next p
then_stands image (Err s) go read here next = here

pub values_stand : NumbersStand → ValuesStand
unfolding behind
values_stand numbers image at [] b = numbers image at b.bit b.width b.signed
values_stand numbers image at (offset ∷ offsets) b =
    then_stands image (pointer image at offset) (λ p. behind image (target p.value) offsets) (λ end. bits image end b.bit b.width b.signed)
    (numbers image (bytes_on at offset) 0 64 false) (λ p. values_stand numbers image (target p.value) offsets b)

-- a way to an address, as a view's path has it
led_by : Typed → Located → Result Reached Stopped → Result Led Stopped
led_by view to r = and_then r (λ end. Ok (led view to end))

-- a pointer that is read, and a way from there
way_stands : (image : Image) (view : Typed) (to : Located) (at : ℕ) (r : Result Number Stopped) (go : ℕ → Result Reached Stopped)
    → AllStandIn image (number_places r) → ((next : ℕ) → AllStandIn image (led_places (led_by view to (go next))))
    → AllStandIn image (led_places (led_by view to (and_then r (λ p. unless_null at p go))))
unfolding led_by
way_stands image view to at (Err s) go here next = here
way_stands image view to at (Ok p) go here next = by_null (nat_eq (target p.value) 0)
  where
    by_null : (null : Bool) → AllStandIn image (led_places (led_by view to (if null then Ok (NullPointer p.first at) else go (target p.value))))
    by_null true = (here.0, tt)
    by_null false = next (target p.value)

reached_stands : NumbersStand → (image : Image) (view : Typed) (to : Located) (at : ℕ) (hops : List ℕ) → AllStandIn image (led_places (led_by view to (reached image at hops)))
unfolding led_by reached
reached_stands numbers image view to at [] = tt
reached_stands numbers image view to at (offset ∷ offsets) =
    way_stands image view to (bytes_on at offset) (pointer image at offset) (λ next. reached image next offsets)
    (numbers image (bytes_on at offset) 0 64 false) (λ next. reached_stands numbers image view to next offsets)

pub paths_stand : NumbersStand → PathsStand
unfolding led_by
paths_stand numbers image view to = reached_stands numbers image view to view.at (hop_list to.hops)

-- a pointer that isn't null is followed
goes_on : (at end : ℕ) (r : Result Number Stopped) (go : ℕ → Result Reached Stopped) (read : ℕ → Result ℕ Stopped)
    → ((next : ℕ) → go next ≡ Ok (Address end) → read next ≡ Ok end)
    → and_then r (λ p. unless_null at p go) ≡ Ok (Address end) → and_then r (λ p. read (target p.value)) ≡ Ok end
goes_on at end (Err s) go read next is = let none : ⊥ = cc in absurd none
goes_on at end (Ok p) go read next is = by_null (nat_eq (target p.value) 0) is
  where
    by_null : (null : Bool) → (if null then Ok (NullPointer p.first at) else go (target p.value)) ≡ Ok (Address end) → read (target p.value) ≡ Ok end
    by_null true is = let none : ⊥ = cc in absurd none
    by_null false is = next (target p.value) is

-- an address that is reached lies behind the pointers
behind_reached : (image : Image) (at : ℕ) (hops : List ℕ) (end : ℕ) → reached image at hops ≡ Ok (Address end) → behind image at hops ≡ Ok end
unfolding reached behind
behind_reached image at [] end is = let same : at ≡ end = cc in ap (λ (n : ℕ). Ok n) same
behind_reached image at (offset ∷ offsets) end is =
    goes_on (bytes_on at offset) end (pointer image at offset) (λ next. reached image next offsets) (λ next. behind image next offsets) (λ next. behind_reached image next offsets end) is

-- where a path leads to a view, an address was reached
reached_led : (view end : Typed) (to : Located) (r : Result Reached Stopped) → led_by view to r ≡ Ok (At end)
    → (a : ℕ) × (r ≡ Ok (Address a)) × (bytes_on a to.byte ≡ end.at)
unfolding led_by
reached_led view end to (Ok (Address a)) is = let same : laid view.types a to.byte to.ty ≡ end = cc in (a, refl, ap (λ v. v.at) same)
reached_led view end to (Ok (NullPointer place at)) is = let none : ⊥ = cc in absurd none
reached_led view end to (Err s) is = let none : ⊥ = cc in absurd none

bytes-bits : (a byte bit : ℕ) → first_bit a (8 * byte + bit) ≡ first_bit (bytes_on a byte) bit
bytes-bits a byte bit = omega arith

pub reads_where_led : ReadsWhereLed
unfolding led_by behind
reads_where_led image view end to whole part is bit width signed =
    let way = reached_led view end to (reached image view.at (hop_list to.hops)) is in
    let behind_hops = behind_reached image view.at (hop_list to.hops) way.0 way.1 in
    let same : first_bit way.0 whole.bit ≡ first_bit end.at part.bit = ap (first_bit way.0) bit ∙ bytes-bits way.0 to.byte part.bit ∙ ap (λ n. first_bit n part.bit) way.2 in
    let read : value_at image view.at (hop_list to.hops) whole ≡ bits image way.0 whole.bit whole.width whole.signed = ap (λ r. and_then r (λ a. bits image a whole.bit whole.width whole.signed)) behind_hops in
    let there : bits image way.0 whole.bit whole.width whole.signed ≡ bits image end.at part.bit part.width part.signed = rw (same, width, signed) refl in
    read ∙ there

from_byte : (image : Image) (r : Result ℕ Stopped) (b : BitsAt)
    → and_then r (λ end. bits image end b.bit b.width b.signed)
    ≡ and_then r (λ end. bits image (bytes_on end (b.bit / 8)) (b.bit % 8) b.width b.signed)
from_byte image (Ok end) b =
    let same : first_bit end b.bit ≡ first_bit (bytes_on end (b.bit / 8)) (b.bit % 8) = omega arith in
    ap (λ n. bits_at image n b.width b.signed) same
from_byte image (Err s) b = refl

pub reads_from_byte : ReadsFromByte
reads_from_byte image at hops b = from_byte image (behind image at hops) b
