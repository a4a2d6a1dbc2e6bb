-- What the definitions of fields and paths say of the dump.
use Rattle.std.specs.Prelude.{◌≡◌, ℕ, ◌+◌, ◌*◌, ◌/◌, ◌%◌, List, [], ◌∷◌, Result, Ok, Err}
use Rattle.kc_memory.specs.declared.words.Place.{Place}
use Rattle.kc_memory.specs.Bits.{bits, number_places}
use Rattle.kc_memory.specs.Image.{Image}
use Rattle.kc_memory.specs.Places.{AllStandIn, entry_places}
use Rattle.kc_memory.specs.Stopped.{Stopped}
use Rattle.kc_memory.specs.Translation.{and_then}
use Rattle.kc_layout.specs.declared.place.Located.{Located}
use Rattle.kc_layout.specs.Ends.{BitsAt}
use Rattle.kc_layout.specs.HopList.{hop_list}
use Rattle.kc_view.specs.declared.view.Led.{Led}
use Rattle.kc_view.specs.declared.view.Led.TheVariants.{At, Null}
use Rattle.kc_view.specs.Paths.{followed}
use Rattle.kc_view.specs.Pointers.{behind, value_at}
use Rattle.kc_view.specs.Typed.{Typed, bytes_on}

-- what the number of a field shows is true of the dump, and what a stop shows in its place
abbrev pub ValuesStand : Type 0
ValuesStand = (image : Image) (at : ℕ) (hops : List ℕ) (b : BitsAt) → AllStandIn image (number_places (value_at image at hops b))

-- the places that a path shows: that of a null pointer, or a stop's
abbrev pub led_places : Result Led Stopped → List Place
led_places (Ok (At view)) = []
led_places (Ok (Null place at)) = place ∷ []
led_places (Err s) = entry_places s.pa s.entry

-- they are true of the dump
abbrev pub PathsStand : Type 0
PathsStand = (image : Image) (view : Typed) (to : Located) → AllStandIn image (led_places (followed image view to))

-- where a path leads to a view, a field behind its pointers is read as that view reads it
abbrev pub ReadsWhereLed : Type 0
ReadsWhereLed =
    (image : Image) (view end : Typed) (to : Located) (whole part : BitsAt) → followed image view to ≡ Ok (At end)
    → whole.bit ≡ 8 * to.byte + part.bit → whole.width ≡ part.width → whole.signed ≡ part.signed
    → value_at image view.at (hop_list to.hops) whole ≡ value_at image end.at [] part

-- a field's number begins in the byte that lies as many bytes behind its pointers as its first bit has whole bytes
abbrev pub ReadsFromByte : Type 0
ReadsFromByte =
    (image : Image) (at : ℕ) (hops : List ℕ) (b : BitsAt)
    → value_at image at hops b
    ≡ and_then (behind image at hops) (λ end. bits image (bytes_on end (b.bit / 8)) (b.bit % 8) b.width b.signed)
