-- The words of a dump that an answer shows.
use Rattle.std.specs.Prelude.{◌≡◌, ℕ, List, [], ◌∷◌, Option, Some, None, IfSome, Result, Ok, Err}
use Rattle.kc_memory.specs.declared.words.PWord.{PWord}
use Rattle.kc_memory.specs.declared.words.VWord.{VWord}
use Rattle.kc_memory.specs.declared.words.Place.{Place}
use Rattle.kc_memory.specs.Stopped.{Stopped}
use Rattle.kc_memory.specs.Image.{Image, pword}
use Rattle.kc_memory.specs.Translation.{vword}

-- the place of a word
abbrev pub place_of : VWord → Place
place_of w = record { va = Some w.va; pa = w.pa; off = w.off; value = w.value }

-- the place of the entry that stopped the reading, where one was refused
abbrev pub entry_places : ℕ → Option PWord → List Place
entry_places pa None = []
entry_places pa (Some word) = record { va = None; pa = pa; off = word.off; value = word.value } ∷ []

-- what an answer shows
abbrev pub places_of : Result VWord Stopped → List Place
places_of (Ok w) = place_of w ∷ []
places_of (Err s) = entry_places s.pa s.entry

-- a place is true of the dump: the word stands at its physical address in the file, and at its virtual address
-- if it has one
pub record StandsIn (image : Image) (p : Place) : Type 0 where
  pub physically : pword image.physical p.pa ≡ Some (record { value = p.value; off = p.off })
  pub virtually : IfSome p.va (λ va. vword image va ≡ Ok (record { va = va; pa = p.pa; off = p.off; value = p.value }))

-- all of them are
abbrev pub AllStandIn : Image → List Place → Type 0
AllStandIn image [] = Unit {0}
AllStandIn image (p ∷ ps) = StandsIn image p × AllStandIn image ps
