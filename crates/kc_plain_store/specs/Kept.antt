-- Pages that are kept.
use Rattle.std.specs.Prelude.{◌≡◌, ℕ, List, All, Option, Some, None}
use Rattle.kc_kdump.specs.declared.layout.Layout.{Layout}
use Rattle.kc_plain.specs.Unpack.Plain.{page_at}
use Rattle.kc_plain_store.specs.declared.place.PagePlace.{PagePlace}

-- the page that a place keeps is the dump's
abbrev pub IsKept : Option (List ℕ) → Layout → PagePlace → Type 0
IsKept content layout place = (number : ℕ) → place.number ≡ Some number → (bytes : List ℕ) → content ≡ Some bytes → page_at layout bytes number ≡ place.bytes.items

-- no place keeps one
abbrev pub IsEmpty : PagePlace → Type 0
IsEmpty place = place.number ≡ None
