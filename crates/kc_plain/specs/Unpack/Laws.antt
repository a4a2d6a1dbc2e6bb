-- What the definition of a page says.
use Rattle.std.specs.Prelude.{◌≡◌, ℕ, List, length}
use Rattle.kc_kdump.specs.declared.layout.Layout.{Layout}
use Rattle.kc_plain.specs.Pages.{AreWhole}
use Rattle.kc_plain.specs.Unpack.Plain.{page_at}

-- each page has 4096 bytes
abbrev pub PagesAreWhole : Type 0
PagesAreWhole = (layout : Layout) (bytes : List ℕ) → AreWhole (page_at layout bytes)
