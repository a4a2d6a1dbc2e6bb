-- `layout`: the members of a struct or union.
use Rattle.std.specs.Prelude.{ℕ, List, [], ◌∷◌, codes, Option, Some, None, option_and_then}
use Rattle.kc_outside.specs.declared.store.Slot.TheVariants.{Btf}
use Rattle.kc_btf.specs.Btf.{Types}
use Rattle.kc_layout.specs.declared.fault.QRule.TheVariants.{Q5}
use Rattle.kc_layout.specs.Find.{find}
use Rattle.kc_layout.specs.Bare.{compound_under}
use Rattle.kc_layout.specs.Listing.{listing}
use Rattle.kc_command.specs.declared.refusal.Refusal.TheVariants.{NoType, Path}
use Rattle.kc_command.specs.Inputs.{types_in}
use Rattle.kc_command.specs.Made.{◌>>=◌, Made, gives, wanted}
use Rattle.kc_command.specs.Ends.Asked.{Asked}
use Rattle.kc_app.specs.declared.layout.Asks.{Asks}
use Rattle.kc_app.specs.Form.{Form}
use Rattle.kc_app.specs.Shown.{Shown, Listed}

-- the struct or union of a name, unless it has too many members
abbrev pub layout_of : Types → List ℕ → Made Shown
layout_of types name = do
  t ← wanted NoType (option_and_then (compound_under types) (find types name))
  lines ← wanted (Path (record { rule = Q5; step = 0 })) (listing types t.id)
  gives (Listed types.strings t name lines)

abbrev pub layout_made : List ℕ → Option (List ℕ) → Made Shown
layout_made name file = types_in file >>= (λ types. layout_of types name)

-- what `layout` asks: the name of the file of types, and that of the type
abbrev pub layout_asked : List ℕ → List ℕ → Asked Shown
layout_asked btf ty = record {
  named = record { slot = Btf; name = btf } ∷ [];
  made = λ files. layout_made ty (files Btf);
}

abbrev pub layout_asks : List (List ℕ) → Option (Asked Shown)
layout_asks (btf ∷ ty ∷ []) = Some (layout_asked btf ty)
layout_asks _ = None

abbrev pub layout_form : Form Shown
layout_form = record { name = codes "layout"; words = codes "BTF TYPE" ∷ []; asks = layout_asks }

-- as the code keeps it
abbrev pub layout_view : Asks → Asked Shown
layout_view a = layout_asked a.btf.now a.name.now
