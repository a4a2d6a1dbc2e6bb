-- What contracts see of the code's data.
use Rattle.std.specs.Prelude.{map}
use Rattle.kc_sight.specs.Views.{symbol_view, symbols_holding}
use Rattle.kc_told.specs.declared.told.Shapes.{Shapes as CodeShapes}
use Rattle.kc_told.specs.declared.near_text.InObject.{InObject as CodeInObject}
use Rattle.kc_told.specs.declared.told.Told.{Told as CodeTold}
use Rattle.kc_told.specs.declared.inside.InSlab.{InSlab as CodeInSlab}
use Rattle.kc_told.specs.Inside.{InSlab}
use Rattle.kc_told.specs.NearText.{InObject}
use Rattle.kc_told.specs.Objects.{Shapes, Told}

abbrev pub shapes_view : CodeShapes → Shapes
shapes_view s = record { objects = s.words.objects; cpus = s.words.cpus; areas = s.words.areas; symbols = s.words.symbols; end = s.map.parts.end; holding = λ image value. symbols_holding image s.map value }

abbrev pub told_view : CodeTold → Told
told_view t = record { areas = t.areas; symbol = t.symbol; held = t.held; frame = t.frame; kept = t.kept; holders = map symbol_view t.holders.items; named = t.named; span = t.span }

abbrev pub in_object_view : CodeInObject → InObject
in_object_view o = record { name = o.name.now; byte = o.byte; mark = o.mark.now }

abbrev pub in_slab_view : CodeInSlab → InSlab
in_slab_view o = record { slab = o.slab.now; object = o.object.now }
