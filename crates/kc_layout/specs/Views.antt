-- What the code answers, as the definitions have it.
use Rattle.kc_word.specs.declared.bits.Bits.{Bits}
use Rattle.kc_layout.specs.declared.place.Located.{Located}
use Rattle.kc_layout.specs.declared.place.Field.{Field}
use Rattle.kc_layout.specs.declared.place.Place.{Place as CodePlace}
use Rattle.kc_layout.specs.declared.place.End.{End as CodeEnd}
use Rattle.kc_layout.specs.Places.{Place, End}
use Rattle.kc_layout.specs.Ends.{ByteAt, BitsAt, NumberAt}
use Rattle.kc_layout.specs.HopList.{hop_list}

abbrev pub place_view : CodePlace → Place
place_view p = record { hops = hop_list p.hops; spot = p.spot }

abbrev pub end_view : CodeEnd → End
end_view e = record { place = place_view e.place; step = e.step }

abbrev pub byte_view : Located → ByteAt
byte_view l = record { hops = hop_list l.hops; byte = l.byte; ty = l.ty }

abbrev pub bits_view : Bits → BitsAt
bits_view b = record { bit = b.bit; width = b.width; signed = b.signed }

abbrev pub number_view : Field → NumberAt
number_view f = record { hops = hop_list f.hops; bits = bits_view f.bits; ty = f.ty }
