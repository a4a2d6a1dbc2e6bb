-- What is printed of the object that has an address.
use Rattle.std.specs.Prelude.{ℕ, nat_lt, if◌then◌else◌, Bool, true, false, List, [], ◌∷◌, ◌++◌, codes, decimal, map, Option, Some, None, Result, Ok, Err}
use Rattle.kc_text.specs.Compose.{texts}
use Rattle.kc_text.specs.Text.{hex, visible}
use Rattle.kc_sight.specs.Nearest.{SymbolAt}
use Rattle.kc_report.specs.Lines.{rule_code}
use Rattle.kc_found.specs.Violations.{Violation}
use Rattle.kc_owner.specs.declared.object.cache.Cache.{Cache}
use Rattle.kc_owner.specs.declared.object.free.FreeSpot.{FreeSpot}
use Rattle.kc_owner.specs.declared.object.held.Held.{Held}
use Rattle.kc_owner.specs.declared.object.page.Page.{Page}
use Rattle.kc_owner.specs.declared.object.slab.Slab.{Slab}
use Rattle.kc_owner.specs.declared.object.spot.ObjectSpot.{ObjectSpot}
use Rattle.kc_owner.specs.declared.object.spot.Spot.{Spot}
use Rattle.kc_owner.specs.declared.object.spot.Spot.TheVariants.{Before, Pad, Object, Past}
use Rattle.kc_frame.specs.declared.frame.FrameWords.{FrameWords}
use Rattle.kc_told.specs.Framed.{framed_lines}
use Rattle.kc_told.specs.Inside.{Kept}

-- why something can't be told: the rule, and what it is about
abbrev pub unknown_text : Violation → List ℕ
unknown_text v = codes " unknown " ++ rule_code v.rule ++ codes " " ++ hex v.at ++ codes "\n"

-- a page: its descriptor, its number, and its head page's descriptor
abbrev pub page_line : Page → List ℕ
page_line p =
    (codes "descriptor " ++ hex p.descriptor) ++ (codes " page " ++ hex p.number) ++ (codes " head " ++ hex p.head) ++ codes "\n"

-- how many users a cache has; one that is never merged has a negative number there
abbrev pub users_text : Option ℕ → List ℕ
users_text None = []
users_text (Some users) = if nat_lt users 0x8000000000000000 then codes " users " ++ decimal users else []

-- a cache: its address and its name, the bytes from one object to the next, and how many users it has
abbrev pub cache_line : Cache → ℕ → List ℕ
cache_line c size = codes "cache " ++ hex c.at ++ codes " " ++ map visible c.name ++ codes " size " ++ decimal size ++ users_text c.users ++ codes "\n"

-- a slab: its descriptor, its first byte, and how many objects it has and how many are in use
abbrev pub slab_line : ℕ → Slab → List ℕ
slab_line head s =
    codes "slab " ++ hex head ++ codes " first " ++ hex s.first ++ codes " objects " ++ decimal s.counts.objects ++ codes " inuse " ++ decimal s.counts.inuse
    ++ codes "\n"

-- where the list of a processor that owns the slab has the object; `frozen` where that can't be told
abbrev pub kept_text : Kept → List ℕ
kept_text None = codes " frozen\n"
kept_text (Some (Ok (Some s))) =
    codes " free " ++ decimal s.place ++ codes " of " ++ decimal s.length ++ codes " processor " ++ decimal s.cpu ++ codes "\n"
kept_text (Some (Ok None)) = codes " used\n"
kept_text (Some (Err v)) = codes " frozen" ++ unknown_text v

-- where the slab's own free list has it, or else such a processor's
abbrev pub place_text : Option ℕ → ℕ → Bool → Kept → List ℕ
place_text (Some place) length frozen kept = codes " free " ++ decimal place ++ codes " of " ++ decimal length ++ codes "\n"
place_text None length true kept = kept_text kept
place_text None length false kept = codes " used\n"

abbrev pub free_text : Result FreeSpot Violation → Bool → Kept → List ℕ
free_text (Ok free) frozen kept = place_text free.place free.length frozen kept
free_text (Err v) frozen kept = unknown_text v

-- the object, its number in the slab, and the byte in it
abbrev pub object_text : ObjectSpot → List ℕ
object_text o = codes "object " ++ hex o.first ++ codes " number " ++ decimal o.number ++ codes " byte " ++ decimal o.byte

-- where in its slab the address lies
abbrev pub spot_line : Spot → Result FreeSpot Violation → Bool → Kept → List ℕ
spot_line (Object o) free frozen kept = object_text o ++ free_text free frozen kept
spot_line (Pad number) free frozen kept = codes "pad number " ++ decimal number ++ codes "\n"
spot_line Past free frozen kept = codes "past\n"
spot_line Before free frozen kept = codes "before\n"

-- a symbol's name
abbrev pub holder_text : SymbolAt → List ℕ
holder_text s = codes " " ++ map visible s.name

-- the symbols whose words hold the cache's address, where there are some
abbrev pub holder_line : List SymbolAt → List ℕ
holder_line [] = []
holder_line (s ∷ others) = codes "held by" ++ texts holder_text (s ∷ others) ++ codes "\n"

abbrev pub whole_slab : ℕ → List SymbolAt → Kept → Slab → List ℕ
whole_slab head holders kept s =
    cache_line s.cache s.objects.size ++ holder_line holders ++ slab_line head s ++ spot_line s.spot s.free s.counts.frozen kept

abbrev pub slab_lines : ℕ → List SymbolAt → Kept → Result (Option Slab) Violation → List ℕ
slab_lines head holders kept (Ok None) = []
slab_lines head holders kept (Ok (Some s)) = whole_slab head holders kept s
slab_lines head holders kept (Err v) = codes "slab" ++ unknown_text v

-- what holds an address, with what its page's descriptor says
abbrev pub held_lines : List SymbolAt → Kept → Option FrameWords → Result Held Violation → List ℕ
held_lines holders kept frame (Ok h) = page_line h.page ++ framed_lines frame ++ slab_lines h.page.head holders kept h.slab
held_lines holders kept frame (Err v) = codes "descriptor" ++ unknown_text v

abbrev pub object_lines : List SymbolAt → Kept → Option FrameWords → Option (Result Held Violation) → List ℕ
object_lines holders kept frame None = []
object_lines holders kept frame (Some held) = held_lines holders kept frame held
