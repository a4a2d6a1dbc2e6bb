-- The loops over memory, each with its beginning, a step, a stop and its end.
use Rattle.std.proofs.Common.{◌≡◌, ℕ, ◌+◌, ◌-◌, ◌<◌, ◌≤◌, false, true, bytes_eq, List, [], ◌∷◌, ◌++◌, length, drop, get_or, Option, Result, Ok, Err, refl, ap, arith}
use Rattle.std.specs.Global.{Vec}
use Rattle.kc_bytes.specs.Bytes.{onward}
use Rattle.kc_memory.specs.Image.{Image}
use Rattle.kc_kallsyms.specs.declared.fault.TableFault.TheVariants.{S15, S16}
use Rattle.kc_kallsyms.specs.declared.stop.TableStop.{TableStop}
use Rattle.kc_kallsyms.specs.declared.stop.TableStop.TheVariants.{Table}
use Rattle.kc_kallsyms.specs.Bytes.{eight_at, four_at}
use Rattle.kc_kallsyms.specs.Reading.{ReadsAs, Why}
use Rattle.kc_modules.specs.declared.entry.ModuleEntry.{ModuleEntry}
use Rattle.kc_modules.specs.declared.shape.ModuleFields.{ModuleFields}
use Rattle.kc_modules.specs.declared.shape.TypedShape.{TypedShape}
use Rattle.kc_modules.specs.Lines.{entry_at, line, lines_at, sizes_from, text_of}
use Rattle.kc_modules.specs.Lists.{nodes_from}
use Rattle.kc_modules.specs.Typed.{data_at, named_at, types_of}
use Rattle.kc_modules.specs.Views.{entry_view}
use Rattle.kc_modules.proofs.Following.{Follows, follows_bad, follows_ends, follows_first, follows_more, follows_read, follows_stops, none_before, prefixed}
use Rattle.kc_modules.proofs.Steps.{lines_end, lines_more, lines_stop, nodes_end, nodes_more, nodes_none, nodes_stop, sizes_end, sizes_more, sizes_stop, types_end, types_found, types_more, types_stop}

abbrev pub Number : Option Image → (Image → Result ℕ Why) → Result ℕ TableStop → Type 0
Number o truth r = ReadsAs (λ (n : ℕ). n) truth o r

abbrev pub Bytes : Option Image → (Image → Result (List ℕ) Why) → Result (Vec ℕ) TableStop → Type 0
Bytes o truth r = ReadsAs (λ (v : Vec ℕ). v.items) truth o r

-- nodes
abbrev pub NodesLeft : Option Image → ℕ → ℕ → List ℕ → ℕ → ℕ → Type 0
NodesLeft o head first done left at = Follows o (λ image. nodes_from image head 65536 first) (λ image. prefixed done (nodes_from image head left at))

pub nodes_first : (o : Option Image) (head first : ℕ) (done : List ℕ) → done ≡ [] → NodesLeft o head first done (65536 - 0) first
nodes_first o head first done empty =
    let all : 65536 - 0 ≡ 65536 = refl in
    follows_first o (λ image. nodes_from image head 65536 first) (λ image. prefixed done (nodes_from image head 65536 first)) (λ image. none_before done (nodes_from image head 65536 first) empty)

pub nodes_go : (o : Option Image) (head first i at next : ℕ) (done more : List ℕ) → NodesLeft o head first done (65536 - i) at → Number o (λ image. eight_at image at) (Ok next)
    → i < 65536 → (at ≡ head → ⊥) → more ≡ done ++ at ∷ [] → NodesLeft o head first more (65536 - (i + 1)) next
nodes_go o head first i at next done more so_far read lt other is =
    follows_more o (λ image. nodes_from image head 65536 first) (λ image. prefixed done (nodes_from image head (65536 - i) at)) (λ image. prefixed more (nodes_from image head (65536 - (i + 1)) next))
    (λ image. eight_at image at) (λ (n : ℕ). n) next so_far read (λ image one. nodes_more image head 65536 i at next done more lt other is one)

pub nodes_halt : (o : Option Image) (head first i at : ℕ) (done : List ℕ) (stop : TableStop) → NodesLeft o head first done (65536 - i) at → Number o (λ image. eight_at image at) (Err stop)
    → i < 65536 → (at ≡ head → ⊥) → Bytes o (λ image. nodes_from image head 65536 first) (Err stop)
nodes_halt o head first i at done stop so_far read lt other =
    follows_stops o (λ image. nodes_from image head 65536 first) (λ image. prefixed done (nodes_from image head (65536 - i) at)) (λ image. eight_at image at) (λ (n : ℕ). n) (λ (v : Vec ℕ). v.items) stop
    so_far read (λ image e one. nodes_stop image head 65536 i at done e lt other one)

pub nodes_come : (o : Option Image) (head first i at : ℕ) (nodes : Vec ℕ) → NodesLeft o head first nodes.items (65536 - i) at → i < 65536 → at ≡ head
    → Bytes o (λ image. nodes_from image head 65536 first) (Ok nodes)
nodes_come o head first i at nodes so_far lt is =
    follows_ends o (λ image. nodes_from image head 65536 first) (λ image. prefixed nodes.items (nodes_from image head (65536 - i) at)) (λ (v : Vec ℕ). v.items) nodes
    so_far (λ image. nodes_end image head 65536 i at nodes.items lt is)

pub nodes_lack : (o : Option Image) (head first i at : ℕ) (done : List ℕ) → NodesLeft o head first done (65536 - i) at → 65536 ≤ i
    → Bytes o (λ image. nodes_from image head 65536 first) (Err (Table S15))
nodes_lack o head first i at done so_far past =
    follows_bad o (λ image. nodes_from image head 65536 first) (λ image. prefixed done (nodes_from image head (65536 - i) at)) (λ (v : Vec ℕ). v.items) S15
    so_far (λ image. nodes_none image head 65536 i at done past)

-- sizes
abbrev pub SizesLeft : Option Image → ℕ → ℕ → ℕ → ℕ → ℕ → ℕ → Type 0
SizesLeft o stride count first left at sum = Follows o (λ image. sizes_from image stride count first 0) (λ image. sizes_from image stride left at sum)

pub sizes_first : (o : Option Image) (stride count first : ℕ) → SizesLeft o stride count first (count - 0) first 0
sizes_first o stride count first =
    let all : count ≡ count - 0 = omega arith in
    follows_first o (λ image. sizes_from image stride count first 0) (λ image. sizes_from image stride (count - 0) first 0) (λ image. ap (λ n. sizes_from image stride n first 0) all)

pub sizes_go : (o : Option Image) (stride count first i at sum size next more : ℕ) → SizesLeft o stride count first (count - i) at sum → Number o (λ image. four_at image at) (Ok size)
    → i < count → next ≡ onward at stride → more ≡ onward sum size → SizesLeft o stride count first (count - (i + 1)) next more
sizes_go o stride count first i at sum size next more so_far read lt goes adds =
    follows_more o (λ image. sizes_from image stride count first 0) (λ image. sizes_from image stride (count - i) at sum) (λ image. sizes_from image stride (count - (i + 1)) next more)
    (λ image. four_at image at) (λ (n : ℕ). n) size so_far read (λ image one. sizes_more image stride count i at sum size next more lt goes adds one)

pub sizes_halt : (o : Option Image) (stride count first i at sum : ℕ) (stop : TableStop) → SizesLeft o stride count first (count - i) at sum → Number o (λ image. four_at image at) (Err stop)
    → i < count → Number o (λ image. sizes_from image stride count first 0) (Err stop)
sizes_halt o stride count first i at sum stop so_far read lt =
    follows_stops o (λ image. sizes_from image stride count first 0) (λ image. sizes_from image stride (count - i) at sum) (λ image. four_at image at) (λ (n : ℕ). n) (λ (n : ℕ). n) stop
    so_far read (λ image e one. sizes_stop image stride count i at sum e lt one)

pub sizes_come : (o : Option Image) (stride count first i at sum : ℕ) → SizesLeft o stride count first (count - i) at sum → count ≤ i
    → Number o (λ image. sizes_from image stride count first 0) (Ok sum)
sizes_come o stride count first i at sum so_far past =
    follows_ends o (λ image. sizes_from image stride count first 0) (λ image. sizes_from image stride (count - i) at sum) (λ (n : ℕ). n) sum so_far (λ image. sizes_end image stride count i at sum past)

-- lines
abbrev pub LinesLeft : Option Image → ModuleFields → List ℕ → List ℕ → List ℕ → Type 0
LinesLeft o shape nodes done left = Follows o (λ image. lines_at image shape nodes) (λ image. prefixed done (lines_at image shape left))

pub lines_first : (o : Option Image) (shape : ModuleFields) (nodes done : List ℕ) → done ≡ [] → LinesLeft o shape nodes done (drop 0 nodes)
lines_first o shape nodes done empty =
    follows_first o (λ image. lines_at image shape nodes) (λ image. prefixed done (lines_at image shape nodes)) (λ image. none_before done (lines_at image shape nodes) empty)

pub lines_go : (o : Option Image) (shape : ModuleFields) (nodes : List ℕ) (i node : ℕ) (entry : ModuleEntry) (done more : List ℕ) → LinesLeft o shape nodes done (drop i nodes) → ReadsAs entry_view (λ image. entry_at image shape node) o (Ok entry)
    → i < length nodes → node ≡ get_or nodes i 0 → more ≡ done ++ line (entry_view entry) → LinesLeft o shape nodes more (drop (i + 1) nodes)
lines_go o shape nodes i node entry done more so_far read lt at is =
    follows_more o (λ image. lines_at image shape nodes) (λ image. prefixed done (lines_at image shape (drop i nodes))) (λ image. prefixed more (lines_at image shape (drop (i + 1) nodes)))
    (λ image. entry_at image shape node) entry_view entry so_far read (λ image one. lines_more image shape nodes i node (entry_view entry) done more lt at is one)

pub lines_halt : (o : Option Image) (shape : ModuleFields) (nodes : List ℕ) (i node : ℕ) (done : List ℕ) (stop : TableStop) → LinesLeft o shape nodes done (drop i nodes) → ReadsAs entry_view (λ image. entry_at image shape node) o (Err stop)
    → i < length nodes → node ≡ get_or nodes i 0 → Bytes o (λ image. lines_at image shape nodes) (Err stop)
lines_halt o shape nodes i node done stop so_far read lt at =
    follows_stops o (λ image. lines_at image shape nodes) (λ image. prefixed done (lines_at image shape (drop i nodes))) (λ image. entry_at image shape node) entry_view (λ (v : Vec ℕ). v.items) stop
    so_far read (λ image e one. lines_stop image shape nodes i node done e lt at one)

pub lines_come : (o : Option Image) (shape : ModuleFields) (nodes : List ℕ) (i : ℕ) (text : Vec ℕ) → LinesLeft o shape nodes text.items (drop i nodes) → length nodes ≤ i
    → Bytes o (λ image. lines_at image shape nodes) (Ok text)
lines_come o shape nodes i text so_far past =
    follows_ends o (λ image. lines_at image shape nodes) (λ image. prefixed text.items (lines_at image shape (drop i nodes))) (λ (v : Vec ℕ). v.items) text so_far (λ image. lines_end image shape nodes i text.items past)

-- the module with a name
abbrev pub TypesLeft : Option Image → TypedShape → List ℕ → List ℕ → List ℕ → Type 0
TypesLeft o shape name nodes left = Follows o (λ image. types_of image shape name nodes) (λ image. types_of image shape name left)

pub types_first : (o : Option Image) (shape : TypedShape) (name nodes : List ℕ) → TypesLeft o shape name nodes (drop 0 nodes)
types_first o shape name nodes = follows_first o (λ image. types_of image shape name nodes) (λ image. types_of image shape name nodes) (λ image. refl)

abbrev pub Named : Option Image → TypedShape → ℕ → Result (Vec ℕ) TableStop → Type 0
Named o shape node r = ReadsAs (λ (v : Vec ℕ). text_of v.items) (λ image. named_at image shape node) o r

pub types_go : (o : Option Image) (shape : TypedShape) (name nodes : List ℕ) (i node : ℕ) (other : Vec ℕ) → TypesLeft o shape name nodes (drop i nodes) → Named o shape node (Ok other)
    → i < length nodes → node ≡ get_or nodes i 0 → bytes_eq (text_of other.items) name ≡ false → TypesLeft o shape name nodes (drop (i + 1) nodes)
types_go o shape name nodes i node other so_far read lt at differ =
    follows_more o (λ image. types_of image shape name nodes) (λ image. types_of image shape name (drop i nodes)) (λ image. types_of image shape name (drop (i + 1) nodes))
    (λ image. named_at image shape node) (λ (v : Vec ℕ). text_of v.items) other so_far read (λ image one. types_more image shape name nodes (text_of other.items) i node lt at differ one)

pub types_halt : (o : Option Image) (shape : TypedShape) (name nodes : List ℕ) (i node : ℕ) (stop : TableStop) → TypesLeft o shape name nodes (drop i nodes) → Named o shape node (Err stop)
    → i < length nodes → node ≡ get_or nodes i 0 → Bytes o (λ image. types_of image shape name nodes) (Err stop)
types_halt o shape name nodes i node stop so_far read lt at =
    follows_stops o (λ image. types_of image shape name nodes) (λ image. types_of image shape name (drop i nodes)) (λ image. named_at image shape node) (λ (v : Vec ℕ). text_of v.items) (λ (v : Vec ℕ). v.items) stop
    so_far read (λ image e one. types_stop image shape name nodes i node e lt at one)

pub types_come : (o : Option Image) (shape : TypedShape) (name nodes : List ℕ) (i node : ℕ) (other : Vec ℕ) (r : Result (Vec ℕ) TableStop) → TypesLeft o shape name nodes (drop i nodes) → Named o shape node (Ok other)
    → i < length nodes → node ≡ get_or nodes i 0 → bytes_eq (text_of other.items) name ≡ true → Bytes o (λ image. data_at image shape node) r
    → Bytes o (λ image. types_of image shape name nodes) r
types_come o shape name nodes i node other r so_far read lt at same is =
    follows_read o (λ image. types_of image shape name nodes) (λ image. types_of image shape name (drop i nodes)) (λ image. data_at image shape node)
    (λ image. named_at image shape node) (λ (v : Vec ℕ). text_of v.items) other (λ (v : Vec ℕ). v.items) r so_far read
    (λ image one. types_found image shape name nodes (text_of other.items) i node lt at same one) is

pub types_lack : (o : Option Image) (shape : TypedShape) (name nodes : List ℕ) (i : ℕ) → TypesLeft o shape name nodes (drop i nodes) → length nodes ≤ i
    → Bytes o (λ image. types_of image shape name nodes) (Err (Table S16))
types_lack o shape name nodes i so_far past =
    follows_bad o (λ image. types_of image shape name nodes) (λ image. types_of image shape name (drop i nodes)) (λ (v : Vec ℕ). v.items) S16 so_far (λ image. types_end image shape name nodes i past)
