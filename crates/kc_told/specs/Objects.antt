-- What is told of an address, beside what is seen of it: the areas in which it lies, and which object has it.
use Rattle.std.specs.Prelude.{ℕ, ◌+◌, ◌%◌, ◌^◌, ◌&&◌, Bool, true, false, not, nat_lt, is_none, if◌then◌else◌, List, [], Option, Some, None, option_and_then, option_map, Result, Ok, Err}
use Rattle.kc_btf.specs.Btf.{Types}
use Rattle.kc_memory.specs.declared.words.VWord.{VWord}
use Rattle.kc_memory.specs.Image.{Image}
use Rattle.kc_memory.specs.Stopped.{Stopped}
use Rattle.kc_memory.specs.Translation.{vword}
use Rattle.kc_notes.specs.declared.info.Info.{Info}
use Rattle.kc_syms.specs.Rows.{RowText, addresses}
use Rattle.kc_found.specs.declared.free.Grid.{Grid}
use Rattle.kc_found.specs.Nodes.{at_offset}
use Rattle.kc_found.specs.Trials.{and_then as ◌>>=◌}
use Rattle.kc_found.specs.Violations.{Violation}
use Rattle.kc_kinds.specs.Kernels.{Kernel}
use Rattle.kc_owner.specs.declared.area.areas.Areas.{Areas}
use Rattle.kc_owner.specs.declared.area.shape.AreaShape.{AreaShape}
use Rattle.kc_owner.specs.Area.Areas.{areas}
use Rattle.kc_owner.specs.Area.Shapes.{area_shape}
use Rattle.kc_owner.specs.declared.object.cache.Cache.{Cache}
use Rattle.kc_owner.specs.declared.object.free.FreeSpot.{FreeSpot}
use Rattle.kc_owner.specs.declared.object.held.Held.{Held}
use Rattle.kc_owner.specs.declared.object.slab.Slab.{Slab}
use Rattle.kc_owner.specs.declared.object.spot.Spot.{Spot}
use Rattle.kc_owner.specs.declared.object.spot.Spot.TheVariants.{Before, Pad, Object, Past}
use Rattle.kc_owner.specs.Object.Shapes.{object_shape}
use Rattle.kc_owner.specs.Object.Slabs.{held}
use Rattle.kc_slab_page.specs.declared.mark.Mark.{Mark}
use Rattle.kc_slab_page.specs.Marks.{marked, slab_mark}
use Rattle.kc_slab_page.specs.Slabs.{is_laid}
use Rattle.kc_frame.specs.declared.frame.FrameWords.{FrameWords}
use Rattle.kc_frame.specs.Shapes.{frame_shape}
use Rattle.kc_module_symbols.specs.declared.shape.SymbolShape.{SymbolShape}
use Rattle.kc_module_symbols.specs.declared.told.ModuleSymbol.{ModuleSymbol}
use Rattle.kc_module_symbols.specs.Shapes.{symbol_shape}
use Rattle.kc_slab_scan.specs.declared.cpu_object.SlabObject.{SlabObject}
use Rattle.kc_slab_scan.specs.declared.cpu_words.CpuShape.{CpuShape}
use Rattle.kc_slab_scan.specs.CpuObjects.{object_spot}
use Rattle.kc_slab_scan.specs.CpuShapes.{cpu_shape}
use Rattle.kc_told.specs.declared.named.Named.{Named}
use Rattle.kc_told.specs.declared.span.Bounds.{Bounds}
use Rattle.kc_told.specs.declared.told.PageWords.{PageWords}
use Rattle.kc_told.specs.Framed.{frame_in}
use Rattle.kc_told.specs.Inside.{Kept, object_at}
use Rattle.kc_told.specs.ModuleSymbols.{symbol_in}
use Rattle.kc_told.specs.Named.{named_in}
use Rattle.kc_told.specs.Spans.{span_at}
use Rattle.kc_sight.specs.Holders.{holders}
use Rattle.kc_sight.specs.Looks.{words}
use Rattle.kc_sight.specs.Nearest.{SymbolAt, image_parts, in_image}
use Rattle.kc_sight.specs.Sights.{page_start, word_start}

-- where a kernel has what tells of an address: page descriptors and slab caches, the slabs that processors own, areas, where its image ends, and the
-- symbols whose words hold a value in a memory
pub record Shapes : Type 0 where
  pub objects : Option PageWords
  pub cpus : Option CpuShape
  pub areas : AreaShape
  pub symbols : Option SymbolShape
  pub end : Option ℕ
  pub holding : Image → ℕ → List SymbolAt

-- the areas in which an address lies, the symbol of its module, what holds it, what its page's descriptor says, where a processor's own free list has the object, where that is asked for, the symbols
-- whose words hold the address of the object's cache, what the object says it is, and how far words that say the same go on around it
pub record Told : Type 0 where
  pub areas : Areas
  pub symbol : Option ModuleSymbol
  pub held : Option (Result Held Violation)
  pub frame : Option FrameWords
  pub kept : Kept
  pub holders : List SymbolAt
  pub named : Option Named
  pub span : Option Bounds

-- a page that lacks the kernel's mark of a slab is none, whatever stands where a slab has its cache; one whose mark isn't known is taken by that alone
abbrev pub as_marked : Option Bool → Held → Held
as_marked (Some false) h = record { page = h.page; slab = Ok None }
as_marked (Some true) h = h
as_marked None h = h

abbrev pub marked_held : Image → Option Mark → Held → Held
marked_held image mark h = as_marked (option_and_then (λ m. marked image m h.page.head) mark) h

-- what holds an address, by its word; nothing is told where the word can't be read, or the kernel lacks what that asks for
abbrev pub held_by : Image → Option PageWords → ℕ → Result VWord Stopped → Option (Result Held Violation)
held_by image None address word = None
held_by image (Some words) address (Err s) = None
held_by image (Some words) address (Ok w) =
    Some do
      h ← held image words.objects ((w.pa + address % 8) % 2 ^ 64)
      Ok (marked_held image words.mark h)

-- a slab holds it
abbrev pub is_slab_told : Result (Option Slab) Violation → Bool
is_slab_told (Ok (Some s)) = true
is_slab_told (Ok None) = false
is_slab_told (Err v) = false

abbrev pub is_slab : Option (Result Held Violation) → Bool
is_slab None = false
is_slab (Some (Ok h)) = is_slab_told h.slab
is_slab (Some (Err v)) = false

-- no area is told of an address of the image; and a stack isn't in a slab
abbrev pub no_areas : Areas
no_areas = record { module_found = Ok None; processor_found = Ok None; stack_found = Ok None }

abbrev pub areas_by : Image → Shapes → ℕ → Option (Result Held Violation) → Areas
areas_by image shapes address held = if in_image shapes.end address then no_areas else areas image shapes.areas (not (is_slab held)) address

-- a cache that has several users; one that is never merged has a negative number of them
abbrev pub shared_by : ℕ → Option ℕ → Option ℕ
shared_by at None = None
shared_by at (Some users) = if nat_lt 1 users && nat_lt users 0x8000000000000000 then Some at else None

abbrev pub shared : Cache → Option ℕ
shared c = shared_by c.at c.users

abbrev pub shared_told : Result (Option Slab) Violation → Option ℕ
shared_told (Ok (Some s)) = shared s.cache
shared_told (Ok None) = None
shared_told (Err v) = None

abbrev pub shared_in : Option (Result Held Violation) → Option ℕ
shared_in None = None
shared_in (Some (Ok h)) = shared_told h.slab
shared_in (Some (Err v)) = None

abbrev pub holders_by : (ℕ → List SymbolAt) → Option ℕ → List SymbolAt
holders_by holding None = []
holders_by holding (Some cache) = holding cache

-- where a slab's objects lie
abbrev pub grid_in : Slab → Grid
grid_in s = record {
  base = at_offset s.first s.objects.left_pad;
  size = s.objects.size;
  objects = s.counts.objects;
  offset = s.objects.offset;
  random = s.objects.random;
}

-- the object for which processors are asked: a processor owns its slab, whose own free list doesn't have it
abbrev pub sought_at : ℕ → Slab → Spot → Option SlabObject
sought_at head s (Object o) = if is_laid s.objects then Some (record { cache = s.cache.at; slab = head; grid = grid_in s; object = o.first }) else None
sought_at head s (Pad number) = None
sought_at head s Past = None
sought_at head s Before = None

abbrev pub sought_free : ℕ → Slab → Result FreeSpot Violation → Option SlabObject
sought_free head s (Ok free) = if s.counts.frozen && is_none free.place then sought_at head s s.spot else None
sought_free head s (Err v) = None

abbrev pub sought_slab : ℕ → Result (Option Slab) Violation → Option SlabObject
sought_slab head (Ok (Some s)) = sought_free head s s.free
sought_slab head (Ok None) = None
sought_slab head (Err v) = None

abbrev pub sought : Option (Result Held Violation) → Option SlabObject
sought None = None
sought (Some (Ok h)) = sought_slab h.page.head h.slab
sought (Some (Err v)) = None

-- where a processor's own free list has it
abbrev pub kept_of : Image → SlabObject → Option CpuShape → Kept
kept_of image o None = None
kept_of image o (Some c) = Some (object_spot image c o)

abbrev pub kept_by : Image → Option CpuShape → Option SlabObject → Kept
kept_by image cpus None = None
kept_by image cpus (Some o) = kept_of image o cpus

-- what the object that holds an address says it is
abbrev pub named_of : Image → Shapes → Kept → Option (Result Held Violation) → Option Named
named_of image shapes kept held = named_in image shapes.objects shapes.areas.stacks kept (object_at held)

-- what is told of an address, by what holds it, and how far words that say the same go on around it
abbrev pub told_with : Image → Shapes → ℕ → Option (Result Held Violation) → Option Bounds → Told
told_with image shapes address held span = record {
  areas = areas_by image shapes address held;
  symbol = symbol_in image shapes.symbols address (areas_by image shapes address held).module_found;
  held = held;
  frame = frame_in image shapes.objects held;
  kept = kept_by image shapes.cpus (sought held);
  holders = holders_by (shapes.holding image) (shared_in held);
  named = named_of image shapes (kept_by image shapes.cpus (sought held)) held;
  span = span;
}

-- by its word, and the words of its 4096 bytes
abbrev pub told_by : Image → Shapes → ℕ → Result VWord Stopped → List (Result VWord Stopped) → Told
told_by image shapes address word page = told_with image shapes address (held_by image shapes.objects address word) (span_at word page)

abbrev pub told_of : Image → Shapes → ℕ → Told
told_of image shapes address = told_by image shapes address (vword image (word_start address)) (words image (page_start address) 512)

-- the kernel of these types and symbols, and of the rows of a map
abbrev pub kernel_with : Types → (List ℕ → List ℕ) → Info → Kernel
kernel_with types symbols told = record { types = types; symbols = symbols; kaslr = told.kaslr; five = told.five }

abbrev pub kernel_by : Types → List RowText → Info → Kernel
kernel_by types rows told = kernel_with types (λ name. addresses name rows) told

-- where it has the words of page descriptors and slab caches, by the notes of its dump
abbrev pub page_words : Kernel → List ℕ → Option PageWords
page_words kernel note = option_map (λ objects. record { objects = objects; mark = slab_mark kernel note; frame = frame_shape kernel note }) (object_shape kernel)

-- and what it has to tell of an address
abbrev pub shapes_by : Types → List RowText → Info → List ℕ → Shapes
shapes_by types rows told note = record {
  objects = page_words (kernel_by types rows told) note;
  cpus = cpu_shape (kernel_by types rows told);
  areas = area_shape (kernel_by types rows told);
  symbols = symbol_shape (kernel_by types rows told);
  end = (image_parts told.kaslr rows).end;
  holding = λ image value. holders image (image_parts told.kaslr rows) told.kaslr value rows;
}
