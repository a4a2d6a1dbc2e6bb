-- Which bytes slub_debug keeps at the objects of a cache, by what the cache says. Source: the kernel's include/linux/slab.h: the flags are constants
-- up to 6.8, and bits by the enumeration `_slab_flag_bits` from 6.9 on, whose first ten are the same in each configuration; mm/slub.c,
-- `calculate_sizes`: free objects are poisoned (__OBJECT_POISON) where the cache has SLAB_POISON, and neither SLAB_TYPESAFE_BY_RCU nor a constructor.
use Rattle.std.specs.Prelude.{ℕ, ◌^◌, Bool, true, false, ◌&&◌, nat_eq, not, bit_and, is_some, if◌then◌else◌, List, [], codes, Option, Some, None, Result, Ok, Err}
use Rattle.std.specs.List.{list_any}
use Rattle.std.specs.Str.{bytes_eq}
use Rattle.kc_btf.specs.declared.kind.Kind.{Kind}
use Rattle.kc_btf.specs.declared.kind.Kind.TheVariants.{Enum}
use Rattle.kc_btf.specs.Btf.{Types}
use Rattle.kc_btf.specs.Readers.{name_at}
use Rattle.kc_btf.specs.Records.{Record}
use Rattle.kc_memory.specs.Image.{Image}
use Rattle.kc_view.specs.declared.slub.SlabObjects.{SlabObjects}
use Rattle.kc_found.specs.Violations.{Violation}
use Rattle.kc_kinds.specs.Kernels.{Kernel}
use Rattle.kc_kinds.specs.Members.{◌>>=◌, scalar_in, struct_named}
use Rattle.kc_owner.specs.Known.{known}
use Rattle.kc_guard.specs.declared.guards.CacheBytes.{CacheBytes}
use Rattle.kc_guard.specs.declared.guards.GuardRun.{GuardRun}
use Rattle.kc_guard.specs.Guards.{guard_runs}
use Rattle.kc_slab_page.specs.declared.guards.FlagBits.{FlagBits}
use Rattle.kc_slab_page.specs.declared.guards.GuardShape.{GuardShape}

-- an enumeration has this name
abbrev pub is_enum : Kind → Bool
is_enum Enum = true
is_enum _ = false

abbrev pub is_enum_named : Types → List ℕ → Record → Bool
is_enum_named types name r = is_enum r.kind && bytes_eq (name_at types.strings r.name) name

abbrev pub has_enum : Types → List ℕ → Bool
has_enum types name = list_any (is_enum_named types name) types.records

-- SLAB_RED_ZONE, SLAB_POISON and SLAB_TYPESAFE_BY_RCU
abbrev pub flag_bits : Bool → FlagBits
flag_bits true = record { zones = 2 ^ 1; poison = 2 ^ 2; by_rcu = 2 ^ 9 }
flag_bits false = record { zones = 0x400; poison = 0x800; by_rcu = 0x80000 }

-- where a kernel has the words that tell it; KASAN, whose caches have a `kasan_cache`, keeps words of its own in free objects
abbrev pub shape_by : Types → Option ℕ → GuardShape
shape_by types cache = record {
  object = scalar_in types cache (codes "object_size");
  inuse = scalar_in types cache (codes "inuse");
  flags = scalar_in types cache (codes "flags");
  ctor = scalar_in types cache (codes "ctor");
  bits = flag_bits (has_enum types (codes "_slab_flag_bits"));
}

abbrev pub has_kasan : Kernel → Bool
has_kasan kernel = is_some (struct_named kernel.types (codes "kasan_cache"))

abbrev pub guard_shape : Kernel → Option GuardShape
guard_shape kernel = if has_kasan kernel then None else Some (shape_by kernel.types (struct_named kernel.types (codes "kmem_cache")))

-- a flag is set
abbrev pub has_flag : ℕ → ℕ → Bool
has_flag flags bit = not (nat_eq (bit_and flags bit) 0)

-- what a cache says of its objects' bytes
abbrev pub bytes_by : FlagBits → SlabObjects → ℕ → ℕ → ℕ → ℕ → CacheBytes
bytes_by bits o object inuse flags ctor = record {
  object = object;
  inuse = inuse;
  size = o.size;
  left = o.left_pad;
  zones = has_flag flags bits.zones;
  padding = has_flag flags bits.poison;
  poison = has_flag flags bits.poison && (not (has_flag flags bits.by_rcu) && nat_eq ctor 0);
}

abbrev pub bytes_of : Image → GuardShape → SlabObjects → ℕ → Option CacheBytes
bytes_of image shape o at = do
  object ← known image at shape.object
  inuse ← known image at shape.inuse
  flags ← known image at shape.flags
  ctor ← known image at shape.ctor
  Some (bytes_by shape.bits o object inuse flags ctor)

-- the bytes that it keeps: none where that can't be told
abbrev pub runs_by : Option CacheBytes → List GuardRun
runs_by None = []
runs_by (Some bytes) = guard_runs bytes

abbrev pub runs_of : Image → Option GuardShape → Result SlabObjects Violation → ℕ → List GuardRun
runs_of image None objects at = []
runs_of image (Some shape) (Err v) at = []
runs_of image (Some shape) (Ok o) at = runs_by (bytes_of image shape o at)
