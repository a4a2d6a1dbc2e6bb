-- What a slab cache says of itself. Source: the kernel's include/linux/slub_def.h, `struct kmem_cache` (from 6.8 on in mm/slab.h): `name`, a
-- string that ends in a NUL, in which blanks confuse parsers (mm/slab_common.c), and `refcount`.
use Rattle.std.specs.Prelude.{ℕ, List, [], Option, Some, None}
use Rattle.kc_memory.specs.Image.{Image}
use Rattle.kc_owner.specs.Known.{known}
use Rattle.kc_owner.specs.Texts.{text}
use Rattle.kc_owner.specs.declared.object.cache.Cache.{Cache}
use Rattle.kc_owner.specs.declared.object.shape.ObjectShape.{ObjectShape}

-- the text that a pointer leads to, where there is one
abbrev pub text_by : Image → Option ℕ → List ℕ
text_by image None = []
text_by image (Some at) = text image 64 at

-- a cache by its address
abbrev pub cache_of : Image → ObjectShape → ℕ → Cache
cache_of image shape at = record {
  at = at;
  name = text_by image (known image at shape.name);
  users = known image at shape.refcount;
}
