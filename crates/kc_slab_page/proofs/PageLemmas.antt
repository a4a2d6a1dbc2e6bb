-- What is looked up, once it is there.
use Rattle.std.proofs.Common.{◌≡◌, ℕ, Option, Some, None, option_map, option_and_then, ap, ◌∙◌, subst}
use Rattle.std.specs.Prelude.{Result, Ok}
use Rattle.std.specs.BTreeMap.{is_at}
use Rattle.std.specs.Map.{lookup}
use Rattle.std.specs.Ordering.{nat_cmp}
use Rattle.kc_memory.specs.Image.{Image}
use Rattle.kc_view.specs.declared.fields.FieldNumber.{FieldNumber}
use Rattle.kc_view.specs.Fields.{value_of}
use Rattle.kc_found.specs.declared.found.WalkStop.{WalkStop}
use Rattle.kc_found.specs.Walks.{IsWalk, WalksAs}
use Rattle.kc_owner.specs.declared.object.shape.ObjectShape.{ObjectShape}
use Rattle.kc_slab_page.specs.declared.caches.CacheSeen.{CacheSeen}
use Rattle.kc_slab_page.specs.declared.fence.FenceShape.{FenceShape}
use Rattle.kc_slab_page.specs.declared.guards.GuardShape.{GuardShape}
use Rattle.kc_slab_page.specs.declared.mark.Mark.{Mark}
use Rattle.kc_slab_page.specs.declared.page.PageSeen.{PageSeen}
use Rattle.kc_slab_page.specs.declared.shape.PageShape.{PageShape}
use Rattle.kc_slab_page.specs.Caches.{Caches}
use Rattle.kc_slab_page.specs.Pages.{by_cache, by_mark, by_seen, unnamed}

-- a cache that is there
pub by_found : (image : Option Image) (shape : PageShape) (caches : Caches) (page : ℕ) (cache : FieldNumber) (value : ℕ) (seen : CacheSeen) (r : Result PageSeen WalkStop)
    → value ≡ value_of cache → Some seen ≡ lookup (is_at (nat_cmp value)) caches.entries
    → WalksAs {A = PageSeen} {B = PageSeen} (λ p. p) (λ i. Ok (by_mark i shape caches.bases page cache seen)) image r
    → WalksAs {A = PageSeen} {B = PageSeen} (λ p. p) (λ i. Ok (by_cache i shape caches page cache)) image r
by_found None shape caches page cache value seen r same is walks = tt
by_found (Some i) shape caches page cache value seen r same is walks =
    subst (λ (o : Option CacheSeen). IsWalk {A = PageSeen} {B = PageSeen} (λ p. p) (Ok (by_seen i shape caches page cache o)) r)
    (is ∙ ap (λ (v : ℕ). lookup (is_at (nat_cmp v)) caches.entries) same) walks

-- and one that isn't
pub by_none : (image : Option Image) (shape : PageShape) (caches : Caches) (page : ℕ) (cache : FieldNumber) (value : ℕ) (r : Result PageSeen WalkStop)
    → value ≡ value_of cache → None ≡ lookup (is_at (nat_cmp value)) caches.entries
    → WalksAs {A = PageSeen} {B = PageSeen} (λ p. p) (λ i. Ok (unnamed i shape caches.all page cache)) image r
    → WalksAs {A = PageSeen} {B = PageSeen} (λ p. p) (λ i. Ok (by_cache i shape caches page cache)) image r
by_none None shape caches page cache value r same is walks = tt
by_none (Some i) shape caches page cache value r same is walks =
    subst (λ (o : Option CacheSeen). IsWalk {A = PageSeen} {B = PageSeen} (λ p. p) (Ok (by_seen i shape caches page cache o)) r)
    (is ∙ ap (λ (v : ℕ). lookup (is_at (nat_cmp v)) caches.entries) same) walks

-- a shape whose parts are there
pub shape_is : (o : Option ObjectShape) (m : Option Mark) (g : Option GuardShape) (objects : ObjectShape) (mark : Mark) (guards : Option GuardShape) (fence f : Option FenceShape) → Some objects ≡ o → Some mark ≡ m → guards ≡ g → fence ≡ f
    → ◌≡◌ {A = Option PageShape} (Some (record { objects = objects; mark = mark; guards = guards; fence = fence }))
    (option_and_then (λ (os : ObjectShape). option_map (λ (k : Mark). record { objects = os; mark = k; guards = g; fence = f }) m) o)
shape_is o m g objects mark guards fence f one two three four =
    ap (λ (h : Option GuardShape). Some (record { objects = objects; mark = mark; guards = h; fence = fence })) three
    ∙ ap (λ (h : Option FenceShape). Some (record { objects = objects; mark = mark; guards = g; fence = h })) four
    ∙ ap (λ (k : Option Mark). option_map (λ (k : Mark). record { objects = objects; mark = k; guards = g; fence = f }) k) two
    ∙ ap (λ (p : Option ObjectShape). option_and_then (λ (os : ObjectShape). option_map (λ (k : Mark). record { objects = os; mark = k; guards = g; fence = f }) m) p) one
