-- Which bytes slub_debug keeps at each object of a cache. Source: the kernel's mm/slub.c, `calculate_sizes` and `check_object`, whose order this
-- is, but for what isn't looked at: the bytes of a kmalloc object past those asked for (`slub_debug_orig_size`, not in 6.1), the padding after
-- what follows an object (`check_pad_bytes`), and free pointers. include/linux/poison.h: SLUB_RED_INACTIVE bb, SLUB_RED_ACTIVE cc,
-- POISON_INUSE 5a, POISON_FREE 6b, POISON_END a5.
use Rattle.std.specs.Prelude.{◌+◌, ◌-◌, ◌%◌, ◌^◌, Bool, ◌&&◌, nat_le, if◌then◌else◌, List, [], ◌∷◌, ◌++◌, Some, None}
use Rattle.kc_guard.specs.declared.guards.CacheBytes.{CacheBytes}
use Rattle.kc_guard.specs.declared.guards.GuardRule.TheVariants.{Z1, Z2, Z3, Z4}
use Rattle.kc_guard.specs.declared.guards.GuardRun.{GuardRun}

-- an object has bytes, and they, what follows and what comes before lie in the bytes from one object to the next
abbrev pub are_told : CacheBytes → Bool
are_told c = nat_le 1 c.object && (nat_le c.object c.inuse && nat_le (c.inuse + c.left) c.size)

-- the red zones before and after an object: bb at a free one, cc at one in use; without red zones the padding after it: 5a
abbrev pub zone_runs : CacheBytes → List GuardRun
zone_runs c =
    if c.zones then
    record { rule = Z1; from = (2 ^ 64 - c.left) % 2 ^ 64; count = c.left; free = Some 0xbb; used = Some 0xcc }
    ∷ record { rule = Z2; from = c.object; count = c.inuse - c.object; free = Some 0xbb; used = Some 0xcc } ∷ []
    else (if c.padding then record { rule = Z3; from = c.object; count = c.inuse - c.object; free = Some 0x5a; used = Some 0x5a } ∷ [] else [])

-- the poison of a free object: 6b up to its last byte, which is a5
abbrev pub poison_runs : CacheBytes → List GuardRun
poison_runs c =
    if c.poison then
    record { rule = Z4; from = 0; count = c.object - 1; free = Some 0x6b; used = None }
    ∷ record { rule = Z4; from = c.object - 1; count = 1; free = Some 0xa5; used = None } ∷ []
    else []

abbrev pub guard_runs : CacheBytes → List GuardRun
guard_runs c = if are_told c then zone_runs c ++ poison_runs c else []
