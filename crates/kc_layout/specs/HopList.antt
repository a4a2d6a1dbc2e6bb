-- The pointers to follow.
use Rattle.std.specs.Prelude.{ℕ, List, [], ◌∷◌, take}
use Rattle.kc_layout.specs.declared.place.Hops.{Hops}

-- their byte offsets, the first first
abbrev pub hop_list : Hops → List ℕ
hop_list h = take h.count (h.a ∷ h.b ∷ h.c ∷ h.d ∷ [])
