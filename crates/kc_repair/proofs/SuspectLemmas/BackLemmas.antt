-- Nodes that point back, one after the other.
use Rattle.std.proofs.Common.{◌≡◌, ℕ, ◌+◌, List, [], ◌∷◌, ◌++◌, Option, sym, ap, ◌∙◌, append_assoc, append-nil, arith}
use Rattle.std.specs.Prelude.{map, Some, None, IfSome}
use Rattle.std.specs.List.{flat_map, range_with_len}
use Rattle.std.proofs.lemmas.Grind.{flat_map-append}
use Rattle.std.proofs.lemmas.List.FromFn.{map-range_with_len_more}
use Rattle.kc_memory.specs.Image.{Image}
use Rattle.kc_repair.specs.declared.suspect.backs.Back.{Back}
use Rattle.kc_repair.specs.declared.suspect.change.Change.{Change}
use Rattle.kc_repair.specs.Suspect.Backs.{back_by, backs_near, near_number}

-- one address more
abbrev pub Near : Option Image → Back → ℕ → ℕ → ℕ → List Change → List Change → Type 0
Near image b link value k before now = IfSome image (λ i. now ≡ before ++ backs_near i b link value k)

pub more_near : (image : Option Image) (b : Back) (link value k : ℕ) (before old new : List Change) → Near image b link value k before old
    → IfSome image (λ i. new ≡ old ++ back_by i b link (near_number value k)) → Near image b link value (k + 1) before new
unfolding backs_near
more_near None b link value k before old new so_far more = tt
more_near (Some i) b link value k before old new so_far more =
    let one : flat_map (back_by i b link) (near_number value k ∷ []) ≡ back_by i b link (near_number value k) = append-nil (back_by i b link (near_number value k)) in
    let all : backs_near i b link value (k + 1) ≡ backs_near i b link value k ++ back_by i b link (near_number value k)
    = ap (flat_map (back_by i b link)) (map-range_with_len_more (near_number value) 0 k k (omega arith)) ∙ flat_map-append (back_by i b link) (map (near_number value) (range_with_len 0 k)) (near_number value k ∷ [])
    ∙ ap (λ l. backs_near i b link value k ++ l) one in
    more ∙ ap (λ l. l ++ back_by i b link (near_number value k)) so_far ∙ append_assoc before _ _ ∙ ap (λ l. before ++ l) (sym all)

pub no_near : (image : Option Image) (b : Back) (link value : ℕ) (before : List Change) → Near image b link value 0 before before
unfolding backs_near
no_near None b link value before = tt
no_near (Some i) b link value before = sym (append-nil before)
