-- The slots of an xarray's node, and its first word, one after the other.
use Rattle.std.proofs.Common.{◌≡◌, ℕ, ◌+◌, ◌*◌, List, [], ◌∷◌, ◌++◌, Option, refl, sym, ap, ◌∙◌, append_assoc, append-nil, arith}
use Rattle.std.specs.Prelude.{map, Some, None, IfSome}
use Rattle.std.specs.List.{flat_map, range_with_len}
use Rattle.std.proofs.lemmas.Grind.{flat_map-append}
use Rattle.std.proofs.lemmas.List.FromFn.{map-range_with_len_more}
use Rattle.kc_memory.specs.declared.words.VWord.{VWord}
use Rattle.kc_memory.specs.Image.{Image}
use Rattle.kc_found.specs.XaLayouts.{XaLayout}
use Rattle.kc_found.specs.XaNodes.{chunk_shift}
use Rattle.kc_repair.specs.declared.suspect.change.Change.{Change}
use Rattle.kc_repair.specs.declared.suspect.node_bytes.NodeBytes.{NodeBytes}
use Rattle.kc_repair.specs.Suspect.NodeBytes.{slot_in, slots_in, with_shift, with_shifts}
use Rattle.kc_repair.specs.Suspect.Slots.{slot_at}

-- one slot more
abbrev pub Seen : Option Image → XaLayout → ℕ → ℕ → List VWord → Type 0
Seen image s node k now = IfSome image (λ i. now ≡ slots_in i s node k)

pub more_slots : (image : Option Image) (s : XaLayout) (node k : ℕ) (old new : List VWord) → Seen image s node k old
    → IfSome image (λ i. new ≡ old ++ slot_in i (slot_at s node k)) → Seen image s node (k + 1) new
unfolding slots_in
more_slots None s node k old new so_far more = tt
more_slots (Some i) s node k old new so_far more =
    let one : flat_map (slot_in i) (slot_at s node k ∷ []) ≡ slot_in i (slot_at s node k) = append-nil (slot_in i (slot_at s node k)) in
    let all : slots_in i s node (k + 1) ≡ slots_in i s node k ++ slot_in i (slot_at s node k)
    = ap (flat_map (slot_in i)) (map-range_with_len_more (slot_at s node) 0 k k (omega arith)) ∙ flat_map-append (slot_in i) (map (slot_at s node) (range_with_len 0 k)) (slot_at s node k ∷ [])
    ∙ ap (λ l. slots_in i s node k ++ l) one in
    more ∙ ap (λ l. l ++ slot_in i (slot_at s node k)) so_far ∙ sym all

pub no_slots : (image : Option Image) (s : XaLayout) (node : ℕ) → Seen image s node 0 []
unfolding slots_in
no_slots None s node = tt
no_slots (Some i) s node = refl

-- the first word with one shift more
pub more_shifts : (s : XaLayout) (node : ℕ) (b : NodeBytes) (level : ℕ) (before old new : List Change) → old ≡ before ++ with_shifts s node b level
    → new ≡ old ++ with_shift s node b (level * chunk_shift s.chunk) ∷ [] → new ≡ before ++ with_shifts s node b (level + 1)
unfolding with_shifts
more_shifts s node b level before old new so_far more =
    let one : ℕ → Change = λ level. with_shift s node b (level * chunk_shift s.chunk) in
    more ∙ ap (λ l. l ++ one level ∷ []) so_far ∙ append_assoc before _ _ ∙ ap (λ l. before ++ l) (sym (map-range_with_len_more one 0 level level (omega arith)))

pub no_shifts : (s : XaLayout) (node : ℕ) (b : NodeBytes) (before : List Change) → before ≡ before ++ with_shifts s node b 0
unfolding with_shifts
no_shifts s node b before = sym (append-nil before)
