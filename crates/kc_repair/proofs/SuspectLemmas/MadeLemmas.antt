-- Suspects that are added one after the other.
use Rattle.std.proofs.Common.{◌≡◌, ℕ, ◌+◌, List, [], ◌∷◌, ◌++◌, Bool, true, false, cond, Option, refl, sym, ap, ◌∙◌, append_assoc, append-nil, arith}
use Rattle.std.specs.Prelude.{map, Some, None, IfSome}
use Rattle.std.specs.List.{flat_map, range_with_len}
use Rattle.std.proofs.lemmas.Grind.{flat_map-append}
use Rattle.std.proofs.lemmas.List.FromFn.{filter_of_map_range_with_len_more, map-range_with_len_more}
use Rattle.kc_memory.specs.declared.words.VWord.{VWord}
use Rattle.kc_memory.specs.Image.{Image}
use Rattle.kc_found.specs.XaLayouts.{XaLayout}
use Rattle.kc_repair.specs.Suspect.Changes.{bits_below, flipped, suspect_of, taken_below, taken_if}
use Rattle.kc_repair.specs.declared.suspect.change.Change.{Change}
use Rattle.kc_repair.specs.declared.suspect.suspect.Suspect.{Suspect}
use Rattle.kc_repair.specs.Suspect.FreePointers.{free_pointer, free_pointers, object_near}
use Rattle.kc_repair.specs.Suspect.Heads.{begins_at, head_at}
use Rattle.kc_repair.specs.Suspect.Slots.{all_emptied, emptied, slot_at}

-- one bit more
pub more_bits : (w : VWord) (i : ℕ) (before old new : List Suspect) → old ≡ before ++ flat_map (suspect_of w) (bits_below w.value i) → new ≡ old ++ suspect_of w (flipped w.value i)
    → new ≡ before ++ flat_map (suspect_of w) (bits_below w.value (i + 1))
unfolding bits_below
more_bits w i before old new so_far more =
    let one : flat_map (suspect_of w) (flipped w.value i ∷ []) ≡ suspect_of w (flipped w.value i) = append-nil (suspect_of w (flipped w.value i)) in
    let all : flat_map (suspect_of w) (bits_below w.value (i + 1)) ≡ flat_map (suspect_of w) (bits_below w.value i) ++ suspect_of w (flipped w.value i)
    = ap (flat_map (suspect_of w)) (map-range_with_len_more (flipped w.value) 0 i i (omega arith)) ∙ flat_map-append (suspect_of w) (bits_below w.value i) (flipped w.value i ∷ [])
    ∙ ap (λ l. flat_map (suspect_of w) (bits_below w.value i) ++ l) one in
    more ∙ ap (λ l. l ++ suspect_of w (flipped w.value i)) so_far ∙ append_assoc before _ _ ∙ ap (λ l. before ++ l) (sym all)

pub no_bits : (w : VWord) (before : List Suspect) → before ≡ before ++ flat_map (suspect_of w) (bits_below w.value 0)
unfolding bits_below
no_bits w before = sym (append-nil before)

-- one number more of those that can have stood there
one_taken : (may : ℕ → Bool) (one : ℕ → ℕ) (w : VWord) (i : ℕ) (taken : Bool) (before old : List Suspect) → may (one i) ≡ taken
    → old ≡ before ++ flat_map (suspect_of w) (taken_below may one i)
    → old ++ flat_map (suspect_of w) (cond taken (one i ∷ []) []) ≡ before ++ flat_map (suspect_of w) (taken_below may one (i + 1))
unfolding taken_below
one_taken may one w i taken before old is so_far =
    let all : flat_map (suspect_of w) (taken_below may one (i + 1))
    ≡ flat_map (suspect_of w) (taken_below may one i) ++ flat_map (suspect_of w) (cond taken (one i ∷ []) [])
    = ap (flat_map (suspect_of w)) (filter_of_map_range_with_len_more may one 0 i i (omega arith) ∙ ap (λ t. taken_below may one i ++ cond t (one i ∷ []) []) is)
    ∙ flat_map-append (suspect_of w) (taken_below may one i) (cond taken (one i ∷ []) []) in
    ap (λ l. l ++ flat_map (suspect_of w) (cond taken (one i ∷ []) [])) so_far ∙ append_assoc before _ _ ∙ ap (λ l. before ++ l) (sym all)

suspected_if : (w : VWord) (value : ℕ) (taken : Bool) → taken_if taken w value ≡ flat_map (suspect_of w) (cond taken (value ∷ []) [])
suspected_if w value true = sym (append-nil (suspect_of w value))
suspected_if w value false = refl

pub more_taken : (may : ℕ → Bool) (one : ℕ → ℕ) (w : VWord) (i : ℕ) (taken : Bool) (before old new : List Suspect) → may (one i) ≡ taken → old ≡ before ++ flat_map (suspect_of w) (taken_below may one i)
    → new ≡ old ++ taken_if taken w (one i) → new ≡ before ++ flat_map (suspect_of w) (taken_below may one (i + 1))
more_taken may one w i taken before old new is so_far more = more ∙ ap (λ l. old ++ l) (suspected_if w (one i) taken) ∙ one_taken may one w i taken before old is so_far

pub no_taken : (may : ℕ → Bool) (one : ℕ → ℕ) (w : VWord) (before : List Suspect) → before ≡ before ++ flat_map (suspect_of w) (taken_below may one 0)
unfolding taken_below
no_taken may one w before = sym (append-nil before)

-- one free pointer more
pub more_pointers : (random : Option ℕ) (at size object i : ℕ) (before old new : List Change) → old ≡ before ++ free_pointers random at size object i
    → new ≡ old ++ free_pointer random at (object_near size object i) ∷ [] → new ≡ before ++ free_pointers random at size object (i + 1)
unfolding free_pointers
more_pointers random at size object i before old new so_far more =
    let one : ℕ → Change = λ i. free_pointer random at (object_near size object i) in
    more ∙ ap (λ l. l ++ one i ∷ []) so_far ∙ append_assoc before _ _ ∙ ap (λ l. before ++ l) (sym (map-range_with_len_more one 0 i i (omega arith)))

pub no_pointers : (random : Option ℕ) (at size object : ℕ) (before : List Change) → before ≡ before ++ free_pointers random at size object 0
unfolding free_pointers
no_pointers random at size object before = sym (append-nil before)

-- one object more at which a free list may begin
pub more_heads : (at first size i : ℕ) (before old new : List Change) → old ≡ before ++ begins_at at first size i
    → new ≡ old ++ head_at at first size i ∷ [] → new ≡ before ++ begins_at at first size (i + 1)
unfolding begins_at
more_heads at first size i before old new so_far more =
    more ∙ ap (λ l. l ++ head_at at first size i ∷ []) so_far ∙ append_assoc before _ _ ∙ ap (λ l. before ++ l) (sym (map-range_with_len_more (head_at at first size) 0 i i (omega arith)))

pub no_heads : (at first size : ℕ) (before : List Change) → before ≡ before ++ begins_at at first size 0
unfolding begins_at
no_heads at first size before = sym (append-nil before)

-- one slot more that may have been null
abbrev pub Emptied : Option Image → XaLayout → ℕ → ℕ → List Change → List Change → Type 0
Emptied image s node k before now = IfSome image (λ i. now ≡ before ++ all_emptied i s node k)

pub more_emptied : (image : Option Image) (s : XaLayout) (node k : ℕ) (before old new : List Change) → Emptied image s node k before old
    → IfSome image (λ i. new ≡ old ++ emptied i (slot_at s node k)) → Emptied image s node (k + 1) before new
unfolding all_emptied
more_emptied None s node k before old new so_far more = tt
more_emptied (Some i) s node k before old new so_far more =
    let one : flat_map (emptied i) (slot_at s node k ∷ []) ≡ emptied i (slot_at s node k) = append-nil (emptied i (slot_at s node k)) in
    let all : all_emptied i s node (k + 1) ≡ all_emptied i s node k ++ emptied i (slot_at s node k)
    = ap (flat_map (emptied i)) (map-range_with_len_more (slot_at s node) 0 k k (omega arith)) ∙ flat_map-append (emptied i) (map (slot_at s node) (range_with_len 0 k)) (slot_at s node k ∷ [])
    ∙ ap (λ l. all_emptied i s node k ++ l) one in
    more ∙ ap (λ l. l ++ emptied i (slot_at s node k)) so_far ∙ append_assoc before _ _ ∙ ap (λ l. before ++ l) (sym all)

pub no_emptied : (image : Option Image) (s : XaLayout) (node : ℕ) (before : List Change) → Emptied image s node 0 before before
unfolding all_emptied
no_emptied None s node before = tt
no_emptied (Some i) s node before = sym (append-nil before)
