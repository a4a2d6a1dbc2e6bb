-- What the positions of a node's slots weigh, and that they are sound.
use Rattle.std.proofs.Common.{◌≡◌, ℕ, zero, suc, ◌+◌, ◌-◌, ◌*◌, ◌^◌, ◌<◌, ◌≤◌, nat_eq, Bool, true, false, List, [], ◌∷◌, ◌++◌, length, Option, Some, None, refl, sym, ◌∙◌, ap, subst, arith}
use Rattle.std.specs.Prelude.{Result, Ok, Err, reverse, IfSome, IsTrue, OnOk, is_some, nat_le, ◌%◌, if◌then◌else◌}
use Rattle.std.specs.List.{AllByRecursion}
use Rattle.std.proofs.Math.Nat.{one-le-pow, pow-le-pow_right, suc-mul}
use Rattle.std.proofs.lemmas.Bool.{and_parts, eqb-true, leb-true}
use Rattle.std.proofs.lemmas.Grind.{pow_more}
use Rattle.std.proofs.lemmas.List.{reverse-append}
use Rattle.std.proofs.lemmas.Nat.{mul-le}
use Rattle.kc_memory.specs.declared.rule.Rule.TheVariants.{X9}
use Rattle.kc_memory.specs.declared.words.VWord.{VWord}
use Rattle.kc_found.specs.declared.xarrays.XaEntry.{XaEntry}
use Rattle.kc_found.specs.declared.xarrays.XaEntry.TheVariants.{Node}
use Rattle.kc_found.specs.declared.xarrays.XaHolder.{XaHolder}
use Rattle.kc_found.specs.declared.xarrays.XaNode.{XaNode}
use Rattle.kc_found.specs.XaEntries.{fit, kind, slot_fault, within}
use Rattle.kc_found.specs.XaNodes.{chunk_shift, is_shift}
use Rattle.kc_found.specs.XaSites.{index_of}
use Rattle.kc_xa.specs.declared.listed.spots.XaSpot.{XaSpot}
use Rattle.kc_xa.specs.Listed.Entries.{head_spot, is_node, slot_spots}
use Rattle.kc_xa.specs.Listed.Falling.{IsSound, level, weight, weights}
use Rattle.kc_xa.proofs.ListedLemmas.Leading.{node_is, none_is}

-- soundness
some_shift : (index : Option ℕ) (s : ℕ) (b : Bool) → nat_eq s 0 ≡ b → within index (if b then Some X9 else None) ≡ None → 1 ≤ s
some_shift None s b is e = absurd (cc)
some_shift (Some n) s true is e = absurd (cc)
some_shift (Some n) zero false is e = absurd (cc)
some_shift (Some n) (suc s) false is e = omega arith

node_above : (chunk : ℕ) (o : XaNode) (i : ℕ) (k : XaEntry) → slot_fault chunk o.slots o.shift i (fit (index_of o i)) k ≡ None → k ≡ Node → 1 ≤ o.shift
node_above chunk o i k f e = some_shift (fit (index_of o i)) o.shift (nat_eq o.shift 0) refl (subst (λ k. slot_fault chunk o.slots o.shift i (fit (index_of o i)) k ≡ None) e f)

slots_sound : (chunk : ℕ) (o : XaNode) (i : ℕ) (ws : List VWord) → o.shift ≤ 60 → AllByRecursion (IsSound chunk) (slot_spots chunk o i ws)
slots_sound chunk o i [] le = tt
slots_sound chunk o i (w ∷ ws) le = ((le, node_above chunk o i (kind chunk w.value)), slots_sound chunk o (i + 1) ws le)

pub all_both : {X : Type 0} (P : X → Type 0) (xs ys : List X) → AllByRecursion P xs → AllByRecursion P ys → AllByRecursion P (xs ++ ys)
all_both P [] ys h k = k
all_both P (x ∷ xs) ys h k = (h.0, all_both P xs ys h.1 k)

pub all_parts : {X : Type 0} (P : X → Type 0) (xs ys : List X) → AllByRecursion P (xs ++ ys) → AllByRecursion P xs × AllByRecursion P ys
all_parts P [] ys h = (tt, h)
all_parts P (x ∷ xs) ys h = let p = all_parts P xs ys h.1 in ((h.0, p.0), p.1)

turn : {X : Type 0} (x : X) (xs : List X) → reverse (x ∷ xs) ≡ reverse xs ++ x ∷ []
turn x xs = reverse-append (x ∷ []) xs

all_reversed : {X : Type 0} (P : X → Type 0) (xs : List X) → AllByRecursion P xs → AllByRecursion P (reverse xs)
all_reversed P [] h = tt
all_reversed P (x ∷ xs) h = subst (AllByRecursion P) (sym (turn x xs)) (all_both P (reverse xs) (x ∷ []) (all_reversed P xs h.1) (h.0, tt))

-- a position is taken from the end
pub sound_pop : (chunk : ℕ) (pending rest : List XaSpot) (s : XaSpot) → pending ≡ rest ++ s ∷ [] → AllByRecursion (IsSound chunk) pending → AllByRecursion (IsSound chunk) rest × IsSound chunk s
sound_pop chunk pending rest s e h = let p = all_parts (IsSound chunk) rest (s ∷ []) (subst (AllByRecursion (IsSound chunk)) e h) in (p.0, p.1.0)

-- and those of a node's slots are added
pub sound_push : (chunk : ℕ) (o : XaNode) (pending next : List XaSpot) → next ≡ pending ++ reverse (slot_spots chunk o 0 o.slots) → o.shift ≤ 60 → AllByRecursion (IsSound chunk) pending → AllByRecursion (IsSound chunk) next
sound_push chunk o pending next e le h =
    subst (AllByRecursion (IsSound chunk)) (sym e) (all_both (IsSound chunk) pending (reverse (slot_spots chunk o 0 o.slots)) h (all_reversed (IsSound chunk) (slot_spots chunk o 0 o.slots) (slots_sound chunk o 0 o.slots le)))

-- the shift of a node, by the entry that leads to it
lower : (a b s : ℕ) → 1 ≤ a → 1 ≤ b → s ≡ a - b → s < a
lower a b s la lb e = omega (arith, la, lb, e)

shift_some : (chunk : ℕ) (b : Bool) → nat_eq chunk 64 ≡ b → 1 ≤ (if b then 6 else 4)
shift_some chunk true e = omega arith
shift_some chunk false e = omega arith

pub shift_low : (chunk : ℕ) (holder : Option XaHolder) (s : ℕ) → IsTrue (is_shift chunk holder s) → IfSome holder (λ h. h.shift ≤ 60) → s ≤ 60
shift_low chunk None s is low = leb-true s 60 (and_parts (nat_eq (s % chunk_shift chunk) 0) (nat_le s 60) is).1
shift_low chunk (Some h) s is low = let e : s ≡ h.shift - chunk_shift chunk = eqb-true s (h.shift - chunk_shift chunk) is in omega (arith, e, low)

pub shift_falls : (chunk : ℕ) (holder : Option XaHolder) (s : ℕ) → IsTrue (is_shift chunk holder s) → s ≤ 60 → 1 ≤ level holder → s < level holder
shift_falls chunk None s is le some = omega (arith, le)
shift_falls chunk (Some h) s is le some =
    lower h.shift (chunk_shift chunk) s some (shift_some chunk (nat_eq chunk 64) refl) (eqb-true s (h.shift - chunk_shift chunk) is)

-- weights
weights_append : (xs ys : List XaSpot) → weights (xs ++ ys) ≡ weights xs + weights ys
weights_append [] ys = omega arith
weights_append (x ∷ xs) ys = let e = weights_append xs ys in omega (arith, e)

weights_reversed : (xs : List XaSpot) → weights (reverse xs) ≡ weights xs
weights_reversed [] = refl
weights_reversed (x ∷ xs) =
    let e = weights_reversed xs in
    let a = ap weights (turn x xs) in
    let b = weights_append (reverse xs) (x ∷ []) in
    omega (arith, e, a, b)

count_more : (n w total : ℕ) → total ≡ n * w → w + total ≡ (suc n) * w
count_more n w total e = let all = suc-mul n w in omega (arith, e, all)

weights_slots : (chunk : ℕ) (o : XaNode) (i : ℕ) (ws : List VWord) → weights (slot_spots chunk o i ws) ≡ length ws * 65 ^ (o.shift + 1)
weights_slots chunk o i [] = omega arith
weights_slots chunk o i (w ∷ ws) = count_more (length ws) (65 ^ (o.shift + 1)) (weights (slot_spots chunk o (i + 1) ws)) (weights_slots chunk o (i + 1) ws)

weighs : (s : XaSpot) → 1 ≤ weight s
weighs s = one-le-pow (level s.holder + 1) 65 (omega arith)

few_times : (n x y z : ℕ) → n ≤ 64 → x ≤ y → 1 ≤ y → z ≡ y * 65 → n * x < z
few_times n x y z few le some e = let all = mul-le n x 64 y few le in omega (arith, all, some, e)

-- an entry that leads to no node
pub leaf_falls : (s : XaSpot) (rest : List XaSpot) → weights rest < weight s + weights rest
leaf_falls s rest = let w = weighs s in omega (arith, w)

-- an entry that leads to a node with these slots
pub node_falls : (chunk : ℕ) (o : XaNode) (s : XaSpot) (rest next : List XaSpot) → next ≡ rest ++ reverse (slot_spots chunk o 0 o.slots) → length o.slots ≤ 64 → o.shift < level s.holder → weights next < weight s + weights rest
node_falls chunk o s rest next e few lt =
    let all = ap weights e ∙ weights_append rest (reverse (slot_spots chunk o 0 o.slots)) in
    let turned = weights_reversed (slot_spots chunk o 0 o.slots) in
    let slots = weights_slots chunk o 0 o.slots in
    let le : o.shift + 1 ≤ level s.holder = omega (arith, lt) in
    let small : length o.slots * 65 ^ (o.shift + 1) < weight s = few_times (length o.slots) (65 ^ (o.shift + 1)) (65 ^ level s.holder) (weight s) few (pow-le-pow_right (omega arith) le) (one-le-pow (level s.holder) 65 (omega arith)) (pow_more 65 (level s.holder)) in
    omega (arith, all, turned, slots, small)

-- the weights of what is left, after the last position is taken
pub weights_pop : (pending rest : List XaSpot) (s : XaSpot) → pending ≡ rest ++ s ∷ [] → weights pending ≡ weight s + weights rest
weights_pop pending rest s e = let all = ap weights e ∙ weights_append rest (s ∷ []) in omega (arith, all)

-- the steps of a node
pub node_steps_few : (most chunk : ℕ) → most ≤ 6 → chunk ≤ 64 → most * chunk + 6 * most ≤ 420
node_steps_few most chunk le few = let all = mul-le most chunk 6 64 le few in omega (arith, all, le)

-- what follows where an answer isn't an error
pub on_ok : {A E : Type 0} (r : Result A E) (P Q : Type 0) → (P → Q) → OnOk r P → OnOk r Q
on_ok (Ok x) P Q go h = go h
on_ok (Err e) P Q go h = tt

-- an entry that breaks no rule leads to a node only above the lowest level
pub level_some : (chunk : ℕ) (s : XaSpot) → is_some s.fault ≡ false → is_node (kind chunk s.word.value) ≡ true → IsSound chunk s → 1 ≤ level s.holder
level_some chunk s f node sound = sound.1 (none_is s.fault f) (node_is (kind chunk s.word.value) node)

-- the position of the head is sound
pub head_sound : (chunk : ℕ) (h : VWord) (pending next : List XaSpot) (s : XaSpot) → pending ≡ [] → s ≡ head_spot chunk h → next ≡ pending ++ s ∷ [] → AllByRecursion (IsSound chunk) next
head_sound chunk h pending next s none spot to =
    let sound : IsSound chunk (head_spot chunk h) = (tt, λ f e. omega arith) in
    subst (AllByRecursion (IsSound chunk)) (sym (to ∙ ap (λ ss. ss ++ s ∷ []) none ∙ ap (λ x. x ∷ []) spot)) (sound, tt)
