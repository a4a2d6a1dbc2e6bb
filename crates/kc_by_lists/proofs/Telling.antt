-- What chains and walks by given lists answer, where the memory is told or not.
use Rattle.std.proofs.Common.{◌≡◌, ℕ, suc, ◌+◌, ◌*◌, ◌-◌, ◌≤◌, ◌<◌, Bool, true, false, List, [], ◌∷◌, ◌++◌, length, drop, get_or, slice_get, map, Option, Some, None, refl, sym, ◌∙◌, ap, arith, add-one, append_assoc, append-nil}
use Rattle.std.specs.Prelude.{Result, Ok, Err, IfOk, if◌then◌else◌}
use Rattle.std.proofs.lemmas.List.{drop_all}
use Rattle.std.proofs.lemmas.Option.{get_or_from_slice_get, slice_get_within}
use Rattle.std.proofs.Math.Seq.{drop-cons}
use Rattle.kc_memory.specs.declared.rule.Rule.{Rule}
use Rattle.kc_memory.specs.Image.{Image}
use Rattle.kc_view.specs.declared.tasks.TaskShape.{TaskShape}
use Rattle.kc_view.specs.TaskLists.{task_of}
use Rattle.kc_found.specs.declared.asked.Asked.{Asked}
use Rattle.kc_found.specs.declared.found.WalkStop.{WalkStop}
use Rattle.kc_found.specs.declared.found.WalkStop.TheVariants as ends
use Rattle.kc_found.specs.Violations.{Violation}
use Rattle.kc_found.specs.Walks.{OnBroken, WalksAs}
use Rattle.kc_steps.specs.Chains.{Came, ChainPays, Lists, size}
use Rattle.kc_steps.specs.Given.{misfit, taken_if}
use Rattle.kc_found.specs.declared.test.TestStop.{TestStop}
use Rattle.kc_found.specs.declared.test.TestStop.TheVariants.{Unfit, Fault, NoMemory}
use Rattle.kc_found.specs.Tests.{TellsAs}
use Rattle.kc_by_lists.specs.Apart.{nodes_apart, task_nodes}
use Rattle.kc_by_lists.specs.Ends.{ended}
use Rattle.kc_by_lists.proofs.CachesTake.{give_first, give_none, pass_over}

pub drop_at : (lists : Lists) (at : ℕ) (ns : List ℕ) → slice_get lists at ≡ Some ns → drop at lists ≡ ns ∷ drop (at + 1) lists
drop_at lists at ns is = rw add-one (drop-cons lists at [] (slice_get_within lists at ns is) ∙ ap (λ m. m ∷ drop (suc at) lists) (get_or_from_slice_get lists at ns [] is))

pub size_at : (lists : Lists) (at : ℕ) (ns : List ℕ) → slice_get lists at ≡ Some ns → size (drop at lists) ≡ 1 + length ns + size (drop (at + 1) lists)
size_at lists at ns is = ap size (drop_at lists at ns is)

-- a list that is taken pays for its test, which takes twelve steps for it and for each of its numbers
list_pays : (lists : Lists) (at : ℕ) (ns : List ℕ) (old new : ℕ) → slice_get lists at ≡ Some ns → new ≤ old + 12 + 12 * length ns → new + 1000 * size (drop (at + 1) lists) + 900 * (1 + length ns) ≤ old + 1000 * size (drop at lists)
list_pays lists at ns old new is few = let all = size_at lists at ns is in omega (arith, all, few)

less : (a b c : ℕ) → a + b ≤ c → a ≤ c
less a b c le = omega (arith, le)

pub copy_pays : (lists : Lists) (at : ℕ) (ns : List ℕ) (r : Result (List ℕ) WalkStop) (old new : ℕ) → slice_get lists at ≡ Some ns → IfOk r (λ copy. copy ≡ ns) → new ≤ old + 12 + 12 * length ns →
    ChainPays r (size (drop at lists)) (size (drop (at + 1) lists)) old new
copy_pays lists at ns (Ok copy) old new is same few = rw same (list_pays lists at ns old new is few)
copy_pays lists at ns (Err stop) old new is same few = less _ _ _ (list_pays lists at ns old new is few)

pub halt_pays : (lists : Lists) (at : ℕ) (ns : List ℕ) (stop : WalkStop) (old new : ℕ) → slice_get lists at ≡ Some ns → new ≤ old + 12 + 12 * length ns → ChainPays (Err stop) (size (drop at lists)) (size (drop (at + 1) lists)) old new
halt_pays lists at ns stop old new is few = less _ _ _ (list_pays lists at ns old new is few)

if_true : (b : Bool) (v : Violation) (ns : List ℕ) (rest : Lists) → b ≡ true → ◌≡◌ {A = Came (List ℕ)} (if b then Ok (ns, rest) else Err v) (Ok (ns, rest))
if_true true v ns rest e = refl
if_true false v ns rest e = absurd (cc)

if_false : (b : Bool) (v : Violation) (ns : List ℕ) (rest : Lists) → b ≡ false → ◌≡◌ {A = Came (List ℕ)} (if b then Ok (ns, rest) else Err v) (Err v)
if_false true v ns rest e = absurd (cc)
if_false false v ns rest e = refl

-- a list that passes is taken
pub list_taken : {A : Type 0} (image : Option Image) (test : Image → List ℕ → Bool) (v : Violation) (lists : Lists) (at : ℕ) (ns : List ℕ) (r : Result (List ℕ) WalkStop) (u : A) → slice_get lists at ≡ Some ns → IfOk r (λ copy. copy ≡ ns) → OnBroken r ⊥ →
    TellsAs (λ i. test i ns) image (Ok u) → WalksAs (λ (xs : List ℕ). (xs, drop (at + 1) lists)) (λ i. taken_if (test i) v (drop at lists)) image r
list_taken None test v lists at ns r u is same none e = tt
list_taken (Some i) test v lists at ns (Ok copy) u is same none e =
    ap (taken_if (test i) v) (drop_at lists at ns is) ∙ if_true (test i ns) v ns (drop (at + 1) lists) e ∙ ap (λ (xs : List ℕ). Ok (xs, drop (at + 1) lists)) (sym same)
list_taken (Some i) test v lists at ns (Err (ends.Broken f)) u is same none e = absurd none
list_taken (Some i) test v lists at ns (Err ends.Fault) u is same none e = tt
list_taken (Some i) test v lists at ns (Err ends.NoMemory) u is same none e = tt

-- where its test halts, the walk ends
pub list_halts : (A B : Type 0) (image : Option Image) (test : Image → List ℕ → Bool) (asked : Asked) (rule : Rule) (va : ℕ) (view : B → List ℕ × Lists) (lists : Lists) (at : ℕ) (ns : List ℕ) (halt : TestStop) (stop : WalkStop) →
    slice_get lists at ≡ Some ns → stop ≡ ended asked rule va halt → TellsAs {A = A} (λ i. test i ns) image (Err halt) → WalksAs view (λ i. taken_if (test i) (misfit asked rule va) (drop at lists)) image (Err stop)
list_halts A B None test asked rule va view lists at ns halt stop is to e = tt
list_halts A B (Some i) test asked rule va view lists at ns Unfit stop is to e =
    rw to (ap (taken_if (test i) (misfit asked rule va)) (drop_at lists at ns is) ∙ if_false (test i ns) (misfit asked rule va) ns (drop (at + 1) lists) e)
list_halts A B (Some i) test asked rule va view lists at ns Fault stop is to e = rw to tt
list_halts A B (Some i) test asked rule va view lists at ns NoMemory stop is to e = rw to tt

-- what is given by the lists that are left, of all
abbrev pub Adds : (ℕ → ℕ) → List ℕ → List ℕ → ℕ → Lists → Type 0
Adds element whole found over left = whole ≡ found ++ nodes_apart element over left

pub adds_ring : (element : ℕ → ℕ) (whole found more ns : List ℕ) (lists : Lists) (i over : ℕ) → slice_get lists i ≡ Some ns → over ≡ 0 → more ≡ found ++ map element ns → Adds element whole found over (drop i lists) →
    Adds element whole more (length ns) (drop (i + 1) lists)
adds_ring element whole found more ns lists i over is none to e =
    e ∙ ap (λ k. found ++ nodes_apart element k (drop i lists)) none ∙ ap (λ ls. found ++ nodes_apart element 0 ls) (drop_at lists i ns is) ∙ ap (λ xs. found ++ xs) (give_first element ns (drop (i + 1) lists))
    ∙ sym (append_assoc found (map element ns) (nodes_apart element (length ns) (drop (i + 1) lists))) ∙ ap (λ xs. xs ++ nodes_apart element (length ns) (drop (i + 1) lists)) (sym to)

pub adds_none : (element : ℕ → ℕ) (whole found : List ℕ) (lists : Lists) (i over : ℕ) → i < length lists → 0 < over → Adds element whole found over (drop i lists) → Adds element whole found (over - 1) (drop (i + 1) lists)
adds_none element whole found lists i over within some e =
    let one : over ≡ suc (over - 1) = omega (arith, some) in
    let here : drop i lists ≡ get_or lists i [] ∷ drop (i + 1) lists = rw add-one (drop-cons lists i [] within) in
    e ∙ ap (λ k. found ++ nodes_apart element k (drop i lists)) one ∙ ap (λ ls. found ++ nodes_apart element (suc (over - 1)) ls) here
    ∙ ap (λ xs. found ++ xs) (pass_over element (over - 1) (get_or lists i []) (drop (i + 1) lists))

pub adds_all : (element : ℕ → ℕ) (whole found : List ℕ) (lists : Lists) (i over : ℕ) → length lists ≤ i → Adds element whole found over (drop i lists) → found ≡ whole
adds_all element whole found lists i over all e =
    sym (e ∙ ap (λ ls. found ++ nodes_apart element over ls) (drop_all i lists all) ∙ ap (λ xs. found ++ xs) (give_none element over) ∙ append-nil found)

-- behind the first list
pub behind_first : {E : Type 0} (shape : TaskShape) (lists : Lists) (r : Result (List ℕ) E) → IfOk r (λ found. found ≡ nodes_apart (task_of shape.thread_node) 0 (drop 1 lists)) → IfOk r (λ threads. threads ≡ task_nodes shape lists)
behind_first shape [] (Ok found) is = is ∙ give_none (task_of shape.thread_node) 0
behind_first shape (ns ∷ rest) (Ok found) is = is
behind_first shape lists (Err e) is = tt
