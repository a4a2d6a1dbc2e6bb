use Rattle.std.proofs.Common.{◌≡◌, ℕ, zero, suc, ◌+◌, ◌∷◌, ◌++◌, [], List, take, slice_get, Some, ap, sym, ◌∙◌, add-one}
use Rattle.std.specs.Prelude.{map}
use Rattle.kc_view.specs.TaskLists.{task_of}
use Rattle.kc_owner.proofs.area.stacks.tasks_from.Goals as goal

one_more : (f : ℕ → ℕ) (xs : List ℕ) (n x : ℕ) → slice_get xs n ≡ Some x → map f (take (suc n) xs) ≡ map f (take n xs) ++ f x ∷ []
one_more f [] n x is = absurd (let none : ⊥ = cc in none)
one_more f (y ∷ ys) zero x is = let same : y ≡ x = cc in ap (λ z. f z ∷ []) same
one_more f (y ∷ ys) (suc n) x is = ap (λ zs. f y ∷ zs) (one_more f ys n x is)

pub loop-i-preserved : goal.loop-i-preserved
loop-i-preserved c =
    let more = one_more (task_of c.args.offset) c.args.nodes.now c.loop-i.i c.get.result.now c.get.ensures in
    c.in_ok-push_node-2.ensures.added ∙ ap (λ (l : List ℕ). l ++ task_of c.args.offset c.get.result.now ∷ []) c.loop-i.invariant
    ∙ ap (λ (l : List ℕ). c.args.first ∷ l) (sym more ∙ ap (λ (k : ℕ). map (task_of c.args.offset) (take k c.args.nodes.now)) (sym (add-one c.loop-i.i)))
