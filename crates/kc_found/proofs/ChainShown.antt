-- The violations of a walk along pointers show words of the dump alone, where those of its sites do.
use Rattle.std.proofs.Common.{◌≡◌, ℕ, zero, suc, ◌+◌, List, ◌∷◌, ◌++◌, Option, Some, None, refl}
use Rattle.std.specs.Prelude.{Err}
use Rattle.kc_memory.specs.Held.{word_count}
use Rattle.kc_memory.specs.Image.{Image}
use Rattle.kc_memory.specs.Places.{AllStandIn}
use Rattle.kc_found.specs.Chains.{ChainOf, chain_sites, chain_trials, chain_walk, from_there}
use Rattle.kc_found.specs.Trials.{Trial, Meet}
use Rattle.kc_found.specs.Violations.{Violation}
use Rattle.kc_found.specs.Showing.{AllShow, Showing}
use Rattle.kc_found.proofs.Shown.{either_shows, judged_shows, show_whole}

pub there_shows : {S X : Type 0} (image : Image) (o : Option S) (go : S → List (Trial X)) → ((s : S) → o ≡ Some s → AllShow image (go s)) → AllShow image (from_there o go)
there_shows image None go next = tt
there_shows image (Some s) go next = next s refl

chain_shows : {S : Type 0} (image : Image) (k : ChainOf S) (P : S → Type 0) (left : ℕ) (s : S) → Showing image k P → P s → AllShow image (chain_trials k left s)
unfolding chain_trials
chain_shows image k P zero s show p = tt
chain_shows image k P (suc left) s show p =
    either_shows image (k.ends s) (k.last s) (k.site s ++ from_there (k.next s) (λ t. Meet (k.element s) ∷ chain_trials k left t)) (show.last s p)
    (show_whole image (k.site s) (from_there (k.next s) (λ t. Meet (k.element s) ∷ chain_trials k left t)) (show.site s p)
    (there_shows image (k.next s) (λ t. Meet (k.element s) ∷ chain_trials k left t) (λ t is. chain_shows image k P left t show (show.next s t p is))))

pub walk_shows : {S : Type 0} (image : Image) (k : ChainOf S) (P : S → Type 0) (v : Violation) → Showing image k P → chain_walk image.physical k ≡ Err v → AllStandIn image v.places
walk_shows image k P v show is =
    let left = word_count image.physical + 1 in
    judged_shows image (chain_sites k left) v
    (show_whole image k.head (from_there k.start (chain_trials k left)) show.head
    (there_shows image k.start (chain_trials k left) (λ s here. chain_shows image k P left s show (show.start s here)))) is
