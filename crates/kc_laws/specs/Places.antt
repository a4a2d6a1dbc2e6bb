-- Violations whose places stand in the dump.
use Rattle.std.proofs.Common.{◌≡◌, ℕ, Bool, List, ◌++◌}
use Rattle.std.specs.Prelude.{Err, if◌then◌else◌}
use Rattle.kc_memory.specs.declared.words.Place.{Place}
use Rattle.kc_memory.specs.Image.{Image}
use Rattle.kc_memory.specs.Places.{AllStandIn}
use Rattle.kc_found.specs.Trials.{Trial, broken_if, judged}
use Rattle.kc_found.specs.Violations.{Violation}
use Rattle.kc_found.specs.Showing.{AllShow, Showing}
use Rattle.kc_found.specs.Chains.{ChainOf, chain_walk}
use Rattle.kc_found.proofs.Shown as shown
use Rattle.kc_found.proofs.ChainShown as chainshown

-- the places of two lists stand in the dump, where those of each do
pub all_whole : (image : Image) (ps qs : List Place) → AllStandIn image ps → AllStandIn image qs → AllStandIn image (ps ++ qs)
all_whole = shown.all_whole

-- two lists of trials show words of the dump alone, where each does
pub show_whole : {X : Type 0} (image : Image) (ts us : List (Trial X)) → AllShow image ts → AllShow image us → AllShow image (ts ++ us)
show_whole = shown.show_whole

-- the places of the first violation of such trials stand in the dump
pub judged_shows : {X : Type 0} (image : Image) (ts : List (Trial X)) (v : Violation) → AllShow image ts → judged ts ≡ Err v → AllStandIn image v.places
judged_shows = shown.judged_shows

-- a test shows what its violation shows
pub broken_shows : (image : Image) (b : Bool) (v : Violation) → AllStandIn image v.places → AllShow {X = ℕ} image (broken_if b v)
broken_shows = shown.broken_shows

-- and a choice of trials what each choice shows
pub either_shows : {X : Type 0} (image : Image) (b : Bool) (ts us : List (Trial X)) → AllShow image ts → AllShow image us → AllShow image (if b then ts else us)
either_shows = shown.either_shows

-- the places of the violation of a chain stand in the dump, where its sites show words of the dump alone
pub walk_shows : {S : Type 0} (image : Image) (k : ChainOf S) (P : S → Type 0) (v : Violation) → Showing image k P → chain_walk image.physical k ≡ Err v → AllStandIn image v.places
walk_shows = chainshown.walk_shows
