-- What is suspected stands in the dump.
use Rattle.std.proofs.Common.{◌≡◌, ◌==◌, ℕ, Bool, true, false, if◌then◌else◌, List, [], ◌∷◌, ◌++◌, Result, Ok, Err, refl, ap, ◌∙◌}
use Rattle.std.specs.List.{AllByRecursion, flat_map}
use Rattle.std.proofs.lemmas.Bool.{eqb-false}
use Rattle.kc_memory.specs.declared.words.Origin.{Origin}
use Rattle.kc_memory.specs.declared.words.Origin.TheVariants.{File, Tail}
use Rattle.kc_memory.specs.declared.words.VWord.{VWord}
use Rattle.kc_memory.specs.Image.{Image}
use Rattle.kc_memory.specs.Laws.{PlacesStand}
use Rattle.kc_memory.specs.Places.{AllStandIn, places_of}
use Rattle.kc_memory.specs.Stopped.{Stopped}
use Rattle.kc_memory.specs.Translation.{vword}
use Rattle.kc_found.specs.Nodes.{readable}
use Rattle.kc_repair.specs.declared.suspect.change.How.{How}
use Rattle.kc_repair.specs.declared.suspect.suspect.Suspect.{Suspect}
use Rattle.kc_repair.specs.Suspect.Changes.{made, made_of, numbers, suspect_in, suspect_of}
use Rattle.kc_repair.specs.Suspect.Laws.{IsSuspect, SuspectsStand}
use Rattle.kc_repair.specs.Suspect.Suspects.{changes, suspects}

abbrev All : Image → List Suspect → Type 0
All image l = AllByRecursion (IsSuspect image) l

both_stand : (image : Image) (a b : List Suspect) → All image a → All image b → All image (a ++ b)
both_stand image [] b first rest = rest
both_stand image (s ∷ a) b first rest = (first.0, both_stand image a b first.1 rest)

each_stands : {X : Type 0} (image : Image) (f : X → List Suspect) → ((x : X) → All image (f x)) → (xs : List X) → All image (flat_map f xs)
each_stands image f one [] = tt
each_stands image f one (x ∷ xs) = both_stand image (f x) (flat_map f xs) (one x) (each_stands image f one xs)

-- another number
other_stands : (image : Image) (w : VWord) (off value : ℕ) (same : Bool) → (value == w.value) ≡ same → vword image w.va ≡ Ok (record { va = w.va; pa = w.pa; off = File off; value = w.value })
    → All image (if same then [] else record { va = w.va; pa = w.pa; off = off; now = w.value; value = value } ∷ [])
other_stands image w off value true is read = tt
other_stands image w off value false is read = (record { there = read; other = eqb-false value w.value is }, tt)

in_file_stands : (image : Image) (w : VWord) (off : Origin) (value : ℕ) → w.off ≡ off → vword image w.va ≡ Ok w → All image (suspect_in w off value)
in_file_stands image w Tail value is read = tt
in_file_stands image w (File off) value is read =
    other_stands image w off value (value == w.value) refl (read ∙ ap (λ (o : Origin). Ok (record { va = w.va; pa = w.pa; off = o; value = w.value })) is)

word_stands : (image : Image) (w : VWord) → vword image w.va ≡ Ok w → (value : ℕ) → All image (suspect_of w value)
word_stands image w read value = in_file_stands image w w.off value refl read

seen_stands : (image : Image) (r : Result VWord Stopped) (how : How) → AllStandIn image (places_of r) → All image (made_of (readable r) how)
seen_stands image (Err s) how stand = tt
seen_stands image (Ok w) how stand = each_stands image (suspect_of w) (word_stands image w stand.0.virtually) (numbers how w.value)

pub suspects_stand : PlacesStand → SuspectsStand
unfolding suspects
suspects_stand law image kind v = each_stands image (made image) (λ c. seen_stands image (vword image c.at) c.how (law image c.at)) (changes image kind v)
