-- The violations of free lists show words of the dump alone.
use Rattle.std.proofs.Common.{◌≡◌, ℕ, ◌%◌, Bool, true, false, List, [], ◌∷◌, Some, None, refl, sym, subst, ◌+◌}
use Rattle.std.specs.Prelude.{Result, Ok, Err, ⊤, nat_le, not, option_map, if◌then◌else◌}
use Rattle.kc_memory.specs.declared.rule.Rule.TheVariants.{U5}
use Rattle.kc_memory.specs.declared.words.Place.{Place}
use Rattle.kc_memory.specs.declared.words.VWord.{VWord}
use Rattle.kc_memory.specs.Bits.{Number, first_bit, in_one, in_two, next_word, number_places, with_word, word_of}
use Rattle.kc_memory.specs.Image.{Image}
use Rattle.kc_memory.specs.Laws.{NumbersStand}
use Rattle.kc_memory.specs.Places.{AllStandIn, StandsIn, entry_places, place_of}
use Rattle.kc_memory.specs.Stopped.{Stopped}
use Rattle.kc_memory.specs.Translation.{vword}
use Rattle.kc_memory.specs.Translation as memory
use Rattle.kc_found.specs.declared.asked.Asked.{Asked}
use Rattle.kc_found.specs.declared.free.FreeLed.{FreeLed}
use Rattle.kc_found.specs.declared.free.Grid.{Grid}
use Rattle.kc_found.specs.FreeLists.{free_chain, free_first, free_next, free_site, is_object, led_by, number_in, number_taken, places_taken, pointer_at, word_shown}
use Rattle.kc_found.specs.Nodes.{readable}
use Rattle.kc_found.specs.Trials.{broken_if}
use Rattle.kc_found.specs.Violations.{breaks_field, places_by}
use Rattle.kc_found.specs.Showing.{AllShow, Showing}
use Rattle.kc_laws.specs.Places.{all_whole, broken_shows, show_whole, walk_shows}
use Rattle.kc_slub.specs.Laws.{FreePlacesStand}

-- the place of a word is that of the word at it
AreWords : List Place → Type 0
AreWords [] = ⊤
AreWords (p ∷ ps) = (place_of (word_shown p) ≡ p) × AreWords ps

one_or_two : (n : ℕ) (low : VWord) (r : Result VWord Stopped) (alone : Bool) (m : Number) →
    (if alone then Ok (in_one (n % 64) 64 false low) else memory.and_then r (λ high. Ok (in_two (n % 64) 64 false low high))) ≡ Ok m → AreWords (places_by (Some m))
unfolding AreWords
one_or_two n low r true m e = let same : in_one (n % 64) 64 false low ≡ m = cc in rw (← same) (refl, tt)
one_or_two n low (Ok high) false m e = let same : in_two (n % 64) 64 false low high ≡ m = cc in rw (← same) (refl, (refl, tt))
one_or_two n low (Err s) false m e = absurd (cc)

from_word : (image : Image) (n : ℕ) (r : Result VWord Stopped) (m : Number) → memory.and_then r (with_word image n 64 false) ≡ Ok m → AreWords (places_by (Some m))
from_word image n (Ok low) m e = one_or_two n low (vword image (next_word (word_of n))) (nat_le (n % 64 + 64) 64) m e
from_word image n (Err s) m e = absurd (cc)

are_words : (image : Image) (at : ℕ) (m : Number) → number_in image at ≡ Ok m → AreWords (places_by (Some m))
are_words image at m e = from_word image (first_bit at 0) (vword image (word_of (first_bit at 0))) m e

taken_show : (image : Image) (asked : Asked) (ps : List Place) → AllStandIn image ps → AreWords ps → AllShow {X = ℕ} image (places_taken asked ps)
unfolding AreWords
taken_show image asked [] here words = tt
taken_show image asked (p ∷ ps) here words = ((subst (StandsIn image) (sym words.0) here.0, tt), taken_show image asked ps here.1 words.1)

-- the pointer that leads to a site
LedStands : Image → FreeLed → Type 0
LedStands image s = AllStandIn image (places_by (Some s.by))

shown_by : (image : Image) (by : Number) (first : Bool) → AllStandIn image (places_by (Some by)) → AllStandIn image (places_by (if first then None else Some by))
shown_by image by true here = tt
shown_by image by false here = here

number_shows : (image : Image) (asked : Asked) (led : List Place) (there : Result Number Stopped) → AllStandIn image led → AllStandIn image (number_places there) →
    ((m : Number) → there ≡ Ok m → AreWords (places_by (Some m))) → AllShow {X = ℕ} image (number_taken asked led there)
number_shows image asked led (Ok m) here stands words = taken_show image asked (places_by (Some m)) stands (words m refl)
number_shows image asked led (Err s) here stands words = (all_whole image led (entry_places s.pa s.entry) here stands, tt)

site_shows : NumbersStand → (image : Image) (grid : Grid) (asked : Asked) (s : FreeLed) → LedStands image s → AllShow image (free_site asked grid (number_in image (pointer_at grid s.to)) s)
unfolding LedStands
site_shows numbers image grid asked s here =
    show_whole {X = ℕ} image (broken_if (not (is_object grid s.to)) (breaks_field asked U5 s.to s.by None)) (number_taken asked (places_by (led_by s)) (number_in image (pointer_at grid s.to)))
    (broken_shows image (not (is_object grid s.to)) (breaks_field asked U5 s.to s.by None) here)
    (number_shows image asked (places_by (led_by s)) (number_in image (pointer_at grid s.to)) (shown_by image s.by s.is_first here) (numbers image (pointer_at grid s.to) 0 64 false) (are_words image (pointer_at grid s.to)))

next_stands : (image : Image) (grid : Grid) (s t : FreeLed) (there : Result Number Stopped) → AllStandIn image (number_places there) → option_map (free_next grid s) (readable there) ≡ Some t → LedStands image t
unfolding LedStands
next_stands image grid s t (Ok m) stands e = let same : free_next grid s m ≡ t = cc in rw (← same) stands
next_stands image grid s t (Err m) stands e = absurd (cc)

free_shows : NumbersStand → (image : Image) (grid : Grid) (asked : Asked) (first : FreeLed) → LedStands image first → Showing image (free_chain (number_in image) grid asked first) (LedStands image)
free_shows numbers image grid asked first here = record {
  head = tt;
  start = λ s is. (let same : first ≡ s = cc in subst (LedStands image) same here);
  last = λ s p. tt;
  site = λ s p. site_shows numbers image grid asked s p;
  next = λ s t p is. next_stands image grid s t (number_in image (pointer_at grid s.to)) (numbers image (pointer_at grid s.to) 0 64 false) is;
}

pub free_places_stand : NumbersStand → FreePlacesStand
unfolding LedStands
free_places_stand numbers image grid first asked v here is =
    walk_shows image (free_chain (number_in image) grid asked (free_first first)) (LedStands image) v (free_shows numbers image grid asked (free_first first) here) is
