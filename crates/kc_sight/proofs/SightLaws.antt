-- What is seen of an address is true of the dump.
use Rattle.std.proofs.Common.{◌≡◌, ◌==◌, ℕ, zero, suc, ◌+◌, ◌-◌, ◌*◌, ◌%◌, ◌^◌, Bool, true, false, if◌then◌else◌, List, [], ◌∷◌, ◌++◌, map, Option, Some, None, Result, Ok, Err, refl}
use Rattle.std.specs.Option.{option_map_or}
use Rattle.std.specs.List.{range_with_len}
use Rattle.kc_memory.specs.declared.words.PWord.{PWord}
use Rattle.kc_memory.specs.declared.words.Place.{Place}
use Rattle.kc_memory.specs.declared.words.VWord.{VWord}
use Rattle.kc_memory.specs.Image.{Image, pword}
use Rattle.kc_memory.specs.Laws.{PlacesStand}
use Rattle.kc_memory.specs.Places.{AllStandIn, places_of}
use Rattle.kc_memory.specs.Stopped.{Stopped}
use Rattle.kc_memory.specs.Translation.{entered, entry_address, is_canonical, levels, vword}
use Rattle.kc_sight.specs.declared.entries.TableEntry.{TableEntry}
use Rattle.kc_sight.specs.declared.aliases.Rules.{Rules}
use Rattle.kc_sight.specs.Aliases.{alias_at, aliases, by_direct, direct_base, same_word}
use Rattle.kc_sight.specs.Entries.{entries_from, entry_before, table_in}
use Rattle.kc_sight.specs.Laws.{SightsStand}
use Rattle.kc_sight.specs.Looks.{words}
use Rattle.kc_sight.specs.Sights.{Sight, alias_places, entry_place, page_start, places, seen_places, sight, word_start}

both_stand : (image : Image) (ps qs : List Place) → AllStandIn image ps → AllStandIn image qs → AllStandIn image (ps ++ qs)
both_stand image [] qs first rest = rest
both_stand image (p ∷ ps) qs first rest = (first.0, both_stand image ps qs first.1 rest)

-- an entry stands at its place
entry_stands : (image : Image) (level pa : ℕ) (there : Option PWord) (rest : List TableEntry) → pword image.physical pa ≡ there → AllStandIn image (map entry_place rest)
    → AllStandIn image (map entry_place (entry_before level pa there rest))
entry_stands image level pa None rest is stand = tt
entry_stands image level pa (Some word) rest is stand = (record { physically = is; virtually = tt }, stand)

below_stand : (image : Image) (below : ℕ → List TableEntry) (next : Option ℕ) → ((table : ℕ) → AllStandIn image (map entry_place (below table)))
    → AllStandIn image (map entry_place (option_map_or below next []))
below_stand image below None stand = tt
below_stand image below (Some table) stand = stand table

from_stand : (image : Image) (mask va level table : ℕ) → AllStandIn image (map entry_place (entries_from image.physical mask va level table))
unfolding entries_from
from_stand image mask va zero table = tt
from_stand image mask va (suc level) table =
    entry_stands image (suc level) (entry_address (suc level) table va) (pword image.physical (entry_address (suc level) table va)) _ refl
    (below_stand image (entries_from image.physical mask va level) (table_in (entered image.physical mask va (suc level) table)) (λ t. from_stand image mask va level t))

way_stands : (image : Image) (va : ℕ) (b : Bool) → AllStandIn image (map entry_place (if b then entries_from image.physical image.paging.sme va (levels image.paging) image.paging.table else []))
way_stands image va true = from_stand image image.paging.sme va (levels image.paging) image.paging.table
way_stands image va false = tt

-- and so do words that are read
one_stands : (image : Image) (r : Result VWord Stopped) (rest : List (Result VWord Stopped)) → AllStandIn image (places_of r) → AllStandIn image (seen_places rest) → AllStandIn image (seen_places (r ∷ rest))
one_stands image (Ok w) rest one stand = (one.0, stand)
one_stands image (Err s) rest one stand = stand

each_stands : PlacesStand → (image : Image) (at : ℕ → ℕ) (is : List ℕ) → AllStandIn image (seen_places (map (λ i. vword image (at i)) is))
each_stands law image at [] = tt
each_stands law image at (i ∷ is) = one_stands image (vword image (at i)) (map (λ i. vword image (at i)) is) (law image (at i)) (each_stands law image at is)

words_stand : PlacesStand → (image : Image) (first count : ℕ) → AllStandIn image (seen_places (words image first count))
unfolding words
words_stand law image first count = each_stands law image (λ i. (first + 8 * i) % 2 ^ 64) (range_with_len 0 count)

-- a word that is read at another address stands there
read_stands : (image : Image) (pa : ℕ) (r : Result VWord Stopped) → AllStandIn image (places_of r) → AllStandIn image (alias_places (same_word pa r))
read_stands image pa (Err s) stand = tt
read_stands image pa (Ok w) stand = same_stands (w.pa == pa)
  where
    same_stands : (b : Bool) → AllStandIn image (alias_places (if b then Some w else None))
    same_stands true = stand
    same_stands false = tt

other_stands : PlacesStand → (image : Image) (w : VWord) (at : ℕ) (b : Bool) → AllStandIn image (alias_places (if b then None else same_word w.pa (vword image at)))
other_stands law image w at true = tt
other_stands law image w at false = read_stands image w.pa (vword image at) (law image at)

alias_stands : PlacesStand → (image : Image) (w : VWord) (at : ℕ) → AllStandIn image (alias_places (alias_at image w at))
alias_stands law image w at = other_stands law image w at (at == w.va)

direct_stands : PlacesStand → (image : Image) (w : VWord) (base : Option ℕ) → AllStandIn image (alias_places (by_direct image w base))
direct_stands law image w None = tt
direct_stands law image w (Some b) = alias_stands law image w ((b + w.pa) % 2 ^ 64)

aliases_stand : PlacesStand → (image : Image) (rules : Rules) (r : Result VWord Stopped)
    → AllStandIn image (alias_places (aliases image rules r).direct) × AllStandIn image (alias_places (aliases image rules r).image)
aliases_stand law image rules (Ok w) =
    (direct_stands law image w (direct_base image rules.five rules.direct), alias_stands law image w ((0xffffffff80000000 + w.pa + 2 ^ 64 - rules.phys_base) % 2 ^ 64))
aliases_stand law image rules (Err s) = (tt, tt)

sight_stands : (image : Image) (s : Sight) → AllStandIn image (map entry_place s.entries) → AllStandIn image (places_of s.word)
    → AllStandIn image (alias_places s.aliases.direct) → AllStandIn image (alias_places s.aliases.image) → AllStandIn image (seen_places s.near) → AllStandIn image (seen_places s.page)
    → AllStandIn image (places s)
sight_stands image s way word direct mapped near page =
    let one = both_stand image (map entry_place s.entries) (places_of s.word) way word in
    let two = both_stand image (map entry_place s.entries ++ places_of s.word) (alias_places s.aliases.direct) one direct in
    let three = both_stand image (map entry_place s.entries ++ places_of s.word ++ alias_places s.aliases.direct) (alias_places s.aliases.image) two mapped in
    let four = both_stand image (map entry_place s.entries ++ places_of s.word ++ alias_places s.aliases.direct ++ alias_places s.aliases.image) (seen_places s.near) three near in
    both_stand image (map entry_place s.entries ++ places_of s.word ++ alias_places s.aliases.direct ++ alias_places s.aliases.image ++ seen_places s.near) (seen_places s.page) four page

pub sights_stand : PlacesStand → SightsStand
sights_stand law image rules address =
    let others = aliases_stand law image rules (vword image (word_start address)) in
    sight_stands image (sight image rules address) (way_stands image (word_start address) (is_canonical image.paging (word_start address)))
    (law image (word_start address)) others.0 others.1 (words_stand law image ((word_start address + 2 ^ 64 - 32) % 2 ^ 64) 9) (words_stand law image (page_start address) 512)
