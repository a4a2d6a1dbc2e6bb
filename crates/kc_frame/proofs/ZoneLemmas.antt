-- The places so far, and the next one.
use Rattle.std.proofs.Common.{◌≡◌, ℕ, suc, ◌+◌, ◌-◌, ◌<◌, ◌≤◌, List, Option, Some, None, refl, sym, ap, ◌∙◌, add-one, arith}
use Rattle.std.specs.Option.{option_or}
use Rattle.std.specs.Prelude.{IfSome, Ok}
use Rattle.kc_memory.specs.Image.{Image}
use Rattle.kc_found.specs.Walks.{WalksAs}
use Rattle.kc_frame.specs.declared.zone.ZoneShape.{ZoneShape}
use Rattle.kc_frame.specs.Zones.{zone_at, zone_from, zones_at}

from_next : (i : Image) (shape : ZoneShape) (page left place : ℕ) → zone_from i shape page (suc left) place ≡ option_or (zone_at i shape page place) (zone_from i shape page left (suc place))
unfolding zone_from
from_next i shape page left place = refl

from_none : (i : Image) (shape : ZoneShape) (page place : ℕ) → zone_from i shape page 0 place ≡ None
unfolding zone_from
from_none i shape page place = refl

module _ (shape : ZoneShape) (page : ℕ) where
  abbrev pub OfPlaces : Option Image → ℕ → Type 0
  OfPlaces image place = IfSome image (λ i. zone_from i shape page (512 - place) place ≡ zones_at i shape page)

  pub places_begin : (image : Option Image) → OfPlaces image 0
  places_begin None = tt
  places_begin (Some i) = refl

  there : (i : Image) (place : ℕ) → place < 512 → zone_from i shape page (512 - place) place ≡ option_or (zone_at i shape page place) (zone_from i shape page (512 - (place + 1)) (place + 1))
  there i place more =
      let e : 512 - place ≡ suc (512 - (place + 1)) = omega (arith, more) in
      ap (λ (n : ℕ). zone_from i shape page n place) e ∙ from_next i shape page (512 - (place + 1)) place
      ∙ ap (λ (n : ℕ). option_or (zone_at i shape page place) (zone_from i shape page (512 - (place + 1)) n)) (sym (add-one place))

  pub places_next : (image : Option Image) (place : ℕ) → place < 512 → WalksAs {A = Option (List ℕ)} {B = Option (List ℕ)} (λ n. n) (λ i. Ok (zone_at i shape page place)) image (Ok None)
      → OfPlaces image place → OfPlaces image (place + 1)
  places_next None place more none far = tt
  places_next (Some i) place more none far =
      let same : zone_at i shape page place ≡ None = cc in
      sym (ap (λ (n : Option (List ℕ)). option_or n (zone_from i shape page (512 - (place + 1)) (place + 1))) same) ∙ sym (there i place more) ∙ far

  pub places_found : (image : Option Image) (place : ℕ) (name : List ℕ) → place < 512
      → WalksAs {A = Option (List ℕ)} {B = Option (List ℕ)} (λ n. n) (λ i. Ok (zone_at i shape page place)) image (Ok (Some name))
      → OfPlaces image place → WalksAs {A = Option (List ℕ)} {B = Option (List ℕ)} (λ n. n) (λ i. Ok (zones_at i shape page)) image (Ok (Some name))
  places_found None place name more some far = tt
  places_found (Some i) place name more some far =
      let same : zone_at i shape page place ≡ Some name = cc in
      ap (λ (n : Option (List ℕ)). Ok n) (sym far ∙ there i place more ∙ ap (λ (n : Option (List ℕ)). option_or n (zone_from i shape page (512 - (place + 1)) (place + 1))) same)

  pub places_done : (image : Option Image) (place : ℕ) → 512 ≤ place → OfPlaces image place
      → WalksAs {A = Option (List ℕ)} {B = Option (List ℕ)} (λ n. n) (λ i. Ok (zones_at i shape page)) image (Ok None)
  places_done None place all far = tt
  places_done (Some i) place all far =
      let e : 512 - place ≡ 0 = omega (arith, all) in
      ap (λ (n : Option (List ℕ)). Ok n) (sym far ∙ ap (λ (n : ℕ). zone_from i shape page n place) e ∙ from_none i shape page place)
