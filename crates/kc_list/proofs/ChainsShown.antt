-- The violations of rings and hash chains show words of the dump alone.
use Rattle.std.proofs.Common.{◌≡◌, ℕ, Bool, List, Option, Some, None, refl, subst}
use Rattle.std.specs.Prelude.{Result, Ok, Err, map, option_to_list, option_map, not, nat_eq}
use Rattle.kc_memory.specs.declared.words.VWord.{VWord}
use Rattle.kc_memory.specs.declared.rule.Rule.TheVariants.{N, K, L1, H1}
use Rattle.kc_memory.specs.Image.{Image}
use Rattle.kc_memory.specs.Laws.{PlacesStand}
use Rattle.kc_memory.specs.Places.{AllStandIn, StandsIn, entry_places, place_of, places_of}
use Rattle.kc_memory.specs.Stopped.{Stopped}
use Rattle.kc_memory.specs.Translation.{vword}
use Rattle.kc_found.specs.declared.asked.Asked.{Asked}
use Rattle.kc_found.specs.declared.shapes.HShape.{HShape}
use Rattle.kc_found.specs.declared.shapes.ListShape.{ListShape}
use Rattle.kc_found.specs.Chains.{from_there}
use Rattle.kc_found.specs.HashChains.{hash_chain, hash_links, hash_site, hash_walk, next_of, points_wrong}
use Rattle.kc_found.specs.Nodes.{at_offset, both, is_poison, one_taken, readable, two_taken}
use Rattle.kc_found.specs.Rings.{RingLed, is_wrong, led_first, led_on, links, ring_chain, ring_site, ring_walk}
use Rattle.kc_found.specs.Trials.{and_then, broken_if}
use Rattle.kc_found.specs.Violations.{Violation, breaks}
use Rattle.kc_list.specs.Laws.{HashPlacesStand, RingPlacesStand}
use Rattle.kc_found.specs.Showing.{Showing, AllShow}
use Rattle.kc_laws.specs.Places.{walk_shows, all_whole, broken_shows, show_whole}

-- the words that are read
OneStands : Image → Result VWord Stopped → Type 0
OneStands image (Ok w) = StandsIn image (place_of w)
OneStands image (Err s) = AllStandIn image (entry_places s.pa s.entry)

BothStand : Image → Result (VWord × VWord) Stopped → Type 0
BothStand image (Ok p) = StandsIn image (place_of p.0) × StandsIn image (place_of p.1)
BothStand image (Err s) = AllStandIn image (entry_places s.pa s.entry)

one_by : (image : Image) (r : Result VWord Stopped) → AllStandIn image (places_of r) → OneStands image r
unfolding OneStands
one_by image (Ok w) a = a.0
one_by image (Err s) a = a

one_stands : PlacesStand → (image : Image) (va : ℕ) → OneStands image (vword image va)
one_stands places image va = one_by image (vword image va) (places image va)

both_by : (image : Image) (r q : Result VWord Stopped) → OneStands image r → OneStands image q → BothStand image (and_then r (λ v. and_then q (λ w. Ok (v, w))))
unfolding OneStands BothStand
both_by image (Ok v) (Ok w) a b = (a, b)
both_by image (Ok v) (Err s) a b = b
both_by image (Err s) q a b = a

both_stand : PlacesStand → (image : Image) (first second : ℕ) → BothStand image (both (vword image) first second)
both_stand places image first second = both_by image (vword image first) (vword image second) (one_stands places image first) (one_stands places image second)

two_show : (image : Image) (asked : Asked) (led : Option VWord) (r : Result (VWord × VWord) Stopped) → AllStandIn image (map place_of (option_to_list led)) → BothStand image r → AllShow {X = ℕ} image (two_taken asked led r)
unfolding BothStand
two_show image asked led (Ok p) here both = ((both.0, tt), ((both.1, tt), tt))
two_show image asked led (Err s) here both = (all_whole image (map place_of (option_to_list led)) (entry_places s.pa s.entry) here both, tt)

one_shows : (image : Image) (asked : Asked) (r : Result VWord Stopped) → OneStands image r → AllShow {X = ℕ} image (one_taken asked None r)
unfolding OneStands
one_shows image asked (Ok w) one = ((one, tt), tt)
one_shows image asked (Err s) one = (one, tt)

-- what is read leads on
led_by : {S : Type 0} (image : Image) (P : S → Type 0) (r : Result (VWord × VWord) Stopped) (on : VWord × VWord → S) (t : S) → BothStand image r →
    ((p : VWord × VWord) → StandsIn image (place_of p.0) → StandsIn image (place_of p.1) → P (on p)) → option_map on (readable r) ≡ Some t → P t
unfolding BothStand
led_by image P (Ok p) on t both next is = let same : on p ≡ t = cc in subst P same (next p both.0 both.1)
led_by image P (Err s) on t both next is = let none : ⊥ = cc in absurd none

tested : (image : Image) (r : Result (VWord × VWord) Stopped) (test : VWord × VWord → Bool) (v : VWord × VWord → Violation) → BothStand image r →
    ((p : VWord × VWord) → StandsIn image (place_of p.1) → AllStandIn image ((v p).places)) → AllShow {X = ℕ} image (from_there (readable r) (λ p. broken_if (test p) (v p)))
unfolding BothStand
tested image (Ok p) test v both next = broken_shows image (test p) (v p) (next p both.1)
tested image (Err s) test v both next = tt

-- rings
RingStands : Image → RingLed → Type 0
RingStands image s = StandsIn image (place_of s.from) × StandsIn image (place_of s.last)

ring_site_shows : (image : Image) (asked : Asked) (there : Result (VWord × VWord) Stopped) (from : VWord) (before : ℕ) → StandsIn image (place_of from) → BothStand image there → AllShow image (ring_site asked there from before)
ring_site_shows image asked there from before here both =
    show_whole image (broken_if (nat_eq from.value 0) (breaks asked N from None)) _ (broken_shows image (nat_eq from.value 0) (breaks asked N from None) (here, tt))
    (show_whole image (broken_if (is_poison from.value) (breaks asked K from None)) _ (broken_shows image (is_poison from.value) (breaks asked K from None) (here, tt))
    (show_whole image (two_taken asked (Some from) there) _ (two_show image asked (Some from) there (here, tt) both)
    (tested image there (is_wrong before) (λ p. breaks asked L1 p.1 (Some before)) both (λ p stands. (stands, tt)))))

ring_shows : PlacesStand → (image : Image) (shape : ListShape) (asked : Asked) → Showing image (ring_chain (vword image) shape asked) (RingStands image)
unfolding RingStands
ring_shows places image shape asked = record {
  head = two_show image asked None (links (vword image) shape asked.start) tt (both_stand places image (at_offset asked.start shape.next) (at_offset asked.start shape.prev));
  start = λ s is. led_by image (RingStands image) (links (vword image) shape asked.start) (led_first asked.start) s (both_stand places image (at_offset asked.start shape.next) (at_offset asked.start shape.prev)) (λ p first last. (first, last)) is;
  last = λ s p. broken_shows image (not (nat_eq s.last.value s.before)) (breaks asked L1 s.last (Some s.before)) (p.1, tt);
  site = λ s p. ring_site_shows image asked (links (vword image) shape s.from.value) s.from s.before p.0 (both_stand places image (at_offset s.from.value shape.next) (at_offset s.from.value shape.prev));
  next = λ s t p is. led_by image (RingStands image) (links (vword image) shape s.from.value) (led_on s) t (both_stand places image (at_offset s.from.value shape.next) (at_offset s.from.value shape.prev)) (λ q first last. (first, p.1)) is;
}

pub ring_walk_shows : PlacesStand → RingPlacesStand
ring_walk_shows places image shape audit head v is =
    let asked : Asked = record { audit = audit; start = head } in
    walk_shows image (ring_chain (vword image) shape asked) (RingStands image) v (ring_shows places image shape asked) is

-- hash chains
HashStands : Image → VWord → Type 0
HashStands image from = StandsIn image (place_of from)

hash_site_shows : (image : Image) (asked : Asked) (there : Result (VWord × VWord) Stopped) (from : VWord) → StandsIn image (place_of from) → BothStand image there → AllShow image (hash_site asked there from)
hash_site_shows image asked there from here both =
    show_whole image (broken_if (is_poison from.value) (breaks asked K from None)) _ (broken_shows image (is_poison from.value) (breaks asked K from None) (here, tt))
    (show_whole image (two_taken asked (Some from) there) _ (two_show image asked (Some from) there (here, tt) both)
    (tested image there (points_wrong from) (λ p. breaks asked H1 p.1 (Some from.va)) both (λ p stands. (stands, tt))))

first_stands : (image : Image) (r : Result VWord Stopped) (w : VWord) → OneStands image r → readable r ≡ Some w → StandsIn image (place_of w)
unfolding OneStands
first_stands image (Ok v) w one is = let same : v ≡ w = cc in subst (λ (u : VWord). StandsIn image (place_of u)) same one
first_stands image (Err s) w one is = let none : ⊥ = cc in absurd none

hash_shows : PlacesStand → (image : Image) (shape : HShape) (asked : Asked) → Showing image (hash_chain (vword image) shape asked) (HashStands image)
unfolding HashStands
hash_shows places image shape asked = record {
  head = one_shows image asked (vword image (at_offset asked.start shape.first)) (one_stands places image (at_offset asked.start shape.first));
  start = λ s is. first_stands image (vword image (at_offset asked.start shape.first)) s (one_stands places image (at_offset asked.start shape.first)) is;
  last = λ s p. tt;
  site = λ s p. hash_site_shows image asked (hash_links (vword image) shape s.value) s p (both_stand places image (at_offset s.value shape.next) (at_offset s.value shape.pprev));
  next = λ s t p is. led_by image (HashStands image) (hash_links (vword image) shape s.value) next_of t (both_stand places image (at_offset s.value shape.next) (at_offset s.value shape.pprev)) (λ q first last. first) is;
}

pub hash_walk_shows : PlacesStand → HashPlacesStand
hash_walk_shows places image shape audit head v is =
    let asked : Asked = record { audit = audit; start = head } in
    walk_shows image (hash_chain (vword image) shape asked) (HashStands image) v (hash_shows places image shape asked) is
