-- The words of a segment's parts are the segment's.
use Rattle.std.proofs.Common.{◌≡◌, ℕ, zero, suc, [], ◌∷◌, ◌++◌, ◌+◌, ◌-◌, ◌≤◌, ◌<◌, List, length, take, drop, get_or, append-nil, add-one, refl, sym, ap, ◌∙◌, arith}
use Rattle.std.specs.List.{filter_map}
use Rattle.std.proofs.lemmas.List.{append_assoc, drop_more, take-append-drop, take_more}
use Rattle.std.proofs.lemmas.List.Elements.{filter_map-append}
use Rattle.std.proofs.lemmas.List.FromFn.{map-range_with_len_more}
use Rattle.kc_word.specs.declared.plain.Segment.{Segment}
use Rattle.kc_sight.specs.declared.refs.place.FoundWord.{FoundWord}
use Rattle.kc_sight.specs.declared.refs.place.WordPlace.{WordPlace}
use Rattle.kc_sight.specs.Refs.Holding.{found_at, in_segment, in_segments, place, places, skipped, word_count}
use Rattle.kc_sight.specs.Refs.Writings.{Sought}
use Rattle.kc_refs.specs.Parts.{part, words_from}

-- a part begins with a word
none_skipped : (s : Segment) (first count : ℕ) → skipped (part s first count) ≡ 0
none_skipped s first count = omega arith

of_place : {pa pb oa ob : ℕ} → pa ≡ pb → oa ≡ ob → ◌≡◌ {A = WordPlace} (record { pa = pa; off = oa }) (record { pa = pb; off = ob })
of_place pa off = cc

-- its word k is that of the segment so many further on
place_in : (s : Segment) (first count k : ℕ) → place (part s first count) k ≡ place s (first + k)
place_in s first count k =
    let none : skipped (part s first count) ≡ 0 = none_skipped s first count in
    let pa : (place (part s first count) k).pa ≡ (place s (first + k)).pa = omega (arith, none) in
    let off : (place (part s first count) k).off ≡ (place s (first + k)).off = omega (arith, none) in
    of_place pa off

places_in : (s : Segment) (first count k : ℕ) → places (part s first count) 0 k ≡ places s first k
places_in s first count zero = refl
places_in s first count (suc k) =
    ap (λ (n : ℕ). places (part s first count) 0 n) (sym (add-one k))
    ∙ map-range_with_len_more (place (part s first count)) 0 k k (omega arith)
    ∙ ap (λ (l : List WordPlace). l ++ place (part s first count) k ∷ []) (places_in s first count k)
    ∙ ap (λ (p : WordPlace). places s first k ++ p ∷ []) (place_in s first count k)
    ∙ sym (map-range_with_len_more (place s) first k (first + k) refl)
    ∙ ap (λ (n : ℕ). places s first n) (add-one k)

count_in : (s : Segment) (first count : ℕ) → word_count (part s first count) ≡ count
count_in s first count = let none : skipped (part s first count) ≡ 0 = none_skipped s first count in omega (arith, none)

-- so its words that hold what is looked for are the segment's
pub part_words : (sought : Sought) (bytes : List ℕ) (s : Segment) (first count : ℕ) → in_segment sought bytes (part s first count) ≡ words_from sought bytes s first count
part_words sought bytes s first count =
    ap (λ (n : ℕ). filter_map (found_at sought bytes) (places (part s first count) 0 n)) (count_in s first count)
    ∙ ap (filter_map (found_at sought bytes)) (places_in s first count count)

places_joined : (s : Segment) (a n m : ℕ) → places s a n ++ places s (a + n) m ≡ places s a (n + m)
places_joined s a n zero = append-nil (places s a n) ∙ ap (λ (k : ℕ). places s a k) (omega arith)
places_joined s a n (suc m) =
    ap (λ (k : ℕ). places s a n ++ places s (a + n) k) (sym (add-one m))
    ∙ ap (λ (l : List WordPlace). places s a n ++ l) (map-range_with_len_more (place s) (a + n) m (a + n + m) refl)
    ∙ sym (append_assoc (places s a n) (places s (a + n) m) (place s (a + n + m) ∷ []))
    ∙ ap (λ (l : List WordPlace). l ++ place s (a + n + m) ∷ []) (places_joined s a n m)
    ∙ sym (map-range_with_len_more (place s) a (n + m) (a + n + m) (omega arith))
    ∙ ap (λ (k : ℕ). places s a k) (omega arith)

-- those up to a word, and from there on
pub words_joined : (sought : Sought) (bytes : List ℕ) (s : Segment) (a n m : ℕ)
    → words_from sought bytes s a (n + m) ≡ words_from sought bytes s a n ++ words_from sought bytes s (a + n) m
words_joined sought bytes s a n m =
    ap (filter_map (found_at sought bytes)) (sym (places_joined s a n m)) ∙ filter_map-append (found_at sought bytes) (places s a n) (places s (a + n) m)

-- those of a segment: of the words so far, of a part, and of the words after it
pub segment_words : (sought : Sought) (bytes : List ℕ) (s : Segment) (first count : ℕ) → first + count ≤ word_count s
    → in_segment sought bytes s ≡ words_from sought bytes s 0 first ++ (words_from sought bytes s first count ++ words_from sought bytes s (first + count) (word_count s - (first + count)))
segment_words sought bytes s first count below =
    ap (λ (n : ℕ). words_from sought bytes s 0 n) (omega (arith, below))
    ∙ words_joined sought bytes s 0 first (count + (word_count s - (first + count)))
    ∙ ap (λ (n : ℕ). words_from sought bytes s 0 first ++ words_from sought bytes s n (count + (word_count s - (first + count)))) (omega arith)
    ∙ ap (λ (l : List FoundWord). words_from sought bytes s 0 first ++ l) (words_joined sought bytes s first count (word_count s - (first + count)))

-- those of segments, and of others after them
segments_joined : (sought : Sought) (bytes : List ℕ) (some others : List Segment) → in_segments sought bytes (some ++ others) ≡ in_segments sought bytes some ++ in_segments sought bytes others
unfolding in_segments
segments_joined sought bytes [] others = refl
segments_joined sought bytes (s ∷ some) others =
    ap (λ (l : List FoundWord). in_segment sought bytes s ++ l) (segments_joined sought bytes some others)
    ∙ sym (append_assoc (in_segment sought bytes s) (in_segments sought bytes some) (in_segments sought bytes others))

pub one_segment : (sought : Sought) (bytes : List ℕ) (s : Segment) → in_segments sought bytes (s ∷ []) ≡ in_segment sought bytes s
unfolding in_segments
one_segment sought bytes s = append-nil (in_segment sought bytes s)

-- those of the segments so far, and of the next
pub segments_more : (sought : Sought) (bytes : List ℕ) (segments : List Segment) (i : ℕ) (d : Segment) → i < length segments
    → in_segments sought bytes (take (i + 1) segments) ≡ in_segments sought bytes (take i segments) ++ in_segment sought bytes (get_or segments i d)
segments_more sought bytes segments i d below =
    ap (in_segments sought bytes) (take_more segments i d below)
    ∙ segments_joined sought bytes (take i segments) (get_or segments i d ∷ [])
    ∙ ap (λ (l : List FoundWord). in_segments sought bytes (take i segments) ++ l) (one_segment sought bytes (get_or segments i d))

-- and of those after it
pub next_segments : (sought : Sought) (bytes : List ℕ) (s : Segment) (others : List Segment) → in_segments sought bytes (s ∷ others) ≡ in_segment sought bytes s ++ in_segments sought bytes others
unfolding in_segments
next_segments sought bytes s others = refl

pub all_segments : (sought : Sought) (bytes : List ℕ) (segments : List Segment) (i : ℕ) (d : Segment) → i < length segments
    → in_segments sought bytes segments ≡ in_segments sought bytes (take i segments) ++ (in_segment sought bytes (get_or segments i d) ++ in_segments sought bytes (drop (i + 1) segments))
all_segments sought bytes segments i d below =
    ap (in_segments sought bytes) (sym (take-append-drop i segments))
    ∙ segments_joined sought bytes (take i segments) (drop i segments)
    ∙ ap (λ (l : List Segment). in_segments sought bytes (take i segments) ++ in_segments sought bytes l) (drop_more segments i d below)
    ∙ ap (λ (l : List FoundWord). in_segments sought bytes (take i segments) ++ l) (next_segments sought bytes (get_or segments i d) (drop (i + 1) segments))

-- the same by the part itself
pub words_more : (sought : Sought) (bytes : List ℕ) (s p : Segment) (first count : ℕ) → p ≡ part s first count
    → words_from sought bytes s 0 (first + count) ≡ words_from sought bytes s 0 first ++ in_segment sought bytes p
words_more sought bytes s p first count is =
    words_joined sought bytes s 0 first count
    ∙ ap (λ (n : ℕ). words_from sought bytes s 0 first ++ words_from sought bytes s n count) (omega arith)
    ∙ ap (λ (l : List FoundWord). words_from sought bytes s 0 first ++ l) (sym (part_words sought bytes s first count))
    ∙ ap (λ (q : Segment). words_from sought bytes s 0 first ++ in_segment sought bytes q) (sym is)

pub segment_parts : (sought : Sought) (bytes : List ℕ) (s p : Segment) (first count : ℕ) → p ≡ part s first count → first + count ≤ word_count s
    → in_segment sought bytes s ≡ words_from sought bytes s 0 first ++ (in_segment sought bytes p ++ words_from sought bytes s (first + count) (word_count s - (first + count)))
segment_parts sought bytes s p first count is below =
    segment_words sought bytes s first count below
    ∙ ap (λ (l : List FoundWord). words_from sought bytes s 0 first ++ (l ++ words_from sought bytes s (first + count) (word_count s - (first + count)))) (sym (part_words sought bytes s first count))
    ∙ ap (λ (q : Segment). words_from sought bytes s 0 first ++ (in_segment sought bytes q ++ words_from sought bytes s (first + count) (word_count s - (first + count)))) (sym is)

pub no_segments : (sought : Sought) (bytes : List ℕ) → in_segments sought bytes [] ≡ []
unfolding in_segments
no_segments sought bytes = refl

pub part_count : (s p : Segment) (first count : ℕ) → p ≡ part s first count → word_count p ≡ count
part_count s p first count is = ap word_count is ∙ count_in s first count
