-- The words of a block are the file's.
use Rattle.std.proofs.Common.{◌≡◌, true, ℕ, zero, suc, [], ◌∷◌, ◌++◌, ◌+◌, ◌-◌, ◌*◌, ◌<◌, ◌≤◌, List, length, get_or, map, take, drop, Option, Some, None, option_map, option_to_list, append-nil, add-one, subst, refl, sym, ap, ◌∙◌, arith}
use Rattle.std.specs.List.{filter_map, range_with_len}
use Rattle.std.proofs.lemmas.List.{append_assoc, drop-drop, drop_all, get_or-take, get_or-drop, length-drop, take_all}
use Rattle.std.proofs.lemmas.List.Elements.{filter_map-append}
use Rattle.std.proofs.lemmas.List.FromFn.{map-range_with_len_more}
use Rattle.byteorder.specs.Endian.{little_from, little_number}
use Rattle.kc_word.specs.declared.plain.Segment.{Segment}
use Rattle.kc_sight.specs.declared.refs.place.FoundWord.{FoundWord}
use Rattle.kc_sight.specs.declared.refs.place.WordPlace.{WordPlace}
use Rattle.kc_sight.specs.declared.refs.sought.Writing.{Writing}
use Rattle.kc_sight.specs.Refs.Stops.{Told}
use Rattle.kc_sight.specs.Refs.Holding.{found_at, found_by, found_from, in_block, in_segment, in_segments, place, places, word_count}
use Rattle.kc_sight.specs.Refs.Writings.{NoneHolds, Sought, is_near, writing}
use Rattle.kc_sight.proofs.RefsLemmas.NearLemmas.{nearer}

-- numbers of the same bytes are the same
same_number : (n i : ℕ) (xs ys : List ℕ) → ((k : ℕ) → k < i + n → get_or xs k 0 ≡ get_or ys k 0) → little_from i n xs ≡ little_from i n ys
same_number zero i xs ys same = refl
same_number (suc n) i xs ys same =
    let rest = same_number n (suc i) xs ys (λ k lt. same k (omega arith)) in
    let first = same i (omega arith) in
    cc

same_byte : (count start k i : ℕ) (block bytes : List ℕ) → take (8 * count) block ≡ take (8 * count) (drop start bytes) → k < count → i < 8
    → get_or (drop (8 * k) block) i 0 ≡ get_or (drop (start + 8 * k) bytes) i 0
same_byte count start k i block bytes same below lt =
    let within : 8 * k + i < 8 * count = omega arith in
    let moved : start + (8 * k + i) ≡ start + 8 * k + i = omega arith in
    get_or-drop (8 * k) block i 0
    ∙ sym (get_or-take (8 * count) block (8 * k + i) 0 within)
    ∙ ap (λ (l : List ℕ). get_or l (8 * k + i) 0) same
    ∙ get_or-take (8 * count) (drop start bytes) (8 * k + i) 0 within
    ∙ get_or-drop start bytes (8 * k + i) 0
    ∙ ap (λ (j : ℕ). get_or bytes j 0) moved
    ∙ sym (get_or-drop (start + 8 * k) bytes i 0)

same_word : (count start k : ℕ) (block bytes : List ℕ) → take (8 * count) block ≡ take (8 * count) (drop start bytes) → k < count
    → little_number 8 (drop (8 * k) block) ≡ little_number 8 (drop (start + 8 * k) bytes)
same_word count start k block bytes same below = same_number 8 0 (drop (8 * k) block) (drop (start + 8 * k) bytes) (λ i lt. same_byte count start k i block bytes same below (omega arith))

-- word k after another stands 8 * k bytes after it
after : (s : Segment) (first k : ℕ) → (place s (first + k)).off - (place s first).off ≡ 8 * k
after s first k = omega arith

-- the word at a place, which is among those that are found or isn't
one_by : {X Y : Type 0} (x : X) (o : Option Y) → filter_map (λ (_ : X). o) (x ∷ []) ≡ option_to_list o
one_by x None = refl
one_by x (Some y) = refl

one : {X Y : Type 0} (h : X → Option Y) (x : X) → filter_map h (x ∷ []) ≡ option_to_list (h x)
one h x = one_by x (h x)

one_more : {X Y : Type 0} (h : X → Option Y) (f : ℕ → X) (first k last : ℕ) → first + k ≡ last
    → filter_map h (map f (range_with_len first (k + 1))) ≡ filter_map h (map f (range_with_len first k)) ++ option_to_list (h (f last))
one_more h f first k last is =
    ap (filter_map h) (map-range_with_len_more f first k last is)
    ∙ filter_map-append h (map f (range_with_len first k)) (f last ∷ [])
    ∙ ap (λ (l : List _). filter_map h (map f (range_with_len first k)) ++ l) (one h (f last))

-- of one word more it is added, where it holds what is looked for
more : (sought : Sought) (block : List ℕ) (s : Segment) (first k : ℕ)
    → in_block sought block s first (k + 1) ≡ in_block sought block s first k ++ option_to_list (found_by sought (little_number 8 (drop (8 * k) block)) (place s (first + k)))
more sought block s first k =
    one_more (found_from (place s first).off block sought) (place s) first k (first + k) refl
    ∙ ap (λ (n : ℕ). in_block sought block s first k ++ option_to_list (found_by sought (little_number 8 (drop n block)) (place s (first + k)))) (after s first k)

pub hit : (sought : Sought) (block : List ℕ) (s : Segment) (first k : ℕ) (w : Writing) → writing sought (little_number 8 (drop (8 * k) block)) (place s (first + k)).pa ≡ Some w
    → in_block sought block s first (k + 1) ≡ in_block sought block s first k ++ record { place = place s (first + k); value = little_number 8 (drop (8 * k) block); writing = w } ∷ []
hit sought block s first k w is =
    more sought block s first k
    ∙ ap (λ (o : Option Writing). in_block sought block s first k ++ option_to_list (option_map (λ v. record { place = place s (first + k); value = little_number 8 (drop (8 * k) block); writing = v }) o)) is

pub passed : (sought : Sought) (block : List ℕ) (s : Segment) (first k : ℕ) → writing sought (little_number 8 (drop (8 * k) block)) (place s (first + k)).pa ≡ None
    → in_block sought block s first (k + 1) ≡ in_block sought block s first k
passed sought block s first k is =
    more sought block s first k
    ∙ ap (λ (o : Option Writing). in_block sought block s first k ++ option_to_list (option_map (λ v. record { place = place s (first + k); value = little_number 8 (drop (8 * k) block); writing = v }) o)) is
    ∙ append-nil (in_block sought block s first k)

-- by a block that begins with their bytes of the file, they are the file's
pub file_words : (sought : Sought) (count : ℕ) (block bytes : List ℕ) (s : Segment) (first k : ℕ) → take (8 * count) block ≡ take (8 * count) (drop (place s first).off bytes) → k ≤ count
    → in_block sought block s first k ≡ filter_map (found_at sought bytes) (places s first k)
file_words sought count block bytes s first zero same below = refl
file_words sought count block bytes s first (suc k) same below =
    subst (λ (n : ℕ). in_block sought block s first n ≡ filter_map (found_at sought bytes) (places s first n)) (add-one k)
    (let word = same_word count (place s first).off k block bytes same (omega arith) in
    let there : (place s first).off + 8 * k ≡ (place s (first + k)).off = omega arith in
    more sought block s first k
    ∙ ap (λ (l : List FoundWord). l ++ option_to_list (found_by sought (little_number 8 (drop (8 * k) block)) (place s (first + k)))) (file_words sought count block bytes s first k same (omega arith))
    ∙ ap (λ (n : ℕ). filter_map (found_at sought bytes) (places s first k) ++ option_to_list (found_by sought n (place s (first + k)))) word
    ∙ ap (λ (o : ℕ). filter_map (found_at sought bytes) (places s first k) ++ option_to_list (found_by sought (little_number 8 (drop o bytes)) (place s (first + k)))) there
    ∙ sym (one_more (found_at sought bytes) (place s) first k (first + k) refl))

-- the words up to one, and so many from there on
pub joined : (sought : Sought) (bytes : List ℕ) (s : Segment) (first count last : ℕ) → first + count ≡ last
    → filter_map (found_at sought bytes) (places s 0 first) ++ filter_map (found_at sought bytes) (places s first count) ≡ filter_map (found_at sought bytes) (places s 0 last)
joined sought bytes s first zero last is =
    append-nil (filter_map (found_at sought bytes) (places s 0 first)) ∙ ap (λ (n : ℕ). filter_map (found_at sought bytes) (places s 0 n)) (omega (arith, is))
joined sought bytes s first (suc k) last is =
    ap (λ (n : ℕ). filter_map (found_at sought bytes) (places s 0 first) ++ filter_map (found_at sought bytes) (places s first n)) (sym (add-one k))
    ∙ ap (λ (l : List FoundWord). filter_map (found_at sought bytes) (places s 0 first) ++ l) (one_more (found_at sought bytes) (place s) first k (first + k) refl)
    ∙ sym (append_assoc (filter_map (found_at sought bytes) (places s 0 first)) (filter_map (found_at sought bytes) (places s first k)) (option_to_list (found_at sought bytes (place s (first + k)))))
    ∙ ap (λ (l : List FoundWord). l ++ option_to_list (found_at sought bytes (place s (first + k)))) (joined sought bytes s first k (first + k) refl)
    ∙ sym (one_more (found_at sought bytes) (place s) 0 (first + k) (first + k) (omega arith))
    ∙ ap (λ (n : ℕ). filter_map (found_at sought bytes) (places s 0 n)) (omega (arith, is))

-- what is found up to a word, and in a block that begins with it
pub told_more : (content : Option (List ℕ)) (sought : Sought) (block : List ℕ) (s : Segment) (first count last : ℕ) (old now new : List FoundWord) → first + count ≡ last
    → Told content (λ bytes. take (8 * count) block ≡ take (8 * count) (drop (place s first).off bytes))
    → Told content (λ bytes. now ≡ old ++ filter_map (found_at sought bytes) (places s 0 first)) → new ≡ now ++ in_block sought block s first count
    → Told content (λ bytes. new ≡ old ++ filter_map (found_at sought bytes) (places s 0 last))
told_more None sought block s first count last old now new is part found more = tt
told_more (Some bytes) sought block s first count last old now new is part found more =
    more
    ∙ ap (λ (l : List FoundWord). l ++ in_block sought block s first count) found
    ∙ ap (λ (l : List FoundWord). old ++ filter_map (found_at sought bytes) (places s 0 first) ++ l) (file_words sought count block bytes s first count part (omega arith))
    ∙ append_assoc old (filter_map (found_at sought bytes) (places s 0 first)) (filter_map (found_at sought bytes) (places s first count))
    ∙ ap (λ (l : List FoundWord). old ++ l) (joined sought bytes s first count last is)

-- what is found in the segments so far, and in the next
pub told_next : (content : Option (List ℕ)) (sought : Sought) (i : ℕ) (segments : List Segment) (s : Segment) (now new : List FoundWord) → drop i segments ≡ s ∷ drop (i + 1) segments
    → Told content (λ bytes. now ++ in_segments sought bytes (drop i segments) ≡ in_segments sought bytes segments)
    → Told content (λ bytes. new ≡ now ++ in_segment sought bytes s)
    → Told content (λ bytes. new ++ in_segments sought bytes (drop (i + 1) segments) ≡ in_segments sought bytes segments)
unfolding in_segments
told_next None sought i segments s now new left found more = tt
told_next (Some bytes) sought i segments s now new left found more =
    ap (λ (l : List FoundWord). l ++ in_segments sought bytes (drop (i + 1) segments)) more
    ∙ append_assoc now (in_segment sought bytes s) (in_segments sought bytes (drop (i + 1) segments))
    ∙ ap (λ (l : List Segment). now ++ in_segments sought bytes l) (sym left)
    ∙ found

-- and in all of them
pub told_all : (content : Option (List ℕ)) (sought : Sought) (i : ℕ) (segments : List Segment) (now : List FoundWord) → length segments ≤ i
    → Told content (λ bytes. now ++ in_segments sought bytes (drop i segments) ≡ in_segments sought bytes segments)
    → Told content (λ bytes. now ≡ in_segments sought bytes segments)
unfolding in_segments
told_all None sought i segments now all found = tt
told_all (Some bytes) sought i segments now all found =
    sym (append-nil now) ∙ ap (λ (l : List Segment). now ++ in_segments sought bytes l) (sym (drop_all i segments all)) ∙ found

-- before any of them
pub told_none : (content : Option (List ℕ)) (sought : Sought) (segments : List Segment) (now : List FoundWord) → now ≡ []
    → Told content (λ bytes. now ++ in_segments sought bytes segments ≡ in_segments sought bytes segments)
told_none None sought segments now none = tt
told_none (Some bytes) sought segments now none = ap (λ (l : List FoundWord). l ++ in_segments sought bytes segments) none

-- the words up to one, and so many from there on, of a block that begins with them
pub group_more : (sought : Sought) (block : List ℕ) (s : Segment) (first k n last : ℕ) → k + n ≡ last
    → in_block sought block s first k ++ in_block sought (drop (8 * k) block) s (first + k) n ≡ in_block sought block s first last
group_more sought block s first k zero last is =
    append-nil (in_block sought block s first k) ∙ ap (in_block sought block s first) (omega (arith, is))
group_more sought block s first k (suc n) last is =
    let there : 8 * k + 8 * n ≡ 8 * (k + n) = omega arith in
    let at : first + k + n ≡ first + (k + n) = omega arith in
    ap (λ (m : ℕ). in_block sought block s first k ++ in_block sought (drop (8 * k) block) s (first + k) m) (sym (add-one n))
    ∙ ap (λ (l : List FoundWord). in_block sought block s first k ++ l) (more sought (drop (8 * k) block) s (first + k) n)
    ∙ sym (append_assoc (in_block sought block s first k) (in_block sought (drop (8 * k) block) s (first + k) n) (option_to_list (found_by sought (little_number 8 (drop (8 * n) (drop (8 * k) block))) (place s (first + k + n)))))
    ∙ ap (λ (l : List FoundWord). l ++ option_to_list (found_by sought (little_number 8 (drop (8 * n) (drop (8 * k) block))) (place s (first + k + n)))) (group_more sought block s first k n (k + n) refl)
    ∙ ap (λ (l : List ℕ). in_block sought block s first (k + n) ++ option_to_list (found_by sought (little_number 8 l) (place s (first + k + n)))) (drop-drop (8 * n) (8 * k) block ∙ ap (λ (m : ℕ). drop m block) there)
    ∙ ap (λ (m : ℕ). in_block sought block s first (k + n) ++ option_to_list (found_by sought (little_number 8 (drop (8 * (k + n)) block)) (place s m))) at
    ∙ sym (more sought block s first (k + n))
    ∙ ap (in_block sought block s first) (omega (arith, is))

whole : (bytes : List ℕ) (i : ℕ) → take (length bytes - i) (drop i bytes) ≡ drop i bytes
whole bytes i = take_all (length bytes - i) (drop i bytes) (omega (arith, length-drop i bytes))

pub group_next : (sought : Sought) (block : List ℕ) (s : Segment) (first k n : ℕ) (old now new : List FoundWord) → now ≡ old ++ in_block sought block s first k
    → new ≡ now ++ in_block sought (take (length block - 8 * k) (drop (8 * k) block)) s (first + k) n → new ≡ old ++ in_block sought block s first (k + n)
group_next sought block s first k n old now new before found =
    found
    ∙ ap (λ (l : List ℕ). now ++ in_block sought l s (first + k) n) (whole block (8 * k))
    ∙ ap (λ (l : List FoundWord). l ++ in_block sought (drop (8 * k) block) s (first + k) n) before
    ∙ append_assoc old (in_block sought block s first k) (in_block sought (drop (8 * k) block) s (first + k) n)
    ∙ ap (λ (l : List FoundWord). old ++ l) (group_more sought block s first k n (k + n) refl)

-- none is found among words near the direct map's beginning that don't hold the value
pub none_in : (sought : Sought) (words : List ℕ) (s : Segment) (first n : ℕ) → is_near sought.direct (s.paddr + s.filesz) ≡ true → first + n ≤ word_count s → NoneHolds sought words n
    → in_block sought words s first n ≡ []
none_in sought words s first zero near below none = refl
none_in sought words s first (suc n) near below none =
    let inside : (place s (first + n)).pa < s.paddr + s.filesz = omega (arith, below) in
    ap (in_block sought words s first) (sym (add-one n))
    ∙ passed sought words s first n (none n (place s (first + n)).pa (omega arith) (nearer sought.direct (place s (first + n)).pa (s.paddr + s.filesz) near inside))
    ∙ none_in sought words s first n near (omega (arith, below)) (λ k pa lt close. none k pa (omega (arith, lt)) close)
