-- How far both sinks are where a search stops.
use Rattle.std.proofs.Common.{◌≡◌, ℕ, zero, suc, [], ◌∷◌, ◌++◌, ◌+◌, ◌-◌, ◌≤◌, ◌<◌, min, List, length, take, get_or, Option, Some, None, Err, append-nil, refl, sym, ap, subst, ◌∙◌, arith}
use Rattle.std.specs.Option.{ForSome}
use Rattle.std.proofs.Math.Seq.{take-append-add, take-append_seam, take-length}
use Rattle.std.proofs.lemmas.List.{append_assoc, length-append}
use Rattle.kc_word.specs.declared.plain.Segment.{Segment}
use Rattle.kc_outside.specs.Texts.{with_piece}
use Rattle.kc_text.specs.Compose.{texts}
use Rattle.kc_sight.specs.declared.refs.place.FoundWord.{FoundWord}
use Rattle.kc_sight.specs.Refs.Holding.{in_segment, in_segments, word_count}
use Rattle.kc_sight.specs.Refs.Stops.{Told}
use Rattle.kc_sight.specs.Refs.Writings.{Sought}
use Rattle.kc_command.specs.Ends.Ends.{TookPrefix}
use Rattle.kc_owner.specs.declared.object.keys.CacheKey.{CacheKey}
use Rattle.kc_refs.specs.declared.stop.RefsStop.{RefsStop}
use Rattle.kc_refs.specs.declared.stop.RefsStop.TheVariants.{Store, Memory, Sink, Progress}
use Rattle.kc_refs.specs.Lines.{found_lines}
use Rattle.kc_refs.specs.Pace.{InPace, TookBetween, found_until}
use Rattle.kc_refs.specs.Parts.{words_from}
use Rattle.kc_refs.specs.Progress.{TookUntil, lines_to, words_in}
use Rattle.kc_refs.specs.Put.{Wrote}
use Rattle.kc_refs.specs.Says.{Says}
use Rattle.kc_refs.proofs.PartLemmas.{next_segments, no_segments}
use Rattle.kc_refs.proofs.ProgressLemmas.{said_joined}
use Rattle.kc_refs.proofs.PutLemmas.{texts_joined, with_two}

-- ---- what one sink took

all_between : (old new : Option (List ℕ)) (text : List ℕ) → new ≡ with_piece old text → TookBetween old new text text
all_between old new text is = record { count = length text; enough = omega arith; within = omega arith; took = is ∙ ap (with_piece old) (sym (take-length text)) }

after_between : (old mid new : Option (List ℕ)) (one two : List ℕ) → mid ≡ with_piece old one → TookPrefix mid new two → TookBetween old new one (one ++ two)
after_between old mid new one two is took = record {
  count = length one + took.count;
  enough = omega arith;
  within = omega (arith, took.within, length-append one two);
  took = took.took
      ∙ ap (λ (t : Option (List ℕ)). with_piece t (take took.count two)) is
      ∙ with_two old one (take took.count two)
      ∙ ap (with_piece old) (sym (take-append-add one two took.count));
}

further_between : (old mid new : Option (List ℕ)) (one least most : List ℕ) → mid ≡ with_piece old one → TookBetween mid new least most → TookBetween old new (one ++ least) (one ++ most)
further_between old mid new one least most is took = record {
  count = length one + took.count;
  enough = omega (arith, took.enough, length-append one least);
  within = omega (arith, took.within, length-append one most);
  took = took.took
      ∙ ap (λ (t : Option (List ℕ)). with_piece t (take took.count most)) is
      ∙ with_two old one (take took.count most)
      ∙ ap (with_piece old) (sym (take-append-add one most took.count));
}

between_as : (old new : Option (List ℕ)) (a b least most : List ℕ) → a ≡ least → b ≡ most → TookBetween old new a b → TookBetween old new least most
between_as old new a b least most first second took = subst (λ (l : List ℕ). TookBetween old new l most) first (subst (TookBetween old new a) second took)

-- ---- what is said before it stops is a first part

whole_front : (old new : Option (List ℕ)) (one two : List ℕ) → new ≡ with_piece old one → TookPrefix old new (one ++ two)
whole_front old new one two is = record { count = length one; within = omega (arith, length-append one two); took = is ∙ ap (with_piece old) (sym (take-append_seam one two)) }

until_prefix : (goal : Option ℕ) (from to : ℕ) (old new : Option (List ℕ)) → TookUntil goal from to old new → TookPrefix old new (lines_to goal from to)
until_prefix goal from to old new took =
    subst (TookPrefix old new) (sym (said_joined goal from took.at to took.after took.within)) (whole_front old new (lines_to goal from took.at) (lines_to goal took.at to) took.took)

pub says_prefix : (A : Type 0) (e : RefsStop) (goal : Option ℕ) (from to : ℕ) (old new : Option (List ℕ)) → Says {A = A} goal from to (Err e) old new → TookPrefix old new (lines_to goal from to)
says_prefix A Store goal from to old new said = until_prefix goal from to old new said
says_prefix A Memory goal from to old new said = until_prefix goal from to old new said
says_prefix A Sink goal from to old new said = until_prefix goal from to old new said
says_prefix A Progress goal from to old new said = said

-- ---- both sinks

-- in a part
pub pace_part : (content : Option (List ℕ)) (keys : List CacheKey) (found : List ℕ → ℕ → List FoundWord) (more : List ℕ → List FoundWord) (said : ℕ → List ℕ) (line : List ℕ) (at next words n : ℕ)
    (out_old out_mid out_new err_old err_mid err_new : Option (List ℕ))
    → at ≤ next → next ≤ at + 32768 → next ≤ words → ((bytes : List ℕ) → found bytes next ≡ found bytes at ++ more bytes) → said next ≡ said at ++ line
    → Told content (λ bytes. Wrote keys (found bytes at) out_old out_mid n) → Told content (λ bytes. TookPrefix out_mid out_new (texts (found_lines keys) (more bytes)))
    → err_mid ≡ with_piece err_old (said at) → TookPrefix err_mid err_new line
    → Told content (λ bytes. InPace (λ k. texts (found_lines keys) (found bytes k)) said words out_old out_new err_old err_new)
pace_part None keys found more said line at next words n out_old out_mid out_new err_old err_mid err_new order near within joined lines wrote took before told = tt
pace_part (Some bytes) keys found more said line at next words n out_old out_mid out_new err_old err_mid err_new order near within joined lines wrote took before told = record {
  at = at;
  next = next;
  order = order;
  near = near;
  within = within;
  out = subst (TookBetween out_old out_new (texts (found_lines keys) (found bytes at)))
      (sym (ap (texts (found_lines keys)) (joined bytes) ∙ texts_joined (found_lines keys) (found bytes at) (more bytes)))
      (after_between out_old out_mid out_new (texts (found_lines keys) (found bytes at)) (texts (found_lines keys) (more bytes)) wrote.took took);
  err = subst (TookBetween err_old err_new (said at)) (sym lines) (after_between err_old err_mid err_new (said at) line before told);
}

-- after a part
pub pace_whole : (content : Option (List ℕ)) (keys : List CacheKey) (found : List ℕ → ℕ → List FoundWord) (said : ℕ → List ℕ) (at words n : ℕ) (out_old out_new err_old err_new : Option (List ℕ))
    → at ≤ words → Told content (λ bytes. Wrote keys (found bytes at) out_old out_new n) → err_new ≡ with_piece err_old (said at)
    → Told content (λ bytes. InPace (λ k. texts (found_lines keys) (found bytes k)) said words out_old out_new err_old err_new)
pace_whole None keys found said at words n out_old out_new err_old err_new within wrote told = tt
pace_whole (Some bytes) keys found said at words n out_old out_new err_old err_new within wrote told = record {
  at = at;
  next = at;
  order = omega arith;
  near = omega arith;
  within = within;
  out = all_between out_old out_new (texts (found_lines keys) (found bytes at)) wrote.took;
  err = all_between err_old err_new (said at) told;
}

-- in a segment after others
found_text : (keys : List CacheKey) (all before more : List FoundWord) → all ≡ before ++ more → texts (found_lines keys) before ++ texts (found_lines keys) more ≡ texts (found_lines keys) all
found_text keys all before more is = sym (ap (texts (found_lines keys)) is ∙ texts_joined (found_lines keys) before more)

pub pace_further : (content : Option (List ℕ)) (keys : List CacheKey) (before : List ℕ → List FoundWord) (own found : List ℕ → ℕ → List FoundWord) (lines : List ℕ) (own_said said : ℕ → List ℕ) (first count words n : ℕ)
    (out_old out_mid out_new err_old err_mid err_new : Option (List ℕ))
    → first + count ≤ words → ((bytes : List ℕ) (k : ℕ) → k ≤ count → found bytes (first + k) ≡ before bytes ++ own bytes k) → ((k : ℕ) → said (first + k) ≡ lines ++ own_said k)
    → Told content (λ bytes. Wrote keys (before bytes) out_old out_mid n) → err_mid ≡ with_piece err_old lines
    → Told content (λ bytes. InPace (λ k. texts (found_lines keys) (own bytes k)) own_said count out_mid out_new err_mid err_new)
    → Told content (λ bytes. InPace (λ k. texts (found_lines keys) (found bytes k)) said words out_old out_new err_old err_new)
pace_further None keys before own found lines own_said said first count words n out_old out_mid out_new err_old err_mid err_new within joined told wrote took pace = tt
pace_further (Some bytes) keys before own found lines own_said said first count words n out_old out_mid out_new err_old err_mid err_new within joined told wrote took pace =
    let here : pace.at ≤ count = omega (arith, pace.order, pace.within) in
    record {
      at = first + pace.at;
      next = first + pace.next;
      order = omega (arith, pace.order);
      near = omega (arith, pace.near);
      within = omega (arith, pace.within, within);
      out = between_as out_old out_new (texts (found_lines keys) (before bytes) ++ texts (found_lines keys) (own bytes pace.at)) (texts (found_lines keys) (before bytes) ++ texts (found_lines keys) (own bytes pace.next))
          (texts (found_lines keys) (found bytes (first + pace.at))) (texts (found_lines keys) (found bytes (first + pace.next)))
          (found_text keys (found bytes (first + pace.at)) (before bytes) (own bytes pace.at) (joined bytes pace.at here))
          (found_text keys (found bytes (first + pace.next)) (before bytes) (own bytes pace.next) (joined bytes pace.next pace.within))
          (further_between out_old out_mid out_new (texts (found_lines keys) (before bytes)) (texts (found_lines keys) (own bytes pace.at)) (texts (found_lines keys) (own bytes pace.next)) wrote.took pace.out);
      err = between_as err_old err_new (lines ++ own_said pace.at) (lines ++ own_said pace.next) (said (first + pace.at)) (said (first + pace.next)) (sym (told pace.at)) (sym (told pace.next))
          (further_between err_old err_mid err_new lines (own_said pace.at) (own_said pace.next) took pace.err);
    }

-- ---- the words of segments up to one

pub found_none : (sought : Sought) (bytes : List ℕ) (segments : List Segment) → found_until sought bytes segments 0 ≡ []
found_none sought bytes [] = refl
found_none sought bytes (s ∷ others) =
    let least : min 0 (word_count s) ≡ 0 = omega arith in
    let rest : 0 - word_count s ≡ 0 = omega arith in
    ap (λ (k : ℕ). words_from sought bytes s 0 k ++ found_until sought bytes others (0 - word_count s)) least
    ∙ ap (found_until sought bytes others) rest ∙ found_none sought bytes others

found_first : (sought : Sought) (bytes : List ℕ) (s : Segment) (others : List Segment) (k : ℕ) → k ≤ word_count s → found_until sought bytes (s ∷ others) k ≡ words_from sought bytes s 0 k
found_first sought bytes s others k within =
    let least : min k (word_count s) ≡ k = omega (arith, within) in
    let rest : k - word_count s ≡ 0 = omega (arith, within) in
    ap (λ (n : ℕ). words_from sought bytes s 0 n ++ found_until sought bytes others (k - word_count s)) least
    ∙ ap (λ (n : ℕ). words_from sought bytes s 0 k ++ found_until sought bytes others n) rest
    ∙ ap (λ (l : List FoundWord). words_from sought bytes s 0 k ++ l) (found_none sought bytes others)
    ∙ append-nil (words_from sought bytes s 0 k)

found_after : (sought : Sought) (bytes : List ℕ) (s : Segment) (others : List Segment) (k : ℕ)
    → found_until sought bytes (s ∷ others) (word_count s + k) ≡ in_segment sought bytes s ++ found_until sought bytes others k
found_after sought bytes s others k =
    let least : min (word_count s + k) (word_count s) ≡ word_count s = omega arith in
    let rest : (word_count s + k) - word_count s ≡ k = omega arith in
    ap (λ (n : ℕ). words_from sought bytes s 0 n ++ found_until sought bytes others ((word_count s + k) - word_count s)) least
    ∙ ap (λ (n : ℕ). in_segment sought bytes s ++ found_until sought bytes others n) rest

sum_of : (a b c : ℕ) → a + b + c ≡ a + (b + c)
sum_of a b c = omega arith

pub found_on : (sought : Sought) (bytes : List ℕ) (segments : List Segment) (i : ℕ) (d : Segment) (k : ℕ) → i < length segments → k ≤ word_count (get_or segments i d)
    → found_until sought bytes segments (words_in (take i segments) + k) ≡ in_segments sought bytes (take i segments) ++ words_from sought bytes (get_or segments i d) 0 k
found_on sought bytes [] i d k below within = absurd (let none : ⊥ = omega (arith, below) in none)
found_on sought bytes (s ∷ others) zero d k below within =
    let start : 0 + k ≡ k = omega arith in
    ap (found_until sought bytes (s ∷ others)) start
    ∙ found_first sought bytes s others k within ∙ ap (λ (l : List FoundWord). l ++ words_from sought bytes s 0 k) (sym (no_segments sought bytes))
found_on sought bytes (s ∷ others) (suc i) d k below within =
    let before = words_in (take i others) in
    let own = words_from sought bytes (get_or others i d) 0 k in
    ap (found_until sought bytes (s ∷ others)) (sum_of (word_count s) before k)
    ∙ found_after sought bytes s others (before + k)
    ∙ ap (λ (l : List FoundWord). in_segment sought bytes s ++ l) (found_on sought bytes others i d k (omega (arith, below)) within)
    ∙ sym (append_assoc (in_segment sought bytes s) (in_segments sought bytes (take i others)) own)
    ∙ ap (λ (l : List FoundWord). l ++ own) (sym (next_segments sought bytes s (take i others)))

pub found_whole : (sought : Sought) (bytes : List ℕ) (segments : List Segment) (i : ℕ) (d : Segment) → i < length segments
    → found_until sought bytes segments (words_in (take i segments) + word_count (get_or segments i d)) ≡ in_segments sought bytes (take i segments) ++ in_segment sought bytes (get_or segments i d)
found_whole sought bytes segments i d below = found_on sought bytes segments i d (word_count (get_or segments i d)) below (omega arith)

-- what is said of a segment is the same by the words that are counted before it, where it's told
pub lines_on : (goal own : Option ℕ) (read first k : ℕ) → own ≡ goal → ForSome goal (λ _. read ≡ first) → lines_to goal 0 (first + k) ≡ lines_to goal 0 first ++ lines_to own read (read + k)
lines_on None own read first k aim at = rw aim refl
lines_on (Some all) own read first k aim at =
    let here : read ≡ first = at all refl in
    rw (aim, here) (said_joined (Some all) 0 first (first + k) (omega arith) (omega arith))
