-- What is said of a search, from one word to another and on.
use Rattle.std.proofs.Common.{◌≡◌, ℕ, Bool, true, false, zero, suc, [], ◌∷◌, ◌++◌, ◌+◌, ◌-◌, ◌/◌, ◌≤◌, ◌<◌, List, length, take, get_or, Option, Some, None, Result, Ok, Err, append-nil, refl, sym, ap, subst, ◌∙◌, arith}
use Rattle.std.specs.Option.{ForSome}
use Rattle.std.proofs.Math.Seq.{take-append-add}
use Rattle.std.proofs.lemmas.List.{append_assoc, length-append, take-append-le}
use Rattle.kc_word.specs.declared.plain.Segment.{Segment}
use Rattle.kc_outside.specs.Texts.{with_piece}
use Rattle.kc_sight.specs.Refs.Holding.{word_count}
use Rattle.kc_command.specs.Ends.Ends.{TookPrefix}
use Rattle.kc_refs.specs.declared.stop.RefsStop.{RefsStop}
use Rattle.kc_refs.specs.declared.stop.RefsStop.TheVariants.{Store, Memory, Sink, Progress}
use Rattle.kc_refs.specs.Progress.{TookUntil, gigabyte, goal_of, lines_to, read_line, read_lines, words_in}
use Rattle.kc_refs.specs.Says.{IsOther, Says, SaysLine}
use Rattle.kc_refs.proofs.PutLemmas.{with_none, with_two}

-- a first part of a text after another
prefix_after : (old mid new : Option (List ℕ)) (one two : List ℕ) → mid ≡ with_piece old one → TookPrefix mid new two → TookPrefix old new (one ++ two)
prefix_after old mid new one two is took = record {
  count = length one + took.count;
  within = omega (arith, took.within, length-append one two);
  took = took.took
      ∙ ap (λ (t : Option (List ℕ)). with_piece t (take took.count two)) is
      ∙ with_two old one (take took.count two)
      ∙ ap (with_piece old) (sym (take-append-add one two took.count));
}

prefix_longer : (old new : Option (List ℕ)) (text rest : List ℕ) → TookPrefix old new text → TookPrefix old new (text ++ rest)
prefix_longer old new text rest took = record {
  count = took.count;
  within = omega (arith, took.within, length-append text rest);
  took = took.took ∙ ap (with_piece old) (sym (take-append-le took.count text rest took.within));
}

-- the lines at some gigabytes, and at more
lines_joined : (all first n m : ℕ) → read_lines all first (n + m) ≡ read_lines all first n ++ read_lines all (first + n) m
lines_joined all first zero m =
    let none : 0 + m ≡ m = omega arith in
    let same : first + 0 ≡ first = omega arith in
    rw (none, same) refl
lines_joined all first (suc n) m =
    let more : suc n + m ≡ suc (n + m) = omega arith in
    let later : first + suc n ≡ first + 1 + n = omega arith in
    rw (more, later)
    (ap (λ (t : List ℕ). read_line all (first + 1) ++ t) (lines_joined all (first + 1) n m)
    ∙ sym (append_assoc (read_line all (first + 1)) (read_lines all (first + 1) n) (read_lines all (first + 1 + n) m)))

full_later : (a b : ℕ) → a ≤ b → a / gigabyte ≤ b / gigabyte
full_later a b later = omega (arith, later)

-- what is said up to a word, and from there on
pub said_joined : (goal : Option ℕ) (from mid to : ℕ) → from ≤ mid → mid ≤ to → lines_to goal from to ≡ lines_to goal from mid ++ lines_to goal mid to
said_joined None from mid to first rest = refl
said_joined (Some all) from mid to first rest =
    let one = full_later from mid first in
    let two = full_later mid to rest in
    let n = mid / gigabyte - from / gigabyte in
    let m = to / gigabyte - mid / gigabyte in
    let all_of : to / gigabyte - from / gigabyte ≡ n + m = omega (arith, one, two) in
    let there : from / gigabyte + n ≡ mid / gigabyte = omega (arith, one) in
    ap (read_lines all (from / gigabyte)) all_of
    ∙ lines_joined all (from / gigabyte) n m
    ∙ ap (λ (k : ℕ). read_lines all (from / gigabyte) n ++ read_lines all k m) there

-- nothing is said up to the word that it begins with
said_none : (goal : Option ℕ) (at : ℕ) → lines_to goal at at ≡ []
said_none None at = refl
said_none (Some all) at = let none : at / gigabyte - at / gigabyte ≡ 0 = omega arith in ap (read_lines all (at / gigabyte)) none

pub says_begin : (goal : Option ℕ) (at : ℕ) (old : Option (List ℕ)) → old ≡ with_piece old (lines_to goal at at)
says_begin goal at old = with_none old ∙ ap (with_piece old) (sym (said_none goal at))

-- a search that says no more
pub took_begin : (goal : Option ℕ) (from to : ℕ) (old : Option (List ℕ)) → from ≤ to → TookUntil goal from to old old
took_begin goal from to old later = record { at = from; after = omega arith; within = later; took = says_begin goal from old }

pub took_end : (goal : Option ℕ) (from to : ℕ) (old new : Option (List ℕ)) → from ≤ to → new ≡ with_piece old (lines_to goal from to) → TookUntil goal from to old new
took_end goal from to old new later took = record { at = to; after = later; within = omega arith; took = took }

-- ---- from one word on

pub says_more : (goal : Option ℕ) (from mid to : ℕ) (old now new : Option (List ℕ)) → from ≤ mid → mid ≤ to
    → now ≡ with_piece old (lines_to goal from mid) → new ≡ with_piece now (lines_to goal mid to) → new ≡ with_piece old (lines_to goal from to)
says_more goal from mid to old now new first rest before after =
    after ∙ ap (λ (t : Option (List ℕ)). with_piece t (lines_to goal mid to)) before ∙ with_two old (lines_to goal from mid) (lines_to goal mid to)
    ∙ ap (with_piece old) (sym (said_joined goal from mid to first rest))

until_after : (goal : Option ℕ) (from mid next to : ℕ) (old now new : Option (List ℕ)) → from ≤ mid → next ≤ to
    → now ≡ with_piece old (lines_to goal from mid) → TookUntil goal mid next now new → TookUntil goal from to old new
until_after goal from mid next to old now new first rest before took = record {
  at = took.at;
  after = omega (arith, first, took.after);
  within = omega (arith, rest, took.within);
  took = says_more goal from mid took.at old now new first took.after before took.took;
}

part_after : (goal : Option ℕ) (from mid next to : ℕ) (old now new : Option (List ℕ)) → from ≤ mid → mid ≤ next → next ≤ to
    → now ≡ with_piece old (lines_to goal from mid) → TookPrefix now new (lines_to goal mid next) → TookPrefix old new (lines_to goal from to)
part_after goal from mid next to old now new first then rest before took =
    subst (TookPrefix old new) (sym (said_joined goal from next to (omega (arith, first, then)) rest))
    (prefix_longer old new (lines_to goal from next) (lines_to goal next to)
    (subst (TookPrefix old new) (sym (said_joined goal from mid next first then)) (prefix_after old now new (lines_to goal from mid) (lines_to goal mid next) before took)))

pub says_after : (A B : Type 0) (e : RefsStop) (goal : Option ℕ) (from mid next to : ℕ) (old now new : Option (List ℕ)) → from ≤ mid → mid ≤ next → next ≤ to
    → now ≡ with_piece old (lines_to goal from mid) → Says {A = A} goal mid next (Err e) now new → Says {A = B} goal from to (Err e) old new
says_after A B Store goal from mid next to old now new first then rest before said = until_after goal from mid next to old now new first rest before said
says_after A B Memory goal from mid next to old now new first then rest before said = until_after goal from mid next to old now new first rest before said
says_after A B Sink goal from mid next to old now new first then rest before said = until_after goal from mid next to old now new first rest before said
says_after A B Progress goal from mid next to old now new first then rest before said = part_after goal from mid next to old now new first then rest before said

-- one line
one_line : (all n : ℕ) → read_lines all n 1 ≡ read_line all (n + 1)
one_line all n = append-nil (read_line all (n + 1))

line_is : (all from to full : ℕ) → full ≡ to / gigabyte → from / gigabyte + 1 ≡ full → read_line all full ≡ lines_to (Some all) from to
line_is all from to full is one =
    let count : 1 ≡ to / gigabyte - from / gigabyte = omega (arith, is, one) in
    ap (read_line all) (sym one) ∙ sym (one_line all (from / gigabyte)) ∙ ap (read_lines all (from / gigabyte)) count

pub line_said : {A : Type 0} (r : Result A RefsStop) (all from to full : ℕ) (old new : Option (List ℕ)) → from ≤ to → full ≡ to / gigabyte → from / gigabyte + 1 ≡ full
    → SaysLine (read_line all full) r old new → Says (Some all) from to r old new
line_said (Ok a) all from to full old new later is one said = said ∙ ap (with_piece old) (line_is all from to full is one)
line_said (Err Store) all from to full old new later is one said = subst (TookUntil (Some all) from to old) (sym said) (took_begin (Some all) from to old later)
line_said (Err Memory) all from to full old new later is one said = subst (TookUntil (Some all) from to old) (sym said) (took_begin (Some all) from to old later)
line_said (Err Sink) all from to full old new later is one said = subst (TookUntil (Some all) from to old) (sym said) (took_begin (Some all) from to old later)
line_said (Err Progress) all from to full old new later is one said = subst (TookPrefix old new) (line_is all from to full is one) said

-- ---- where it fails for another cause

pub says_nothing : (A : Type 0) (e : RefsStop) (goal : Option ℕ) (from to : ℕ) (old : Option (List ℕ)) → from ≤ to → IsOther {A = A} (Err e) → Says {A = A} goal from to (Err e) old old
says_nothing A Store goal from to old later other = took_begin goal from to old later
says_nothing A Memory goal from to old later other = took_begin goal from to old later
says_nothing A Sink goal from to old later other = took_begin goal from to old later
says_nothing A Progress goal from to old later other = absurd other

-- what is said is the same by the words that it is counted by, where that is told
pub says_as : {A : Type 0} (r : Result A RefsStop) (goal : Option ℕ) (a b from to : ℕ) (old new : Option (List ℕ)) → ForSome goal (λ _. (a ≡ from) × (b ≡ to)) → from ≤ to
    → Says goal a b r old new → Says goal from to r old new
says_as r (Some all) a b from to old new same later said =
    subst (λ (k : ℕ). Says (Some all) k to r old new) (same all refl).0 (subst (λ (k : ℕ). Says (Some all) a k r old new) (same all refl).1 said)
says_as (Ok x) None a b from to old new same later said = said
says_as (Err Store) None a b from to old new same later said = record { at = from; after = omega arith; within = later; took = said.took }
says_as (Err Memory) None a b from to old new same later said = record { at = from; after = omega arith; within = later; took = said.took }
says_as (Err Sink) None a b from to old new same later said = record { at = from; after = omega arith; within = later; took = said.took }
says_as (Err Progress) None a b from to old new same later said = said

-- ---- the words of segments

sum_of : (a b c : ℕ) → a + (b + c) ≡ a + b + c
sum_of a b c = omega arith

pub words_next : (segments : List Segment) (i : ℕ) (d : Segment) → i < length segments → words_in (take (i + 1) segments) ≡ words_in (take i segments) + word_count (get_or segments i d)
words_next [] i d below = absurd (let none : ⊥ = omega (arith, below) in none)
words_next (s ∷ others) zero d below = omega arith
words_next (s ∷ others) (suc i) d below =
    let rest : words_in (take (i + 1) others) ≡ words_in (take i others) + word_count (get_or others i d) = words_next others i d (omega (arith, below)) in
    let more : suc i + 1 ≡ suc (i + 1) = omega arith in
    rw more
    (ap (λ (n : ℕ). word_count s + n) rest ∙ sum_of (word_count s) (words_in (take i others)) (word_count (get_or others i d)))

pub words_within : (segments : List Segment) (i : ℕ) → words_in (take i segments) ≤ words_in segments
words_within [] zero = omega arith
words_within [] (suc i) = omega arith
words_within (s ∷ others) zero = omega arith
words_within (s ∷ others) (suc i) = let rest = words_within others i in omega (arith, rest)

pub words_all : (segments : List Segment) (i : ℕ) (d : Segment) → i < length segments → words_in (take i segments) + word_count (get_or segments i d) ≤ words_in segments
words_all segments i d below = let next = words_next segments i d below in let within = words_within segments (i + 1) in omega (arith, next, within)

-- ---- a step of a search, by its own count of the words before it

pub says_step : {A : Type 0} (r : Result A RefsStop) (own goal : Option ℕ) (read words mid next : ℕ) (now new : Option (List ℕ)) → own ≡ goal → ForSome goal (λ _. read ≡ mid) → next ≡ mid + words
    → Says own read (read + words) r now new → Says goal mid next r now new
says_step r own goal read words mid next now new aim at is said =
    says_as r goal read (read + words) mid next now new (λ n there. let here : read ≡ mid = at n there in (here, omega (arith, here, is))) (omega (arith, is))
    (subst (λ (g : Option ℕ). Says g read (read + words) r now new) aim said)

pub took_at : (goal : Option ℕ) (from mid to : ℕ) (old new : Option (List ℕ)) → from ≤ mid → mid ≤ to → new ≡ with_piece old (lines_to goal from mid) → TookUntil goal from to old new
took_at goal from mid to old new first rest took = record { at = mid; after = first; within = rest; took = took }

pub none_wanted : (progress : Bool) (segments : List Segment) → progress ≡ false → goal_of progress segments ≡ None
none_wanted false segments is = refl
none_wanted true segments is = absurd (let none : ⊥ = cc in none)
