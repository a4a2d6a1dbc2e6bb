-- The laws of texts that stand before or after others, of tables of texts, and of lines to the end.
use Rattle.std.proofs.Common.{◌≡◌, ℕ, zero, suc, ◌+◌, ◌-◌, ◌<◌, ◌≤◌, ◌⊎◌, true, false, List, [], ◌∷◌, ◌++◌, length, take, Option, Some, None, Result, Ok, Err, All, refl, sym, ap, ◌∙◌, subst, inl, inr, ⊎_elim, arith, append_assoc}
use Rattle.std.proofs.Math.Seq.{take-append-add, take-append_seam}
use Rattle.std.proofs.lemmas.List.{append-nil, length-append}
use Rattle.std.proofs.lemmas.List.Elements.{All-nil, All-cons, All-head, All-tail}
use Rattle.std.proofs.lemmas.Bool.{cases_lt, cond_both, true≢false}
use Rattle.kc_text.specs.Format.{Format, Anything, Nothing, Begins, NoMore, Stops, IsRead, IsFormat, IsWhole, IsPlace}
use Rattle.kc_text.specs.Reading.{and_then, shorter, or_else}
use Rattle.kc_text.specs.Readers.{read_literal, literal, read_one_of, IsAmong, one_of}
use Rattle.kc_text.specs.Compose.{EndsAt, Goes, both, mapped, after, ends, followed, texts, read_lines, lines}
use Rattle.kc_text.proofs.FormatLaws.{ok_is, err_is, ok_not_err, cut, none_further, shorter_first, shorter_other, both-law, mapped-law}
use Rattle.kc_text.proofs.ReaderLaws.{literal-law, literal-takes}

-- a format may be read in another way that finds the same
module _ {X : Type 0} (After : List ℕ → Type 0) (f : Format X) (read : List ℕ → Result (X × List ℕ) (List ℕ)) (same : (bytes : List ℕ) → read bytes ≡ f.read bytes) (F : IsRead After f) where
  abbrev pub reread : Format X
  reread = record { Good = f.Good; spell = f.spell; read = read }

  reread-none : (front rest : List ℕ) → NoMore After f front rest → NoMore After reread front rest
  reread-none front [] none = tt
  reread-none front (c ∷ cs) none = none

  reread-stops : (bytes rest : List ℕ) → read bytes ≡ Err rest → Stops After reread bytes rest
  reread-stops bytes rest is =
      let s = F.stops bytes rest (sym (same bytes) ∙ is) in
      record { front = s.front; parts = s.parts; begins = s.begins; none = reread-none s.front rest s.none }

  pub reread-law : IsRead After reread
  reread-law = record {
    again = λ x rest good after. same (f.spell x ++ rest) ∙ F.again x rest good after;
    takes = λ bytes rest x is. F.takes bytes rest x (sym (same bytes) ∙ is);
    stops = reread-stops;
  }

-- a text that always stands before a value's
module _ {X : Type 0} (After : List ℕ → Type 0) (text : List ℕ) (f : Format X) (F : IsRead After f) (some : (x : X) × f.Good x) where
  after-pair : Format (Unit {0} × X)
  after-pair = both (literal text) (λ _. f)

  after-pair-law : IsRead After after-pair
  unfolding after-pair
  after-pair-law = both-law After (literal text) (λ _. f) (literal-law text) (λ u good. F) (λ u good. some)

  after-mapped : Format X
  after-mapped = mapped (λ p. p.1) f.Good (λ x. text ++ f.spell x) after-pair

  after-mapped-law : IsRead After after-mapped
  unfolding after-mapped after-pair
  after-mapped-law = mapped-law (λ p. p.1) f.Good (λ x. text ++ f.spell x) After after-pair after-pair-law (λ p good. (good.1, refl)) (λ x good. ((tt, x), (tt, good), refl))

  second-same : (s : Result (X × List ℕ) (List ℕ)) → s ≡ and_then (and_then {B = (Unit {0} × X) × List ℕ} s (λ s. Ok ((tt, s.0), s.1))) (λ r. Ok (r.0.1, r.1))
  second-same (Ok t) = refl
  second-same (Err e) = refl

  first-same : (r : Result (Unit {0} × List ℕ) (List ℕ)) → and_then {B = X × List ℕ} r (λ r. f.read r.1)
      ≡ and_then (and_then {B = (Unit {0} × X) × List ℕ} r (λ r. and_then (f.read r.1) (λ s. Ok ((r.0, s.0), s.1)))) (λ r. Ok (r.0.1, r.1))
  first-same (Ok t) = second-same (f.read t.1)
  first-same (Err e) = refl

  pub after-law : IsRead After (after text f)
  unfolding after-mapped after-pair
  after-law = reread-law After after-mapped (λ bytes. and_then (read_literal text bytes) (λ r. f.read r.1)) (λ bytes. first-same (read_literal text bytes)) after-mapped-law

-- a text that always stands after a value's
module _ {X : Type 0} (f : Format X) (text : List ℕ) (F : IsFormat f) where
  followed-pair : Format (X × Unit {0})
  followed-pair = both f (λ _. literal text)

  followed-pair-law : IsFormat followed-pair
  unfolding followed-pair
  followed-pair-law = both-law Anything f (λ _. literal text) F (λ x good. literal-law text) (λ x good. (tt, tt))

  followed-mapped : Format X
  followed-mapped = mapped (λ p. p.0) f.Good (λ x. f.spell x ++ text) followed-pair

  followed-mapped-law : IsFormat followed-mapped
  unfolding followed-mapped followed-pair
  followed-mapped-law = mapped-law (λ p. p.0) f.Good (λ x. f.spell x ++ text) Anything followed-pair followed-pair-law (λ p good. (good.0, refl)) (λ x good. ((x, tt), (good, tt), refl))

  end-same : (x : X) (s : Result (Unit {0} × List ℕ) (List ℕ)) → and_then {B = X × List ℕ} s (λ s. Ok (x, s.1))
      ≡ and_then (and_then {B = (X × Unit {0}) × List ℕ} s (λ s. Ok ((x, s.0), s.1))) (λ r. Ok (r.0.0, r.1))
  end-same x (Ok t) = refl
  end-same x (Err e) = refl

  value-same : (r : Result (X × List ℕ) (List ℕ)) → and_then {B = X × List ℕ} r (λ r. and_then (read_literal text r.1) (λ s. Ok (r.0, s.1)))
      ≡ and_then (and_then {B = (X × Unit {0}) × List ℕ} r (λ r. and_then (read_literal text r.1) (λ s. Ok ((r.0, s.0), s.1)))) (λ r. Ok (r.0.0, r.1))
  value-same (Ok t) = end-same t.0 (read_literal text t.1)
  value-same (Err e) = refl

  pub followed-law : IsFormat (followed f text)
  unfolding followed-mapped followed-pair
  followed-law = reread-law Anything followed-mapped (λ bytes. and_then (f.read bytes) (λ r. and_then (read_literal text r.1) (λ s. Ok (r.0, s.1)))) (λ bytes. value-same (f.read bytes)) followed-mapped-law

-- what may stand after lines shows in its first byte
pub ends-by-first : (end : Option ℕ) (c : ℕ) (cs ds : List ℕ) → ends end (c ∷ cs) ≡ ends end (c ∷ ds)
ends-by-first None c cs ds = refl
ends-by-first (Some e) c cs ds = refl

ends-by-front : (end : Option ℕ) (front cs ds : List ℕ) (c : ℕ) → ends end (front ++ c ∷ cs) ≡ ends end (front ++ c ∷ ds)
ends-by-front end [] cs ds c = ends-by-first end c cs ds
ends-by-front end (d ∷ front) cs ds c = ends-by-first end d (front ++ c ∷ cs) (front ++ c ∷ ds)

-- lines up to their end
module _ {X : Type 0} (end : Option ℕ) (f : Format X) (F : IsFormat f) (some : (x : X) → f.Good x → 1 ≤ length (f.spell x))
    (goes_on : (x : X) (more : List ℕ) → f.Good x → ends end (f.spell x ++ more) ≡ false) where
  lines-step : (most : ℕ) (bytes : List ℕ) → ends end bytes ≡ false
      → read_lines end f.read (suc most) bytes ≡ and_then (f.read bytes) (λ r. and_then (read_lines end f.read most r.1) (λ s. Ok (r.0 ∷ s.0, s.1)))
  unfolding read_lines
  lines-step most bytes on = rw on refl

  lines-none : (most : ℕ) (bytes : List ℕ) → ends end bytes ≡ true → read_lines end f.read (suc most) bytes ≡ Ok ([], bytes)
  unfolding read_lines
  lines-none most bytes at = rw at refl

  texts-again : (most : ℕ) (xs : List X) (rest : List ℕ) → All f.Good xs → ends end rest ≡ true → length (texts f.spell xs) < most
      → read_lines end f.read most (texts f.spell xs ++ rest) ≡ Ok (xs, rest)
  texts-again zero xs rest good at fits = absurd (omega arith)
  texts-again (suc most) [] rest good at fits = lines-none most rest at
  texts-again (suc most) (x ∷ xs) rest good at fits =
      let first = All-head f.Good x xs good in
      let long = some x first in
      let sum = length-append (f.spell x) (texts f.spell xs) in
      let read = F.again x (texts f.spell xs ++ rest) first tt in
      let more = texts-again most xs rest (All-tail f.Good x xs good) at (omega arith) in
      ap (read_lines end f.read (suc most)) (append_assoc (f.spell x) (texts f.spell xs) rest)
      ∙ lines-step most (f.spell x ++ (texts f.spell xs ++ rest)) (goes_on x (texts f.spell xs ++ rest) first) ∙ (rw (read, more) refl)

  TextsTaken : List ℕ → List X × List ℕ → Type 0
  TextsTaken bytes q = All f.Good q.0 × (ends end q.1 ≡ true) × (bytes ≡ texts f.spell q.0 ++ q.1)

  taken-here : (bytes : List ℕ) (q : List X × List ℕ) → ends end bytes ≡ true → ◌≡◌ {A = Result (List X × List ℕ) (List ℕ)} (Ok ([], bytes)) (Ok q) → TextsTaken bytes q
  unfolding TextsTaken
  taken-here bytes q at is = subst (TextsTaken bytes) (ok_is ([], bytes) q is) (All-nil f.Good, at, refl)

  taken-more : (bytes mid : List ℕ) (x : X) (q : List X × List ℕ) (s : Result (List X × List ℕ) (List ℕ)) → f.read bytes ≡ Ok (x, mid)
      → ((t : List X × List ℕ) → s ≡ Ok t → TextsTaken mid t) → and_then {E = List ℕ} s (λ s. Ok (x ∷ s.0, s.1)) ≡ Ok q → TextsTaken bytes q
  unfolding TextsTaken
  taken-more bytes mid x q (Err e) at next is = absurd (let none : ⊥ = cc in none)
  taken-more bytes mid x q (Ok t) at next is =
      let first = F.takes bytes mid x at in
      let rest = next t refl in
      subst (TextsTaken bytes) (ok_is (x ∷ t.0, t.1) q is)
      (All-cons f.Good x t.0 first.0 rest.0, rest.1, first.2 ∙ ap (λ l. f.spell x ++ l) rest.2 ∙ sym (append_assoc (f.spell x) (texts f.spell t.0) t.1))

  taken-first : (most : ℕ) (bytes : List ℕ) (q : List X × List ℕ) (r : Result (X × List ℕ) (List ℕ)) → f.read bytes ≡ r
      → ((mid : List ℕ) (t : List X × List ℕ) → read_lines end f.read most mid ≡ Ok t → TextsTaken mid t)
      → and_then r (λ r. and_then (read_lines end f.read most r.1) (λ s. Ok (r.0 ∷ s.0, s.1))) ≡ Ok q → TextsTaken bytes q
  taken-first most bytes q (Err e) at next is = absurd (let none : ⊥ = cc in none)
  taken-first most bytes q (Ok t) at next is = taken-more bytes t.1 t.0 q (read_lines end f.read most t.1) at (next t.1) is

  texts-taken : (most : ℕ) (bytes : List ℕ) (q : List X × List ℕ) → read_lines end f.read most bytes ≡ Ok q → TextsTaken bytes q
  unfolding read_lines
  texts-taken zero bytes q is = absurd (let none : ⊥ = cc in none)
  texts-taken (suc most) bytes q is =
      let P : Result (List X × List ℕ) (List ℕ) → Type 0 = λ r. r ≡ Ok q → TextsTaken bytes q in
      cond_both (ends end bytes) (Ok ([], bytes)) (and_then (f.read bytes) (λ r. and_then (read_lines end f.read most r.1) (λ s. Ok (r.0 ∷ s.0, s.1)))) P
      (λ h at. taken-here bytes q h at)
      (λ h at. taken-first most bytes q (f.read bytes) refl (λ mid t. texts-taken most mid t) at) is

  -- no text of lines goes on so
  first-lines-none : (front rest : List ℕ) → ends end (front ++ rest) ≡ false → NoMore Anything f front rest → NoMore (EndsAt end) (lines end f) front rest
  first-lines-none front [] on none = tt
  first-lines-none front (c ∷ cs) on none = λ xs tail more good after is.
      elim xs as (λ xs. All f.Good xs → front ++ c ∷ tail ≡ texts f.spell xs ++ more → ⊥) [
        | [] ↦ λ good is. true≢false (sym after ∙ ap (ends end) (sym is) ∙ sym (ends-by-front end front cs tail c) ∙ on)
        | y ∷ ys ↦ λ good is. none y tail (texts f.spell ys ++ more) (All-head f.Good y ys good) tt (is ∙ append_assoc (f.spell y) (texts f.spell ys) more)
      ] good is

  later-lines-none : (x : X) (front rest : List ℕ) → f.Good x → NoMore (EndsAt end) (lines end f) front rest → NoMore (EndsAt end) (lines end f) (f.spell x ++ front) rest
  later-lines-none x front [] fits none = tt
  later-lines-none x front (c ∷ cs) fits none = λ xs tail more good after is.
      elim xs as (λ xs. All f.Good xs → (f.spell x ++ front) ++ c ∷ tail ≡ texts f.spell xs ++ more → ⊥) [
        | [] ↦ λ good is. true≢false (sym after ∙ ap (ends end) (sym is ∙ append_assoc (f.spell x) front (c ∷ tail)) ∙ goes_on x (front ++ c ∷ tail) fits)
        | y ∷ ys ↦ λ good is.
            let one = F.again x (front ++ c ∷ tail) fits tt in
            let other = F.again y (texts f.spell ys ++ more) (All-head f.Good y ys good) tt in
            let same : f.read (f.spell x ++ (front ++ c ∷ tail)) ≡ f.read (f.spell y ++ (texts f.spell ys ++ more)) =
            ap f.read (sym (append_assoc (f.spell x) front (c ∷ tail)) ∙ is ∙ append_assoc (f.spell y) (texts f.spell ys) more) in
            let pair = ok_is (x, front ++ c ∷ tail) (y, texts f.spell ys ++ more) (sym one ∙ same ∙ other) in
            none ys tail more (All-tail f.Good y ys good) after (ap (λ (q : X × List ℕ). q.1) pair)
      ] good is

  lines-stop-here : (bytes rest : List ℕ) → ends end bytes ≡ false → f.read bytes ≡ Err rest → Stops (EndsAt end) (lines end f) bytes rest
  lines-stop-here bytes rest on at =
      let s = F.stops bytes rest at in
      record {
        front = s.front;
        parts = s.parts;
        begins = (s.begins.0 ∷ [], s.begins.1, All-cons f.Good s.begins.0 [] s.begins.2 (All-nil f.Good), s.begins.3 ∙ sym (append-nil (f.spell s.begins.0)));
        none = first-lines-none s.front rest (ap (ends end) (sym s.parts) ∙ on) s.none;
      }

  lines-stop-later : (bytes mid rest : List ℕ) (x : X) → f.read bytes ≡ Ok (x, mid) → Stops (EndsAt end) (lines end f) mid rest → Stops (EndsAt end) (lines end f) bytes rest
  lines-stop-later bytes mid rest x at s =
      let first = F.takes bytes mid x at in
      record {
        front = f.spell x ++ s.front;
        parts = first.2 ∙ ap (λ l. f.spell x ++ l) s.parts ∙ sym (append_assoc (f.spell x) s.front rest);
        begins = (x ∷ s.begins.0, s.begins.1, All-cons f.Good x s.begins.0 first.0 s.begins.2, append_assoc (f.spell x) s.front s.begins.1 ∙ ap (λ l. f.spell x ++ l) s.begins.3);
        none = later-lines-none x s.front rest first.0 s.none;
      }

  stop-more : (bytes mid rest : List ℕ) (x : X) (s : Result (List X × List ℕ) (List ℕ)) → f.read bytes ≡ Ok (x, mid) → (s ≡ Err rest → Stops (EndsAt end) (lines end f) mid rest)
      → and_then {B = List X × List ℕ} s (λ s. Ok (x ∷ s.0, s.1)) ≡ Err rest → Stops (EndsAt end) (lines end f) bytes rest
  stop-more bytes mid rest x (Ok t) at next is = absurd (let none : ⊥ = cc in none)
  stop-more bytes mid rest x (Err e) at next is = lines-stop-later bytes mid rest x at (next (ap (λ l. Err l) (err_is e rest is)))

  stop-first : (most : ℕ) (bytes rest : List ℕ) (r : Result (X × List ℕ) (List ℕ)) → f.read bytes ≡ r → ends end bytes ≡ false → length bytes < suc most
      → ((mid : List ℕ) → length mid < most → read_lines end f.read most mid ≡ Err rest → Stops (EndsAt end) (lines end f) mid rest)
      → and_then {B = List X × List ℕ} r (λ r. and_then (read_lines end f.read most r.1) (λ s. Ok (r.0 ∷ s.0, s.1))) ≡ Err rest → Stops (EndsAt end) (lines end f) bytes rest
  stop-first most bytes rest (Err e) at on fits next is = lines-stop-here bytes rest on (at ∙ ap (λ l. Err l) (err_is e rest is))
  stop-first most bytes rest (Ok t) at on fits next is =
      let first = F.takes bytes t.1 t.0 at in
      let long = some t.0 first.0 in
      let sum = ap length first.2 ∙ length-append (f.spell t.0) t.1 in
      stop-more bytes t.1 rest t.0 (read_lines end f.read most t.1) at (next t.1 (omega arith)) is

  texts-stop : (most : ℕ) (bytes rest : List ℕ) → length bytes < most → read_lines end f.read most bytes ≡ Err rest → Stops (EndsAt end) (lines end f) bytes rest
  unfolding read_lines
  texts-stop zero bytes rest fits is = absurd (omega arith)
  texts-stop (suc most) bytes rest fits is =
      let P : Result (List X × List ℕ) (List ℕ) → Type 0 = λ r. r ≡ Err rest → Stops (EndsAt end) (lines end f) bytes rest in
      cond_both (ends end bytes) (Ok ([], bytes)) (and_then (f.read bytes) (λ r. and_then (read_lines end f.read most r.1) (λ s. Ok (r.0 ∷ s.0, s.1)))) P
      (λ h at. absurd (ok_not_err ([], bytes) rest at))
      (λ h at. stop-first most bytes rest (f.read bytes) refl h fits (λ mid. texts-stop most mid rest) at) is

  pub lines-law : IsRead (EndsAt end) (lines end f)
  unfolding TextsTaken
  lines-law = record {
    again = λ xs rest good after. texts-again (suc (length (texts f.spell xs ++ rest))) xs rest good after (omega (arith, length-append (texts f.spell xs) rest));
    takes = λ bytes rest xs is. texts-taken (suc (length bytes)) bytes (xs, rest) is;
    stops = λ bytes rest is. texts-stop (suc (length bytes)) bytes rest (omega arith) is;
  }

  none-before : (r : Result (List X × List ℕ) (List ℕ)) → and_then {B = List X × List ℕ} r (λ s. Ok ([] ++ s.0, s.1)) ≡ r
  none-before (Ok t) = refl
  none-before (Err e) = refl

  pub goes-first : (bytes : List ℕ) → Goes end f bytes [] bytes
  goes-first bytes = record { most = suc (length bytes); fits = omega arith; same = none-before (read_lines end f.read (suc (length bytes)) bytes) }

  one-before : (done : List X) (x : X) (r : Result (List X × List ℕ) (List ℕ))
      → and_then {B = List X × List ℕ} r (λ s. Ok ((done ++ x ∷ []) ++ s.0, s.1))
      ≡ and_then {B = List X × List ℕ} (and_then {B = List X × List ℕ} r (λ s. Ok (x ∷ s.0, s.1))) (λ s. Ok (done ++ s.0, s.1))
  one-before done x (Ok t) = ap (λ l. Ok (l, t.1)) (append_assoc done (x ∷ []) t.0)
  one-before done x (Err e) = refl

  goes-more-at : (most : ℕ) (bytes : List ℕ) (done : List X) (rest next : List ℕ) (x : X) → ends end rest ≡ false → f.read rest ≡ Ok (x, next) → length rest < most
      → and_then {B = List X × List ℕ} (read_lines end f.read most rest) (λ s. Ok (done ++ s.0, s.1)) ≡ (lines end f).read bytes → Goes end f bytes (done ++ x ∷ []) next
  goes-more-at zero bytes done rest next x on at fits same = absurd (omega arith)
  goes-more-at (suc most) bytes done rest next x on at fits same =
      let first = F.takes rest next x at in
      let some_bytes = some x first.0 in
      let sum = ap length first.2 ∙ length-append (f.spell x) next in
      let step : read_lines end f.read (suc most) rest ≡ and_then (read_lines end f.read most next) (λ s. Ok (x ∷ s.0, s.1)) = lines-step most rest on ∙ (rw at refl) in
      record {
        most = most;
        fits = omega arith;
        same = one-before done x (read_lines end f.read most next) ∙ ap (λ (r : Result (List X × List ℕ) (List ℕ)). and_then {B = List X × List ℕ} r (λ s. Ok (done ++ s.0, s.1))) (sym step) ∙ same;
      }

  pub goes-more : (bytes : List ℕ) (done : List X) (rest next : List ℕ) (x : X) → Goes end f bytes done rest → ends end rest ≡ false → f.read rest ≡ Ok (x, next) → Goes end f bytes (done ++ x ∷ []) next
  goes-more bytes done rest next x goes on at = goes-more-at goes.most bytes done rest next x on at goes.fits goes.same

  pub goes-smaller : (rest next : List ℕ) (x : X) → f.read rest ≡ Ok (x, next) → length next < length rest
  goes-smaller rest next x at =
      let first = F.takes rest next x at in
      let some_bytes = some x first.0 in
      let sum = ap length first.2 ∙ length-append (f.spell x) next in
      omega arith

  goes-stop-at : (most : ℕ) (bytes : List ℕ) (done : List X) (rest stop : List ℕ) → ends end rest ≡ false → f.read rest ≡ Err stop → length rest < most
      → and_then {B = List X × List ℕ} (read_lines end f.read most rest) (λ s. Ok (done ++ s.0, s.1)) ≡ (lines end f).read bytes → (lines end f).read bytes ≡ Err stop
  goes-stop-at zero bytes done rest stop on at fits same = absurd (omega arith)
  goes-stop-at (suc most) bytes done rest stop on at fits same =
      let step : read_lines end f.read (suc most) rest ≡ Err stop = lines-step most rest on ∙ (rw at refl) in
      sym same ∙ ap (λ (r : Result (List X × List ℕ) (List ℕ)). and_then {B = List X × List ℕ} r (λ s. Ok (done ++ s.0, s.1))) step

  pub goes-stop : (bytes : List ℕ) (done : List X) (rest stop : List ℕ) → Goes end f bytes done rest → ends end rest ≡ false → f.read rest ≡ Err stop → (lines end f).read bytes ≡ Err stop
  goes-stop bytes done rest stop goes on at = goes-stop-at goes.most bytes done rest stop on at goes.fits goes.same

  goes-end-at : (most : ℕ) (bytes : List ℕ) (done : List X) (rest : List ℕ) → ends end rest ≡ true → length rest < most
      → and_then {B = List X × List ℕ} (read_lines end f.read most rest) (λ s. Ok (done ++ s.0, s.1)) ≡ (lines end f).read bytes → (lines end f).read bytes ≡ Ok (done, rest)
  goes-end-at zero bytes done rest at fits same = absurd (omega arith)
  goes-end-at (suc most) bytes done rest at fits same =
      sym same ∙ ap (λ (r : Result (List X × List ℕ) (List ℕ)). and_then {B = List X × List ℕ} r (λ s. Ok (done ++ s.0, s.1))) (lines-none most rest at) ∙ ap (λ l. Ok (l, rest)) (append-nil done)

  pub goes-end : (bytes : List ℕ) (done : List X) (rest : List ℕ) → Goes end f bytes done rest → ends end rest ≡ true → (lines end f).read bytes ≡ Ok (done, rest)
  goes-end bytes done rest goes at = goes-end-at goes.most bytes done rest at goes.fits goes.same

-- one of these values, each with a text of its own
module _ {X : Type 0} (spell : X → List ℕ) where
  OneTakes : List X → List ℕ → X × List ℕ → Type 0
  OneTakes xs bytes q = IsAmong q.0 xs × (bytes ≡ spell q.0 ++ q.1)

  one-takes-at : (x : X) (xs : List X) (bytes : List ℕ) (q : X × List ℕ) (r : Result (Unit {0} × List ℕ) (List ℕ)) (s : Result (X × List ℕ) (List ℕ)) → read_literal (spell x) bytes ≡ r
      → (s ≡ Ok q → OneTakes xs bytes q) → or_else (and_then r (λ r. Ok (x, r.1))) s ≡ Ok q → OneTakes (x ∷ xs) bytes q
  unfolding OneTakes
  one-takes-at x xs bytes q (Ok t) s at next is = subst (OneTakes (x ∷ xs) bytes) (ok_is (x, t.1) q is) (inl refl, literal-takes (spell x) bytes t.1 t.0 at)
  one-takes-at x xs bytes q (Err d) (Ok t) at next is = let n = next is in (inr n.0, n.1)
  one-takes-at x xs bytes q (Err d) (Err e) at next is = absurd (let none : ⊥ = cc in none)

  one-takes : (xs : List X) (bytes : List ℕ) (q : X × List ℕ) → read_one_of spell xs bytes ≡ Ok q → OneTakes xs bytes q
  one-takes [] bytes q is = absurd (let none : ⊥ = cc in none)
  one-takes (x ∷ xs) bytes q is = one-takes-at x xs bytes q (read_literal (spell x) bytes) (read_one_of spell xs bytes) refl (one-takes xs bytes q) is

  record OneStops (xs : List X) (bytes rest : List ℕ) : Type 0 where
    front : List ℕ
    parts : bytes ≡ front ++ rest
    begins : (front ≡ []) ⊎ Begins (one_of spell xs) front
    none : NoMore Anything (one_of spell xs) front rest

  one-none : (x : X) (xs : List X) (front rest : List ℕ) → NoMore Anything (literal (spell x)) front rest → NoMore Anything (one_of spell xs) front rest
      → NoMore Anything (one_of spell (x ∷ xs)) front rest
  one-none x xs front [] first others = tt
  one-none x xs front (c ∷ cs) first others = λ y tail more good after is.
      ⊎_elim (λ same. first tt tail more tt tt (is ∙ ap (λ z. spell z ++ more) same)) (λ among. others y tail more among tt is) good

  one-stops-both : (x : X) (xs : List X) (bytes d e rest : List ℕ) → Stops Anything (literal (spell x)) bytes d → OneStops xs bytes e → shorter d e ≡ rest → OneStops (x ∷ xs) bytes rest
  one-stops-both x xs bytes d e rest s t is =
      let At : List ℕ → Type 0 = λ l. OneStops (x ∷ xs) bytes l in
      elim (cases_lt (length e) (length d)) [
        | inl near ↦
            let near_too : length e ≤ length d = omega arith in
            let c = cut t.front s.front e d near_too (sym t.parts ∙ s.parts) in
            subst At (sym (shorter_other d e near) ∙ is) (record {
              front = t.front;
              parts = t.parts;
              begins = ⊎_elim (λ none. inl none) (λ b. inr (b.0, b.1, inr b.2, b.3)) t.begins;
              none = one-none x xs t.front e (none_further Anything (literal (spell x)) s.front t.front d e c.0 c.1 c.2 s.none) t.none;
            })
        | inr near ↦
            let c = cut s.front t.front d e near (sym s.parts ∙ t.parts) in
            subst At (sym (shorter_first d e near) ∙ is) (record {
              front = s.front;
              parts = s.parts;
              begins = inr (x, s.begins.1, inl refl, s.begins.3);
              none = one-none x xs s.front d s.none (none_further Anything (one_of spell xs) t.front s.front e d c.0 c.1 c.2 t.none);
            })
      ]

  one-stops-at : (x : X) (xs : List X) (bytes rest : List ℕ) (r : Result (Unit {0} × List ℕ) (List ℕ)) (s : Result (X × List ℕ) (List ℕ)) → read_literal (spell x) bytes ≡ r
      → ((e : List ℕ) → s ≡ Err e → OneStops xs bytes e) → or_else (and_then r (λ r. Ok (x, r.1))) s ≡ Err rest → OneStops (x ∷ xs) bytes rest
  one-stops-at x xs bytes rest (Ok t) s at next is = absurd (let none : ⊥ = cc in none)
  one-stops-at x xs bytes rest (Err d) (Ok t) at next is = absurd (let none : ⊥ = cc in none)
  one-stops-at x xs bytes rest (Err d) (Err e) at next is =
      one-stops-both x xs bytes d e rest ((literal-law (spell x)).stops bytes d at) (next e refl) (err_is (shorter d e) rest is)

  none-of-none : (rest : List ℕ) → NoMore Anything (one_of spell []) [] rest
  none-of-none [] = tt
  none-of-none (c ∷ cs) = λ x tail more good after is. good

  one-stops : (xs : List X) (bytes rest : List ℕ) → read_one_of spell xs bytes ≡ Err rest → OneStops xs bytes rest
  one-stops [] bytes rest is = record { front = []; parts = err_is bytes rest is; begins = inl refl; none = none-of-none rest }
  one-stops (x ∷ xs) bytes rest is = one-stops-at x xs bytes rest (read_literal (spell x) bytes) (read_one_of spell xs bytes) refl (one-stops xs bytes) is

  -- each of them is read back from its text
  pub one-law : (x : X) (xs : List X) → ((y : X) (rest : List ℕ) → IsAmong y (x ∷ xs) → read_one_of spell (x ∷ xs) (spell y ++ rest) ≡ Ok (y, rest)) → IsFormat (one_of spell (x ∷ xs))
  unfolding OneTakes
  one-law x xs again = record {
    again = λ y rest good after. again y rest good;
    takes = λ bytes rest y is. let t = one-takes (x ∷ xs) bytes (y, rest) is in (t.0, tt, t.1);
    stops = λ bytes rest is.
        let s = one-stops (x ∷ xs) bytes rest is in
        record {
          front = s.front;
          parts = s.parts;
          begins = ⊎_elim (λ none. (x, spell x, inl refl, ap (λ l. l ++ spell x) none)) (λ b. b) s.begins;
          none = s.none;
        };
  }

-- where a text that ends with the bytes stops
module _ {X : Type 0} (f : Format X) (F : IsWhole f) where
  place-longest : (front rest bytes : List ℕ) → bytes ≡ front ++ rest → NoMore Nothing f front rest → (m : ℕ) → length front < m → m ≤ length bytes → Begins f (take m bytes) → ⊥
  place-longest front [] bytes parts none m past within begins = omega (arith, ap length parts, length-append front [])
  place-longest front (c ∷ cs) bytes parts none m past within begins =
      let more = m - suc (length front) in
      let sum : m ≡ length front + suc more = omega arith in
      let cut_at : take m bytes ≡ front ++ c ∷ take more cs = ap (λ k. take k bytes) sum ∙ ap (take (length front + suc more)) parts ∙ take-append-add front (c ∷ cs) (suc more) in
      none begins.0 (take more cs ++ begins.1) [] begins.2 refl (sym (append_assoc front (c ∷ take more cs) begins.1) ∙ ap (λ l. l ++ begins.1) (sym cut_at) ∙ begins.3 ∙ sym (append-nil (f.spell begins.0)))

  -- the length of the bytes before the rest is the place
  pub stop-place : (bytes rest : List ℕ) → f.read bytes ≡ Err rest → (n : ℕ) → n + length rest ≡ length bytes → IsPlace (Begins f) bytes n
  stop-place bytes rest is n sum =
      let s = F.stops bytes rest is in
      let long = ap length s.parts ∙ length-append s.front rest in
      let same : length s.front ≡ n = omega arith in
      let front : take n bytes ≡ s.front = ap (λ k. take k bytes) (sym same) ∙ ap (take (length s.front)) s.parts ∙ take-append_seam s.front rest in
      record {
        within = omega arith;
        begins = subst (Begins f) (sym front) s.begins;
        longest = λ m past. place-longest s.front rest bytes s.parts s.none m (omega arith);
      }

  -- no value has these bytes as its text
  pub stop-none : (bytes rest : List ℕ) → f.read bytes ≡ Err rest → (x : X) → f.Good x → bytes ≡ f.spell x → ⊥
  stop-none bytes rest is x good text =
      let read = F.again x [] good refl in
      ok_not_err (x, []) rest (sym read ∙ ap f.read (append-nil (f.spell x) ∙ sym text) ∙ is)
