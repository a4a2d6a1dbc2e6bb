-- The laws of texts that begin with how many parts follow, and of texts that end with the bytes.
use Rattle.std.proofs.Common.{◌≡◌, ℕ, zero, suc, ◌+◌, ◌-◌, ◌<◌, ◌≤◌, ◌^◌, List, [], ◌∷◌, ◌++◌, length, Result, Ok, Err, All, decimal, codes, refl, sym, ap, ◌∙◌, subst, arith, append_assoc}
use Rattle.std.proofs.lemmas.List.{append-nil}
use Rattle.std.proofs.lemmas.List.Elements.{All-nil, All-cons, All-head, All-tail}
use Rattle.kc_text.specs.Format.{Format, Anything, Nothing, Begins, NoMore, Stops, IsFormat, IsWhole}
use Rattle.kc_text.specs.Reading.{and_then}
use Rattle.kc_text.specs.Readers.{decimal_and}
use Rattle.kc_text.specs.Compose.{both, mapped, nothing, texts}
use Rattle.kc_text.proofs.FormatLaws.{ok_is, err_is, ok_not_err, both-law, mapped-law, nothing-law}
use Rattle.kc_text.proofs.ReaderLaws.{decimal-law}
use Rattle.kc_text.specs.Counted.{AreCounted, AreSo, counted, counted_text, ended, ended_by, put, times}

module _ {X : Type 0} (f : Format X) (F : IsFormat f) (some : (x : X) × f.Good x) where
  pub times_are : (n : ℕ) (xs : List X) → AreSo f.Good n xs → (times f n).Good xs
  unfolding times
  times_are zero xs are = are
  times_are (suc n) xs are = are

  pub are_times : (n : ℕ) (xs : List X) → (times f n).Good xs → AreSo f.Good n xs
  unfolding times
  are_times zero xs are = are
  are_times (suc n) xs are = are

  pub times_text : (n : ℕ) (xs : List X) → (times f n).spell xs ≡ texts f.spell xs
  unfolding times
  times_text zero xs = refl
  times_text (suc n) xs = refl

  some_so : (n : ℕ) → (xs : List X) × AreSo f.Good n xs
  some_so zero = ([], (refl, All-nil f.Good))
  some_so (suc n) = let more = some_so n in (some.0 ∷ more.0, (ap suc more.1.0, All-cons f.Good some.0 more.0 some.1 more.1.1))

  some_times : (n : ℕ) → (xs : List X) × (times f n).Good xs
  some_times n = let s = some_so n in (s.0, times_are n s.0 s.1)

  None : List X → Type 0
  None xs = AreSo f.Good 0 xs × (texts f.spell xs ≡ [])

  none_good : (xs : List X) → [] ≡ xs → None xs
  unfolding None
  none_good xs is = subst None is ((refl, All-nil f.Good), refl)

  none_back : (xs : List X) → AreSo f.Good 0 xs → (ys : List X) × ([] ≡ ys) × (ys ≡ xs)
  none_back [] are = ([], refl, refl)
  none_back (x ∷ xs) are = absurd (let long = are.0 in omega (arith, long))

  more_good : (n : ℕ) (p : X × List X) → f.Good p.0 × (times f n).Good p.1 → AreSo f.Good (suc n) (put p) × (texts f.spell (put p) ≡ f.spell p.0 ++ (times f n).spell p.1)
  more_good n p good =
      let are = are_times n p.1 good.1 in
      ((ap suc are.0, All-cons f.Good p.0 p.1 good.0 are.1), ap (λ l. f.spell p.0 ++ l) (sym (times_text n p.1)))

  more_back : (n : ℕ) (xs : List X) → AreSo f.Good (suc n) xs → (p : X × List X) × (f.Good p.0 × (times f n).Good p.1) × (put p ≡ xs)
  more_back n [] are = absurd (let long = are.0 in omega (arith, long))
  more_back n (x ∷ xs) are =
      let size : length xs ≡ n = let long = are.0 in omega (arith, long) in
      ((x, xs), (All-head f.Good x xs are.1, times_are n xs (size, All-tail f.Good x xs are.1)), refl)

  pub times-law : (n : ℕ) → IsFormat (times f n)
  unfolding times None
  times-law zero = mapped-law (λ xs. xs) (AreSo f.Good 0) (texts f.spell) Anything (nothing []) (nothing-law []) none_good none_back
  times-law (suc n) =
      mapped-law put (AreSo f.Good (suc n)) (texts f.spell) Anything (both f (λ _. times f n))
      (both-law Anything f (λ _. times f n) F (λ x good. times-law n) (λ x good. some_times n)) (more_good n) (more_back n)

  counted_good : (p : ℕ × List X) → (p.0 < 2 ^ 64) × (times f p.0).Good p.1 → AreCounted f.Good p.1 × (counted_text f.spell p.1 ≡ (decimal p.0 ++ 10 ∷ []) ++ (times f p.0).spell p.1)
  counted_good p good =
      let are = are_times p.0 p.1 good.1 in
      let size : length p.1 ≡ p.0 = are.0 in
      ((omega (arith, size, good.0), are.1), ap (λ n. (decimal n ++ 10 ∷ []) ++ texts f.spell p.1) size ∙ ap (λ l. (decimal p.0 ++ 10 ∷ []) ++ l) (sym (times_text p.0 p.1)))

  counted_back : (xs : List X) → AreCounted f.Good xs → (p : ℕ × List X) × ((p.0 < 2 ^ 64) × (times f p.0).Good p.1) × (p.1 ≡ xs)
  counted_back xs are = ((length xs, xs), (are.0, times_are (length xs) xs (refl, are.1)), refl)

  pub counted-law : IsFormat (counted f)
  counted-law =
      mapped-law (λ p. p.1) (AreCounted f.Good) (counted_text f.spell) Anything (both (decimal_and 10) (λ n. times f n))
      (both-law Anything (decimal_and 10) (λ n. times f n) (decimal-law 10 refl) (λ n good. times-law n) (λ n good. some_times n)) counted_good counted_back

  -- no value at all
  pub some_counted : (xs : List X) × AreCounted f.Good xs
  some_counted = ([], (omega arith, All-nil f.Good))

-- the bytes end where the text does
module _ {X : Type 0} (f : Format X) (F : IsFormat f) where
  ended-again : (x : X) (rest : List ℕ) → f.Good x → Nothing rest → (ended f).read (f.spell x ++ rest) ≡ Ok (x, rest)
  ended-again x rest good after =
      let read = F.again x rest good tt in
      ap (λ (r : Result (X × List ℕ) (List ℕ)). and_then {B = X × List ℕ} r (λ r. ended_by r.0 r.1)) read ∙ ap (ended_by x) after ∙ ap (λ l. Ok (x, l)) (sym after)

  Taken : List ℕ → X × List ℕ → Type 0
  Taken bytes q = f.Good q.0 × Nothing q.1 × (bytes ≡ f.spell q.0 ++ q.1)

  ended-takes : (bytes : List ℕ) (q : X × List ℕ) (r : Result (X × List ℕ) (List ℕ)) → f.read bytes ≡ r → and_then {B = X × List ℕ} r (λ r. ended_by r.0 r.1) ≡ Ok q → Taken bytes q
  unfolding Taken
  ended-takes bytes q (Err e) at is = absurd (let none : ⊥ = cc in none)
  ended-takes bytes q (Ok t) at is = by_rest t.1 (at ∙ refl) is
    where
      by_rest : (rest : List ℕ) → f.read bytes ≡ Ok (t.0, rest) → ended_by t.0 rest ≡ Ok q → Taken bytes q
      by_rest [] at is = let taken = F.takes bytes [] t.0 at in subst (Taken bytes) (ok_is (t.0, []) q is) (taken.0, refl, taken.2)
      by_rest (c ∷ cs) at is = absurd (let none : ⊥ = cc in none)

  ended-none : (front rest : List ℕ) → NoMore Anything f front rest → NoMore Nothing (ended f) front rest
  ended-none front [] none = tt
  ended-none front (c ∷ cs) none = λ x tail more good after is. none x tail more good tt is

  -- no text goes on where one has ended
  none-behind : (x : X) (c : ℕ) (cs : List ℕ) → f.Good x → NoMore Nothing (ended f) (f.spell x) (c ∷ cs)
  none-behind x c cs good = λ y tail more goods after is.
      let one = F.again x (c ∷ tail) good tt in
      let other = F.again y more goods tt in
      let same : f.read (f.spell x ++ c ∷ tail) ≡ f.read (f.spell y ++ more) = ap f.read is in
      let pair = ok_is (x, c ∷ tail) (y, more) (sym one ∙ same ∙ other) in
      let rest : c ∷ tail ≡ [] = ap (λ (q : X × List ℕ). q.1) pair ∙ after in
      cc

  ended-stops : (bytes rest : List ℕ) (r : Result (X × List ℕ) (List ℕ)) → f.read bytes ≡ r → and_then {B = X × List ℕ} r (λ r. ended_by r.0 r.1) ≡ Err rest → Stops Nothing (ended f) bytes rest
  ended-stops bytes rest (Err e) at is =
      let s = F.stops bytes rest (at ∙ ap (λ l. Err l) (err_is e rest is)) in
      record { front = s.front; parts = s.parts; begins = s.begins; none = ended-none s.front rest s.none }
  ended-stops bytes rest (Ok t) at is = by_rest t.1 at is
    where
      by_rest : (mid : List ℕ) → f.read bytes ≡ Ok (t.0, mid) → ended_by t.0 mid ≡ Err rest → Stops Nothing (ended f) bytes rest
      by_rest [] at is = absurd (let none : ⊥ = cc in none)
      by_rest (c ∷ cs) at is =
          let taken = F.takes bytes (c ∷ cs) t.0 at in
          subst (Stops Nothing (ended f) bytes) (err_is (c ∷ cs) rest is) (record {
            front = f.spell t.0;
            parts = taken.2;
            begins = (t.0, [], taken.0, append-nil (f.spell t.0));
            none = none-behind t.0 c cs taken.0;
          })

  pub ended-law : IsWhole (ended f)
  unfolding Taken
  ended-law = record {
    again = ended-again;
    takes = λ bytes rest x is. ended-takes bytes (x, rest) (f.read bytes) refl is;
    stops = λ bytes rest is. ended-stops bytes rest (f.read bytes) refl is;
  }
