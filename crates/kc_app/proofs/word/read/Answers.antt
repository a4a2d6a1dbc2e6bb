use Rattle.std.proofs.Common.{◌≡◌, ◌≢◌, ℕ, List, [], ◌∷◌, None, length, map, refl, sym, arith}
use Rattle.std.proofs.lemmas.Bool.Decides.{nat_tests}
use Rattle.std.specs.String.{string_bytes}
use Rattle.kc_app.specs.Word.{word_asks}
use Rattle.kc_app.proofs.word.read.Goals as goal
use Rattle.kc_app.proofs.word.read.Goals.{in_default-via-then-words-lt3, in_default-via-else-words-lt3+else-words-lt4}

-- the words are three
others : {X : Type 0} (most : ℕ) (view : X → List ℕ) (words : List X) → length words ≢ 3 → word_asks most (map view words) ≡ None
others most view [] three = refl
others most view (a ∷ []) three = refl
others most view (a ∷ b ∷ []) three = refl
others most view (a ∷ b ∷ c ∷ []) three = absurd (three refl)
others most view (a ∷ b ∷ c ∷ d ∷ words) three = refl

pub returns-in_default-clause-asked : goal.returns-in_default-clause-asked
returns-in_default-clause-asked c =
    let three : length c.args.words.now ≢ 3 = elim c.in_default.branch [ in_default-via-then-words-lt3 w ↦ (λ e. grind (arith, nat_tests)) | in_default-via-else-words-lt3+else-words-lt4 w ↦ (λ e. grind (arith, nat_tests)) ] in
    sym (others c.args.most string_bytes c.args.words.now three)
