use Rattle.std.proofs.Common.{◌≡◌, ◌∙◌, ℕ, List, Some, None, ap, subst}
use Rattle.kc_outside.specs.declared.store.Slot.TheVariants as slot
use Rattle.kc_outside.specs.SureStore.{file_in}
use Rattle.kc_gen.specs.Header.{dump}
use Rattle.kc_gen.specs.Texts.{map, plan}
use Rattle.kc_gen.specs.Types.{btf}
use Rattle.kc_command.specs.Ends.Answers.{Prints}
use Rattle.kc_app.specs.Check.{check_made}
use Rattle.kc_app.specs.Shown.{shown_written}
use Rattle.kc_app.proofs.selftest.selftest.Goals as goal

same_files : (P : List ℕ → List ℕ → List ℕ → List ℕ → Type 0) (a a' b b' c c' d d' : List ℕ) → a ≡ a' → b ≡ b' → c ≡ c' → d ≡ d' → P a b c d → P a' b' c' d'
same_files P a a' b b' c c' d d' is_a is_b is_c is_d h =
    subst (λ x. P a' b' c' x) is_d (subst (λ x. P a' b' x d) is_c (subst (λ x. P a' x c d) is_b (subst (λ x. P x b c d) is_a h)))

-- the store has the made files
pub returns-clause-output : goal.returns-clause-output
returns-clause-output c =
    let held = c.new-store.ensures.files in
    let store = c.new-store.result in
    same_files (λ a b m p. Prints shown_written (check_made 65536 (Some a) (Some b) (Some m) (Some p)) c.check.result)
    (file_in store slot.Dump) (dump c.args.count None) (file_in store slot.Btf) btf (file_in store slot.Map) map (file_in store slot.Plan) plan
    (ap (λ f. f slot.Dump) held ∙ c.in_ok-files.ensures.dump) (ap (λ f. f slot.Btf) held ∙ c.in_ok-files.ensures.btf)
    (ap (λ f. f slot.Map) held ∙ c.in_ok-files.ensures.map) (ap (λ f. f slot.Plan) held ∙ c.in_ok-files.ensures.plan)
    c.check.ensures.output
