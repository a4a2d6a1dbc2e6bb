-- One answer, and all that is said of it.
use Rattle.std.proofs.Common.{◌≡◌, ℕ, List, Option, Some, None, Result, Ok, Err, sym, ap, ◌∙◌}
use Rattle.std.specs.Prelude.{IfOk, IfSome}
use Rattle.kc_memory.specs.Image.{Image}
use Rattle.kc_found.specs.declared.failed.ReadFailed.{ReadFailed}
use Rattle.kc_found.specs.Violations.{Violation}
use Rattle.kc_kinds.specs.declared.kind.Kind.{Kind}
use Rattle.kc_plan.specs.Planned.{AuditAt}
use Rattle.kc_plan.specs.Roots.{Root}
use Rattle.kc_repair.specs.declared.suspect.suspect.Suspect.{Suspect}
use Rattle.kc_repair.specs.declared.others.Stand.{Stand}
use Rattle.kc_repair.specs.declared.outcome.Repair.{Repair}
use Rattle.kc_repair.specs.declared.outcome.Repair.TheVariants.{Stands}
use Rattle.kc_repair.specs.Others.{stand_of}
use Rattle.kc_repair.specs.Repairs.{repair_of}
use Rattle.kc_cause.specs.declared.repairs.Mended.{Mended}
use Rattle.kc_cause.specs.Chained.{chain_of}
use Rattle.kc_cause.specs.Explained.{changed_words, elements_told, mended_by, mended_of, mended_with, stand_told}

-- whether others would do as well as the word that repairs
pub stand-told : (image : Option Image) (audits : List AuditAt) (root : Root) (kind : Kind) (v : Violation) (repair : Repair) (first : Suspect) (r : Result Stand ReadFailed) (stand : Stand)
    → repair ≡ Stands first → r ≡ Ok stand → IfOk r (λ s. IfSome image (λ m. repair_of m audits root kind v ≡ Stands first → s ≡ stand_of m audits root kind v))
    → IfSome image (λ m. repair_of m audits root kind v ≡ repair → Some stand ≡ stand_told m audits root kind v repair)
stand-told None audits root kind v repair first r stand one is told = tt
stand-told (Some m) audits root kind v repair first r stand one is told =
    λ answer. rw one (ap (λ (s : Stand). Some s) ((rw is at told) (answer ∙ one)))

-- the elements with the words that are changed
pub elements-changed : (image : Option Image) (audits : List AuditAt) (root : Root) (number : ℕ) (repair : Repair) (words changed : Option (List Suspect)) (r : Result (Option ℕ) ReadFailed)
    → changed ≡ changed_words repair words → IfOk r (λ n. IfSome image (λ m. n ≡ elements_told m audits root number changed))
    → IfOk r (λ n. IfSome image (λ m. n ≡ elements_told m audits root number (changed_words repair words)))
elements-changed image audits root number repair words changed (Err stop) same told = tt
elements-changed None audits root number repair words changed (Ok n) same told = tt
elements-changed (Some m) audits root number repair words changed (Ok n) same told = told ∙ ap (elements_told m audits root number) same

-- the words that repair together after it, and the elements with them
pub words-told : (image after : Option Image) (audits : List AuditAt) (root : Root) (number : ℕ) (repair : Repair) (stand : Option Stand) (chained : Result (Option (List Suspect)) ReadFailed) (words : Option (List Suspect))
    (counted : Result (Option ℕ) ReadFailed) (elements : Option ℕ)
    → after ≡ image → chained ≡ Ok words → IfOk chained (λ w. IfSome image (λ m. w ≡ chain_of m audits root repair))
    → counted ≡ Ok elements → IfOk counted (λ n. IfSome after (λ m. n ≡ elements_told m audits root number (changed_words repair words)))
    → IfSome image (λ m. record { repair = repair; words = words; stand = stand; elements = elements } ≡ mended_by m audits root number repair stand)
words-told None after audits root number repair stand chained words counted elements same is exact are told = tt
words-told (Some m) after audits root number repair stand chained words counted elements same is exact are told =
    let chain : words ≡ chain_of m audits root repair = rw is at exact in
    let count : elements ≡ elements_told m audits root number (changed_words repair words) = rw are at (rw same at told) in
    ap (λ (n : Option ℕ). record { repair = repair; words = words; stand = stand; elements = n }) count ∙ ap (mended_with m audits root number repair stand) chain

-- all of it
pub all-told : (image after : Option Image) (audits : List AuditAt) (root : Root) (kind : Kind) (v : Violation) (number : ℕ) (repair : Repair) (tried : Result (Option Stand) ReadFailed) (stand : Option Stand) (r : Result Mended ReadFailed)
    → after ≡ image → tried ≡ Ok stand
    → IfOk tried (λ s. IfSome image (λ m. repair_of m audits root kind v ≡ repair → s ≡ stand_told m audits root kind v repair))
    → IfOk r (λ x. IfSome after (λ m. x ≡ mended_by m audits root number repair stand))
    → IfOk r (λ x. IfSome image (λ m. repair_of m audits root kind v ≡ repair → x ≡ mended_of m audits root kind v number))
all-told image after audits root kind v number repair tried stand (Err stop) same is exact told = tt
all-told None after audits root kind v number repair tried stand (Ok x) same is exact told = tt
all-told (Some m) after audits root kind v number repair tried stand (Ok x) same is exact told =
    λ answer.
    let stood : stand ≡ stand_told m audits root kind v repair = (rw is at exact) answer in
    (rw same at told) ∙ ap (mended_by m audits root number repair) stood ∙ ap (λ (f : Repair). mended_by m audits root number f (stand_told m audits root kind v f)) (sym answer)

pub mended-as : (image after : Option Image) (audits : List AuditAt) (root : Root) (kind : Kind) (v : Violation) (number : ℕ) (r : Result Repair ReadFailed) (first : Repair) (mended : Result Mended ReadFailed)
    → after ≡ image → r ≡ Ok first → IfOk r (λ x. IfSome image (λ m. x ≡ repair_of m audits root kind v))
    → IfOk mended (λ x. IfSome after (λ m. repair_of m audits root kind v ≡ first → x ≡ mended_of m audits root kind v number))
    → IfOk mended (λ x. IfSome image (λ m. x ≡ mended_of m audits root kind v number))
mended-as image after audits root kind v number r first (Err stop) same is exact told = tt
mended-as None after audits root kind v number r first (Ok x) same is exact told = tt
mended-as (Some m) after audits root kind v number r first (Ok x) same is exact told =
    let answer : first ≡ repair_of m audits root kind v = rw is at exact in
    (rw same at told) (sym answer)
