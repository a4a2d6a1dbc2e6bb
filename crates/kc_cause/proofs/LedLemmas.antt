-- Lines of a repair, one part after the other, over a memory that is told or not.
use Rattle.std.proofs.Common.{◌≡◌, ℕ, List, ◌++◌, false, Option, Some, None, IfSome, Result, Ok, Err, OnOk, IfOk, sym, ap, ◌∙◌, append_assoc, append-nil}
use Rattle.std.specs.Prelude.{codes, option_map}
use Rattle.kc_memory.specs.Image.{Image}
use Rattle.kc_found.specs.declared.asked.Asked.{Asked}
use Rattle.kc_found.specs.declared.failed.ReadFailed.{ReadFailed}
use Rattle.kc_found.specs.Violations.{Violation}
use Rattle.kc_kinds.specs.declared.kind.Kind.{Kind}
use Rattle.kc_plan.specs.Roots.{Root}
use Rattle.kc_plan.specs.Views.{plan_seen}
use Rattle.kc_run.specs.Each.{asked_root, root_at}
use Rattle.kc_sight.specs.Looks.{LooksAs}
use Rattle.kc_sight.specs.Meanings.{meaning}
use Rattle.kc_sight.specs.Views.{image_symbols}
use Rattle.kc_told.specs.declared.near.Lead.{Lead}
use Rattle.kc_told.specs.Leads.{leads_line}
use Rattle.kc_told.specs.Near.{lead_as}
use Rattle.kc_repair.specs.declared.suspect.suspect.Suspect.{Suspect}
use Rattle.kc_cause.specs.declared.judged.PlanOf.{PlanOf}
use Rattle.kc_cause.specs.declared.repairs.Mended.{Mended}
use Rattle.kc_cause.specs.Explained.{leads_over, leads_to, mended_of, repairs_as, written_over}
use Rattle.kc_cause.specs.Judged.{over_plan}
use Rattle.kc_cause.specs.Lines.{led_lines, mended_lines, suspect_part}
use Rattle.kc_cause.specs.Written.{is_written}

-- a part that is told of the memory after one that isn't
pub after_pure : {A E : Type 0} (image : Option Image) (r : Result A E) (old mid new first : List ℕ) (rest : Image → List ℕ)
    → mid ≡ old ++ first → OnOk r (IfSome image (λ m. new ≡ mid ++ rest m)) → OnOk r (IfSome image (λ m. new ≡ old ++ (first ++ rest m)))
after_pure image (Err e) old mid new first rest one two = tt
after_pure None (Ok a) old mid new first rest one two = tt
after_pure (Some m) (Ok a) old mid new first rest one two = two ∙ ap (λ l. l ++ rest m) one ∙ append_assoc old first (rest m)

-- and the other way round
pub then_pure : (image : Option Image) (old mid new : List ℕ) (first : Image → List ℕ) (rest : List ℕ)
    → IfSome image (λ m. mid ≡ old ++ first m) → new ≡ mid ++ rest → IfSome image (λ m. new ≡ old ++ (first m ++ rest))
then_pure None old mid new first rest one two = tt
then_pure (Some m) old mid new first rest one two = two ∙ ap (λ l. l ++ rest) one ∙ append_assoc old (first m) rest

pub between_pure : (image : Option Image) (old one two new first : List ℕ) (mid : Image → List ℕ) (rest : List ℕ)
    → one ≡ old ++ first → IfSome image (λ m. two ≡ one ++ mid m) → new ≡ two ++ rest → IfSome image (λ m. new ≡ old ++ (first ++ (mid m ++ rest)))
between_pure None old one two new first mid rest a b c = tt
between_pure (Some m) old one two new first mid rest a b c =
    c ∙ ap (λ l. l ++ rest) (b ∙ ap (λ l. l ++ mid m) a ∙ append_assoc old first (mid m)) ∙ append_assoc old (first ++ mid m) rest ∙ ap (λ l. old ++ l) (append_assoc first (mid m) rest)

-- two parts that are told of it
pub after_told : {A E : Type 0} (image after : Option Image) (r : Result A E) (old mid new : List ℕ) (first rest : Image → List ℕ)
    → after ≡ image → IfSome image (λ m. mid ≡ old ++ first m) → OnOk r (IfSome after (λ m. new ≡ mid ++ rest m)) → OnOk r (IfSome image (λ m. new ≡ old ++ (first m ++ rest m)))
after_told image after (Err e) old mid new first rest same one two = tt
after_told None after (Ok a) old mid new first rest same one two = tt
after_told (Some m) after (Ok a) old mid new first rest same one two = (rw same at two) ∙ ap (λ l. l ++ rest m) one ∙ append_assoc old (first m) (rest m)

-- where nothing shows that something was written over a word
pub unwritten : (image : Option Image) (o : PlanOf) (s : Suspect) (old : List ℕ) → is_written (meaning s.va s.now) ≡ false → IfSome image (λ m. old ≡ old ++ written_over (over_plan o m) s)
unwritten None o s old isnt = tt
unwritten (Some m) o s old isnt = rw isnt (sym (append-nil old))

-- what the other number of a word leads to
pub lead_added : (image : Option Image) (o : PlanOf) (s : Suspect) (lead : Lead) (old new : List ℕ)
    → LooksAs (λ (l : Lead). l) (λ m. lead_as m o.shapes.words.objects o.shapes.words.cpus (meaning s.va s.value) s.value) image (Ok lead)
    → new ≡ old ++ leads_line (image_symbols o.shapes.map) lead (meaning s.va s.value) s.value
    → IfSome image (λ m. new ≡ old ++ leads_over (over_plan o m) s)
lead_added None o s lead old new told c = tt
lead_added (Some m) o s lead old new told c =
    let is : lead ≡ lead_as m o.shapes.words.objects o.shapes.words.cpus (meaning s.va s.value) s.value = told in
    c ∙ ap (λ l. old ++ leads_line (image_symbols o.shapes.map) l (meaning s.va s.value) s.value) is

-- a word, and what is said of both its numbers
pub led_added : {A E : Type 0} (image : Option Image) (r : Result A E) (s : Suspect) (old one two new : List ℕ) (leads : Image → Suspect → List ℕ)
    → one ≡ old ++ suspect_part s → two ≡ one ++ codes "\n" → OnOk r (IfSome image (λ m. new ≡ two ++ leads m s)) → OnOk r (IfSome image (λ m. new ≡ old ++ led_lines (leads m) s))
led_added image (Err e) s old one two new leads a b c = tt
led_added None (Ok x) s old one two new leads a b c = tt
led_added (Some m) (Ok x) s old one two new leads a b c =
    c ∙ ap (λ l. l ++ leads m s) (b ∙ ap (λ l. l ++ codes "\n") a ∙ append_assoc old (suspect_part s) (codes "\n")) ∙ append_assoc old (suspect_part s ++ codes "\n") (leads m s)

-- all lines, under the root audit with a number
pub as_added : {A E : Type 0} (image after : Option Image) (r : Result A E) (o : PlanOf) (root : ℕ) (at : Option Asked) (asked : Asked) (number : ℕ) (kind : Kind) (v : Violation) (made : Result Mended ReadFailed) (mended : Mended) (old new : List ℕ)
    → after ≡ image → option_map asked_root at ≡ root_at root (plan_seen o.plan.now) → at ≡ Some asked → made ≡ Ok mended
    → IfOk made (λ x. IfSome image (λ m. x ≡ mended_of m (plan_seen o.plan.now) (asked.audit, asked.start) kind v number))
    → OnOk r (IfSome after (λ m. new ≡ old ++ mended_lines (leads_to (over_plan o m)) v mended))
    → OnOk r (IfSome image (λ m. new ≡ old ++ repairs_as (over_plan o m) root number kind v))
as_added image after (Err e) o root at asked number kind v made mended old new same rooted is answer exact added = tt
as_added None after (Ok a) o root at asked number kind v made mended old new same rooted is answer exact added = tt
as_added (Some m) after (Ok a) o root at asked number kind v made mended old new same rooted is answer exact added =
    let found : root_at root (plan_seen o.plan.now) ≡ Some (asked.audit, asked.start) = sym rooted ∙ ap (option_map asked_root) is in
    let whole : mended ≡ mended_of m (plan_seen o.plan.now) (asked.audit, asked.start) kind v number = rw answer at exact in
    rw found ((rw same at added) ∙ ap (λ (x : Mended). old ++ mended_lines (leads_to (over_plan o m)) v x) whole)
