-- One level of the way down through the page tables.
use Rattle.std.proofs.Common.{◌≡◌, ◌≢◌, ℕ, zero, suc, ◌+◌, ◌-◌, ◌%◌, Option, Some, None, Result, Ok, Err, arith, refl, subst, sym, ap}
use Rattle.kc_memory.specs.declared.space.Stop.{Stop}
use Rattle.kc_memory.specs.declared.space.Stop.TheVariants.{Miss, Fault}
use Rattle.kc_memory.specs.Stopped.{Stopped}
use Rattle.kc_memory.specs.Image.{Physical}
use Rattle.kc_memory.specs.Reads.{StepsAre, below_entry, entries_read}
use Rattle.kc_memory.specs.Space.{AnswersAs, Is}
use Rattle.kc_memory.specs.Translation as words
use Rattle.kc_memory.specs.Translation.{entered, follow, xlate, and_then}
use Rattle.kc_page.specs.declared.entry.Step.TheVariants.{Table, Large}
use Rattle.kc_page.specs.Step.{StepsAs}

pub descent_ends : (image : Option Physical) (sme va level table : ℕ) → level ≡ 0 → AnswersAs (λ physical. xlate physical sme va level table) image (Ok (table + va % 4096))
unfolding xlate
descent_ends None sme va level table end = tt
descent_ends (Some physical) sme va zero table end = refl
descent_ends (Some physical) sme va (suc level) table end = absurd (omega arith)

-- through an entry that leads to a table
pub descent_goes : (image : Option Physical) (sme va level table next : ℕ) (r : Result ℕ Stop) → level ≢ 0
    → StepsAs (λ physical. entered physical sme va level table) image (Ok (Table next))
    → AnswersAs (λ physical. xlate physical sme va (level - 1) next) image r
    → AnswersAs (λ physical. xlate physical sme va level table) image r
unfolding xlate
descent_goes None sme va level table next r some enters answers = tt
descent_goes (Some physical) sme va zero table next r some enters answers = absurd (some refl)
descent_goes (Some physical) sme va (suc level) table next r some enters answers =
    let same : suc level - 1 ≡ level = omega arith in
    let P : Result ℕ Stopped → Type 0 = λ truth. Is truth r in
    let left : and_then (entered physical sme va (suc level) table) (λ w. follow w (xlate physical sme va level)) ≡ xlate physical sme va level next = ap (λ e. and_then e (λ w. follow w (xlate physical sme va level))) enters in
    let below : Is (xlate physical sme va level next) r = subst (λ (k : ℕ). Is (xlate physical sme va k next) r) same answers in
    subst P (sym left) below

-- through an entry that maps a large page
pub descent_arrives : (image : Option Physical) (sme va level table pa : ℕ) → level ≢ 0
    → StepsAs (λ physical. entered physical sme va level table) image (Ok (Large pa))
    → AnswersAs {A = ℕ} (λ physical. xlate physical sme va level table) image (Ok pa)
unfolding xlate
descent_arrives None sme va level table pa some enters = tt
descent_arrives (Some physical) sme va zero table pa some enters = absurd (some refl)
descent_arrives (Some physical) sme va (suc level) table pa some enters = ap (λ e. and_then e (λ w. follow w (xlate physical sme va level))) enters

pub descent_stops : (image : Option Physical) (sme va level table : ℕ) (stop : Stop) → level ≢ 0
    → StepsAs (λ physical. entered physical sme va level table) image (Err stop)
    → AnswersAs {A = ℕ} (λ physical. xlate physical sme va level table) image (Err stop)
unfolding xlate
descent_stops None sme va level table stop some e = tt
descent_stops (Some physical) sme va zero table stop some e = absurd (some refl)
descent_stops (Some physical) sme va (suc level) table (Miss m) some e = ap (λ x. and_then x (λ w. follow w (xlate physical sme va level))) e
descent_stops (Some physical) sme va (suc level) table Fault some e = tt

-- the entries that are looked at on the way
pub reads_end : (image : Option Physical) (sme va level table steps pa : ℕ) → level ≡ 0
    → StepsAre {A = ℕ} (λ physical. entries_read physical sme va level table) image (Ok pa) steps steps
unfolding entries_read
reads_end None sme va level table steps pa end = tt
reads_end (Some physical) sme va zero table steps pa end = omega arith
reads_end (Some physical) sme va (suc level) table steps pa end = absurd (omega arith)

-- how many are on the way after an entry
reads_below : (physical : Physical) (sme va level table next : ℕ) → entered physical sme va (suc level) table ≡ Ok (words.Table next)
    → entries_read physical sme va (suc level) table ≡ 1 + entries_read physical sme va level next
unfolding entries_read
reads_below physical sme va level table next enters = ap (λ e. 1 + below_entry e (entries_read physical sme va level)) enters

more : (physical : Physical) (sme va level table next before between after : ℕ) (r : Result ℕ Stop)
    → entries_read physical sme va (suc level) table ≡ 1 + entries_read physical sme va level next → between ≡ before + 1
    → StepsAre (λ (p : Physical). entries_read p sme va level next) (Some physical) r between after
    → StepsAre (λ (p : Physical). entries_read p sme va (suc level) table) (Some physical) r before after
more physical sme va level table next before between after (Ok pa) one step rest = omega arith
more physical sme va level table next before between after (Err (Miss s)) one step rest = omega arith
more physical sme va level table next before between after (Err Fault) one step rest = omega arith

pub reads_go : (image : Option Physical) (sme va level table next before between after : ℕ) (r : Result ℕ Stop) → level ≢ 0
    → StepsAs (λ physical. entered physical sme va level table) image (Ok (Table next)) → between ≡ before + 1
    → StepsAre (λ physical. entries_read physical sme va (level - 1) next) image r between after
    → StepsAre (λ physical. entries_read physical sme va level table) image r before after
reads_go None sme va level table next before between after r some enters step rest = tt
reads_go (Some physical) sme va zero table next before between after r some enters step rest = absurd (some refl)
reads_go (Some physical) sme va (suc level) table next before between after r some enters step rest =
    let same : suc level - 1 ≡ level = omega arith in
    let below = subst (λ (k : ℕ). StepsAre (λ (p : Physical). entries_read p sme va k next) (Some physical) r between after) same rest in
    more physical sme va level table next before between after r (reads_below physical sme va level table next enters) step below

pub reads_arrive : (image : Option Physical) (sme va level table pa before after : ℕ) → level ≢ 0
    → StepsAs (λ physical. entered physical sme va level table) image (Ok (Large pa)) → after ≡ before + 1
    → StepsAre {A = ℕ} (λ physical. entries_read physical sme va level table) image (Ok pa) before after
unfolding entries_read
reads_arrive None sme va level table pa before after some enters step = tt
reads_arrive (Some physical) sme va zero table pa before after some enters step = absurd (some refl)
reads_arrive (Some physical) sme va (suc level) table pa before after some enters step =
    let one : entries_read physical sme va (suc level) table ≡ 1 + 0 = ap (λ e. 1 + below_entry e (entries_read physical sme va level)) enters in
    omega arith

pub reads_stop : (image : Option Physical) (sme va level table before after : ℕ) (stop : Stop) → level ≢ 0
    → StepsAs (λ physical. entered physical sme va level table) image (Err stop) → after ≡ before + 1
    → StepsAre {A = ℕ} (λ physical. entries_read physical sme va level table) image (Err stop) before after
unfolding entries_read
reads_stop None sme va level table before after stop some e step = tt
reads_stop (Some physical) sme va zero table before after stop some e step = absurd (some refl)
reads_stop (Some physical) sme va (suc level) table before after (Miss m) some e step =
    let one : entries_read physical sme va (suc level) table ≡ 1 + 0 = ap (λ x. 1 + below_entry x (entries_read physical sme va level)) e in
    omega arith
reads_stop (Some physical) sme va (suc level) table before after Fault some e step = omega arith
