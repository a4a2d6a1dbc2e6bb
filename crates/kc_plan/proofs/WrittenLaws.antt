-- What holds of each audit of a document.
use Rattle.std.proofs.Common.{◌≡◌, ℕ, Bool, true, false, not, ◌&&◌, ◌||◌, List, [], ◌∷◌, ◌++◌, length, Option, Some, None, Result, Ok, refl, ap, sym, subst, ◌∙◌}
use Rattle.std.specs.Prelude.{is_some, ⊤}
use Rattle.std.specs.Option.{option_map_or}
use Rattle.std.proofs.lemmas.Bool.{not-false}
use Rattle.toml.specs.Data.{Members, as_str}
use Rattle.kc_word.specs.declared.plain.Tail.{Tail}
use Rattle.kc_text.specs.Readers.{is_name}
use Rattle.kc_expr.specs.declared.keys.fault.PRule.TheVariants.{P3, P4, P5}
use Rattle.kc_expr.specs.declared.keys.fault.PlanFault.{PlanFault}
use Rattle.kc_expr.specs.declared.keys.fault.PlanKey.TheVariants as key
use Rattle.kc_kinds.specs.declared.needs.Need.TheVariants.{Allowed}
use Rattle.kc_kinds.specs.declared.kinds.Sort.{Sort}
use Rattle.kc_plan.specs.Audits.{AuditText, PartText, PlanText, StartText, all_keys, audit_for, audits_for, is_among, kind_for, name_for, parts_for, start_for}
use Rattle.kc_plan.specs.Keys.{audit_keys, is_one_of, top_keys}
use Rattle.kc_kinds.specs.Kinds.{needs_of}
use Rattle.kc_plan.specs.Steps.{tables_for, tail_for, version_for, written_for}
use Rattle.kc_plan.specs.Values.{◌>>=◌, asked, at, flag_for, has, refuse_if, required, text_for, value_at}
use Rattle.kc_plan.proofs.StepLemmas.{allowed_is, at_ok, bound, same_ok, tested}

-- where it begins: at a symbol, or at a `from`
abbrev pub StartsOnce : StartText → Type 0
StartsOnce start = is_some start.from ≡ not (is_some start.root)

-- and its name has the form
pub record IsWritten (audit : AuditText) : Type 0 where
  pub name : is_name audit.name ≡ true
  pub start : StartsOnce audit.start

abbrev pub AreWritten : List AuditText → Type 0
AreWritten [] = Unit {0}
AreWritten (audit ∷ audits) = IsWritten audit × AreWritten audits

name_formed : (earlier : List AuditText) (n : Option ℕ) (table : Members) (name : List ℕ) → name_for earlier n table ≡ Ok name → is_name name ≡ true
unfolding name_for
name_formed earlier n table name e =
    let fresh : List ℕ → Result (List ℕ) PlanFault = λ text. at n key.Name (refuse_if (is_among text earlier) P5) >>= λ fresh. Ok text in
    let formed : List ℕ → Result ⊤ PlanFault = λ text. at n key.Name (refuse_if (not (is_name text)) P4) in
    let first = bound (at n key.Name (required as_str (value_at key.Name table))) (λ text. formed text >>= λ formed. fresh text) name e in
    let second = bound (formed first.0) (λ formed. fresh first.0) name first.2 in
    let third = bound (at n key.Name (refuse_if (is_among first.0 earlier) P5)) (λ fresh. Ok first.0) name second.2 in
    subst (λ name. is_name name ≡ true) (same_ok first.0 name third.2) (not-false (is_name first.0) (tested n key.Name (not (is_name first.0)) P4 second.0 second.1))

-- where an audit begins, step by step
record StartSteps (root from : Result (Option (List ℕ)) PlanFault) (begins once : Result ⊤ PlanFault) (start : StartText) : Type 0 where
  root_is : root ≡ Ok start.root
  from_is : from ≡ Ok start.from
  begins_is : begins ≡ Ok _
  once_is : once ≡ Ok _

abbrev Texts : Type 0
Texts = Result (Option (List ℕ)) PlanFault

abbrev Tests : Type 0
Tests = Result ⊤ PlanFault

start_steps : (root : Texts) (begins : Tests) (root_type : Texts) (typed : Tests) (root_path : Texts) (led : Tests) (from : Texts) (once : Tests) (optional : Result (Option Bool) PlanFault) (nested : Tests) (start : StartText)
    → (root >>= λ a. begins >>= λ b. root_type >>= λ c. typed >>= λ d. root_path >>= λ e. led >>= λ f. from >>= λ g. once >>= λ h. optional >>= λ i. nested >>= λ j.
    Ok (record { root = a; root_type = c; root_path = e; from = g; optional = option_map_or (λ flag. flag) i false })) ≡ Ok start
    → StartSteps root from begins once start
start_steps (Ok a) (Ok b) (Ok c) (Ok d) (Ok e) (Ok f) (Ok g) (Ok h) (Ok i) (Ok j) start is =
    subst (StartSteps (Ok a) (Ok g) (Ok b) (Ok h)) (same_ok (record { root = a; root_type = c; root_path = e; from = g; optional = option_map_or (λ flag. flag) i false }) start is)
    (record { root_is = refl; from_is = refl; begins_is = refl; once_is = refl })
start_steps root begins root_type typed root_path led from once optional nested start is = absurd (let none : ⊥ = cc in none)

-- one of two that are not both missing and not both there
one_of : (a b : Bool) → not (a || b) ≡ false → (a && b) ≡ false → b ≡ not a
one_of true true some once = absurd (let none : ⊥ = cc in none)
one_of true false some once = refl
one_of false true some once = refl
one_of false false some once = absurd (let none : ⊥ = cc in none)

starts_once : (n : Option ℕ) (table : Members) (start : StartText) → start_for n table ≡ Ok start → StartsOnce start
unfolding start_for
starts_once n table start e =
    let steps = start_steps (text_for n Allowed key.Root table)
    (at n key.Root (refuse_if (not (has key.Root table || has key.From table)) P3))
    (text_for n Allowed key.RootType table)
    (at n key.RootType (refuse_if ((has key.RootPath table && not (has key.RootType table)) || (has key.RootType table && not (has key.Root table))) P3))
    (text_for n Allowed key.RootPath table)
    (at n key.RootPath (refuse_if ((has key.RootType table && not (has key.RootPath table)) || (has key.RootPath table && not (has key.Root table))) P3))
    (text_for n Allowed key.From table)
    (at n key.From (refuse_if (has key.Root table && has key.From table) P3))
    (flag_for n Allowed key.Optional table)
    (at n key.Optional (refuse_if (has key.Optional table && not (has key.From table)) P3)) start e in
    let root : is_some start.root ≡ has key.Root table = allowed_is as_str (value_at key.Root table) start.root (at_ok n key.Root (asked as_str Allowed (value_at key.Root table)) start.root steps.root_is) in
    let from : is_some start.from ≡ has key.From table = allowed_is as_str (value_at key.From table) start.from (at_ok n key.From (asked as_str Allowed (value_at key.From table)) start.from steps.from_is) in
    let some : not (has key.Root table || has key.From table) ≡ false = tested n key.Root (not (has key.Root table || has key.From table)) P3 _ steps.begins_is in
    let once : (has key.Root table && has key.From table) ≡ false = tested n key.From (has key.Root table && has key.From table) P3 _ steps.once_is in
    from ∙ one_of (has key.Root table) (has key.From table) some once ∙ ap not (sym root)

written_from : (name : List ℕ) (sort : Sort) (start : StartText) (parts : PartText) (audit : AuditText)
    → ◌≡◌ {A = Result AuditText PlanFault} (Ok (record { name = name; sort = sort; start = start; parts = parts })) (Ok audit)
    → is_name name ≡ true → StartsOnce start → IsWritten audit
written_from name sort start parts audit e formed once =
    subst IsWritten (same_ok (record { name = name; sort = sort; start = start; parts = parts }) audit e) (record { name = formed; start = once })

audit_written : (earlier : List AuditText) (n : Option ℕ) (table : Members) (audit : AuditText) → audit_for earlier n table ≡ Ok audit → IsWritten audit
unfolding audit_for
audit_written earlier n table audit e =
    let parted : Sort → List ℕ → StartText → Result AuditText PlanFault = λ sort name start. parts_for n (needs_of sort) table >>= λ parts. Ok (record { name = name; sort = sort; start = start; parts = parts }) in
    let started : Sort → List ℕ → Result AuditText PlanFault = λ sort name. start_for n table >>= λ start. parted sort name start in
    let named : Sort → Result AuditText PlanFault = λ sort. name_for earlier n table >>= λ name. started sort name in
    let known : Result ⊤ PlanFault = at n key.Other (refuse_if (not (all_keys (is_one_of audit_keys) table)) P3) in
    let sort = bound (kind_for n table) (λ sort. known >>= λ known. named sort) audit e in
    let keys = bound known (λ known. named sort.0) audit sort.2 in
    let name = bound (name_for earlier n table) (started sort.0) audit keys.2 in
    let start = bound (start_for n table) (parted sort.0 name.0) audit name.2 in
    let parts = bound (parts_for n (needs_of sort.0) table) (λ parts. Ok (record { name = name.0; sort = sort.0; start = start.0; parts = parts })) audit start.2 in
    written_from name.0 sort.0 start.0 parts.0 audit parts.2 (name_formed earlier n table name.0 name.1) (starts_once n table start.0 start.1)

written_push : (audits : List AuditText) (audit : AuditText) → AreWritten audits → IsWritten audit → AreWritten (audits ++ audit ∷ [])
written_push [] audit all one = (one, tt)
written_push (a ∷ rest) audit all one = (all.0, written_push rest audit all.1 one)

all_written : (earlier : List AuditText) (tables : List Members) (out : List AuditText) → AreWritten earlier → audits_for earlier tables ≡ Ok out → AreWritten out
all_written earlier [] out all e = subst AreWritten (same_ok earlier out e) all
all_written earlier (table ∷ tables) out all e =
    let one = bound (audit_for earlier (Some (length earlier)) table) (λ audit. audits_for (earlier ++ audit ∷ []) tables) out e in
    all_written (earlier ++ one.0 ∷ []) tables out (written_push earlier one.0 all (audit_written earlier (Some (length earlier)) table one.0 one.1)) one.2

pub are_written : (table : Members) (plan : PlanText) → written_for table ≡ Ok plan → AreWritten plan.audits
unfolding written_for
are_written table plan e =
    let read : ℕ → Tail → List Members → Result PlanText PlanFault = λ version tail these. audits_for [] these >>= λ audits. Ok (record { version = version; tail = tail; audits = audits }) in
    let by_tail : ℕ → Tail → Result PlanText PlanFault = λ version tail. tables_for table >>= λ these. read version tail these in
    let known : Result ⊤ PlanFault = at None key.Other (refuse_if (not (all_keys (is_one_of top_keys) table)) P3) in
    let version = bound (version_for table) (λ version. known >>= λ known. tail_for table >>= λ tail. by_tail version tail) plan e in
    let keys = bound known (λ known. tail_for table >>= λ tail. by_tail version.0 tail) plan version.2 in
    let tail = bound (tail_for table) (by_tail version.0) plan keys.2 in
    let these = bound (tables_for table) (read version.0 tail.0) plan tail.2 in
    let audits = bound (audits_for [] these.0) (λ audits. Ok (record { version = version.0; tail = tail.0; audits = audits })) plan these.2 in
    let made : PlanText = record { version = version.0; tail = tail.0; audits = audits.0 } in
    subst (λ (plan : PlanText). AreWritten plan.audits) (same_ok made plan audits.2) (all_written [] these.0 audits.0 tt audits.1)
