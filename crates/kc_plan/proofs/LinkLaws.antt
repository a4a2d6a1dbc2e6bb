-- What holds of the links between audits.
use Rattle.std.proofs.Common.{◌≡◌, ℕ, zero, suc, ◌+◌, ◌<◌, Bool, true, false, not, ◌&&◌, ◌||◌, List, [], ◌∷◌, ◌++◌, length, Option, Some, None, Ok, refl, ap, sym, subst, ◌∙◌, arith}
use Rattle.std.specs.Prelude.{is_some, ⊤, nat_lt, ◌==◌, if◌then◌else◌}
use Rattle.std.specs.Str.{bytes_eq}
use Rattle.std.proofs.lemmas.Bool.{and_parts, cond_both, eqb-true, ltb-true, not-false}
use Rattle.kc_expr.specs.declared.keys.fault.PRule.TheVariants.{P6}
use Rattle.kc_expr.specs.declared.keys.fault.PlanKey.TheVariants.{Each, From}
use Rattle.kc_plan.specs.declared.item.Link.{Link}
use Rattle.kc_plan.specs.Audits.{AuditText}
use Rattle.kc_plan.specs.Links.{all_named, all_within, audit_links, is_named, linked, links_for, name_links, numbered, unless_named}
use Rattle.kc_plan.specs.Values.{◌>>=◌, at, refuse_if}
use Rattle.kc_plan.proofs.StepLemmas.{at_ok, bound, same_ok, tested}

-- the audit with a number begins at a `from`
abbrev pub has_from : List AuditText → ℕ → Bool
has_from [] n = false
has_from (audit ∷ audits) zero = is_some audit.start.from
has_from (audit ∷ audits) (suc n) = has_from audits n

pub from_within : (audits : List AuditText) (n : ℕ) → has_from audits n ≡ true → n < length audits
from_within [] n e = absurd (let none : ⊥ = cc in none)
from_within (audit ∷ audits) zero e = omega arith
from_within (audit ∷ audits) (suc n) e = let within : n < length audits = from_within audits n e in omega arith

-- a link leads to a later audit with `from`
pub record Leads (audits : List AuditText) (link : Link) : Type 0 where
  pub later : link.above < link.below
  pub from : has_from audits link.below ≡ true

abbrev pub AllLead : List AuditText → List Link → Type 0
AllLead audits [] = Unit {0}
AllLead audits (link ∷ links) = Leads audits link × AllLead audits links

abbrev pub one_if : Bool → ℕ
one_if b = if b then 1 else 0

-- how many links lead to an audit
abbrev pub times_linked : ℕ → List Link → ℕ
times_linked m [] = 0
times_linked m (link ∷ links) = one_if (link.below == m) + times_linked m links

-- links that lead so, to each audit one at most
pub record AreLinks (audits : List AuditText) (links : List Link) : Type 0 where
  pub lead : AllLead audits links
  pub once : (m : ℕ) → times_linked m links ≡ one_if (is_named links m)

-- a link more
lead_push : (audits : List AuditText) (links : List Link) (link : Link) → AllLead audits links → Leads audits link → AllLead audits (links ++ link ∷ [])
lead_push audits [] link all one = (one, tt)
lead_push audits (l ∷ ls) link all one = (all.0, lead_push audits ls link all.1 one)

times_push : (m : ℕ) (links : List Link) (link : Link) → times_linked m (links ++ link ∷ []) ≡ times_linked m links + one_if (link.below == m)
times_push m [] link = omega arith
times_push m (l ∷ ls) link = let rest : times_linked m (ls ++ link ∷ []) ≡ times_linked m ls + one_if (link.below == m) = times_push m ls link in omega arith

or_assoc : (a b c : Bool) → (a || (b || c)) ≡ ((a || b) || c)
or_assoc true b c = refl
or_assoc false b c = refl

or_false : (b : Bool) → (b || false) ≡ b
or_false true = refl
or_false false = refl

named_push : (m : ℕ) (links : List Link) (link : Link) → is_named (links ++ link ∷ []) m ≡ (is_named links m || (link.below == m))
named_push m [] link = or_false (link.below == m)
named_push m (l ∷ ls) link = ap (λ b. (l.below == m) || b) (named_push m ls link) ∙ or_assoc (l.below == m) (is_named ls m) (link.below == m)

one_more : (named here : Bool) → (here ≡ true → named ≡ false) → one_if named + one_if here ≡ one_if (named || here)
one_more true true fresh = absurd (let no : true ≡ false = fresh refl in let none : ⊥ = cc in none)
one_more true false fresh = omega arith
one_more false true fresh = omega arith
one_more false false fresh = omega arith

links_push : (audits : List AuditText) (links : List Link) (link : Link) → AreLinks audits links → Leads audits link → is_named links link.below ≡ false → AreLinks audits (links ++ link ∷ [])
links_push audits links link are one fresh = record {
  lead = lead_push audits links link are.lead one;
  once = λ m.
      let still : (link.below == m) ≡ true → is_named links m ≡ false = λ same. subst (λ n. is_named links n ≡ false) (eqb-true link.below m same) fresh in
      times_push m links link ∙ ap (λ n. n + one_if (link.below == m)) (are.once m) ∙ one_more (is_named links m) (link.below == m) still ∙ ap one_if (sym (named_push m links link));
}

-- the audit that a name means stands behind, and begins at a `from`
record Means (behind number : ℕ) (audits : List AuditText) (m : ℕ) : Type 0 where
  later : behind < m
  place : ℕ
  at : m ≡ number + place
  from : has_from audits place ≡ true

numbered_means : (name : List ℕ) (behind number : ℕ) (audits : List AuditText) (m : ℕ) → numbered name behind number audits ≡ Some m → Means behind number audits m
numbered_means name behind number [] m e = absurd (let none : ⊥ = cc in none)
numbered_means name behind number (audit ∷ audits) m e =
    let test : Bool = nat_lt behind number && (is_some audit.start.from && bytes_eq audit.name name) in
    let P : Option ℕ → Type 0 = λ found. found ≡ Some m → Means behind number (audit ∷ audits) m in
    cond_both test (Some number) (numbered name behind (number + 1) audits) P
    (λ passed is.
    let parts = and_parts (nat_lt behind number) (is_some audit.start.from && bytes_eq audit.name name) passed in
    let same : number ≡ m = cc in
    let behind_it : behind < number = ltb-true behind number parts.0 in
    record { later = omega arith; place = 0; at = omega arith; from = (and_parts (is_some audit.start.from) (bytes_eq audit.name name) parts.1).0 })
    (λ failed is.
    let rest : Means behind (number + 1) audits m = numbered_means name behind (number + 1) audits m is in
    let at : m ≡ (number + 1) + rest.place = rest.at in
    record { later = rest.later; place = suc rest.place; at = omega arith; from = rest.from }) e

-- the audit that a link leads to is named in no earlier one
record IsFresh (links : List Link) (found : Option ℕ) (below : ℕ) : Type 0 where
  is : found ≡ Some below
  fresh : is_named links below ≡ false

linked_is : (above : ℕ) (links : List Link) (found : Option ℕ) (link : Link) → linked above (unless_named links found) ≡ Ok link → (link.above ≡ above) × IsFresh links found link.below
linked_is above links None link e = absurd (let none : ⊥ = cc in none)
linked_is above links (Some below) link e =
    let P : Option ℕ → Type 0 = λ o. linked above o ≡ Ok link → (link.above ≡ above) × IsFresh links (Some below) link.below in
    cond_both (is_named links below) None (Some below) P
    (λ named is. absurd (let none : ⊥ = cc in none))
    (λ fresh is.
    let same : record { above = above; below = below } ≡ link = cc in
    subst (λ (l : Link). (l.above ≡ above) × IsFresh links (Some below) l.below) same (refl, record { is = refl; fresh = fresh })) e

-- the links of an audit's names
name_links_are : (audits : List AuditText) (above : ℕ) (links : List Link) (names : List (List ℕ)) (out : List Link) → AreLinks audits links → name_links audits above links names ≡ Ok out → AreLinks audits out
name_links_are audits above links [] out are e = let same : links ≡ out = cc in subst (AreLinks audits) same are
name_links_are audits above links (name ∷ names) out are e =
    let step = bound (at (Some above) Each (linked above (unless_named links (numbered name above 0 audits)))) (λ link. name_links audits above (links ++ link ∷ []) names) out e in
    let link : Link = step.0 in
    let is = linked_is above links (numbered name above 0 audits) link (at_ok (Some above) Each (linked above (unless_named links (numbered name above 0 audits))) link step.1) in
    let means : Means above 0 audits link.below = numbered_means name above 0 audits link.below is.1.is in
    let place : means.place ≡ link.below = let at : link.below ≡ 0 + means.place = means.at in omega arith in
    let later : link.above < link.below = let behind : above < link.below = means.later in let from : link.above ≡ above = is.0 in omega arith in
    let leads : Leads audits link = record { later = later; from = subst (λ n. has_from audits n ≡ true) place means.from } in
    name_links_are audits above (links ++ link ∷ []) names out (links_push audits links link are leads is.1.fresh) step.2

audit_links_are : (audits : List AuditText) (number : ℕ) (links : List Link) (rest : List AuditText) (out : List Link) → AreLinks audits links → audit_links audits number links rest ≡ Ok out → AreLinks audits out
audit_links_are audits number links [] out are e = let same : links ≡ out = cc in subst (AreLinks audits) same are
audit_links_are audits number links (audit ∷ rest) out are e =
    let step = bound (name_links audits number links audit.parts.each) (λ more. audit_links audits (number + 1) more rest) out e in
    audit_links_are audits (number + 1) step.0 rest out (name_links_are audits number links audit.parts.each step.0 are step.1) step.2

-- an audit with `from` is named
named_are : (links : List Link) (number : ℕ) (audits : List AuditText) (x : ⊤) → all_named links number audits ≡ Ok x → (n : ℕ) → has_from audits n ≡ true → is_named links (number + n) ≡ true
named_are links number [] x e n from = absurd (let none : ⊥ = cc in none)
named_are links number (audit ∷ audits) x e zero from =
    let step = bound (at (Some number) From (refuse_if (is_some audit.start.from && not (is_named links number)) P6)) (λ u. all_named links (number + 1) audits) x e in
    let passed : (is_some audit.start.from && not (is_named links number)) ≡ false = tested (Some number) From (is_some audit.start.from && not (is_named links number)) P6 step.0 step.1 in
    let missing : not (is_named links number) ≡ false = let whole : (true && not (is_named links number)) ≡ false = subst (λ b. (b && not (is_named links number)) ≡ false) from passed in whole in
    let same : number ≡ number + 0 = omega arith in
    subst (λ n. is_named links n ≡ true) same (not-false (is_named links number) missing)
named_are links number (audit ∷ audits) x e (suc n) from =
    let step = bound (at (Some number) From (refuse_if (is_some audit.start.from && not (is_named links number)) P6)) (λ u. all_named links (number + 1) audits) x e in
    let same : (number + 1) + n ≡ number + suc n = omega arith in
    subst (λ n. is_named links n ≡ true) same (named_are links (number + 1) audits x step.2 n from)

-- and what is named is an audit with `from`
named_at : (audits : List AuditText) (link : Link) (rest : Bool) (n : ℕ) → Leads audits link → (here : Bool) → (link.below == n) ≡ here → (here || rest) ≡ true → (rest ≡ true → has_from audits n ≡ true) → has_from audits n ≡ true
named_at audits link rest n leads true is e more = subst (λ n. has_from audits n ≡ true) (eqb-true link.below n is) leads.from
named_at audits link rest n leads false is e more = more e

named_from : (audits : List AuditText) (links : List Link) (n : ℕ) → AllLead audits links → is_named links n ≡ true → has_from audits n ≡ true
named_from audits [] n all e = absurd (let none : ⊥ = cc in none)
named_from audits (link ∷ links) n all e = named_at audits link (is_named links n) n all.0 (link.below == n) refl e (named_from audits links n all.1)

pub same_truth : (a b : Bool) → (a ≡ true → b ≡ true) → (b ≡ true → a ≡ true) → a ≡ b
same_truth true b to from = sym (to refl)
same_truth false true to from = from refl
same_truth false false to from = refl

-- the links of a plan: exactly the audits with `from` are named, each once
pub record AreAllLinks (audits : List AuditText) (links : List Link) : Type 0 where
  pub are : AreLinks audits links
  pub named : (n : ℕ) → is_named links n ≡ has_from audits n

pub links_are : (audits : List AuditText) (links : List Link) → links_for audits ≡ Ok links → AreAllLinks audits links
unfolding links_for
links_are audits links e =
    let all = bound (audit_links audits 0 [] audits) (λ ls. all_named ls 0 audits >>= λ named. all_within ls 0 audits >>= λ within. Ok ls) links e in
    let named = bound (all_named all.0 0 audits) (λ named. all_within all.0 0 audits >>= λ within. Ok all.0) links all.2 in
    let within = bound (all_within all.0 0 audits) (λ within. Ok all.0) links named.2 in
    let same : all.0 ≡ links = same_ok all.0 links within.2 in
    let are : AreLinks audits all.0 = audit_links_are audits 0 [] audits all.0 (record { lead = tt; once = λ m. refl }) all.1 in
    let found : AreAllLinks audits all.0 = record {
      are = are;
      named = λ n. same_truth (is_named all.0 n) (has_from audits n) (named_from audits all.0 n are.lead)
          (λ from. let number : 0 + n ≡ n = omega arith in subst (λ n. is_named all.0 n ≡ true) number (named_are all.0 0 audits named.0 named.1 n from));
    } in
    subst (AreAllLinks audits) same found
