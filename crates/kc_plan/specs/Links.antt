-- Which audit names which in `each`.
use Rattle.std.specs.Prelude.{ℕ, zero, suc, ◌+◌, List, [], ◌∷◌, ◌++◌, Bool, true, false, not, ◌&&◌, ◌||◌, ◌==◌, nat_lt, Option, Some, None, is_some, Result, Ok, Err, ⊤, if◌then◌else◌}
use Rattle.std.specs.Str.{bytes_eq}
use Rattle.kc_expr.specs.declared.keys.fault.PRule.{PRule}
use Rattle.kc_expr.specs.declared.keys.fault.PRule.TheVariants.{P6, P7}
use Rattle.kc_expr.specs.declared.keys.fault.PlanFault.{PlanFault}
use Rattle.kc_expr.specs.declared.keys.fault.PlanKey.TheVariants.{Each, From}
use Rattle.kc_plan.specs.declared.item.Link.{Link}
use Rattle.kc_plan.specs.Audits.{AuditText}
use Rattle.kc_plan.specs.Values.{◌>>=◌, at, refuse_if}

-- the number of the first audit with a name that begins at a `from`, where they are counted from a number on
-- and only those behind a number are looked at
abbrev pub numbered : List ℕ → ℕ → ℕ → List AuditText → Option ℕ
numbered name behind number [] = None
numbered name behind number (audit ∷ audits) =
    if nat_lt behind number && (is_some audit.start.from && bytes_eq audit.name name) then Some number
    else numbered name behind (number + 1) audits

-- the audit with this number is named in one of the links
abbrev pub is_named : List Link → ℕ → Bool
is_named [] number = false
is_named (link ∷ links) number = (link.below == number) || is_named links number

-- the number, where the links don't name it
abbrev pub unless_named : List Link → Option ℕ → Option ℕ
unless_named links None = None
unless_named links (Some number) = if is_named links number then None else Some number

-- the link from an audit to another
abbrev pub linked : ℕ → Option ℕ → Result Link PRule
linked above None = Err P6
linked above (Some below) = Ok (record { above = above; below = below })

-- the links of the names that an audit lists, behind these
abbrev pub name_links : List AuditText → ℕ → List Link → List (List ℕ) → Result (List Link) PlanFault
name_links audits above links [] = Ok links
name_links audits above links (name ∷ names) = do
  link ← at (Some above) Each (linked above (unless_named links (numbered name above 0 audits)))
  name_links audits above (links ++ link ∷ []) names

-- the links of audits that are counted from a number on, behind these
abbrev pub audit_links : List AuditText → ℕ → List Link → List AuditText → Result (List Link) PlanFault
audit_links audits number links [] = Ok links
audit_links audits number links (audit ∷ rest) = do
  more ← name_links audits number links audit.parts.each
  audit_links audits (number + 1) more rest

-- each audit with `from` is named
abbrev pub all_named : List Link → ℕ → List AuditText → Result ⊤ PlanFault
all_named links number [] = Ok _
all_named links number (audit ∷ audits) = do
  named ← at (Some number) From (refuse_if (is_some audit.start.from && not (is_named links number)) P6)
  all_named links (number + 1) audits

-- the number of the audit that names another
abbrev pub above_of : List Link → ℕ → Option ℕ
above_of [] number = None
above_of (link ∷ links) number = if link.below == number then Some link.above else above_of links number

-- an audit stands at most so deep: one that no other names stands at 1, and the others one deeper than the
-- audit that names them
abbrev pub is_within_above : (ℕ → Bool) → Option ℕ → Bool
is_within_above inner None = true
is_within_above inner (Some above) = inner above

unfoldable pub is_within : ℕ → List Link → ℕ → Bool
is_within zero links number = false
is_within (suc most) links number = is_within_above (is_within most links) (above_of links number)

-- each audit stands at most 4 deep
abbrev pub all_within : List Link → ℕ → List AuditText → Result ⊤ PlanFault
all_within links number [] = Ok _
all_within links number (audit ∷ audits) = do
  within ← at (Some number) From (refuse_if (not (is_within 4 links number)) P7)
  all_within links (number + 1) audits

-- which audit names which
unfoldable pub links_for : List AuditText → Result (List Link) PlanFault
links_for audits = do
  links ← audit_links audits 0 [] audits
  named ← all_named links 0 audits
  within ← all_within links 0 audits
  Ok links
