-- Certificates: the shapes of a clean dump, walk by walk, and which of their steps fit a dump.
use Rattle.std.specs.Prelude.{ℕ, suc, ◌+◌, ◌-◌, nat_eq, if◌then◌else◌, List, [], ◌∷◌, length, Result, Ok, Err}
use Rattle.kc_memory.specs.Image.{Image}
use Rattle.kc_memory.specs.Stopped.{Stopped}
use Rattle.kc_found.specs.declared.verdict.AuditCount.{AuditCount}
use Rattle.kc_found.specs.Trials.{and_then}
use Rattle.kc_plan.specs.Planned.{AuditAt}
use Rattle.kc_plan.specs.Seen.{PathEnd, EndsAt, NullAt, container_of, is_optional, path_end, path_of, roots}
use Rattle.kc_run.specs.Parts.{Part, Done, Then, Enter, Look, Element}
use Rattle.kc_run.specs.Tally.{added, zeros}
use Rattle.kc_cert.specs.declared.text.certificate.CertStep.{CertStep}
use Rattle.kc_cert.specs.declared.rechecking.against.CertAnswer.{CertAnswer}
use Rattle.kc_cert.specs.declared.rechecking.against.CertAnswer.TheVariants.{Yes, No}
use Rattle.kc_cert.specs.Fits.Fits.{fits}
use Rattle.kc_cert.specs.Fits.Shapes.{nodes_in}

-- how far a certificate was judged: the steps that are left, and the counts of those before
pub record Progress : Type 0 where
  pub left : List CertStep
  pub counts : List AuditCount

abbrev pub at : List CertStep → List AuditCount → Progress
at left counts = record { left = left; counts = counts }

-- what is judged of the steps that are left: how far they fit, or those from the first on that doesn't
abbrev pub Judged : Type 0
Judged = Result Progress (List CertStep)

abbrev pub Judge : Type 0
Judge = Progress → Judged

-- each thing in turn takes its steps
abbrev pub each_judged : {X : Type 0} → (X → Judge) → List X → Judge
each_judged judge [] p = Ok p
each_judged judge (x ∷ xs) p = and_then (judge x p) (each_judged judge xs)

-- what the audits take that an element is the base of, where `go` judges one from a base
abbrev pub below_judged : AuditAt → (ℕ → ℕ → Judge) → ℕ → Judge
below_judged a go element = each_judged (λ m. go m element) a.each

-- the nodes of a step, and what lies below each
abbrev pub nodes_judged : AuditAt → (ℕ → ℕ → Judge) → List ℕ → Judge
nodes_judged a go nodes = each_judged (λ node. below_judged a go (container_of a.link node)) nodes

-- the counts after a walk of audit n with these nodes
abbrev pub after_walk : List CertStep → List AuditCount → ℕ → List ℕ → Progress
after_walk left counts n nodes = record { left = left; counts = added counts n (length nodes) }

-- Audit n is walked from a start. It takes the next step, which is judged whole before those of the walks below it.
abbrev pub walk_judged : Image → ℕ → AuditAt → ℕ → (ℕ → ℕ → Judge) → List AuditCount → List CertStep → Judged
walk_judged image n a start go counts [] = Err []
walk_judged image n a start go counts (s ∷ left) =
    if fits image n a start s then nodes_judged a go (nodes_in a.kind s.lists) (after_walk left counts n (nodes_in a.kind s.lists))
    else Err (s ∷ left)

-- audit n, by where its path leads: where that stops, or a pointer is null, no step fits
abbrev pub entry_judged : Image → ℕ → AuditAt → (ℕ → ℕ → Judge) → Result PathEnd Stopped → Judge
entry_judged image n a go (Err s) p = Err p.left
entry_judged image n a go (Ok (NullAt place at)) p = if is_optional a.start then Ok p else Err p.left
entry_judged image n a go (Ok (EndsAt start)) p = walk_judged image n a start go p.counts p.left

-- audit m from a base, where these audits have the numbers from k on
unfoldable pub judged : Image → List AuditAt → ℕ → ℕ → ℕ → Judge
judged image [] k m base p = Ok p
judged image (a ∷ later) k m base p =
    if nat_eq m k then entry_judged image k a (λ n element. judged image later (suc k) n element) (path_end image base (path_of a.start).hops (path_of a.start).byte) p
    else judged image later (suc k) m base p

-- what a part of a run takes
abbrev pub judging : Image → List AuditAt → Part → Judge
judging image audits Done p = Ok p
judging image audits (Then a b) p = and_then (judging image audits a p) (judging image audits b)
judging image audits (Enter n base) p = judged image audits 0 n base p
judging image audits (Look n a start) p = walk_judged image n a start (λ m base. judged image audits 0 m base) p.counts p.left
judging image audits (Element n a start element) p = below_judged a (λ m base. judged image audits 0 m base) element p

-- all root audits
abbrev pub roots_judged : Image → List AuditAt → Judge
roots_judged image audits = each_judged (λ r. judged image audits 0 r.0 r.1) (roots 0 audits)

-- the number of the first of the steps that are left
abbrev pub number_of : List CertStep → List CertStep → ℕ
number_of steps left = length steps - length left + 1

-- the answer, by what is left: a step too many doesn't fit
abbrev pub answer_by : List CertStep → List AuditCount → List CertStep → CertAnswer
answer_by steps counts [] = Yes counts
answer_by steps counts (s ∷ left) = No (number_of steps (s ∷ left))

abbrev pub answer_of : List CertStep → Judged → CertAnswer
answer_of steps (Ok p) = answer_by steps p.counts p.left
answer_of steps (Err left) = No (number_of steps left)

-- whether a certificate fits a dump: the counts of its audits, or the number of the first step that doesn't
abbrev pub answer : Image → List AuditAt → List CertStep → CertAnswer
answer image audits steps = answer_of steps (roots_judged image audits (record { left = steps; counts = zeros audits }))
