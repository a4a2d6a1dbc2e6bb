-- The structures of a plan stand in a dump: each of them meets what its kind promises, all the way down.
use Rattle.std.specs.Prelude.{ℕ, suc, nat_eq, IsTrue, List, [], ◌∷◌, Result, Ok, Err, MatchBool, ⊤}
use Rattle.std.specs.List.{AllByRecursion}
use Rattle.kc_memory.specs.Image.{Image}
use Rattle.kc_memory.specs.Stopped.{Stopped}
use Rattle.kc_kinds.specs.Structures.{Holds}
use Rattle.kc_plan.specs.Checks.{CheckHolds, numbers_of}
use Rattle.kc_plan.specs.Planned.{AuditAt, CheckAt}
use Rattle.kc_plan.specs.Seen.{PathEnd, EndsAt, NullAt, container_of, is_optional, number_at, path_end, path_of, roots}

-- each of these checks holds of an element
abbrev pub ChecksHold : Image → List CheckAt → ℕ → Type 0
ChecksHold image checks element =
    AllByRecursion (λ (check : CheckAt). CheckHolds check (numbers_of (number_at image element) check.fields)) checks

-- its checks hold of an element, and each audit that is named stands there, where `Go` says that one stands at an address
abbrev pub ElementStands : Image → AuditAt → (ℕ → ℕ → Type 0) → ℕ → Type 0
ElementStands image a Go element = ChecksHold image a.checks element × AllByRecursion (λ m. Go m element) a.each

-- some nodes make up the structure from a start, and each of their elements stands
abbrev pub WalkStands : Image → AuditAt → (ℕ → ℕ → Type 0) → ℕ → Type 0
WalkStands image a Go start =
    (nodes : List ℕ) × Holds image a.kind start nodes × AllByRecursion (λ node. ElementStands image a Go (container_of a.link node)) nodes

-- The pointers of an audit's path can be read, up to the first that is null. Either one is, and the audit is optional, or
-- none is, and the structure stands where they lead.
abbrev pub EnterStands : Image → AuditAt → (ℕ → ℕ → Type 0) → Result PathEnd Stopped → Type 0
EnterStands image a Go (Err s) = ⊥
EnterStands image a Go (Ok (NullAt place at)) = IsTrue (is_optional a.start)
EnterStands image a Go (Ok (EndsAt start)) = WalkStands image a Go start

-- Audit m stands at a base, where these audits have the numbers from k on. An audit names later ones alone.
unfoldable pub Stands : Image → List AuditAt → ℕ → ℕ → ℕ → Type 0
Stands image [] k m base = ⊤
Stands image (a ∷ later) k m base =
    MatchBool (nat_eq m k)
    (EnterStands image a (λ n element. Stands image later (suc k) n element) (path_end image base (path_of a.start).hops (path_of a.start).byte))
    (Stands image later (suc k) m base)

-- a root audit stands, by its number and its symbol's address
abbrev pub RootStands : Image → List AuditAt → ℕ × ℕ → Type 0
RootStands image audits r = Stands image audits 0 r.0 r.1

-- every root audit stands
abbrev pub PlanStands : Image → List AuditAt → Type 0
PlanStands image audits = AllByRecursion (RootStands image audits) (roots 0 audits)
