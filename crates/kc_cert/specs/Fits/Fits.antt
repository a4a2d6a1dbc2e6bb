-- Which steps of a certificate fit a dump.
use Rattle.std.specs.Prelude.{ℕ, Bool, true, ◌&&◌, nat_eq, is_none, List, [], ◌∷◌}
use Rattle.kc_memory.specs.Image.{Image}
use Rattle.kc_plan.specs.Events.{first_wrong}
use Rattle.kc_plan.specs.Planned.{AuditAt}
use Rattle.kc_plan.specs.Seen.{checks_seen, container_of, world}
use Rattle.kc_cert.specs.declared.text.certificate.CertStep.{CertStep}
use Rattle.kc_cert.specs.Fits.Shapes.{is_shape, nodes_in}

-- the checks of an element that an audit meets from a start hold
abbrev pub checks_hold : Image → ℕ → AuditAt → ℕ → ℕ → Bool
checks_hold image n a start element = is_none (first_wrong (checks_seen (world image) (record { audit = n; start = start }) a.checks element))

-- and those of the elements of these nodes
abbrev pub all_hold : Image → ℕ → AuditAt → ℕ → List ℕ → Bool
all_hold image n a start [] = true
all_hold image n a start (node ∷ nodes) = checks_hold image n a start (container_of a.link node) && all_hold image n a start nodes

-- A step fits where audit n is walked from a start: it is of that audit and that start, its lists are the shape there, and
-- the checks of all elements hold.
unfoldable pub fits : Image → ℕ → AuditAt → ℕ → CertStep → Bool
fits image n a start s =
    (nat_eq s.audit n && nat_eq s.start start) && (is_shape image a.kind n start s.lists && all_hold image n a start (nodes_in a.kind s.lists))
