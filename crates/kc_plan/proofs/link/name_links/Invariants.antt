use Rattle.std.proofs.Common.{◌≡◌, drop, map}
use Rattle.kc_plan.specs.Links.{name_links}
use Rattle.kc_plan.specs.Views.{audit_text, text}
use Rattle.kc_plan.proofs.link.name_links.Given as goal

-- the links so far, and then those of the names that are left
abbrev pub invariant-loop-name : goal.invariant-loop-name
invariant-loop-name l =
    name_links (map audit_text l.audits) l.above l.links.items (map text (drop l.name-index l.names)) ≡ name_links (map audit_text l.audits) l.above l.fn.links.items (map text l.names)
