use Rattle.std.proofs.Common.{◌≡◌, drop}
use Rattle.kc_repair.specs.Suspect.Links.{leading_to}
use Rattle.kc_repair.proofs.suspect.links.second_to.Given as goal

-- the one that is looked for is among those that are left
abbrev pub invariant-loop-link : goal.invariant-loop-link
invariant-loop-link l = leading_to l.node l.others (drop l.link-index l.links) ≡ leading_to l.node 1 l.links
