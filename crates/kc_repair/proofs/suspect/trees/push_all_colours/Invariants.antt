use Rattle.std.proofs.Common.{◌≡◌, ◌++◌, drop}
use Rattle.kc_repair.specs.Suspect.Trees.{colours_of}
use Rattle.kc_repair.proofs.suspect.trees.push_all_colours.Given as goal

-- what was added, and what is still to come, are the whole
abbrev pub invariant-loop-link : goal.invariant-loop-link
invariant-loop-link l = l.changes ++ colours_of l.shape (drop l.link-index l.links) ≡ l.fn.changes ++ colours_of l.shape l.links
