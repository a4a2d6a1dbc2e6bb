use Rattle.std.proofs.Common.{[], ◌∷◌, ◌++◌, ap, ◌∙◌}
use Rattle.kc_repair.specs.Suspect.FreePointers.{free_pointer}
use Rattle.kc_repair.proofs.SuspectLemmas.MadeLemmas.{more_pointers, no_pointers}
use Rattle.kc_repair.proofs.suspect.free.push_objects.Goals as goal

pub loop-i-init : goal.loop-i-init
loop-i-init c = no_pointers c.args.random c.args.at c.args.size c.args.object c.args.changes.now

pub loop-i-preserved : goal.loop-i-preserved
loop-i-preserved c =
    more_pointers c.args.random c.args.at c.args.size c.args.object c.loop-i.i c.args.changes.now c.loop-i.changes _ c.loop-i.invariant
    (c.in_ok-push.ensures.added ∙ ap (λ change. c.loop-i.changes ++ change ∷ []) (c.free_pointer.ensures ∙ ap (free_pointer c.args.random c.args.at) c.object_near.ensures))
