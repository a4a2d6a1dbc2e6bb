use Rattle.std.proofs.Common.{Ok, Option, option_map, subst, sym, ◌∙◌}
use Rattle.kc_outside.specs.declared.store.Slot.TheVariants.{Dump}
use Rattle.kc_outside.specs.Files.{content}
use Rattle.kc_memory.specs.Frames.{ReadsWord}
use Rattle.kc_memory.specs.Image.{Physical}
use Rattle.kc_phys.specs.Patch.Changed.{patched_all}
use Rattle.kc_phys.proofs.PatchLemmas.Words.{past_change}
use Rattle.kc_phys.proofs.patch.patched.PatchedFrames.word.Goals as goal

pub returns-in-None-clause-word : goal.returns-in-None-clause-word
returns-in-None-clause-word g c =
    let new = c.word.new.self in
    subst (λ (p : Option Physical). ReadsWord (option_map (patched_all c.args.self.now.changes.now) p) c.args.pa (Ok c.in-Ok.word)) c.in-Ok.ensures.stays.same_image
    (past_change (content (g.S.Store.files new.store.now) Dump (g.S.Store.opened new.store.now Dump)) new.segments.items new.tail c.args.pa new.end c.args.self.now.changes.now c.in-Ok.word
    new.ends (sym c.changed_at.ensures ∙ c.in-None.is) (subst (λ (p : Option Physical). ReadsWord p c.args.pa (Ok c.in-Ok.word)) (sym c.in-Ok.ensures.stays.same_image) c.in-Ok.ensures.word))
