use Rattle.std.proofs.Common.{◌≡◌, ℕ, List, All, Option, refl, sym, ap, ◌∙◌, subst}
use Rattle.kc_outside.specs.declared.store.Slot.TheVariants.{Dump}
use Rattle.kc_outside.specs.Files.{IsOther, content}
use Rattle.kc_plain_store.specs.Kept.{IsKept}
use Rattle.kc_plain_store.specs.declared.calls.Calls.{Calls}
use Rattle.kc_plain_store.proofs.FaultLemmas.{still_failed}
use Rattle.kc_plain_store.proofs.ViewLemmas.{not_dump, size_long}
use Rattle.kc_plain_store.proofs.view.PlainViewStore.size.Goals as goal

pub returns-then-is_dump-clause-length : goal.returns-then-is_dump-clause-length
returns-then-is_dump-clause-length g c =
    size_long c.args.slot c.args.self.now.shape (g.S.Store.files c.args.self.now.store) (g.S.Store.opened c.args.self.now.store) (g.S.Store.sizes c.args.self.now.store) c.shown_size.result
    (sym c.is_dump.ensures ∙ c.if-is_dump.true) c.args.self.now.known c.args.self.now.told (λ m. g.met.S.Store.size_length c.args.self.now.store Dump m) c.shown_size.ensures

pub invariant_of-self-clause-container : goal.invariant_of-self-clause-container
invariant_of-self-clause-container g c = λ x bytes kept here. c.args.self.now.container x bytes kept here

pub invariant_of-self-clause-refused : goal.invariant_of-self-clause-refused
invariant_of-self-clause-refused g c = λ x bytes kept here. c.args.self.now.refused x bytes (sym (ap (λ (k : Calls). k.last) c.ask.ensures.next) ∙ kept) here

pub invariant_of-self-clause-bad : goal.invariant_of-self-clause-bad
invariant_of-self-clause-bad g c = λ x bytes kept here. c.args.self.now.bad x bytes (sym (ap (λ (k : Calls). k.last) c.ask.ensures.next) ∙ kept) here

pub invariant_of-self-in-Ok-1 : goal.invariant_of-self-in-Ok-1
invariant_of-self-in-Ok-1 g c =
    let view = c.args.self.now in
    let told = content (g.S.Store.files view.store) Dump (g.S.Store.opened view.store Dump) in
    let same : content (g.S.Store.files c.size-answer.new.self) Dump (g.S.Store.opened c.size-answer.new.self Dump) ≡ told = rw (c.size-answer.ensures.files, c.size-answer.ensures.opened) refl in
    let other : IsOther c.args.slot Dump = not_dump c.args.slot (sym c.is_dump.ensures ∙ c.if-is_dump.false) in
    let last = ap (λ (k : Calls). k.last) c.ask.ensures.next in
    record {
      known = λ s shown. c.size-answer.ensures.others_sizes Dump other ∙ view.known s shown;
      fits = view.fits;
      told = λ s bytes shown here. view.told s bytes shown (sym same ∙ here);
      pages = λ core shown. subst (λ (t : Option (List ℕ)). All (IsKept t core.layout) view.kept.places.items) (sym same) (view.pages core shown);
      container = λ s bytes shown here. view.container s bytes shown (sym same ∙ here);
      refused = λ f bytes kept here. view.refused f bytes (sym last ∙ kept) (sym same ∙ here);
      bad = λ b bytes kept here. view.bad b bytes (sym last ∙ kept) (sym same ∙ here);
      failed = still_failed view.calls.last _ _ _ last c.size-answer.ensures.later view.failed;
      wanted = λ s kept shown. view.wanted s (sym last ∙ kept) shown;
      held = λ s shown. rw c.size-answer.ensures.opened (view.held s shown);
    }
