use Rattle.std.proofs.Common.{◌≡◌, ◌∙◌, List, None, option_map, ℕ, rules, arith}
use Rattle.std.proofs.lemmas.Grind.{common_steps}
use Rattle.std.specs.Global.{Vec}
use Rattle.kc_outside.specs.declared.store.Slot.TheVariants.{Dump}
use Rattle.kc_outside.specs.Files.{content}
use Rattle.kc_memory_note.specs.Notes.{page_text}
use Rattle.kc_memory_note.proofs.NoteLemmas.{no_text, page_found, page_passed, pages_ended, some_text, stays_on, told_before}
use Rattle.kc_memory_note.proofs.find.read_segment.Goals as goal

pub returns-in-Some-clause-text : goal.returns-in-Some-clause-text
returns-in-Some-clause-text g c =
    let bytes = content (g.S.Store.files c.args.store.now) Dump (g.S.Store.opened c.args.store.now Dump) in
    let read = told_before g.S.Store.opened g.S.Store.sizes g.S.Store.files g.S.Store.may g.S.Store.asked c.args.store.now c.loop-page.store
    (λ (b : List ℕ). option_map (λ (v : Vec ℕ). v.items) c.in_ok-text.field-0 ≡ page_text b c.args.segment.now c.loop-page.page) c.loop-page.invariant.stays c.in_ok-text.ensures.text in
    page_found bytes c.args.segment.now c.loop-page.page c.in-Some.text.items (grind (arith, common_steps)) c.loop-page.invariant.left
    (some_text bytes (λ (d : List ℕ). page_text d c.args.segment.now c.loop-page.page) c.in_ok-text.field-0 c.in-Some.text (search rules) read)

pub loop-page-preserved : goal.loop-page-preserved
loop-page-preserved g c =
    let bytes = content (g.S.Store.files c.args.store.now) Dump (g.S.Store.opened c.args.store.now Dump) in
    let none : c.in_ok-text.field-0 ≡ None = search rules in
    let read = told_before g.S.Store.opened g.S.Store.sizes g.S.Store.files g.S.Store.may g.S.Store.asked c.args.store.now c.loop-page.store
    (λ (b : List ℕ). option_map (λ (v : Vec ℕ). v.items) c.in_ok-text.field-0 ≡ page_text b c.args.segment.now c.loop-page.page) c.loop-page.invariant.stays c.in_ok-text.ensures.text in
    record {
      left = page_passed bytes c.args.segment.now c.loop-page.page (grind (arith, common_steps)) c.loop-page.invariant.left (no_text bytes (λ (d : List ℕ). page_text d c.args.segment.now c.loop-page.page) c.in_ok-text.field-0 none read);
      stays = stays_on g.S.Store.opened g.S.Store.sizes g.S.Store.files g.S.Store.may g.S.Store.asked c.args.store.now c.loop-page.store c.read_page.new.store c.loop-page.invariant.stays c.read_page.ensures.stays;
      quiet = c.in_ok-text.ensures.cause ∙ c.loop-page.invariant.quiet;
    }

pub returns-clause-text : goal.returns-clause-text
returns-clause-text g c = pages_ended _ c.args.segment.now c.loop-page.page (grind (arith, common_steps)) c.loop-page.invariant.left
