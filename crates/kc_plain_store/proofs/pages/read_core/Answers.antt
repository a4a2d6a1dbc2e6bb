use Rattle.std.proofs.Common.{◌≡◌, ◌≤◌, ◌-◌, ◌∙◌, ℕ, List, length, drop, All, Option, refl, subst, arith, length-drop, length-take}
use borrow.Rule.Slice.PartMut.{put_mid}
use Rattle.kc_outside.specs.declared.store.Slot.TheVariants.{Dump}
use Rattle.kc_outside.specs.Files.{content}
use Rattle.kc_plain_store.specs.Kept.{IsKept}
use Rattle.kc_plain_store.specs.Shapes.{core_bytes}
use Rattle.kc_plain_store.proofs.PageLemmas.{mid_long, mid_piece, piece_more, stays_on}
use Rattle.kc_plain_store.proofs.pages.read_core.Goals as goal

pub loop-done-preserved : goal.loop-done-preserved
loop-done-preserved g c =
    let told = content (g.S.Store.files c.args.store.now) Dump (g.S.Store.opened c.args.store.now Dump) in
    let before = c.loop-done.invariant in
    let next = c.in_ok-done.ensures in
    let buf = c.loop-done.buf in
    let done = c.loop-done.done in
    let piece = c.read_piece.new.piece in
    let same : content (g.S.Store.files c.loop-done.store) Dump (g.S.Store.opened c.loop-done.store Dump) ≡ told = rw (before.stays.same_files, before.stays.same_opened) refl in
    let long : length c.read_piece.new.piece ≡ length c.loop-done.buf - c.loop-done.done =
    omega (arith, c.read_piece.auto.piece, length-drop c.loop-done.done c.loop-done.buf, length-take (length c.loop-done.buf - c.loop-done.done) (drop c.loop-done.done c.loop-done.buf)) in
    let fits : c.in_ok-done.field-0 ≤ length c.read_piece.new.piece = omega (arith, next.fits, long) in
    let whole = mid_long buf piece done before.within long in
    record {
      stays = stays_on _ _ _ _ _ _ _ _ before.stays next.stays;
      quiet = next.counts ∙ before.quiet;
      kept = subst (λ (t : Option (List ℕ)). All (IsKept t c.args.core.now.layout) c.read_piece.new.kept.places.items) same next.kept;
      within = omega (arith, whole, fits, long, before.within);
      long = whole ∙ before.long;
      part = piece_more told _ (core_bytes c.args.core.now) buf _ piece c.args.off _ done c.in_ok-done.field-0 same refl (mid_piece buf piece done _ c.in_ok-done.field-0 before.within fits) before.part next.part;
    }
