use Rattle.std.proofs.Common.{◌-◌, ◌+◌, ◌∙◌, arith, refl}
use Rattle.kc_memory.specs.Stays.{stays_on}
use Rattle.kc_printk.specs.Log.{lines}
use Rattle.kc_printk.proofs.LineLemmas.{lines_all, lines_more}
use Rattle.kc_printk.proofs.log.read_records.Goals as goal

pub loop-i-preserved : goal.loop-i-preserved
loop-i-preserved g c =
    let so_far = c.loop-i.invariant in
    let log = c.args.log.now in
    let entry = c.in_ok-entry.ensures in
    let line = c.in_ok-push_entry.ensures in
    let after = stays_on g.S.Space.image g.S.Space.files g.S.Space.through g.S.Space.most _ _ _ so_far.stays entry.stays in
    record {
      read = lines_more (g.S.Space.image c.args.space.now) (λ image. lines image log log.ring.ids log.ring.first log.ring.size) log (log.ring.ids - c.loop-i.i) (log.ring.ids - (c.loop-i.i + 1)) c.loop-i.id c.loop-i.room
          c.next_id-id.result c.room_after-room.result c.in_ok-entry.entry c.loop-i.text.items c.push_entry.new.text.items (omega arith)
          (rw so_far.stays.same_image at entry.entry) (rw (after.same_image, c.index_of.ensures) at line.line) c.next_id-id.ensures c.room_after-room.ensures so_far.read;
      stays = stays_on g.S.Space.image g.S.Space.files g.S.Space.through g.S.Space.most _ _ _ after line.stays;
      quiet = line.cause ∙ entry.cause ∙ so_far.quiet;
    }

pub returns-clause-lines : goal.returns-clause-lines
returns-clause-lines g c =
    let log = c.args.log.now in
    lines_all (g.S.Space.image c.args.space.now) (λ image. lines image log log.ring.ids log.ring.first log.ring.size) _ log (log.ring.ids - c.loop-i.i) c.loop-i.id c.loop-i.room c.loop-i.text.items c.loop-i.text (omega arith) refl c.loop-i.invariant.read
