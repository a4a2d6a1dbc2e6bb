use Rattle.std.proofs.Common.{◌-◌, ◌+◌, ◌∙◌, arith, refl}
use Rattle.std.proofs.lemmas.Result.{err_from_is_err_and}
use Rattle.kc_memory.specs.Stays.{stays_on}
use Rattle.kc_bytes.specs.Bytes.{bytes_at}
use Rattle.kc_bytes.proofs.ReadLemmas.{read_all, read_more, stop_reads}
use Rattle.kc_bytes.proofs.bytes.read_bytes.Goals as goal

pub returns-in_err-byte-clause-bytes : goal.returns-in_err-byte-clause-bytes
returns-in_err-byte-clause-bytes g c =
    let gave = err_from_is_err_and c.from_residual-in_err-byte.result c.from_residual-in_err-byte.ensures.1 in
    stop_reads (g.S.Space.image c.args.space.now) (λ image. bytes_at image c.args.count c.args.at) _ (c.args.count - c.loop-i.i) (c.args.count - (c.loop-i.i + 1)) c.loop-i.cursor.at c.loop-i.bytes.items
    c.in_err-byte.field-0.0 c.from_residual-in_err-byte.result gave.0 (omega arith) (rw c.loop-i.invariant.stays.same_image at c.in_err-byte.ensures.byte) c.loop-i.invariant.read gave.1 gave.2

pub loop-i-preserved : goal.loop-i-preserved
loop-i-preserved g c =
    let so_far = c.loop-i.invariant in
    record {
      read = read_more (g.S.Space.image c.args.space.now) (λ image. bytes_at image c.args.count c.args.at) (c.args.count - c.loop-i.i) (c.args.count - (c.loop-i.i + 1)) c.loop-i.cursor.at _ c.in_ok-byte.byte
          c.loop-i.bytes.items _ (omega arith) (rw so_far.stays.same_image at c.in_ok-byte.ensures.byte) c.in_ok-byte.ensures.at c.in_ok-push.ensures.items so_far.read;
      kept = c.in_ok-byte.ensures.kept;
      stays = stays_on g.S.Space.image g.S.Space.files g.S.Space.through g.S.Space.most _ _ _ so_far.stays c.in_ok-byte.ensures.stays;
      quiet = c.in_ok-byte.ensures.cause ∙ so_far.quiet;
    }

pub returns-clause-bytes : goal.returns-clause-bytes
returns-clause-bytes g c =
    read_all (g.S.Space.image c.args.space.now) (λ image. bytes_at image c.args.count c.args.at) _ (c.args.count - c.loop-i.i) c.loop-i.cursor.at c.loop-i.bytes.items c.loop-i.bytes (omega arith) refl c.loop-i.invariant.read
