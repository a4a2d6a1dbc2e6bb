use Rattle.std.proofs.Common.{◌≡◌, ◌≤◌, ◌-◌, ◌∙◌, length, Err, refl, rules, arith}
use Rattle.kc_outside.specs.declared.store.Slot.TheVariants.{Dump}
use Rattle.kc_outside.specs.Files.{content}
use Rattle.kc_kdump.proofs.WalkLemmas.{block_many, block_more, many_on}
use Rattle.kc_kdump.proofs.read.walk_bitmaps.Goals as goal

pub returns-in_err-take_bytes-clause-many : goal.returns-in_err-take_bytes-clause-many
returns-in_err-take_bytes-clause-many g c =
    let told = content (g.S.Store.files c.args.store.now) Dump (g.S.Store.opened c.args.store.now Dump) in
    let one : content (g.S.Store.files c.loop-left.store) Dump (g.S.Store.opened c.loop-left.store Dump) ≡ told =
    rw (c.loop-left.invariant.stays.same_files, c.loop-left.invariant.stays.same_opened) refl in
    let two : content (g.S.Store.files c.read_at.new.self) Dump (g.S.Store.opened c.read_at.new.self Dump) ≡ told =
    rw (c.in_ok-read_at.ensures.files, c.in_ok-read_at.ensures.opened) one in
    let first_count : length c.loop-left.memory ≡ 4096 = omega arith in
    let second_count : length c.loop-left.dumped ≡ 4096 = omega arith in
    let memory : length c.read_at.new.buf ≡ 4096 = omega arith in
    let dumped : length c.read_at-in-loop-left.new.buf ≡ 4096 = omega arith in
    let enough : 4096 ≤ c.args.layout.now.half - c.loop-left.at = omega arith in
    let ended : c.from_residual-in_err-take_bytes.result ≡ Err c.in_err-take_bytes.field-0.0 = search rules in
    rw ended (many_on (Unit {0}) (Unit {0}) c.in_err-take_bytes.field-0.0 _ _
    (block_many told _ _ c.loop-left.walk c.args.layout.now c.loop-left.at c.loop-left.left _ _ c.read_at.new.buf c.read_at-in-loop-left.new.buf
    one two first_count second_count c.in_ok-read_at.ensures.part c.in_ok-read_at-2.ensures.part memory dumped enough c.loop-left.invariant.runs)
    c.in_err-take_bytes.ensures.many)

pub loop-left-preserved : goal.loop-left-preserved
loop-left-preserved g c =
    let told = content (g.S.Store.files c.args.store.now) Dump (g.S.Store.opened c.args.store.now Dump) in
    let one : content (g.S.Store.files c.loop-left.store) Dump (g.S.Store.opened c.loop-left.store Dump) ≡ told =
    rw (c.loop-left.invariant.stays.same_files, c.loop-left.invariant.stays.same_opened) refl in
    let two : content (g.S.Store.files c.read_at.new.self) Dump (g.S.Store.opened c.read_at.new.self Dump) ≡ told =
    rw (c.in_ok-read_at.ensures.files, c.in_ok-read_at.ensures.opened) one in
    let first_count : length c.loop-left.memory ≡ 4096 = omega arith in
    let second_count : length c.loop-left.dumped ≡ 4096 = omega arith in
    let memory : length c.read_at.new.buf ≡ 4096 = omega arith in
    let dumped : length c.read_at-in-loop-left.new.buf ≡ 4096 = omega arith in
    let enough : 4096 ≤ c.args.layout.now.half - c.loop-left.at = omega arith in
    let less = c.saturating_sub-left.ensures in
    let before = c.loop-left.invariant in
    let first = c.in_ok-read_at.ensures in
    let second = c.in_ok-read_at-2.ensures in
    record {
      stays = record {
        same_opened = second.opened ∙ first.opened ∙ before.stays.same_opened;
        same_sizes = second.sizes ∙ first.sizes ∙ before.stays.same_sizes;
        same_files = second.files ∙ first.files ∙ before.stays.same_files;
        may_still = λ s n may. second.may s n (first.may s n (before.stays.may_still s n may));
        may_no_more = λ s n may. before.stays.may_no_more s n (first.may_no_more s n (second.may_no_more s n may));
        asked_later = omega (arith, second.asked_later, first.asked_later, before.stays.asked_later);
      };
      quiet = second.quiet ∙ first.quiet ∙ before.quiet;
      even = omega (arith, before.even);
      within = omega (arith, enough);
      bits = omega (arith, before.bits, less);
      end = omega (arith, c.in_ok-take_bytes.ensures.end, before.end, less, memory);
      runs = rw less (block_more told _ _ c.take_bytes.new.self c.loop-left.walk c.args.layout.now c.loop-left.at c.loop-left.left _ _ c.read_at.new.buf c.read_at-in-loop-left.new.buf
          one two first_count second_count first.part second.part memory dumped enough c.in_ok-take_bytes.ensures.runs before.runs);
    }
