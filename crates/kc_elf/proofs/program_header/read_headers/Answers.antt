use Rattle.std.proofs.Common.{◌≤◌, ◌∙◌, sym, arith, rules, length, length-take, vec_len}
use Rattle.std.proofs.lemmas.List.{take_rest}
use Rattle.kc_elf.proofs.HeaderLemmas.{reads_one, reads_all, room_left}
use Rattle.kc_elf.proofs.program_header.read_headers.Goals as goal

pub slice_bounds-read-end : goal.slice_bounds-read-end
slice_bounds-read-end c =
    let one : 56 ≤ length c.loop-rest.rest.now = omega arith in search rules

pub read-requires : goal.read-requires
read-requires c = omega (arith, length-take 56 c.loop-rest.rest.now)

pub loop-rest-preserved : goal.loop-rest-preserved
loop-rest-preserved c =
    let many = vec_len c.loop-rest.found in
    let rest = c.loop-rest.rest.now in
    rw (take_rest rest 56, c.in_ok-push.ensures.len, c.in_ok-push.ensures.items, c.read.ensures) record {
      enough = room_left c.args.count many rest c.loop-rest.invariant.enough;
      few = omega arith;
      whole = reads_one c.loop-rest.found.items c.args.count many rest (omega arith) ∙ c.loop-rest.invariant.whole;
    }

pub returns-clause-found : goal.returns-clause-found
returns-clause-found c = sym (reads_all c.loop-rest.found.items c.args.count c.loop-rest.found.len c.loop-rest.rest.now (omega arith)) ∙ c.loop-rest.invariant.whole
