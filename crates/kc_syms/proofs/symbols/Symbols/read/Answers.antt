use Rattle.std.proofs.Common.{◌≡◌, ◌<◌, length, Ok, Err, ap, arith}
use Rattle.std.proofs.lemmas.Bool.Decides.{nat_tests}
use Rattle.bstr.proofs.lemmas.LengthLemmas.{length-lines}
use Rattle.kc_syms.specs.declared.fault.SymStop.TheVariants.{S1}
use Rattle.kc_syms.specs.Listed.{listed}
use Rattle.kc_syms.specs.Views.{row_text}
use Rattle.kc_syms.proofs.LineLemmas.{ends_bad, ends_whole, goes_on}
use Rattle.kc_syms.proofs.ReadLemmas.{reads_none}
use Rattle.kc_syms.proofs.SpellingLaws.{answers_by_spelling}
use Rattle.kc_syms.proofs.symbols.Symbols.read.Goals as goal

pub loop-rest-init : goal.loop-rest-init
loop-rest-init c = (
  c.in_ok-index.ensures.parts,
  omega (arith, length-lines c.args.bytes.now),
  reads_none (listed c.in_ok-index.index) c.args.bytes.now c.in_ok-index.ensures.empty,
)

pub loop-rest-preserved : goal.loop-rest-preserved
loop-rest-preserved c =
    let shorter = ap length c.in-Some.ensures.split in (
      c.add.ensures.parts,
      omega (arith, shorter, c.loop-rest.invariant.1),
      goes_on (listed c.loop-rest.index) c.loop-rest.number c.loop-rest.rest.now c.args.bytes.now c.loop-rest.invariant.2 (row_text c.in-Some.row) c.in-Some.behind.now
          (listed c.add.new.index) c.in-Some.ensures c.in_ok-add.ensures.put,
    )

pub returns-in_default-clause-exact : goal.returns-in_default-clause-exact
returns-in_default-clause-exact c =
    let some : 0 < length c.loop-rest.rest.now = grind (arith, nat_tests, c.is_empty.ensures, c.loop-rest-test.true) in
    ends_bad (listed c.loop-rest.index) c.loop-rest.number c.loop-rest.rest.now c.args.bytes.now c.loop-rest.invariant.2 some c.in_default.ensures

pub returns-in_default-clause-spelled : goal.returns-in_default-clause-spelled
returns-in_default-clause-spelled c =
    let some : 0 < length c.loop-rest.rest.now = grind (arith, nat_tests, c.is_empty.ensures, c.loop-rest-test.true) in
    answers_by_spelling c.know_hex.ensures (Err (S1 c.loop-rest.number)) c.args.bytes.now
    (ends_bad (listed c.loop-rest.index) c.loop-rest.number c.loop-rest.rest.now c.args.bytes.now c.loop-rest.invariant.2 some c.in_default.ensures)

pub returns-clause-exact : goal.returns-clause-exact
unfolding Rattle.kc_syms.specs.Symbols.symbol
returns-clause-exact c =
    let none : length c.loop-rest.rest.now ≡ 0 = grind (arith, nat_tests, c.is_empty.ensures, c.loop-rest-test.false) in
    ends_whole (listed c.loop-rest.index) c.loop-rest.number c.loop-rest.rest.now c.args.bytes.now c.loop-rest.invariant.2 none

pub returns-clause-spelled : goal.returns-clause-spelled
unfolding Rattle.kc_syms.specs.Symbols.symbol
returns-clause-spelled c =
    let none : length c.loop-rest.rest.now ≡ 0 = grind (arith, nat_tests, c.is_empty.ensures, c.loop-rest-test.false) in
    answers_by_spelling c.know_hex.ensures (Ok record { index = c.loop-rest.index }) c.args.bytes.now
    (ends_whole (listed c.loop-rest.index) c.loop-rest.number c.loop-rest.rest.now c.args.bytes.now c.loop-rest.invariant.2 none)
