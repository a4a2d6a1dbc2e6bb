use Rattle.std.proofs.Common.{rules, List, ℕ, Ok, ◌≡◌, ◌+◌, ◌-◌, ◌∷◌, [], length, map, sym, ap, ◌∙◌, arith, append-nil}
use Rattle.std.proofs.lemmas.List.Elements.{All-push}
use Rattle.std.proofs.lemmas.List.{length-append}
use Rattle.std.proofs.lemmas.Result.{err_from_is_err_and}
use Rattle.kc_btf.specs.Records.{IsRecord, places}
use Rattle.kc_btf.proofs.SpellingLemmas.{IsBytes, are_bytes}
use Rattle.kc_btf.proofs.ReadLemmas.{spelled-table, form-table}
use Rattle.kc_btf.proofs.PlaceLemmas.{continues, places-end, places-fault, places-pushed}
use Rattle.kc_btf.proofs.places.record_places.Goals as goal

pub returns-in_err-size-clause-exact : goal.returns-in_err-size-clause-exact
returns-in_err-size-clause-exact c =
    let gave = err_from_is_err_and c.from_residual.result c.from_residual.ensures.1 in
    let table = c.loop-at.table.items in
    let bytes = c.args.bytes.now in
    let first = places-fault (length bytes - length table) c.loop-at.at c.args.end bytes c.in_err-size.field-0.0 (omega arith) c.loop-at-test.true c.in_err-size.ensures.fault in
    rw (gave.1, gave.2) (sym c.loop-at.invariant.whole ∙ ap (continues (map (λ place. c.args.types + place) table)) first)

pub loop-at-preserved : goal.loop-at-preserved
loop-at-preserved c =
    let table = c.loop-at.table.items in
    let bytes = c.args.bytes.now in
    let is = c.in_ok-size.ensures in
    let place : c.args.types + (c.loop-at.at - c.args.types) ≡ c.loop-at.at = omega arith in
    let here : IsRecord bytes (c.args.types + (c.loop-at.at - c.args.types)) = rw place is.found in
    rw c.in_ok-push.ensures.items record {
      within = is.within;
      few = omega (arith, length-append table ((c.loop-at.at - c.args.types) ∷ []), is.some);
      whole = places-pushed bytes c.args.types c.loop-at.at c.args.end c.in_ok-size.size (length bytes) table (omega arith) c.loop-at-test.true (omega arith) is.fault is.size ∙ c.loop-at.invariant.whole;
      found = All-push (λ place. IsRecord bytes (c.args.types + place)) table (c.loop-at.at - c.args.types) c.loop-at.invariant.found here;
    }

exact : (c : goal.After-loop-at) → places (length c.args.bytes.now) c.args.bytes.now c.args.types c.args.end ≡ Ok (map (λ place. c.args.types + place) c.loop-at.table.items)
exact c =
    let table = c.loop-at.table.items in
    let bytes = c.args.bytes.now in
    let front = map (λ place. c.args.types + place) table in
    sym c.loop-at.invariant.whole ∙ ap (continues front) (places-end (length bytes - length table) c.loop-at.at c.args.end bytes c.loop-at-test.false) ∙ ap (λ (ps : List ℕ). Ok ps) (append-nil front)

pub returns-clause-exact : goal.returns-clause-exact
returns-clause-exact c = exact c

fit : (c : goal.After-loop-at) → IsBytes c.args.bytes.now
fit c = are_bytes c.args.bytes.now (λ i within. search (rules, c.type_inv.bytes))

pub returns-clause-spelled : goal.returns-clause-spelled
returns-clause-spelled c = spelled-table c.args.bytes.now c.args.types c.args.end c.loop-at.table.items (fit c) c.requires.start c.requires.inside (exact c)

pub returns-clause-form : goal.returns-clause-form
returns-clause-form c = form-table c.args.bytes.now c.args.types c.loop-at.table.items (fit c) c.loop-at.invariant.found
