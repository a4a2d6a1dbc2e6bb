use Rattle.kc_syms.proofs.LineLemmas.{plain_read}
use Rattle.kc_syms.proofs.row.read_plain.Goals as goal

pub returns : goal.returns
returns c =
    let parts = c.in_ok-digits.ensures.cases in
    plain_read c.args.bytes.now c.in_ok-digits.digits.now c.in_ok-digits.behind.now c.in_ok-text.text.now c.split_at.result.0.now c.split_at.result.1.now
    c.in_ok-rest.rest.now c.in_ok-listed.listed c.name_run.result parts.0 parts.1 parts.2 c.in_ok-listed.ensures c.in_ok-text.ensures
    c.split_at.ensures.front c.split_at.ensures.back c.name_run.ensures.names c.is_empty.ensures c.if-is_empty.false c.in_ok-rest.ensures
