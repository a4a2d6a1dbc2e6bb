use Rattle.std.proofs.Common.{rules, true, false, nat_eq, ◌≡◌}
use Rattle.kc_owner.proofs.TextLemmas.{on_ok, text_ends, text_full, text_goes, text_nul}
use Rattle.kc_owner.proofs.text.+push_text.Goals as goal

pub returns-then-left-eq0-clause-added : goal.returns-then-left-eq0-clause-added
returns-then-left-eq0-clause-added g t c = text_full (g.S.Space.image c.args.space.now) c.args.left c.args.at c.args.name.now c.if-left-eq0.true

pub returns-in-Ok-None-clause-added : goal.returns-in-Ok-None-clause-added
returns-in-Ok-None-clause-added g t c =
    text_ends (g.S.Space.image c.args.space.now) c.args.left c.args.at c.args.name.now c.if-left-eq0.false (rw c.in-Ok-None.field-0-is at c.in-Ok-None.ensures.exact)

pub returns-then-byte-eq0-clause-added : goal.returns-then-byte-eq0-clause-added
returns-then-byte-eq0-clause-added g t c =
    let unseen : nat_eq c.in-Ok-Some.byte 0 ≡ true = search rules in
    text_nul (g.S.Space.image c.args.space.now) c.args.left c.args.at c.in-Ok-Some.byte c.args.name.now c.if-left-eq0.false (rw c.in-Ok-Some.field-0-is at c.in-Ok-Some.ensures.exact) unseen

pub returns-clause-added : goal.returns-clause-added
returns-clause-added g t c =
    let seen : nat_eq c.in-Ok-Some.byte 0 ≡ false = search rules in
    on_ok c.push_text.result
    (λ rest. text_goes (g.S.Space.image c.args.space.now) c.args.left c.args.at c.in-Ok-Some.byte c.args.name.now _ _ c.if-left-eq0.false (rw c.in-Ok-Some.field-0-is at c.in-Ok-Some.ensures.exact) seen
    c.in_ok-push_byte.ensures.added rest)
    (rw c.in-Ok-Some.ensures.stays.same_image at c.push_text.ensures.added)
