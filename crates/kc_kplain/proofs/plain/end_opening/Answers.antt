use Rattle.kc_kplain.proofs.Copies.{at_store, by_memory, by_refused, by_store, line_memory, line_refused, line_unread}
use Rattle.std.proofs.Common.{inl, sym, ◌∙◌}
use Rattle.kc_kplain.proofs.plain.end_opening.Goals as goal

pub returns-in-Some-clause-refused : goal.returns-in-Some-clause-refused
returns-in-Some-clause-refused g c = by_refused (g.D.TellsCause.told c.args.dump.now) c.in-Some.cause c.end_by.result (g.E.Sink.taken c.args.err.now) (g.E.Sink.taken c.end_by.new.err) (sym c.cause.ensures ∙ c.in-Some.is) c.end_by.ensures.told

pub returns-in-Some-clause-store : goal.returns-in-Some-clause-store
returns-in-Some-clause-store g c = by_store (g.D.TellsCause.told c.args.dump.now) c.in-Some.cause c.end_by.result (g.E.Sink.taken c.args.err.now) (g.E.Sink.taken c.end_by.new.err) (sym c.cause.ensures ∙ c.in-Some.is) c.end_by.ensures.told

pub returns-in-Some-clause-memory : goal.returns-in-Some-clause-memory
returns-in-Some-clause-memory g c = by_memory c.in-Some.cause c.end_by.result (g.E.Sink.taken c.args.err.now) (g.E.Sink.taken c.end_by.new.err) c.end_by.ensures.told

pub returns-in-None-clause-status : goal.returns-in-None-clause-status
returns-in-None-clause-status g c = line_unread c.end_with_line.result c.end_with_line.ensures.status

pub returns-in-None-clause-refused : goal.returns-in-None-clause-refused
returns-in-None-clause-refused g c = line_refused _ c.end_with_line.result c.end_with_line.ensures.status

pub returns-in-None-clause-store : goal.returns-in-None-clause-store
returns-in-None-clause-store g c = at_store _ _ c.end_with_line.result (λ took. inl took) c.end_with_line.ensures.whole

pub returns-in-None-clause-memory : goal.returns-in-None-clause-memory
returns-in-None-clause-memory g c = line_memory _ c.end_with_line.result c.end_with_line.ensures.status
