use Rattle.kc_kplain.proofs.Copies.{always, at_sink, done_copy, done_store, failed_copy, failed_done, out_stops, quiet_out, sink_rose, store_rose}
use Rattle.kc_kplain.proofs.plain.write_opened.Goals as goal

pub returns-in-Ok-clause-status : goal.returns-in-Ok-clause-status
returns-in-Ok-clause-status g c = done_copy c.end_done.result c.end_done.ensures.status

pub returns-in-Ok-clause-whole : goal.returns-in-Ok-clause-whole
returns-in-Ok-clause-whole g c = always _ _ c.in-Ok.ensures.whole

pub returns-in-Ok-clause-store : goal.returns-in-Ok-clause-store
returns-in-Ok-clause-store g c = done_store _ c.end_done.result c.end_done.ensures.status

pub returns-in-Ok-clause-store_failed : goal.returns-in-Ok-clause-store_failed
returns-in-Ok-clause-store_failed g c = done_store _ c.end_done.result c.end_done.ensures.status

pub returns-in-Ok-clause-sink_failed : goal.returns-in-Ok-clause-sink_failed
returns-in-Ok-clause-sink_failed g c = at_sink _ _ c.end_done.result c.end_done.ensures.sink_failed

pub returns-in-Err-clause-status : goal.returns-in-Err-clause-status
returns-in-Err-clause-status g c = failed_copy c.end_copy.result c.end_copy.ensures.failed

pub returns-in-Err-clause-whole : goal.returns-in-Err-clause-whole
returns-in-Err-clause-whole g c = failed_done _ c.end_copy.result c.end_copy.ensures.failed

pub returns-in-Err-clause-said : goal.returns-in-Err-clause-said
returns-in-Err-clause-said g c = failed_done _ c.end_copy.result c.end_copy.ensures.failed

pub returns-in-Err-clause-store_failed : goal.returns-in-Err-clause-store_failed
returns-in-Err-clause-store_failed g c = store_rose _ c.end_copy.result c.in-Err.stop c.end_copy.ensures.stop c.in-Err.ensures.store_failed

pub returns-in-Err-clause-sink_failed : goal.returns-in-Err-clause-sink_failed
returns-in-Err-clause-sink_failed g c = sink_rose _ _ c.end_copy.result c.in-Err.stop c.end_copy.ensures.sink_failed c.in-Err.ensures.sink_failed

pub returns-in-Err-clause-quiet_store : goal.returns-in-Err-clause-quiet_store
returns-in-Err-clause-quiet_store g c = failed_done _ c.end_copy.result c.end_copy.ensures.failed

pub returns-in-Err-clause-quiet_out : goal.returns-in-Err-clause-quiet_out
returns-in-Err-clause-quiet_out g c = quiet_out _ c.end_copy.result c.in-Err.stop c.end_copy.ensures.failed c.end_copy.ensures.stop c.in-Err.ensures.sink_quiet

pub returns-in-Err-clause-out_last : goal.returns-in-Err-clause-out_last
returns-in-Err-clause-out_last g c = out_stops _ _ c.in-Err.stop c.in-Err.ensures.sink_quiet c.in-Err.ensures.sink_last
