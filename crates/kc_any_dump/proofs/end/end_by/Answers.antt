use Rattle.kc_command.specs.Ends.Status.{is_sink_quiet}
use Rattle.kc_any_dump.proofs.Statuses.{second}
use Rattle.kc_any_dump.proofs.end.end_by.Goals as goal

pub returns-in-Err-clause-told : goal.returns-in-Err-clause-told
returns-in-Err-clause-told g c = second _ _ _ (is_sink_quiet c.end_with_line-in-Err.result) c.end_with_line-in-Err.ensures.status c.end_with_line-in-Err.ensures.whole
