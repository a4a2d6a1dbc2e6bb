use Rattle.kc_app.proofs.Ends.{reports_are_shown}
use Rattle.kc_app.proofs.laws.know_reports.Goals as goal

pub returns : goal.returns
returns c = reports_are_shown
