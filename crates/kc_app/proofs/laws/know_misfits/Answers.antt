use Rattle.kc_app.proofs.Misfits.{misfits_are_first}
use Rattle.kc_app.proofs.laws.know_misfits.Goals as goal

pub returns : goal.returns
returns c = record { misfits = misfits_are_first }
