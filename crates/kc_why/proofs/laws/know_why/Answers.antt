use Rattle.kc_why.specs.Laws.{Stand}
use Rattle.kc_cause.specs.Laws.{CausesStand, ExplanationsHold}
use Rattle.kc_why.specs.Searching.{sought_by}
use Rattle.kc_why.specs.Why.{Shown, Sees, Finds, Tells}
use Rattle.kc_sight.specs.Laws.{SightsStand}
use Rattle.kc_why.proofs.WrittenLaws.{found_all, stand_all}
use Rattle.kc_why.proofs.laws.know_why.Goals as goal

shown_stand : SightsStand → CausesStand → ExplanationsHold → (s : Shown) → Stand s
shown_stand law causes text (Sees l) = law l.image l.rules l.address
shown_stand law causes text (Finds s) = stand_all s.bytes (sought_by s.value s.keys) s.segments
shown_stand law causes text (Tells e) = (causes e, text e)

pub returns : goal.returns
returns c = record { stand = shown_stand c.know_sights.ensures.stand c.know_causes.ensures.stand c.know_causes.ensures.text; all = found_all }
