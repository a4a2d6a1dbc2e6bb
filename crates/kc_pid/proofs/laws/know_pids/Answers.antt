use Rattle.kc_pid.proofs.PidLaw.{pids_are_walked}
use Rattle.kc_pid.proofs.PidPlaces.{pid_places_stand}
use Rattle.kc_pid.proofs.laws.know_pids.Goals as goal

pub returns-clause-walked : goal.returns-clause-walked
returns-clause-walked c = pids_are_walked (record { chains = c.know_lists.ensures.hash_chains; arrays = c.know_xarrays.ensures.walked })

pub returns-clause-places : goal.returns-clause-places
returns-clause-places c = pid_places_stand (record { fields = c.know_values.ensures.values; chains = c.know_lists.ensures.hash_places; arrays = c.know_xarrays.ensures.places })
