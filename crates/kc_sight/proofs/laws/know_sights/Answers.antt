use Rattle.kc_sight.proofs.HolderLemmas.{holders_are_rows}
use Rattle.kc_sight.proofs.NearestLemmas.{in_map, symbols_are_rows}
use Rattle.kc_sight.proofs.NearestLaws.{symbols_are_nearest}
use Rattle.kc_sight.proofs.SightLaws.{sights_stand}
use Rattle.kc_sight.proofs.laws.know_sights.Goals as goal

pub returns-clause-stand : goal.returns-clause-stand
returns-clause-stand c = sights_stand c.know_places.ensures

pub returns-clause-symbols : goal.returns-clause-symbols
returns-clause-symbols c = symbols_are_rows

pub returns-clause-from : goal.returns-clause-from
returns-clause-from c m listed from address read = in_map from m.kaslr address m.map.now listed read

pub returns-clause-nearest : goal.returns-clause-nearest
returns-clause-nearest c = symbols_are_nearest

pub returns-clause-holders : goal.returns-clause-holders
returns-clause-holders c = holders_are_rows
