use Rattle.kc_files.proofs.FileLaws.{linked_runs, types_lie}
use Rattle.kc_files.proofs.MapLaws.{map_spells}
use Rattle.kc_files.proofs.ModuleLaws.{module_types_lie}
use Rattle.kc_files.proofs.RingLaws.{modules_are_ring}
use Rattle.kc_files.proofs.laws.know_files.Goals as goal

pub returns : goal.returns
returns c = record { map = map_spells; types = types_lie; module_types = module_types_lie; modules = modules_are_ring; linked = linked_runs }
