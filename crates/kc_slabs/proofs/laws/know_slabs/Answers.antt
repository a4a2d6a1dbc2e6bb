use Rattle.kc_slabs.proofs.SlabsLaws.{Known, shown_stand, sound_is_of_all}
use Rattle.kc_slabs.proofs.laws.know_slabs.Goals as goal

pub returns : goal.returns
returns c =
    let known : Known = record {
      places = c.know_places.ensures;
      rings = c.know_lists.ensures.ring_places;
      slabs = c.know_scans.ensures.stand;
      cpus = c.know_cpus.ensures.stand;
      numbers = c.know_cpus.ensures.told;
    } in
    record { stand = shown_stand known; sound = sound_is_of_all c.know_scans.ensures.sound }
