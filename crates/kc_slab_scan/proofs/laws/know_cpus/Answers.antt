use Rattle.kc_slab_scan.proofs.CpuLaws.{Known, cpus_stand, numbers_show}
use Rattle.kc_slab_scan.proofs.laws.know_cpus.Goals as goal

pub returns : goal.returns
returns c =
    let known : Known = record {
      places = c.know_places.ensures;
      numbers = c.know_numbers.ensures.stand;
      values = c.know_values.ensures.values;
      frees = c.know_free_lists.ensures.places;
    } in
    record { stand = cpus_stand known; told = numbers_show known }
