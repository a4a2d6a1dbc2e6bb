-- A plan over symbols that list the same addresses.
use Rattle.std.proofs.Common.{◌≡◌, ap}
use Rattle.kc_plan.specs.Laws.{PlansAgree}
use Rattle.kc_plan.specs.Plans.{plan}

-- functions that agree at each name are one
pub plans_agree : PlansAgree
plans_agree types f g kaslr five bytes same =
    let one : f ≡ g = λ i name. same name i in
    ap (λ listed. plan (record { types = types; symbols = listed; kaslr = kaslr; five = five }) bytes) one
