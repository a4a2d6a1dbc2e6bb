-- The loop over processors for the one whose list has an object.
use Rattle.std.proofs.Common.{◌≡◌, ℕ, suc, ◌+◌, ◌≤◌, ◌∷◌, [], List, drop, length, slice_get, Option, Some, None, refl, sym, ap, ◌∙◌, add-one}
use Rattle.std.specs.Prelude.{IfSome, Result, Ok, Err, ⊤}
use Rattle.kc_memory.specs.Image.{Image}
use Rattle.kc_found.specs.declared.found.WalkStop.{WalkStop}
use Rattle.kc_found.specs.declared.found.WalkStop.TheVariants as ends
use Rattle.kc_found.specs.Trials.{and_then}
use Rattle.kc_found.specs.Violations.{Violation}
use Rattle.kc_found.specs.Walks.{WalksAs}
use Rattle.kc_slab_scan.specs.declared.cpus.Cpu.{Cpu}
use Rattle.kc_slab_scan.specs.declared.cpu_object.CpuSpot.{CpuSpot}
use Rattle.kc_slab_scan.specs.declared.cpu_object.SlabObject.{SlabObject}
use Rattle.kc_slab_scan.specs.declared.cpu_words.CpuShape.{CpuShape}
use Rattle.kc_slab_scan.specs.CpuObjects.{cpu_spot, or_later, spot_from}
use Rattle.kc_slab_scan.proofs.CpuLemmas.{drop_next, dropped}

-- an answer that ends the search
abbrev pub Ends : Result (Option CpuSpot) WalkStop → Type 0
Ends (Ok None) = ⊥
Ends (Ok (Some s)) = ⊤
Ends (Err stop) = ⊤

abbrev Answers : Option Image → (Image → Result (Option CpuSpot) Violation) → Result (Option CpuSpot) WalkStop → Type 0
Answers image truth r = WalksAs {A = Option CpuSpot} {B = Option CpuSpot} (λ s. s) truth image r

none_first : (r later : Result (Option CpuSpot) Violation) → r ≡ Ok None → and_then r (λ spot. or_later spot later) ≡ later
none_first r later is = ap (λ q. and_then q (λ spot. or_later spot later)) is

end_first : (image : Image) (truth later : Result (Option CpuSpot) Violation) (r : Result (Option CpuSpot) WalkStop) → Ends r → Answers (Some image) (λ i. truth) r
    → Answers (Some image) (λ i. and_then truth (λ spot. or_later spot later)) r
end_first image truth later (Ok None) some is = absurd some
end_first image truth later (Ok (Some s)) some is = ap (λ q. and_then q (λ spot. or_later spot later)) is
end_first image truth later (Err (ends.Broken v)) some is = ap (λ q. and_then q (λ spot. or_later spot later)) is
end_first image truth later (Err ends.Fault) some is = tt
end_first image truth later (Err ends.NoMemory) some is = tt

moved : (image : Image) (one two : Result (Option CpuSpot) Violation) (r : Result (Option CpuSpot) WalkStop) → one ≡ two → Answers (Some image) (λ i. one) r → Answers (Some image) (λ i. two) r
moved image one two (Ok s) same is = sym same ∙ is
moved image one two (Err (ends.Broken v)) same is = sym same ∙ is
moved image one two (Err ends.Fault) same is = tt
moved image one two (Err ends.NoMemory) same is = tt

module _ (c : CpuShape) (o : SlabObject) (cpus : List Cpu) where
  from_next : (i : Image) (cpu : Cpu) (left : List Cpu) → spot_from i c o (cpu ∷ left) ≡ and_then (cpu_spot i c o cpu) (λ spot. or_later spot (spot_from i c o left))
  unfolding spot_from
  from_next i cpu left = refl

  from_none : (i : Image) → spot_from i c o [] ≡ Ok None
  unfolding spot_from
  from_none i = refl

  abbrev pub OfCpus : Option Image → ℕ → Type 0
  OfCpus image n = IfSome image (λ i. spot_from i c o (drop n cpus) ≡ spot_from i c o cpus)

  pub spots_begin : (image : Option Image) → OfCpus image 0
  spots_begin None = tt
  spots_begin (Some i) = refl

  here : (i : Image) (n : ℕ) (cpu : Cpu) → slice_get cpus n ≡ Some cpu
      → spot_from i c o (drop n cpus) ≡ and_then (cpu_spot i c o cpu) (λ spot. or_later spot (spot_from i c o (drop (suc n) cpus)))
  here i n cpu at = ap (spot_from i c o) (drop_next cpus n cpu at) ∙ from_next i cpu (drop (suc n) cpus)

  pub spots_next : (image : Option Image) (n : ℕ) (cpu : Cpu) → slice_get cpus n ≡ Some cpu
      → Answers image (λ i. cpu_spot i c o cpu) (Ok None) → OfCpus image n → OfCpus image (n + 1)
  spots_next None n cpu at none far = tt
  spots_next (Some i) n cpu at none far =
      ap (λ (k : ℕ). spot_from i c o (drop k cpus)) (add-one n)
      ∙ sym (none_first (cpu_spot i c o cpu) (spot_from i c o (drop (suc n) cpus)) none)
      ∙ sym (here i n cpu at) ∙ far

  pub spots_end : (image : Option Image) (n : ℕ) (cpu : Cpu) (r : Result (Option CpuSpot) WalkStop) → slice_get cpus n ≡ Some cpu → Ends r
      → Answers image (λ i. cpu_spot i c o cpu) r → OfCpus image n → Answers image (λ i. spot_from i c o cpus) r
  spots_end None n cpu r at some is far = tt
  spots_end (Some i) n cpu r at some is far =
      moved i (and_then (cpu_spot i c o cpu) (λ spot. or_later spot (spot_from i c o (drop (suc n) cpus)))) (spot_from i c o cpus) r (sym (here i n cpu at) ∙ far)
      (end_first i (cpu_spot i c o cpu) (spot_from i c o (drop (suc n) cpus)) r some is)

  pub spots_done : (image : Option Image) (n : ℕ) → length cpus ≤ n → OfCpus image n → Answers image (λ i. spot_from i c o cpus) (Ok None)
  spots_done None n all far = tt
  spots_done (Some i) n all far = sym far ∙ ap (spot_from i c o) (dropped cpus n all) ∙ from_none i
