-- Trials whose violations show words of the dump alone.
use Rattle.std.proofs.Common.{◌≡◌, List, [], ◌∷◌, Some}
use Rattle.std.specs.Prelude.{⊤}
use Rattle.kc_memory.specs.Image.{Image}
use Rattle.kc_memory.specs.Places.{AllStandIn}
use Rattle.kc_found.specs.Trials.{Trial, Claim, Break, Meet}
use Rattle.kc_found.specs.Chains.{ChainOf}

-- the violations of these trials do
abbrev pub AllShow : {X : Type 0} → Image → List (Trial X) → Type 0
AllShow image [] = ⊤
AllShow image (Claim pa v ∷ ts) = AllStandIn image v.places × AllShow image ts
AllShow image (Break v ∷ ts) = AllStandIn image v.places × AllShow image ts
AllShow image (Meet x ∷ ts) = AllShow image ts

-- A chain whose sites show words of the dump alone, where what leads to them does.
pub record Showing {S : Type 0} (image : Image) (k : ChainOf S) (P : S → Type 0) : Type 0 where
  pub head : AllShow image k.head
  pub start : (s : S) → k.start ≡ Some s → P s
  pub last : (s : S) → P s → AllShow image (k.last s)
  pub site : (s : S) → P s → AllShow image (k.site s)
  pub next : (s t : S) → P s → k.next s ≡ Some t → P t
