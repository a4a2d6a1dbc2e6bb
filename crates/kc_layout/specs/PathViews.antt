-- What the code cuts off a path's text, as the definitions have it.
use Rattle.std.specs.Prelude.{ℕ, List}
use Rattle.std.specs.Borrow.{Bor}
use Rattle.kc_layout.specs.declared.path.Step.{Step as CodeStep}
use Rattle.kc_layout.specs.declared.path.Step.TheVariants.{Member as MemberStep, Element as ElementStep, Pointee as PointeeStep}
use Rattle.kc_layout.specs.declared.path.Cut.{Cut as CodeCut}
use Rattle.kc_layout.specs.Path.{Step, Cut}
use Rattle.kc_layout.specs.Path.Step.{Member, Element, Pointee}

abbrev pub step_view : CodeStep → Step
step_view (MemberStep name) = Member name.now
step_view (ElementStep index) = Element index
step_view (PointeeStep name) = Pointee name.now

abbrev pub cut_view : CodeCut → Cut
cut_view c = record { step = step_view c.step; rest = c.rest.now }

abbrev pub names_view : Bor (List ℕ) × Bor (List ℕ) → List ℕ × List ℕ
names_view c = (c.0.now, c.1.now)

abbrev pub index_view : ℕ × Bor (List ℕ) → ℕ × List ℕ
index_view c = (c.0, c.1.now)
