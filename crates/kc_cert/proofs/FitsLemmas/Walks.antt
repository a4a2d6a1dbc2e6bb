-- Shapes are what is walked.
use Rattle.std.proofs.Common.{[], ◌∷◌, ◌∙◌, ap}
use Rattle.std.specs.Prelude.{Ok}
use Rattle.kc_list.specs.Laws.{HashChainsAreWalked, RingsAreWalked}
use Rattle.kc_kinds.specs.declared.kind.Kind.TheVariants.{Ring, Hlist, Rbtree, Xarray, Slub, Tasks, Pids}
use Rattle.kc_found.specs.XaSites.{entries_in}
use Rattle.kc_kinds.specs.Structures.{nodes_of}
use Rattle.kc_list.specs.ListedLaws.{HashChainsAreTested, RingsAreTested}
use Rattle.kc_rb.specs.Listed.Laws.{OnlyTreesPass}
use Rattle.kc_rb.specs.Laws.{TreesAreWalked}
use Rattle.kc_xa.specs.Listed.Laws.{OnlyWalksPass}
use Rattle.kc_by_lists.specs.Laws.{CacheListsGive, TaskListsGive}
use Rattle.kc_by_lists.specs.Pids.Laws.{PidListsGive}
use Rattle.kc_rb.specs.Listed.Trees.{turn}
use Rattle.kc_cert.specs.Fits.Walked.{ShapesAreWalked}
use Rattle.kc_cert.specs.Fits.Shapes.{is_shape}

-- shapes are those that are walked
pub record ShapeLaws : Type 0 where
  pub rings : RingsAreTested
  pub chains : HashChainsAreTested
  pub ring_walks : RingsAreWalked
  pub chain_walks : HashChainsAreWalked
  pub trees : OnlyTreesPass
  pub tree_walks : TreesAreWalked
  pub arrays : OnlyWalksPass
  pub caches : CacheListsGive
  pub tasks : TaskListsGive
  pub pids : PidListsGive

pub shape_walked : ShapeLaws → ShapesAreWalked
unfolding is_shape nodes_of
shape_walked laws i (Ring shape) n start [] is = let none : ⊥ = cc in absurd none
shape_walked laws i (Ring shape) n start (ns ∷ []) is = (laws.ring_walks i shape n start ns).0 ((laws.rings i shape start ns).1 is)
shape_walked laws i (Ring shape) n start (ns ∷ more ∷ others) is = let none : ⊥ = cc in absurd none
shape_walked laws i (Hlist shape) n start [] is = let none : ⊥ = cc in absurd none
shape_walked laws i (Hlist shape) n start (ns ∷ []) is = (laws.chain_walks i shape n start ns).0 ((laws.chains i shape start ns).1 is)
shape_walked laws i (Hlist shape) n start (ns ∷ more ∷ others) is = let none : ⊥ = cc in absurd none
shape_walked laws i (Rbtree shape) n start [] is = let none : ⊥ = cc in absurd none
shape_walked laws i (Rbtree shape) n start (ns ∷ []) is = (laws.tree_walks i shape n start (turn [] ns)).0 (laws.trees i shape start ns is)
shape_walked laws i (Rbtree shape) n start (ns ∷ more ∷ others) is = let none : ⊥ = cc in absurd none
shape_walked laws i (Xarray shape) n start [] is = let none : ⊥ = cc in absurd none
shape_walked laws i (Xarray shape) n start (ns ∷ []) is = let w = laws.arrays i shape start ns is n in ap entries_in w.1 ∙ ap Ok w.2
shape_walked laws i (Xarray shape) n start (ns ∷ more ∷ others) is = let none : ⊥ = cc in absurd none
shape_walked laws i (Slub shape) n start lists is = laws.caches i shape n n start lists is
shape_walked laws i (Tasks shape) n start lists is = laws.tasks i shape n n start lists is
shape_walked laws i (Pids shape) n start lists is = laws.pids i shape n n start lists is
