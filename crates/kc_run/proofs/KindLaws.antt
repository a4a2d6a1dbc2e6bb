-- The laws of the kinds, by those of each.
use Rattle.kc_kinds.specs.declared.kind.Kind.TheVariants.{Ring, Hlist, Rbtree, Xarray, Slub, Tasks, Pids}
use Rattle.kc_kinds.specs.Structures.{nodes_of, Holds}
use Rattle.kc_list.specs.Laws.{HashChainsAreWalked, HashPlacesStand, RingPlacesStand, RingsAreWalked}
use Rattle.kc_pid.specs.Laws.{PidPlacesStand, PidsAreWalked}
use Rattle.kc_rb.specs.Laws.{TreePlacesStand, TreesAreWalked}
use Rattle.kc_slub.specs.Laws.{CachePlacesStand, CachesAreWalked}
use Rattle.kc_task.specs.Laws.{TaskPlacesStand, TasksAreWalked}
use Rattle.kc_xa.specs.Laws.{XarrayPlacesStand, XarraysAreWalked}
use Rattle.kc_run.specs.Laws.{KindPlacesStand, KindsAreWalked}
use Rattle.kc_run.proofs.Arrays.{array_complete, array_shows, array_sound}

pub record WalkLaws : Type 0 where
  pub rings : RingsAreWalked
  pub chains : HashChainsAreWalked
  pub trees : TreesAreWalked
  pub arrays : XarraysAreWalked
  pub caches : CachesAreWalked
  pub tasks : TasksAreWalked
  pub pids : PidsAreWalked

pub kinds_are_walked : WalkLaws → KindsAreWalked
unfolding nodes_of Holds
kinds_are_walked laws image (Ring shape) n start nodes = laws.rings image shape n start nodes
kinds_are_walked laws image (Hlist shape) n start nodes = laws.chains image shape n start nodes
kinds_are_walked laws image (Rbtree shape) n start nodes = laws.trees image shape n start nodes
kinds_are_walked laws image (Xarray shape) n start nodes = (array_complete laws.arrays image shape n start nodes, array_sound laws.arrays image shape n start nodes)
kinds_are_walked laws image (Slub shape) n start nodes = laws.caches image shape n start nodes
kinds_are_walked laws image (Tasks shape) n start nodes = laws.tasks image shape n start nodes
kinds_are_walked laws image (Pids shape) n start nodes = laws.pids image shape n start nodes

-- and of what their violations show
pub record ShownLaws : Type 0 where
  pub rings : RingPlacesStand
  pub chains : HashPlacesStand
  pub trees : TreePlacesStand
  pub arrays : XarrayPlacesStand
  pub caches : CachePlacesStand
  pub tasks : TaskPlacesStand
  pub pids : PidPlacesStand

pub kind_places_stand : ShownLaws → KindPlacesStand
unfolding nodes_of
kind_places_stand laws image (Ring shape) n start v is = laws.rings image shape n start v is
kind_places_stand laws image (Hlist shape) n start v is = laws.chains image shape n start v is
kind_places_stand laws image (Rbtree shape) n start v is = laws.trees image shape n start v is
kind_places_stand laws image (Xarray shape) n start v is = array_shows laws.arrays image shape n start v is
kind_places_stand laws image (Slub shape) n start v is = laws.caches image shape n start v is
kind_places_stand laws image (Tasks shape) n start v is = laws.tasks image shape n start v is
kind_places_stand laws image (Pids shape) n start v is = laws.pids image shape n start v is
