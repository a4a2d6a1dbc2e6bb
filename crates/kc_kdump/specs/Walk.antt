-- The walk over the page frames.
use Rattle.std.specs.Prelude.{List, ◌++◌}
use Rattle.kc_kdump.specs.declared.frame.Frame.{Frame}
use Rattle.kc_kdump.specs.declared.run.PageRun.{PageRun}
use Rattle.kc_kdump.specs.declared.walk.Walk.{Walk}
use Rattle.kc_kdump.specs.Runs.{runs_from}

-- the runs of the page frames that were walked and of those after them
abbrev pub runs_after : Walk → List Frame → List PageRun
runs_after walk frames = walk.runs.items ++ runs_from walk.run frames
