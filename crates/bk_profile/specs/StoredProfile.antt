-- How a `Profile` is stored: what it has laid, and the outline of that.
use Rattle.std.specs.Prelude.{List}
use Rattle.bk_tiling.specs.declared.Square.{Square}
use Rattle.bk_profile.specs.Laid.{IsProfile, Laid}
use Rattle.bk_profile.specs.OutlineRuns.{AreOutlineRuns, width_of}
use Rattle.bk_profile.specs.declared.runs.OutlineRun.{OutlineRun}

-- what holds of what is laid and the runs that are stored
pub record IsStoredProfile (p : Laid) (runs : List OutlineRun) : Type 0 where
  pub profile : IsProfile p
  pub outline : AreOutlineRuns p.width p.squares runs

-- squares, laid in the width that these runs have
abbrev pub laid_over : List OutlineRun → List Square → Laid
laid_over runs squares = record { width = width_of runs; squares = squares }
