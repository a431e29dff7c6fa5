-- What is kept beside the moves of a walk.
use Rattle.std.specs.Prelude.{Bool, List}
use Rattle.bk_word.specs.Word.{Word}
use Rattle.bk_catalogue.specs.VerticalCut.{IsLinedWord}
use Rattle.bk_walk_cuts.specs.Trace.{IsTraceOf, Trace}

-- the lines are those of the word, and the trace is one of its first moves
pub record IsKeptLined (w : Word) (lines : List Bool) (trace : Trace) : Type 0 where
  pub lined : IsLinedWord w lines
  pub traced : IsTraceOf w trace
