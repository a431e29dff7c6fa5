use Rattle.std.proofs.Common.{List, ap, arith, length, subst, sym, ◌++◌, ◌+◌, ◌≡◌}
use Rattle.std.proofs.lemmas.List.{length-append}
use Rattle.bk_lay.proofs.MeetingRuns.{rises_after}
use Rattle.bk_lay.proofs.NextLaidMove.{a_run_under_each_square}
use Rattle.bk_lay.specs.LevelRuns.{Meet, runs_under}
use Rattle.bk_tiling.specs.declared.Square.{Square}
use Rattle.bk_lay.specs.declared.outline.LevelRun.{LevelRun}
use Rattle.bk_lay.proofs.outline.Outline.lay.Goals as goal

-- as many runs more as squares
runs_pushed : (after right : List LevelRun) (squares : List Square) → after ≡ right ++ runs_under squares → length after ≡ length right + length squares
runs_pushed after right squares is = omega (arith, ap length is, length-append right (runs_under squares), a_run_under_each_square squares)

pub take_valley-self-requires-clause-some : goal.take_valley-self-requires-clause-some
take_valley-self-requires-clause-some c = omega (arith, runs_pushed _ c.args.self.now.right.items c.args.squares.now c.push_runs.ensures, c.requires.some)

pub take_valley-self-requires-clause-room : goal.take_valley-self-requires-clause-room
take_valley-self-requires-clause-room c = omega (arith, runs_pushed _ c.args.self.now.right.items c.args.squares.now c.push_runs.ensures, c.requires.room)

pub returns-clause-outline : goal.returns-clause-outline
returns-clause-outline c width laid m =
    let beside = c.take_valley-self.ensures.beside width laid (subst (λ (l : List LevelRun). Meet width laid c.args.self.now.left.items l)
    (sym c.push_runs.ensures) m) in
    record {
      runs = beside;
      rises = rises_after width laid c.take_valley-self.new.left.items c.take_valley-self.result c.take_valley-self.new.right.items beside
          c.take_valley-self.ensures.deeper;
    }

pub returns-clause-fewer : goal.returns-clause-fewer
returns-clause-fewer c =
    omega (arith, runs_pushed _ c.args.self.now.right.items c.args.squares.now c.push_runs.ensures, c.take_valley-self.ensures.fewer)
