use Rattle.std.proofs.Common.{ap, sym}
use Rattle.bk_top.specs.Words.{work_asked}
use Rattle.bk_top.proofs.work.work_of.Goals as goal

pub returns-in-Check : goal.returns-in-Check
returns-in-Check c = sym (ap work_asked c.in-Check.is)

pub returns-in-Canon : goal.returns-in-Canon
returns-in-Canon c = sym (ap work_asked c.in-Canon.is)

pub returns-in-Images : goal.returns-in-Images
returns-in-Images c = sym (ap work_asked c.in-Images.is)

pub returns-in-Net : goal.returns-in-Net
returns-in-Net c = sym (ap work_asked c.in-Net.is)

pub returns-in-Dual : goal.returns-in-Dual
returns-in-Dual c = sym (ap work_asked c.in-Dual.is)

pub returns-in-Draw : goal.returns-in-Draw
returns-in-Draw c = sym (ap work_asked c.in-Draw.is)

pub returns-in-Word : goal.returns-in-Word
returns-in-Word c = sym (ap work_asked c.in-Word.is)

pub returns-in-Flow : goal.returns-in-Flow
returns-in-Flow c = sym (ap work_asked c.in-Flow.is)

pub returns-in-Solve : goal.returns-in-Solve
returns-in-Solve c = sym (ap work_asked c.in-Solve.is)

pub returns-in-List : goal.returns-in-List
returns-in-List c = sym (ap work_asked c.in-List.is)

pub returns-in-Trial : goal.returns-in-Trial
returns-in-Trial c = sym (ap work_asked c.in-Trial.is)

pub returns-in-Verify : goal.returns-in-Verify
returns-in-Verify c = sym (ap work_asked c.in-Verify.is)

pub returns-in-Alike : goal.returns-in-Alike
returns-in-Alike c = sym (ap work_asked c.in-Alike.is)

pub returns-in-Pair : goal.returns-in-Pair
returns-in-Pair c = sym (ap work_asked c.in-Pair.is)

pub returns-in-Help : goal.returns-in-Help
returns-in-Help c = sym (ap work_asked c.in-Help.is)
