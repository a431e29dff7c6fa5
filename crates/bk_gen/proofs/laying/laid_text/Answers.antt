use Rattle.std.proofs.Common.{refl}
use Rattle.bk_code.specs.Code.{code_of}
use Rattle.bk_text.specs.ReadLine.{stands_for}
use Rattle.bk_gen.proofs.SampleRead.{no_fault_of, reads_code}
use Rattle.bk_gen.proofs.laying.laid_text.Goals as goal

pub returns-in-Ok : goal.returns-in-Ok
returns-in-Ok c = λ t kept same.
    c.laid.ensures (code_of t) t (reads_code t kept (stands_for c.in-Ok.line) c.args.text.now same c.in-Ok.ensures.read)
    (record { tiling = kept.tiling; code_is = refl })

pub returns-in-Err : goal.returns-in-Err
returns-in-Err c = λ t kept same. absurd (no_fault_of t kept c.in-Err.field-0 c.args.text.now same c.in-Err.ensures.fault)
