use Rattle.std.proofs.Common.{arith, ◌+◌, ◌<◌}
use Rattle.bk_tiling.proofs.Refusing.{Cross, cross_from, shares_from}
use Rattle.bk_tiling.proofs.checks.share_cell.Goals as goal

pub returns-then-spans_meet : goal.returns-then-spans_meet
returns-then-spans_meet c =
    let p = c.args.p in
    let q = c.args.q in
    let down : (p.y < q.y + q.s) × (q.y < p.y + p.s) = c.spans_meet.ensures.0 c.if-spans_meet.true in (
      λ t. let across : (p.x < q.x + q.s) × (q.x < p.x + p.s) = c.spans_meet-then-spans_meet.ensures.0 t in
          shares_from p q (omega arith) (omega arith) across.0 across.1 down.0 down.1,
      λ h. let k : Cross p q = cross_from p q h in c.spans_meet-then-spans_meet.ensures.1 (k.right, k.left),
    )
