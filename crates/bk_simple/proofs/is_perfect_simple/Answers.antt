use Rattle.bk_simple.proofs.ProperParts.{simple_from_no_large}
use Rattle.bk_simple.proofs.is_perfect_simple.Goals as goal

pub returns-then-has_no_large_part : goal.returns-then-has_no_large_part
returns-then-has_no_large_part c =
    let perfect = c.is_perfect.ensures.0 c.if-is_perfect.true in (
      λ _. (
        perfect,
        simple_from_no_large c.args.tiling.now c.has_no_large_part.ensures.tiling perfect
            (c.has_no_large_part.ensures.none c.if-has_no_large_part.true),
      ),
      λ _. c.if-has_no_large_part.true,
    )
