use Rattle.std.proofs.Common.{ap, arith, length}
use Rattle.bk_word.specs.Play.{outline_of}
use Rattle.bk_word.specs.Word.{Word}
use Rattle.bk_catalogue.proofs.HangingBounds.BoundsOfWords.{sizes_long}
use Rattle.bk_free_search.proofs.marks.is_wide_then.Goals as goal

pub bounds-sizes-place : goal.bounds-sizes-place
bounds-sizes-place c = omega (
  arith,
  c.requires.place,
  sizes_long c.skel.result.now c.skel.ensures.legal,
  ap length c.sizes.ensures,
  ap (λ (w : Word). length (outline_of w).signs) c.skel.ensures.value,
)
