use Rattle.std.proofs.Common.{List, [], ap, arith, length, slice_index_or, ℕ, ◌∙◌}
use Rattle.bk_laws.proofs.ListItems.{slice_index_or-first_length}
use Rattle.bk_word.specs.Outline.{start}
use Rattle.bk_word.specs.Play.{outline_of}
use Rattle.bk_word.specs.Word.{Word, order_of}
use Rattle.bk_word.proofs.PlayLaws.{moves_many}
use Rattle.bk_catalogue.proofs.HangingBounds.BoundsOfWords.{sizes_long}
use Rattle.bk_layout.specs.WordNumbers.{first_count, left_squares, right_squares}
use Rattle.bk_free_search.proofs.board.Board.counts.Goals as goal

pub bounds-sizes-0 : goal.bounds-sizes-0
bounds-sizes-0 c = omega (arith, sizes_long c.self.inside.skel c.self.invariant.left_word.legal, ap length c.sizes.ensures)

pub returns : goal.returns
returns c =
    let w = c.self.inside.skel in
    let bottom = ap (λ (l : List ℕ). slice_index_or l 0 0) c.sizes.ensures ∙ slice_index_or-first_length (outline_of w).segments in
    let same = c.self.view_is in λ i. record {
      squares = (c.order.ensures.value ∙ ap order_of same) i;
      moves = (c.moves.ensures.value ∙ ap (λ (v : Word). length v) same) i;
      top = (c.self.invariant.first_is ∙ ap first_count same) i;
      bottom = (bottom ∙ ap (λ (v : Word). length (slice_index_or (outline_of v).segments 0 [])) same) i;
      left = (c.self.invariant.left_is ∙ ap left_squares same) i;
      right = (c.self.invariant.right_is ∙ ap right_squares same) i;
    }

pub overflow_cast-result-2 : goal.overflow_cast-result-2
overflow_cast-result-2 c = omega (
  arith,
  c.moves.ensures.value,
  c.order.ensures.value,
  c.order.ensures.few,
  moves_many start c.self.inside.skel c.self.invariant.left_word.legal,
)
