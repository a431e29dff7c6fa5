use Rattle.std.proofs.Common.{List, [], ap, arith, length, lit<, refl, subst, sym, ℕ, ◌++◌, ◌+◌, ◌-◌, ◌∷◌, ◌∙◌, ◌≡◌}
use Rattle.bk_word.specs.Outline.{IsLegalMove, start, valley_of}
use Rattle.bk_word.specs.Play.{numbers_from, outline_of}
use Rattle.bk_word.specs.Word.{Move, Word, order_of}
use Rattle.bk_word.proofs.PlayLaws.{moves_many}
use Rattle.bk_free_search.specs.Lefts.{first_left}
use Rattle.bk_free_search.specs.Rights.{last_right}
use Rattle.bk_free_search.proofs.Boards.BoardMoves.{WithNew, beside_same, board_more, lists_of}
use Rattle.bk_free_search.proofs.Boards.LeftLines.{left_count}
use Rattle.bk_free_search.proofs.Boards.LowLines.{low_lefts_then, low_rights_then}
use Rattle.bk_free_search.proofs.Boards.OpenSquares.{are_squares-more, valley_squares-are_squares}
use Rattle.bk_free_search.specs.TopLines.{AreSquares}
use Rattle.std.proofs.lemmas.List.{length-append}
use Rattle.bk_free_search.proofs.Boards.RightLines.{as_many_rights}
use Rattle.bk_free_search.proofs.Boards.LinesBeside.{stand_between}
use Rattle.bk_free_search.proofs.Boards.WordCounts.{few_left, few_right}
use Rattle.bk_free_search.proofs.board.Board.play.Goals as goal

pub invariant_of-self : goal.invariant_of-self
invariant_of-self c =
    let w = c.self.inside.skel in
    let valley = c.valley_squares-squares.ensures in
    let read : WithNew = record {
      lefts = c.as_slice-3.result.now;
      rights = c.as_slice-4.result.now;
      squares = c.valley_squares-squares.result.now;
      hung = c.order-behind.result;
      count = c.m.inside.count;
    } in
    let kept : WithNew = record {
      lefts = c.push_lefts.new.lefts.items;
      rights = c.push_rights.new.rights.items;
      squares = valley_of (outline_of w);
      hung = c.order-behind.result;
      count = c.m.inside.count;
    } in
    let same : read ≡ kept = λ i. record {
      lefts = c.as_slice-3.ensures.items i;
      rights = c.as_slice-4.ensures.items i;
      squares = valley i;
      hung = c.order-behind.result;
      count = c.m.inside.count;
    } in
    board_more w c.play.new.self c.args.m.now (lists_of c.self.inside)
    (record {
      lefts = c.push_lefts.new.lefts.items;
      rights = c.push_rights.new.rights.items;
      nodes = c.push.new.self.items;
      first = c.first_after-self-inside.result;
      left = c.at_wall_after-self-inside.result;
      right = c.at_wall_after-self-inside-2.result;
    }) c.self.invariant
    (subst (λ (v : Word). IsLegalMove (outline_of v) c.args.m.now) (sym c.self.view_is) c.requires.legal) c.play.ensures
    (record {
      hung = c.order-behind.result;
      hung_is = c.order-behind.ensures.value;
      count = c.m.inside.count;
      count_is = ap (λ (m : Move). m.count) c.m.view_is;
      squares = valley_of (outline_of w);
      squares_are = refl;
      left = c.left_of_first-first.result;
      left_is = c.left_of_first-first.ensures ∙ (λ i. first_left (c.as_slice.ensures.items i) (valley i));
      right = c.right_of_last-last.result;
      right_is = c.right_of_last-last.ensures ∙ (λ i. last_right (c.as_slice-2.ensures.items i) (valley i));
      lefts_are = c.push_lefts.ensures;
      rights_are = c.push_rights.ensures;
      lines = c.node_lines-lines.result;
      only = λ line has. beside_same read kept line same (c.node_lines-lines.ensures.only line has);
      all = λ line low b. c.node_lines-lines.ensures.all line low (beside_same kept read line (sym same) b);
      nodes_are = c.push.ensures;
      first_is = c.first_after-self-inside.ensures;
      left_then_is = c.at_wall_after-self-inside.ensures;
      right_then_is = c.at_wall_after-self-inside-2.ensures;
    })

pub left_of_first-first-requires : goal.left_of_first-first-requires
left_of_first-first-requires c =
    let w = c.self.inside.skel in
    subst (λ (squares : List ℕ). AreSquares squares (length c.as_slice.result.now)) (sym c.valley_squares-squares.ensures)
    (are_squares-more (valley_of (outline_of w)) (order_of w) (length c.as_slice.result.now)
    (omega (
      arith,
      ap (λ (l : List ℕ). length l) c.as_slice.ensures.items,
      left_count w c.self.inside.lefts.items c.self.invariant.left_word,
    )) (valley_squares-are_squares w))

pub right_of_last-last-requires : goal.right_of_last-last-requires
right_of_last-last-requires c =
    let w = c.self.inside.skel in
    subst (λ (squares : List ℕ). AreSquares squares (length c.as_slice-2.result.now)) (sym c.valley_squares-squares.ensures)
    (are_squares-more (valley_of (outline_of w)) (order_of w) (length c.as_slice-2.result.now)
    (omega (
      arith,
      ap (λ (l : List ℕ). length l) (c.as_slice-2.ensures.items ∙ c.self.invariant.rights_are),
      as_many_rights w,
    )) (valley_squares-are_squares w))

pub push_lefts-requires-clause-fits : goal.push_lefts-requires-clause-fits
push_lefts-requires-clause-fits c =
    omega (
      arith,
      left_count c.self.inside.skel c.self.inside.lefts.items c.self.invariant.left_word,
      ap order_of c.self.view_is,
      ap (λ (m : Move). m.count) c.m.view_is,
      c.requires.few,
    )

pub push_rights-requires-clause-fits : goal.push_rights-requires-clause-fits
push_rights-requires-clause-fits c =
    omega (
      arith,
      ap (λ (l : List ℕ). length l) c.self.invariant.rights_are,
      as_many_rights c.self.inside.skel,
      ap order_of c.self.view_is,
      ap (λ (m : Move). m.count) c.m.view_is,
      c.requires.few,
    )

pub push-requires : goal.push-requires
push-requires c = (
  lit< tt,
  omega (
    arith,
    c.self.invariant.node_lines.as_many,
    moves_many start c.self.inside.skel c.self.invariant.left_word.legal,
    ap order_of c.self.view_is,
    c.requires.legal.some,
    c.requires.few,
  ),
)

pub at_wall_after-self-inside-requires : goal.at_wall_after-self-inside-requires
at_wall_after-self-inside-requires c = omega (arith, c.self.invariant.left_is, few_left c.self.inside.skel, ap order_of c.self.view_is, c.requires.few)

pub at_wall_after-self-inside-requires-2 : goal.at_wall_after-self-inside-requires-2
at_wall_after-self-inside-requires-2 c = omega (arith, c.self.invariant.right_is, few_right c.self.inside.skel, ap order_of c.self.view_is, c.requires.few)

pub node_lines-lines-requires-clause-lefts : goal.node_lines-lines-requires-clause-lefts
node_lines-lines-requires-clause-lefts c = low_lefts_then c.self.inside.skel c.args.m.now c.self.inside.lefts.items c.as_slice-3.result.now
    c.self.invariant.left_word (subst (λ (v : Word). IsLegalMove (outline_of v) c.args.m.now) (sym c.self.view_is) c.requires.legal)
    (omega (arith, c.requires.few, ap order_of c.self.view_is))
    (record {
      hung = c.order-behind.result;
      hung_is = c.order-behind.ensures.value;
      count = c.m.inside.count;
      count_is = ap (λ (m : Move). m.count) c.m.view_is;
      first = c.left_of_first-first.result;
      first_is = c.left_of_first-first.ensures ∙ (λ i. first_left (c.as_slice.ensures.items i) (c.valley_squares-squares.ensures i));
      are = c.as_slice-3.ensures.items ∙ c.push_lefts.ensures;
    })

pub node_lines-lines-requires-clause-rights : goal.node_lines-lines-requires-clause-rights
node_lines-lines-requires-clause-rights c = low_rights_then c.self.inside.skel c.args.m.now c.self.inside.rights.items c.as_slice-4.result.now
    c.self.invariant.rights_are (subst (λ (v : Word). IsLegalMove (outline_of v) c.args.m.now) (sym c.self.view_is) c.requires.legal)
    (omega (arith, c.requires.few, ap order_of c.self.view_is))
    (record {
      hung = c.order-behind.result;
      hung_is = c.order-behind.ensures.value;
      count = c.m.inside.count;
      count_is = ap (λ (m : Move). m.count) c.m.view_is;
      last = c.right_of_last-last.result;
      last_is = c.right_of_last-last.ensures ∙ (λ i. last_right (c.as_slice-2.ensures.items i) (c.valley_squares-squares.ensures i));
      are = c.as_slice-4.ensures.items ∙ c.push_rights.ensures;
    })

pub node_lines-lines-requires-clause-at_left : goal.node_lines-lines-requires-clause-at_left
node_lines-lines-requires-clause-at_left c =
    let w = c.self.inside.skel in
    subst (λ (squares : List ℕ). AreSquares squares (length c.as_slice-3.result.now)) (sym c.valley_squares-squares.ensures)
    (are_squares-more (valley_of (outline_of w)) (order_of w) (length c.as_slice-3.result.now)
    (omega (
      arith,
      ap (λ (l : List ℕ). length l) (c.as_slice-3.ensures.items ∙ c.push_lefts.ensures),
      length-append c.self.inside.lefts.items (c.left_of_first-first.result ∷ numbers_from (c.order-behind.result + 2) (c.m.inside.count - 1)),
      left_count w c.self.inside.lefts.items c.self.invariant.left_word,
    )) (valley_squares-are_squares w))

pub node_lines-lines-requires-clause-at_right : goal.node_lines-lines-requires-clause-at_right
node_lines-lines-requires-clause-at_right c =
    let w = c.self.inside.skel in
    let own = numbers_from (c.order-behind.result + 2) (c.m.inside.count - 1) in
    subst (λ (squares : List ℕ). AreSquares squares (length c.as_slice-4.result.now)) (sym c.valley_squares-squares.ensures)
    (are_squares-more (valley_of (outline_of w)) (order_of w) (length c.as_slice-4.result.now)
    (omega (
      arith,
      ap (λ (l : List ℕ). length l) (c.as_slice-4.ensures.items ∙ c.push_rights.ensures),
      length-append (c.self.inside.rights.items ++ own) (c.right_of_last-last.result ∷ []),
      length-append c.self.inside.rights.items own,
      ap (λ (l : List ℕ). length l) c.self.invariant.rights_are,
      as_many_rights w,
    )) (valley_squares-are_squares w))

pub node_lines-lines-requires-clause-between : goal.node_lines-lines-requires-clause-between
node_lines-lines-requires-clause-between c = stand_between c.self.inside.lefts.items c.self.inside.rights.items c.as_slice-3.result.now
    c.as_slice-4.result.now
    (record {
      hung = c.order-behind.result;
      count = c.m.inside.count;
      first = c.left_of_first-first.result;
      last = c.right_of_last-last.result;
    })
    (omega (arith, c.requires.legal.some, ap (λ (m : Move). m.count) c.m.view_is))
    (left_count c.self.inside.skel c.self.inside.lefts.items c.self.invariant.left_word ∙ sym c.order-behind.ensures.value)
    (ap (λ (l : List ℕ). length l) c.self.invariant.rights_are ∙ as_many_rights c.self.inside.skel ∙ sym c.order-behind.ensures.value)
    (c.as_slice-3.ensures.items ∙ c.push_lefts.ensures) (c.as_slice-4.ensures.items ∙ c.push_rights.ensures)

pub valley_squares-squares-requires : goal.valley_squares-squares-requires
valley_squares-squares-requires c = tt

pub as_slice-requires : goal.as_slice-requires
as_slice-requires c = lit< tt

pub as_slice-requires-2 : goal.as_slice-requires-2
as_slice-requires-2 c = lit< tt

pub order-behind-requires : goal.order-behind-requires
order-behind-requires c = tt

pub overflow_cast-behind : goal.overflow_cast-behind
overflow_cast-behind c = omega (arith, c.order-behind.ensures.value, ap order_of c.self.view_is, c.requires.few)

pub push_lefts-requires-clause-some : goal.push_lefts-requires-clause-some
push_lefts-requires-clause-some c = omega (arith, c.requires.legal.some, ap (λ (m : Move). m.count) c.m.view_is)

pub push_lefts-requires-clause-few : goal.push_lefts-requires-clause-few
push_lefts-requires-clause-few c =
    omega (arith, c.order-behind.ensures.value, ap order_of c.self.view_is, ap (λ (m : Move). m.count) c.m.view_is, c.requires.few)

pub push_rights-requires-clause-some : goal.push_rights-requires-clause-some
push_rights-requires-clause-some c = omega (arith, c.requires.legal.some, ap (λ (m : Move). m.count) c.m.view_is)

pub push_rights-requires-clause-few : goal.push_rights-requires-clause-few
push_rights-requires-clause-few c =
    omega (arith, c.order-behind.ensures.value, ap order_of c.self.view_is, ap (λ (m : Move). m.count) c.m.view_is, c.requires.few)

pub as_slice-requires-3 : goal.as_slice-requires-3
as_slice-requires-3 c = lit< tt

pub as_slice-requires-4 : goal.as_slice-requires-4
as_slice-requires-4 c = lit< tt

pub node_lines-lines-requires-clause-some : goal.node_lines-lines-requires-clause-some
node_lines-lines-requires-clause-some c = omega (arith, c.requires.legal.some, ap (λ (m : Move). m.count) c.m.view_is)

pub node_lines-lines-requires-clause-few : goal.node_lines-lines-requires-clause-few
node_lines-lines-requires-clause-few c =
    omega (arith, c.order-behind.ensures.value, ap order_of c.self.view_is, ap (λ (m : Move). m.count) c.m.view_is, c.requires.few)

pub first_after-self-inside-requires : goal.first_after-self-inside-requires
first_after-self-inside-requires c = tt

pub play-requires-clause-legal : goal.play-requires-clause-legal
play-requires-clause-legal c = subst (λ (v : Word). IsLegalMove (outline_of v) c.args.m.now) (sym c.self.view_is) c.requires.legal

pub play-requires-clause-few : goal.play-requires-clause-few
play-requires-clause-few c = omega (arith, ap order_of c.self.view_is, c.requires.few)

pub returns : goal.returns
returns c = c.play.ensures ∙ ap (λ (v : Word). v ++ c.args.m.now ∷ []) c.self.view_is
