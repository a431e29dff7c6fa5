-- The moves that the code lays, one after another: the word so far is gone on with, the order is never passed, and where the
-- leftmost valley lies at the height the word is whole.
use Rattle.std.specs.List.{AllByRecursion}
use Rattle.std.proofs.Common.{List, [], ap, arith, filter, length, subst, sym, ℕ, ◌++◌, ◌+◌, ◌-◌, ◌<◌, ◌^◌, ◌∙◌, ◌∷◌, ◌≡◌, ◌≤◌}
use Rattle.std.proofs.lemmas.List.Sums.{count_by-le-length, length-filter, sum_by-append, sum_by-cons}
use Rattle.std.proofs.lemmas.List.{append-nil, append_assoc, length-append, length-map}
use Rattle.bk_tiling.proofs.Cells.{all_from}
use Rattle.bk_tiling.proofs.TilingLaws.{within_of}
use Rattle.bk_tiling.specs.KeptTiling.{IsKept}
use Rattle.bk_tiling.specs.Tiling.{IsOneOf, Tiling}
use Rattle.bk_tiling.specs.declared.Square.{Square}
use Rattle.bk_word.specs.KeptWord.{CanStand}
use Rattle.bk_word.specs.Word.{Move, Word, order_of}
use Rattle.bk_lay.proofs.Depicting.{some_signs}
use Rattle.bk_lay.proofs.Filling.{in_tiling, valley_is_filled}
use Rattle.bk_lay.proofs.MeetingRuns.{leftmost_in_outline, segment_of}
use Rattle.bk_lay.proofs.NextLaidMove.{few_levels, valley_is_leftmost, runs_meet, same_bottoms, same_squares}
use Rattle.bk_lay.proofs.WordPlay.{tiling_word_is_complete}
use Rattle.bk_lay.proofs.Words.{all_full, nothing_laid, some_moves_follow}
use Rattle.bk_lay.specs.LevelRuns.{FallingRuns, IsOutline, Meet, RunsFromRight, begins_under, bottoms_of, last_level, runs_under}
use Rattle.bk_lay.specs.TilingWord.{IsWordOf, MovesFollow, bottoms, move_under, signs_between, squares_under}
use Rattle.bk_lay.specs.LaidMoves.{IsLaidMove, IsLaidTo}
use Rattle.bk_lay.specs.declared.outline.Outline.{Outline}
use Rattle.bk_lay.specs.declared.outline.LevelRun.{LevelRun}

module _ (t : Tiling) (kept : IsKept t) where
  -- before the first move no move is known and nothing is laid
  pub laid_at_start : (w : Word) (o : Outline) → w ≡ [] → IsOutline t.width [] o → length o.left.items + length o.right.items ≡ 0 → IsLaidTo t w o
  laid_at_start w o empty is alone = record {
    laid = [];
    fills = nothing_laid t kept.tiling;
    outline = is;
    follows = λ rest m. subst (λ (v : Word). MovesFollow t [] (v ++ rest)) (sym empty) m;
    room = omega arith;
  }

  -- where the valley lies at the height, the moves so far are the word
  pub laid_at_end : (w : Word) (o : Outline) → IsLaidTo t w o → t.height ≤ o.valley.level → IsWordOf t w
  laid_at_end w o to high = subst (MovesFollow t []) (append-nil w)
      (to.follows [] (all_full t kept.tiling to.laid to.fills (segment_of o.valley)
      (leftmost_in_outline t.width to.laid o to.outline) high))

  -- the squares that were found, and their move
  module _ (w : Word) (o : Outline) (to : IsLaidTo t w o) (low : o.valley.level < t.height) (squares : List Square)
      (is : squares ≡ filter (begins_under o.valley) t.squares) where
    under : squares ≡ squares_under t (segment_of o.valley)
    under = is ∙ same_squares t to.laid o kept.tiling to.fills to.outline low

    of_tiling : (q : Square) → IsOneOf q squares → IsOneOf q t.squares
    of_tiling q h = in_tiling t to.laid (segment_of o.valley) kept.tiling to.fills
        (valley_is_leftmost t to.laid o kept.tiling to.fills to.outline low) low q (subst (IsOneOf q) under h)

    -- at most 200 squares are found under a valley
    few_squares : length squares ≤ 200
    few_squares = let few = kept.few in
        omega (arith, ap length is, length-filter (begins_under o.valley) t.squares, count_by-le-length (begins_under o.valley) t.squares)

    -- the right end of each is a number of the machine
    right_fits : AllByRecursion (λ q. q.x + q.s < 2 ^ 64) squares
    right_fits = all_from (λ q. q.x + q.s < 2 ^ 64) squares (λ q h. let w = (within_of t kept.tiling q (of_tiling q h)).right in let fits =
        kept.width_fits in omega arith)

    -- the bottom of each square is a number of the machine
    bottom_fits : AllByRecursion (λ q. q.y + q.s < 2 ^ 64) squares
    bottom_fits = all_from (λ q. q.y + q.s < 2 ^ 64) squares (λ q h. let w = (within_of t kept.tiling q (of_tiling q h)).bottom in let fits =
        kept.height_fits in omega arith)

    -- some square is found under the valley
    some_squares : 0 < length squares
    some_squares = omega (
      arith,
      ap length under,
      (valley_is_filled t to.laid (segment_of o.valley) kept.tiling to.fills
          (valley_is_leftmost t to.laid o kept.tiling to.fills to.outline low) low).0,
    )

    -- the squares that are found are some, and few, and their ends are numbers of the machine
    pub record AreUnderValley : Type 0 where
      pub some : 0 < length squares
      pub few : length squares ≤ 200
      pub right : AllByRecursion (λ q. q.x + q.s < 2 ^ 64) squares
      pub bottom : AllByRecursion (λ q. q.y + q.s < 2 ^ 64) squares

    pub under_valley : AreUnderValley
    under_valley = record { some = some_squares; few = few_squares; right = right_fits; bottom = bottom_fits }

    module _ (m : Move) (count : m.count ≡ length squares) (signs : m.signs
        ≡ signs_between (last_level o.left.items ++ bottoms_of squares ++ last_level o.right.items)) where
      pub same_move : m ≡ move_under t to.laid (segment_of o.valley)
      same_move = λ i. record { count = counts i; signs = all_signs i }
        where
          counts : m.count ≡ length (squares_under t (segment_of o.valley))
          counts = count ∙ ap length under

          all_signs : m.signs ≡ signs_between (bottoms t to.laid (segment_of o.valley))
          all_signs = signs ∙ ap (λ (l : List Square). signs_between (last_level o.left.items ++ bottoms_of l ++ last_level o.right.items)) under
              ∙ ap signs_between (sym (same_bottoms t to.laid o kept.tiling to.fills to.outline low))

      goes_on : (rest : Word) → MovesFollow t (to.laid ++ squares_under t (segment_of o.valley)) rest → MovesFollow t [] (w ++ m ∷ rest)
      goes_on rest f = to.follows (m ∷ rest) (segment_of o.valley, valley_is_leftmost t to.laid o kept.tiling to.fills to.outline low, low, same_move, f)

      -- the order of the word so far and of the move is at most that of the tiling
      pub order_fits : order_of w + m.count ≤ length t.squares
      order_fits = omega (
        arith,
        (tiling_word_is_complete t (w ++ m ∷ more.0) kept.tiling (goes_on more.0 more.1)).1,
        sum_by-append (λ (m : Move). m.count) w (m ∷ more.0),
        sum_by-cons (λ (m : Move). m.count) m more.0,
      )
        where
          more : (rest : Word) × MovesFollow t (to.laid ++ squares_under t (segment_of o.valley)) rest
          more = some_moves_follow t kept.tiling (to.laid ++ squares_under t (segment_of o.valley))
              (valley_is_filled t to.laid (segment_of o.valley) kept.tiling to.fills
              (valley_is_leftmost t to.laid o kept.tiling to.fills to.outline low) low).1

      pub can_stand : CanStand m
      can_stand = record {
        some = omega (arith, count, some_squares);
        least = omega (arith, long, count);
        most = omega (arith, long, few_levels o.left.items, few_levels o.right.items, count);
      }
        where
          levels : length (last_level o.left.items ++ bottoms_of squares ++ last_level o.right.items)
              ≡ length (last_level o.left.items) + length squares + length (last_level o.right.items)
          levels = omega (
            arith,
            length-append (last_level o.left.items ++ bottoms_of squares) (last_level o.right.items),
            length-append (last_level o.left.items) (bottoms_of squares),
            length-map squares (λ (q : Square). q.y + q.s),
          )

          long : length m.signs + 1 ≡ length (last_level o.left.items) + length squares + length (last_level o.right.items)
          long = omega (
            arith,
            ap length signs,
            some_signs (last_level o.left.items ++ bottoms_of squares ++ last_level o.right.items) (omega (arith, levels, some_squares)),
            levels,
          )

      pub order_more : order_of (w ++ m ∷ []) ≡ order_of w + m.count
      order_more = omega (arith, sum_by-append (λ (m : Move). m.count) w (m ∷ []), sum_by-cons (λ (m : Move). m.count) m [])

      pub laid_with_next : (p : Outline) → ((width : ℕ) (laid : List Square) → Meet width laid o.left.items (o.right.items ++ runs_under squares)
          → IsOutline width laid p)
          → length p.left.items + length p.right.items < length o.left.items + (length o.right.items + length squares) → IsLaidTo t (w ++ m ∷ []) p
      laid_with_next p known fewer = record {
        laid = to.laid ++ squares_under t (segment_of o.valley);
        fills = (valley_is_filled t to.laid (segment_of o.valley) kept.tiling to.fills
            (valley_is_leftmost t to.laid o kept.tiling to.fills to.outline low) low).1;
        outline = known t.width (to.laid ++ squares_under t (segment_of o.valley))
            (subst (λ (l : List Square). Meet t.width (to.laid ++ squares_under t (segment_of o.valley)) o.left.items
            (o.right.items ++ runs_under l)) (sym under) (runs_meet t to.laid o kept.tiling to.fills to.outline low));
        follows = λ rest f. subst (MovesFollow t []) (sym (append_assoc w (m ∷ []) rest)) (goes_on rest f);
        room = let before = to.room in omega (arith, order_more, count);
      }

-- the outline of nothing laid: one run, and none beside it
pub outline_of_nothing : (width : ℕ) (o : Outline) → 0 < width → o.left.items ≡ [] → o.right.items ≡ []
    → o.valley ≡ record { x = 0; end = width; level = 0 } → IsOutline width [] o
outline_of_nothing width o some left right valley = record {
  runs = record {
    falls = subst (λ (l : List LevelRun). FallingRuns [] 0 l o.valley.x) (sym left) (sym first);
    run = record {
      run = record { some = omega (arith, first, last, some); level = λ c lo hi. sym top };
      wall = λ c e. absurd (omega (arith, e, first));
    };
    rest = subst (λ (l : List LevelRun). RunsFromRight [] o.valley.end l width) (sym right) last;
  };
  rises = λ h. absurd (omega (arith, h, last));
}
  where
    first : o.valley.x ≡ 0
    first = ap (λ (r : LevelRun). r.x) valley

    last : o.valley.end ≡ width
    last = ap (λ (r : LevelRun). r.end) valley

    top : o.valley.level ≡ 0
    top = ap (λ (r : LevelRun). r.level) valley

-- each move comes nearer to the tiling's order
pub move_comes_nearer : (t : Tiling) (w v : Word) (o : Outline) (m : Move) → IsLaidMove t w o m → v ≡ w ++ m ∷ []
    → length t.squares - order_of v < length t.squares - order_of w
move_comes_nearer t w v o m next is = omega (
  arith,
  ap order_of is,
  sum_by-append (λ (m : Move). m.count) w (m ∷ []),
  sum_by-cons (λ (m : Move). m.count) m [],
  next.fits,
  next.stands.some,
)
