-- Moves laid to the end of a word: what is laid then tiles the rectangle, and the tiling has the word.
use Rattle.std.proofs.Common.{List, [], ap, arith, length, map, refl, subst, sym, true, ℕ, ◌++◌, ◌+◌, ◌<◌, ◌∙◌, ◌∷◌, ◌≡◌}
use Rattle.std.proofs.lemmas.List.{append-nil, append_assoc}
use Rattle.bk_laws.proofs.ZippedLists.{zip_length}
use Rattle.bk_laws.proofs.Totals.{total}
use Rattle.bk_tiling.proofs.Cells.{covers_from, from_filter, in_all, in_filter, no_two}
use Rattle.bk_tiling.proofs.Group.{HasOver, group_sides, group_top, group_within, length_group, over_group}
use Rattle.bk_tiling.proofs.Members.{in_back, in_front}
use Rattle.bk_tiling.proofs.PuttingInOrder.{group_ordered}
use Rattle.bk_tiling.proofs.Scaling.{same_members}
use Rattle.bk_tiling.proofs.TilingLaws.{cell_once, within_of}
use Rattle.bk_tiling.specs.CodeOrder.{in_code_order}
use Rattle.bk_tiling.specs.Column.{AreRuns, IsLevel, depth}
use Rattle.bk_tiling.specs.SquareGroups.{laid_group}
use Rattle.bk_tiling.specs.Refusal.{sized}
use Rattle.bk_tiling.specs.Tiling.{IsOneOf, IsTiling, Tiles, Tiling, covers}
use Rattle.bk_tiling.specs.declared.Segment.{Segment}
use Rattle.bk_tiling.specs.declared.Square.{Square}
use Rattle.bk_word.specs.Outline.{Outline}
use Rattle.bk_word.specs.Word.{Move, Word}
use Rattle.bk_lay.proofs.UnderValley.{IsUnder, hangs_from, under_from}
use Rattle.bk_lay.proofs.ValleySquares.{ordered_filter}
use Rattle.bk_lay.specs.Depiction.{IsSegment}
use Rattle.bk_lay.specs.TilingWord.{MovesFollow, bottoms, depth_before, depth_from, hangs_under, move_under, signs_between, squares_under}
use Rattle.bk_word_net.proofs.PlacedSquares.FilledColumns.{columns_are_tiling, columns_tile}
use Rattle.bk_word_net.proofs.Outlines.RunsAfterMove.{fills_total}
use Rattle.bk_word_net.specs.LaidOutline.{FillsValley, ShowsLaid}
use Rattle.bk_word_net.specs.WordFlow.{LaidAlong, laid_so_far}

-- the moves of a word are laid, from what is laid to all squares
abbrev pub LaidMoves : ℕ → List Square → Word → List Square → Type 0
LaidMoves width laid [] all = laid ≡ all
LaidMoves width laid (m ∷ w) all = (v : Segment)
    × ((new : List ℕ) × (FillsValley width laid m new v × LaidMoves width (laid ++ laid_group v.x v.level new) w all))

-- what was laid stays first
pub moves_prefix : (width : ℕ) (laid : List Square) (w : Word) (all : List Square) → LaidMoves width laid w all → (more : List Square) × (all ≡ laid ++ more)
moves_prefix width laid [] all p = ([], sym p ∙ sym (append-nil laid))
moves_prefix width laid (m ∷ w) all (v, (new, (filled, rest))) = let r = moves_prefix width (laid ++ laid_group v.x v.level new) w all rest in
    (laid_group v.x v.level new ++ r.0, r.1 ∙ append_assoc laid (laid_group v.x v.level new) r.0)

module _ (width : ℕ) (wide : 0 < width) (all : List Square) (o : Outline) (s : ShowsLaid width all o) (one : length o.segments ≡ 1)
    (some : 0 < length all) where
  -- at the end all columns have one depth
  pub all_deep : (c : ℕ) → c < width → depth all c ≡ depth all 0
  all_deep = cases s.runs s.cut (zip_length (IsSegment all) s.runs o.segments s.segments ∙ one)
    where
      cases : (runs : List Segment) → AreRuns width all 0 runs → length runs ≡ 1 → (c : ℕ) → c < width → depth all c ≡ depth all 0
      cases [] cut e c h = absurd (omega arith)
      cases (r ∷ []) cut e c h = (cut.1).level c (omega (arith, cut.0)) (omega (arith, cut.0, cut.2))
          ∙ sym ((cut.1).level 0 (omega (arith, cut.0)) (omega (arith, cut.0, cut.2)))
      cases (r ∷ u ∷ runs) cut e c h = absurd (omega arith)

  -- the rectangle of what is laid
  abbrev pub built : Tiling
  built = record { width = width; height = depth all 0; squares = in_code_order all }

  -- what is laid tiles it
  pub tiles : Tiles (sized width (depth all 0)) all
  tiles = columns_tile width (depth all 0) all s.inside s.filled all_deep some

  -- what the moves have laid is a tiling
  pub is_tiling : IsTiling built
  is_tiling = columns_are_tiling width (depth all 0) all s.inside s.filled all_deep some

module _ (t : Tiling) (tiling : IsTiling t) (all : List Square) (all_in : (q : Square) → IsOneOf q all → IsOneOf q t.squares)
    (full : (c : ℕ) → c < t.width → depth all c ≡ t.height) where
  module _ (laid : List Square) (m : Move) (new : List ℕ) (v : Segment) (filled : FillsValley t.width laid m new v) (more : List Square)
      (all_is : all ≡ (laid ++ laid_group v.x v.level new) ++ more) where
    group_in : (q : Square) → IsOneOf q (laid_group v.x v.level new) → IsOneOf q t.squares
    group_in q h = all_in q (subst (IsOneOf q) (sym all_is)
        (in_front (laid ++ laid_group v.x v.level new) more q (in_back laid (laid_group v.x v.level new) q h)))

    flat : IsLevel t.width laid v
    flat = ((filled.found).valley).flat

    wide : total new ≡ v.width
    wide = fills_total t.width laid m new v filled

    low : v.level < t.height
    low = from (over_group v.x v.level new v.x (omega arith) (let some = flat.some in omega (arith, wide)))
      where
        from : HasOver v.level v.x (laid_group v.x v.level new) → v.level < t.height
        from r = let b = (within_of t tiling r.square (group_in r.square r.is)).bottom in
            omega (arith, r.top, group_sides v.x v.level new filled.positive r.square r.is)

    -- the squares of a move are those under the tiling's valley
    pub new_is : squares_under t v ≡ laid_group v.x v.level new
    new_is = same_members (squares_under t v) (laid_group v.x v.level new) (ordered_filter (hangs_under v) t.squares tiling.ordered)
        (group_ordered v.x v.level new filled.positive) forth back
      where
        forth : (p : Square) → IsOneOf p (squares_under t v) → IsOneOf p (laid_group v.x v.level new)
        forth p h = from (from_filter (hangs_under v) t.squares p h)
          where
            from : IsOneOf p t.squares × (hangs_under v p ≡ true) → IsOneOf p (laid_group v.x v.level new)
            from (k, e) = over (over_group v.x v.level new p.x u.left (omega (arith, u.right, side, wide)))
              where
                u : IsUnder v p
                u = under_from v p e

                side : 0 < p.s
                side = in_all (λ q. 0 < q.s) t.squares (tiling.tiles).sides p k

                over : HasOver v.level p.x (laid_group v.x v.level new) → IsOneOf p (laid_group v.x v.level new)
                over r = subst (λ (q : Square). IsOneOf q (laid_group v.x v.level new)) (sym same) r.is
                  where
                    same : p ≡ r.square
                    same = no_two (covers p.x v.level) t.squares
                        (let w = flat.within in omega (arith, cell_once t tiling p.x v.level (omega (arith, u.right, side)) low)) p r.square
                        k (covers_from p.x v.level p (omega arith) (omega (arith, side)) (omega (arith, u.level)) (omega (arith, u.level, side)))
                        (group_in r.square r.is) (covers_from p.x v.level r.square r.left r.right (omega (arith, r.top))
                        (omega (arith, r.top, group_sides v.x v.level new filled.positive r.square r.is)))

        back : (p : Square) → IsOneOf p (laid_group v.x v.level new) → IsOneOf p (squares_under t v)
        back p h = in_filter (hangs_under v) t.squares p (group_in p h)
            (hangs_from v p (group_top v.x v.level new p h) (group_within v.x v.level new p h).0 (omega (arith, (group_within v.x v.level new p h).1, wide)))

    move_is : m ≡ move_under t laid v
    move_is = λ i. record { count = count i; signs = (filled.signs ∙ same) i }
      where
        count : m.count ≡ length (squares_under t v)
        count = sym filled.count ∙ sym (length_group v.x v.level new) ∙ sym (ap length new_is)

        same : signs_between (depth_before laid v.x ++ map (λ q. q.y + q.s) (laid_group v.x v.level new)
            ++ depth_from t.width laid (v.x + v.width)) ≡ signs_between (bottoms t laid v)
        same = ap (λ (squares : List Square). signs_between
            (depth_before laid v.x ++ map (λ q. q.y + q.s) squares ++ depth_from t.width laid (v.x + v.width))) (sym new_is)

  -- the moves are those of the tiling's word
  pub follow_moves : (w : Word) (laid : List Square) (ls : List ℕ) → LaidMoves t.width laid w all → MovesFollow t laid w
      × ((all_levels : List ℕ) × LaidAlong t (laid_so_far laid ls) w (laid_so_far all all_levels))
  follow_moves [] laid ls p = (λ c h. ap (λ (l : List Square). depth l c) p ∙ full c h, (ls ++ t.height ∷ [], (p, refl)))
  follow_moves (m ∷ w) laid ls (v, (new, (filled, rest))) = onto (follow_moves w (laid ++ laid_group v.x v.level new) (ls ++ v.level ∷ []) rest)
    where
      pre : (more : List Square) × (all ≡ (laid ++ laid_group v.x v.level new) ++ more)
      pre = moves_prefix t.width (laid ++ laid_group v.x v.level new) w all rest

      news : squares_under t v ≡ laid_group v.x v.level new
      news = new_is laid m new v filled pre.0 pre.1

      onto : MovesFollow t (laid ++ laid_group v.x v.level new) w
          × ((all_levels : List ℕ) × LaidAlong t (laid_so_far (laid ++ laid_group v.x v.level new) (ls ++ v.level ∷ [])) w (laid_so_far all all_levels))
          → MovesFollow t laid (m ∷ w) × ((all_levels : List ℕ) × LaidAlong t (laid_so_far laid ls) (m ∷ w) (laid_so_far all all_levels))
      onto (a, (al, b)) = (
        (
          v,
          filled.found,
          low laid m new v filled pre.0 pre.1,
          move_is laid m new v filled pre.0 pre.1,
          subst (λ (l : List Square). MovesFollow t (laid ++ l) w) (sym news) a,
        ),
        (al, (v, filled.found, subst (λ (l : List Square). LaidAlong t (laid_so_far (laid ++ l) (ls ++ v.level ∷ [])) w (laid_so_far all al)) (sym news) b)),
      )
