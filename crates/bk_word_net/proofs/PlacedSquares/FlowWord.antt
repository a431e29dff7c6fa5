-- The tiling whose squares were placed move by move has the word of these moves, where the bottoms compare as its
-- signs say.
use Rattle.std.specs.List.{AllByRecursion}
use Rattle.std.proofs.Common.{List, [], ap, length, refl, subst, sym, true, ℕ, ◌++◌, ◌+◌, ◌<◌, ◌∙◌, ◌∷◌, ◌≡◌}
use Rattle.std.proofs.lemmas.List.{length-map}
use Rattle.bk_tiling.proofs.TilingLaws.{wide_enough}
use Rattle.bk_tiling.specs.Column.{depth}
use Rattle.bk_tiling.specs.declared.Segment.{Segment}
use Rattle.bk_tiling.specs.Tiling.{IsOneOf, IsTiling, Tiling}
use Rattle.bk_tiling.specs.declared.Square.{Square}
use Rattle.bk_tiling.proofs.Group.{group_list}
use Rattle.bk_tiling.specs.SquareGroups.{laid_group}
use Rattle.bk_word.specs.Outline.{Outline}
use Rattle.bk_word.specs.Play.{AreLegalFrom, after_move, parts}
use Rattle.bk_word.specs.Word.{Move, Word}
use Rattle.bk_word.specs.declared.Sign.{Sign}
use Rattle.bk_lay.proofs.Filling.{valley_is_filled}
use Rattle.bk_lay.proofs.Places.{Placed, placed}
use Rattle.bk_lay.proofs.Steps.{move_depicts}
use Rattle.bk_lay.proofs.Valleys.{one_leftmost_valley}
use Rattle.bk_lay.proofs.Words.{there_is_a_valley}
use Rattle.bk_lay.specs.Depiction.{Depicts, FillsFromTop, IsNumbered}
use Rattle.bk_lay.specs.TilingWord.{IsLeftmostValley, MovesFollow, bottoms, move_under, signs_between, squares_under}
use Rattle.bk_lay.specs.WordLaws.{NeverDeeperBefore}
use Rattle.bk_word_net.specs.FlowTiling.{SignsCompare, bottoms_of_move}
use Rattle.bk_word_net.specs.WordFlow.{LaidAlong, laid_so_far}
use Rattle.bk_word_net.proofs.PlacedSquares.PlacedValley.{IsPlacing, Placing, low, new_is, placing_prefix}
use Rattle.bk_word_net.proofs.PlacedSquares.MoveBottoms.{bottoms_are}

module _ (t : Tiling) (tiling : IsTiling t) (all : List Square) (all_in : (q : Square) → IsOneOf q all → IsOneOf q t.squares)
    (full : (c : ℕ) → c < t.width → depth all c ≡ t.height)
    (bottom : ℕ → ℕ) (bottom_is : (n : ℕ) (q : Square) → IsNumbered all n q → bottom n ≡ q.y + q.s) where
  module _ (laid : List Square) (nodes : List Segment) (o : Outline) (fills : FillsFromTop t laid) (d : Depicts t laid nodes o)
      (v : Segment) (found : IsLeftmostValley t.width laid v)
      (m : Move) (legal : 0 < m.count) (x level : ℕ) (new : List ℕ) (step : IsPlacing t.width laid o m x level new) (more : List Square)
      (all_is : all ≡ (laid ++ laid_group x level new) ++ more) where
    same_valley : (p : Placed t.width laid 0 d.runs) → p.valley ≡ v
    same_valley p = one_leftmost_valley t.width laid p.valley v p.leftmost found

    -- where the bottoms compare as a move's signs say, the move is the tiling's
    pub move_is : m.signs ≡ signs_between (bottoms_of_move bottom o m) → m ≡ move_under t laid v
    move_is e = λ i. record { count = count i; signs = (e ∙ ap signs_between compared) i }
      where
        p : Placed t.width laid 0 d.runs
        p = placed t.width laid d.runs (wide_enough t tiling) d.cut
            (subst (λ (signs : List Sign). AllByRecursion (λ sign. parts sign ≡ true) signs) d.signs d.parted)

        compared : bottoms_of_move bottom o m ≡ bottoms t laid v
        compared = bottoms_are t tiling all all_in full bottom bottom_is laid nodes o fills d v found m legal x level new step more all_is p (same_valley p)

        count : m.count ≡ length (squares_under t v)
        count = sym step.count ∙ ap length (sym (group_list x level new)) ∙ length-map (laid_group x level new) (λ q. q.s) ∙ sym (ap length (new_is t
            tiling all all_in full bottom bottom_is laid nodes o fills d v found m legal x level new step more all_is))

  -- the moves of a word whose sides are a flow's are the tiling's, one after another
  pub follow : (w : Word) (o : Outline) (laid : List Square) (nodes : List Segment) (ls : List ℕ) → FillsFromTop t laid
      → Depicts t laid nodes o → AreLegalFrom o w → Placing t.width laid o w all → SignsCompare bottom o w
      → MovesFollow t laid w × ((all_levels : List ℕ) × LaidAlong t (laid_so_far laid ls) w (laid_so_far all all_levels))
  follow [] o laid nodes ls fills d legal p signs = (λ c h. ap (λ (l : List Square). depth l c) p ∙ full c h, (ls ++ t.height ∷ [], (p, refl)))
  follow (m ∷ w) o laid nodes ls fills d legal (x, (level, (new, (step, rest)))) signs =
      onto (follow w (after_move o m) (laid ++ laid_group x level new) (nodes ++ v.0 ∷ []) (ls ++ (v.0).level ∷ []) next_fills
      next_depicts legal.1 rest signs.1)
    where
      v : (v : Segment) × IsLeftmostValley t.width laid v × NeverDeeperBefore laid v
      v = there_is_a_valley t.width laid (wide_enough t tiling)

      pre : (more : List Square) × (all ≡ (laid ++ laid_group x level new) ++ more)
      pre = placing_prefix t.width (laid ++ laid_group x level new) (after_move o m) w all rest

      news : squares_under t v.0 ≡ laid_group x level new
      news = new_is t tiling all all_in full bottom bottom_is laid nodes o fills d v.0 v.1 m (legal.0).some x level new step pre.0 pre.1

      down : (v.0).level < t.height
      down = low t tiling all all_in full bottom bottom_is laid nodes o fills d v.0 v.1 m (legal.0).some x level new step pre.0 pre.1

      moves : m ≡ move_under t laid v.0
      moves = move_is laid nodes o fills d v.0 v.1 m (legal.0).some x level new step pre.0 pre.1 signs.0

      next_fills : FillsFromTop t (laid ++ laid_group x level new)
      next_fills = subst (λ (l : List Square). FillsFromTop t (laid ++ l)) news (valley_is_filled t laid v.0 tiling fills v.1 down).1

      next_depicts : Depicts t (laid ++ laid_group x level new) (nodes ++ v.0 ∷ []) (after_move o m)
      next_depicts = subst (λ (l : List Square). Depicts t (laid ++ l) (nodes ++ v.0 ∷ []) (after_move o m)) news
          (subst (λ (n : Move). Depicts t (laid ++ squares_under t v.0) (nodes ++ v.0 ∷ []) (after_move o n)) (sym moves)
          (move_depicts t laid nodes o v.0 tiling fills d v.1 down).1)

      onto : MovesFollow t (laid ++ laid_group x level new) w
          × ((all_levels : List ℕ) × LaidAlong t (laid_so_far (laid ++ laid_group x level new) (ls ++ (v.0).level ∷ [])) w (laid_so_far all all_levels))
          → MovesFollow t laid (m ∷ w) × ((all_levels : List ℕ) × LaidAlong t (laid_so_far laid ls) (m ∷ w) (laid_so_far all all_levels))
      onto (a, (al, b)) = (
        (v.0, v.1, down, moves, subst (λ (l : List Square). MovesFollow t (laid ++ l) w) (sym news) a),
        (al, (v.0, v.1, subst (λ (l : List Square). LaidAlong t (laid_so_far (laid ++ l) (ls ++ (v.0).level ∷ [])) w (laid_so_far all al)) (sym news) b)),
      )
