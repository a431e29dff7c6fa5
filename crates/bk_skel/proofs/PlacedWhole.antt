-- The placing of a whole word: its squares are a tiling that has the word with these sides.
use Rattle.std.specs.List.{AllByRecursion}
use Rattle.std.proofs.Common.{List, [], ap, arith, drop, length, refl, subst, suc, sym, zero, ℕ, ◌++◌, ◌<◌, ◌∙◌, ◌∷◌, ◌≡◌, ◌≤◌}
use Rattle.std.proofs.lemmas.List.{append-nil, drop_all, take_all}
use Rattle.bk_tiling.proofs.PuttingInOrder.{in_order}
use Rattle.bk_tiling.proofs.Rows.{laid_sides}
use Rattle.bk_tiling.specs.Column.{depth}
use Rattle.bk_tiling.specs.CodeOrder.{in_code_order}
use Rattle.bk_tiling.specs.KeptTiling.{IsSide}
use Rattle.bk_tiling.specs.Tiling.{IsTiling, Tiling}
use Rattle.bk_tiling.specs.declared.Square.{Square}
use Rattle.bk_word.proofs.StoredBytes.{order_more}
use Rattle.bk_word.specs.Outline.{start}
use Rattle.bk_word.specs.Play.{IsComplete, IsLegal, after_moves, outline_of}
use Rattle.bk_word.specs.Word.{Word, order_of}
use Rattle.bk_lay.specs.TilingWord.{MovesFollow}
use Rattle.bk_word_net.specs.WordFlow.{LaidAlong, laid_so_far}
use Rattle.bk_word_net.proofs.TilingWords.TilingOfMoves.{LaidMoves, all_deep, built, follow_moves, is_tiling}
use Rattle.bk_word_net.specs.LaidTiling.{IsLaidWith}
use Rattle.bk_skel.specs.PartlyLaid.{IsPartlyLaid, IsClosed}
use Rattle.bk_skel.proofs.PlacingLoop.{first_width, IsPlacedTo}

module _ (given : List ℕ) (all_sides : AllByRecursion IsSide given) (few : length given ≤ 200) (w : Word) (complete : IsComplete w)
    (count : length given ≡ order_of w) (i : ℕ) (done : length w ≤ i) (laid : List Square) (numbers : List ℕ) (s : IsPlacedTo w given i laid numbers) where
  all_laid : length laid ≡ length given
  all_laid = omega (arith, s.many, ap order_of (drop_all i w done))

  none_left : (k : ℕ) (xs : List ℕ) → k ≡ length xs → drop k xs ≡ []
  none_left zero [] e = refl
  none_left (suc k) [] e = refl
  none_left zero (x ∷ xs) e = absurd (omega arith)
  none_left (suc k) (x ∷ xs) e = none_left k xs (omega arith)

  sides_are : laid_sides laid ≡ given
  sides_are = sym (s.sides ∙ ap (λ (xs : List ℕ). laid_sides laid ++ xs) (none_left (length laid) given all_laid) ∙ append-nil (laid_sides laid))

  partly : IsPartlyLaid (first_width w given) laid numbers (outline_of w)
  partly = subst (λ (v : Word). IsPartlyLaid (first_width w given) laid numbers (after_moves start v)) (take_all i w done) s.partly

  some : 0 < length laid
  some = from w complete.some complete.legal (omega (arith, all_laid, count))
    where
      from : (v : Word) → 0 < length v → IsLegal v → length laid ≡ order_of v → 0 < length laid
      from [] h legal e = absurd (omega arith)
      from (m ∷ v) h legal e = omega (arith, e, order_more m v, (legal.0).some)

  squares_sides : (squares : List Square) (sides : List ℕ) → laid_sides squares ≡ sides → AllByRecursion IsSide sides
      → AllByRecursion (λ q. IsSide q.s) squares
  squares_sides [] sides e a = tt
  squares_sides (q ∷ squares) [] e a = absurd (cc)
  squares_sides (q ∷ squares) (x ∷ sides) e a = (subst IsSide (sym first) a.0, squares_sides squares sides rest a.1)
    where
      first : q.s ≡ x
      first = cc

      rest : laid_sides squares ≡ sides
      rest = cc

  -- past the last move all squares are laid on one segment
  pub placed_closed : IsClosed (first_width w given) laid numbers (outline_of w)
  placed_closed = record {
    partly = partly;
    one = complete.one;
    some = some;
    few = omega (arith, all_laid, few);
    sides =
        squares_sides laid given sides_are all_sides;
  }

  abbrev the_tiling : Tiling
  the_tiling = built (first_width w given) partly.some laid (outline_of w) partly.shows complete.one some

  tiling : IsTiling the_tiling
  tiling = is_tiling (first_width w given) partly.some laid (outline_of w) partly.shows complete.one some

  laid_moves : LaidMoves (first_width w given) [] w laid
  laid_moves = s.laid_moves laid (subst (λ (v : Word). LaidMoves (first_width w given) laid v laid) (sym (drop_all i w done)) refl)

  -- past the last move the squares are a tiling that has the word with these sides
  pub placed_end : IsLaidWith w given (record { width = first_width w given; height = depth laid 0; squares = in_code_order laid })
  placed_end = record {
    tiling = tiling;
    word = followed.0;
    laid = laid;
    levels = (followed.1).0;
    along = (followed.1).1;
    sides = sides_are;
  }
    where
      followed : MovesFollow the_tiling [] w × ((all_levels : List ℕ) × LaidAlong the_tiling (laid_so_far [] []) w (laid_so_far laid all_levels))
      followed = follow_moves the_tiling tiling laid (λ q h. in_order laid q h)
          (all_deep (first_width w given) partly.some laid (outline_of w) partly.shows complete.one some) w [] [] laid_moves
