-- The placing of a whole word, move by move: what it has come to after some moves, and what this says of the tilings that
-- have the word with these sides.
use Rattle.std.specs.List.{AllByRecursion}
use Rattle.std.proofs.Common.{List, [], arith, drop, length, refl, subst, sum, sym, take, ℕ, ◌*◌, ◌++◌, ◌+◌, ◌<◌, ◌∷◌, ◌≡◌, ◌≤◌}
use Rattle.std.proofs.lemmas.List.{length-take-le, take-append-drop}
use Rattle.bk_laws.proofs.Totals.{sum_is_total, total}
use Rattle.bk_laws.proofs.AllOfLists.{all-take}
use Rattle.bk_tiling.proofs.Rows.{laid_sides}
use Rattle.bk_tiling.specs.KeptTiling.{IsSide}
use Rattle.bk_tiling.specs.Tiling.{Tiling}
use Rattle.bk_tiling.specs.declared.Square.{Square}
use Rattle.bk_word.proofs.StoredBytes.{order_more}
use Rattle.bk_word.specs.Outline.{start}
use Rattle.bk_word.specs.Play.{IsComplete, after_moves}
use Rattle.bk_word.specs.Word.{Move, Word, order_of}
use Rattle.bk_word_net.proofs.Outlines.RunsAfterMove.{shows_start}
use Rattle.bk_word_net.proofs.TilingWords.MovesOfTiling.{AgreesAt, agrees_start}
use Rattle.bk_word_net.proofs.TilingWords.TilingOfMoves.{LaidMoves}
use Rattle.bk_word_net.specs.LaidTiling.{IsLaidWith}
use Rattle.bk_skel.specs.PartlyLaid.{IsPartlyLaid}
use Rattle.bk_skel.proofs.SideCuts.{how_small_and_large_sides_sum}

-- the width: what the sides of the first move sum to
abbrev pub first_width : Word → List ℕ → ℕ
first_width [] sides = 0
first_width (m ∷ w) sides = sum (take m.count sides)

-- what the placing has come to after i moves
pub record IsPlacedTo (w : Word) (given : List ℕ) (i : ℕ) (laid : List Square) (numbers : List ℕ) : Type 0 where
  pub partly : IsPartlyLaid (first_width w given) laid numbers (after_moves start (take i w))
  pub many : length laid + order_of (drop i w) ≡ length given
  pub sides : given ≡ laid_sides laid ++ drop (length laid) given
  pub laid_moves : (all : List Square) → LaidMoves (first_width w given) laid (drop i w) all → LaidMoves (first_width w given) [] w all
  pub agrees : (t : Tiling) → IsLaidWith w given t → AgreesAt (first_width w given) t laid (after_moves start (take i w)) (drop i w) (drop (length laid) given)

module _ (given : List ℕ) (all_sides : AllByRecursion IsSide given) (few : length given ≤ 200) where
  placed_first : (m : Move) (v : Word) → IsComplete (m ∷ v) → length given ≡ order_of (m ∷ v) → IsPlacedTo (m ∷ v) given 0 [] []
  placed_first m v complete count = record {
    partly = record {
      shows = shows_start (sum (take m.count given)) wide;
      some = wide;
      narrow = omega (arith, bounds.1, long, fits, few);
      numbers_are = refl;
      known = tt;
      few = omega arith;
      low = λ q h. absurd h;
    };
    many = omega (arith, count);
    sides = refl;
    laid_moves = λ all p. p;
    agrees = λ t l. subst (λ (n : ℕ). AgreesAt n t [] start (m ∷ v) given) (sym (sum_is_total (take m.count given)))
        (subst (λ (rest : List ℕ). AgreesAt (total (take m.count given)) t [] start (m ∷ v) rest) (take-append-drop m.count given)
        (agrees_start t m v (take m.count given) (drop m.count given) some long
        (subst (λ (rest : List ℕ). IsLaidWith (m ∷ v) rest t) (sym (take-append-drop m.count given)) l)));
  }
    where
      some : 0 < m.count
      some = ((complete.legal).0).some

      fits : m.count ≤ length given
      fits = omega (arith, count, order_more m v)

      long : length (take m.count given) ≡ m.count
      long = length-take-le m.count given fits

      bounds : (length (take m.count given) ≤ sum (take m.count given)) × (sum (take m.count given) ≤ 999_999_999_999_999 * length (take m.count given))
      bounds = how_small_and_large_sides_sum (take m.count given) (all-take IsSide m.count given all_sides)

      wide : 0 < sum (take m.count given)
      wide = omega (arith, bounds.0, long, some)

  -- before the first move
  pub placed_start : (w : Word) → IsComplete w → length given ≡ order_of w → IsPlacedTo w given 0 [] []
  placed_start [] complete count = absurd (omega (arith, complete.some))
  placed_start (m ∷ v) complete count = placed_first m v complete count
