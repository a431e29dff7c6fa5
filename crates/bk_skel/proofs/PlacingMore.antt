-- The placing of a word with one move more: the move can be laid, and where it fills no valley, no tiling has the word with these sides.
use Rattle.std.specs.List.{AllByRecursion, concat}
use Rattle.std.proofs.Common.{List, Some, ap, arith, drop, length, slice_get, subst, sym, take, ℕ, ◌*◌, ◌++◌, ◌+◌, ◌∙◌, ◌∷◌, ◌≡◌, ◌≤◌}
use Rattle.std.proofs.lemmas.List.{length-append, length-map, length-take-le, take-append-drop}
use Rattle.bk_laws.proofs.AllOfLists.{all-drop, all-take}
use Rattle.bk_tiling.proofs.Rows.{laid_sides}
use Rattle.bk_tiling.specs.KeptTiling.{IsSide}
use Rattle.bk_tiling.specs.SquareGroups.{laid_group}
use Rattle.bk_tiling.specs.Tiling.{IsOneOf, Tiling}
use Rattle.bk_tiling.specs.declared.Segment.{Segment}
use Rattle.bk_tiling.specs.declared.Square.{Square}
use Rattle.bk_word.proofs.StoredBytes.{order_more}
use Rattle.bk_word.specs.Outline.{IsLegalMove, Outline, start, valley_of}
use Rattle.bk_word.specs.Play.{IsLegal, after_move, after_moves, numbers_from}
use Rattle.bk_word.specs.Word.{Move, Word, order_of}
use Rattle.bk_word.proofs.WordCuts.{legal_at, outline_more, split_at}
use Rattle.bk_lay.proofs.Valleys.{one_leftmost_valley}
use Rattle.bk_word_net.proofs.TilingWords.MovesOfTiling.{AgreesAt, AgreesOn, agrees_on}
use Rattle.bk_word_net.proofs.TilingWords.TilingOfMoves.{LaidMoves}
use Rattle.bk_word_net.proofs.Outlines.NumberedValley.{shows_filled}
use Rattle.bk_skel.proofs.NumbersAfter.{few_after, known_after, low_after, numbers_after}
use Rattle.bk_skel.proofs.PlacingGap.{valley_gap, only}
use Rattle.bk_word_net.specs.LaidTiling.{IsLaidWith}
use Rattle.bk_skel.specs.PartlyLaid.{CanLay, IsPartlyLaid}
use Rattle.bk_word_net.specs.LaidOutline.{FillsValley, IsNumber, front_of}
use Rattle.bk_skel.proofs.LaidSides.{laid_long, sides_left, sides_next}
use Rattle.bk_skel.proofs.PlacingLoop.{first_width, IsPlacedTo}

module _ (given : List ℕ) (all_sides : AllByRecursion IsSide given) (few : length given ≤ 200) (w : Word) (legal : IsLegal w)
    (i : ℕ) (laid : List Square) (numbers : List ℕ) (s : IsPlacedTo w given i laid numbers) (m : Move) (at : slice_get w i ≡ Some m) where
  rest_is : drop i w ≡ m ∷ drop (i + 1) w
  rest_is = split_at w i m at

  order_is : order_of (drop i w) ≡ m.count + order_of (drop (i + 1) w)
  order_is = ap order_of rest_is ∙ order_more m (drop (i + 1) w)

  left : length given ≡ length laid + length (drop (length laid) given)
  left = ap length s.sides ∙ length-append (laid_sides laid) (drop (length laid) given)
      ∙ ap (λ (n : ℕ). n + length (drop (length laid) given)) (length-map laid (λ q. q.s))

  fits : m.count ≤ length (drop (length laid) given)
  fits = omega (arith, left, s.many, order_is)

  -- the sides of the move are there
  pub new_fits : length laid + m.count ≤ length given
  new_fits = omega (arith, fits, left)

  legal_here : IsLegalMove (after_moves start (take i w)) m
  legal_here = legal_at start w i m legal at

  module _ (first end : ℕ) (first_is : first ≡ length (front_of (after_moves start (take i w))))
      (end_is : end ≡ length (front_of (after_moves start (take i w))) + length (valley_of (after_moves start (take i w)))) where
    long : length (take m.count (drop (length laid) given)) ≡ m.count
    long = length-take-le m.count (drop (length laid) given) fits

    same_move : m ≡ record { count = length (take m.count (drop (length laid) given)); signs = m.signs }
    same_move = sym (λ j. record { count = long j; signs = m.signs })

    -- the move can be laid
    pub can_lay : CanLay (record { width = first_width w given; laid = laid; numbers = numbers })
        (record { first = first; end = end; signs = m.signs; sides = take m.count (drop (length laid) given) }) (after_moves start (take i w))
    can_lay = record {
      partly = s.partly;
      legal = subst (IsLegalMove (after_moves start (take i w))) same_move legal_here;
      first_is = first_is;
      end_is = end_is;
      sides = all-take IsSide m.count (drop (length laid) given) (all-drop IsSide (length laid) given all_sides);
      room = omega (arith, long, new_fits, few);
    }

    parted : drop (length laid) given ≡ take m.count (drop (length laid) given) ++ drop m.count (drop (length laid) given)
    parted = sym (take-append-drop m.count (drop (length laid) given))

    agree : (t : Tiling) → IsLaidWith w given t
        → AgreesOn (first_width w given) t laid (after_moves start (take i w)) m (drop (i + 1) w)
        (take m.count (drop (length laid) given)) (drop m.count (drop (length laid) given))
    agree t l = agrees_on (first_width w given) t laid (after_moves start (take i w)) m (drop (i + 1) w)
        (take m.count (drop (length laid) given)) (drop m.count (drop (length laid) given)) legal_here.some long
        (subst (λ (v : Word). AgreesAt (first_width w given) t laid (after_moves start (take i w)) v
        (take m.count (drop (length laid) given) ++ drop m.count (drop (length laid) given))) rest_is
        (subst (AgreesAt (first_width w given) t laid (after_moves start (take i w)) (drop i w)) parted (s.agrees t l)))

    -- where it fills no valley, no tiling has the word with these sides
    pub placed_none : ((v : Segment) → FillsValley (first_width w given) laid
        (record { count = length (take m.count (drop (length laid) given)); signs = m.signs }) (take m.count (drop (length laid) given)) v → ⊥)
        → (t : Tiling) → IsLaidWith w given t → ⊥
    placed_none never t l = let a = agree t l in
        never a.valley (subst (λ (n : Move). FillsValley (first_width w given) laid n (take m.count (drop (length laid) given)) a.valley) same_move a.filled)

    module _ (v : Segment) (fills : FillsValley (first_width w given) laid
        (record { count = length (take m.count (drop (length laid) given)); signs = m.signs }) (take m.count (drop (length laid) given)) v) where
      own_fills : FillsValley (first_width w given) laid m (take m.count (drop (length laid) given)) v
      own_fills = subst (λ (n : Move). FillsValley (first_width w given) laid n (take m.count (drop (length laid) given)) v) (sym same_move) fills

      partly_next : IsPartlyLaid (first_width w given) (laid ++ laid_group v.x v.level (take m.count (drop (length laid) given)))
          ((take first numbers ++ numbers_from (length laid + 1) (length (take m.count (drop (length laid) given)))) ++ drop end numbers)
          (after_move (after_moves start (take i w)) m)
      partly_next = record {
        shows = shows_filled (first_width w given) laid (after_moves start (take i w)) (s.partly).shows (s.partly).some m
            (take m.count (drop (length laid) given)) v own_fills;
        some = (s.partly).some;
        narrow = (s.partly).narrow;
        numbers_are = numbers_after (first_width w given) laid numbers first end m.signs (take m.count (drop (length laid) given))
            (after_moves start (take i w)) can_lay
            ∙ ap (λ (n : Move). concat (after_move (after_moves start (take i w)) n).segments) (sym same_move);
        known = subst (λ (u : Segment). AllByRecursion
            (IsNumber (laid ++ laid_group u.x u.level (take m.count (drop (length laid) given))))
            ((take first numbers ++ numbers_from (length laid + 1) (length (take m.count (drop (length laid) given)))) ++ drop end numbers)) (sym same_gap)
            (known_after (first_width w given) laid numbers first end m.signs (take m.count (drop (length laid) given))
            (after_moves start (take i w)) can_lay);
        few = omega (
          arith,
          laid_long given laid m.count fits v,
          long,
          few_after (first_width w given) laid numbers first end m.signs
              (take m.count (drop (length laid) given)) (after_moves start (take i w)) can_lay,
        );
        low = subst (λ (u : Segment). (q : Square) → IsOneOf q (laid ++ laid_group u.x u.level (take m.count (drop (length laid) given)))
            → q.y + q.s ≤ 999_999_999_999_999 * length (laid ++ laid_group u.x u.level (take m.count (drop (length laid) given)))) (sym same_gap)
            (low_after (first_width w given) laid numbers first end m.signs (take m.count (drop (length laid) given)) (after_moves start (take i w)) can_lay);
      }
        where
          same_gap : v ≡ valley_gap (first_width w given) laid numbers first end m.signs (take m.count (drop (length laid) given))
              (after_moves start (take i w)) can_lay
          same_gap = only (first_width w given) laid numbers first end m.signs (take m.count (drop (length laid) given))
              (after_moves start (take i w)) can_lay v fills

      agrees_next : (t : Tiling) → IsLaidWith w given t
          → AgreesAt (first_width w given) t (laid ++ laid_group v.x v.level (take m.count (drop (length laid) given)))
          (after_move (after_moves start (take i w)) m) (drop (i + 1) w)
          (drop (length (laid ++ laid_group v.x v.level (take m.count (drop (length laid) given)))) given)
      agrees_next t l = subst (AgreesAt (first_width w given) t (laid ++ laid_group v.x v.level (take m.count (drop (length laid) given)))
          (after_move (after_moves start (take i w)) m) (drop (i + 1) w)) (sides_left given laid m.count fits v)
          (subst (λ (u : Segment). AgreesAt (first_width w given) t
          (laid ++ laid_group u.x u.level (take m.count (drop (length laid) given))) (after_move (after_moves start (take i w)) m)
          (drop (i + 1) w) (drop m.count (drop (length laid) given)))
          (one_leftmost_valley (first_width w given) laid (agree t l).valley v ((agree t l).filled).found fills.found) (agree t l).next)

      -- with the move laid, the placing has come one move further
      pub placed_more : IsPlacedTo w given (i + 1) (laid ++ laid_group v.x v.level (take m.count (drop (length laid) given)))
          ((take first numbers ++ numbers_from (length laid + 1) (length (take m.count (drop (length laid) given)))) ++ drop end numbers)
      placed_more = record {
        partly = subst (IsPartlyLaid (first_width w given) (laid ++ laid_group v.x v.level (take m.count (drop (length laid) given)))
            ((take first numbers ++ numbers_from (length laid + 1) (length (take m.count (drop (length laid) given))))
            ++ drop end numbers)) (sym (outline_more start w i m at)) partly_next;
        many = omega (arith, laid_long given laid m.count fits v, s.many, order_is);
        sides = sides_next given laid m.count fits v s.sides;
        laid_moves = λ all p. s.laid_moves all (subst (λ (x : Word). LaidMoves (first_width w given) laid x all) (sym rest_is)
            (v, (take m.count (drop (length laid) given), (own_fills, p))));
        agrees = λ t l. subst (λ (p : Outline). AgreesAt (first_width w given) t
            (laid ++ laid_group v.x v.level (take m.count (drop (length laid) given))) p (drop (i + 1) w)
            (drop (length (laid ++ laid_group v.x v.level (take m.count (drop (length laid) given)))) given))
            (sym (outline_more start w i m at)) (agrees_next t l);
      }
