-- The cut of a walk at a first move of two squares with the sign above: then the right one of the two squares at the top
-- is longer, and no square in a corner of a canonical tiling is longer than the top left one.
use Rattle.std.proofs.Common.{List, [], ap, arith, inl, inr, length, map, refl, subst, sym, ◌+◌, ◌∙◌, ◌∷◌, ◌≡◌}
use Rattle.bk_tiling.proofs.Rows.{Chain}
use Rattle.bk_tiling.specs.Tiling.{IsOneOf, IsTiling}
use Rattle.bk_tiling.specs.declared.Square.{Square}
use Rattle.bk_word.specs.Outline.{start}
use Rattle.bk_word.specs.Word.{Move}
use Rattle.bk_word.specs.declared.Sign.TheVariants.{Above}
use Rattle.bk_lay.proofs.Filling.{in_tiling, is_under, valley_is_filled}
use Rattle.bk_lay.proofs.Joining.{compared_by_sign}
use Rattle.bk_lay.proofs.ValleySquares.{under_chain}
use Rattle.bk_lay.proofs.Steps.{start_depicts_nothing}
use Rattle.bk_lay.proofs.Words.{nothing_laid}
use Rattle.bk_lay.specs.TilingWord.{IsWordOf, MovesFollow, sign_between, signs_between, squares_under}
use Rattle.bk_word_net.proofs.TilingWords.AlongWord.{top_valley}
use Rattle.bk_catalogue.proofs.MoveCuts.CuttingPairs.{own_signs_are}
use Rattle.bk_catalogue.specs.Cuts.{ShorterFirstIsBarren}
use Rattle.bk_word.specs.OwnSigns.{own_signs}
use Rattle.bk_catalogue.proofs.Members.CornerTest.{in_corner}

-- the law: the right one would come to the corner of an image
pub shorter_first_is_barren : ShorterFirstIsBarren
shorter_first_is_barren n class e rest entry word =
    new (squares_under e.tiling p.0) refl (under_chain e.tiling [] p.0 tiling (nothing_laid e.tiling tiling) p.1 p.2) signs
  where
    tiling : IsTiling e.tiling
    tiling = (entry.member).tiling

    p : MovesFollow e.tiling [] (record { count = 2; signs = Above ∷ [] } ∷ rest)
    p = subst (IsWordOf e.tiling) word entry.word

    at : ((p.0).x ≡ 0) × ((p.0).width ≡ (e.tiling).width)
    at = top_valley e.tiling tiling p.0 p.1

    level : (p.0).level ≡ 0
    level = let flat = ((p.1).valley).flat in sym (flat.level (p.0).x (omega arith) (omega (arith, flat.some)))

    signs : Above ∷ [] ≡ signs_between (map (λ q. q.y + q.s) (squares_under e.tiling p.0))
    signs = ap (own_signs start) p.3 ∙ own_signs_are e.tiling [] [] start p.0 tiling (start_depicts_nothing e.tiling tiling) p.1
        (valley_is_filled e.tiling [] p.0 tiling (nothing_laid e.tiling tiling) p.1 p.2).0

    count : 2 ≡ length (squares_under e.tiling p.0)
    count = ap (λ (m : Move). m.count) p.3

    top : (q : Square) → IsOneOf q (squares_under e.tiling p.0) → (q.y ≡ 0) × IsOneOf q (e.tiling).squares
    top q h = (
      (is_under e.tiling [] p.0 tiling (nothing_laid e.tiling tiling) p.1 p.2 q h).level
          ∙ level,
      in_tiling e.tiling [] p.0 tiling (nothing_laid e.tiling tiling) p.1 p.2 q h,
    )

    new : (squares : List Square) → squares_under e.tiling p.0 ≡ squares
        → Chain (p.0).x (squares_under e.tiling p.0) ((p.0).x + (p.0).width)
        → Above ∷ [] ≡ signs_between (map (λ q. q.y + q.s) (squares_under e.tiling p.0)) → ⊥
    new [] f c s = omega (arith, count, ap length f)
    new (q ∷ []) f c s = omega (arith, count, ap length f)
    new (q ∷ r ∷ z ∷ squares) f c s = omega (arith, count, ap length f)
    new (q ∷ r ∷ []) f c s = both (subst (λ (l : List Square). Chain (p.0).x l ((p.0).x + (p.0).width)) f c)
        (subst (λ (l : List Square). Above ∷ [] ≡ signs_between (map (λ q. q.y + q.s) l)) f s)
      where
        a : (q.y ≡ 0) × IsOneOf q (e.tiling).squares
        a = top q (subst (IsOneOf q) (sym f) (inl refl))

        b : (r.y ≡ 0) × IsOneOf r (e.tiling).squares
        b = top r (subst (IsOneOf r) (sym f) (inr (inl refl)))

        both : Chain (p.0).x (q ∷ r ∷ []) ((p.0).x + (p.0).width) → Above ∷ [] ≡ sign_between (q.y + q.s) (r.y + r.s) ∷ [] → ⊥
        both d g = omega (
          arith,
          compared_by_sign (q.y + q.s) (r.y + r.s) Above sign,
          a.0,
          b.0,
          in_corner e.tiling q r tiling (entry.member).canonical (record { is = a.1; x = d.0 ∙ at.0; y = a.0 }) b.1
              (inr (omega (arith, d.1.0, d.1.1, at.0, at.1))) (inl b.0),
        )
          where
            sign : sign_between (q.y + q.s) (r.y + r.s) ≡ Above
            sign = cc
