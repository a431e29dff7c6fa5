-- No square in a corner of a canonical tiling is longer than the top left one.
use Rattle.std.specs.Cmp.Lexicographic.{nat_list_cmp_total, slice_cmp}
use Rattle.std.specs.Ordering.{is_le, nat_cmp, ordering_reverse}
use Rattle.std.specs.declared.cmp.Ordering.TheVariants.{Less}
use Rattle.std.proofs.Common.{ap, arith, inl, inr, sym, ◌<◌, ◌∙◌, ◌≡◌, ◌≤◌, ◌⊎◌}
use Rattle.std.proofs.lemmas.Bool.{cases_lt, false≢true}
use Rattle.bk_tiling.specs.Tiling.{Tiling}
use Rattle.bk_code.specs.Code.{code_of, flat}
use Rattle.bk_sym.proofs.FirstSide.{HasHead, shorter_is_less, top_left_first, turned_first}
use Rattle.bk_sym.proofs.KeptImages.{side-image_square}
use Rattle.bk_sym.proofs.OwnCanonical.{own_greatest}
use Rattle.bk_sym.specs.Canonical.{IsAtMost}
use Rattle.bk_sym.specs.Image.{image, image_square}
use Rattle.bk_catalogue.specs.CanonicalCorners.{CornersAreNoLonger}

not_at_most : (t u : Tiling) → slice_cmp nat_cmp (flat (code_of t)) (flat (code_of u)) ≡ Less → IsAtMost u t → ⊥
not_at_most t u less most = false≢true (ap is_le (sym (nat_list_cmp_total.antisymm (flat (code_of u)) (flat (code_of t)) ∙ ap ordering_reverse less)) ∙ most)

-- the law: else an image would have a greater list of sides
pub corners_are_no_longer : CornersAreNoLonger
corners_are_no_longer t turn q r tiling canonical a lies b = cases (cases_lt q.s r.s)
  where
    first : HasHead t.squares q
    first = top_left_first t.squares q tiling.ordered a.is a.x a.y

    turned : HasHead (image turn t).squares (image_square turn t.width t.height r)
    turned = turned_first t turn r tiling b.is b.x b.y

    cases : (q.s < r.s) ⊎ (r.s ≤ q.s) → r.s ≤ q.s
    cases (inr h) = h
    cases (inl h) = absurd (not_at_most t (image turn t)
        (shorter_is_less t (image turn t) q (image_square turn t.width t.height r) first turned (omega (arith, h, side-image_square turn t.width t.height r)))
        (own_greatest t tiling canonical turn lies))
