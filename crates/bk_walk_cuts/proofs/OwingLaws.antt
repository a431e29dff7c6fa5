-- A cut by the first signs of a move: they ask for more squares than are left after it.
use Rattle.std.proofs.Common.{[], ap, arith, count_by, drop, subst, take, ℕ}
use Rattle.std.proofs.Common.{◌++◌, ◌+◌, ◌-◌, ◌<◌, ◌∙◌, ◌∷◌, ◌≡◌}
use Rattle.bk_word.specs.Outline.{Outline, start, valley_place}
use Rattle.bk_word.specs.Play.{outline_of, signs_apart}
use Rattle.bk_word.specs.Signs.{is_under}
use Rattle.bk_word.specs.Word.{Move, Word, order_of}
use Rattle.bk_word.specs.declared.Class.{Class}
use Rattle.bk_word.proofs.StoredBytes.{order_append, order_more}
use Rattle.bk_word.proofs.PlayLaws.{after-snoc}
use Rattle.bk_catalogue.proofs.HangingBounds.ClosingLaws.{bound-parts, unders}
use Rattle.bk_catalogue.proofs.HangingBounds.TallyLaws.{front_owes}
use Rattle.bk_walk_cuts.proofs.CutLaws.{cut_by_front}
use Rattle.bk_catalogue.proofs.MoveCuts.CuttingBounds.{too_many_to_close_is_barren}
use Rattle.bk_catalogue.proofs.TreeOfWords.MoveOrder.{Begins}
use Rattle.bk_catalogue.specs.ClosingBound.{closing_bound}
use Rattle.bk_catalogue.specs.Cuts.{IsBarren}
use Rattle.bk_walk_cuts.specs.MoveCuts.{IsCut, passed}

-- the cut by signs that ask for more squares than are left
pub owing_cut : (n : ℕ) (class : Class) (front : Word) (m : Move) (kept room left under place : ℕ) → place ≡ valley_place (outline_of front).signs
    → under ≡ count_by is_under (drop (place + 1) (outline_of front).signs) → left ≡ n - order_of front - m.count → room ≡ left - under
    → room < closing_bound (take (place - 1) (outline_of front).signs ++ take kept m.signs) → IsCut n class front m (passed kept m)
owing_cut n class front m kept room left under place p u l r over = cut_by_front n class front m kept (λ other legal count b. barren other count b)
  where
    barren : (other : Move) → other.count ≡ m.count → Begins (take kept m.signs) other.signs → IsBarren n class (front ++ other ∷ [])
    barren other count b = too_many_to_close_is_barren n class (front ++ other ∷ [])
        (omega (arith, order_append front (other ∷ []), order_more other [], owes, count))
      where
        room_is : n - order_of front - m.count - unders (drop (valley_place (outline_of front).signs + 1) (outline_of front).signs)
            < closing_bound (take (valley_place (outline_of front).signs - 1) (outline_of front).signs ++ take kept m.signs)
        room_is = subst (λ (k : ℕ). n - order_of front - m.count - unders (drop (k + 1) (outline_of front).signs)
            < closing_bound (take (k - 1) (outline_of front).signs ++ take kept m.signs)) p (omega (arith, over, r, l, u))

        all : closing_bound (outline_of (front ++ other ∷ [])).signs
            ≡ closing_bound (take (valley_place (outline_of front).signs - 1) (outline_of front).signs ++ (take kept m.signs ++ b.rest)
            ++ drop (valley_place (outline_of front).signs + 1) (outline_of front).signs)
        all = ap (λ (o : Outline). closing_bound o.signs) (after-snoc start front other) ∙ bound-parts (signs_apart (outline_of front) other)
            ∙ ap (λ l. closing_bound (take (valley_place (outline_of front).signs - 1) (outline_of front).signs ++ l
            ++ drop (valley_place (outline_of front).signs + 1) (outline_of front).signs)) b.is

        owes : n - order_of front - m.count < closing_bound (outline_of (front ++ other ∷ [])).signs
        owes = omega (
          arith,
          room_is,
          all,
          front_owes (take (valley_place (outline_of front).signs - 1) (outline_of front).signs) (take kept m.signs) b.rest
              (drop (valley_place (outline_of front).signs + 1) (outline_of front).signs),
        )
