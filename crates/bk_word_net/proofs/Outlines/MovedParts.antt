-- The outline after a move, by the parts of the outline that is cut at its leftmost valley.
use Rattle.std.proofs.Common.{List, [], ap, arith, filter, length, map, ℕ, ◌++◌, ◌+◌, ◌∙◌, ◌∷◌, ◌≡◌}
use Rattle.std.proofs.lemmas.List.{append_assoc, length-append, length-map}
use Rattle.std.proofs.lemmas.List.Elements.{filter-append}
use Rattle.bk_word.proofs.PlayLists.{numbers-length}
use Rattle.bk_word.specs.Outline.{IsLegalMove, Outline}
use Rattle.bk_word.specs.Play.{after_move, joined, new_squares, parts, segments_apart, signs_apart}
use Rattle.bk_word.specs.Word.{Move}
use Rattle.bk_word_net.proofs.Outlines.ValleyCut.{AtValley}
use Rattle.bk_word_net.proofs.Outlines.OutlineParts.{drop_backs, drop_signs, filter_part, joined_before, joined_behind, left_open, right_open, take_fronts}
use Rattle.bk_word_net.proofs.Outlines.OutlineParts.{take_signs}

-- the outline after a legal move: the valley and the segments beside it give way
module _ (o : Outline) (v : AtValley o) (m : Move) (legal : IsLegalMove o m) where
  -- a legal move has a sign between each two segments that it touches or makes
  pub many_between : length (v.left ++ (map (λ q. q ∷ []) (new_squares o m) ++ v.right)) ≡ length m.signs + 1
  many_between = omega (
    arith,
    legal.signs,
    left_open o v,
    right_open o v,
    length-append v.left (map (λ q. q ∷ []) (new_squares o m) ++ v.right),
    length-append (map (λ q. q ∷ []) (new_squares o m)) v.right,
    length-map (new_squares o m) (λ (q : ℕ). q ∷ []),
    numbers-length (length o.hung + 1) m.count,
  )

  -- the segments just after a move, before the even ones are joined
  pub apart_segments : segments_apart o m ≡ v.before ++ ((v.left ++ (map (λ q. q ∷ []) (new_squares o m) ++ v.right)) ++ v.after)
  apart_segments = (λ i. take_fronts o v i ++ map (λ q. q ∷ []) (new_squares o m) ++ drop_backs o v i)
      ∙ regroup v.before v.left (map (λ q. q ∷ []) (new_squares o m)) v.right v.after
    where
      regroup : (a b c d e : List (List ℕ)) → a ++ b ++ c ++ (d ++ e) ≡ a ++ ((b ++ (c ++ d)) ++ e)
      regroup a b c d e = simp append_assoc

  -- the signs just after a move, before the even ones are joined
  pub apart_signs : signs_apart o m ≡ v.before_signs ++ (m.signs ++ v.after_signs)
  apart_signs = (λ i. take_signs o v i ++ m.signs ++ drop_signs o v i) ∙ append_assoc v.before_signs m.signs v.after_signs

  -- the segments after it: only those that it touched are joined
  pub segments_after : (after_move o m).segments ≡ v.before ++ (joined m.signs (v.left ++ (map (λ q. q ∷ []) (new_squares o m) ++ v.right)) ++ v.after)
  segments_after = (λ i. joined (apart_signs i) (apart_segments i))
      ∙ joined_behind v.before v.before_signs (m.signs ++ v.after_signs)
      ((v.left ++ (map (λ q. q ∷ []) (new_squares o m) ++ v.right)) ++ v.after) v.before_many v.before_part
      ∙ ap (λ (l : List (List ℕ)). v.before ++ l)
      (joined_before m.signs v.after_signs (v.left ++ (map (λ q. q ∷ []) (new_squares o m) ++ v.right)) v.after many_between v.after_many v.after_part)

  -- the signs after a move: only its own even ones go
  pub signs_after : (after_move o m).signs ≡ v.before_signs ++ (filter parts m.signs ++ v.after_signs)
  signs_after = ap (filter parts) apart_signs
      ∙ filter-append parts v.before_signs (m.signs ++ v.after_signs)
      ∙ (λ i. filter_part v.before_signs v.before_part i ++ filter-append parts m.signs v.after_signs i)
      ∙ (λ i. v.before_signs ++ (filter parts m.signs ++ filter_part v.after_signs v.after_part i))
