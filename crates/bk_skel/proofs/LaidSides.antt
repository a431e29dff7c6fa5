-- The given sides, as those of the next move are laid in a gap.
use Rattle.std.proofs.Common.{List, ap, append_assoc, drop, length, sym, take, ℕ, ◌++◌, ◌+◌, ◌∙◌, ◌≡◌, ◌≤◌}
use Rattle.std.proofs.lemmas.List.{drop-drop, length-append, length-take-le, map-append, take-append-drop}
use Rattle.bk_tiling.proofs.Rows.{laid_sides}
use Rattle.bk_tiling.proofs.Group.{group_list, length_group}
use Rattle.bk_tiling.specs.SquareGroups.{laid_group}
use Rattle.bk_tiling.specs.declared.Segment.{Segment}
use Rattle.bk_tiling.specs.declared.Square.{Square}

module _ (given : List ℕ) (laid : List Square) (count : ℕ) (fits : count ≤ length (drop (length laid) given)) (v : Segment) where
  long : length (take count (drop (length laid) given)) ≡ count
  long = length-take-le count (drop (length laid) given) fits

  group_long : length (laid_group v.x v.level (take count (drop (length laid) given))) ≡ count
  group_long = length_group v.x v.level (take count (drop (length laid) given)) ∙ long

  -- with the squares of the next move as many more are laid as it hangs
  pub laid_long : length (laid ++ laid_group v.x v.level (take count (drop (length laid) given))) ≡ length laid + count
  laid_long = length-append laid (laid_group v.x v.level (take count (drop (length laid) given))) ∙ ap (λ (n : ℕ). length laid + n) group_long

  -- the sides that are left
  pub sides_left : drop count (drop (length laid) given) ≡ drop (length (laid ++ laid_group v.x v.level (take count (drop (length laid) given)))) given
  sides_left = drop-drop count (length laid) given ∙ ap (λ (k : ℕ). drop k given) (sym laid_long)

  laid_next : laid_sides (laid ++ laid_group v.x v.level (take count (drop (length laid) given))) ≡ laid_sides laid
      ++ take count (drop (length laid) given)
  laid_next = map-append (λ q. q.s) laid (laid_group v.x v.level (take count (drop (length laid) given)))
      ∙ ap (λ (xs : List ℕ). laid_sides laid ++ xs) (group_list v.x v.level (take count (drop (length laid) given)))

  -- the given sides are those of the squares laid, and those that are left
  pub sides_next : given ≡ laid_sides laid ++ drop (length laid) given
      → given ≡ laid_sides (laid ++ laid_group v.x v.level (take count (drop (length laid) given)))
      ++ drop (length (laid ++ laid_group v.x v.level (take count (drop (length laid) given)))) given
  sides_next sides = sides ∙ ap (λ (xs : List ℕ). laid_sides laid ++ xs)
      (sym (take-append-drop count (drop (length laid) given)) ∙ ap (λ (xs : List ℕ). take count (drop (length laid) given) ++ xs) sides_left)
      ∙ sym (append_assoc (laid_sides laid) (take count (drop (length laid) given))
      (drop (length (laid ++ laid_group v.x v.level (take count (drop (length laid) given)))) given))
      ∙ ap (λ (xs : List ℕ). xs ++ drop (length (laid ++ laid_group v.x v.level (take count (drop (length laid) given)))) given) (sym laid_next)
