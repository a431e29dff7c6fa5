-- The old sizes and signs stand again in the place of those that the move made.
use Rattle.std.specs.List.{slice_range, splice}
use Rattle.std.proofs.Common.{[], arith, lit<, refl, ◌+◌, ◌-◌, ◌∙◌, ◌∷◌, ◌≡◌}
use Rattle.bk_laws.proofs.Rooms.{room-long}
use Rattle.bk_play.specs.Skeleton.{first_touched}
use Rattle.bk_word.specs.declared.Sign.TheVariants.{Above, Under}
use Rattle.bk_play.proofs.parting.undo_signs.Goals as goal

pub overflow_add-start : goal.overflow_add-start
overflow_add-start c = omega (arith, c.first_touched-start.ensures, c.from-parted.ensures, c.requires.sizes_within, c.requires.sizes_fit)

pub overflow_add-start-2 : goal.overflow_add-start-2
overflow_add-start-2 c = omega (arith, c.first_touched-start.ensures, c.from-parted.ensures, c.requires.sizes_within, c.requires.sizes_fit)

pub overflow_add-start-3 : goal.overflow_add-start-3
overflow_add-start-3 c = omega (arith, c.first_touched-start.ensures, c.from-parted.ensures, c.requires.sizes_within, c.requires.sizes_fit)

pub overflow_sub-left : goal.overflow_sub-left
overflow_sub-left c = omega (arith, c.from-left.ensures, c.min.ensures)

pub overflow_add-right : goal.overflow_add-right
overflow_add-right c = omega (arith, c.from-right.ensures, c.min-2.ensures)

pub slice_bounds-splice-count : goal.slice_bounds-splice-count
slice_bounds-splice-count c = omega arith

pub slice_bounds-splice-start : goal.slice_bounds-splice-start
slice_bounds-splice-start c = omega arith

pub slice_bounds-splice-end : goal.slice_bounds-splice-end
slice_bounds-splice-end c = omega (arith, c.from-right.ensures, c.min-2.ensures)

pub overflow_sub-left-2 : goal.overflow_sub-left-2
overflow_sub-left-2 c = omega (arith, c.from-left.ensures, c.min.ensures)

pub overflow_add-right-2 : goal.overflow_add-right-2
overflow_add-right-2 c = omega (arith, c.from-right.ensures, c.min-2.ensures)

pub slice_bounds-splice-count-2 : goal.slice_bounds-splice-count-2
slice_bounds-splice-count-2 c = omega arith

pub slice_bounds-splice-start-2 : goal.slice_bounds-splice-start-2
slice_bounds-splice-start-2 c = omega arith

pub slice_bounds-splice-end-2 : goal.slice_bounds-splice-end-2
slice_bounds-splice-end-2 c = omega (arith, c.from-right.ensures, c.min-2.ensures)

pub splice-requires : goal.splice-requires
splice-requires c =
    let xs = c.args.noted.now.left ∷ c.args.noted.now.closed ∷ c.args.noted.now.right ∷ [] in
    let many = room-long xs xs (1 - c.from-left.result) (2 + c.from-right.result) (c.from-left.result + c.from-right.result + 1) refl
    (omega (arith, c.from-right.ensures, c.min-2.ensures)) (omega (arith, c.from-left.ensures, c.min.ensures)) in (
      lit< tt,
      (
        omega arith,
        (
          omega (arith, c.first_touched-start.ensures, c.from-parted.ensures, c.requires.sizes_within),
          omega (
            arith,
            many,
            c.from-parted.ensures,
            c.from-left.ensures,
            c.min.ensures,
            c.from-right.ensures,
            c.min-2.ensures,
            c.requires.sizes_fit,
          ),
        ),
      ),
    )

pub returns-clause-sizes : goal.returns-clause-sizes
returns-clause-sizes c =
    let to : c.first_touched-start.result + c.from-parted.result + 1 ≡ first_touched c.args.noted.now + (c.args.noted.now.parted + 1) =
    omega (arith, c.first_touched-start.ensures, c.from-parted.ensures) in
    c.splice.ensures ∙ (λ i. splice c.args.sizes.now.items (c.first_touched-start.ensures i) (to i)
    (slice_range (c.args.noted.now.left ∷ c.args.noted.now.closed ∷ c.args.noted.now.right ∷ [])
    (1 - (c.from-left.ensures ∙ c.min.ensures) i) (2 + (c.from-right.ensures ∙ c.min-2.ensures) i)))

pub splice-requires-2 : goal.splice-requires-2
splice-requires-2 c =
    let xs = Under ∷ Above ∷ [] in
    let many = room-long xs xs (1 - c.from-left.result) (1 + c.from-right.result) (c.from-left.result + c.from-right.result) refl
    (omega (arith, c.from-right.ensures, c.min-2.ensures)) (omega (arith, c.from-left.ensures, c.min.ensures)) in (
      lit< tt,
      (
        omega arith,
        (
          omega (arith, c.first_touched-start.ensures, c.from-parted.ensures, c.requires.signs_within),
          omega (
            arith,
            many,
            c.from-parted.ensures,
            c.from-left.ensures,
            c.min.ensures,
            c.from-right.ensures,
            c.min-2.ensures,
            c.requires.signs_fit,
          ),
        ),
      ),
    )

pub returns-clause-signs : goal.returns-clause-signs
returns-clause-signs c =
    let to : c.first_touched-start.result + c.from-parted.result ≡ first_touched c.args.noted.now + c.args.noted.now.parted =
    omega (arith, c.first_touched-start.ensures, c.from-parted.ensures) in
    c.splice-2.ensures ∙ (λ i. splice c.args.signs.now.items (c.first_touched-start.ensures i) (to i) (slice_range (Under ∷ Above ∷ [])
    (1 - (c.from-left.ensures ∙ c.min.ensures) i) (1 + (c.from-right.ensures ∙ c.min-2.ensures) i)))
