use Rattle.std.proofs.Common.{List, [], ap, arith, cond, length, lit<, map, nat_eq, refl, slice_index_or, subst, sym, ℕ, ◌++◌, ◌+◌, ◌-◌, ◌∙◌, ◌∷◌}
use Rattle.std.proofs.lemmas.List.{length-append, length-map}
use Rattle.bk_word.proofs.PlayLists.{numbers-length}
use Rattle.bk_word.specs.Play.{numbers_from, outline_of}
use Rattle.bk_word.specs.Word.{Move}
use Rattle.bk_forms.specs.Form.{Form as SeenForm, with_column}
use Rattle.bk_walk_cuts.proofs.Segments.{beside_short, levels_are, numbers_are}
use Rattle.bk_walk_cuts.proofs.SmallForms.{few_small_level}
use Rattle.bk_walk_cuts.specs.SideForms.{level_of}
use Rattle.bk_walk_cuts.specs.Trace.{IsSmall}
use Rattle.bk_walk_cuts.proofs.levels.levels_along.Goals as goal

pub push_beside-requires : goal.push_beside-requires
push_beside-requires c = omega (arith, ap length c.new-levels.ensures)

pub push_beside-requires-2 : goal.push_beside-requires-2
push_beside-requires-2 c =
    let count = ap (λ (m : Move). m.count) c.m.view_is in
    let left = level_of c.args.bottoms.now (slice_index_or (outline_of c.args.skel.now).segments c.saturating_sub.result []) in
    let short = ap length (c.push_beside.ensures ∙ ap (λ (l : List SeenForm). l ++ cond (nat_eq c.valley_place-place.result 0) [] (left ∷ []))
    c.new-levels.ensures) in
    let numbers = numbers_from (c.order.result + 1) c.m.inside.count in
    let below : ℕ → SeenForm = λ n. with_column c.level_of-level.result (n - 1) in omega (
      arith,
      ap length c.push_bottoms.ensures,
      length-append c.push_beside.new.levels.items (map below numbers),
      length-map numbers below,
      numbers-length (c.order.result + 1) c.m.inside.count,
      short,
      beside_short (nat_eq c.valley_place-place.result 0) left,
      count,
      c.requires.few,
    )

pub push_bottoms-requires : goal.push_bottoms-requires
push_bottoms-requires c =
    let count = ap (λ (m : Move). m.count) c.m.view_is in
    let left = level_of c.args.bottoms.now (slice_index_or (outline_of c.args.skel.now).segments c.saturating_sub.result []) in
    let short = ap length (c.push_beside.ensures ∙ ap (λ (l : List SeenForm). l ++ cond (nat_eq c.valley_place-place.result 0) [] (left ∷ []))
    c.new-levels.ensures) in (
      lit< tt,
      (
        omega (arith, c.order.ensures.value, count, c.requires.few),
        (
          omega (arith, short, beside_short (nat_eq c.valley_place-place.result 0) left, count, c.requires.few),
          subst (IsSmall 5) (sym c.level_of-level.ensures)
              (few_small_level c.args.bottoms.now c.valley_squares.result.now c.requires.bottoms),
        ),
      ),
    )

pub returns : goal.returns
returns c =
    let o = outline_of c.args.skel.now in
    let bs = c.args.bottoms.now in
    let numbers = numbers_are c.args.skel.now c.args.m.now (numbers_from (c.order.result + 1) c.m.inside.count) c.order.result c.m.inside.count
    refl c.order.ensures.value (ap (λ (m : Move). m.count) c.m.view_is) in
    c.push_beside-2.ensures
    ∙ ap (λ (l : List SeenForm). l ++ cond (nat_eq c.valley_place-place.result (length c.signs-signs.result.now)) []
    (level_of bs (slice_index_or o.segments (c.valley_place-place.result + 1) []) ∷ []))
    (c.push_bottoms.ensures ∙ ap (λ (l : List SeenForm). l ++ map (λ n. with_column c.level_of-level.result (n - 1))
    (numbers_from (c.order.result + 1) c.m.inside.count))
    (c.push_beside.ensures ∙ (λ i. c.new-levels.ensures i ++ cond (nat_eq c.valley_place-place.result 0) []
    (level_of bs (slice_index_or o.segments (c.saturating_sub.ensures i) []) ∷ []))))
    ∙ levels_are o c.args.m.now bs c.valley_place-place.result (length c.signs-signs.result.now) c.level_of-level.result
    (numbers_from (c.order.result + 1) c.m.inside.count) c.valley_place-place.ensures.value
    (ap length c.signs-signs.ensures) (c.level_of-level.ensures ∙ ap (level_of bs) c.valley_squares.ensures) numbers
