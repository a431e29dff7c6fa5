use Rattle.std.proofs.Common.{[], ap, append_assoc, map, ◌%◌, ◌++◌, ◌-◌, ◌/◌, ◌∙◌, ◌∷◌}
use Rattle.bk_word.specs.Word.{Move, sign_place}
use Rattle.bk_packed.specs.Packed.{move_digits}
use Rattle.bk_packed.proofs.digits.push_digits.Goals as goal

pub returns : goal.returns
returns c = c.push_signs.ensures ∙ (λ i. c.push_count.ensures i ++ map sign_place (c.as_slice.ensures.value i))
    ∙ append_assoc c.args.digits.now.items ((c.m.inside.count - 1) / 4 ∷ (c.m.inside.count - 1) % 4 ∷ []) (map sign_place c.m.inside.signs.items)
    ∙ ap (λ (m : Move). c.args.digits.now.items ++ move_digits m) c.m.view_is
