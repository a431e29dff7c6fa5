-- The places of the signs passed stand behind what was there.
use Rattle.std.proofs.Common.{List, [], ap, append_assoc, arith, get_or, length, length-append, lit<, map, sym, take, ℕ, ◌++◌, ◌+◌, ◌<◌, ◌∙◌, ◌∷◌, ◌≡◌}
use Rattle.std.proofs.lemmas.List.{append-nil, length-map, length-take-le, map_more, take_all}
use Rattle.bk_word.specs.Word.{sign_place}
use Rattle.bk_word.specs.declared.Sign.{Sign}
use Rattle.bk_packed.proofs.digits.push_signs.Goals as goal

-- one more place is pushed
pushed_more : (signs : List Sign) (k b : ℕ) (d : Sign) (first old new : List ℕ) → k < length signs → b ≡ sign_place (get_or signs k d)
    → new ≡ old ++ b ∷ [] → old ≡ first ++ map sign_place (take k signs) → new ≡ first ++ map sign_place (take (k + 1) signs)
pushed_more signs k b d first old new below place is so_far =
    is ∙ (λ i. so_far i ++ place i ∷ []) ∙ append_assoc first (map sign_place (take k signs)) (sign_place (get_or signs k d) ∷ [])
    ∙ ap (λ (l : List ℕ). first ++ l) (sym (map_more sign_place signs k d below))

pub signs-init : goal.signs-init
signs-init c = sym (append-nil c.args.digits.now.items)

pub push-requires : goal.push-requires
push-requires c = (
  lit< tt,
  omega (
    arith,
    c.requires.room,
    ap length c.signs.invariant,
    length-append c.args.digits.now.items (map sign_place (take c.signs.sign-index c.args.signs.now)),
    length-map (take c.signs.sign-index c.args.signs.now) sign_place,
    length-take-le c.signs.sign-index c.args.signs.now (omega (arith, c.signs-test.true)),
    c.signs-test.true,
  ),
)

pub signs-preserved : goal.signs-preserved
signs-preserved c =
    pushed_more c.args.signs.now c.signs.sign-index c.sign_place.result _ c.args.digits.now.items c.signs.digits.items c.push.new.self.items
    c.signs-test.true c.sign_place.ensures c.push.ensures.items c.signs.invariant

pub returns : goal.returns
returns c =
    c.signs.invariant
    ∙ ap (λ (l : List Sign). c.args.digits.now.items ++ map sign_place l) (take_all c.signs.sign-index c.args.signs.now c.signs-test.false)
