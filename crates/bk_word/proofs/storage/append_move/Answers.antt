use Rattle.std.specs.Prelude.{length, map, take, ◌∷◌}
use Rattle.std.proofs.Common.{List, [], ap, append_assoc, arith, get_or, length-append, sym, ℕ, ◌++◌, ◌+◌, ◌<◌, ◌∙◌, ◌≡◌}
use Rattle.std.proofs.lemmas.List.{length-map, length-take-le, map_push, take_all, take_more}
use Rattle.bk_word.specs.StoredWord.{sign_byte}
use Rattle.bk_word.specs.declared.Sign.{Sign}
use Rattle.bk_word.proofs.storage.append_move.Goals as goal

pub push_reserved-requires-in-signs : goal.push_reserved-requires-in-signs
push_reserved-requires-in-signs c = omega (
  arith,
  c.requires,
  ap length c.signs.invariant.items,
  c.signs.invariant.capacity,
  length-append c.args.bytes.now.items (c.args.count ∷ map sign_byte (take c.signs.sign-index c.args.signs.now)),
  length-map (take c.signs.sign-index c.args.signs.now) sign_byte,
  length-take-le c.signs.sign-index c.args.signs.now (omega (arith, c.signs-test.true)),
  c.signs-test.true,
)

-- one more sign is pushed
pushed_more : (signs : List Sign) (k count b : ℕ) (d : Sign) (first old new : List ℕ) → k < length signs → b ≡ sign_byte (get_or signs k d)
    → new ≡ old ++ b ∷ [] → old ≡ first ++ count ∷ map sign_byte (take k signs) → new ≡ first ++ count ∷ map sign_byte (take (k + 1) signs)
pushed_more signs k count b d first old new below byte is so_far =
    is ∙ (λ i. so_far i ++ byte i ∷ []) ∙ append_assoc first (count ∷ map sign_byte (take k signs)) (sign_byte (get_or signs k d) ∷ [])
    ∙ ap (λ (l : List ℕ). first ++ count ∷ l) (sym (ap (map sign_byte) (take_more signs k d below) ∙ map_push sign_byte (take k signs) (get_or signs k d)))

pub returns-clause-items : goal.returns-clause-items
returns-clause-items c =
    c.signs.invariant.items
    ∙ ap (λ (l : List Sign). c.args.bytes.now.items ++ c.args.count ∷ map sign_byte l) (take_all c.signs.sign-index c.args.signs.now c.signs-test.false)

pub returns-clause-capacity : goal.returns-clause-capacity
returns-clause-capacity c = c.signs.invariant.capacity

pub signs-preserved : goal.signs-preserved
signs-preserved c = record {
  items =
      pushed_more c.args.signs.now c.signs.sign-index c.args.count c.byte_of.result _ c.args.bytes.now.items c.signs.bytes.items
      c.push_reserved-in-signs.new.self.items c.signs-test.true c.byte_of.ensures c.push_reserved-in-signs.ensures.items c.signs.invariant.items;
  capacity = c.push_reserved-in-signs.ensures.capacity ∙ c.signs.invariant.capacity;
}
