use Rattle.std.proofs.Common.{rules}
use Rattle.arrayvec.proofs.ArrayVecLemmas.{items-with_items}
use Rattle.std.proofs.lemmas.List.Sorted.{answers_always}
use Rattle.bk_tiling.proofs.Refusing.{sorted_in_order}
use Rattle.bk_tiling.specs.declared.Square.{Square}
use Rattle.bk_tiling.proofs.put_in_order.Goals as goal

pub returns : goal.returns
returns c =
    rw (items-with_items c.args.squares.now c.sort_unstable_by_key.new.self (search rules))
    (sorted_in_order _ c.sort_unstable_by_key.new.self c.requires.sides c.requires.apart
    (rw c.deref_mut.ensures.value at c.sort_unstable_by_key.ensures.permutation)
    (c.sort_unstable_by_key.ensures.sorted (λ (q : Square). (q.y, q.x)) (answers_always _ _ _ (λ f a r g h. search rules))))
