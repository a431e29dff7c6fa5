use Rattle.std.proofs.Common.{replicate, ◌≡◌, ◌≤◌}
use Rattle.bk_word.specs.declared.Sign.TheVariants.{Even}
use Rattle.bk_free_search.proofs.last_square.even_square.Given as goal

abbrev pub invariant-sides : goal.invariant-sides
invariant-sides l = record { items : l.signs.items ≡ replicate l._side Even; few : l._side ≤ l.fn.sides }
