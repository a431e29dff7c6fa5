use Rattle.std.proofs.Common.{map, take, ◌++◌, ◌≡◌}
use Rattle.bk_word.specs.Word.{sign_place}
use Rattle.bk_packed.proofs.digits.push_signs.Given as goal

abbrev pub invariant-signs : goal.invariant-signs
invariant-signs l = l.digits.items ≡ l.fn.digits.items ++ map sign_place (take l.sign-index l.signs)
