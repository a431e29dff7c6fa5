use Rattle.std.specs.List.{list_any}
use Rattle.std.proofs.Common.{false, take, ◌≡◌}
use Rattle.bk_word.specs.Signs.{is_above}
use Rattle.bk_free_search.proofs.all_under.is_any_above.Given as goal

abbrev pub invariant-signs : goal.invariant-signs
invariant-signs l = list_any is_above (take l.sign-index l.signs) ≡ false
