use Rattle.std.proofs.Common.{count_by, take, ◌≡◌}
use Rattle.bk_word.specs.Signs.{is_even}
use Rattle.bk_free_search.proofs.all_under.evens_in.Given as goal

abbrev pub invariant-signs : goal.invariant-signs
invariant-signs l = l.evens ≡ count_by is_even (take l.sign-index l.signs)
