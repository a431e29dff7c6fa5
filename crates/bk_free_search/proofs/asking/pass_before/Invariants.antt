use Rattle.std.proofs.Common.{[], ◌++◌, ◌∷◌}
use Rattle.bk_word.specs.Play.{IsLegal}
use Rattle.bk_word.specs.Word.{Move}
use Rattle.bk_free_search.specs.Apart.{IsCountedTo}
use Rattle.bk_free_search.specs.Strong.{IsFewPassed, seen_passed}
use Rattle.bk_free_search.proofs.asking.pass_before.Given as goal

abbrev pub invariant-segments : goal.invariant-segments
invariant-segments l = record {
  counted : (m : Move) → IsLegal (l.board ++ m ∷ []) → IsCountedTo l.board m l.i (seen_passed l.passed);
  few : IsFewPassed l.passed l.i;
}
