use Rattle.std.proofs.Common.{List, drop, length, map, ℕ, ◌++◌, ◌+◌, ◌≡◌, ◌≤◌}
use Rattle.bk_word.specs.Word.{sign_place}
use Rattle.bk_packed.specs.Packed.{begun_by}
use Rattle.bk_packed.proofs.digits.signs_before.Given as goal

abbrev pub invariant-signs : goal.invariant-signs
invariant-signs l = record {
  within : l.i ≤ length l.signs;
  sum : (ds : List ℕ) → length l.signs + length ds ≤ 64 → l.behind ≡ begun_by 64 ds → l.number ≡ begun_by 64 (map sign_place (drop l.i l.signs) ++ ds);
}
