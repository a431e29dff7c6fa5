use Rattle.std.proofs.Common.{drop, get_or, map, ◌≡◌}
use Rattle.bk_lay.specs.TilingWord.{signs_between}
use Rattle.bk_word_net.specs.LaidOutline.{bottom_at}
use Rattle.bk_skel.proofs.placing.signs_fit.Given as goal

abbrev pub invariant-loop-i : goal.invariant-loop-i
invariant-loop-i l = record {
  left : l.left ≡ bottom_at l.laid (get_or l.numbers l.i 0);
  forth : l.signs ≡ signs_between (map (bottom_at l.laid) l.numbers) → drop l.i l.signs ≡ signs_between (map (bottom_at l.laid) (drop l.i l.numbers));
  back : drop l.i l.signs ≡ signs_between (map (bottom_at l.laid) (drop l.i l.numbers)) → l.signs ≡ signs_between (map (bottom_at l.laid) l.numbers);
}
