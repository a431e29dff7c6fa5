-- What `net` writes of the rectangle 3x2, and of one twice as large.
use Rattle.std.specs.Fmt.{digits}
use Rattle.std.specs.Prelude.{codes, refl, ◌≡◌}
use Rattle.bk_tiling.proofs.ExampleTilings.{rectangle_3x2}
use Rattle.bk_tiling.specs.Scale.{enlarged}
use Rattle.bk_sym.specs.Canonical.{scaled_down_tiling}
use Rattle.bk_report.specs.Answers.{line, side_words}
use Rattle.bk_read_back.specs.NetReadBack.{net_text}

net-3x2 : net_text rectangle_3x2 ≡ codes "3 0-2 0-1 1-2 ; 3 2 1 1"
unfolding digits
net-3x2 = refl

net-6x4 : net_text (enlarged 2 rectangle_3x2) ≡ codes "3 0-2 0-1 1-2 ; 6 4 2 2"
unfolding digits
net-6x4 = refl

-- the answer of `flow` to both
found-3x2 : line (side_words (scaled_down_tiling rectangle_3x2)) ≡ codes "3 2 1 1\n"
unfolding digits
found-3x2 = refl

found-6x4 : line (side_words (scaled_down_tiling (enlarged 2 rectangle_3x2))) ≡ codes "3 2 1 1\n"
unfolding digits
found-6x4 = refl
