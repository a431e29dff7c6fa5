use Rattle.std.proofs.Common.{ap, arith, length, lit<}
use Rattle.bk_tiling.specs.Tiling.{Tiling}
use Rattle.bk_gen.proofs.growing.Growing.put_behind.Goals as goal

pub push-requires : goal.push-requires
push-requires c = (lit< tt, omega (arith, c.requires.few, ap (λ (t : Tiling). length t.squares) c.self.view_is))
