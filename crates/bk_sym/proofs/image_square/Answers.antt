use Rattle.std.proofs.Common.{rules}
use Rattle.bk_sym.proofs.image_square.Goals as goal

pub returns-in-FlipX : goal.returns-in-FlipX
returns-in-FlipX c = search rules

pub returns-in-Half : goal.returns-in-Half
returns-in-Half c = search rules

pub returns-in-SwapFlipY : goal.returns-in-SwapFlipY
returns-in-SwapFlipY c = search rules

pub returns-in-SwapHalf : goal.returns-in-SwapHalf
returns-in-SwapHalf c = search rules

pub returns-in-SwapFlipX : goal.returns-in-SwapFlipX
returns-in-SwapFlipX c = search rules
