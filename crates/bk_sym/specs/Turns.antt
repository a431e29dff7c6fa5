-- Turns one after the other.
-- Example (ImageExamples): two quarter turns one way are a half turn, and a quarter turn is undone by one the other
-- way.
use Rattle.std.specs.Prelude.{List, [], ◌∷◌}
use Rattle.bk_sym.specs.declared.Turn.{Turn}
use Rattle.bk_sym.specs.declared.Turn.TheVariants.{FlipX, FlipY, Half, Same, Swap, SwapFlipX, SwapFlipY, SwapHalf}

-- all turns, in the order in which images are given
abbrev pub turns : List Turn
turns = Same ∷ FlipX ∷ FlipY ∷ Half ∷ Swap ∷ SwapFlipX ∷ SwapFlipY ∷ SwapHalf ∷ []

-- the turn, and then left and right exchanged
abbrev pub then_flip_x : Turn → Turn
then_flip_x Same = FlipX
then_flip_x FlipX = Same
then_flip_x FlipY = Half
then_flip_x Half = FlipY
then_flip_x Swap = SwapFlipX
then_flip_x SwapFlipX = Swap
then_flip_x SwapFlipY = SwapHalf
then_flip_x SwapHalf = SwapFlipY

-- the turn, and then top and bottom exchanged
abbrev pub then_flip_y : Turn → Turn
then_flip_y Same = FlipY
then_flip_y FlipX = Half
then_flip_y FlipY = Same
then_flip_y Half = FlipX
then_flip_y Swap = SwapFlipY
then_flip_y SwapFlipX = SwapHalf
then_flip_y SwapFlipY = Swap
then_flip_y SwapHalf = SwapFlipX

-- the turn, and then columns and levels exchanged
abbrev pub then_swap : Turn → Turn
then_swap Same = Swap
then_swap FlipX = SwapFlipY
then_swap FlipY = SwapFlipX
then_swap Half = SwapHalf
then_swap Swap = Same
then_swap SwapFlipX = FlipY
then_swap SwapFlipY = FlipX
then_swap SwapHalf = Half

-- first the turn b, then the turn a: the turns form a group of eight
abbrev pub after : Turn → Turn → Turn
after Same b = b
after FlipX b = then_flip_x b
after FlipY b = then_flip_y b
after Half b = then_flip_y (then_flip_x b)
after Swap b = then_swap b
after SwapFlipX b = then_flip_x (then_swap b)
after SwapFlipY b = then_flip_y (then_swap b)
after SwapHalf b = then_flip_y (then_flip_x (then_swap b))

-- the turn that undoes a turn: two quarter turns undo each other, and each other turn undoes itself
abbrev pub undoing : Turn → Turn
undoing Same = Same
undoing FlipX = FlipX
undoing FlipY = FlipY
undoing Half = Half
undoing Swap = Swap
undoing SwapFlipX = SwapFlipY
undoing SwapFlipY = SwapFlipX
undoing SwapHalf = SwapHalf
