-- Tests of a sign: how the left one of two neighbouring bottoms stands to the right one.
-- Example (WordExamples): of the signs of 2eue two are even, one is under and none is above, and only the sign under
-- parts two segments.
use Rattle.std.specs.Prelude.{Bool, false, true}
use Rattle.bk_word.specs.declared.Sign.{Sign}
use Rattle.bk_word.specs.declared.Sign.TheVariants.{Above, Even, Under}

-- of two neighbouring bottoms the left one is higher
abbrev pub is_above : Sign → Bool
is_above Above = true
is_above Even = false
is_above Under = false

-- two neighbouring bottoms are level
abbrev pub is_even : Sign → Bool
is_even Above = false
is_even Even = true
is_even Under = false

-- of two neighbouring bottoms the left one is lower
abbrev pub is_under : Sign → Bool
is_under Above = false
is_under Even = false
is_under Under = true
