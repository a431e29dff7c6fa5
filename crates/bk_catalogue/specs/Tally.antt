-- The closing bound of signs, counted sign by sign.
use Rattle.std.specs.Prelude.{List, count_by, ℕ, ◌≡◌}
use Rattle.bk_word.specs.Signs.{is_above}
use Rattle.bk_word.specs.declared.Sign.{Sign}
use Rattle.bk_catalogue.specs.ClosingBound.{closing_bound}

-- the closing bound of the signs, and how many of them are above
pub record IsTally (signs : List Sign) (bound aboves : ℕ) : Type 0 where
  pub bound_is : bound ≡ closing_bound signs
  pub aboves_is : aboves ≡ count_by is_above signs
