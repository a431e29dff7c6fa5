-- Which sign passes a test.
use Rattle.std.proofs.Common.{refl, true, ◌≡◌}
use Rattle.bk_word.specs.Signs.{is_above}
use Rattle.bk_word.specs.declared.Sign.{Sign}
use Rattle.bk_word.specs.declared.Sign.TheVariants.{Above, Even, Under}

-- above alone is above
pub only_above : (s : Sign) → is_above s ≡ true → s ≡ Above
only_above Above is = refl
only_above Even is = absurd (cc)
only_above Under is = absurd (cc)
