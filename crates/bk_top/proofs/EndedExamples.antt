-- Arguments that are no text.
use Rattle.std.specs.Prelude.{Err, refl}
use Rattle.bk_top.specs.Outside.{Outside}
use Rattle.bk_top.specs.Ended.{ProcessEndsBy}
use Rattle.bk_top.specs.declared.exit.NoArguments.TheVariants.{NotText}

ended-no_text : (before : Outside) → ProcessEndsBy (Err NotText) before before 8
ended-no_text before = (refl, refl)
