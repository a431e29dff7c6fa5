use Rattle.bk_forms.proofs.Reducing.{comparison_is_sound as the_law}
use Rattle.bk_forms.proofs.laws.a_comparison_is_sound.Goals as goal

pub returns : goal.returns
returns c = the_law
