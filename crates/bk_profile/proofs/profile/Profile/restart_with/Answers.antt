use Rattle.bk_profile.proofs.FirstGroup.{stored_first}
use Rattle.bk_profile.proofs.profile.Profile.restart_with.Goals as goal

pub invariant_of-self : goal.invariant_of-self
invariant_of-self c =
    rw (c.sum_of-width.ensures.sum, c.push_group.ensures, c.clear.ensures, c.put_in.ensures, c.clear-2.ensures)
    (stored_first c.args.sides.now c.requires.some c.requires.few c.requires.sides)
