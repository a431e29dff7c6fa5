use Rattle.std.proofs.Common.{ap, length, subst, sym, take, ◌-◌, ◌<◌, ◌∙◌}
use Rattle.bk_word.specs.Word.{Word}
use Rattle.bk_play.proofs.Playing.{moves_shown}
use Rattle.bk_play.proofs.SmallTakenBack.{cut_back, small_back, small_kept_back}
use Rattle.bk_play.specs.SmallSkeleton.{IsOutlineOf}
use Rattle.bk_play.proofs.small.SmallSkel.take_back.Goals as goal

pub invariant_of-self : goal.invariant_of-self
invariant_of-self c = small_kept_back c.self.invariant (subst (λ (w : Word). 0 < length w) (sym c.self.view_is) c.requires.some)
    (subst (λ (w : Word). IsOutlineOf (take (length w - 1) w) c.args.before.now) (sym c.self.view_is) c.requires.before)
    (cut_back c.args.before.now _ _ _ c.truncate.ensures c.from.ensures c.truncate-2.ensures c.from-2.ensures c.truncate-3.ensures c.from-3.ensures)

pub returns : goal.returns
returns c = moves_shown (small_back c.self.invariant (subst (λ (w : Word). 0 < length w) (sym c.self.view_is) c.requires.some)
    (subst (λ (w : Word). IsOutlineOf (take (length w - 1) w) c.args.before.now) (sym c.self.view_is) c.requires.before)
    (cut_back c.args.before.now _ _ _ c.truncate.ensures c.from.ensures c.truncate-2.ensures c.from-2.ensures c.truncate-3.ensures c.from-3.ensures))
    ∙ ap (λ (w : Word). take (length w - 1) w) c.self.view_is
