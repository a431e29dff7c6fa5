use Rattle.std.proofs.Common.{subst, sym, ap, arith, length, lit<, take, ◌-◌, ◌∙◌}
use Rattle.bk_word.specs.Word.{Word}
use Rattle.bk_walk_cuts.specs.Trace.{IsTraceOf}
use Rattle.bk_catalogue.proofs.HangingBounds.LinedMoves.{lined_less}
use Rattle.bk_walk_cuts.proofs.lined.LinedSkel.pop.Goals as goal

pub invariant_of-self : goal.invariant_of-self
invariant_of-self c = record {
  lined = lined_less c.self.inside.skel c.pop-2.new.self c.self.inside.lines.items c.truncate.new.self.items c.order.result
      c.self.invariant.lined c.pop-2.ensures c.order.ensures.value c.truncate.ensures.items;
  traced = subst (λ (w : Word). IsTraceOf w c.pop.new.self) (sym c.pop-2.ensures) c.pop.ensures.trace;
}

pub pop-requires-clause-trace : goal.pop-requires-clause-trace
pop-requires-clause-trace c = c.self.invariant.traced

pub pop-requires-clause-some : goal.pop-requires-clause-some
pop-requires-clause-some c = omega (arith, c.requires, ap length c.self.view_is)

pub pop-requires-2 : goal.pop-requires-2
pop-requires-2 c = omega (arith, c.requires, ap length c.self.view_is)

pub truncate-requires : goal.truncate-requires
truncate-requires c = lit< tt

pub returns : goal.returns
returns c = c.pop-2.ensures ∙ ap (λ (w : Word). take (length w - 1) w) c.self.view_is
