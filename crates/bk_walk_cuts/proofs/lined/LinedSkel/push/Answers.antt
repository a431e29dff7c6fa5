use Rattle.std.proofs.Common.{ap, arith, nat_eq, subst, sym, ◌∙◌, lit<, [], ◌++◌, ◌∷◌}
use Rattle.bk_word.specs.Outline.{IsLegalMove}
use Rattle.bk_word.specs.Play.{outline_of}
use Rattle.bk_word.specs.Word.{Move, Word, order_of}
use Rattle.bk_catalogue.specs.VerticalCut.{begins_on_line}
use Rattle.bk_walk_cuts.specs.Trace.{IsTraceOf}
use Rattle.bk_catalogue.proofs.HangingBounds.LinedMoves.{lined_count, lined_more}
use Rattle.bk_walk_cuts.proofs.lined.LinedSkel.push.Goals as goal

pub push_lines-requires : goal.push_lines-requires
push_lines-requires g c =
    let count = c.from.ensures ∙ ap (λ (m : Move). m.count) c.m.view_is in
    let some = c.requires.legal.some in (
      omega arith,
      (
        omega (arith, count, some),
        omega (arith, count, c.requires.few, ap order_of c.self.view_is, lined_count c.self.inside.skel c.self.inside.lines.items c.self.invariant.lined),
      ),
    )

pub invariant_of-self : goal.invariant_of-self
invariant_of-self g c =
    let is_on = c.begins_on_line-is_on.ensures ∙ (λ i. begins_on_line (c.deref.ensures.0 i) (c.valley_squares.ensures i)) in
    record {
      lined = lined_more c.self.inside.skel c.push.new.self c.self.inside.lines.items c.push_lines.new.lines.items c.args.m.now c.from.result
          c.begins_on_line-is_on.result (nat_eq c.moves-is_first.result 0) c.self.invariant.lined
          (subst (λ (w : Word). IsLegalMove (outline_of w) c.args.m.now) (sym c.self.view_is) c.requires.legal) is_on
          (ap (λ k. nat_eq k 0) c.moves-is_first.ensures.value) (c.from.ensures ∙ ap (λ (m : Move). m.count) c.m.view_is)
          c.push.ensures.moves c.push_lines.ensures;
      traced = subst (λ (w : Word). IsTraceOf w c.trace.new.sides) (sym c.push.ensures.moves) c.trace.ensures;
    }

pub deref-requires : goal.deref-requires
deref-requires g c = lit< tt

pub trace-requires-clause-trace : goal.trace-requires-clause-trace
trace-requires-clause-trace g c = c.self.invariant.traced

pub trace-requires-clause-legal : goal.trace-requires-clause-legal
trace-requires-clause-legal g c = subst (λ (w : Word). IsLegalMove (outline_of w) c.args.m.now) (sym c.self.view_is) c.requires.legal

pub push-requires-clause-legal : goal.push-requires-clause-legal
push-requires-clause-legal g c = subst (λ (w : Word). IsLegalMove (outline_of w) c.args.m.now) (sym c.self.view_is) c.requires.legal

pub push-requires-clause-few : goal.push-requires-clause-few
push-requires-clause-few g c = omega (arith, c.requires.few, ap order_of c.self.view_is)

pub returns-clause-moves : goal.returns-clause-moves
returns-clause-moves g c = c.push.ensures.moves ∙ ap (λ (w : Word). w ++ c.args.m.now ∷ []) c.self.view_is

pub returns-clause-step : goal.returns-clause-step
returns-clause-step g c = c.push.ensures.step
