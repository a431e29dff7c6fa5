use Rattle.std.proofs.Common.{List, [], ap, arith, length, lit<, map, refl, subst, sym, ◌++◌, ◌+◌, ◌-◌, ◌<◌, ◌∙◌, ◌∷◌, ◌≡◌}
use Rattle.bk_word.specs.Play.{numbers_from, outline_of}
use Rattle.bk_word.specs.Word.{Move}
use Rattle.bk_word.specs.Outline.{valley_of}
use Rattle.bk_forms.specs.Form.{Form as SeenForm}
use Rattle.bk_walk_cuts.specs.SideForms.{levels_along}
use Rattle.bk_walk_cuts.specs.SidesOfTilings.{MeetsMove}
use Rattle.bk_walk_cuts.specs.Trace.{IsTraceOf, Trace}
use Rattle.bk_walk_cuts.proofs.Segments.{numbers_are}
use Rattle.bk_forms.specs.Form.{with_column}
use Rattle.bk_walk_cuts.proofs.SmallForms.{few_small, few_small_level}
use Rattle.bk_walk_cuts.proofs.Traces.{bottoms_room, mark_room}
use Rattle.bk_walk_cuts.proofs.TraceMore.{trace_more}
use Rattle.bk_walk_cuts.specs.SideForms.{level_of, new_bottoms}
use Rattle.bk_walk_cuts.specs.Trace.{IsSmall}
use Rattle.bk_walk_cuts.specs.declared.tracing.Mark.{Mark}
use Rattle.bk_walk_cuts.proofs.tracing.Tracing.push_followed.Goals as goal

pub push-requires : goal.push-requires
push-requires c =
    let room : length c.self.inside.marks.items < 5 = omega (
      arith,
      mark_room c.args.skel.now c.args.self.now c.args.m.now.count c.requires.trace c.requires.all c.requires.few c.requires.legal.some,
      ap (λ (t : Trace). length t.marks) c.self.view_is,
    ) in
    (lit< tt, room)

pub push_bottoms-requires : goal.push_bottoms-requires
push_bottoms-requires c =
    let bottoms = ap (λ (t : Trace). length t.bottoms) c.self.view_is ∙ bottoms_room c.args.skel.now c.args.self.now c.requires.trace c.requires.all in
    let count = ap (λ (m : Move). m.count) c.m.view_is in
    let shown = c.as_slice-2.ensures.value ∙ ap (λ (t : Trace). t.bottoms) c.self.view_is in (
      lit< tt,
      (
        omega (arith, c.order.ensures.value, count, c.requires.few),
        (
          omega (arith, bottoms, count, c.requires.few),
          subst (IsSmall 5) (sym c.level_of-level.ensures)
              (few_small_level c.as_slice-2.result.now c.valley_squares.result.now (few_small c.requires.trace shown)),
        ),
      ),
    )

pub add_equations-requires : goal.add_equations-requires
add_equations-requires c = record { few = c.requires.few }

pub levels_along-levels-requires-clause-few : goal.levels_along-levels-requires-clause-few
levels_along-levels-requires-clause-few c = c.requires.few

pub levels_along-levels-requires-clause-bottoms : goal.levels_along-levels-requires-clause-bottoms
levels_along-levels-requires-clause-bottoms c =
    few_small c.requires.trace (c.as_slice.ensures.value ∙ ap (λ (t : Trace). t.bottoms) c.self.view_is)

pub returns-clause-trace : goal.returns-clause-trace
returns-clause-trace c =
    let bottoms = ap (λ (t : Trace). t.bottoms) c.self.view_is in
    let level : c.level_of-level.result ≡ level_of c.self.inside.bottoms.items (valley_of (outline_of c.args.skel.now)) = c.level_of-level.ensures
    ∙ (λ i. level_of (c.as_slice-2.ensures.value i) (c.valley_squares.ensures i)) in
    let levels = c.as_slice-3.ensures.value ∙ c.levels_along-levels.ensures
    ∙ ap (levels_along (outline_of c.args.skel.now) c.args.m.now) c.as_slice.ensures.value in
    let numbers = numbers_are c.args.skel.now c.args.m.now (numbers_from (c.order.result + 1) c.m.inside.count) c.order.result c.m.inside.count
    refl c.order.ensures.value (ap (λ (m : Move). m.count) c.m.view_is) in
    let trace = subst (IsTraceOf c.args.skel.now) (sym c.self.view_is) c.requires.trace in
    let all : length c.self.inside.marks.items ≡ length c.args.skel.now = ap (λ (t : Trace). length t.marks) c.self.view_is ∙ c.requires.all in
    let bottoms_then = c.push_bottoms.ensures ∙ (λ i. c.self.inside.bottoms.items ++ map (λ n. with_column (level i) (n - 1)) (numbers i)) in
    let marks = c.push.ensures.items ∙ (λ i. c.self.inside.marks.items
    ++ record { equations = c.len.ensures.value i; squares = c.len-2.ensures.value i } ∷ []) in
    subst (λ (bs : List SeenForm). IsTraceOf (c.args.skel.now ++ c.args.m.now ∷ [])
    (record { kept = c.add_equations.new.ledger; bottoms = bs; marks = c.push.new.self.items })) (sym bottoms_then)
    (subst (λ (ms : List Mark). IsTraceOf (c.args.skel.now ++ c.args.m.now ∷ [])
    (record {
      kept = c.add_equations.new.ledger;
      bottoms = c.self.inside.bottoms.items
          ++ new_bottoms (outline_of c.args.skel.now) c.args.m.now c.self.inside.bottoms.items;
      marks = ms;
    })) (sym marks)
    (trace_more c.args.skel.now c.args.m.now c.self.inside.ledger c.self.inside.bottoms.items c.self.inside.marks.items trace all c.requires.few
    c.requires.legal.some c.add_equations.new.ledger c.add_equations.ensures.first
    (λ sides asked. (c.add_equations.ensures.meets sides
    (subst (λ (ls : List SeenForm). MeetsMove c.args.skel.now c.args.m.now c.self.inside.ledger ls sides) (sym levels) asked)).meets)))
