use Rattle.std.specs.Int.{w64}
use Rattle.std.specs.Prelude.{nat_abs, pos, ℤ}
use Rattle.std.proofs.Common.{List, ap, arith, length, lit<, of_z, refl, slice_index_or, subst, sym, to_z, ℕ, ◌*◌, ◌-◌, ◌^◌, ◌∙◌, ◌≡◌}
use Rattle.bk_net.specs.Flow.{IsPrimitiveFlow}
use Rattle.bk_net.specs.Net.{Net}
use Rattle.bk_word.specs.Word.{order_of}
use Rattle.bk_found.specs.declared.placing.Placed.{Placed}
use Rattle.bk_found.specs.Placing.{AreSmallNumbers, edges_by_lefts}
use Rattle.bk_found.proofs.CornerSquares.{never_lost}
use Rattle.bk_found.proofs.LeafRun.{IsLeafRun, flow_shown, held_height, held_small, held_total, is_height, is_width, leaf_net_has_a_wire_for_each_square}
use Rattle.bk_found.proofs.LeafRun.{leaf_net_has_few_wires, leaf_net_has_no_loose_node, leaf_run, lefts_known, lefts_many, net_nodes, never_zero, shown_ends}
use Rattle.bk_found.proofs.LeafRun.{shown_many, shown_sides, shown_small}
use Rattle.bk_found.proofs.placing.candidate_of.Goals as goal

pub narrow_flow-flow-requires-clause-few : goal.narrow_flow-flow-requires-clause-few
narrow_flow-flow-requires-clause-few c = leaf_net_has_few_wires c.args.skel.now c.requires.complete c.requires.few c.small_net-net.result
    c.small_net-net.ensures

pub narrow_flow-flow-requires-clause-joined : goal.narrow_flow-flow-requires-clause-joined
narrow_flow-flow-requires-clause-joined c = leaf_net_has_no_loose_node c.args.skel.now c.requires.complete c.requires.few c.small_net-net.result
    c.small_net-net.ensures

pub returns-then-has_zero : goal.returns-then-has_zero
returns-then-has_zero c = λ t met lowest class. absurd (never_zero c.args.skel.now c.requires.complete c.requires.few c.small_net-net.result
    c.small_net-net.ensures
    c.total-total.result c.currents-currents.result.now
    (flow_shown c.small_net-net.result c.narrow_flow-flow.result c.total-total.result c.currents-currents.result.now c.total-total.ensures.value
    c.currents-currents.ensures.value c.narrow_flow-flow.ensures.flow) c.currents-currents.result.now refl
    (c.has_zero.ensures c.if-has_zero.true) t met.tiling lowest (met.is_word).signed)

pub class_allows-requires : goal.class_allows-requires
class_allows-requires c = omega (
  arith,
  c.requires.few,
  shown_many c.args.skel.now c.requires.complete c.requires.few c.small_net-net.result c.small_net-net.ensures
      c.total-total.result c.currents-currents.result.now
      (flow_shown c.small_net-net.result c.narrow_flow-flow.result c.total-total.result c.currents-currents.result.now c.total-total.ensures.value
      c.currents-currents.ensures.value c.narrow_flow-flow.ensures.flow) c.currents-currents.result.now refl,
)

pub returns-then-not-class_allows : goal.returns-then-not-class_allows
returns-then-not-class_allows c = λ t met lowest class. absurd (c.class_allows.ensures c.if-not-class_allows.true t
    (shown_sides c.args.skel.now c.requires.complete c.requires.few c.small_net-net.result c.small_net-net.ensures
    c.total-total.result c.currents-currents.result.now
    (flow_shown c.small_net-net.result c.narrow_flow-flow.result c.total-total.result c.currents-currents.result.now c.total-total.ensures.value
    c.currents-currents.ensures.value c.narrow_flow-flow.ensures.flow) c.currents-currents.result.now refl
    t met.tiling lowest (met.is_word).signed) class)

pub levels_of-levels-requires-clause-ends : goal.levels_of-levels-requires-clause-ends
levels_of-levels-requires-clause-ends c = shown_ends c.args.skel.now c.requires.complete c.requires.few c.small_net-net.result c.small_net-net.ensures
    c.wires-wires.result.now c.wires-wires.ensures.value

pub levels_of-levels-requires-clause-small : goal.levels_of-levels-requires-clause-small
levels_of-levels-requires-clause-small c = shown_small c.args.skel.now c.requires.complete c.requires.few c.small_net-net.result c.small_net-net.ensures
    c.total-total.result c.currents-currents.result.now
    (flow_shown c.small_net-net.result c.narrow_flow-flow.result c.total-total.result c.currents-currents.result.now c.total-total.ensures.value
    c.currents-currents.ensures.value c.narrow_flow-flow.ensures.flow) c.currents-currents.result.now refl

pub bounds-levels-from : goal.bounds-levels-from
bounds-levels-from c = omega (
  arith,
  c.from.ensures,
  c.nodes-nodes.ensures.value,
  net_nodes c.args.skel.now c.requires.complete c.requires.few
      c.small_net-net.result c.small_net-net.ensures,
)

pub rights_of-rights-requires-clause-many : goal.rights_of-rights-requires-clause-many
rights_of-rights-requires-clause-many c = omega (
  arith,
  shown_many c.args.skel.now c.requires.complete c.requires.few c.small_net-net.result c.small_net-net.ensures
      c.total-total.result c.currents-currents.result.now
      (flow_shown c.small_net-net.result c.narrow_flow-flow.result c.total-total.result c.currents-currents.result.now c.total-total.ensures.value
      c.currents-currents.ensures.value c.narrow_flow-flow.ensures.flow) c.currents-currents.result.now refl,
  lefts_many c.args.skel.now c.requires.complete c.requires.few c.small_net-net.result c.small_net-net.ensures c.args.lefts.now c.requires.lefts,
)

pub rights_of-rights-requires-clause-few : goal.rights_of-rights-requires-clause-few
rights_of-rights-requires-clause-few c = omega (
  arith,
  c.requires.few,
  lefts_many c.args.skel.now c.requires.complete c.requires.few
      c.small_net-net.result c.small_net-net.ensures c.args.lefts.now c.requires.lefts,
)

pub rights_of-rights-requires-clause-known : goal.rights_of-rights-requires-clause-known
rights_of-rights-requires-clause-known c = lefts_known c.args.skel.now c.requires.complete c.requires.few c.small_net-net.result c.small_net-net.ensures
    c.args.lefts.now c.requires.lefts

pub rights_of-rights-requires-clause-small : goal.rights_of-rights-requires-clause-small
rights_of-rights-requires-clause-small c = shown_small c.args.skel.now c.requires.complete c.requires.few c.small_net-net.result c.small_net-net.ensures
    c.total-total.result c.currents-currents.result.now
    (flow_shown c.small_net-net.result c.narrow_flow-flow.result c.total-total.result c.currents-currents.result.now c.total-total.ensures.value
    c.currents-currents.ensures.value c.narrow_flow-flow.ensures.flow) c.currents-currents.result.now refl

pub rights_of-rights-requires-clause-total : goal.rights_of-rights-requires-clause-total
rights_of-rights-requires-clause-total c = held_small c.args.skel.now c.requires.complete c.requires.few c.small_net-net.result c.small_net-net.ensures
    c.total-total.result c.currents-currents.result.now
    (flow_shown c.small_net-net.result c.narrow_flow-flow.result c.total-total.result c.currents-currents.result.now c.total-total.ensures.value
    c.currents-currents.ensures.value c.narrow_flow-flow.ensures.flow)

pub returns : goal.returns
returns c = λ t met lowest class.
    let width : c.unsigned_abs-width.result ≡ nat_abs c.total-total.result =
    c.unsigned_abs-width.ensures.value ∙ ap nat_abs (held_total c.args.skel.now c.requires.complete c.requires.few c.small_net-net.result
    c.small_net-net.ensures
    c.total-total.result c.currents-currents.result.now
    (flow_shown c.small_net-net.result c.narrow_flow-flow.result c.total-total.result c.currents-currents.result.now c.total-total.ensures.value
    c.currents-currents.ensures.value c.narrow_flow-flow.ensures.flow)) in
    let height : c.unsigned_abs-height.result ≡ nat_abs (slice_index_or c.levels_of-levels.result (c.small_net-net.result.nodes - 1) (pos 0)) =
    held_height c.levels_of-levels.result c.from.result c.small_net-net.result.nodes c.unsigned_abs-height.result c.levels_of-levels.ensures.small
    (c.from.ensures ∙ c.nodes-nodes.ensures.value) (net_nodes c.args.skel.now c.requires.complete c.requires.few c.small_net-net.result c.small_net-net.ensures)
    c.unsigned_abs-height.ensures.value in
    let run : IsLeafRun c.args.skel.now c.unsigned_abs-width.result c.unsigned_abs-height.result c.squares_at.result.items =
    leaf_run c.args.skel.now c.requires.complete c.requires.few c.small_net-net.result c.small_net-net.ensures
    c.total-total.result c.currents-currents.result.now
    (flow_shown c.small_net-net.result c.narrow_flow-flow.result c.total-total.result c.currents-currents.result.now c.total-total.ensures.value
    c.currents-currents.ensures.value c.narrow_flow-flow.ensures.flow) c.currents-currents.result.now refl
    c.wires-wires.result.now c.wires-wires.ensures.value c.levels_of-levels.result c.levels_of-levels.ensures.right
    c.unsigned_abs-width.result c.unsigned_abs-height.result width height
    c.args.lefts.now c.requires.lefts (to_z w64 (of_z w64 c.total-total.result)) (held_total c.args.skel.now c.requires.complete c.requires.few
    c.small_net-net.result c.small_net-net.ensures
    c.total-total.result c.currents-currents.result.now
    (flow_shown c.small_net-net.result c.narrow_flow-flow.result c.total-total.result c.currents-currents.result.now c.total-total.ensures.value
    c.currents-currents.ensures.value c.narrow_flow-flow.ensures.flow)) c.as_slice.result.now
    (c.as_slice.ensures.value ∙ c.rights_of-rights.ensures.value) c.squares_at.result.items c.squares_at.ensures.many
    c.squares_at.ensures.each in
    let placed : Placed = record { width = c.unsigned_abs-width.result; height = c.unsigned_abs-height.result; squares = c.squares_at.result } in (
      placed,
      refl,
      record {
        width = run.width_is t met.tiling lowest (met.is_word).signed;
        height = run.height_is t met.tiling lowest (met.is_word).signed;
        accepted = run.accepted t met.tiling lowest (met.is_word).signed;
        squares = run.in_order t met.tiling lowest (met.is_word).signed;
      },
    )

pub returns-then-loses_by_corners : goal.returns-then-loses_by_corners
returns-then-loses_by_corners c = λ t met lowest class.
    let lost = c.loses_by_corners.ensures c.if-loses_by_corners.true in
    let shown : IsPrimitiveFlow c.small_net-net.result c.total-total.result c.currents-currents.result.now =
    (flow_shown c.small_net-net.result c.narrow_flow-flow.result c.total-total.result c.currents-currents.result.now c.total-total.ensures.value
    c.currents-currents.ensures.value c.narrow_flow-flow.ensures.flow) in
    let held : to_z w64 (of_z w64 c.total-total.result) ≡ c.total-total.result =
    held_total c.args.skel.now c.requires.complete c.requires.few c.small_net-net.result c.small_net-net.ensures c.total-total.result
    c.currents-currents.result.now shown in
    let width : c.unsigned_abs-width.result ≡ nat_abs c.total-total.result = c.unsigned_abs-width.ensures.value ∙ ap nat_abs held in
    let height : c.unsigned_abs-height.result ≡ nat_abs (slice_index_or c.levels_of-levels.result (c.small_net-net.result.nodes - 1) (pos 0)) =
    held_height c.levels_of-levels.result c.from.result c.small_net-net.result.nodes c.unsigned_abs-height.result c.levels_of-levels.ensures.small
    (c.from.ensures ∙ c.nodes-nodes.ensures.value) (net_nodes c.args.skel.now c.requires.complete c.requires.few c.small_net-net.result c.small_net-net.ensures)
    c.unsigned_abs-height.ensures.value in
    absurd (never_lost c.args.skel.now c.requires.complete c.requires.few c.total-total.result c.currents-currents.result.now
    (subst (λ (n : Net). IsPrimitiveFlow n c.total-total.result c.currents-currents.result.now) c.small_net-net.ensures shown)
    (record {
      wires = c.wires-wires.result.now;
      currents = c.currents-currents.result.now;
      lefts = c.args.lefts.now;
      rights = c.as_slice.result.now;
      total = to_z w64 (of_z w64 c.total-total.result);
      last = c.nodes-nodes.result - 1;
    })
    (c.wires-wires.ensures.value ∙ ap (λ (n : Net). n.wires) c.small_net-net.ensures) refl c.requires.lefts
    (c.as_slice.ensures.value ∙ c.rights_of-rights.ensures.value ∙ (λ i. edges_by_lefts (held i) (c.requires.lefts i) c.currents-currents.result.now)) held
    (ap (λ (n : ℕ). n - 1) (c.nodes-nodes.ensures.value ∙ ap (λ (n : Net). n.nodes) c.small_net-net.ensures)) t c.args.ties
    c.unsigned_abs-width.result c.unsigned_abs-height.result lost.0 met lowest
    (is_width c.args.skel.now c.requires.complete c.requires.few c.small_net-net.result c.small_net-net.ensures c.total-total.result
    c.currents-currents.result.now shown c.currents-currents.result.now refl
    c.wires-wires.result.now c.wires-wires.ensures.value c.levels_of-levels.result c.levels_of-levels.ensures.right
    c.unsigned_abs-width.result c.unsigned_abs-height.result width height t met.tiling lowest (met.is_word).signed)
    (is_height c.args.skel.now c.requires.complete c.requires.few c.small_net-net.result c.small_net-net.ensures c.total-total.result
    c.currents-currents.result.now shown c.currents-currents.result.now refl
    c.wires-wires.result.now c.wires-wires.ensures.value c.levels_of-levels.result c.levels_of-levels.ensures.right
    c.unsigned_abs-width.result c.unsigned_abs-height.result width height t met.tiling lowest (met.is_word).signed)
    lost.1 c.requires.ties lost.2)

pub small_net-net-requires : goal.small_net-net-requires
small_net-net-requires c = c.requires.complete

pub levels_of-levels-requires-clause-many : goal.levels_of-levels-requires-clause-many
levels_of-levels-requires-clause-many c = omega (
  arith,
  shown_many c.args.skel.now c.requires.complete c.requires.few c.small_net-net.result c.small_net-net.ensures
      c.total-total.result c.currents-currents.result.now
      (flow_shown c.small_net-net.result c.narrow_flow-flow.result c.total-total.result c.currents-currents.result.now c.total-total.ensures.value
      c.currents-currents.ensures.value c.narrow_flow-flow.ensures.flow) c.currents-currents.result.now refl,
  ap length c.wires-wires.ensures.value,
  leaf_net_has_a_wire_for_each_square c.args.skel.now c.requires.complete c.requires.few c.small_net-net.result c.small_net-net.ensures,
)

pub levels_of-levels-requires-clause-few : goal.levels_of-levels-requires-clause-few
levels_of-levels-requires-clause-few c = omega (
  arith,
  ap length c.wires-wires.ensures.value,
  leaf_net_has_a_wire_for_each_square c.args.skel.now c.requires.complete c.requires.few c.small_net-net.result c.small_net-net.ensures,
  c.requires.few,
)

-- what is known of the candidate, before any square is placed
pub invariant_of-candidate : goal.invariant_of-candidate
invariant_of-candidate c =
    let shown : IsPrimitiveFlow c.small_net-net.result c.total-total.result c.currents-currents.result.now =
    flow_shown c.small_net-net.result c.narrow_flow-flow.result c.total-total.result c.currents-currents.result.now c.total-total.ensures.value
    c.currents-currents.ensures.value c.narrow_flow-flow.ensures.flow in
    let lefts : length c.args.lefts.now ≡ order_of c.args.skel.now = lefts_many c.args.skel.now c.requires.complete c.requires.few
    c.small_net-net.result c.small_net-net.ensures c.args.lefts.now c.requires.lefts in
    record {
      known = record {
        few = omega (arith, lefts, c.requires.few);
        wires = omega (
          arith,
          ap length c.wires-wires.ensures.value,
          leaf_net_has_a_wire_for_each_square c.args.skel.now c.requires.complete c.requires.few c.small_net-net.result c.small_net-net.ensures,
          lefts,
        );
        currents = omega (
          arith,
          shown_many c.args.skel.now c.requires.complete c.requires.few c.small_net-net.result c.small_net-net.ensures
              c.total-total.result c.currents-currents.result.now shown c.currents-currents.result.now refl,
          lefts,
        );
        rights = omega (arith, ap length c.as_slice.ensures.value, c.rights_of-rights.ensures.many);
        lines = lefts_known c.args.skel.now c.requires.complete c.requires.few c.small_net-net.result c.small_net-net.ensures
            c.args.lefts.now c.requires.lefts;
        ends = shown_ends c.args.skel.now c.requires.complete c.requires.few c.small_net-net.result c.small_net-net.ensures
            c.wires-wires.result.now c.wires-wires.ensures.value;
        small_currents = shown_small c.args.skel.now c.requires.complete c.requires.few c.small_net-net.result c.small_net-net.ensures
            c.total-total.result c.currents-currents.result.now shown c.currents-currents.result.now refl;
        small_rights = subst (λ (rs : List ℤ). AreSmallNumbers (17 * 2 ^ 34) rs) (sym c.as_slice.ensures.value) c.rights_of-rights.ensures.small;
        small_levels = c.levels_of-levels.ensures.small;
        small_total = held_small c.args.skel.now c.requires.complete c.requires.few c.small_net-net.result c.small_net-net.ensures
            c.total-total.result c.currents-currents.result.now shown;
      };
    }

pub as_slice-requires : goal.as_slice-requires
as_slice-requires c = lit< tt
