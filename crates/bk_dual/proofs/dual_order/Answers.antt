use Rattle.std.specs.Prelude.{All, count_by}
use Rattle.std.proofs.Common.{List, ap, arith, get_or, length, subst, sym, ℕ, ◌<◌, ◌==◌, ◌∙◌, ◌≡◌, ◌≤◌}
use Rattle.bk_dual.proofs.AllNumbers.{dual_order_from, each_in_range, each_number_once}
use Rattle.bk_dual.proofs.WiresAcross.{wires_lead_across}
use Rattle.bk_dual.specs.DualWires.{WiresLeadAcross}
use Rattle.bk_tiling.proofs.Members.{one_at}
use Rattle.bk_tiling.specs.Tiling.{IsOneOf, IsTiling, Tiling, order}
use Rattle.bk_tiling.specs.declared.Square.{Square}
use Rattle.bk_sym.specs.Image.{image}
use Rattle.bk_sym.specs.declared.Turn.TheVariants.{Swap}
use Rattle.bk_dual.proofs.Numbers.{from_image, nowhere}
use Rattle.bk_dual.proofs.dual_order.Goals as goal

pub number_of-requires : goal.number_of-requires
number_of-requires c =
    let t : Tiling = c.args.tiling.now in
    let same = c.squares-q-items.ensures.value ∙ ap (λ (u : Tiling). u.squares) c.image-turned.ensures.value in
    record {
      one = subst (λ (r : Square). IsOneOf r t.squares) (sym c.exchanged.ensures)
          (subst (λ (l : List Square). IsOneOf
          (record { x = (get_or l c.loop-q.q-index nowhere).y; y = (get_or l c.loop-q.q-index nowhere).x; s = (get_or l c.loop-q.q-index nowhere).s })
          t.squares) (sym same)
          (from_image t (get_or (image Swap t).squares c.loop-q.q-index nowhere)
          (one_at (image Swap t).squares c.loop-q.q-index nowhere (omega (arith, ap length same, c.loop-q-test.true)))));
    }

pub returns-clause-value : goal.returns-clause-value
returns-clause-value c = dual_order_from c.args.tiling.now c.loop-q.numbers.items c.loop-q.q-index c.squares-q-items.result.now c.image-turned.result
    c.loop-q.invariant (omega (arith, c.loop-q-test.false)) c.squares-q-items.ensures.value c.image-turned.ensures.value

pub returns-clause-once : goal.returns-clause-once
returns-clause-once c n some most =
    subst (λ (l : List ℕ). count_by (λ m. m == n) l ≡ 1) (sym (returns-clause-value c))
    (each_number_once c.args.tiling.now ((c.order-order.ensures.kept).tiling).ordered n some most)

pub returns-clause-range : goal.returns-clause-range
returns-clause-range c =
    subst (λ (l : List ℕ). All (λ n. (0 < n) × (n ≤ order c.args.tiling.now)) l) (sym (returns-clause-value c))
    (each_in_range c.args.tiling.now ((c.order-order.ensures.kept).tiling).ordered)

pub returns-clause-wires : goal.returns-clause-wires
returns-clause-wires c =
    subst (λ (l : List ℕ). WiresLeadAcross c.args.tiling.now l) (sym (returns-clause-value c))
    (wires_lead_across c.args.tiling.now ((c.order-order.ensures.kept).tiling).ordered
    (subst IsTiling c.image-turned.ensures.value (c.image-turned.ensures.kept).tiling))
