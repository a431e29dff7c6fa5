-- Why the two are not laid together, by the first test that fails.
use Rattle.std.specs.Prelude.{max, ◌≢◌}
use Rattle.std.proofs.Common.{arith, sym, ℕ, ◌+◌, ◌∙◌, ◌≡◌}
use Rattle.bk_tiling.specs.Tiling.{Tiling}
use Rattle.bk_pair.specs.Pair.{AreOneSize}
use Rattle.bk_pair.proofs.laying_fault.Goals.{then-width-via-else-width+then-height, then-width-via-then-width}
use Rattle.bk_pair.proofs.laying_fault.Goals as goal

-- the two are of one size, from what is read of them
one_size : (a b : Tiling) (width height wide high : ℕ) → width ≡ a.width → height ≡ a.height → wide ≡ b.width → high ≡ b.height
    → wide ≡ width → high ≡ height → AreOneSize a b
one_size a b width height wide high x y z w same equal = record { width = sym x ∙ sym same ∙ z; height = sym y ∙ sym equal ∙ w }

-- a tiling whose width and height differ is no square, from what is read of it
oblong : (a : Tiling) (width height : ℕ) → width ≡ a.width → height ≡ a.height → width ≢ height → a.width ≢ a.height
oblong a width height x y differ = λ e. differ (x ∙ e ∙ sym y)

pub returns-then-width-clause-some : goal.returns-then-width-clause-some
returns-then-width-clause-some c = λ size. elim c.then-width.branch [
  | then-width-via-then-width w ↦ w.if-width.true (c.width.ensures.value ∙ sym size.width ∙ sym c.width-width.ensures.value)
  | then-width-via-else-width+then-height w ↦ w.if-height.true (w.height.ensures.value ∙ sym size.height ∙ sym c.height-height.ensures.value)
]

pub returns-then-width-height-clause-some : goal.returns-then-width-height-clause-some
returns-then-width-height-clause-some c = (
  one_size c.args.a.now c.args.b.now c.width-width.result c.height-height.result c.width.result c.height.result c.width-width.ensures.value
      c.height-height.ensures.value c.width.ensures.value c.height.ensures.value c.if-width.false c.if-height.false,
  sym c.width-width.ensures.value ∙ c.if-width-height.true ∙ c.height-height.ensures.value,
)

pub overflow_add-n : goal.overflow_add-n
overflow_add-n c = omega (arith, c.order.ensures.value, (c.order.ensures.kept).few, c.order-2.ensures.value, (c.order-2.ensures.kept).few)

pub overflow_add-n-2 : goal.overflow_add-n-2
overflow_add-n-2 c = omega (arith, c.order.ensures.value, (c.order.ensures.kept).few, c.order-2.ensures.value, (c.order-2.ensures.kept).few)

pub returns-then-n-gt-MOST_SQUARES-clause-some : goal.returns-then-n-gt-MOST_SQUARES-clause-some
returns-then-n-gt-MOST_SQUARES-clause-some c = (
  one_size c.args.a.now c.args.b.now c.width-width.result c.height-height.result c.width.result c.height.result c.width-width.ensures.value
      c.height-height.ensures.value c.width.ensures.value c.height.ensures.value c.if-width.false c.if-height.false,
  oblong c.args.a.now c.width-width.result c.height-height.result c.width-width.ensures.value c.height-height.ensures.value c.if-width-height.false,
  λ k. c.order.ensures.value k + c.order-2.ensures.value k + 2,
  c.if-n-gt-MOST_SQUARES.true,
)

pub returns-then-side-gt-LONGEST_SIDE-clause-some : goal.returns-then-side-gt-LONGEST_SIDE-clause-some
returns-then-side-gt-LONGEST_SIDE-clause-some c = (
  one_size c.args.a.now c.args.b.now c.width-width.result c.height-height.result c.width.result c.height.result c.width-width.ensures.value
      c.height-height.ensures.value c.width.ensures.value c.height.ensures.value c.if-width.false c.if-height.false,
  oblong c.args.a.now c.width-width.result c.height-height.result c.width-width.ensures.value c.height-height.ensures.value c.if-width-height.false,
  omega (arith, c.if-n-gt-MOST_SQUARES.false, c.order.ensures.value, c.order-2.ensures.value),
  c.max-side.ensures ∙ (λ k. max (c.width-width.ensures.value k) (c.height-height.ensures.value k)),
  c.if-side-gt-LONGEST_SIDE.true,
)

pub returns-clause-none : goal.returns-clause-none
returns-clause-none c = record {
  size =
      one_size c.args.a.now c.args.b.now c.width-width.result c.height-height.result c.width.result c.height.result c.width-width.ensures.value
      c.height-height.ensures.value c.width.ensures.value c.height.ensures.value c.if-width.false c.if-height.false;
  oblong = oblong c.args.a.now c.width-width.result c.height-height.result c.width-width.ensures.value c.height-height.ensures.value
      c.if-width-height.false;
  few = omega (arith, c.if-n-gt-MOST_SQUARES.false, c.order.ensures.value, c.order-2.ensures.value);
  wide = omega (arith, c.width-width.ensures.value, c.max-side.ensures, c.if-side-gt-LONGEST_SIDE.false);
  high = omega (arith, c.height-height.ensures.value, c.max-side.ensures, c.if-side-gt-LONGEST_SIDE.false);
}
