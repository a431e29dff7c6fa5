-- Of the four ways to attach a square, the number and the step choose the one that is taken.
use Rattle.std.specs.Prelude.{Bool, cond, false, true}
use Rattle.std.proofs.Common.{arith, length, subst, sym, ℕ, ◌+◌, ◌<◌, ◌≡◌, ◌≤◌}
use Rattle.bk_tiling.specs.Tiling.{Tiling}
use Rattle.bk_gen.specs.Attaching.{goes_up_or_down, next_side}
use Rattle.bk_gen.specs.Growing.{IsGrowing, moved_all, with_behind, with_corner}
use Rattle.bk_gen.proofs.GrowingLaws.{growing_height, growing_width, grows_above, grows_below, grows_left, grows_right}
use Rattle.bk_gen.proofs.growing.Growing.attach.Goals as goal

-- a rectangle that can grow with the square of this step, if it is the one that is shown, can do so as it is shown
grows : {t now : Tiling} → (v step : ℕ) (up : Bool) (made : Tiling → Tiling) → t ≡ now → up ≡ goes_up_or_down v step
    → length now.squares < 200 → next_side v step now ≤ 999_999_999_999_999
    → (length t.squares < 200 → cond up t.width t.height ≤ 999_999_999_999_999 → IsGrowing (made t)) → IsGrowing (made now)
grows {t} {now} v step up made same e few side grown = subst (λ (t : Tiling). IsGrowing (made t)) same
    (grown (subst (λ (t : Tiling). length t.squares < 200) (sym same) few)
    (subst (λ (b : Bool). cond b t.width t.height ≤ 999_999_999_999_999) (sym e)
    (subst (λ (t : Tiling). next_side v step t ≤ 999_999_999_999_999) (sym same) side)))

pub overflow_add-wide : goal.overflow_add-wide
overflow_add-wide c = omega (arith, growing_width _ c.self.invariant, growing_height _ c.self.invariant)

pub overflow_add-high : goal.overflow_add-high
overflow_add-high c = omega (arith, growing_width _ c.self.invariant, growing_height _ c.self.invariant)

pub is_set-requires : goal.is_set-requires
is_set-requires c = omega arith

pub put_in_front-requires-clause-grows : goal.put_in_front-requires-clause-grows
put_in_front-requires-clause-grows c =
    grows c.args.v c.args.step true
    (λ (t : Tiling). with_corner c.self.inside.width c.self.inside.width (c.self.inside.height + c.self.inside.width) (moved_all 0 c.self.inside.width t))
    c.self.view_is c.in-true-true.ensures c.requires.few c.requires.side (grows_above _ c.self.invariant)

pub put_behind-requires-clause-grows : goal.put_behind-requires-clause-grows
put_behind-requires-clause-grows c =
    grows c.args.v c.args.step true
    (with_behind (record { x = 0; y = c.self.inside.height; s = c.self.inside.width }) c.self.inside.width (c.self.inside.height + c.self.inside.width))
    c.self.view_is c.in-true-false.ensures c.requires.few c.requires.side (grows_below _ c.self.invariant)

pub put_in_front-requires-in-false-true-clause-grows : goal.put_in_front-requires-in-false-true-clause-grows
put_in_front-requires-in-false-true-clause-grows c =
    grows c.args.v c.args.step false
    (λ (t : Tiling). with_corner c.self.inside.height (c.self.inside.width + c.self.inside.height) c.self.inside.height (moved_all c.self.inside.height 0 t))
    c.self.view_is c.in-false-true.ensures c.requires.few c.requires.side (grows_left _ c.self.invariant)

pub put_behind-requires-in-false-false-clause-grows : goal.put_behind-requires-in-false-false-clause-grows
put_behind-requires-in-false-false-clause-grows c =
    grows c.args.v c.args.step false
    (with_behind (record { x = c.self.inside.width; y = 0; s = c.self.inside.height }) (c.self.inside.width + c.self.inside.height) c.self.inside.height)
    c.self.view_is c.in-false-false.ensures c.requires.few c.requires.side (grows_right _ c.self.invariant)
