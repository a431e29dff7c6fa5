use Rattle.std.specs.Prelude.{true, ◌↔◌}
use Rattle.std.proofs.Common.{List, ap, inl, inr, subst, sym, ◌∙◌, ◌≡◌}
use Rattle.bk_tiling.specs.declared.Square.{Square}
use Rattle.bk_pair.specs.SquaresBySide.{AreSidesAscending}
use Rattle.bk_pair.specs.OwnSides.{HaveCommonSide, stands_apart}
use Rattle.bk_pair.proofs.KeptPairs.{common_refused, join_decided, not_joined, stored_of_tiling}
use Rattle.bk_pair.proofs.SmallSides.{bits_common}
use Rattle.bk_pair.proofs.kept.KeptTiling.joins.Goals as goal
use Rattle.bk_pair.proofs.kept.KeptTiling.joins.Goals.{then-not-self-via-else-not-self+else-not-other+then-not-can_be_laid}
use Rattle.bk_pair.proofs.kept.KeptTiling.joins.Goals.{then-not-self-via-else-not-self+then-not-other, then-not-self-via-then-not-self}

pub returns-then-not-self : goal.returns-then-not-self
returns-then-not-self c = not_joined c.args.self.now c.args.other.now (elim c.then-not-self.branch [
  | then-not-self-via-then-not-self w ↦
      inl (ap stands_apart (sym c.self.view_is) ∙ sym c.self.invariant.apart_is ∙ w.if-not-self.true)
  | then-not-self-via-else-not-self+then-not-other w ↦
      inr (inl (ap stands_apart (sym c.other.view_is) ∙ sym c.other.invariant.apart_is ∙ w.if-not-other.true))
  | then-not-self-via-else-not-self+else-not-other+then-not-can_be_laid w ↦ inr (inr (sym w.can_be_laid.ensures ∙ w.if-not-can_be_laid.true))
])

pub returns-then-self-other-ne0 : goal.returns-then-self-other-ne0
returns-then-self-other-ne0 c =
    common_refused c.args.self.now c.args.other.now c.self.inside.width c.self.inside.height c.self.inside.squares.items
    c.other.inside.width c.other.inside.height c.other.inside.squares.items
    (stored_of_tiling c.args.self.now c.self.inside.width c.self.inside.height c.self.inside.squares.items c.self.view_is)
    (stored_of_tiling c.args.other.now c.other.inside.width c.other.inside.height c.other.inside.squares.items c.other.view_is)
    (bits_common c.self.inside.small c.other.inside.small c.self.inside.squares.items c.other.inside.squares.items c.self.invariant.small_fits
    c.self.invariant.small_sides c.other.invariant.small_sides c.if-self-other-ne0.true)

pub returns : goal.returns
returns c =
    join_decided c.args.self.now c.args.other.now c.self.inside.width c.self.inside.height c.self.inside.squares.items
    c.other.inside.width c.other.inside.height c.other.inside.squares.items
    (stored_of_tiling c.args.self.now c.self.inside.width c.self.inside.height c.self.inside.squares.items c.self.view_is)
    (stored_of_tiling c.args.other.now c.other.inside.width c.other.inside.height c.other.inside.squares.items c.other.view_is)
    (ap stands_apart (sym c.self.view_is) ∙ sym c.self.invariant.apart_is ∙ c.if-not-self.false)
    (ap stands_apart (sym c.other.view_is) ∙ sym c.other.invariant.apart_is ∙ c.if-not-other.false)
    (sym c.can_be_laid.ensures ∙ c.if-not-can_be_laid.false)
    c.have_common_side.result
    (subst (λ (l : List Square). (c.have_common_side.result ≡ true) ↔ HaveCommonSide l c.other.inside.squares.items) c.as_slice.ensures.value
    (subst (λ (l : List Square). (c.have_common_side.result ≡ true) ↔ HaveCommonSide c.as_slice.result.now l) c.as_slice-2.ensures.value
    c.have_common_side.ensures))

pub have_common_side-requires-clause-first : goal.have_common_side-requires-clause-first
have_common_side-requires-clause-first c = subst AreSidesAscending (sym c.as_slice.ensures.value) c.self.invariant.ascending

pub have_common_side-requires-clause-second : goal.have_common_side-requires-clause-second
have_common_side-requires-clause-second c = subst AreSidesAscending (sym c.as_slice-2.ensures.value) c.other.invariant.ascending
