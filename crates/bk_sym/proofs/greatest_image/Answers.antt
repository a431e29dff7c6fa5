use denote.Enum.Bare.{same_true}
use Rattle.std.proofs.Common.{arith, get_or, refl, rules, subst, sym, ◌∙◌, ◌≡◌}
use Rattle.std.proofs.lemmas.Bool.{not-false}
use Rattle.bk_sym.proofs.Greatest.{IsGreatestSoFar, greatest_of, so_far-more, so_far-none, so_far-same}
use Rattle.bk_sym.proofs.KeptImages.{kept_image}
use Rattle.bk_tiling.specs.KeptTiling.{IsKept}
use Rattle.bk_sym.specs.Canonical.{IsAtMost}
use Rattle.bk_sym.specs.Image.{image}
use Rattle.bk_sym.specs.Turns.{turns}
use Rattle.bk_sym.specs.contracts.Turn.{the_type}
use Rattle.bk_sym.specs.declared.Turn.{Turn}
use Rattle.bk_sym.specs.declared.Turn.TheVariants.{Same}
use Rattle.bk_sym.proofs.greatest_image.Goals as goal
use Rattle.bk_sym.proofs.greatest_image.Goals.{then-ne+then-may_be_greater, else-ne, else-ne-via-then-ne+else-may_be_greater, else-ne-via-else-ne}

pub loop-turn-init : goal.loop-turn-init
loop-turn-init c = so_far-none c.args.tiling.now c.first_turn-first.result turns c.image-greatest.result c.image-greatest.ensures.value
    c.first_turn-first.ensures.lying

pub loop-turn-preserved : goal.loop-turn-preserved
loop-turn-preserved c =
    elim c.if-ne.branch [
      | then-ne+then-may_be_greater w ↦
          let now : c.if-ne.greatest ≡ w.become_later.new.greatest = w.greatest-is in
          let later = w.become_later.ensures in
          rw now (so_far-more c.args.tiling.now c.first_turn-first.result turns c.loop-turn.turn-index c.loop-turn.greatest
          (image (get_or turns c.loop-turn.turn-index Same) c.args.tiling.now) w.become_later.new.greatest c.loop-turn.invariant
          refl (w.if-may_be_greater.ensures.lying refl) later.one later.first later.second)
      | else-ne w ↦ so_far-same c.args.tiling.now c.first_turn-first.result turns c.loop-turn.turn-index c.loop-turn.greatest
          c.if-ne.greatest c.loop-turn.invariant
          (elim w.else-ne.branch [
            | else-ne-via-then-ne+else-may_be_greater v ↦ v.if-may_be_greater.ensures.left refl
            | else-ne-via-else-ne v ↦ λ h.
                let e : get_or turns c.loop-turn.turn-index Same ≡ c.first_turn-first.result =
                same_true the_type (search rules) _ _ (not-false _ (sym c.ne.ensures ∙ v.if-ne.false)) in
                subst (λ (turn : Turn). IsAtMost (image turn c.args.tiling.now) c.loop-turn.greatest) (sym e) c.loop-turn.invariant.from_first
          ])
          w.greatest-is
    ]

pub returns-clause-greatest : goal.returns-clause-greatest
returns-clause-greatest c =
    let e : c.loop-turn.turn-index ≡ 8 = omega arith in
    greatest_of c.args.tiling.now c.loop-turn.greatest c.first_turn-first.result
    (subst (λ k. IsGreatestSoFar c.args.tiling.now c.first_turn-first.result turns k c.loop-turn.greatest) e c.loop-turn.invariant)

pub returns-clause-kept : goal.returns-clause-kept
returns-clause-kept c =
    subst IsKept (sym c.loop-turn.invariant.image_of) (kept_image c.loop-turn.invariant.turn c.args.tiling.now c.first_turn-first.ensures.kept)
