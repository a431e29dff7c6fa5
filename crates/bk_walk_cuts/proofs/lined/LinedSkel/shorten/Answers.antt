-- Taking back move by move leaves the first moves.
use Rattle.std.proofs.Common.{ap, arith, length, sym, take, ◌-◌, ◌∙◌, ◌≡◌}
use Rattle.std.proofs.Math.Seq.{take-length}
use Rattle.std.proofs.lemmas.List.{length-take-le, take-take}
use Rattle.bk_word.specs.Word.{Word}
use Rattle.bk_walk_cuts.proofs.lined.LinedSkel.shorten.Goals as goal

pub invariant_of-self : goal.invariant_of-self
invariant_of-self c = c.self.invariant

pub moves-init : goal.moves-init
moves-init c = record {
  enough = omega (arith, c.requires, ap length c.self.view_is);
  front = ap (λ (w : Word). take (length w) c.args.self.now) c.self.view_is ∙ take-length c.args.self.now ∙ sym c.self.view_is;
}

pub pop-requires : goal.pop-requires
pop-requires c = omega (arith, c.moves-test.true, c.moves-in-moves.ensures.value, ap length c.self-in-moves.view_is)

pub moves-smaller : goal.moves-smaller
moves-smaller c = omega (
  arith,
  c.moves-test.true,
  c.moves-in-moves.ensures.value,
  ap length c.self-in-moves.view_is,
  ap length c.pop.ensures,
  length-take-le (length c.moves.self - 1) c.moves.self (omega arith),
)

pub moves-preserved : goal.moves-preserved
moves-preserved c =
    let long : length c.pop.new.self ≡ length c.moves.self - 1 = ap length c.pop.ensures
    ∙ length-take-le (length c.moves.self - 1) c.moves.self (omega arith) in
    record {
      enough = omega (arith, long, c.moves-test.true, c.moves-in-moves.ensures.value, ap length c.self-in-moves.view_is);
      front = ap (λ k. take k c.args.self.now) long
          ∙ sym (take-take (length c.moves.self - 1) (length c.moves.self) c.args.self.now (omega arith))
          ∙ ap (take (length c.moves.self - 1)) c.moves.invariant.front ∙ sym c.pop.ensures;
    }

pub returns : goal.returns
returns c = sym c.moves.invariant.front ∙ ap (λ k. take k c.args.self.now)
    (omega (arith, c.moves.invariant.enough, c.moves-test.false, c.moves-in-moves.ensures.value, ap length c.self-in-moves.view_is))
