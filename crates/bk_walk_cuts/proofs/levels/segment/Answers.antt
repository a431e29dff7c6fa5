use Rattle.std.proofs.Common.{[], ap, arith, get_or, length, sym, ℕ, ◌+◌, ◌∙◌, ◌≡◌, ◌≤◌}
use Rattle.std.proofs.lemmas.List.{length-map}
use Rattle.bk_laws.proofs.ListItems.{get_or-past_lists}
use Rattle.bk_laws.proofs.Sums.{sum-start_of_next}
use Rattle.bk_word.specs.Play.{outline_of}
use Rattle.bk_walk_cuts.proofs.Segments.{part_is, part_room}
use Rattle.bk_walk_cuts.proofs.levels.segment.Goals as goal

pub part-requires : goal.part-requires
part-requires c = part_room (outline_of c.args.skel.now).segments c.sizes-sizes.result.now c.ends-ends.result.now c.loop-i.start c.loop-i.i
    c.sizes-sizes.ensures c.ends-ends.ensures c.loop-i.invariant.start c.loop-i-test.true

pub returns-then-i-place : goal.returns-then-i-place
returns-then-i-place c = c.part.ensures
    ∙ part_is (outline_of c.args.skel.now).segments c.sizes-sizes.result.now c.ends-ends.result.now c.loop-i.start c.loop-i.i c.sizes-sizes.ensures
    c.ends-ends.ensures c.loop-i.invariant.start c.loop-i-test.true
    ∙ ap (λ (k : ℕ). get_or (outline_of c.args.skel.now).segments k []) c.if-i-place.true

pub overflow_add-start : goal.overflow_add-start
overflow_add-start c = record {
  fits = omega (
    arith,
    part_room (outline_of c.args.skel.now).segments c.sizes-sizes.result.now c.ends-ends.result.now c.loop-i.start c.loop-i.i c.sizes-sizes.ensures
        c.ends-ends.ensures c.loop-i.invariant.start c.loop-i-test.true,
    c.from-start.ensures,
    (c.ends-ends.type_inv).0,
  );
}

pub loop-i-preserved : goal.loop-i-preserved
loop-i-preserved c = record {
  start = sum-start_of_next (outline_of c.args.skel.now).segments c.sizes-sizes.result.now c.loop-i.start c.loop-i.i c.from-start.result c.sizes-sizes.ensures
      c.loop-i.invariant.start c.from-start.ensures c.loop-i-test.true;
  before = next c.loop-i.i c.args.place c.loop-i.invariant.before c.if-i-place.false;
}
  where
    next : (i place : ℕ) → i ≤ place → (i ≡ place → ⊥) → i + 1 ≤ place
    next i place h other = grind arith

pub returns : goal.returns
returns c = sym (get_or-past_lists (outline_of c.args.skel.now).segments c.args.place
    (omega (
      arith,
      c.loop-i.invariant.before,
      c.loop-i-test.false,
      ap length c.sizes-sizes.ensures,
      length-map (outline_of c.args.skel.now).segments (length {A = ℕ}),
    )))
