-- No member's word begins with two squares of which the left one is the shorter.
use Rattle.std.proofs.Common.{ap, arith, length, lit<, slice_index_or, sym, true≢false, ◌∙◌}
use Rattle.bk_word.proofs.SignLaws.{only_above}
use Rattle.bk_word.specs.Word.{Move}
use Rattle.bk_word.specs.declared.Sign.TheVariants.{Above}
use Rattle.bk_walk_cuts.proofs.CutLaws.{shorter_cut}
use Rattle.bk_walk_cuts.proofs.barren.is_shorter_first.Goals as goal

pub returns : goal.returns
returns c above n class = shorter_cut n class c.args.skel.now c.args.m.now (sym c.moves.ensures.value ∙ c.if-moves-ne0.false)
    (sym (ap (λ (m : Move). m.count) c.m.view_is) ∙ c.if-m-ne2.false)
    (ap (λ l. slice_index_or l 0 Above) (sym (c.as_slice.ensures.value ∙ ap (λ (m : Move). m.signs) c.m.view_is))
    ∙ only_above (slice_index_or c.as_slice.result.now 0 Above) (sym c.is_above.ensures ∙ above)) c.requires

pub returns-then-moves-ne0 : goal.returns-then-moves-ne0
returns-then-moves-ne0 c e = absurd (true≢false (sym e))

pub as_slice-requires : goal.as_slice-requires
as_slice-requires c = lit< tt

pub bounds-as_slice-0 : goal.bounds-as_slice-0
bounds-as_slice-0 c = omega (
  arith,
  c.requires.signs,
  ap length c.as_slice.ensures.value,
  ap (λ (m : Move). length m.signs) c.m.view_is,
  ap (λ (m : Move). m.count) c.m.view_is,
  c.if-m-ne2.false,
)
