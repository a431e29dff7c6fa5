-- With two equal squares side by side no member's word goes on.
use Rattle.std.proofs.Common.{ap, subst, ℕ, ◌∙◌}
use Rattle.std.proofs.lemmas.Option.{IfSome_then}
use Rattle.bk_word.specs.Outline.{open_side}
use Rattle.bk_walk_cuts.proofs.CutLaws.{even_cut}
use Rattle.bk_walk_cuts.specs.MoveCuts.{IsFrontEndingEven}
use Rattle.bk_walk_cuts.proofs.barren.cut_even.Goals as goal

pub returns : goal.returns
returns c = IfSome_then c.first_even.result c.first_even.ensures (λ kept ends. even_cut c.args.order c.args.class c.args.skel.now c.args.m.now kept
    (c.bars_even.ensures c.if-not-bars_even.false)
    (subst (λ (from : ℕ). IsFrontEndingEven from c.args.m.now.count c.args.m.now.signs kept)
    (c.open_side.ensures ∙ ap open_side c.walls-left_wall.ensures.left) ends))
