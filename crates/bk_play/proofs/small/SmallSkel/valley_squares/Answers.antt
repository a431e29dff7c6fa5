use Rattle.std.proofs.Common.{ap, refl, ◌∙◌}
use Rattle.bk_word.specs.Outline.{valley_of}
use Rattle.bk_word.specs.Play.{outline_of}
use Rattle.bk_word.specs.Word.{Word}
use Rattle.bk_play.proofs.ValleyKept.{kept_looked}
use Rattle.bk_play.proofs.ValleyReads.{valley_cut}
use Rattle.bk_play.proofs.small.SmallSkel.valley_squares.Goals as goal

pub bounds-as_slice-from : goal.bounds-as_slice-from
bounds-as_slice-from c =
    (kept_looked c.self.invariant c.as_slice.result.now c.self.inside.open.signs.items c.from.result c.self.inside.open.first c.as_slice.ensures.items
    refl c.from.ensures refl).inside

pub slice_bounds-result-end : goal.slice_bounds-result-end
slice_bounds-result-end c =
    let k = kept_looked c.self.invariant c.as_slice.result.now c.self.inside.open.signs.items c.from.result c.from-first.result
    c.as_slice.ensures.items refl c.from.ensures c.from-first.ensures in
    (valley_cut c.self.invariant.stored c.as_slice.result.now c.as_slice.result.now c.as_slice-2.result.now c.self.inside.open.signs.items
    c.from.result c.from-first.result c.from-2.result c.as_slice.ensures.items c.as_slice.ensures.items c.as_slice-2.ensures.items refl
    k.at k.within k.begins c.from-2.ensures).within

pub returns : goal.returns
returns c =
    let k = kept_looked c.self.invariant c.as_slice.result.now c.self.inside.open.signs.items c.from.result c.from-first.result
    c.as_slice.ensures.items refl c.from.ensures c.from-first.ensures in
    (valley_cut c.self.invariant.stored c.as_slice.result.now c.as_slice.result.now c.as_slice-2.result.now c.self.inside.open.signs.items
    c.from.result c.from-first.result c.from-2.result c.as_slice.ensures.items c.as_slice.ensures.items c.as_slice-2.ensures.items refl
    k.at k.within k.begins c.from-2.ensures).are
    ∙ ap (λ (w : Word). valley_of (outline_of w)) c.self.view_is
