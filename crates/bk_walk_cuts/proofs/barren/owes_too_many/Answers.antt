use Rattle.std.proofs.Common.{ap, arith, length, ◌-◌, ◌∙◌, ◌≡◌}
use Rattle.bk_word.specs.Play.{outline_of}
use Rattle.bk_word.specs.Word.{Word, order_of}
use Rattle.bk_word.specs.Outline.{sizes_of}
use Rattle.bk_catalogue.proofs.HangingBounds.BoundsOfWords.{sizes_long}
use Rattle.bk_walk_cuts.proofs.CutLaws.{owes_lines, owes_singles}
use Rattle.bk_catalogue.specs.SingleValleys.{single_valleys}
use Rattle.bk_walk_cuts.proofs.barren.owes_too_many.Goals as goal

pub single_valleys-requires : goal.single_valleys-requires
single_valleys-requires c =
    let same = c.skel-skel.ensures.value in
    let sizes = c.sizes.ensures ∙ ap (λ (w : Word). sizes_of (outline_of w)) same in
    let signs = c.signs.ensures ∙ ap (λ (w : Word). (outline_of w).signs) same in
    omega (arith, sizes_long c.args.lined.now c.skel-skel.ensures.legal, ap length sizes, ap length signs)

pub returns-then-closings-left : goal.returns-then-closings-left
returns-then-closings-left c _ class =
    let left : c.saturating_sub-left.result ≡ c.args.order - order_of c.args.lined.now =
    omega (arith, c.saturating_sub-left.ensures, c.from.ensures, c.order.ensures.value, ap order_of c.skel-skel.ensures.value) in
    owes_lines c.args.order class c.args.lined.now c.saturating_sub-left.result c.line_bound-closings.result (omega arith) left
    c.line_bound-closings.ensures c.if-closings-left.true

pub returns-else-closings-left : goal.returns-else-closings-left
returns-else-closings-left c more class =
    let same = c.skel-skel.ensures.value in
    let left : c.saturating_sub-left.result ≡ c.args.order - order_of c.args.lined.now =
    omega (arith, c.saturating_sub-left.ensures, c.from.ensures, c.order.ensures.value, ap order_of same) in
    let sizes = c.sizes.ensures ∙ ap (λ (w : Word). sizes_of (outline_of w)) same in
    let signs = c.signs.ensures ∙ ap (λ (w : Word). (outline_of w).signs) same in
    owes_singles c.args.order class c.args.lined.now c.saturating_sub-left.result c.line_bound-closings.result c.single_valleys.result
    (omega arith) left c.line_bound-closings.ensures
    (c.single_valleys.ensures ∙ (λ i. single_valleys (signs i) (sizes i))) more c.if-closings-left.false
