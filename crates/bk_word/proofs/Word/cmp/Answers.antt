use Rattle.std.specs.Cmp.Lexicographic.{slice_cmp}
use Rattle.std.specs.Ordering.{nat_cmp}
use Rattle.std.proofs.Common.{◌∙◌}
use Rattle.bk_word.proofs.StoredOrder.{stored_cmp}
use Rattle.bk_word.proofs.Word.cmp.Goals as goal

pub returns : goal.returns
returns c =
    c.cmp.ensures ∙ (λ i. slice_cmp nat_cmp (c.as_slice.ensures i) (c.as_slice-2.ensures i))
    ∙ stored_cmp c.self.inside.bytes.items c.other.inside.bytes.items c.args.self.now c.args.other.now c.self.invariant.stored
    c.other.invariant.stored c.self.view_is c.other.view_is
