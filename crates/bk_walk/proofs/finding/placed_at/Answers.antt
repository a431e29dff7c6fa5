use Rattle.std.proofs.Common.{subst, sym, ◌≤◌}
use Rattle.bk_word.specs.Word.{Word, order_of}
use Rattle.bk_word.specs.Play.{IsComplete}
use Rattle.bk_layout.specs.Normal.{Counts}
use Rattle.bk_layout.proofs.NormalImages.ImagesToMeet.{a_normal_word_has_settled_counts}
use Rattle.bk_layout.specs.NormalImage.{AreSettledCounts, IsMetByNormalWord}
use Rattle.bk_layout.specs.WordNumbers.{counts_of_word}
use Rattle.bk_found.specs.Ties.{AreTiesOf}
use Rattle.bk_walk.proofs.finding.placed_at.Goals as goal

pub candidate_of-requires-clause-complete : goal.candidate_of-requires-clause-complete
candidate_of-requires-clause-complete c = subst IsComplete (sym c.skel.ensures.value) c.requires.complete

pub candidate_of-requires-clause-few : goal.candidate_of-requires-clause-few
candidate_of-requires-clause-few c = subst (λ (w : Word). order_of w ≤ 16) (sym c.skel.ensures.value) c.requires.few

pub candidate_of-requires-clause-lefts : goal.candidate_of-requires-clause-lefts
candidate_of-requires-clause-lefts c = rw (sym c.skel.ensures.value) at c.lefts.ensures

pub returns-then-lies_better : goal.returns-then-lies_better
returns-then-lies_better c u met lowest class = absurd (c.lies_better.ensures c.if-lies_better.true
    (subst AreSettledCounts (sym c.counts-counts.ensures) (a_normal_word_has_settled_counts u c.args.board.now met)))

pub candidate_of-requires-clause-ties : goal.candidate_of-requires-clause-ties
candidate_of-requires-clause-ties c = subst (λ (w : Word). AreTiesOf (counts_of_word w) c.ties_of.result) (sym c.skel.ensures.value)
    (subst (λ (n : Counts). AreTiesOf n c.ties_of.result) c.counts-counts.ensures c.ties_of.ensures)

pub returns : goal.returns
returns c u met lowest class = c.candidate_of.ensures u (subst (IsMetByNormalWord u) (sym c.skel.ensures.value) met) lowest class
