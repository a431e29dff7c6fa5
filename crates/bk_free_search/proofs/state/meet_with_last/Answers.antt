-- The last square ends the word, and is taken back again.
use Rattle.std.proofs.Common.{[], ap, arith, length, refl, subst, sym, ◌++◌, ◌∙◌, ◌∷◌}
use Rattle.std.proofs.lemmas.List.{length-append}
use Rattle.bk_word.specs.Outline.{open_sides}
use Rattle.bk_word.proofs.StoredBytes.{order_one}
use Rattle.bk_word.specs.Play.{IsComplete, outline_of}
use Rattle.bk_word.specs.Word.{Move, Word, order_of}
use Rattle.bk_free_search.proofs.NextWords.LastSquare.{last_is_whole, last_legal}
use Rattle.bk_free_search.proofs.NextWords.HandedOn.{none_met, without_last}
use Rattle.bk_free_search.specs.BoardOutlines.{IsBoardOutline}
use Rattle.bk_free_search.proofs.state.meet_with_last.Goals as goal

pub returns-in-None-clause-all : goal.returns-in-None-clause-all
returns-in-None-clause-all g c w sought on = absurd (sought.fertile c.args.board.now on.rest on.is c.in-None.ensures.barren)

pub returns-clause-all : goal.returns-clause-all
returns-clause-all g c w sought on =
    let whole = last_is_whole c.args.order c.args.board.now w sought c.requires.one on
    ∙ (λ i. c.args.board.now ++ sym c.in-Some.ensures.last i ∷ []) ∙ sym c.play.ensures in
    subst (λ v. g.S.Leaves.has_met c.meet_closed.new.leaves v) (sym whole) (c.meet_closed.ensures.met (subst IsComplete whole sought.complete))

pub last_move-requires-clause-least : goal.last_move-requires-clause-least
last_move-requires-clause-least g c = c.requires.least

pub last_move-requires-clause-one : goal.last_move-requires-clause-one
last_move-requires-clause-one g c = c.requires.one

pub returns-in-None-clause-kept : goal.returns-in-None-clause-kept
returns-in-None-clause-kept g c = none_met c.args.leaves.now

pub returns-in-None-clause-board : goal.returns-in-None-clause-board
returns-in-None-clause-board g c = refl

pub returns-clause-kept : goal.returns-clause-kept
returns-clause-kept g c = c.meet_closed.ensures.kept

pub play-requires-clause-legal : goal.play-requires-clause-legal
play-requires-clause-legal g c = last_legal (outline_of c.args.board.now) c.in-Some.last (open_sides (outline_of c.args.board.now))
    (ap (λ (m : Move). m.count) c.in-Some.ensures.last) (ap (λ (m : Move). m.signs) c.in-Some.ensures.last) refl

pub play-requires-clause-few : goal.play-requires-clause-few
play-requires-clause-few g c = omega (arith, c.requires.one, c.requires.most, ap (λ (m : Move). m.count) c.in-Some.ensures.last)

pub meet_closed-requires : goal.meet_closed-requires
meet_closed-requires g c = record {
  few = omega (
    arith,
    c.requires.one,
    c.requires.most,
    ap order_of c.play.ensures,
    order_one c.args.board.now c.in-Some.last,
    ap (λ (m : Move). m.count) c.in-Some.ensures.last,
  );
}

pub take_back-requires-clause-some : goal.take_back-requires-clause-some
take_back-requires-clause-some g c =
    omega (arith, ap (λ (w : Word). length w) c.play.ensures, length-append c.args.board.now (c.in-Some.last ∷ []))

pub take_back-requires-clause-before : goal.take_back-requires-clause-before
take_back-requires-clause-before g c = subst (λ (w : Word). IsBoardOutline w c.outline-before.result)
    (sym (without_last c.args.board.now c.play.new.self c.in-Some.last c.play.ensures)) c.outline-before.ensures

pub returns-clause-board : goal.returns-clause-board
returns-clause-board g c = c.take_back.ensures ∙ without_last c.args.board.now c.play.new.self c.in-Some.last c.play.ensures
