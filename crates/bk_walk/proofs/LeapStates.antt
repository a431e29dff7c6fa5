-- A leap of a walk: where it takes moves back to, and that it meets the word of a member.
use Rattle.std.proofs.Common.{ap, arith, length, subst, sym, take, ℕ, ◌+◌, ◌-◌, ◌∙◌, ◌≡◌, ◌≤◌}
use Rattle.std.proofs.lemmas.List.{length-append, length-take-le}
use Rattle.bk_word.specs.Play.{IsLegal}
use Rattle.bk_word.specs.Word.{Word, order_of}
use Rattle.bk_catalogue.proofs.Members.OneEntry.{entry_complete}
use Rattle.bk_packed.specs.Packed.{packed}
use Rattle.bk_packed.specs.ReadMoves.{IsSharedFront}
use Rattle.bk_tree_walk.proofs.Advancing.{entry_word}
use Rattle.bk_walk.proofs.LeapLaws.{leap_meets}
use Rattle.bk_walk.proofs.PlaceLaws.{same_word}
use Rattle.bk_walk.specs.Leaping.{GoesToWord, IsAtNumber, IsNextFrom}
use Rattle.bk_tree_walk.specs.WholeWords.{IsMembersWord}
use Rattle.bk_tree_walk.specs.TreePlace.{IsKeptTreeWalk, IsReady, Meets, TreeWalkState, place_of}

module _ (s : TreeWalkState) (kept : IsKeptTreeWalk s) (ready : IsReady s) (number : ℕ) (next : IsNextFrom s.order s.class (place_of s) number) where
  -- the word of the entry to which the walk leaps
  abbrev pub leap_word : Word
  leap_word = (next.entry).word

  leap_order : order_of leap_word ≡ s.order
  leap_order = (entry_complete s.order s.class next.entry next.is).1

  leap_legal : IsLegal leap_word
  leap_legal = (entry_word s.order s.class next.entry next.is).legal

  -- the moves that the walk shares with the word, where they are read
  module _ (read : Word) (same : read ≡ s.front) (moves : ℕ) (in_read : moves ≤ length read)
      (all : (w : Word) → IsLegal w → order_of w ≤ 16 → order_of read ≤ order_of w → packed w ≡ number → IsSharedFront read w moves) where
    shared : IsSharedFront s.front leap_word moves
    shared = subst (λ (w : Word). IsSharedFront w leap_word moves) same (all leap_word leap_legal (omega (arith, leap_order, kept.most))
        (omega (arith, leap_order, kept.stand.small, ap order_of same)) next.number_is)

    pub leap_within : moves ≤ length s.front
    leap_within = omega (arith, in_read, ap length same)

    -- with these the word goes on
    pub leap_goes : GoesToWord s.order (take moves s.front) number
    leap_goes = record { word = leap_word; rest = shared.rest; is = shared.is; legal = leap_legal; order = leap_order; number_is = next.number_is }

    -- a walk that has gone on to the number is at the word of the leap
    module _ (front : Word) (at : IsAtNumber s.order front number) where
      leap_is : leap_word ≡ front
      leap_is = same_word s.order leap_word front leap_legal at.legal leap_order at.order kept.most (next.number_is ∙ sym at.number_is)

      pub leap_member : IsMembersWord s.order s.class front
      leap_member = record { entry = next.entry; is = next.is; word_is = leap_is }

      pub leap_met : (steps then : ℕ) → then + length (take moves s.front) ≡ steps + length front → Meets s.order s.class (place_of s) front (then - steps)
      leap_met steps then each = subst (λ (w : Word). Meets s.order s.class (place_of s) w (then - steps)) leap_is
          (leap_meets s.order s.class leap_word (entry_word s.order s.class next.entry next.is) s.front s.next moves shared next.from
          (record { none = next.least }) leap_within (omega (arith, ready.few, ready.legal.some, leap_order)) (then - steps)
          (omega (
            arith,
            each,
            ap length leap_is,
            length-take-le moves s.front leap_within,
            ap length shared.is,
            length-append (take moves s.front) shared.rest,
          )))
