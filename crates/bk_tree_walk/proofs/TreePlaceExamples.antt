-- A walk to the members of order 2 and the class imperfect, of which there is one, with the word 2e: it passes 1, 1.1 and 2a, meets 2e, and finds
-- no other.
use Rattle.std.specs.Prelude.{false, true}
use Rattle.std.proofs.Common.{Some, [], arith, lit<, lit≤, refl, subst, sym, ◌++◌, ◌+◌, ◌∷◌, ◌≤◌}
use Rattle.bk_word.proofs.FollowLaws.{not_itself}
use Rattle.bk_word.proofs.WordExamples.{two}
use Rattle.bk_word.specs.Word.{Follows, Word}
use Rattle.bk_word.specs.declared.Class.TheVariants.{Imperfect}
use Rattle.bk_word.specs.declared.Sign.TheVariants.{Above, Even, Under}
use Rattle.bk_catalogue.proofs.Members.CatalogueExamples.{entry_is, row_entry, row_word, row_word_of}
use Rattle.bk_catalogue.specs.Catalogue.{Entry, IsEntry}
use Rattle.bk_catalogue.specs.NextMove.{first_move}
use Rattle.bk_tree_walk.proofs.Advancing.{met_at, moved_on, none_left_is_end}
use Rattle.bk_tree_walk.proofs.WalkSteps.{fewer_end, fewer_met}
use Rattle.bk_tree_walk.specs.TreePlace.{Finds, HasPassed, IsClimbed, IsMet, IsReady, IsTreeWord, Meets, TreeWalkState, SettlesTo}
use Rattle.bk_tree_walk.specs.declared.Went.TheVariants.{On}

-- ---- words of the tree, and what is passed

-- 2e is a legal word of two squares
row_in_tree : IsTreeWord 2 row_word
row_in_tree = record { legal = (record { some = omega arith; signs = refl }, tt); small = lit≤ tt }

-- the two squares of 2e are more than one
row_too_large : IsTreeWord 1 row_word → ⊥
row_too_large tree = let more : 2 ≤ 1 = tree.small in omega (arith, more)

-- no member's word is before 2e
pub not_before_row : (e : Entry) → IsEntry 2 Imperfect e → Follows row_word e.word → ⊥
not_before_row e is before = not_itself row_word (subst (λ (w : Word). Follows row_word w) (sym (row_word_of e is)) before)

-- each word that isn't before 2e is after the start
after_start : (w : Word) → (Follows row_word w → ⊥) → Follows w []
after_start [] from = absurd (from refl)
after_start (m ∷ w) from = refl

-- from the start to the place 2e a walk passes no member's word, and meets 1, 1.1 and 2a
passed_three : HasPassed 2 Imperfect [] row_word 3
passed_three = record {
  passed = λ e is after before. not_before_row e is before;
  after = λ w tree from. after_start w from;
  words = (first_move ∷ []) ∷ (first_move ∷ first_move ∷ []) ∷ (two Above ∷ []) ∷ [];
  each = (
    (record { legal = (record { some = omega arith; signs = refl }, tt); some = lit< tt; small = lit≤ tt; after = refl; within = tt }, refl),
    (
      (
        record {
          legal = (record { some = omega arith; signs = refl }, (record { some = omega arith; signs = refl }, tt));
          some = lit< tt;
          small = lit≤ tt;
          after = refl;
          within = tt;
        },
        refl,
      ),
      ((record { legal = (record { some = omega arith; signs = refl }, tt); some = lit< tt; small = lit≤ tt; after = refl; within = tt }, refl), tt),
    ),
  );
  ascending = ((refl, (refl, tt)), ((refl, tt), (tt, tt)));
  count = lit≤ tt;
}

-- from the start to the place 2u it would pass 2e, a member's word
passed_too_far : HasPassed 2 Imperfect [] (two Under ∷ []) 3 → ⊥
passed_too_far p = p.passed row_entry entry_is refl refl

-- ---- a member is met

-- from each place that isn't behind 2e a walk meets 2e, as one word more
pub meets_row : (place : Word) → (Follows place row_word → ⊥) → Meets 2 Imperfect place row_word 1
meets_row place from cursor before p = met_at 2 Imperfect place row_word row_in_tree (lit< tt) from (λ e is after to. not_before_row e is to) cursor before p

-- 2e is the fourth word that a walk meets from the start
fourth_is_met : IsMet 2 Imperfect [] row_word (3 + 1)
fourth_is_met = meets_row row_word (not_itself row_word) [] 3 passed_three

-- three moves were pushed, and the next is 2e
abbrev before_row : TreeWalkState
before_row = record { order = 2; class = Imperfect; front = []; next = two Even; pushes = 3 }

-- 2e is played, and the next move would be 1
abbrev at_row : TreeWalkState
at_row = record { order = 2; class = Imperfect; front = row_word; next = first_move; pushes = 4 }

-- the move 2e is legal, and two squares are left for it
is_ready : IsReady before_row
is_ready = record { legal = record { some = omega arith; signs = refl }; few = lit≤ tt }

-- after 2e no square is left for the move 1
is_not_ready : IsReady at_row → ⊥
is_not_ready ready = let more : 3 ≤ 2 = ready.few in omega (arith, more)

-- with the move 2e a walk finds a member
finds_row : Finds before_row at_row 1 true
finds_row = meets_row row_word (not_itself row_word)

-- ---- no other is met

-- 2e is taken back, and the next is 2u
abbrev after_row : TreeWalkState
after_row = record { order = 2; class = Imperfect; front = []; next = two Under; pushes = 4 }

-- each member's word is before what goes on from 2e
row_is_before : (e : Entry) → IsEntry 2 Imperfect e → Follows (row_word ++ first_move ∷ []) e.word
row_is_before e is = subst (λ (w : Word). Follows (row_word ++ first_move ∷ []) w) (row_word_of e is) refl

-- where 2e is taken back, the next move is 2u
climbs : IsClimbed row_word [] (two Under)
climbs = record { last = two Even; was = refl; next = refl }

-- where no move goes on from 2e, a walk goes on to 2u, and passes no member's word
settles : SettlesTo at_row after_row (Some On)
settles = (
  record {
    up = refl;
    on = λ cursor before p. fewer_met 2 Imperfect cursor (two Under ∷ []) before (before + 0) (omega arith)
        (moved_on 2 Imperfect (row_word ++ first_move ∷ []) (two Under ∷ []) refl (λ e is from to. from (row_is_before e is)) cursor before p);
  },
  record { legal = tt; small = lit≤ tt; some = lit< tt; count = omega arith; signs = omega arith },
)

-- no move is played, and none is left
abbrev ended : TreeWalkState
ended = record { order = 2; class = Imperfect; front = []; next = first_move; pushes = 5 }

-- from 2e on a walk finds no other member
finds_no_other : Finds at_row ended 0 false
finds_no_other = (
  λ cursor before p. fewer_end 2 Imperfect cursor before (before + 0) (omega arith)
      (none_left_is_end 2 Imperfect (row_word ++ first_move ∷ []) cursor before (λ e is from. from (row_is_before e is)) p),
  refl,
)
