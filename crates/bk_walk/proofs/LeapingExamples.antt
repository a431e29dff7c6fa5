-- What is told of order 2 and the class imperfect, where the one member is the row of two squares, with the word 2e; and a step of a walk there.
use Rattle.std.proofs.Common.{[], ap, arith, lit≤, refl, subst, suc, ◌∷◌, ◌≡◌}
use Rattle.bk_word.proofs.WordExamples.{move, two}
use Rattle.bk_word.specs.Word.{Follows, Word}
use Rattle.bk_word.specs.declared.Class.TheVariants.{Imperfect}
use Rattle.bk_word.specs.declared.Sign.TheVariants.{Above, Even, Under}
use Rattle.bk_catalogue.proofs.Members.CatalogueExamples.{entry_is, row_entry, row_word, row_word_of}
use Rattle.bk_catalogue.proofs.Members.TwoSquares.{row_of_two}
use Rattle.bk_catalogue.specs.NextMove.{first_move}
use Rattle.bk_packed.specs.Packed.{packed}
use Rattle.bk_tree_walk.proofs.TreePlaceExamples.{meets_row, not_before_row}
use Rattle.bk_tree_walk.specs.TreePlace.{TreeWalkState}
use Rattle.bk_tree_walk.specs.declared.Went.TheVariants.{End, Met}
use Rattle.bk_walk.specs.Leaping.{GoesToWord, IsAtNumber, IsLeastNumber, IsNextFrom, IsStep, Reached, Tells, TellsOfPlace}
use Rattle.bk_walk.specs.declared.table_answer.TableAnswer.TheVariants.{Next, NoMore}

-- ---- what is told of numbers

-- from 0 on the least number of a member's word is that of 2e
least : IsLeastNumber 2 Imperfect 0 (packed row_word)
least = record {
  entry = row_entry;
  is = entry_is;
  number_is = refl;
  from = omega arith;
  least = λ other is above. omega (arith, ap packed (row_word_of other is));
}

-- of the numbers from 0 on it may be told that the least is that of 2e
next_is_told : Tells 2 Imperfect 0 (Next (packed row_word))
next_is_told = least

-- of the numbers from 0 on it can't be told that there is none
more_from_0 : Tells 2 Imperfect 0 NoMore → ⊥
more_from_0 none = none row_entry entry_is (omega arith)

-- of the numbers behind that of 2e it may be told that there is none
no_more_behind : Tells 2 Imperfect (suc (packed row_word)) NoMore
no_more_behind e is above = omega (arith, above, ap packed (row_word_of e is))

-- ---- what is told of places

-- from the place 2a on the next member's word is 2e
next_from_2a : IsNextFrom 2 Imperfect (two Above ∷ []) (packed row_word)
next_from_2a = record {
  entry = row_entry;
  is = entry_is;
  number_is = refl;
  from = λ before. cc;
  least = λ other is from before. not_before_row other is before;
}

-- from the place 2u on there is no member's word
no_more_from_2u : TellsOfPlace 2 Imperfect (two Under ∷ []) NoMore
no_more_from_2u e is from = from (subst (λ (w : Word). Follows (two Under ∷ []) w) (row_word_of e is) refl)

-- ---- where a number leads

-- the number of 2u.1e leads to a word of three squares that begins with 2u
begins_with_2u : GoesToWord 3 (two Under ∷ []) (packed (two Under ∷ move 1 (Even ∷ []) ∷ []))
begins_with_2u = record {
  word = two Under ∷ move 1 (Even ∷ []) ∷ [];
  rest = move 1 (Even ∷ []) ∷ [];
  is = refl;
  legal = (record { some = omega arith; signs = refl }, (record { some = omega arith; signs = refl }, tt));
  order = refl;
  number_is = refl;
}

-- a walk that has played 2e is at the number of 2e
at_row : IsAtNumber 2 row_word (packed row_word)
at_row = record { legal = (record { some = omega arith; signs = refl }, tt); order = refl; number_is = refl }

-- a walk that has played 2u isn't at the number of 2e
not_at_row : IsAtNumber 2 (two Under ∷ []) (packed row_word) → ⊥
not_at_row at = omega (arith, at.number_is)

-- ---- a step

-- no move is played, and the next legal one is looked for from 1 on
abbrev begun : TreeWalkState
begun = record { order = 2; class = Imperfect; front = []; next = first_move; pushes = 0 }

-- after one step 2e is played, and the room for a tiling has the row
abbrev at_member : Reached
at_member = record {
  tree = record { order = 2; class = Imperfect; front = row_word; next = first_move; pushes = 1 };
  steps = 1;
  tiling = row_of_two;
}

-- a step from the start to 2e meets a member, whose tiling is the row
step : IsStep begun 0 at_member Met
step = record {
  leads = meets_row (first_move ∷ []) (λ f. cc);
  member = λ met. entry_is;
  stays = record { order = refl; class = refl; counts = record { more = lit≤ tt; counted = refl } };
}

-- a step after which 2e is played doesn't lead to the end, where no move is played
no_step_to_end : IsStep begun 0 at_member End → ⊥
no_step_to_end ends = let none : row_word ≡ [] = (ends.leads).1 in cc
