-- Step after step: what a walk has passed since it began, and that it ends.
use Rattle.std.specs.List.{AllByRecursion}
use Rattle.std.proofs.Common.{[], arith, length, ℕ, ◌++◌, ◌+◌, ◌<◌, ◌^◌, ◌∷◌, ◌≤◌}
use Rattle.bk_word.specs.Word.{Follows, Move, Word}
use Rattle.bk_word.specs.declared.Class.{Class}
use Rattle.bk_catalogue.proofs.TreeOfWords.Ranks.{IsSmallMove, left_after, less_left, small_place}
use Rattle.bk_tree_walk.proofs.WalkSteps.{fewer_at, fewer_end, fewer_met}
use Rattle.bk_tree_walk.specs.TreePlace.{Advances, Ends, HasPassed, IsTreeWalkState, Meets}
use Rattle.bk_catalogue.specs.Tree.{PushesGrow}

-- from the place where the walk began to the one where it stands, with so many words met on the way
pub record Continues (n : ℕ) (class : Class) (place next : Word) (met : ℕ) : Type 0 where
  pub on : (cursor : Word) (before : ℕ) → HasPassed n class cursor place before → HasPassed n class cursor next (before + met)

-- at first nothing is passed
pub continues_none : (n : ℕ) (class : Class) (place : Word) (met : ℕ) → met ≤ 0 → Continues n class place place met
continues_none n class place met none = record { on = λ cursor before p. fewer_met n class cursor place before (before + met) (omega arith) p }

-- on to a later place
pub continues_on : (n : ℕ) (class : Class) (place mid next : Word) (a b met : ℕ) → Continues n class place mid a
    → Advances n class mid next b → met ≤ a + b → Continues n class place next met
continues_on n class place mid next a b met c s few =
    record {
      on = λ cursor before p. fewer_met n class cursor next (before + a + b) (before + met) (omega arith)
          (s.on cursor (before + a) (c.on cursor before p));
    }

-- up to a word that is met
pub meets_then : (n : ℕ) (class : Class) (place mid word : Word) (a b met : ℕ) → Continues n class place mid a → Meets n class mid word b
    → met ≤ a + b → Meets n class place word met
meets_then n class place mid word a b met c m few cursor before p =
    fewer_at n class cursor word (before + a + b) (before + met) (omega arith) (m cursor (before + a) (c.on cursor before p))

-- up to the end
pub ends_then : (n : ℕ) (class : Class) (place mid : Word) (a b met : ℕ) → Continues n class place mid a → Ends n class mid b → met ≤ a + b
    → Ends n class place met
ends_then n class place mid a b met c e few cursor before p =
    fewer_end n class cursor (before + a + b) (before + met) (omega arith) (e cursor (before + a) (c.on cursor before p))

-- no step, no push
pub counts_none : (pushes steps : ℕ) → pushes < 2 ^ 64 → PushesGrow pushes pushes steps steps
counts_none pushes steps known = record { more = omega arith; counted = omega arith }

-- counts of two parts one after another
pub counts_then : (p q r s t u : ℕ) → PushesGrow p q s t → PushesGrow q r t u → PushesGrow p r s u
counts_then p q r s t u a b = let m = a.more in let n = b.more in record { more = omega arith; counted = omega (arith, a.counted, b.counted) }

-- the count is a number of 64 bits
pub counts_known : (p q s t : ℕ) → PushesGrow p q s t → q < 2 ^ 64
counts_known p q s t a = omega (arith, a.counted)

-- a later place is nearer to the end
pub later_is_nearer : (n : ℕ) (front then : Word) (x y : Move) → n ≤ 16 → IsTreeWalkState n front x → IsTreeWalkState n then y
    → Follows (then ++ y ∷ []) (front ++ x ∷ []) → left_after (then ++ y ∷ []) < left_after (front ++ x ∷ [])
later_is_nearer n front then x y few s t up =
    less_left (front ++ x ∷ []) (then ++ y ∷ []) (small n front x few s).0 (small n then y few t).0 (small n then y few t).1 up
  where
    small : (n : ℕ) (front : Word) (x : Move) → n ≤ 16 → IsTreeWalkState n front x
        → AllByRecursion IsSmallMove (front ++ x ∷ []) × (length (front ++ x ∷ []) ≤ 18)
    small n front x few s = small_place front x s.legal (omega (arith, s.small)) (record { count = s.count; signs = s.signs })
