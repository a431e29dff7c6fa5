-- Which move comes next. The legal moves at one state go by their counts, and those of one count have the same number
-- of signs and go by these.
-- Example (TreeExamples): behind all that begin with 2au comes 2e, and behind 2u comes 3; at a valley with one open
-- side the least legal move that is not before 2 is 2aa.
use Rattle.std.specs.Prelude.{List, None, Option, Some, [], cond, length, nat_lt, replicate, take, ℕ, ◌++◌, ◌+◌, ◌-◌}
use Rattle.std.specs.Prelude.{◌∷◌, ◌≡◌}
use Rattle.std.specs.declared.cmp.Ordering.TheVariants.{Less}
use Rattle.bk_word.specs.Outline.{IsLegalMove, Outline}
use Rattle.bk_word.specs.Word.{Move, move_cmp}
use Rattle.bk_word.specs.declared.Sign.{Sign}
use Rattle.bk_word.specs.declared.Sign.TheVariants.{Above, Even, Under}

-- the move is not before the other
abbrev pub IsMoveFrom : Move → Move → Type 0
IsMoveFrom x m = move_cmp m x ≡ Less → ⊥

-- the first of all moves: no legal move is before it
abbrev pub first_move : Move
first_move = record { count = 1; signs = [] }

-- the signs with a sign before them that are next, where those behind it have a next or are all under
abbrev pub raised : Sign → Option (List Sign) → Option (List Sign)
raised Above (Some next) = Some (Above ∷ next)
raised Even (Some next) = Some (Even ∷ next)
raised Under (Some next) = Some (Under ∷ next)
raised Above None = Some (Even ∷ [])
raised Even None = Some (Under ∷ [])
raised Under None = None

-- the signs that are next after all that begin with these: the last that is not under is raised, and those behind it
-- are dropped. There are none where all are under
abbrev pub signs_after : List Sign → Option (List Sign)
signs_after [] = None
signs_after (s ∷ signs) = raised s (signs_after signs)

-- the move of so many squares with these signs, or else of one square more and no sign
abbrev pub move_with_signs : ℕ → Option (List Sign) → Move
move_with_signs count (Some signs) = record { count = count; signs = signs }
move_with_signs count None = record { count = count + 1; signs = [] }

-- the move that is next after all of the same count whose signs begin with these
abbrev pub move_after : Move → Move
move_after m = move_with_signs m.count (signs_after m.signs)

-- how many signs a legal move of `count` squares has at a valley of which `sides` sides are open
abbrev pub signs_wanted : ℕ → ℕ → ℕ
signs_wanted sides count = count - 1 + sides

-- the move with signs above put behind its own, up to so many as are wanted
abbrev pub padded : ℕ → Move → Move
padded sides m = record {
  count = m.count;
  signs = m.signs ++ replicate (signs_wanted sides m.count - length m.signs) Above;
}

-- the move, or, where it has more signs than are wanted, the next after all that begin with as many of them
abbrev pub shortened : ℕ → Move → Move
shortened sides m = cond (nat_lt (signs_wanted sides m.count) (length m.signs))
    (move_after (record { count = m.count; signs = take (signs_wanted sides m.count) m.signs }))
    m

-- the least legal move that is not before this one
abbrev pub fitted : ℕ → Move → Move
fitted sides m = padded sides (shortened sides m)

-- at a state a move is the least legal one that is not before another
pub record IsLeastFrom (o : Outline) (x m : Move) : Type 0 where
  pub legal : IsLegalMove o m
  pub from : IsMoveFrom x m
  pub least : (other : Move) → IsLegalMove o other → IsMoveFrom x other → IsMoveFrom m other
