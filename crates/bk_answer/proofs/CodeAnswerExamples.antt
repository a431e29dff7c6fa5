-- Lines of the rectangle 3x2 of the squares 2, 1, 1: the tiling that they speak of, what is answered to them, and why others are refused.
use Rattle.std.specs.Fmt.{digits}
use Rattle.std.specs.Prelude.{None, Some, codes}
use Rattle.std.proofs.Common.{Bool, List, [], ap, arith, false, get_or, lit≤, refl, true, ℕ, ◌∷◌, ◌≡◌}
use Rattle.bk_tiling.proofs.ExampleTilings.{rectangle_3x2}
use Rattle.bk_tiling.proofs.TilingTest.{tiling_from_test}
use Rattle.bk_tiling.specs.Tiling.{IsTiling, Tiling}
use Rattle.bk_code.specs.Code.{Code}
use Rattle.bk_profile.proofs.RefusalExamples.{second_does_not_fit}
use Rattle.bk_profile.specs.declared.laying.Refusal.TheVariants.{Gap}
use Rattle.bk_text.proofs.WhatWasRead.{read_is_line}
use Rattle.bk_text.specs.CodeLine.{Flat, Item, Line, Skip}
use Rattle.bk_report.specs.AnswerWords.{ok_word}
use Rattle.bk_report.specs.declared.refusal.Refused.TheVariants.{Gap as NoGap, Order, Size}
use Rattle.bk_answer.proofs.CheckedLines.{a_reply}
use Rattle.bk_answer.specs.Answer.{AnswersLine, MayWant}
use Rattle.bk_answer.specs.Checked.{Accepts}
use Rattle.bk_answer.specs.CodeAnswer.{AnswersCodeLine, answers, any_command, no_item, refuses}
use Rattle.bk_answer.specs.Item.{AllowsOrder, AllowsSize, HasItem, HasTiling, IsStatedBy}
use Rattle.bk_answer.specs.Refusing.{IsLineRefused, not_laid, other_order, other_size, refused_item}
use Rattle.bk_answer.specs.declared.command.Command.TheVariants.{Plain}
use Rattle.bk_answer.specs.declared.plain.PlainCommand.TheVariants.{Check, Draw}

tiling-3x2 : IsTiling rectangle_3x2
tiling-3x2 = tiling_from_test rectangle_3x2 refl

abbrev code_3x2 : Code
code_3x2 = (2 ∷ 1 ∷ []) ∷ (1 ∷ []) ∷ []

-- ---- items, and the tiling that they speak of

alone : HasItem (codes "[2,1][1]") (Item None None code_3x2)
alone = record { short = lit≤ tt; meaning = read_is_line (codes "[2,1][1]") (Item None None code_3x2) refl; few = lit≤ tt }

-- the code alone speaks of the rectangle
pub has_tiling : HasTiling (codes "[2,1][1]") rectangle_3x2
has_tiling = record {
  item = Item None None code_3x2;
  is_item = alone;
  stated = record { laid = record { tiling = tiling-3x2; code_is = refl }; order_is = tt; size_is = tt };
}

-- so does a table row of its order, its width, its height and its sides
row_has_tiling : HasTiling (codes "3 3 2 2 1 1") rectangle_3x2
row_has_tiling = record {
  item = Flat 3 3 2 (2 ∷ 1 ∷ 1 ∷ []);
  is_item = record { short = lit≤ tt; meaning = read_is_line (codes "3 3 2 2 1 1") (Flat 3 3 2 (2 ∷ 1 ∷ 1 ∷ [])) refl; few = lit≤ tt };
  stated = record { laid = record { tiling = tiling-3x2; width_is = refl; flat_is = refl }; order_is = refl; size_is = (refl, refl) };
}

-- the code with another size before it
abbrev other_sized : Line
other_sized = Item None (Some (2, 3)) code_3x2

has_other_size : AllowsSize other_sized 3 2 → ⊥
has_other_size h = omega (arith, h.0)

-- it does not speak of the rectangle
not_stated : IsStatedBy other_sized rectangle_3x2 → ⊥
not_stated h = has_other_size h.size_is

-- ---- refusals

-- another size is stated than that of the tiling
size_refused : IsLineRefused (codes "2x3 [2,1][1]") (Size 3 2)
size_refused = refused_item other_sized (Size 3 2)
    (record { short = lit≤ tt; meaning = read_is_line (codes "2x3 [2,1][1]") other_sized refl; few = lit≤ tt })
    (other_size rectangle_3x2 tt (record { tiling = tiling-3x2; code_is = refl }) has_other_size)

abbrev uneven : Code
uneven = (18 ∷ 15 ∷ []) ∷ (7 ∷ 9 ∷ []) ∷ []

-- the second group, of sum 16, does not fit into its gap of 15 columns
pub gap_refused : IsLineRefused (codes "[18,15][7,9]") (NoGap 2 15 16)
gap_refused = refused_item (Item None None uneven) (NoGap 2 15 16)
    (record { short = lit≤ tt; meaning = read_is_line (codes "[18,15][7,9]") (Item None None uneven) refl; few = lit≤ tt })
    (not_laid (Gap 2 15 16) tt second_does_not_fit)

abbrev other_order_stated : Line
other_order_stated = Item (Some 3) None uneven

-- where another order is stated too, that is the cause
order_refused : IsLineRefused (codes "3 [18,15][7,9]") (Order 4)
order_refused = refused_item other_order_stated (Order 4)
    (record { short = lit≤ tt; meaning = read_is_line (codes "3 [18,15][7,9]") other_order_stated refl; few = lit≤ tt })
    (other_order (λ h. has_other_order h))
  where
    has_other_order : AllowsOrder other_order_stated 4 → ⊥
    has_other_order h = omega (arith, h)

-- ---- answers

-- what `draw` answers to the code
drawn : AnswersCodeLine (Plain Draw) (codes "[2,1][1]") (codes "+-++\n" ∷ codes "| ++\n" ∷ codes "+-++\n" ∷ []) false
drawn = answers rectangle_3x2 _ has_tiling (lit≤ tt, lit≤ tt) refl

-- a line of a comment alone has no answer
comment_skipped : AnswersCodeLine (Plain Draw) (codes "; 3x2") [] false
comment_skipped = no_item (record { short = lit≤ tt; meaning = read_is_line (codes "; 3x2") Skip refl; few = lit≤ tt })

-- a refused line is answered by the cause
drawing_refused : AnswersCodeLine (Plain Draw) (codes "[18,15][7,9]") (codes "no gap 2 15 16\n" ∷ []) true
unfolding digits
drawing_refused = refuses (NoGap 2 15 16) (any_command (NoGap 2 15 16) gap_refused)

-- it is the answer of the command `draw`
drawn_line : AnswersLine (Plain Draw) (codes "[2,1][1]") (codes "+-++\n" ∷ codes "| ++\n" ∷ codes "+-++\n" ∷ []) false
drawn_line = drawn

-- at no line memory is wanting for `check`
never_wanting : (bytes : List ℕ) → MayWant (Plain Check) bytes → ⊥
never_wanting bytes h = h

-- ---- what `check` accepts

-- whatever it answers to the code, it begins with `ok`
accepted_3x2 : (pieces : List (List ℕ)) (refused : Bool) → AnswersLine (Plain Check) (codes "[2,1][1]") pieces refused → Accepts pieces
accepted_3x2 pieces refused an = ((a_reply (Plain Check) (codes "[2,1][1]") pieces refused an).checked refl).any_line.1 (rectangle_3x2, has_tiling)

check_refused : AnswersCodeLine (Plain Check) (codes "2x3 [2,1][1]") (codes "no size 3x2\n" ∷ []) true
unfolding digits
check_refused = refuses (Size 3 2) (any_command (Size 3 2) size_refused)

not_accepted : Accepts (codes "no size 3x2\n" ∷ []) → ⊥
not_accepted (rest, e) = let first : 110 ≡ get_or ok_word 0 0 = ap (λ (l : List ℕ). get_or l 0 0) e in omega (arith, first)

-- and since that answer does not, no tiling at all has what the line with the other size states
none_has_other_size : (t : Tiling) → HasTiling (codes "2x3 [2,1][1]") t → ⊥
none_has_other_size t has = not_accepted
    (((a_reply (Plain Check) (codes "2x3 [2,1][1]") (codes "no size 3x2\n" ∷ []) true check_refused).checked refl).any_line.1 (t, has))
