-- Steps to the answer to an item.
use Rattle.std.proofs.Common.{Bor, Err, List, None, Ok, Option, Result, Some, length, subst, sym, ℕ, ◌≡◌, ◌≤◌}
use Rattle.std.specs.Option.{option_copied}
use Rattle.std.specs.Prelude.{IfErr, IfOk, IsErrAnd, OnOk}
use Rattle.bk_tiling.specs.Tiling.{IsTiling, Tiling}
use Rattle.bk_profile.specs.declared.laying.Refusal.{Refusal}
use Rattle.bk_report.specs.declared.refusal.Refused.{Refused}
use Rattle.bk_report.specs.declared.refusal.Refused.TheVariants.{Order, Size}
use Rattle.bk_text.specs.CodeLine.{Flat, Item, Line, Skip}
use Rattle.bk_text.specs.ReadLine.{IsTextFaultOf}
use Rattle.bk_text.specs.declared.TextFault.{TextFault}
use Rattle.bk_text.specs.declared.TextFault.TheVariants as faults
use Rattle.bk_answer.specs.Item.{AllowsOrder, AllowsSize, HasItem, IsLaidBy, IsLaidItem, IsLaidLine, IsSize, IsStatedBy, side_count}
use Rattle.bk_answer.specs.Refusing.{IsItemRefused, IsLineRefused, IsNotLaid, no_line, not_laid, other_order, other_size, refused_for, refused_item}
use Rattle.bk_answer.specs.Refusing.{refused_text, too_many}
use Rattle.bk_answer.proofs.OneAnswer.{order_is_sides}

-- another order is stated than this number of sides
pub wrong_order : (item : Line) (n : ℕ) → n ≡ side_count item → (AllowsOrder item n → ⊥) → IsItemRefused item (Order n)
wrong_order item n e = subst (λ (m : ℕ). (AllowsOrder item m → ⊥) → IsItemRefused item (Order m)) (sym e) (λ other. other_order other)

-- laying failed
pub failed_laying : (item : Line) (cause : Refusal) (r : Refused) → AllowsOrder item (side_count item) → IsNotLaid item cause → r ≡ refused_for cause
    → IsItemRefused item r
failed_laying item cause r allowed failed e = subst (IsItemRefused item) (sym e) (not_laid cause allowed failed)

-- a refusal that is handed on
pub handed_on : {A : Type 0} (line item : Line) (f : Refused) (r : Result A Refused) → line ≡ item → IsErrAnd r (λ e. e ≡ f) → IsItemRefused item f
    → IfErr r (IsItemRefused line)
handed_on line item f (Ok a) same h refused = tt
handed_on line item f (Err e) same h refused = subst (λ (l : Line). IsItemRefused l e) (sym same) (subst (IsItemRefused item) (sym h) refused)

-- bytes that are not read
pub not_read : (bytes : List ℕ) (fault : TextFault) (r : Refused) → length bytes ≤ 8192 → IsTextFaultOf fault bytes → r ≡ refused_text fault
    → IsLineRefused bytes r
not_read bytes (faults.Text at) r short h e = subst (IsLineRefused bytes) (sym e) (no_line at short h)
not_read bytes faults.Many r short (line, is, many) e = subst (IsLineRefused bytes) (sym e) (too_many line short is many)

-- a tiling that is laid for an item, where another size is stated or none
module _ (item : Line) (size : Option (ℕ × ℕ)) (t : Tiling) (laid : IsLaidBy item t) (allowed : AllowsOrder item (side_count item))
    (sized : AllowsSize item t.width t.height → IsSize size t.width t.height) (size_is : IsSize size t.width t.height → AllowsSize item t.width t.height) where
  stated : IsSize size t.width t.height → IsStatedBy item t
  stated s = record {
    laid = laid;
    order_is = subst (AllowsOrder item) (sym (order_is_sides item t laid)) allowed;
    size_is = size_is s;
  }

  -- where the stated size is found to be a tiling's, the item speaks of that tiling
  pub laid_of_size : (r : Result (Unit {0}) Refused) → OnOk r (IsSize size t.width t.height) → OnOk r (IsStatedBy item t)
  laid_of_size (Ok done) h = stated h
  laid_of_size (Err f) h = tt

  -- where the stated size is found not to be a tiling's, the item is refused
  pub refused_of_size : (r : Result (Unit {0}) Refused) → IfErr r (λ f. (f ≡ Size t.width t.height) × (IsSize size t.width t.height → ⊥))
      → IfErr r (IsItemRefused item)
  refused_of_size (Ok o) h = tt
  refused_of_size (Err f) h = subst (IsItemRefused item) (sym h.0) (other_size t allowed laid (λ s. h.1 (sized s)))

-- what comes of laying the item of a line comes of laying the line
module _ (bytes : List ℕ) (item : Line) (has : HasItem bytes item) where
  line_laid : (o : Option Tiling) → IsLaidItem item o → IsLaidLine bytes o
  line_laid None h = subst (HasItem bytes) h has
  line_laid (Some t) h = record { item = item; is_item = has; stated = h }

  -- what comes of laying a line's item comes of the line
  pub laid_of_item : (r : Result (Option (Bor Tiling)) Refused) → IfOk r (λ laid. IsLaidItem item (option_copied laid))
      → IfOk r (λ laid. IsLaidLine bytes (option_copied laid))
  laid_of_item (Ok laid) h = line_laid (option_copied laid) h
  laid_of_item (Err f) h = tt

  -- a refusal of a line's item is a refusal of the line
  pub refused_of_item : (r : Result (Option (Bor Tiling)) Refused) → IfErr r (IsItemRefused item) → IfErr r (IsLineRefused bytes)
  refused_of_item (Ok o) h = tt
  refused_of_item (Err f) h = refused_item item f has h

-- the tiling of a line is a tiling
pub stated_is_a_tiling : (item : Line) (t : Tiling) → IsStatedBy item t → IsTiling t
stated_is_a_tiling Skip t s = absurd s.laid
stated_is_a_tiling (Item order size code) t s = s.laid.tiling
stated_is_a_tiling (Flat order width height sides) t s = s.laid.tiling
