-- The squares of a list from a place on, and those before it: where none of either lies across a border, none of all does.
use Rattle.std.specs.Prelude.{List, count_by, drop, length, take, ℕ, ◌++◌, ◌+◌, ◌-◌, ◌||◌, ◌≡◌}
use Rattle.std.proofs.Common.{ap, arith, subst, sym, ◌∙◌}
use Rattle.std.proofs.lemmas.Bool.{and_parts}
use Rattle.std.proofs.lemmas.List.{length-drop, take-append-drop, take_all}
use Rattle.std.proofs.lemmas.List.Folds.{list_all-append}
use Rattle.std.proofs.lemmas.List.Sums.{sum_by-take-drop}
use Rattle.bk_tiling.specs.Tiling.{Rectangle}
use Rattle.bk_tiling.specs.declared.Square.{Square}
use Rattle.bk_simple.specs.Border.{IsUncut, is_inside, is_outside}

-- the squares from a place on, as they are passed
abbrev pub squares_from : ℕ → List Square → List Square
squares_from k squares = take (length squares - k) (drop k squares)

from_is_drop : (k : ℕ) (squares : List Square) → squares_from k squares ≡ drop k squares
from_is_drop k squares = take_all (length squares - k) (drop k squares) (omega (arith, length-drop k squares))

-- where none of all lies across the border, none of either part does
pub uncut_parts : (r : Rectangle) (k : ℕ) (squares : List Square) → IsUncut r squares → IsUncut r (take k squares) × IsUncut r (squares_from k squares)
uncut_parts r k squares uncut =
    let whole : IsUncut r (take k squares ++ drop k squares) = subst (IsUncut r) (sym (take-append-drop k squares)) uncut in
    let both = and_parts _ _ (sym (list_all-append (λ q. is_inside r q || is_outside r q) (take k squares) (drop k squares)) ∙ whole) in
    (both.0, subst (IsUncut r) (sym (from_is_drop k squares)) both.1)

-- where none of either part lies across the border, none of all does
pub uncut_whole : (r : Rectangle) (k : ℕ) (squares : List Square) → IsUncut r (take k squares) → IsUncut r (squares_from k squares) → IsUncut r squares
uncut_whole r k squares front back =
    let rest : IsUncut r (drop k squares) = subst (IsUncut r) (from_is_drop k squares) back in
    subst (IsUncut r) (take-append-drop k squares)
    (list_all-append (λ q. is_inside r q || is_outside r q) (take k squares) (drop k squares) ∙ cc)

-- the squares that lie inside are those of both parts
pub inside_parts : (r : Rectangle) (k : ℕ) (squares : List Square)
    → count_by (is_inside r) (take k squares) + count_by (is_inside r) (squares_from k squares) ≡ count_by (is_inside r) squares
inside_parts r k squares =
    ap (λ z. count_by (is_inside r) (take k squares) + count_by (is_inside r) z) (from_is_drop k squares) ∙ sum_by-take-drop _ squares k
