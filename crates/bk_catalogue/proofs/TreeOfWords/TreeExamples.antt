-- Which moves come next, and the tree of order 1: it has one word, one move of one square, up to that word one, and behind it none.
use Rattle.std.proofs.Common.{None, Some, [], arith, length, refl, subst, sym, zero, ◌+◌, ◌∷◌, ℕ, ◌<◌, ◌≡◌, ◌≤◌, List, ap, ◌∙◌}
use Rattle.bk_word.proofs.StoredBytes.{order_more}
use Rattle.bk_word.specs.Outline.{Outline, start}
use Rattle.bk_word.specs.Play.{AreLegalFrom, after_move}
use Rattle.bk_word.specs.Word.{Follows, Move, Word, order_of}
use Rattle.bk_word.specs.declared.Sign.{Sign}
use Rattle.bk_word.specs.declared.Sign.TheVariants.{Above, Even, Under}
use Rattle.bk_word.proofs.FollowLaws.{after_none}
use Rattle.bk_catalogue.proofs.TreeOfWords.Places.{move_from_parts}
use Rattle.bk_catalogue.proofs.TreeOfWords.TreeCounts.{tree_counts_add}
use Rattle.bk_catalogue.specs.NextMove.{first_move, fitted, move_after}
use Rattle.bk_catalogue.specs.Ascending.{Ascends}
use Rattle.bk_catalogue.specs.Tree.{IsInTree, IsTreeCount}

-- 1, 3, 7 ascend by less than
numbers_ascend : Ascends (λ (x y : ℕ). x < y) (1 ∷ 3 ∷ 7 ∷ [])
numbers_ascend = ((omega arith, (omega arith, tt)), ((omega arith, tt), (tt, tt)))

-- 1, 1 do not
equal_ones_do_not : Ascends (λ (x y : ℕ). x < y) (1 ∷ 1 ∷ []) → ⊥
equal_ones_do_not a = absurd (omega (arith, (a.0).0))

no_sign : (signs : List Sign) → length signs ≡ 0 → signs ≡ []
no_sign [] e = refl
no_sign (s ∷ signs) e = absurd (omega (arith, e))

no_move : (o : Outline) (w : Word) → AreLegalFrom o w → order_of w ≤ 0 → w ≡ []
no_move o [] legal few = refl
no_move o (m ∷ w) legal few = absurd (omega (arith, order_more m w, few, (legal.0).some))

one_word : (w : Word) → IsInTree 1 [] None w → w ≡ first_move ∷ []
one_word [] t = absurd (omega (arith, t.some))
one_word (m ∷ w) t =
    let one : m.count ≡ 1 = omega (arith, order_more m w, t.small, ((t.legal).0).some) in
    let none : length m.signs ≡ 0 = omega (arith, ((t.legal).0).signs, one) in
    let rest : w ≡ [] = no_move (after_move start m) w (t.legal).1 (omega (arith, order_more m w, t.small, one)) in
    ap (λ (v : Word). m ∷ v) rest ∙ ap (λ (x : Move). x ∷ []) (move_from_parts m first_move one (no_sign m.signs none))

-- the tree of order 1 has the count 1
pub one_count : IsTreeCount 1 [] None 1
one_count = record {
  words = (first_move ∷ []) ∷ [];
  each = (record { legal = (record { some = omega arith; signs = refl }, tt); some = omega arith; small = omega arith; after = refl; within = tt }, tt);
  ascending = (tt, tt);
  all = λ w t. (zero, omega arith, sym (one_word w t));
  count = refl;
}

-- no word is after this one and not it
none_behind : (w : Word) → IsInTree 1 (first_move ∷ []) None w → ⊥
none_behind w t = not_itself (subst (λ (v : Word). Follows v (first_move ∷ [])) (one_word w in_tree) t.after)
  where
    in_tree : IsInTree 1 [] None w
    in_tree = record { legal = t.legal; some = t.some; small = t.small; after = after_none w t.some; within = tt }

    not_itself : Follows (first_move ∷ []) (first_move ∷ []) → ⊥
    not_itself h = cc

-- up to the word there is one, namely itself
count_up_to : IsTreeCount 1 [] (Some (first_move ∷ [])) 1
count_up_to = record {
  words = (first_move ∷ []) ∷ [];
  each = (record { legal = (record { some = omega arith; signs = refl }, tt); some = omega arith; small = omega arith; after = refl; within = λ h. cc }, tt);
  ascending = (tt, tt);
  all = λ w t. (zero, omega arith, sym (one_word w (record { legal = t.legal; some = t.some; small = t.small; after = t.after; within = tt })));
  count = refl;
}

-- behind it there is none
count_behind : IsTreeCount 1 (first_move ∷ []) None 0
count_behind = record { words = []; each = tt; ascending = tt; all = λ w t. absurd (none_behind w t); count = refl }

-- and 1 + 0 is the count of all
count_of_both : IsTreeCount 1 [] None (1 + 0)
count_of_both = tree_counts_add 1 [] (first_move ∷ []) None 1 0 (λ h. cc) tt count_up_to count_behind

-- behind all that begin with 2au comes 2e
after_2au : move_after (record { count = 2; signs = Above ∷ Under ∷ [] }) ≡ record { count = 2; signs = Even ∷ [] }
after_2au = refl

-- and behind 2u comes 3
after_2u : move_after (record { count = 2; signs = Under ∷ [] }) ≡ record { count = 3; signs = [] }
after_2u = refl

-- with one open side two squares have two signs: 2 is filled up to 2aa
least_from_2 : fitted 1 (record { count = 2; signs = [] }) ≡ record { count = 2; signs = Above ∷ Above ∷ [] }
least_from_2 = refl

-- with none they have one: behind 2ae comes 2e
least_from_2ae : fitted 0 (record { count = 2; signs = Above ∷ Even ∷ [] }) ≡ record { count = 2; signs = Even ∷ [] }
least_from_2ae = refl
