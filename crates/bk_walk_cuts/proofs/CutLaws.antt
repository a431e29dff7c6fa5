-- Cuts that hold for all moves of one count whose signs begin alike.
use Rattle.std.proofs.Common.{Contains, IsTrue, List, None, Option, Some, [], ap, arith, drop, inl, inr, length, nat_lt, refl, slice_get}
use Rattle.std.proofs.Common.{slice_index_or, subst, suc, sym, take, zero, ℕ, ◌++◌, ◌+◌, ◌-◌, ◌<◌, ◌∙◌, ◌∷◌, ◌≡◌, ◌≤◌, ◌⊎◌}
use Rattle.std.proofs.lemmas.List.{take-append-drop}
use Rattle.std.proofs.Math.Seq.{take-length}
use Rattle.std.proofs.lemmas.Bool.{ltb-true}
use Rattle.bk_laws.proofs.ListPlaces.{get_append}
use Rattle.bk_word.specs.Outline.{IsLegalMove, has_left_wall, open_side, sizes_of, valley_of}
use Rattle.bk_word.specs.Play.{outline_of}
use Rattle.bk_word.specs.Word.{Move, Word, order_of}
use Rattle.bk_word.specs.declared.Class.{Class}
use Rattle.bk_word.specs.declared.Class.TheVariants.{Perfect}
use Rattle.bk_word.specs.declared.Sign.{Sign}
use Rattle.bk_word.specs.declared.Sign.TheVariants.{Above, Even}
use Rattle.bk_catalogue.proofs.MoveCuts.CuttingFirst.{shorter_first_is_barren}
use Rattle.bk_catalogue.proofs.MoveCuts.CuttingLines.{too_many_lines_is_barren}
use Rattle.bk_catalogue.proofs.MoveCuts.CuttingPairs.{even_squares_are_barren}
use Rattle.bk_catalogue.proofs.TreeOfWords.Fitting.{less_longer}
use Rattle.bk_catalogue.proofs.TreeOfWords.MoveOrder.{Begins, IsLess, IsShort, begun_before, less_from, less_to, moves_between, next_short, signs_cmp}
use Rattle.bk_catalogue.proofs.TreeOfWords.Places.{move_from_parts, one_legal}
use Rattle.bk_catalogue.specs.SingleValleys.{single_valleys}
use Rattle.bk_catalogue.specs.Cuts.{IsBarren}
use Rattle.bk_catalogue.proofs.MoveCuts.OneUnderOne.{one_under_one_is_barren}
use Rattle.bk_word.specs.OwnSigns.{own_signs}
use Rattle.bk_walk_cuts.specs.MoveCuts.{GrowsByAtMostOne, IsCut, IsFrontEndingEven, front_signs, passed}
use Rattle.bk_catalogue.specs.NextMove.{IsMoveFrom, move_with_signs, signs_after}
use Rattle.bk_catalogue.specs.VerticalCut.{line_bound_of}

front_from : (k : ℕ) (m other : Move) → IsMoveFrom m other → IsMoveFrom (front_signs k m) other
front_from k m other from e = cases (less_to other (front_signs k m) e)
  where
    cases : IsLess other (front_signs k m) → ⊥
    cases (inl h) = from (less_from other m (inl h))
    cases (inr (h, f)) = from (less_from other m
        (inr (h, ap (signs_cmp other.signs) (sym (take-append-drop k m.signs)) ∙ less_longer other.signs (take k m.signs) (drop k m.signs) f)))

-- where no member's word goes on by a move of the same count that begins with so many of the move's signs, all of these are cut
pub cut_by_front : (n : ℕ) (class : Class) (front : Word) (m : Move) (k : ℕ)
    → ((other : Move) → IsLegalMove (outline_of front) other → other.count ≡ m.count → Begins (take k m.signs) other.signs
    → IsBarren n class (front ++ other ∷ []))
    → IsCut n class front m (passed k m)
cut_by_front n class front m k barren = record {
  up = begun_before (front_signs k m) m refl (record { rest = drop k m.signs; is = sym (take-append-drop k m.signs) });
  barren = λ other legal from to. let b = moves_between (front_signs k m) other (front_from k m other from) to in barren other legal b.0 b.1;
}

-- a move is near itself
pub near_itself : (m : Move) → GrowsByAtMostOne m m
near_itself m = record { least = omega arith; most = omega arith; signs = omega arith }

-- the move after those has few signs and at most one square more
pub after_near : (k : ℕ) (m : Move) → GrowsByAtMostOne m (passed k m)
after_near k m = cases (signs_after (take k m.signs)) (next_short (take k m.signs))
  where
    shorter : (k : ℕ) (a : List Sign) → length (take k a) ≤ length a
    shorter zero a = omega arith
    shorter (suc k) [] = omega arith
    shorter (suc k) (s ∷ a) = omega (arith, shorter k a)

    cases : (r : Option (List Sign)) → IsShort (length (take k m.signs)) r → GrowsByAtMostOne m (move_with_signs m.count r)
    cases None h = record { least = omega arith; most = omega arith; signs = omega arith }
    cases (Some next) h = record { least = omega arith; most = omega arith; signs = omega (arith, shorter k m.signs) }

-- all signs of a move are its own
pub whole_front : (m : Move) → front_signs (length m.signs) m ≡ m
whole_front m = move_from_parts (front_signs (length m.signs) m) m refl (take-length m.signs)

get_take : (k : ℕ) (a : List Sign) (i : ℕ) (s : Sign) → i < k → slice_get a i ≡ Some s → slice_get (take k a) i ≡ Some s
get_take zero a i s h e = absurd (omega arith)
get_take (suc k) [] i s h e = e
get_take (suc k) (t ∷ a) zero s h e = e
get_take (suc k) (t ∷ a) (suc i) s h e = get_take k a i s (omega arith) e

in_take : (n j : ℕ) (a : List Sign) (s : Sign) → j < n → slice_get a j ≡ Some s → Contains (take n a) s
in_take zero j a s h e = absurd (omega arith)
in_take (suc n) j [] s h e = absurd (cc)
in_take (suc n) zero (t ∷ a) s h e = (zero, omega arith, cc)
in_take (suc n) (suc j) (t ∷ a) s h e = let c = in_take n j a s (omega arith) e in (suc c.0, omega (arith, c.1), c.2)

get_drop : (f j : ℕ) (a : List Sign) (s : Sign) → slice_get a (f + j) ≡ Some s → slice_get (drop f a) j ≡ Some s
get_drop zero j a s e = subst (λ (k : ℕ). slice_get a k ≡ Some s) (omega arith) e
get_drop (suc f) j [] s e = absurd (cc)
get_drop (suc f) j (t ∷ a) s e = get_drop f j a s (subst (λ (k : ℕ). slice_get (t ∷ a) k ≡ Some s) same e)
  where
    same : suc f + j ≡ suc (f + j)
    same = omega arith

-- the cut by two equal squares side by side under one segment
pub even_cut : (n : ℕ) (class : Class) (front : Word) (m : Move) (kept : ℕ) → (class ≡ Perfect) ⊎ (3 ≤ n)
    → IsFrontEndingEven (open_side (has_left_wall (outline_of front))) m.count m.signs kept → IsCut n class front m (passed kept m)
even_cut n class front m kept which ends =
    cut_by_front n class front m kept (λ other legal count b. even_squares_are_barren n class front other which (contains other count b))
  where
    from : ℕ
    from = open_side (has_left_wall (outline_of front))

    contains : (other : Move) → other.count ≡ m.count → Begins (take kept m.signs) other.signs → Contains (own_signs (outline_of front) other) Even
    contains other count b = in_take (other.count - 1) (kept - 1 - open_side (has_left_wall (outline_of front)))
        (drop (open_side (has_left_wall (outline_of front))) other.signs) Even
        (let low = ends.low in let high = ends.high in omega arith)
        (get_drop (open_side (has_left_wall (outline_of front))) (kept - 1 - open_side (has_left_wall (outline_of front))) other.signs Even
        (subst (λ (i : ℕ). slice_get other.signs i ≡ Some Even) place
        (subst (λ (l : List Sign). slice_get l (kept - 1) ≡ Some Even) (sym b.is)
        (get_append (take kept m.signs) b.rest (kept - 1) Even (get_take kept m.signs (kept - 1) Even (let low = ends.low in omega arith) ends.even)))))
      where
        place : kept - 1 ≡ open_side (has_left_wall (outline_of front)) + (kept - 1 - open_side (has_left_wall (outline_of front)))
        place = let low = ends.low in omega arith

-- the cut of one square under just one
pub single_cut : (n : ℕ) (class : Class) (front : Word) (m : Move) → m.count ≡ 1 → length (valley_of (outline_of front)) ≡ 1
    → IsCut n class front m (passed 0 m)
single_cut n class front m one valley = cut_by_front n class front m 0 (λ other legal count b. one_under_one_is_barren n class front other (count ∙ one) valley)

-- a move by itself
pub one_cut : (n : ℕ) (class : Class) (front : Word) (m : Move) → IsLegalMove (outline_of front) m → IsBarren n class (front ++ m ∷ [])
    → IsCut n class front m (passed (length m.signs) m)
one_cut n class front m legal barren = cut_by_front n class front m (length m.signs) itself
  where
    itself : (other : Move) → IsLegalMove (outline_of front) other → other.count ≡ m.count → Begins (take (length m.signs) m.signs) other.signs
        → IsBarren n class (front ++ other ∷ [])
    itself other lawful count b = subst (λ (k : Move). IsBarren n class (front ++ k ∷ [])) (sym same) barren
      where
        same : other ≡ m
        same = one_legal (outline_of front) m other legal lawful count
            (subst (λ (l : List Sign). Begins l other.signs) (take-length m.signs) b)

-- the cut of the first move of two squares with the shorter one on the left
pub first_cut : (n : ℕ) (class : Class) (m : Move) → m.count ≡ 2 → m.signs ≡ Above ∷ [] → IsLegalMove (outline_of []) m
    → IsCut n class [] m (passed (length m.signs) m)
first_cut n class m two signs legal = one_cut n class [] m legal
    (subst (λ (k : Move). IsBarren n class (k ∷ [])) (sym (move_from_parts m (record { count = 2; signs = Above ∷ [] }) two signs))
    (shorter_first_is_barren n class))

one_sign : (signs : List Sign) → length signs ≡ 1 → slice_index_or signs 0 Above ≡ Above → signs ≡ Above ∷ []
one_sign [] h e = absurd (omega arith)
one_sign (s ∷ []) h e = ap (λ t. t ∷ []) e
one_sign (s ∷ t ∷ signs) h e = absurd (omega arith)

-- the cut of a first move of two squares with the shorter one on the left, where nothing is played yet
pub shorter_cut : (n : ℕ) (class : Class) (front : Word) (m : Move) → length front ≡ 0 → m.count ≡ 2 → slice_index_or m.signs 0 Above ≡ Above
    → IsLegalMove (outline_of front) m → IsCut n class front m (passed (length m.signs) m)
shorter_cut n class [] m none two above legal = first_cut n class m two (one_sign m.signs (omega (arith, legal.signs)) above) legal
shorter_cut n class (k ∷ front) m none two above legal = absurd (omega arith)

-- fewer squares are left than must still hang
pub owes_lines : (n : ℕ) (class : Class) (front : Word) (left closings : ℕ) → 3 ≤ n → left ≡ n - order_of front
    → closings ≡ line_bound_of front → left < closings → IsBarren n class front
owes_lines n class front left closings least l c many = too_many_lines_is_barren n class front least (omega arith)

-- fewer squares are left than must still hang, with one more for each valley of just one square
pub owes_singles : (n : ℕ) (class : Class) (front : Word) (left closings singles : ℕ) → 3 ≤ n → left ≡ n - order_of front → closings ≡ line_bound_of front
    → singles ≡ single_valleys (outline_of front).signs (sizes_of (outline_of front)) → IsTrue (nat_lt (left - closings) singles)
    → closings ≤ left → IsBarren n class front
owes_singles n class front left closings singles least l c s many few =
    too_many_lines_is_barren n class front least (omega (arith, ltb-true (left - closings) singles many))
