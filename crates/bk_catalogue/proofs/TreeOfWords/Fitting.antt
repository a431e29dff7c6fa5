-- The least legal move that is not before a given one.
use Rattle.std.specs.declared.cmp.Ordering.TheVariants.{Less}
use Rattle.std.proofs.Common.{Bool, List, None, Option, Some, [], ap, arith, cond, drop, false, inl, inr, length, nat_lt, refl, replicate, suc, sym}
use Rattle.std.proofs.Common.{take, true, zero, ℕ, ◌++◌, ◌+◌, ◌-◌, ◌<◌, ◌∙◌, ◌∷◌, ◌≡◌, ◌≤◌}
use Rattle.std.proofs.lemmas.Bool.Decides.{nat_tests}
use Rattle.std.proofs.lemmas.List.{append-nil, length-append, length-replicate, length-take-le, take-append-drop}
use Rattle.bk_laws.proofs.Orderings.{greater-is_not_less}
use Rattle.bk_word.specs.Word.{Move, move_cmp}
use Rattle.bk_word.specs.declared.Sign.{Sign}
use Rattle.bk_word.specs.declared.Sign.TheVariants.{Above, Even, Under}
use Rattle.bk_word.proofs.WordOrder.{move_total}
use Rattle.bk_catalogue.proofs.TreeOfWords.MoveOrder.{Begins, IsLess, begun_before, less_from, less_to, moves_between, next_short, signs_cmp, IsShort}
use Rattle.bk_catalogue.specs.NextMove.{IsMoveFrom, fitted, move_after, move_with_signs, padded, signs_after, signs_wanted}

longer_from : (a rest : List Sign) → signs_cmp (a ++ rest) a ≡ Less → ⊥
longer_from [] [] e = cc
longer_from [] (s ∷ rest) e = cc
longer_from (Above ∷ a) rest e = longer_from a rest e
longer_from (Even ∷ a) rest e = longer_from a rest e
longer_from (Under ∷ a) rest e = longer_from a rest e

shorter_less : (a : List Sign) (s : Sign) (rest : List Sign) → signs_cmp a (a ++ s ∷ rest) ≡ Less
shorter_less [] s rest = refl
shorter_less (Above ∷ a) s rest = shorter_less a s rest
shorter_less (Even ∷ a) s rest = shorter_less a s rest
shorter_less (Under ∷ a) s rest = shorter_less a s rest

-- signs that are before others are before these with more behind
pub less_longer : (b a rest : List Sign) → signs_cmp b a ≡ Less → signs_cmp b (a ++ rest) ≡ Less
less_longer [] [] rest e = absurd (cc)
less_longer (t ∷ b) [] rest e = absurd (cc)
less_longer [] (s ∷ a) rest e = refl
less_longer (Above ∷ b) (Above ∷ a) rest e = less_longer b a rest e
less_longer (Above ∷ b) (Even ∷ a) rest e = refl
less_longer (Above ∷ b) (Under ∷ a) rest e = refl
less_longer (Even ∷ b) (Above ∷ a) rest e = absurd (greater-is_not_less e)
less_longer (Even ∷ b) (Even ∷ a) rest e = less_longer b a rest e
less_longer (Even ∷ b) (Under ∷ a) rest e = refl
less_longer (Under ∷ b) (Above ∷ a) rest e = absurd (greater-is_not_less e)
less_longer (Under ∷ b) (Even ∷ a) rest e = absurd (greater-is_not_less e)
less_longer (Under ∷ b) (Under ∷ a) rest e = less_longer b a rest e

-- no signs are before as many signs above
all_above_least : (j : ℕ) (b : List Sign) → length b ≡ j → signs_cmp b (replicate j Above) ≡ Less → ⊥
all_above_least zero [] h e = cc
all_above_least zero (s ∷ b) h e = omega arith
all_above_least (suc j) [] h e = omega arith
all_above_least (suc j) (Above ∷ b) h e = all_above_least j b (omega arith) e
all_above_least (suc j) (Even ∷ b) h e = greater-is_not_less e
all_above_least (suc j) (Under ∷ b) h e = greater-is_not_less e

padded_less : (b a : List Sign) (j : ℕ) → length b ≡ length a + j → signs_cmp b (a ++ replicate j Above) ≡ Less → signs_cmp b a ≡ Less
padded_less b [] j h e = absurd (all_above_least j b (omega arith) e)
padded_less [] (s ∷ a) j h e = refl
padded_less (Above ∷ b) (Above ∷ a) j h e = padded_less b a j (omega arith) e
padded_less (Above ∷ b) (Even ∷ a) j h e = refl
padded_less (Above ∷ b) (Under ∷ a) j h e = refl
padded_less (Even ∷ b) (Above ∷ a) j h e = absurd (greater-is_not_less e)
padded_less (Even ∷ b) (Even ∷ a) j h e = padded_less b a j (omega arith) e
padded_less (Even ∷ b) (Under ∷ a) j h e = refl
padded_less (Under ∷ b) (Above ∷ a) j h e = absurd (greater-is_not_less e)
padded_less (Under ∷ b) (Even ∷ a) j h e = absurd (greater-is_not_less e)
padded_less (Under ∷ b) (Under ∷ a) j h e = padded_less b a j (omega arith) e

-- the move hangs a square and has as many signs as are wanted
pub record HasShape (sides : ℕ) (m : Move) : Type 0 where
  pub some : 0 < m.count
  pub long : length m.signs ≡ signs_wanted sides m.count

-- the move hangs a square and has at most so many
record IsShortMove (sides : ℕ) (m : Move) : Type 0 where
  some : 0 < m.count
  few : length m.signs ≤ signs_wanted sides m.count

padded_from : (sides : ℕ) (m : Move) → IsMoveFrom m (padded sides m)
padded_from sides m e = cases (less_to (padded sides m) m e)
  where
    cases : IsLess (padded sides m) m → ⊥
    cases (inl h) = omega arith
    cases (inr (h, f)) = longer_from m.signs (replicate (signs_wanted sides m.count - length m.signs) Above) f

padded_shape : (sides : ℕ) (m : Move) → IsShortMove sides m → HasShape sides (padded sides m)
padded_shape sides m h = let few = h.few in record {
  some = h.some;
  long = omega (
    arith,
    length-append m.signs (replicate (signs_wanted sides m.count - length m.signs) Above),
    length-replicate (signs_wanted sides m.count - length m.signs) Above,
  );
}

padded_least : (sides : ℕ) (m other : Move) → IsShortMove sides m → HasShape sides other → IsMoveFrom m other → IsMoveFrom (padded sides m) other
padded_least sides m other h shape from e = cases (less_to other (padded sides m) e)
  where
    cases : IsLess other (padded sides m) → ⊥
    cases (inl k) = from (less_from other m (inl k))
    cases (inr (k, f)) = from (less_from other m (inr (
      k,
      padded_less other.signs m.signs (signs_wanted sides m.count - length m.signs)
          (let few = h.few in let long = shape.long in let w = ap (signs_wanted sides) k in omega arith) f,
    )))

-- as many of the move's signs as are wanted
abbrev front_of : ℕ → Move → Move
front_of sides m = record { count = m.count; signs = take (signs_wanted sides m.count) m.signs }

-- more signs than are wanted
module _ (sides : ℕ) (m : Move) (some : 0 < m.count) (many : signs_wanted sides m.count < length m.signs) where
  k : ℕ
  k = signs_wanted sides m.count

  fits : length (take (signs_wanted sides m.count) m.signs) ≡ signs_wanted sides m.count
  fits = length-take-le (signs_wanted sides m.count) m.signs (omega arith)

  cut_after : move_cmp m (move_after (front_of sides m)) ≡ Less
  cut_after = begun_before (front_of sides m) m refl
      (record { rest = drop (signs_wanted sides m.count) m.signs; is = sym (take-append-drop (signs_wanted sides m.count) m.signs) })

  cut_short : IsShortMove sides (move_after (front_of sides m))
  cut_short = cases (signs_after (take (signs_wanted sides m.count) m.signs)) (next_short (take (signs_wanted sides m.count) m.signs))
    where
      cases : (r : Option (List Sign)) → IsShort (length (take (signs_wanted sides m.count) m.signs)) r → IsShortMove sides (move_with_signs m.count r)
      cases None h = record { some = omega arith; few = omega arith }
      cases (Some next) h = record { some = some; few = omega (arith, fits) }

  front_less : (b : List Sign) → signs_cmp b (take (signs_wanted sides m.count) m.signs) ≡ Less → signs_cmp b m.signs ≡ Less
  front_less b e = ap (signs_cmp b) (sym (take-append-drop (signs_wanted sides m.count) m.signs))
      ∙ less_longer b (take (signs_wanted sides m.count) m.signs) (drop (signs_wanted sides m.count) m.signs) e

  front_is_less : signs_cmp (take (signs_wanted sides m.count) m.signs) m.signs ≡ Less
  front_is_less = cases (drop (signs_wanted sides m.count) m.signs) (sym (take-append-drop (signs_wanted sides m.count) m.signs))
    where
      cases : (rest : List Sign) → m.signs ≡ take (signs_wanted sides m.count) m.signs ++ rest
          → signs_cmp (take (signs_wanted sides m.count) m.signs) m.signs ≡ Less
      cases [] e = absurd (omega (arith, ap length e, length-append (take (signs_wanted sides m.count) m.signs) [], fits))
      cases (s ∷ rest) e = ap (signs_cmp (take (signs_wanted sides m.count) m.signs)) e ∙ shorter_less (take (signs_wanted sides m.count) m.signs) s rest

  front_only : (other : Move) → HasShape sides other → IsMoveFrom m other → (other.count ≡ m.count)
      × Begins (take (signs_wanted sides m.count) m.signs) other.signs → ⊥
  front_only other shape from (e, b) = cases b.rest b.is
    where
      cases : (rest : List Sign) → other.signs ≡ take (signs_wanted sides m.count) m.signs ++ rest → ⊥
      cases [] f = from (less_from other m (inr
          (e, ap (λ l. signs_cmp l m.signs) (f ∙ append-nil (take (signs_wanted sides m.count) m.signs)) ∙ front_is_less)))
      cases (s ∷ rest) f = let w = ap (signs_wanted sides) e in
          omega (arith, ap length f, length-append (take (signs_wanted sides m.count) m.signs) (s ∷ rest), fits, shape.long)

  front_from : (other : Move) → IsMoveFrom m other → IsMoveFrom (front_of sides m) other
  front_from other from e = cases (less_to other (front_of sides m) e)
    where
      cases : IsLess other (front_of sides m) → ⊥
      cases (inl h) = from (less_from other m (inl h))
      cases (inr (h, f)) = from (less_from other m (inr (h, front_less other.signs f)))

  cut_least : (other : Move) → HasShape sides other → IsMoveFrom m other → IsMoveFrom (move_after (front_of sides m)) other
  cut_least other shape from e = front_only other shape from (moves_between (front_of sides m) other (front_from other from) e)

-- the move has as many signs as a legal one, and is the least of these that is not before m
pub record IsFit (sides : ℕ) (m fit : Move) : Type 0 where
  pub shape : HasShape sides fit
  pub from : IsMoveFrom m fit
  pub least : (other : Move) → HasShape sides other → IsMoveFrom m other → IsMoveFrom fit other

-- the fitted move is so
pub fit : (sides : ℕ) (m : Move) → 0 < m.count → IsFit sides m (fitted sides m)
fit sides m some = cases (nat_lt (signs_wanted sides m.count) (length m.signs)) refl
  where
    cases : (b : Bool) → nat_lt (signs_wanted sides m.count) (length m.signs) ≡ b → IsFit sides m (padded sides (cond b (move_after (front_of sides m)) m))
    cases false e = let h : length m.signs ≤ signs_wanted sides m.count = grind (arith, nat_tests) in record {
      shape = padded_shape sides m (record { some = some; few = h });
      from = padded_from sides m;
      least = λ other shape from. padded_least sides m other (record { some = some; few = h }) shape from;
    }
    cases true e = let h : signs_wanted sides m.count < length m.signs = grind (arith, nat_tests) in record {
      shape = padded_shape sides (move_after (front_of sides m)) (cut_short sides m some h);
      from = λ f. padded_from sides (move_after (front_of sides m))
          (move_total.trans (padded sides (move_after (front_of sides m))) m (move_after (front_of sides m)) f (cut_after sides m some h));
      least = λ other shape from. padded_least sides (move_after (front_of sides m)) other (cut_short sides m some h) shape
          (cut_least sides m some h other shape from);
    }
