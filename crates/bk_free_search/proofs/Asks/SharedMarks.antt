-- The strong bound of segments before they are joined, where each has the mark of the joined one that it is part of: after it is no smaller.
use Rattle.std.specs.List.{list_any}
use Rattle.std.proofs.Common.{Bool, List, [], arith, cond, false, filter, length, map, nat_le, refl, slice_index_or, suc, true, zero, ℕ}
use Rattle.std.proofs.Common.{◌||◌, ◌+◌, ◌∷◌, ◌≡◌, ◌≤◌}
use Rattle.bk_word.specs.Play.{before_first_list, joined, parts}
use Rattle.bk_word.specs.declared.Sign.{Sign}
use Rattle.bk_word.specs.declared.Sign.TheVariants.{Above, Even, Under}
use Rattle.bk_catalogue.proofs.HangingBounds.ClosingLaws.{unders, unders-cons, unders-parts}
use Rattle.bk_catalogue.specs.VerticalCut.{next_on_line, on_line}
use Rattle.bk_free_search.specs.Apart.{shared}
use Rattle.bk_layout.proofs.NormalCuts.StrongParts.{weight, weight_joined}
use Rattle.bk_layout.specs.StrongBound.{strong_from}

-- there is one for each segment
pub shared_long : (signs : List Sign) (marks : List Bool) → length marks ≡ length (filter parts signs) + 1 → length (shared signs marks) ≡ length signs + 1
shared_long [] marks e = e
shared_long (Even ∷ signs) [] e = absurd (omega (arith, e))
shared_long (Above ∷ signs) [] e = absurd (omega (arith, e))
shared_long (Under ∷ signs) [] e = absurd (omega (arith, e))
shared_long (Even ∷ signs) (mark ∷ marks) e = omega (arith, shared_long signs (mark ∷ marks) e)
shared_long (Above ∷ signs) (mark ∷ marks) e = omega (arith, shared_long signs marks (omega (arith, e)))
shared_long (Under ∷ signs) (mark ∷ marks) e = omega (arith, shared_long signs marks (omega (arith, e)))

-- a segment that grows at its left asks for no less
strong_grown : (b : Bool) (s : List ℕ) (signs : List Sign) (segments : List (List ℕ)) (marks : List Bool)
    → strong_from false signs (map length segments) marks ≤ strong_from b signs (map length (before_first_list s segments)) marks
strong_grown b s signs [] marks = omega arith
strong_grown b s signs (t ∷ segments) [] = omega arith
strong_grown b s [] (t ∷ segments) (m ∷ marks) = omega arith
strong_grown b s (Above ∷ signs) (t ∷ segments) (m ∷ marks) = omega arith
strong_grown b s (Even ∷ signs) (t ∷ segments) (m ∷ marks) = omega arith
strong_grown b s (Under ∷ signs) (t ∷ segments) (m ∷ marks) = omega arith

-- what is seen behind the first segment, with one for its mark, is at most the strong bound
head_counts : (b : Bool) (s : List ℕ) (signs : List Sign) (segments : List (List ℕ)) (m : Bool) (marks : List Bool)
    → unders signs + weight false signs segments + cond {A = ℕ} m 1 0 ≤ strong_from b signs (map length (before_first_list s segments)) (m ∷ marks)
head_counts b s [] [] m marks = omega arith
head_counts b s (Above ∷ signs) [] m marks = omega (arith, unders-cons Above signs)
head_counts b s (Even ∷ signs) [] m marks = omega (arith, unders-cons Even signs)
head_counts b s (Under ∷ signs) [] m marks = omega (arith, unders-cons Under signs)
head_counts b s [] (t ∷ segments) m marks = omega arith
head_counts b s (Above ∷ signs) (t ∷ segments) m marks = omega (arith, unders-cons Above signs)
head_counts b s (Even ∷ signs) (t ∷ segments) m marks = omega (arith, unders-cons Even signs)
head_counts b s (Under ∷ signs) (t ∷ segments) m marks = omega (arith, unders-cons Under signs)

-- joining segments at even signs makes the bound no smaller
pub strong_shared : (b : Bool) (signs : List Sign) (segments : List (List ℕ)) (marks : List Bool)
    → strong_from b signs (map length segments) (shared signs marks) ≤ strong_from b (filter parts signs) (map length (joined signs segments)) marks
strong_shared b signs [] marks = omega arith
strong_shared b [] (s ∷ segments) marks = omega arith
strong_shared b (sign ∷ signs) (s ∷ segments) [] = omega arith
strong_shared b (Above ∷ signs) (s ∷ segments) (m ∷ marks) =
    omega (arith, strong_shared false signs segments marks, weight_joined false signs segments, unders-parts signs)
strong_shared b (Under ∷ signs) (s ∷ segments) (m ∷ marks) =
    omega (arith, strong_shared true signs segments marks, weight_joined true signs segments, unders-parts signs)
strong_shared b (Even ∷ signs) (s ∷ segments) (m ∷ marks) = omega (
  arith,
  strong_shared false signs segments (m ∷ marks),
  weight_joined false signs segments,
  unders-parts signs,
  strong_grown b s (filter parts signs) (joined signs segments) (m ∷ marks),
  head_counts b s (filter parts signs) (joined signs segments) m marks,
)

-- ---- which segments share a mark

-- the first mark is that of the first segment
pub shared_first : (signs : List Sign) (m : Bool) (marks : List Bool) → slice_index_or (shared signs (m ∷ marks)) 0 false ≡ m
shared_first [] m marks = refl
shared_first (Even ∷ signs) m marks = refl
shared_first (Above ∷ signs) m marks = refl
shared_first (Under ∷ signs) m marks = refl

-- where the first mark is one of more, so are those that are shared
pub shared_more : (signs : List Sign) (m n : Bool) (marks : List Bool) (i : ℕ) → (m ≡ true → n ≡ true)
    → slice_index_or (shared signs (m ∷ marks)) i false ≡ true
    → slice_index_or (shared signs (n ∷ marks)) i false ≡ true
shared_more [] m n marks zero f e = f e
shared_more [] m n marks (suc i) f e = e
shared_more (Even ∷ signs) m n marks zero f e = f e
shared_more (Even ∷ signs) m n marks (suc i) f e = shared_more signs m n marks i f e
shared_more (Above ∷ signs) m n marks zero f e = f e
shared_more (Above ∷ signs) m n marks (suc i) f e = e
shared_more (Under ∷ signs) m n marks zero f e = f e
shared_more (Under ∷ signs) m n marks (suc i) f e = e

-- where no marks are given, no segment still apart shares a mark
pub shared_none : (signs : List Sign) (i : ℕ) → slice_index_or (shared signs []) i false ≡ true → ⊥
shared_none [] i e = absurd (cc)
shared_none (s ∷ signs) i e = absurd (cc)

-- ---- marks of lines and of width

-- the mark of a segment in front of others
abbrev pub mark_of : ℕ → List Bool → List ℕ → List (List ℕ) → Bool
mark_of top lines s rest = (list_any (on_line lines) s || next_on_line lines rest) || nat_le top (length s)
