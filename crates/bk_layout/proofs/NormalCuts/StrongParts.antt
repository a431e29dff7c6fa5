-- The strong bound on parts of an outline: joining segments, and what stands before others, makes it no smaller.
use Rattle.std.proofs.Common.{Bool, List, [], arith, cond, false, filter, length, map, true, ℕ, ◌++◌, ◌+◌, ◌∷◌, ◌≡◌, ◌≤◌}
use Rattle.bk_laws.proofs.TestsAsNumbers.{cond_count-le_of_implies}
use Rattle.bk_word.specs.Play.{before_first_list, joined, parts}
use Rattle.bk_word.specs.Signs.{is_under}
use Rattle.bk_word.specs.declared.Sign.{Sign}
use Rattle.bk_word.specs.declared.Sign.TheVariants.{Above, Even, Under}
use Rattle.bk_catalogue.proofs.HangingBounds.ClosingLaws.{unders, unders-append, unders-cons, unders-parts}
use Rattle.bk_layout.specs.StrongBound.{strong_from, weight_from}

-- the weight of segments
abbrev pub weight : Bool → List Sign → List (List ℕ) → ℕ
weight low signs segments = weight_from low signs (map length segments)

-- where the sign behind a segment is above, the bound behind it counts one more
abbrev pub rise : Sign → ℕ
rise Above = 1
rise Even = 0
rise Under = 0

-- a segment with any sign and mark counts for no less than what stands behind it, in the weight and in the strong bound
pub behind_first : (b : Bool) (x : Sign) (signs : List Sign) (size : ℕ) (sizes : List ℕ) (mark : Bool) (marks : List Bool)
    → (weight_from (is_under x) signs sizes ≤ weight_from b (x ∷ signs) (size ∷ sizes))
    × (rise x + strong_from (is_under x) signs sizes marks ≤ strong_from b (x ∷ signs) (size ∷ sizes) (mark ∷ marks))
behind_first b Above signs size sizes mark marks = (omega arith, omega arith)
behind_first b Even signs size sizes mark marks = (omega arith, omega arith)
behind_first b Under signs size sizes mark marks = (omega arith, omega arith)

-- nor does a first segment that may be a valley count for less, with marks by a test
low_first : (P : List ℕ → Bool) (b : Bool) (signs : List Sign) (segments : List (List ℕ)) → (weight false signs segments ≤ weight b signs segments)
    × (strong_from false signs (map length segments) (map P segments) ≤ strong_from b signs (map length segments) (map P segments))
low_first P b signs [] = (omega arith, omega arith)
low_first P b [] (s ∷ segments) = (omega arith, omega arith)
low_first P b (Above ∷ signs) (s ∷ segments) = (omega arith, omega arith)
low_first P b (Even ∷ signs) (s ∷ segments) = (omega arith, omega arith)
low_first P b (Under ∷ signs) (s ∷ segments) = (omega arith, omega arith)

-- so more segments in front make what is counted no smaller
behind : (count : Bool → List Sign → List (List ℕ) → ℕ)
    → ((b : Bool) (signs : List Sign) (segments : List (List ℕ)) → count false signs segments ≤ count b signs segments)
    → ((b : Bool) (x : Sign) (signs : List Sign) (s : List ℕ) (segments : List (List ℕ))
    → count (is_under x) signs segments ≤ count b (x ∷ signs) (s ∷ segments))
    → (b : Bool) (xs ys : List Sign) (ss ts : List (List ℕ)) → length xs ≡ length ss → count false ys ts ≤ count b (xs ++ ys) (ss ++ ts)
behind count low step b [] ys [] ts e = low b ys ts
behind count low step b [] ys (s ∷ ss) ts e = absurd (omega arith)
behind count low step b (x ∷ xs) ys [] ts e = absurd (omega arith)
behind count low step b (x ∷ xs) ys (s ∷ ss) ts e =
    omega (arith, behind count low step (is_under x) xs ys ss ts (omega arith), step b x (xs ++ ys) s (ss ++ ts))

-- a first segment that may be a valley counts for no less
pub weight_low : (b : Bool) (signs : List Sign) (segments : List (List ℕ)) → weight false signs segments ≤ weight b signs segments
weight_low b signs segments = (low_first (λ s. false) b signs segments).0

-- where the first segment is no valley, its squares do not count
weight_grown : (x : List ℕ) (signs : List Sign) (segments : List (List ℕ)) → weight false signs (before_first_list x segments) ≡ weight false signs segments
weight_grown x [] [] = omega arith
weight_grown x (Above ∷ signs) [] = omega arith
weight_grown x (Even ∷ signs) [] = omega arith
weight_grown x (Under ∷ signs) [] = omega arith
weight_grown x [] (s ∷ segments) = omega arith
weight_grown x (Above ∷ signs) (s ∷ segments) = omega arith
weight_grown x (Even ∷ signs) (s ∷ segments) = omega arith
weight_grown x (Under ∷ signs) (s ∷ segments) = omega arith

-- joining segments at even signs makes it no smaller
pub weight_joined : (b : Bool) (signs : List Sign) (segments : List (List ℕ)) → weight b signs segments ≤ weight b (filter parts signs) (joined signs segments)
weight_joined b signs [] = omega arith
weight_joined b [] (s ∷ segments) = omega arith
weight_joined b (Above ∷ signs) (s ∷ segments) = omega (arith, weight_joined false signs segments)
weight_joined b (Under ∷ signs) (s ∷ segments) = omega (arith, weight_joined true signs segments)
weight_joined b (Even ∷ signs) (s ∷ segments) = omega (
  arith,
  weight_joined false signs segments,
  weight_grown s (filter parts signs) (joined signs segments),
  weight_low b (filter parts signs) (before_first_list s (joined signs segments)),
)

-- the weight of segments is no greater than with others in front of them
pub weight_behind : (b : Bool) (xs ys : List Sign) (ss ts : List (List ℕ)) → length xs ≡ length ss → weight false ys ts ≤ weight b (xs ++ ys) (ss ++ ts)
weight_behind = behind weight weight_low (λ b x signs s segments. (behind_first b x signs (length s) (map length segments) false []).0)

-- what a part adds to the segments before it
abbrev pub seen : Bool → List Sign → List (List ℕ) → ℕ
seen b signs segments = unders signs + weight b signs segments

-- what segments add to those before them grows no smaller where more segments stand in front
pub seen_behind : (b : Bool) (xs ys : List Sign) (ss ts : List (List ℕ)) → length xs ≡ length ss → seen false ys ts ≤ seen b (xs ++ ys) (ss ++ ts)
seen_behind b xs ys ss ts e = omega (arith, weight_behind b xs ys ss ts e, unders-append xs ys)

-- ---- with marks that stay where segments grow

module _ (P : List ℕ → Bool) (grows_left : (s t : List ℕ) → P t ≡ true → P (s ++ t) ≡ true) (grows_right : (s t : List ℕ) → P s ≡ true
    → P (s ++ t) ≡ true) where
  -- the strong bound of segments, each with its own mark
  abbrev pub strong : Bool → List Sign → List (List ℕ) → ℕ
  strong low signs segments = strong_from low signs (map length segments) (map P segments)

  -- one for a marked segment, none for another
  abbrev pub mark : List ℕ → ℕ
  mark s = cond (P s) 1 0

  -- the strong bound is no smaller where a sign under stands before the first segment
  pub strong_low : (b : Bool) (signs : List Sign) (segments : List (List ℕ)) → strong false signs segments ≤ strong b signs segments
  strong_low b signs segments = (low_first P b signs segments).1

  mark_left : (s t : List ℕ) → mark t ≤ mark (s ++ t)
  mark_left s t = cond_count-le_of_implies (P t) (P (s ++ t)) (grows_left s t)

  mark_right : (s t : List ℕ) → mark s ≤ mark (s ++ t)
  mark_right s t = cond_count-le_of_implies (P s) (P (s ++ t)) (grows_right s t)

  -- a segment that grows at its left
  strong_grown : (b : Bool) (s : List ℕ) (signs : List Sign) (segments : List (List ℕ)) → strong false signs segments
      ≤ strong b signs (before_first_list s segments)
  strong_grown b s signs [] = omega arith
  strong_grown b s [] (t ∷ segments) = omega (arith, mark_left s t)
  strong_grown b s (Above ∷ signs) (t ∷ segments) = omega (arith, mark_left s t)
  strong_grown b s (Even ∷ signs) (t ∷ segments) = omega (arith, mark_left s t)
  strong_grown b s (Under ∷ signs) (t ∷ segments) = omega (arith, mark_left s t)

  -- what it grows by sees what it sees
  head_counts : (b : Bool) (s : List ℕ) (signs : List Sign) (segments : List (List ℕ)) → seen false signs segments + mark s
      ≤ strong b signs (before_first_list s segments)
  head_counts b s [] [] = omega arith
  head_counts b s (Above ∷ signs) [] = omega (arith, unders-cons Above signs)
  head_counts b s (Even ∷ signs) [] = omega (arith, unders-cons Even signs)
  head_counts b s (Under ∷ signs) [] = omega (arith, unders-cons Under signs)
  head_counts b s [] (t ∷ segments) = omega (arith, mark_right s t)
  head_counts b s (Above ∷ signs) (t ∷ segments) = omega (arith, unders-cons Above signs, mark_right s t)
  head_counts b s (Even ∷ signs) (t ∷ segments) = omega (arith, unders-cons Even signs, mark_right s t)
  head_counts b s (Under ∷ signs) (t ∷ segments) = omega (arith, unders-cons Under signs, mark_right s t)

  -- joining segments at even signs makes it no smaller
  pub strong_joined : (b : Bool) (signs : List Sign) (segments : List (List ℕ))
      → strong b signs segments ≤ strong b (filter parts signs) (joined signs segments)
  strong_joined b signs [] = omega arith
  strong_joined b [] (s ∷ segments) = omega arith
  strong_joined b (Above ∷ signs) (s ∷ segments) =
      omega (arith, strong_joined false signs segments, weight_joined false signs segments, unders-parts signs)
  strong_joined b (Under ∷ signs) (s ∷ segments) = omega (arith, strong_joined true signs segments, weight_joined true signs segments, unders-parts signs)
  strong_joined b (Even ∷ signs) (s ∷ segments) = omega (
    arith,
    strong_joined false signs segments,
    weight_joined false signs segments,
    unders-parts signs,
    strong_grown b s (filter parts signs) (joined signs segments),
    head_counts b s (filter parts signs) (joined signs segments),
  )

  -- the strong bound of segments is no greater than with others in front of them
  pub strong_behind : (b : Bool) (xs ys : List Sign) (ss ts : List (List ℕ)) → length xs ≡ length ss → strong false ys ts ≤ strong b (xs ++ ys) (ss ++ ts)
  strong_behind = behind strong strong_low
      (λ b x signs s segments. omega (arith, (behind_first b x signs (length s) (map length segments) (P s) (map P segments)).1))

  -- the first of some segments sees what stands behind them
  pub first_sees : (b : Bool) (x : Sign) (xs ys : List Sign) (s : List ℕ) (ss ts : List (List ℕ)) → length xs ≡ length ss
      → seen false ys ts ≤ strong b ((x ∷ xs) ++ ys) ((s ∷ ss) ++ ts)
  first_sees b Above xs ys s ss ts e = omega (arith, seen_behind false xs ys ss ts e)
  first_sees b Even xs ys s ss ts e = omega (arith, seen_behind false xs ys ss ts e)
  first_sees b Under xs ys s ss ts e = omega (arith, seen_behind true xs ys ss ts e)
