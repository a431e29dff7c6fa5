-- The strong bound and the weight as one pass over the segments from left to right counts them. Statements alone; they
-- are proved apart.
-- Example (LastMovesExamples): over the segments of 1 and 1 squares with the sign above between them it counts two
-- moves, and the weight 1.
use Rattle.std.specs.List.{AllByRecursion}
use Rattle.std.specs.Prelude.{Bool, List, [], cond, count_by, false, length, max, slice_index_or, true, ℕ, ◌*◌, ◌+◌}
use Rattle.std.specs.Prelude.{◌<◌, ◌∷◌, ◌≡◌, ◌≤◌}
use Rattle.bk_word.specs.Signs.{is_under}
use Rattle.bk_word.specs.declared.Sign.{Sign}
use Rattle.bk_word.specs.declared.Sign.TheVariants.{Above, Even, Under}
use Rattle.bk_catalogue.specs.SingleValleys.{single_valley}
use Rattle.bk_layout.specs.StrongBound.{strong_from, weight_from}

-- what is counted up to a segment: the greatest number of a segment before it, how many signs are above, the weight,
-- and whether the segment has a wall or the sign under at its left
pub record Passed : Type 0 where
  pub most : ℕ
  pub aboves : ℕ
  pub more : ℕ
  pub low : Bool

-- what is counted at the first segment
abbrev pub none_passed : Passed
none_passed = record { most = 0; aboves = 0; more = 0; low = true }

-- what is counted behind a segment of so many squares, which may be marked, with this sign behind it
abbrev pub pass : Passed → Sign → ℕ → Bool → Passed
pass p Above size mark = record {
  most = max (p.most + single_valley p.low size) (p.aboves + max (2 * single_valley p.low size) (cond mark 1 0));
  aboves = p.aboves + 1;
  more = p.more + single_valley p.low size;
  low = false;
}
pass p Even size mark = record {
  most = max p.most (p.aboves + cond mark 1 0);
  aboves = p.aboves;
  more = p.more;
  low = false;
}
pass p Under size mark = record {
  most = max p.most (p.aboves + cond mark 1 0) + 1;
  aboves = p.aboves;
  more = p.more;
  low = true;
}

-- what is counted behind the last segment
abbrev pub pass_last : Passed → ℕ → Bool → Passed
pass_last p size mark = record {
  most = max (p.most + 2 * single_valley p.low size) (p.aboves + max (3 * single_valley p.low size) (cond mark 1 0));
  aboves = p.aboves;
  more = p.more + 2 * single_valley p.low size;
  low = p.low;
}

-- what is counted over some segments, up to the last one
abbrev pub pass_along : Passed → List Sign → List ℕ → List Bool → Passed
pass_along p signs [] marks = p
pass_along p signs (size ∷ sizes) [] = p
pass_along p [] (size ∷ sizes) (mark ∷ marks) = pass_last p size mark
pass_along p (sign ∷ signs) (size ∷ sizes) (mark ∷ marks) = pass_along (pass p sign size mark) signs sizes marks

-- what a pass that goes on over some segments to the last one has counted
pub record IsCounted (p : Passed) (signs : List Sign) (sizes : List ℕ) (marks : List Bool) : Type 0 where
  pub most : (pass_along p signs sizes marks).most
      ≡ max (p.most + count_by is_under signs + weight_from p.low signs sizes)
      (p.aboves + strong_from p.low signs sizes marks)
  pub more : (pass_along p signs sizes marks).more ≡ p.more + weight_from p.low signs sizes

-- whatever was passed before, a pass over the segments that are left counts their strong bound and their weight
abbrev pub ThePassIsStrong : Type 0
ThePassIsStrong = (p : Passed) (signs : List Sign) (sizes : List ℕ) (marks : List Bool)
    → length sizes ≡ length signs + 1 → length marks ≡ length sizes
    → IsCounted p signs sizes marks

-- from the first segment on a pass counts the strong bound and the weight
pub record IsBoundCounted (signs : List Sign) (sizes : List ℕ) (marks : List Bool) : Type 0 where
  pub bound : (pass_along none_passed signs sizes marks).most ≡ strong_from true signs sizes marks
  pub weight : (pass_along none_passed signs sizes marks).more ≡ weight_from true signs sizes

abbrev pub ThePassCountsTheBound : Type 0
ThePassCountsTheBound = (signs : List Sign) (sizes : List ℕ) (marks : List Bool) → length sizes ≡ length signs + 1
    → length marks ≡ length sizes
    → IsBoundCounted signs sizes marks

-- if fewer segments are marked, the strong bound is no greater
abbrev pub FewerMarksAskLess : Type 0
FewerMarksAskLess = (low : Bool) (signs : List Sign) (sizes : List ℕ) (fewer marks : List Bool)
    → length fewer ≡ length marks
    → ((i : ℕ) → slice_index_or fewer i false ≡ true → slice_index_or marks i false ≡ true)
    → strong_from low signs sizes fewer ≤ strong_from low signs sizes marks

-- one pass has counted no more than another
pub record IsNoMore (p q : Passed) : Type 0 where
  pub most : p.most ≤ q.most
  pub more : p.more ≤ q.more

-- what is counted over some segments with a sign behind each
abbrev pub pass_each : Passed → List Sign → List ℕ → List Bool → Passed
pass_each p [] sizes marks = p
pass_each p (sign ∷ signs) [] marks = p
pass_each p (sign ∷ signs) (size ∷ sizes) [] = p
pass_each p (sign ∷ signs) (size ∷ sizes) (mark ∷ marks) = pass_each (pass p sign size mark) signs sizes marks

-- where a segment is joined to the next one by the sign even, whatever mark the two have then, no more is asked than
-- where further segments come between, each with a sign behind it that isn't even. So what is asked with the sign even
-- at the right of a valley is asked whatever own signs and right sign the move goes on by
abbrev pub EvenAsksLeast : Type 0
EvenAsksLeast = (p : Passed) (sign : Sign) (between : List Sign) (signs : List Sign) (size : ℕ) (own : List ℕ)
    (wide next : ℕ) (sizes : List ℕ)
    (first : Bool) (owns : List Bool) (joined mark : Bool) (marks : List Bool)
    → AllByRecursion (λ s. s ≡ Even → ⊥) (sign ∷ between) → 1 < wide → length own ≡ length between
    → length owns ≡ length between
    → length sizes ≡ length signs → length marks ≡ length sizes
    → IsNoMore (pass_along p signs (wide ∷ sizes) (joined ∷ marks))
    (pass_along (pass_each p (sign ∷ between) (size ∷ own) (first ∷ owns)) signs (next ∷ sizes) (mark ∷ marks))
