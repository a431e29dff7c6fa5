-- A test of a word against a tiling: the valleys are given, and each is tested.
use Rattle.std.proofs.Common.{Bool, List, [], arith, nat_eq, nat_le, nat_lt, not, refl, subst, suc, true, zero, ℕ, ◌++◌, ◌+◌, ◌<◌}
use Rattle.std.proofs.Common.{◌&&◌, ◌||◌, ◌∷◌, ◌≡◌}
use Rattle.std.proofs.lemmas.Bool.Decides.{nat_tests}
use Rattle.std.proofs.lemmas.Bool.{and_parts, eqb-true, leb-true, ltb-true}
use Rattle.bk_laws.proofs.Tests.{after_of, all_below, each_below}
use Rattle.bk_tiling.proofs.LevelTest.{level_from_tests}
use Rattle.bk_tiling.specs.Column.{IsLevel, depth}
use Rattle.bk_tiling.specs.declared.Segment.{Segment}
use Rattle.bk_tiling.specs.Tiling.{Tiling}
use Rattle.bk_tiling.specs.declared.Square.{Square}
use Rattle.bk_word.specs.Word.{Word}
use Rattle.bk_lay.proofs.Valleys.{leftmost_by_falling}
use Rattle.bk_lay.specs.TilingWord.{IsLeftmostValley, IsValley, MovesFollow, move_under, squares_under}
use Rattle.bk_lay.specs.WordLaws.{NeverDeeperBefore}

-- whether the column before a valley, where there is one, is deeper
abbrev pub deeper_before : List Square → ℕ → ℕ → Bool
deeper_before laid level zero = true
deeper_before laid level (suc c) = nat_lt level (depth laid c)

-- the segment is the leftmost valley
pub record PassesAsValley (width : ℕ) (laid : List Square) (v : Segment) : Type 0 where
  pub some : nat_lt 0 v.width ≡ true
  pub within : nat_le (v.x + v.width) width ≡ true
  pub level : all_below (λ k. nat_eq (depth laid (v.x + k)) v.level) v.width ≡ true
  pub falls : all_below (λ c. nat_le (depth laid (suc c)) (depth laid c)) v.x ≡ true
  pub before : deeper_before laid v.level v.x ≡ true
  pub after : not (nat_lt (v.x + v.width) width) || nat_lt v.level (depth laid (v.x + v.width)) ≡ true

before_of : (laid : List Square) (level x : ℕ) → deeper_before laid level x ≡ true → (c : ℕ) → suc c ≡ x → level < depth laid c
before_of laid level zero e c s = absurd (omega arith)
before_of laid level (suc d) e c s = subst (λ (k : ℕ). level < depth laid k) same (ltb-true level (depth laid d) e)
  where
    same : d ≡ c
    same = omega arith

-- a segment that passes the tests is the leftmost valley
pub passes_as_valley : (width : ℕ) (laid : List Square) (v : Segment) → PassesAsValley width laid v → IsLeftmostValley width laid v
passes_as_valley width laid v p = leftmost_by_falling width laid v valley falls
  where
    flat : IsLevel width laid v
    flat = level_from_tests width laid v p.some p.within p.level

    ends : v.x + v.width < width → nat_lt (v.x + v.width) width ≡ true
    ends h = grind (arith, nat_tests)

    valley : IsValley width laid v
    valley = record {
      flat = flat;
      left = before_of laid v.level v.x p.before;
      right = λ h. ltb-true v.level (depth laid (v.x + v.width))
          (after_of (nat_lt (v.x + v.width) width) (nat_lt v.level (depth laid (v.x + v.width))) p.after (ends h));
    }

    falls : NeverDeeperBefore laid v
    falls c h = leb-true (depth laid (suc c)) (depth laid c) (each_below (λ c. nat_le (depth laid (suc c)) (depth laid c)) v.x p.falls c (omega arith))

-- the moves under these valleys, laid one after another
abbrev pub moves_under : Tiling → List Square → List Segment → Word
moves_under t laid [] = []
moves_under t laid (v ∷ valleys) = move_under t laid v ∷ moves_under t (laid ++ squares_under t v) valleys

-- each is the leftmost valley when it comes, and at the end all columns are filled
abbrev pub ArePassing : Tiling → List Square → List Segment → Type 0
ArePassing t laid [] = all_below (λ c. nat_eq (depth laid c) t.height) t.width ≡ true
ArePassing t laid (v ∷ valleys) = PassesAsValley t.width laid v × (nat_lt v.level t.height ≡ true) × ArePassing t (laid ++ squares_under t v) valleys

-- the moves under valleys that pass, one after another, are the word
pub word_by_valleys : (t : Tiling) (laid : List Square) (valleys : List Segment) → ArePassing t laid valleys → MovesFollow t laid (moves_under t laid valleys)
word_by_valleys t laid [] p = λ c h. eqb-true (depth laid c) t.height (each_below (λ c. nat_eq (depth laid c) t.height) t.width p c h)
word_by_valleys t laid (v ∷ valleys) p =
    (v, passes_as_valley t.width laid v p.0, ltb-true v.level t.height p.1, refl, word_by_valleys t (laid ++ squares_under t v) valleys p.2)

-- the tests of a valley, one by one
abbrev pub passes_as_valley_by_tests : (width : ℕ) (laid : List Square) (v : Segment) → nat_lt 0 v.width ≡ true → nat_le (v.x + v.width) width ≡ true
    → all_below (λ k. nat_eq (depth laid (v.x + k)) v.level) v.width ≡ true
    → all_below (λ c. nat_le (depth laid (suc c)) (depth laid c)) v.x ≡ true → deeper_before laid v.level v.x ≡ true
    → not (nat_lt (v.x + v.width) width) || nat_lt v.level (depth laid (v.x + v.width)) ≡ true → PassesAsValley width laid v
passes_as_valley_by_tests width laid v a b c d e f = record { some = a; within = b; level = c; falls = d; before = e; after = f }

-- whether a segment passes as the leftmost valley
abbrev pub passes : ℕ → List Square → Segment → Bool
passes width laid v =
    nat_lt 0 v.width && (nat_le (v.x + v.width) width && (all_below (λ k. nat_eq (depth laid (v.x + k)) v.level) v.width
    && (all_below (λ c. nat_le (depth laid (suc c)) (depth laid c)) v.x && (deeper_before laid v.level v.x
    && (not (nat_lt (v.x + v.width) width) || nat_lt v.level (depth laid (v.x + v.width)))))))

-- whether all valleys pass when they come
abbrev pub all_pass : Tiling → List Square → List Segment → Bool
all_pass t laid [] = all_below (λ c. nat_eq (depth laid c) t.height) t.width
all_pass t laid (v ∷ valleys) = passes t.width laid v && (nat_lt v.level t.height && all_pass t (laid ++ squares_under t v) valleys)

-- all valleys pass when they come, if the test says so
pub passing_by_test : (t : Tiling) (laid : List Square) (valleys : List Segment) → all_pass t laid valleys ≡ true → ArePassing t laid valleys
passing_by_test t laid [] e = e
passing_by_test t laid (v ∷ valleys) e =
    let first = and_parts _ _ e in
    let some = and_parts _ _ first.0 in
    let within = and_parts _ _ some.1 in
    let level = and_parts _ _ within.1 in
    let falls = and_parts _ _ level.1 in
    let ends = and_parts _ _ falls.1 in
    let rest = and_parts _ _ first.1 in (
      passes_as_valley_by_tests t.width laid v some.0 within.0 level.0 falls.0 ends.0 ends.1,
      rest.0,
      passing_by_test t (laid ++ squares_under t v) valleys rest.1,
    )
