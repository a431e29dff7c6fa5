-- What a table keeps of the numbers that were put into it: it has room for so many, and where more different ones are
-- put it drops the greatest.
-- Examples (KeptExamples): a table that keeps 3, 5 and 8 and dropped 9 holds 5, and 9, from which on it keeps none, and
-- not 4. There the place of 5 is 1, and the first from 4 on is 5. Of 3, 5, 3 and 8 there are more different ones than
-- two, and not more than three.
use Rattle.std.specs.List.{AllByRecursion}
use Rattle.std.specs.Prelude.{Contains, IsSome, List, Option, Some, drop, length, take, ℕ, ◌<◌, ◌∷◌, ◌≡◌, ◌≤◌, ◌⊎◌}
use Rattle.bk_catalogue.specs.Ascending.{Ascends}

-- the numbers, and the least that was dropped, if one was
pub record Numbers : Type 0 where
  pub kept : List ℕ
  pub limit : Option ℕ

abbrev pub AreAscendingNumbers : List ℕ → Type 0
AreAscendingNumbers numbers = Ascends (λ (x y : ℕ). x < y) numbers

-- the number isn't below the least that was dropped, and so is greater than all that are kept
pub record IsBeyond (t : Numbers) (x : ℕ) : Type 0 where
  pub limit : ℕ
  pub cut : t.limit ≡ Some limit
  pub from : limit ≤ x
  pub beyond : AllByRecursion (λ y. y < x) t.kept

-- the table has the number, or the number is above its bound
abbrev pub Holds : Numbers → ℕ → Type 0
Holds t x = Contains t.kept x ⊎ IsBeyond t x

-- where numbers were dropped, those that are kept are less
pub record IsKeptTable (t : Numbers) : Type 0 where
  pub below : (limit : ℕ) → t.limit ≡ Some limit → AllByRecursion (λ y. y < limit) t.kept

-- among the numbers there are more different ones than there is room for
pub record HasMoreDifferent (room : ℕ) (numbers : List ℕ) : Type 0 where
  pub different : List ℕ
  pub ascending : AreAscendingNumbers different
  pub each : AllByRecursion (λ y. Contains numbers y) different
  pub more : room < length different

-- a table that a number was put into holds it, and all that it held before, keeps no other, and was cut only if it was
-- already, or there was no room for one more different number
pub record HoldsOneMore (room : ℕ) (before after : Numbers) (x : ℕ) : Type 0 where
  pub put : Holds after x
  pub kept : (y : ℕ) → Holds before y → Holds after y
  pub only : (y : ℕ) → Contains after.kept y → Contains before.kept y ⊎ (y ≡ x)
  pub cut : IsSome after.limit → IsSome before.limit ⊎ HasMoreDifferent room (x ∷ before.kept)

-- the place of the number: those before it are smaller, and those from there on aren't
pub record IsPlaceOf (xs : List ℕ) (x place : ℕ) : Type 0 where
  pub within : place ≤ length xs
  pub before : AllByRecursion (λ y. y < x) (take place xs)
  pub from : AllByRecursion (λ y. x ≤ y) (drop place xs)

-- the least of the numbers that isn't below a bound
pub record IsFirstFrom (xs : List ℕ) (bound x : ℕ) : Type 0 where
  pub has : Contains xs x
  pub from : bound ≤ x
  pub least : AllByRecursion (λ y. bound ≤ y → x ≤ y) xs
