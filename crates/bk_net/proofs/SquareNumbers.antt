-- Squares by their places: the wires that they make, the group of each, and those before a point in the order of a code.
use Rattle.std.specs.List.Sorted.{IsPartitionedBy}
use Rattle.std.specs.Prelude.{slice_index}
use Rattle.std.proofs.Common.{List, [], ap, arith, inl, inr, length, map, refl, slice_index_or, subst, suc, sym}
use Rattle.std.proofs.Common.{true, zero, ℕ, ◌++◌, ◌+◌, ◌-◌, ◌<◌, ◌∙◌, ◌∷◌, ◌≡◌, ◌≤◌, ◌⊎◌}
use Rattle.std.proofs.lemmas.Bool.{cases_lt}
use Rattle.std.proofs.lemmas.Bool.Decides.{nat_tests}
use Rattle.std.proofs.lemmas.List.{length-append, length-map}
use Rattle.bk_laws.proofs.NumberOrder.{lt_or_eq_or_gt}
use Rattle.bk_tiling.proofs.Groups.{row_of}
use Rattle.bk_tiling.proofs.Members.{one_at}
use Rattle.bk_tiling.proofs.Places.{later_place}
use Rattle.bk_tiling.specs.CodeOrder.{InCodeOrder, comes_before, is_no_later}
use Rattle.bk_tiling.specs.Tiling.{IsOneOf}
use Rattle.bk_tiling.specs.declared.Square.{Square}
use Rattle.bk_net.proofs.Hanging.{numbers_from}
use Rattle.bk_net.proofs.SmithLists.{group_wires}

-- ---- wires by squares

-- a wire for each square, from its number to the node that below gives
abbrev pub wires_by : (Square → ℕ) → List ℕ → List Square → List (ℕ × ℕ)
wires_by below [] squares = []
wires_by below (n ∷ numbers) [] = []
wires_by below (n ∷ numbers) (q ∷ squares) = (n, below q) ∷ wires_by below numbers squares

wires_by-group : (below : Square → ℕ) (n : ℕ) (g : List Square) (numbers : List ℕ) (squares : List Square)
    → wires_by below (map (λ q. n) g ++ numbers) (g ++ squares) ≡ map (λ q. (n, below q)) g ++ wires_by below numbers squares
wires_by-group below n [] numbers squares = refl
wires_by-group below n (q ∷ g) numbers squares = ap (λ (ws : List (ℕ × ℕ)). (n, below q) ∷ ws) (wires_by-group below n g numbers squares)

-- the wires of groups, each square from the number of its group
pub wires_by-groups : (below : Square → ℕ) (n : ℕ) (groups : List (List Square))
    → group_wires below n groups ≡ wires_by below (numbers_from n groups) (row_of groups)
wires_by-groups below n [] = refl
wires_by-groups below n (g ∷ groups) =
    ap (λ (ws : List (ℕ × ℕ)). map (λ q. (n, below q)) g ++ ws) (wires_by-groups below (n + 1) groups)
    ∙ sym (wires_by-group below n g (numbers_from (n + 1) groups) (row_of groups))

-- the wire of the square at a place
pub wires_by-at : (below : Square → ℕ) (numbers : List ℕ) (squares : List Square) (i : ℕ) (d : ℕ × ℕ) (q : Square) → i < length numbers → i < length squares
    → slice_index_or (wires_by below numbers squares) i d ≡ (slice_index numbers i, below (slice_index_or squares i q))
wires_by-at below [] squares i d q a b = absurd (omega arith)
wires_by-at below (n ∷ numbers) [] i d q a b = absurd (omega arith)
wires_by-at below (n ∷ numbers) (r ∷ squares) zero d q a b = refl
wires_by-at below (n ∷ numbers) (r ∷ squares) (suc i) d q a b = wires_by-at below numbers squares i d q (omega arith) (omega arith)

-- there is a wire for each square
pub wires_by-length : (below : Square → ℕ) (numbers : List ℕ) (squares : List Square) → length numbers ≡ length squares
    → length (wires_by below numbers squares) ≡ length squares
wires_by-length below [] [] e = refl
wires_by-length below [] (q ∷ squares) e = absurd (omega arith)
wires_by-length below (n ∷ numbers) [] e = absurd (omega arith)
wires_by-length below (n ∷ numbers) (q ∷ squares) e = ap suc (wires_by-length below numbers squares (omega arith))

-- each square of a row of groups has the number of a group
pub group_numbers_are_as_many_as_squares : (n : ℕ) (groups : List (List Square)) → length (numbers_from n groups) ≡ length (row_of groups)
group_numbers_are_as_many_as_squares n [] = refl
group_numbers_are_as_many_as_squares n (g ∷ groups) = omega (
  arith,
  length-append (map (λ (q : Square). n) g) (numbers_from (n + 1) groups),
  length-append g (row_of groups),
  length-map g (λ (q : Square). n),
  group_numbers_are_as_many_as_squares (n + 1) groups,
)

-- ---- the group of the square at a place

-- the group of square m of the row, and its number among groups counted from n
pub record HasNumber (n : ℕ) (groups : List (List Square)) (m : ℕ) (d : Square) : Type 0 where
  pub place : ℕ
  pub below : place < length groups
  pub number : slice_index (numbers_from n groups) m ≡ n + place
  pub is : IsOneOf (slice_index_or (row_of groups) m d) (slice_index_or groups place [])

number_near : (n : ℕ) (g : List Square) (numbers : List ℕ) (m : ℕ) → m < length g → slice_index (map (λ q. n) g ++ numbers) m ≡ n
number_near n [] numbers m h = absurd (omega arith)
number_near n (q ∷ g) numbers zero h = refl
number_near n (q ∷ g) numbers (suc m) h = number_near n g numbers m (omega arith)

number_far : (n : ℕ) (g : List Square) (numbers : List ℕ) (m : ℕ) → length g ≤ m
    → slice_index (map (λ q. n) g ++ numbers) m ≡ slice_index numbers (m - length g)
number_far n [] numbers m h = ap (slice_index numbers) (omega arith)
number_far n (q ∷ g) numbers zero h = absurd (omega arith)
number_far n (q ∷ g) numbers (suc m) h = number_far n g numbers m (omega arith) ∙ ap (slice_index numbers) (omega arith)

square_near : (g squares : List Square) (m : ℕ) (d : Square) → m < length g → slice_index_or (g ++ squares) m d ≡ slice_index_or g m d
square_near [] squares m d h = absurd (omega arith)
square_near (q ∷ g) squares zero d h = refl
square_near (q ∷ g) squares (suc m) d h = square_near g squares m d (omega arith)

square_far : (g squares : List Square) (m : ℕ) (d : Square) → length g ≤ m → slice_index_or (g ++ squares) m d ≡ slice_index_or squares (m - length g) d
square_far [] squares m d h = ap (λ (k : ℕ). slice_index_or squares k d) (omega arith)
square_far (q ∷ g) squares zero d h = absurd (omega arith)
square_far (q ∷ g) squares (suc m) d h = square_far g squares m d (omega arith) ∙ ap (λ (k : ℕ). slice_index_or squares k d) (omega arith)

-- the square at a place of the row stands in one group
pub has_number : (n : ℕ) (groups : List (List Square)) (m : ℕ) (d : Square) → m < length (row_of groups) → HasNumber n groups m d
has_number n [] m d h = absurd (omega arith)
has_number n (g ∷ groups) m d h = cases (cases_lt m (length g)) (has_number (n + 1) groups (m - length g) d)
  where
    cases : (m < length g) ⊎ (length g ≤ m) → (m - length g < length (row_of groups) → HasNumber (n + 1) groups (m - length g) d) → HasNumber n (g ∷ groups) m d
    cases (inl near) rest = record {
      place = 0;
      below = omega arith;
      number = number_near n g (numbers_from (n + 1) groups) m near ∙ omega arith;
      is = subst (λ (q : Square). IsOneOf q g) (sym (square_near g (row_of groups) m d near)) (one_at g m d near);
    }
    cases (inr far) rest =
        let r = rest (omega (arith, length-append g (row_of groups))) in
        record {
          place = suc r.place;
          below = omega (arith, r.below);
          number = number_far n g (numbers_from (n + 1) groups) m far ∙ r.number ∙ omega arith;
          is = subst (λ (q : Square). IsOneOf q (slice_index_or groups r.place [])) (sym (square_far g (row_of groups) m d far)) r.is;
        }

-- ---- squares in the order of a code, by their places

later_from : (x y : ℕ) (q r : Square) → comes_before q r ≡ true → is_no_later x y r ≡ true → is_no_later x y q ≡ true
later_from x y q r a b = grind (arith, nat_tests)

-- a square that is no later than a point begins above it, or at its level and no further to the right
pub no_later_to : (x y : ℕ) (r : Square) → is_no_later x y r ≡ true → (r.y < y) ⊎ ((r.y ≡ y) × (r.x ≤ x))
no_later_to x y r e = grind (arith, nat_tests)

-- a square at the level of a point and no further to the right is no later than it
pub no_later_from : (x y : ℕ) (r : Square) → r.y ≡ y → r.x ≤ x → is_no_later x y r ≡ true
no_later_from x y r a b = grind (arith, nat_tests)

-- squares in the order of a code are parted at a cell
pub parted_at_cell : (squares : List Square) → InCodeOrder squares → (x y : ℕ) → IsPartitionedBy (is_no_later x y) squares
parted_at_cell squares o x y i j d up below e = cases (lt_or_eq_or_gt i j)
  where
    cases : (i < j) ⊎ (i ≡ j) ⊎ (j < i) → is_no_later x y (slice_index_or squares i d) ≡ true
    cases (inl l) = later_from x y (slice_index_or squares i d) (slice_index_or squares j d) (later_place squares o i j d l below) e
    cases (inr (inl same)) = ap (λ (k : ℕ). is_no_later x y (slice_index_or squares k d)) same ∙ e
    cases (inr (inr l)) = absurd (omega arith)
