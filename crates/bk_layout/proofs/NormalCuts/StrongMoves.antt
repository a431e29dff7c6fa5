-- One move lowers the strong bound by at most 1, and the weight by at most one less than the squares that it hangs: a free move without
-- twins and pairs that keeps rule R.
use Rattle.std.specs.List.{AllByRecursion}
use Rattle.std.proofs.Common.{Bool, List, Some, [], ap, arith, false, inl, inr, length, map, refl, slice_get, subst, suc, sym, true}
use Rattle.std.proofs.Common.{ℕ, ◌++◌, ◌+◌, ◌<◌, ◌∙◌, ◌∷◌, ◌≡◌, ◌≤◌, ◌⊎◌}
use Rattle.std.proofs.lemmas.Bool.{both_ways}
use Rattle.std.proofs.lemmas.Bool.Decides.{nat_tests}
use Rattle.std.proofs.lemmas.List.{append-nil, append_assoc, length-map}
use Rattle.bk_laws.proofs.TestsAsNumbers.{cond_count-le_one}
use Rattle.bk_word.specs.Outline.{IsLegalMove, Outline, has_left_wall, open_side, valley_place}
use Rattle.bk_word.specs.Play.{after_move, new_squares, segments_apart, signs_apart}
use Rattle.bk_word.specs.Word.{Move}
use Rattle.bk_word.specs.declared.Sign.{Sign}
use Rattle.bk_word.specs.declared.Sign.TheVariants.{Above, Even, Under}
use Rattle.bk_word.proofs.PlayLists.{numbers-length}
use Rattle.bk_word_net.proofs.Outlines.MovedParts.{apart_segments, apart_signs}
use Rattle.bk_word_net.proofs.Outlines.OutlineParts.{left_open, right_open, valley_is}
use Rattle.bk_word_net.proofs.Outlines.Shape.{Shaped, valley_in}
use Rattle.bk_word_net.proofs.Outlines.ValleyCut.{AllPart, AtValley, Beside}
use Rattle.bk_catalogue.proofs.HangingBounds.ClosingLaws.{unders-cons}
use Rattle.bk_catalogue.specs.SingleValleys.{single_valley}
use Rattle.bk_catalogue.specs.WordBounds.{HangsNoPair}
use Rattle.bk_laws.proofs.NumberOrder.{zero_or_positive}
use Rattle.bk_layout.specs.FreeWord.{HangsNoTwins, IsFreeMove}
use Rattle.bk_layout.specs.RuleR.{BeginsNoEvenAbove}
use Rattle.bk_layout.proofs.Lists.Pieces.{empty-of_length_zero}
use Rattle.bk_layout.proofs.NormalCuts.StrongParts.{first_sees, mark, seen, seen_behind, strong, strong_behind, strong_joined, weight, weight_behind}
use Rattle.bk_layout.proofs.NormalCuts.StrongParts.{weight_joined}

-- the new squares, each a segment
abbrev pub singles : List ℕ → List (List ℕ)
singles numbers = map (λ q. q ∷ []) numbers

-- none of the first signs, one less than the squares, is even
abbrev pub NoEvens : List Sign → ℕ → Type 0
NoEvens signs k = (j : ℕ) → suc j < k → slice_get signs j ≡ Some Even → ⊥

-- what stands before the valley has the sign under behind it
pub all_under : (xs rest : List Sign) → AllPart xs → length xs ≤ valley_place (xs ++ rest) → AllByRecursion (λ s. s ≡ Under) xs
all_under [] rest part h = tt
all_under (Above ∷ xs) rest part h = absurd (omega arith)
all_under (Even ∷ xs) rest part h = absurd (both_ways false refl part.0)
all_under (Under ∷ xs) rest part h = (refl, all_under xs rest part.1 (omega arith))

module _ (P : List ℕ → Bool) (gl : (s t : List ℕ) → P t ≡ true → P (s ++ t) ≡ true) (gr : (s t : List ℕ) → P s ≡ true → P (s ++ t) ≡ true) where
  -- how the numbers fall by a move of k squares
  pub record Falls (k : ℕ) (signs : List Sign) (segments : List (List ℕ)) (signs_then : List Sign) (segments_then : List (List ℕ)) : Type 0 where
    pub sees : seen true signs segments ≤ 1 + seen true signs_then segments_then
    pub most : strong P gl gr true signs segments ≤ 1 + strong P gl gr true signs_then segments_then
    pub more : weight true signs segments + 1 ≤ k + weight true signs_then segments_then

  one_mark : (s : List ℕ) → mark P gl gr s ≤ 1
  one_mark s = cond_count-le_one (P s)

  single_case : (size : ℕ) → ((size ≡ 1) × (single_valley true size ≡ 1)) ⊎ (single_valley true size ≡ 0)
  single_case size = grind (arith, nat_tests)

  -- ---- what new squares see

  -- two new squares or more, at a wall or with the sign under at the left, before others
  two_see : (g : Sign) (ms bs : List Sign) (x : ℕ) (numbers : List ℕ) (R : List (List ℕ)) → (g ≡ Even → ⊥) → length ms ≡ length numbers
      → seen false bs R + 1 ≤ strong P gl gr true ((g ∷ ms) ++ bs) (singles (x ∷ numbers) ++ R)
  two_see Above ms bs x numbers R part e = omega (arith, seen_behind false ms bs (singles numbers) R (omega (arith, e, length-map numbers (λ q. q ∷ []))))
  two_see Even ms bs x numbers R part e = absurd (part refl)
  two_see Under ms bs x numbers R part e = omega (arith, seen_behind true ms bs (singles numbers) R (omega (arith, e, length-map numbers (λ q. q ∷ []))))

  -- of new squares up to the wall, compared by signs that are never even, one at least is a valley
  pub weight_wall : (x : ℕ) (ms : List Sign) (numbers : List ℕ) → length ms ≡ length numbers → NoEvens ms (suc (length numbers))
      → 1 ≤ weight true ms (singles (x ∷ numbers))
  weight_wall x [] numbers e none = omega arith
  weight_wall x (Above ∷ ms) numbers e none = omega arith
  weight_wall x (Even ∷ ms) numbers e none = absurd (none 0 (omega (arith, e)) refl)
  weight_wall x (Under ∷ ms) [] e none = absurd (omega arith)
  weight_wall x (Under ∷ ms) (y ∷ numbers) e none = weight_wall y ms numbers (omega arith) (λ j h f. none (suc j) (omega arith) f)

  strong_wall : (x y : ℕ) (g : Sign) (ms : List Sign) (numbers : List ℕ) → length ms ≡ length numbers → NoEvens (g ∷ ms) (suc (suc (length numbers)))
      → 2 ≤ strong P gl gr true (g ∷ ms) (singles (x ∷ y ∷ numbers))
  strong_wall x y Above ms numbers e none = omega arith
  strong_wall x y Even ms numbers e none = absurd (none 0 (omega arith) refl)
  strong_wall x y Under ms numbers e none = omega (arith, weight_wall y ms numbers e (λ j h f. none (suc j) (omega arith) f))

  -- ---- at the left wall

  -- with a segment at the right
  wall_inner : (V : List ℕ) (ms bs : List Sign) (numbers : List ℕ) (R : List (List ℕ)) → 0 < length numbers → length ms ≡ length numbers
      → NoEvens ms (length numbers) → (length V ≡ 1 → length numbers ≡ 1 → ⊥) → Falls (length numbers) (Above ∷ bs) (V ∷ R) (ms ++ bs) (singles numbers ++ R)
  wall_inner V [] bs numbers R some e none pair = absurd (omega (arith, e, some))
  wall_inner V (g ∷ ms) bs [] R some e none pair = absurd (omega arith)
  wall_inner V (g ∷ ms) bs (x ∷ numbers) R some e none pair = cases (single_case (length V)) (zero_or_positive (length numbers))
    where
      long : length (g ∷ ms) ≡ length (singles (x ∷ numbers))
      long = omega (arith, e, length-map numbers (λ q. q ∷ []))

      cases : ((length V ≡ 1) × (single_valley true (length V) ≡ 1)) ⊎ (single_valley true (length V) ≡ 0) → (length numbers ≡ 0) ⊎ (0 < length numbers)
          → Falls (length (x ∷ numbers)) (Above ∷ bs) (V ∷ R) ((g ∷ ms) ++ bs) (singles (x ∷ numbers) ++ R)
      cases (inl h) (inl k) = absurd (pair h.0 (omega (arith, k)))
      cases (inl h) (inr k) = record {
        sees = omega (arith, h.1, unders-cons Above bs, seen_behind true (g ∷ ms) bs (singles (x ∷ numbers)) R long);
        most = omega (
          arith,
          h.1,
          one_mark V,
          two_see g ms bs x numbers R (λ f. none 0 (omega (arith, k)) (ap (λ (s : Sign). Some s) f)) (omega (arith, e)),
          strong_behind P gl gr true (g ∷ ms) bs (singles (x ∷ numbers)) R long,
        );
        more = omega (arith, h.1, k, weight_behind true (g ∷ ms) bs (singles (x ∷ numbers)) R long);
      }
      cases (inr h) k = record {
        sees = omega (arith, h, unders-cons Above bs, seen_behind true (g ∷ ms) bs (singles (x ∷ numbers)) R long);
        most = omega (
          arith,
          h,
          one_mark V,
          first_sees P gl gr true g ms bs (x ∷ []) (singles numbers) R (omega (arith, e, length-map numbers (λ q. q ∷ []))),
          strong_behind P gl gr true (g ∷ ms) bs (singles (x ∷ numbers)) R long,
        );
        more = omega (arith, h, weight_behind true (g ∷ ms) bs (singles (x ∷ numbers)) R long);
      }

  -- from wall to wall
  wall_last : (V : List ℕ) (ms : List Sign) (numbers : List ℕ) → 0 < length numbers → length ms + 1 ≡ length numbers → NoEvens ms (length numbers)
      → (length V ≡ 1 → length numbers ≡ 1 → ⊥) → Falls (length numbers) [] (V ∷ []) ms (singles numbers)
  wall_last V ms [] some e none pair = absurd (omega arith)
  wall_last V ms (x ∷ numbers) some e none pair = cases (single_case (length V)) ms numbers (omega (arith, e)) none pair
    where
      cases : ((length V ≡ 1) × (single_valley true (length V) ≡ 1)) ⊎ (single_valley true (length V) ≡ 0) → (ms : List Sign) (numbers : List ℕ)
          → length ms ≡ length numbers → NoEvens ms (suc (length numbers)) → (length V ≡ 1 → suc (length numbers) ≡ 1 → ⊥)
          → Falls (suc (length numbers)) [] (V ∷ []) ms (singles (x ∷ numbers))
      cases (inr h) ms numbers e none pair = record { sees = omega (arith, h); most = omega (arith, h, one_mark V); more = omega (arith, h) }
      cases (inl h) ms [] e none pair = absurd (pair h.0 refl)
      cases (inl h) [] (y ∷ numbers) e none pair = absurd (omega arith)
      cases (inl h) (g ∷ ms) (y ∷ numbers) e none pair = record {
        sees = omega (arith, h.1, weight_wall x (g ∷ ms) (y ∷ numbers) e none);
        most = omega (arith, h.1, one_mark V, strong_wall x y g ms numbers (omega (arith, e)) none);
        more = omega (arith, h.1, weight_wall x (g ∷ ms) (y ∷ numbers) e none);
      }

  -- ---- beside a segment at the left

  -- with a segment at the right
  beside_inner : (s V : List ℕ) (ms bs : List Sign) (numbers : List ℕ) (R : List (List ℕ)) → 0 < length numbers → length ms ≡ length numbers + 1
      → (slice_get ms 0 ≡ Some Above → ⊥) → ((j : ℕ) → suc j < length numbers → slice_get ms (suc j) ≡ Some Even → ⊥)
      → (1 < length numbers → slice_get ms 0 ≡ Some Even → slice_get ms 1 ≡ Some Above → ⊥) → (length V ≡ 1 → length numbers ≡ 1 → ⊥)
      → Falls (length numbers) (Under ∷ Above ∷ bs) (s ∷ V ∷ R) (ms ++ bs) (s ∷ (singles numbers ++ R))
  beside_inner s V [] bs numbers R some e free none rule pair = absurd (omega arith)
  beside_inner s V (Above ∷ ms) bs numbers R some e free none rule pair = absurd (free refl)
  beside_inner s V (Under ∷ ms) bs numbers R some e free none rule pair =
      onto (wall_inner V ms bs numbers R some (omega (arith, e)) (λ j h f. none j h f) pair)
    where
      onto : Falls (length numbers) (Above ∷ bs) (V ∷ R) (ms ++ bs) (singles numbers ++ R)
          → Falls (length numbers) (Under ∷ Above ∷ bs) (s ∷ V ∷ R) ((Under ∷ ms) ++ bs) (s ∷ (singles numbers ++ R))
      onto f = record {
        sees = omega (arith, f.sees, unders-cons Under (Above ∷ bs), unders-cons Under (ms ++ bs));
        most = omega (arith, f.sees, f.most);
        more = omega (arith, f.more);
      }
  beside_inner s V (Even ∷ []) bs numbers R some e free none rule pair = absurd (omega (arith, e, some))
  beside_inner s V (Even ∷ g ∷ ms) bs [] R some e free none rule pair = absurd (omega arith)
  beside_inner s V (Even ∷ g ∷ ms) bs (x ∷ numbers) R some e free none rule pair = cases (single_case (length V)) g numbers (omega (arith, e)) none rule pair
    where
      cases : ((length V ≡ 1) × (single_valley true (length V) ≡ 1)) ⊎ (single_valley true (length V) ≡ 0) → (g : Sign) (numbers : List ℕ)
          → length ms ≡ length numbers → ((j : ℕ) → suc j < suc (length numbers) → slice_get (Even ∷ g ∷ ms) (suc j) ≡ Some Even → ⊥)
          → (1 < suc (length numbers) → slice_get (Even ∷ g ∷ ms) 0 ≡ Some Even → slice_get (Even ∷ g ∷ ms) 1 ≡ Some Above → ⊥)
          → (length V ≡ 1 → suc (length numbers) ≡ 1 → ⊥)
          → Falls (suc (length numbers)) (Under ∷ Above ∷ bs) (s ∷ V ∷ R) ((Even ∷ g ∷ ms) ++ bs) (s ∷ (singles (x ∷ numbers) ++ R))
      cases (inl h) g [] e none rule pair = absurd (pair h.0 refl)
      cases (inl h) Above (y ∷ numbers) e none rule pair = absurd (rule (omega arith) refl refl)
      cases (inl h) Even (y ∷ numbers) e none rule pair = absurd (none 0 (omega arith) refl)
      cases (inl h) Under (y ∷ numbers) e none rule pair = record {
        sees = omega (
          arith,
          h.1,
          unders-cons Under (Above ∷ bs),
          unders-cons Above bs,
          unders-cons Even ((Under ∷ ms) ++ bs),
          unders-cons Under (ms ++ bs),
          seen_behind true ms bs (singles (y ∷ numbers)) R (omega (arith, e, length-map numbers (λ q. q ∷ []))),
        );
        most = omega (
          arith,
          h.1,
          one_mark V,
          unders-cons Above bs,
          unders-cons Under (ms ++ bs),
          seen_behind true ms bs (singles (y ∷ numbers)) R (omega (arith, e, length-map numbers (λ q. q ∷ []))),
          strong_behind P gl gr false (Under ∷ ms) bs (singles (x ∷ y ∷ numbers)) R (omega (arith, e, length-map numbers (λ q. q ∷ []))),
        );
        more = omega (arith, h.1, weight_behind true ms bs (singles (y ∷ numbers)) R (omega (arith, e, length-map numbers (λ q. q ∷ []))));
      }
      cases (inr h) g numbers e none rule pair = record {
        sees = omega (
          arith,
          h,
          unders-cons Under (Above ∷ bs),
          unders-cons Above bs,
          unders-cons Even ((g ∷ ms) ++ bs),
          seen_behind false (g ∷ ms) bs (singles (x ∷ numbers)) R (omega (arith, e, length-map numbers (λ q. q ∷ []))),
        );
        most = omega (
          arith,
          h,
          one_mark V,
          unders-cons Above bs,
          seen_behind false (g ∷ ms) bs (singles (x ∷ numbers)) R (omega (arith, e, length-map numbers (λ q. q ∷ []))),
          first_sees P gl gr false g ms bs (x ∷ []) (singles numbers) R (omega (arith, e, length-map numbers (λ q. q ∷ []))),
          strong_behind P gl gr false (g ∷ ms) bs (singles (x ∷ numbers)) R (omega (arith, e, length-map numbers (λ q. q ∷ []))),
        );
        more = omega (arith, h, weight_behind false (g ∷ ms) bs (singles (x ∷ numbers)) R (omega (arith, e, length-map numbers (λ q. q ∷ []))));
      }

  -- at the right wall
  beside_last : (s V : List ℕ) (ms : List Sign) (numbers : List ℕ) → 0 < length numbers → length ms ≡ length numbers
      → (slice_get ms 0 ≡ Some Above → ⊥) → ((j : ℕ) → suc j < length numbers → slice_get ms (suc j) ≡ Some Even → ⊥)
      → (1 < length numbers → slice_get ms 0 ≡ Some Even → slice_get ms 1 ≡ Some Above → ⊥) → (length V ≡ 1 → length numbers ≡ 1 → ⊥)
      → Falls (length numbers) (Under ∷ []) (s ∷ V ∷ []) ms (s ∷ singles numbers)
  beside_last s V [] numbers some e free none rule pair = absurd (omega (arith, e, some))
  beside_last s V (Above ∷ ms) numbers some e free none rule pair = absurd (free refl)
  beside_last s V (Under ∷ ms) numbers some e free none rule pair = onto (wall_last V ms numbers some (omega (arith, e)) (λ j h f. none j h f) pair)
    where
      onto : Falls (length numbers) [] (V ∷ []) ms (singles numbers) → Falls (length numbers) (Under ∷ []) (s ∷ V ∷ []) (Under ∷ ms) (s ∷ singles numbers)
      onto f = record {
        sees = omega (arith, f.sees, unders-cons Under [], unders-cons Under ms);
        most = omega (arith, f.sees, f.most);
        more = omega (arith, f.more);
      }
  beside_last s V (Even ∷ ms) [] some e free none rule pair = absurd (omega arith)
  beside_last s V (Even ∷ ms) (x ∷ numbers) some e free none rule pair = cases (single_case (length V)) ms numbers (omega (arith, e)) none rule pair
    where
      cases : ((length V ≡ 1) × (single_valley true (length V) ≡ 1)) ⊎ (single_valley true (length V) ≡ 0) → (ms : List Sign) (numbers : List ℕ)
          → length ms ≡ length numbers → ((j : ℕ) → suc j < suc (length numbers) → slice_get (Even ∷ ms) (suc j) ≡ Some Even → ⊥)
          → (1 < suc (length numbers) → slice_get (Even ∷ ms) 0 ≡ Some Even → slice_get (Even ∷ ms) 1 ≡ Some Above → ⊥)
          → (length V ≡ 1 → suc (length numbers) ≡ 1 → ⊥)
          → Falls (suc (length numbers)) (Under ∷ []) (s ∷ V ∷ []) (Even ∷ ms) (s ∷ singles (x ∷ numbers))
      cases (inl h) ms [] e none rule pair = absurd (pair h.0 refl)
      cases (inl h) [] (y ∷ numbers) e none rule pair = absurd (omega arith)
      cases (inl h) (Above ∷ ms) (y ∷ numbers) e none rule pair = absurd (rule (omega arith) refl refl)
      cases (inl h) (Even ∷ ms) (y ∷ numbers) e none rule pair = absurd (none 0 (omega arith) refl)
      cases (inl h) (Under ∷ ms) (y ∷ numbers) e none rule pair = record {
        sees = omega (
          arith,
          h.1,
          unders-cons Under [],
          unders-cons Even (Under ∷ ms),
          unders-cons Under ms,
          weight_wall y ms numbers (omega (arith, e)) (λ j low f. none (suc j) (omega (arith, low)) f),
        );
        most = omega (
          arith,
          h.1,
          one_mark V,
          unders-cons Under ms,
          weight_wall y ms numbers (omega (arith, e)) (λ j low f. none (suc j) (omega (arith, low)) f),
        );
        more = omega (arith, h.1, weight_wall y ms numbers (omega (arith, e)) (λ j low f. none (suc j) (omega (arith, low)) f));
      }
      cases (inr h) ms numbers e none rule pair = record {
        sees = omega (arith, h, unders-cons Under [], unders-cons Even ms);
        most = omega (arith, h, one_mark V);
        more = omega (arith, h);
      }

  -- ---- what stands before

  falls_before : (k : ℕ) (xs : List Sign) (ss : List (List ℕ)) (signs : List Sign) (segments : List (List ℕ)) (signs_then : List Sign)
      (segments_then : List (List ℕ)) → length ss ≡ length xs → AllByRecursion (λ s. s ≡ Under) xs → Falls k signs segments signs_then segments_then
      → Falls k (xs ++ signs) (ss ++ segments) (xs ++ signs_then) (ss ++ segments_then)
  falls_before k [] [] signs segments signs_then segments_then e all f = f
  falls_before k [] (s ∷ ss) signs segments signs_then segments_then e all f = absurd (omega arith)
  falls_before k (x ∷ xs) [] signs segments signs_then segments_then e all f = absurd (omega arith)
  falls_before k (Above ∷ xs) (s ∷ ss) signs segments signs_then segments_then e all f = absurd (differ all.0)
    where
      differ : Above ≡ Under → ⊥
      differ d = cc
  falls_before k (Even ∷ xs) (s ∷ ss) signs segments signs_then segments_then e all f = absurd (differ all.0)
    where
      differ : Even ≡ Under → ⊥
      differ d = cc
  falls_before k (Under ∷ xs) (s ∷ ss) signs segments signs_then segments_then e all f =
      onto (falls_before k xs ss signs segments signs_then segments_then (omega arith) all.1 f)
    where
      onto : Falls k (xs ++ signs) (ss ++ segments) (xs ++ signs_then) (ss ++ segments_then)
          → Falls k ((Under ∷ xs) ++ signs) ((s ∷ ss) ++ segments) ((Under ∷ xs) ++ signs_then) ((s ∷ ss) ++ segments_then)
      onto g = record {
        sees = omega (arith, g.sees, unders-cons Under (xs ++ signs), unders-cons Under (xs ++ signs_then));
        most = omega (arith, g.sees, g.most);
        more = omega (arith, g.more);
      }

  -- equal lists fall by as much
  falls_same : (k : ℕ) (a c b d : List Sign) (r t s u : List (List ℕ)) → a ≡ c → r ≡ t → b ≡ d → s ≡ u → Falls k c t d u → Falls k a r b s
  falls_same k a c b d r t s u e f g h x = subst (λ (y : List Sign). Falls k y r b s) (sym e) (subst (λ (y : List (List ℕ)). Falls k c y b s) (sym f)
      (subst (λ (y : List Sign). Falls k c t y s) (sym g) (subst (λ (y : List (List ℕ)). Falls k c t d y) (sym h) x)))

  -- ---- a move

  module _ (o : Outline) (m : Move) (legal : IsLegalMove o m) (shaped : Shaped o) (free : IsFreeMove o m) (twins : HangsNoTwins o m)
      (pair : HangsNoPair o m) (rule : BeginsNoEvenAbove m) where
    abbrev v : AtValley o
    v = valley_in o shaped

    many : length (new_squares o m) ≡ m.count
    many = numbers-length (length o.hung + 1) m.count

    some : 0 < length (new_squares o m)
    some = omega (arith, legal.some, many)

    no_pair : length v.valley ≡ 1 → length (new_squares o m) ≡ 1 → ⊥
    no_pair e f = pair (ap length (valley_is o v) ∙ e) (sym many ∙ f)

    -- the signs behind the left one, which aren't even, where a segment stands at the left
    own : open_side (has_left_wall o) ≡ 1 → (j : ℕ) → suc j < length (new_squares o m) → slice_get m.signs (suc j) ≡ Some Even → ⊥
    own e j h f = twins j (omega (arith, h, many)) (ap (slice_get m.signs) place ∙ f)
      where
        place : open_side (has_left_wall o) + j ≡ suc j
        place = omega (arith, e)

    own_wall : open_side (has_left_wall o) ≡ 0 → NoEvens m.signs (length (new_squares o m))
    own_wall e j h f = twins j (omega (arith, h, many)) (ap (slice_get m.signs) place ∙ f)
      where
        place : open_side (has_left_wall o) + j ≡ j
        place = omega (arith, e)

    no_wall : open_side (has_left_wall o) ≡ 1 → has_left_wall o ≡ false
    no_wall e = at (has_left_wall o) e
      where
        at : (b : Bool) → open_side b ≡ 1 → b ≡ false
        at true h = absurd (omega (arith, h))
        at false h = refl

    middle : Beside Under v.left v.left_signs → Beside Above v.right v.right_signs
        → Falls (length (new_squares o m)) (v.left_signs ++ (v.right_signs ++ v.after_signs)) (v.left ++ (v.valley ∷ (v.right ++ v.after)))
        (m.signs ++ v.after_signs) ((v.left ++ (singles (new_squares o m) ++ v.right)) ++ v.after)
    middle (inl (a, b)) (inr (r, c, d)) = falls_same (length (new_squares o m)) (v.left_signs ++ (v.right_signs ++ v.after_signs)) (Above ∷ v.after_signs)
        (m.signs ++ v.after_signs) (m.signs ++ v.after_signs) (v.left ++ (v.valley ∷ (v.right ++ v.after))) (v.valley ∷ r ∷ v.after)
        ((v.left ++ (singles (new_squares o m) ++ v.right)) ++ v.after) (singles (new_squares o m) ++ r ∷ v.after)
        (λ i. b i ++ (d i ++ v.after_signs)) (λ i. a i ++ (v.valley ∷ (c i ++ v.after))) refl
        ((λ i. (a i ++ (singles (new_squares o m) ++ c i)) ++ v.after) ∙ append_assoc (singles (new_squares o m)) (r ∷ []) v.after)
        (wall_inner v.valley m.signs v.after_signs (new_squares o m) (r ∷ v.after) some
        (omega (arith, legal.signs, many, left_open o v, right_open o v, ap length a, ap length c))
        (own_wall (omega (arith, left_open o v, ap length a))) no_pair)
    middle (inl (a, b)) (inl (c, d)) = falls_same (length (new_squares o m)) (v.left_signs ++ (v.right_signs ++ v.after_signs)) []
        (m.signs ++ v.after_signs) m.signs (v.left ++ (v.valley ∷ (v.right ++ v.after))) (v.valley ∷ [])
        ((v.left ++ (singles (new_squares o m) ++ v.right)) ++ v.after) (singles (new_squares o m))
        (λ i. b i ++ (d i ++ after_none i)) (λ i. a i ++ (v.valley ∷ (c i ++ rest_none i)))
        ((λ i. m.signs ++ after_none i) ∙ append-nil m.signs)
        ((λ i. (a i ++ (singles (new_squares o m) ++ c i)) ++ rest_none i) ∙ append-nil (singles (new_squares o m) ++ [])
        ∙ append-nil (singles (new_squares o m)))
        (wall_last v.valley m.signs (new_squares o m) some
        (omega (arith, legal.signs, many, left_open o v, right_open o v, ap length a, ap length c))
        (own_wall (omega (arith, left_open o v, ap length a))) no_pair)
      where
        rest_none : v.after ≡ []
        rest_none = v.no_after c

        after_none : v.after_signs ≡ []
        after_none = empty-of_length_zero v.after_signs (omega (arith, v.after_many, ap length rest_none))
    middle (inr (s, a, b)) (inr (r, c, d)) = falls_same (length (new_squares o m)) (v.left_signs ++ (v.right_signs ++ v.after_signs))
        (Under ∷ Above ∷ v.after_signs) (m.signs ++ v.after_signs) (m.signs ++ v.after_signs)
        (v.left ++ (v.valley ∷ (v.right ++ v.after))) (s ∷ v.valley ∷ r ∷ v.after)
        ((v.left ++ (singles (new_squares o m) ++ v.right)) ++ v.after) (s ∷ (singles (new_squares o m) ++ r ∷ v.after))
        (λ i. b i ++ (d i ++ v.after_signs)) (λ i. a i ++ (v.valley ∷ (c i ++ v.after))) refl
        ((λ i. (a i ++ (singles (new_squares o m) ++ c i)) ++ v.after)
        ∙ ap (λ (xs : List (List ℕ)). s ∷ xs) (append_assoc (singles (new_squares o m)) (r ∷ []) v.after))
        (beside_inner s v.valley m.signs v.after_signs (new_squares o m) (r ∷ v.after) some
        (omega (arith, legal.signs, many, left_open o v, right_open o v, ap length a, ap length c))
        (free (no_wall (omega (arith, left_open o v, ap length a)))) (own (omega (arith, left_open o v, ap length a)))
        (λ h. rule (omega (arith, h, many))) no_pair)
    middle (inr (s, a, b)) (inl (c, d)) = falls_same (length (new_squares o m)) (v.left_signs ++ (v.right_signs ++ v.after_signs)) (Under ∷ [])
        (m.signs ++ v.after_signs) m.signs (v.left ++ (v.valley ∷ (v.right ++ v.after))) (s ∷ v.valley ∷ [])
        ((v.left ++ (singles (new_squares o m) ++ v.right)) ++ v.after) (s ∷ singles (new_squares o m))
        (λ i. b i ++ (d i ++ after_none i)) (λ i. a i ++ (v.valley ∷ (c i ++ rest_none i)))
        ((λ i. m.signs ++ after_none i) ∙ append-nil m.signs)
        ((λ i. (a i ++ (singles (new_squares o m) ++ c i)) ++ rest_none i)
        ∙ ap (λ (xs : List (List ℕ)). s ∷ xs) (append-nil (singles (new_squares o m) ++ []) ∙ append-nil (singles (new_squares o m))))
        (beside_last s v.valley m.signs (new_squares o m) some
        (omega (arith, legal.signs, many, left_open o v, right_open o v, ap length a, ap length c))
        (free (no_wall (omega (arith, left_open o v, ap length a)))) (own (omega (arith, left_open o v, ap length a)))
        (λ h. rule (omega (arith, h, many))) no_pair)
      where
        rest_none : v.after ≡ []
        rest_none = v.no_after c

        after_none : v.after_signs ≡ []
        after_none = empty-of_length_zero v.after_signs (omega (arith, v.after_many, ap length rest_none))

    -- by the parts of the outline
    falls : Falls (length (new_squares o m)) o.signs o.segments (signs_apart o m) (segments_apart o m)
    falls = falls_same (length (new_squares o m)) o.signs (v.before_signs ++ (v.left_signs ++ (v.right_signs ++ v.after_signs)))
        (signs_apart o m) (v.before_signs ++ (m.signs ++ v.after_signs)) o.segments (v.before ++ (v.left ++ (v.valley ∷ (v.right ++ v.after))))
        (segments_apart o m) (v.before ++ ((v.left ++ (singles (new_squares o m) ++ v.right)) ++ v.after))
        v.signs v.segments (apart_signs o v m legal) (apart_segments o v m legal)
        (falls_before (length (new_squares o m)) v.before_signs v.before (v.left_signs ++ (v.right_signs ++ v.after_signs))
        (v.left ++ (v.valley ∷ (v.right ++ v.after))) (m.signs ++ v.after_signs) ((v.left ++ (singles (new_squares o m) ++ v.right)) ++ v.after)
        v.before_many (all_under v.before_signs (v.left_signs ++ (v.right_signs ++ v.after_signs)) v.before_part
        (omega (arith, v.before_many, v.place, ap valley_place v.signs))) (middle v.left_beside v.right_beside))

    -- one move lowers the bound by at most 1
    pub strong_after : strong P gl gr true o.signs o.segments ≤ 1 + strong P gl gr true (after_move o m).signs (after_move o m).segments
    strong_after = omega (arith, falls.most, strong_joined P gl gr true (signs_apart o m) (segments_apart o m))

    -- one move lowers the weight by at most one less than the squares that it hangs
    pub weight_after : weight true o.signs o.segments + 1 ≤ m.count + weight true (after_move o m).signs (after_move o m).segments
    weight_after = omega (arith, falls.more, many, weight_joined true (signs_apart o m) (segments_apart o m))
