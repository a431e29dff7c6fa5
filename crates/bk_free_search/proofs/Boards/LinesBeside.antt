-- The lines that are gathered at the sides of squares.
use Rattle.std.proofs.Common.{List, [], ap, append_assoc, arith, inl, inr, length, slice_index_or, subst, suc, sym, zero}
use Rattle.std.proofs.Common.{ℕ, ◌++◌, ◌+◌, ◌-◌, ◌<◌, ◌∙◌, ◌∷◌, ◌≡◌, ◌≤◌, ◌⊎◌}
use Rattle.std.proofs.lemmas.Bool.{cases_lt}
use Rattle.std.proofs.lemmas.Option.{get_or_from_slice_get, slice_get-get_or, slice_get_within}
use Rattle.bk_laws.proofs.ListPlaces.{get_back, get_front}
use Rattle.bk_laws.proofs.NumberOrder.{lt_add_one-less_or_same}
use Rattle.bk_word.proofs.PlayLists.{numbers-length}
use Rattle.bk_word.specs.Play.{numbers_from}
use Rattle.bk_free_search.specs.NodeLines.{Has, IsAtSquare, IsBesideNew, IsBesideOneOf, StandBetween}
use Rattle.bk_free_search.specs.declared.line_set.LineSet.{LineSet}
use Rattle.bk_free_search.specs.declared.node_lines.NewSquares.{NewSquares}

-- of the squares before a place all lines are gathered, and none but such
pub record Gathered (lefts rights squares : List ℕ) (place : ℕ) (lines : LineSet) : Type 0 where
  pub only : (line : ℕ) → Has lines line → IsBesideOneOf lefts rights squares line
  pub all : (line : ℕ) (b : IsBesideOneOf lefts rights squares line) → line < 32 → b.place < place → Has lines line

-- the lines beside some squares, gathered, with those of one square more
pub gathered_more : (lefts rights squares : List ℕ) (place d : ℕ) (before lines : LineSet) → Gathered lefts rights squares place before → place < length squares
    → ((line : ℕ) → Has lines line → IsAtSquare lefts rights (slice_index_or squares place d) line ⊎ Has before line)
    → ((line : ℕ) → line < 32 → IsAtSquare lefts rights (slice_index_or squares place d) line → Has lines line) → ((line : ℕ) → Has before line
    → Has lines line)
    → Gathered lefts rights squares (place + 1) lines
gathered_more lefts rights squares place d before lines g within only all kept = record {
  only = λ line has. found line (only line has);
  all = λ line b low under. held line b low (lt_add_one-less_or_same b.place place under);
}
  where
    found : (line : ℕ) → IsAtSquare lefts rights (slice_index_or squares place d) line ⊎ Has before line → IsBesideOneOf lefts rights squares line
    found line (inl b) = record { place = place; number = slice_index_or squares place d; at = slice_get-get_or squares place d within; beside = b }
    found line (inr has) = g.only line has

    held : (line : ℕ) (b : IsBesideOneOf lefts rights squares line) → line < 32 → (b.place < place) ⊎ (b.place ≡ place) → Has lines line
    held line b low (inl under) = kept line (g.all line b low under)
    held line b low (inr same) = all line low (subst (λ (n : ℕ). IsAtSquare lefts rights n line) number b.beside)
      where
        number : b.number ≡ slice_index_or squares place d
        number = sym (get_or_from_slice_get squares b.place b.number d b.at) ∙ ap (λ k. slice_index_or squares k d) same

-- once all squares are passed, each line below 32 that is beside one of them is gathered
pub all_gathered : (lefts rights squares : List ℕ) (place : ℕ) (lines : LineSet) → Gathered lefts rights squares place lines → length squares ≤ place
    → (line : ℕ) → line < 32 → IsBesideOneOf lefts rights squares line → Has lines line
all_gathered lefts rights squares place lines g over line low b = g.all line b low (omega (arith, over, slice_get_within squares b.place b.number b.at))

-- ---- new squares

module _ (lefts rights : List ℕ) (new : NewSquares) (b : StandBetween lefts rights new) (some : 0 < new.count) where
  -- the lines of new squares are the two between which they stand, and their own
  pub beside_new : (line : ℕ) → IsBesideNew lefts rights new.hung new.count line
      → (line ≡ new.first) ⊎ ((line ≡ new.last) ⊎ ((new.hung + 2 ≤ line) × (line < new.hung + new.count + 1)))
  beside_new line n = sides n.beside
    where
      by_left : (k : ℕ) → k < new.count → slice_index_or lefts (new.hung + k) 0 ≡ line
          → (line ≡ new.first) ⊎ ((line ≡ new.last) ⊎ ((new.hung + 2 ≤ line) × (line < new.hung + new.count + 1)))
      by_left zero low e = let same : new.hung + 0 ≡ new.hung = omega arith in inl (sym e ∙ ap (λ j. slice_index_or lefts j 0) same ∙ b.first_is)
      by_left (suc k) low e =
          let same : new.hung + suc k ≡ new.hung + k + 1 = omega arith in
          let is : line ≡ new.hung + k + 2 = sym e ∙ ap (λ j. slice_index_or lefts j 0) same ∙ b.lefts_are k (omega (arith, low)) in
          inr (inr (omega (arith, is), omega (arith, is, low)))

      by_right : (k : ℕ) → (k + 1 < new.count) ⊎ (new.count ≤ k + 1) → k < new.count → slice_index_or rights (new.hung + k) 1 ≡ line
          → (line ≡ new.first) ⊎ ((line ≡ new.last) ⊎ ((new.hung + 2 ≤ line) × (line < new.hung + new.count + 1)))
      by_right k (inl more) low e = let is : line ≡ new.hung + k + 2 = sym e ∙ b.rights_are k more in inr (inr (omega (arith, is), omega (arith, is, more)))
      by_right k (inr none) low e = let same : new.hung + k ≡ new.hung + new.count - 1 = omega (arith, none, low) in
          inr (inl (sym e ∙ ap (λ j. slice_index_or rights j 1) same ∙ b.last_is))

      sides : IsAtSquare lefts rights (new.hung + n.k + 1) line
          → (line ≡ new.first) ⊎ ((line ≡ new.last) ⊎ ((new.hung + 2 ≤ line) × (line < new.hung + new.count + 1)))
      sides (inl e) = let same : new.hung + n.k ≡ new.hung + n.k + 1 - 1 = omega arith in by_left n.k n.low (ap (λ j. slice_index_or lefts j 0) same ∙ e)
      sides (inr e) = let same : new.hung + n.k ≡ new.hung + n.k + 1 - 1 = omega arith in
          by_right n.k (cases_lt (n.k + 1) new.count) n.low (ap (λ j. slice_index_or rights j 1) same ∙ e)

  -- the line at the left of the first new square is beside a new square
  pub first_beside : (line : ℕ) → line ≡ new.first → IsBesideNew lefts rights new.hung new.count line
  first_beside line e = record {
    k = 0;
    low = some;
    beside = inl (let same : new.hung + 0 + 1 - 1 ≡ new.hung = omega arith in ap (λ j. slice_index_or lefts j 0) same ∙ b.first_is ∙ sym e);
  }

  -- the line at the right of the last new square is beside a new square
  pub last_beside : (line : ℕ) → line ≡ new.last → IsBesideNew lefts rights new.hung new.count line
  last_beside line e = record {
    k = new.count - 1;
    low = omega (arith, some);
    beside = inr (let same : new.hung + (new.count - 1) + 1 - 1 ≡ new.hung + new.count - 1 = omega (arith, some) in
        ap (λ j. slice_index_or rights j 1) same ∙ b.last_is ∙ sym e);
  }

  -- a line between two new squares is beside a new square
  pub own_beside : (line : ℕ) → new.hung + 2 ≤ line → line < new.hung + new.count + 1 → IsBesideNew lefts rights new.hung new.count line
  own_beside line low high = record {
    k = line - new.hung - 2;
    low = omega (arith, low, high);
    beside = inr (let same : new.hung + (line - new.hung - 2) + 1 - 1 ≡ new.hung + (line - new.hung - 2) = omega arith in ap
        (λ j. slice_index_or rights j 1) same
        ∙ b.rights_are (line - new.hung - 2) (omega (arith, low, high)) ∙ omega (arith, low));
  }

-- the numbers from one on, each at its place
numbers_at : (from many k d : ℕ) → k < many → slice_index_or (numbers_from from many) k d ≡ from + k
numbers_at from zero k d h = absurd (omega (arith, h))
numbers_at from (suc many) zero d h = omega arith
numbers_at from (suc many) (suc k) d h = numbers_at (from + 1) many k d (omega (arith, h)) ∙ omega arith

-- new squares put behind the old left and right lines stand between the first and the last line
pub stand_between : (lefts rights lefts_then rights_then : List ℕ) (new : NewSquares) → 0 < new.count → length lefts ≡ new.hung → length rights ≡ new.hung
    → lefts_then ≡ lefts ++ new.first ∷ numbers_from (new.hung + 2) (new.count - 1)
    → rights_then ≡ rights ++ numbers_from (new.hung + 2) (new.count - 1) ++ new.last ∷ [] → StandBetween lefts_then rights_then new
stand_between lefts rights lefts_then rights_then new some l r le re = record {
  first_is = ap (λ ls. slice_index_or ls new.hung 0) le
      ∙ get_back lefts (new.first ∷ numbers_from (new.hung + 2) (new.count - 1)) 0 new.hung 0 (omega (arith, l));
  last_is = ap (λ rs. slice_index_or rs (new.hung + new.count - 1) 1) right
      ∙ get_back rights (numbers_from (new.hung + 2) (new.count - 1) ++ new.last ∷ []) (new.count - 1) (new.hung + new.count - 1) 1 (omega (arith, r, some))
      ∙ get_back (numbers_from (new.hung + 2) (new.count - 1)) (new.last ∷ []) 0 (new.count - 1) 1
      (omega (arith, numbers-length (new.hung + 2) (new.count - 1)));
  lefts_are = λ k h. ap (λ ls. slice_index_or ls (new.hung + k + 1) 0) le
      ∙ get_back lefts (new.first ∷ numbers_from (new.hung + 2) (new.count - 1)) (suc k) (new.hung + k + 1) 0 (omega (arith, l))
      ∙ numbers_at (new.hung + 2) (new.count - 1) k 0 (omega (arith, h)) ∙ omega arith;
  rights_are = λ k h. ap (λ rs. slice_index_or rs (new.hung + k) 1) right
      ∙ get_back rights (numbers_from (new.hung + 2) (new.count - 1) ++ new.last ∷ []) k (new.hung + k) 1 (omega (arith, r))
      ∙ get_front (numbers_from (new.hung + 2) (new.count - 1)) (new.last ∷ []) k 1 (omega (arith, h, numbers-length (new.hung + 2) (new.count - 1)))
      ∙ numbers_at (new.hung + 2) (new.count - 1) k 1 (omega (arith, h)) ∙ omega arith;
}
  where
    right : rights_then ≡ rights ++ (numbers_from (new.hung + 2) (new.count - 1) ++ new.last ∷ [])
    right = re ∙ append_assoc rights (numbers_from (new.hung + 2) (new.count - 1)) (new.last ∷ [])
