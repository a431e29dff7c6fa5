-- The edges of a signed word's squares, computed along its lines from the signed sides, are those of the tiling's squares.
use Rattle.std.specs.Prelude.{neg_ℤ, pos, ℤ, ◌+ℤ◌}
use Rattle.std.proofs.Common.{Bool, List, Some, [], ap, arith, cond, false, inl, inr, length, map, refl, slice_get, slice_index_or, suc, sym, true}
use Rattle.std.proofs.Common.{zero, ℕ, ◌++◌, ◌+◌, ◌<◌, ◌∙◌, ◌∷◌, ◌≡◌, ◌≤◌, ◌⊎◌}
use Rattle.std.proofs.lemmas.Bool.{cases_lt}
use Rattle.std.proofs.lemmas.Int.{ints}
use Rattle.std.proofs.lemmas.List.{length-append}
use Rattle.bk_laws.proofs.ListItems.{slice_index_or-snoc_last}
use Rattle.bk_laws.proofs.ListPlaces.{get_front}
use Rattle.bk_tiling.specs.Tiling.{Tiling, square_of}
use Rattle.bk_word.specs.Play.{numbers_from}
use Rattle.bk_found.specs.Candidate.{line_place, right_edges_from}
use Rattle.bk_layout.specs.SignedFlow.{signed_side}
use Rattle.bk_layout.specs.SignedWord.{left_edge, line_column, right_edge}

module _ (t : Tiling) (is_reversed : ℕ → Bool) (square : ℕ → ℕ) where
  -- the column of the right edge, as the word takes it, of the square at place k
  abbrev pub right_edge_of_square_at : ℕ → ℕ
  right_edge_of_square_at k = right_edge t is_reversed (square k)

  -- so many edges stand right
  pub record StandRight (b : ℕ) (rs : List ℤ) : Type 0 where
    pub many : length rs ≡ b
    pub each : (k : ℕ) → k < b → slice_index_or rs k (pos 0) ≡ pos (right_edge_of_square_at k)

  -- the column that is computed for a line is that of the line
  pub place_is : (total : ℤ) → total ≡ pos t.width → (b : ℕ) (rs : List ℤ) → StandRight b rs → (f : ℕ) → f < b + 2
      → line_place total rs f ≡ pos (line_column t is_reversed square f)
  place_is total wide b rs right zero h = refl
  place_is total wide b rs right (suc zero) h = wide
  place_is total wide b rs right (suc (suc k)) h = right.each k (omega arith)

  -- the signed side leads from the left edge to the right one
  pub side_leads : (q : ℕ) → pos (left_edge t is_reversed q) +ℤ signed_side t is_reversed q ≡ pos (right_edge t is_reversed q)
  side_leads q = cases (is_reversed q)
    where
      cases : (b : Bool) → pos (cond b ((square_of t q).x + (square_of t q).s) (square_of t q).x) +ℤ cond b (neg_ℤ (pos (square_of t q).s))
          (pos (square_of t q).s) ≡ pos (cond b (square_of t q).x ((square_of t q).x + (square_of t q).s))
      cases true = omega (arith, ints)
      cases false = omega (arith, ints)

  -- one more edge
  grow : (b : ℕ) (rs : List ℤ) (x : ℤ) → StandRight b rs → x ≡ pos (right_edge_of_square_at b) → StandRight (b + 1) (rs ++ x ∷ [])
  grow b rs x right edge = record { many = omega (arith, right.many, length-append rs (x ∷ [])); each = each }
    where
      each : (k : ℕ) → k < b + 1 → slice_index_or (rs ++ x ∷ []) k (pos 0) ≡ pos (right_edge_of_square_at k)
      each k h = cases (cases_lt k b)
        where
          cases : (k < b) ⊎ (b ≤ k) → slice_index_or (rs ++ x ∷ []) k (pos 0) ≡ pos (right_edge_of_square_at k)
          cases (inl l) = get_front rs (x ∷ []) k (pos 0) (omega (arith, l, right.many)) ∙ right.each k l
          cases (inr l) = let same : b ≡ k = omega arith in slice_index_or-snoc_last rs x k (pos 0) (omega (arith, same, right.many)) ∙ edge
              ∙ ap (λ (i : ℕ). pos (right_edge_of_square_at i)) same

  -- from square to square the right edges are those of the tiling's squares
  pub edges_are : (total : ℤ) → total ≡ pos t.width → (b : ℕ) (sides : List (ℕ × ℕ)) (rs : List ℤ) → StandRight b rs
      → ((j : ℕ) (p : ℕ × ℕ) → slice_get sides j ≡ Some p
      → (left_edge t is_reversed (square (b + j)) ≡ line_column t is_reversed square p.0) × (p.0 < b + j + 2))
      → StandRight (b + length sides) (right_edges_from total rs sides (map (λ k. signed_side t is_reversed (square k)) (numbers_from b (length sides))))
  edges_are total wide b [] rs right lines = record { many = omega (arith, right.many); each = λ k h. right.each k (omega arith) }
  edges_are total wide b (p ∷ sides) rs right lines = from
      (edges_are total wide (b + 1) sides (rs ++ (line_place total rs p.0 +ℤ signed_side t is_reversed (square b)) ∷ [])
      (grow b rs (line_place total rs p.0 +ℤ signed_side t is_reversed (square b)) right edge)
      (λ j q e. (ap (λ (k : ℕ). left_edge t is_reversed (square k)) (sym (next j)) ∙ (lines (suc j) q e).0, omega (arith, (lines (suc j) q e).1))))
    where
      at : b + 0 ≡ b
      at = omega arith

      edge : line_place total rs p.0 +ℤ signed_side t is_reversed (square b) ≡ pos (right_edge_of_square_at b)
      edge = ap (λ (z : ℤ). z +ℤ signed_side t is_reversed (square b)) (place_is total wide b rs right p.0 (omega (arith, (lines 0 p refl).1))
          ∙ ap pos (sym (lines 0 p refl).0) ∙ ap (λ (k : ℕ). pos (left_edge t is_reversed (square k))) at) ∙ side_leads (square b)

      next : (j : ℕ) → b + suc j ≡ b + 1 + j
      next j = omega arith

      from : StandRight (b + 1 + length sides) (right_edges_from total
          (rs ++ (line_place total rs p.0 +ℤ signed_side t is_reversed (square b)) ∷ []) sides
          (map (λ k. signed_side t is_reversed (square k)) (numbers_from (b + 1) (length sides))))
          → StandRight (b + suc (length sides)) (right_edges_from total
          (rs ++ (line_place total rs p.0 +ℤ signed_side t is_reversed (square b)) ∷ []) sides
          (map (λ k. signed_side t is_reversed (square k)) (numbers_from (b + 1) (length sides))))
      from rest = record { many = omega (arith, rest.many); each = λ k h. rest.each k (omega (arith, h)) }
