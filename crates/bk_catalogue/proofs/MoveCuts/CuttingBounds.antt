-- The cuts of a walk by how many squares are left: segments that must be closed, and valleys of one square.
use Rattle.std.specs.List.{AllZip}
use Rattle.std.proofs.Common.{List, [], arith, inl, inr, length, refl, subst, sym, ℕ, ◌++◌, ◌+◌, ◌∙◌, ◌∷◌, ◌≡◌, ◌≤◌}
use Rattle.std.proofs.lemmas.List.{append-nil, append_assoc}
use Rattle.bk_tiling.proofs.Cells.{covers_from, in_all, no_two}
use Rattle.bk_tiling.proofs.TilingLaws.{cell_once, own_cell, side_of, within_of}
use Rattle.bk_tiling.specs.Column.{AreRuns}
use Rattle.bk_tiling.specs.declared.Segment.{Segment}
use Rattle.bk_tiling.specs.Tiling.{IsOneOf, IsTiling, Tiling, covers}
use Rattle.bk_tiling.specs.declared.Square.{Square}
use Rattle.bk_word.specs.Outline.{Outline, sizes_of, start}
use Rattle.bk_word.specs.Play.{outline_of}
use Rattle.bk_word.specs.Word.{Word, order_of}
use Rattle.bk_word.specs.declared.Class.{Class}
use Rattle.bk_lay.proofs.SquaresOnce.{squares_once}
use Rattle.bk_lay.proofs.LaidRuns.{one_of}
use Rattle.bk_lay.proofs.WordPlay.{fewer}
use Rattle.bk_lay.specs.Depiction.{IsSegment}
use Rattle.bk_lay.specs.TilingWord.{IsWordOf}
use Rattle.bk_catalogue.proofs.Members.Parts.{Reached, reached}
use Rattle.bk_word.proofs.PlayLaws.{after_moves-append}
use Rattle.bk_catalogue.proofs.Members.BegunWords.{complete_word, within_order}
use Rattle.bk_catalogue.proofs.HangingBounds.WordBoundLaws.{closings_are_hung, singles_are_hung}
use Rattle.bk_catalogue.specs.WordBounds.{HangNoPairsFrom, IsWithoutPairs}
use Rattle.bk_catalogue.specs.Catalogue.{Entry, IsEntry}
use Rattle.bk_catalogue.specs.BoundCuts.{TooManySinglesIsBarren, TooManyToCloseIsBarren}
use Rattle.bk_catalogue.proofs.MoveCuts.OneUnderOne.{one_under_one_is_barren}
use Rattle.bk_catalogue.specs.ClosingBound.{closing_bound}
use Rattle.bk_catalogue.specs.SingleValleys.{single_valleys}

module _ (n : ℕ) (class : Class) (e : Entry) (entry : IsEntry n class e) where
  -- at the end of a member's word one segment is left, so no sign
  at_end : Reached e.tiling (outline_of e.word) [] (order_of e.word)
  at_end = reached e.tiling e.word [] (entry.member).tiling (subst (IsWordOf e.tiling) (sym (append-nil e.word)) entry.word)

-- the law
pub too_many_to_close_is_barren : TooManyToCloseIsBarren
too_many_to_close_is_barren n class front few e rest entry word =
    within_order n class e entry front rest (order_of front + closing_bound (outline_of front).signs) word
    (closings_are_hung front rest (complete_word n class e entry front rest word)) few

-- ---- valleys of one square

-- where one square is as wide as the tiling and ends at the bottom, and the tiling is not higher than wide, it is the only one
one_square : (t : Tiling) (q : Square) → IsTiling t → t.height ≤ t.width → IsOneOf q t.squares → q.x ≡ 0 → q.s ≡ t.width → length t.squares ≤ 1
one_square t q tiling wide h x s = omega (arith, fewer t.squares (q ∷ []) (squares_once t tiling) (λ r k. inl (same r k)))
  where
    same : (r : Square) → IsOneOf r t.squares → r ≡ q
    same r k = let a = (within_of t tiling r k).right in let b = (within_of t tiling r k).bottom in let c = (within_of t tiling q h).bottom in
        no_two (covers r.x r.y) t.squares (omega
        (arith, cell_once t tiling r.x r.y (omega (arith, side_of t tiling r k)) (omega (arith, side_of t tiling r k)))) r q k (own_cell t tiling r k) h
        (covers_from r.x r.y q (omega arith) (omega (arith, side_of t tiling r k)) (omega arith) (omega (arith, side_of t tiling r k)))

module _ (n : ℕ) (class : Class) (e : Entry) (entry : IsEntry n class e) where
  -- the last segment has not just one square
  last_is_none : 2 ≤ n → (s : List ℕ) → (outline_of e.word).segments ≡ s ∷ [] → length s ≡ 1 → ⊥
  last_is_none many s f one = not_one one ((end.along).depicts).runs ((end.along).depicts).cut
      (subst (AllZip (IsSegment end.laid) ((end.along).depicts).runs) f ((end.along).depicts).segments)
    where
      end : Reached e.tiling (outline_of e.word) [] (order_of e.word)
      end = at_end n class e entry

      not_one : length s ≡ 1 → (runs : List Segment) → AreRuns (e.tiling).width end.laid 0 runs → AllZip (IsSegment end.laid) runs (s ∷ []) → ⊥
      not_one one [] cut zip = zip
      not_one one (v ∷ u ∷ runs) cut zip = zip.1
      not_one one (v ∷ []) cut zip = spans s one zip.0
        where
          spans : (numbers : List ℕ) → length numbers ≡ 1 → IsSegment end.laid v numbers → ⊥
          spans [] l seg = omega arith
          spans (k ∷ j ∷ numbers) l seg = omega arith
          spans (k ∷ []) l (inr top) = not_nil top.1
            where
              not_nil : k ∷ [] ≡ [] → ⊥
              not_nil g = cc
          spans (k ∷ []) l (inl (q, at, qx, qb, ends)) = omega (
            arith,
            many,
            (entry.member).order,
            one_square e.tiling q (entry.member).tiling ((entry.member).canonical).lying
                (in_all (λ z. IsOneOf z (e.tiling).squares) end.laid ((end.along).fills).squares q (one_of end.laid at.0 q at.2))
                (omega (arith, qx, cut.0)) (omega (arith, ends, cut.0, cut.2)),
          )

  -- no move hangs one square from a valley of one
  no_pairs : (front rest : Word) → e.word ≡ front ++ rest → HangNoPairsFrom (outline_of front) rest
  no_pairs front [] word = tt
  no_pairs front (m ∷ rest) word = (
    (λ valley count. one_under_one_is_barren n class front m count valley e rest entry (word ∙ sym (append_assoc front (m ∷ []) rest))),
    subst (λ (o : Outline). HangNoPairsFrom o rest) (after_moves-append start front (m ∷ []))
        (no_pairs (front ++ m ∷ []) rest (word ∙ sym (append_assoc front (m ∷ []) rest))),
  )

  -- a member's word hangs no pairs
  pub without_pairs : 2 ≤ n → (front rest : Word) → e.word ≡ front ++ rest → IsWithoutPairs (front ++ rest)
  without_pairs many front rest word = subst IsWithoutPairs word (record { moves = no_pairs [] e.word refl; last = last_is_none many })

-- the law
pub too_many_singles_is_barren : TooManySinglesIsBarren
too_many_singles_is_barren n class front many few e rest entry word =
    within_order n class e entry front rest (order_of front + closing_bound (outline_of front).signs
    + single_valleys (outline_of front).signs (sizes_of (outline_of front))) word
    (singles_are_hung front rest (complete_word n class e entry front rest word) (without_pairs n class e entry many front rest word)) few
