-- The valleys of one square: a move closes at most one of them, and all others stay.
use Rattle.std.proofs.Common.{Bool, List, [], ap, arith, drop, false, filter, inl, inr, length, map, nat_eq, refl, slice_index_or, suc, take, true}
use Rattle.std.proofs.Common.{zero, ℕ, ◌++◌, ◌+◌, ◌-◌, ◌<◌, ◌∷◌, ◌≡◌, ◌≤◌, ◌⊎◌}
use Rattle.std.proofs.lemmas.Bool.Decides.{nat_tests}
use Rattle.std.proofs.lemmas.List.{length-append, length-drop, length-map, length-take}
use Rattle.std.proofs.lemmas.Bool.{cases_lt, false≢true}
use Rattle.bk_laws.proofs.ListParts.{drop-cons_one_more}
use Rattle.bk_word.specs.Outline.{IsLegalMove, Outline, has_right_wall, open_side, sizes_of, valley_of, valley_place}
use Rattle.bk_word.specs.Play.{after_move, before_first_list, joined, new_squares, parts}
use Rattle.bk_word.specs.Word.{Move}
use Rattle.bk_word.specs.declared.Sign.{Sign}
use Rattle.bk_word.specs.declared.Sign.TheVariants.{Above, Even, Under}
use Rattle.bk_word.proofs.PlayLists.{numbers-length, place_within}
use Rattle.bk_word_net.proofs.Outlines.OutlineParts.{filter_part}
use Rattle.bk_word_net.proofs.Outlines.Shape.{Shaped}
use Rattle.bk_word_net.proofs.Outlines.ValleyCut.{AllPart}
use Rattle.bk_catalogue.specs.SingleValleys.{single_valley, single_valleys, single_valleys_from}

-- the valleys of one square among segments, from the first on
abbrev pub singles : Bool → List Sign → List (List ℕ) → ℕ
singles low signs segments = single_valleys_from low signs (map length segments)

-- a first segment that may be a valley counts for no less
pub low_is_more : (b : Bool) (signs : List Sign) (segments : List (List ℕ)) → singles false signs segments ≤ singles b signs segments
low_is_more b signs [] = omega arith
low_is_more b [] (s ∷ segments) = omega arith
low_is_more b (Above ∷ signs) (s ∷ segments) = omega arith
low_is_more b (Even ∷ signs) (s ∷ segments) = omega arith
low_is_more b (Under ∷ signs) (s ∷ segments) = omega arith

-- where the first segment is no valley, its squares do not count
first_grown : (x : List ℕ) (signs : List Sign) (segments : List (List ℕ)) → singles false signs (before_first_list x segments) ≡ singles false signs segments
first_grown x [] [] = refl
first_grown x (Above ∷ signs) [] = refl
first_grown x (Even ∷ signs) [] = refl
first_grown x (Under ∷ signs) [] = refl
first_grown x [] (s ∷ segments) = refl
first_grown x (Above ∷ signs) (s ∷ segments) = refl
first_grown x (Even ∷ signs) (s ∷ segments) = refl
first_grown x (Under ∷ signs) (s ∷ segments) = refl

-- a segment that is joined to the next ones
pub grown_is_more : (b : Bool) (x : List ℕ) (signs : List Sign) (segments : List (List ℕ))
    → singles false signs segments ≤ singles b signs (before_first_list x segments)
grown_is_more b x signs segments = omega (arith, first_grown x signs segments, low_is_more b signs (before_first_list x segments))

no_part : (A : Type 0) → parts Even ≡ true → A
no_part A e = absurd (false≢true e)

-- nothing is joined where no sign is even
joined_parted : (signs : List Sign) (segments : List (List ℕ)) → AllPart signs → joined signs segments ≡ segments
joined_parted [] [] p = refl
joined_parted (Above ∷ signs) [] p = refl
joined_parted (Even ∷ signs) [] p = refl
joined_parted (Under ∷ signs) [] p = refl
joined_parted [] (s ∷ segments) p = refl
joined_parted (Above ∷ signs) (s ∷ segments) p = ap (λ ss. s ∷ ss) (joined_parted signs segments p.1)
joined_parted (Even ∷ signs) (s ∷ segments) p = no_part (joined (Even ∷ signs) (s ∷ segments) ≡ s ∷ segments) p.0
joined_parted (Under ∷ signs) (s ∷ segments) p = ap (λ ss. s ∷ ss) (joined_parted signs segments p.1)

-- segments between which no sign is even stay as they are
pub unchanged : (b : Bool) (back : List Sign) (rest : List (List ℕ)) → AllPart back → singles b (filter parts back) (joined back rest) ≡ singles b back rest
unchanged b back rest p = λ i. singles b (filter_part back p i) (joined_parted back rest p i)

-- what stands at the right of the new squares stays, but for its first segment
kept : (b : Bool) (signs : List Sign) (segments : List (List ℕ)) (back : List Sign) (rest : List (List ℕ)) → length signs ≡ length segments → AllPart back
    → singles false back rest ≤ singles b (filter parts (signs ++ back)) (joined (signs ++ back) (segments ++ rest))
kept b [] [] back rest e p = omega (arith, low_is_more b back rest, unchanged b back rest p)
kept b [] (s ∷ segments) back rest e p = absurd (omega arith)
kept b (g ∷ signs) [] back rest e p = absurd (omega arith)
kept b (Above ∷ signs) (s ∷ segments) back rest e p = omega (arith, kept false signs segments back rest (omega arith) p)
kept b (Under ∷ signs) (s ∷ segments) back rest e p = omega (arith, kept true signs segments back rest (omega arith) p)
kept b (Even ∷ signs) (s ∷ segments) back rest e p = omega (
  arith,
  kept false signs segments back rest (omega arith) p,
  grown_is_more b s (filter parts (signs ++ back)) (joined (signs ++ back) (segments ++ rest)),
)

behind_next : (g : Sign) (signs : List Sign) (s : List ℕ) (segments : List (List ℕ)) (k : ℕ)
    → singles false (drop (suc k + 1) (g ∷ signs)) (drop (suc k + 1) (s ∷ segments)) ≡ singles false (drop (k + 1) signs) (drop (k + 1) segments)
behind_next g signs s segments k = λ i. singles false (drop-cons_one_more g signs k i) (drop-cons_one_more s segments k i)

-- no segment before the leftmost valley is one
at_valley : (signs : List Sign) (segments : List (List ℕ)) → singles true signs segments
    ≤ single_valley true (length (slice_index_or segments (valley_place signs) []))
    + singles false (drop (valley_place signs + 1) signs) (drop (valley_place signs + 1) segments)
at_valley signs [] = omega arith
at_valley [] (s ∷ segments) = omega arith
at_valley (Above ∷ signs) (s ∷ segments) = omega arith
at_valley (Even ∷ signs) (s ∷ segments) = omega
    (arith, at_valley signs segments, low_is_more true signs segments, behind_next Even signs s segments (valley_place signs))
at_valley (Under ∷ signs) (s ∷ segments) = omega (arith, at_valley signs segments, behind_next Under signs s segments (valley_place signs))

-- where no sign is even, none of those behind a place is
pub parted_behind : (signs : List Sign) (k : ℕ) → AllPart signs → AllPart (drop k signs)
parted_behind [] zero p = tt
parted_behind [] (suc k) p = tt
parted_behind (s ∷ signs) zero p = p
parted_behind (s ∷ signs) (suc k) p = parted_behind signs k p.1

module _ (o : Outline) (m : Move) (legal : IsLegalMove o m) (shape : Shaped o) where
  p : ℕ
  p = valley_place o.signs

  -- a side is open where its place isn't the wall's
  pub wall_test : (a b : ℕ) → (a ≡ b → open_side (nat_eq a b) ≡ 0) × ((a ≡ b → ⊥) → open_side (nat_eq a b) ≡ 1)
  wall_test a b = ((λ e. grind (arith, nat_tests)), (λ e. grind (arith, nat_tests)))

  -- the signs up to the new squares, counted
  pub front_long : length (take (valley_place o.signs - 1) o.signs ++ m.signs) ≡ valley_place o.signs - 1 + length m.signs
  front_long = omega (
    arith,
    length-append (take (valley_place o.signs - 1) o.signs) m.signs,
    length-take (valley_place o.signs - 1) o.signs,
    place_within o.signs,
  )

  -- the segments up to the new squares, counted
  pub new_long : length (take (valley_place o.signs) o.segments ++ map (λ q. q ∷ []) (new_squares o m)) ≡ valley_place o.signs + m.count
  new_long = omega (
    arith,
    length-append (take (valley_place o.signs) o.segments) (map (λ q. q ∷ []) (new_squares o m)),
    length-map (new_squares o m) (λ (q : ℕ). q ∷ []),
    numbers-length (length o.hung + 1) m.count,
    length-take (valley_place o.signs) o.segments,
    place_within o.signs,
    shape.many,
  )

  -- up to the new squares the signs are as many as the segments, where the valley has a right neighbour
  pub same_length : valley_place o.signs < length o.signs
      → length (take (valley_place o.signs - 1) o.signs ++ m.signs) ≡ length (take (valley_place o.signs) o.segments ++ map (λ q. q ∷ []) (new_squares o m))
  same_length h = cases (cases_lt 0 (valley_place o.signs))
    where
      right : open_side (has_right_wall o) ≡ 1
      right = (wall_test (valley_place o.signs) (length o.signs)).1 (λ e. absurd (omega arith))

      cases : (0 < valley_place o.signs) ⊎ (valley_place o.signs ≤ 0)
          → length (take (valley_place o.signs - 1) o.signs ++ m.signs) ≡ length (take (valley_place o.signs) o.segments ++ map (λ q. q ∷ []) (new_squares o m))
      cases (inl k) = omega (arith, front_long, new_long, legal.signs, right, (wall_test (valley_place o.signs) 0).1 (λ e. absurd (omega arith)))
      cases (inr k) = omega (arith, front_long, new_long, legal.signs, right, (wall_test (valley_place o.signs) 0).0 (omega arith))

  -- behind the valley
  behind_kept : singles false (drop (valley_place o.signs + 1) o.signs) (drop (valley_place o.signs + 1) o.segments)
      ≤ singles true (after_move o m).signs (after_move o m).segments
  behind_kept = cases (cases_lt (valley_place o.signs) (length o.signs))
    where
      none : (back : List Sign) (rest : List (List ℕ)) → length rest ≡ 0 → singles false back rest ≡ 0
      none back [] e = refl
      none back (s ∷ rest) e = absurd (omega arith)

      cases : (valley_place o.signs < length o.signs) ⊎ (length o.signs ≤ valley_place o.signs)
          → singles false (drop (valley_place o.signs + 1) o.signs) (drop (valley_place o.signs + 1) o.segments)
          ≤ singles true (after_move o m).signs (after_move o m).segments
      cases (inr h) = omega (
        arith,
        none (drop (valley_place o.signs + 1) o.signs) (drop (valley_place o.signs + 1) o.segments)
            (omega (arith, length-drop (valley_place o.signs + 1) o.segments, shape.many)),
      )
      cases (inl h) = omega (
        arith,
        kept true (take (valley_place o.signs - 1) o.signs ++ m.signs)
            (take (valley_place o.signs) o.segments ++ map (λ q. q ∷ []) (new_squares o m)) (drop (valley_place o.signs + 1) o.signs)
            (drop (valley_place o.signs + 1) o.segments)
            (same_length h) (parted_behind o.signs (valley_place o.signs + 1) shape.parted),
      )

  -- a move takes away at most the valley that it closes
  pub singles_after : single_valleys o.signs (sizes_of o)
      ≤ single_valley true (length (valley_of o)) + single_valleys (after_move o m).signs (sizes_of (after_move o m))
  singles_after = omega (arith, at_valley o.signs o.segments, behind_kept)
