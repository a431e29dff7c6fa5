-- The wires of a complete word in the order of hanging: each begins at node 0, or at a node at which one before it ends. So a flow's
-- levels are found wire by wire.
use Rattle.std.specs.Prelude.{pos, ℤ, ◌-ℤ◌}
use Rattle.std.proofs.Common.{List, [], ap, arith, cond, inl, inr, length, nat_eq, refl, replicate, slice_index_or, subst, suc, sym}
use Rattle.std.proofs.Common.{zero, ℕ, ◌++◌, ◌+◌, ◌-◌, ◌<◌, ◌∙◌, ◌∷◌, ◌≡◌, ◌≤◌, ◌⊎◌}
use Rattle.std.proofs.lemmas.Bool.{cases_lt}
use Rattle.std.proofs.lemmas.Bool.Decides.{nat_tests}
use Rattle.std.proofs.lemmas.Int.{ints}
use Rattle.std.proofs.lemmas.List.{get_or-map, length-append, length-replicate}
use Rattle.std.proofs.lemmas.Option.{get_or_from_slice_get}
use Rattle.bk_laws.proofs.ListPlaces.{get_back, get_front}
use Rattle.bk_laws.proofs.Occurrences.{times, times-some_of_nonempty, times_at, times_in-append}
use Rattle.bk_laws.proofs.ListItems.{slice_index_or-replicate}
use Rattle.bk_net.specs.Flow.{Flow, IsFlow, potential}
use Rattle.bk_word.specs.Outline.{Outline, start, valley_of, valley_place}
use Rattle.bk_word.specs.Play.{AreLegalFrom, IsComplete, after_move, after_moves, outline_of}
use Rattle.bk_word.specs.Word.{Move, Word}
use Rattle.bk_word.proofs.PlayLists.{place_within}
use Rattle.bk_word_net.proofs.WordFlows.NoLoose.{Played, closed_count, end_is_later, hung_number, played_move, played_start}
use Rattle.bk_word_net.proofs.Outlines.Numbering.{HasPlace, place_of_number}
use Rattle.bk_word_net.proofs.WordFlows.PlacesInLists.{wires_got}
use Rattle.bk_word_net.proofs.Outlines.Shape.{AllFilled, Shaped, filled_move, shaped_move, shaped_start}
use Rattle.bk_word_net.specs.WordNet.{end_of, net_of_word}
use Rattle.bk_found.specs.Candidate.{level_in}
use Rattle.bk_found.specs.Placing.{AreLevels}

-- each square hangs from node 0, or from a node on which a square before it ends
abbrev BeginsAt : Outline → ℕ → Type 0
BeginsAt o k = (slice_index_or o.hung k 0 ≡ 0) ⊎ ((j : ℕ) × (j < k) × (0 < times (suc j) (slice_index_or o.closed (slice_index_or o.hung k 0) [])))

abbrev Begun : Outline → Type 0
Begun o = (k : ℕ) → k < length o.hung → BeginsAt o k

filled_at : (segments : List (List ℕ)) → AllFilled segments → (k : ℕ) → k < length segments → 0 < length (slice_index_or segments k [])
filled_at [] all k h = absurd (omega arith)
filled_at (s ∷ segments) all zero h = all.0
filled_at (s ∷ segments) all (suc k) h = filled_at segments all.1 k (omega arith)

-- what the play keeps
record Kept (o : Outline) : Type 0 where
  pub shaped : Shaped o
  pub played : Played o
  pub begun : Begun o
  pub filled : (length o.closed ≡ 0) ⊎ AllFilled o.segments

kept_start : Kept start
kept_start = record { shaped = shaped_start; played = played_start; begun = λ k h. absurd (omega arith); filled = inl refl }

module _ (o : Outline) (m : Move) (kept : Kept o) where
  old_or_new : (k : ℕ) → k < length (after_move o m).hung → (k < length o.hung) ⊎ (length o.hung ≤ k) → BeginsAt (after_move o m) k
  old_or_new k h (inl low) = from (kept.begun k low)
    where
      node : slice_index_or (after_move o m).hung k 0 ≡ slice_index_or o.hung k 0
      node = get_front o.hung (replicate m.count (length o.closed)) k 0 low

      closed : slice_index_or (after_move o m).closed (slice_index_or (after_move o m).hung k 0) [] ≡ slice_index_or o.closed (slice_index_or o.hung k 0) []
      closed = ap (λ (v : ℕ). slice_index_or (after_move o m).closed v []) node
          ∙ get_front o.closed (valley_of o ∷ []) (slice_index_or o.hung k 0) [] (kept.played.below k low)

      from : BeginsAt o k → BeginsAt (after_move o m) k
      from (inl e) = inl (node ∙ e)
      from (inr (j, less, some)) = inr (j, less, omega (arith, some, ap (times (suc j)) closed))
  old_or_new k h (inr high) = from kept.filled
    where
      node : slice_index_or (after_move o m).hung k 0 ≡ length o.closed
      node = get_back o.hung (replicate m.count (length o.closed)) (k - length o.hung) k 0 (omega (arith, high))
          ∙ slice_index_or-replicate m.count (length o.closed) (k - length o.hung) 0
          (omega (arith, h, high, length-append o.hung (replicate m.count (length o.closed)), length-replicate m.count (length o.closed)))

      closed : slice_index_or (after_move o m).closed (slice_index_or (after_move o m).hung k 0) [] ≡ valley_of o
      closed = ap (λ (v : ℕ). slice_index_or (after_move o m).closed v []) node ∙ get_back o.closed (valley_of o ∷ []) 0 (length o.closed) [] (omega arith)

      from : (length o.closed ≡ 0) ⊎ AllFilled o.segments → BeginsAt (after_move o m) k
      from (inl e) = inl (node ∙ e)
      from (inr all) =
          with (times-some_of_nonempty (valley_of o) (filled_at o.segments all (valley_place o.signs) (omega (arith, place_within o.signs, kept.shaped.many))))
        where
          with : (a : ℕ) × (0 < times a (valley_of o)) → BeginsAt (after_move o m) k
          with (a, some) = inr (
            a - 1,
            omega (arith, is.0, is.1, high),
            omega (arith, some, ap (times (suc (a - 1))) closed, ap (λ (b : ℕ). times b (valley_of o)) back),
          )
            where
              is : (1 ≤ a) × (a ≤ length o.hung)
              is = hung_number o kept.played.numbered a
                  (omega (arith, some, times_at a (valley_place o.signs) o.segments, times_in-append a o.closed o.segments))

              back : suc (a - 1) ≡ a
              back = omega (arith, is.0)

  begun_then : Begun (after_move o m)
  begun_then k h = old_or_new k h (cases_lt k (length o.hung))

kept_moves : (o : Outline) (w : Word) → AreLegalFrom o w → Kept o → Kept (after_moves o w)
kept_moves o [] legal kept = kept
kept_moves o (m ∷ w) legal kept = kept_moves (after_move o m) w legal.1 (record {
  shaped = shaped_move o m legal.0 kept.shaped;
  played = played_move o m (legal.0).some kept.played;
  begun = begun_then o m kept;
  filled = inr (filled_move o m legal.0 kept.shaped);
})

module _ (w : Word) (complete : IsComplete w) where
  abbrev o : Outline
  o = outline_of w

  kept : Kept (outline_of w)
  kept = kept_moves start w complete.legal kept_start

  wire : (k : ℕ) → k < length (outline_of w).hung
      → slice_index_or (net_of_word w).wires k (0, 0)
      ≡ (slice_index_or (outline_of w).hung k 0, end_of ((outline_of w).closed ++ (outline_of w).segments) (1 + k))
  wire k h = get_or_from_slice_get (net_of_word w).wires k
      (slice_index_or (outline_of w).hung k 0, end_of ((outline_of w).closed ++ (outline_of w).segments) (1 + k)) (0, 0)
      (wires_got (end_of ((outline_of w).closed ++ (outline_of w).segments)) 1 (outline_of w).hung k h)

  -- each wire leads to a later node
  pub wire_later : (k : ℕ) → k < length (outline_of w).hung
      → (slice_index_or (net_of_word w).wires k (0, 0)).0 < (slice_index_or (net_of_word w).wires k (0, 0)).1
  wire_later k h = omega (
    arith,
    ap (λ (e : ℕ × ℕ). e.0) (wire k h),
    ap (λ (e : ℕ × ℕ). e.1) (wire k h),
    end_is_later (outline_of w) kept.played complete.one k h,
  )

  -- the place of a number is the list in which it stands
  place_is : (m v : ℕ) → 1 ≤ m → m ≤ length (outline_of w).hung → v < length (outline_of w).closed
      → 0 < times m (slice_index_or (outline_of w).closed v []) → end_of ((outline_of w).closed ++ (outline_of w).segments) m ≡ v
  place_is m v some few low here = equal (end_of ((outline_of w).closed ++ (outline_of w).segments) m) v
      (omega (arith, here, place.counts v, ap (times m) (get_front (outline_of w).closed (outline_of w).segments v [] low)))
    where
      place : HasPlace m ((outline_of w).closed ++ (outline_of w).segments) (end_of ((outline_of w).closed ++ (outline_of w).segments) m)
      place = place_of_number (outline_of w) kept.played.numbered m some few

      equal : (a b : ℕ) → 0 < cond {A = ℕ} (nat_eq a b) 1 0 → a ≡ b
      equal a b h = grind (arith, nat_tests)

  module _ (many : length (net_of_word w).wires ≡ length (outline_of w).hung) (f : Flow) (flow : IsFlow (net_of_word w) f) where
    begins : (k : ℕ) → k < length (net_of_word w).wires → ((slice_index_or (net_of_word w).wires k (0, 0)).0 ≡ 0)
        ⊎ ((j : ℕ) × (j < k) × ((slice_index_or (net_of_word w).wires j (0, 0)).1 ≡ (slice_index_or (net_of_word w).wires k (0, 0)).0))
    begins k h = from (kept.begun k (omega (arith, h, many)))
      where
        low : k < length (outline_of w).hung
        low = omega (arith, h, many)

        first : (slice_index_or (net_of_word w).wires k (0, 0)).0 ≡ slice_index_or (outline_of w).hung k 0
        first = ap (λ (e : ℕ × ℕ). e.0) (wire k low)

        from : BeginsAt (outline_of w) k → ((slice_index_or (net_of_word w).wires k (0, 0)).0 ≡ 0)
            ⊎ ((j : ℕ) × (j < k) × ((slice_index_or (net_of_word w).wires j (0, 0)).1 ≡ (slice_index_or (net_of_word w).wires k (0, 0)).0))
        from (inl e) = inl (first ∙ e)
        from (inr (j, less, some)) = inr (
          j,
          less,
          ap (λ (e : ℕ × ℕ). e.1) (wire j (omega (arith, less, low)))
              ∙ place_is (1 + j) (slice_index_or (outline_of w).hung k 0) (omega arith) (omega (arith, less, low)) (kept.played.below k low)
              (subst (λ (i : ℕ). 0 < times i (slice_index_or (outline_of w).closed (slice_index_or (outline_of w).hung k 0) [])) up some)
              ∙ sym first,
        )
          where
            up : suc j ≡ 1 + j
            up = omega arith

    drop_at : (k : ℕ) → k < length (net_of_word w).wires
        → slice_index_or f.currents k (pos 0) ≡ potential f (slice_index_or (net_of_word w).wires k (0, 0)).0 -ℤ potential f
        (slice_index_or (net_of_word w).wires k (0, 0)).1
    drop_at k h = ap (λ (cs : List ℤ). slice_index_or cs k (pos 0)) flow.differences
        ∙ get_or-map {X = ℕ × ℕ} {Y = ℤ} (λ e. potential f e.0 -ℤ potential f e.1) (net_of_word w).wires k (0, 0) (pos 0) h

    pub word_levels : AreLevels (net_of_word w).wires f.currents (level_in f)
    word_levels = record {
      top = omega (arith, ints);
      drops = λ k h. omega (arith, ints, drop_at k h);
      begun = begins;
    }

  -- the last node is where some square ends: the one segment that is left isn't empty
  pub last_end : 0 < length w → length (net_of_word w).wires ≡ length (outline_of w).hung → length (outline_of w).segments ≡ 1
      → (k : ℕ) × (k < length (net_of_word w).wires) × ((slice_index_or (net_of_word w).wires k (0, 0)).1 ≡ length (outline_of w).closed)
  last_end some many one = from kept.filled
    where
      from : (length (outline_of w).closed ≡ 0) ⊎ AllFilled (outline_of w).segments
          → (k : ℕ) × (k < length (net_of_word w).wires) × ((slice_index_or (net_of_word w).wires k (0, 0)).1 ≡ length (outline_of w).closed)
      from (inl none) = absurd (omega (arith, none, some, closed_count start w))
      from (inr all) =
          with (times-some_of_nonempty (slice_index_or (outline_of w).segments 0 []) (filled_at (outline_of w).segments all 0 (omega (arith, one))))
        where
          with : (m : ℕ) × (0 < times m (slice_index_or (outline_of w).segments 0 [])) → (k : ℕ) × (k < length (net_of_word w).wires)
              × ((slice_index_or (net_of_word w).wires k (0, 0)).1 ≡ length (outline_of w).closed)
          with (m, here) = (
            m - 1,
            omega (arith, is.0, is.1, many),
            ap (λ (e : ℕ × ℕ). e.1) (wire (m - 1) (omega (arith, is.0, is.1)))
                ∙ ap (end_of ((outline_of w).closed ++ (outline_of w).segments)) back ∙ at,
          )
            where
              is : (1 ≤ m) × (m ≤ length (outline_of w).hung)
              is = hung_number (outline_of w) kept.played.numbered m
                  (omega (arith, here, times_at m 0 (outline_of w).segments, times_in-append m (outline_of w).closed (outline_of w).segments))

              back : 1 + (m - 1) ≡ m
              back = omega (arith, is.0)

              place : HasPlace m ((outline_of w).closed ++ (outline_of w).segments) (end_of ((outline_of w).closed ++ (outline_of w).segments) m)
              place = place_of_number (outline_of w) kept.played.numbered m is.0 is.1

              equal : (a b : ℕ) → 0 < cond {A = ℕ} (nat_eq a b) 1 0 → a ≡ b
              equal a b h = grind (arith, nat_tests)

              at : end_of ((outline_of w).closed ++ (outline_of w).segments) m ≡ length (outline_of w).closed
              at = equal (end_of ((outline_of w).closed ++ (outline_of w).segments) m) (length (outline_of w).closed)
                  (omega (
                    arith,
                    here,
                    place.counts (length (outline_of w).closed),
                    ap (times m) (get_back (outline_of w).closed (outline_of w).segments 0 (length (outline_of w).closed) [] (omega arith)),
                  ))
