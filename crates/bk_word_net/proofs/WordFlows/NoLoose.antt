-- The net of a complete word: each wire leads to a later node, and one leads from each node but the last. So no
-- node is loose, and each flow of a positive total is the one flow.
use Rattle.std.specs.List.{AllByRecursion}
use Rattle.std.proofs.Common.{Contains, List, [], arith, inl, inr, length, replicate, slice_index_or, subst, suc, zero, ℕ, ◌++◌, ◌+◌, ◌-◌, ◌<◌, ◌∙◌}
use Rattle.std.proofs.Common.{◌∷◌, ◌≡◌, ◌≤◌, ◌⊎◌}
use Rattle.std.proofs.lemmas.Bool.{cases_lt}
use Rattle.std.proofs.lemmas.List.Elements.{All-from_recursion}
use Rattle.std.proofs.lemmas.List.{length-append, length-replicate}
use Rattle.bk_laws.proofs.ListPlaces.{get_back, get_front}
use Rattle.bk_laws.proofs.Occurrences.{slice_index_or-of_times_positive, times, times-append, times-replicate, times_at, times_in, times_in-append}
use Rattle.bk_laws.proofs.ListItems.{slice_index_or-replicate}
use Rattle.bk_laws.proofs.NumberOrder.{le-same_or_less}
use Rattle.bk_net.proofs.OneFlowLaws.{ends_from_net, one_flow}
use Rattle.bk_net.specs.Net.{HasNoLoose, IsJoined, IsNet, along, here}
use Rattle.bk_word.specs.Outline.{Outline, start, valley_of, valley_place}
use Rattle.bk_word.specs.Play.{AreLegalFrom, IsComplete, after_move, after_moves, outline_of}
use Rattle.bk_word.specs.Word.{Move, Word}
use Rattle.bk_word_net.proofs.Outlines.Numbering.{HasPlace, Numbered, numbered_move, numbered_start, place_of_number, times_some}
use Rattle.bk_word_net.proofs.WordFlows.Wires.{wires_all, wires_by-at, wires_length}
use Rattle.bk_word_net.specs.WordFlow.{AWordHasOneFlow, AWordNetHasNoLoose}
use Rattle.bk_word_net.specs.WordNet.{end_of, net_after, net_of_word}

-- what the play of legal moves keeps: the squares of a closed segment hang from nodes before it, all squares hang
-- from closed nodes, and some square hangs from each
pub record Played (o : Outline) : Type 0 where
  pub numbered : Numbered o
  pub below : (k : ℕ) → k < length o.hung → slice_index_or o.hung k 0 < length o.closed
  pub descends : (j m : ℕ) → j < length o.closed → 0 < times m (slice_index_or o.closed j []) → slice_index_or o.hung (m - 1) 0 < j
  pub used : (j : ℕ) → j < length o.closed → 0 < times j o.hung

-- the start is played
pub played_start : Played start
played_start = record {
  numbered = numbered_start;
  below = λ k h. absurd (omega arith);
  descends = λ j m h k. absurd (omega arith);
  used =
      λ j h. absurd (omega arith);
}

-- the numbers that stand in the lists are those of squares
pub hung_number : (o : Outline) → Numbered o → (m : ℕ) → 0 < times_in m (o.closed ++ o.segments) → (1 ≤ m) × (m ≤ length o.hung)
hung_number o numbered m h = let r = times_some m 1 (length o.hung) (omega (arith, numbered m)) in (r.0, omega (arith, r.1))

-- a move of some squares leaves an outline that is played
pub played_move : (o : Outline) (n : Move) → 0 < n.count → Played o → Played (after_move o n)
played_move o n some p = record {
  numbered = numbered_move o n p.numbered;
  below = λ k h. below k (cases_lt k (length o.hung)) h;
  descends = λ j m h k. descends j m (cases_lt j (length o.closed)) h k;
  used = λ j h. omega (arith, times-append j o.hung news, used j (cases_lt j (length o.closed)) h);
}
  where
    news : List ℕ
    news = replicate n.count (length o.closed)

    more : length (o.closed ++ valley_of o ∷ []) ≡ length o.closed + 1
    more = omega (arith, length-append o.closed (valley_of o ∷ []))

    long : length (o.hung ++ replicate n.count (length o.closed)) ≡ length o.hung + n.count
    long = omega (arith, length-append o.hung (replicate n.count (length o.closed)), length-replicate n.count (length o.closed))

    below : (k : ℕ) → (k < length o.hung) ⊎ (length o.hung ≤ k) → k < length (o.hung ++ replicate n.count (length o.closed))
        → slice_index_or (o.hung ++ replicate n.count (length o.closed)) k 0 < length (o.closed ++ valley_of o ∷ [])
    below k (inl a) h = omega (arith, get_front o.hung (replicate n.count (length o.closed)) k 0 a, p.below k a, more)
    below k (inr a) h = omega (
      arith,
      get_back o.hung (replicate n.count (length o.closed)) (k - length o.hung) k 0 (omega arith),
      slice_index_or-replicate n.count (length o.closed) (k - length o.hung) 0 (omega (arith, long)),
      more,
    )

    -- the number of a square that was hung before keeps its node
    keeps : (m : ℕ) → (1 ≤ m) × (m ≤ length o.hung) → slice_index_or (o.hung ++ replicate n.count (length o.closed)) (m - 1) 0 ≡ slice_index_or o.hung (m - 1) 0
    keeps m h = get_front o.hung (replicate n.count (length o.closed)) (m - 1) 0 (omega (arith, h.0, h.1))

    descends : (j m : ℕ) → (j < length o.closed) ⊎ (length o.closed ≤ j) → j < length (o.closed ++ valley_of o ∷ [])
        → 0 < times m (slice_index_or (o.closed ++ valley_of o ∷ []) j []) → slice_index_or (o.hung ++ replicate n.count (length o.closed)) (m - 1) 0 < j
    descends j m (inl a) h k = omega (
      arith,
      keeps m
          (hung_number o p.numbered m (omega (arith, old, times_at m j o.closed, times_in-append m o.closed o.segments))),
      p.descends j m a old,
    )
      where
        old : 0 < times m (slice_index_or o.closed j [])
        old = subst (λ (numbers : List ℕ). 0 < times m numbers) (get_front o.closed (valley_of o ∷ []) j [] a) k
    descends j m (inr a) h k = omega (arith, keeps m is, p.below (m - 1) (omega (arith, is.0, is.1)))
      where
        new : 0 < times m (valley_of o)
        new = subst (λ (numbers : List ℕ). 0 < times m numbers) (get_back o.closed (valley_of o ∷ []) 0 j [] (omega (arith, more))) k

        is : (1 ≤ m) × (m ≤ length o.hung)
        is = hung_number o p.numbered m (omega (arith, new, times_at m (valley_place o.signs) o.segments, times_in-append m o.closed o.segments))

    used : (j : ℕ) → (j < length o.closed) ⊎ (length o.closed ≤ j) → j < length (o.closed ++ valley_of o ∷ [])
        → 0 < times j o.hung + times j (replicate n.count (length o.closed))
    used j (inl a) h = omega (arith, p.used j a)
    used j (inr a) h = omega (arith, at, times-replicate n.count (length o.closed), some)
      where
        same : j ≡ length o.closed
        same = omega (arith, more)

        at : times j (replicate n.count (length o.closed)) ≡ times (length o.closed) (replicate n.count (length o.closed))
        at = λ i. times (same i) (replicate n.count (length o.closed))

-- legal moves leave an outline that is played
pub played_moves : (o : Outline) (w : Word) → AreLegalFrom o w → Played o → Played (after_moves o w)
played_moves o [] legal p = p
played_moves o (m ∷ w) legal p = played_moves (after_move o m) w legal.1 (played_move o m (legal.0).some p)

module _ (o : Outline) (p : Played o) (one : length o.segments ≡ 1) where
  ends : List (List ℕ)
  ends = o.closed ++ o.segments

  place : (k : ℕ) → k < length o.hung → HasPlace (1 + k) (o.closed ++ o.segments) (end_of (o.closed ++ o.segments) (1 + k))
  place k h = place_of_number o p.numbered (1 + k) (omega arith) (omega arith)

  -- at the end each square ends at a node
  pub end_is_node : (k : ℕ) → k < length o.hung → end_of (o.closed ++ o.segments) (1 + k) < length o.closed + 1
  end_is_node k h = let b = (place k h).below in omega (arith, length-append o.closed o.segments, one)

  -- later than the one from which it hangs
  pub end_is_later : (k : ℕ) → k < length o.hung → slice_index_or o.hung k 0 < end_of (o.closed ++ o.segments) (1 + k)
  end_is_later k h = cases (cases_lt (end_of (o.closed ++ o.segments) (1 + k)) (length o.closed))
    where
      back : (1 + k) - 1 ≡ k
      back = omega arith

      cases : (end_of (o.closed ++ o.segments) (1 + k) < length o.closed) ⊎ (length o.closed ≤ end_of (o.closed ++ o.segments) (1 + k))
          → slice_index_or o.hung k 0 < end_of (o.closed ++ o.segments) (1 + k)
      cases (inl a) = subst (λ (n : ℕ). slice_index_or o.hung n 0 < end_of (o.closed ++ o.segments) (1 + k)) back
          (p.descends (end_of (o.closed ++ o.segments) (1 + k)) (1 + k) a
          (subst (λ (numbers : List ℕ). 0 < times (1 + k) numbers)
          (get_front o.closed o.segments (end_of (o.closed ++ o.segments) (1 + k)) [] a) (place k h).here))
      cases (inr a) = omega (arith, p.below k h)

  wires : AllByRecursion (λ w. (w.0 < length o.closed + 1) × (w.1 < length o.closed + 1) × (w.0 ≡ w.1 → ⊥)) (net_after o).wires
  wires = wires_all (λ w. (w.0 < length o.closed + 1) × (w.1 < length o.closed + 1) × (w.0 ≡ w.1 → ⊥)) (end_of (o.closed ++ o.segments)) 1 o.hung
      (λ k h. (omega (arith, p.below k h), end_is_node k h, λ e. absurd (omega (arith, end_is_later k h))))

  -- from each node but the last a wire leads to a later one
  onwards : (v : ℕ) → v < length o.closed → (e : ℕ) × (v < e) × (e < length o.closed + 1) × Contains (net_after o).wires (v, e)
  onwards v h = (
    end_of (o.closed ++ o.segments) (1 + k.0),
    omega (arith, end_is_later k.0 k.1, k.2),
    end_is_node k.0 k.1,
    (
      k.0,
      omega (arith, k.1, wires_length (end_of (o.closed ++ o.segments)) 1 o.hung),
      wires_by-at (end_of (o.closed ++ o.segments)) 1 o.hung k.0 (v, end_of (o.closed ++ o.segments) (1 + k.0)) k.1
          ∙ (λ i. (k.2 i, end_of (o.closed ++ o.segments) (1 + k.0))),
    ),
  )
    where
      k : (k : ℕ) × (k < length o.hung) × (slice_index_or o.hung k 0 ≡ v)
      k = slice_index_or-of_times_positive v o.hung (p.used v h)

  joined_to_last : (fuel v : ℕ) → v ≤ length o.closed → length o.closed ≤ v + fuel → IsJoined (net_after o).wires v (length o.closed)
  joined_to_last zero v a b = subst (λ (u : ℕ). IsJoined (net_after o).wires v u) same here
    where
      same : v ≡ length o.closed
      same = omega arith
  joined_to_last (suc fuel) v a b = cases (le-same_or_less v (length o.closed) a) (joined_to_last fuel)
    where
      cases : (v ≡ length o.closed) ⊎ (v < length o.closed)
          → ((v : ℕ) → v ≤ length o.closed → length o.closed ≤ v + fuel → IsJoined (net_after o).wires v (length o.closed))
          → IsJoined (net_after o).wires v (length o.closed)
      cases (inl e) rest = subst (λ (u : ℕ). IsJoined (net_after o).wires v u) e here
      cases (inr h) rest = let w = onwards v h in along w.3 (rest w.0 (omega (arith, w.2)) (omega (arith, w.1)))

  -- no node of a complete word's net is loose
  pub no_loose : HasNoLoose (net_after o)
  no_loose v h = subst (λ (u : ℕ). IsJoined (net_after o).wires v u) last (joined_to_last (length o.closed) v (omega arith) (omega arith))
    where
      last : length o.closed ≡ length o.closed + 1 - 1
      last = omega arith

  -- the net of a word that has closed a node is a net
  pub is_net : 0 < length o.closed → IsNet (net_after o)
  is_net some = record { some = omega arith; ends = All-from_recursion _ (net_after o).wires wires }

-- each move closes one node
pub closed_count : (o : Outline) (w : Word) → length (after_moves o w).closed ≡ length o.closed + length w
closed_count o [] = omega arith
closed_count o (m ∷ w) = omega (arith, closed_count (after_move o m) w, length-append o.closed (valley_of o ∷ []))

-- a complete word is played
pub played_word : (w : Word) → IsComplete w → Played (outline_of w)
played_word w complete = played_moves start w complete.legal played_start

-- the law: from each node wires lead on to the last one
pub a_word_net_has_no_loose : AWordNetHasNoLoose
a_word_net_has_no_loose w complete = (
  is_net (outline_of w) (played_word w complete) complete.one (let some = complete.some in omega (arith, closed_count start w)),
  no_loose (outline_of w) (played_word w complete) complete.one,
)

-- the law: a net without a loose node has one flow
pub a_word_has_one_flow : AWordHasOneFlow
a_word_has_one_flow w f complete flow positive = let net = a_word_net_has_no_loose w complete in
    one_flow (net_of_word w) (ends_from_net (net_of_word w) net.0) net.1 f flow positive
