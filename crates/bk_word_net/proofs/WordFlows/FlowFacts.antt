-- What a flow of a word's net with currents of at least 1 says of its sides: each is the drop of its wire, and as
-- much hangs from a node as ends there. And what later moves leave as it was.
use Rattle.std.specs.List.{AllByRecursion}
use Rattle.std.specs.Prelude.{nat_abs, pos, ℤ, ◌-ℤ◌, ◌≤ℤ◌}
use Rattle.std.proofs.Common.{List, [], ap, arith, length, map, refl, replicate, slice_index_or, sym, ℕ, ◌++◌, ◌+◌, ◌<◌, ◌∙◌, ◌∷◌, ◌≡◌}
use Rattle.std.proofs.lemmas.Int.{ints}
use Rattle.std.proofs.lemmas.List.{append-nil, append_assoc, length-append, length-map}
use Rattle.bk_laws.proofs.ListPlaces.{get_front}
use Rattle.bk_laws.proofs.Occurrences.{times, times-append, times-replicate_other}
use Rattle.bk_laws.proofs.AllOfLists.{all_positive-magnitudes}
use Rattle.bk_laws.proofs.ListItems.{slice_index_or-map}
use Rattle.bk_net.specs.Flow.{Flow, IsFlow, outflow, potential}
use Rattle.bk_word.specs.Outline.{Outline, valley_of}
use Rattle.bk_word.specs.Play.{after_move, after_moves}
use Rattle.bk_word.specs.Word.{Word}
use Rattle.bk_word_net.proofs.Outlines.Numbering.{Numbered, place_of_number}
use Rattle.bk_word_net.proofs.WordFlows.Sums.{in_is_weighted, out_sum, outflow_is, weighted}
use Rattle.bk_word_net.proofs.WordFlows.Wires.{wires_by, wires_by-at, wires_length}
use Rattle.bk_word_net.specs.WordNet.{end_of, net_after}

-- a flow's currents as sides, each at least 1
pub record HasSides (f : Flow) : Type 0 where
  pub sides : List ℕ
  pub positive : AllByRecursion (λ s. 0 < s) sides
  pub currents : f.currents ≡ map pos sides

-- currents of at least 1 are sides
pub has_sides : (f : Flow) → AllByRecursion (λ c. pos 1 ≤ℤ c) f.currents → HasSides f
has_sides f long = let s = all_positive-magnitudes f.currents long in record { sides = map nat_abs f.currents; positive = s.0; currents = s.1 }

module _ (o : Outline) (numbered : Numbered o) (f : Flow) (flow : IsFlow (net_after o) f) (s : HasSides f) where
  -- there is a side for each square
  pub sides_count : length s.sides ≡ length o.hung
  sides_count = sym (length-map s.sides pos) ∙ sym (ap length s.currents) ∙ ap length flow.differences
      ∙ length-map (wires_by (end_of (o.closed ++ o.segments)) 1 o.hung) (λ w. potential f w.0 -ℤ potential f w.1)
      ∙ wires_length (end_of (o.closed ++ o.segments)) 1 o.hung

  -- the side of a square is the drop of its wire
  pub drop_of : (k : ℕ) → k < length o.hung → pos (slice_index_or s.sides k 0)
      ≡ potential f (slice_index_or o.hung k 0) -ℤ potential f (end_of (o.closed ++ o.segments) (1 + k))
  drop_of k h = sym (slice_index_or-map pos s.sides k (pos 0) 0 (omega (arith, sides_count)))
      ∙ ap (λ (cs : List ℤ). slice_index_or cs k (pos 0)) (sym s.currents ∙ flow.differences)
      ∙ slice_index_or-map (λ w. potential f w.0 -ℤ potential f w.1) (wires_by (end_of (o.closed ++ o.segments)) 1 o.hung) k (pos 0) (0, 0)
      (omega (arith, h, wires_length (end_of (o.closed ++ o.segments)) 1 o.hung))
      ∙ ap (λ (w : ℕ × ℕ). potential f w.0 -ℤ potential f w.1) (wires_by-at (end_of (o.closed ++ o.segments)) 1 o.hung k (0, 0) h)

  flows : (v : ℕ) → outflow (net_after o).wires f.currents v
      ≡ pos (out_sum o.hung s.sides v) -ℤ pos (weighted s.sides 1 (slice_index_or (o.closed ++ o.segments) v []))
  flows v = ap (λ (cs : List ℤ). outflow (net_after o).wires cs v) s.currents
      ∙ outflow_is (end_of (o.closed ++ o.segments)) 1 o.hung s.sides v (sym sides_count)
      ∙ ap (λ (n : ℕ). pos (out_sum o.hung s.sides v) -ℤ pos n)
      (in_is_weighted (end_of (o.closed ++ o.segments)) 1 s.sides v (slice_index_or (o.closed ++ o.segments) v [])
      (λ k h. (place_of_number o numbered (1 + k) (omega arith) (omega (arith, sides_count))).counts v))

  -- as much hangs from a closed node as ends there
  pub balance : (v : ℕ) → 0 < v → v < length o.closed → out_sum o.hung s.sides v ≡ weighted s.sides 1 (slice_index_or o.closed v [])
  balance v h few = omega (arith, ints, flows v, flow.between v h (omega arith), ap (weighted s.sides 1) (get_front o.closed o.segments v [] few))

  -- what hangs from the first, less what ends there, is the total
  pub total_is : pos (out_sum o.hung s.sides 0) -ℤ pos (weighted s.sides 1 (slice_index_or (o.closed ++ o.segments) 0 [])) ≡ f.total
  total_is = sym (flows 0) ∙ flow.first

-- what stands closed and hung in an outline stands so in a later one
pub record IsLater (o later : Outline) : Type 0 where
  pub hung : List ℕ
  pub hung_is : later.hung ≡ o.hung ++ hung
  pub hung_from : (j : ℕ) → j < length o.closed → times j hung ≡ 0
  pub closed : List (List ℕ)
  pub closed_is : later.closed ≡ o.closed ++ closed

-- further moves lead to a later outline
pub is_later : (o : Outline) (w : Word) → IsLater o (after_moves o w)
is_later o [] = record { hung = []; hung_is = sym (append-nil o.hung); hung_from = λ j h. refl; closed = []; closed_is = sym (append-nil o.closed) }
is_later o (m ∷ w) = from (is_later (after_move o m) w)
  where
    from : IsLater (after_move o m) (after_moves (after_move o m) w) → IsLater o (after_moves (after_move o m) w)
    from r = record {
      hung = replicate m.count (length o.closed) ++ r.hung;
      hung_is = r.hung_is ∙ append_assoc o.hung (replicate m.count (length o.closed)) r.hung;
      hung_from = λ j h. omega (
        arith,
        times-append j (replicate m.count (length o.closed)) r.hung,
        times-replicate_other m.count (length o.closed) j (λ e. absurd (omega (arith, e))),
        r.hung_from j (omega (arith, length-append o.closed (valley_of o ∷ []))),
      );
      closed = valley_of o ∷ r.closed;
      closed_is = r.closed_is ∙ append_assoc o.closed (valley_of o ∷ []) r.closed;
    }
