-- Where the squares of the leftmost valley stand while squares are placed from a flow, and that the sides of the next move fill it.
use Rattle.std.specs.List.{concat}
use Rattle.std.specs.Prelude.{nat_abs, pos, ◌-ℤ◌}
use Rattle.std.proofs.Common.{List, Some, [], ap, arith, drop, inl, length, refl, replicate, slice_get, slice_index_or, subst, suc, sym, take, ℕ}
use Rattle.std.proofs.Common.{◌++◌, ◌+◌, ◌<◌, ◌∙◌, ◌∷◌, ◌≡◌, ◌≤◌}
use Rattle.std.proofs.lemmas.Int.{ints}
use Rattle.std.proofs.lemmas.List.{length-append}
use Rattle.std.proofs.lemmas.Option.{get_or_from_slice_get, slice_get_within}
use Rattle.bk_laws.proofs.Occurrences.{times, times-first_positive}
use Rattle.bk_laws.proofs.ListPlaces.{get_append, get_back, get_front}
use Rattle.bk_laws.proofs.Totals.{total}
use Rattle.bk_laws.proofs.ListItems.{concat-cut_at}
use Rattle.bk_laws.proofs.Sums.{total-positive_of_positive}
use Rattle.bk_laws.proofs.TestsAsNumbers.{nat_eq-same_if_counted}
use Rattle.bk_tiling.proofs.Rows.{laid_sides}
use Rattle.bk_tiling.specs.Column.{depth}
use Rattle.bk_tiling.specs.declared.Square.{Square}
use Rattle.bk_net.specs.Flow.{Flow, IsFlow, potential}
use Rattle.bk_word.specs.Outline.{Outline, valley_of, valley_place}
use Rattle.bk_word.specs.Play.{after_move}
use Rattle.bk_word.specs.Word.{Move}
use Rattle.bk_lay.specs.Depiction.{IsNumbered, Span}
use Rattle.bk_word_net.proofs.Outlines.BottomChain.{BottomChain, chain_least, chain_level, chain_split}
use Rattle.bk_word_net.proofs.WordFlows.FlowFacts.{HasSides, IsLater, balance, drop_of}
use Rattle.bk_word_net.proofs.WordFlows.NoLoose.{Played}
use Rattle.bk_word_net.proofs.Outlines.Numbering.{HasPlace, place_of_number}
use Rattle.bk_word_net.proofs.PlacedSquares.NextSides.{Base, ValleyAt, hung_is, more, next_sides}
use Rattle.bk_word_net.proofs.WordFlows.Sums.{get_side, out_sum, span_sum_of, weighted, weighted_nil}
use Rattle.bk_word_net.specs.WordNet.{end_of, net_after}

module _ (O : Outline) (played : Played O) (f : Flow) (flow : IsFlow (net_after O) f) (s : HasSides f) (width : ℕ)
    (width_is : width ≡ out_sum O.hung s.sides 0) where
  module _ (laid : List Square) (o : Outline) (m : Move) (own : Played o) (base : Base O played f flow s width width_is laid o) (some : 0 < m.count) (later
      : IsLater (after_move o m) O) where
    -- the number of a laid square is that of a wire
    wire_of : (k : ℕ) (q : Square) → slice_get laid k ≡ Some q → k < length O.hung
    wire_of k q e = omega (
      arith,
      slice_get_within laid k q e,
      base.count,
      ap length (hung_is O played f flow s width width_is laid o m own base some later),
      length-append o.hung (replicate m.count (length o.closed) ++ later.hung),
    )

    -- the bottom of a laid square
    bottom_of : (k : ℕ) (q : Square) → slice_get laid k ≡ Some q → pos (q.y + q.s) ≡ potential f 0 -ℤ potential f (end_of (O.closed ++ O.segments) (1 + k))
    bottom_of k q e = omega (arith, ints, base.tops k q e, drop_of O played.numbered f flow s k (wire_of k q e), side)
      where
        side : slice_index_or s.sides k 0 ≡ q.s
        side = get_or_from_slice_get s.sides k q.s 0 (subst (λ (l : List ℕ). slice_get l k ≡ Some q.s) (sym base.prefix)
            (get_append (laid_sides laid) base.rest k q.s (get_side laid k q e)))

    closed_at : slice_index_or O.closed (length o.closed) [] ≡ valley_of o
    closed_at = ap (λ (l : List (List ℕ)). slice_index_or l (length o.closed) []) later.closed_is
        ∙ get_front (o.closed ++ valley_of o ∷ []) later.closed (length o.closed) [] (omega (
          arith,
          more O played f flow s width width_is laid o m own base
              some later,
        ))
        ∙ get_back o.closed (valley_of o ∷ []) 0 (length o.closed) [] (omega arith)

    few_closed : length o.closed < length O.closed
    few_closed = omega (
      arith,
      ap length later.closed_is,
      length-append (o.closed ++ valley_of o ∷ []) later.closed,
      more O played f flow s width width_is
          laid o m own base some later,
    )

    -- a square of the valley ends at the node that is closed next
    ends_here : (n : ℕ) (q : Square) → 0 < times n (valley_of o) → IsNumbered laid n q → pos (q.y + q.s) ≡ potential f 0 -ℤ potential f (length o.closed)
    ends_here n q h (k, is, at) = bottom_of k q at ∙ ap (λ (v : ℕ). potential f 0 -ℤ potential f v) place
      where
        p : HasPlace (1 + k) (O.closed ++ O.segments) (end_of (O.closed ++ O.segments) (1 + k))
        p = place_of_number O played.numbered (1 + k) (omega arith) (omega (arith, wire_of k q at))

        stands : times (1 + k) (slice_index_or (O.closed ++ O.segments) (length o.closed) []) ≡ times n (valley_of o)
        stands = ap (times (1 + k)) (get_front O.closed O.segments (length o.closed) [] few_closed ∙ closed_at) ∙ (λ i. times (number i) (valley_of o))
          where
            number : 1 + k ≡ n
            number = omega (arith, is)

        place : end_of (O.closed ++ O.segments) (1 + k) ≡ length o.closed
        place = nat_eq-same_if_counted (end_of (O.closed ++ O.segments) (1 + k)) (length o.closed) (omega (arith, h, stands, p.counts (length o.closed)))

    -- where the squares of the leftmost valley stand, and that the new sides fill it
    pub valley_at : 0 < length o.closed → BottomChain laid 0 (concat o.segments) width → (x : ℕ)
        × ((level : ℕ) × ValleyAt O played f flow s width width_is laid o x level (total (next_sides O played f flow s width width_is laid o m own base
        some later).new))
    valley_at begun chain = (a, (nat_abs (potential f 0 -ℤ potential f (length o.closed)), found))
      where
        cut : BottomChain laid 0 (concat (take (valley_place o.signs) o.segments)
            ++ (valley_of o ++ concat (drop (suc (valley_place o.signs)) o.segments))) width
        cut = subst (λ (ns : List ℕ). BottomChain laid 0 ns width) (concat-cut_at (valley_place o.signs) o.segments) chain

        first : (mid : ℕ) × BottomChain laid 0 (concat (take (valley_place o.signs) o.segments)) mid
            × BottomChain laid mid (valley_of o ++ concat (drop (suc (valley_place o.signs)) o.segments)) width
        first = chain_split laid 0 (concat (take (valley_place o.signs) o.segments))
            (valley_of o ++ concat (drop (suc (valley_place o.signs)) o.segments)) width cut

        a : ℕ
        a = first.0

        second : (mid : ℕ) × BottomChain laid first.0 (valley_of o) mid × BottomChain laid mid (concat (drop (suc (valley_place o.signs)) o.segments)) width
        second = chain_split laid first.0 (valley_of o) (concat (drop (suc (valley_place o.signs)) o.segments)) width first.2

        flat : Span laid (nat_abs (potential f 0 -ℤ potential f (length o.closed))) first.0 (valley_of o) second.0
            × ((c : ℕ) → first.0 ≤ c → c < second.0 → depth laid c ≡ nat_abs (potential f 0 -ℤ potential f (length o.closed)))
        flat = chain_level laid (nat_abs (potential f 0 -ℤ potential f (length o.closed))) first.0 (valley_of o) second.0 second.1
            (λ n q h at. ap nat_abs (ends_here n q h at))

        sides_there : (k : ℕ) (q : Square) → slice_get laid k ≡ Some q → slice_get s.sides k ≡ Some q.s
        sides_there k q e = subst (λ (l : List ℕ). slice_get l k ≡ Some q.s) (sym base.prefix)
            (get_append (laid_sides laid) base.rest k q.s (get_side laid k q e))

        sum : total (next_sides O played f flow s width width_is laid o m own base some later).new ≡ weighted s.sides 1 (valley_of o)
        sum = (next_sides O played f flow s width width_is laid o m own base some later).sum ∙ balance O played.numbered f flow s (length o.closed) begun
            few_closed ∙ ap (weighted s.sides 1) closed_at

        wide : first.0 + total (next_sides O played f flow s width width_is laid o m own base some later).new ≡ second.0
        wide = omega (
          arith,
          sum,
          span_sum_of laid s.sides sides_there (nat_abs (potential f 0 -ℤ potential f (length o.closed))) first.0
              (valley_of o) second.0 flat.0,
        )

        level_is : (numbers : List ℕ) → valley_of o ≡ numbers → BottomChain laid first.0 numbers second.0
            → pos (nat_abs (potential f 0 -ℤ potential f (length o.closed))) ≡ potential f 0 -ℤ potential f (length o.closed)
        level_is [] e c = absurd (omega (
          arith,
          sum,
          ap (weighted s.sides 1) e,
          weighted_nil s.sides 1,
          total-positive_of_positive (next_sides O played f flow s width width_is laid o m own base some later).new
              (next_sides O played f flow s width width_is laid o
              m own base some later).some (omega (arith, (next_sides O played f flow s width width_is laid o m own base some later).count, some)),
        ))
        level_is (n ∷ numbers) e c = sym (ap (λ z. pos (nat_abs z)) here) ∙ here
          where
            here : pos ((c.0).y + (c.0).s) ≡ potential f 0 -ℤ potential f (length o.closed)
            here = ends_here n c.0 (subst (λ (ns : List ℕ). 0 < times n ns) (sym e) (times-first_positive n numbers)) c.1

        found : ValleyAt O played f flow s width width_is laid o first.0 (nat_abs (potential f 0 -ℤ potential f (length o.closed))) (total (next_sides O
            played f flow s width width_is laid o m own base some later).new)
        found = record {
          place = inl (subst (λ (y : ℕ). Span laid (nat_abs (potential f 0 -ℤ potential f (length o.closed))) first.0 (valley_of o) y) (sym wide) flat.0);
          deep = λ c lo hi. flat.1 c lo (omega (arith, wide));
          fits = omega (arith, wide, chain_least laid second.0 (concat (drop (suc (valley_place o.signs)) o.segments)) width second.2);
          level_is = level_is (valley_of o) refl second.1;
          before = first.1;
          after = subst (λ (y : ℕ). BottomChain laid y (concat (drop (suc (valley_place o.signs)) o.segments)) width) (sym wide) second.2;
        }
