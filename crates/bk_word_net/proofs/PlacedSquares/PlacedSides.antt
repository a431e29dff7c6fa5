-- Where a tiling has a word, the currents and the drops of a flow of the word's net are in proportion to the tiling's sides and levels.
use Rattle.std.specs.List.{AllByRecursion}
use Rattle.std.specs.Prelude.{nat_abs, pos, ℤ, ◌*ℤ◌, ◌-ℤ◌, ◌≤ℤ◌}
use Rattle.std.proofs.Common.{List, [], ap, arith, inl, inr, length, map, slice_get, sym, ℕ, ◌*◌, ◌++◌, ◌+◌, ◌<◌, ◌∙◌, ◌∷◌, ◌≡◌, ◌≤◌, ◌⊎◌}
use Rattle.std.proofs.lemmas.Int.{ints}
use Rattle.std.proofs.lemmas.List.{length-append}
use Rattle.bk_laws.proofs.WholeNumbers.{abs-mul, mul-sub}
use Rattle.bk_laws.proofs.Magnitudes.{positive-of_proportion}
use Rattle.bk_tiling.proofs.Cells.{in_all}
use Rattle.bk_tiling.proofs.TilingLaws.{wide_enough}
use Rattle.bk_tiling.specs.declared.Segment.{Segment}
use Rattle.bk_tiling.specs.Tiling.{IsOneOf, IsTiling, Tiling}
use Rattle.bk_tiling.specs.declared.Square.{Square}
use Rattle.bk_net.proofs.OneFlowLaws.{ends_from_net, same_level}
use Rattle.bk_net.specs.Flow.{Flow, IsFlow, potential}
use Rattle.bk_net.specs.Net.{last_node}
use Rattle.bk_word.specs.Outline.{start}
use Rattle.bk_word.specs.Play.{IsComplete, outline_of}
use Rattle.bk_word.specs.Word.{Word}
use Rattle.bk_lay.proofs.WordPlay.{tiling_word_is_complete}
use Rattle.bk_lay.specs.Depiction.{IsNumbered}
use Rattle.bk_lay.specs.TilingWord.{IsWordOf}
use Rattle.bk_word_net.proofs.TilingWords.AlongWord.{AtEnd, HasBegun, NotBegun, at_end}
use Rattle.bk_word_net.proofs.WordFlows.LaidFlow.{end_level, laid_sides_are_a_flow, potential_at}
use Rattle.bk_word_net.proofs.WordFlows.NoLoose.{Played, a_word_has_one_flow, a_word_net_has_no_loose, closed_count, played_word}
use Rattle.bk_word_net.proofs.Outlines.Numbering.{place_of_number}
use Rattle.bk_word_net.proofs.PlacedSquares.OneTiling.{laid_along}
use Rattle.bk_word_net.specs.FlowTiling.{bottom_in}
use Rattle.bk_word_net.specs.WordFlow.{LaidAlong, laid_flow, laid_so_far}
use Rattle.bk_word_net.specs.WordNet.{end_of, net_after}

module _ (t : Tiling) (w : Word) (f : Flow) (tiling : IsTiling t) (p : IsWordOf t w) (flow : IsFlow (net_after (outline_of w)) f) (all : ℕ)
    (some : 0 < all) (total_is : f.total ≡ pos all) where
  -- the word of a tiling is complete
  pub complete : IsComplete w
  complete = (tiling_word_is_complete t w tiling p).0

  -- what is laid along the word
  pub tl : (laid : List Square) × ((levels : List ℕ) × LaidAlong t (laid_so_far [] []) w (laid_so_far laid levels))
  tl = laid_along t [] [] w p

  g_flow : IsFlow (net_after (outline_of w)) (laid_flow t tl.0 (tl.1).0)
  g_flow = laid_sides_are_a_flow t w tl.0 (tl.1).0 tiling p (tl.1).1

  -- what is so at its end
  pub e : AtEnd t (outline_of w) tl.0 (tl.1).0
  e = at_end t w tiling p tl.0 (tl.1).0 (tl.1).1

  played : Played (outline_of w)
  played = played_word w complete

  begun : 0 < length (outline_of w).closed
  begun = omega (arith, closed_count start w, complete.some)

  -- the currents
  pub proportion : map (λ c. c *ℤ pos t.width) f.currents ≡ map (λ c. c *ℤ f.total) (map (λ q. pos q.s) tl.0)
  proportion = (a_word_has_one_flow w (laid_flow t tl.0 (tl.1).0) complete g_flow (omega (arith, ints, wide_enough t tiling))).proportional f flow

  -- currents in proportion to the sides of squares of the tiling are positive
  pub currents : (cs : List ℤ) (squares : List Square) → map (λ c. c *ℤ pos t.width) cs ≡ map (λ c. c *ℤ f.total) (map (λ q. pos q.s) squares)
      → AllByRecursion (λ q. IsOneOf q t.squares) squares → AllByRecursion (λ c. pos 1 ≤ℤ c) cs
  currents [] squares eq ins = tt
  currents (c ∷ cs) [] eq ins = absurd (cc)
  currents (c ∷ cs) (q ∷ squares) eq ins = (
    positive-of_proportion c q.s t.width all
        (in_all (λ q. 0 < q.s) t.squares (tiling.tiles).sides q ins.0) some (first ∙ ap (λ (z : ℤ). pos q.s *ℤ z) total_is),
    currents cs squares rest ins.1,
  )
    where
      first : c *ℤ pos t.width ≡ pos q.s *ℤ f.total
      first = cc

      rest : map (λ c. c *ℤ pos t.width) cs ≡ map (λ c. c *ℤ f.total) (map (λ q. pos q.s) squares)
      rest = cc

  -- the drops
  drops : (v : ℕ) → v < length (outline_of w).closed + 1
      → all * nat_abs (potential (laid_flow t tl.0 (tl.1).0) 0 -ℤ potential (laid_flow t tl.0 (tl.1).0) v) ≡ t.width * nat_abs (potential f 0 -ℤ potential f v)
  drops v few = sym (abs-mul all (potential (laid_flow t tl.0 (tl.1).0) 0 -ℤ potential (laid_flow t tl.0 (tl.1).0) v)) ∙ ap nat_abs between
      ∙ abs-mul t.width (potential f 0 -ℤ potential f v)
    where
      level : (v : ℕ) → v < length (outline_of w).closed + 1 → f.total *ℤ potential (laid_flow t tl.0 (tl.1).0) v -ℤ pos t.width *ℤ potential f v
          ≡ f.total *ℤ potential (laid_flow t tl.0 (tl.1).0) (last_node (net_after (outline_of w))) -ℤ pos t.width *ℤ potential f
          (last_node (net_after (outline_of w)))
      level v h = same_level (net_after (outline_of w)) (ends_from_net (net_after (outline_of w)) (a_word_net_has_no_loose w complete).0)
          (a_word_net_has_no_loose w complete).1 f (laid_flow t tl.0 (tl.1).0) flow g_flow v h

      between : pos all *ℤ (potential (laid_flow t tl.0 (tl.1).0) 0 -ℤ potential (laid_flow t tl.0 (tl.1).0) v)
          ≡ pos t.width *ℤ (potential f 0 -ℤ potential f v)
      between = ap (λ (z : ℤ). z *ℤ (potential (laid_flow t tl.0 (tl.1).0) 0 -ℤ potential (laid_flow t tl.0 (tl.1).0) v)) (sym total_is)
          ∙ mul-sub f.total (potential (laid_flow t tl.0 (tl.1).0) 0) (potential (laid_flow t tl.0 (tl.1).0) v)
          ∙ omega (arith, ints, level 0 (omega arith), level v few) ∙ sym (mul-sub (pos t.width) (potential f 0) (potential f v))

  place : (n : ℕ) → 1 ≤ n → n ≤ length (outline_of w).hung → end_of ((outline_of w).closed ++ (outline_of w).segments) n < length (outline_of w).closed + 1
  place n a b = omega (
    arith,
    (place_of_number (outline_of w) played.numbered n a b).below,
    length-append (outline_of w).closed (outline_of w).segments,
    complete.one,
  )

  -- bottoms by the flow are in proportion to those by the flow of the tiling
  pub alike : (n : ℕ) → 1 ≤ n → n ≤ length (outline_of w).hung
      → all * bottom_in (laid_flow t tl.0 (tl.1).0) ((outline_of w).closed ++ (outline_of w).segments) n
      ≡ t.width * bottom_in f ((outline_of w).closed ++ (outline_of w).segments) n
  alike n a b = drops (end_of ((outline_of w).closed ++ (outline_of w).segments) n) (place n a b)

  -- the bottoms of the tiling's own flow are the levels of its squares' bottoms
  first_potential : potential (laid_flow t tl.0 (tl.1).0) 0 ≡ pos t.height -ℤ pos 0
  first_potential = from (e.along).begun
    where
      from : NotBegun tl.0 e.nodes (outline_of w) ⊎ HasBegun t tl.0 e.nodes (outline_of w) → potential (laid_flow t tl.0 (tl.1).0) 0 ≡ pos t.height -ℤ pos 0
      from (inl n) = absurd (omega (arith, begun, ap length n.no_list))
      from (inr b) = potential_at t w tiling p (outline_of w) played.numbered begun tl.0 (tl.1).0 e 0 b.top
          (ap (λ (l : List Segment). slice_get (l ++ ((e.along).depicts).runs) 0) b.nodes_are) ∙ ap (λ (l : ℕ). pos t.height -ℤ pos l) b.level

  -- the bottoms by the tiling's flow are those of its squares
  pub bottom_is : (n : ℕ) (q : Square) → IsNumbered tl.0 n q
      → bottom_in (laid_flow t tl.0 (tl.1).0) ((outline_of w).closed ++ (outline_of w).segments) n ≡ q.y + q.s
  bottom_is n q (k, is, at) = (λ i. bottom_in (laid_flow t tl.0 (tl.1).0) ((outline_of w).closed ++ (outline_of w).segments) (number i)) ∙ ap nat_abs drop
    where
      number : n ≡ 1 + k
      number = omega (arith, is)

      drop : potential (laid_flow t tl.0 (tl.1).0) 0 -ℤ potential (laid_flow t tl.0 (tl.1).0)
          (end_of ((outline_of w).closed ++ (outline_of w).segments) (1 + k)) ≡ pos (q.y + q.s)
      drop = omega (arith, ints, first_potential, end_level t w tiling p (outline_of w) played.numbered begun tl.0 (tl.1).0 e k q at)
