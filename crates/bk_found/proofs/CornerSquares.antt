-- The longest squares in corners, as wires and lines tell them, are those of the candidate of a signed word of a tiling: a square that isn't
-- reversed touches the sides that its wire and its lines tell, and a reversed one, the wire of which leads upwards, neither top nor bottom.
use Rattle.std.specs.Prelude.{cond, max, nat_abs, neg_ℤ, pos, ℤ, ◌&&◌, ◌==◌, ◌||◌, ◌≤ℤ◌}
use Rattle.std.proofs.Common.{Bool, List, [], ap, arith, false, length, map, refl, slice_index_or, subst, suc, sym, true, zero, ℕ, ◌+◌, ◌<◌, ◌∙◌}
use Rattle.std.proofs.Common.{◌≡◌, ◌≤◌}
use Rattle.std.proofs.lemmas.Bool.{ne_eqb}
use Rattle.bk_laws.proofs.ListItems.{slice_index_or-map}
use Rattle.bk_tiling.specs.Scale.{IsPrimitiveTiling}
use Rattle.bk_tiling.specs.SquareGroups.{square_groups}
use Rattle.bk_tiling.specs.Tiling.{IsOneOf, IsTiling, Tiling, square_of}
use Rattle.bk_tiling.specs.declared.Square.{Square}
use Rattle.bk_net.specs.Diagram.{node_below}
use Rattle.bk_net.specs.Flow.{Flow, IsFlow, IsPrimitive, IsPrimitiveFlow}
use Rattle.bk_net.specs.Net.{last_node}
use Rattle.bk_word.specs.Outline.{start}
use Rattle.bk_word.specs.Play.{IsComplete, numbers_from, outline_of}
use Rattle.bk_word.specs.Word.{Word, order_of}
use Rattle.bk_word_net.proofs.Outlines.Shape.{hung_many}
use Rattle.bk_word_net.specs.WordNet.{net_of_word}
use Rattle.bk_layout.proofs.TilingLayouts.TilingFits.{a_tiling_has_a_layout}
use Rattle.bk_layout.proofs.TilingLayouts.TilingSquares.{in_square}
use Rattle.bk_layout.specs.TilingLayout.{node_above}
use Rattle.bk_layout.proofs.FreeCuts.CutByNodes.{as_many_sides}
use Rattle.bk_layout.specs.LineNumbers.{lefts_of, square_lines}
use Rattle.bk_layout.proofs.SignedWords.SignedFlows.{ends_below, pair_is, square_below}
use Rattle.bk_layout.proofs.Lists.SignedTotals.{finish_of, start_of}
use Rattle.bk_layout.specs.SignedWord.{IsSignedWordOf}
use Rattle.bk_layout.proofs.NormalImages.LayoutSides.{at_top, on_bottom}
use Rattle.bk_layout.specs.Normal.{Counts, longest}
use Rattle.bk_layout.proofs.NormalImages.ImagesToMeet.{a_normal_word_has_settled_corners}
use Rattle.bk_layout.specs.NormalImage.{AreCornersSettled, IsMetByNormalWord}
use Rattle.bk_layout.specs.WordNumbers.{counts_of_word}
use Rattle.bk_found.proofs.Candidates.{current_is, last_node_is_the_last_of_the_tiling, line_of_the_word_stands_at_a_left_edge}
use Rattle.bk_found.proofs.Candidates.{right_edges_stand_where_computed, square_is, the_candidate_is_the_tiling}
use Rattle.bk_found.proofs.Leaves.{as_many_wires_as_squares_of_the_word, currents_many, edges_told}
use Rattle.bk_found.proofs.WordWires.{wire_later}
use Rattle.bk_found.specs.Candidate.{IsCandidateOf, candidate_square, candidate_squares, line_place, right_edges}
use Rattle.bk_found.specs.Placing.{edges_by_lefts}
use Rattle.bk_found.specs.Ties.{AreTiesOf}
use Rattle.bk_found.specs.ToldCorners.{AreLongest, AreLongestTold, Lines, contact_at, greatest_below, in_bottom_corner, in_left_corner, in_right_corner}
use Rattle.bk_found.specs.ToldCorners.{in_top_corner, side_in}
use Rattle.bk_found.specs.declared.corners.Contact.{Contact}
use Rattle.bk_found.specs.declared.corners.Longest.{Longest}
use Rattle.bk_found.specs.declared.ties.Ties.{Ties}
use Rattle.bk_laws.proofs.NumberTests.{eq_test-of_iff}

-- the greatest value of a function, number by number from the first
abbrev greatest_from : (ℕ → ℕ) → ℕ → ℕ → ℕ
greatest_from f b zero = 0
greatest_from f b (suc n) = max (f b) (greatest_from f (b + 1) n)

greatest_more : (f : ℕ → ℕ) (b n : ℕ) → max (greatest_from f b n) (f (b + n)) ≡ greatest_from f b (suc n)
greatest_more f b zero = let at : b + 0 ≡ b = omega arith in ap (λ (i : ℕ). max 0 (f i)) at ∙ swap (f b)
  where
    swap : (x : ℕ) → max 0 x ≡ max x 0
    swap x = omega arith
greatest_more f b (suc n) = let at : b + suc n ≡ b + 1 + n = omega arith in
    ap (λ (i : ℕ). max (max (f b) (greatest_from f (b + 1) n)) (f i)) at ∙ regroup (f b) (greatest_from f (b + 1) n) (f (b + 1 + n))
    ∙ ap (max (f b)) (greatest_more f (b + 1) n)
  where
    regroup : (x y z : ℕ) → max (max x y) z ≡ max x (max y z)
    regroup x y z = omega arith

greatest_same : (f : ℕ → ℕ) (n : ℕ) → greatest_below f n ≡ greatest_from f 0 n
greatest_same f zero = refl
greatest_same f (suc n) = let at : n ≡ 0 + n = omega arith in
    (λ i. max (greatest_same f n i) (f (at i))) ∙ greatest_more f 0 n

longest_from : (test : Square → Bool) (g : ℕ → Square) (f : ℕ → ℕ) (b n : ℕ) → ((k : ℕ) → b ≤ k → k < b + n → f k ≡ cond (test (g k)) (g k).s 0)
    → greatest_from f b n ≡ longest test (map g (numbers_from b n))
longest_from test g f b zero same = refl
longest_from test g f b (suc n) same = λ i. max (same b (omega arith) (omega arith) i)
    (longest_from test g f (b + 1) n (λ k lo hi. same k (omega arith) (omega arith)) i)

-- the sides that a placed square touches
abbrev pub contact_of : ℕ → ℕ → Square → Contact
contact_of width height q = record { top = q.y == 0; bottom = q.y + q.s == height; left = q.x == 0; right = q.x + q.s == width }

-- what touches neither top nor bottom lies in no corner
abbrev NeedsTopOrBottom : (Contact → Bool) → Type 0
NeedsTopOrBottom corner = (c : Contact) → c.top ≡ false → c.bottom ≡ false → corner c ≡ false

module _ (t : Tiling) (w : Word) (f : Flow) (tiling : IsTiling t) (primitive : IsPrimitiveTiling t) (s : IsSignedWordOf t w)
    (flow : IsFlow (net_of_word w) f) (positive : pos 1 ≤ℤ f.total) (lowest : IsPrimitive f) (wide : f.total ≡ pos t.width)
    (many : length (outline_of w).hung ≡ length t.squares) (long : length (square_lines w) ≡ length t.squares)
    (currents_many : length f.currents ≡ length t.squares) where
  -- the wires, currents, left and right lines, total and last node of a word with a flow
  abbrev pub lines : Lines
  lines = record {
    wires = (net_of_word w).wires;
    currents = f.currents;
    lefts = lefts_of w;
    rights = right_edges w f;
    total = f.total;
    last = last_node (net_of_word w);
  }

  module _ (k : ℕ) (h : k < length t.squares) where
    abbrev q : Square
    q = square_of t (s.square k)

    abbrev wire : ℕ × ℕ
    wire = slice_index_or (net_of_word w).wires k (0, 0)

    inside : s.square k < length t.squares
    inside = square_below t tiling w s k h

    later : wire.0 < wire.1
    later = wire_later w s.complete k (omega (arith, h, many))

    below : (wire.0 < (net_of_word w).nodes) × (wire.1 < (net_of_word w).nodes)
    below = ends_below t tiling w s k h

    same_node : (u v : ℕ) → u < (net_of_word w).nodes → v < (net_of_word w).nodes → s.node u ≡ s.node v → u ≡ v
    same_node = s.net.node_apart.apart

    left_place : line_place f.total (right_edges w f) (slice_index_or (lefts_of w) k 0)
        ≡ line_place f.total (right_edges w f) (slice_index_or (square_lines w) k (0, 1)).0
    left_place = ap (line_place f.total (right_edges w f)) (slice_index_or-map (λ (s : ℕ × ℕ). s.0) (square_lines w) k 0 (0, 1) (omega (arith, h, long)))

    in_tiling : IsOneOf (square_of t (s.square k)) t.squares
    in_tiling = in_square t tiling (s.square k) inside

    some : 0 < (net_of_word w).nodes
    some = omega (arith, below.0)

    last_below : last_node (net_of_word w) < (net_of_word w).nodes
    last_below = omega (arith, below.0)

    bottom_is : s.node (last_node (net_of_word w)) ≡ length (square_groups t.squares)
    bottom_is = last_node_is_the_last_of_the_tiling t w f tiling primitive s flow positive lowest

    -- the nodes of a square that isn't reversed, and of one that is
    above : s.is_reversed (s.square k) ≡ false → node_above (square_groups t.squares) q ≡ s.node wire.0
    above e = (pair_is t tiling w s k h).0 ∙ ap (λ (b : Bool). s.node (start_of b wire)) e

    under : s.is_reversed (s.square k) ≡ false → node_below (square_groups t.squares) q ≡ s.node wire.1
    under e = (pair_is t tiling w s k h).1 ∙ ap (λ (b : Bool). s.node (finish_of b wire)) e

    reversed_above : s.is_reversed (s.square k) ≡ true → node_above (square_groups t.squares) q ≡ s.node wire.1
    reversed_above e = (pair_is t tiling w s k h).0 ∙ ap (λ (b : Bool). s.node (start_of b wire)) e

    reversed_under : s.is_reversed (s.square k) ≡ true → node_below (square_groups t.squares) q ≡ s.node wire.0
    reversed_under e = (pair_is t tiling w s k h).1 ∙ ap (λ (b : Bool). s.node (finish_of b wire)) e

    top_told : s.is_reversed (s.square k) ≡ false → (wire.0 == 0) ≡ (q.y == 0)
    top_told e = eq_test-of_iff wire.0 0 q.y 0 (
      (λ z. (at_top t tiling q in_tiling).0 (above e ∙ ap s.node z ∙ s.net.first)),
      (λ z. same_node wire.0 0 below.0 some (sym (above e) ∙ (at_top t tiling q in_tiling).1 z ∙ sym s.net.first)),
    )

    bottom_told : s.is_reversed (s.square k) ≡ false → (wire.1 == last_node (net_of_word w)) ≡ (q.y + q.s == t.height)
    bottom_told e = eq_test-of_iff wire.1 (last_node (net_of_word w)) (q.y + q.s) t.height (
      (λ z. (on_bottom t tiling q in_tiling).0 (under e ∙ ap s.node z ∙ bottom_is)),
      (λ z. same_node wire.1 (last_node (net_of_word w)) below.1 last_below (sym (under e) ∙ (on_bottom t tiling q in_tiling).1 z ∙ sym bottom_is)),
    )

    left_told : s.is_reversed (s.square k) ≡ false → nat_abs (line_place f.total (right_edges w f) (slice_index_or (lefts_of w) k 0)) ≡ q.x
    left_told e = ap nat_abs (left_place ∙ line_of_the_word_stands_at_a_left_edge t w f tiling primitive s flow positive lowest k h
        ∙ ap (λ (b : Bool). pos (cond b (q.x + q.s) q.x)) e)

    right_told : s.is_reversed (s.square k) ≡ false → nat_abs (slice_index_or (right_edges w f) k (pos 0)) ≡ q.x + q.s
    right_told e = ap nat_abs (right_edges_stand_where_computed t w f tiling primitive s flow positive lowest k h
        ∙ ap (λ (b : Bool). pos (cond b q.x (q.x + q.s))) e)

    side_told : s.is_reversed (s.square k) ≡ false → nat_abs (slice_index_or f.currents k (pos 0)) ≡ q.s
    side_told e = ap nat_abs (current_is t w f tiling primitive s flow positive lowest k h
        ∙ ap (λ (b : Bool). cond b (neg_ℤ (pos q.s)) (pos q.s)) e)

    contact_told : s.is_reversed (s.square k) ≡ false → contact_at lines k ≡ contact_of t.width t.height q
    contact_told e = λ i. record {
      top = top_told e i;
      bottom = bottom_told e i;
      left = left_told e i == 0;
      right = right_told e i == nat_abs (wide i);
    }

    -- a reversed square lies at neither end, nor is it told so
    no_top : s.is_reversed (s.square k) ≡ true → (q.y == 0) ≡ false
    no_top e = ne_eqb q.y 0 (λ z.
        let first : wire.1 ≡ 0 = same_node wire.1 0 below.1 some (sym (reversed_above e) ∙ (at_top t tiling q in_tiling).1 z ∙ sym s.net.first) in
        omega (arith, first, later))

    no_bottom : s.is_reversed (s.square k) ≡ true → (q.y + q.s == t.height) ≡ false
    no_bottom e = ne_eqb (q.y + q.s) t.height (λ z.
        let last : wire.0 ≡ last_node (net_of_word w) =
        same_node wire.0 (last_node (net_of_word w)) below.0 last_below (sym (reversed_under e) ∙ (on_bottom t tiling q in_tiling).1 z ∙ sym bottom_is) in
        omega (arith, last, later, below.1))

    no_top_told : s.is_reversed (s.square k) ≡ true → (wire.0 == 0) ≡ false
    no_top_told e = ne_eqb wire.0 0
        (λ z. omega (arith, (((a_tiling_has_a_layout t tiling).0).nodes.ends_below (s.square k) inside).0, reversed_under e ∙ ap s.node z ∙ s.net.first))

    no_bottom_told : s.is_reversed (s.square k) ≡ true → (wire.1 == last_node (net_of_word w)) ≡ false
    no_bottom_told e = ne_eqb wire.1 (last_node (net_of_word w))
        (λ z. omega (arith, ((a_tiling_has_a_layout t tiling).0).nodes.hangs_above (s.square k) inside, reversed_above e ∙ ap s.node z ∙ bottom_is))

    side_is : (corner : Contact → Bool) → NeedsTopOrBottom corner → (b : Bool) → s.is_reversed (s.square k) ≡ b
        → side_in corner lines k ≡ cond (corner (contact_of t.width t.height q)) q.s 0
    side_is corner needs false e = λ i. cond (corner (contact_told e i)) (side_told e i) 0
    side_is corner needs true e = ap (λ (b : Bool). cond b (nat_abs (slice_index_or f.currents k (pos 0))) 0)
        (needs (contact_at lines k) (no_top_told e) (no_bottom_told e))
        ∙ sym (ap (λ (b : Bool). cond b q.s 0) (needs (contact_of t.width t.height q) (no_top e) (no_bottom e)))

  longest_is : (corner : Contact → Bool) → NeedsTopOrBottom corner → greatest_below (side_in corner lines) (length t.squares)
      ≡ longest (λ r. corner (contact_of t.width t.height r)) (candidate_squares w f)
  longest_is corner needs = greatest_same (side_in corner lines) (length t.squares)
      ∙ longest_from (λ r. corner (contact_of t.width t.height r)) (candidate_square w f) (side_in corner lines) 0 (length t.squares) each
      ∙ ap (λ (n : ℕ). longest (λ r. corner (contact_of t.width t.height r)) (map (candidate_square w f) (numbers_from 0 n))) (sym currents_many)
    where
      each : (k : ℕ) → 0 ≤ k → k < 0 + length t.squares
          → side_in corner lines k ≡ cond (corner (contact_of t.width t.height (candidate_square w f k))) (candidate_square w f k).s 0
      each k lo hi = side_is k (omega (arith, hi)) corner needs (s.is_reversed (s.square k)) refl
          ∙ sym (ap (λ (r : Square). cond (corner (contact_of t.width t.height r)) r.s 0)
          (square_is t w f tiling primitive s flow positive lowest k (omega (arith, hi))))

  -- the longest that are told are those of the candidate
  pub longest_found : (most : Longest) → AreLongestTold lines (length t.squares) most → AreLongest t.width t.height (candidate_squares w f) most
  longest_found most told = record {
    top = told.top ∙ longest_is in_top_corner (λ c t b. ap (λ (x : Bool). x && (c.left || c.right)) t);
    bottom = told.bottom ∙ longest_is in_bottom_corner (λ c t b. ap (λ (x : Bool). x && (c.left || c.right)) b);
    left = told.left ∙ longest_is in_left_corner (λ c t b. (λ i. c.left && (t i || b i)) ∙ and_false c.left);
    right = told.right ∙ longest_is in_right_corner (λ c t b. (λ i. c.right && (t i || b i)) ∙ and_false c.right);
  }
    where
      and_false : (x : Bool) → (x && false) ≡ false
      and_false true = refl
      and_false false = refl

-- so the image that is met never loses by what is told of its corners
module _ (w : Word) (complete : IsComplete w) (few : order_of w ≤ 16) (total : ℤ) (currents : List ℤ) (flow : IsPrimitiveFlow (net_of_word w) total currents)
    (l : Lines) (wires : l.wires ≡ (net_of_word w).wires) (currents_is : l.currents ≡ currents) (lefts : l.lefts ≡ lefts_of w)
    (rights : l.rights ≡ edges_by_lefts total (lefts_of w) currents) (total_is : l.total ≡ total) (last : l.last ≡ last_node (net_of_word w)) where
  abbrev the_flow : Flow
  the_flow = record { total = total; potentials = flow.0; currents = currents }

  abbrev the_lines : Lines
  the_lines = record {
    wires = (net_of_word w).wires;
    currents = currents;
    lefts = lefts_of w;
    rights = right_edges w the_flow;
    total = total;
    last = last_node (net_of_word w);
  }

  lines_are : (t : Tiling) (tiling : IsTiling t) (primitive : IsPrimitiveTiling t) (s : IsSignedWordOf t w) → l ≡ the_lines
  lines_are t tiling primitive s = λ i. record {
    wires = wires i;
    currents = currents_is i;
    lefts = lefts i;
    rights = (rights ∙ edges_told total [] (square_lines w) currents) i;
    total = total_is i;
    last = last i;
  }

  -- squares with the told ties and longest corners of a tiling met by a normal word can not all be unsettled
  pub never_lost : (t : Tiling) (ties : Ties) (width height : ℕ) (most : Longest) → IsMetByNormalWord t w → IsPrimitiveTiling t → width ≡ t.width
      → height ≡ t.height → AreLongestTold l (length l.wires) most → AreTiesOf (counts_of_word w) ties
      → ((c : Counts) (squares : List Square) → AreTiesOf c ties → AreLongest width height squares most → AreCornersSettled c width height squares → ⊥) → ⊥
  never_lost t ties width height most met primitive width_is height_is told are lost =
      lost (counts_of_word w) (candidate_squares w the_flow) are
      (subst (λ (n : ℕ). AreLongest n height (candidate_squares w the_flow) most) (sym width_is)
      (subst (λ (n : ℕ). AreLongest t.width n (candidate_squares w the_flow) most) (sym height_is)
      (longest_found t w the_flow met.tiling primitive s (flow.1).flow (flow.1).positive flow.2 found.width hung long many most
      (subst (λ (n : ℕ). AreLongestTold the_lines n most) wires_long
      (subst (λ (m : Lines). AreLongestTold m (length l.wires) most) (lines_are t met.tiling primitive s) told)))))
      (subst (λ (n : ℕ). AreCornersSettled (counts_of_word w) n height (candidate_squares w the_flow)) (sym width_is)
      (subst (λ (n : ℕ). AreCornersSettled (counts_of_word w) t.width n (candidate_squares w the_flow)) (sym height_is)
      (a_normal_word_has_settled_corners t w (candidate_squares w the_flow) met found.squares)))
    where
      s : IsSignedWordOf t w
      s = (met.is_word).signed

      found : IsCandidateOf t w (met.is_word).signed the_flow
      found = the_candidate_is_the_tiling t w the_flow met.tiling primitive (met.is_word).signed (flow.1).flow (flow.1).positive flow.2

      wires_long : length l.wires ≡ length t.squares
      wires_long = ap length wires ∙ as_many_wires_as_squares_of_the_word w complete few ∙ ((met.is_word).signed).order_is

      hung : length (outline_of w).hung ≡ length t.squares
      hung = omega (arith, hung_many start w, ((met.is_word).signed).order_is)

      long : length (square_lines w) ≡ length t.squares
      long = as_many_sides w ∙ ((met.is_word).signed).order_is

      many : length currents ≡ length t.squares
      many = currents_many w complete few total currents flow ∙ as_many_wires_as_squares_of_the_word w complete few ∙ ((met.is_word).signed).order_is
