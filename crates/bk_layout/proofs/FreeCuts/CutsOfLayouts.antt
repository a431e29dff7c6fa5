-- What no word of a simple layout begins with.
use Rattle.std.proofs.Common.{Contains, List, Some, [], ap, arith, drop, inl, inr, length, map, slice_get, slice_index_or, subst, suc, sym, take}
use Rattle.std.proofs.Common.{true, zero, ℕ, ◌++◌, ◌+◌, ◌-◌, ◌<◌, ◌∙◌, ◌∷◌, ◌≡◌, ◌≤◌, ◌⊎◌}
use Rattle.std.proofs.lemmas.List.{length-map, nil_from_length}
use Rattle.bk_laws.proofs.ListPlaces.{get_map, get_some}
use Rattle.bk_word.specs.Outline.{Outline, has_left_wall, open_side, sizes_of, start, valley_of, valley_place}
use Rattle.bk_word.specs.Play.{AreLegalFrom, IsComplete, after_move, after_moves, new_squares, outline_of}
use Rattle.bk_word.specs.Word.{Move, Word, order_of}
use Rattle.bk_word.specs.declared.Sign.{Sign}
use Rattle.bk_word.specs.declared.Sign.TheVariants.{Even}
use Rattle.bk_word.proofs.PlayLists.{numbers-length}
use Rattle.bk_word.proofs.StoredBytes.{order_append}
use Rattle.bk_word_net.proofs.Outlines.Shape.{AllFilled, Shaped, filled_move, shaped_move, shaped_moves, shaped_start}
use Rattle.bk_layout.proofs.Sweeps.SweepStart.{top_ends_none}
use Rattle.bk_layout.specs.FreeWord.{AreFreeFrom, HangNoTwinsFrom, HangsNoTwins, IsFreeMove}
use Rattle.bk_layout.specs.Layout.{Fits, Layout}
use Rattle.bk_layout.specs.LayoutLaws.{HangByNodesFrom, HangsNode, IsWordOfLayout}
use Rattle.bk_word.proofs.PlayLaws.{legal_front}
use Rattle.bk_catalogue.specs.ClosingBound.{closing_bound}
use Rattle.bk_word.specs.OwnSigns.{own_signs}
use Rattle.bk_catalogue.specs.SingleValleys.{single_valleys}
use Rattle.bk_catalogue.specs.VerticalCut.{line_bound_of, edges_on_lines, on_line}
use Rattle.bk_layout.specs.SimpleLayout.{IsSimpleLayout, Touches}
use Rattle.bk_catalogue.proofs.HangingBounds.WordBoundLaws.{lines_are_hung, singles_are_hung}
use Rattle.bk_layout.proofs.NormalCuts.MarkedSquares.{IsTopLine, some_marked, tops_of_word}
use Rattle.bk_layout.proofs.FreeCuts.TopLines.{no_line_down}
use Rattle.bk_layout.proofs.FreeCuts.TouchingWalls.{ends_left, ends_right}
use Rattle.bk_layout.proofs.FreeCuts.WideNodes.{no_wide_node}
use Rattle.bk_layout.proofs.NormalCuts.WideBottom.{no_wide_bottom}
use Rattle.bk_catalogue.specs.WordBounds.{EndsNoLine, HangNoPairsFrom, HangsNoPair, IsWithoutPairs}
use Rattle.bk_laws.proofs.NumberOrder.{zero_or_positive}
use Rattle.bk_layout.specs.FreeCuts.{AreOuterWalls}

-- what hangs by nodes hangs so after its first moves too
pub nodes_rest : (l : Layout) (f : ℕ → ℕ) (o : Outline) (front rest : Word) → HangByNodesFrom l f o (front ++ rest)
    → HangByNodesFrom l f (after_moves o front) rest
nodes_rest l f o [] rest p = p
nodes_rest l f o (m ∷ front) rest p = nodes_rest l f (after_move o m) front rest p.1

-- if no move of a word hangs twins, none of those behind a beginning does
pub twins_then : (o : Outline) (front rest : Word) → HangNoTwinsFrom o (front ++ rest) → HangNoTwinsFrom (after_moves o front) rest
twins_then o [] rest p = p
twins_then o (m ∷ front) rest p = twins_then (after_move o m) front rest p.1

-- the moves behind a beginning of a free word are free
pub free_then : (o : Outline) (front rest : Word) → AreFreeFrom o (front ++ rest) → AreFreeFrom (after_moves o front) rest
free_then o [] rest p = p
free_then o (m ∷ front) rest p = free_then (after_move o m) front rest p.1

-- ---- a move of one square under one

valley_many : (l : Layout) (f : ℕ → ℕ) (o : Outline) (m : Move) (h : HangsNode l f o m) → length (l.ending h.node) ≡ length (valley_of o)
valley_many l f o m h = ap length (sym h.ends) ∙ length-map (valley_of o) f

new_many : (l : Layout) (f : ℕ → ℕ) (o : Outline) (m : Move) (h : HangsNode l f o m) → length (l.hanging h.node) ≡ m.count
new_many l f o m h = ap length (sym h.hangs) ∙ length-map (new_squares o m) f ∙ numbers-length (length o.hung + 1) m.count

hangs_no_pair : (l : Layout) (simple : IsSimpleLayout l) (f : ℕ → ℕ) (o : Outline) (m : Move) → HangsNode l f o m → HangsNoPair o m
hangs_no_pair l simple f o m h one count = simple.pairs h.node (valley_many l f o m h ∙ one) (new_many l f o m h ∙ count)

hang_no_pairs : (l : Layout) (simple : IsSimpleLayout l) (f : ℕ → ℕ) (o : Outline) (w : Word) → HangByNodesFrom l f o w → HangNoPairsFrom o w
hang_no_pairs l simple f o [] p = tt
hang_no_pairs l simple f o (m ∷ w) p = (hangs_no_pair l simple f o m p.0, hang_no_pairs l simple f (after_move o m) w p.1)

-- ---- own signs

get_of_take : (n : ℕ) (a : List Sign) (k : ℕ) (s : Sign) → k < length (take n a) → slice_index_or (take n a) k s ≡ s → (k < n) × (slice_get a k ≡ Some s)
get_of_take zero a k s h e = absurd (omega arith)
get_of_take (suc n) [] k s h e = absurd (omega arith)
get_of_take (suc n) (t ∷ a) zero s h e = (omega arith, ap (λ (x : Sign). Some x) e)
get_of_take (suc n) (t ∷ a) (suc k) s h e = let r = get_of_take n a k s (omega arith) e in (omega (arith, r.0), r.1)

get_of_drop : (f k : ℕ) (a : List Sign) (s : Sign) → slice_get (drop f a) k ≡ Some s → slice_get a (f + k) ≡ Some s
get_of_drop zero k a s e = subst (λ (j : ℕ). slice_get a j ≡ Some s) (omega arith) e
get_of_drop (suc f) k [] s e = absurd (none k e)
  where
    none : (k : ℕ) → slice_get [] k ≡ Some s → ⊥
    none k e = cc
get_of_drop (suc f) k (t ∷ a) s e = subst (λ (j : ℕ). slice_get (t ∷ a) j ≡ Some s) same (get_of_drop f k a s e)
  where
    same : suc (f + k) ≡ suc f + k
    same = omega arith

no_even : (o : Outline) (m : Move) → HangsNoTwins o m → Contains (own_signs o m) Even → ⊥
no_even o m none (k, low, e) = none k (omega (arith, r.0)) (get_of_drop (open_side (has_left_wall o)) k m.signs Even r.1)
  where
    r : (k < m.count - 1) × (slice_get (drop (open_side (has_left_wall o)) m.signs) k ≡ Some Even)
    r = get_of_take (m.count - 1) (drop (open_side (has_left_wall o)) m.signs) k Even low e

-- ---- one segment

filled_after : (o : Outline) (front : Word) → 0 < length front → AreLegalFrom o front → Shaped o → AllFilled (after_moves o front).segments
filled_after o [] some legal shaped = absurd (omega arith)
filled_after o (m ∷ []) some legal shaped = filled_move o m legal.0 shaped
filled_after o (m ∷ k ∷ front) some legal shaped = filled_after (after_move o m) (k ∷ front) (omega arith) legal.1 (shaped_move o m legal.0 shaped)

one_filled : (segments : List (List ℕ)) → length segments ≡ 1 → AllFilled segments → 0 < length (slice_index_or segments 0 [])
one_filled [] one all = absurd (omega arith)
one_filled (s ∷ segments) one all = all.0

valley_filled : (o : Outline) → Shaped o → length o.segments ≡ 1 → AllFilled o.segments → 0 < length (valley_of o)
valley_filled o shaped one all = subst (λ (place : ℕ). 0 < length (slice_index_or o.segments place [])) (sym first) (one_filled o.segments one all)
  where
    first : valley_place o.signs ≡ 0
    first = ap valley_place (nil_from_length o.signs (omega (arith, one, shaped.many)))

module _ (l : Layout) (fits : Fits l) (w : Word) (word : IsWordOfLayout l w) where
  abbrev square : ℕ → ℕ
  square = λ number. word.square (number - 1)

  module _ (front rest : Word) (is : w ≡ front ++ rest) where
    few_hung : order_of front + order_of rest ≡ l.squares
    few_hung = omega (arith, order_append front rest, word.order, ap order_of is)

    legal : AreLegalFrom start (front ++ rest)
    legal = subst (AreLegalFrom start) is (word.complete).legal

    shaped : Shaped (outline_of front)
    shaped = shaped_moves start front (legal_front start front rest legal) shaped_start

    nodes : HangByNodesFrom l square (outline_of front) rest
    nodes = nodes_rest l square start front rest (subst (HangByNodesFrom l square start) is word.nodes)

  -- no move has the sign above at the left, where the valley has a left neighbour
  pub free_fits : (front : Word) (m : Move) (rest : Word) → w ≡ front ++ m ∷ rest → IsFreeMove (outline_of front) m
  free_fits front m rest is = (free_then start front (m ∷ rest) (subst (AreFreeFrom start) is word.free)).0

  module _ (simple : IsSimpleLayout l) where
    -- no move has the sign even between two of its squares
    pub evens_fit : (front : Word) (m : Move) (rest : Word) → w ≡ front ++ m ∷ rest → Contains (own_signs (outline_of front) m) Even → ⊥
    evens_fit front m rest is = no_even (outline_of front) m
        (twins_then start front (m ∷ rest) (subst (HangNoTwinsFrom start) is (word.no_twins simple.twins))).0

    -- no move hangs one square under one
    pub pairs_fit : (front : Word) (m : Move) (rest : Word) → w ≡ front ++ m ∷ rest → HangsNoPair (outline_of front) m
    pairs_fit front m rest is = hangs_no_pair l simple square (outline_of front) m (nodes front (m ∷ rest) is).0

    module _ (walls : AreOuterWalls l) where
      ending_bottom : 0 < length (l.ending l.bottom)
      ending_bottom = fits.nodes.ending_some l.bottom fits.some (omega arith)

      bottom_left : Touches l 0 l.bottom
      bottom_left = ends_left l fits l.bottom ending_bottom word.end_from word.end_to

      bottom_right : Touches l 1 l.bottom
      bottom_right = ends_right l fits l.bottom ending_bottom word.end_from word.end_to

      -- one segment is left at the end alone
      pub one_segment_fits : (front rest : Word) → w ≡ front ++ rest → 0 < length front → order_of front < l.squares
          → length (outline_of front).segments ≡ 1 → ⊥
      one_segment_fits front [] is some few one = omega (arith, few, few_hung front [] is)
      one_segment_fits front (m ∷ rest) is some few one =
          no_wide_node l fits simple walls h.node above_none h.low
          (ends_left l fits h.node ends (h.from_wall one) (h.to_wall one))
          (ends_right l fits h.node ends (h.from_wall one) (h.to_wall one)) bottom_left bottom_right
        where
          h : HangsNode l square (outline_of front) m
          h = (nodes front (m ∷ rest) is).0

          ends : 0 < length (l.ending h.node)
          ends = omega (
            arith,
            valley_many l square (outline_of front) m h,
            valley_filled (outline_of front) (shaped front (m ∷ rest) is) one
                (filled_after start front some (legal_front start front (m ∷ rest) (legal front (m ∷ rest) is)) shaped_start),
          )

          above_none : 0 < h.node
          above_none = cases (zero_or_positive h.node)
            where
              cases : (h.node ≡ 0) ⊎ (0 < h.node) → 0 < h.node
              cases (inl e) = absurd (omega (arith, ends, ap (λ (v : ℕ). length (l.ending v)) e, ap length (top_ends_none l fits)))
              cases (inr k) = k

      -- the last segment has not just one square
      last_fits : 2 ≤ l.squares → (s : List ℕ) → (outline_of w).segments ≡ s ∷ [] → length s ≡ 1 → ⊥
      last_fits many s e one = from (get_some (l.ending l.bottom) 0 (omega (arith, ending_one)))
        where
          ending_one : length (l.ending l.bottom) ≡ 1
          ending_one = ap length (sym word.end) ∙ length-map (slice_index_or (outline_of w).segments 0 []) square
              ∙ ap (λ (x : List (List ℕ)). length (slice_index_or x 0 [])) e ∙ one

          from : (q : ℕ) × (slice_get (l.ending l.bottom) 0 ≡ Some q) → ⊥
          from (q, at) = let i = fits.lists.ending_is l.bottom 0 q at in
              no_wide_bottom l fits simple walls many q i.1 i.0 (word.end_from q at) (word.end_to q (0, sym ending_one, at))

      without_pairs : 2 ≤ l.squares → IsWithoutPairs w
      without_pairs many = record { moves = hang_no_pairs l simple square start w word.nodes; last = last_fits many }

      -- the valleys of one square fit, with the closings, in the squares that are left
      pub singles_fit : (front rest : Word) → w ≡ front ++ rest → 2 ≤ l.squares
          → order_of front + closing_bound (outline_of front).signs + single_valleys (outline_of front).signs (sizes_of (outline_of front)) ≤ l.squares
      singles_fit front rest is many = omega (
        arith,
        word.order,
        ap order_of is,
        singles_are_hung front rest (subst IsComplete is word.complete) (subst IsWithoutPairs is (without_pairs many)),
      )

      -- no line from the top comes down to the last segment
      ends_no_line : 3 ≤ l.squares → EndsNoLine w
      ends_no_line many s e any = from (some_marked (edges_on_lines w) s any)
        where
          last_is : map square s ≡ l.ending l.bottom
          last_is = ap (λ (x : List (List ℕ)). map square (slice_index_or x 0 [])) (sym e) ∙ word.end

          from : (j n : ℕ) × (slice_get s j ≡ Some n) × (on_line (edges_on_lines w) n ≡ true) → ⊥
          from (j, n, at, on) = no_line_down l fits simple walls many bottom_left bottom_right line.p line.q (square n) line.side_by_side
              there.0 there.1 line.is
            where
              line : IsTopLine l (l.left (square n))
              line = tops_of_word l fits word.square w (word.complete).legal word.lines word.nodes (n - 1) on

              there : (square n < l.squares) × (l.below (square n) ≡ l.bottom)
              there = fits.lists.ending_is l.bottom j (square n) (ap (λ (xs : List ℕ). slice_get xs j) (sym last_is) ∙ get_map square s j n at)

      -- the lines from the top fit, with the valleys of one square, in the squares that are left
      pub lines_fit : (front rest : Word) → w ≡ front ++ rest → 3 ≤ l.squares
          → order_of front + line_bound_of front + single_valleys (outline_of front).signs (sizes_of (outline_of front)) ≤ l.squares
      lines_fit front rest is many = omega (
        arith,
        word.order,
        ap order_of is,
        lines_are_hung front rest (subst IsComplete is word.complete) (subst IsWithoutPairs is (without_pairs (omega (arith, many))))
            (subst EndsNoLine is (ends_no_line many)),
      )
