-- A word of a layout that is a tiling's up to reversed squares is a signed word of the tiling.
use Rattle.std.proofs.Common.{Bool, Some, ap, arith, cond, false, inl, inr, length, map, refl, slice_get, subst, suc, sym, true, zero, ℕ, ◌+◌, ◌<◌}
use Rattle.std.proofs.Common.{◌∙◌, ◌≡◌, ◌≤◌, ◌⊎◌}
use Rattle.std.proofs.lemmas.Option.{slice_get_within}
use Rattle.bk_tiling.specs.Tiling.{IsTiling, Tiling, square_of}
use Rattle.bk_net.specs.Diagram.{smith_diagram}
use Rattle.bk_net.specs.Net.{Net}
use Rattle.bk_word.specs.Play.{numbers_from}
use Rattle.bk_word.specs.Word.{Word}
use Rattle.bk_word_net.specs.Renumbering.{IsRenumbering}
use Rattle.bk_word_net.specs.WordNet.{net_of_word}
use Rattle.bk_layout.specs.Layout.{Fits, Layout, net_of_layout}
use Rattle.bk_layout.specs.LayoutLaws.{IsWordOfLayout}
use Rattle.bk_layout.proofs.TilingLayouts.Edges.{bottom_within}
use Rattle.bk_layout.proofs.TilingLayouts.LineNumbers.{number_column, number_one, number_zero}
use Rattle.bk_layout.proofs.TilingLayouts.TilingSquares.{in_square}
use Rattle.bk_layout.proofs.TilingLayouts.TilingNet.{net_is}
use Rattle.bk_layout.specs.TilingLayout.{layout_of, line_number}
use Rattle.bk_layout.proofs.FreeCuts.NumberedLines.{line_numbers_are_lines}
use Rattle.bk_layout.specs.LineNumbers.{numbered_line, square_lines}
use Rattle.bk_layout.proofs.FreeCuts.CutByNodes.{as_many_sides}
use Rattle.bk_layout.specs.Reversal.{IsUpToReversals}
use Rattle.bk_layout.proofs.NormalImages.FirstMoves.{first_count}
use Rattle.bk_layout.proofs.Lists.NumberedLists.{numbers_length, reversed_numbers}
use Rattle.bk_layout.proofs.FreeCuts.KnownLines.{known_lines}
use Rattle.bk_layout.specs.SignedWord.{AWordUpToReversalsIsSigned, IsSignedWordOf, left_edge, line_column}
use Rattle.bk_layout.specs.SignedWord.{reversed_net, right_edge, with_reversed}

module _ (t : Tiling) (tiling : IsTiling t) (m : Layout) (same : IsUpToReversals (layout_of t) m) where
  reversed_or_not : (q : ℕ) → (same.is_reversed q ≡ true) ⊎ (same.is_reversed q ≡ false)
  reversed_or_not q = cases (same.is_reversed q)
    where
      cases : (b : Bool) → (b ≡ true) ⊎ (b ≡ false)
      cases true = inl refl
      cases false = inr refl

  low : (q : ℕ) → q < length t.squares → (square_of t q).y ≤ t.height
  low q h = omega (arith, bottom_within t tiling (square_of t q) (in_square t tiling q h))

  -- the lines beside a square are those of the columns of its edges
  left_is : (q : ℕ) → q < length t.squares → m.left q ≡ line_number t (left_edge t same.is_reversed q) (square_of t q).y
  left_is q h = cases (reversed_or_not q)
    where
      cases : (same.is_reversed q ≡ true) ⊎ (same.is_reversed q ≡ false) → m.left q ≡ line_number t (left_edge t same.is_reversed q) (square_of t q).y
      cases (inl e) = same.left_reversed q h e ∙ ap
          (λ (b : Bool). line_number t (cond {A = ℕ} b ((square_of t q).x + (square_of t q).s) (square_of t q).x) (square_of t q).y) (sym e)
      cases (inr e) = same.left_kept q h e ∙ ap
          (λ (b : Bool). line_number t (cond {A = ℕ} b ((square_of t q).x + (square_of t q).s) (square_of t q).x) (square_of t q).y) (sym e)

  right_is : (q : ℕ) → q < length t.squares → m.right q ≡ line_number t (right_edge t same.is_reversed q) (square_of t q).y
  right_is q h = cases (reversed_or_not q)
    where
      cases : (same.is_reversed q ≡ true) ⊎ (same.is_reversed q ≡ false) → m.right q ≡ line_number t (right_edge t same.is_reversed q) (square_of t q).y
      cases (inl e) = same.right_reversed q h e ∙ ap
          (λ (b : Bool). line_number t (cond {A = ℕ} b (square_of t q).x ((square_of t q).x + (square_of t q).s)) (square_of t q).y) (sym e)
      cases (inr e) = same.right_kept q h e ∙ ap
          (λ (b : Bool). line_number t (cond {A = ℕ} b (square_of t q).x ((square_of t q).x + (square_of t q).s)) (square_of t q).y) (sym e)

  -- the net is the Smith diagram with the reversed wires
  wire_is : (q : ℕ) → q < length t.squares → ◌≡◌ {A = ℕ × ℕ} (m.above q, m.below q)
      (cond (same.is_reversed q) ((layout_of t).below q, (layout_of t).above q) ((layout_of t).above q, (layout_of t).below q))
  wire_is q h = cases (reversed_or_not q)
    where
      cases : (same.is_reversed q ≡ true) ⊎ (same.is_reversed q ≡ false)
          → ◌≡◌ {A = ℕ × ℕ} (m.above q, m.below q)
          (cond (same.is_reversed q) ((layout_of t).below q, (layout_of t).above q) ((layout_of t).above q, (layout_of t).below q))
      cases (inl e) = (λ i. (same.above_reversed q h e i, same.below_reversed q h e i))
          ∙ ap (λ (b : Bool). cond {A = ℕ × ℕ} b ((layout_of t).below q, (layout_of t).above q) ((layout_of t).above q, (layout_of t).below q)) (sym e)
      cases (inr e) = (λ i. (same.above_kept q h e i, same.below_kept q h e i))
          ∙ ap (λ (b : Bool). cond {A = ℕ × ℕ} b ((layout_of t).below q, (layout_of t).above q) ((layout_of t).above q, (layout_of t).below q)) (sym e)

  net_reversed : net_of_layout m ≡ reversed_net same.is_reversed (smith_diagram t)
  net_reversed = (λ i. record { nodes = same.bottom i + 1; wires = wires i }) ∙ ap (reversed_net same.is_reversed) (net_is t tiling)
    where
      wires : map (λ q. (m.above q, m.below q)) (numbers_from 0 m.squares)
          ≡ with_reversed same.is_reversed 0 (map (λ q. ((layout_of t).above q, (layout_of t).below q)) (numbers_from 0 (length t.squares)))
      wires = ap (λ (n : ℕ). map (λ q. (m.above q, m.below q)) (numbers_from 0 n)) same.squares
          ∙ reversed_numbers same.is_reversed (λ q. ((layout_of t).above q, (layout_of t).below q)) (λ q. (m.above q, m.below q)) 0
          (length t.squares) (λ k lo hi. wire_is k (omega (arith, hi)))

  module _ (w : Word) (fits : Fits m) (word : IsWordOfLayout m w) where
    square_below : (k : ℕ) → k < length t.squares → word.square k < length t.squares
    square_below k h = omega (arith, many, word.net.wire_apart.below k (omega (arith, many)))
      where
        many : length (net_of_word w).wires ≡ length t.squares
        many = word.net.wires ∙ numbers_length {A = ℕ × ℕ} (λ q. (m.above q, m.below q)) 0 m.squares ∙ same.squares

    -- a line of the word by its number, and its column
    column_is : (q f : ℕ) → q < length t.squares → f < length t.squares + 2 → (x : ℕ)
        → line_number t x (square_of t q).y ≡ numbered_line m word.square f → x ≡ line_column t same.is_reversed word.square f
    column_is q zero h k x e = number_zero t x (square_of t q).y e
    column_is q (suc zero) h k x e = number_one t x (square_of t q).y e
    column_is q (suc (suc p)) h k x e = number_column t x (square_of t q).y (right_edge t same.is_reversed (word.square p))
        (square_of t (word.square p)).y (low q h) (low (word.square p) (square_below p (omega arith)))
        (e ∙ right_is (word.square p) (square_below p (omega arith)))

    along : (k f g : ℕ) → slice_get (square_lines w) k ≡ Some (f, g)
        → (left_edge t same.is_reversed (word.square k) ≡ line_column t same.is_reversed word.square f)
        × (right_edge t same.is_reversed (word.square k) ≡ line_column t same.is_reversed word.square g)
    along k f g e = (
      column_is (word.square k) f (square_below k few) (omega (arith, few, (known_lines w k (f, g) e).0))
          (left_edge t same.is_reversed (word.square k)) (sym (left_is (word.square k) (square_below k few)) ∙ stand.0),
      column_is (word.square k) g (square_below k few) (omega (arith, few, (known_lines w k (f, g) e).1))
          (right_edge t same.is_reversed (word.square k)) (sym (right_is (word.square k) (square_below k few)) ∙ stand.1),
    )
      where
        few : k < length t.squares
        few = omega (arith, slice_get_within (square_lines w) k (f, g) e, as_many_sides w, word.order, same.squares)

        stand : (m.left (word.square k) ≡ numbered_line m word.square f) × (m.right (word.square k) ≡ numbered_line m word.square g)
        stand = line_numbers_are_lines m w fits word k f g e

    abbrev signed : IsSignedWordOf t w
    signed = record {
      complete = word.complete;
      order_is = word.order ∙ same.squares;
      free = word.free;
      first_count = λ tiling_word a b follows e f. word.first_count a f ∙ ap length same.top ∙ first_count t tiling tiling_word b follows e;
      is_reversed = same.is_reversed;
      node = word.node;
      square = word.square;
      net = subst (λ (n : Net). IsRenumbering (net_of_word w) n word.node word.square) net_reversed word.net;
      lines = along;
    }

-- each word of a layout that is the tiling's up to reversed squares is a signed word of it
pub a_word_up_to_reversals_is_signed : AWordUpToReversalsIsSigned
a_word_up_to_reversals_is_signed t m w tiling fits same word = (signed t tiling m same w fits word, refl)
