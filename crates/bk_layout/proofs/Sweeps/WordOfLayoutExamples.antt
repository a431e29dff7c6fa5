-- 2u.1e is the word of the layout of the rectangle 3x2. Squares and nodes have the same numbers in both, but that squares begin at 1 in
-- the word.
use Rattle.std.specs.Prelude.{option_map, ◌-◌}
use Rattle.std.proofs.Common.{Some, [], ap, arith, lit<, refl, slice_get, subst, suc, sym, zero, ℕ, ◌+◌, ◌<◌, ◌∷◌, ◌≡◌}
use Rattle.bk_word.proofs.WordExamples.{two}
use Rattle.bk_word.specs.Outline.{start}
use Rattle.bk_word.specs.Play.{IsComplete, outline_of}
use Rattle.bk_word.specs.Word.{Move}
use Rattle.bk_word.specs.declared.Sign.TheVariants.{Even, Under}
use Rattle.bk_word_net.proofs.WordFlows.WordNetExamples.{word_3x2}
use Rattle.bk_word_net.specs.Renumbering.{IsOneToOneBelow, IsRenumbering}
use Rattle.bk_word_net.specs.WordNet.{net_of_word}
use Rattle.bk_layout.proofs.Sweeps.LayoutExamples.{layout_3x2}
use Rattle.bk_layout.specs.FreeWord.{HangsNoTwins, IsFree, IsWithoutTwins}
use Rattle.bk_layout.specs.Layout.{net_of_layout}
use Rattle.bk_layout.specs.LayoutLaws.{HangsByLines, HangsNode, IsWordOfLayout}

complete : IsComplete word_3x2
complete = record {
  legal = (record { some = omega arith; signs = refl }, (record { some = omega arith; signs = refl }, tt));
  some = lit< tt;
  one = refl;
}

-- the square under the second one ends even with the first, not above it
free : IsFree word_3x2
free = (λ wall e. cc, (λ wall e. cc, tt))

-- the first two squares end apart
first_apart : HangsNoTwins start (two Under)
first_apart zero low e = cc
first_apart (suc k) low e = omega (arith, low)

without_twins : IsWithoutTwins word_3x2
without_twins = (first_apart, (λ k low e. omega (arith, low), tt))

same_below : (n : ℕ) → IsOneToOneBelow n (λ k. k)
same_below n = record { below = λ k h. h; apart = λ j k g h e. e }

-- the square of a number
abbrev square : ℕ → ℕ
square number = number - 1

net_is : IsRenumbering (net_of_word word_3x2) (net_of_layout layout_3x2) (λ k. k) (λ k. k)
net_is = record {
  nodes = refl;
  wires = refl;
  node_apart = same_below 3;
  wire_apart = same_below 3;
  first = refl;
  last = λ k e. refl;
  each = λ k h. each k h;
}
  where
    each : (k : ℕ) → k < 3 → slice_get (net_of_layout layout_3x2).wires k ≡ option_map (λ w. (w.0, w.1)) (slice_get (net_of_word word_3x2).wires k)
    each zero h = refl
    each (suc zero) h = refl
    each (suc (suc zero)) h = refl
    each (suc (suc (suc k))) h = absurd (omega (arith, h))

same_square : {p q : ℕ} → Some p ≡ Some q → p ≡ q
same_square e = cc

-- the two squares of the first move stand side by side, with line 2 between
first_by_lines : HangsByLines layout_3x2 square start (two Under)
first_by_lines = record { first = λ a e. absurd (cc); next = λ k low. next k low }
  where
    next : (k : ℕ) → suc k < 2 → layout_3x2.right (square (0 + 1 + k)) ≡ layout_3x2.left (square (0 + 2 + k))
    next zero low = refl
    next (suc k) low = absurd (omega (arith, low))

-- and the last square begins at the line at which the second does
last_by_lines : HangsByLines layout_3x2 square (outline_of (two Under ∷ [])) (record { count = 1; signs = Even ∷ [] })
last_by_lines = record {
  first = λ a e. subst (λ (b : ℕ). 2 ≡ layout_3x2.left (square b)) (same_square e) refl;
  next = λ k low. absurd (omega (arith, low));
}

-- the first move hangs all that hangs from the top, on which nothing ends
first_by_nodes : HangsNode layout_3x2 square start (two Under)
first_by_nodes = record {
  node = 0;
  low = lit< tt;
  ends = refl;
  hangs = refl;
  from_wall = λ one q e. absurd (cc);
  to_wall = λ one q e. absurd (omega (arith, e.1));
}

-- the last one hangs from node 1, on which the second square ends
last_by_nodes : HangsNode layout_3x2 square (outline_of (two Under ∷ [])) (record { count = 1; signs = Even ∷ [] })
last_by_nodes = record {
  node = 1;
  low = lit< tt;
  ends = refl;
  hangs = refl;
  from_wall = λ one q e. absurd (omega (arith, one));
  to_wall = λ one q e. absurd (omega (arith, one));
}

is_word : IsWordOfLayout layout_3x2 word_3x2
is_word = record {
  complete = complete;
  order = refl;
  free = free;
  no_twins = λ none. without_twins;
  first_count = λ m e. count m e;
  node = λ k. k;
  square = λ k. k;
  net = net_is;
  wall = refl;
  lines = (first_by_lines, (last_by_lines, tt));
  nodes = (first_by_nodes, (last_by_nodes, tt));
  end = refl;
  end_from = λ q e. subst (λ (p : ℕ). layout_3x2.left p ≡ 0) (same_square e) refl;
  end_to = λ q e. end_to q e.0 e.1 e.2;
}
  where
    count : (m : Move) → slice_get word_3x2 0 ≡ Some m → m.count ≡ 2
    count m e = let same : two Under ≡ m = cc in sym (ap (λ (n : Move). n.count) same)

    end_to : (q k : ℕ) → suc k ≡ 2 → slice_get (layout_3x2.ending 2) k ≡ Some q → layout_3x2.right q ≡ 1
    end_to q zero m e = absurd (omega (arith, m))
    end_to q (suc zero) m e = subst (λ (p : ℕ). layout_3x2.right p ≡ 1) (same_square e) refl
    end_to q (suc (suc k)) m e = absurd (cc)
