-- Lines that share a node. After 3aa.2ue.1ea the squares 4 and 6 stand side by side on one open segment. The wall at the left
-- of 4 and the line at the right of 6, which runs down between 2 and 3, both touch the top. So the squares 1, 2, 4, 5 and 6 are
-- a part, and no sound layout has a word that begins so.
use Rattle.std.proofs.Common.{List, [], arith, inl, inr, refl, ℕ, ◌∷◌, ◌≡◌}
use Rattle.bk_word.specs.Word.{Move, Word}
use Rattle.bk_word.specs.declared.Sign.{Sign}
use Rattle.bk_word.specs.declared.Sign.TheVariants.{Above, Even, Under}
use Rattle.bk_layout.proofs.FreeCuts.CutByNodes.{shared_node_is_free_barren}
use Rattle.bk_layout.specs.FreeCuts.{IsFreeBarren}
use Rattle.bk_layout.specs.LineNumbers.{square_lines}
use Rattle.bk_layout.specs.NodeCut.{ShareANode}

abbrev move : ℕ → List Sign → Move
move count signs = record { count = count; signs = signs }

abbrev pub front : Word
front = move 3 (Above ∷ Above ∷ []) ∷ move 2 (Under ∷ Even ∷ []) ∷ move 1 (Even ∷ Above ∷ []) ∷ []

-- the gap between 1 and 2 has the number 2, that between 2 and 3 the number 3, that between 4 and 5 the number 5
sides : square_lines front ≡ (0, 2) ∷ (2, 3) ∷ (3, 1) ∷ (0, 5) ∷ (5, 2) ∷ (5, 3) ∷ []
sides = refl

-- square 1 hangs from the top beside the wall, and square 2 beside the line 3
shares : ShareANode front
shares = record {
  segment = 0;
  numbers = 4 ∷ 6 ∷ [];
  is = refl;
  i = 0;
  j = 1;
  a = 4;
  b = 6;
  first = refl;
  second = refl;
  order = omega arith;
  node = 0;
  left = record { place = 0; at = record { within = omega arith; closed = omega arith; at = inl refl }; beside = inl refl };
  right = record { place = 1; at = record { within = omega arith; closed = omega arith; at = inl refl }; beside = inr refl };
  not_own = λ e f. omega (arith, e);
  not_walls = λ e f. omega (arith, f);
}

barren : (n : ℕ) → IsFreeBarren n front
barren n = shared_node_is_free_barren n front shares
