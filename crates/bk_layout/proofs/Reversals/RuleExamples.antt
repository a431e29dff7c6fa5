-- Rule R at the rectangle 33x32. Its free word 2a.2uu.2ea.2eue.1e breaks the rule: the third move begins with even and above.
-- Its first square is that of side 7, number 2 of the code. With this square reversed the layout has the word
-- 2a.2ua.3euue.1e.1e, which keeps the rule, and the flow of that word's net has the current -7 there.
use Rattle.std.proofs.Common.{List, [], arith, map, negsuc, pos, refl, ℕ, ◌∷◌, ◌≡◌}
use Rattle.bk_tiling.proofs.ExampleTilings.{rectangle_33x32}
use Rattle.bk_net.specs.Flow.{IsFlow}
use Rattle.bk_word.specs.Word.{Move, Word}
use Rattle.bk_word.specs.declared.Sign.{Sign}
use Rattle.bk_word.specs.declared.Sign.TheVariants.{Above, Even, Under}
use Rattle.bk_word_net.specs.WordNet.{net_of_word}
use Rattle.bk_layout.specs.FreeWord.{IsFree}
use Rattle.bk_layout.specs.Layout.{Layout, net_of_layout}
use Rattle.bk_layout.specs.TilingLayout.{layout_of}
use Rattle.bk_layout.proofs.Lists.NumberedLists.{AreRenumbered}
use Rattle.bk_layout.proofs.Sweeps.FreeWordExamples.{flow_33, flow_by, free_33x32}
use Rattle.bk_layout.specs.Reversal.{reversed}
use Rattle.bk_layout.specs.RuleR.{DoesKeepRuleR}

abbrev move : ℕ → List Sign → Move
move count signs = record { count = count; signs = signs }

breaks_rule : DoesKeepRuleR free_33x32 → ⊥
breaks_rule keeps = ((keeps.1).1).0 refl (omega arith) refl refl

-- 7 hangs first from node 1 and ends last on node 3; 4, number 5, stands at its left, and 15, number 1, over it
abbrev reversed_33x32 : Layout
reversed_33x32 = reversed (layout_of rectangle_33x32) 2 5 1

hanging : map reversed_33x32.hanging (0 ∷ 1 ∷ 2 ∷ 3 ∷ 4 ∷ 5 ∷ []) ≡ (0 ∷ 1 ∷ []) ∷ (3 ∷ []) ∷ (4 ∷ 5 ∷ []) ∷ (6 ∷ 7 ∷ 2 ∷ []) ∷ (8 ∷ []) ∷ [] ∷ []
hanging = refl

ending : map reversed_33x32.ending (0 ∷ 1 ∷ 2 ∷ 3 ∷ 4 ∷ 5 ∷ []) ≡ [] ∷ (2 ∷ 1 ∷ []) ∷ (0 ∷ []) ∷ (5 ∷ []) ∷ (7 ∷ 3 ∷ []) ∷ (4 ∷ 6 ∷ 8 ∷ []) ∷ []
ending = refl

-- 2a.2ua.3euue.1e.1e
abbrev rule_33x32 : Word
rule_33x32 = move 2 (Above ∷ []) ∷ move 2 (Under ∷ Above ∷ []) ∷ move 3 (Even ∷ Under ∷ Under ∷ Even ∷ []) ∷ move 1 (Even ∷ []) ∷ move 1 (Even ∷ []) ∷ []

free : IsFree rule_33x32
free = (λ wall e. cc, (λ wall e. cc, (λ wall e. cc, (λ wall e. cc, (λ wall e. cc, tt)))))

keeps_rule : DoesKeepRuleR rule_33x32
keeps_rule = (λ wall two e f. cc, (λ wall two e f. cc, (λ wall two e f. cc, (λ wall two e f. omega (arith, two), (λ wall two e f. omega (arith, two), tt)))))

-- its net is that of the layout, with the squares in this order and the nodes in the order of closing
renumbered : AreRenumbered (net_of_word rule_33x32).wires (net_of_layout reversed_33x32).wires (0 ∷ 1 ∷ 4 ∷ 5 ∷ 6 ∷ 7 ∷ 2 ∷ 3 ∷ 8 ∷ [])
    (0 ∷ 2 ∷ 3 ∷ 1 ∷ 4 ∷ 5 ∷ [])
renumbered = refl

-- the sides are a flow of it, that of the reversed square below 0
sides : IsFlow (net_of_word rule_33x32) (flow_33 (pos 32 ∷ pos 14 ∷ pos 10 ∷ pos 17 ∷ pos 9 ∷ pos 0 ∷ [])
    (pos 18 ∷ pos 15 ∷ pos 14 ∷ pos 4 ∷ pos 10 ∷ pos 1 ∷ negsuc 6 ∷ pos 8 ∷ pos 9 ∷ []))
sides = flow_by refl refl refl refl (refl, (refl, (refl, (refl, tt))))
