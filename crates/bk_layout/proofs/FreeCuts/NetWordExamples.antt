-- The compound rectangle 11x13 of six squares has the word 2a.1u.2ea.1e, whose third move begins with even and above. With the square of side 1 reversed
-- it has the signed word 2a.1a.2ue.1e, which keeps rule R, and begins with moves that are barren.
use Rattle.std.proofs.Common.{[], arith, nat_eq, refl, ℕ, ◌∷◌, ◌≡◌}
use Rattle.bk_tiling.specs.Tiling.{Tiling, order}
use Rattle.bk_word.specs.Word.{Move, Word}
use Rattle.bk_word.specs.declared.Sign.TheVariants.{Above, Even, Under}
use Rattle.bk_word_net.specs.WordNet.{net_of_word}
use Rattle.bk_layout.specs.RuleR.{BeginsNoEvenAbove}
use Rattle.bk_layout.proofs.FreeCuts.CutsOfTilings.{one_under_one_is_free_barren}
use Rattle.bk_layout.specs.SignedWord.{reversed_net}
use Rattle.bk_layout.proofs.FreeCuts.NetWords.{a_free_barren_word_is_net_barren}
use Rattle.bk_layout.specs.NetWord.{IsNetBarren, IsNetWordOf}

abbrev even_above : Move
even_above = record { count = 2; signs = Even ∷ Above ∷ [] }

abbrev own_word : Word
own_word = record { count = 2; signs = Above ∷ [] } ∷ record { count = 1; signs = Under ∷ [] } ∷ even_above ∷ record { count = 1; signs = Even ∷ [] } ∷ []

abbrev rule_word : Word
rule_word = record { count = 2; signs = Above ∷ [] } ∷ record { count = 1; signs = Above ∷ [] } ∷ record { count = 2; signs = Under ∷ Even ∷ [] } ∷
    record { count = 1; signs = Even ∷ [] } ∷ []

breaks_the_rule : BeginsNoEvenAbove even_above → ⊥
breaks_the_rule keeps = keeps (omega arith) refl refl

-- their nets: nodes 2 and 3 are exchanged, the squares come in another order, and that from node 2 to node 3 is reversed
own_net : net_of_word own_word ≡ record { nodes = 5; wires = (0, 1) ∷ (0, 2) ∷ (1, 3) ∷ (2, 3) ∷ (2, 4) ∷ (3, 4) ∷ [] }
own_net = refl

reversed : reversed_net (nat_eq 3) (net_of_word own_word) ≡ record { nodes = 5; wires = (0, 1) ∷ (0, 2) ∷ (1, 3) ∷ (3, 2) ∷ (2, 4) ∷ (3, 4) ∷ [] }
reversed = refl

its_net : net_of_word rule_word ≡ record { nodes = 5; wires = (0, 1) ∷ (0, 3) ∷ (1, 2) ∷ (2, 4) ∷ (2, 3) ∷ (3, 4) ∷ [] }
its_net = refl

-- the moves 2a.1a are barren, for any order
abbrev first_move : Move
first_move = record { count = 2; signs = Above ∷ [] }

abbrev lone_move : Move
lone_move = record { count = 1; signs = Above ∷ [] }

barren : (n : ℕ) → IsNetBarren n (first_move ∷ lone_move ∷ [])
barren n = a_free_barren_word_is_net_barren n (first_move ∷ lone_move ∷ []) (one_under_one_is_free_barren n (first_move ∷ []) lone_move refl refl)

-- so the signed word is a net word of no tiling
no_net_word : (t : Tiling) → IsNetWordOf t rule_word → ⊥
no_net_word t net = net.no_barren (first_move ∷ lone_move ∷ [])
    (record { count = 2; signs = Under ∷ Even ∷ [] } ∷ record { count = 1; signs = Even ∷ [] } ∷ []) refl (barren (order t))
