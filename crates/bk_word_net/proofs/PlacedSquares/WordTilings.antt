-- What the primitive flow of a word's net says of the tilings that have the word.
use Rattle.std.specs.List.{AllByRecursion}
use Rattle.std.specs.Prelude.{pos, ℤ, ◌-ℤ◌, ◌≤ℤ◌}
use Rattle.std.proofs.Common.{IfSome, IsSomeAnd, List, None, Option, Some, [], ap, arith, length, map, refl, subst, sym, ℕ, ◌++◌, ◌∙◌, ◌∷◌, ◌≡◌, ◌≤◌}
use Rattle.std.proofs.lemmas.Int.{ints}
use Rattle.std.proofs.lemmas.List.{length-map}
use Rattle.bk_tiling.specs.Scale.{IsPrimitiveTiling}
use Rattle.bk_tiling.specs.Tiling.{IsTiling, Tiling}
use Rattle.bk_tiling.specs.declared.Square.{Square}
use Rattle.bk_net.specs.Flow.{Flow, IsFlow, IsOneFlow, IsPrimitive, IsPrimitiveFlow, outflow, potential}
use Rattle.bk_word.specs.Outline.{start}
use Rattle.bk_word.specs.Play.{IsComplete, outline_of}
use Rattle.bk_word.specs.Word.{Word, order_of}
use Rattle.bk_lay.specs.TilingWord.{IsWordOf}
use Rattle.bk_word_net.proofs.PlacedSquares.FlowTilings.{a_flow_places_a_tiling, a_primitive_flow_is_a_primitive_tiling}
use Rattle.bk_word_net.proofs.WordFlows.LaidFlow.{laid_sides_are_a_flow, pos_sides}
use Rattle.bk_word_net.proofs.PlacedSquares.PlacedWord.{a_word_of_a_tiling_is_placed}
use Rattle.bk_word_net.proofs.Outlines.Shape.{hung_many}
use Rattle.bk_word_net.proofs.PlacedSquares.PrimitiveTiling.{a_word_has_one_primitive_tiling}
use Rattle.bk_word_net.proofs.WordFlows.Wires.{wires_by, wires_length}
use Rattle.bk_word_net.specs.FlowTiling.{IsTilingByFlow, PlacesWord}
use Rattle.bk_word_net.specs.LaidTiling.{IsLaidWith}
use Rattle.bk_word_net.specs.Realised.{IsRealised, IsTilingOf}
use Rattle.bk_word_net.specs.WordNet.{end_of, net_of_word}

-- the net of a word has a wire for each square
pub wires_many : (w : Word) → length (net_of_word w).wires ≡ order_of w
wires_many w = let many : length (wires_by (end_of ((outline_of w).closed ++ (outline_of w).segments)) 1 (outline_of w).hung)
    ≡ length (outline_of w).hung = wires_length (end_of ((outline_of w).closed ++ (outline_of w).segments)) 1 (outline_of w).hung in
    let hung : length (outline_of w).hung ≡ order_of w = omega (arith, hung_many start w) in many ∙ hung

-- a flow has a current for each square
pub currents_many : (w : Word) (f : Flow) → IsFlow (net_of_word w) f → length f.currents ≡ order_of w
currents_many w f flow = ap length flow.differences ∙ length-map (net_of_word w).wires (λ n. potential f n.0 -ℤ potential f n.1) ∙ wires_many w

pos_same : (squares : List Square) (sides : List ℕ) → map (λ q. pos q.s) squares ≡ map pos sides → map (λ q. q.s) squares ≡ sides
pos_same [] [] e = refl
pos_same [] (s ∷ sides) e = absurd (cc)
pos_same (q ∷ squares) [] e = absurd (cc)
pos_same (q ∷ squares) (s ∷ sides) e = λ i. first i ∷ pos_same squares sides rest i
  where
    here : pos q.s ≡ pos s
    here = cc

    first : q.s ≡ s
    first = omega (arith, ints, here)

    rest : map (λ r. pos r.s) squares ≡ map pos sides
    rest = cc

module _ (w : Word) (complete : IsComplete w) (f : Flow) (one : IsOneFlow (net_of_word w) f) (primitive : IsPrimitive f) where
  -- where a tiling has the word, some tiling has the currents as its sides
  placed_by : (t : Tiling) → IsTiling t → IsWordOf t w → PlacesWord w f
  placed_by t tiling word = a_word_of_a_tiling_is_placed t w f tiling word one.flow one.positive

  -- where a current isn't positive, no tiling has the word
  pub not_long : (AllByRecursion (λ c. pos 1 ≤ℤ c) f.currents → ⊥) → (t : Tiling) → IsTiling t → IsWordOf t w → ⊥
  not_long never t tiling word = never (placed_by t tiling word).long

  module _ (sides : List ℕ) (currents : f.currents ≡ map pos sides) where
    -- where the sides place nothing, no tiling has the word
    pub not_placed : ((t : Tiling) → IsLaidWith w sides t → ⊥) → (t : Tiling) → IsTiling t → IsWordOf t w → ⊥
    not_placed never t tiling word = from (a_flow_places_a_tiling w f complete one.flow (placed_by t tiling word))
      where
        from : (u : Tiling) × IsTilingByFlow w f u → ⊥
        from (u, b) = never u (record {
          tiling = b.tiling;
          word = b.word;
          laid = b.laid;
          levels = b.levels;
          along = b.along;
          sides =
              pos_same b.laid sides (b.sides ∙ currents);
        })

    -- what the sides place is the word's one primitive tiling
    pub is_tiling_of : (t : Tiling) → IsLaidWith w sides t → IsTilingOf w t
    is_tiling_of t l = record {
      tiling = l.tiling;
      primitive = prime;
      word = l.word;
      only = λ u tiling alone word. a_word_has_one_primitive_tiling u t w tiling l.tiling alone prime word l.word;
    }
      where
        same : map (λ q. pos q.s) l.laid ≡ f.currents
        same = pos_sides l.laid ∙ ap (map pos) l.sides ∙ sym currents

        width : pos t.width ≡ f.total
        width = sym (laid_sides_are_a_flow t w l.laid l.levels l.tiling l.word l.along).first
            ∙ ap (λ (cs : List ℤ). outflow (net_of_word w).wires cs 0) same ∙ (one.flow).first

        prime : IsPrimitiveTiling t
        prime = a_primitive_flow_is_a_primitive_tiling w f t complete one.flow primitive
            (record { tiling = l.tiling; word = l.word; laid = l.laid; levels = l.levels; along = l.along; sides = same; width = width })

module _ (w : Word) (complete : IsComplete w) (total : ℤ) (currents : List ℤ) (p : IsPrimitiveFlow (net_of_word w) total currents) where
  abbrev f : Flow
  f = record { total = total; potentials = p.0; currents = currents }

  -- a side for each square
  pub sides_many : (seen : List ℤ) (sides given : List ℕ) → seen ≡ currents → seen ≡ map pos sides → given ≡ sides → length given ≡ order_of w
  sides_many seen sides given a b e = ap length e ∙ sym (length-map sides pos) ∙ sym (ap length b) ∙ ap length a
      ∙ currents_many w (record { total = total; potentials = p.0; currents = currents }) (p.1).flow

  -- what placing the sides gives is what the word has
  pub realised_by : (seen : List ℤ) (sides given : List ℕ) → seen ≡ currents → seen ≡ map pos sides → given ≡ sides → (r : Option Tiling)
      → IfSome r (IsLaidWith w given) → ((u : Tiling) → IsLaidWith w given u → IsSomeAnd r (λ t. t ≡ u)) → IsRealised w r
  realised_by seen sides given a b e (Some t) some only =
      is_tiling_of w complete (record { total = total; potentials = p.0; currents = currents }) p.1 p.2 given (sym a ∙ b ∙ ap (map pos) (sym e)) t some
  realised_by seen sides given a b e None some only =
      not_placed w complete (record { total = total; potentials = p.0; currents = currents }) p.1 p.2 given (sym a ∙ b ∙ ap (map pos) (sym e)) only

  -- without positive currents it has no tiling
  pub none_by : (seen : List ℤ) → seen ≡ currents → (AllByRecursion (λ c. pos 1 ≤ℤ c) seen → ⊥) → (t : Tiling) → IsTiling t → IsWordOf t w → ⊥
  none_by seen a never = not_long w complete (record { total = total; potentials = p.0; currents = currents }) p.1 p.2
      (subst (λ (cs : List ℤ). AllByRecursion (λ c. pos 1 ≤ℤ c) cs → ⊥) a never)
