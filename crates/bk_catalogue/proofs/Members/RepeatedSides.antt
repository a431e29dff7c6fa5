-- Where two currents of the flow of a word's net are the same, two squares of the tiling that has the word have one side, and it isn't perfect.
use Rattle.std.specs.Prelude.{map, pos, ℤ, ◌*ℤ◌, ◌≤ℤ◌}
use Rattle.std.proofs.Common.{List, Some, [], ap, arith, negsuc, refl, slice_get, subst, suc, sym, zero, ℕ, ◌<◌, ◌∙◌, ◌∷◌, ◌≡◌}
use Rattle.std.proofs.lemmas.Int.{ints}
use Rattle.bk_laws.proofs.WholeNumbers.{cancel_right}
use Rattle.bk_tiling.specs.Tiling.{IsTiling, Tiling}
use Rattle.bk_tiling.specs.declared.Square.{Square}
use Rattle.bk_net.specs.Flow.{Flow, IsPrimitiveFlow}
use Rattle.bk_laws.proofs.ListPlaces.{head_same, tail_same}
use Rattle.bk_word.specs.Word.{Word}
use Rattle.bk_word.specs.declared.Class.{Class}
use Rattle.bk_word.specs.declared.Class.TheVariants.{Perfect}
use Rattle.bk_lay.specs.TilingWord.{IsWordOf}
use Rattle.bk_word_net.proofs.PlacedSquares.PlacedSides.{e, proportion, tl}
use Rattle.bk_word_net.specs.WordNet.{net_of_word}
use Rattle.bk_catalogue.specs.Catalogue.{IsOfClass}
use Rattle.bk_catalogue.proofs.Members.PerfectSides.{sides_apart}
use Rattle.bk_catalogue.specs.Repeated.{HasNoMember, HasTwoAlike}

-- where currents are in proportion to sides, so are those at one place
at_place : (cs : List ℤ) (laid : List Square) (a b : ℤ) → map (λ c. c *ℤ a) cs ≡ map (λ c. c *ℤ b) (map (λ q. pos q.s) laid)
    → (k : ℕ) (c : ℤ) → slice_get cs k ≡ Some c → (q : Square) × (slice_get laid k ≡ Some q) × (c *ℤ a ≡ pos q.s *ℤ b)
at_place [] laid a b all k c at = absurd cc
at_place (d ∷ cs) [] a b all k c at = absurd cc
at_place (d ∷ cs) (q ∷ laid) a b all zero c at = (q, refl, sym (ap (λ (x : ℤ). x *ℤ a) same) ∙ head_same _ _ _ _ all)
  where
    same : d ≡ c
    same = cc
at_place (d ∷ cs) (q ∷ laid) a b all (suc k) c at = at_place cs laid a b (tail_same _ _ _ _ all) k c at

-- so a perfect tiling has no two currents alike
not_perfect : (w : Word) (total : ℤ) (currents : List ℤ) → IsPrimitiveFlow (net_of_word w) total currents → HasTwoAlike currents
    → (t : Tiling) → IsTiling t → IsWordOf t w → IsOfClass Perfect t → ⊥
not_perfect w total currents (potentials, one, primitive) two t tiling word perfect = cases total refl one.positive
  where
    f : Flow
    f = record { total = total; potentials = potentials; currents = currents }

    from : (n : ℕ) → 0 < n → total ≡ pos n → ⊥
    from n some is = sides_apart t tiling perfect laid (((e t w f tiling word one.flow n some is).along).fills) two.second two.first p.0 q.0
        two.apart p.1 q.1 same
      where
        laid : List Square
        laid = (tl t w f tiling word one.flow n some is).0

        p : (q : Square) × (slice_get laid two.second ≡ Some q) × (two.number *ℤ pos t.width ≡ pos q.s *ℤ total)
        p = at_place currents laid (pos t.width) total (proportion t w f tiling word one.flow n some is) two.second two.number two.at_second

        q : (q : Square) × (slice_get laid two.first ≡ Some q) × (two.number *ℤ pos t.width ≡ pos q.s *ℤ total)
        q = at_place currents laid (pos t.width) total (proportion t w f tiling word one.flow n some is) two.first two.number two.at_first

        sides : pos (p.0).s *ℤ pos n ≡ pos (q.0).s *ℤ pos n
        sides = ap (λ (z : ℤ). pos (p.0).s *ℤ z) (sym is) ∙ sym p.2 ∙ q.2 ∙ ap (λ (z : ℤ). pos (q.0).s *ℤ z) is

        whole : pos (p.0).s ≡ pos (q.0).s
        whole = cancel_right n (pos (p.0).s) (pos (q.0).s) some sides

        same : (p.0).s ≡ (q.0).s
        same = omega (arith, ints, whole)

    cases : (z : ℤ) → total ≡ z → pos 1 ≤ℤ z → ⊥
    cases (pos zero) is h = omega (arith, ints, h)
    cases (pos (suc n)) is h = from (suc n) (omega arith) is
    cases (negsuc n) is h = omega (arith, ints, h)

-- no member of the class perfect has a word with two currents alike
pub no_perfect_member : (w : Word) (class : Class) → class ≡ Perfect → (total : ℤ) (currents : List ℤ) → IsPrimitiveFlow (net_of_word w) total currents
    → HasTwoAlike currents → HasNoMember class w
no_perfect_member w class is total currents flow two entry member same =
    not_perfect w total currents flow two entry.tiling ((member.member).tiling) (subst (IsWordOf entry.tiling) same member.word)
    (subst (λ (c : Class). IsOfClass c entry.tiling) is ((member.member).class))
