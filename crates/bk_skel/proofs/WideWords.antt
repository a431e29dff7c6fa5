-- Large currents of a word's net, which make it wide.
use Rattle.std.specs.Prelude.{Any, List, nat_abs, ℤ, ◌<◌, ◌≡◌}
use Rattle.std.proofs.Common.{Bool, false, subst, sym, true}
use Rattle.std.proofs.lemmas.Bool.{both_ways}
use Rattle.bk_net.specs.Flow.{IsPrimitiveFlow}
use Rattle.bk_flow.proofs.OnePrimitive.{one_primitive}
use Rattle.bk_tiling.specs.declared.TheConstants.{LONGEST_SIDE}
use Rattle.bk_word.specs.Word.{Word}
use Rattle.bk_word_net.specs.WordNet.{net_of_word}
use Rattle.bk_skel.specs.WideWord.{HasLargeCurrent}

-- a large current of one primitive flow is one of every other
pub large_in : (w : Word) (total : ℤ) (currents : List ℤ) → IsPrimitiveFlow (net_of_word w) total currents → HasLargeCurrent (net_of_word w)
    → Any (λ c. LONGEST_SIDE < nat_abs c) currents
large_in w total currents p (other, cs, q, large) =
    subst (Any (λ c. LONGEST_SIDE < nat_abs c)) (one_primitive (net_of_word w) other total cs currents q p).1 large

module _ (w : Word) (total : ℤ) (currents : List ℤ) (p : IsPrimitiveFlow (net_of_word w) total currents) where
  -- a large current makes the word wide
  pub large_by : (seen : List ℤ) → seen ≡ currents → Any (λ c. LONGEST_SIDE < nat_abs c) seen → HasLargeCurrent (net_of_word w)
  large_by seen a large = (total, currents, p, subst (Any (λ c. LONGEST_SIDE < nat_abs c)) a large)

  -- a word whose net has a large current has one among the currents that are seen
  pub large_from : (seen : List ℤ) → seen ≡ currents → HasLargeCurrent (net_of_word w) → Any (λ c. LONGEST_SIDE < nat_abs c) seen
  large_from seen a h = subst (Any (λ c. LONGEST_SIDE < nat_abs c)) (sym a) (large_in w total currents p h)

-- a test that finds every large current and finds none says that the word is not wide
pub not_large : (w : Word) {total : ℤ} {currents seen : List ℤ} {found : Bool} → IsPrimitiveFlow (net_of_word w) total currents → seen ≡ currents
    → found ≡ false → (Any (λ c. LONGEST_SIDE < nat_abs c) seen → found ≡ true) → HasLargeCurrent (net_of_word w) → ⊥
not_large w {total} {currents} {seen} {found} p a none finds h = both_ways found none (finds (large_from w total currents p seen a h))
