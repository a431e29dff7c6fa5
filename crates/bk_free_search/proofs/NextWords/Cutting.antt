-- Cuts of the search: of a next move by its count and its first signs, and of all moves.
use Rattle.std.proofs.Common.{Contains, List, Some, [], ap, arith, drop, false, length, length-append, length-drop}
use Rattle.std.proofs.Common.{length-take, refl, slice_get, subst, suc, sym, take, zero, ℕ, ◌*◌, ◌++◌, ◌+◌, ◌-◌, ◌<◌, ◌∙◌, ◌∷◌}
use Rattle.std.proofs.Common.{◌≡◌, ◌≤◌}
use Rattle.std.proofs.lemmas.List.Sums.{count_by-le-length, length-filter}
use Rattle.bk_word.specs.Outline.{IsLegalMove, Outline, has_left_wall, open_side, start, valley_of, valley_place}
use Rattle.bk_word.specs.Play.{AreLegalFrom, IsLegal, after_move, after_moves, outline_of, parts, signs_apart}
use Rattle.bk_word.specs.Word.{Move, Word, order_of}
use Rattle.bk_word.specs.declared.Sign.{Sign}
use Rattle.bk_word.specs.declared.Sign.TheVariants.{Above, Even}
use Rattle.bk_layout.proofs.FreeCuts.CutsOfTilings.{even_squares_are_free_barren, one_segment_is_free_barren, one_under_one_is_free_barren}
use Rattle.bk_layout.proofs.FreeCuts.CutsOfTilings.{staying_above_is_free_barren}
use Rattle.bk_word.proofs.PlayLaws.{at_most_one_sign_more_than_squares, legal_front}
use Rattle.bk_word.proofs.StoredBytes.{order_more}
use Rattle.bk_layout.proofs.FreeCuts.CutByNodes.{shared_node_is_free_barren}
use Rattle.bk_layout.specs.FreeCuts.{IsFreeBarren}
use Rattle.bk_layout.specs.NodeCut.{ShareANode}
use Rattle.bk_layout.proofs.FreeCuts.NetWords.{a_free_barren_word_is_net_barren, even_then_above_is_net_barren}
use Rattle.bk_layout.specs.NetWord.{IsNetBarren}
use Rattle.bk_layout.proofs.NormalCuts.NormalWords.{a_net_barren_word_is_normal_barren}
use Rattle.bk_layout.specs.NormalCuts.{IsNormalBarren}
use Rattle.bk_free_search.specs.Sought.{BeginsEvenThenAbove}

-- a cut on free words is one on net words
pub cut : (n : ℕ) (front : Word) → IsFreeBarren n front → IsNetBarren n front
cut n front barren = a_free_barren_word_is_net_barren n front barren

-- a cut on net words is one on words of normal layouts
pub normal : (n : ℕ) (front : Word) → IsNetBarren n front → IsNormalBarren n front
normal n front barren = a_net_barren_word_is_normal_barren n front barren

-- one square under a valley of one
pub lone_is_barren : (front : Word) (valley count : ℕ) → valley ≡ length (valley_of (outline_of front)) → valley ≡ 1 → (n : ℕ) (m : Move)
    → m.count < 2 → 0 < m.count → IsNetBarren n (front ++ m ∷ [])
lone_is_barren front valley count is one n m few some = cut n (front ++ m ∷ []) (one_under_one_is_free_barren n front m (omega arith) (sym is ∙ one))

sign_behind : (signs : List Sign) (s : Sign) (more : List Sign) → slice_get (signs ++ s ∷ more) (length signs) ≡ Some s
sign_behind [] s more = refl
sign_behind (t ∷ signs) s more = sign_behind signs s more

-- the first sign is above, at a left neighbour
pub above_is_barred : (n : ℕ) (front : Word) (signs : List Sign) (sign : Sign) (other : Move) (more : List Sign)
    → has_left_wall (outline_of front) ≡ false → length signs ≡ 0 → sign ≡ Above
    → other.signs ≡ signs ++ sign ∷ more → IsNetBarren n (front ++ other ∷ [])
above_is_barred n front [] sign other more apart none above are = cut n (front ++ other ∷ [])
    (staying_above_is_free_barren n front other (λ free. free apart (ap (λ l. slice_get l 0) are ∙ ap (λ s. Some s) above)))
above_is_barred n front (t ∷ signs) sign other more apart none above are = absurd (omega arith)

-- even and above at the beginning of a move of two squares or more
pub even_then_above_is_barred : (n : ℕ) (front : Word) (m : Move) (sign : Sign) (other : Move) (more : List Sign)
    → BeginsEvenThenAbove m sign → other.count ≡ m.count → other.signs ≡ m.signs ++ sign ∷ more → IsNetBarren n (front ++ other ∷ [])
even_then_above_is_barred n front m sign other more begins count are = even_then_above_is_net_barren n front other
    (λ keeps. keeps (omega (arith, begins.two, count)) even above)
  where
    even : slice_get other.signs 0 ≡ Some Even
    even = ap (λ l. slice_get l 0) are ∙ first m.signs begins.one ∙ begins.even
      where
        first : (signs : List Sign) → length signs ≡ 1 → slice_get (signs ++ sign ∷ more) 0 ≡ slice_get signs 0
        first [] h = absurd (omega arith)
        first (s ∷ signs) h = refl

    above : slice_get other.signs 1 ≡ Some Above
    above = ap (λ l. slice_get l 1) are ∙ ap (λ k. slice_get (m.signs ++ sign ∷ more) k) (sym begins.one) ∙ sign_behind m.signs sign more
        ∙ ap (λ s. Some s) begins.above

-- a sign at a place of a stretch of signs is contained in that stretch
pub contained : (from k place : ℕ) (signs : List Sign) (s : Sign) → from ≤ place → place < from + k → slice_get signs place ≡ Some s
    → Contains (take k (drop from signs)) s
contained zero zero place signs s least most is = absurd (omega arith)
contained zero (suc k) place [] s least most is = absurd (cc)
contained zero (suc k) zero (t ∷ signs) s least most is = (zero, omega arith, cc)
contained zero (suc k) (suc place) (t ∷ signs) s least most is = let c = contained zero k place signs s (omega arith) (omega arith) is
    in (suc c.0, omega (arith, c.1), c.2)
contained (suc from) k zero signs s least most is = absurd (omega arith)
contained (suc from) k (suc place) [] s least most is = absurd (cc)
contained (suc from) k (suc place) (t ∷ signs) s least most is = contained from k place signs s (omega arith) (omega arith) is

-- an even sign between two of the move's own squares
pub even_is_barred : (n : ℕ) (front : Word) (signs : List Sign) (sign : Sign) (count : ℕ) (other : Move) (more : List Sign)
    → open_side (has_left_wall (outline_of front)) ≤ length signs
    → length signs + 1 < open_side (has_left_wall (outline_of front)) + count → sign ≡ Even → other.count ≡ count → other.signs ≡ signs ++ sign ∷ more
    → IsNetBarren n (front ++ other ∷ [])
even_is_barred n front signs sign count other more least most even same are =
    cut n (front ++ other ∷ []) (even_squares_are_free_barren n front other
    (contained (open_side (has_left_wall (outline_of front))) (other.count - 1) (length signs) other.signs Even least (omega arith)
    (ap (λ l. slice_get l (length signs)) are ∙ sign_behind signs sign more ∙ ap (λ s. Some s) even)))

-- one segment is left too early
pub one_segment : (n : ℕ) (front : Word) → 0 < length front → order_of front < n → length (outline_of front).segments ≡ 1 → IsNetBarren n front
one_segment n front some few one = cut n front (one_segment_is_free_barren n front some few one)

-- ---- how many signs stand open

few_after : (o : Outline) (m : Move) → IsLegalMove o m → length (after_move o m).signs ≤ length o.signs + (m.count + 1)
few_after o m legal = omega (
  arith,
  at_most_one_sign_more_than_squares o m legal,
  length-filter parts (signs_apart o m),
  count_by-le-length parts (signs_apart o m),
  length-append (take (valley_place o.signs - 1) o.signs) m.signs,
  length-append (take (valley_place o.signs - 1) o.signs ++ m.signs) (drop (valley_place o.signs + 1) o.signs),
  length-take (valley_place o.signs - 1) o.signs,
  length-drop (valley_place o.signs + 1) o.signs,
)

few_open : (o : Outline) (w : Word) → AreLegalFrom o w → length (after_moves o w).signs ≤ length o.signs + 2 * order_of w
few_open o [] legal = omega arith
few_open o (m ∷ w) legal = omega (arith, few_after o m legal.0, few_open (after_move o m) w legal.1, order_more m w, legal.0.some)

-- a legal word has at most twice as many open signs as squares
pub few_signs_open : (w : Word) → IsLegal w → length (outline_of w).signs ≤ 2 * order_of w
few_signs_open w legal = omega (arith, few_open start w legal)

-- ---- lines that share a node

-- moves after which two lines of one open segment share a closed node are net barren, of any order
pub shared_is_barren : (w : Word) → ShareANode w → (n : ℕ) → IsNetBarren n w
shared_is_barren w share n = cut n w (shared_node_is_free_barren n w share)

-- what is barren where it is legal is barren
pub by_legal : (n : ℕ) (front : Word) → (IsLegal front → IsNormalBarren n front) → IsNormalBarren n front
by_legal n front barren l w rest sound is_normal word keeps is =
    barren (legal_front start front rest (subst (AreLegalFrom start) is (word.complete).legal)) l w rest sound is_normal word keeps is
