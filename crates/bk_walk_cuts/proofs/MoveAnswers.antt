-- What a ledger has answered to the first signs of a move, sign by sign, and that all cuts of a move are told.
use Rattle.std.proofs.Common.{Bool, List, Some, [], ap, arith, false, get_or, inl, inr, length, slice_get, subst, suc, sym, true, zero, ℕ, ◌+◌}
use Rattle.std.proofs.Common.{◌<◌, ◌∙◌, ◌∷◌, ◌≡◌, ◌≢◌, ◌≤◌, ◌⊎◌}
use Rattle.std.proofs.lemmas.Bool.{cases_lt}
use Rattle.bk_laws.proofs.Truth.{absurd-of_true_and_false}
use Rattle.bk_word.specs.Outline.{valley_of}
use Rattle.bk_word.specs.Play.{new_squares, outline_of}
use Rattle.bk_word.specs.Word.{Move, Word, order_of}
use Rattle.bk_word.specs.declared.Class.{Class}
use Rattle.bk_word.specs.declared.Class.TheVariants.{Perfect}
use Rattle.bk_word.specs.declared.Sign.{Sign}
use Rattle.bk_word.specs.declared.Sign.TheVariants.{Even}
use Rattle.bk_forms.specs.LedgerAnswer.{answer_of}
use Rattle.bk_forms.specs.Form.{Form, form_value}
use Rattle.bk_forms.specs.FormLaws.{MeetsEquations}
use Rattle.bk_forms.specs.Reduction.{Addition, addition, comparison, contradiction}
use Rattle.bk_forms.specs.declared.ledger.Kept.{Kept}
use Rattle.bk_forms.specs.declared.ledger.Kept.TheVariants.{Added, Contradiction, GaveUp}
use Rattle.bk_walk_cuts.proofs.Asked.{sign_read}
use Rattle.bk_walk_cuts.specs.FormCuts.{IsCutByLevels, LevelsContradict, SidesAreEqual, SignIsOther, WidthsContradict}
use Rattle.bk_walk_cuts.specs.FormCuts.{kept_by_sign, kept_by_signs, kept_by_widths, kept_with_move}
use Rattle.bk_walk_cuts.specs.SideForms.{sum_of_sides, zero_form}
use Rattle.bk_walk_cuts.specs.KnownSides.{Answers}
use Rattle.bk_walk_cuts.specs.SidesOfTilings.{AgreeWith}

-- what is added, or given up, is no contradiction
pub no_contradiction : (a : Addition) (k : Kept) → k ≡ answer_of a → (k ≡ Added) ⊎ (k ≡ GaveUp) → a ≡ contradiction → ⊥
no_contradiction a k is (inl e) told = let one : Added ≡ Contradiction = sym e ∙ is ∙ ap answer_of told in cc
no_contradiction a k is (inr e) told = let one : GaveUp ≡ Contradiction = sym e ∙ is ∙ ap answer_of told in cc

-- a place that has a sign lies in the list
place_within : (signs : List Sign) (i : ℕ) (sign : Sign) → slice_get signs i ≡ Some sign → i < length signs
place_within [] i sign e = absurd cc
place_within (s ∷ signs) zero sign e = omega arith
place_within (s ∷ signs) (suc i) sign e = let h = place_within signs i sign e in omega (arith, h)

-- the sign that is read is the one that stands there
read_as : (signs : List Sign) (i : ℕ) (d sign : Sign) → i < length signs → slice_get signs i ≡ Some sign → get_or signs i d ≡ sign
read_as signs i d sign h e = let one : Some (get_or signs i d) ≡ Some sign = sym (sign_read signs i d h) ∙ e in cc

-- no equation of the first signs contradicts those before
abbrev pub NoneContradicts : List Form → List Form → List Sign → ℕ → Type 0
NoneContradicts kept levels signs n = (place : ℕ) → place < n → slice_get signs place ≡ Some Even
    → addition (kept_by_signs kept levels signs place) (get_or levels place zero_form) (get_or levels (suc place) zero_form) ≡ contradiction → ⊥

-- of the first n signs, none is known by comparison to be another
abbrev pub NoneIsOther : List Form → List Form → List Sign → ℕ → Type 0
NoneIsOther kept levels signs n = (place : ℕ) (sign known : Sign) → place < n → slice_get signs place ≡ Some sign → (sign ≡ Even → ⊥)
    → comparison kept (get_or levels place zero_form) (get_or levels (suc place) zero_form) ≡ Some known → (known ≡ sign → ⊥) → ⊥

module _ (levels : List Form) (signs : List Sign) (i : ℕ) (d : Sign) (f g : Form) (within : i < length signs)
    (left : f ≡ get_or levels i zero_form) (right : g ≡ get_or levels (i + 1) zero_form) where
  next : suc i ≡ i + 1
  next = omega arith

  behind : g ≡ get_or levels (suc i) zero_form
  behind = right ∙ ap (λ (k : ℕ). get_or levels k zero_form) (sym next)

  -- one more equation is added
  pub kept_equations_with_one_sign_more : (kept now then : List Form) → now ≡ kept_by_signs kept levels signs i
      → then ≡ kept_by_sign (Some (get_or signs i d)) now f g
      → then ≡ kept_by_signs kept levels signs (i + 1)
  kept_equations_with_one_sign_more kept now then is e = e ∙ (λ j. kept_by_sign (sym (sign_read signs i d within) j) (is j) (left j) (behind j))
      ∙ ap (kept_by_signs kept levels signs) next

  -- if no equation of the first signs contradicts those before, nor does the next one, none does up to the next sign
  pub none_contradicts_with_one_sign_more : (kept now : List Form) (b : Bool) → now ≡ kept_by_signs kept levels signs i → NoneContradicts kept levels signs i
      → (get_or signs i d ≡ Even → addition now f g ≡ contradiction → b ≡ true) → b ≡ false → NoneContradicts kept levels signs (i + 1)
  none_contradicts_with_one_sign_more kept now b is none told never place low = elim (cases_lt place i) [
    | inl h ↦ none place h
    | inr h ↦
        let same : i ≡ place = omega (arith, low, h) in
        subst (λ (k : ℕ). slice_get signs k ≡ Some Even
        → addition (kept_by_signs kept levels signs k) (get_or levels k zero_form) (get_or levels (suc k) zero_form) ≡ contradiction → ⊥) same here
  ]
    where
      here : slice_get signs i ≡ Some Even
          → addition (kept_by_signs kept levels signs i) (get_or levels i zero_form) (get_or levels (suc i) zero_form) ≡ contradiction → ⊥
      here even e = absurd-of_true_and_false b (told (read_as signs i d Even within even) ((λ j. addition (is j) (left j) (behind j)) ∙ e)) never

  -- one more sign is not known to be another
  pub other_more : (kept : List Form) (b : Bool) → NoneIsOther kept levels signs i
      → ((known : Sign) → (get_or signs i d ≡ Even → ⊥) → comparison kept f g ≡ Some known → (known ≡ get_or signs i d → ⊥) → b ≡ true) → b ≡ false
      → NoneIsOther kept levels signs (i + 1)
  other_more kept b none told never place sign known low = elim (cases_lt place i) [
    | inl h ↦ none place sign known h
    | inr h ↦
        let same : i ≡ place = omega (arith, low, h) in
        subst (λ (k : ℕ). slice_get signs k ≡ Some sign → (sign ≡ Even → ⊥)
        → comparison kept (get_or levels k zero_form) (get_or levels (suc k) zero_form) ≡ Some known → (known ≡ sign → ⊥) → ⊥) same here
  ]
    where
      here : slice_get signs i ≡ Some sign → (sign ≡ Even → ⊥)
          → comparison kept (get_or levels i zero_form) (get_or levels (suc i) zero_form) ≡ Some known → (known ≡ sign → ⊥) → ⊥
      here at uneven e other =
          let is : get_or signs i d ≡ sign = read_as signs i d sign within at in
          absurd-of_true_and_false b (told known (λ even. uneven (sym is ∙ even)) ((λ j. comparison kept (left j) (behind j)) ∙ e) (λ same. other (same ∙ is)))
          never

-- at the end none is left
pub no_contradiction_where_none_of_all : (kept levels : List Form) (signs : List Sign) (n : ℕ) → NoneContradicts kept levels signs n → length signs ≤ n
    → LevelsContradict kept levels signs → ⊥
no_contradiction_where_none_of_all kept levels signs n none all h =
    let low = place_within signs h.place Even h.even in none h.place (omega (arith, low, all)) h.even h.contradict

-- if none of the first n signs is known to be another, a move of at most n signs has none
pub other_left : (kept levels : List Form) (signs : List Sign) (n : ℕ) → NoneIsOther kept levels signs n → length signs ≤ n
    → SignIsOther kept levels signs → ⊥
other_left kept levels signs n none all h =
    let low = place_within signs h.place h.sign h.here in none h.place h.sign h.known (omega (arith, low, all)) h.here h.uneven h.compared h.other

-- ---- a move

-- what is said of a ledger that all equations of a move are added to, by the squares on its valley, those that it hangs, and its levels and signs
pub record AreAdded (kept then levels : List Form) (told : Bool) (valley numbers : List ℕ) (signs : List Sign) : Type 0 where
  pub meets : (sides : List ℕ) → MeetsEquations 16 kept sides
      → (valley ≢ [] → form_value (sum_of_sides valley) sides ≡ form_value (sum_of_sides numbers) sides)
      → AgreeWith signs levels sides → Answers then sides told
  pub all_kept : told ≡ false → then ≡ kept_by_signs (kept_by_widths kept valley numbers) levels signs (length signs)
  pub by_widths : WidthsContradict kept valley numbers → told ≡ true
  pub by_levels : LevelsContradict (kept_by_widths kept valley numbers) levels signs → told ≡ true

-- it is said of the same lists
pub are_added : (kept then levels : List Form) (told : Bool) (valley valley_then numbers numbers_then : List ℕ) (signs signs_then : List Sign)
    → valley ≡ valley_then → numbers ≡ numbers_then → signs ≡ signs_then → AreAdded kept then levels told valley numbers signs
    → AreAdded kept then levels told valley_then numbers_then signs_then
are_added kept then levels told valley valley_then numbers numbers_then signs signs_then ev en es a =
    subst (λ (vs : List ℕ). AreAdded kept then levels told vs numbers_then signs_then) ev
    (subst (λ (ns : List ℕ). AreAdded kept then levels told valley ns signs_then) en (subst (AreAdded kept then levels told valley numbers) es a))

-- where none of the first three cuts is told, the fourth is left
pub cut_is_told : (class : Class) (w : Word) (m : Move) (kept levels ledger : List Form) (signs : List Sign) (count : ℕ)
    → ledger ≡ kept_with_move (outline_of w) m kept levels → signs ≡ m.signs → count ≡ order_of w + m.count
    → (contradicts others told : Bool) → contradicts ≡ false
    → (WidthsContradict kept (valley_of (outline_of w)) (new_squares (outline_of w) m) → contradicts ≡ true)
    → (LevelsContradict (kept_by_widths kept (valley_of (outline_of w)) (new_squares (outline_of w) m)) levels m.signs → contradicts ≡ true)
    → others ≡ false → (SignIsOther ledger levels signs → others ≡ true)
    → (class ≡ Perfect → SidesAreEqual ledger count → told ≡ true)
    → IsCutByLevels class w m kept levels → told ≡ true
cut_is_told class w m kept levels ledger signs count el es en contradicts others told none width level none_other other sides (inl cut) =
    absurd (absurd-of_true_and_false contradicts (width cut) none)
cut_is_told class w m kept levels ledger signs count el es en contradicts others told none width level none_other other sides (inr (inl cut)) =
    absurd (absurd-of_true_and_false contradicts (level cut) none)
cut_is_told class w m kept levels ledger signs count el es en contradicts others told none width level none_other other sides (inr (inr (inl cut))) =
    absurd (absurd-of_true_and_false others (other (subst (λ (ks : List Form). SignIsOther ks levels signs) (sym el)
    (subst (SignIsOther (kept_with_move (outline_of w) m kept levels) levels) (sym es) cut))) none_other)
cut_is_told class w m kept levels ledger signs count el es en contradicts others told none width level none_other other sides
    (inr (inr (inr (perfect, cut)))) = sides perfect (subst (λ (ks : List Form). SidesAreEqual ks count) (sym el)
    (subst (SidesAreEqual (kept_with_move (outline_of w) m kept levels)) (sym en) cut))
