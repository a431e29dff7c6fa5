-- An option of a name has one value where no name stands twice, and none where it is left out.
use Rattle.std.specs.Prelude.{Contains, List, None, Option, Some, [], refl, ℕ}
use Rattle.std.specs.Prelude.{◌∷◌, ◌≡◌}
use Rattle.std.proofs.Common.{ap, inl, inr, subst, sym, ◌∙◌}
use Rattle.bk_laws.proofs.Membership.{contains-first_or_later, contains-none}
use Rattle.bk_ask.specs.Options.{Given, IsGivenOr, IsLeftOut, MayHave, NamedValue, NamesDiffer}

-- the option of a name and its value
abbrev pub option_of : List ℕ → List ℕ → NamedValue
option_of name value = record { name = name; value = value }

-- an option that is left out isn't given with a value
pub left_out_option_has_no_value : (options : List NamedValue) (name value : List ℕ) → IsLeftOut options name → Contains options (option_of name value) → ⊥
left_out_option_has_no_value [] name value out has = contains-none (option_of name value) has
left_out_option_has_no_value (p ∷ options) name value out has = elim (contains-first_or_later p options (option_of name value) has) [
  | inl is ↦ out.0 (ap (λ (q : NamedValue). q.name) is)
  | inr later ↦ left_out_option_has_no_value options name value out.1 later
]

-- if no name comes twice, an option has one value at most
pub one_value : (options : List NamedValue) (name v w : List ℕ) → NamesDiffer options → Contains options (option_of name v)
    → Contains options (option_of name w) → v ≡ w
one_value [] name v w once a b = absurd (contains-none (option_of name v) a)
one_value (p ∷ options) name v w once a b = elim (contains-first_or_later p options (option_of name v) a) [
  | inl one ↦ elim (contains-first_or_later p options (option_of name w) b) [
    | inl two ↦ ap (λ (q : NamedValue). q.value) (sym one ∙ two)
    | inr later ↦ absurd (left_out_option_has_no_value options name w (subst (IsLeftOut options) (ap (λ (q : NamedValue). q.name) one) once.0) later)
  ]
  | inr earlier ↦ elim (contains-first_or_later p options (option_of name w) b) [
    | inl two ↦ absurd (left_out_option_has_no_value options name v (subst (IsLeftOut options) (ap (λ (q : NamedValue). q.name) two) once.0) earlier)
    | inr later ↦ one_value options name v w once.1 earlier later
  ]
]

-- a meaning that a value has one of
abbrev pub MeansOneThing : {A : Type 0} → (List ℕ → A → Type 0) → Type 0
MeansOneThing {A} Means = (bytes : List ℕ) (a b : A) → Means bytes a → Means bytes b → a ≡ b

-- what an option says where its value is known
pub means_of : {A : Type 0} (options : List NamedValue) (name value : List ℕ) (Means : List ℕ → A → Type 0) (a : A) → NamesDiffer options
    → Contains options (option_of name value)
    → Given options name Means a → Means value a
means_of options name value Means a once has given =
    subst (λ (v : List ℕ). Means v a) (one_value options name given.value value once given.stands has) given.means

-- if values mean one thing, an option that is given means one thing
pub given_once : {A : Type 0} (options : List NamedValue) (name : List ℕ) (Means : List ℕ → A → Type 0) → MeansOneThing Means → (a b : A) → NamesDiffer options
    → Given options name Means a → Given options name Means b → a ≡ b
given_once options name Means one a b once first second =
    one first.value a b first.means (means_of options name first.value Means b once first.stands second)

-- if values mean one thing, an option that may be left out means one thing
pub may_have_once : {A : Type 0} (options : List NamedValue) (name : List ℕ) (Means : List ℕ → A → Type 0) → MeansOneThing Means → (a b : Option A)
    → NamesDiffer options
    → MayHave options name Means a → MayHave options name Means b → a ≡ b
may_have_once options name Means one None None once first second = refl
may_have_once options name Means one None (Some b) once first second = absurd (left_out_option_has_no_value options name second.value first second.stands)
may_have_once options name Means one (Some a) None once first second = absurd (left_out_option_has_no_value options name first.value second first.stands)
may_have_once options name Means one (Some a) (Some b) once first second = ap Some (given_once options name Means one a b once first second)

-- if values mean one thing, an option means one thing that has a value of its own where it is left out
pub given_or_once : {A : Type 0} (options : List NamedValue) (name : List ℕ) (Means : List ℕ → A → Type 0) (taken : A) → MeansOneThing Means → (a b : A)
    → NamesDiffer options
    → IsGivenOr options name Means taken a → IsGivenOr options name Means taken b → a ≡ b
given_or_once options name Means taken one a b once (inl first) (inl second) = given_once options name Means one a b once first second
given_or_once options name Means taken one a b once (inl first) (inr out) = absurd (left_out_option_has_no_value options name first.value out.0 first.stands)
given_or_once options name Means taken one a b once (inr out) (inl second) = absurd (left_out_option_has_no_value options name second.value out.0 second.stands)
given_or_once options name Means taken one a b once (inr first) (inr second) = first.1 ∙ sym second.1

-- where the value is known and has no meaning, the option says nothing, and isn't left out
pub no_meaning_or : {A : Type 0} (options : List NamedValue) (name value : List ℕ) (Means : List ℕ → A → Type 0) (taken : A) → NamesDiffer options
    → Contains options (option_of name value)
    → ((a : A) → Means value a → ⊥) → (a : A) → IsGivenOr options name Means taken a → ⊥
no_meaning_or options name value Means taken once has none a (inl given) = none a (means_of options name value Means a once has given)
no_meaning_or options name value Means taken once has none a (inr out) = left_out_option_has_no_value options name value out.0 has

-- where the value is known and has no meaning, the option says nothing
pub no_meaning : {A : Type 0} (options : List NamedValue) (name value : List ℕ) (Means : List ℕ → A → Type 0) → NamesDiffer options
    → Contains options (option_of name value)
    → ((a : A) → Means value a → ⊥) → (a : Option A) → MayHave options name Means a → ⊥
no_meaning options name value Means once has none None may = left_out_option_has_no_value options name value may has
no_meaning options name value Means once has none (Some a) may = none a (means_of options name value Means a once has may)

-- an option with a value that means nothing isn't given
pub not_given : {A : Type 0} (options : List NamedValue) (name value : List ℕ) (Means : List ℕ → A → Type 0) → NamesDiffer options
    → Contains options (option_of name value)
    → ((a : A) → Means value a → ⊥) → (a : A) → Given options name Means a → ⊥
not_given options name value Means once has none a given = none a (means_of options name value Means a once has given)
