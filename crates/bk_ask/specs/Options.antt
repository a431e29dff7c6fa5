-- Options: names and values that stand behind a command.
-- Example (AskExamples): in `--order 9 --class` stands one option, since the last name has no value. `--order` alone is
-- no option of `verify`, and neither is `--order 9 --order 9`, in which the name stands twice.
use Rattle.std.specs.List.{AllByRecursion}
use Rattle.std.specs.Prelude.{Contains, List, None, Option, Some, [], flat_map, ℕ, ⊤, ◌∷◌, ◌≡◌, ◌≢◌, ◌⊎◌}

-- an option: a name and a value
pub record NamedValue : Type 0 where
  pub name : List ℕ
  pub value : List ℕ

-- the two words of an option
abbrev pub option_words : NamedValue → List (List ℕ)
option_words p = p.name ∷ p.value ∷ []

-- words, cut into options: each first one is a name, the next one its value. A last word without a value is in none
abbrev pub options_in : List (List ℕ) → List NamedValue
options_in [] = []
options_in (name ∷ []) = []
options_in (name ∷ value ∷ words) = record { name = name; value = value } ∷ options_in words

-- no option has this name
abbrev pub IsLeftOut : List NamedValue → List ℕ → Type 0
IsLeftOut options name = AllByRecursion (λ p. p.name ≢ name) options

-- no name stands twice
abbrev pub NamesDiffer : List NamedValue → Type 0
NamesDiffer [] = ⊤
NamesDiffer (p ∷ options) = IsLeftOut options p.name × NamesDiffer options

-- the words are options in any order: none is left over, each name is one of these, and none stands twice
pub record AreOptions (names words : List (List ℕ)) : Type 0 where
  pub whole : words ≡ flat_map option_words (options_in words)
  pub known : AllByRecursion (λ p. Contains names p.name) (options_in words)
  pub once : NamesDiffer (options_in words)

-- one of the options has this name, and its value means a
pub record Given {A : Type 0} (options : List NamedValue) (name : List ℕ) (Means : List ℕ → A
    → Type 0) (a : A) : Type 0 where
  pub value : List ℕ
  pub stands : Contains options (record { name = name; value = value })
  pub means : Means value a

-- the option of this name is left out, or its value means a
abbrev pub MayHave : {A : Type 0} → List NamedValue → List ℕ → (List ℕ → A → Type 0) → Option A → Type 0
MayHave options name Means None = IsLeftOut options name
MayHave options name Means (Some a) = Given options name Means a

-- the value of the option of this name means a; or the option is left out, and a is what is taken then
abbrev pub IsGivenOr : {A : Type 0} → List NamedValue → List ℕ → (List ℕ → A → Type 0) → A → A → Type 0
IsGivenOr options name Means taken a = Given options name Means a ⊎ (IsLeftOut options name × (a ≡ taken))
