-- When words ask nothing.
use Rattle.std.specs.Prelude.{List, Option, [], codes, ℕ, ◌∷◌, ◌≡◌}
use Rattle.std.proofs.Common.{ap, subst, sym}
use Rattle.bk_laws.proofs.Membership.{contains-none}
use Rattle.bk_word.specs.Word.{Word}
use Rattle.bk_word.specs.declared.Class.{Class}
use Rattle.bk_ask.specs.Asked.{Asks, AsksListing, AsksNothing, AsksPair, AsksTrial, AsksVerify, OptionsSay, command_name}
use Rattle.bk_ask.specs.declared.Ask.{Ask}
use Rattle.bk_ask.specs.declared.Ask.TheVariants as asks
use Rattle.bk_pair.specs.declared.Kind.{Kind}
use Rattle.bk_ask.proofs.OptionLaws.{option_of}
use Rattle.bk_ask.proofs.OneAsk.{IsOneName, first_of, one_name, rest_of}

-- the words behind the name of a command say what is asked
pub options_say : (name : List ℕ) (options : List (List ℕ)) (ask : Ask) → Asks (name ∷ options) ask → OptionsSay options ask
options_say name options ask is = subst (λ (rest : List (List ℕ)). OptionsSay rest ask) (sym (ap rest_of is.line)) is.say

-- the options ask for no listing
abbrev pub NoListing : List (List ℕ) → Type 0
NoListing options = (order : ℕ) (class : Class) (from : Option Word) (limit : Option ℕ) → AsksListing options order class from limit → ⊥

-- the options ask for no trial
abbrev pub NoTrial : List (List ℕ) → Type 0
NoTrial options = (seed count : ℕ) → AsksTrial options seed count → ⊥

-- the options ask for no list to be verified
abbrev pub NoVerify : List (List ℕ) → Type 0
NoVerify options = (order : ℕ) → AsksVerify options order → ⊥

-- the options ask for no pairs
abbrev pub NoPair : List (List ℕ) → Type 0
NoPair options = (kind : Kind) → AsksPair options kind → ⊥

listed : (options : List (List ℕ)) → NoListing options → (ask : Ask) → IsOneName (codes "list") (command_name ask) → OptionsSay options ask → ⊥
listed options none (asks.List order class from limit) named say = none order class from limit say
listed options none _ named say = cc

tried : (options : List (List ℕ)) → NoTrial options → (ask : Ask) → IsOneName (codes "trial") (command_name ask) → OptionsSay options ask → ⊥
tried options none (asks.Trial seed count) named say = none seed count say
tried options none _ named say = cc

verified : (options : List (List ℕ)) → NoVerify options → (ask : Ask) → IsOneName (codes "verify") (command_name ask) → OptionsSay options ask → ⊥
verified options none (asks.Verify order) named say = none order say
verified options none _ named say = cc

paired : (options : List (List ℕ)) → NoPair options → (ask : Ask) → IsOneName (codes "pair") (command_name ask) → OptionsSay options ask → ⊥
paired options none (asks.Pair kind) named say = none kind say
paired options none _ named say = cc

nothing_said : (name : List ℕ) (options : List (List ℕ)) → ((ask : Ask) → IsOneName name (command_name ask) → OptionsSay options ask → ⊥)
    → AsksNothing (name ∷ options)
nothing_said name options none ask is = none ask (one_name name (command_name ask) (ap first_of is.line)) (options_say name options ask is)

-- `list` with options that ask for no listing asks nothing
pub nothing_listed : (options : List (List ℕ)) → NoListing options → AsksNothing (codes "list" ∷ options)
nothing_listed options none = nothing_said (codes "list") options (listed options none)

-- `trial` with options that ask for no trial asks nothing
pub nothing_tried : (options : List (List ℕ)) → NoTrial options → AsksNothing (codes "trial" ∷ options)
nothing_tried options none = nothing_said (codes "trial") options (tried options none)

-- `verify` with options that name no order asks nothing
pub nothing_verified : (options : List (List ℕ)) → NoVerify options → AsksNothing (codes "verify" ∷ options)
nothing_verified options none = nothing_said (codes "verify") options (verified options none)

-- `pair` with options that ask for no pairs asks nothing
pub nothing_paired : (options : List (List ℕ)) → NoPair options → AsksNothing (codes "pair" ∷ options)
nothing_paired options none = nothing_said (codes "pair") options (paired options none)

-- the name of no command that has options
pub record HasNoOptions (name : List ℕ) : Type 0 where
  pub no_list : name ≡ codes "list" → ⊥
  pub no_trial : name ≡ codes "trial" → ⊥
  pub no_verify : name ≡ codes "verify" → ⊥
  pub no_pair : name ≡ codes "pair" → ⊥

other : (name word : List ℕ) (options : List (List ℕ)) → HasNoOptions name → (ask : Ask) → name ≡ command_name ask → OptionsSay (word ∷ options) ask → ⊥
other name word options none (asks.List order class from limit) named say = none.no_list named
other name word options none (asks.Trial seed count) named say = none.no_trial named
other name word options none (asks.Verify order) named say = none.no_verify named
other name word options none (asks.Pair kind) named say = none.no_pair named
other name word options none _ named say = cc

-- a command without options, with a word behind it, asks nothing
pub nothing_with_options : (name word : List ℕ) (options : List (List ℕ)) → HasNoOptions name → AsksNothing (name ∷ word ∷ options)
nothing_with_options name word options none ask is =
    other name word options none ask (ap first_of is.line) (options_say name (word ∷ options) ask is)

-- without options no listing is asked
pub no_listing : (order : ℕ) (class : Class) (from : Option Word) (limit : Option ℕ) → AsksListing [] order class from limit → ⊥
no_listing order class from limit say = contains-none (option_of (codes "--order") say.has_order.value) say.has_order.stands

-- without options no trial is asked
pub no_trial : (seed count : ℕ) → AsksTrial [] seed count → ⊥
no_trial seed count say = contains-none (option_of (codes "--seed") say.has_seed.value) say.has_seed.stands

-- without options no list is verified
pub no_verify : (order : ℕ) → AsksVerify [] order → ⊥
no_verify order say = contains-none (option_of (codes "--order") say.has_order.value) say.has_order.stands

-- a name alone asks nothing where no ask has this name and stands without options
pub nothing_alone : (name : List ℕ) → ((ask : Ask) → name ≡ command_name ask → OptionsSay [] ask → ⊥) → AsksNothing (name ∷ [])
nothing_alone name none ask is = none ask (ap first_of is.line) (options_say name [] ask is)

-- a name alone asks for the command of this name, where that may stand alone
pub asks_alone : (name : List ℕ) (ask : Ask) → name ≡ command_name ask → OptionsSay [] ask → Asks (name ∷ []) ask
asks_alone name ask named say = record { options = []; line = ap (λ (n : List ℕ). n ∷ []) named; say = say }
