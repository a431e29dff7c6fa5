-- What a command line asks.
-- Examples (AskExamples): `check` asks for the answers of check, and `list --limit 1 --order 9` for one entry of order
-- 9, class perfect.
use Rattle.std.specs.Prelude.{List, Option, [], codes, ℕ, ◌∷◌, ◌≡◌}
use Rattle.bk_word.specs.Word.{Word}
use Rattle.bk_word.specs.declared.Class.{Class}
use Rattle.bk_word.specs.declared.Class.TheVariants.{Perfect}
use Rattle.bk_ask.specs.Options.{AreOptions, Given, IsGivenOr, MayHave, options_in}
use Rattle.bk_ask.specs.OptionValues.{IsClassName, IsCount, IsCursor, IsKindName, IsLimit, IsOrder, IsSeed}
use Rattle.bk_ask.specs.declared.Ask.{Ask}
use Rattle.bk_ask.specs.declared.Ask.TheVariants as asks
use Rattle.bk_pair.specs.declared.Kind.{Kind}
use Rattle.bk_pair.specs.declared.Kind.TheVariants as kinds

-- the word that names the command
abbrev pub command_name : Ask → List ℕ
command_name asks.Check = codes "check"
command_name asks.Canon = codes "canon"
command_name asks.Images = codes "images"
command_name asks.Net = codes "net"
command_name asks.Flow = codes "flow"
command_name asks.Word = codes "word"
command_name asks.Solve = codes "solve"
command_name asks.Draw = codes "draw"
command_name asks.Dual = codes "dual"
command_name (asks.List order class from limit) = codes "list"
command_name (asks.Trial seed count) = codes "trial"
command_name (asks.Verify order) = codes "verify"
command_name asks.Alike = codes "alike"
command_name (asks.Pair kind) = codes "pair"
command_name asks.Help = codes "help"

-- list: an order from 2 to 16; and it may have a class, without which it is perfect, a word after which to start, and
-- a limit
pub record AsksListing (words : List (List ℕ)) (order : ℕ) (class : Class) (from : Option Word)
    (limit : Option ℕ) : Type 0 where
  pub options : AreOptions (codes "--order" ∷ codes "--class" ∷ codes "--from" ∷ codes "--limit" ∷ []) words
  pub has_order : Given (options_in words) (codes "--order") IsOrder order
  pub has_class : IsGivenOr (options_in words) (codes "--class") IsClassName Perfect class
  pub has_from : MayHave (options_in words) (codes "--from") IsCursor from
  pub has_limit : MayHave (options_in words) (codes "--limit") IsLimit limit

-- trial: a seed and a count
pub record AsksTrial (words : List (List ℕ)) (seed count : ℕ) : Type 0 where
  pub options : AreOptions (codes "--seed" ∷ codes "--count" ∷ []) words
  pub has_seed : Given (options_in words) (codes "--seed") IsSeed seed
  pub has_count : Given (options_in words) (codes "--count") IsCount count

-- verify: an order from 2 to 16
pub record AsksVerify (words : List (List ℕ)) (order : ℕ) : Type 0 where
  pub options : AreOptions (codes "--order" ∷ []) words
  pub has_order : Given (options_in words) (codes "--order") IsOrder order

-- pair: it may have a kind, without which it is perfect
pub record AsksPair (words : List (List ℕ)) (kind : Kind) : Type 0 where
  pub options : AreOptions (codes "--kind" ∷ []) words
  pub has_kind : IsGivenOr (options_in words) (codes "--kind") IsKindName kinds.Perfect kind

-- what the words behind the command's name say. All commands but `list`, `trial`, `verify` and `pair` stand alone
abbrev pub OptionsSay : List (List ℕ) → Ask → Type 0
OptionsSay words (asks.List order class from limit) = AsksListing words order class from limit
OptionsSay words (asks.Trial seed count) = AsksTrial words seed count
OptionsSay words (asks.Verify order) = AsksVerify words order
OptionsSay words (asks.Pair kind) = AsksPair words kind
OptionsSay words _ = words ≡ []

-- the words of a command line, without the program's name, ask this: the first one names the command
pub record Asks (words : List (List ℕ)) (ask : Ask) : Type 0 where
  pub options : List (List ℕ)
  pub line : words ≡ command_name ask ∷ options
  pub say : OptionsSay options ask

-- the words ask nothing
abbrev pub AsksNothing : List (List ℕ) → Type 0
AsksNothing words = (ask : Ask) → Asks words ask → ⊥
