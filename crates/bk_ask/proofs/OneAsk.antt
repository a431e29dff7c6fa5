-- Words ask one thing: the first one tells the command, and each option is read in one way.
use Rattle.std.specs.Prelude.{List, Option, [], codes, true, ℕ, ◌∷◌, ◌≡◌}
use Rattle.std.specs.Str.{bytes_eq}
use Rattle.std.proofs.Common.{ap, subst, sym, ◌∙◌}
use Rattle.std.proofs.lemmas.Slice.Eq.{bytes_eq-Decides}
use Rattle.bk_word.specs.Word.{Word}
use Rattle.bk_word.specs.declared.Class.{Class}
use Rattle.bk_word.specs.declared.Class.TheVariants.{Perfect}
use Rattle.bk_ask.specs.Asked.{Asks, AsksListing, AsksPair, AsksTrial, AsksVerify, OptionsSay, command_name}
use Rattle.bk_ask.specs.OptionValues.{IsClassName, IsCount, IsCursor, IsKindName, IsLimit, IsOrder, IsSeed}
use Rattle.bk_ask.specs.Options.{NamesDiffer, options_in}
use Rattle.bk_ask.specs.declared.Ask.{Ask}
use Rattle.bk_ask.specs.declared.Ask.TheVariants as asks
use Rattle.bk_pair.specs.declared.Kind.{Kind}
use Rattle.bk_pair.specs.declared.Kind.TheVariants as kinds
use Rattle.bk_ask.proofs.OptionLaws.{given_once, given_or_once, may_have_once}
use Rattle.bk_ask.proofs.ValueLaws.{one_class, one_count, one_cursor, one_kind, one_limit, one_order, one_seed}

-- two names are one, by a test of their bytes
abbrev pub IsOneName : List ℕ → List ℕ → Type 0
IsOneName name other = bytes_eq name other ≡ true

-- equal names are one name
pub one_name : (name other : List ℕ) → name ≡ other → IsOneName name other
one_name name other = (bytes_eq-Decides name other).1

-- ---- what the options say

listing_once : (words : List (List ℕ)) (order order' : ℕ) (class class' : Class) (from from' : Option Word) (limit limit' : Option ℕ)
    → AsksListing words order class from limit → AsksListing words order' class' from' limit'
    → asks.List order class from limit ≡ asks.List order' class' from' limit'
listing_once words order order' class class' from from' limit limit' a b =
    let once : NamesDiffer (options_in words) = a.options.once in
    let orders : order ≡ order' =
    given_once (options_in words) (codes "--order") IsOrder one_order order order' once a.has_order b.has_order in
    let classes : class ≡ class' =
    given_or_once (options_in words) (codes "--class") IsClassName Perfect one_class class class' once a.has_class b.has_class in
    let cursors : from ≡ from' = may_have_once (options_in words) (codes "--from") IsCursor one_cursor from from' once a.has_from b.has_from in
    let limits : limit ≡ limit' =
    may_have_once (options_in words) (codes "--limit") IsLimit one_limit limit limit' once a.has_limit b.has_limit in
    cc

trial_once : (words : List (List ℕ)) (seed seed' count count' : ℕ) → AsksTrial words seed count → AsksTrial words seed' count'
    → asks.Trial seed count ≡ asks.Trial seed' count'
trial_once words seed seed' count count' a b =
    let once : NamesDiffer (options_in words) = a.options.once in
    let seeds : seed ≡ seed' = given_once (options_in words) (codes "--seed") IsSeed one_seed seed seed' once a.has_seed b.has_seed in
    let counts : count ≡ count' = given_once (options_in words) (codes "--count") IsCount one_count count count' once a.has_count b.has_count in
    cc

verify_once : (words : List (List ℕ)) (order order' : ℕ) → AsksVerify words order → AsksVerify words order' → asks.Verify order ≡ asks.Verify order'
verify_once words order order' a b =
    ap asks.Verify
    (given_once (options_in words) (codes "--order") IsOrder one_order order order' a.options.once a.has_order b.has_order)

pair_once : (words : List (List ℕ)) (kind kind' : Kind) → AsksPair words kind → AsksPair words kind' → asks.Pair kind ≡ asks.Pair kind'
pair_once words kind kind' a b =
    ap asks.Pair
    (given_or_once (options_in words) (codes "--kind") IsKindName kinds.Perfect one_kind kind kind' a.options.once a.has_kind b.has_kind)

-- two commands of one name, whose options say two asks, are one ask
pub same_options : (words : List (List ℕ)) (a b : Ask) → IsOneName (command_name a) (command_name b) → OptionsSay words a → OptionsSay words b → a ≡ b
same_options words (asks.List order class from limit) (asks.List order' class' from' limit') named say say' =
    listing_once words order order' class class' from from' limit limit' say say'
same_options words (asks.Trial seed count) (asks.Trial seed' count') named say say' = trial_once words seed seed' count count' say say'
same_options words (asks.Verify order) (asks.Verify order') named say say' = verify_once words order order' say say'
same_options words (asks.Pair kind) (asks.Pair kind') named say say' = pair_once words kind kind' say say'
-- (this case alone has the last one checked for each command of the other ask)
same_options words _ asks.Help named say say' = cc
same_options words _ _ named say say' = cc

-- the words behind the first one
abbrev pub rest_of : List (List ℕ) → List (List ℕ)
rest_of [] = []
rest_of (word ∷ words) = words

-- the first word, which is empty if there are no words
abbrev pub first_of : List (List ℕ) → List ℕ
first_of [] = []
first_of (word ∷ words) = word

-- words ask one thing at most
pub one_ask : (words : List (List ℕ)) (a b : Ask) → Asks words a → Asks words b → a ≡ b
one_ask words a b first second =
    let line : command_name a ∷ first.options ≡ command_name b ∷ second.options = sym first.line ∙ second.line in
    let say : OptionsSay first.options b = subst (λ (options : List (List ℕ)). OptionsSay options b) (sym (ap rest_of line)) second.say in
    same_options first.options a b (one_name (command_name a) (command_name b) (ap first_of line)) first.say say
