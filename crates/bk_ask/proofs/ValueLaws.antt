-- The value of an option means one thing.
use Rattle.std.specs.Prelude.{List, cond, length, nat_eq, refl, ℕ, ◌<◌, ◌^◌, ◌≡◌}
use Rattle.std.proofs.Common.{ap, arith, lit<, sym, ◌∙◌}
use Rattle.std.proofs.lemmas.Fmt.{decimal_injective}
use Rattle.bk_word.specs.Word.{Word}
use Rattle.bk_word.specs.declared.Class.{Class}
use Rattle.bk_word.specs.declared.Class.TheVariants.{Imperfect, Perfect, Simple}
use Rattle.bk_word.specs.declared.TheConstants.{LARGEST_LISTED_ORDER, LEAST_LISTED_ORDER}
use Rattle.bk_word.proofs.WordsRead.{one_word}
use Rattle.bk_ask.specs.OptionValues.{IsClassName, IsCount, IsCursor, IsKindName, IsLimit, IsNumberWithin, IsOrder, IsSeed, class_name, kind_name}
use Rattle.bk_ask.specs.declared.command_options.TheConstants.{GREATEST_SEED, MOST_CODES, MOST_ENTRIES}
use Rattle.bk_pair.specs.declared.Kind.{Kind}
use Rattle.bk_pair.specs.declared.Kind.TheVariants as kinds

-- bytes mean one number at most
one_number : (least most : ℕ) → most < 2 ^ 64 → (bytes : List ℕ) (a b : ℕ) → IsNumberWithin least most bytes a → IsNumberWithin least most bytes b → a ≡ b
one_number least most fits bytes a b first second =
    decimal_injective a b (omega (arith, first.at_most)) (omega (arith, second.at_most)) (sym first.text ∙ second.text)

-- bytes mean one order at most
pub one_order : (bytes : List ℕ) (a b : ℕ) → IsOrder bytes a → IsOrder bytes b → a ≡ b
one_order = one_number LEAST_LISTED_ORDER LARGEST_LISTED_ORDER (lit< tt)

-- bytes mean one limit at most
pub one_limit : (bytes : List ℕ) (a b : ℕ) → IsLimit bytes a → IsLimit bytes b → a ≡ b
one_limit = one_number 0 MOST_ENTRIES (lit< tt)

-- bytes mean one seed at most
pub one_seed : (bytes : List ℕ) (a b : ℕ) → IsSeed bytes a → IsSeed bytes b → a ≡ b
one_seed = one_number 0 GREATEST_SEED (lit< tt)

-- bytes mean one count at most
pub one_count : (bytes : List ℕ) (a b : ℕ) → IsCount bytes a → IsCount bytes b → a ≡ b
one_count = one_number 0 MOST_CODES (lit< tt)

-- bytes mean one cursor at most
pub one_cursor : (bytes : List ℕ) (v w : Word) → IsCursor bytes v → IsCursor bytes w → v ≡ w
one_cursor bytes v w first second = one_word bytes v w first.text second.text

-- the class whose name has this length
class_of_length : ℕ → Class
class_of_length n = cond (nat_eq n 7) Perfect (cond (nat_eq n 9) Imperfect Simple)

by_length : (class : Class) → class ≡ class_of_length (length (class_name class))
unfolding class_of_length
by_length Perfect = refl
by_length Imperfect = refl
by_length Simple = refl

-- bytes name one class at most
pub one_class : (bytes : List ℕ) (a b : Class) → IsClassName bytes a → IsClassName bytes b → a ≡ b
one_class bytes a b first second =
    by_length a ∙ ap (λ (name : List ℕ). class_of_length (length name)) (sym first ∙ second) ∙ sym (by_length b)

-- the kind whose name has this length
kind_of_length : ℕ → Kind
kind_of_length n = cond (nat_eq n 7) kinds.Perfect kinds.Any

kind_by_length : (kind : Kind) → kind ≡ kind_of_length (length (kind_name kind))
unfolding kind_of_length
kind_by_length kinds.Perfect = refl
kind_by_length kinds.Any = refl

-- bytes name one kind of pairs at most
pub one_kind : (bytes : List ℕ) (a b : Kind) → IsKindName bytes a → IsKindName bytes b → a ≡ b
one_kind bytes a b first second =
    kind_by_length a ∙ ap (λ (name : List ℕ). kind_of_length (length name)) (sym first ∙ second) ∙ sym (kind_by_length b)
