-- The first word is taken off.
use Rattle.std.specs.Prelude.{IfNone, IfSome, List, Option, String, [], drop, length, map, nat_eq, string_bytes, take, true, ℕ, ◌-◌, ◌<◌, ◌∷◌, ◌≡◌, ◌≤◌}
use Rattle.std.specs.declared.alloc.Global.{Global}
use Rattle.std.proofs.Common.{ap, arith, eqb-true, false, get_or, refl, subst, sym, ◌∙◌}
use Rattle.std.proofs.lemmas.Bool.{false≢true}
use Rattle.bk_laws.proofs.ListItems.{cons-first_and_rest}
use Rattle.bk_ask.specs.Asked.{Asks, AsksNothing}
use Rattle.bk_ask.specs.declared.Ask.{Ask}
use Rattle.bk_ask.proofs.Unasked.{HasNoOptions, nothing_with_options}

-- the words behind the first one
abbrev pub later_words : List (String Global) → List (List ℕ)
later_words words = map string_bytes (take (length words - 1) (drop 1 words))

-- some words are the first one and those behind it
pub split_words : (words : List (String Global)) (command : String Global) (name : List ℕ) → 1 ≤ length words → command ≡ get_or words 0 command
    → name ≡ string_bytes command
    → map string_bytes words ≡ name ∷ later_words words
split_words words command name one is same =
    ap (map string_bytes) (cons-first_and_rest words command one is) ∙ ap (λ (n : List ℕ). n ∷ later_words words) (sym same)

-- where there are no words, there are no bytes of words
pub no_words : (words : List (String Global)) → true ≡ nat_eq (length words) 0 → map string_bytes words ≡ []
no_words [] test = refl
no_words (word ∷ words) test = absurd (omega (arith, eqb-true (length (word ∷ words)) 0 (sym test)))

-- what asks nothing does so by another name of the words
pub none_along : {A : Type 0} (o : Option A) (words more : List (List ℕ)) → words ≡ more → IfNone o (AsksNothing more) → IfNone o (AsksNothing words)
none_along o words more same none = subst (λ (w : List (List ℕ)). IfNone o (AsksNothing w)) (sym same) none

-- where the first word is the one said, and nothing is asked by it and the later words, the words ask nothing
pub none_by : {A : Type 0} (o : Option A) (words : List (String Global)) (command : String Global) (name said : List ℕ) → 1 ≤ length words
    → command ≡ get_or words 0 command → name ≡ string_bytes command → name ≡ said → IfNone o (AsksNothing (said ∷ later_words words))
    → IfNone o (AsksNothing (map string_bytes words))
none_by o words command name said one is same says none =
    none_along o (map string_bytes words) (said ∷ later_words words)
    (split_words words command name one is same ∙ ap (λ (n : List ℕ). n ∷ later_words words) says) none

-- what is asked by the words is asked by another name of them
pub some_along : (o : Option Ask) (words more : List (List ℕ)) → words ≡ more → IfSome o (Asks more) → IfSome o (Asks words)
some_along o words more same some = subst (λ (w : List (List ℕ)). IfSome o (Asks w)) (sym same) some

-- where the first word is the one said, what it and the later words ask is what the words ask
pub some_by : (o : Option Ask) (words : List (String Global)) (command : String Global) (name said : List ℕ) → 1 ≤ length words
    → command ≡ get_or words 0 command → name ≡ string_bytes command → name ≡ said → IfSome o (Asks (said ∷ later_words words))
    → IfSome o (Asks (map string_bytes words))
some_by o words command name said one is same says some =
    some_along o (map string_bytes words) (said ∷ later_words words)
    (split_words words command name one is same ∙ ap (λ (n : List ℕ). n ∷ later_words words) says) some

-- less than one word asks nothing
pub none_at_all : (words : List (String Global)) → length words < 1 → AsksNothing (map string_bytes words)
none_at_all [] few = λ ask is. cc is.line
none_at_all (word ∷ words) few = absurd (omega arith)

more_words : (name : List ℕ) (words : List (String Global)) → HasNoOptions name → false ≡ nat_eq (length words) 0 → AsksNothing (name ∷ map string_bytes words)
more_words name [] none test = absurd (false≢true test)
more_words name (word ∷ words) none test = nothing_with_options name (string_bytes word) (map string_bytes words) none

-- where the first word names no command with options, and there are further words, the words ask nothing
pub none_with : (words : List (String Global)) (command : String Global) (name : List ℕ) → 1 ≤ length words
    → command ≡ get_or words 0 command → name ≡ string_bytes command → HasNoOptions name
    → false ≡ nat_eq (length (take (length words - 1) (drop 1 words))) 0 → AsksNothing (map string_bytes words)
none_with words command name one is same none test =
    subst AsksNothing (sym (split_words words command name one is same)) (more_words name _ none test)
