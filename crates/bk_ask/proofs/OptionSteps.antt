-- Words are looked through option by option.
use Rattle.std.specs.Prelude.{Contains, List, String, [], drop, length, map, refl, string_bytes, take, ℕ, ◌-◌, ◌<◌, ◌∷◌, ◌≡◌, ◌≢◌, ◌≤◌}
use Rattle.std.specs.Str.{bytes_eq}
use Rattle.std.specs.declared.alloc.Global.{Global}
use Rattle.std.proofs.Common.{Bool, ap, arith, eq-eqb, eqb-true, false, get_or, nat_eq, subst, sym, true, ◌∙◌}
use Rattle.std.proofs.lemmas.List.{length-map}
use Rattle.std.proofs.lemmas.Slice.Eq.{bytes_eq-Decides}
use Rattle.bk_laws.proofs.ListItems.{cons-first_two_and_rest, cons-two_and_drop}
use Rattle.bk_laws.proofs.ListParts.{other_name-from_bytes_eq}
use Rattle.bk_laws.proofs.Membership.{contains-later}
use Rattle.bk_ask.specs.Options.{AreOptions, IsLeftOut, NamedValue, options_in}
use Rattle.bk_ask.proofs.OptionLaws.{option_of}

-- all words are options of these names just where those that are left are
pub record StandOrFall (names all left : List (List ℕ)) : Type 0 where
  pub stand : AreOptions names left → AreOptions names all
  pub fall : AreOptions names all → AreOptions names left

-- all words say no more of the option of this name than those that are left
pub record SayTheSame (name : List ℕ) (all left : List (List ℕ)) : Type 0 where
  pub out : IsLeftOut (options_in left) name → IsLeftOut (options_in all) name
  pub has : (value : List ℕ) → Contains (options_in left) (option_of name value) → Contains (options_in all) (option_of name value)

-- where the first option left has another name, those behind it say the same
pub say_more : (name : List ℕ) (all : List (List ℕ)) (first value : List ℕ) (words : List (List ℕ)) → first ≢ name
    → SayTheSame name all (first ∷ value ∷ words) → SayTheSame name all words
say_more name all first value words other so = record {
  out = λ out. so.out (other, out);
  has = λ v has. so.has v (contains-later (option_of first value) (options_in words) (option_of name v) has);
}

-- fewer than two words have no option
pub no_option_in_fewer_than_two_words : (words : List (List ℕ)) → length words < 2 → options_in words ≡ []
no_option_in_fewer_than_two_words [] few = refl
no_option_in_fewer_than_two_words (word ∷ []) few = refl
no_option_in_fewer_than_two_words (word ∷ next ∷ words) few = absurd (omega arith)

-- no words are options of any names
pub end_stands : (names words : List (List ℕ)) → length words ≡ 0 → AreOptions names words
end_stands names [] none = record { whole = refl; known = tt; once = tt }
end_stands names (word ∷ words) none = absurd (omega arith)

-- fewer than two words are options only where there are none
pub end_falls : (names words : List (List ℕ)) → length words < 2 → AreOptions names words → length words ≡ 0
end_falls names [] few are = refl
end_falls names (word ∷ []) few are = ap length are.whole
end_falls names (word ∷ next ∷ words) few are = absurd (omega arith)

-- ---- the words as the code holds them

-- where the first word isn't the name, the words behind the first two say the same of it
pub say_rest : (name : List ℕ) (all : List (List ℕ)) (words : List (String Global)) (first : String Global) (text : List ℕ) → 2 ≤ length words
    → first ≡ get_or words 0 first
    → text ≡ string_bytes first → false ≡ bytes_eq text name → SayTheSame name all (map string_bytes words)
    → SayTheSame name all (map string_bytes (take (length words - 2) (drop 2 words)))
say_rest name all words first text two is same test so =
    let cut : words ≡ first ∷ get_or words 1 first ∷ take (length words - 2) (drop 2 words) = cons-first_two_and_rest words first two is in
    say_more name all (string_bytes first) (string_bytes (get_or words 1 first)) (map string_bytes (take (length words - 2) (drop 2 words)))
    (λ e. other_name-from_bytes_eq text name test (same ∙ e)) (subst (λ (w : List (String Global)). SayTheSame name all (map string_bytes w)) cut so)

-- where fewer than two words are left, the option is left out
pub say_none : (name : List ℕ) (all : List (List ℕ)) (words : List (String Global)) → length words < 2 → SayTheSame name all (map string_bytes words)
    → IsLeftOut (options_in all) name
say_none name all words few so =
    so.out (subst (λ (options : List NamedValue). IsLeftOut options name)
    (sym (no_option_in_fewer_than_two_words (map string_bytes words) (omega (arith, length-map words string_bytes)))) tt)

-- all words are options just where no word is left
pub stand_end : (names all : List (List ℕ)) (words : List (String Global)) (empty : Bool) → length words < 2 → empty ≡ nat_eq (length words) 0
    → StandOrFall names all (map string_bytes words)
    → (empty ≡ true → AreOptions names all) × (AreOptions names all → empty ≡ true)
stand_end names all words empty few is so =
    let same : length (map string_bytes words) ≡ length words = length-map words string_bytes in (
      λ e. so.stand (end_stands names (map string_bytes words) (same ∙ eqb-true (length words) 0 (sym is ∙ e))),
      λ are. is ∙ eq-eqb (length words) 0 (sym same ∙ end_falls names (map string_bytes words) (omega arith) (so.fall are)),
    )

-- where the first word is the name, the next one is the value
pub say_found : (name : List ℕ) (all : List (List ℕ)) (words : List (String Global)) (first second : String Global) (text value : List ℕ)
    → 2 ≤ length words → first ≡ get_or words 0 first → second ≡ get_or words 1 second → text ≡ string_bytes first → value ≡ string_bytes second
    → true ≡ bytes_eq text name → SayTheSame name all (map string_bytes words) → Contains (options_in all) (option_of name value)
say_found name all words first second text value two is next same means test so =
    so.has value (subst (λ (w : List (String Global)). Contains (options_in (map string_bytes w)) (option_of name value))
    (sym (cons-two_and_drop words first second two is next))
    (0, omega arith, λ i. option_of ((sym same ∙ (bytes_eq-Decides text name).0 (sym test)) i) (sym means i)))
