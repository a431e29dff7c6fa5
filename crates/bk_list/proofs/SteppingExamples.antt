-- A listing with the limit 0 takes no step, also where its line could not be written; and what a listing of one entry may take.
use Rattle.std.specs.List.{AllByRecursion}
use Rattle.std.specs.Prelude.{Option}
use Rattle.std.proofs.Common.{List, Some, [], arith, inl, inr, length, refl, ℕ, ◌++◌, ◌<◌, ◌∷◌, ◌≡◌}
use Rattle.std.proofs.lemmas.List.{length-append}
use Rattle.bk_word.proofs.WordExamples.{two}
use Rattle.bk_word.specs.Outline.{IsLegalMove, start}
use Rattle.bk_word.specs.Word.{Word}
use Rattle.bk_word.specs.declared.Sign.{Sign}
use Rattle.bk_word.specs.declared.Sign.TheVariants.{Above, Even}
use Rattle.bk_catalogue.proofs.Members.CatalogueExamples.{row_entry, row_word}
use Rattle.bk_catalogue.specs.Catalogue.{Entry}
use Rattle.bk_report.specs.declared.listing_lines.Last.{Last}
use Rattle.bk_report.specs.declared.listing_lines.Last.TheVariants.{End, Limit, Wide}
use Rattle.bk_catalogue.specs.NextMove.{first_move}
use Rattle.bk_catalogue.specs.Tree.{IsInTree, IsNotAfter}
use Rattle.bk_list.proofs.ListingExamples.{imperfect_up_to, one_listed}
use Rattle.bk_list.specs.Listing.{Catalogue, EndsBy, Listing}
use Rattle.bk_list.proofs.ListingSteps.{IsWithinLimit}
use Rattle.bk_list.specs.Stepping.{AreStepsTo, TakesSteps, TookSteps}

-- no word is after the cursor and not after it
none_up_to : (n : ℕ) (cursor : Word) (words : List Word) → AllByRecursion (IsInTree n cursor (Some cursor)) words → length words ≡ 0
none_up_to n cursor [] all = omega arith
none_up_to n cursor (w ∷ words) all = absurd ((all.0).within (all.0).after)

no_entries : (n : ℕ) (cursor : Word) (steps : ℕ) (entries : List Entry) → Some 0 ≡ Some (length entries) → AreStepsTo Limit n cursor entries steps → steps ≡ 0
no_entries n cursor steps [] e few = omega (arith, few.count, none_up_to n cursor few.words few.each)
no_entries n cursor steps (f ∷ entries) e few = absurd (omega (arith, count e))
  where
    count : Some 0 ≡ Some (length (f ∷ entries)) → 0 ≡ length (f ∷ entries)
    count e = cc

-- what is listed with the limit 0
abbrev none_asked : Catalogue → Word → Listing
none_asked catalogue cursor = record { catalogue = catalogue; cursor = cursor; limit = Some 0 }

pub no_step : (catalogue : Catalogue) (cursor : Word) (steps : ℕ) → TakesSteps (none_asked catalogue cursor) Limit steps → steps ≡ 0
no_step catalogue cursor steps t = no_entries catalogue.order cursor steps t.entries t.ends t.few

-- a listing with the limit 0 takes no steps, also where its last line could not be written
pub stopped_at_once : (catalogue : Catalogue) (cursor reached : Word) (a b : Option (List ℕ)) (steps : ℕ)
    → TookSteps (none_asked catalogue cursor) a b reached steps → steps ≡ 0
stopped_at_once catalogue cursor reached a b steps (inl t) = by t.within
  where
    some : 0 < length (t.entries ++ t.failed ∷ [])
    some = omega (arith, length-append t.entries (t.failed ∷ []))

    count : Some 0 ≡ Some (length (t.entries ++ t.failed ∷ [])) → 0 ≡ length (t.entries ++ t.failed ∷ [])
    count e = cc

    by : IsWithinLimit (Some 0) (t.entries ++ t.failed ∷ []) → steps ≡ 0
    by (inl h) = absurd (omega (arith, h))
    by (inr e) = absurd (omega (arith, some, count e))
stopped_at_once catalogue cursor reached a b steps (inr t) = by t.last t.ends t.few
  where
    by : (last : Last) → EndsBy (none_asked catalogue cursor) t.entries last → AreStepsTo last catalogue.order cursor t.entries steps → steps ≡ 0
    by End ends few = absurd (omega (arith, ends.0))
    by Limit ends few = no_entries catalogue.order cursor steps t.entries ends few
    by Wide ends few = absurd few

-- the legal words of one and of two moves of one square
abbrev one_move : Word
one_move = first_move ∷ []

abbrev two_moves : Word
two_moves = first_move ∷ first_move ∷ []

-- the word 2a
abbrev above_word : Word
above_word = two Above ∷ []

legal_one : IsLegalMove start first_move
legal_one = record { some = omega arith; signs = refl }

-- the legal words 1, 1.1, 2a and 2e are not after 2e
one_in_tree : IsInTree 2 [] (Some row_word) one_move
one_in_tree = record { legal = (legal_one, tt); some = omega arith; small = omega arith; after = refl; within = λ h. cc }

two_in_tree : IsInTree 2 [] (Some row_word) two_moves
two_in_tree = record {
  legal = (legal_one, (record { some = omega arith; signs = refl }, tt));
  some = omega arith;
  small = omega arith;
  after = refl;
  within = λ h. cc;
}

-- a word of two squares is in the tree of order 2, where it isn't after 2e
two_squares_in_tree : (sign : Sign) → IsNotAfter (Some row_word) (two sign ∷ []) → IsInTree 2 [] (Some row_word) (two sign ∷ [])
two_squares_in_tree sign within = record {
  legal = (record { some = omega arith; signs = refl }, tt);
  some = omega arith;
  small = omega arith;
  after = refl;
  within = within;
}

above_in_tree : IsInTree 2 [] (Some row_word) above_word
above_in_tree = two_squares_in_tree Above (λ h. cc)

row_in_tree : IsInTree 2 [] (Some row_word) row_word
row_in_tree = two_squares_in_tree Even (λ h. cc)

-- list --order 2 --class imperfect --limit 1
at_most_20 : TakesSteps (imperfect_up_to (Some 1)) Limit 20
at_most_20 = record {
  entries = row_entry ∷ [];
  first = one_listed;
  ends = refl;
  few = record {
    words = one_move ∷ two_moves ∷ above_word ∷ row_word ∷ [];
    each = (one_in_tree, (two_in_tree, (above_in_tree, (row_in_tree, tt))));
    ascending = ((refl, (refl, (refl, tt))), ((refl, (refl, tt)), ((refl, tt), (tt, tt))));
    count = omega arith;
  };
}
