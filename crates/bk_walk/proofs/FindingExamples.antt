-- Searches for the members of order 2 and the class imperfect, of which there is one: the row of two squares of side 1, with the word 2e.
use Rattle.std.specs.List.{AllByRecursion}
use Rattle.std.proofs.Common.{List, None, Some, [], ap, arith, inl, inr, length, lit<, refl, suc, ℕ, ◌<◌, ◌∙◌, ◌∷◌, ◌≡◌}
use Rattle.bk_word.specs.Word.{Word}
use Rattle.bk_word.specs.declared.Class.TheVariants.{Imperfect}
use Rattle.bk_lay.proofs.Valleys.{a_tiling_has_one_word}
use Rattle.bk_lay.specs.TilingWord.{IsWordOf}
use Rattle.bk_catalogue.proofs.Members.CatalogueExamples.{entry_is, has_word, row_entry, row_word, row_word_of}
use Rattle.bk_catalogue.proofs.Members.TwoSquares.{row_of_two}
use Rattle.bk_packed.specs.KeptNumbers.{AreAscendingNumbers, Holds, Numbers}
use Rattle.bk_packed.specs.Packed.{packed}
use Rattle.bk_walk.specs.Finding.{Finding, HasMoreMembers, IsFinder, IsHeld, IsMembersNumber, Puts}

-- no number is kept, and none was dropped
abbrev nothing : Numbers
nothing = record { kept = []; limit = None }

-- the number of 2e is kept
abbrev number_of_row : Numbers
number_of_row = record { kept = packed row_word ∷ []; limit = None }

-- the number of 2e was dropped
abbrev dropped : Numbers
dropped = record { kept = []; limit = Some (packed row_word) }

-- a search for all members, from the number 0 on, that keeps these numbers
abbrev search_with : Numbers → Finding
search_with numbers = record { order = 2; class = Imperfect; from = 0; numbers = numbers }

-- where nothing is kept, no number is held
none_is_held : (x : ℕ) → Holds nothing x → ⊥
none_is_held x (inl (k, low, at)) = omega (arith, low)
none_is_held x (inr above) = let cut : None ≡ Some above.limit = above.cut in cc

-- each word of the row has the number of 2e, since 2e is its only word
row_number : (w : Word) → IsWordOf row_of_two w → packed row_word ≡ packed w
row_number w is = ap packed (a_tiling_has_one_word row_of_two row_word w has_word is)

-- ---- what is held

-- where the number of 2e is kept, the row is held
row_is_held : IsHeld 0 number_of_row row_of_two
row_is_held w is above = inl (0, lit< tt, row_number w is)

-- where nothing is kept, the row isn't held
row_is_not_held : IsHeld 0 nothing row_of_two → ⊥
row_is_not_held held = none_is_held (packed row_word) (held row_word has_word (omega arith))

-- but where only numbers above that of 2e are asked for, the row counts as held with nothing kept
none_asked : IsHeld (suc (packed row_word)) nothing row_of_two
none_asked w is above = absurd (omega (arith, above, row_number w is))

-- a search that put the number of 2e into no numbers holds the row then, and all that it held
row_is_put : Puts (search_with nothing) (search_with number_of_row) (IsHeld 0 number_of_row row_of_two)
row_is_put = record { fixed = refl; put = row_is_held; kept = λ x held. absurd (none_is_held x held) }

-- ---- what was dropped

-- of members' words there is a number, that of 2e, so more than there is room for where there is room for none
more_than_none : (numbers : Numbers) → HasMoreMembers 0 (search_with numbers)
more_than_none numbers = record {
  numbers = packed row_word ∷ [];
  ascending = (tt, tt);
  each = ((row_entry, entry_is, refl, omega arith), tt);
  more = lit< tt;
}

-- each number of a member's word is that of 2e
member_number : (s : Numbers) (x : ℕ) → IsMembersNumber (search_with s) x → packed row_word ≡ x
member_number s x (e, is, same, least) = ap packed (row_word_of e is) ∙ same

-- no two ascending numbers are those of members' words
not_two : (s : Numbers) (numbers : List ℕ) → AreAscendingNumbers numbers → AllByRecursion (IsMembersNumber (search_with s)) numbers → 1 < length numbers → ⊥
not_two s [] up all many = omega (arith, many)
not_two s (x ∷ []) up all many = omega (arith, many)
not_two s (x ∷ y ∷ numbers) up all many = omega (arith, (up.0).0, member_number s x all.0, member_number s y (all.1).0)

-- there are not more numbers of members' words than one
no_more_than_one : (numbers : Numbers) → HasMoreMembers 1 (search_with numbers) → ⊥
no_more_than_one numbers h = not_two numbers h.numbers h.ascending h.each h.more

-- a search with room for no number may have dropped that of 2e
drops : IsFinder 0 (search_with dropped)
drops = record { few = omega arith; only = λ x has. absurd (omega (arith, has.1)); cut = λ some. more_than_none dropped }

-- a search with room for one number can't have dropped that of 2e
can_not_drop : IsFinder 1 (search_with dropped) → ⊥
can_not_drop finder = no_more_than_one dropped (finder.cut refl)
