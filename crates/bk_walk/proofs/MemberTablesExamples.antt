-- Tables of the order 2 and the class imperfect, whose one member is the row of two squares of side 1, with the word 2e.
use Rattle.std.proofs.Common.{List, None, Some, [], ap, arith, inl, inr, lit<, refl, suc, zero, ℕ, ◌∙◌, ◌∷◌, ◌≡◌}
use Rattle.bk_word.specs.declared.Class.TheVariants.{Imperfect}
use Rattle.bk_catalogue.proofs.Members.CatalogueExamples.{entry_is, row_entry, row_word, row_word_of}
use Rattle.bk_packed.specs.KeptNumbers.{Holds}
use Rattle.bk_packed.specs.Packed.{packed}
use Rattle.bk_walk.specs.Finding.{Finding, HasOnlyMembers, IsMembersNumber}
use Rattle.bk_walk.specs.MemberTables.{HasNoneFrom, IsNextNumber, IsWhole}
use Rattle.bk_walk.proofs.WholeTables.{first_kept_is_the_next_number, no_number_from_a_bound_above_all_kept}

-- the table that keeps these numbers, and dropped none
abbrev table : List ℕ → Finding
table kept = record { order = 2; class = Imperfect; from = 0; numbers = record { kept = kept; limit = None } }

-- the member's number is kept
whole : IsWhole (table (packed row_word ∷ []))
whole e is above = inl (0, lit< tt, ap packed (row_word_of e is))

-- or the member isn't held
not_whole : IsWhole (table []) → ⊥
not_whole holds = from (holds row_entry entry_is (omega arith))
  where
    from : Holds (record { kept = []; limit = None }) (packed row_word) → ⊥
    from (inl (k, low, at)) = omega (arith, low)
    from (inr above) = let cut : None ≡ Some above.limit = above.cut in cc

-- the one number that is kept is the member's
only : HasOnlyMembers (table (packed row_word ∷ []))
only x (zero, low, at) = (row_entry, entry_is, at, omega arith)
only x (suc k, low, at) = absurd (omega (arith, low))

-- and 0 is no member's
not_only : HasOnlyMembers (table (0 ∷ [])) → ⊥
not_only holds = from (holds 0 (0, lit< tt, refl))
  where
    from : IsMembersNumber (table (0 ∷ [])) 0 → ⊥
    from (e, is, same, least) = let number : packed row_word ≡ 0 = ap packed (row_word_of e is) ∙ same in absurd (omega (arith, number))

-- it is the least from 0 on
next : IsNextNumber (table (packed row_word ∷ [])) 0 (packed row_word)
next = first_kept_is_the_next_number (table (packed row_word ∷ [])) 0 (packed row_word) whole only (record {
  has = (0, lit< tt, refl);
  from = omega arith;
  least =
      (λ h. omega arith, tt);
})

-- and behind it there is none
none : HasNoneFrom (table (packed row_word ∷ [])) (suc (packed row_word))
none = no_number_from_a_bound_above_all_kept (table (packed row_word ∷ [])) (suc (packed row_word)) whole (omega arith, tt)
