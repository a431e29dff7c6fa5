-- After a run that ended at a wide word, a run from that word lacks at most the member with the word; and a run that was cut at its
-- limit and one from the word of its last entry lack nothing.
use Rattle.std.proofs.Common.{Contains, List, None, Some, [], append-nil, arith, inl, inr, refl, subst, ◌++◌, ◌∷◌, ◌≡◌, ◌⊎◌}
use Rattle.bk_word.specs.Word.{Follows, Word}
use Rattle.bk_word.specs.declared.Class.TheVariants.{Imperfect}
use Rattle.bk_catalogue.proofs.Members.CatalogueExamples.{only, row_entry}
use Rattle.bk_catalogue.specs.Catalogue.{Entry, IsEntry}
use Rattle.bk_list.proofs.ListingExamples.{of_order_2, one_listed}
use Rattle.bk_list.proofs.NarrowListings.{nothing_is_missing}
use Rattle.bk_list.proofs.Resuming.{not_among, only_named_ones_are_missing}
use Rattle.bk_list.proofs.Taking.{first_none}
use Rattle.bk_list.specs.Listing.{AreFirst, Catalogue, HasAll}
use Rattle.bk_list.specs.ListingLaws.{all_after}
use Rattle.bk_list.specs.StoppedListing.{AtEnd, AtLimit, EndsAs, WideAt}
use Rattle.bk_list.specs.Resuming.{AreListingRuns, IsNamed, Run, run_entries, stopped_at}

module _ (catalogue : Catalogue) (cursor w : Word) (entries more : List Entry) where
  abbrev runs : List Run
  runs = record { limit = None; entries = entries; ending = WideAt w } ∷ record { limit = None; entries = more; ending = AtEnd } ∷ []

  same_word : (v : Word) → WideAt w ≡ WideAt v → v ≡ w
  same_word v e = cc

  pub lacks_one : AreFirst catalogue cursor entries → EndsAs (all_after catalogue cursor) entries (WideAt w) → AreFirst catalogue w more
      → EndsAs (all_after catalogue w) more AtEnd → (e : Entry) → IsEntry catalogue.order catalogue.class e → Follows e.word cursor → Contains (entries ++ more)
      e ⊎ (e.word ≡ w)
  lacks_one a b c d e entry h = by (only_named_ones_are_missing catalogue cursor (stopped_at w more AtEnd) runs
      (record { first = a; ends = b }, (record { first = c; ends = d }, refl)) refl e entry h)
    where
      by : Contains (run_entries runs) e ⊎ IsNamed e.word runs → Contains (entries ++ more) e ⊎ (e.word ≡ w)
      by (inl m) = inl (subst (λ (l : List Entry). Contains (entries ++ l) e) (append-nil more) m)
      by (inr (inl same)) = inr (same_word e.word same)
      by (inr (inr (inl never))) = absurd (impossible never)
        where
          impossible : AtEnd ≡ WideAt e.word → ⊥
          impossible i = cc
      by (inr (inr (inr none))) = absurd none

-- list --order 2 --class imperfect --limit 1, and then list --order 2 --class imperfect --from 2e
abbrev cut : Run
cut = record { limit = Some 1; entries = row_entry ∷ []; ending = AtLimit }

abbrev rest : Run
rest = record { limit = None; entries = []; ending = AtEnd }

none_left : HasAll (of_order_2 Imperfect) row_entry.word []
none_left e is h = absurd (not_among (row_entry ∷ []) e (h, tt) (only e is))

one_after_another : AreListingRuns (of_order_2 Imperfect) [] (cut ∷ rest ∷ []) row_entry.word
one_after_another = (
  record { first = one_listed; ends = refl },
  (record { first = first_none (of_order_2 Imperfect) row_entry.word; ends = (tt, none_left) }, refl),
)

-- list --order 2 --class imperfect --limit 1 and the run that goes on from 2e have together what list --order 2 --class imperfect has
pub cut_and_continued : AreFirst (of_order_2 Imperfect) [] (row_entry ∷ []) × EndsAs (all_after (of_order_2 Imperfect) []) (row_entry ∷ []) AtEnd
cut_and_continued = nothing_is_missing (of_order_2 Imperfect) [] row_entry.word (cut ∷ rest ∷ []) (omega arith) one_after_another refl
