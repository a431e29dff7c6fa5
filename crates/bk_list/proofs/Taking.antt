-- The first members after a cursor, one more at a time, up to the end of the listing.
use Rattle.std.specs.List.{AllByRecursion}
use Rattle.std.specs.declared.cmp.Ordering.{Ordering}
use Rattle.std.specs.declared.cmp.Ordering.TheVariants.{Equal, Greater, Less}
use Rattle.std.proofs.Common.{Contains, List, [], arith, inl, inr, refl, zero, ◌++◌, ◌∷◌, ◌≡◌, ◌⊎◌}
use Rattle.bk_word.specs.Word.{Follows, Word, word_cmp}
use Rattle.bk_word.proofs.FollowLaws.{greater_follows}
use Rattle.bk_catalogue.proofs.TreeOfWords.Places.{word_same}
use Rattle.bk_catalogue.specs.Catalogue.{Entry, IsEntry}
use Rattle.bk_list.proofs.Continuing.{first_of_both_parts, first_or_later}
use Rattle.bk_catalogue.proofs.Members.OneEntry.{one_entry}
use Rattle.bk_list.specs.Listing.{AreFirst, Catalogue, HasAll}
use Rattle.bk_list.specs.ListingLaws.{cursor_after}
use Rattle.bk_catalogue.specs.Following.{HasNoneAfter, HasNoneBetween}

-- no entries are the first ones after any cursor
pub first_none : (catalogue : Catalogue) (cursor : Word) → AreFirst catalogue cursor []
first_none catalogue cursor = record { each = tt; after = tt; ascending = tt; none_between = λ e entry h. inr tt }

-- the cursor after entries is the word of the last one
pub last_word : (cursor : Word) (entries : List Entry) (e : Entry) → cursor_after cursor (entries ++ e ∷ []) ≡ e.word
last_word cursor [] e = refl
last_word cursor (f ∷ entries) e = last_word f.word entries e

-- the least member after a cursor is the first one
module _ (catalogue : Catalogue) (cursor : Word) (e : Entry) (is : IsEntry catalogue.order catalogue.class e) (after : Follows e.word cursor)
    (least : HasNoneBetween catalogue.order catalogue.class cursor e.word) where
  it_or_later : (f : Entry) → IsEntry catalogue.order catalogue.class f → Follows f.word cursor → (r : Ordering) → word_cmp e.word f.word ≡ r
      → Contains (e ∷ []) f ⊎ (Follows f.word e.word × Unit {0})
  it_or_later f entry h Less c = inr (c, tt)
  it_or_later f entry h Equal c = inl (zero, omega arith, one_entry catalogue.order catalogue.class e f is entry (word_same e.word f.word c))
  it_or_later f entry h Greater c = absurd (least f entry h (greater_follows e.word f.word c))

  first_one : AreFirst catalogue cursor (e ∷ [])
  first_one = record {
    each = (is, tt);
    after = (after, tt);
    ascending = (tt, tt);
    none_between = λ f entry h. it_or_later f entry h (word_cmp e.word f.word) refl;
  }

-- with the least member behind them the first entries after a cursor are the first ones still
pub first_more : (catalogue : Catalogue) (cursor : Word) (entries : List Entry) (e : Entry) → AreFirst catalogue cursor entries → IsEntry catalogue.order
    catalogue.class e
    → Follows e.word (cursor_after cursor entries) → HasNoneBetween catalogue.order catalogue.class (cursor_after cursor entries) e.word → AreFirst catalogue
    cursor (entries ++ e ∷ [])
first_more catalogue cursor entries e first is after least = first_of_both_parts catalogue cursor entries (e ∷ []) first
    (first_one catalogue (cursor_after cursor entries) e is after least)

-- where no member comes after the last one, all are there
pub all_there : (catalogue : Catalogue) (cursor : Word) (entries : List Entry) → AreFirst catalogue cursor entries
    → HasNoneAfter catalogue.order catalogue.class (cursor_after cursor entries) → HasAll catalogue cursor entries
all_there catalogue cursor entries first none e entry h = cases
    (first_or_later catalogue cursor entries [] first (first_none catalogue (cursor_after cursor entries)) e entry h)
  where
    cases : Contains entries e ⊎ (AllByRecursion (λ listed. Follows e.word listed.word) entries × Follows e.word (cursor_after cursor entries))
        → Contains entries e
    cases (inl c) = c
    cases (inr later) = absurd (none e entry later.1)
