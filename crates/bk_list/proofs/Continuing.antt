-- A listing that was stopped goes on from the word of its last entry.
use Rattle.std.specs.List.{AllByRecursion}
use Rattle.std.proofs.Common.{Contains, List, None, Some, [], inl, inr, length, ℕ, ◌++◌, ◌∷◌, ◌≡◌, ◌⊎◌}
use Rattle.std.proofs.lemmas.List.Elements.{Contains-append_left, Contains-append_right}
use Rattle.bk_laws.proofs.AllOfLists.{all-weaken, all_append}
use Rattle.bk_word.proofs.WordOrder.{follows_trans}
use Rattle.bk_word.specs.Word.{Follows, Word}
use Rattle.bk_catalogue.specs.Catalogue.{AreAscending, Entry, IsEntry}
use Rattle.bk_list.specs.Listing.{AreFirst, Catalogue}
use Rattle.bk_list.specs.StoppedListing.{AtEnd, AtLimit, Ending, EndsAs, WideAt}
use Rattle.bk_list.specs.ListingLaws.{AListingGoesOn, all_after, cursor_after}

-- what follows the last of ascending words follows the cursor before them, and each of them
pub after_last : (cursor : Word) (entries : List Entry) → AllByRecursion (λ e. Follows e.word cursor) entries → AreAscending entries → (w : Word)
    → Follows w (cursor_after cursor entries) → Follows w cursor
after_last cursor [] after up w h = h
after_last cursor (e ∷ entries) after up w h = follows_trans cursor e.word w after.0 (after_last e.word entries up.0 up.1 w h)

-- what follows the last of ascending entries follows each of them
pub after_each : (cursor : Word) (entries : List Entry) → AreAscending entries → (w : Word) → Follows w (cursor_after cursor entries)
    → AllByRecursion (λ e. Follows w e.word) entries
after_each cursor [] up w h = tt
after_each cursor (e ∷ entries) up w h = (after_last e.word entries up.0 up.1 w h, after_each e.word entries up.1 w h)

-- what follows the cursor and each of the entries follows the last one
pub follows_last : (cursor : Word) (entries : List Entry) (w : Word) → Follows w cursor → AllByRecursion (λ e. Follows w e.word) entries
    → Follows w (cursor_after cursor entries)
follows_last cursor [] w h each = h
follows_last cursor (e ∷ entries) w h each = follows_last e.word entries w each.0 each.1

ascending_append : (cursor : Word) (entries more : List Entry) → AreAscending entries → AreAscending more
    → AllByRecursion (λ e. Follows e.word (cursor_after cursor entries)) more → AreAscending (entries ++ more)
ascending_append cursor [] more up rest h = rest
ascending_append cursor (e ∷ entries) more up rest h = (
  all_append (λ f. Follows f.word e.word) entries more up.0
      (all-weaken (λ f. Follows f.word (cursor_after e.word entries)) (λ f. Follows f.word e.word) (λ f k. after_last e.word entries up.0 up.1 f.word k) more
      h),
  ascending_append e.word entries more up.1 rest h,
)

module _ (catalogue : Catalogue) (cursor : Word) (entries more : List Entry) (a : AreFirst catalogue cursor entries)
    (b : AreFirst catalogue (cursor_after cursor entries) more) where
  no_limit : (k : ℕ) → None ≡ Some k → ⊥
  no_limit k e = cc

  -- a member after the cursor is among the first entries, or comes after all of them and after the cursor there
  pub first_or_later : (e : Entry) → IsEntry catalogue.order catalogue.class e → Follows e.word cursor
      → Contains entries e ⊎ (AllByRecursion (λ listed. Follows e.word listed.word) entries × Follows e.word (cursor_after cursor entries))
  first_or_later e entry h = cases (a.none_between e entry h)
    where
      cases : Contains entries e ⊎ AllByRecursion (λ listed. Follows e.word listed.word) entries
          → Contains entries e ⊎ (AllByRecursion (λ listed. Follows e.word listed.word) entries × Follows e.word (cursor_after cursor entries))
      cases (inl c) = inl c
      cases (inr each) = inr (each, follows_last cursor entries e.word h each)

  -- the first entries after a cursor, and the first ones after these, are together the first ones after the cursor
  pub first_of_both_parts : AreFirst catalogue cursor (entries ++ more)
  first_of_both_parts = record {
    each = all_append (IsEntry catalogue.order catalogue.class) entries more a.each b.each;
    after = all_append (λ e. Follows e.word cursor) entries more a.after
        (all-weaken (λ e. Follows e.word (cursor_after cursor entries)) (λ e. Follows e.word cursor)
        (λ e k. after_last cursor entries a.after a.ascending e.word k) more b.after);
    ascending = ascending_append cursor entries more a.ascending b.ascending b.after;
    none_between = λ e entry h. between e entry (first_or_later e entry h);
  }
    where
      between : (e : Entry) → IsEntry catalogue.order catalogue.class e
          → Contains entries e ⊎ (AllByRecursion (λ listed. Follows e.word listed.word) entries × Follows e.word (cursor_after cursor entries))
          → Contains (entries ++ more) e ⊎ AllByRecursion (λ listed. Follows e.word listed.word) (entries ++ more)
      between e entry (inl c) = inl (Contains-append_left entries more e c)
      between e entry (inr later) = second (b.none_between e entry later.1)
        where
          second : Contains more e ⊎ AllByRecursion (λ listed. Follows e.word listed.word) more
              → Contains (entries ++ more) e ⊎ AllByRecursion (λ listed. Follows e.word listed.word) (entries ++ more)
          second (inl c) = inl (Contains-append_right entries more e c)
          second (inr each) = inr (all_append (λ listed. Follows e.word listed.word) entries more later.0 each)

  -- where each later member is among the further entries, each is among both
  among_both : (e : Entry) → IsEntry catalogue.order catalogue.class e → Follows e.word cursor →
      (Follows e.word (cursor_after cursor entries) → Contains more e)
      → Contains (entries ++ more) e
  among_both e entry h rest = cases (first_or_later e entry h)
    where
      cases : Contains entries e ⊎ (AllByRecursion (λ listed. Follows e.word listed.word) entries × Follows e.word (cursor_after cursor entries))
          → Contains (entries ++ more) e
      cases (inl c) = Contains-append_left entries more e c
      cases (inr later) = Contains-append_right entries more e (rest later.1)

  -- the further entries end as both do
  ends_both : (ending : Ending) → EndsAs (all_after catalogue (cursor_after cursor entries)) more ending → EndsAs (all_after catalogue cursor) (entries ++ more)
      ending
  ends_both AtLimit e = absurd (no_limit (length more) e)
  ends_both AtEnd e = (tt, λ f entry h. among_both f entry h (λ k. e.1 f entry k))
  ends_both (WideAt w) (low, stop) = (
    tt,
    record {
      is = record {
        complete = (stop.is).complete;
        order = (stop.is).order;
        after = after_last cursor entries a.after a.ascending w (stop.is).after;
        wide = (stop.is).wide;
      };
      below = all_append (λ f. Follows w f.word) entries more (after_each cursor entries a.ascending w (stop.is).after) stop.below;
      all_below = λ f entry h under. among_both f entry h (λ k. stop.all_below f entry k under);
    },
  )

-- a listing from where another one stopped goes on with it
pub a_listing_goes_on : AListingGoesOn
a_listing_goes_on catalogue cursor entries more ending a b e =
    (first_of_both_parts catalogue cursor entries more a b, ends_both catalogue cursor entries more a b ending e)
