-- Runs one after another: they lack no member but one whose own word was named.
use Rattle.std.specs.List.{AllByRecursion}
use Rattle.std.specs.Ordering.{ordering_reverse}
use Rattle.std.specs.declared.cmp.Ordering.{Ordering}
use Rattle.std.specs.declared.cmp.Ordering.TheVariants.{Equal, Greater, Less}
use Rattle.std.proofs.Common.{Contains, List, [], ap, arith, inl, inr, refl, subst, suc, sym, zero, ◌++◌, ◌∙◌, ◌∷◌, ◌≡◌, ◌⊎◌}
use Rattle.std.proofs.lemmas.List.Elements.{Contains-append_left, Contains-append_right}
use Rattle.bk_laws.proofs.AllOfLists.{all-weaken, all_append}
use Rattle.bk_word.proofs.FollowLaws.{not_itself}
use Rattle.bk_word.proofs.WordOrder.{follows_trans, word_total}
use Rattle.bk_word.specs.Word.{Follows, Word, word_cmp}
use Rattle.bk_catalogue.proofs.TreeOfWords.Places.{word_same}
use Rattle.bk_catalogue.specs.Catalogue.{AreAscending, Entry, IsEntry}
use Rattle.bk_list.proofs.Continuing.{after_each, after_last, first_or_later}
use Rattle.bk_list.proofs.Taking.{first_none}
use Rattle.bk_list.specs.Listing.{Catalogue}
use Rattle.bk_list.specs.StoppedListing.{AtEnd, AtLimit, Ending, EndsAs, WideAt}
use Rattle.bk_list.specs.ListingLaws.{cursor_after}
use Rattle.bk_list.specs.Resuming.{AreListingRuns, EndsAtEnd, HaveTogether, IsListingRun, IsNamed, OnlyNamedOnesAreMissing, Run, RunsGoOn, listing_of_run}
use Rattle.bk_list.specs.Resuming.{run_entries, stopped_at}

-- what follows the place where a run stopped follows its cursor, and each of its entries
record IsBehind (cursor : Word) (entries : List Entry) (place : Word) : Type 0 where
  start : (w : Word) → Follows w place → Follows w cursor
  all : (w : Word) → Follows w place → AllByRecursion (λ e. Follows w e.word) entries

follows_all : (w v : Word) (entries : List Entry) → Follows v w → AllByRecursion (λ e. Follows w e.word) entries
    → AllByRecursion (λ e. Follows v e.word) entries
follows_all w v [] f all = tt
follows_all w v (e ∷ entries) f all = (follows_trans e.word w v all.0 f, follows_all w v entries f all.1)

behind : (catalogue : Catalogue) (cursor : Word) (run : Run) → IsListingRun catalogue cursor run → IsBehind cursor run.entries
    (stopped_at cursor run.entries run.ending)
behind catalogue cursor run is = by run.ending is.ends
  where
    last : IsBehind cursor run.entries (cursor_after cursor run.entries)
    last = record {
      start = λ w f. after_last cursor run.entries (is.first).after (is.first).ascending w f;
      all = λ w f. after_each cursor run.entries (is.first).ascending w f;
    }

    by : (ending : Ending) → EndsAs (listing_of_run catalogue cursor run) run.entries ending → IsBehind cursor run.entries
        (stopped_at cursor run.entries ending)
    by AtEnd ends = last
    by AtLimit ends = last
    by (WideAt w) ends = record {
      start = λ v f. follows_trans cursor w v ((ends.1).is).after f;
      all = λ v f. follows_all w v run.entries f (ends.1).below;
    }

-- entries, and later ones
later_ones : (place : Word) (entries more : List Entry) → ((w : Word) → Follows w place → AllByRecursion (λ e. Follows w e.word) entries)
    → AreAscending entries → AreAscending more → AllByRecursion (λ e. Follows e.word place) more → AreAscending (entries ++ more)
later_ones place [] more all up rest h = rest
later_ones place (e ∷ entries) more all up rest h = (
  all_append (λ f. Follows f.word e.word) entries more up.0 (all-weaken (λ f. Follows f.word place) (λ f. Follows f.word e.word) (λ f k. (all f.word k).0) more
      h),
  later_ones place entries more (λ w k. (all w k).1) up.1 rest h,
)

-- a member after the cursor is among the entries of a run, or its word was named, or it comes after the place where the run stopped
one_run : (catalogue : Catalogue) (cursor : Word) (run : Run) → IsListingRun catalogue cursor run → (e : Entry) → IsEntry catalogue.order catalogue.class e →
    Follows e.word cursor
    → Contains run.entries e ⊎ ((run.ending ≡ WideAt e.word) ⊎ Follows e.word (stopped_at cursor run.entries run.ending))
one_run catalogue cursor run is e entry h = by run.ending refl is.ends
  where
    last : Contains run.entries e ⊎ Follows e.word (cursor_after cursor run.entries)
    last = at (first_or_later catalogue cursor run.entries [] is.first (first_none catalogue (cursor_after cursor run.entries)) e entry h)
      where
        at : Contains run.entries e ⊎ (AllByRecursion (λ listed. Follows e.word listed.word) run.entries × Follows e.word (cursor_after cursor run.entries))
            → Contains run.entries e ⊎ Follows e.word (cursor_after cursor run.entries)
        at (inl c) = inl c
        at (inr l) = inr l.1

    unnamed : {P : Type 0} → Contains run.entries e ⊎ Follows e.word (cursor_after cursor run.entries)
        → Contains run.entries e ⊎ (P ⊎ Follows e.word (cursor_after cursor run.entries))
    unnamed (inl c) = inl c
    unnamed (inr f) = inr (inr f)

    by : (ending : Ending) → run.ending ≡ ending → EndsAs (listing_of_run catalogue cursor run) run.entries ending
        → Contains run.entries e ⊎ ((ending ≡ WideAt e.word) ⊎ Follows e.word (stopped_at cursor run.entries ending))
    by AtEnd same ends = unnamed last
    by AtLimit same ends = unnamed last
    by (WideAt w) same ends = at (word_cmp w e.word) refl
      where
        at : (r : Ordering) → word_cmp w e.word ≡ r → Contains run.entries e ⊎ ((WideAt w ≡ WideAt e.word) ⊎ Follows e.word w)
        at Less f = inr (inr f)
        at Equal f = inr (inl (ap WideAt (word_same w e.word f)))
        at Greater f = inl ((ends.1).all_below e entry h (word_total.antisymm e.word w ∙ ap ordering_reverse f))

-- runs that go on one from another have together what one run has, up to named words
pub runs_go_on : RunsGoOn
runs_go_on catalogue cursor last [] are = record {
  each = tt;
  after = tt;
  ascending = tt;
  lacking = λ e entry h. inr (inr (subst (λ (w : Word). Follows e.word w) (sym are) h));
}
runs_go_on catalogue cursor last (run ∷ runs) are = more (runs_go_on catalogue (stopped_at cursor run.entries run.ending) last runs are.1)
  where
    more : HaveTogether catalogue (stopped_at cursor run.entries run.ending) runs last → HaveTogether catalogue cursor (run ∷ runs) last
    more rest =
        let b = behind catalogue cursor run are.0 in record {
          each = all_append (IsEntry catalogue.order catalogue.class) run.entries (run_entries runs) ((are.0).first).each rest.each;
          after = all_append (λ e. Follows e.word cursor) run.entries (run_entries runs) ((are.0).first).after
              (all-weaken (λ e. Follows e.word (stopped_at cursor run.entries run.ending)) (λ e. Follows e.word cursor) (λ e k. b.start e.word k)
              (run_entries runs) rest.after);
          ascending = later_ones (stopped_at cursor run.entries run.ending) run.entries (run_entries runs) b.all ((are.0).first).ascending rest.ascending
              rest.after;
          lacking = λ e entry h. at e entry (one_run catalogue cursor run are.0 e entry h);
        }
      where
        then : (e : Entry) → Contains (run_entries runs) e ⊎ (IsNamed e.word runs ⊎ Follows e.word last)
            → Contains (run.entries ++ run_entries runs) e ⊎ (((run.ending ≡ WideAt e.word) ⊎ IsNamed e.word runs) ⊎ Follows e.word last)
        then e (inl c) = inl (Contains-append_right run.entries (run_entries runs) e c)
        then e (inr (inl named)) = inr (inl (inr named))
        then e (inr (inr f)) = inr (inr f)

        at : (e : Entry) → IsEntry catalogue.order catalogue.class e
            → Contains run.entries e ⊎ ((run.ending ≡ WideAt e.word) ⊎ Follows e.word (stopped_at cursor run.entries run.ending))
            → Contains (run.entries ++ run_entries runs) e ⊎ (((run.ending ≡ WideAt e.word) ⊎ IsNamed e.word runs) ⊎ Follows e.word last)
        at e entry (inl c) = inl (Contains-append_left run.entries (run_entries runs) e c)
        at e entry (inr (inl named)) = inr (inl (inl named))
        at e entry (inr (inr f)) = then e (rest.lacking e entry f)

-- what follows all of them is none of them
pub not_among : (entries : List Entry) (e : Entry) → AllByRecursion (λ listed. Follows e.word listed.word) entries → Contains entries e → ⊥
not_among [] e all c = absurd (omega (arith, c.1))
not_among (f ∷ entries) e all (zero, few, same) = not_itself e.word (subst (λ (g : Entry). Follows e.word g.word) same all.0)
not_among (f ∷ entries) e all (suc k, few, same) = not_among entries e all.1 (k, omega (arith, few), same)

-- after the last cursor there is no member, where the last run ended because there were no more
none_after : (catalogue : Catalogue) (cursor last : Word) (runs : List Run) → AreListingRuns catalogue cursor runs last → EndsAtEnd runs
    → (e : Entry) → IsEntry catalogue.order catalogue.class e → Follows e.word last → ⊥
none_after catalogue cursor last [] are ends e entry h = absurd ends
none_after catalogue cursor last (run ∷ []) are ends e entry h =
    not_among run.entries e (b.all e.word at) (all e entry (b.start e.word at))
  where
    b : IsBehind cursor run.entries (stopped_at cursor run.entries run.ending)
    b = behind catalogue cursor run are.0

    at : Follows e.word (stopped_at cursor run.entries run.ending)
    at = subst (λ (w : Word). Follows e.word w) are.1 h

    all : (f : Entry) → IsEntry catalogue.order catalogue.class f → Follows f.word cursor → Contains run.entries f
    all = (subst (EndsAs (listing_of_run catalogue cursor run) run.entries) ends (are.0).ends).1
none_after catalogue cursor last (run ∷ next ∷ runs) are ends e entry h =
    none_after catalogue (stopped_at cursor run.entries run.ending) last (next ∷ runs) are.1 ends e entry h

-- up to a run that ended at the end, only members whose words were named can be missing
pub only_named_ones_are_missing : OnlyNamedOnesAreMissing
only_named_ones_are_missing catalogue cursor last runs are ends e entry h = by ((runs_go_on catalogue cursor last runs are).lacking e entry h)
  where
    by : Contains (run_entries runs) e ⊎ (IsNamed e.word runs ⊎ Follows e.word last) → Contains (run_entries runs) e ⊎ IsNamed e.word runs
    by (inl c) = inl c
    by (inr (inl named)) = inr named
    by (inr (inr f)) = absurd (none_after catalogue cursor last runs are ends e entry f)
