-- The steps of a listing: those of its calls add up, and so do the parts of the tree that they go through.
use Rattle.std.specs.Prelude.{Option, flat_map}
use Rattle.std.specs.Io.KnownBytes.{Appends}
use Rattle.std.proofs.KnownBytes.{Appends-trans}
use Rattle.std.proofs.Common.{Bool, List, None, Some, [], arith, false, length, subst, sym, take, true, ℕ, ◌*◌, ◌++◌, ◌+◌, ◌-◌, ◌∙◌, ◌∷◌, ◌≡◌}
use Rattle.std.proofs.lemmas.List.{length-append}
use Rattle.bk_ports.specs.Causes.{AppendsPrefix}
use Rattle.bk_word.proofs.FollowLaws.{not_itself}
use Rattle.bk_word.proofs.WordOrder.{follows_trans}
use Rattle.bk_word.specs.Word.{Follows, Word}
use Rattle.bk_catalogue.proofs.TreeOfWords.TreeCounts.{at_least_adds, at_least_fewer}
use Rattle.bk_catalogue.specs.Tree.{IsAtMostTree, IsNotAfter}
use Rattle.bk_report.specs.Listings.{last_line}
use Rattle.bk_report.specs.declared.listing_lines.Last.{Last}
use Rattle.bk_report.specs.declared.listing_lines.Last.TheVariants.{End, Limit}
use Rattle.bk_list.proofs.Continuing.{after_last}
use Rattle.bk_list.proofs.ListingSteps.{IsListed, first_entries_with_the_next_member, last_line_is, listed_all_with_no_member_left, listed_limit, members_after}
use Rattle.bk_list.proofs.ListingSteps.{within_then}
use Rattle.bk_list.proofs.Taking.{last_word}
use Rattle.bk_list.specs.Listing.{Listing, line_of}
use Rattle.bk_list.specs.ListingLaws.{cursor_after}
use Rattle.bk_list.specs.Stepping.{AreNextSteps, IsAtMostTreeAnd, IsReached, StoppedAtEntry, StoppedAtLast, TakesSteps}
use Rattle.bk_list.specs.Writing.{HasEntries, IsNext, IsNextBegun, StandsBehind}

-- before the first call
pub no_steps : (n : ℕ) (start : Word) (steps : ℕ) → IsAtMostTreeAnd n start (Some start) 0 (steps - steps)
no_steps n start steps = record { words = []; each = tt; ascending = tt; count = omega arith }

-- the steps of some calls and of one more
pub one_call_more : (n : ℕ) (start between : Word) (bound : Option Word) (calls first mid last : ℕ) → (Follows start between → ⊥) → IsNotAfter bound between
    → IsAtMostTreeAnd n start (Some between) calls (mid - first) → IsAtMostTree n between bound (last - mid)
    → IsAtMostTreeAnd n start bound (calls + 1) (last - first)
one_call_more n start between bound calls first mid last from to a b =
    at_least_fewer n start bound (((mid - first) - 16 * calls) + ((last - mid) - 16)) ((last - first) - 16 * (calls + 1)) (omega arith)
    (at_least_adds n start between bound ((mid - first) - 16 * calls) ((last - mid) - 16) from to a b)

-- the steps of one call, by another name of the order and of what came
pub next_steps_as : (k n : ℕ) (x next : Bool) (cursor then : Word) (steps : ℕ) → k ≡ n → x ≡ next → AreNextSteps x k cursor then steps
    → AreNextSteps next n cursor then steps
next_steps_as k n x next cursor then steps e f h = subst (λ (k : ℕ). AreNextSteps next k cursor then steps) e
    (subst (λ (x : Bool). AreNextSteps x k cursor then steps) f h)

-- a bound on steps in the tree of an order is one in that of an equal order
pub tree_as : (k n : ℕ) (cursor then : Word) (steps : ℕ) → k ≡ n → IsAtMostTree k cursor (Some then) steps → IsAtMostTree n cursor (Some then) steps
tree_as k n cursor then steps e h = subst (λ (k : ℕ). IsAtMostTree k cursor (Some then) steps) e h

-- where a listing stands: that many entries, in that many calls, with that many steps
module _ (l : Listing) (cursor : Word) (listed : ℕ) (a b : Option (List ℕ)) (s : IsListed l cursor listed a b) (first mid last : ℕ)
    (k : IsAtMostTreeAnd l.catalogue.order l.cursor (Some cursor) listed (mid - first)) where
  -- the cursor was never before the start
  from_start : Follows l.cursor cursor → ⊥
  from_start h = not_itself l.cursor (after_last l.cursor s.entries (s.first).after (s.first).ascending l.cursor (subst (Follows l.cursor) s.at h))

  -- a call up to a later word
  to_later : (then : Word) → Follows then cursor → IsAtMostTree l.catalogue.order cursor (Some then) (last - mid)
      → IsAtMostTreeAnd l.catalogue.order l.cursor (Some then) (listed + 1) (last - first)
  to_later then later more = one_call_more l.catalogue.order l.cursor cursor (Some then) listed first mid last from_start back k more
    where
      back : Follows cursor then → ⊥
      back h = not_itself cursor (follows_trans cursor then cursor later h)

  -- a call that found one more
  pub steps_more : (then : Word) (c : Option (List ℕ)) → IsNext (members_after l.catalogue cursor) (members_after l.catalogue then) b c true
      → AreNextSteps true l.catalogue.order cursor then (last - mid)
      → IsAtMostTreeAnd l.catalogue.order l.cursor (Some then) (listed + 1) (last - first)
  steps_more then c next more = to_later then (subst (λ (w : Word). Follows w cursor) (sym next.2) (next.1).after) more

  -- a call up to the end of the tree
  to_end : IsAtMostTree l.catalogue.order cursor None (last - mid) → IsAtMostTreeAnd l.catalogue.order l.cursor None (listed + 1) (last - first)
  to_end more = one_call_more l.catalogue.order l.cursor cursor None listed first mid last from_start tt k more

  -- a call that found none
  pub steps_all : (not : l.limit ≡ Some listed → ⊥) → (then : Word) (c : Option (List ℕ))
      → IsNext (members_after l.catalogue cursor) (members_after l.catalogue then) b c false
      → AreNextSteps false l.catalogue.order cursor then (last - mid)
      → (lines : HasEntries l End listed a c) × IsReached l End lines.entries then (last - first)
  unfolding listed_all_with_no_member_left
  steps_all not then c next more = (
    listed_all_with_no_member_left l cursor listed a b s not then c next,
    record {
      at = next.1 ∙ s.at;
      few = subst (λ (calls : ℕ). IsAtMostTreeAnd l.catalogue.order l.cursor None (calls + 1) (last - first)) s.count (to_end more);
    },
  )

  -- no call more at the limit
  pub steps_limit : l.limit ≡ Some listed → (lines : HasEntries l Limit listed a b) × IsReached l Limit lines.entries cursor (mid - first)
  unfolding listed_limit
  steps_limit is = (
    listed_limit l cursor listed a b s is,
    record {
      at = s.at;
      few = subst (λ (w : Word). IsAtMostTreeAnd l.catalogue.order l.cursor (Some w) (length s.entries) (mid - first)) s.at
          (subst (λ (calls : ℕ). IsAtMostTreeAnd l.catalogue.order l.cursor (Some cursor) calls (mid - first)) s.count k);
    },
  )

  -- a call whose member was not written
  pub steps_begun : (l.limit ≡ Some listed → ⊥) → (then : Word) (c : Option (List ℕ))
      → IsNextBegun (members_after l.catalogue cursor) (members_after l.catalogue then) b c
      → IsAtMostTree l.catalogue.order cursor (Some then) (last - mid) → StoppedAtEntry l a c then (last - first)
  steps_begun not then c next more =
      let e = next.0 in record {
        entries = s.entries;
        failed = e;
        first = first_entries_with_the_next_member l cursor listed a b s not e next.1;
        within = within_then l cursor listed a b s not e;
        some = (next.3).0;
        begins = Appends-trans a b c (flat_map line_of s.entries) (take (next.3).0 (line_of e)) s.appends (next.3).1;
        at = next.2;
        few = subst (λ (w : Word). IsAtMostTreeAnd l.catalogue.order l.cursor (Some w) (length (s.entries ++ e ∷ [])) (last - first)) at
            (subst (λ (calls : ℕ). IsAtMostTreeAnd l.catalogue.order l.cursor (Some then) calls (last - first)) calls
            (to_later then (subst (λ (w : Word). Follows w cursor) (sym next.2) (next.1).after) more));
      }
    where
      at : then ≡ cursor_after l.cursor (s.entries ++ next.0 ∷ [])
      at = next.2 ∙ sym (last_word l.cursor s.entries next.0)

      calls : listed + 1 ≡ length (s.entries ++ next.0 ∷ [])
      calls = omega (arith, s.count, length-append s.entries (next.0 ∷ []))

-- a listing whose entries are all written: its steps, and where its members stand
module _ (l : Listing) (last : Last) (listed : ℕ) (a b : Option (List ℕ)) (reached : Word) (steps : ℕ)
    (h : HasEntries l last listed a b) (r : IsReached l last h.entries reached steps) where
  -- a listing that ended has taken at most the steps of its entries
  pub takes_all : TakesSteps l last steps
  takes_all = record { entries = h.entries; first = h.first; ends = h.ends; few = r.few }

  -- after a listing that ended the members stand behind its last entry
  pub stands_behind : StandsBehind l last reached
  stands_behind = record { entries = h.entries; first = h.first; ends = h.ends; at = r.at }

  -- the write of its last line failed
  pub took_all : (word : Word) (c : Option (List ℕ)) (piece : List ℕ)
      → piece ≡ last_line last l.catalogue.order l.catalogue.class listed word → AppendsPrefix b c piece → StoppedAtLast l a c reached steps
  took_all word c piece is p = record {
    entries = h.entries;
    last = last;
    first = h.first;
    ends = h.ends;
    some = p.0;
    begins = subst (λ (line : List ℕ). Appends a c (flat_map line_of h.entries ++ take p.0 line))
        (last_line_is l last listed word a b c h piece is)
        (Appends-trans a b c (flat_map line_of h.entries) (take p.0 piece) h.appends p.1);
    at = r.at;
    few = r.few;
  }
