-- What the entries of a list lack is listed: the members that aren't kept, one after another, up to the last.
use Rattle.std.specs.Prelude.{Option}
use Rattle.std.specs.Io.KnownBytes.{Appends}
use Rattle.std.proofs.Common.{List, [], refl, subst, sym, ℕ, ◌+◌, ◌∙◌, ◌≡◌, ◌≤◌}
use Rattle.bk_tiling.specs.Tiling.{Tiling}
use Rattle.bk_word.specs.Word.{Word}
use Rattle.bk_word.specs.declared.Class.TheVariants.{Perfect}
use Rattle.bk_catalogue.specs.Following.{HasNoneAfter}
use Rattle.bk_report.specs.ListLines.{missing_line}
use Rattle.bk_verify_report.specs.KeptEntries.{AreKeptAfter, IsNextMissing, Kept}
use Rattle.bk_verify_report.specs.Rest.{RestState}
use Rattle.bk_verify_report.proofs.MissingListed.{listed_more, listing_begun, missing_listed_with_no_member_left, no_missing_listed_at_the_start}
use Rattle.bk_verify_report.specs.MissingLines.{AreMissingListed, IsListingBegun, IsMissingBegun}

-- a walk lists what isn't kept, from where it was first, and no write has failed
pub record IsListingOn (first now : RestState) (missing : ℕ) (a b : Option (List ℕ)) (before after : ℕ) : Type 0 where
  pub listed : AreMissingListed (record { order = (first.walk).order; pairs = first.pairs }) (now.walk).cursor missing a b
  pub order : (now.walk).order ≡ (first.walk).order
  pub pairs : now.pairs ≡ first.pairs
  pub faults : after ≡ before

-- before the first one nothing is listed
pub listing_none : (first : RestState) (a : Option (List ℕ)) (before : ℕ) → (first.walk).cursor ≡ [] → IsListingOn first first 0 a a before before
listing_none first a before start = record {
  listed = subst (λ (w : Word). AreMissingListed (record { order = (first.walk).order; pairs = first.pairs }) w 0 a a) (sym start)
      (no_missing_listed_at_the_start (first.walk).order first.pairs a);
  order = refl;
  pairs = refl;
  faults = refl;
}

module _ (first now : RestState) (missing : ℕ) (a b : Option (List ℕ)) (before after : ℕ) (s : IsListingOn first now missing a b before after) where
  -- what is said of the order and the pairs that are left is said of those at first
  at_first : (P : ℕ → List Kept → Type 0) → P (now.walk).order now.pairs → P (first.walk).order first.pairs
  at_first P p = subst (λ (n : ℕ). P n first.pairs) s.order (subst (λ (pairs : List Kept). P (now.walk).order pairs) s.pairs p)

  -- one more is written
  pub listing_more : (t : Tiling) (word : Word) (then : RestState) (c : Option (List ℕ)) (later : ℕ) → (first.walk).order ≤ 16
      → IsNextMissing (now.walk).order now.pairs (now.walk).cursor t word → (then.walk).cursor ≡ word → Appends b c (missing_line t word)
      → (then.walk).order ≡ (now.walk).order → then.pairs ≡ now.pairs → later ≡ after → IsListingOn first then (missing + 1) a c before later
  listing_more t word then c later small next at written order pairs faults = record {
    listed = subst (λ (w : Word). AreMissingListed (record { order = (first.walk).order; pairs = first.pairs }) w (missing + 1) a c) (sym at)
        (listed_more (first.walk).order first.pairs (now.walk).cursor missing a b s.listed t word
        (at_first (λ n pairs. IsNextMissing n pairs (now.walk).cursor t word) next) c small written);
    order = order ∙ s.order;
    pairs = pairs ∙ s.pairs;
    faults = faults ∙ s.faults;
  }

  -- the write of one failed
  pub listing_broken : (c : Option (List ℕ)) → IsMissingBegun (now.walk).order now.pairs (now.walk).cursor b c
      → IsListingBegun (first.walk).order first.pairs a c
  listing_broken c begun = listing_begun (first.walk).order first.pairs (now.walk).cursor missing a b s.listed begun.tiling begun.word
      (at_first (λ n pairs. IsNextMissing n pairs (now.walk).cursor begun.tiling begun.word) begun.next) c begun.begins

  -- none is left
  module _ (kept : AreKeptAfter (now.walk).order now.pairs (now.walk).cursor) (then : Word) (none : HasNoneAfter (now.walk).order Perfect then) where
    -- no member is behind the new cursor
    pub none_behind : HasNoneAfter (first.walk).order Perfect then
    none_behind = subst (λ (n : ℕ). HasNoneAfter n Perfect then) s.order none

    -- all that isn't kept is listed
    pub listing_end : AreMissingListed (record { order = (first.walk).order; pairs = first.pairs }) then missing a b
    listing_end = missing_listed_with_no_member_left (first.walk).order first.pairs (now.walk).cursor missing a b s.listed
        (at_first (λ n pairs. AreKeptAfter n pairs (now.walk).cursor) kept) then none_behind

    -- each member after the new cursor is kept, for there is none
    pub kept_behind : AreKeptAfter (first.walk).order first.pairs then
    kept_behind = λ e is_entry behind new. none_behind e is_entry behind
