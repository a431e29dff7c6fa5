-- A listing, line by line: what stands written after so many entries, and after the last line.
use Rattle.std.specs.Prelude.{Option, flat_map}
use Rattle.std.specs.Io.KnownBytes.{Appends}
use Rattle.std.proofs.KnownBytes.{Appends-nil, Appends-trans}
use Rattle.std.proofs.Common.{Bool, List, None, Some, [], ap, append-nil, arith, false, inl, inr, length, refl, subst, sym, true, ℕ, ◌++◌, ◌+◌, ◌<◌}
use Rattle.std.proofs.Common.{◌^◌, ◌∙◌, ◌∷◌, ◌≡◌, ◌≤◌, ◌⊎◌}
use Rattle.std.proofs.lemmas.Grind.{flat_map-append}
use Rattle.std.proofs.lemmas.List.{length-append}
use Rattle.bk_ports.proofs.KnownSteps.{prefix_after}
use Rattle.bk_ports.specs.Causes.{AppendsPrefix}
use Rattle.bk_lay.proofs.WordPlay.{tiling_word_is_complete}
use Rattle.bk_word.specs.Word.{Follows, Word}
use Rattle.bk_word.specs.declared.Class.{Class}
use Rattle.bk_catalogue.proofs.TreeOfWords.WordCounts.{few_entries}
use Rattle.bk_catalogue.specs.Catalogue.{Entry}
use Rattle.bk_catalogue.specs.Following.{HasNoneAfter}
use Rattle.bk_members.specs.NextMember.{IsNextMember, MembersState}
use Rattle.bk_report.specs.Listings.{last_line}
use Rattle.bk_report.specs.declared.listing_lines.Last.{Last}
use Rattle.bk_report.specs.declared.listing_lines.Last.TheVariants.{End, Limit, Wide}
use Rattle.bk_list.proofs.Taking.{all_there, first_more, first_none, last_word}
use Rattle.bk_list.specs.Listing.{AreFirst, Catalogue, EndsBy, IsBelowLimit, IsListing, Listing, line_of}
use Rattle.bk_list.specs.ListingLaws.{cursor_after}
use Rattle.bk_list.specs.ListedMembers.{catalogue_of}
use Rattle.bk_list.specs.Writing.{BeginsListing, HasEntries, IsNext, IsNextBegun, WritesListing}

-- the word of a next member has a move
pub word_has_a_move : (n : ℕ) (class : Class) (cursor : Word) (e : Entry) → IsNextMember n class cursor e → 0 < length e.word
word_has_a_move n class cursor e next = ((tiling_word_is_complete e.tiling e.word ((next.is).member).tiling (next.is).word).0).some

-- members of one order and one class are of one catalogue
pub same_catalogue : (m w : MembersState) → m.order ≡ w.order → m.class ≡ w.class → catalogue_of m ≡ catalogue_of w
same_catalogue m w e f = λ i. record { order = e i; class = f i }

-- members of a catalogue that go on after a cursor
abbrev pub members_after : Catalogue → Word → MembersState
members_after k cursor = record { order = k.order; class = k.class; cursor = cursor; ended = false; pushes = 0 }

-- the next entry, by other names of the catalogue and of what came
pub next_of_same : (here then : MembersState) (catalogue : Catalogue) (b c : Option (List ℕ)) (x next : Bool) → catalogue_of here ≡ catalogue → x ≡ next
    → IsNext here then b c x → IsNext (members_after catalogue here.cursor) (members_after catalogue then.cursor) b c next
next_of_same here then catalogue b c x true e f h =
    subst (λ (k : Catalogue). IsNext (members_after k here.cursor) (members_after k then.cursor) b c true) e (subst (IsNext here then b c) f h)
next_of_same here then catalogue b c x false e f h =
    subst (λ (k : Catalogue). IsNext (members_after k here.cursor) (members_after k then.cursor) b c false) e (subst (IsNext here then b c) f h)

-- a write that failed for the next member of a catalogue failed for that of an equal one
pub begun_of_same : (here then : MembersState) (catalogue : Catalogue) (b c : Option (List ℕ)) → catalogue_of here ≡ catalogue
    → IsNextBegun here then b c → IsNextBegun (members_after catalogue here.cursor) (members_after catalogue then.cursor) b c
begun_of_same here then catalogue b c e h =
    subst (λ (k : Catalogue). IsNextBegun (members_after k here.cursor) (members_after k then.cursor) b c) e h

-- the entries are as many as the limit, where there is one, or fewer
abbrev pub IsWithinLimit : Option ℕ → List Entry → Type 0
IsWithinLimit limit entries = IsBelowLimit limit entries ⊎ (limit ≡ Some (length entries))

-- where the listing stands: that many of the first members are written, no more than the limit, and the cursor is the word
-- of the last one
pub record IsListed (l : Listing) (cursor : Word) (listed : ℕ) (written written_after : Option (List ℕ)) : Type 0 where
  pub entries : List Entry
  pub first : AreFirst l.catalogue l.cursor entries
  pub within : IsWithinLimit l.limit entries
  pub at : cursor ≡ cursor_after l.cursor entries
  pub count : listed ≡ length entries
  pub few : listed + 1 < 2 ^ 64
  pub appends : Appends written written_after (flat_map line_of entries)

limit_none : (limit : Option ℕ) → IsWithinLimit limit []
limit_none None = inl tt
limit_none (Some l) = cases (two l)
  where
    two : (l : ℕ) → (0 < l) ⊎ (l ≡ 0)
    two l = grind arith

    cases : (0 < l) ⊎ (l ≡ 0) → IsWithinLimit (Some l) []
    cases (inl h) = inl h
    cases (inr e) = inr (ap (λ z. Some z) e)

-- before the first call nothing is listed
pub nothing_listed_before_the_first_call : (l : Listing) (written : Option (List ℕ)) → IsListed l l.cursor 0 written written
nothing_listed_before_the_first_call l written = record {
  entries = [];
  first = first_none l.catalogue l.cursor;
  within = limit_none l.limit;
  at = refl;
  count = refl;
  few = omega arith;
  appends = Appends-nil written;
}

-- below the limit there is room for one more
limit_more : (limit : Option ℕ) (entries : List Entry) (e : Entry) → IsBelowLimit limit entries → IsWithinLimit limit (entries ++ e ∷ [])
limit_more None entries e below = inl tt
limit_more (Some l) entries e below = cases (two (length entries) l below)
  where
    two : (k l : ℕ) → k < l → (k + 1 < l) ⊎ (l ≡ k + 1)
    two k l h = grind arith

    cases : (length entries + 1 < l) ⊎ (l ≡ length entries + 1) → IsWithinLimit (Some l) (entries ++ e ∷ [])
    cases (inl h) = inl (omega (arith, length-append entries (e ∷ [])))
    cases (inr h) = let same : l ≡ length (entries ++ e ∷ []) = omega (arith, length-append entries (e ∷ [])) in inr (ap (λ z. Some z) same)

-- entries within a limit that isn't reached are fewer than the limit
pub below : (limit : Option ℕ) (entries : List Entry) (listed : ℕ) → listed ≡ length entries → (limit ≡ Some listed → ⊥) → IsWithinLimit limit entries
    → IsBelowLimit limit entries
below limit entries listed count not (inl h) = h
below limit entries listed count not (inr h) = absurd (not (h ∙ ap (λ z. Some z) (sym count)))

lines_more : (entries : List Entry) (e : Entry) → flat_map line_of (entries ++ e ∷ []) ≡ flat_map line_of entries ++ line_of e
lines_more entries e = flat_map-append line_of entries (e ∷ []) ∙ ap (λ l. flat_map line_of entries ++ l) (append-nil (line_of e))

-- a listing that has not reached its limit
module _ (l : Listing) (cursor : Word) (listed : ℕ) (a b : Option (List ℕ)) (s : IsListed l cursor listed a b) (not : l.limit ≡ Some listed → ⊥) where
  -- with the next member its entries are the first ones
  pub first_entries_with_the_next_member : (e : Entry) → IsNextMember l.catalogue.order l.catalogue.class cursor e
      → AreFirst l.catalogue l.cursor (s.entries ++ e ∷ [])
  first_entries_with_the_next_member e t = first_more l.catalogue l.cursor s.entries e s.first t.is
      (subst (Follows e.word) s.at t.after) (λ f is h. t.least f is (subst (Follows f.word) (sym s.at) h))

  -- with the next member the entries are still within the limit
  pub within_then : (e : Entry) → IsWithinLimit l.limit (s.entries ++ e ∷ [])
  within_then e = limit_more l.limit s.entries e (below l.limit s.entries listed s.count not s.within)

  -- one more entry was written
  pub listed_more : (then : Word) (c : Option (List ℕ)) → l.catalogue.order ≤ 16 → IsNext (members_after l.catalogue cursor)
      (members_after l.catalogue then) b c true
      → IsListed l then (listed + 1) a c
  listed_more then c few next =
      let e = next.0 in
      let t = next.1 in
      let first : AreFirst l.catalogue l.cursor (s.entries ++ e ∷ []) = first_entries_with_the_next_member e t in
      let count = s.count in
      let more : listed + 1 ≡ length (s.entries ++ e ∷ []) = omega (arith, count, length-append s.entries (e ∷ [])) in
      let fits : length (s.entries ++ e ∷ []) + 1 < 2 ^ 64
      = few_entries l.catalogue.order l.catalogue.class (s.entries ++ e ∷ []) few first.each first.ascending in
      record {
        entries = s.entries ++ e ∷ [];
        first = first;
        within = within_then e;
        at = next.2 ∙ sym (last_word l.cursor s.entries e);
        count = more;
        few = omega (arith, more, fits);
        appends = subst (Appends a c) (sym (lines_more s.entries e)) (Appends-trans a b c (flat_map line_of s.entries) (line_of e) s.appends next.3);
      }

  -- the write of one more failed
  pub listed_begun : (then : Word) (c : Option (List ℕ)) → IsNextBegun (members_after l.catalogue cursor)
      (members_after l.catalogue then) b c → BeginsListing l a c
  listed_begun then c next =
      let e = next.0 in record {
        bytes = flat_map line_of s.entries ++ line_of e;
        front = inl (record {
          entries = s.entries ++ e ∷ [];
          first = first_entries_with_the_next_member e next.1;
          within = within_then e;
          text = sym (lines_more s.entries e);
        });
        begins = prefix_after a b c (flat_map line_of s.entries) (line_of e) s.appends next.3;
      }

  -- no member is left
  unfoldable pub listed_all_with_no_member_left : (then : Word) (c : Option (List ℕ)) → IsNext (members_after l.catalogue cursor)
      (members_after l.catalogue then) b c false → HasEntries l End listed a c
  listed_all_with_no_member_left then c next = record {
    entries = s.entries;
    first = s.first;
    ends = (
      below l.limit s.entries listed s.count not s.within,
      all_there l.catalogue l.cursor s.entries s.first (subst (HasNoneAfter l.catalogue.order l.catalogue.class) s.at next.0),
    );
    count = s.count;
    appends = subst (λ (w : Option (List ℕ)). Appends a w (flat_map line_of s.entries)) (sym next.2) s.appends;
  }

-- the limit is reached
unfoldable pub listed_limit : (l : Listing) (cursor : Word) (listed : ℕ) (a b : Option (List ℕ)) → IsListed l cursor listed a b → l.limit ≡ Some listed
    → HasEntries l Limit listed a b
listed_limit l cursor listed a b s is = record {
  entries = s.entries;
  first = s.first;
  ends = is ∙ ap (λ z. Some z) s.count;
  count = s.count;
  appends = s.appends;
}

-- a last line of one order, one class and one word is one line
pub line_of_same : (last : Last) (n m : ℕ) (k class : Class) (listed : ℕ) (v w : Word) → n ≡ m → k ≡ class → v ≡ w
    → last_line last n k listed v ≡ last_line last m class listed w
line_of_same last n m k class listed v w e f g = λ i. last_line last (e i) (f i) listed (g i)

-- a last line at a listing's end names no word
unnamed_line : (l : Listing) (entries : List Entry) (last : Last) (listed : ℕ) (word : Word) → EndsBy l entries last
    → last_line last l.catalogue.order l.catalogue.class listed word ≡ last_line last l.catalogue.order l.catalogue.class listed []
unnamed_line l entries End listed word ends = refl
unnamed_line l entries Limit listed word ends = refl
unnamed_line l entries Wide listed word ends = absurd ends

-- the last line is written
module _ (l : Listing) (last : Last) (listed : ℕ) (word : Word) (a b c : Option (List ℕ)) (h : HasEntries l last listed a b) (piece : List ℕ)
    (is : piece ≡ last_line last l.catalogue.order l.catalogue.class listed word) where
  -- the last line counts the entries
  pub last_line_is : piece ≡ last_line last l.catalogue.order l.catalogue.class (length h.entries) []
  last_line_is = is ∙ ap (λ k. last_line last l.catalogue.order l.catalogue.class k word) h.count
      ∙ unnamed_line l h.entries last (length h.entries) word h.ends

  listing : IsListing l last (flat_map line_of h.entries ++ piece)
  listing = record { entries = h.entries; first = h.first; ends = h.ends; text = ap (λ z. flat_map line_of h.entries ++ z) last_line_is }

  -- the whole listing was written
  pub written_whole : Appends b c piece → WritesListing l last a c
  written_whole p = record {
    bytes = flat_map line_of h.entries ++ piece;
    listing = listing;
    appends = Appends-trans a b c (flat_map line_of h.entries) piece h.appends p;
  }

  -- a beginning of the whole listing was written
  pub begun_whole : AppendsPrefix b c piece → BeginsListing l a c
  begun_whole p = record {
    bytes = flat_map line_of h.entries ++ piece;
    front = inr (last, listing);
    begins = prefix_after a b c (flat_map line_of h.entries) piece h.appends p;
  }

-- the entries don't end at a wide word
pub ended_narrow : (l : Listing) (last : Last) (listed : ℕ) (a b : Option (List ℕ)) → HasEntries l last listed a b → last ≡ Wide → ⊥
ended_narrow l last listed a b h e = subst (EndsBy l h.entries) e h.ends
