-- The missing members are listed behind the lines, one after another, up to the last.
use Rattle.std.specs.List.{AllByRecursion}
use Rattle.std.specs.Prelude.{Option, flat_map, take}
use Rattle.std.specs.Io.KnownBytes.{Appends}
use Rattle.std.proofs.KnownBytes.{Appends-nil, Appends-trans}
use Rattle.std.proofs.Common.{Contains, List, [], ap, append-nil, arith, inl, inr, length, refl, subst, sym, ℕ, ◌++◌, ◌+◌, ◌<◌, ◌^◌}
use Rattle.std.proofs.Common.{◌∙◌, ◌∷◌, ◌≡◌, ◌≤◌, ◌⊎◌}
use Rattle.std.proofs.lemmas.Grind.{flat_map-append}
use Rattle.std.proofs.lemmas.List.{length-append}
use Rattle.bk_ports.proofs.KnownSteps.{prefix_after}
use Rattle.bk_ports.specs.Causes.{AppendsPrefix}
use Rattle.bk_lay.proofs.WordPlay.{tiling_word_is_complete}
use Rattle.bk_report.specs.ListLines.{missing_line}
use Rattle.bk_tiling.specs.Tiling.{Tiling}
use Rattle.bk_word.specs.Word.{Follows, Word}
use Rattle.bk_word.specs.declared.Class.TheVariants.{Perfect}
use Rattle.bk_catalogue.proofs.TreeOfWords.WordCounts.{few_entries}
use Rattle.bk_catalogue.specs.Catalogue.{Entry, IsEntry}
use Rattle.bk_catalogue.specs.Following.{HasNoneAfter}
use Rattle.bk_verify_report.proofs.MembersUpTo.{IsNextSuch, after_or_up, up_to_more, up_to_none}
use Rattle.bk_verify_report.specs.KeptEntries.{AreKeptAfter, AreUpTo, IsNextMissing, IsNotKept, Kept}
use Rattle.bk_verify_report.specs.MissingLines.{AreMissingListed, IsListingBegun}
use Rattle.bk_verify_report.specs.Report.{missing_line_of}

-- the least member that isn't kept, as the next one of that kind
next_such : (n : ℕ) (pairs : List Kept) (cursor : Word) (t : Tiling) (word : Word) → IsNextMissing n pairs cursor t word
    → IsNextSuch n (IsNotKept pairs) cursor (record { tiling = t; word = word })
next_such n pairs cursor t word next = record {
  entry = record { member = next.member; word = next.word_is };
  such = next.new;
  after = next.after;
  least = λ f is new after below. next.least f is after below new;
}

-- the word of the next member that isn't kept has a move
pub word_some : (n : ℕ) (pairs : List Kept) (cursor : Word) (t : Tiling) (word : Word) → IsNextMissing n pairs cursor t word → 0 < length word
word_some n pairs cursor t word next = ((tiling_word_is_complete t word (next.member).tiling next.word_is).0).some

lines_more : (entries : List Entry) (e : Entry) → flat_map missing_line_of (entries ++ e ∷ []) ≡ flat_map missing_line_of entries ++ missing_line_of e
lines_more entries e = flat_map-append missing_line_of entries (e ∷ []) ∙ ap (λ l. flat_map missing_line_of entries ++ l) (append-nil (missing_line_of e))

-- before the first one nothing is listed
pub no_missing_listed_at_the_start : (n : ℕ) (pairs : List Kept) (written : Option (List ℕ))
    → AreMissingListed (record { order = n; pairs = pairs }) [] 0 written written
no_missing_listed_at_the_start n pairs written = record {
  entries = [];
  are = up_to_none n (IsNotKept pairs);
  count = refl;
  few = omega arith;
  appends = Appends-nil written;
}

-- the missing members up to a cursor are listed
module _ (n : ℕ) (pairs : List Kept) (cursor : Word) (missing : ℕ) (a b : Option (List ℕ))
    (l : AreMissingListed (record { order = n; pairs = pairs }) cursor missing a b) where
  -- a line more is written, or begun
  module _ (t : Tiling) (word : Word) (next : IsNextMissing n pairs cursor t word) (c : Option (List ℕ)) where
    abbrev more : List Entry
    more = l.entries ++ record { tiling = t; word = word } ∷ []

    are_more : AreUpTo n (IsNotKept pairs) word more
    are_more = up_to_more n (IsNotKept pairs) cursor (record { tiling = t; word = word }) (next_such n pairs cursor t word next) l.entries l.are

    text_more : flat_map missing_line_of l.entries ++ missing_line t word ≡ flat_map missing_line_of more
    text_more = sym (lines_more l.entries (record { tiling = t; word = word }))

    -- the line is written
    pub listed_more : n ≤ 16 → Appends b c (missing_line t word) → AreMissingListed (record { order = n; pairs = pairs }) word (missing + 1) a c
    listed_more small p =
        let are = are_more in
        let count = l.count in
        let one_more : missing + 1 ≡ length more = omega (arith, count, length-append l.entries (record { tiling = t; word = word } ∷ [])) in
        let fits : length more + 1 < 2 ^ 64 = few_entries n Perfect more small are.each are.ascending in
        record {
          entries = more;
          are = are;
          count = one_more;
          few = omega (arith, one_more, fits);
          appends = subst (Appends a c) text_more (Appends-trans a b c (flat_map missing_line_of l.entries) (missing_line t word) l.appends p);
        }

    -- the write of a further line failed, and a beginning of the lines stands there
    pub listing_begun : AppendsPrefix b c (missing_line t word) → IsListingBegun n pairs a c
    listing_begun p =
        let begun = prefix_after a b c (flat_map missing_line_of l.entries) (missing_line t word) l.appends p in
        record {
          cursor = word;
          entries = more;
          are = are_more;
          begins = (begun.0, subst (λ (text : List ℕ). Appends a c (take begun.0 text)) text_more begun.1);
        }

  -- no member is left that isn't kept, and the walk has gone to its end
  pub missing_listed_with_no_member_left : AreKeptAfter n pairs cursor → (then : Word) → HasNoneAfter n Perfect then
      → AreMissingListed (record { order = n; pairs = pairs }) then missing a b
  missing_listed_with_no_member_left kept then none =
      let are = l.are in
      record {
        entries = l.entries;
        are = record {
          each = are.each;
          such = are.such;
          up = all_up l.entries are.each;
          ascending = are.ascending;
          all = λ e is new up. there e is new (after_or_up cursor e.word);
        };
        count = l.count;
        few = l.few;
        appends = l.appends;
      }
    where
      all_up : (entries : List Entry) → AllByRecursion (IsEntry n Perfect) entries → AllByRecursion (λ e. (Follows e.word then → ⊥)) entries
      all_up [] each = tt
      all_up (e ∷ entries) each = (none e each.0, all_up entries each.1)

      there : (e : Entry) → IsEntry n Perfect e → IsNotKept pairs e.tiling → Follows e.word cursor ⊎ (Follows e.word cursor → ⊥) → Contains l.entries e
      there e is new (inl after) = absurd (kept e is after new)
      there e is new (inr up) = (l.are).all e is new up
