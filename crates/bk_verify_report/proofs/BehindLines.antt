-- What stands behind the lines is what the report says: the first missing members, or all of them and the last line.
use Rattle.std.specs.List.{AllByRecursion}
use Rattle.std.specs.Prelude.{IsTrue, Option, flat_map, ⊤, ◌↔◌}
use Rattle.std.specs.Io.KnownBytes.{Appends}
use Rattle.std.proofs.KnownBytes.{Appends-trans}
use Rattle.std.proofs.Common.{Bool, Contains, List, [], ap, inl, inr, refl, ℕ, ◌++◌, ◌<◌}
use Rattle.std.proofs.Common.{◌∷◌, ◌≡◌, ◌⊎◌}
use Rattle.bk_ports.proofs.KnownSteps.{prefix_after}
use Rattle.bk_ports.specs.Causes.{AppendsPrefix}
use Rattle.bk_word.specs.Word.{Follows, Word}
use Rattle.bk_word.specs.declared.Class.TheVariants.{Perfect}
use Rattle.bk_catalogue.specs.Catalogue.{Entry, IsEntry}
use Rattle.bk_report.specs.ListLines.{faults, verified_line}
use Rattle.bk_report.specs.declared.listing_lines.Last.TheVariants.{End}
use Rattle.bk_report.specs.declared.list_reports.ReportCounts.{ReportCounts}
use Rattle.bk_verify_report.proofs.Firsts.{missing_ones_are_not_kept}
use Rattle.bk_verify_report.proofs.MembersUpTo.{after_or_up, up_to_is_before}
use Rattle.bk_verify_report.specs.KeptEntries.{AreKeptAfter, AreUpTo, CountsMembers, IsNotKept, Kept}
use Rattle.bk_verify_report.specs.Verify.{Accepted, AreNotOf}
use Rattle.bk_verify_report.specs.VerifyLaws.{KeepsFirsts}
use Rattle.bk_verify_report.specs.MissingLines.{AreMissingListed, ClosesReport, IsClosing, IsClosingBegun}
use Rattle.bk_verify_report.specs.Report.{AreFirstMissing, missing_line_of}
use Rattle.bk_verify_report.specs.declared.entering.Verifying.{Verifying}

-- what is listed are the first missing members
module _ (n : ℕ) (pairs : List Kept) (entries : List Accepted) (keeps : KeepsFirsts n entries pairs) (cursor : Word) (missing : List Entry)
    (are : AreUpTo n (IsNotKept pairs) cursor missing) where
  none_of : (some : List Entry) → AllByRecursion (IsEntry n Perfect) some → AllByRecursion (λ e. IsNotKept pairs e.tiling) some
      → AllByRecursion (λ e. AreNotOf e.tiling entries) some
  none_of [] each such = tt
  none_of (e ∷ some) each such = ((missing_ones_are_not_kept n entries pairs e.tiling keeps (each.0).member).0 such.0, none_of some each.1 such.1)

  not_kept : (e : Entry) → IsEntry n Perfect e → AreNotOf e.tiling entries → IsNotKept pairs e.tiling
  not_kept e is none = (missing_ones_are_not_kept n entries pairs e.tiling keeps is.member).1 none

  later : (e : Entry) → Follows e.word cursor → (some : List Entry) → AllByRecursion (λ f. (Follows f.word cursor → ⊥)) some
      → AllByRecursion (λ f. Follows e.word f.word) some
  later e after [] up = tt
  later e after (f ∷ some) up = (up_to_is_before cursor f.word e.word up.0 after, later e after some up.1)

  -- the missing members up to the cursor come before all others
  pub first_missing : AreFirstMissing n entries missing
  first_missing = record {
    each = are.each;
    none = none_of missing are.each are.such;
    ascending = are.ascending;
    first = λ e is none. cases e is none (after_or_up cursor e.word);
  }
    where
      cases : (e : Entry) → IsEntry n Perfect e → AreNotOf e.tiling entries → Follows e.word cursor ⊎ (Follows e.word cursor → ⊥) → Contains missing e
          ⊎ AllByRecursion (λ f. Follows e.word f.word) missing
      cases e is none (inl after) = inr (later e after missing are.up)
      cases e is none (inr up) = inl (are.all e is (not_kept e is none) up)

  -- all missing members are listed, where none is left behind the cursor
  pub all_missing : AreKeptAfter n pairs cursor → (e : Entry) → IsEntry n Perfect e → AreNotOf e.tiling entries → Contains missing e
  all_missing kept e is none = cases (after_or_up cursor e.word)
    where
      cases : Follows e.word cursor ⊎ (Follows e.word cursor → ⊥) → Contains missing e
      cases (inl after) = absurd (kept e is after (not_kept e is none))
      cases (inr up) = are.all e is (not_kept e is none) up

-- what is written behind the lines
module _ (n : ℕ) (s : Verifying) (cursor : Word) (missing members : ℕ) (a b : Option (List ℕ))
    (listed : AreMissingListed (record { order = n; pairs = (s.entries).pairs }) cursor missing a b)
    (kept : AreKeptAfter n (s.entries).pairs cursor) (all_members : CountsMembers n (λ word. ⊤) members) where
  -- what the last line tells
  abbrev pub the_counts : ReportCounts
  the_counts = record { members = members; missing = missing; foreign = s.lines.foreign; repeated = s.lines.repeated; refused = s.lines.refused }

  is_closing : (line : List ℕ) → line ≡ verified_line End n the_counts [] → IsClosing n s the_counts (flat_map missing_line_of listed.entries ++ line)
  is_closing line is = record {
    cursor = cursor;
    entries = listed.entries;
    are = listed.are;
    all = kept;
    members = all_members;
    missing = listed.count;
    foreign = refl;
    repeated = refl;
    refused = refl;
    text = ap (λ (l : List ℕ). flat_map missing_line_of listed.entries ++ l) is;
  }

  -- the last line is written, and the report is whole
  pub closes_report : (line : List ℕ) → line ≡ verified_line End n the_counts [] → (c : Option (List ℕ)) → Appends b c line → (differs : Bool)
      → (IsTrue differs ↔ 0 < faults the_counts) → ClosesReport n s differs a c
  closes_report line is c p differs says = record {
    counts = the_counts;
    bytes = flat_map missing_line_of listed.entries ++ line;
    closing = is_closing line is;
    appends = Appends-trans a b c (flat_map missing_line_of listed.entries) line listed.appends p;
    verdict = says;
  }

  -- the write of the last line failed, and a beginning of what closes the report stands there
  pub closing_begun : (line : List ℕ) → line ≡ verified_line End n the_counts [] → (c : Option (List ℕ)) → AppendsPrefix b c line → IsClosingBegun n s a c
  closing_begun line is c p = inr (record {
    counts = the_counts;
    bytes = flat_map missing_line_of listed.entries ++ line;
    closing = is_closing line is;
    begins = prefix_after a b c (flat_map missing_line_of listed.entries) line listed.appends p;
  })
