-- What is written behind the lines, by what was kept of them.
use Rattle.std.specs.Prelude.{IsTrue, Option, [], ⊤, ◌↔◌}
use Rattle.std.specs.Io.KnownBytes.{Appends}
use Rattle.std.proofs.Common.{Bool, List, inl, subst, ℕ, ◌<◌, ◌≡◌}
use Rattle.bk_ports.specs.Causes.{AppendsPrefix}
use Rattle.bk_word.specs.Word.{Word}
use Rattle.bk_word.specs.declared.Class.TheVariants.{Perfect}
use Rattle.bk_catalogue.specs.Following.{HasNoneAfter}
use Rattle.bk_report.specs.ListLines.{faults, verified_line}
use Rattle.bk_report.specs.declared.list_reports.ReportCounts.{ReportCounts}
use Rattle.bk_report.specs.declared.listing_lines.Last.TheVariants.{End, Limit, Wide}
use Rattle.bk_verify_report.proofs.CountedMembers.{all_members_counted_with_none_after}
use Rattle.bk_verify_report.specs.KeptEntries.{AreKeptAfter, CountsMembers, IsUpTo, Kept}
use Rattle.bk_verify_report.specs.Rest.{RestState}
use Rattle.bk_verify_report.proofs.BehindLines as behind
use Rattle.bk_verify_report.specs.MissingLines.{AreMissingListed, ClosesReport, IsClosingBegun, IsListingBegun}
use Rattle.bk_verify_report.specs.declared.entering.Verifying.{Verifying}

-- the order has so many members; the lines of those that aren't kept were written, and they are so many
pub record AreLacking (n : ℕ) (pairs : List Kept) (members missing : ℕ) (written written_after : Option (List ℕ)) : Type 0 where
  pub cursor : Word
  pub listed : AreMissingListed (record { order = n; pairs = pairs }) cursor missing written written_after
  pub kept : AreKeptAfter n pairs cursor
  pub all : CountsMembers n (λ word. ⊤) members

-- the missing members are listed, and all members are counted
pub lacking : (first now : RestState) (missing members : ℕ) (a b : Option (List ℕ))
    → AreMissingListed (record { order = (first.walk).order; pairs = first.pairs }) (now.walk).cursor missing a b
    → AreKeptAfter (first.walk).order first.pairs (now.walk).cursor → HasNoneAfter (first.walk).order Perfect (now.walk).cursor
    → (now.walk).order ≡ (first.walk).order → CountsMembers (now.walk).order (IsUpTo (now.walk).cursor) members
    → AreLacking (first.walk).order first.pairs members missing a b
lacking first now missing members a b listed kept none same_order reached = record {
  cursor = (now.walk).cursor;
  listed = listed;
  kept = kept;
  all = all_members_counted_with_none_after (first.walk).order (now.walk).cursor members none
      (subst (λ (k : ℕ). CountsMembers k (IsUpTo (now.walk).cursor) members) same_order reached);
}

-- what is counted where so many are members and so many are missing
abbrev pub counts_of : Verifying → ℕ → ℕ → ReportCounts
counts_of s members missing = record { members = members; missing = missing; foreign = s.lines.foreign; repeated = s.lines.repeated; refused = s.lines.refused }

-- the lines of the missing members stand there
module _ (n : ℕ) (s : Verifying) (order : (s.entries).order ≡ n) (missing members : ℕ) (a b : Option (List ℕ))
    (found : AreLacking (s.entries).order (s.entries).pairs members missing a b) (line : List ℕ)
    (is : line ≡ verified_line End n (counts_of s members missing) [])
    (c : Option (List ℕ)) where
  there : AreLacking n (s.entries).pairs members missing a b
  there = subst (λ (k : ℕ). AreLacking k (s.entries).pairs members missing a b) order found

  -- the last line is written, and the report is whole
  pub closes_report : Appends b c line → (differs : Bool) → (IsTrue differs ↔ 0 < faults (counts_of s members missing)) → ClosesReport n s differs a c
  closes_report = behind.closes_report n s there.cursor missing members a b there.listed there.kept there.all line is c

  -- the last line could not be written, and a beginning of what closes the report stands there
  pub closing_begun : AppendsPrefix b c line → IsClosingBegun n s a c
  closing_begun = behind.closing_begun n s there.cursor missing members a b there.listed there.kept there.all line is c

-- the line of a missing member could not be written
pub closing_broken : (n : ℕ) (s : Verifying) (a b : Option (List ℕ)) → (s.entries).order ≡ n
    → IsListingBegun (s.entries).order (s.entries).pairs a b → IsClosingBegun n s a b
closing_broken n s a b order begun = inl (subst (λ (k : ℕ). IsListingBegun k (s.entries).pairs a b) order begun)

-- the last line of a report is not that of a limit
pub end_limit : End ≡ Limit → ⊥
end_limit e = cc

-- the last line of a report is not that of a wide word
pub end_wide : End ≡ Wide → ⊥
end_wide e = cc
