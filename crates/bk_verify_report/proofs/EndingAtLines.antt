-- How a run ends at its lines: what was entered is what is told of the lines.
use Rattle.std.specs.Prelude.{take}
use Rattle.std.specs.Io.KnownBytes.{Appends}
use Rattle.std.proofs.Common.{Bool, List, Option, [], length, refl, subst, ℕ, ◌+◌, ◌++◌}
use Rattle.std.proofs.Common.{◌∷◌, ◌≡◌}
use Rattle.bk_ports.proofs.OtherOutputs.{IsStop, stops_as}
use Rattle.bk_ports.specs.Answered.{AreBegun, AreCutShort}
use Rattle.bk_ports.specs.Ending.{EndsWith, Streams}
use Rattle.bk_ports.specs.Entering.{AreAllEntered, CanBeEntered, MayWantBehind, entering_from, entries_of}
use Rattle.bk_ports.specs.Lines.{kept_front}
use Rattle.bk_ports.specs.Reply.{text_of}
use Rattle.bk_ports.specs.declared.Ended.{Ended}
use Rattle.bk_word.specs.declared.Class.TheVariants.{Perfect}
use Rattle.bk_catalogue.specs.Catalogue.{IsMember}
use Rattle.bk_verify_report.proofs.Firsts.{a_verifier_tells_the_truth}
use Rattle.bk_verify_report.specs.Verify.{Accepted, IsNew}
use Rattle.bk_verify_report.specs.VerifyLaws.{KeepsFirsts}
use Rattle.bk_verify_report.proofs.Following.{AreFollowed, IsAfter, followed}
use Rattle.bk_verify_report.specs.ListLine.{MayWantAt, none_entered}
use Rattle.bk_verify_report.specs.ListReading.{rules}
use Rattle.bk_verify_report.specs.VerifyRun.{TellsBefore, TellsFirst, TellsLines, report_of}
use Rattle.bk_verify_report.specs.Told.{HasEntry, IsToldOf}
use Rattle.bk_verify_report.specs.declared.entering.Verifying.{Verifying}

-- what is kept where no line is entered is that at the start
pub entered_from_none_entered : (n : ℕ) (s last : Verifying) (streams : Streams) (e : Ended) → s ≡ none_entered n
    → EndsWith (entries_of (entering_from rules s 1) last) streams e → EndsWith (entries_of (entering_from rules (none_entered n) 1) last) streams e
entered_from_none_entered n s last streams e is enters = subst (λ (t : Verifying). EndsWith (entries_of (entering_from rules t 1) last) streams e) is enters

-- what is kept where no line is entered is that before the first line
pub nothing_entered_before_the_first_line : (n : ℕ) → IsAfter n [] 1 (none_entered n)
nothing_entered_before_the_first_line n = record { keeps = a_verifier_tells_the_truth.at_first n; order = refl; before = tt }

-- what is told of lines that were entered from the start
abbrev pub told_of_all : (n : ℕ) (lines : List (List ℕ)) (text : List ℕ) (last : Verifying) (f : AreFollowed n [] 1 lines (none_entered n) text last)
    → IsToldOf n lines f.tolds
told_of_all n lines text last f = record { entries = f.entries; are_entries = f.are_entries; told = f.told }

module _ (n : ℕ) where
  told_lines : (last : Verifying) (lines : List (List ℕ)) (refused : Bool) (a b : Option (List ℕ))
      → AreAllEntered (entering_from rules (none_entered n) 1) last lines refused a b → TellsLines n lines a b
  told_lines last lines refused a b all =
      let f = followed n [] 1 lines all.replies (none_entered n) last (nothing_entered_before_the_first_line n) all.each in
      record { tolds = f.tolds; told = told_of_all n lines _ last f; appends = subst (Appends a b) f.text_is all.written }

  told_first : (lines : List (List ℕ)) (a b : Option (List ℕ)) → AreBegun (CanBeEntered (entering_from rules (none_entered n) 1)) lines a b
      → TellsFirst n lines a b
  told_first lines a b begun =
      let f = followed n [] 1 begun.begun begun.replies (none_entered n) (begun.each).0 (nothing_entered_before_the_first_line n) (begun.each).1 in
      record {
        begun = begun.begun;
        unseen = begun.unseen;
        split = begun.split;
        tolds = f.tolds;
        told = told_of_all n begun.begun (text_of begun.replies) (begun.each).0 f;
        begins = ((begun.written).0, subst (λ (l : List ℕ). Appends a b (take (begun.written).0 l)) f.text_is (begun.written).1);
      }

  -- the entry at which memory was wanting would be new
  new_entry : (entries : List Accepted) (s : Verifying) (number : ℕ) (line : List ℕ) → KeepsFirsts n entries (s.entries).pairs
      → (s.entries).order ≡ n → MayWantAt s number line
      → HasEntry number line (λ e. IsNew n (entries ++ e ∷ []) e)
  new_entry entries s number line keeps order wants =
      let sight = wants.sight in
      let u = sight.tiling in
      let stands = sight.stands in
      record {
        tiling = wants.tiling;
        has = wants.has;
        is = record {
          tiling = u;
          member = subst (λ (k : ℕ). IsMember k Perfect u) order stands.member;
          first = record {
            before = entries;
            after = [];
            place = refl;
            same = stands.canonical;
            none_before = keeps.all u (subst (λ (k : ℕ). IsMember k Perfect u) order stands.member) sight.new;
          };
        };
      }

  told_before : (lines : List (List ℕ)) (a b : Option (List ℕ)) → AreCutShort (MayWantBehind (entering_from rules (none_entered n) 1)) lines a b
      → TellsBefore n lines a b
  told_before lines a b w =
      let f = followed n [] 1 w.done w.replies (none_entered n) (w.cause).0 (nothing_entered_before_the_first_line n) (w.cause).1 in
      record {
        done = w.done;
        line = w.line;
        unseen = w.unseen;
        split = w.split;
        tolds = f.tolds;
        told = told_of_all n w.done (text_of w.replies) (w.cause).0 f;
        new = new_entry f.entries (w.cause).0 (1 + length w.done) (kept_front w.line) f.keeps f.order (w.cause).2;
        appends = subst (Appends a b) f.text_is w.written;
      }

  -- a run that stops at its lines
  pub stops_at_lines : (streams : Streams) (last : Verifying) (ended : Ended) → IsStop ended
      → EndsWith (entries_of (entering_from rules (none_entered n) 1) last) streams ended
      → EndsWith (report_of n) streams ended
  stops_at_lines streams last =
      stops_as (entries_of (entering_from rules (none_entered n) 1) last) (report_of n)
      (record { lines = told_lines last; begun = told_first; begun_behind = λ lines a b none. absurd none; short = told_before }) streams
