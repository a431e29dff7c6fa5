-- A list of order 9 without a missing member, of which line 2 repeats line 1 and line 3 is foreign.
use Rattle.std.specs.Fmt.{digits}
use Rattle.std.proofs.Common.{arith, lit≤}
use Rattle.std.specs.Prelude.{IsTrue, List, Some, [], false, codes, count_by, flat_map, refl, ◌++◌, ◌<◌, ◌∷◌, ◌≡◌}
use Rattle.bk_ports.specs.Ending.{streams_told}
use Rattle.bk_tiling.proofs.ExampleTilings.{rectangle_33x32}
use Rattle.bk_word.proofs.WordExamples.{word_33x32}
use Rattle.bk_report.specs.ListLines.{faults, verified_line}
use Rattle.bk_report.specs.declared.listing_lines.Last.TheVariants.{End}
use Rattle.bk_report.specs.declared.list_reports.ReportCounts.{ReportCounts}
use Rattle.bk_verify_report.specs.declared.entries.Fed.TheVariants.{Foreign, New, Repeats}
use Rattle.bk_catalogue.proofs.Members.CatalogueExamples.{no_perfect}
use Rattle.bk_verify_report.proofs.OneReport.{a_list_has_one_report}
use Rattle.bk_verify_report.specs.ListLine.{fed_pieces, none_entered}
use Rattle.bk_verify_report.specs.ListReading.{IsListRead}
use Rattle.bk_verify_report.specs.Report.{missing_line_of}
use Rattle.bk_verify_report.specs.VerifyRun.{TellsReport}
use Rattle.bk_verify_report.specs.Told.{IsToldOf, Told, foreign, is_foreign, is_line_refused, is_repeat, no_line, nothing, repeats, texts_from}

-- what is written for the entries of the three lines
new-entry : fed_pieces 1 New ≡ []
new-entry = refl

repeated-entry : fed_pieces 2 (Repeats 1) ≡ (codes "line 2 repeats 1" ++ 10 ∷ []) ∷ []
unfolding digits
repeated-entry = refl

foreign-entry : fed_pieces 3 Foreign ≡ (codes "line 3 foreign" ++ 10 ∷ []) ∷ []
unfolding digits
foreign-entry = refl

-- what is told of them
abbrev tolds : List Told
tolds = nothing ∷ repeats 1 ∷ foreign ∷ []

texts : texts_from 1 tolds ≡ codes "line 2 repeats 1" ++ 10 ∷ (codes "line 3 foreign" ++ 10 ∷ [])
unfolding digits
texts = refl

-- and the last line
abbrev counts : ReportCounts
counts = record { members = 2; missing = 0; foreign = count_by is_foreign tolds; repeated = count_by is_repeat tolds; refused = count_by is_line_refused tolds }

last-line : verified_line End 9 counts [] ≡ codes "; end order 9 members 2 missing 0 foreign 1 repeated 1 refused 0" ++ 10 ∷ []
unfolding digits
last-line = refl

two-faults : faults counts ≡ 2
two-faults = refl

-- of a list that lacks the rectangle 33x32, its line stands before that
missing-lines : flat_map missing_line_of (record { tiling = rectangle_33x32; word = word_33x32 } ∷ [])
    ≡ codes "missing 9 33x32 [18,15][7,8][14,4][10,1][9] ; 2u.2aa.2ue.2eue.1e" ++ 10 ∷ []
unfolding digits
missing-lines = refl

-- of a list without lines nothing is told, and nothing else can be
nothing_else : (tolds : List Told) → IsToldOf 9 [] tolds → tolds ≡ []
nothing_else tolds is = a_list_has_one_report.told 9 [] tolds [] is (record { entries = []; are_entries = no_line 1; told = tt })

not_true : IsTrue false → ⊥
not_true e = cc

none : 0 < 0 → ⊥
none e = omega (arith, e)

-- of the order 2, which has no perfect member, the report on it is one line, and it tells no fault
no_list : TellsReport 2 [] false (Some []) (Some (codes "; end order 2 members 0 missing 0 foreign 0 repeated 0 refused 0" ++ 10 ∷ []))
unfolding digits
no_list = record {
  counts = record { members = 0; missing = 0; foreign = 0; repeated = 0; refused = 0 };
  report = codes "; end order 2 members 0 missing 0 foreign 0 repeated 0 refused 0" ++ 10 ∷ [];
  is_report = record {
    front = [];
    begins = record {
      tolds = [];
      told = record { entries = []; are_entries = no_line 1; told = tt };
      missing = [];
      first_missing = record { each = tt; none = tt; ascending = tt; first = λ e is none. absurd (no_perfect e is) };
      text = refl;
    };
    all_missing = λ e is none. absurd (no_perfect e is);
    members = record { entries = []; each = tt; counted = tt; ascending = tt; all = λ e is counted. absurd (no_perfect e is); number = refl };
    missing_is = refl;
    foreign_is = refl;
    repeated_is = refl;
    refused_is = refl;
    text = refl;
  };
  verdict = (λ differs. absurd (not_true differs), λ some. absurd (none some));
  appends = refl;
}

-- an input without a byte is read with nothing kept
no_input : IsListRead 2 (streams_told (Some []) (Some []) (Some []) (Some [])) (none_entered 2)
no_input = record {
  refused = false;
  whole = record {
    input = [];
    taken = refl;
    at_end = refl;
    within = lit≤ tt;
    written = record { replies = []; each = refl; written = refl; any = refl };
  };
}
