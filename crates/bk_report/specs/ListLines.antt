-- The texts about the lines of a list that is read: what is said of one line, and what stands after all of them.
-- Example (ListLineExamples): `line 2 repeats 1`. Of the counts 2, 1, 1, 1 and 1 three are of lines that are foreign,
-- repeated and refused, and one member is missing, so there are four faults.
use Rattle.std.specs.Prelude.{List, [], codes, decimal, slice_index, ℕ, ◌+◌, ◌∷◌}
use Rattle.bk_tiling.specs.Tiling.{Tiling}
use Rattle.bk_code.specs.Code.{code_of}
use Rattle.bk_text.specs.CodeText.{code_text, size_text}
use Rattle.bk_word.specs.Word.{Word}
use Rattle.bk_report.specs.AnswerWords.{foreign_word, items_word, missing_word, order_word, refused_word, semicolon}
use Rattle.bk_report.specs.Answers.{line}
use Rattle.bk_report.specs.Listings.{entry_text, last_name, wide_words}
use Rattle.bk_report.specs.Refusals.{refusal_text}
use Rattle.bk_report.specs.declared.listing_lines.Last.{Last}
use Rattle.bk_report.specs.declared.list_reports.ReportCounts.{ReportCounts}
use Rattle.bk_report.specs.declared.refusal.Refused.{Refused}

-- what is said of the line of a number
abbrev pub about_line : ℕ → List (List ℕ) → List ℕ
about_line number pieces = line (codes "line" ∷ decimal number ∷ pieces)

-- the line of a number is refused
abbrev pub refused_line : ℕ → Refused → List ℕ
refused_line number refused = about_line number (refusal_text refused ∷ [])

-- the line of a number repeats an earlier one
abbrev pub repeats_line : ℕ → ℕ → List ℕ
repeats_line number first = about_line number (codes "repeats" ∷ decimal first ∷ [])

-- the line of a number has no member of the catalogue
abbrev pub foreign_line : ℕ → List ℕ
foreign_line number = about_line number (foreign_word ∷ [])

-- a member of the catalogue that no line has, as an entry
abbrev pub missing_line : Tiling → Word → List ℕ
missing_line t w = line (missing_word ∷ entry_text t w ∷ [])

-- the five counts in the order of the last line: how many members the catalogue has, how many are missing, and how many
-- lines are foreign, repeated and refused
abbrev pub counts_in : List ℕ → ReportCounts
counts_in counts = record {
  members = slice_index counts 0;
  missing = slice_index counts 1;
  foreign = slice_index counts 2;
  repeated = slice_index counts 3;
  refused = slice_index counts 4;
}

-- how many things a list has too few or too many, or wrong
abbrev pub faults : ReportCounts → ℕ
faults counts = counts.missing + counts.foreign + counts.repeated + counts.refused

-- the last line of a list that was held against a catalogue: how that ended, the order, the five counts, and a wide
-- word
abbrev pub verified_line : Last → ℕ → ReportCounts → Word → List ℕ
verified_line last n counts w = line (semicolon ∷ last_name last
    ∷ order_word ∷ decimal n
    ∷ codes "members" ∷ decimal counts.members
    ∷ missing_word ∷ decimal counts.missing
    ∷ foreign_word ∷ decimal counts.foreign
    ∷ codes "repeated" ∷ decimal counts.repeated
    ∷ refused_word ∷ decimal counts.refused ∷ wide_words last w)

-- the size of a group and how many items it has
abbrev pub group_line : ℕ → ℕ → ℕ → List ℕ
group_line width height items = line (size_text width height ∷ decimal items ∷ [])

-- an item of a group: the number of its line, and its code
abbrev pub member_line : ℕ → Tiling → List ℕ
member_line number t = line (decimal number ∷ code_text (code_of t) ∷ [])

-- the numbers of the lines of two items, and the size and the code of what is made of them
abbrev pub pair_line : ℕ → ℕ → Tiling → List ℕ
pair_line first second t =
    line (decimal first ∷ decimal second ∷ size_text t.width t.height ∷ code_text (code_of t) ∷ [])

-- the last line behind groups: how many groups and items there are, and how many lines were refused
abbrev pub alike_line : ℕ → ℕ → ℕ → List ℕ
alike_line groups items refused = line (semicolon
    ∷ codes "groups" ∷ decimal groups
    ∷ items_word ∷ decimal items
    ∷ refused_word ∷ decimal refused ∷ [])

-- the last line behind pairs
abbrev pub pairs_line : ℕ → ℕ → ℕ → List ℕ
pairs_line pairs items refused = line (semicolon
    ∷ codes "pairs" ∷ decimal pairs
    ∷ items_word ∷ decimal items
    ∷ refused_word ∷ decimal refused ∷ [])
