-- The lines about a list as they are written.
use Rattle.std.specs.Fmt.{digits}
use Rattle.std.specs.Prelude.{codes, refl, ◌++◌, ◌∷◌, ◌≡◌, []}
use Rattle.bk_tiling.proofs.ExampleTilings.{rectangle_33x32}
use Rattle.bk_word.proofs.WordExamples.{word_33x32}
use Rattle.bk_report.specs.ListLines.{alike_line, foreign_line, group_line, member_line, missing_line, pair_line, pairs_line, refused_line}
use Rattle.bk_report.specs.ListLines.{counts_in, faults, repeats_line, verified_line}
use Rattle.bk_report.specs.declared.listing_lines.Last.TheVariants.{End, Wide}
use Rattle.bk_report.specs.declared.list_reports.ReportCounts.{ReportCounts}
use Rattle.bk_report.specs.declared.refusal.Refused.TheVariants.{Gap, More}

pub refused : refused_line 4 (Gap 2 15 16) ≡ codes "line 4 no gap 2 15 16" ++ 10 ∷ []
unfolding digits
refused = refl

pub no_more : refused_line 16385 More ≡ codes "line 16385 no more" ++ 10 ∷ []
unfolding digits
no_more = refl

pub repeats : repeats_line 2 1 ≡ codes "line 2 repeats 1" ++ 10 ∷ []
unfolding digits
repeats = refl

pub foreign : foreign_line 3 ≡ codes "line 3 foreign" ++ 10 ∷ []
unfolding digits
foreign = refl

pub missing : missing_line rectangle_33x32 word_33x32 ≡ codes "missing 9 33x32 [18,15][7,8][14,4][10,1][9] ; 2u.2aa.2ue.2eue.1e" ++ 10 ∷ []
unfolding digits
missing = refl

abbrev five : ReportCounts
five = record { members = 2; missing = 1; foreign = 1; repeated = 1; refused = 1 }

pub read-in-order : counts_in (2 ∷ 1 ∷ 1 ∷ 1 ∷ 1 ∷ []) ≡ five
read-in-order = refl

pub four-faults : faults five ≡ 4
four-faults = refl

pub verified : verified_line End 9 five [] ≡ codes "; end order 9 members 2 missing 1 foreign 1 repeated 1 refused 1" ++ 10 ∷ []
unfolding digits
verified = refl

pub verified_below : verified_line Wide 9 (counts_in (0 ∷ 0 ∷ 0 ∷ 0 ∷ 0 ∷ [])) word_33x32
    ≡ codes "; wide order 9 members 0 missing 0 foreign 0 repeated 0 refused 0 at 2u.2aa.2ue.2eue.1e" ++ 10 ∷ []
unfolding digits
verified_below = refl

pub group : group_line 33 32 2 ≡ codes "33x32 2" ++ 10 ∷ []
unfolding digits
group = refl

pub member : member_line 1 rectangle_33x32 ≡ codes "1 [18,15][7,8][14,4][10,1][9]" ++ 10 ∷ []
unfolding digits
member = refl

pub pair : pair_line 1 2 rectangle_33x32 ≡ codes "1 2 33x32 [18,15][7,8][14,4][10,1][9]" ++ 10 ∷ []
unfolding digits
pair = refl

pub groups : alike_line 2 3 0 ≡ codes "; groups 2 items 3 refused 0" ++ 10 ∷ []
unfolding digits
groups = refl

pub pairs : pairs_line 1 2 0 ≡ codes "; pairs 1 items 2 refused 0" ++ 10 ∷ []
unfolding digits
pairs = refl
