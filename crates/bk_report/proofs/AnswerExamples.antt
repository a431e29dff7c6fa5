-- Answers as they are written.
use Rattle.std.specs.Fmt.{digits}
use Rattle.std.specs.Prelude.{None, [], codes, negsuc, pos, refl, ◌++◌, ◌∷◌, ◌≡◌}
use Rattle.std.proofs.Common.{sym}
use Rattle.bk_tiling.proofs.ExampleTilings.{rectangle_33x32, square_2x2}
use Rattle.bk_tiling.proofs.TilingTest.{pairs_from_test, tiling_from_test}
use Rattle.bk_simple.proofs.SimpleTest.{simple_from_test}
use Rattle.bk_report.specs.Answers.{IsCheckLine, dual_line, flow_line, net_line, verdict_line}
use Rattle.bk_report.specs.Refusals.{refusal_line}
use Rattle.bk_report.specs.Trial.{trial_line}
use Rattle.bk_report.specs.declared.refusal.Refused.TheVariants.{Gap, Size}

pub checked : verdict_line rectangle_33x32 None None ≡ codes "ok 9 33x32 perfect simple" ++ 10 ∷ []
unfolding digits
checked = refl

-- the line of check of the rectangle 33x32, which is perfect and simple
pub check_line-33x32 : IsCheckLine rectangle_33x32 (codes "ok 9 33x32 perfect simple" ++ 10 ∷ [])
check_line-33x32 = record {
  repeated = None;
  part = None;
  perfect = pairs_from_test (λ q. q.s) rectangle_33x32.squares refl;
  simple = simple_from_test rectangle_33x32 (tiling_from_test rectangle_33x32 refl) refl;
  text = sym checked;
}

pub refused : refusal_line (Gap 2 15 16) ≡ codes "no gap 2 15 16" ++ 10 ∷ []
unfolding digits
refused = refl

pub refused_size : refusal_line (Size 33 32) ≡ codes "no size 33x32" ++ 10 ∷ []
unfolding digits
refused_size = refl

pub diagram : net_line rectangle_33x32 ≡ codes "6 0-2 0-1 1-3 1-4 2-5 2-3 3-5 3-4 4-5 ; 33 18 15 7 8 14 4 10 1 9" ++ 10 ∷ []
unfolding digits
diagram = refl

pub dual : dual_line rectangle_33x32 ≡ codes "6 0-2 0-1 1-2 1-3 2-5 2-4 3-4 3-5 4-5 ; 32 18 14 4 10 15 7 1 9 8 ; 1 5 6 7 2 3 8 9 4 ; 0" ++ 10 ∷ []
unfolding digits
dual = refl

pub dual_with_crossing : dual_line square_2x2 ≡ codes "3 0-1 0-1 1-2 1-2 ; 2 1 1 1 1 ; 1 3 2 4 ; 1" ++ 10 ∷ []
unfolding digits
dual_with_crossing = refl

pub flowing : flow_line (record { total = pos 2; currents = pos 1 ∷ negsuc 0 ∷ pos 0 ∷ [] }) ≡ codes "2 1 -1 0" ++ 10 ∷ []
unfolding digits
flowing = refl

pub trials : trial_line 0 2 (record { accepted = 2; perfect = 1; simple = 0; squares = 272 })
    ≡ codes "trial seed 0 count 2 ok 2 perfect 1 simple 0 squares 272" ++ 10 ∷ []
unfolding digits
trials = refl
