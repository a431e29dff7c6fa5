-- The squares of an open segment, by the flat lists that a skeleton keeps: how many squares each segment has, and all of them.
use Rattle.std.specs.List.{concat, sum}
use Rattle.std.proofs.Common.{List, Some, [], ap, arith, drop, length, slice_get, slice_index_or, sym, take, ℕ, ◌+◌, ◌-◌, ◌<◌, ◌∙◌}
use Rattle.std.proofs.Common.{◌≡◌}
use Rattle.std.proofs.lemmas.List.{length-map}
use Rattle.std.proofs.lemmas.Option.{slice_get-get_or}
use Rattle.bk_word.specs.Play.{outline_of}
use Rattle.bk_word.specs.Word.{Word}
use Rattle.bk_word.specs.Outline.{sizes_of}
use Rattle.bk_catalogue.proofs.HangingBounds.BoundsOfWords.{segment_at, segments_again}
use Rattle.bk_catalogue.specs.VerticalCut.{segments_of}

-- the squares of a segment among all open ones
pub segment_read : (w : Word) (sizes ends : List ℕ) (i start size : ℕ) → sizes ≡ sizes_of (outline_of w) → ends ≡ concat (outline_of w).segments
    → i < length sizes
    → start ≡ sum (take i sizes) → size ≡ slice_index_or sizes i 0 → slice_get (outline_of w).segments i ≡ Some (take (start + size - start) (drop start ends))
segment_read w sizes ends i start size z e within s t =
    slice_get-get_or (outline_of w).segments i [] (omega (
      arith,
      within,
      ap (λ (l : List ℕ). length l) z,
      length-map (outline_of w).segments (λ (s : List ℕ). length s),
    ))
    ∙ ap (λ (l : List ℕ). Some l) (ap (λ l. slice_index_or l i []) (sym (segments_again (outline_of w).segments) ∙ (λ j. segments_of (sym z j) (sym e j)))
    ∙ segment_at sizes ends i within ∙ (λ j. take (sym long j) (drop (sym s j) ends)))
  where
    long : start + size - start ≡ slice_index_or sizes i 0
    long = omega (arith, t)
