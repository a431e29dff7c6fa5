-- A pass over the segments after a next move, each as it stands before the sign even joins it to another.
-- Example (ApartExamples): 2u.1e leaves one marked segment, of the squares 1 and 3. Apart these are two segments with
-- the sign even between them, both marked, and a pass over them counts one move. After 2u.2ua the segment of square 4
-- stands behind the valley: with the sign under before it, it asks for three moves, and with the sign above for none.
use Rattle.std.specs.Prelude.{Bool, List, [], cond, count_by, drop, false, length, map, nat_le, ℕ, ◌++◌, ◌+◌, ◌||◌, ◌∷◌}
use Rattle.std.specs.Prelude.{◌≡◌, ◌≤◌}
use Rattle.bk_word.specs.Outline.{Outline, has_right_wall, valley_place}
use Rattle.bk_word.specs.Play.{outline_of, segments_apart, signs_apart}
use Rattle.bk_word.specs.Signs.{is_under}
use Rattle.bk_word.specs.Word.{Move, Word}
use Rattle.bk_word.specs.declared.Sign.{Sign}
use Rattle.bk_word.specs.declared.Sign.TheVariants.{Above, Even, Under}
use Rattle.bk_catalogue.specs.VerticalCut.{edges_on_lines}
use Rattle.bk_layout.specs.NormalCuts.{touched_or_wide}
use Rattle.bk_layout.specs.StrongBound.{strong_bound_of, strong_from, weight_from, weight_of}
use Rattle.bk_layout.specs.StrongPass.{Passed, pass_along}
use Rattle.bk_layout.specs.WordNumbers.{first_count}
use Rattle.bk_free_search.specs.declared.behind.Asks.{Asks}

-- the marks of a word's open segments
abbrev pub marks_of_word : Word → List Bool
marks_of_word w = touched_or_wide (first_count w) (edges_on_lines w) (outline_of w).segments

-- of each segment apart the mark of the joined one that it is part of
abbrev pub shared : List Sign → List Bool → List Bool
shared [] marks = marks
shared (sign ∷ signs) [] = []
shared (Even ∷ signs) (mark ∷ marks) = mark ∷ shared signs (mark ∷ marks)
shared (Above ∷ signs) (mark ∷ marks) = mark ∷ shared signs marks
shared (Under ∷ signs) (mark ∷ marks) = mark ∷ shared signs marks

-- how many squares the segments have after a move, each still apart, and their marks
abbrev pub sizes_apart : Word → Move → List ℕ
sizes_apart front m = map length (segments_apart (outline_of front) m)

abbrev pub marks_apart : Word → Move → List Bool
marks_apart front m = shared (signs_apart (outline_of front) m) (marks_of_word (front ++ m ∷ []))

-- what a pass has counted in front of the segment at a place: it goes on to no more than what is asked for after the
-- move
pub record IsCountedTo (front : Word) (m : Move) (place : ℕ) (p : Passed) : Type 0 where
  pub most : (pass_along p (drop place (signs_apart (outline_of front) m)) (drop place (sizes_apart front m))
      (drop place (marks_apart front m))).most
      ≤ strong_bound_of (front ++ m ∷ [])
  pub more : (pass_along p (drop place (signs_apart (outline_of front) m)) (drop place (sizes_apart front m))
      (drop place (marks_apart front m))).more
      ≤ weight_of (front ++ m ∷ [])

-- the signs behind the leftmost valley, and how many squares the segments behind it have: at the right wall the last
-- new square stands for them
abbrev pub behind_signs : Outline → List Sign
behind_signs o = drop (valley_place o.signs + 1) o.signs

abbrev pub behind_sizes : Outline → List ℕ
behind_sizes o = cond (has_right_wall o) (1 ∷ []) (map length (drop (valley_place o.signs + 1) o.segments))

-- the marks of segments where a square more joins the first of them; then those of the segments behind the leftmost
-- valley, as they stand and where the last new square joins the first of them
abbrev pub wide_first : ℕ → List (List ℕ) → List Bool → List Bool
wide_first top [] marks = marks
wide_first top (segment ∷ segments) [] = []
wide_first top (segment ∷ segments) (mark ∷ marks) = (mark || nat_le top (length segment + 1)) ∷ marks

abbrev pub behind_marks : Word → List Bool
behind_marks w = cond (has_right_wall (outline_of w)) (false ∷ []) (touched_or_wide (first_count w) (edges_on_lines w)
    (drop (valley_place (outline_of w).signs + 1) (outline_of w).segments))

abbrev pub joined_marks : Word → List Bool
joined_marks w = cond (has_right_wall (outline_of w)) (false ∷ [])
    (wide_first (first_count w) (drop (valley_place (outline_of w).signs + 1)
    (outline_of w).segments)
    (touched_or_wide (first_count w) (edges_on_lines w)
    (drop (valley_place (outline_of w).signs + 1) (outline_of w).segments)))

-- numbers that some segments ask for, where the first of them is low at the left or not: how many moves those before
-- them are asked for besides, how many at most one of them is, and how many squares more
pub record AreAsks (low : Bool) (signs : List Sign) (sizes : List ℕ) (marks : List Bool) (asks : Asks) : Type 0 where
  pub add_is : asks.add ≡ count_by is_under signs + weight_from low signs sizes
  pub most_is : asks.most ≤ strong_from low signs sizes marks
  pub more_is : asks.more ≡ weight_from low signs sizes

-- the numbers that the segments behind the leftmost valley ask for, with these marks
abbrev pub AreAskedBehind : Bool → List Bool → Word → Asks → Type 0
AreAskedBehind low marks front asks = AreAsks low (behind_signs (outline_of front)) (behind_sizes (outline_of front))
    marks asks
