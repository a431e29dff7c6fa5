-- Worked examples of lines and their replies.
use Rattle.std.proofs.Common.{◌≡◌, true, false, [], ◌∷◌, refl}
use Rattle.std.specs.Prelude.{codes}
use Rattle.bk_ports.specs.Lines.{closed_lines, open_line, lines_of, kept_front}
use Rattle.bk_ports.specs.Reply.{Reply, text_of, some_refused}

-- an empty line stands between two others, of which the last has no line feed
lines_of-three : lines_of (codes "ab\n\ncde") ≡ codes "ab" ∷ [] ∷ codes "cde" ∷ []
lines_of-three = refl

closed_lines-three : closed_lines [] (codes "ab\n\ncde") ≡ codes "ab" ∷ [] ∷ []
closed_lines-three = refl

open_line-three : open_line [] (codes "ab\n\ncde") ≡ codes "cde"
open_line-three = refl

-- nothing comes after a last line feed
lines_of-fed : lines_of (codes "ab\n") ≡ codes "ab" ∷ []
lines_of-fed = refl

lines_of-none : lines_of [] ≡ []
lines_of-none = refl

-- a line that had begun goes on
closed_lines-begun : closed_lines (codes "ab") (codes "c\nd") ≡ codes "abc" ∷ []
closed_lines-begun = refl

kept_front-short : kept_front (codes "abc") ≡ codes "abc"
kept_front-short = refl

abbrev row : Reply
row = record { pieces = codes "..|\n" ∷ codes "__|\n" ∷ []; refused = false }

abbrev refusal : Reply
refusal = record { pieces = codes "no text 1\n" ∷ []; refused = true }

text_of-two : text_of (row ∷ refusal ∷ []) ≡ codes "..|\n__|\nno text 1\n"
text_of-two = refl

some_refused-two : some_refused (row ∷ refusal ∷ []) ≡ true
some_refused-two = refl

some_refused-one : some_refused (row ∷ []) ≡ false
some_refused-one = refl
