-- The texts of answers to accepted items. Each is a line, and ends with a line feed.
-- Example (AnswerExamples): `ok 9 33x32 perfect simple`.
use Rattle.std.specs.Fmt.{signed_decimal}
use Rattle.std.specs.List.{join_with_byte}
use Rattle.std.specs.Prelude.{List, MatchOption, None, Option, Some, [], codes, decimal, map, ℕ, ◌++◌, ◌∷◌, ◌≡◌}
use Rattle.bk_tiling.specs.Tiling.{Rectangle, Tiling, order}
use Rattle.bk_code.specs.Code.{code_of}
use Rattle.bk_text.specs.CodeText.{code_text, size_text}
use Rattle.bk_sym.specs.Image.{image}
use Rattle.bk_sym.specs.declared.Turn.TheVariants.{Swap}
use Rattle.bk_dual.specs.Dual.{crossings, dual_diagram, dual_order}
use Rattle.bk_net.specs.Diagram.{smith_diagram}
use Rattle.bk_net.specs.Net.{Net}
use Rattle.bk_flow.specs.FlowNumbers.{FlowNumbers}
use Rattle.bk_report.specs.AnswerWords.{imperfect_word, ok_word, perfect_word, semicolon, simple_word}
use Rattle.bk_simple.specs.Simple.{IsFirstPart, IsLeastRepeated, IsPerfect, IsSimple}

-- the pieces, with one blank between each two
abbrev pub spaced : List (List ℕ) → List ℕ
spaced pieces = join_with_byte 32 pieces

-- the pieces as a line
abbrev pub line : List (List ℕ) → List ℕ
line pieces = spaced pieces ++ 10 ∷ []

-- perfect, or imperfect and the least side that occurs twice
abbrev pub perfect_text : Option ℕ → List ℕ
perfect_text None = perfect_word
perfect_text (Some side) = spaced (imperfect_word ∷ decimal side ∷ [])

-- simple, or compound and a rectangle that some of the squares form
abbrev pub simple_text : Option Rectangle → List ℕ
simple_text None = simple_word
simple_text (Some r) =
    spaced (codes "compound" ∷ (decimal r.x ++ codes "," ++ decimal r.y) ∷ size_text r.width r.height ∷ [])

-- the order, the size and the two verdicts on a tiling as a line: a side that occurs twice, if there is one; and a
-- rectangle that some of its squares form, if there is one
abbrev pub verdict_line : Tiling → Option ℕ → Option Rectangle → List ℕ
verdict_line t repeated part = line (ok_word ∷ decimal (order t) ∷ size_text t.width t.height
    ∷ perfect_text repeated ∷ simple_text part ∷ [])

-- check: the bytes are the line of the verdicts on a tiling. The side is the least one that occurs twice, and none
-- where the tiling is perfect; the rectangle is the first one that some of its squares form, and none where it is
-- simple
pub record IsCheckLine (t : Tiling) (bytes : List ℕ) : Type 0 where
  pub repeated : Option ℕ
  pub part : Option Rectangle
  pub perfect : MatchOption repeated (IsPerfect t) (IsLeastRepeated t)
  pub simple : MatchOption part (IsSimple t) (IsFirstPart t)
  pub text : bytes ≡ verdict_line t repeated part

-- canon, each line of images, and solve
abbrev pub tiling_line : Tiling → List ℕ
tiling_line t = line (size_text t.width t.height ∷ code_text (code_of t) ∷ [])

-- a wire: its two nodes with a dash between
abbrev pub wire_text : ℕ × ℕ → List ℕ
wire_text w = decimal w.0 ++ codes "-" ++ decimal w.1

-- the number of nodes and the wires of a net
abbrev pub net_words : Net → List (List ℕ)
net_words net = decimal net.nodes ∷ map wire_text net.wires

-- the width and the sides of a tiling: the total and the currents of the one flow of its Smith diagram
abbrev pub side_words : Tiling → List (List ℕ)
side_words t = decimal t.width ∷ map (λ q. decimal q.s) t.squares

-- net: the Smith diagram, and then the width and the sides
abbrev pub net_line : Tiling → List ℕ
net_line t = line (net_words (smith_diagram t) ++ semicolon ∷ side_words t)

-- dual: the dual diagram with the height and the sides in its order, then the number of the square of each wire, and
-- then how many crossings there are
abbrev pub dual_line : Tiling → List ℕ
dual_line t = line (net_words (dual_diagram t) ++ (semicolon ∷ side_words (image Swap t) ++ (semicolon
    ∷ map decimal (dual_order t) ++ (semicolon ∷ decimal (crossings t) ∷ []))))

-- flow: the total and the currents
abbrev pub flow_line : FlowNumbers → List ℕ
flow_line f = line (signed_decimal f.total ∷ map signed_decimal f.currents)
