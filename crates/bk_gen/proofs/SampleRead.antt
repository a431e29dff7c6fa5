-- A trial code that is written stands for itself.
use Rattle.std.specs.Prelude.{None}
use Rattle.std.proofs.Common.{List, [], ap, arith, inl, length, refl, subst, ℕ, ◌≡◌}
use Rattle.std.proofs.lemmas.List.{append-nil}
use Rattle.bk_tiling.specs.KeptTiling.{IsKept}
use Rattle.bk_tiling.specs.Tiling.{Tiling}
use Rattle.bk_code.proofs.CodeOfTiling.{code_kept, code_some}
use Rattle.bk_code.specs.Code.{code_of}
use Rattle.bk_text.specs.CodeLine.{IsLine, Item, Line}
use Rattle.bk_text.specs.CodeText.{code_text}
use Rattle.bk_text.specs.ReadLine.{IsTextFaultOf, sides_of_line}
use Rattle.bk_text.specs.declared.TextFault.{TextFault}
use Rattle.bk_text.specs.declared.TextFault.TheVariants.{Many, Text}
use Rattle.bk_text.proofs.LinesRead.{line_stands_for_one_thing}
use Rattle.bk_text.proofs.WrittenLines.{written_code}

-- the text of a tiling's code is a line that stands for the code
pub written_is_line : (t : Tiling) → IsKept t → IsLine (Item None None (code_of t)) (code_text (code_of t))
written_is_line t kept = subst (IsLine (Item None None (code_of t))) (append-nil (code_text (code_of t)))
    (written_code (code_of t) [] (code_kept t kept) (code_some t kept.tiling) ([], [], refl, tt, inl refl))

no_fault : (t : Tiling) → IsKept t → (fault : TextFault) → IsTextFaultOf fault (code_text (code_of t)) → ⊥
no_fault t kept (Text at) (outside, longest) = outside (Item None None (code_of t), written_is_line t kept)
no_fault t kept Many (line, is, many) =
    let same : line ≡ Item None None (code_of t) = line_stands_for_one_thing (code_text (code_of t)) line (Item None None (code_of t)) is
    (written_is_line t kept) in
    omega (arith, ap (λ (l : Line). length (sides_of_line l)) same, (code_kept t kept).few)

-- what a line stands for that is read of the text
pub reads_code : (t : Tiling) → IsKept t → (line : Line) (bytes : List ℕ) → bytes ≡ code_text (code_of t) → IsLine line bytes
    → line ≡ Item None None (code_of t)
reads_code t kept line bytes same is =
    line_stands_for_one_thing (code_text (code_of t)) line (Item None None (code_of t)) (subst (IsLine line) same is) (written_is_line t kept)

-- the written code of a tiling that is kept has no fault
pub no_fault_of : (t : Tiling) → IsKept t → (fault : TextFault) (bytes : List ℕ) → bytes ≡ code_text (code_of t) → IsTextFaultOf fault bytes → ⊥
no_fault_of t kept fault bytes same is = no_fault t kept fault (subst (IsTextFaultOf fault) same is)
