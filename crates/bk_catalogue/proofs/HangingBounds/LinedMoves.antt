-- The lines of a word, as a move is played and taken back.
use Rattle.std.proofs.Common.{Bool, List, [], ap, arith, drop, length, nat_eq, refl, replicate, subst, sym, take, ℕ, ◌++◌}
use Rattle.std.proofs.Common.{◌-◌, ◌∙◌, ◌∷◌, ◌≡◌}
use Rattle.std.proofs.Math.Seq.{take-append_seam}
use Rattle.std.proofs.lemmas.List.{append-nil, append_assoc, take-append-drop}
use Rattle.bk_word_net.proofs.WordFlows.NoLoose.{closed_count}
use Rattle.bk_word_net.proofs.Outlines.Shape.{hung_many}
use Rattle.bk_word.proofs.PlayLaws.{legal-snoc, legal_front}
use Rattle.bk_word.specs.Outline.{IsLegalMove, Outline, start, valley_of}
use Rattle.bk_word.specs.Play.{IsLegal, after_move, outline_of}
use Rattle.bk_word.specs.Word.{Move, Word, order_of}
use Rattle.bk_catalogue.proofs.HangingBounds.LineMoves.{lines-append, lines_long}
use Rattle.bk_catalogue.specs.VerticalCut.{IsLinedWord, begins_on_line, lines_after, lines_along, edges_on_lines}

-- ---- moves

lines_counted : (w : Word) → IsLegal w → length (edges_on_lines w) ≡ order_of w
lines_counted w legal = omega (arith, lines_long start [] w legal refl, hung_many start w)

-- there is one line for each square that hangs
pub lined_count : (w : Word) (lines : List Bool) → IsLinedWord w lines → length lines ≡ order_of w
lined_count w lines lined = ap length lined.lines_are ∙ lines_counted w lined.legal

-- a move that is played has its lines behind the others
pub lined_more : (w more : Word) (lines lines_then : List Bool) (m : Move) (count : ℕ) (is_on is_first : Bool) → IsLinedWord w lines
    → IsLegalMove (outline_of w) m
    → is_on ≡ begins_on_line lines (valley_of (outline_of w)) → is_first ≡ nat_eq (length w) 0 → count ≡ m.count → more ≡ w ++ m ∷ []
    → lines_then ≡ lines ++ is_on ∷ replicate (count - 1) is_first
    → IsLinedWord more lines_then
lined_more w more lines lines_then m count is_on is_first lined legal on first same e f = record {
  legal = subst IsLegal (sym e) (legal-snoc start w m lined.legal legal);
  lines_are = f ∙ (λ i. lines ++ on i ∷ replicate (same i - 1) (first_node i)) ∙ ap (λ ls. lines_after (outline_of w) ls m) lined.lines_are
      ∙ sym (lines-append start [] w (m ∷ [])) ∙ ap edges_on_lines (sym e);
}
  where
    nodes : length w ≡ length (outline_of w).closed
    nodes = omega (arith, closed_count start w)

    first_node : is_first ≡ nat_eq (length (outline_of w).closed) 0
    first_node = first ∙ ap (λ k. nat_eq k 0) nodes

-- the lines of more moves are put behind
lines_go_on : (o : Outline) (lines : List Bool) (w : Word) → (more : List Bool) × (lines_along o lines w ≡ lines ++ more)
lines_go_on o lines [] = ([], sym (append-nil lines))
lines_go_on o lines (m ∷ w) = let on = begins_on_line lines (valley_of o) ∷ replicate (m.count - 1) (nat_eq (length o.closed) 0) in
    let behind = lines_go_on (after_move o m) (lines_after o lines m) w in (on ++ behind.0, behind.1 ∙ append_assoc lines on behind.0)

edges_of_front : (front rest : Word) → IsLegal front → take (order_of front) (edges_on_lines (front ++ rest)) ≡ edges_on_lines front
edges_of_front front rest legal = front_of (lines_go_on (outline_of front) (edges_on_lines front) rest)
  where
    front_of : ((more : List Bool) × (lines_along (outline_of front) (edges_on_lines front) rest ≡ edges_on_lines front ++ more))
        → take (order_of front) (edges_on_lines (front ++ rest)) ≡ edges_on_lines front
    front_of (more, e) = ap (take (order_of front)) (lines-append start [] front rest ∙ e)
        ∙ (λ i. take (sym (lines_counted front legal) i) (edges_on_lines front ++ more)) ∙ take-append_seam (edges_on_lines front) more

-- where the last move is taken back, the lines of the squares before it are left
pub lined_less : (w front : Word) (lines lines_then : List Bool) (order : ℕ) → IsLinedWord w lines → front ≡ take (length w - 1) w
    → order ≡ order_of front → lines_then ≡ take order lines
    → IsLinedWord front lines_then
lined_less w front lines lines_then order lined e o f = subst (λ v. IsLinedWord v lines_then) (sym e) (record {
  legal = lawful;
  lines_are = f ∙ (λ i. take (order_is i) (lines_are i)) ∙ edges_of_front (take (length w - 1) w) (drop (length w - 1) w) lawful;
})
  where
    whole : w ≡ take (length w - 1) w ++ drop (length w - 1) w
    whole = sym (take-append-drop (length w - 1) w)

    lawful : IsLegal (take (length w - 1) w)
    lawful = legal_front start (take (length w - 1) w) (drop (length w - 1) w) (subst IsLegal whole lined.legal)

    order_is : order ≡ order_of (take (length w - 1) w)
    order_is = o ∙ ap order_of e

    lines_are : lines ≡ edges_on_lines (take (length w - 1) w ++ drop (length w - 1) w)
    lines_are = lined.lines_are ∙ ap edges_on_lines whole
