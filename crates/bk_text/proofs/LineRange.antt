-- What the grammar tells of the numbers of a line, and how a line that was read follows from what was gathered.
use Rattle.std.specs.List.{AllByRecursion}
use Rattle.std.specs.Prelude.{Bool, Err, IfErr, IfOk, List, Ok, OnErr, Result, [], false, length, true, ℕ, ◌<◌, ◌∷◌, ◌≡◌, ◌≤◌}
use Rattle.std.proofs.Common.{arith, subst, sym}
use Rattle.bk_grammar.specs.Grammar.{Number}
use Rattle.bk_tiling.specs.KeptTiling.{IsSide}
use Rattle.bk_text.specs.CodeLine.{Flat, IsLine, Item, Line, Skip, TableSides}
use Rattle.bk_text.specs.ReadLine.{IsHeaderNumber, IsInRange, IsTextFaultOf, sides_of_line}
use Rattle.bk_text.specs.GatheredSides.{Gathered, line_gathered}
use Rattle.bk_text.specs.declared.reader.Ending.{Ending}
use Rattle.bk_text.specs.declared.TextFault.{TextFault}
use Rattle.bk_text.specs.declared.TextFault.TheVariants.{Many}
use Rattle.bk_grammar.proofs.NumbersRead.{number_range}

side_range : (n : ℕ) (bs : List ℕ) → Number 15 n bs → IsSide n
side_range n bs h = let range = number_range 15 n bs h in (range.0, omega (arith, range.1))

header_range : (n : ℕ) (bs : List ℕ) → Number 18 n bs → IsHeaderNumber n
header_range n bs h = let range = number_range 18 n bs h in (range.0, omega (arith, range.1))

row_side_range : (ns bs : List ℕ) → TableSides ns bs → (0 < length ns) × AllByRecursion IsSide ns
row_side_range [] bs h = absurd h
row_side_range (n ∷ []) bs (a, x, e, gap, side) = (omega arith, (side_range n x side, tt))
row_side_range (n ∷ m ∷ ns) bs (a, x, e, gap, (f, y, e', side, rest)) = let others =
    row_side_range (m ∷ ns) y rest in (omega arith, (side_range n f side, others.1))

-- a line of at most 200 sides is one of which all can be kept
pub line_range : (l : Line) (bs : List ℕ) → IsLine l bs → length (sides_of_line l) ≤ 200 → IsInRange l
line_range Skip bs h few = tt
line_range (Item order size []) bs (a, x, e, blanks, (f, y, e', header, (k, z, e'', groups, end))) few = absurd groups
line_range (Item order size (g ∷ gs)) bs h few = omega arith
line_range (Flat n w h ns) bs
    (a, x, e, blanks, (f, x1, e1, num, (g, x2, e2, gap, (f', x3, e3, num', (g', x4, e4, gap', (f'', x5, e5, num'', (s, x6, e6, sides, end))))))) few =
    let row_side = row_side_range ns s sides in
    (header_range n f num, header_range w f' num', header_range h f'' num'', row_side.0, few, row_side.1)

-- from what was gathered to what is answered
pub read_is : (r : Result Ending TextFault) (ending : Ending) (g : Gathered) (bs : List ℕ) → IfOk r (λ e. (e ≡ ending) × (g.many ≡ false))
    → (g.many ≡ false → IsLine (line_gathered ending g) bs)
    → IfOk r (λ e. IsLine (line_gathered e g) bs)
read_is (Ok e) ending g bs is line = subst (λ (x : Ending). IsLine (line_gathered x g) bs) (sym is.0) (line is.1)
read_is (Err fault) ending g bs is line = tt

-- the numbers of a line that was read are in range
pub range_is : (r : Result Ending TextFault) (g : Gathered) (bs : List ℕ) → IfOk r (λ e. IsLine (line_gathered e g) bs)
    → IfOk r (λ e. length (sides_of_line (line_gathered e g)) ≤ 200)
    → IfOk r (λ e. IsInRange (line_gathered e g))
range_is (Ok e) g bs line few = line_range (line_gathered e g) bs line few
range_is (Err fault) g bs line few = tt

-- a line is refused for its many sides exactly where it has them
pub told_many_sides_are_the_fault : (r : Result Ending TextFault) (many : Bool) (bs : List ℕ) → IfErr r (λ fault. fault ≡ Many) → OnErr r (many ≡ true)
    → (many ≡ true → IsTextFaultOf Many bs) → IfErr r (λ fault. IsTextFaultOf fault bs)
told_many_sides_are_the_fault (Ok e) many bs is full line = tt
told_many_sides_are_the_fault (Err fault) many bs is full line = subst (λ (z : TextFault). IsTextFaultOf z bs) (sym is) (line full)
