-- The word and the sides in the order of laying fix the tiling.
use Rattle.std.proofs.Common.{List, [], arith, map, refl, sym, ℕ, ◌*◌, ◌∙◌, ◌∷◌, ◌≡◌}
use Rattle.std.proofs.Math.Nat.{one-mul}
use Rattle.bk_tiling.proofs.EnlargedTilings.{enlarged-once}
use Rattle.bk_tiling.specs.Tiling.{Tiling}
use Rattle.bk_tiling.specs.declared.Square.{Square}
use Rattle.bk_word.specs.Word.{Word}
use Rattle.bk_word_net.proofs.PlacedSquares.OneTiling.{laid_sides_fix_a_tiling}
use Rattle.bk_word_net.specs.LaidTiling.{IsLaidWith}

sides_once : (squares : List Square) → map (λ q. 1 * q.s) squares ≡ map (λ q. q.s) squares
sides_once [] = refl
sides_once (q ∷ squares) = λ i. one-mul q.s i ∷ sides_once squares i

-- a word and its sides have one tiling
pub laid_once : (w : Word) (given : List ℕ) (t u : Tiling) → IsLaidWith w given t → IsLaidWith w given u → t ≡ u
laid_once w given t u a b = sym (enlarged-once t)
    ∙ laid_sides_fix_a_tiling t u w a.laid b.laid a.levels b.levels 1 1 a.tiling b.tiling (omega arith) (omega arith) a.word b.word a.along
    b.along (sides_once a.laid ∙ a.sides ∙ sym b.sides ∙ sym (sides_once b.laid))
    ∙ enlarged-once u
