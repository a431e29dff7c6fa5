-- The verdicts on a tiling are determined by it.
use Rattle.std.proofs.Common.{List, None, Option, Some, ap, arith, get_or, inl, inr, refl, subst, sym, ℕ, ◌<◌, ◌∙◌, ◌≡◌, ◌≤◌, ◌⊎◌}
use Rattle.std.specs.Prelude.{MatchOption}
use Rattle.bk_tiling.specs.Tiling.{IsTiling, Rectangle, Tiling}
use Rattle.bk_tiling.specs.declared.Square.{Square}
use Rattle.bk_simple.proofs.PartCorners.{between-one}
use Rattle.bk_simple.proofs.Parts.{between_corners}
use Rattle.bk_simple.proofs.Repeats.{imperfect}
use Rattle.bk_simple.specs.CornerSquares.{IsBetween}
use Rattle.bk_simple.specs.Simple.{IsFirstPart, IsLeastRepeated, IsPerfect, IsSimple, bottom_right, top_left}
use Rattle.bk_report.specs.Answers.{IsCheckLine, verdict_line}

one_side : (t : Tiling) (a b : Option ℕ) → MatchOption a (IsPerfect t) (IsLeastRepeated t) → MatchOption b (IsPerfect t) (IsLeastRepeated t) → a ≡ b
one_side t None None p q = refl
one_side t None (Some b) p q = absurd (imperfect t b q.0 p)
one_side t (Some a) None p q = absurd (imperfect t a p.0 q)
one_side t (Some a) (Some b) p q = let same : a ≡ b = omega (arith, p.1 b q.0, q.1 a p.0) in ap Some same

-- the corners of two first parts are those of the same squares
same_corners : (t : Tiling) (r s : Rectangle) → IsFirstPart t r → IsFirstPart t s → (top_left t r ≡ top_left t s) × (bottom_right t r ≡ bottom_right t s)
same_corners t r s p q = cases (p.first s q.part) (q.first r p.part)
  where
    cases : (top_left t r < top_left t s) ⊎ ((top_left t r ≡ top_left t s) × (bottom_right t r ≤ bottom_right t s))
        → (top_left t s < top_left t r) ⊎ ((top_left t s ≡ top_left t r) × (bottom_right t s ≤ bottom_right t r))
        → (top_left t r ≡ top_left t s) × (bottom_right t r ≡ bottom_right t s)
    cases (inl a) (inl b) = absurd (omega arith)
    cases (inl a) (inr b) = absurd (omega (arith, b.0))
    cases (inr a) (inl b) = absurd (omega (arith, a.0))
    cases (inr a) (inr b) = (a.0, omega (arith, a.1, b.1))

-- a tiling has at most one first part
pub one_first_part : (t : Tiling) (r s : Rectangle) → IsTiling t → IsFirstPart t r → IsFirstPart t s → r ≡ s
one_first_part t r s tiling p q =
    let none : Square = record { x = 0; y = 0; s = 0 } in
    let same : (top_left t r ≡ top_left t s) × (bottom_right t r ≡ bottom_right t s) = same_corners t r s p q in
    let first : IsBetween (get_or t.squares (top_left t r) none) (get_or t.squares (bottom_right t r) none) r = between_corners t r tiling p.part none in
    let second : IsBetween (get_or t.squares (top_left t s) none) (get_or t.squares (bottom_right t s) none) s = between_corners t s tiling q.part none in
    let moved : IsBetween (get_or t.squares (top_left t r) none) (get_or t.squares (bottom_right t s) none) s =
    subst (λ (n : ℕ). IsBetween (get_or t.squares n none) (get_or t.squares (bottom_right t s) none) s) (sym same.0) second in
    between-one (get_or t.squares (top_left t r) none) (get_or t.squares (bottom_right t r) none) r s first
    (subst (λ (n : ℕ). IsBetween (get_or t.squares (top_left t r) none) (get_or t.squares n none) s) (sym same.1) moved)

one_part : (t : Tiling) (a b : Option Rectangle) → IsTiling t → MatchOption a (IsSimple t) (IsFirstPart t) → MatchOption b (IsSimple t) (IsFirstPart t) → a ≡ b
one_part t None None tiling p q = refl
one_part t None (Some s) tiling p q = absurd (p (s, q.part))
one_part t (Some r) None tiling p q = absurd (q (r, p.part))
one_part t (Some r) (Some s) tiling p q = ap Some (one_first_part t r s tiling p q)

-- a tiling has at most one check line
pub one_check_line : (t : Tiling) (line other : List ℕ) → IsTiling t → IsCheckLine t line → IsCheckLine t other → line ≡ other
one_check_line t line other tiling p q =
    p.text
    ∙ ap (λ (o : Option ℕ). verdict_line t o p.part) (one_side t p.repeated q.repeated p.perfect q.perfect)
    ∙ ap (λ (o : Option Rectangle). verdict_line t q.repeated o) (one_part t p.part q.part tiling p.simple q.simple)
    ∙ sym q.text
