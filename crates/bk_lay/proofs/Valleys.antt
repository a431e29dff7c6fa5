-- Leftmost valleys: there is at most one, and a test finds it. So a tiling has at most one word.
use Rattle.std.proofs.Common.{List, [], ap, arith, inl, inr, refl, subst, suc, sym, ℕ, ◌++◌, ◌+◌, ◌-◌, ◌<◌, ◌∙◌, ◌∷◌, ◌≡◌, ◌≤◌, ◌⊎◌}
use Rattle.std.proofs.lemmas.Bool.{cases_order}
use Rattle.bk_laws.proofs.NumberOrder.{le_or_gt}
use Rattle.bk_tiling.specs.Column.{IsLevel, depth}
use Rattle.bk_tiling.specs.declared.Segment.{Segment}
use Rattle.bk_tiling.specs.Tiling.{Tiling}
use Rattle.bk_tiling.specs.declared.Square.{Square}
use Rattle.bk_word.specs.Word.{Word}
use Rattle.bk_lay.specs.TilingWord.{IsLeftmostValley, IsValley, MovesFollow, move_under, squares_under}
use Rattle.bk_lay.specs.WordLaws.{ATilingHasOneWord, NeverDeeperBefore}

level_of : (width : ℕ) (laid : List Square) (v : Segment) → IsLevel width laid v → depth laid v.x ≡ v.level
level_of width laid v flat = let some = flat.some in flat.level v.x (omega arith) (omega arith)

-- a second valley further left cannot be, where the columns never get deeper before the first
no_valley_before : (width : ℕ) (laid : List Square) (v : Segment) → IsValley width laid v → NeverDeeperBefore laid v → (u : Segment)
    → IsValley width laid u → (k : ℕ) → u.x + u.width ≡ suc k → u.x < v.x → ⊥
no_valley_before width laid v valley falls u other k last before = either (le_or_gt (suc k) v.x)
  where
    vf : IsLevel width laid v
    vf = valley.flat

    uf : IsLevel width laid u
    uf = other.flat

    ends : suc k ≤ v.x → ⊥
    ends h = let some = vf.some in let within = vf.within in let size = uf.some in
        let here : depth laid k ≡ u.level = uf.level k (omega arith) (omega arith) in
        let rises : u.level < depth laid (u.x + u.width) = other.right (omega arith) in
        let at : depth laid (u.x + u.width) ≡ depth laid (suc k) = ap (depth laid) last in
        let fall : depth laid (suc k) ≤ depth laid k = falls k h in
        omega arith

    reaches : v.x < suc k → ⊥
    reaches h = inside (v.x - 1) (omega arith)
      where
        inside : (p : ℕ) → suc p ≡ v.x → ⊥
        inside p e = let some = uf.some in
            let one : depth laid v.x ≡ u.level = uf.level v.x (omega arith) (omega arith) in
            let two : depth laid p ≡ u.level = uf.level p (omega arith) (omega arith) in
            let own : depth laid v.x ≡ v.level = level_of width laid v vf in
            let wall : v.level < depth laid p = valley.left p e in
            omega arith

    either : (suc k ≤ v.x) ⊎ (v.x < suc k) → ⊥
    either (inl h) = ends h
    either (inr h) = reaches h

-- a valley before which the columns never get deeper is the leftmost
pub leftmost_by_falling : (width : ℕ) (laid : List Square) (v : Segment) → IsValley width laid v → NeverDeeperBefore laid v → IsLeftmostValley width laid v
leftmost_by_falling width laid v valley falls = record { valley = valley; leftmost = λ u other. at u other (le_or_gt v.x u.x) }
  where
    at : (u : Segment) → IsValley width laid u → (v.x ≤ u.x) ⊎ (u.x < v.x) → v.x ≤ u.x
    at u other (inl h) = h
    at u other (inr h) = let some = (other.flat).some in absurd (no_valley_before width laid v valley falls u other (u.x + u.width - 1) (omega arith) h)

-- two runs of columns with the same first column, width and level are one
pub segment_path : (v u : Segment) → v.x ≡ u.x → v.width ≡ u.width → v.level ≡ u.level → v ≡ u
segment_path v u a b c = λ i. record { x = a i; width = b i; level = c i }

not_wider : (width : ℕ) (laid : List Square) (v u : Segment) → IsValley width laid v → IsValley width laid u → v.x ≡ u.x → v.level ≡ u.level
    → v.width < u.width → ⊥
not_wider width laid v u one two x level h = let within = (two.flat).within in let some = (one.flat).some in
    let rises : v.level < depth laid (v.x + v.width) = one.right (omega arith) in
    let flat : depth laid (v.x + v.width) ≡ u.level = (two.flat).level (v.x + v.width) (omega arith) (omega arith) in
    omega arith

-- there is one leftmost valley at most
pub one_leftmost_valley : (width : ℕ) (laid : List Square) (v u : Segment) → IsLeftmostValley width laid v → IsLeftmostValley width laid u → v ≡ u
one_leftmost_valley width laid v u one two = segment_path v u x widths levels
  where
    x : v.x ≡ u.x
    x = let a = one.leftmost u two.valley in let b = two.leftmost v one.valley in omega arith

    levels : v.level ≡ u.level
    levels = sym (level_of width laid v (one.valley).flat) ∙ ap (depth laid) x ∙ level_of width laid u (two.valley).flat

    cases : (v.width ≡ u.width) ⊎ (v.width < u.width) ⊎ (u.width < v.width) → v.width ≡ u.width
    cases (inl e) = e
    cases (inr (inl h)) = absurd (not_wider width laid v u one.valley two.valley x levels h)
    cases (inr (inr h)) = absurd (not_wider width laid u v two.valley one.valley (sym x) (sym levels) h)

    widths : v.width ≡ u.width
    widths = cases (cases_order v.width u.width)

not_done : (t : Tiling) (laid : List Square) → MovesFollow t laid [] → (v : Segment) → IsLeftmostValley t.width laid v → v.level < t.height → ⊥
not_done t laid done v found h = let flat = (found.valley).flat in let within = flat.within in let some = flat.some in
    let full : depth laid v.x ≡ t.height = done v.x (omega arith) in
    let own : depth laid v.x ≡ v.level = level_of t.width laid v flat in
    omega arith

one_word : (t : Tiling) (laid : List Square) (v w : Word) → MovesFollow t laid v → MovesFollow t laid w → v ≡ w
one_word t laid [] [] p q = refl
one_word t laid [] (m ∷ w) p q = absurd (not_done t laid p q.0 q.1 q.2)
one_word t laid (m ∷ v) [] p q = absurd (not_done t laid q p.0 p.1 p.2)
one_word t laid (m ∷ v) (n ∷ w) p q = λ i. heads i ∷ one_word t (laid ++ squares_under t q.0) v w rest q.4 i
  where
    same : p.0 ≡ q.0
    same = one_leftmost_valley t.width laid p.0 q.0 p.1 q.1

    heads : m ≡ n
    heads = p.3 ∙ ap (move_under t laid) same ∙ sym q.3

    rest : MovesFollow t (laid ++ squares_under t q.0) v
    rest = subst (λ (u : Segment). MovesFollow t (laid ++ squares_under t u) v) same p.4

-- a tiling has one word at most
pub a_tiling_has_one_word : ATilingHasOneWord
a_tiling_has_one_word t v w p q = one_word t [] v w p q
