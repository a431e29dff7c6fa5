-- The cut of a walk at one square under one: they would be equal.
use Rattle.std.proofs.Common.{List, [], ap, arith, inl, inr, length, refl, subst, sym}
use Rattle.std.proofs.Common.{true, ℕ, ◌++◌, ◌+◌, ◌<◌, ◌∙◌, ◌∷◌, ◌≡◌, ◌≤◌, ◌⊎◌}
use Rattle.std.proofs.lemmas.Bool.{cases_lt}
use Rattle.std.proofs.lemmas.List.{append_assoc}
use Rattle.bk_tiling.proofs.Cells.{counted_one, covers_from, in_all, over_from}
use Rattle.bk_tiling.proofs.Rows.{Chain}
use Rattle.bk_tiling.proofs.TilingLaws.{cell_once, side_of, within_of}
use Rattle.bk_tiling.specs.Tiling.{IsOneOf, IsTiling, IsWithin, Rectangle, Tiling, covers}
use Rattle.bk_tiling.specs.declared.Square.{Square}
use Rattle.bk_simple.specs.Simple.{IsCompound}
use Rattle.bk_word.specs.Outline.{valley_of}
use Rattle.bk_word.specs.Play.{outline_of}
use Rattle.bk_word.specs.Word.{Move, Word, order_of}
use Rattle.bk_word.specs.declared.Class.{Class}
use Rattle.bk_lay.proofs.Filling.{in_tiling, is_under}
use Rattle.bk_lay.proofs.ValleySquares.{under_chain}
use Rattle.bk_lay.proofs.LaidRuns.{one_of}
use Rattle.bk_lay.proofs.ValleySegment.{valley_segment}
use Rattle.bk_lay.specs.Depiction.{IsSegment}
use Rattle.bk_lay.specs.TilingWord.{IsWordOf, squares_under}
use Rattle.bk_catalogue.proofs.MoveCuts.Cutting.{pair_is_part, three_squares}
use Rattle.bk_catalogue.proofs.Members.Parts.{IsWithinWhole, Reached, reached}
use Rattle.bk_catalogue.specs.Catalogue.{Entry, IsEntry}
use Rattle.bk_catalogue.specs.Cuts.{OneUnderOneIsBarren}

one_below : (t : Tiling) (p q : Square) → IsTiling t → IsOneOf p t.squares → IsOneOf q t.squares → p.x ≡ q.x → p.y + p.s ≡ q.y → p.s ≡ q.s
    → (IsCompound t → ⊥) → t.height ≤ t.width → ⊥
one_below t p q tiling a b column below equal simple wide = cases (cases_lt p.s t.width)
  where
    r : Rectangle
    r = record { x = p.x; y = p.y; width = p.s; height = p.s + q.s }

    inside : IsWithinWhole t (record { x = p.x; y = p.y; width = p.s; height = p.s + q.s })
    inside = record { right = let w = (within_of t tiling p a).right in omega arith; bottom = let w = (within_of t tiling q b).bottom in omega arith }

    apart : p ≡ q → ⊥
    apart e = omega (arith, below, side_of t tiling p a, ap (λ (s : Square). s.y) e)

    fill : (i j : ℕ) → p.x ≤ i → i < p.x + p.s → p.y ≤ j → j < p.y + (p.s + q.s) → (covers i j p ≡ true) ⊎ (covers i j q ≡ true)
    fill i j c d e f = by (cases_lt j (p.y + p.s))
      where
        by : (j < p.y + p.s) ⊎ (p.y + p.s ≤ j) → (covers i j p ≡ true) ⊎ (covers i j q ≡ true)
        by (inl h) = inl (covers_from i j p c d e h)
        by (inr h) = inr (covers_from i j q (omega arith) (omega arith) (omega arith) (omega arith))

    p_within : IsWithin (record { x = p.x; y = p.y; width = p.s; height = p.s + q.s }) p
    p_within = record { left = omega arith; right = omega arith; top = omega arith; bottom = omega arith }

    q_within : IsWithin (record { x = p.x; y = p.y; width = p.s; height = p.s + q.s }) q
    q_within = record { left = omega arith; right = omega arith; top = omega arith; bottom = omega arith }

    part : 3 ≤ length t.squares → IsCompound t
    part many = pair_is_part t tiling (record { x = p.x; y = p.y; width = p.s; height = p.s + q.s }) inside p q a b apart p_within q_within fill many

    high : 0 < t.height
    high = let w = (within_of t tiling p a).bottom in omega (arith, side_of t tiling p a)

    -- a third square, over a column that the two leave free
    third : (c : ℕ) → c < t.width → (p.x ≤ c → p.x + p.s ≤ c) → IsCompound t
    third c h free = from (counted_one (covers c 0) t.squares (omega (arith, cell_once t tiling c 0 h high)))
      where
        from : (s : Square) × IsOneOf s t.squares × (covers c 0 s ≡ true) → IsCompound t
        from (s, k, f) = let o = over_from c 0 s f in
            part (three_squares t tiling (record { x = p.x; y = p.y; width = p.s; height = p.s + q.s }) inside p q a b apart p_within q_within fill s k
            (λ e. let x : s.x ≡ p.x = ap (λ (z : Square). z.x) e in let y : s.s ≡ p.s = ap (λ (z : Square). z.s) e in let l = o.left in
            let g = o.right in absurd (omega (arith, free (omega arith))))
            (λ e. let x : s.x ≡ q.x = ap (λ (z : Square). z.x) e in let y : s.s ≡ q.s = ap (λ (z : Square). z.s) e in let l = o.left in
            let g = o.right in absurd (omega (arith, free (omega arith)))))

    cases : (p.s < t.width) ⊎ (t.width ≤ p.s) → ⊥
    cases (inr h) = let w = (within_of t tiling q b).bottom in omega (arith, side_of t tiling q b)
    cases (inl h) = at (cases_lt 0 p.x)
      where
        at : (0 < p.x) ⊎ (p.x ≤ 0) → ⊥
        at (inl k) = simple (third 0 (omega arith) (λ l. absurd (omega arith)))
        at (inr k) = simple (third p.s h (λ l. omega arith))

one_cut : (n : ℕ) (class : Class) (front : Word) (m : Move) → m.count ≡ 1 → length (valley_of (outline_of front)) ≡ 1
    → (e : Entry) (rest : Word) → IsEntry n class e → e.word ≡ front ++ (m ∷ rest) → ⊥
one_cut n class front m count single e rest entry word =
    new (squares_under e.tiling (r.moves).0) refl (under_chain e.tiling r.laid (r.moves).0 tiling (r.along).fills (r.moves).1 (r.moves).2)
  where
    tiling : IsTiling e.tiling
    tiling = (entry.member).tiling

    r : Reached e.tiling (outline_of front) (m ∷ rest) (order_of front)
    r = reached e.tiling front (m ∷ rest) tiling (subst (IsWordOf e.tiling) word entry.word)

    one : length (squares_under e.tiling (r.moves).0) ≡ 1
    one = sym (ap (λ (k : Move). k.count) (r.moves).3) ∙ count

    old : (q : Square) → IsOneOf q (squares_under e.tiling (r.moves).0) → q.x ≡ ((r.moves).0).x → q.s ≡ ((r.moves).0).width
        → (numbers : List ℕ) → length numbers ≡ 1 → IsSegment r.laid (r.moves).0 numbers → ⊥
    old q h x s [] l seg = omega arith
    old q h x s (k ∷ j ∷ numbers) l seg = omega arith
    old q h x s (k ∷ []) l (inr top) = not_nil top.1
      where
        not_nil : k ∷ [] ≡ [] → ⊥
        not_nil f = cc
    old q h x s (k ∷ []) l (inl (p, at, px, pb, end)) = one_below e.tiling p q tiling
        (in_all (λ z. IsOneOf z (e.tiling).squares) r.laid ((r.along).fills).squares p (one_of r.laid at.0 p at.2))
        (in_tiling e.tiling r.laid (r.moves).0 tiling (r.along).fills (r.moves).1 (r.moves).2 q h)
        (px ∙ sym x) (pb ∙ sym (is_under e.tiling r.laid (r.moves).0 tiling (r.along).fills (r.moves).1 (r.moves).2 q h).level)
        (omega (arith, end, s)) (entry.member).simple ((entry.member).canonical).lying

    new : (squares : List Square) → squares_under e.tiling (r.moves).0 ≡ squares
        → Chain ((r.moves).0).x (squares_under e.tiling (r.moves).0) (((r.moves).0).x + ((r.moves).0).width) → ⊥
    new [] f c = omega (arith, one, ap length f)
    new (q ∷ s ∷ squares) f c = omega (arith, one, ap length f)
    new (q ∷ []) f c = under (subst (λ (l : List Square). Chain ((r.moves).0).x l (((r.moves).0).x + ((r.moves).0).width)) f c)
      where
        under : Chain ((r.moves).0).x (q ∷ []) (((r.moves).0).x + ((r.moves).0).width) → ⊥
        under d = old q (subst (IsOneOf q) (sym f) (inl refl)) d.0 (omega (arith, d.1)) (valley_of (outline_of front)) single
            (valley_segment e.tiling r.laid r.nodes (outline_of front) (r.moves).0 tiling (r.along).depicts (r.moves).1)

-- the law: so would be one under the other
pub one_under_one_is_barren : OneUnderOneIsBarren
one_under_one_is_barren n class front m count single e rest entry word =
    one_cut n class front m count single e rest entry (word ∙ append_assoc front (m ∷ []) rest)
