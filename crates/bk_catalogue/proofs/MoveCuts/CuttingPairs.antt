-- The cut of a walk at two equal squares side by side under one segment.
use Rattle.std.specs.List.{AllByRecursion}
use Rattle.std.specs.Prelude.{AllPairs, ◌≢◌}
use Rattle.std.proofs.Common.{Bool, Contains, List, [], ap, arith, drop, false, inl, inr, length, map, nat_eq, refl, slice_index_or, subst, suc, sym}
use Rattle.std.proofs.Common.{take, true, zero, ℕ, ◌++◌, ◌+◌, ◌-◌, ◌<◌, ◌∙◌, ◌∷◌, ◌≡◌, ◌≤◌, ◌⊎◌}
use Rattle.std.proofs.lemmas.Bool.Decides.{nat_tests}
use Rattle.std.proofs.lemmas.List.Elements.{recursion_from_All}
use Rattle.std.proofs.lemmas.Bool.{cases_lt, eq-eqb}
use Rattle.std.proofs.lemmas.List.{append_assoc, length-append, length-map}
use Rattle.bk_tiling.proofs.Cells.{covers_from}
use Rattle.bk_tiling.proofs.Rows.{Chain}
use Rattle.bk_tiling.proofs.TilingLaws.{side_of, wide_enough, within_of}
use Rattle.bk_tiling.specs.declared.Segment.{Segment}
use Rattle.bk_tiling.specs.Tiling.{IsOneOf, IsTiling, Tiling, covers}
use Rattle.bk_tiling.specs.declared.Square.{Square}
use Rattle.bk_simple.specs.Simple.{IsCompound}
use Rattle.bk_word.specs.Outline.{Outline, has_left_wall, open_side, valley_place}
use Rattle.bk_word.specs.Play.{outline_of, parts}
use Rattle.bk_word.specs.Word.{Move, Word, order_of}
use Rattle.bk_word.specs.declared.Class.{Class}
use Rattle.bk_word.specs.declared.Class.TheVariants.{Perfect}
use Rattle.bk_word.specs.declared.Sign.{Sign}
use Rattle.bk_word.specs.declared.Sign.TheVariants.{Even}
use Rattle.bk_lay.proofs.Filling.{in_tiling, is_under, valley_is_filled}
use Rattle.bk_lay.proofs.Joining.{compared_by_sign}
use Rattle.bk_lay.proofs.ValleySquares.{under_chain}
use Rattle.bk_lay.proofs.Places.{HasLast, Placed, placed}
use Rattle.bk_lay.proofs.Valleys.{one_leftmost_valley}
use Rattle.bk_lay.specs.Depiction.{Depicts}
use Rattle.bk_lay.specs.TilingWord.{IsLeftmostValley, IsWordOf, depth_before, depth_from, move_under, sign_between, signs_between, squares_under}
use Rattle.bk_catalogue.proofs.MoveCuts.Cutting.{pair_is_part}
use Rattle.bk_catalogue.proofs.Members.Parts.{Reached, reached}
use Rattle.bk_catalogue.specs.Catalogue.{Entry, IsEntry, IsOfClass}
use Rattle.bk_catalogue.specs.Cuts.{EvenSquaresAreBarren}
use Rattle.bk_word.specs.OwnSigns.{own_signs}

-- the signs between the bottoms of the new squares, cut out of the move's signs
take_signs : (bs ds : List ℕ) → take (length bs - 1) (signs_between (bs ++ ds)) ≡ signs_between bs
take_signs [] ds = λ i. take (same i) (signs_between ds)
  where
    same : 0 - 1 ≡ 0
    same = omega arith
take_signs (b ∷ []) ds = refl
take_signs (b ∷ c ∷ bs) ds = (λ i. take (same i) (sign_between b c ∷ signs_between ((c ∷ bs) ++ ds)))
    ∙ ap (λ (ss : List Sign). sign_between b c ∷ ss) (take_signs (c ∷ bs) ds)
  where
    same : suc (suc (length bs)) - 1 ≡ suc (length (c ∷ bs) - 1)
    same = omega arith

-- the own signs of a tiling's move compare its squares' bottoms
pub own_signs_are : (t : Tiling) (laid : List Square) (nodes : List Segment) (o : Outline) (v : Segment) → IsTiling t
    → Depicts t laid nodes o → IsLeftmostValley t.width laid v → 0 < length (squares_under t v)
    → own_signs o (move_under t laid v) ≡ signs_between (map (λ q. q.y + q.s) (squares_under t v))
own_signs_are t laid nodes o v tiling d found some = cases (subst (λ (w : Segment). ((p.before ≡ []) × (w.x ≡ 0)) ⊎ HasLast laid w.x p.before) same p.left)
  where
    p : Placed t.width laid 0 d.runs
    p = placed t.width laid d.runs (wide_enough t tiling) d.cut
        (subst (λ (signs : List Sign). AllByRecursion (λ sign. parts sign ≡ true) signs) d.signs d.parted)

    same : p.valley ≡ v
    same = one_leftmost_valley t.width laid p.valley v p.leftmost found

    number : valley_place o.signs ≡ length p.before
    number = ap valley_place d.signs ∙ p.number

    bs : List ℕ
    bs = map (λ q. q.y + q.s) (squares_under t v)

    later : (a : ℕ) → 0 < a → nat_eq a 0 ≡ false
    later a e = grind (arith, nat_tests)

    counts : length (squares_under t v) - 1 ≡ length (map (λ q. q.y + q.s) (squares_under t v)) - 1
    counts = ap (λ (k : ℕ). k - 1) (sym (length-map (squares_under t v) (λ q. q.y + q.s)))

    by : (b : Bool) (db : List ℕ) → has_left_wall o ≡ b → depth_before laid v.x ≡ db
        → own_signs o (move_under t laid v) ≡ take (length (map (λ q. q.y + q.s) (squares_under t v)) - 1)
        (drop (open_side b) (signs_between (db ++ map (λ q. q.y + q.s) (squares_under t v) ++ depth_from t.width laid (v.x + v.width))))
    by b db e f = λ i. take (counts i) (drop (open_side (e i))
        (signs_between (f i ++ map (λ q. q.y + q.s) (squares_under t v) ++ depth_from t.width laid (v.x + v.width))))

    first : (l : ℕ) (bs ds : List ℕ) → 0 < length bs → drop 1 (signs_between ((l ∷ bs) ++ ds)) ≡ signs_between (bs ++ ds)
    first l [] ds h = absurd (omega arith)
    first l (b ∷ bs) ds h = refl

    cases : ((p.before ≡ []) × (v.x ≡ 0)) ⊎ HasLast laid v.x p.before
        → own_signs o (move_under t laid v) ≡ signs_between (map (λ q. q.y + q.s) (squares_under t v))
    cases (inl (none, at)) = by true [] (eq-eqb (valley_place o.signs) 0 (number ∙ ap length none)) (ap (depth_before laid) at)
        ∙ take_signs (map (λ q. q.y + q.s) (squares_under t v)) (depth_from t.width laid (v.x + v.width))
    cases (inr h) = by false ((h.last).level ∷ [])
        (later (valley_place o.signs) (omega (arith, number, ap length h.is, length-append h.front (h.last ∷ [])))) h.level
        ∙ ap (take (length (map (λ q. q.y + q.s) (squares_under t v)) - 1))
        (first (h.last).level (map (λ q. q.y + q.s) (squares_under t v)) (depth_from t.width laid (v.x + v.width))
        (omega (arith, some, length-map (squares_under t v) (λ q. q.y + q.s))))
        ∙ take_signs (map (λ q. q.y + q.s) (squares_under t v)) (depth_from t.width laid (v.x + v.width))

-- two neighbours of one bottom
pub record Neighbours (squares : List Square) : Type 0 where
  pub left : Square
  pub right : Square
  pub left_in : IsOneOf left squares
  pub right_in : IsOneOf right squares
  pub beside : left.x + left.s ≡ right.x
  pub even : left.y + left.s ≡ right.y + right.s

find_even : (squares : List Square) (x end : ℕ) → Chain x squares end → (k : ℕ) → k < length (signs_between (map (λ q. q.y + q.s) squares))
    → slice_index_or (signs_between (map (λ q. q.y + q.s) squares)) k Even ≡ Even → Neighbours squares
find_even [] x end c k h e = absurd (omega arith)
find_even (q ∷ []) x end c k h e = absurd (omega arith)
find_even (q ∷ r ∷ squares) x end c zero h e =
    record {
      left = q;
      right = r;
      left_in = inl refl;
      right_in = inr (inl refl);
      beside = omega (arith, c.0, (c.1).0);
      even =
          compared_by_sign (q.y + q.s) (r.y + r.s) Even e;
    }
find_even (q ∷ r ∷ squares) x end c (suc k) h e = onto (find_even (r ∷ squares) (x + q.s) end c.1 k (omega arith) e)
  where
    onto : Neighbours (r ∷ squares) → Neighbours (q ∷ r ∷ squares)
    onto n = record { left = n.left; right = n.right; left_in = inr n.left_in; right_in = inr n.right_in; beside = n.beside; even = n.even }

-- no number stands twice
abbrev AreDistinct : List ℕ → Type 0
AreDistinct [] = Unit {0}
AreDistinct (n ∷ numbers) = AllByRecursion (λ m. m ≢ n) numbers × AreDistinct numbers

distinct_sides : (squares : List Square) → AllPairs (λ p q. p.s ≢ q.s) squares → AreDistinct (map (λ q. q.s) squares)
distinct_sides [] d = tt
distinct_sides (q ∷ squares) d = (
  sides squares (recursion_from_All (λ r. q.s ≢ r.s) squares (λ j x few. d zero (suc j) x (omega arith) (omega arith))),
  distinct_sides squares (λ i j x low high. d (suc i) (suc j) x (omega arith) (omega arith)),
)
  where
    sides : (rest : List Square) → AllByRecursion (λ r. q.s ≢ r.s) rest → AllByRecursion (λ m. m ≢ q.s) (map (λ r. r.s) rest)
    sides [] h = tt
    sides (r ∷ rest) h = ((λ e. h.0 (sym e)), sides rest h.1)

differs : (r : Square) (squares : List Square) → AllByRecursion (λ m. m ≡ r.s → ⊥) (map (λ q. q.s) squares) → (q : Square) → IsOneOf q squares → q.s ≡ r.s → ⊥
differs r [] all q h e = h
differs r (s ∷ squares) all q (inl h) e = all.0 (sym (ap (λ (s : Square). s.s) h) ∙ e)
differs r (s ∷ squares) all q (inr h) e = differs r squares all.1 q h e

same_side : (squares : List Square) → AreDistinct (map (λ q. q.s) squares) → (p q : Square) → IsOneOf p squares → IsOneOf q squares → p.s ≡ q.s → p ≡ q
same_side [] d p q a b e = absurd a
same_side (r ∷ squares) d p q (inl a) (inl b) e = a ∙ sym b
same_side (r ∷ squares) d p q (inl a) (inr b) e = absurd (differs r squares d.0 q b (sym e ∙ ap (λ (s : Square). s.s) a))
same_side (r ∷ squares) d p q (inr a) (inl b) e = absurd (differs r squares d.0 p a (e ∙ ap (λ (s : Square). s.s) b))
same_side (r ∷ squares) d p q (inr a) (inr b) e = same_side squares d.1 p q a b e

side_by_side : (t : Tiling) (p q : Square) → IsTiling t → IsOneOf p t.squares → IsOneOf q t.squares → p.x + p.s ≡ q.x → p.y ≡ q.y
    → p.s ≡ q.s → 3 ≤ length t.squares → IsCompound t
side_by_side t p q tiling a b beside level equal many = pair_is_part t tiling (record { x = p.x; y = p.y; width = p.s + q.s; height = p.s })
    (record { right = let w = (within_of t tiling q b).right in omega arith; bottom = let w = (within_of t tiling p a).bottom in omega arith })
    p q a b (λ e. omega (arith, beside, side_of t tiling p a, ap (λ (s : Square). s.x) e))
    (record { left = omega arith; right = omega arith; top = omega arith; bottom = omega arith })
    (record { left = omega arith; right = omega arith; top = omega arith; bottom = omega arith })
    (λ i j a b c d. cases i j a b c d (cases_lt i (p.x + p.s))) many
  where
    cases : (i j : ℕ) → p.x ≤ i → i < p.x + (p.s + q.s) → p.y ≤ j → j < p.y + p.s → (i < p.x + p.s) ⊎ (p.x + p.s ≤ i)
        → (covers i j p ≡ true) ⊎ (covers i j q ≡ true)
    cases i j a b c d (inl h) = inl (covers_from i j p a h c d)
    cases i j a b c d (inr h) = inr (covers_from i j q (omega arith) (omega arith) (omega arith) (omega arith))

even_cut : (n : ℕ) (class : Class) (front : Word) (m : Move) → (class ≡ Perfect) ⊎ (3 ≤ n) → Contains (own_signs (outline_of front) m) Even
    → (e : Entry) (rest : Word) → IsEntry n class e → e.word ≡ front ++ (m ∷ rest) → ⊥
even_cut n class front m either (k, few, at) e rest entry word =
    meet (find_even (squares_under e.tiling (r.moves).0) ((r.moves).0).x (((r.moves).0).x + ((r.moves).0).width)
    (under_chain e.tiling r.laid (r.moves).0 tiling (r.along).fills found low) k
    (subst (λ (ss : List Sign). k < length ss) signs few) (subst (λ (ss : List Sign). slice_index_or ss k Even ≡ Even) signs at))
  where
    tiling : IsTiling e.tiling
    tiling = (entry.member).tiling

    r : Reached e.tiling (outline_of front) (m ∷ rest) (order_of front)
    r = reached e.tiling front (m ∷ rest) tiling (subst (IsWordOf e.tiling) word entry.word)

    found : IsLeftmostValley (e.tiling).width r.laid (r.moves).0
    found = (r.moves).1

    low : ((r.moves).0).level < (e.tiling).height
    low = (r.moves).2

    signs : own_signs (outline_of front) m ≡ signs_between (map (λ q. q.y + q.s) (squares_under e.tiling (r.moves).0))
    signs = ap (own_signs (outline_of front)) (r.moves).3
        ∙ own_signs_are e.tiling r.laid r.nodes (outline_of front) (r.moves).0 tiling (r.along).depicts (r.moves).1
        (valley_is_filled e.tiling r.laid (r.moves).0 tiling (r.along).fills (r.moves).1 (r.moves).2).0

    meet : Neighbours (squares_under e.tiling (r.moves).0) → ⊥
    meet b = cases either
      where
        left_in : IsOneOf b.left (e.tiling).squares
        left_in = in_tiling e.tiling r.laid (r.moves).0 tiling (r.along).fills (r.moves).1 (r.moves).2 b.left b.left_in

        right_in : IsOneOf b.right (e.tiling).squares
        right_in = in_tiling e.tiling r.laid (r.moves).0 tiling (r.along).fills (r.moves).1 (r.moves).2 b.right b.right_in

        level : (b.left).y ≡ (b.right).y
        level = (is_under e.tiling r.laid (r.moves).0 tiling (r.along).fills (r.moves).1 (r.moves).2 b.left b.left_in).level
            ∙ sym (is_under e.tiling r.laid (r.moves).0 tiling (r.along).fills (r.moves).1 (r.moves).2 b.right b.right_in).level

        equal : (b.left).s ≡ (b.right).s
        equal = omega (arith, level, b.even)

        cases : (class ≡ Perfect) ⊎ (3 ≤ n) → ⊥
        cases (inl is) = omega (
          arith,
          b.beside,
          side_of e.tiling tiling b.left left_in,
          ap (λ (s : Square). s.x) (same_side (e.tiling).squares
              (distinct_sides (e.tiling).squares (subst (λ (c : Class). IsOfClass c e.tiling) is (entry.member).class)) b.left b.right left_in right_in equal),
        )
        cases (inr many) = (entry.member).simple
            (side_by_side e.tiling b.left b.right tiling left_in right_in b.beside level equal (omega (arith, many, (entry.member).order)))

-- the law: the two squares would be equal, a part
pub even_squares_are_barren : EvenSquaresAreBarren
even_squares_are_barren n class front m either even e rest entry word =
    even_cut n class front m either even e rest entry (word ∙ append_assoc front (m ∷ []) rest)
