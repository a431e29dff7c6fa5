-- The valley in which the squares of a move were placed: it is the tiling's leftmost one, and the squares under it are those of the move.
use Rattle.std.specs.List.{AllByRecursion}
use Rattle.std.proofs.Common.{List, Some, [], ap, arith, inl, inr, length, map, refl, slice_get, subst, sym, true, ℕ, ◌++◌, ◌+◌, ◌<◌, ◌∙◌, ◌∷◌, ◌≡◌}
use Rattle.std.proofs.Common.{◌≤◌, ◌⊎◌}
use Rattle.std.proofs.lemmas.List.{append-nil, append_assoc, length-append}
use Rattle.bk_laws.proofs.Totals.{total}
use Rattle.bk_laws.proofs.ListParts.{cons-not_empty}
use Rattle.bk_laws.proofs.ListPlaces.{slice_get-unique}
use Rattle.bk_laws.proofs.Sums.{total-positive_of_positive}
use Rattle.bk_tiling.proofs.Cells.{covers_from, from_filter, in_all, in_filter, no_two}
use Rattle.bk_tiling.proofs.Members.{in_back, in_front}
use Rattle.bk_tiling.proofs.Scaling.{same_members}
use Rattle.bk_tiling.proofs.TilingLaws.{cell_once, within_of}
use Rattle.bk_tiling.specs.Column.{IsLevel, depth}
use Rattle.bk_tiling.specs.declared.Segment.{Segment}
use Rattle.bk_tiling.specs.Tiling.{IsOneOf, IsTiling, Tiling, covers}
use Rattle.bk_tiling.specs.declared.Square.{Square}
use Rattle.bk_tiling.proofs.Group.{HasOver, group_sides, group_top, group_within, over_group}
use Rattle.bk_tiling.proofs.PuttingInOrder.{group_ordered}
use Rattle.bk_tiling.specs.SquareGroups.{laid_group}
use Rattle.bk_word.specs.Outline.{Outline, valley_of}
use Rattle.bk_word.specs.Play.{after_move, numbers_from}
use Rattle.bk_word.specs.Word.{Move, Word}
use Rattle.bk_lay.proofs.UnderValley.{IsUnder, hangs_from, under_from}
use Rattle.bk_lay.proofs.ValleySquares.{ordered_filter}
use Rattle.bk_lay.proofs.ValleySegment.{valley_segment}
use Rattle.bk_lay.proofs.Valleys.{segment_path}
use Rattle.bk_lay.specs.Depiction.{Depicts, FillsFromTop, IsNumbered, IsSegment, Span}
use Rattle.bk_lay.specs.TilingWord.{IsLeftmostValley, hangs_under, squares_under}
use Rattle.bk_word_net.proofs.TilingWords.AlongWord.{top_valley}
use Rattle.bk_word_net.proofs.WordFlows.Sums.{span_sum}

-- one step of placing: the group fills the segment that the move closes
pub record IsPlacing (width : ℕ) (laid : List Square) (o : Outline) (m : Move) (x level : ℕ) (new : List ℕ) : Type 0 where
  pub count : length new ≡ m.count
  pub some : AllByRecursion (λ s. 0 < s) new
  pub place : Span laid level x (valley_of o) (x + total new) ⊎ ((laid ≡ []) × (valley_of o ≡ []) × (x ≡ 0) × (level ≡ 0) × (total new ≡ width))

-- squares laid by the moves of a word, each move in the leftmost valley
abbrev pub Placing : ℕ → List Square → Outline → Word → List Square → Type 0
Placing width laid o [] all = laid ≡ all
Placing width laid o (m ∷ w) all = (x : ℕ)
    × ((level : ℕ) × ((new : List ℕ) × (IsPlacing width laid o m x level new × Placing width (laid ++ laid_group x level new) (after_move o m) w all)))

-- what was laid stays first
pub placing_prefix : (width : ℕ) (laid : List Square) (o : Outline) (w : Word) (all : List Square) → Placing width laid o w all
    → (more : List Square) × (all ≡ laid ++ more)
placing_prefix width laid o [] all p = ([], sym p ∙ sym (append-nil laid))
placing_prefix width laid o (m ∷ w) all (x, (level, (new, (step, rest)))) = let r =
    placing_prefix width (laid ++ laid_group x level new) (after_move o m) w all rest in
    (laid_group x level new ++ r.0, r.1 ∙ append_assoc laid (laid_group x level new) r.0)

module _ (t : Tiling) (tiling : IsTiling t) (all : List Square) (all_in : (q : Square) → IsOneOf q all → IsOneOf q t.squares)
    (full : (c : ℕ) → c < t.width → depth all c ≡ t.height)
    (bottom : ℕ → ℕ) (bottom_is : (n : ℕ) (q : Square) → IsNumbered all n q → bottom n ≡ q.y + q.s) where
  -- the bottoms of the squares of a group
  pub group_bottoms : (front squares back : List Square) → all ≡ front ++ (squares ++ back) → (n : ℕ) → n ≡ length front + 1
      → map bottom (numbers_from n (length squares)) ≡ map (λ q. q.y + q.s) squares
  group_bottoms front [] back is n e = refl
  group_bottoms front (q ∷ squares) back is n e =
      λ i. first i ∷ group_bottoms (front ++ q ∷ []) squares back (is ∙ sym (append_assoc front (q ∷ []) (squares ++ back))) (n + 1)
      (omega (arith, e, length-append front (q ∷ []))) i
    where
      at : (front : List Square) (rest : List Square) → slice_get (front ++ q ∷ rest) (length front) ≡ Some q
      at [] rest = refl
      at (r ∷ front) rest = at front rest

      first : bottom n ≡ q.y + q.s
      first = bottom_is n q (length front, omega (arith, e), ap (λ (l : List Square). slice_get l (length front)) is ∙ at front (squares ++ back))

  module _ (laid : List Square) (nodes : List Segment) (o : Outline) (fills : FillsFromTop t laid) (d : Depicts t laid nodes o)
      (v : Segment) (found : IsLeftmostValley t.width laid v)
      (m : Move) (legal : 0 < m.count) (x level : ℕ) (new : List ℕ) (step : IsPlacing t.width laid o m x level new) (more : List Square)
      (all_is : all ≡ (laid ++ laid_group x level new) ++ more) where
    flat : IsLevel t.width laid v
    flat = (found.valley).flat

    new_some : 0 < total new
    new_some = total-positive_of_positive new step.some (omega (arith, step.count, legal))

    -- the valley is where the group was placed
    valley_is : v ≡ record { x = x; width = total new; level = level }
    valley_is = cases (valley_of o) refl step.place (valley_segment t laid nodes o v tiling d found)
      where
        cases : (numbers : List ℕ) → valley_of o ≡ numbers → Span laid level x (valley_of o) (x + total new)
            ⊎ ((laid ≡ []) × (valley_of o ≡ []) × (x ≡ 0) × (level ≡ 0) × (total new ≡ t.width)) → IsSegment laid v (valley_of o)
            → v ≡ record { x = x; width = total new; level = level }
        cases numbers e (inr (none, nil, a, b, c)) seg =
            segment_path v (record { x = x; width = total new; level = level }) (top.0 ∙ sym a) (top.1 ∙ sym c) (deep ∙ sym b)
          where
            top : (v.x ≡ 0) × (v.width ≡ t.width)
            top = top_valley t tiling v (subst (λ (l : List Square). IsLeftmostValley t.width l v) none found)

            deep : v.level ≡ 0
            deep = sym (flat.level v.x (omega arith) (omega (arith, flat.some))) ∙ ap (λ (l : List Square). depth l v.x) none
        cases [] e (inl span) seg = absurd (omega (arith, new_some, subst (λ (ns : List ℕ). Span laid level x ns (x + total new)) e span))
        cases (n ∷ ns) e (inl span) (inr top) = absurd (cons-not_empty n ns (sym e ∙ top.1))
        cases (n ∷ ns) e (inl span) (inl own) = segment_path v (record { x = x; width = total new; level = level }) first wide bottoms
          where
            a : Span laid level x (n ∷ ns) (x + total new)
            a = subst (λ (ns : List ℕ). Span laid level x ns (x + total new)) e span

            b : Span laid v.level v.x (n ∷ ns) (v.x + v.width)
            b = subst (λ (ns : List ℕ). Span laid v.level v.x ns (v.x + v.width)) e own

            number : (a.1).0 ≡ (b.1).0
            number = omega (arith, (a.1).1, (b.1).1)

            same : a.0 ≡ b.0
            same = slice_get-unique laid (b.1).0 a.0 b.0 (subst (λ (k : ℕ). slice_get laid k ≡ Some a.0) number (a.1).2) (b.1).2

            first : v.x ≡ x
            first = sym b.2 ∙ sym (ap (λ (q : Square). q.x) same) ∙ a.2

            bottoms : v.level ≡ level
            bottoms = sym b.3 ∙ sym (ap (λ (q : Square). q.y + q.s) same) ∙ a.3

            wide : v.width ≡ total new
            wide = omega (arith, first, span_sum laid level x (n ∷ ns) (x + total new) a, span_sum laid v.level v.x (n ∷ ns) (v.x + v.width) b)

    group_in : (q : Square) → IsOneOf q (laid_group x level new) → IsOneOf q t.squares
    group_in q h = all_in q (subst (IsOneOf q) (sym all_is) (in_front (laid ++ laid_group x level new) more q (in_back laid (laid_group x level new) q h)))

    lower : level < t.height
    lower = from (over_group x level new x (omega arith) (omega (arith, new_some)))
      where
        from : HasOver level x (laid_group x level new) → level < t.height
        from r = let b = (within_of t tiling r.square (group_in r.square r.is)).bottom in omega (arith, r.top, group_sides x level new step.some r.square r.is)

    -- the valley lies above the bottom
    pub low : v.level < t.height
    low = omega (arith, lower, ap (λ (u : Segment). u.level) valley_is)

    inside : x + total new ≤ t.width
    inside = omega (arith, flat.within, ap (λ (u : Segment). u.x) valley_is, ap (λ (u : Segment). u.width) valley_is)

    -- the squares under it are those of the move
    pub new_is : squares_under t v ≡ laid_group x level new
    new_is = ap (squares_under t) valley_is ∙ same_members (squares_under t (record { x = x; width = total new; level = level })) (laid_group x level new)
        (ordered_filter (hangs_under (record { x = x; width = total new; level = level })) t.squares tiling.ordered)
        (group_ordered x level new step.some) forth back
      where
        forth : (p : Square) → IsOneOf p (squares_under t (record { x = x; width = total new; level = level })) → IsOneOf p (laid_group x level new)
        forth p h = from (from_filter (hangs_under (record { x = x; width = total new; level = level })) t.squares p h)
          where
            from : IsOneOf p t.squares × (hangs_under (record { x = x; width = total new; level = level }) p ≡ true) → IsOneOf p (laid_group x level new)
            from (k, e) = over (over_group x level new p.x u.left (omega (arith, u.right, side)))
              where
                u : IsUnder (record { x = x; width = total new; level = level }) p
                u = under_from (record { x = x; width = total new; level = level }) p e

                side : 0 < p.s
                side = in_all (λ q. 0 < q.s) t.squares (tiling.tiles).sides p k

                over : HasOver level p.x (laid_group x level new) → IsOneOf p (laid_group x level new)
                over r = subst (λ (q : Square). IsOneOf q (laid_group x level new)) (sym same) r.is
                  where
                    same : p ≡ r.square
                    same = no_two (covers p.x level) t.squares
                        (omega (arith, cell_once t tiling p.x level (omega (arith, u.right, side, inside)) lower)) p r.square
                        k (covers_from p.x level p (omega arith) (omega (arith, side)) (omega (arith, u.level)) (omega (arith, u.level, side)))
                        (group_in r.square r.is) (covers_from p.x level r.square r.left r.right (omega (arith, r.top))
                        (omega (arith, r.top, group_sides x level new step.some r.square r.is)))

        back : (p : Square) → IsOneOf p (laid_group x level new) → IsOneOf p (squares_under t (record { x = x; width = total new; level = level }))
        back p h = in_filter (hangs_under (record { x = x; width = total new; level = level })) t.squares p (group_in p h)
            (hangs_from (record { x = x; width = total new; level = level }) p (group_top x level new p h) (group_within x level new p h).0
            (group_within x level new p h).1)
