-- No laid square lies across a line that the squares of a word stand on: so it is after each move, and at the end.
use Rattle.std.specs.List.{AllByRecursion, AllZip}
use Rattle.std.proofs.Common.{Bool, List, Some, [], ap, arith, drop, false, inl, inr, length, map, nat_eq, refl, replicate, slice_get}
use Rattle.std.proofs.Common.{slice_index_or, subst, suc, sym, take, true, zero, ℕ, ◌++◌, ◌+◌, ◌-◌, ◌<◌, ◌∙◌, ◌∷◌, ◌≡◌, ◌≤◌, ◌⊎◌}
use Rattle.std.proofs.lemmas.Bool.{eqb-true}
use Rattle.std.proofs.lemmas.List.{length-append, length-replicate}
use Rattle.bk_laws.proofs.ZippedLists.{zip_length}
use Rattle.bk_laws.proofs.ListPlaces.{get_after, get_back}
use Rattle.bk_tiling.proofs.Cells.{from_append}
use Rattle.bk_tiling.proofs.Rows.{Chain, chain_within}
use Rattle.bk_tiling.proofs.TilingLaws.{side_of, wide_enough}
use Rattle.bk_tiling.specs.Column.{AreRuns, depth}
use Rattle.bk_tiling.specs.declared.Segment.{Segment}
use Rattle.bk_tiling.specs.Tiling.{IsOneOf, IsTiling, Tiling}
use Rattle.bk_tiling.specs.declared.Square.{Square}
use Rattle.bk_word.specs.Outline.{Outline, start, valley_of, valley_place}
use Rattle.bk_word.specs.Play.{after_move, after_moves, numbers_from, parts, segments_apart, signs_apart}
use Rattle.bk_word.specs.Word.{Move, Word}
use Rattle.bk_word.specs.declared.Sign.{Sign}
use Rattle.bk_lay.proofs.Filling.{in_tiling, valley_is_filled}
use Rattle.bk_lay.proofs.ValleySquares.{under_chain}
use Rattle.bk_lay.proofs.Places.{Placed, placed}
use Rattle.bk_lay.proofs.LaidRuns.{one_of}
use Rattle.bk_lay.proofs.ValleySegment.{valley_segment}
use Rattle.bk_lay.proofs.Valleys.{one_leftmost_valley}
use Rattle.bk_lay.specs.Depiction.{Hangs, IsSegment}
use Rattle.bk_lay.specs.TilingWord.{IsLeftmostValley, IsWordOf, MovesFollow, move_under, squares_under}
use Rattle.bk_word_net.proofs.TilingWords.AlongWord.{Along, HasBegun, NotBegun, along_move, along_start}
use Rattle.bk_catalogue.specs.VerticalCut.{begins_on_line, lines_after, lines_along, on_line}
use Rattle.bk_catalogue.proofs.MoveCuts.ClearSegments.{Each, IsClear, chain_apart, chain_first, chain_later, each_append, each_at}
use Rattle.bk_catalogue.proofs.MoveCuts.ClearSegments.{each_joined, each_number, keep_others}

module _ (t : Tiling) (laid : List Square) (nodes : List Segment) (o : Outline) (lines : List Bool) (v : Segment) (tiling : IsTiling t)
    (a : Along t laid nodes o) (long : length lines ≡ length laid)
    (clear : Each (IsClear laid lines) o.segments) (found : IsLeftmostValley t.width laid v) (low : v.level < t.height) where
  chain : Chain v.x (squares_under t v) (v.x + v.width)
  chain = under_chain t laid v tiling a.fills found low

  within : (r : Square) → IsOneOf r (squares_under t v) → (v.x ≤ r.x) × (r.x + r.s ≤ v.x + v.width)
  within r h = chain_within (squares_under t v) v.x (v.x + v.width) chain r h

  side : (r : Square) → IsOneOf r (squares_under t v) → 0 < r.s
  side r h = side_of t tiling r (in_tiling t laid v tiling a.fills found low r h)

  hung_long : length o.hung ≡ length laid
  hung_long = sym (zip_length (Hangs nodes) laid o.hung (a.depicts).hung)

  p : Placed t.width laid 0 (a.depicts).runs
  p = placed t.width laid (a.depicts).runs (wide_enough t tiling) (a.depicts).cut
      (subst (λ (signs : List Sign). AllByRecursion (λ sign. parts sign ≡ true) signs) (a.depicts).signs (a.depicts).parted)

  same : p.valley ≡ v
  same = one_leftmost_valley t.width laid p.valley v p.leftmost found

  is : (a.depicts).runs ≡ p.before ++ v ∷ p.after
  is = p.is ∙ ap (λ (w : Segment). p.before ++ w ∷ p.after) same

  number : valley_place o.signs ≡ length p.before
  number = ap valley_place (a.depicts).signs ∙ p.number

  others : Each (IsClear (laid ++ squares_under t v) (lines_after o lines (move_under t laid v))) (take (length p.before) o.segments)
      × Each (IsClear (laid ++ squares_under t v) (lines_after o lines (move_under t laid v))) (drop (suc (length p.before)) o.segments)
  others = keep_others laid (squares_under t v) lines
      (begins_on_line lines (valley_of o) ∷ replicate (length (squares_under t v) - 1) (nat_eq (length o.closed) 0)) v long within
      t.width 0 p.before p.after o.segments (subst (AreRuns t.width laid 0) is (a.depicts).cut)
      (subst (λ (runs : List Segment). AllZip (IsSegment laid) runs o.segments) is (a.depicts).segments) clear

  -- the first new square, where the valley begins on a line
  first_clear : (s : Square) → s.x ≡ v.x → (numbers : List ℕ) → begins_on_line lines numbers ≡ true
      → AllByRecursion (IsClear laid lines) numbers → IsSegment laid v numbers
      → (0 < s.x) × ((r : Square) → IsOneOf r (laid ++ squares_under t v) → (r.x + r.s ≤ s.x) ⊎ (s.x ≤ r.x))
  first_clear s at [] on each seg = absurd (cc)
  first_clear s at (n ∷ numbers) on each (inr h) = absurd (not_nil h.1)
    where
      not_nil : n ∷ numbers ≡ [] → ⊥
      not_nil e = cc
  first_clear s at (n ∷ numbers) on each (inl span) = (omega (arith, at, span.2, old.0), λ r h. cases r (from_append laid (squares_under t v) r h))
    where
      old : (0 < (span.0).x) × ((r : Square) → IsOneOf r laid → (r.x + r.s ≤ (span.0).x) ⊎ ((span.0).x ≤ r.x))
      old = each.0 on span.0 span.1

      place : (span.0).x ≡ s.x
      place = span.2 ∙ sym at

      cases : (r : Square) → IsOneOf r laid ⊎ IsOneOf r (squares_under t v) → (r.x + r.s ≤ s.x) ⊎ (s.x ≤ r.x)
      cases r (inl h) = subst (λ (x : ℕ). (r.x + r.s ≤ x) ⊎ (x ≤ r.x)) place (old.1 r h)
      cases r (inr h) = inr (omega (arith, at, (within r h).0))

  nothing_laid : nat_eq (length o.closed) 0 ≡ true → laid ≡ []
  nothing_laid e = cases a.begun
    where
      cases : NotBegun laid nodes o ⊎ HasBegun t laid nodes o → laid ≡ []
      cases (inl n) = n.no_square
      cases (inr b) = absurd (omega (arith, eqb-true (length o.closed) 0 e, ap length b.closed_are))

  new_clear : (i : ℕ) → i < length (squares_under t v) → (s : Square) → slice_get (squares_under t v) i ≡ Some s
      → slice_index_or (begins_on_line lines (valley_of o) ∷ replicate (length (squares_under t v) - 1) (nat_eq (length o.closed) 0)) i false ≡ true
      → (0 < s.x) × ((r : Square) → IsOneOf r (laid ++ squares_under t v) → (r.x + r.s ≤ s.x) ⊎ (s.x ≤ r.x))
  new_clear zero h s e on = first_clear s (chain_first (squares_under t v) v.x (v.x + v.width) chain s e) (valley_of o) on
      (each_at (IsClear laid lines) o.segments (valley_place o.signs) clear) (valley_segment t laid nodes o v tiling a.depicts found)
  new_clear (suc i) h s e on = (chain_later (squares_under t v) v.x (v.x + v.width) side chain i s e, λ r k. cases r (from_append laid (squares_under t v) r k))
    where
      in_replicate : (n : ℕ) (b : Bool) (i : ℕ) → slice_index_or (replicate n b) i false ≡ true → b ≡ true
      in_replicate zero b i f = absurd (cc)
      in_replicate (suc n) b zero f = f
      in_replicate (suc n) b (suc i) f = in_replicate n b i f

      none : laid ≡ []
      none = nothing_laid (in_replicate (length (squares_under t v) - 1) (nat_eq (length o.closed) 0) i on)

      cases : (r : Square) → IsOneOf r laid ⊎ IsOneOf r (squares_under t v) → (r.x + r.s ≤ s.x) ⊎ (s.x ≤ r.x)
      cases r (inl k) = absurd (subst (IsOneOf r) none k)
      cases r (inr k) = chain_apart (squares_under t v) v.x (v.x + v.width) chain r s k (one_of (squares_under t v) (suc i) s e)

  news : Each (IsClear (laid ++ squares_under t v) (lines_after o lines (move_under t laid v)))
      (map (λ q. q ∷ []) (numbers_from (length o.hung + 1) (length (squares_under t v))))
  news = each_number (IsClear (laid ++ squares_under t v) (lines_after o lines (move_under t laid v))) (length o.hung + 1) (length (squares_under t v)) each
    where
      each : (i : ℕ) → i < length (squares_under t v) → IsClear (laid ++ squares_under t v) (lines_after o lines (move_under t laid v)) (length o.hung + 1 + i)
      each i h on s numbered = new_clear i h s (sym (get_after laid (squares_under t v) i numbered.0 place) ∙ numbered.2) (sym there ∙ on)
        where
          place : numbered.0 ≡ length laid + i
          place = omega (arith, numbered.1, hung_long)

          there : on_line (lines_after o lines (move_under t laid v)) (length o.hung + 1 + i)
              ≡ slice_index_or (begins_on_line lines (valley_of o) ∷ replicate (length (squares_under t v) - 1) (nat_eq (length o.closed) 0)) i false
          there = get_back lines (begins_on_line lines (valley_of o)
              ∷ replicate (length (squares_under t v) - 1) (nat_eq (length o.closed) 0)) i (length o.hung + 1 + i - 1) false (omega (arith, hung_long, long))

  abbrev Kept : ℕ → Type 0
  Kept = IsClear (laid ++ squares_under t v) (lines_after o lines (move_under t laid v))

  -- a move keeps the lines clear
  pub clear_move : Each (IsClear (laid ++ squares_under t v) (lines_after o lines (move_under t laid v))) (after_move o (move_under t laid v)).segments
  clear_move = each_joined Kept (signs_apart o (move_under t laid v)) (segments_apart o (move_under t laid v))
      (each_append Kept (take (valley_place o.signs) o.segments
      ++ map (λ q. q ∷ []) (numbers_from (length o.hung + 1) (length (squares_under t v)))) (drop (valley_place o.signs + 1) o.segments)
      (each_append Kept (take (valley_place o.signs) o.segments) (map (λ q. q ∷ []) (numbers_from (length o.hung + 1) (length (squares_under t v))))
      (subst (λ (k : ℕ). Each Kept (take k o.segments)) (sym number) others.0) news)
      (subst (λ (k : ℕ). Each Kept (drop k o.segments)) next others.1))
    where
      next : suc (length p.before) ≡ valley_place o.signs + 1
      next = omega (arith, number)

  -- a move tells of each of its squares whether it stands on a line
  pub lines_more : length (lines_after o lines (move_under t laid v)) ≡ length (laid ++ squares_under t v)
  lines_more = omega (
    arith,
    long,
    (valley_is_filled t laid v tiling a.fills found low).0,
    length-append lines (begins_on_line lines (valley_of o) ∷ replicate (length (squares_under t v) - 1) (nat_eq (length o.closed) 0)),
    length-append laid (squares_under t v),
    length-replicate (length (squares_under t v) - 1) (nat_eq (length o.closed) 0),
  )

-- ---- along a word

-- at the end no laid square lies across a line
pub record ClearAtEnd (t : Tiling) (o : Outline) (lines : List Bool) : Type 0 where
  pub laid : List Square
  pub nodes : List Segment
  pub along : Along t laid nodes o
  pub full : (c : ℕ) → c < t.width → depth laid c ≡ t.height
  pub clear : Each (IsClear laid lines) o.segments

clear_along : (t : Tiling) → IsTiling t → (laid : List Square) (nodes : List Segment) (o : Outline) (lines : List Bool) (w : Word)
    → Along t laid nodes o → length lines ≡ length laid → Each (IsClear laid lines) o.segments → MovesFollow t laid w
    → ClearAtEnd t (after_moves o w) (lines_along o lines w)
clear_along t tiling laid nodes o lines [] a long clear p = record { laid = laid; nodes = nodes; along = a; full = p; clear = clear }
clear_along t tiling laid nodes o lines (m ∷ w) a long clear p =
    clear_along t tiling (laid ++ squares_under t p.0) (nodes ++ p.0 ∷ []) (after_move o m) (lines_after o lines m) w
    (subst (λ (n : Move). Along t (laid ++ squares_under t p.0) (nodes ++ p.0 ∷ []) (after_move o n)) (sym p.3)
    (along_move t laid nodes o p.0 tiling a p.1 p.2))
    (subst (λ (n : Move). length (lines_after o lines n) ≡ length (laid ++ squares_under t p.0)) (sym p.3)
    (lines_more t laid nodes o lines p.0 tiling a long clear p.1 p.2))
    (subst (λ (n : Move). Each (IsClear (laid ++ squares_under t p.0) (lines_after o lines n)) (after_move o n).segments) (sym p.3)
    (clear_move t laid nodes o lines p.0 tiling a long clear p.1 p.2))
    p.4

-- at the end of a tiling's word no square lies across a line
pub clear_word : (t : Tiling) (w : Word) → IsTiling t → IsWordOf t w → ClearAtEnd t (after_moves start w) (lines_along start [] w)
clear_word t w tiling p = clear_along t tiling [] [] start [] w (along_start t tiling) refl (tt, tt) p
