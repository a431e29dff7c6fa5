-- What holds along a word of a tiling, from the first move to the last: the sides of the squares that hang from a
-- node sum to the width of its valley, and each valley but the first lies below the top.
use Rattle.std.specs.List.{AllByRecursion}
use Rattle.std.proofs.Common.{List, Some, [], ap, arith, inl, inr, length, refl, replicate, slice_get, subst, sym, true, ℕ, ◌++◌, ◌+◌}
use Rattle.std.proofs.Common.{◌<◌, ◌∙◌, ◌∷◌, ◌≡◌, ◌≤◌, ◌⊎◌}
use Rattle.std.proofs.lemmas.List.{length-append, length-map, map-append}
use Rattle.bk_laws.proofs.ZippedLists.{zip_length}
use Rattle.bk_laws.proofs.Totals.{total}
use Rattle.bk_laws.proofs.AllOfLists.{all-snoc}
use Rattle.bk_laws.proofs.ListPlaces.{slice_get-snoc_cases}
use Rattle.bk_laws.proofs.Occurrences.{times-replicate_other}
use Rattle.bk_tiling.proofs.Cells.{column_from, counted_one, depth-append, depth_reaches, in_filter, over_from}
use Rattle.bk_tiling.proofs.Members.{in_back}
use Rattle.bk_tiling.proofs.Rows.{chain_total, laid_sides}
use Rattle.bk_tiling.proofs.TilingLaws.{wide_enough}
use Rattle.bk_tiling.specs.Column.{depth}
use Rattle.bk_tiling.specs.declared.Segment.{Segment}
use Rattle.bk_tiling.specs.Tiling.{IsOneOf, IsTiling, Tiling, covers}
use Rattle.bk_tiling.specs.declared.Square.{Square}
use Rattle.bk_word.specs.Outline.{IsLegalMove, Outline, start, valley_of}
use Rattle.bk_word.specs.Play.{after_move, after_moves}
use Rattle.bk_word.specs.Word.{Move, Word}
use Rattle.bk_lay.proofs.UnderValley.{cell, hangs}
use Rattle.bk_lay.proofs.Filling.{valley_is_filled}
use Rattle.bk_lay.proofs.Joining.{levels}
use Rattle.bk_lay.proofs.ValleySquares.{under_chain}
use Rattle.bk_lay.proofs.Steps.{move_depicts, start_depicts_nothing}
use Rattle.bk_lay.proofs.Valleys.{one_leftmost_valley}
use Rattle.bk_lay.proofs.Words.{nothing_laid}
use Rattle.bk_lay.specs.Depiction.{Depicts, FillsFromTop, Hangs, IsSegment}
use Rattle.bk_lay.specs.TilingWord.{IsLeftmostValley, IsWordOf, MovesFollow, hangs_under, move_under, squares_under}
use Rattle.bk_word_net.proofs.WordFlows.Sums.{out_sum, out_sum-append, out_sum-here, out_sum-none}
use Rattle.bk_word_net.specs.WordFlow.{LaidAlong, laid_so_far}

-- once something is laid: the first valley is the top, and all columns lie below it
pub record HasBegun (t : Tiling) (laid : List Square) (nodes : List Segment) (o : Outline) : Type 0 where
  pub top : Segment
  pub rest : List Segment
  pub nodes_are : nodes ≡ top ∷ rest
  pub width : top.width ≡ t.width
  pub level : top.level ≡ 0
  pub lists : List (List ℕ)
  pub closed_are : o.closed ≡ [] ∷ lists
  pub below : AllByRecursion (λ v. 0 < v.level) rest
  pub deep : (c : ℕ) → c < t.width → 0 < depth laid c

-- before the first move: nothing is laid, and the outline is the top alone
pub record NotBegun (laid : List Square) (nodes : List Segment) (o : Outline) : Type 0 where
  pub no_square : laid ≡ []
  pub no_node : nodes ≡ []
  pub no_list : o.closed ≡ []
  pub valley : valley_of o ≡ []

-- what is laid of a tiling along its word: the outline before or after the first move
pub record Along (t : Tiling) (laid : List Square) (nodes : List Segment) (o : Outline) : Type 0 where
  pub fills : FillsFromTop t laid
  pub depicts : Depicts t laid nodes o
  pub out : (k : ℕ) (v : Segment) → slice_get nodes k ≡ Some v → out_sum o.hung (laid_sides laid) k ≡ v.width
  pub none : (k : ℕ) → length nodes ≤ k → out_sum o.hung (laid_sides laid) k ≡ 0
  pub begun : NotBegun laid nodes o ⊎ HasBegun t laid nodes o

-- the leftmost valley of nothing laid is the top
pub top_valley : (t : Tiling) → IsTiling t → (v : Segment) → IsLeftmostValley t.width [] v → (v.x ≡ 0) × (v.width ≡ t.width)
top_valley t tiling v found = let same : top ≡ v = one_leftmost_valley t.width [] top v is found in
    (sym (ap (λ (s : Segment). s.x) same), sym (ap (λ (s : Segment). s.width) same))
  where
    top : Segment
    top = record { x = 0; width = t.width; level = 0 }

    is : IsLeftmostValley t.width [] top
    is = record {
      valley = record {
        flat = record { some = wide_enough t tiling; within = omega arith; level = λ c a b. refl };
        left =
            λ c e. absurd (omega arith);
        right = λ h. absurd (omega arith);
      };
      leftmost = λ u other. omega arith;
    }

module _ (t : Tiling) (laid : List Square) (nodes : List Segment) (o : Outline) (v : Segment) (tiling : IsTiling t)
    (a : Along t laid nodes o) (found : IsLeftmostValley t.width laid v) (low : v.level < t.height) where
  step : IsLegalMove o (move_under t laid v) × Depicts t (laid ++ squares_under t v) (nodes ++ v ∷ []) (after_move o (move_under t laid v))
  step = move_depicts t laid nodes o v tiling a.fills a.depicts found low

  closed_count : length o.closed ≡ length nodes
  closed_count = sym (zip_length (IsSegment laid) nodes o.closed (a.depicts).closed)

  hung_count : length o.hung ≡ length (laid_sides laid)
  hung_count = sym (zip_length (Hangs nodes) laid o.hung (a.depicts).hung) ∙ sym (length-map laid (λ q. q.s))

  new_sum : total (laid_sides (squares_under t v)) ≡ v.width
  new_sum = omega (arith, chain_total (squares_under t v) v.x (v.x + v.width) (under_chain t laid v tiling a.fills found low))

  both : (k : ℕ) → out_sum (o.hung ++ replicate (length (squares_under t v)) (length o.closed)) (laid_sides (laid ++ squares_under t v)) k
      ≡ out_sum o.hung (laid_sides laid) k + out_sum (replicate (length (squares_under t v)) (length o.closed)) (laid_sides (squares_under t v)) k
  both k = ap (λ (s : List ℕ). out_sum (o.hung ++ replicate (length (squares_under t v)) (length o.closed)) s k)
      (map-append (λ q. q.s) laid (squares_under t v))
      ∙ out_sum-append o.hung (replicate (length (squares_under t v)) (length o.closed)) (laid_sides laid) (laid_sides (squares_under t v)) k hung_count

  here : out_sum (replicate (length (squares_under t v)) (length o.closed)) (laid_sides (squares_under t v)) (length o.closed) ≡ v.width
  here = ap (λ (n : ℕ). out_sum (replicate n (length o.closed)) (laid_sides (squares_under t v)) (length o.closed))
      (sym (length-map (squares_under t v) (λ q. q.s)))
      ∙ out_sum-here (laid_sides (squares_under t v)) (length o.closed) ∙ new_sum

  elsewhere : (k : ℕ) → (length o.closed ≡ k → ⊥) → out_sum (replicate (length (squares_under t v)) (length o.closed)) (laid_sides (squares_under t v)) k ≡ 0
  elsewhere k h = out_sum-none (replicate (length (squares_under t v)) (length o.closed)) (laid_sides (squares_under t v)) k
      (times-replicate_other (length (squares_under t v)) (length o.closed) k h)

  -- the columns of the valley get deeper
  deeper : (c : ℕ) → v.x ≤ c → c < v.x + v.width → 0 < depth (laid ++ squares_under t v) c
  deeper c lo hi = from (counted_one (covers c v.level) t.squares (omega (arith, cell t laid v tiling a.fills found low c v.level wide low)))
    where
      wide : c < t.width
      wide = let w = ((found.valley).flat).within in omega arith

      from : (q : Square) × IsOneOf q t.squares × (covers c v.level q ≡ true) → 0 < depth (laid ++ squares_under t v) c
      from (q, k, e) = let over = over_from c v.level q e in let l = over.left in let r = over.right in let b = over.bottom in
          omega (
            arith,
            depth_reaches (laid ++ squares_under t v) c q
                (in_back laid (squares_under t v) q (in_filter (hangs_under v) t.squares q k
                (hangs t laid v tiling a.fills found low c q lo hi k e))) (column_from c q l r),
          )

  begins : NotBegun laid nodes o ⊎ HasBegun t laid nodes o → HasBegun t (laid ++ squares_under t v) (nodes ++ v ∷ []) (after_move o (move_under t laid v))
  begins (inl n) = record {
    top = v;
    rest = [];
    nodes_are = ap (λ (s : List Segment). s ++ v ∷ []) n.no_node;
    width = at.1;
    level = let flat = (found.valley).flat in sym (flat.level v.x (omega arith) (omega (arith, flat.some))) ∙ ap (λ (l : List Square). depth l v.x) n.no_square;
    lists = [];
    closed_are = λ i. n.no_list i ++ n.valley i ∷ [];
    below = tt;
    deep = λ c h. deeper c (omega (arith, at.0)) (omega (arith, at.0, at.1));
  }
    where
      at : (v.x ≡ 0) × (v.width ≡ t.width)
      at = top_valley t tiling v (subst (λ (l : List Square). IsLeftmostValley t.width l v) n.no_square found)
  begins (inr b) = record {
    top = b.top;
    rest = b.rest ++ v ∷ [];
    nodes_are = ap (λ (s : List Segment). s ++ v ∷ []) b.nodes_are;
    width = b.width;
    level = b.level;
    lists = b.lists ++ valley_of o ∷ [];
    closed_are = ap (λ (s : List (List ℕ)). s ++ valley_of o ∷ []) b.closed_are;
    below = all-snoc (λ v. 0 < v.level) b.rest v b.below
        (let flat = (found.valley).flat in let some = flat.some in let within = flat.within in
        omega (arith, flat.level v.x (omega arith) (omega arith), b.deep v.x (omega arith)));
    deep = λ c h. omega (arith, b.deep c h, depth-append laid (squares_under t v) c);
  }

  -- once the squares under the leftmost valley are laid, too, what is laid goes along with the outline after the move
  pub along_move : Along t (laid ++ squares_under t v) (nodes ++ v ∷ []) (after_move o (move_under t laid v))
  along_move = record {
    fills = (valley_is_filled t laid v tiling a.fills found low).1;
    depicts = step.1;
    out = λ k w e. out k w (slice_get-snoc_cases nodes v k w e);
    none = λ k h. omega (
      arith,
      both k,
      a.none k (omega (arith, length-append nodes (v ∷ []))),
      elsewhere k (λ e. absurd (omega (arith, e, closed_count, length-append nodes (v ∷ [])))),
    );
    begun = inr (begins a.begun);
  }
    where
      out : (k : ℕ) (w : Segment) → ((k < length nodes) × (slice_get nodes k ≡ Some w)) ⊎ ((k ≡ length nodes) × (v ≡ w))
          → out_sum (o.hung ++ replicate (length (squares_under t v)) (length o.closed)) (laid_sides (laid ++ squares_under t v)) k ≡ w.width
      out k w (inl (h, e)) = omega (arith, both k, a.out k w e, elsewhere k (λ e. absurd (omega (arith, e, closed_count, h))))
      out k w (inr (h, e)) = omega (arith, both k, a.none k (omega (arith, h)), at, here, ap (λ (s : Segment). s.width) e)
        where
          at : out_sum (replicate (length (squares_under t v)) (length o.closed)) (laid_sides (squares_under t v)) k
              ≡ out_sum (replicate (length (squares_under t v)) (length o.closed)) (laid_sides (squares_under t v)) (length o.closed)
          at = ap (out_sum (replicate (length (squares_under t v)) (length o.closed)) (laid_sides (squares_under t v))) (h ∙ sym closed_count)

-- what stands at the end of a tiling's word: all squares laid, each node with its level
pub record AtEnd (t : Tiling) (o : Outline) (laid : List Square) (all_levels : List ℕ) : Type 0 where
  pub nodes : List Segment
  pub along : Along t laid nodes o
  pub full : (c : ℕ) → c < t.width → depth laid c ≡ t.height
  pub levels_are : levels nodes ++ t.height ∷ [] ≡ all_levels

to_end : (t : Tiling) → IsTiling t → (laid : List Square) (nodes : List Segment) (o : Outline) (w : Word) → Along t laid nodes o → MovesFollow t laid w
    → (all_laid : List Square) (all_levels : List ℕ) → LaidAlong t (laid_so_far laid (levels nodes)) w (laid_so_far all_laid all_levels)
    → AtEnd t (after_moves o w) all_laid all_levels
to_end t tiling laid nodes o [] a p all_laid all_levels l = record {
  nodes = nodes;
  along = subst (λ (s : List Square). Along t s nodes o) l.0 a;
  full = subst (λ (s : List Square). (c : ℕ) → c < t.width → depth s c ≡ t.height) l.0 p;
  levels_are = l.1;
}
to_end t tiling laid nodes o (m ∷ w) a p all_laid all_levels l =
    to_end t tiling (laid ++ squares_under t p.0) (nodes ++ p.0 ∷ []) (after_move o m) w next p.4 all_laid all_levels rest
  where
    same : l.0 ≡ p.0
    same = one_leftmost_valley t.width laid l.0 p.0 l.1 p.1

    next : Along t (laid ++ squares_under t p.0) (nodes ++ p.0 ∷ []) (after_move o m)
    next = subst (λ (n : Move). Along t (laid ++ squares_under t p.0) (nodes ++ p.0 ∷ []) (after_move o n)) (sym p.3)
        (along_move t laid nodes o p.0 tiling a p.1 p.2)

    rest : LaidAlong t (laid_so_far (laid ++ squares_under t p.0) (levels (nodes ++ p.0 ∷ []))) w (laid_so_far all_laid all_levels)
    rest = subst (λ (ls : List ℕ). LaidAlong t (laid_so_far (laid ++ squares_under t p.0) ls) w (laid_so_far all_laid all_levels))
        (sym (map-append (λ v. v.level) nodes (p.0 ∷ [])))
        (subst (λ (v : Segment). LaidAlong t (laid_so_far (laid ++ squares_under t v) (levels nodes ++ v.level ∷ [])) w (laid_so_far all_laid all_levels))
        same l.2)

-- at the start nothing is laid
pub along_start : (t : Tiling) → IsTiling t → Along t [] [] start
along_start t tiling = record {
  fills = nothing_laid t tiling;
  depicts = start_depicts_nothing t tiling;
  out = λ k v e. absurd (cc);
  none = λ k h. refl;
  begun = inl (record { no_square = refl; no_node = refl; no_list = refl; valley = refl });
}

-- a tiling's word leads there
pub at_end : (t : Tiling) (w : Word) → IsTiling t → IsWordOf t w → (laid : List Square) (all_levels : List ℕ)
    → LaidAlong t (laid_so_far [] []) w (laid_so_far laid all_levels) → AtEnd t (after_moves start w) laid all_levels
at_end t w tiling p laid all_levels l = to_end t tiling [] [] start w (along_start t tiling) p laid all_levels l
