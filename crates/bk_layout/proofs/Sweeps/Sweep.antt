-- The sweep: what is kept while squares are hung node by node, and that a step keeps it.
use Rattle.std.specs.List.{AllZip}
use Rattle.std.proofs.Common.{List, Some, ap, cond, inl, inr, length, map, nat_eq, slice_get, subst, sym, ℕ, ◌++◌, ◌+◌}
use Rattle.std.proofs.Common.{◌<◌, ◌∙◌, ◌∷◌, ◌≡◌, ◌≤◌}
use Rattle.std.proofs.lemmas.List.{append_assoc, length-map, map-append}
use Rattle.bk_laws.proofs.Occurrences.{times, times_in}
use Rattle.bk_laws.proofs.ListsOfLists.{map-map_empty}
use Rattle.bk_word.specs.Outline.{Outline}
use Rattle.bk_word.specs.declared.Sign.{Sign}
use Rattle.bk_word.specs.declared.Sign.TheVariants.{Above, Under}
use Rattle.bk_word_net.proofs.Outlines.Numbering.{Numbered}
use Rattle.bk_word_net.proofs.Outlines.Shape.{Shaped}
use Rattle.bk_word_net.proofs.Outlines.ValleyCut.{AtValley, Beside}
use Rattle.bk_layout.proofs.Lists.NodeLists.{ending_sorted, hanging_sorted}
use Rattle.bk_layout.proofs.Sweeps.Chains.{Chain}
use Rattle.bk_layout.proofs.Lists.SquareLists.{lists_at, sq_of}
use Rattle.bk_layout.proofs.Sweeps.ValleySides.{AtLeft, LeftOf, Nonempty, RightOf, chain_at, left_of, right_of}
use Rattle.bk_layout.proofs.Sweeps.WholeRuns.{whole_run}
use Rattle.bk_layout.specs.Layout.{Fits, Layout}

-- the squares that were laid and the nodes that were closed, in order, while this is the outline
pub record State (l : Layout) (o : Outline) : Type 0 where
  pub laid : List ℕ
  pub done : List ℕ
  pub shaped : Shaped o
  pub numbered : Numbered o
  pub long : length laid ≡ length o.hung
  pub chain : Chain l o.signs (lists_at laid o.segments)
  pub wall : AtLeft l (lists_at laid o.segments)
  pub closed : lists_at laid o.closed ≡ map l.ending done
  pub hung : AllZip (λ q k. slice_get done k ≡ Some (l.above q)) laid o.hung
  -- a square is laid once the node above it is closed, and open until the one below it is
  pub laid_times : (q : ℕ) → q < l.squares → times q laid ≡ times (l.above q) done
  pub open_times : (q : ℕ) → q < l.squares → times_in q (lists_at laid o.segments) + times (l.below q) done ≡ times (l.above q) done
  pub done_once : (v : ℕ) → times v done ≤ 1
  pub top : slice_get done 0 ≡ Some 0
  pub begun : times 0 done ≡ 1
  pub laid_low : (q : ℕ) → 0 < times q laid → q < l.squares
  pub done_low : (v : ℕ) → 0 < times v done → v < l.bottom

-- how often a square stands in the lists of a node
pub hanging_times : (l : Layout) → Fits l → (q v : ℕ) → q < l.squares → times q (l.hanging v) ≡ cond (nat_eq (l.above q) v) 1 0
hanging_times l fits q v h = (hanging_sorted l fits.lists).counted q v h

-- a square stands once in the list of the node on which it ends, and in no other
pub ending_times : (l : Layout) → Fits l → (q v : ℕ) → q < l.squares → times q (l.ending v) ≡ cond (nat_eq (l.below q) v) 1 0
ending_times l fits q v h = (ending_sorted l fits.lists).counted q v h

-- ---- the leftmost valley is all that ends on one node

beside_map : (f : ℕ → ℕ) (g : Sign) (segments : List (List ℕ)) (signs : List Sign) → Beside g segments signs → Beside g (map (map f) segments) signs
beside_map f g segments signs (inl (e, h)) = inl (ap (map (map f)) e, h)
beside_map f g segments signs (inr (s, e, h)) = inr (map f s, ap (map (map f)) e, h)

-- the valley in squares, with what stands at both sides
pub record ValleyAt (l : Layout) (o : Outline) (laid : List ℕ) (v : AtValley o) : Type 0 where
  pub q : ℕ
  pub qs : List ℕ
  pub is : map (sq_of laid) v.valley ≡ q ∷ qs
  pub known : q < l.squares
  pub left : LeftOf l (lists_at laid v.before) (lists_at laid v.left) v.before_signs (v.right_signs ++ v.after_signs) q qs
      (lists_at laid v.right ++ lists_at laid v.after)
  pub right : RightOf l q qs (lists_at laid v.right) (lists_at laid v.after) v.after_signs
  pub whole : l.ending (l.below q) ≡ q ∷ qs
  pub cut : lists_at laid o.segments ≡ lists_at laid v.before ++ (lists_at laid v.left ++ ((q ∷ qs) ∷ (lists_at laid v.right ++ lists_at laid v.after)))

-- the leftmost valley of a chain that begins at the left wall, and what stands beside it
pub valley_at : (l : Layout) → Fits l → (o : Outline) → (laid : List ℕ) (v : AtValley o) → Chain l o.signs (lists_at laid o.segments)
    → AtLeft l (lists_at laid o.segments) → ValleyAt l o laid v
valley_at l fits o laid v chain wall = at (chain_at l (lists_at laid v.before ++ lists_at laid v.left)
    (v.before_signs ++ (v.left_signs ++ (v.right_signs ++ v.after_signs))) (map (sq_of laid) v.valley) (lists_at laid v.right ++ lists_at laid v.after)
    (subst (λ (x : List (List ℕ)). Chain l (v.before_signs ++ (v.left_signs ++ (v.right_signs ++ v.after_signs))) x)
    (sym (append_assoc (lists_at laid v.before) (lists_at laid v.left)
    (map (sq_of laid) v.valley ∷ (lists_at laid v.right ++ lists_at laid v.after)))) there))
  where
    f : List ℕ → List ℕ
    f = map (sq_of laid)

    parts_are : lists_at laid o.segments ≡ lists_at laid v.before
        ++ (lists_at laid v.left ++ (map (sq_of laid) v.valley ∷ (lists_at laid v.right ++ lists_at laid v.after)))
    parts_are = ap (lists_at laid) v.segments ∙ map-append (map (sq_of laid)) v.before (v.left ++ (v.valley ∷ (v.right ++ v.after)))
        ∙ ap (λ (x : List (List ℕ)). lists_at laid v.before ++ x) (map-append (map (sq_of laid)) v.left (v.valley ∷ (v.right ++ v.after))
        ∙ ap (λ (x : List (List ℕ)). lists_at laid v.left ++ (map (sq_of laid) v.valley ∷ x)) (map-append (map (sq_of laid)) v.right v.after))

    there : Chain l (v.before_signs ++ (v.left_signs ++ (v.right_signs ++ v.after_signs)))
        (lists_at laid v.before ++ (lists_at laid v.left ++ (map (sq_of laid) v.valley ∷ (lists_at laid v.right ++ lists_at laid v.after))))
    there = subst (λ (g : List Sign). Chain l g
        (lists_at laid v.before ++ (lists_at laid v.left
        ++ (map (sq_of laid) v.valley ∷ (lists_at laid v.right ++ lists_at laid v.after))))) v.signs
        (subst (λ (x : List (List ℕ)). Chain l o.signs x) parts_are chain)

    at_wall : AtLeft l (lists_at laid v.before ++ (lists_at laid v.left ++ (map (sq_of laid) v.valley ∷ (lists_at laid v.right ++ lists_at laid v.after))))
    at_wall = subst (λ (x : List (List ℕ)). AtLeft l x) parts_are wall

    at : Nonempty l (map (sq_of laid) v.valley) → ValleyAt l o laid v
    at n = record {
      q = n.q;
      qs = n.qs;
      is = n.is;
      known = n.known;
      left = le;
      right = ri;
      whole = whole_run l fits.lists n.q n.qs ri.run le.first ri.last;
      cut = subst (λ (x : List ℕ). lists_at laid o.segments ≡ lists_at laid v.before
          ++ (lists_at laid v.left ++ (x ∷ (lists_at laid v.right ++ lists_at laid v.after)))) n.is parts_are;
    }
      where
        le : LeftOf l (lists_at laid v.before) (lists_at laid v.left) v.before_signs (v.right_signs ++ v.after_signs) n.q n.qs
            (lists_at laid v.right ++ lists_at laid v.after)
        le = left_of l fits (lists_at laid v.before) (lists_at laid v.left) v.before_signs v.left_signs (v.right_signs ++ v.after_signs) n.q
            n.qs (lists_at laid v.right ++ lists_at laid v.after)
            (beside_map (sq_of laid) Under v.left v.left_signs v.left_beside) (map-map_empty (sq_of laid) v.left v.before v.no_before)
            (length-map v.before (map (sq_of laid)) ∙ v.before_many)
            (subst (λ (x : List ℕ). Chain l (v.before_signs ++ (v.left_signs ++ (v.right_signs ++ v.after_signs)))
            (lists_at laid v.before ++ (lists_at laid v.left ++ (x ∷ (lists_at laid v.right ++ lists_at laid v.after))))) n.is there)
            (subst (λ (x : List ℕ). AtLeft l (lists_at laid v.before
            ++ (lists_at laid v.left ++ (x ∷ (lists_at laid v.right ++ lists_at laid v.after))))) n.is at_wall)
            n.known

        ri : RightOf l n.q n.qs (lists_at laid v.right) (lists_at laid v.after) v.after_signs
        ri = right_of l fits n.q n.qs (lists_at laid v.right) (lists_at laid v.after) v.right_signs v.after_signs
            (beside_map (sq_of laid) Above v.right v.right_signs v.right_beside) (map-map_empty (sq_of laid) v.right v.after v.no_after)
            (length-map v.after (map (sq_of laid)) ∙ v.after_many) le.rest
