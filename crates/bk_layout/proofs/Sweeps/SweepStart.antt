-- The first move of the sweep: all that hangs from the top.
use Rattle.std.specs.List.{AllZip}
use Rattle.std.proofs.Common.{List, Some, [], ap, arith, cond, filter, inl, inr, length, map, nat_eq, refl, replicate, slice_get, subst, suc, sym, ℕ}
use Rattle.std.proofs.Common.{◌++◌, ◌+◌, ◌-◌, ◌<◌, ◌∙◌, ◌∷◌, ◌≡◌, ◌≤◌, ◌⊎◌}
use Rattle.std.proofs.lemmas.List.{append-nil, length-replicate}
use Rattle.std.proofs.lemmas.Bool.{cases_eq}
use Rattle.std.proofs.lemmas.Option.{get_or_from_slice_get, same_Some}
use Rattle.bk_laws.proofs.Occurrences.{slice_get-of_times_positive, times, times_in}
use Rattle.bk_laws.proofs.ListPlaces.{get_append, get_some}
use Rattle.bk_laws.proofs.TestsAsNumbers.{cond_count-nat_eq_other, cond_count-nat_eq_same}
use Rattle.bk_word.specs.declared.Sign.TheVariants.{Even}
use Rattle.bk_word.specs.Outline.{IsLegalMove, start}
use Rattle.bk_word.specs.Play.{after_move, joined, numbers_from, parts, segments_apart, signs_apart}
use Rattle.bk_word.specs.Word.{Move}
use Rattle.bk_word.specs.declared.Sign.{Sign}
use Rattle.bk_word_net.proofs.Outlines.Numbering.{numbered_move, numbered_start, times_in-joined}
use Rattle.bk_word_net.proofs.Outlines.Shape.{shaped_move, shaped_start}
use Rattle.bk_layout.proofs.Sweeps.Chains.{Chain, even_neighbours, last_from, sign, sign_at, signs_of, singles, singles_wall}
use Rattle.bk_layout.proofs.Lists.SquareLists.{lists_at, map_joined, map_singles, new_numbers, new_numbers_more, sq_of, times_singles}
use Rattle.bk_layout.proofs.Sweeps.Sweep.{State, hanging_times}
use Rattle.bk_layout.proofs.Sweeps.ValleySides.{AtLeft, chain_joined, many_signs}
use Rattle.bk_layout.proofs.Sweeps.WholeRuns.{Hung, is_last}
use Rattle.bk_layout.specs.FreeWord.{HangsNoTwins, IsFreeMove}
use Rattle.bk_layout.specs.LayoutLaws.{HangsByLines, HangsNode}
use Rattle.bk_layout.specs.Layout.{AreNeighbours, Fits, HasNoTwins, IsLast, Layout}

-- nothing ends on the top
pub top_ends_none : (l : Layout) → Fits l → l.ending 0 ≡ []
top_ends_none l fits = from (l.ending 0) refl
  where
    from : (qs : List ℕ) → l.ending 0 ≡ qs → l.ending 0 ≡ []
    from [] e = e
    from (q ∷ qs) e = let h = fits.lists.ending_is 0 0 q (ap (λ (xs : List ℕ). slice_get xs 0) e) in
        absurd (omega (arith, h.1, (fits.nodes.ends_below q h.0).0))

module _ (l : Layout) (fits : Fits l) (h : Hung l 0) where
  abbrev new : List ℕ
  new = h.first ∷ h.more

  -- the first move hangs all that hangs from the top
  abbrev pub first_move : Move
  first_move = record { count = length (h.first ∷ h.more); signs = signs_of l (h.first ∷ h.more) }

  -- the first move, which hangs all that hangs from the top, is legal
  pub first_legal : IsLegalMove start first_move
  first_legal = record { some = omega arith; signs = many_signs l (h.first ∷ h.more) (omega arith) ∙ omega arith }

  -- the first move is free
  pub first_free : IsFreeMove start first_move
  first_free no_wall e = absurd (cc)

  in_top : (j z : ℕ) → slice_get (h.first ∷ h.more) j ≡ Some z → (z < l.squares) × (l.above z ≡ 0)
  in_top j z g = fits.lists.hanging_is 0 j z (ap (λ (xs : List ℕ). slice_get xs j) h.is ∙ g)

  side_by_side : (k x y : ℕ) → slice_get (h.first ∷ h.more) k ≡ Some x → slice_get (h.first ∷ h.more) (suc k) ≡ Some y → AreNeighbours (l.hanging 0) x y
  side_by_side k x y e f = (k, ap (λ (xs : List ℕ). slice_get xs k) h.is ∙ e, ap (λ (xs : List ℕ). slice_get xs (suc k)) h.is ∙ f)

  -- where the layout has no twins, it has no even sign between its squares
  pub first_no_twins : HasNoTwins l → HangsNoTwins start first_move
  first_no_twins single k within even = at_two (get_some (h.first ∷ h.more) k (omega (arith, within))) (get_some (h.first ∷ h.more) (suc k) within)
    where
      same : 0 + k ≡ k
      same = omega arith

      at_two : (x : ℕ) × (slice_get (h.first ∷ h.more) k ≡ Some x) → (y : ℕ) × (slice_get (h.first ∷ h.more) (suc k) ≡ Some y) → ⊥
      at_two (x, e) (y, f) = single 0 x y (side_by_side k x y e f)
          (even_neighbours l fits.go_on x y (in_top k x e).0 (in_top (suc k) y f).0 (
            fits.lines.between 0 x y (side_by_side k x y e f),
            sym (same_Some (sign l x y) Even (sym ((λ i. slice_get (signs_of l (h.first ∷ h.more)) (same i))
                ∙ sign_at l (h.first ∷ h.more) k x y e f) ∙ even)),
          ))

  -- the first move's squares hang along the layout's lines
  pub first_by_lines : (more : List ℕ) → HangsByLines l (sq_of ((h.first ∷ h.more) ++ more)) start first_move
  first_by_lines more = record { first = λ a e. absurd (none a e); next = next }
    where
      none : (a : ℕ) → slice_get [] 0 ≡ Some a → ⊥
      none a e = cc

      new_at : (k x : ℕ) → slice_get (h.first ∷ h.more) k ≡ Some x → (number : ℕ) → number ≡ 1 + k → sq_of ((h.first ∷ h.more) ++ more) number ≡ x
      new_at k x e number at = get_or_from_slice_get ((h.first ∷ h.more) ++ more) (number - 1) x 0
          (get_append (h.first ∷ h.more) more (number - 1) x ((λ i. slice_get (h.first ∷ h.more) (place i)) ∙ e))
        where
          place : number - 1 ≡ k
          place = omega (arith, at)

      next : (k : ℕ) → suc k < length (h.first ∷ h.more)
          → l.right (sq_of ((h.first ∷ h.more) ++ more) (0 + 1 + k)) ≡ l.left (sq_of ((h.first ∷ h.more) ++ more) (0 + 2 + k))
      next k within = at_two (get_some (h.first ∷ h.more) k (omega (arith, within))) (get_some (h.first ∷ h.more) (suc k) within)
        where
          at_two : (x : ℕ) × (slice_get (h.first ∷ h.more) k ≡ Some x) → (y : ℕ) × (slice_get (h.first ∷ h.more) (suc k) ≡ Some y)
              → l.right (sq_of ((h.first ∷ h.more) ++ more) (0 + 1 + k)) ≡ l.left (sq_of ((h.first ∷ h.more) ++ more) (0 + 2 + k))
          at_two (x, e) (y, f) = ap l.right (new_at k x e (0 + 1 + k) refl) ∙ fits.lines.between 0 x y (side_by_side k x y e f)
              ∙ ap l.left (sym (new_at (suc k) y f (0 + 2 + k) (omega arith)))

  -- the first move's squares are all that hang from the top
  pub first_by_node : (more : List ℕ) → HangsNode l (sq_of ((h.first ∷ h.more) ++ more)) start first_move
  first_by_node more = record {
    node = 0;
    low = fits.some;
    ends = sym (top_ends_none l fits);
    hangs = new_numbers_more [] new more 1 (omega arith) ∙ sym h.is;
    from_wall = λ one q e. absurd (none q (ap (λ (xs : List ℕ). slice_get xs 0) (sym (top_ends_none l fits)) ∙ e));
    to_wall = λ one q e. absurd (none_last q (subst (λ (xs : List ℕ). IsLast xs q) (top_ends_none l fits) e));
  }
    where
      none : (q : ℕ) → slice_get [] 0 ≡ Some q → ⊥
      none q e = cc

      none_last : (q : ℕ) → IsLast [] q → ⊥
      none_last q e = omega (arith, e.1)

  numbers_are : map (sq_of new) (numbers_from 1 (length new)) ≡ new
  numbers_are = new_numbers [] new 1 (omega arith)

  apart_is : lists_at new (segments_apart start first_move) ≡ singles new
  apart_is = ap (lists_at new) (append-nil (singles (numbers_from 1 (length new)))) ∙ map_singles (sq_of new) (numbers_from 1 (length new))
      ∙ ap singles numbers_are

  marks_are : signs_apart start first_move ≡ signs_of l new
  marks_are = append-nil (signs_of l new)

  after_is : lists_at new (after_move start first_move).segments ≡ joined (signs_of l new) (singles new)
  after_is = map_joined (sq_of new) (signs_apart start first_move) (segments_apart start first_move) ∙ (λ i. joined (marks_are i) (apart_is i))

  -- the first move's first square stands at the left wall
  pub left_wall : l.left h.first ≡ 0
  left_wall = fits.lines.top_left h.first (ap (λ (xs : List ℕ). slice_get xs 0) h.is)

  right_wall : l.right (last_from h.first h.more) ≡ 1
  right_wall = fits.lines.top_right (last_from h.first h.more)
      (subst (λ (xs : List ℕ). IsLast xs (last_from h.first h.more)) (sym h.is) (is_last h.first h.more))

  chain_then : Chain l (after_move start first_move).signs (lists_at new (after_move start first_move).segments)
      × AtLeft l (lists_at new (after_move start first_move).segments)
  chain_then = subst (λ (x : List (List ℕ)). Chain l (after_move start first_move).signs x × AtLeft l x) (sym after_is)
      (subst (λ (g : List Sign). Chain l (filter parts g) (joined (signs_of l new) (singles new))
      × AtLeft l (joined (signs_of l new) (singles new))) (sym marks_are)
      (chain_joined l fits (signs_of l new) (singles new) left_wall (singles_wall l h.first h.more h.known h.linked right_wall)))

  open_then : (x : ℕ) → times_in x (lists_at new (after_move start first_move).segments) ≡ times x new
  open_then x = ap (times_in x) after_is ∙ times_in-joined x (signs_of l new) (singles new) ∙ times_singles x new

  new_times : (x : ℕ) → x < l.squares → times x new ≡ cond (nat_eq (l.above x) 0) 1 0
  new_times x k = ap (times x) (sym h.is) ∙ hanging_times l fits x 0 k

  new_above : (x : ℕ) → 0 < times x new → (x < l.squares) × (l.above x ≡ 0)
  new_above x k = let g = slice_get-of_times_positive new x k in fits.lists.hanging_is 0 g.0 x (ap (λ (xs : List ℕ). slice_get xs g.0) h.is ∙ g.1)

  hung_then : (xs : List ℕ) → ((x : ℕ) → 0 < times x xs → l.above x ≡ 0) → AllZip (λ q k. slice_get (0 ∷ []) k ≡ Some (l.above q)) xs (replicate (length xs) 0)
  hung_then [] f = tt
  hung_then (x ∷ xs) f = (ap (λ (u : ℕ). Some u) (sym (f x (omega (arith, cond_count-nat_eq_same x x refl)))), hung_then xs (λ y k. f y (omega (arith, k))))

  -- after it the state of a sweep holds
  pub first_state : (s : State l (after_move start first_move)) × (s.laid ≡ h.first ∷ h.more)
  first_state = (
    record {
      laid = new;
      done = 0 ∷ [];
      shaped = shaped_move start first_move first_legal shaped_start;
      numbered = numbered_move start first_move numbered_start;
      long = sym (length-replicate first_move.count 0);
      chain = chain_then.0;
      wall = chain_then.1;
      closed = ap (λ (x : List ℕ). x ∷ []) (sym (top_ends_none l fits));
      hung = hung_then new (λ x k. (new_above x k).1);
      laid_times = λ q k. omega (arith, new_times q k);
      open_times =
          λ q k. omega (arith, open_then q, new_times q k, cond_count-nat_eq_other (l.below q) 0 (λ e. omega (arith, e, (fits.nodes.ends_below q k).0)));
      done_once = λ v. once v (cases_eq v 0);
      top = refl;
      begun = omega (arith, cond_count-nat_eq_same 0 0 refl);
      laid_low = λ q k. (new_above q k).0;
      done_low = λ v k. low v k (cases_eq v 0);
    },
    refl,
  )
    where
      once : (v : ℕ) → (v ≡ 0) ⊎ (v ≡ 0 → ⊥) → times v (0 ∷ []) ≤ 1
      once v (inl e) = omega (arith, cond_count-nat_eq_same v 0 e)
      once v (inr e) = omega (arith, cond_count-nat_eq_other v 0 e)

      low : (v : ℕ) → 0 < times v (0 ∷ []) → (v ≡ 0) ⊎ (v ≡ 0 → ⊥) → v < l.bottom
      low v k (inl e) = omega (arith, e, fits.some)
      low v k (inr e) = absurd (omega (arith, k, cond_count-nat_eq_other v 0 e))
