-- One step of the sweep: what hangs from the valley's node is hung by a legal, free move along the lines of the layout, and the state holds again.
use Rattle.bk_laws.proofs.ListPlaces.{get_after, get_append, get_front, get_last, get_map, get_some}
use Rattle.bk_laws.proofs.Occurrences.{slice_get-of_times_positive, times, times-append, times-positive_of_slice_get, times_in, times_in-append}
use Rattle.bk_laws.proofs.TestsAsNumbers.{cond_count-nat_eq_other, cond_count-nat_eq_same}
use Rattle.bk_laws.proofs.ZippedLists.{zip_append, zip_map}
use Rattle.bk_layout.proofs.Lists.SquareLists.{AreLaid, all_laid, list_more, lists_at, lists_more, map_joined, map_singles, new_numbers, new_numbers_more}
use Rattle.bk_layout.proofs.Lists.SquareLists.{sq_of, times_singles}
use Rattle.bk_layout.proofs.Sweeps.Chains.{Chain, even_neighbours, last_from, sign, sign_at, signs_of, singles}
use Rattle.bk_layout.proofs.Sweeps.Sweep.{State, ValleyAt, ending_times, hanging_times}
use Rattle.bk_layout.proofs.Sweeps.ValleySides.{AtLeft, chain_joined, many_signs, walls_of}
use Rattle.bk_layout.proofs.Sweeps.WholeRuns.{Hung, is_last}
use Rattle.bk_layout.specs.FreeWord.{HangsNoTwins, IsFreeMove}
use Rattle.bk_layout.specs.Layout.{Fits, HasNoTwins, IsFirst, IsLast, Layout}
use Rattle.bk_layout.specs.LayoutLaws.{HangsByLines, HangsNode}
use Rattle.bk_word.specs.Outline.{IsLegalMove, Outline, has_left_wall, open_side, valley_of}
use Rattle.bk_word.specs.Play.{after_move, joined, new_squares, parts, segments_apart, signs_apart}
use Rattle.bk_word.specs.Word.{Move}
use Rattle.bk_word.specs.declared.Sign.{Sign}
use Rattle.bk_word.specs.declared.Sign.TheVariants.{Even}
use Rattle.bk_word_net.proofs.Outlines.MovedParts.{apart_segments, apart_signs}
use Rattle.bk_word_net.proofs.Outlines.Numbering.{numbered_move, times_in-joined}
use Rattle.bk_word_net.proofs.Outlines.OutlineParts.{left_open, right_open, valley_is}
use Rattle.bk_word_net.proofs.Outlines.Shape.{shaped_move}
use Rattle.bk_word_net.proofs.Outlines.ValleyCut.{AtValley}
use Rattle.std.proofs.Common.{List, Some, [], ap, arith, cond, filter, inl, inr, length, map, nat_eq, refl, replicate, slice_get, subst, suc, sym, ℕ, ◌++◌}
use Rattle.std.proofs.Common.{◌+◌, ◌-◌, ◌<◌, ◌∙◌, ◌∷◌, ◌≡◌, ◌≤◌, ◌⊎◌}
use Rattle.std.proofs.lemmas.Bool.{cases_eq}
use Rattle.std.proofs.lemmas.List.{append_assoc, length-append, length-map, length-replicate, map-append}
use Rattle.std.specs.List.{AllZip}
use Rattle.std.proofs.lemmas.Option.{get_or_from_slice_get, same_Some}

module _ (l : Layout) (fits : Fits l) (o : Outline) (st : State l o) (v : AtValley o) (at : ValleyAt l o st.laid v)
    (low : l.below at.q < l.bottom) (h : Hung l (l.below at.q)) where
  abbrev node : ℕ
  node = l.below at.q

  abbrev new : List ℕ
  new = h.first ∷ h.more

  -- the next move hangs all that hangs from the valley's node
  abbrev pub move : Move
  move = record { count = length (h.first ∷ h.more); signs = signs_of l (at.left.beyond ++ (h.first ∷ (h.more ++ at.right.beyond))) }

  abbrev laid : List ℕ
  laid = st.laid

  abbrev laid_then : List ℕ
  laid_then = st.laid ++ (h.first ∷ h.more)

  left_many : length at.left.beyond ≡ length v.left
  left_many = at.left.beyond_many ∙ length-map v.left (map (sq_of laid))

  right_many : length at.right.beyond ≡ length v.right
  right_many = at.right.beyond_many ∙ length-map v.right (map (sq_of laid))

  -- the next move, which hangs all that hangs from the valley's node, is legal
  pub legal : IsLegalMove o move
  legal = record {
    some = omega arith;
    signs = omega (
      arith,
      left_many,
      right_many,
      left_open o v,
      right_open o v,
      many_signs l (at.left.beyond ++ (h.first ∷ (h.more ++ at.right.beyond)))
          (omega (arith, length-append at.left.beyond (h.first ∷ (h.more ++ at.right.beyond)))),
      length-append at.left.beyond (h.first ∷ (h.more ++ at.right.beyond)),
      length-append h.more at.right.beyond,
    );
  }

  -- the next move is free
  pub free : IsFreeMove o move
  free no_wall e = at.left.free h.first (h.more ++ at.right.beyond) (omega (arith, left_many, left_open o v, ap open_side no_wall)) e

  -- the sign between two of the squares
  pub no_twins : HasNoTwins l → HangsNoTwins o move
  no_twins single k within even = at_two (get_some (h.first ∷ h.more) k (omega (arith, within))) (get_some (h.first ∷ h.more) (suc k) within)
    where
      at_two : (x : ℕ) × (slice_get (h.first ∷ h.more) k ≡ Some x) → (y : ℕ) × (slice_get (h.first ∷ h.more) (suc k) ≡ Some y) → ⊥
      at_two (x, e) (y, f) = single node x y (k, ap (λ (xs : List ℕ). slice_get xs k) h.is ∙ e, ap (λ (xs : List ℕ). slice_get xs (suc k)) h.is ∙ f)
          (even_neighbours l fits.go_on x y (in_node k x e).0 (in_node (suc k) y f).0 (
            fits.lines.between node x y (
              k,
              ap (λ (xs : List ℕ). slice_get xs k) h.is
                  ∙ e,
              ap (λ (xs : List ℕ). slice_get xs (suc k)) h.is ∙ f,
            ),
            sym (same_Some (sign l x y) Even (sym there ∙ even)),
          ))
        where
          in_node : (j z : ℕ) → slice_get (h.first ∷ h.more) j ≡ Some z → (z < l.squares) × (l.above z ≡ node)
          in_node j z g = fits.lists.hanging_is node j z (ap (λ (xs : List ℕ). slice_get xs j) h.is ∙ g)

          side : open_side (has_left_wall o) + k ≡ length at.left.beyond + k
          side = omega (arith, left_open o v, left_many)

          deep : (j z : ℕ) → slice_get (h.first ∷ h.more) j ≡ Some z
              → slice_get (at.left.beyond ++ (h.first ∷ (h.more ++ at.right.beyond))) (length at.left.beyond + j) ≡ Some z
          deep j z g = get_after at.left.beyond (h.first ∷ (h.more ++ at.right.beyond)) j (length at.left.beyond + j) refl
              ∙ get_append (h.first ∷ h.more) at.right.beyond j z g

          there : slice_get (signs_of l (at.left.beyond ++ (h.first ∷ (h.more ++ at.right.beyond)))) (open_side (has_left_wall o) + k) ≡ Some (sign l x y)
          there = (λ i. slice_get (signs_of l (at.left.beyond ++ (h.first ∷ (h.more ++ at.right.beyond)))) (side i))
              ∙ sign_at l (at.left.beyond ++ (h.first ∷ (h.more ++ at.right.beyond))) (length at.left.beyond + k) x y (deep k x e)
              ((λ i. slice_get (at.left.beyond ++ (h.first ∷ (h.more ++ at.right.beyond))) (next i)) ∙ deep (suc k) y f)
            where
              next : suc (length at.left.beyond + k) ≡ length at.left.beyond + suc k
              next = omega arith

  -- ---- the chain

  first_there : IsFirst (l.ending node) at.q
  first_there = at.left.first

  last_there : IsLast (l.ending node) (last_from at.q at.qs)
  last_there = subst (λ (xs : List ℕ). IsLast xs (last_from at.q at.qs)) (sym at.whole) (is_last at.q at.qs)

  -- the line at the left of the new squares is that at the left of the valley
  pub left_line : l.left h.first ≡ l.left at.q
  left_line = fits.lines.same_left node at.q h.first first_there (ap (λ (xs : List ℕ). slice_get xs 0) h.is)

  -- the line at the right of the new squares is that at the right of the valley
  pub right_line : l.right (last_from h.first h.more) ≡ l.right (last_from at.q at.qs)
  right_line = fits.lines.same_right node (last_from at.q at.qs) (last_from h.first h.more) last_there
      (subst (λ (xs : List ℕ). IsLast xs (last_from h.first h.more)) (sym h.is) (is_last h.first h.more))

  -- what stands open is laid
  pub laid_before : AreLaid laid o.segments
  laid_before m k = all_laid o st.numbered st.laid st.long m (omega (arith, k))

  -- a square stands in the open segments as often as in their parts
  pub parts_times : (m : ℕ) → times_in m o.segments ≡ times_in m v.before + (times_in m v.left + (times m v.valley + (times_in m v.right + times_in m v.after)))
  parts_times m = ap (times_in m) v.segments
      ∙ omega (
        arith,
        times_in-append m v.before (v.left ++ (v.valley ∷ (v.right ++ v.after))),
        times_in-append m v.left (v.valley ∷ (v.right ++ v.after)),
        times_in-append m v.right v.after,
      )

  -- the squares stand along lines, whatever is laid later
  pub by_lines : (more : List ℕ) → HangsByLines l (sq_of (laid_then ++ more)) o move
  by_lines more = record { first = first; next = next }
    where
      new_at : (k x : ℕ) → slice_get new k ≡ Some x → (number : ℕ) → number ≡ length o.hung + 1 + k → sq_of (laid_then ++ more) number ≡ x
      new_at k x e number at = get_or_from_slice_get (laid_then ++ more) (number - 1) x 0
          (get_append laid_then more (number - 1) x (get_after laid new k (number - 1) (omega (arith, at, st.long)) ∙ e))

      first : (a : ℕ) → slice_get (valley_of o) 0 ≡ Some a → l.left (sq_of (laid_then ++ more) (length o.hung + 1)) ≡ l.left (sq_of (laid_then ++ more) a)
      first a e = ap l.left (new_at 0 h.first refl (length o.hung + 1) (omega arith)) ∙ left_line
          ∙ ap l.left (sym (get_front laid_then more (a - 1) 0 (omega (arith, in_range.0, in_range.1, length-append laid new))
          ∙ get_front laid new (a - 1) 0 (omega (arith, in_range.0, in_range.1)) ∙ square))
        where
          in_valley : slice_get v.valley 0 ≡ Some a
          in_valley = ap (λ (xs : List ℕ). slice_get xs 0) (sym (valley_is o v)) ∙ e

          in_range : (1 ≤ a) × (a ≤ length laid)
          in_range = laid_before a (omega (arith, parts_times a, times-positive_of_slice_get v.valley 0 a in_valley))

          square : sq_of laid a ≡ at.q
          square = same_Some (sq_of laid a) at.q (sym (get_map (sq_of laid) v.valley 0 a in_valley) ∙ ap (λ (xs : List ℕ). slice_get xs 0) at.is)

      next : (k : ℕ) → suc k < length new → l.right (sq_of (laid_then ++ more) (length o.hung + 1 + k))
          ≡ l.left (sq_of (laid_then ++ more) (length o.hung + 2 + k))
      next k within = at_two (get_some new k (omega (arith, within))) (get_some new (suc k) within)
        where
          at_two : (x : ℕ) × (slice_get new k ≡ Some x) → (y : ℕ) × (slice_get new (suc k) ≡ Some y)
              → l.right (sq_of (laid_then ++ more) (length o.hung + 1 + k)) ≡ l.left (sq_of (laid_then ++ more) (length o.hung + 2 + k))
          at_two (x, e) (y, f) = ap l.right (new_at k x e (length o.hung + 1 + k) refl)
              ∙ fits.lines.between node x y (k, ap (λ (xs : List ℕ). slice_get xs k) h.is ∙ e, ap (λ (xs : List ℕ). slice_get xs (suc k)) h.is ∙ f)
              ∙ ap l.left (sym (new_at (suc k) y f (length o.hung + 2 + k) (omega arith)))

  -- the valley is all that ends on its node, and the new squares are all that hangs from it
  pub by_node : (more : List ℕ) → HangsNode l (sq_of (laid_then ++ more)) o move
  by_node more = record {
    node = node;
    low = low;
    ends = ap (map (sq_of (laid_then ++ more))) (valley_is o v)
        ∙ (λ i. map (sq_of (append_assoc laid new more i)) v.valley)
        ∙ list_more laid (new ++ more) v.valley (λ m k. laid_before m (omega (arith, k, parts_times m)))
        ∙ at.is ∙ sym at.whole;
    hangs = new_numbers_more laid new more (length o.hung + 1) (omega (arith, st.long)) ∙ sym h.is;
    from_wall = λ one. (at_walls one).0;
    to_wall = λ one. (at_walls one).1;
  }
    where
      alone : (a b c : List (List ℕ)) (s : List ℕ) → length (a ++ (b ++ (s ∷ c))) ≡ 1 → a ++ (b ++ (s ∷ c)) ≡ s ∷ []
      alone (x ∷ a) b c s e = absurd (omega (arith, e, length-append a (b ++ (s ∷ c)), length-append b (s ∷ c)))
      alone [] (x ∷ b) c s e = absurd (omega (arith, e, length-append b (s ∷ c)))
      alone [] [] (x ∷ c) s e = absurd (omega (arith, e))
      alone [] [] [] s e = refl

      at_walls : length o.segments ≡ 1 → ((q : ℕ) → IsFirst (l.ending node) q → l.left q ≡ 0) × ((q : ℕ) → IsLast (l.ending node) q → l.right q ≡ 1)
      at_walls one = walls_of l o.signs (l.ending node) (subst (λ (x : List (List ℕ)). Chain l o.signs x) cut st.chain)
          (subst (λ (x : List (List ℕ)). AtLeft l x) cut st.wall)
        where
          cut : lists_at laid o.segments ≡ l.ending node ∷ []
          cut = at.cut ∙ alone (lists_at laid v.before) (lists_at laid v.left) (lists_at laid v.right ++ lists_at laid v.after) (at.q ∷ at.qs)
              (ap length (sym at.cut) ∙ length-map o.segments (map (sq_of laid)) ∙ one) ∙ ap (λ (x : List ℕ). x ∷ []) (sym at.whole)

  -- the move of this step
  abbrev step : Move
  step = move

  abbrev apart : List (List ℕ)
  apart = lists_at st.laid v.before ++ (lists_at st.laid v.left
      ++ ((h.first ∷ []) ∷ (singles h.more ++ (lists_at st.laid v.right ++ lists_at st.laid v.after))))

  abbrev apart_marks : List Sign
  apart_marks = v.before_signs ++ (signs_of l (at.left.beyond ++ (h.first ∷ (h.more ++ at.right.beyond))) ++ v.after_signs)

  chain_apart : Chain l apart_marks apart × AtLeft l apart
  chain_apart = at.left.hang h.first [] (h.more ++ at.right.beyond)
      (singles h.more ++ (lists_at st.laid v.right ++ lists_at st.laid v.after)) v.after_signs (left_line)
      (at.right.hang h.first h.more h.known h.linked (right_line))

  -- ---- the outline after the move, in squares

  same_before : lists_at laid_then v.before ≡ lists_at laid v.before
  same_before = lists_more laid new v.before (λ m k. laid_before m (omega (arith, k, parts_times m)))

  same_left : lists_at laid_then v.left ≡ lists_at laid v.left
  same_left = lists_more laid new v.left (λ m k. laid_before m (omega (arith, k, parts_times m)))

  same_right : lists_at laid_then v.right ≡ lists_at laid v.right
  same_right = lists_more laid new v.right (λ m k. laid_before m (omega (arith, k, parts_times m)))

  same_after : lists_at laid_then v.after ≡ lists_at laid v.after
  same_after = lists_more laid new v.after (λ m k. laid_before m (omega (arith, k, parts_times m)))

  new_are : map (sq_of laid_then) (new_squares o step) ≡ new
  new_are = new_numbers laid new (length o.hung + 1) (omega (arith, st.long))

  news_are : lists_at laid_then (singles (new_squares o step)) ≡ singles new
  news_are = map_singles (sq_of laid_then) (new_squares o step) ∙ ap singles new_are

  apart_is : lists_at laid_then (segments_apart o step) ≡ apart
  apart_is = ap (lists_at laid_then) (apart_segments o v step (legal))
      ∙ map-append (map (sq_of laid_then)) v.before ((v.left ++ (singles (new_squares o step) ++ v.right)) ++ v.after)
      ∙ ap (λ (x : List (List ℕ)). lists_at laid_then v.before ++ x)
      (map-append (map (sq_of laid_then)) (v.left ++ (singles (new_squares o step) ++ v.right)) v.after
      ∙ ap (λ (x : List (List ℕ)). x ++ lists_at laid_then v.after) (map-append (map (sq_of laid_then)) v.left (singles (new_squares o step) ++ v.right)
      ∙ ap (λ (x : List (List ℕ)). lists_at laid_then v.left ++ x) (map-append (map (sq_of laid_then)) (singles (new_squares o step)) v.right)))
      ∙ (λ i. same_before i ++ ((same_left i ++ (news_are i ++ same_right i)) ++ same_after i))
      ∙ regroup (lists_at laid v.before) (lists_at laid v.left) (singles new) (lists_at laid v.right) (lists_at laid v.after)
    where
      regroup : (a b c d e : List (List ℕ)) → a ++ ((b ++ (c ++ d)) ++ e) ≡ a ++ (b ++ (c ++ (d ++ e)))
      regroup a b c d e = simp append_assoc

  marks_are : signs_apart o step ≡ apart_marks
  marks_are = apart_signs o v step (legal)

  -- the segments after the move are those apart, joined where the signs are even
  pub after_is : lists_at laid_then (after_move o step).segments ≡ joined apart_marks apart
  after_is = map_joined (sq_of laid_then) (signs_apart o step) (segments_apart o step) ∙ (λ i. joined (marks_are i) (apart_is i))

  -- the open squares after the move are a chain from wall to wall, with its signs between
  pub chain_then : Chain l (after_move o step).signs (lists_at laid_then (after_move o step).segments) × AtLeft l (lists_at laid_then (after_move o
      step).segments)
  chain_then = subst (λ (x : List (List ℕ)). Chain l (after_move o step).signs x × AtLeft l x) (sym after_is)
      (subst (λ (g : List Sign). Chain l (filter parts g) (joined apart_marks apart) × AtLeft l (joined apart_marks apart)) (sym marks_are)
      (chain_joined l fits apart_marks apart chain_apart.1 chain_apart.0))

  -- ---- the counts

  open_before : (x : ℕ) → times_in x (lists_at laid o.segments)
      ≡ times_in x (lists_at laid v.before) + (times_in x (lists_at laid v.left)
      + (times x (at.q ∷ at.qs) + (times_in x (lists_at laid v.right) + times_in x (lists_at laid v.after))))
  open_before x = ap (times_in x) at.cut ∙ omega (
    arith,
    times_in-append x (lists_at laid v.before) (lists_at laid v.left ++ ((at.q ∷ at.qs) ∷ (lists_at laid v.right ++ lists_at laid v.after))),
    times_in-append x (lists_at laid v.left) ((at.q ∷ at.qs) ∷ (lists_at laid v.right ++ lists_at laid v.after)),
    times_in-append x (lists_at laid v.right) (lists_at laid v.after),
  )

  open_then : (x : ℕ) → times_in x (lists_at laid_then (after_move o step).segments)
      ≡ times_in x (lists_at laid v.before) + (times_in x (lists_at laid v.left)
      + (times x new + (times_in x (lists_at laid v.right) + times_in x (lists_at laid v.after))))
  open_then x = ap (times_in x) (after_is) ∙ times_in-joined x apart_marks apart ∙ omega (
    arith,
    times_in-append x (lists_at laid v.before) (lists_at laid v.left ++ (singles new ++ (lists_at laid v.right ++ lists_at laid v.after))),
    times_in-append x (lists_at laid v.left) (singles new ++ (lists_at laid v.right ++ lists_at laid v.after)),
    times_in-append x (singles new) (lists_at laid v.right ++ lists_at laid v.after),
    times_in-append x (lists_at laid v.right) (lists_at laid v.after),
    times_singles x new,
  )

  new_times : (x : ℕ) → x < l.squares → times x new ≡ cond (nat_eq (l.above x) node) 1 0
  new_times x k = ap (times x) (sym h.is) ∙ hanging_times l fits x node k

  old_times : (x : ℕ) → x < l.squares → times x (at.q ∷ at.qs) ≡ cond (nat_eq (l.below x) node) 1 0
  old_times x k = ap (times x) (sym at.whole) ∙ ending_times l fits x node k

  abbrev done_then : List ℕ
  done_then = st.done ++ (l.below at.q ∷ [])

  done_more : (u : ℕ) → times u done_then ≡ times u st.done + cond (nat_eq u node) 1 0
  done_more u = omega (arith, times-append u st.done (node ∷ []))

  -- the node wasn't closed before
  fresh : times node st.done ≡ 0
  fresh = omega (arith, st.open_times at.q at.known, open_before at.q, cond_count-nat_eq_same at.q at.q refl, st.done_once (l.above at.q))

  hung_then : (xs : List ℕ) → ((x : ℕ) → 0 < times x xs → l.above x ≡ node)
      → AllZip (λ q k. slice_get done_then k ≡ Some (l.above q)) xs (replicate (length xs) (length o.closed))
  hung_then [] f = tt
  hung_then (x ∷ xs) f = (there, hung_then xs (λ y k. f y (omega (arith, k))))
    where
      many : length o.closed ≡ length st.done
      many = sym (length-map o.closed (map (sq_of st.laid))) ∙ ap length st.closed ∙ length-map st.done l.ending

      there : slice_get done_then (length o.closed) ≡ Some (l.above x)
      there =
          (λ i. slice_get done_then (many i)) ∙ get_last st.done node [] ∙ ap (λ (u : ℕ). Some u) (sym (f x (omega (arith, cond_count-nat_eq_same x x refl))))

  new_above : (x : ℕ) → 0 < times x new → (x < l.squares) × (l.above x ≡ node)
  new_above x k = let g = slice_get-of_times_positive new x k in fits.lists.hanging_is node g.0 x (ap (λ (xs : List ℕ). slice_get xs g.0) h.is ∙ g.1)

  closed_then : lists_at laid_then (after_move o step).closed ≡ map l.ending done_then
  closed_then = map-append (map (sq_of laid_then)) o.closed (valley_of o ∷ [])
      ∙ (λ i. (lists_more laid new o.closed (λ m k. all_laid o st.numbered st.laid st.long m (omega (arith, k))) ∙ st.closed) i ++ (valley i ∷ []))
      ∙ sym (map-append l.ending st.done (node ∷ []))
    where
      one : lists_at laid_then (v.valley ∷ []) ≡ lists_at laid (v.valley ∷ [])
      one = lists_more laid new (v.valley ∷ []) (λ m k. laid_before m (omega (arith, k, parts_times m)))

      head : (x y : List ℕ) → ◌≡◌ {A = List (List ℕ)} (x ∷ []) (y ∷ []) → x ≡ y
      head x y e = cc

      valley : map (sq_of laid_then) (valley_of o) ≡ l.ending node
      valley = ap (map (sq_of laid_then)) (valley_is o v) ∙ head (map (sq_of laid_then) v.valley) (map (sq_of laid) v.valley) one ∙ at.is ∙ sym at.whole

  -- after it the state holds again, with one node more closed
  pub state_then : (s : State l (after_move o step)) × (length s.done ≡ suc (length st.done)) × (s.laid ≡ laid_then)
  state_then = (
    record {
      laid = laid_then;
      done = done_then;
      shaped = shaped_move o step (legal) st.shaped;
      numbered = numbered_move o step st.numbered;
      long = omega (
        arith,
        st.long,
        length-append st.laid new,
        length-append o.hung (replicate step.count (length o.closed)),
        length-replicate step.count (length o.closed),
      );
      chain = (chain_then).0;
      wall = (chain_then).1;
      closed = closed_then;
      hung = zip_append (λ q k. slice_get done_then k ≡ Some (l.above q)) st.laid new o.hung (replicate step.count (length o.closed))
          (zip_map (λ q k. slice_get st.done k ≡ Some (l.above q)) (λ q k. slice_get done_then k ≡ Some (l.above q))
          (λ q k e. get_append st.done (node ∷ []) k (l.above q) e) st.laid o.hung st.hung)
          (hung_then new (λ x k. (new_above x k).1));
      laid_times = λ q k. omega (arith, times-append q st.laid new, new_times q k, st.laid_times q k, done_more (l.above q));
      open_times = λ q k. omega (
        arith,
        open_then q,
        new_times q k,
        open_before q,
        old_times q k,
        st.open_times q k,
        done_more (l.above q),
        done_more (l.below q),
      );
      done_once = λ u. once u (cases_eq u node);
      top = get_append st.done (node ∷ []) 0 0 st.top;
      begun = omega (arith, st.begun, done_more 0, cond_count-nat_eq_other 0 node (λ e. omega (arith, e, (fits.nodes.ends_below at.q at.known).0)));
      laid_low = λ q k. low_laid q (two (times q st.laid) (times q new) (omega (arith, k, times-append q st.laid new)));
      done_low = λ u k. low_done u k (cases_eq u node);
    },
    omega (arith, length-append st.done (node ∷ [])),
    refl,
  )
    where
      once : (u : ℕ) → (u ≡ node) ⊎ (u ≡ node → ⊥) → times u done_then ≤ 1
      once u (inl e) = omega (arith, done_more u, cond_count-nat_eq_same u node e, ap (λ (w : ℕ). times w st.done) e, fresh)
      once u (inr e) = omega (arith, done_more u, cond_count-nat_eq_other u node e, st.done_once u)

      two : (a b : ℕ) → 0 < a + b → (0 < a) ⊎ (0 < b)
      two a b h = grind arith

      low_laid : (q : ℕ) → (0 < times q st.laid) ⊎ (0 < times q new) → q < l.squares
      low_laid q (inl k) = st.laid_low q k
      low_laid q (inr k) = (new_above q k).0

      low_done : (u : ℕ) → 0 < times u done_then → (u ≡ node) ⊎ (u ≡ node → ⊥) → u < l.bottom
      low_done u k (inl e) = omega (arith, e, low)
      low_done u k (inr e) = st.done_low u (omega (arith, k, done_more u, cond_count-nat_eq_other u node e))
