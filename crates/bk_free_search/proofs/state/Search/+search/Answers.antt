-- Each call of the search: what it hands on meets what it asks for, its number falls, and all words that are sought are met behind one of them.
use Rattle.std.proofs.Common.{Bool, IsTrue, List, [], ap, arith, false, inl, inr, length, refl, subst, sym, true}
use Rattle.std.proofs.Common.{ℕ, ◌*◌, ◌++◌, ◌+◌, ◌-◌, ◌<◌, ◌≤◌, ◌⊎◌, ◌∙◌, ◌∷◌, ◌≡◌}
use Rattle.std.proofs.lemmas.List.{length-append}
use Rattle.std.proofs.lemmas.Bool.{cases_lt}
use Rattle.bk_laws.proofs.NumberOrder.{lt_add_one-less_or_same}
use Rattle.bk_word.proofs.PlayLaws.{side_has_one_sign_at_most}
use Rattle.bk_word.proofs.StoredBytes.{order_one}
use Rattle.bk_word.specs.Outline.{has_left_wall, open_side}
use Rattle.bk_word.specs.Play.{IsComplete, outline_of}
use Rattle.bk_word.specs.Word.{Word, order_of}
use Rattle.bk_word.specs.declared.Sign.{Sign}
use Rattle.bk_word.specs.declared.Sign.TheVariants.{Above, Even, Under}
use Rattle.bk_play.specs.SmallSkeleton.{IsValleyPlace}
use Rattle.bk_layout.specs.NetWord.{IsNetBarren}
use Rattle.bk_layout.specs.NormalImage.{IsNormalSought}
use Rattle.bk_free_search.proofs.NextWords.Cutting.{normal}
use Rattle.bk_free_search.proofs.Asks.AskedNext.{few_behind}
use Rattle.bk_free_search.proofs.NextWords.LastSquare.{all_at_once_is_barren}
use Rattle.bk_free_search.proofs.NextWords.NextMoves.{HasNextMove, by_count, by_same, by_whole, is_whole}
use Rattle.bk_free_search.proofs.NextWords.NextMoves.{next_fertile, next_fits, next_move, sought_in}
use Rattle.bk_free_search.proofs.NextWords.SignPhases.{above_at_left_is_barred, evens_now, few_now, first_missing}
use Rattle.bk_free_search.proofs.NextWords.SignPhases.{last_missing, none_missing, not_whole, own_even_is_barred, whole_is_next}
use Rattle.bk_free_search.proofs.NextWords.HandedOn.{begun_with, few_steps, first_fits, handed_on, met_twice, none_met, own_few, own_wanted}
use Rattle.bk_free_search.proofs.NextWords.HandedOn.{room_for_sign, unchanged_twice, without_last}
use Rattle.bk_free_search.specs.AskedSigns.{BarsNext, BarsSigns, IsAsked, IsMoveBegun, IsNextCount, IsOwnSign, IsWithOwn}
use Rattle.bk_free_search.specs.BoardOutlines.{IsBoardOutline}
use Rattle.bk_free_search.specs.Sought.{GoesOn}
use Rattle.bk_free_search.specs.Unchanged.{IsUnchanged, MeetsAllBy}
use Rattle.bk_free_search.proofs.NextWords.WordsMet.{by_each_sign, none_by, none_from, then_by, then_kept}
use Rattle.bk_free_search.specs.declared.asking.Asked.{Asked}
use Rattle.bk_free_search.specs.declared.asking.Beside.{Beside}
use Rattle.bk_free_search.specs.declared.state.Begun.{Begun}
use Rattle.bk_free_search.specs.declared.state.Search.{Search}
use Rattle.bk_free_search.specs.declared.counts.TheConstants.{FEW, MANY}
use Rattle.bk_free_search.proofs.state.Search.+search.Goals as goal

-- while a sign between the move's own squares is to come, it has fewer
still_own : {b seen : Begun} {many : ℕ} → length b.m.signs ≤ b.next.own → (many ≡ seen.next.own → ⊥) → many ≡ length seen.m.signs → seen ≡ b
    → length b.m.signs < b.next.own
still_own own differ many same = omega (arith, own, differ, many, ap (λ (b : Begun). length b.m.signs) same, ap (λ (b : Begun). b.next.own) same)

-- a sign between the move's own squares may be the next one, and is barred if too much is asked for with it
own_sign : {s : Search} {b : Begun} {around : Beside} {asked more : Asked} {barred : Bool} (sign : Sign) → IsWithOwn s b around asked
    → length b.m.signs < b.next.own
    → ((front : Word) (signs : List Sign) → IsAsked front signs asked → open_side (has_left_wall (outline_of front)) ≤ length signs
    → IsAsked front (signs ++ sign ∷ []) more)
    → (IsTrue barred → (t : Search) (signs : List Sign) → IsMoveBegun t b around → IsAsked t.board signs more
    → open_side (has_left_wall (outline_of t.board)) ≤ length signs → length signs ≤ b.next.own → BarsSigns t.order t.board b.m.count signs)
    → IsOwnSign s b around more sign × (IsTrue barred → BarsNext s b sign)
own_sign {s = s} {b = b} sign own low asks bars = (
  record { begun = own.begun; asked_is = asks s.board b.m.signs own.asked_is own.from; own = omega (arith, low) },
  λ barred. bars barred s (b.m.signs ++ sign ∷ []) own.begun (asks s.board b.m.signs own.asked_is own.from) (omega (arith, own.from, longer))
      (omega (arith, low, longer)),
)
  where
    longer : length (b.m.signs ++ sign ∷ []) ≡ length b.m.signs + 1
    longer = length-append b.m.signs (sign ∷ [])

-- a last sign that isn't even is handed on over a call: the numbers fall, and it is barred if the test says so
last_handed_on : {W : Type 0} {n : ℕ} {s t : Search} {a b : Begun} {around : Beside} {asked : Asked} {barred : Bool} (sign : Sign) → IsUnchanged s a t b
    → 1000 * (s.order - order_of s.board) + 2 < n → W → IsWithOwn s a around asked → length a.m.signs + 1 ≡ a.next.wanted
    → (IsTrue barred → (u : Search) → IsWithOwn u b around asked → length b.m.signs + 1 ≡ b.next.wanted → (sign ≡ Even → ⊥) → BarsNext u b sign)
    → (sign ≡ Even → ⊥) → (1000 * (t.order - order_of t.board) + 2 < n)
    × (W × (IsMoveBegun t b around × ((length b.m.signs + 1 ≡ b.next.wanted) × (IsTrue barred → BarsNext t b sign))))
last_handed_on {n = n} {t = t} {around = around} {asked = asked} sign same falls within own wanted bars other = handed_on
    (λ s b. 1000 * (s.order - order_of s.board) + 2 < n) (λ s b. IsWithOwn s b around asked × (length b.m.signs + 1 ≡ b.next.wanted))
    same falls within (own, wanted) (λ then. (then.0.begun, (then.1, λ barred. bars barred t then.0 then.1 other)))

-- ---- the word of the board, and the last square

pub meet_all-meet_closed-requires : goal.meet_all-meet_closed-requires
meet_all-meet_closed-requires g t c = record { few = omega (arith, c.requires.few, c.requires.most) }

pub meet_all-returns-then-hung-from : goal.meet_all-returns-then-hung-from
meet_all-returns-then-hung-from g t c = record {
  all = λ w sought on.
      let whole = is_whole c.args.self.now.order c.args.self.now.board w sought
      (sym (c.order-hung.ensures.value ∙ ap order_of c.skel.ensures.value) ∙ c.if-hung-from.true ∙ c.from.ensures) on in
      subst (λ v. g.S.Leaves.has_met c.meet_closed.new.leaves v) (sym whole) (c.meet_closed.ensures.met (subst IsComplete whole sought.complete));
  kept = c.meet_closed.ensures.kept;
  same = refl;
}

pub meet_all-overflow_add-hung : goal.meet_all-overflow_add-hung
meet_all-overflow_add-hung g t c = omega (arith, c.order-hung.ensures.few)

pub meet_all-meet_with_last-requires : goal.meet_all-meet_with_last-requires
meet_all-meet_with_last-requires g t c = record {
  least = c.requires.least;
  most = c.requires.most;
  one = ap (λ k. k + 1) (sym (c.order-hung.ensures.value ∙ ap order_of c.skel.ensures.value)) ∙ c.if-hung-from-2.true ∙ c.from-2.ensures;
}

pub meet_all-returns-then-hung-from-2 : goal.meet_all-returns-then-hung-from-2
meet_all-returns-then-hung-from-2 g t c = record {
  all = c.meet_with_last.ensures.all;
  kept = c.meet_with_last.ensures.kept;
  same = λ i. record { board = c.meet_with_last.ensures.board i; order = c.args.self.now.order };
}

pub meet_all-with_counts-requires : goal.meet_all-with_counts-requires
meet_all-with_counts-requires g t c κs within = (
  omega (arith, c.decreases),
  (
    within,
    (
      c.requires.least,
      (
        c.requires.most,
        omega (
          arith,
          c.requires.few,
          c.if-hung-from.false,
          c.from.ensures,
          c.if-hung-from-2.false,
          c.from-2.ensures,
          c.order-hung.ensures.value,
          ap order_of c.skel.ensures.value,
        ),
      ),
    ),
  ),
)

pub meet_all-returns : goal.meet_all-returns
meet_all-returns g t c = c.with_counts.ensures

-- ---- the count of the next move

pub with_counts-stand_beside-around-requires : goal.with_counts-stand_beside-around-requires
with_counts-stand_beside-around-requires g t c = record { few = omega (arith, c.requires.few, c.requires.most) }

pub with_counts-lacks_next-requires : goal.with_counts-lacks_next-requires
with_counts-lacks_next-requires g t c = record { few = omega (arith, c.requires.few); beside = c.stand_beside-around.ensures }

pub with_counts-returns-then-lacks_next : goal.with_counts-returns-then-lacks_next
with_counts-returns-then-lacks_next g t c = none_from c.args.leaves.now (c.lacks_next.ensures c.if-lacks_next.true)

pub with_counts-overflow_cast-left : goal.with_counts-overflow_cast-left
with_counts-overflow_cast-left g t c = omega (arith, c.order.ensures.few)

pub with_counts-overflow_sub-left : goal.with_counts-overflow_sub-left
with_counts-overflow_sub-left g t c = omega (arith, c.requires.few, c.order.ensures.value, ap order_of c.skel.ensures.value)

pub with_counts-least_count-count-requires : goal.with_counts-least_count-count-requires
with_counts-least_count-count-requires g t c = record {
  word = c.skel-2.ensures.legal;
  valley = subst (λ (v : Word). IsValleyPlace v c.stand_beside-around.result.valley) (sym c.skel-2.ensures.value) c.stand_beside-around.ensures.valley_is;
}

pub with_counts-counts-init : goal.with_counts-counts-init
with_counts-counts-init g t c = record {
  same = refl;
  signs = c.not_begun-begun.ensures;
  all = λ w sought h few. absurd (next_fertile c.args.self.now.order c.args.self.now.board w h.move h.rest sought h.is
      (normal c.args.self.now.order (c.args.self.now.board ++ h.move ∷ [])
      (subst (λ (v : Word). IsNetBarren c.args.self.now.order (v ++ h.move ∷ [])) c.skel-2.ensures.value
      (c.least_count-count.ensures.barren c.args.self.now.order h.move few h.legal.some))));
  kept = none_met c.args.leaves.now;
}

pub with_counts-overflow_sub-left-in-counts : goal.with_counts-overflow_sub-left-in-counts
with_counts-overflow_sub-left-in-counts g t c = omega (arith, c.counts-test.true)

pub with_counts-begin-requires : goal.with_counts-begin-requires
with_counts-begin-requires g t c = record {
  some = omega (arith, c.counts.auto.count, c.least_count-count.ensures.some);
  left = omega (arith, c.sides_beside-sides.ensures.left, side_has_one_sign_at_most c.stand_beside-around.result.left_wall);
  right = omega (arith, c.sides_beside-sides.ensures.right, side_has_one_sign_at_most c.stand_beside-around.result.right_wall);
}

pub with_counts-with_left-requires : goal.with_counts-with_left-requires
with_counts-with_left-requires g t c κs within = handed_on
    (λ s b. 1000 * (s.order - order_of s.board) + 850 < t)
    (λ s b. IsMoveBegun s b c.stand_beside-around.result × (b.m.signs ≡ []))
    (record { search = c.counts.invariant.same; begun = refl })
    (omega (arith, c.decreases)) within (begun, none) (λ then. then)
  where
    none : c.begin.new.begun.m.signs ≡ []
    none = c.begin.ensures.signs ∙ c.counts.invariant.signs

    hung : c.order.result ≡ order_of c.args.self.now.board
    hung = c.order.ensures.value ∙ ap order_of c.skel.ensures.value

    begun : IsMoveBegun c.args.self.now c.begin.new.begun c.stand_beside-around.result
    begun = record {
      least = c.requires.least;
      most = c.requires.most;
      some = omega (arith, c.counts.auto.count, c.least_count-count.ensures.some, c.begin.ensures.count);
      fits = omega (arith, c.counts-test.true, hung, c.begin.ensures.count);
      signs = omega (arith, ap (λ (l : List Sign). length l) none);
      next_is = subst (λ k. IsNextCount c.args.self.now.order c.args.self.now.board k c.begin.new.begun.next) (sym c.begin.ensures.count)
          (c.begin.ensures.next c.args.self.now.order c.args.self.now.board c.stand_beside-around.result c.stand_beside-around.ensures
          c.sides_beside-sides.ensures.left c.sides_beside-sides.ensures.right (omega (arith, hung)));
      around_is = c.stand_beside-around.ensures;
    }

pub with_counts-counts-preserved : goal.with_counts-counts-preserved
with_counts-counts-preserved g t c = record {
  same = c.with_left.ensures.same.search ∙ c.counts.invariant.same;
  signs = ap (λ (b : Begun). b.m.signs) c.with_left.ensures.same.begun ∙ c.begin.ensures.signs ∙ c.counts.invariant.signs;
  all = λ w sought h few. elim (lt_add_one-less_or_same h.move.count c.counts.count few) [
    | inl less ↦ c.with_left.ensures.kept.kept w (c.counts.invariant.all w sought h less)
    | inr same ↦ c.with_left.ensures.all w (sought_in w c.counts.invariant.same sought)
        (by_count c.args.self.now.board c.counts.self.board w h c.begin.new.begun.m.count c.begin.new.begun.m.signs
        (ap (λ (s : Search). s.board) c.counts.invariant.same) (same ∙ sym c.begin.ensures.count) (c.begin.ensures.signs ∙ c.counts.invariant.signs))
  ];
  kept = met_twice c.counts.invariant.kept c.with_left.ensures.kept;
}

pub with_counts-counts-smaller : goal.with_counts-counts-smaller
with_counts-counts-smaller g t c = omega (arith, c.counts-test.true)

pub with_counts-returns : goal.with_counts-returns
with_counts-returns g t c = record { all = all; kept = c.counts.invariant.kept; same = c.counts.invariant.same }
  where
    all : (w : Word) → IsNormalSought c.args.self.now.order w → GoesOn c.args.self.now.board w → g.S.Leaves.has_met c.counts.leaves w
    all w sought on = cases (cases_lt (h).move.count c.counts.count)
      where
        h : HasNextMove c.args.self.now.board w
        h = next_move c.args.self.now.order c.args.self.now.board w sought (omega (arith, c.requires.few)) on

        cases : ((h).move.count < c.counts.count) ⊎ (c.counts.count ≤ (h).move.count) → g.S.Leaves.has_met c.counts.leaves w
        cases (inl less) = c.counts.invariant.all w sought h less
        cases (inr all) = absurd (next_fertile c.args.self.now.order c.args.self.now.board w (h).move (h).rest sought (h).is
            (all_at_once_is_barren c.args.self.now.order c.args.self.now.board (h).move
            (omega (arith, all, c.counts-test.false, c.order.ensures.value, ap order_of c.skel.ensures.value, c.requires.few))
            (omega (
              arith,
              all,
              next_fits c.args.self.now.order c.args.self.now.board w sought h,
              c.counts-test.false,
              c.order.ensures.value,
              ap order_of c.skel.ensures.value,
            ))))

-- ---- the first sign

pub with_left-returns-then-bars_none : goal.with_left-returns-then-bars_none
with_left-returns-then-bars_none g t c = none_by c.args.leaves.now
    (c.bars_none.ensures c.if-bars_none.true c.args.self.now c.requires.begun c.requires.none (sym c.requires.begun.around_is.left_is ∙ c.if-around.true))

pub with_left-with_own-requires : goal.with_left-with_own-requires
with_left-with_own-requires g t c κs within = (
  omega (arith, c.decreases, few_steps c.requires.begun),
  (
    within,
    record {
      begun = c.requires.begun;
      asked_is = subst (λ l. IsAsked c.args.self.now.board l c.args.around.now.before.none) (sym c.requires.none)
          c.requires.begun.around_is.before_is.none;
      from = omega (arith, ap open_side (sym c.requires.begun.around_is.left_is ∙ c.if-around.true));
      own = omega (arith, ap (λ (l : List Sign). length l) c.requires.none);
    },
  ),
)

pub with_left-returns-then-around : goal.with_left-returns-then-around
with_left-returns-then-around g t c = c.with_own.ensures

pub with_left-with_sign-requires : goal.with_left-with_sign-requires
with_left-with_sign-requires g t c κs within = (
  omega (arith, c.decreases, few_steps c.requires.begun),
  (
    within,
    (
      record {
        begun = c.requires.begun;
        asked_is = subst (λ l. IsAsked c.args.self.now.board (l ++ Even ∷ []) c.args.around.now.before.even) (sym c.requires.none)
            (c.requires.begun.around_is.before_is.even apart);
        own = first_fits c.requires.begun c.requires.none apart;
      },
      λ barred. c.bars_first_even.ensures barred c.args.self.now c.requires.begun c.requires.none apart,
    ),
  ),
)
  where
    apart : has_left_wall (outline_of c.args.self.now.board) ≡ false
    apart = sym c.requires.begun.around_is.left_is ∙ c.if-around.false

pub with_left-with_sign-requires-2 : goal.with_left-with_sign-requires-2
with_left-with_sign-requires-2 g t c κs within = handed_on
    (λ s b. 1000 * (s.order - order_of s.board) + 4 * (b.m.count + 2 - length b.m.signs) < t)
    (λ s b. IsOwnSign s b c.args.around.now c.args.around.now.before.under Under × (b.m.signs ≡ []) × (has_left_wall (outline_of s.board) ≡ false))
    c.with_sign.ensures.same (omega (arith, c.decreases, few_steps c.requires.begun)) within (
      record {
        begun = c.requires.begun;
        asked_is = subst (λ l. IsAsked c.args.self.now.board (l ++ Under ∷ []) c.args.around.now.before.under) (sym c.requires.none)
            (c.requires.begun.around_is.before_is.under apart);
        own = first_fits c.requires.begun c.requires.none apart;
      },
      c.requires.none,
      apart,
    )
    (λ then. (then.0, λ barred. c.bars_first_under.ensures barred _ then.0.begun then.1 then.2))
  where
    apart : has_left_wall (outline_of c.args.self.now.board) ≡ false
    apart = sym c.requires.begun.around_is.left_is ∙ c.if-around.false

pub with_left-returns : goal.with_left-returns
with_left-returns g t c = by_each_sign c.requires.begun.some (first_missing c.requires.begun c.requires.none apart) each
  where
    apart : has_left_wall (outline_of c.args.self.now.board) ≡ false
    apart = sym c.requires.begun.around_is.left_is ∙ c.if-around.false

    each : (s : Sign) → MeetsAllBy g.S.Leaves.has_met g.S.Leaves.fixed (c.args.begun.now.m.signs ++ s ∷ [])
        (record { search = c.args.self.now; begun = c.args.begun.now; leaves = c.args.leaves.now })
        (record { search = c.with_sign-2.new.self; begun = c.with_sign-2.new.begun; leaves = c.with_sign-2.new.leaves })
    each Above = then_kept (none_by c.args.leaves.now (above_at_left_is_barred c.args.self.now.order c.args.self.now.board c.args.begun.now.m.count
        c.args.begun.now.m.signs apart c.requires.none)) (then_kept c.with_sign.ensures c.with_sign-2.ensures)
    each Even = then_kept c.with_sign.ensures c.with_sign-2.ensures
    each Under = then_by Under c.with_sign.ensures c.with_sign-2.ensures

-- ---- those between the move's own squares

pub with_own-len-requires : goal.with_own-len-requires
with_own-len-requires g t c = omega arith

pub with_own-with_right-requires : goal.with_own-with_right-requires
with_own-with_right-requires g t c κs within = (
  omega (arith, c.decreases, c.requires.own, own_few c.requires.begun),
  (
    within,
    (
      c.requires,
      ap (λ (b : Begun). length b.m.signs) (sym c.begun.view_is) ∙ sym c.len.ensures.value ∙ c.if-len-begun.true
          ∙ ap (λ (b : Begun). b.next.own) c.begun.view_is,
    ),
  ),
)

pub with_own-returns-then-len-begun : goal.with_own-returns-then-len-begun
with_own-returns-then-len-begun g t c = c.with_right.ensures

pub with_own-with_above-requires : goal.with_own-with_above-requires
with_own-with_above-requires g t c κs within =
    (omega (arith, c.decreases), (within, (c.requires, still_own c.requires.own c.if-len-begun.false c.len.ensures.value c.begun.view_is)))

pub with_own-asked_with-with_under-requires : goal.with_own-asked_with-with_under-requires
with_own-asked_with-with_under-requires g t c = record { few = few_now MANY c.requires (omega arith); evens = evens_now c.requires }

pub with_own-asks_too_much-requires : goal.with_own-asks_too_much-requires
with_own-asks_too_much-requires g t c = record {
  few = c.asked_with-with_under.ensures.few (MANY - 1) (few_now (MANY - 1) c.requires (omega arith));
  small = few_behind c.args.around.now.behind.even (FEW + 1) MANY (omega arith) c.requires.begun.around_is.behind_is.few_even;
}

pub with_own-with_sign-requires : goal.with_own-with_sign-requires
with_own-with_sign-requires g t c κs within = handed_on
    (λ s b. 1000 * (s.order - order_of s.board) + 4 * (b.m.count + 2 - length b.m.signs) < t)
    (λ s b. IsWithOwn s b c.args.around.now c.args.asked.now × (length b.m.signs < b.next.own))
    c.with_above.ensures.same (omega (arith, c.decreases)) within
    (c.requires, still_own c.requires.own c.if-len-begun.false c.len.ensures.value c.begun.view_is)
    (λ then. own_sign Under then.0 then.1 c.asked_with-with_under.ensures.asked c.asks_too_much.ensures)

pub with_own-returns : goal.with_own-returns
with_own-returns g t c = by_each_sign c.requires.begun.some (not_whole c.args.self.now.order c.args.self.now.board c.args.begun.now.m.count
    c.args.begun.now.m.signs c.args.begun.now.next c.requires.begun.next_is (own_wanted c.requires.begun (omega (arith, low)))) each
  where
    low : length c.args.begun.now.m.signs < c.args.begun.now.next.own
    low = still_own c.requires.own c.if-len-begun.false c.len.ensures.value c.begun.view_is

    each : (s : Sign) → MeetsAllBy g.S.Leaves.has_met g.S.Leaves.fixed (c.args.begun.now.m.signs ++ s ∷ [])
        (record { search = c.args.self.now; begun = c.args.begun.now; leaves = c.args.leaves.now })
        (record { search = c.with_sign.new.self; begun = c.with_sign.new.begun; leaves = c.with_sign.new.leaves })
    each Above = then_kept c.with_above.ensures c.with_sign.ensures
    each Even = then_kept (none_by c.args.leaves.now (own_even_is_barred c.args.self.now.order c.args.self.now.board c.args.begun.now.m.count
        c.args.begun.now.m.signs c.requires.from (omega (arith, low, c.requires.begun.next_is.own_is)))) (then_kept c.with_above.ensures c.with_sign.ensures)
    each Under = then_by Under c.with_above.ensures c.with_sign.ensures

-- ---- with the sign above between two of them

pub with_above-returns-then-bars_own_above : goal.with_above-returns-then-bars_own_above
with_above-returns-then-bars_own_above g t c = none_by c.args.leaves.now
    (c.bars_own_above.ensures c.if-bars_own_above.true c.args.self.now c.args.around.now c.requires.with_own c.requires.own)

pub with_above-asked_with-with_above-requires : goal.with_above-asked_with-with_above-requires
with_above-asked_with-with_above-requires g t c =
    record { few = few_now MANY c.requires.with_own (omega arith); evens = evens_now c.requires.with_own }

pub with_above-asks_too_much-requires : goal.with_above-asks_too_much-requires
with_above-asks_too_much-requires g t c = record {
  few = c.asked_with-with_above.ensures.few (MANY - 1) (few_now (MANY - 1) c.requires.with_own (omega arith));
  small = few_behind c.args.around.now.behind.even (FEW + 1) MANY (omega arith) c.requires.with_own.begun.around_is.behind_is.few_even;
}

pub with_above-with_sign-requires : goal.with_above-with_sign-requires
with_above-with_sign-requires g t c κs within = (
  omega (arith, c.decreases),
  (within, own_sign Above c.requires.with_own c.requires.own c.asked_with-with_above.ensures.asked c.asks_too_much.ensures),
)

pub with_above-returns : goal.with_above-returns
with_above-returns g t c = c.with_sign.ensures

-- ---- those whose next sign is known

pub with_sign-returns-then-next : goal.with_sign-returns-then-next
with_sign-returns-then-next g t c = none_by c.args.leaves.now (c.requires.barred c.if-next.true)

pub with_sign-push_sign-requires : goal.with_sign-push_sign-requires
with_sign-push_sign-requires g t c = room_for_sign c.requires.own.begun (own_wanted c.requires.own.begun c.requires.own.own)

pub with_sign-with_own-requires : goal.with_sign-with_own-requires
with_sign-with_own-requires g t c κs within = (
  omega (arith, c.decreases, c.push_sign.ensures.count, longer, c.requires.own.own, own_few c.requires.own.begun),
  (
    within,
    record {
      begun = begun_with (record { m = c.push_sign.new.m; next = c.args.begun.now.next }) c.args.next.sign c.requires.own.begun c.push_sign.ensures.count
          c.push_sign.ensures.signs refl (own_wanted c.requires.own.begun c.requires.own.own);
      asked_is = subst (λ l. IsAsked c.args.self.now.board l c.args.asked.now) (sym c.push_sign.ensures.signs) c.requires.own.asked_is;
      from = omega (arith, longer, side_has_one_sign_at_most (has_left_wall (outline_of c.args.self.now.board)));
      own = omega (arith, longer, c.requires.own.own);
    },
  ),
)
  where
    longer : length c.push_sign.new.m.signs ≡ length c.args.begun.now.m.signs + 1
    longer = ap (λ (l : List Sign). length l) c.push_sign.ensures.signs ∙ length-append c.args.begun.now.m.signs (c.args.next.sign ∷ [])

pub with_sign-pop_sign-requires : goal.with_sign-pop_sign-requires
with_sign-pop_sign-requires g t c = omega (
  arith,
  ap (λ (b : Begun). length b.m.signs) c.with_own.ensures.same.begun,
  ap (λ (l : List Sign). length l) c.push_sign.ensures.signs,
  length-append c.args.begun.now.m.signs (c.args.next.sign ∷ []),
)

pub with_sign-returns : goal.with_sign-returns
with_sign-returns g t c = record {
  all = λ w sought on. c.with_own.ensures.all w sought (by_same c.push_sign.ensures.count c.push_sign.ensures.signs on);
  kept = c.with_own.ensures.kept;
  same = record {
    search = c.with_own.ensures.same.search;
    begun = λ i. record {
      m = record {
        count = (c.pop_sign.ensures.count ∙ ap (λ (b : Begun). b.m.count) c.with_own.ensures.same.begun ∙ c.push_sign.ensures.count) i;
        signs = c.pop_sign.ensures.signs c.args.begun.now.m.signs c.args.next.sign
            (ap (λ (b : Begun). b.m.signs) c.with_own.ensures.same.begun ∙ c.push_sign.ensures.signs) i;
      };
      next = (ap (λ (b : Begun). b.next) c.with_own.ensures.same.begun) i;
    };
  };
}

-- ---- the last sign

pub with_right-asks_too_much_then-requires : goal.with_right-asks_too_much_then-requires
with_right-asks_too_much_then-requires g t c = record {
  few = few_now MANY c.requires.with_own (omega arith);
  small = few_behind c.args.around.now.behind.under (FEW + 1) MANY (omega arith) c.requires.with_own.begun.around_is.behind_is.few_under;
  small_above = few_behind c.args.around.now.behind.above (FEW + 1) MANY (omega arith) c.requires.with_own.begun.around_is.behind_is.few_above;
}

pub with_right-returns-then-asks_too_much_then : goal.with_right-returns-then-asks_too_much_then
with_right-returns-then-asks_too_much_then g t c = none_by c.args.leaves.now
    (c.asks_too_much_then.ensures c.if-asks_too_much_then.true c.args.self.now c.args.begun.now.m.signs c.requires.with_own.begun
    c.requires.with_own.asked_is (none_missing c.requires.with_own.begun c.requires.own c.if-around.true))

pub with_right-with_move-requires : goal.with_right-with_move-requires
with_right-with_move-requires g t c κs within = (
  omega (arith, c.decreases),
  (
    within,
    (
      whole_is_next c.args.begun.now.m c.requires.with_own.begun refl (none_missing c.requires.with_own.begun c.requires.own c.if-around.true),
      c.requires.with_own.begun.around_is.valley_is,
    ),
  ),
)

pub with_right-returns-then-around : goal.with_right-returns-then-around
with_right-returns-then-around g t c = record {
  all = λ w sought on. c.with_move.ensures.all w sought (by_whole c.args.self.now.order c.args.self.now.board w c.args.begun.now.m sought
      (whole_is_next c.args.begun.now.m c.requires.with_own.begun refl (none_missing c.requires.with_own.begun c.requires.own c.if-around.true)).legal on);
  kept = c.with_move.ensures.kept;
  same = record { search = c.with_move.ensures.same; begun = refl };
}

pub with_right-with_last-requires : goal.with_right-with_last-requires
with_right-with_last-requires g t c κs within = (
  omega (arith, c.decreases),
  (
    within,
    (
      c.requires.with_own.begun,
      (last_missing c.requires.with_own.begun c.requires.own c.if-around.false, λ barred. let e : false ≡ true = barred in cc),
    ),
  ),
)

pub with_right-bars_last-requires : goal.with_right-bars_last-requires
with_right-bars_last-requires g t c = record {
  few = few_now (MANY - 1) c.requires.with_own (omega arith);
  evens = evens_now c.requires.with_own;
  small = few_behind c.args.around.now.behind.under (FEW + 1) MANY (omega arith) c.requires.with_own.begun.around_is.behind_is.few_under;
  small_above = few_behind c.args.around.now.behind.above (FEW + 1) MANY (omega arith) c.requires.with_own.begun.around_is.behind_is.few_above;
}

pub with_right-with_last-requires-2 : goal.with_right-with_last-requires-2
with_right-with_last-requires-2 g t c κs within = last_handed_on Above c.with_last.ensures.same (omega (arith, c.decreases)) within c.requires.with_own
    (last_missing c.requires.with_own.begun c.requires.own c.if-around.false) (λ barred. c.bars_last.ensures barred) (λ e. cc)

pub with_right-bars_last-requires-2 : goal.with_right-bars_last-requires-2
with_right-bars_last-requires-2 g t c = record {
  few = few_now (MANY - 1) c.requires.with_own (omega arith);
  evens = evens_now c.requires.with_own;
  small = few_behind c.args.around.now.behind.under (FEW + 1) MANY (omega arith) c.requires.with_own.begun.around_is.behind_is.few_under;
  small_above = few_behind c.args.around.now.behind.above (FEW + 1) MANY (omega arith) c.requires.with_own.begun.around_is.behind_is.few_above;
}

pub with_right-with_last-requires-3 : goal.with_right-with_last-requires-3
with_right-with_last-requires-3 g t c κs within = last_handed_on Under (unchanged_twice c.with_last.ensures.same c.with_last-2.ensures.same)
    (omega (arith, c.decreases)) within c.requires.with_own (last_missing c.requires.with_own.begun c.requires.own c.if-around.false)
    (λ barred. c.bars_last-2.ensures barred) (λ e. cc)

pub with_right-returns : goal.with_right-returns
with_right-returns g t c = by_each_sign c.requires.with_own.begun.some (not_whole c.args.self.now.order c.args.self.now.board
    c.args.begun.now.m.count c.args.begun.now.m.signs c.args.begun.now.next c.requires.with_own.begun.next_is
    (omega (arith, last_missing c.requires.with_own.begun c.requires.own c.if-around.false))) each
  where
    each : (s : Sign) → MeetsAllBy g.S.Leaves.has_met g.S.Leaves.fixed (c.args.begun.now.m.signs ++ s ∷ [])
        (record { search = c.args.self.now; begun = c.args.begun.now; leaves = c.args.leaves.now })
        (record { search = c.with_last-3.new.self; begun = c.with_last-3.new.begun; leaves = c.with_last-3.new.leaves })
    each Even = then_kept (then_kept c.with_last.ensures c.with_last-2.ensures) c.with_last-3.ensures
    each Above = then_kept (then_by Above c.with_last.ensures c.with_last-2.ensures) c.with_last-3.ensures
    each Under = then_by Under (then_kept c.with_last.ensures c.with_last-2.ensures) c.with_last-3.ensures

pub with_last-returns-then-next : goal.with_last-returns-then-next
with_last-returns-then-next g t c = none_by c.args.leaves.now (c.requires.barred c.if-next.true)

pub with_last-push_sign-requires : goal.with_last-push_sign-requires
with_last-push_sign-requires g t c = room_for_sign c.requires.begun (omega (arith, c.requires.last))

pub with_last-with_move-requires : goal.with_last-with_move-requires
with_last-with_move-requires g t c κs within = (
  omega (arith, c.decreases),
  (
    within,
    (
      whole_is_next c.push_sign.new.m c.requires.begun c.push_sign.ensures.count (ap (λ (l : List Sign). length l) c.push_sign.ensures.signs
          ∙ length-append c.args.begun.now.m.signs (c.args.next.sign ∷ []) ∙ c.requires.last),
      c.requires.begun.around_is.valley_is,
    ),
  ),
)

pub with_last-pop_sign-requires : goal.with_last-pop_sign-requires
with_last-pop_sign-requires g t c = omega (
  arith,
  ap (λ (l : List Sign). length l) c.push_sign.ensures.signs,
  length-append c.args.begun.now.m.signs (c.args.next.sign ∷ []),
)

pub with_last-returns : goal.with_last-returns
with_last-returns g t c = record {
  all = λ w sought on. c.with_move.ensures.all w sought (by_whole c.args.self.now.order c.args.self.now.board w c.push_sign.new.m sought
      (whole_is_next c.push_sign.new.m c.requires.begun c.push_sign.ensures.count (ap (λ (l : List Sign). length l) c.push_sign.ensures.signs
      ∙ length-append c.args.begun.now.m.signs (c.args.next.sign ∷ []) ∙ c.requires.last)).legal
      (by_same c.push_sign.ensures.count c.push_sign.ensures.signs on));
  kept = c.with_move.ensures.kept;
  same = record {
    search = c.with_move.ensures.same;
    begun = λ i. record {
      m = record {
        count = (c.pop_sign.ensures.count ∙ c.push_sign.ensures.count) i;
        signs = c.pop_sign.ensures.signs c.args.begun.now.m.signs c.args.next.sign c.push_sign.ensures.signs i;
      };
      next = c.args.begun.now.next;
    };
  };
}

-- ---- the whole move

pub with_move-bars_move-requires : goal.with_move-bars_move-requires
with_move-bars_move-requires g t c = record { next = c.requires.next; valley = c.requires.valley }

pub with_move-returns-then-bars_move : goal.with_move-returns-then-bars_move
with_move-returns-then-bars_move g t c = none_from c.args.leaves.now (c.bars_move.ensures c.if-bars_move.true)

pub with_move-play-requires : goal.with_move-play-requires
with_move-play-requires g t c = record { legal = c.requires.next.legal; few = omega (arith, c.requires.next.few, c.requires.next.most) }

pub with_move-meet_all-requires : goal.with_move-meet_all-requires
with_move-meet_all-requires g t c κs within = (
  omega (arith, c.decreases, more, c.requires.next.few, c.requires.next.legal.some),
  (within, (c.requires.next.least, (c.requires.next.most, omega (arith, more, c.requires.next.few)))),
)
  where
    more : order_of c.play.new.self ≡ order_of c.args.self.now.board + c.args.begun.now.m.count
    more = ap order_of c.play.ensures ∙ order_one c.args.self.now.board c.args.begun.now.m

pub with_move-take_back-requires : goal.with_move-take_back-requires
with_move-take_back-requires g t c = record {
  some = omega (
    arith,
    ap (λ (s : Search). length s.board) c.meet_all.ensures.same,
    ap (λ (v : Word). length v) c.play.ensures,
    length-append c.args.self.now.board (c.args.begun.now.m ∷ []),
  );
  before = subst (λ (v : Word). IsBoardOutline v c.outline-before.result)
      (sym (without_last c.args.self.now.board c.meet_all.new.self.board c.args.begun.now.m (ap (λ (s : Search). s.board) c.meet_all.ensures.same
      ∙ c.play.ensures))) c.outline-before.ensures;
}

pub with_move-returns : goal.with_move-returns
with_move-returns g t c = record {
  all = λ w sought on. c.meet_all.ensures.all w sought (subst (λ (v : Word). GoesOn v w) (sym c.play.ensures) on);
  kept = c.meet_all.ensures.kept;
  same = λ i. record {
    board = (c.take_back.ensures ∙ without_last c.args.self.now.board c.meet_all.new.self.board c.args.begun.now.m
        (ap (λ (s : Search). s.board) c.meet_all.ensures.same ∙ c.play.ensures)) i;
    order = (ap (λ (s : Search). s.order) c.meet_all.ensures.same) i;
  };
}
