-- Which signs a next move has, place by place: even or under at a left neighbour, above or under between its own squares, and so many even ones
-- that no more are needed behind them.
use Rattle.std.proofs.Common.{List, [], ap, append_assoc, arith, count_by, false, length, slice_get, subst, sym, true, ℕ}
use Rattle.std.proofs.Common.{◌++◌, ◌+◌, ◌<◌, ◌∙◌, ◌∷◌, ◌≡◌, ◌≤◌}
use Rattle.std.proofs.lemmas.List.{length-append}
use Rattle.std.proofs.lemmas.List.Sums.{count_by-le-length}
use Rattle.bk_word.proofs.PlayLaws.{side_has_one_sign_at_most}
use Rattle.bk_word.specs.Outline.{IsLegalMove, has_left_wall, open_side}
use Rattle.bk_word.specs.Play.{outline_of}
use Rattle.bk_word.specs.Signs.{is_even}
use Rattle.bk_word.specs.Word.{Move, Word}
use Rattle.bk_word.specs.declared.Sign.{Sign}
use Rattle.bk_word.specs.declared.Sign.TheVariants.{Above, Even, Under}
use Rattle.bk_layout.proofs.FreeCuts.SquaresLeft.{evens-cons}
use Rattle.bk_layout.specs.NormalImage.{IsNormalSought}
use Rattle.bk_free_search.proofs.Asks.AskedSigns.{begun_is_barred}
use Rattle.bk_free_search.proofs.NextWords.Cutting.{above_is_barred, even_is_barred, even_then_above_is_barred, normal}
use Rattle.bk_free_search.proofs.Asks.EvenSigns.{evens_append, signs_lack_evens}
use Rattle.bk_free_search.proofs.NextWords.NextMoves.{next_fertile}
use Rattle.bk_free_search.proofs.NextWords.HandedOn.{wanted_few}
use Rattle.bk_free_search.specs.AskedSigns.{BarsNext, BarsSigns, IsAsked, IsMoveBegun, IsNextCount, IsWithOwn}
use Rattle.bk_free_search.specs.AskedSigns.{NeedsLeft, StandBeside}
use Rattle.bk_free_search.specs.Sought.{GoesOnBy, IsNextMove}
use Rattle.bk_free_search.proofs.Asks.AskedNext.{few_up}
use Rattle.bk_free_search.specs.Strong.{IsFewPassed}
use Rattle.bk_free_search.specs.declared.asking.Asked.{Asked}
use Rattle.bk_free_search.specs.declared.asking.Beside.{Beside}
use Rattle.bk_free_search.specs.declared.asking.Next.{Next}
use Rattle.bk_free_search.specs.declared.state.Begun.{Begun}
use Rattle.bk_free_search.specs.declared.counts.TheConstants.{FEW, MANY}
use Rattle.bk_free_search.specs.declared.state.Search.{Search}

-- no sought word goes on by signs that are barred
pub none_goes_on_so : {n : ℕ} {front w : Word} {count : ℕ} {signs : List Sign} → BarsSigns n front count signs → IsNormalSought n w
    → GoesOnBy front count signs w → ⊥
none_goes_on_so {n = n} {front = front} {w = w} bars sought on =
    next_fertile n front w on.move on.rest sought on.is (bars.barren on.move on.more on.count_is on.signs_are)

-- at a left neighbour the first sign isn't above
pub above_at_left_is_barred : (n : ℕ) (front : Word) (count : ℕ) (signs : List Sign) → has_left_wall (outline_of front) ≡ false → signs ≡ []
    → BarsSigns n front count (signs ++ Above ∷ [])
above_at_left_is_barred n front all signs apart none = record {
  barren = λ other more count are. normal n (front ++ other ∷ []) (above_is_barred n front signs Above other more apart
      (ap (λ (l : List Sign). length l) none) (λ i. Above) (are ∙ append_assoc signs (Above ∷ []) more));
}

-- between two of the move's own squares none is even
pub own_even_is_barred : (n : ℕ) (front : Word) (count : ℕ) (signs : List Sign) → open_side (has_left_wall (outline_of front)) ≤ length signs
    → length signs + 1 < open_side (has_left_wall (outline_of front)) + count → BarsSigns n front count (signs ++ Even ∷ [])
own_even_is_barred n front all signs from to = record {
  barren = λ other more count are. normal n (front ++ other ∷ []) (even_is_barred n front signs Even all other more from to
      (λ i. Even) count (are ∙ append_assoc signs (Even ∷ []) more));
}

-- behind the sign even alone a sign above is barred
pub own_above_is_barred : (n : ℕ) (front : Word) (count : ℕ) (signs : List Sign) → 1 < count → signs ≡ Even ∷ []
    → BarsSigns n front count (signs ++ Above ∷ [])
own_above_is_barred n front all signs two even = record {
  barren = λ other more count are. normal n (front ++ other ∷ []) (even_then_above_is_barred n front (record { count = all; signs = signs }) Above other more
      (record {
        two = two;
        one = ap (λ (l : List Sign). length l) even;
        even = ap (λ (l : List Sign). slice_get l 0) even;
        above = λ i. Above;
      })
      count (are ∙ append_assoc signs (Above ∷ []) more));
}

none_even : (s : Sign) → (s ≡ Even → ⊥) → count_by is_even (s ∷ []) ≡ 0
none_even Above not = omega (arith, evens-cons Above [])
none_even Under not = omega (arith, evens-cons Under [])
none_even Even not = absurd (not (λ i. Even))

-- the sign at the left neighbour is even where the right one alone can't give as many even ones as are needed
pub left_lacks_even : (n : ℕ) (front : Word) (around : Beside) → StandBeside n front around → open_side around.right_wall < around.ahead.evens
    → (count : ℕ) (sign : Sign) → (sign ≡ Even → ⊥) → BarsSigns n front count (sign ∷ [])
left_lacks_even n front around beside lacks all sign not = record {
  barren = λ other more count are. signs_lack_evens n front (sign ∷ []) other more around.ahead.evens (open_side around.right_wall) beside.evens_are
      (omega arith) are (omega (arith, lacks, none_even sign not)) (λ _. omega (arith, ap open_side beside.right_is));
}

-- the sign at the right neighbour is even if the signs before it have too few even ones
pub right_lacks_even : {s : Search} {b : Begun} {around : Beside} (asked : Asked) → IsMoveBegun s b around
    → IsAsked s.board b.m.signs asked → asked.evens < around.ahead.evens → length b.m.signs + 1 ≡ b.next.wanted → (sign : Sign) → (sign ≡ Even → ⊥)
    → BarsNext s b sign
right_lacks_even {s = s} {b = b} {around = around} asked begun is lacks last sign not = record {
  barren = λ other more count are. signs_lack_evens s.order s.board (b.m.signs ++ sign ∷ []) other more around.ahead.evens 0
      begun.around_is.evens_are
      (omega (arith, length-append b.m.signs (sign ∷ []))) are
      (omega (arith, lacks, is.evens_are, evens_append b.m.signs (sign ∷ []), none_even sign not))
      (λ low. absurd (omega (arith, low, count, begun.next_is.wanted_is, last, length-append b.m.signs (sign ∷ []))));
}

-- where as many signs are even as there are, there is no other
pub one_even : (signs : List Sign) → length signs ≡ 1 → count_by is_even signs ≡ 1 → signs ≡ Even ∷ []
one_even [] long even = absurd (omega (arith, long))
one_even (s ∷ t ∷ signs) long even = absurd (omega (arith, long))
one_even (Even ∷ []) long even = λ i. Even ∷ []
one_even (Above ∷ []) long even = absurd (omega (arith, even, evens-cons Above []))
one_even (Under ∷ []) long even = absurd (omega (arith, even, evens-cons Under []))

-- fewer squares are left than the first signs need
pub need_is_barred : {s : Search} {b : Begun} {around : Beside} (signs : List Sign) (asked : Asked) (need : ℕ) → IsMoveBegun s b around
    → IsAsked s.board signs asked → open_side (has_left_wall (outline_of s.board)) ≤ length signs → length signs ≤ b.next.own
    → NeedsLeft asked.passed around.behind.even around.ahead.moves need → b.next.left < need → BarsSigns s.order s.board b.m.count signs
need_is_barred {b = b} signs asked need begun is from own needs less =
    begun_is_barred begun signs asked is from own (needs b.next.left less (omega (arith, begun.next_is.left_is, begun.most)))

-- where too few squares are left before the first sign of a move at the left wall, no word goes on by it
pub none_is_barred : {s : Search} {b : Begun} {around : Beside} → IsMoveBegun s b around → b.m.signs ≡ []
    → has_left_wall (outline_of s.board) ≡ true → b.next.left < around.needs.none → BarsSigns s.order s.board b.m.count b.m.signs
none_is_barred {s = s} {b = b} {around = around} begun none wall less =
    need_is_barred b.m.signs around.before.none around.needs.none begun
    (subst (λ (l : List Sign). IsAsked s.board l around.before.none) (sym none) begun.around_is.before_is.none)
    (omega (arith, ap open_side wall)) (omega (arith, ap (λ (l : List Sign). length l) none)) begun.around_is.needs_are.none less

-- where too few squares are left with this sign at a left neighbour, no word goes on by it
pub first_is_barred : {s : Search} {b : Begun} {around : Beside} (sign : Sign) (asked : Asked) (need : ℕ) → IsMoveBegun s b around
    → b.m.signs ≡ [] → has_left_wall (outline_of s.board) ≡ false → IsAsked s.board (sign ∷ []) asked
    → NeedsLeft asked.passed around.behind.even around.ahead.moves need → b.next.left < need → BarsNext s b sign
first_is_barred {s = s} {b = b} sign asked need begun none apart is needs less =
    subst (λ (l : List Sign). BarsSigns s.order s.board b.m.count (l ++ sign ∷ [])) (sym none)
    (need_is_barred (sign ∷ []) asked need begun is (omega (arith, side_has_one_sign_at_most (has_left_wall (outline_of s.board))))
    (omega (arith, begun.next_is.own_is, begun.some, ap open_side apart)) needs less)

-- a move isn't whole before its last own sign
pub not_whole : (n : ℕ) (front : Word) (count : ℕ) (signs : List Sign) (next : Next) → IsNextCount n front count next → length signs < next.wanted
    → IsLegalMove (outline_of front) (record { count = count; signs = signs }) → ⊥
not_whole n front count signs next is low legal = omega (arith, legal.signs, is.wanted_is, low)

-- at a left neighbour the first sign is still to come
pub first_missing : {s : Search} {b : Begun} {around : Beside} → IsMoveBegun s b around → b.m.signs ≡ []
    → has_left_wall (outline_of s.board) ≡ false → IsLegalMove (outline_of s.board) b.m → ⊥
first_missing begun none apart legal =
    omega (arith, legal.signs, begun.some, ap open_side apart, ap (λ (l : List Sign). length l) none)

-- at a right neighbour the last sign is still to come when those before it are there
pub last_missing : {s : Search} {b : Begun} {around : Beside} → IsMoveBegun s b around → length b.m.signs ≡ b.next.own
    → around.right_wall ≡ false → length b.m.signs + 1 ≡ b.next.wanted
last_missing begun own apart =
    omega (arith, own, begun.next_is.own_is, begun.next_is.wanted_is, ap open_side begun.around_is.right_is, ap open_side apart)

-- at the right wall no sign is still to come when the own ones are there
pub none_missing : {s : Search} {b : Begun} {around : Beside} → IsMoveBegun s b around → length b.m.signs ≡ b.next.own
    → around.right_wall ≡ true → length b.m.signs ≡ b.next.wanted
none_missing begun own wall =
    omega (arith, own, begun.next_is.own_is, begun.next_is.wanted_is, ap open_side begun.around_is.right_is, ap open_side wall)

-- a move with all its signs is a legal next one
pub whole_is_next : {s : Search} {b : Begun} {around : Beside} (m : Move) → IsMoveBegun s b around → m.count ≡ b.m.count
    → length m.signs ≡ b.next.wanted → IsNextMove s.order s.board m
whole_is_next m begun count whole = record {
  least = begun.least;
  most = begun.most;
  few = omega (arith, begun.fits, count);
  legal = record { some = omega (arith, begun.some, count); signs = omega (arith, begun.next_is.wanted_is, whole, count) };
}

-- what is barred as the first sign
pub bars_first : (n : ℕ) (front : Word) (count : ℕ) (signs : List Sign) (sign : Sign) → signs ≡ [] → BarsSigns n front count (sign ∷ [])
    → BarsSigns n front count (signs ++ sign ∷ [])
bars_first n front count signs sign none bars = subst (λ (l : List Sign). BarsSigns n front count (l ++ sign ∷ [])) (sym none) bars

-- the sign above is barred behind the sign even alone
pub own_even_then_above_is_barred : {s : Search} {b : Begun} {around : Beside} → IsMoveBegun s b around → length b.m.signs < b.next.own
    → b.m.signs ≡ Even ∷ [] → BarsNext s b Above
own_even_then_above_is_barred {s = s} {b = b} begun low even = own_above_is_barred s.order s.board b.m.count b.m.signs (omega (
  arith,
  ap (λ (l : List Sign). length l) even,
  low,
  begun.next_is.own_is,
  side_has_one_sign_at_most (has_left_wall (outline_of s.board)),
)) even

-- the numbers that are counted are small
pub few_now : {s : Search} {b : Begun} {around : Beside} {asked : Asked} (k : ℕ) → IsWithOwn s b around asked → FEW + 30 ≤ k → IsFewPassed asked.passed k
few_now {b = b} {asked = asked} k is many =
    few_up asked.passed (FEW + length b.m.signs) k (omega (arith, many, is.begun.signs, wanted_few is.begun)) is.asked_is.few

-- of the signs that a next move has so far few are even
pub evens_now : {s : Search} {b : Begun} {around : Beside} {asked : Asked} → IsWithOwn s b around asked → asked.evens ≤ MANY
evens_now {b = b} is = omega (arith, is.asked_is.evens_are, count_by-le-length is_even b.m.signs, is.begun.signs, wanted_few is.begun)
