-- What the play of legal moves keeps of an outline: a sign that parts between each two segments, no segment without
-- squares but the top, and each square that was hung in just one segment.
use Rattle.std.specs.List.{AllByRecursion, concat}
use Rattle.std.proofs.Common.{List, [], ap, arith, filter, inl, inr, length, map, refl, replicate, subst, suc, sym, ℕ, ◌++◌, ◌+◌, ◌<◌, ◌∙◌, ◌∷◌, ◌≡◌, ◌≤◌, ◌⊎◌}
use Rattle.std.proofs.lemmas.List.{length-append, length-replicate}
use Rattle.std.proofs.lemmas.List.Folds.{concat-append}
use Rattle.bk_laws.proofs.AllOfLists.{all_append, all_left, all_right}
use Rattle.bk_laws.proofs.ListsOfLists.{concat-singletons}
use Rattle.bk_word.proofs.PlayLists.{numbers-length}
use Rattle.bk_word.proofs.StoredBytes.{order_more}
use Rattle.bk_word.specs.Outline.{IsLegalMove, Outline, start, valley_of}
use Rattle.bk_word.specs.Play.{AreLegalFrom, after_move, after_moves, before_first_list, joined, new_squares, parts, segments_apart, signs_apart}
use Rattle.bk_word.specs.Word.{Move, Word, order_of}
use Rattle.bk_word.specs.declared.Sign.{Sign}
use Rattle.bk_word.specs.declared.Sign.TheVariants.{Above, Even, Under}
use Rattle.bk_word_net.proofs.Outlines.BottomChain.{concat-joined}
use Rattle.bk_word_net.proofs.Outlines.OutlineParts.{many_segments, valley_is}
use Rattle.bk_word_net.proofs.Outlines.MovedParts.{apart_segments, apart_signs, many_between}
use Rattle.bk_word_net.proofs.Outlines.ValleyCut.{AllPart, AtValley, at_valley}

-- each segment has a square
abbrev pub AllFilled : List (List ℕ) → Type 0
AllFilled segments = AllByRecursion (λ s. 0 < length s) segments

-- a sign between each two segments, each of which parts, and no segment empty but the top
pub record Shaped (o : Outline) : Type 0 where
  pub parted : AllPart o.signs
  pub many : length o.segments ≡ length o.signs + 1
  pub filled : (length o.segments ≡ 1) ⊎ AllFilled o.segments
  pub counted : length (concat o.closed) + length (concat o.segments) ≡ length o.hung

-- the start is so
pub shaped_start : Shaped start
shaped_start = record { parted = tt; many = refl; filled = inl refl; counted = refl }

filter_parts : (signs : List Sign) → AllPart (filter parts signs)
filter_parts [] = tt
filter_parts (Above ∷ signs) = (refl, filter_parts signs)
filter_parts (Even ∷ signs) = filter_parts signs
filter_parts (Under ∷ signs) = (refl, filter_parts signs)

before_many : (s : List ℕ) (l : List (List ℕ)) → 0 < length l → length (before_first_list s l) ≡ length l
before_many s [] some = absurd (omega arith)
before_many s (t ∷ l) some = refl

-- joined segments are one more than the signs that part
pub joined_many : (signs : List Sign) (segments : List (List ℕ)) → length segments ≡ length signs + 1
    → length (joined signs segments) ≡ length (filter parts signs) + 1
joined_many signs [] many = absurd (omega arith)
joined_many [] (s ∷ []) many = refl
joined_many [] (s ∷ t ∷ segments) many = absurd (omega arith)
joined_many (Above ∷ signs) (s ∷ segments) many = ap suc (joined_many signs segments (omega arith)) ∙ omega arith
joined_many (Under ∷ signs) (s ∷ segments) many = ap suc (joined_many signs segments (omega arith)) ∙ omega arith
joined_many (Even ∷ signs) (s ∷ segments) many = let e = joined_many signs segments (omega arith) in
    before_many s (joined signs segments) (omega (arith, e)) ∙ e

before_filled : (s : List ℕ) (l : List (List ℕ)) → 0 < length s → AllFilled l → AllFilled (before_first_list s l)
before_filled s [] some all = (some, tt)
before_filled s (t ∷ l) some all = (omega (arith, length-append s t, some), all.1)

joined_filled : (signs : List Sign) (segments : List (List ℕ)) → AllFilled segments → AllFilled (joined signs segments)
joined_filled signs [] all = tt
joined_filled [] (s ∷ segments) all = all
joined_filled (Above ∷ signs) (s ∷ segments) all = (all.0, joined_filled signs segments all.1)
joined_filled (Under ∷ signs) (s ∷ segments) all = (all.0, joined_filled signs segments all.1)
joined_filled (Even ∷ signs) (s ∷ segments) all = before_filled s (joined signs segments) all.0 (joined_filled signs segments all.1)

filled_none : (l : List (List ℕ)) → length l ≡ 0 → AllFilled l
filled_none [] e = tt
filled_none (s ∷ l) e = absurd (omega arith)

filled_singles : (numbers : List ℕ) → AllFilled (map (λ q. q ∷ []) numbers)
filled_singles [] = tt
filled_singles (n ∷ numbers) = (omega arith, filled_singles numbers)

-- where each segment has a square, there are at most as many segments as squares
pub filled_many : (segments : List (List ℕ)) → AllFilled segments → length segments ≤ length (concat segments)
filled_many [] all = omega arith
filled_many (s ∷ segments) all = omega (arith, all.0, filled_many segments all.1, length-append s (concat segments))

-- the segments beside the valley, and those before and behind, have squares
pub record Filled (o : Outline) (v : AtValley o) : Type 0 where
  pub before : AllFilled v.before
  pub left : AllFilled v.left
  pub right : AllFilled v.right
  pub after : AllFilled v.after

-- where no segment is empty, none is at the valley
pub filled_parts : (o : Outline) (v : AtValley o) → Shaped o → Filled o v
filled_parts o v shaped = cases shaped.filled
  where
    cases : (length o.segments ≡ 1) ⊎ AllFilled o.segments → Filled o v
    cases (inl one) = record {
      before = filled_none v.before (omega (arith, one, many_segments o v));
      left = filled_none v.left (omega (arith, one, many_segments o v));
      right = filled_none v.right (omega (arith, one, many_segments o v));
      after = filled_none v.after (omega (arith, one, many_segments o v));
    }
    cases (inr all) = record {
      before = all_left (λ s. 0 < length s) v.before (v.left ++ (v.valley ∷ (v.right ++ v.after))) whole;
      left = all_left (λ s. 0 < length s) v.left (v.valley ∷ (v.right ++ v.after)) back;
      right = all_left (λ s. 0 < length s) v.right v.after (all_right (λ s. 0 < length s) v.left (v.valley ∷ (v.right ++ v.after)) back).1;
      after = all_right (λ s. 0 < length s) v.right v.after (all_right (λ s. 0 < length s) v.left (v.valley ∷ (v.right ++ v.after)) back).1;
    }
      where
        whole : AllFilled (v.before ++ (v.left ++ (v.valley ∷ (v.right ++ v.after))))
        whole = subst AllFilled v.segments all

        back : AllFilled (v.left ++ (v.valley ∷ (v.right ++ v.after)))
        back = all_right (λ s. 0 < length s) v.before (v.left ++ (v.valley ∷ (v.right ++ v.after))) whole

-- a shaped outline is cut at its leftmost valley
pub valley_in : (o : Outline) → Shaped o → AtValley o
valley_in o shaped = at_valley o shaped.parted shaped.many

-- after a move each segment has a square
pub filled_move : (o : Outline) (m : Move) → IsLegalMove o m → Shaped o → AllFilled (after_move o m).segments
filled_move o m legal shaped = subst (λ (l : List (List ℕ)). AllFilled (joined (signs_apart o m) l)) (sym (apart_segments o v m legal))
    (joined_filled (signs_apart o m) (v.before ++ ((v.left ++ (map (λ q. q ∷ []) (new_squares o m) ++ v.right)) ++ v.after))
    (all_append (λ s. 0 < length s) v.before ((v.left ++ (map (λ q. q ∷ []) (new_squares o m) ++ v.right)) ++ v.after) f.before
    (all_append (λ s. 0 < length s) (v.left ++ (map (λ q. q ∷ []) (new_squares o m) ++ v.right)) v.after
    (all_append (λ s. 0 < length s) v.left (map (λ q. q ∷ []) (new_squares o m) ++ v.right) f.left
    (all_append (λ s. 0 < length s) (map (λ q. q ∷ []) (new_squares o m)) v.right (filled_singles (new_squares o m)) f.right)) f.after)))
  where
    v : AtValley o
    v = valley_in o shaped

    f : Filled o v
    f = filled_parts o v shaped

-- a legal move keeps this
pub shaped_move : (o : Outline) (m : Move) → IsLegalMove o m → Shaped o → Shaped (after_move o m)
shaped_move o m legal shaped = record {
  parted = filter_parts (signs_apart o m);
  many = joined_many (signs_apart o m) (segments_apart o m) apart_many;
  filled = inr (filled_move o m legal shaped);
  counted = counted;
}
  where
    v : AtValley o
    v = valley_in o shaped

    between : length (v.left ++ (map (λ q. q ∷ []) (new_squares o m) ++ v.right)) ≡ length m.signs + 1
    between = many_between o v m legal

    apart_many : length (segments_apart o m) ≡ length (signs_apart o m) + 1
    apart_many = ap length (apart_segments o v m legal) ∙ omega (
      arith,
      between,
      v.before_many,
      v.after_many,
      length-append v.before ((v.left ++ (map (λ q. q ∷ []) (new_squares o m) ++ v.right)) ++ v.after),
      length-append (v.left ++ (map (λ q. q ∷ []) (new_squares o m) ++ v.right)) v.after,
      ap length (apart_signs o v m legal),
      length-append v.before_signs (m.signs ++ v.after_signs),
      length-append m.signs v.after_signs,
    )

    closes : length (concat (o.closed ++ valley_of o ∷ [])) ≡ length (concat o.closed) + length v.valley
    closes = ap length (concat-append o.closed (valley_of o ∷ []))
        ∙ omega (arith, length-append (concat o.closed) (concat (valley_of o ∷ [])), length-append (valley_of o) [], ap length (valley_is o v))

    all : length (concat o.segments) ≡ length (concat v.before)
        + (length (concat v.left) + (length v.valley + (length (concat v.right) + length (concat v.after))))
    all = ap (λ (l : List (List ℕ)). length (concat l)) v.segments
        ∙ ap length (concat-append v.before (v.left ++ (v.valley ∷ (v.right ++ v.after))))
        ∙ length-append (concat v.before) (concat (v.left ++ (v.valley ∷ (v.right ++ v.after))))
        ∙ ap (λ n. length (concat v.before) + n) (ap length (concat-append v.left (v.valley ∷ (v.right ++ v.after)))
        ∙ length-append (concat v.left) (concat (v.valley ∷ (v.right ++ v.after)))
        ∙ ap (λ n. length (concat v.left) + n) (length-append v.valley (concat (v.right ++ v.after))
        ∙ ap (λ n. length v.valley + n) (ap length (concat-append v.right v.after) ∙ length-append (concat v.right) (concat v.after))))

    opens : length (concat (joined (signs_apart o m) (segments_apart o m)))
        ≡ length (concat v.before) + (length (concat v.left) + (m.count + (length (concat v.right) + length (concat v.after))))
    opens = ap length (concat-joined (signs_apart o m) (segments_apart o m)) ∙ ap (λ (l : List (List ℕ)). length (concat l)) (apart_segments o v m legal)
        ∙ ap length (concat-append v.before ((v.left ++ (map (λ q. q ∷ []) (new_squares o m) ++ v.right)) ++ v.after))
        ∙ length-append (concat v.before) (concat ((v.left ++ (map (λ q. q ∷ []) (new_squares o m) ++ v.right)) ++ v.after))
        ∙ ap (λ n. length (concat v.before) + n)
        (ap length (concat-append (v.left ++ (map (λ q. q ∷ []) (new_squares o m) ++ v.right)) v.after)
        ∙ length-append (concat (v.left ++ (map (λ q. q ∷ []) (new_squares o m) ++ v.right))) (concat v.after))
        ∙ omega (
          arith,
          ap length (concat-append v.left (map (λ q. q ∷ []) (new_squares o m) ++ v.right)),
          length-append (concat v.left) (concat (map (λ q. q ∷ []) (new_squares o m) ++ v.right)),
          ap length (concat-append (map (λ q. q ∷ []) (new_squares o m)) v.right),
          length-append (concat (map (λ q. q ∷ []) (new_squares o m))) (concat v.right),
          ap length (concat-singletons (new_squares o m)),
          numbers-length (length o.hung + 1) m.count,
        )

    counted : length (concat (o.closed ++ valley_of o ∷ [])) + length (concat (joined (signs_apart o m) (segments_apart o m)))
        ≡ length (o.hung ++ replicate m.count (length o.closed))
    counted = omega (
      arith,
      closes,
      opens,
      all,
      shaped.counted,
      length-append o.hung (replicate m.count (length o.closed)),
      length-replicate m.count (length o.closed),
    )

-- legal moves keep an outline shaped
pub shaped_moves : (o : Outline) (w : Word) → AreLegalFrom o w → Shaped o → Shaped (after_moves o w)
shaped_moves o [] legal shaped = shaped
shaped_moves o (m ∷ w) legal shaped = shaped_moves (after_move o m) w legal.1 (shaped_move o m legal.0 shaped)

-- a word hangs as many squares as its order
pub hung_many : (o : Outline) (w : Word) → length (after_moves o w).hung ≡ length o.hung + order_of w
hung_many o [] = omega arith
hung_many o (m ∷ w) = omega (
  arith,
  order_more m w,
  hung_many (after_move o m) w,
  length-append o.hung (replicate m.count (length o.closed)),
  length-replicate m.count (length o.closed),
)
