-- The segment that a move of one square joins: the squares of the segment at the left of the valley, the new one, and those at its
-- right, where the signs there are even; and that one segment is left where all signs are even and no others stand.
use Rattle.std.specs.List.{list_any}
use Rattle.std.proofs.Common.{List, Some, [], ap, arith, count_by, false, filter, inl, inr, length, length-append, map, refl, slice_get}
use Rattle.std.proofs.Common.{sym, true, ℕ, ◌++◌}
use Rattle.std.proofs.Common.{◌+◌, ◌-◌, ◌<◌, ◌∙◌, ◌∷◌, ◌≡◌, ◌≤◌, ◌⊎◌}
use Rattle.std.proofs.lemmas.Bool.{both_ways}
use Rattle.std.proofs.lemmas.List.Sums.{count_by-le-length}
use Rattle.std.proofs.lemmas.Option.{same_Some}
use Rattle.bk_laws.proofs.ListPlaces.{get_after, get_append}
use Rattle.bk_laws.proofs.ListParts.{singletons-same_item}
use Rattle.bk_word.specs.Outline.{IsLegalMove, Outline, start, valley_place}
use Rattle.bk_word.specs.Play.{IsLegal, after_move, before_first_list, joined, new_squares, numbers_from, outline_of, parts}
use Rattle.bk_word.specs.Signs.{is_even}
use Rattle.bk_word.specs.Word.{Move, Word}
use Rattle.bk_word.specs.declared.Sign.{Sign}
use Rattle.bk_word.specs.declared.Sign.TheVariants.{Above, Even, Under}
use Rattle.bk_word.proofs.PlayLaws.{after-snoc}
use Rattle.bk_word_net.proofs.Outlines.MovedParts.{segments_after, signs_after}
use Rattle.bk_word_net.proofs.Outlines.OutlineParts.{left_one, left_open, many_signs, right_one, right_open}
use Rattle.bk_word_net.proofs.Outlines.Shape.{Shaped, shaped_move, shaped_moves, shaped_start, valley_in}
use Rattle.bk_word_net.proofs.Outlines.ValleyCut.{AtValley}
use Rattle.bk_layout.proofs.FreeCuts.SquaresLeft.{evens-cons}
use Rattle.bk_free_search.specs.Joining.{JoinsLeft, JoinsRight}

-- ---- which squares stand side by side

-- the first of the segments that signs leave of one square and at most one segment behind it
record FirstRun (signs : List Sign) (right : List (List ℕ)) (q : ℕ) : Type 0 where
  behind : List ℕ
  at : slice_get (joined signs ((q ∷ []) ∷ right)) 0 ≡ Some (q ∷ behind)
  right_is : (s : List ℕ) → right ≡ s ∷ [] → slice_get signs 0 ≡ Some Even → behind ≡ s

first_run : (signs : List Sign) (right : List (List ℕ)) (q : ℕ) → length right ≤ 1 → length signs ≡ length right → FirstRun signs right q
first_run [] [] q few many = record { behind = []; at = refl; right_is = λ s e f. absurd (cc) }
first_run (g ∷ signs) [] q few many = absurd (omega arith)
first_run [] (r ∷ right) q few many = absurd (omega arith)
first_run (Even ∷ []) (r ∷ []) q few many = record { behind = r; at = refl; right_is = λ s e f. singletons-same_item r s e }
first_run (Even ∷ g ∷ signs) (r ∷ []) q few many = absurd (omega arith)
first_run (Even ∷ signs) (r ∷ t ∷ right) q few many = absurd (omega arith)
first_run (Above ∷ signs) (r ∷ right) q few many = record { behind = []; at = refl; right_is = λ s e f. absurd (cc) }
first_run (Under ∷ signs) (r ∷ right) q few many = record { behind = []; at = refl; right_is = λ s e f. absurd (cc) }

-- among those that signs leave of one square and at most one segment at each side, the one with this square
record Run (signs : List Sign) (left right : List (List ℕ)) (q : ℕ) : Type 0 where
  place : ℕ
  before : List ℕ
  behind : List ℕ
  at : slice_get (joined signs (left ++ ((q ∷ []) ∷ right))) place ≡ Some (before ++ q ∷ behind)
  left_is : (s : List ℕ) → left ≡ s ∷ [] → slice_get signs 0 ≡ Some Even → before ≡ s
  right_is : (s : List ℕ) → right ≡ s ∷ [] → slice_get signs (length left) ≡ Some Even → behind ≡ s

before_first : (l : List ℕ) (lists : List (List ℕ)) (x : List ℕ) → slice_get lists 0 ≡ Some x → slice_get (before_first_list l lists) 0 ≡ Some (l ++ x)
before_first l [] x e = absurd (cc)
before_first l (y ∷ lists) x e = ap (λ (z : List ℕ). Some (l ++ z)) (same_Some y x e)

run : (signs : List Sign) (left right : List (List ℕ)) (q : ℕ) → length left ≤ 1 → length right ≤ 1 → length signs ≡ length left + length right
    → Run signs left right q
run signs [] right q one few many = let r = first_run signs right q few (omega arith) in
    record { place = 0; before = []; behind = r.behind; at = r.at; left_is = λ s e f. absurd (cc); right_is = r.right_is }
run signs (l ∷ m ∷ left) right q one few many = absurd (omega arith)
run [] (l ∷ []) right q one few many = absurd (omega arith)
run (Even ∷ signs) (l ∷ []) right q one few many = let r = first_run signs right q few (omega arith) in record {
  place = 0;
  before = l;
  behind = r.behind;
  at = before_first l (joined signs ((q ∷ []) ∷ right)) (q ∷ r.behind) r.at;
  left_is = λ s e f. singletons-same_item l s e;
  right_is = r.right_is;
}
run (Above ∷ signs) (l ∷ []) right q one few many = let r = first_run signs right q few (omega arith) in
    record { place = 1; before = []; behind = r.behind; at = r.at; left_is = λ s e f. absurd (cc); right_is = r.right_is }
run (Under ∷ signs) (l ∷ []) right q one few many = let r = first_run signs right q few (omega arith) in
    record { place = 1; before = []; behind = r.behind; at = r.at; left_is = λ s e f. absurd (cc); right_is = r.right_is }

-- the segment of the new square after a move of one, with those that it joins before and behind it
pub record IsJoined (o : Outline) (m : Move) (left right : List ℕ) : Type 0 where
  pub place : ℕ
  pub before : List ℕ
  pub behind : List ℕ
  pub at : slice_get (after_move o m).segments place ≡ Some (before ++ (length o.hung + 1) ∷ behind)
  pub left_is : (left ≡ []) ⊎ (left ≡ before)
  pub right_is : (right ≡ []) ⊎ (right ≡ behind)

module _ (o : Outline) (v : AtValley o) (m : Move) (legal : IsLegalMove o m) (one : m.count ≡ 1) where
  news : map (λ q. q ∷ []) (new_squares o m) ≡ ((length o.hung + 1) ∷ []) ∷ []
  news = ap (λ k. map (λ q. q ∷ []) (numbers_from (length o.hung + 1) k)) one

  run_here : Run m.signs v.left v.right (length o.hung + 1)
  run_here = run m.signs v.left v.right (length o.hung + 1) (left_one o v).1 (right_one o v).1
      (omega (arith, legal.signs, one, left_open o v, right_open o v))

  segment_here : slice_get (after_move o m).segments (length v.before + run_here.place) ≡ Some (run_here.before ++ (length o.hung + 1) ∷ run_here.behind)
  segment_here = ap (λ (l : List (List ℕ)). slice_get l (length v.before + run_here.place)) (segments_after o v m legal)
      ∙ get_after v.before (joined m.signs (v.left ++ (map (λ q. q ∷ []) (new_squares o m) ++ v.right)) ++ v.after) run_here.place
      (length v.before + run_here.place) refl
      ∙ get_append (joined m.signs (v.left ++ (map (λ q. q ∷ []) (new_squares o m) ++ v.right))) v.after run_here.place
      (run_here.before ++ (length o.hung + 1) ∷ run_here.behind)
      (ap (λ (l : List (List ℕ)). slice_get (joined m.signs (v.left ++ (l ++ v.right))) run_here.place) news ∙ run_here.at)

  -- the segment at the left of the valley
  at_left : (s : List ℕ) → 0 < valley_place o.signs → slice_get o.segments (valley_place o.signs - 1) ≡ Some s → v.left ≡ s ∷ []
  at_left s some e = cases v.left refl
    where
      cases : (left : List (List ℕ)) → v.left ≡ left → left ≡ s ∷ []
      cases [] f = absurd (omega (arith, some, v.place, ap length f, ap length (v.no_before f)))
      cases (l ∷ k ∷ left) f = absurd (omega (arith, (left_one o v).1, ap length f))
      cases (l ∷ []) f =
          ap (λ (x : List ℕ). x ∷ []) (same_Some l s (sym (ap (λ (ls : List (List ℕ)). slice_get (ls ++ (v.valley ∷ (v.right ++ v.after))) 0) f)
          ∙ sym (get_after v.before (v.left ++ (v.valley ∷ (v.right ++ v.after))) 0 (valley_place o.signs - 1) (omega (arith, v.place, ap length f)))
          ∙ ap (λ (ls : List (List ℕ)). slice_get ls (valley_place o.signs - 1)) (sym v.segments) ∙ e))

  -- that at its right
  at_right : (s : List ℕ) → slice_get o.segments (valley_place o.signs + 1) ≡ Some s → v.right ≡ s ∷ []
  at_right s e = cases v.right refl
    where
      behind : slice_get (v.right ++ v.after) 0 ≡ Some s
      behind = sym (get_after v.left (v.valley ∷ (v.right ++ v.after)) 1 (length v.left + 1) refl)
          ∙ sym (get_after v.before (v.left ++ (v.valley ∷ (v.right ++ v.after))) (length v.left + 1) (valley_place o.signs + 1) (omega (arith, v.place)))
          ∙ ap (λ (ls : List (List ℕ)). slice_get ls (valley_place o.signs + 1)) (sym v.segments) ∙ e

      cases : (right : List (List ℕ)) → v.right ≡ right → right ≡ s ∷ []
      cases [] f = absurd (nothing (v.right ++ v.after) (omega (arith, length-append v.right v.after, ap length f, ap length (v.no_after f))) behind)
        where
          nothing : (l : List (List ℕ)) → length l ≡ 0 → slice_get l 0 ≡ Some s → ⊥
          nothing [] h g = cc
          nothing (x ∷ l) h g = omega arith
      cases (r ∷ k ∷ right) f = absurd (omega (arith, (right_one o v).1, ap length f))
      cases (r ∷ []) f = ap (λ (x : List ℕ). x ∷ []) (same_Some r s (sym (ap (λ (ls : List (List ℕ)). slice_get (ls ++ v.after) 0) f) ∙ behind))

  -- where the move joins these squares, they stand so
  pub is_joined : (left right : List ℕ) → JoinsLeft o m left → JoinsRight o m right → IsJoined o m left right
  is_joined left right l r = record {
    place = length v.before + run_here.place;
    before = run_here.before;
    behind = run_here.behind;
    at = segment_here;
    left_is = before l;
    right_is = behind r;
  }
    where
      before : JoinsLeft o m left → (left ≡ []) ⊎ (left ≡ run_here.before)
      before (inl e) = inl e
      before (inr (some, e, even)) = inr (sym (run_here.left_is left (at_left left some e) even))

      behind : JoinsRight o m right → (right ≡ []) ⊎ (right ≡ run_here.behind)
      behind (inl e) = inl e
      behind (inr (e, even)) = let f = at_right right e in inr (sym (run_here.right_is right f (ap (slice_get m.signs) last ∙ even)))
        where
          last : length v.left ≡ length m.signs - 1
          last = omega (arith, legal.signs, one, left_open o v, right_open o v, ap length (at_right right e))

-- where a move of one square has only even signs, as many as all that stand, one segment is left
pub one_left : (w : Word) (m : Move) → IsLegal w → IsLegalMove (outline_of w) m → m.count ≡ 1 → length (outline_of w).signs ≡ length m.signs
    → list_any parts m.signs ≡ false → length (outline_of (w ++ m ∷ [])).segments ≡ 1
one_left w m word legal one many even = omega (
  arith,
  (shaped_move o m legal shaped).many,
  ap (λ (l : List Sign). length l) (signs_after o v m legal),
  ap (λ (l : List Sign). length (v.before_signs ++ (l ++ v.after_signs))) (none_part m.signs even),
  length-append v.before_signs ([] ++ v.after_signs),
  many,
  many_signs o v,
  v.before_many,
  v.after_many,
  legal.signs,
  one,
  left_open o v,
  right_open o v,
  ap (λ (o : Outline). length o.segments) (after-snoc start w m),
)
  where
    o : Outline
    o = outline_of w

    shaped : Shaped o
    shaped = shaped_moves start w word shaped_start

    v : AtValley o
    v = valley_in o shaped

    none_part : (signs : List Sign) → list_any parts signs ≡ false → filter parts signs ≡ []
    none_part [] e = refl
    none_part (Even ∷ signs) e = none_part signs e
    none_part (Above ∷ signs) e = absurd (both_ways true e refl)
    none_part (Under ∷ signs) e = absurd (both_ways true e refl)

-- signs that are all even part no segments
pub all_even : (signs : List Sign) → count_by is_even signs ≡ length signs → list_any parts signs ≡ false
all_even [] e = refl
all_even (Even ∷ signs) e = all_even signs (omega (arith, e, evens-cons Even signs))
all_even (Above ∷ signs) e = absurd (omega (arith, e, evens-cons Above signs, count_by-le-length is_even signs))
all_even (Under ∷ signs) e = absurd (omega (arith, e, evens-cons Under signs, count_by-le-length is_even signs))
