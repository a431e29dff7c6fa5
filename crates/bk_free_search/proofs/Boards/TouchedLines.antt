-- The lines that closed nodes touch, as a move is played and taken back.
use Rattle.std.proofs.Common.{List, Some, [], ap, arith, bit_and, drop, inl, inr, length, length-append, refl, slice_get, subst, suc, sym, take, zero, ℕ}
use Rattle.std.proofs.Common.{◌++◌, ◌-◌, ◌<◌, ◌∙◌, ◌∷◌, ◌≡◌, ◌≤◌, ◌⊎◌}
use Rattle.std.proofs.lemmas.Bool.{cases_lt}
use Rattle.std.specs.Int.{bit_at}
use Rattle.std.proofs.lemmas.List.{take-append-drop}
use Rattle.std.proofs.lemmas.Option.{same_Some, slice_get_within}
use Rattle.bk_laws.proofs.Bits.{bit_at-and_left, bit_at-and_right}
use Rattle.bk_laws.proofs.ListPlaces.{get_last, slice_get-append_front_back}
use Rattle.bk_word.specs.Outline.{Outline, start, valley_of}
use Rattle.bk_word.specs.Play.{IsLegal, after_move, outline_of}
use Rattle.bk_word.specs.Word.{Move, Word, order_of}
use Rattle.bk_word.proofs.PlayLaws.{after-snoc}
use Rattle.bk_word_net.proofs.WordFlows.NoLoose.{closed_count, played_moves, played_start}
use Rattle.bk_word_net.proofs.Outlines.Numbering.{numbered_moves, numbered_start}
use Rattle.bk_word_net.proofs.Outlines.Shape.{hung_many}
use Rattle.bk_layout.specs.LineNumbers.{lefts_of, sides_after, square_lines}
use Rattle.bk_layout.specs.NodeCut.{TouchesClosed}
use Rattle.bk_free_search.proofs.Boards.LeftLines.{along_append, along_more, lefts_in}
use Rattle.bk_free_search.proofs.Boards.RightLines.{rights_in}
use Rattle.bk_free_search.specs.Rights.{rights_of}
use Rattle.bk_free_search.specs.NodeLines.{AreNodeLines, Has, IsBesideNew, IsBesideOneOf}
use Rattle.bk_free_search.specs.declared.line_set.LineSet.{LineSet}
use Rattle.bk_free_search.proofs.Boards.KeptTouches.{touch_after, touch_before}
use Rattle.bk_free_search.proofs.Boards.ClosingTouches.{touch_valley, touch_new, only_touch}

-- the lines at the sides of the squares, with one move more
pub sides_snoc : (w : Word) (m : Move) → square_lines (w ++ m ∷ []) ≡ sides_after (outline_of w) (square_lines w) m
sides_snoc w m = along_append start [] w (m ∷ [])

-- each square has its two
pub sides_many : (w : Word) → length (square_lines w) ≡ length (outline_of w).hung
sides_many w = let more = along_more start [] w in omega (arith, ap (λ (l : List (ℕ × ℕ)). length l) more.1, more.2, hung_many start w)

-- each move has closed a node
closed_many : (w : Word) → length (outline_of w).closed ≡ length w
closed_many w = omega (arith, closed_count start w)

onto_word : (w : Word) (m : Move) (line v : ℕ) → TouchesClosed (after_move (outline_of w) m) (sides_after (outline_of w) (square_lines w) m) line v
    → TouchesClosed (outline_of (w ++ m ∷ [])) (square_lines (w ++ m ∷ [])) line v
onto_word w m line v t = subst (λ (o : Outline). TouchesClosed o (square_lines (w ++ m ∷ [])) line v) (sym (after-snoc start w m))
    (subst (λ (s : List (ℕ × ℕ)). TouchesClosed (after_move (outline_of w) m) s line v) (sym (sides_snoc w m)) t)

from_word : (w : Word) (m : Move) (line v : ℕ) → TouchesClosed (outline_of (w ++ m ∷ [])) (square_lines (w ++ m ∷ [])) line v
    → TouchesClosed (after_move (outline_of w) m) (sides_after (outline_of w) (square_lines w) m) line v
from_word w m line v t = subst (λ (o : Outline). TouchesClosed o (sides_after (outline_of w) (square_lines w) m) line v) (after-snoc start w m)
    (subst (λ (s : List (ℕ × ℕ)). TouchesClosed (outline_of (w ++ m ∷ [])) s line v) (sides_snoc w m) t)

-- what touches a closed node touches it after the next move
pub touch_more : (w : Word) (m : Move) (line v : ℕ) → TouchesClosed (outline_of w) (square_lines w) line v
    → TouchesClosed (outline_of (w ++ m ∷ [])) (square_lines (w ++ m ∷ [])) line v
touch_more w m line v t = onto_word w m line v (touch_after (outline_of w) (square_lines w) m line v (sides_many w) t)

-- what is known of the lines of the node that the next move closes
pub record AreNextLines (w : Word) (m : Move) (lines : LineSet) : Type 0 where
  pub only : (line : ℕ) → Has lines line → IsBesideOneOf (lefts_of (w ++ m ∷ [])) (rights_of (w ++ m ∷ [])) (valley_of (outline_of w)) line
      ⊎ IsBesideNew (lefts_of (w ++ m ∷ [])) (rights_of (w ++ m ∷ [])) (order_of w) m.count line
  pub all : (line : ℕ) → line < 32 → IsBesideOneOf (lefts_of (w ++ m ∷ [])) (rights_of (w ++ m ∷ [])) (valley_of (outline_of w)) line
      ⊎ IsBesideNew (lefts_of (w ++ m ∷ [])) (rights_of (w ++ m ∷ [])) (order_of w) m.count line → Has lines line

next_only : (w : Word) (m : Move) (line : ℕ) → IsLegal w
    → TouchesClosed (outline_of (w ++ m ∷ [])) (square_lines (w ++ m ∷ [])) line (length (outline_of w).closed)
    → IsBesideOneOf (lefts_of (w ++ m ∷ [])) (rights_of (w ++ m ∷ [])) (valley_of (outline_of w)) line
    ⊎ IsBesideNew (lefts_of (w ++ m ∷ [])) (rights_of (w ++ m ∷ [])) (order_of w) m.count line
next_only w m line legal t = subst (λ (k : ℕ). IsBesideOneOf (lefts_of (w ++ m ∷ [])) (rights_of (w ++ m ∷ [])) (valley_of (outline_of w)) line
    ⊎ IsBesideNew (lefts_of (w ++ m ∷ [])) (rights_of (w ++ m ∷ [])) k m.count line) hung
    (subst (λ (s : List (ℕ × ℕ)). IsBesideOneOf (lefts_in s) (rights_in s) (valley_of (outline_of w)) line
    ⊎ IsBesideNew (lefts_in s) (rights_in s) (length (outline_of w).hung) m.count line) (sym (sides_snoc w m))
    (only_touch (outline_of w) (square_lines w) m line (played_moves start w legal played_start) (from_word w m line (length (outline_of w).closed) t)))
  where
    hung : length (outline_of w).hung ≡ order_of w
    hung = omega (arith, hung_many start w)

next_touch : (w : Word) (m : Move) (line : ℕ) → IsBesideOneOf (lefts_of (w ++ m ∷ [])) (rights_of (w ++ m ∷ [])) (valley_of (outline_of w)) line
    ⊎ IsBesideNew (lefts_of (w ++ m ∷ [])) (rights_of (w ++ m ∷ [])) (order_of w) m.count line
    → TouchesClosed (outline_of (w ++ m ∷ [])) (square_lines (w ++ m ∷ [])) line (length (outline_of w).closed)
next_touch w m line (inl b) = onto_word w m line (length (outline_of w).closed)
    (touch_valley (outline_of w) (square_lines w) m line (numbered_moves start w numbered_start)
    (subst (λ (s : List (ℕ × ℕ)). IsBesideOneOf (lefts_in s) (rights_in s) (valley_of (outline_of w)) line) (sides_snoc w m) b))
next_touch w m line (inr b) = onto_word w m line (length (outline_of w).closed) (touch_new (outline_of w) (square_lines w) m line
    (subst (λ (s : List (ℕ × ℕ)). IsBesideNew (lefts_in s) (rights_in s) (length (outline_of w).hung) m.count line) (sides_snoc w m)
    (subst (λ (k : ℕ). IsBesideNew (lefts_of (w ++ m ∷ [])) (rights_of (w ++ m ∷ [])) k m.count line) hung b)))
  where
    hung : order_of w ≡ length (outline_of w).hung
    hung = omega (arith, hung_many start w)

-- a move more, with the lines of the node that it closes
pub nodes_more : (w : Word) (m : Move) (nodes : List LineSet) (lines : LineSet) → IsLegal w → AreNodeLines w nodes → AreNextLines w m lines
    → AreNodeLines (w ++ m ∷ []) (nodes ++ lines ∷ [])
nodes_more w m nodes lines legal are next = record {
  as_many = omega (arith, are.as_many, length-append nodes (lines ∷ []), length-append w (m ∷ []));
  touch = λ v line set e has. touched v line set e has (cases_lt v (length nodes));
  all = λ v line set e low t. held v line set e low t (cases_lt v (length nodes));
}
  where
    last : (v : ℕ) (set : LineSet) → slice_get (nodes ++ lines ∷ []) v ≡ Some set → length nodes ≤ v → v ≡ length nodes
    last v set e high = omega (arith, high, slice_get_within (nodes ++ lines ∷ []) v set e, length-append nodes (lines ∷ []))

    place : (v : ℕ) (set : LineSet) → slice_get (nodes ++ lines ∷ []) v ≡ Some set → length nodes ≤ v → length (outline_of w).closed ≡ v
    place v set e high = omega (arith, closed_many w, are.as_many, last v set e high)

    same : (v : ℕ) (set : LineSet) → slice_get (nodes ++ lines ∷ []) v ≡ Some set → length nodes ≤ v → lines ≡ set
    same v set e high = same_Some lines set (sym (get_last nodes lines []) ∙ ap (λ k. slice_get (nodes ++ lines ∷ []) k) (sym (last v set e high)) ∙ e)

    touched : (v line : ℕ) (set : LineSet) → slice_get (nodes ++ lines ∷ []) v ≡ Some set → Has set line → (v < length nodes) ⊎ (length nodes ≤ v)
        → TouchesClosed (outline_of (w ++ m ∷ [])) (square_lines (w ++ m ∷ [])) line v
    touched v line set e has (inl low) = touch_more w m line v (are.touch v line set (slice_get-append_front_back nodes (lines ∷ []) v set low e) has)
    touched v line set e has (inr high) = subst (λ k. TouchesClosed (outline_of (w ++ m ∷ [])) (square_lines (w ++ m ∷ [])) line k) (place v set e high)
        (next_touch w m line (next.only line (subst (λ (s : LineSet). Has s line) (sym (same v set e high)) has)))

    held : (v line : ℕ) (set : LineSet) → slice_get (nodes ++ lines ∷ []) v ≡ Some set → line < 32
        → TouchesClosed (outline_of (w ++ m ∷ [])) (square_lines (w ++ m ∷ [])) line v
        → (v < length nodes) ⊎ (length nodes ≤ v) → Has set line
    held v line set e small t (inl low) = are.all v line set (slice_get-append_front_back nodes (lines ∷ []) v set low e) small
        (touch_before (outline_of w) (square_lines w) m line v (numbered_moves start w numbered_start) (sides_many w)
        (omega (arith, low, closed_many w, are.as_many)) (from_word w m line v t))
    held v line set e small t (inr high) = subst (λ (s : LineSet). Has s line) (same v set e high)
        (next.all line small (next_only w m line legal (subst (λ k. TouchesClosed (outline_of (w ++ m ∷ [])) (square_lines (w ++ m ∷ [])) line k)
        (sym (place v set e high)) t)))

one_less : (w front : Word) (m : Move) (nodes before : List LineSet) → w ≡ front ++ m ∷ [] → AreNodeLines w nodes → before ≡ take (length front) nodes
    → AreNodeLines front before
one_less w front m nodes before whole are e = record {
  as_many = ap length e ∙ short nodes (length front) (omega (arith, are.as_many, ap (λ (v : Word). length v) whole, length-append front (m ∷ [])));
  touch = λ v line set f has. touched v line set (subst (λ (l : List LineSet). slice_get l v ≡ Some set) e f) has;
  all = λ v line set f low t. held v line set (subst (λ (l : List LineSet). slice_get l v ≡ Some set) e f) low t;
}
  where
    short : (nodes : List LineSet) (k : ℕ) → k ≤ length nodes → length (take k nodes) ≡ k
    short nodes zero h = refl
    short [] (suc k) h = absurd (omega arith)
    short (x ∷ nodes) (suc k) h = ap suc (short nodes k (omega arith))

    in_take : (nodes : List LineSet) (k v : ℕ) (set : LineSet) → slice_get (take k nodes) v ≡ Some set → (slice_get nodes v ≡ Some set) × (v < k)
    in_take nodes zero v set f = absurd (cc)
    in_take [] (suc k) v set f = absurd (cc)
    in_take (x ∷ nodes) (suc k) zero set f = (f, omega arith)
    in_take (x ∷ nodes) (suc k) (suc v) set f = let r = in_take nodes k v set f in (r.0, omega (arith, r.1))

    touched : (v line : ℕ) (set : LineSet) → slice_get (take (length front) nodes) v ≡ Some set → Has set line
        → TouchesClosed (outline_of front) (square_lines front) line v
    touched v line set f has = let r = in_take nodes (length front) v set f in
        touch_before (outline_of front) (square_lines front) m line v (numbered_moves start front numbered_start) (sides_many front)
        (omega (arith, r.1, closed_many front))
        (from_word front m line v (subst (λ (v' : Word). TouchesClosed (outline_of v') (square_lines v') line v) whole (are.touch v line set r.0 has)))

    held : (v line : ℕ) (set : LineSet) → slice_get (take (length front) nodes) v ≡ Some set → line < 32
        → TouchesClosed (outline_of front) (square_lines front) line v → Has set line
    held v line set f low t = let r = in_take nodes (length front) v set f in
        are.all v line set r.0 low (subst (λ (v' : Word). TouchesClosed (outline_of v') (square_lines v') line v) (sym whole)
        (touch_more front m line v t))

-- a move less, without the lines of the node that it closed
pub nodes_less : (w front : Word) (nodes before : List LineSet) → 0 < length w → AreNodeLines w nodes → front ≡ take (length w - 1) w
    → before ≡ take (length front) nodes → AreNodeLines front before
nodes_less w front nodes before some are e f = cases (drop (length w - 1) w) refl
  where
    whole : w ≡ front ++ drop (length w - 1) w
    whole = sym (take-append-drop (length w - 1) w) ∙ ap (λ v. v ++ drop (length w - 1) w) (sym e)

    short : length front ≡ length w - 1
    short = ap length e ∙ taken w (length w - 1) (omega arith)
      where
        taken : (w : Word) (k : ℕ) → k ≤ length w → length (take k w) ≡ k
        taken w zero h = refl
        taken [] (suc k) h = absurd (omega arith)
        taken (x ∷ w) (suc k) h = ap suc (taken w k (omega arith))

    cases : (rest : Word) → drop (length w - 1) w ≡ rest → AreNodeLines front before
    cases [] g = absurd (omega (arith, some, short, ap (λ (v : Word). length v) (whole ∙ ap (λ v. front ++ v) g), length-append front []))
    cases (m ∷ []) g = one_less w front m nodes before (whole ∙ ap (λ v. front ++ v) g) are f
    cases (m ∷ n ∷ rest) g = absurd (omega (
      arith,
      some,
      short,
      ap (λ (v : Word). length v) (whole ∙ ap (λ v. front ++ v) g),
      length-append front (m ∷ n ∷ rest),
    ))

-- a line of a set that a mask without some line leaves is in the set, and isn't that one
pub masked_line : (bits mask without line : ℕ) → bit_at mask without ≡ 0 → bit_at (bit_and bits mask) line ≡ 1
    → (bit_at bits line ≡ 1) × (line ≡ without → ⊥)
masked_line bits mask without line none has = (
  bit_at-and_left bits mask line has,
  λ e. absurd (omega (arith, none, subst (λ (k : ℕ). bit_at mask k ≡ 1) e (bit_at-and_right bits mask line has))),
)
