-- A word and the records and signs that are stored of it: one more move, and the last one.
use Rattle.std.proofs.Common.{List, [], ap, arith, length, refl, slice_range, suc, sym, take, ℕ, ◌*◌, ◌++◌, ◌+◌, ◌-◌, ◌<◌, ◌∙◌, ◌∷◌, ◌≡◌, ◌≤◌}
use Rattle.std.proofs.lemmas.List.{append-nil, append_assoc, drop_at, length-append, take_at}
use Rattle.std.proofs.lemmas.Grind.{flat_map-append}
use Rattle.bk_word.proofs.StoredBytes.{order_more}
use Rattle.bk_word.specs.Outline.{Outline, sizes_of, start}
use Rattle.bk_word.specs.Play.{AreLegalFrom, after_move, after_moves}
use Rattle.bk_word.specs.Word.{Move, Word, order_of}
use Rattle.bk_word.specs.declared.Sign.{Sign}
use Rattle.bk_play.specs.Skeleton.{moves_stored, signs_of, record_of, records_from}
use Rattle.bk_play.specs.declared.records.MoveRecord.{MoveRecord}
use Rattle.bk_word.proofs.PlayLaws.{at_most_one_sign_more_than_squares}

-- the signs of a word are those of its first move and then the others
pub signs-cons : (n : Move) (w : Word) → signs_of (n ∷ w) ≡ n.signs ++ signs_of w
signs-cons n w = refl

-- the signs of a word with a further move end with those of the move
pub signs-snoc : (w : Word) (m : Move) → signs_of (w ++ m ∷ []) ≡ signs_of w ++ m.signs
signs-snoc w m = flat_map-append (λ (m : Move). m.signs) w (m ∷ []) ∙ ap (λ (l : List Sign). signs_of w ++ l) (append-nil m.signs)

-- the records of a word with a further move end with that of the move
pub records-snoc : (o : Outline) (from : ℕ) (w : Word) (m : Move)
    → records_from o from (w ++ m ∷ []) ≡ records_from o from w
    ++ record_of (sizes_of (after_moves o w)) (after_moves o w).signs m (from + length (signs_of w)) ∷ []
records-snoc o from [] m = ap (λ n. record_of (sizes_of o) o.signs m n ∷ []) (omega arith)
records-snoc o from (n ∷ w) m = ap (λ (l : List MoveRecord). record_of (sizes_of o) o.signs n from ∷ l)
    (records-snoc (after_move o n) (from + length n.signs) w m
    ∙ ap (λ k. records_from (after_move o n) (from + length n.signs) w
    ++ record_of (sizes_of (after_moves (after_move o n) w)) (after_moves (after_move o n) w).signs m k ∷ []) same)
  where
    same : from + length n.signs + length (signs_of w) ≡ from + length (signs_of (n ∷ w))
    same = omega (arith, ap length (signs-cons n w), length-append n.signs (signs_of w))

-- what is stored of a word is the word
stored_from : (o : Outline) (from : ℕ) (w : Word) (front : List Sign) → length front ≡ from → moves_stored (records_from o from w) (front ++ signs_of w) ≡ w
stored_from o from [] front e = refl
stored_from o from (n ∷ w) front e = (λ i. record { count = n.count; signs = own i }
    ∷ moves_stored (records_from (after_move o n) (from + length n.signs) w) (whole i))
    ∙ ap (λ (l : Word). n ∷ l) (stored_from (after_move o n) (from + length n.signs) w (front ++ n.signs) (omega (arith, e, length-append front n.signs)))
  where
    whole : front ++ signs_of (n ∷ w) ≡ (front ++ n.signs) ++ signs_of w
    whole = sym (append_assoc front n.signs (signs_of w))

    own : slice_range (front ++ signs_of (n ∷ w)) from (from + length n.signs) ≡ n.signs
    own = ap (take (from + length n.signs - from)) (drop_at front (n.signs ++ signs_of w) from e)
        ∙ take_at n.signs (signs_of w) (from + length n.signs - from) (omega arith)

-- the records and signs of a word spell that word
pub stored_word : (w : Word) → moves_stored (records_from start 0 w) (signs_of w) ≡ w
stored_word w = stored_from start 0 w [] refl

-- there is a record for each move
pub records_many : (o : Outline) (from : ℕ) (w : Word) → length (records_from o from w) ≡ length w
records_many o from [] = refl
records_many o from (n ∷ w) = ap suc (records_many (after_move o n) (from + length n.signs) w)

-- a legal word has at most two signs a square
pub signs_many : (o : Outline) (w : Word) → AreLegalFrom o w → length (signs_of w) ≤ 2 * order_of w
signs_many o [] legal = omega arith
signs_many o (m ∷ w) legal = omega (
  arith,
  (legal.0).some,
  at_most_one_sign_more_than_squares o m legal.0,
  order_more m w,
  signs_many (after_move o m) w legal.1,
  length-append m.signs (signs_of w),
  ap length (signs-cons m w),
)

-- a word of some moves ends with one
pub record Ends (w : Word) : Type 0 where
  pub front : Word
  pub last : Move
  pub whole : w ≡ front ++ last ∷ []

-- a word that isn't empty has a last move
pub nonempty_word_has_a_last_move : (w : Word) → 0 < length w → Ends w
nonempty_word_has_a_last_move [] some = absurd (omega arith)
nonempty_word_has_a_last_move (m ∷ []) some = record { front = []; last = m; whole = refl }
nonempty_word_has_a_last_move (m ∷ n ∷ w) some = let r = nonempty_word_has_a_last_move (n ∷ w)
    (omega arith) in record { front = m ∷ r.front; last = r.last; whole = ap (λ (l : Word). m ∷ l) r.whole }
