-- The reader of words with all it has read; the reader in the code keeps less. And each text of a word is read as that word.
use Rattle.std.specs.List.{AllByRecursion}
use Rattle.std.specs.Prelude.{List, None, Option, Some, [], decimal, if◌then◌else◌, length, map, nat_le, option_and_then, refl, true, ℕ, ◌%◌, ◌&&◌}
use Rattle.std.specs.Prelude.{◌*◌, ◌++◌, ◌+◌, ◌-◌, ◌/◌, ◌<◌, ◌==◌, ◌∷◌, ◌≡◌, ◌≤◌}
use Rattle.std.proofs.Common.{ap, append_assoc, arith, eq-eqb, inl, inr, length-append, sym, ◌∙◌}
use Rattle.std.proofs.lemmas.Bool.{and_from, cond-true, le-leb, lt-ltb, cases_lt}
use Rattle.std.proofs.lemmas.Fmt.{decimal_digit, decimal_step}
use Rattle.std.proofs.lemmas.List.{append-nil}
use Rattle.bk_word.specs.WordReading.{word_kind_of}
use Rattle.bk_word.specs.Taken.{Before, Count, Reading, Signs, bare, step}
use Rattle.bk_word.specs.Word.{Move, Word}
use Rattle.bk_word.specs.WordText.{IsTextOf, IsWrittenMove, letter, move_text, word_text}
use Rattle.bk_word.specs.declared.Sign.{Sign}
use Rattle.bk_word.specs.declared.Sign.TheVariants.{Above, Even, Under}
use Rattle.bk_word.specs.declared.reader.ByteKind.{ByteKind}
use Rattle.bk_word.specs.declared.reader.ByteKind.TheVariants.{Digit, Dot, Letter}

-- the word that was read, where it may end
abbrev pub ended_word : Reading → Option Word
ended_word (Before w) = None
ended_word (Count w count) = if nat_le count 1 then Some (w ++ bare count ∷ []) else None
ended_word (Signs w m) = if (m.count - 1 - length m.signs) == 0 then Some (w ++ m ∷ []) else None

-- the word that is read with further bytes
abbrev pub word_read_from : List ℕ → Reading → Option Word
word_read_from [] r = ended_word r
word_read_from (b ∷ bytes) r = option_and_then (word_read_from bytes) (step r (word_kind_of b))

-- a further byte of a known kind
pub word_read_of_a_further_byte : (r next : Reading) (k : ByteKind) (b : ℕ) (bytes : List ℕ) → word_kind_of b ≡ k → step r k ≡ Some next
    → word_read_from (b ∷ bytes) r ≡ word_read_from bytes next
word_read_of_a_further_byte r next k b bytes kind e =
    ap (λ (k : ByteKind). option_and_then (word_read_from bytes) (step r k)) kind ∙ ap (option_and_then (word_read_from bytes)) e

-- the byte of a digit is read as that digit
pub word_kind_of_a_digit : (d : ℕ) → d < 10 → word_kind_of (48 + d) ≡ Digit d
word_kind_of_a_digit d small =
    let is_digit : (nat_le 48 (48 + d) && nat_le (48 + d) 57) ≡ true = and_from _ _ (le-leb 48 (48 + d) (omega arith)) (le-leb (48 + d) 57 (omega arith)) in
    let own : 48 + d - 48 ≡ d = omega arith in
    cond-true _ _ _ is_digit ∙ ap Digit own

-- the letter of a sign is read as that sign
pub kind_letter : (s : Sign) → word_kind_of (letter s) ≡ Letter s
kind_letter Above = refl
kind_letter Even = refl
kind_letter Under = refl

-- ---- counts

first_digit : (w : Word) (n : ℕ) → 0 < n → step (Before w) (Digit n) ≡ Some (Count w n)
first_digit w n some = cond-true _ _ _ (lt-ltb 0 n some)

further_digit : (w : Word) (n : ℕ) → n < 1000 → step (Count w (n / 10)) (Digit (n % 10)) ≡ Some (Count w n)
further_digit w n few =
    let whole : n / 10 * 10 + n % 10 ≡ n = omega arith in
    cond-true _ _ _ (lt-ltb (n / 10) 100 (omega arith)) ∙ ap (λ (k : ℕ). Some (Count w k)) whole

one_digit : (w : Word) (n : ℕ) (x : List ℕ) → 0 < n → n < 10 → word_read_from (decimal n ++ x) (Before w) ≡ word_read_from x (Count w n)
one_digit w n x some few =
    ap (λ (z : List ℕ). word_read_from (z ++ x) (Before w)) (decimal_digit n few)
    ∙ word_read_of_a_further_byte (Before w) (Count w n) (Digit n) (48 + n) x (word_kind_of_a_digit n few) (first_digit w n some)

one_more : (w : Word) (n : ℕ) (x : List ℕ) → 10 ≤ n → n < 1000
    → ((y : List ℕ) → word_read_from (decimal (n / 10) ++ y) (Before w) ≡ word_read_from y (Count w (n / 10)))
    → word_read_from (decimal n ++ x) (Before w) ≡ word_read_from x (Count w n)
one_more w n x some few fewer =
    ap (λ (z : List ℕ). word_read_from (z ++ x) (Before w)) (decimal_step n some (omega arith))
    ∙ ap (λ (z : List ℕ). word_read_from z (Before w)) (append_assoc (decimal (n / 10)) ((48 + n % 10) ∷ []) x)
    ∙ fewer ((48 + n % 10) ∷ x)
    ∙ word_read_of_a_further_byte (Count w (n / 10)) (Count w n) (Digit (n % 10)) (48 + n % 10) x (word_kind_of_a_digit (n % 10) (omega arith))
    (further_digit w n few)

two_digits : (w : Word) (n : ℕ) (x : List ℕ) → 0 < n → n < 100 → word_read_from (decimal n ++ x) (Before w) ≡ word_read_from x (Count w n)
two_digits w n x some few = elim (cases_lt n 10) [
  | inl h ↦ one_digit w n x some h
  | inr h ↦ one_more w n x h (omega arith) (λ y. one_digit w (n / 10) y (omega arith) (omega arith))
]

-- the digits of a count of one to three digits are read as that count
pub count_read : (w : Word) (n : ℕ) (x : List ℕ) → 0 < n → n ≤ 999 → word_read_from (decimal n ++ x) (Before w) ≡ word_read_from x (Count w n)
count_read w n x some few = elim (cases_lt n 100) [
  | inl h ↦ two_digits w n x some h
  | inr h ↦ one_more w n x (omega arith) (omega arith) (λ y. two_digits w (n / 10) y (omega arith) (omega arith))
]

-- ---- signs

-- what was read behind a move
abbrev pub behind : Word → Move → List Sign → Reading
behind w m [] = Count w m.count
behind w m (s ∷ ss) = Signs w m

letters_read : (w : Word) (c : ℕ) (before ss : List Sign) (x : List ℕ) → length before + length ss ≤ c + 1
    → word_read_from (map letter ss ++ x) (Signs w (record { count = c; signs = before }))
    ≡ word_read_from x (Signs w (record { count = c; signs = before ++ ss }))
letters_read w c before [] x few = ap (λ (l : List Sign). word_read_from x (Signs w (record { count = c; signs = l }))) (sym (append-nil before))
letters_read w c before (s ∷ ss) x few =
    word_read_of_a_further_byte (Signs w (record { count = c; signs = before })) (Signs w (record { count = c; signs = before ++ s ∷ [] })) (Letter s)
    (letter s)
    (map letter ss ++ x) (kind_letter s)
    (cond-true _ _ _ (lt-ltb 0 (c + 1 - length before) (omega arith)))
    ∙ letters_read w c (before ++ s ∷ []) ss x (omega (arith, length-append before (s ∷ [])))
    ∙ ap (λ (l : List Sign). word_read_from x (Signs w (record { count = c; signs = l }))) (append_assoc before (s ∷ []) ss)

-- letters behind a count are read as its signs
pub signs_read : (w : Word) (c : ℕ) (ss : List Sign) (x : List ℕ) → length ss ≤ c + 1
    → word_read_from (map letter ss ++ x) (Count w c) ≡ word_read_from x (behind w (record { count = c; signs = ss }) ss)
signs_read w c [] x few = refl
signs_read w c (s ∷ ss) x few =
    word_read_of_a_further_byte (Count w c) (Signs w (record { count = c; signs = s ∷ [] })) (Letter s) (letter s) (map letter ss ++ x) (kind_letter s) refl
    ∙ letters_read w c (s ∷ []) ss x (omega (arith, few))

-- ---- moves

-- the text of a move is read as that move
pub move_read : (w : Word) (m : Move) (x : List ℕ) → 0 < m.count → m.count ≤ 999 → length m.signs ≤ m.count + 1
    → word_read_from (move_text m ++ x) (Before w) ≡ word_read_from x (behind w m m.signs)
move_read w m x some few most =
    ap (λ (z : List ℕ). word_read_from z (Before w)) (append_assoc (decimal m.count) (map letter m.signs) x)
    ∙ count_read w m.count (map letter m.signs ++ x) some few
    ∙ signs_read w m.count m.signs x most

dot_behind : (w : Word) (c : ℕ) (ss : List Sign) → c ≤ length ss + 1
    → step (behind w (record { count = c; signs = ss }) ss) Dot ≡ Some (Before (w ++ record { count = c; signs = ss } ∷ []))
dot_behind w c [] least = cond-true _ _ _ (le-leb c 1 (omega arith))
dot_behind w c (s ∷ ss) least = cond-true _ _ _ (eq-eqb (c - 1 - length (s ∷ ss)) 0 (omega arith))

end_behind : (w : Word) (c : ℕ) (ss : List Sign) → c ≤ length ss + 1
    → ended_word (behind w (record { count = c; signs = ss }) ss) ≡ Some (w ++ record { count = c; signs = ss } ∷ [])
end_behind w c [] least = cond-true _ _ _ (le-leb c 1 (omega arith))
end_behind w c (s ∷ ss) least = cond-true _ _ _ (eq-eqb (c - 1 - length (s ∷ ss)) 0 (omega arith))

-- a move and a dot
pub dotted_read : (w : Word) (m : Move) (x : List ℕ) → IsWrittenMove m
    → word_read_from (move_text m ++ 46 ∷ x) (Before w) ≡ word_read_from x (Before (w ++ m ∷ []))
dotted_read w m x h =
    move_read w m (46 ∷ x) h.stands.some h.digits h.stands.most
    ∙ word_read_of_a_further_byte (behind w m m.signs) (Before (w ++ m ∷ [])) Dot 46 x refl (dot_behind w m.count m.signs h.stands.least)

-- the text of a word behind other moves
moves_read : (v : Word) (m : Move) (w : Word) → AllByRecursion IsWrittenMove (m ∷ w) → word_read_from (word_text (m ∷ w)) (Before v) ≡ Some (v ++ m ∷ w)
moves_read v m [] all =
    ap (λ (z : List ℕ). word_read_from z (Before v)) (sym (append-nil (move_text m)))
    ∙ move_read v m [] all.0.stands.some all.0.digits all.0.stands.most
    ∙ end_behind v m.count m.signs all.0.stands.least
moves_read v m (n ∷ w) all =
    dotted_read v m (word_text (n ∷ w)) all.0
    ∙ moves_read (v ++ m ∷ []) n w all.1
    ∙ ap (λ (z : Word). Some z) (append_assoc v (m ∷ []) (n ∷ w))

-- each text of a word is read as that word
pub text_is_read : (bytes : List ℕ) (w : Word) → IsTextOf bytes w → word_read_from bytes (Before []) ≡ Some w
text_is_read bytes [] h = absurd (omega (arith, h.some))
text_is_read bytes (m ∷ w) h = ap (λ (z : List ℕ). word_read_from z (Before [])) h.text ∙ moves_read [] m w h.moves

-- no bytes are the text of two words
pub one_word : (bytes : List ℕ) (v w : Word) → IsTextOf bytes v → IsTextOf bytes w → v ≡ w
one_word bytes v w a b =
    let first : word_read_from bytes (Before []) ≡ Some v = text_is_read bytes v a in
    let second : word_read_from bytes (Before []) ≡ Some w = text_is_read bytes w b in
    cc
