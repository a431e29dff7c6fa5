-- What was read is the start of a text, and where a word may end it is a text.
use Rattle.std.specs.List.{AllByRecursion}
use Rattle.std.specs.Prelude.{List, None, Option, Some, [], decimal, flat_map, if◌then◌else◌, length, map, nat_le, nat_lt, refl, true, ℕ, ◌&&◌}
use Rattle.std.specs.Prelude.{◌*◌, ◌++◌, ◌+◌, ◌-◌, ◌<◌, ◌==◌, ◌∷◌, ◌≡◌, ◌≤◌}
use Rattle.std.proofs.Common.{Bool, ap, append_assoc, arith, eqb-true, false, leb-true, length-append, ltb-true, subst, sym, ◌∙◌}
use Rattle.std.proofs.lemmas.Fmt.{decimal_digit}
use Rattle.std.proofs.lemmas.Grind.{flat_map-append}
use Rattle.std.proofs.lemmas.List.{append-nil, map-append}
use Rattle.bk_laws.proofs.Digits.{decimal-one_digit_more}
use Rattle.bk_laws.proofs.NumberTests.{digit_byte-from_test}
use Rattle.bk_word.specs.WordReading.{word_kind_of}
use Rattle.bk_word.specs.Taken.{Before, Count, Reading, Signs, bare, step, with_sign}
use Rattle.bk_word.specs.Word.{Move, Word}
use Rattle.bk_word.specs.WordText.{IsTextOf, IsWrittenMove, letter, move_text, word_text}
use Rattle.bk_word.specs.declared.Sign.{Sign}
use Rattle.bk_word.specs.declared.Sign.TheVariants.{Above, Even, Under}
use Rattle.bk_word.specs.declared.reader.ByteKind.{ByteKind}
use Rattle.bk_word.specs.declared.reader.ByteKind.TheVariants.{Digit, Dot, Letter, Other}
use Rattle.bk_word.proofs.WordsRead.{ended_word}

-- moves with a dot behind each
abbrev pub dotted : Word → List ℕ
dotted w = flat_map (λ m. move_text m ++ 46 ∷ []) w

-- the bytes that were read
abbrev pub spelled : Reading → List ℕ
spelled (Before w) = dotted w
spelled (Count w count) = dotted w ++ decimal count
spelled (Signs w m) = dotted w ++ move_text m

-- a count of one to three digits
abbrev pub IsCount : ℕ → Type 0
IsCount count = (0 < count) × (count ≤ 999)

-- what can have been read
abbrev pub CanBeRead : Reading → Type 0
CanBeRead (Before w) = AllByRecursion IsWrittenMove w
CanBeRead (Count w count) = AllByRecursion IsWrittenMove w × IsCount count
CanBeRead (Signs w m) = AllByRecursion IsWrittenMove w × IsCount m.count × (0 < length m.signs) × (length m.signs ≤ m.count + 1)

-- moves that a text can hold, with one more of them
pub written_one : (w : Word) (m : Move) → AllByRecursion IsWrittenMove w → IsWrittenMove m → AllByRecursion IsWrittenMove (w ++ m ∷ [])
written_one [] m all one = (one, tt)
written_one (n ∷ w) m all one = (all.0, written_one w m all.1 one)

dotted_one : (w : Word) (m : Move) → dotted (w ++ m ∷ []) ≡ (dotted w ++ move_text m) ++ 46 ∷ []
dotted_one w m =
    flat_map-append (λ (k : Move). move_text k ++ 46 ∷ []) w (m ∷ [])
    ∙ ap (λ (z : List ℕ). dotted w ++ z) (append-nil (move_text m ++ 46 ∷ []))
    ∙ sym (append_assoc (dotted w) (move_text m) (46 ∷ []))

-- the last move has no dot
pub text_of_last : (w : Word) (m : Move) → word_text (w ++ m ∷ []) ≡ dotted w ++ move_text m
text_of_last [] m = refl
text_of_last (n ∷ []) m = sym (append_assoc (move_text n) (46 ∷ []) (move_text m))
    ∙ ap (λ (z : List ℕ). z ++ move_text m) (sym (append-nil (move_text n ++ 46 ∷ [])))
text_of_last (n ∷ k ∷ w) m =
    ap (λ (z : List ℕ). move_text n ++ 46 ∷ z) (text_of_last (k ∷ w) m)
    ∙ sym (append_assoc (move_text n) (46 ∷ []) (dotted (k ∷ w) ++ move_text m))
    ∙ sym (append_assoc (move_text n ++ 46 ∷ []) (dotted (k ∷ w)) (move_text m))

-- moves that end with dots, and a last one without, are a text
pub is_text : (w : Word) (m : Move) → AllByRecursion IsWrittenMove w → IsWrittenMove m → IsTextOf (dotted w ++ move_text m) (w ++ m ∷ [])
is_text w m all one = record { some = omega (arith, length-append w (m ∷ [])); moves = written_one w m all one; text = sym (text_of_last w m) }

-- ---- what each byte is

abbrev Means : ByteKind → ℕ → Type 0
Means (Digit d) b = (b ≡ 48 + d) × (d < 10)
Means (Letter s) b = b ≡ letter s
Means Dot b = b ≡ 46
Means Other b = Unit {0}

either : (test : Bool) (one two : ByteKind) (b : ℕ) → (test ≡ true → Means one b) → Means two b → Means (if test then one else two) b
either true one two b yes' no' = yes' refl
either false one two b yes' no' = no'

-- a byte is the one that its kind stands for
pub byte_means_its_kind : (b : ℕ) → Means (word_kind_of b) b
byte_means_its_kind b =
    either (nat_le 48 b && nat_le b 57) (Digit (b - 48)) _ b (λ h. digit_byte-from_test b h) (
    either (b == 97) (Letter Above) _ b (λ h. eqb-true b 97 h) (
    either (b == 101) (Letter Even) _ b (λ h. eqb-true b 101 h) (
    either (b == 117) (Letter Under) _ b (λ h. eqb-true b 117 h) (
    either (b == 46) Dot Other b (λ h. eqb-true b 46 h) tt))))

-- ---- one byte further

longer_move : (m : Move) (s : Sign) → move_text (with_sign m s) ≡ move_text m ++ letter s ∷ []
longer_move m s = ap (λ (z : List ℕ). decimal m.count ++ z) (map-append letter m.signs (s ∷ []))
    ∙ sym (append_assoc (decimal m.count) (map letter m.signs) (letter s ∷ []))

-- what was read with the byte is what was read, and the byte
pub record Further (r next : Reading) (b : ℕ) : Type 0 where
  pub can : CanBeRead next
  pub spells : spelled next ≡ spelled r ++ b ∷ []

abbrev FurtherBy : Option Reading → Reading → ℕ → Type 0
FurtherBy None r b = Unit {0}
FurtherBy (Some next) r b = Further r next b

when : (test : Bool) (next r : Reading) (b : ℕ) → (test ≡ true → Further r next b) → FurtherBy (if test then Some next else None) r b
when true next r b f = f refl
when false next r b f = tt

move_of_count : (w : Word) (count b : ℕ) → b ≡ 46 → dotted (w ++ bare count ∷ []) ≡ (dotted w ++ decimal count) ++ b ∷ []
move_of_count w count b e =
    dotted_one w (bare count) ∙ (λ i. (dotted w ++ append-nil (decimal count) i) ++ sym e i ∷ [])

bare_written : (count : ℕ) → IsCount count → count ≤ 1 → IsWrittenMove (bare count)
bare_written count c one = record { stands = record { some = c.0; least = omega arith; most = omega arith }; digits = c.1 }

move_written : (m : Move) → IsCount m.count → length m.signs ≤ m.count + 1 → m.count ≤ length m.signs + 1 → IsWrittenMove m
move_written m c most least = record { stands = record { some = c.0; least = least; most = most }; digits = c.1 }

one_further : (r : Reading) (k : ByteKind) (b : ℕ) → CanBeRead r → Means k b → FurtherBy (step r k) r b
one_further (Before w) (Digit d) b can is = when (nat_lt 0 d) (Count w d) (Before w) b (λ h. record {
  can = (can, (ltb-true 0 d h, omega (arith, is.1)));
  spells = ap (λ (z : List ℕ). dotted w ++ z) (decimal_digit d is.1 ∙ ap (λ (n : ℕ). n ∷ []) (sym is.0));
})
one_further (Before w) (Letter s) b can is = tt
one_further (Before w) Dot b can is = tt
one_further (Before w) Other b can is = tt
one_further (Count w c) (Digit d) b can is = when (nat_lt c 100) (Count w (c * 10 + d)) (Count w c) b (λ h. record {
  can = (can.0, (omega (arith, can.1.0), omega (arith, ltb-true c 100 h, is.1)));
  spells = ap (λ (z : List ℕ). dotted w ++ z) (decimal-one_digit_more c d can.1.0 (ltb-true c 100 h) is.1 ∙ ap (λ (n : ℕ). decimal c ++ n ∷ []) (sym is.0))
      ∙ sym (append_assoc (dotted w) (decimal c) (b ∷ []));
})
one_further (Count w c) (Letter s) b can is = record {
  can = (can.0, can.1, omega arith, omega (arith, can.1.0));
  spells = ap (λ (n : ℕ). dotted w ++ (decimal c ++ n ∷ [])) (sym is) ∙ sym (append_assoc (dotted w) (decimal c) (b ∷ []));
}
one_further (Count w c) Dot b can is = when (nat_le c 1) (Before (w ++ bare c ∷ [])) (Count w c) b (λ h. record {
  can = written_one w (bare c) can.0 (bare_written c can.1 (leb-true c 1 h));
  spells = move_of_count w c b is;
})
one_further (Count w c) Other b can is = tt
one_further (Signs w m) (Digit d) b can is = tt
one_further (Signs w m) (Letter s) b can is = when (nat_lt 0 (m.count + 1 - length m.signs)) (Signs w (with_sign m s)) (Signs w m) b (λ h. record {
  can = (
    can.0,
    can.1,
    omega (arith, length-append m.signs (s ∷ [])),
    omega (arith, length-append m.signs (s ∷ []), ltb-true 0 (m.count + 1 - length m.signs) h),
  );
  spells = ap (λ (z : List ℕ). dotted w ++ z) (longer_move m s ∙ ap (λ (n : ℕ). move_text m ++ n ∷ []) (sym is))
      ∙ sym (append_assoc (dotted w) (move_text m) (b ∷ []));
})
one_further (Signs w m) Dot b can is = when ((m.count - 1 - length m.signs) == 0) (Before (w ++ m ∷ [])) (Signs w m) b (λ h. record {
  can = written_one w m can.0 (move_written m can.1 can.3 (omega (arith, eqb-true (m.count - 1 - length m.signs) 0 h)));
  spells = dotted_one w m ∙ ap (λ (n : ℕ). (dotted w ++ move_text m) ++ n ∷ []) (sym is);
})
one_further (Signs w m) Other b can is = tt

-- what is read with a further byte is spelled by the bytes before and that byte
pub further_is_spelled : (r next : Reading) (b : ℕ) → CanBeRead r → step r (word_kind_of b) ≡ Some next → Further r next b
further_is_spelled r next b can e = subst (λ (o : Option Reading). FurtherBy o r b) e (one_further r (word_kind_of b) b can (byte_means_its_kind b))

-- ---- where a word may end, and where it goes on

abbrev TextBy : Option Word → List ℕ → Type 0
TextBy None bytes = Unit {0}
TextBy (Some w) bytes = IsTextOf bytes w

text_when : (test : Bool) (w : Word) (bytes : List ℕ) → (test ≡ true → IsTextOf bytes w) → TextBy (if test then Some w else None) bytes
text_when true w bytes f = f refl
text_when false w bytes f = tt

text_ended : (r : Reading) → CanBeRead r → TextBy (ended_word r) (spelled r)
text_ended (Before w) can = tt
text_ended (Count w c) can = text_when (nat_le c 1) (w ++ bare c ∷ []) (dotted w ++ decimal c)
    (λ h. subst (λ (z : List ℕ). IsTextOf (dotted w ++ z) (w ++ bare c ∷ [])) (append-nil (decimal c))
    (is_text w (bare c) can.0 (bare_written c can.1 (leb-true c 1 h))))
text_ended (Signs w m) can = text_when ((m.count - 1 - length m.signs) == 0) (w ++ m ∷ []) (dotted w ++ move_text m)
    (λ h. is_text w m can.0 (move_written m can.1 can.3 (omega (arith, eqb-true (m.count - 1 - length m.signs) 0 h))))

-- where the reader says that a word may end, the bytes are a text of that word
pub text_found : (r : Reading) (w : Word) → CanBeRead r → ended_word r ≡ Some w → IsTextOf (spelled r) w
text_found r w can e = subst (λ (o : Option Word). TextBy o (spelled r)) e (text_ended r can)
