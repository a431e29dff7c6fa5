-- The bytes of two words compare as the words do.
use Rattle.std.specs.Cmp.Lexicographic.{slice_cmp}
use Rattle.std.specs.Ordering.{nat_cmp, ordering_then}
use Rattle.std.specs.Prelude.{List, [], map, refl, ℕ, ◌++◌, ◌<◌, ◌∷◌, ◌≡◌}
use Rattle.std.specs.declared.cmp.Ordering.{Ordering}
use Rattle.std.specs.declared.cmp.Ordering.TheVariants.{Greater, Less}
use Rattle.std.proofs.Common.{ap, arith, sym, ◌∙◌}
use Rattle.std.proofs.lemmas.Bool.{cond-true, lt-ltb}
use Rattle.bk_laws.proofs.Orderings.{nat_cmp-greater, ordering_then-assoc}
use Rattle.bk_word.specs.StoredWord.{IsStoredWord, sign_byte, stored, word_in}
use Rattle.bk_word.specs.Word.{Word, sign_cmp, word_cmp}
use Rattle.bk_word.specs.declared.Sign.{Sign}
use Rattle.bk_word.specs.declared.Sign.TheVariants.{Above, Even, Under}
use Rattle.bk_word.proofs.StoredBytes.{AreLow, few_low}

sign_bytes : (s t : Sign) → nat_cmp (sign_byte s) (sign_byte t) ≡ sign_cmp s t
sign_bytes Above Above = refl
sign_bytes Above Even = refl
sign_bytes Above Under = refl
sign_bytes Even Above = refl
sign_bytes Even Even = refl
sign_bytes Even Under = refl
sign_bytes Under Above = refl
sign_bytes Under Even = refl
sign_bytes Under Under = refl

count_before : (c : ℕ) (s : Sign) → c < 201 → nat_cmp c (sign_byte s) ≡ Less
count_before c Above low = cond-true _ _ _ (lt-ltb c 201 low)
count_before c Even low = cond-true _ _ _ (lt-ltb c 202 (omega arith))
count_before c Under low = cond-true _ _ _ (lt-ltb c 203 (omega arith))

count_behind : (c : ℕ) (s : Sign) → c < 201 → nat_cmp (sign_byte s) c ≡ Greater
count_behind c Above low = nat_cmp-greater 201 c low
count_behind c Even low = nat_cmp-greater 202 c (omega arith)
count_behind c Under low = nat_cmp-greater 203 c (omega arith)

fewer_signs : (v : Word) (s : Sign) (more : List ℕ) → AreLow v → slice_cmp nat_cmp (stored v) (sign_byte s ∷ more) ≡ Less
fewer_signs [] s more low = refl
fewer_signs (m ∷ v) s more low =
    ap (λ (o : Ordering). ordering_then o (slice_cmp nat_cmp (map sign_byte m.signs ++ stored v) more)) (count_before m.count s low.0)

more_signs : (w : Word) (s : Sign) (more : List ℕ) → AreLow w → slice_cmp nat_cmp (sign_byte s ∷ more) (stored w) ≡ Greater
more_signs [] s more low = refl
more_signs (n ∷ w) s more low =
    ap (λ (o : Ordering). ordering_then o (slice_cmp nat_cmp more (map sign_byte n.signs ++ stored w))) (count_behind n.count s low.0)

signs_then : (ss ts : List Sign) (v w : Word) (o : Ordering) → AreLow v → AreLow w → slice_cmp nat_cmp (stored v) (stored w) ≡ o
    → slice_cmp nat_cmp (map sign_byte ss ++ stored v) (map sign_byte ts ++ stored w) ≡ ordering_then (slice_cmp sign_cmp ss ts) o
signs_then [] [] v w o a b e = e
signs_then [] (t ∷ ts) v w o a b e = fewer_signs v t (map sign_byte ts ++ stored w) a
signs_then (s ∷ ss) [] v w o a b e = more_signs w s (map sign_byte ss ++ stored v) b
signs_then (s ∷ ss) (t ∷ ts) v w o a b e =
    (λ i. ordering_then (sign_bytes s t i) (signs_then ss ts v w o a b e i)) ∙ sym (ordering_then-assoc (sign_cmp s t) (slice_cmp sign_cmp ss ts) o)

words_then : (v w : Word) → AreLow v → AreLow w → slice_cmp nat_cmp (stored v) (stored w) ≡ word_cmp v w
words_then [] [] a b = refl
words_then [] (n ∷ w) a b = refl
words_then (m ∷ v) [] a b = refl
words_then (m ∷ v) (n ∷ w) a b =
    ap (ordering_then (nat_cmp m.count n.count)) (signs_then m.signs n.signs v w (word_cmp v w) a.1 b.1 (words_then v w a.1 b.1))
    ∙ sym (ordering_then-assoc (nat_cmp m.count n.count) (slice_cmp sign_cmp m.signs n.signs) (word_cmp v w))

-- stored words compare as words do
pub stored_cmp : (a b : List ℕ) (v w : Word) → IsStoredWord a → IsStoredWord b → word_in a ≡ v → word_in b ≡ w → slice_cmp nat_cmp a b ≡ word_cmp v w
stored_cmp a b v w sa sb ia ib =
    (λ i. slice_cmp nat_cmp (sa.same i) (sb.same i))
    ∙ words_then (word_in a) (word_in b) (few_low (word_in a) sa.kept.few) (few_low (word_in b) sb.kept.few)
    ∙ (λ i. word_cmp (ia i) (ib i))
