-- A word line has one answer.
use Rattle.std.proofs.Common.{Bool, List, [], ap, arith, inl, inr, length, refl, subst, sym, take, ℕ, ◌+◌, ◌-◌, ◌<◌, ◌∙◌, ◌∷◌, ◌≡◌, ◌≤◌, ◌⊎◌}
use Rattle.std.proofs.lemmas.Bool.{cases_lt}
use Rattle.std.specs.Prelude.{suc, zero}
use Rattle.std.proofs.lemmas.List.{take-take}
use Rattle.bk_tiling.specs.Tiling.{Tiling}
use Rattle.bk_word.specs.Outline.{Outline, start as start_outline}
use Rattle.bk_word.specs.Play.{AreLegalFrom, IsLegal, after_move}
use Rattle.bk_word.specs.Word.{Word, order_of}
use Rattle.bk_word.specs.WordText.{IsNoWordText, IsTextOf}
use Rattle.bk_word.proofs.WordsRead.{one_word}
use Rattle.bk_skel.specs.SolveRefusal.{IsFirstIllegal}
use Rattle.bk_report.specs.Answers.{tiling_line}
use Rattle.bk_report.specs.Refusals.{refusal_line}
use Rattle.bk_report.specs.declared.refusal.Refused.TheVariants.{Illegal, Text}
use Rattle.bk_answer.specs.WordAnswer.{AnswersWord, AnswersWordLine, HasText, illegal, large_word, no_tiling, no_word, no_word_item}
use Rattle.bk_answer.specs.WordAnswer.{of_word, realised, unfinished, wide_word, word_too_long}
use Rattle.bk_answer.proofs.OneItem.{item_no_end, one_item}

-- the first moves of a legal word are legal
legal_front : (o : Outline) (w : Word) (k : ℕ) → AreLegalFrom o w → AreLegalFrom o (take k w)
legal_front o [] zero h = tt
legal_front o [] (suc k) h = tt
legal_front o (m ∷ w) zero h = tt
legal_front o (m ∷ w) (suc k) h = (h.0, legal_front (after_move o m) w k h.1)

-- so a legal word has no first illegal move
not_illegal : (w : Word) (place : ℕ) → IsLegal w → IsFirstIllegal w place → ⊥
not_illegal w place legal h = h.here (legal_front start_outline w place legal)

not_sooner : (w : Word) (p q : ℕ) → IsFirstIllegal w p → IsFirstIllegal w q → p < q → ⊥
not_sooner w p q a b less =
    let front : take p (take (q - 1) w) ≡ take p w = take-take p (q - 1) w (omega arith) in
    a.here (subst IsLegal front (legal_front start_outline (take (q - 1) w) p b.before))

one_place : (w : Word) (p q : ℕ) → IsFirstIllegal w p → IsFirstIllegal w q → p ≡ q
one_place w p q a b = cases (cases_lt p q) (cases_lt q p)
  where
    cases : (p < q) ⊎ (q ≤ p) → (q < p) ⊎ (p ≤ q) → p ≡ q
    cases (inl h) k = absurd (not_sooner w p q a b h)
    cases (inr h) (inl k) = absurd (not_sooner w q p b a k)
    cases (inr h) (inr k) = omega arith

-- a word has one answer
one_of_word : (w : Word) (pieces others : List (List ℕ)) (refused other : Bool) → AnswersWord w pieces refused → AnswersWord w others other
    → (pieces ≡ others) × (refused ≡ other)
one_of_word w pieces others refused other (illegal a p) (illegal b q) = (ap (λ (n : ℕ). refusal_line (Illegal n) ∷ []) (one_place w a b p q), refl)
one_of_word w pieces others refused other (illegal a p) (unfinished l m) = absurd (not_illegal w a l p)
one_of_word w pieces others refused other (illegal a p) (wide_word c v) = absurd (not_illegal w a c.legal p)
one_of_word w pieces others refused other (illegal a p) (no_tiling c v n) = absurd (not_illegal w a c.legal p)
one_of_word w pieces others refused other (illegal a p) (realised t c v i) = absurd (not_illegal w a c.legal p)
one_of_word w pieces others refused other (unfinished l m) (illegal b q) = absurd (not_illegal w b l q)
one_of_word w pieces others refused other (unfinished l m) (unfinished k n) = (refl, refl)
one_of_word w pieces others refused other (unfinished l m) (wide_word c v) = absurd (omega (arith, c.one))
one_of_word w pieces others refused other (unfinished l m) (no_tiling c v n) = absurd (omega (arith, c.one))
one_of_word w pieces others refused other (unfinished l m) (realised t c v i) = absurd (omega (arith, c.one))
one_of_word w pieces others refused other (wide_word c v) (illegal b q) = absurd (not_illegal w b c.legal q)
one_of_word w pieces others refused other (wide_word c v) (unfinished l m) = absurd (omega (arith, c.one))
one_of_word w pieces others refused other (wide_word c v) (wide_word d u) = (refl, refl)
one_of_word w pieces others refused other (wide_word c v) (no_tiling d u n) = absurd (u v)
one_of_word w pieces others refused other (wide_word c v) (realised t d u i) = absurd (u v)
one_of_word w pieces others refused other (no_tiling c v n) (illegal b q) = absurd (not_illegal w b c.legal q)
one_of_word w pieces others refused other (no_tiling c v n) (unfinished l m) = absurd (omega (arith, c.one))
one_of_word w pieces others refused other (no_tiling c v n) (wide_word d u) = absurd (v u)
one_of_word w pieces others refused other (no_tiling c v n) (no_tiling d u m) = (refl, refl)
one_of_word w pieces others refused other (no_tiling c v n) (realised t d u i) = absurd (n t i.tiling i.word)
one_of_word w pieces others refused other (realised t c v i) (illegal b q) = absurd (not_illegal w b c.legal q)
one_of_word w pieces others refused other (realised t c v i) (unfinished l m) = absurd (omega (arith, c.one))
one_of_word w pieces others refused other (realised t c v i) (wide_word d u) = absurd (v u)
one_of_word w pieces others refused other (realised t c v i) (no_tiling d u n) = absurd (n t i.tiling i.word)
one_of_word w pieces others refused other (realised t c v i) (realised s d u j) =
    (ap (λ (z : Tiling). tiling_line z ∷ []) (j.only t i.tiling i.primitive i.word), refl)

-- a line has one item
one_text : (bytes : List ℕ) (m n : ℕ) (s t : List ℕ) → HasText bytes m s → HasText bytes n t → (m ≡ n) × (s ≡ t)
one_text bytes m n s t p q = let same = one_item bytes m p.stop n q.stop p.item q.item in (same.0, p.text_is ∙ same.1 ∙ sym q.text_is)

same_text : (bytes : List ℕ) (m n : ℕ) (s t : List ℕ) (w : Word) → HasText bytes m s → HasText bytes n t → IsTextOf s w → IsTextOf t w
same_text bytes m n s t w p q = subst (λ (z : List ℕ). IsTextOf z w) (one_text bytes m n s t p q).1

words_same : (bytes : List ℕ) (m n : ℕ) (s t : List ℕ) (v w : Word) → HasText bytes m s → HasText bytes n t → IsTextOf s v → IsTextOf t w → v ≡ w
words_same bytes m n s t v w p q a b = one_word t v w (same_text bytes m n s t v p q a) b

one_leaving : (text : List ℕ) (a b : ℕ) → IsNoWordText text a → IsNoWordText text b → a ≡ b
one_leaving text a b p q = omega (arith, p.1.longest b q.1.inside q.1.begins, q.1.longest a p.1.inside p.1.begins)

places_same : (bytes : List ℕ) (m n a b : ℕ) (s t : List ℕ) → HasText bytes m s → HasText bytes n t → IsNoWordText s a → IsNoWordText t b → m + a ≡ n + b
places_same bytes m n a b s t p q l k =
    let same = one_text bytes m n s t p q in
    omega (arith, same.0, one_leaving t a b (subst (λ (z : List ℕ). IsNoWordText z a) same.1 l) k)

no_such_word : (bytes : List ℕ) (m n a : ℕ) (s t : List ℕ) (w : Word) → HasText bytes m s → HasText bytes n t → IsNoWordText s a → IsTextOf t w → ⊥
no_such_word bytes m n a s t w p q l is = l.0 (w, same_text bytes n m t s w q p is)

-- a word line has one answer at most
pub one_word_answer : (bytes : List ℕ) (pieces others : List (List ℕ)) (refused other : Bool) → AnswersWordLine bytes pieces refused
    → AnswersWordLine bytes others other → (pieces ≡ others) × (refused ≡ other)
one_word_answer bytes pieces others refused other (word_too_long l) (word_too_long m) = (refl, refl)
one_word_answer bytes pieces others refused other (word_too_long l) (no_word n b t q k) = absurd (omega (arith, q.short))
one_word_answer bytes pieces others refused other (word_too_long l) (large_word n t w q i m) = absurd (omega (arith, q.short))
one_word_answer bytes pieces others refused other (word_too_long l) (no_word_item s q) = absurd (omega arith)
one_word_answer bytes pieces others refused other (word_too_long l) (of_word w _ _ q a) = absurd (omega (arith, q.item.short))
one_word_answer bytes pieces others refused other (no_word m a s p l) (word_too_long k) = absurd (omega (arith, p.short))
one_word_answer bytes pieces others refused other (no_word m a s p l) (no_word n b t q k) =
    (ap (λ (z : ℕ). refusal_line (Text z) ∷ []) (places_same bytes m n a b s t p q l k), refl)
one_word_answer bytes pieces others refused other (no_word m a s p l) (large_word n t w q i k) = absurd (no_such_word bytes m n a s t w p q l i)
one_word_answer bytes pieces others refused other (no_word m a s p l) (no_word_item k q) = absurd (item_no_end bytes m p.stop p.item q)
one_word_answer bytes pieces others refused other (no_word m a s p l) (of_word w _ _ q b) = absurd (no_such_word bytes m q.start a s q.text w p q.item l q.word)
one_word_answer bytes pieces others refused other (large_word m s v p i k) (word_too_long l) = absurd (omega (arith, p.short))
one_word_answer bytes pieces others refused other (large_word m s v p i k) (no_word n b t q l) = absurd (no_such_word bytes n m b t s v q p l i)
one_word_answer bytes pieces others refused other (large_word m s v p i k) (large_word n t w q j l) = (refl, refl)
one_word_answer bytes pieces others refused other (large_word m s v p i k) (no_word_item l q) = absurd (item_no_end bytes m p.stop p.item q)
one_word_answer bytes pieces others refused other (large_word m s v p i k) (of_word w _ _ q b) =
    absurd (omega (arith, ap order_of (words_same bytes m q.start s q.text v w p q.item i q.word), q.few))
one_word_answer bytes pieces others refused other (no_word_item s p) (word_too_long l) = absurd (omega arith)
one_word_answer bytes pieces others refused other (no_word_item s p) (no_word n b t q l) = absurd (item_no_end bytes n q.stop q.item p)
one_word_answer bytes pieces others refused other (no_word_item s p) (large_word n t w q j l) = absurd (item_no_end bytes n q.stop q.item p)
one_word_answer bytes pieces others refused other (no_word_item s p) (no_word_item k q) = (refl, refl)
one_word_answer bytes pieces others refused other (no_word_item s p) (of_word w _ _ q b) = absurd (item_no_end bytes q.start q.item.stop q.item.item p)
one_word_answer bytes pieces others refused other (of_word v _ _ p a) (word_too_long l) = absurd (omega (arith, p.item.short))
one_word_answer bytes pieces others refused other (of_word v _ _ p a) (no_word n b t q l) = absurd (no_such_word bytes n p.start b t p.text v q p.item l p.word)
one_word_answer bytes pieces others refused other (of_word v _ _ p a) (large_word n t w q j l) =
    absurd (omega (arith, ap order_of (words_same bytes n p.start t p.text w v q p.item j p.word), p.few))
one_word_answer bytes pieces others refused other (of_word v _ _ p a) (no_word_item k q) = absurd (item_no_end bytes p.start p.item.stop p.item.item q)
one_word_answer bytes pieces others refused other (of_word v _ _ p a) (of_word w _ _ q b) =
    one_of_word w pieces others refused other
    (subst (λ (z : Word). AnswersWord z pieces refused) (words_same bytes p.start q.start p.text q.text v w p.item q.item p.word q.word) a) b

-- a line that is too long is answered so, whatever it holds
pub long_word_answer : (bytes others : List ℕ) (pieces : List (List ℕ)) (refused : Bool) → 8192 < length bytes → 8192 < length others
    → AnswersWordLine bytes pieces refused → AnswersWordLine others pieces refused
long_word_answer bytes others pieces refused long longer (word_too_long l) = word_too_long longer
long_word_answer bytes others pieces refused long longer (no_word m a s p l) = absurd (omega (arith, p.short))
long_word_answer bytes others pieces refused long longer (large_word m s v p i k) = absurd (omega (arith, p.short))
long_word_answer bytes others pieces refused long longer (no_word_item s p) = absurd (omega arith)
long_word_answer bytes others pieces refused long longer (of_word v _ _ p a) = absurd (omega (arith, p.item.short))
