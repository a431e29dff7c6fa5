-- How the lines of bytes follow from the lines of parts.
use Rattle.std.proofs.Common.{◌≡◌, ℕ, zero, suc, ◌+◌, ◌<◌, ◌==◌, true, false, List, [], ◌∷◌, ◌++◌, length, take, drop, get_or, refl, sym, ap, ◌∙◌}
use Rattle.std.proofs.Common.{arith, ⊎_elim}
use Rattle.std.proofs.lemmas.Bool.{cases_Bool}
use Rattle.std.proofs.lemmas.List.{append_assoc, append-nil}
use Rattle.bk_laws.proofs.ListParts.{drop-one_more_cons}
use Rattle.bk_ports.specs.Lines.{closed_lines, open_line}

-- a line feed ends the line that has begun
pub closed-feed : (begun bs : List ℕ) (b : ℕ) → (b == 10) ≡ true → closed_lines begun (b ∷ bs) ≡ begun ∷ closed_lines [] bs
closed-feed begun bs b e = rw (e, closed_lines) refl

-- a byte that is no line feed goes on with the line that was begun
pub closed-other : (begun bs : List ℕ) (b : ℕ) → (b == 10) ≡ false → closed_lines begun (b ∷ bs) ≡ closed_lines (begun ++ b ∷ []) bs
closed-other begun bs b e = rw (e, closed_lines) refl

-- a line feed ends the line that was begun and begins a new one
pub open-feed : (begun bs : List ℕ) (b : ℕ) → (b == 10) ≡ true → open_line begun (b ∷ bs) ≡ open_line [] bs
open-feed begun bs b e = rw (e, open_line) refl

-- a byte that is no line feed is put behind the line that is open
pub open-other : (begun bs : List ℕ) (b : ℕ) → (b == 10) ≡ false → open_line begun (b ∷ bs) ≡ open_line (begun ++ b ∷ []) bs
open-other begun bs b e = rw (e, open_line) refl

-- the open line of a part goes on in the next part
pub open-append : (begun xs ys : List ℕ) → open_line begun (xs ++ ys) ≡ open_line (open_line begun xs) ys
open-append begun [] ys = refl
open-append begun (x ∷ xs) ys =
    ⊎_elim
    (λ (e : (x == 10) ≡ true). open-feed begun (xs ++ ys) x e ∙ open-append [] xs ys ∙ ap (λ (l : List ℕ). open_line l ys) (sym (open-feed begun xs x e)))
    (λ (e : (x == 10) ≡ false). open-other begun (xs ++ ys) x e ∙ open-append (begun ++ x ∷ []) xs ys
    ∙ ap (λ (l : List ℕ). open_line l ys) (sym (open-other begun xs x e)))
    (cases_Bool (x == 10))

-- the closed lines of two stretches of bytes are those of the first and then those of the second
pub closed-append : (begun xs ys : List ℕ) → closed_lines begun (xs ++ ys) ≡ closed_lines begun xs ++ closed_lines (open_line begun xs) ys
closed-append begun [] ys = refl
closed-append begun (x ∷ xs) ys =
    ⊎_elim
    (λ (e : (x == 10) ≡ true).
    let rest = closed-append [] xs ys in
    let whole = closed-feed begun (xs ++ ys) x e in
    let front = closed-feed begun xs x e in
    let next = open-feed begun xs x e in
    cc)
    (λ (e : (x == 10) ≡ false).
    let rest = closed-append (begun ++ x ∷ []) xs ys in
    let whole = closed-other begun (xs ++ ys) x e in
    let front = closed-other begun xs x e in
    let next = open-other begun xs x e in
    cc)
    (cases_Bool (x == 10))

-- no byte is a line feed
abbrev pub HasNoFeed : List ℕ → Type 0
HasNoFeed bytes = (k : ℕ) → k < length bytes → (get_or bytes k 0 == 10) ≡ false

-- bytes without a line feed close no line
pub closed-none : (begun bytes : List ℕ) → HasNoFeed bytes → closed_lines begun bytes ≡ []
closed-none begun [] free = refl
closed-none begun (b ∷ bs) free = closed-other begun bs b (free 0 (omega arith)) ∙ closed-none (begun ++ b ∷ []) bs (λ k h. free (suc k) (omega arith))

-- bytes without a line feed are put behind the line that is open
pub open-none : (begun bytes : List ℕ) → HasNoFeed bytes → open_line begun bytes ≡ begun ++ bytes
open-none begun [] free = sym (append-nil begun)
open-none begun (b ∷ bs) free =
    open-other begun bs b (free 0 (omega arith)) ∙ open-none (begun ++ b ∷ []) bs (λ k h. free (suc k) (omega arith)) ∙ append_assoc begun (b ∷ []) bs

-- place k holds the first line feed
pub record IsFirstFeed (bytes : List ℕ) (k : ℕ) : Type 0 where
  pub within : k < length bytes
  pub feed : (get_or bytes k 0 == 10) ≡ true
  pub before : (j : ℕ) → j < k → (get_or bytes j 0 == 10) ≡ false

-- the first line feed after the first byte
shifted : (b : ℕ) (bs : List ℕ) (k : ℕ) → IsFirstFeed (b ∷ bs) (suc k) → IsFirstFeed bs k
shifted b bs k first = let h = first.within in record {
  within = omega arith;
  feed = first.feed;
  before = λ j below. first.before (suc j) (omega arith);
}

-- bytes with a first line feed close one line before it, then the lines behind it
pub closed-first : (begun bytes : List ℕ) (k : ℕ) → IsFirstFeed bytes k
    → closed_lines begun bytes ≡ (begun ++ take k bytes) ∷ closed_lines [] (drop (k + 1) bytes)
closed-first begun [] k first = let h = first.within in absurd (omega arith)
closed-first begun (b ∷ bs) zero first = closed-feed begun bs b first.feed ∙ ap (λ (l : List ℕ). l ∷ closed_lines [] bs) (sym (append-nil begun))
closed-first begun (b ∷ bs) (suc k) first =
    let here = closed-other begun bs b (first.before 0 (omega arith)) in
    let rest = closed-first (begun ++ b ∷ []) bs k (shifted b bs k first) in
    let line = append_assoc begun (b ∷ []) (take k bs) in
    let next = drop-one_more_cons b bs k in
    cc

-- behind the first line feed the open line is that of the bytes behind it
pub open-first : (begun bytes : List ℕ) (k : ℕ) → IsFirstFeed bytes k → open_line begun bytes ≡ open_line [] (drop (k + 1) bytes)
open-first begun [] k first = let h = first.within in absurd (omega arith)
open-first begun (b ∷ bs) zero first = open-feed begun bs b first.feed
open-first begun (b ∷ bs) (suc k) first =
    let here = open-other begun bs b (first.before 0 (omega arith)) in
    let rest = open-first (begun ++ b ∷ []) bs k (shifted b bs k first) in
    let next = drop-one_more_cons b bs k in
    cc
