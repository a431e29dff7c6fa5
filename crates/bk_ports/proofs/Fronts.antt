-- Lines of which the same front is kept.
use Rattle.std.proofs.Common.{◌≡◌, ℕ, ◌==◌, true, false, List, [], ◌∷◌, ◌++◌, length, ◌+◌, min, take, map, Result, Ok, Err, IsOk}
use Rattle.std.proofs.Common.{OnOk, ◌≤◌, refl, sym, ap, ◌∙◌, arith, ⊎_elim}
use Rattle.std.proofs.lemmas.Bool.{cases_Bool, false≢true}
use Rattle.std.proofs.lemmas.List.{append-nil, take_min, length-take, take_all}
use Rattle.std.proofs.Math.Seq.{take-append-add}
use Rattle.bk_laws.proofs.ListParts.{take-append_take}
use Rattle.bk_ports.specs.Lines.{closed_lines, kept_front, line_at_end, open_line}
use Rattle.bk_ports.proofs.Cuts.{closed-feed, closed-other, open-feed, open-other}

-- lines of which the same front is kept keep the same front when the same is added
front-append : (xs ys zs : List ℕ) → kept_front xs ≡ kept_front ys → kept_front (xs ++ zs) ≡ kept_front (ys ++ zs)
front-append xs ys zs e =
    sym (take-append_take 8193 xs zs) ∙ ap (λ (l : List ℕ). take 8193 (l ++ zs)) e ∙ take-append_take 8193 ys zs

-- the lines that a line feed ends, and the open line, where the same front of the line that has begun is kept
pub closed-fronts : (xs ys bytes : List ℕ) → kept_front xs ≡ kept_front ys → map kept_front (closed_lines xs bytes) ≡ map kept_front (closed_lines ys bytes)
closed-fronts xs ys [] e = refl
closed-fronts xs ys (b ∷ bs) e =
    ⊎_elim
    (λ (t : (b == 10) ≡ true).
    ap (λ (l : List (List ℕ)). map kept_front l) (closed-feed xs bs b t)
    ∙ ap (λ (l : List ℕ). l ∷ map kept_front (closed_lines [] bs)) e
    ∙ ap (λ (l : List (List ℕ)). map kept_front l) (sym (closed-feed ys bs b t)))
    (λ (t : (b == 10) ≡ false).
    ap (λ (l : List (List ℕ)). map kept_front l) (closed-other xs bs b t)
    ∙ closed-fronts (xs ++ b ∷ []) (ys ++ b ∷ []) bs (front-append xs ys (b ∷ []) e)
    ∙ ap (λ (l : List (List ℕ)). map kept_front l) (sym (closed-other ys bs b t)))
    (cases_Bool (b == 10))

-- lines with the same front kept have the same front kept when further bytes follow
pub open-fronts : (xs ys bytes : List ℕ) → kept_front xs ≡ kept_front ys → kept_front (open_line xs bytes) ≡ kept_front (open_line ys bytes)
open-fronts xs ys [] e = e
open-fronts xs ys (b ∷ bs) e =
    ⊎_elim
    (λ (t : (b == 10) ≡ true). ap (λ (l : List ℕ). kept_front l) (open-feed xs bs b t ∙ sym (open-feed ys bs b t)))
    (λ (t : (b == 10) ≡ false).
    ap (λ (l : List ℕ). kept_front l) (open-other xs bs b t)
    ∙ open-fronts (xs ++ b ∷ []) (ys ++ b ∷ []) bs (front-append xs ys (b ∷ []) e)
    ∙ ap (λ (l : List ℕ). kept_front l) (sym (open-other ys bs b t)))
    (cases_Bool (b == 10))

-- a front is its own front
pub front-front : (xs : List ℕ) → kept_front (kept_front xs) ≡ kept_front xs
front-front xs =
    ap (λ (l : List ℕ). take 8193 l) (sym (append-nil (take 8193 xs))) ∙ take-append_take 8193 xs [] ∙ ap (λ (l : List ℕ). take 8193 l) (append-nil xs)

-- the last line of a kept front is the kept front of the last line
pub last-fronts : (xs : List ℕ) → map kept_front (line_at_end (kept_front xs)) ≡ map kept_front (line_at_end xs)
last-fronts [] = refl
last-fronts (x ∷ xs) = ap (λ (l : List ℕ). l ∷ []) (front-front (x ∷ xs))

-- lines that are split as other lines of which the same fronts are kept
pub record IsSplitAs (lines front back : List (List ℕ)) : Type 0 where
  pub first : List (List ℕ)
  pub later : List (List ℕ)
  pub split : lines ≡ first ++ later
  pub same_first : map kept_front front ≡ map kept_front first
  pub same_later : map kept_front back ≡ map kept_front later

-- with one more line of the same front before them
split_next : (l f : List ℕ) (lines front back : List (List ℕ)) → kept_front f ≡ kept_front l → IsSplitAs lines front back
    → IsSplitAs (l ∷ lines) (f ∷ front) back
split_next l f lines front back here s = record {
  first = l ∷ s.first;
  later = s.later;
  split = ap (λ (x : List (List ℕ)). l ∷ x) s.split;
  same_first = let a = s.same_first in cc;
  same_later = s.same_later;
}

-- lines that keep the fronts of two parts are split into parts that keep them
pub split_as : (lines front back : List (List ℕ)) → map kept_front (front ++ back) ≡ map kept_front lines → IsSplitAs lines front back
split_as lines [] back e = record { first = []; later = lines; split = refl; same_first = refl; same_later = e }
split_as [] (f ∷ fs) back e = absurd (cc)
split_as (l ∷ ls) (f ∷ fs) back e =
    let here : kept_front f ≡ kept_front l = cc in
    let rest : map kept_front (fs ++ back) ≡ map kept_front ls = cc in
    split_next l f ls fs back here (split_as ls fs back rest)

-- where there is room for the front of a piece, it is added whole
pub kept-room : (xs ys : List ℕ) (room : ℕ) → room + length xs ≡ 8193 → xs ++ take (min room (length ys)) ys ≡ kept_front (xs ++ ys)
kept-room xs ys room e =
    let all : length xs + room ≡ 8193 = omega arith in
    ap (λ (l : List ℕ). xs ++ l) (take_min room ys)
    ∙ sym (take-append-add xs ys room)
    ∙ ap (λ (n : ℕ). take n (xs ++ ys)) all

-- the front of a line whose bytes come at once
pub front-alone : (xs ys : List ℕ) (fit : ℕ) → length xs ≡ 0 → fit ≡ min (length ys) 8193 → take fit ys ≡ kept_front (xs ++ ys)
front-alone [] ys fit none e =
    let swap : min (length ys) 8193 ≡ min 8193 (length ys) = omega arith in
    ap (λ (n : ℕ). take n ys) (e ∙ swap) ∙ take_min 8193 ys
front-alone (x ∷ xs) ys fit none e = absurd (omega arith)

-- what was added to a front, where as much of a piece is added as there is room for
pub kept-added : (T E : Type 0) (r : Result T E) (xs ys new : List ℕ) (room fit : ℕ) → room + length xs ≡ 8193 → fit ≡ min room (length ys)
    → (length xs + length (take fit ys) ≤ 8193 → IsOk r) → OnOk r (new ≡ xs ++ take fit ys) → new ≡ kept_front (xs ++ ys)
kept-added T E (Ok x) xs ys new room fit all e fits added = added ∙ ap (λ (n : ℕ). xs ++ take n ys) e ∙ kept-room xs ys room all
kept-added T E (Err x) xs ys new room fit all e fits added = absurd (false≢true (fits (omega (arith, length-take fit ys))))

-- a line that isn't long is kept whole
pub front-whole : (line bytes : List ℕ) → bytes ≡ line → length bytes ≤ 8193 → bytes ≡ kept_front line
front-whole line bytes e short =
    e ∙ sym (take_all 8193 line (omega (arith, ap (λ (l : List ℕ). length l) e)))
