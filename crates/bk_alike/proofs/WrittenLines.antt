-- Lines that are written one after another.
use Rattle.std.specs.List.{concat}
use Rattle.std.specs.Prelude.{Err, Ok, OnErr, OnOk, Result, Some, drop, min, slice_get, take, zero}
use Rattle.std.specs.Io.KnownBytes.{Appends}
use Rattle.std.proofs.Common.{List, [], Option, ap, arith, length, refl, subst, suc, sym, ℕ, ◌++◌, ◌+◌, ◌<◌, ◌∙◌, ◌∷◌, ◌≡◌}
use Rattle.std.proofs.lemmas.List.{append-nil, append_assoc, take-append-le, take_min}
use Rattle.std.proofs.lemmas.List.Folds.{concat-append}
use Rattle.std.proofs.KnownBytes.{Appends-nil}
use Rattle.bk_laws.proofs.Bytes.{appends-one_piece, appends-then}
use Rattle.bk_ports.specs.Causes.{AppendsPrefix}
use Rattle.bk_ports.proofs.KnownSteps.{prefix_after}
use Rattle.bk_alike.specs.WrittenLines.{WritesLines}

-- a beginning of bytes is one of more bytes
pub prefix_more : (a b : Option (List ℕ)) (xs ys : List ℕ) → AppendsPrefix a b xs → AppendsPrefix a b (xs ++ ys)
prefix_more a b xs ys (n, written) =
    let m = min n (length xs) in
    let taken : take n xs ≡ take m (xs ++ ys) = sym (take_min n xs) ∙ sym (take-append-le m xs ys (omega arith)) in
    (m, subst (λ (l : List ℕ). Appends a b l) taken written)

-- of all these lines some are written, and `rest` is still to be written
pub record IsWrittenTo (all rest : List (List ℕ)) (before now : Option (List ℕ)) : Type 0 where
  pub done : List (List ℕ)
  pub split : all ≡ done ++ rest
  pub written : Appends before now (concat done)

-- nothing is written yet, and all lines are still to be written
pub no_line_written_yet : (all : List (List ℕ)) (w : Option (List ℕ)) → IsWrittenTo all all w w
no_line_written_yet all w = record { done = []; split = refl; written = Appends-nil w }

-- nothing is written yet, where what is to be written is told in another way
pub written_from : (all rest : List (List ℕ)) (w : Option (List ℕ)) → rest ≡ all → IsWrittenTo all rest w w
written_from all rest w is = record { done = []; split = sym is; written = Appends-nil w }

-- the next of the lines are written
pub lines_written_with_the_next_ones : (all rest piece later : List (List ℕ)) (a b c : Option (List ℕ)) → IsWrittenTo all rest a b → rest ≡ piece ++ later
    → Appends b c (concat piece) → IsWrittenTo all later a c
lines_written_with_the_next_ones all rest piece later a b c state is here = record {
  done = state.done ++ piece;
  split = state.split ∙ ap (λ (l : List (List ℕ)). state.done ++ l) is ∙ sym (append_assoc state.done piece later);
  written = appends-then a b c (concat state.done) (concat piece) (concat (state.done ++ piece)) state.written here (concat-append state.done piece);
}

-- where none is left, all are written
pub lines_written_where_none_is_left : (all rest : List (List ℕ)) (a b : Option (List ℕ)) → IsWrittenTo all rest a b → rest ≡ [] → Appends a b (concat all)
lines_written_where_none_is_left all rest a b state none =
    subst (λ (l : List (List ℕ)). Appends a b (concat l)) (sym (state.split ∙ ap (λ (l : List (List ℕ)). state.done ++ l) none
    ∙ append-nil state.done)) state.written

-- where a write of the next of them fails, a beginning of all lines stands written
pub written_broken : (all rest piece later : List (List ℕ)) (a b c : Option (List ℕ)) → IsWrittenTo all rest a b → rest ≡ piece ++ later
    → AppendsPrefix b c (concat piece) → AppendsPrefix a c (concat all)
written_broken all rest piece later a b c state is here =
    let whole : concat all ≡ concat state.done ++ (concat piece ++ concat later) =
    ap concat (state.split ∙ ap (λ (l : List (List ℕ)). state.done ++ l) is) ∙ concat-append state.done (piece ++ later)
    ∙ ap (λ (l : List ℕ). concat state.done ++ l) (concat-append piece later) in
    subst (λ (l : List ℕ). AppendsPrefix a c l) (sym whole)
    (prefix_after a b c (concat state.done) (concat piece ++ concat later) state.written (prefix_more b c (concat piece) (concat later) here))

-- what appends a beginning of a piece appends one of the concatenation of that piece alone
pub one_broken : (line piece : List ℕ) (a b : Option (List ℕ)) → piece ≡ line → AppendsPrefix a b piece → AppendsPrefix a b (concat (line ∷ []))
one_broken line piece a b is w = subst (λ (l : List ℕ). AppendsPrefix a b l) (is ∙ sym (append-nil line)) w

-- lines, and then more of them
pub broken_before : (xs ys : List (List ℕ)) (a c : Option (List ℕ)) → AppendsPrefix a c (concat xs) → AppendsPrefix a c (concat (xs ++ ys))
broken_before xs ys a c h = subst (λ (l : List ℕ). AppendsPrefix a c l) (sym (concat-append xs ys)) (prefix_more a c (concat xs) (concat ys) h)

-- lines, and then a last one
pub last_written : {T E : Type 0} (xs : List (List ℕ)) (line piece : List ℕ) (a b c : Option (List ℕ)) (r : Result T E) → Appends a b (concat xs) → piece ≡ line
    → OnOk r (Appends b c piece) → OnErr r (AppendsPrefix b c piece) → WritesLines (xs ++ line ∷ []) a c r
last_written xs line piece a b c (Ok x) first is ok err =
    appends-then a b c (concat xs) (concat (line ∷ [])) (concat (xs ++ line ∷ [])) first (appends-one_piece line piece b c is ok) (concat-append xs (line ∷ []))
last_written xs line piece a b c (Err f) first is ok err =
    subst (λ (l : List ℕ). AppendsPrefix a c l) (sym (concat-append xs (line ∷ [])))
    (prefix_after a b c (concat xs) (concat (line ∷ [])) first (one_broken line piece b c is err))

-- the element at a place, and what is left from there on
pub record IsAt {A : Type 0} (xs : List A) (k : ℕ) : Type 0 where
  pub item : A
  pub here : slice_get xs k ≡ Some item
  pub left : drop k xs ≡ item ∷ drop (k + 1) xs

-- each place below the length has an item
pub item_at : {A : Type 0} (xs : List A) (k : ℕ) → k < length xs → IsAt xs k
item_at [] k below = absurd (omega arith)
item_at (x ∷ xs) zero below = record { item = x; here = refl; left = refl }
item_at (x ∷ xs) (suc k) below =
    let at = item_at xs k (omega arith) in
    let e : suc (k + 1) ≡ suc k + 1 = omega arith in
    record { item = at.item; here = at.here; left = at.left ∙ ap (λ (l : ℕ). at.item ∷ drop l (x ∷ xs)) e }
