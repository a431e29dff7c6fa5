-- The nodes at which squares end, found from the last node to the first.
use Rattle.std.specs.List.{concat, list_any}
use Rattle.std.proofs.Common.{List, [], ap, arith, cond, drop, length, map, nat_eq, refl, slice_range, suc, sum, sym}
use Rattle.std.proofs.Common.{take, zero, ℕ, ◌++◌, ◌+◌, ◌-◌, ◌<◌, ◌∙◌, ◌∷◌, ◌≡◌}
use Rattle.std.proofs.lemmas.List.{append_assoc, drop_at, length-append, length-map, map-append, take_at}
use Rattle.std.proofs.lemmas.List.Sums.{sum_by-append, sum_by-cons}
use Rattle.std.proofs.lemmas.List.Folds.{concat-append}
use Rattle.bk_laws.proofs.Sums.{sum-map_length}
use Rattle.bk_laws.proofs.TestsAsNumbers.{cond-first_or_rest}
use Rattle.bk_word_net.specs.WordNet.{end_of}

-- lists cut at a place
pub record CutAt (lists : List (List ℕ)) (place : ℕ) : Type 0 where
  pub front : List (List ℕ)
  pub here : List ℕ
  pub back : List (List ℕ)
  pub whole : lists ≡ front ++ here ∷ back
  pub long : length front ≡ place

-- lists can be cut at each of their places
pub cut_at : (lists : List (List ℕ)) (place : ℕ) → place < length lists → CutAt lists place
cut_at [] place h = absurd (omega arith)
cut_at (s ∷ lists) zero h = record { front = []; here = s; back = lists; whole = refl; long = refl }
cut_at (s ∷ lists) (suc place) h = let r = cut_at lists place (omega arith) in record {
  front = s ∷ r.front;
  here = r.here;
  back = r.back;
  whole = ap (λ (l : List (List ℕ)). s ∷ l) r.whole;
  long = ap suc r.long;
}

module _ (lists : List (List ℕ)) (j : ℕ) (c : CutAt lists j) where
  fronts : sum (take j (map length lists)) ≡ length (concat c.front)
  fronts = ap sum (ap (take j) (ap (map length) c.whole ∙ map-append length c.front (c.here ∷ c.back))
      ∙ take_at (map length c.front) (length c.here ∷ map length c.back) j (length-map c.front length ∙ c.long)) ∙ sum-map_length c.front

  next : sum (take (suc j) (map length lists)) ≡ length (concat c.front) + length c.here
  next = ap sum (ap (take (suc j)) (ap (map length) c.whole ∙ map-append length c.front (c.here ∷ c.back)
      ∙ sym (append_assoc (map length c.front) (length c.here ∷ []) (map length c.back)))
      ∙ take_at (map length c.front ++ length c.here ∷ []) (map length c.back) (suc j)
      (omega (arith, length-append (map length c.front) (length c.here ∷ []), length-map c.front length, c.long)))
      ∙ sum_by-append (λ (n : ℕ). n) (map length c.front) (length c.here ∷ [])
      ∙ omega (arith, sum-map_length c.front, sum_by-cons (λ (n : ℕ). n) (length c.here) [])

  -- the numbers of one list are a stretch of all lists put together, by the sums of the sizes
  pub here_is : slice_range (concat lists) (sum (take j (map length lists))) (sum (take (suc j) (map length lists))) ≡ c.here
  here_is = (λ i. slice_range (whole i) (fronts i) (next i))
      ∙ ap (take (length (concat c.front) + length c.here - length (concat c.front)))
      (drop_at (concat c.front) (c.here ++ concat c.back) (length (concat c.front)) refl)
      ∙ take_at c.here (concat c.back) (length (concat c.front) + length c.here - length (concat c.front)) (omega arith)
    where
      whole : concat lists ≡ concat c.front ++ (c.here ++ concat c.back)
      whole = ap concat c.whole ∙ concat-append c.front (c.here ∷ c.back)

  drop_here : drop j lists ≡ c.here ∷ c.back
  drop_here = ap (drop j) c.whole ∙ drop_at c.front (c.here ∷ c.back) j c.long

  drop_next : drop (suc j) lists ≡ c.back
  drop_next = ap (drop (suc j)) (c.whole ∙ sym (append_assoc c.front (c.here ∷ []) c.back))
      ∙ drop_at (c.front ++ c.here ∷ []) c.back (suc j) (omega (arith, length-append c.front (c.here ∷ []), c.long))

found_here : (s : List ℕ) (back : List (List ℕ)) (q j : ℕ) → ◌≡◌ {A = ℕ} (cond (list_any (nat_eq q) s) j (suc j + end_of back q)) (j + end_of (s ∷ back) q)
found_here s back q j = cond-first_or_rest (list_any (nat_eq q) s) j (end_of back q)

-- one node more: its squares end there, and for the others it is as it was
pub marked_node : (lists : List (List ℕ)) (closed sizes : List ℕ) (j start end q old new : ℕ) → closed ≡ concat lists
    → sizes ≡ map length lists → j < length sizes
    → start ≡ sum (take j sizes) → end ≡ sum (take (suc j) sizes)
    → new ≡ cond (list_any (nat_eq q) (slice_range closed start end)) j old → old ≡ suc j + end_of (drop (suc j) lists) q → new ≡ j + end_of (drop j lists) q
marked_node lists closed sizes j start end q old new flat long within at till marked before =
    marked ∙ (λ i. cond (list_any (nat_eq q) (squares i)) j (was i)) ∙ found_here c.here c.back q j
    ∙ ap (λ (l : List (List ℕ)). j + end_of l q) (sym (drop_here lists j c))
  where
    c : CutAt lists j
    c = cut_at lists j (omega (arith, ap length long, length-map lists length))

    squares : slice_range closed start end ≡ c.here
    squares = (λ i. slice_range (flat i) ((at ∙ ap (λ (l : List ℕ). sum (take j l)) long) i)
        ((till ∙ ap (λ (l : List ℕ). sum (take (suc j) l)) long) i)) ∙ here_is lists j c

    was : old ≡ suc j + end_of c.back q
    was = before ∙ ap (λ (l : List (List ℕ)). suc j + end_of l q) (drop_next lists j c)
