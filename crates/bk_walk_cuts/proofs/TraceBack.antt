-- A trace of a word after its last move is taken back.
use Rattle.std.proofs.Common.{List, Some, [], ap, arith, length, refl, slice_get, subst, suc, sym, take, zero, ℕ, ◌++◌, ◌+◌, ◌-◌, ◌<◌, ◌∙◌, ◌∷◌, ◌≡◌}
use Rattle.std.proofs.Common.{◌≤◌}
use Rattle.std.proofs.lemmas.List.{length-append, length-take, take-take}
use Rattle.bk_tiling.specs.Tiling.{IsTiling}
use Rattle.bk_word.specs.Word.{Word, order_of}
use Rattle.bk_forms.specs.Form.{Form}
use Rattle.bk_walk_cuts.specs.SidesOfTilings.{AreSidesOf, HoldAfter, HoldFor, LaidBy}
use Rattle.bk_walk_cuts.specs.Trace.{IsMarked, IsTraceOf}
use Rattle.bk_walk_cuts.specs.declared.tracing.Mark.{Mark}

-- ---- the last move taken back

module _ (w : Word) (kept bottoms : List Form) (marks rest : List Mark) (last : Mark)
    (is : IsTraceOf w (record { kept = kept; bottoms = bottoms; marks = marks })) (all : length w ≤ length marks) (split : marks ≡ rest ++ last ∷ []) where
  fewer : length marks ≡ length rest + 1
  fewer = ap length split ∙ length-append rest (last ∷ [])

  many : length w ≡ length marks
  many = let f = is.followed in omega (arith, all)

  get_front : (xs : List Mark) (x : Mark) (j : ℕ) (y : Mark) → slice_get xs j ≡ Some y → slice_get (xs ++ x ∷ []) j ≡ Some y
  get_front [] x j y e = absurd (cc)
  get_front (z ∷ xs) x zero y e = e
  get_front (z ∷ xs) x (suc j) y e = get_front xs x j y e

  get_end : (xs : List Mark) (x : Mark) → slice_get (xs ++ x ∷ []) (length xs) ≡ Some x
  get_end [] x = refl
  get_end (z ∷ xs) x = get_end xs x

  within : (xs : List Mark) (j : ℕ) (y : Mark) → slice_get xs j ≡ Some y → j < length xs
  within [] j y e = absurd (cc)
  within (z ∷ xs) zero y e = omega arith
  within (z ∷ xs) (suc j) y e = omega (arith, within xs j y e)

  at_last : slice_get marks (length rest) ≡ Some last
  at_last = ap (λ (ms : List Mark). slice_get ms (length rest)) split ∙ get_end rest last

  k : IsMarked w (record { kept = kept; bottoms = bottoms; marks = marks }) (length rest) last
  k = is.marked (length rest) last at_last

  short : take (length rest) (take (length w - 1) w) ≡ take (length rest) w
  short = take-take (length rest) (length w - 1) w (omega (arith, many, fewer))

  short_at : (j : ℕ) → j ≤ length rest → take j (take (length w - 1) w) ≡ take j w
  short_at j h = take-take j (length w - 1) w (omega (arith, many, fewer))

  squares_left : length (take last.squares bottoms) ≡ last.squares
  squares_left = length-take last.squares bottoms ∙ (let a = k.squares_within in omega arith)

  -- without the last mark, and what came with it, the trace is that of the word without its last move
  pub trace_back : IsTraceOf (take (length w - 1) w) (record { kept = take last.equations kept; bottoms = take last.squares bottoms; marks = rest })
  trace_back = record {
    followed = omega (arith, length-take (length w - 1) w, many, fewer);
    count = squares_left ∙ k.squares_are ∙ ap order_of (sym short);
    few = (let a = k.squares_within in let b = is.few in omega (arith, squares_left));
    some = (let a = k.some in omega (arith, squares_left));
    small = λ i form e. is.small i form (from_take last.squares bottoms i form e);
    hold = subst (λ (u : Word). HoldAfter u (take last.equations kept) (take last.squares bottoms)) (sym short) k.hold;
    marked = λ j mark e. old j mark e (is.marked j mark (ap (λ (ms : List Mark). slice_get ms j) split ∙ get_front rest last j mark e)) (within rest j mark e);
  }
    where
      from_take : (n : ℕ) (xs : List Form) (i : ℕ) (form : Form) → slice_get (take n xs) i ≡ Some form → slice_get xs i ≡ Some form
      from_take zero [] i form e = absurd (cc)
      from_take zero (x ∷ xs) i form e = absurd (cc)
      from_take (suc n) [] i form e = absurd (cc)
      from_take (suc n) (x ∷ xs) zero form e = e
      from_take (suc n) (x ∷ xs) (suc i) form e = from_take n xs i form e

      old : (j : ℕ) (mark : Mark) → slice_get rest j ≡ Some mark → IsMarked w (record { kept = kept; bottoms = bottoms; marks = marks }) j mark
          → j < length rest
          → IsMarked (take (length w - 1) w) (record { kept = take last.equations kept; bottoms = take last.squares bottoms; marks = rest }) j mark
      old j mark e o h = record {
        squares_are = o.squares_are ∙ ap order_of (sym (short_at j (omega arith)));
        some = o.some;
        equations_within = (let a = k.equations_within in let b = low.0 in omega (arith, length-take last.equations kept));
        squares_within = (let b = low.1 in omega (arith, squares_left));
        later = λ i after from f. o.later i after from (ap (λ (ms : List Mark). slice_get ms i) split ∙ get_front rest last i after f);
        hold = (λ t laid sides. subst (λ (u : Word). (tiling : IsTiling t) → LaidBy t [] u laid → AreSidesOf laid sides
            → HoldFor laid sides (take mark.equations (take last.equations kept)) (take mark.squares (take last.squares bottoms)))
            (sym (short_at j (omega arith)))
            (λ tiling p are. subst (λ (ks : List Form). HoldFor laid sides ks (take mark.squares (take last.squares bottoms)))
            (sym (take-take mark.equations last.equations kept low.0))
            (subst (λ (bs : List Form). HoldFor laid sides (take mark.equations kept) bs) (sym (take-take mark.squares last.squares bottoms low.1))
            (o.hold t laid sides tiling p are))));
      }
        where
          low : (mark.equations ≤ last.equations) × (mark.squares ≤ last.squares)
          low = o.later (length rest) last (omega arith) at_last
