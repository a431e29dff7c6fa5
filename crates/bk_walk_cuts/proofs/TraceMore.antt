-- A trace of a word after one more move.
use Rattle.std.proofs.Common.{List, Some, [], ap, arith, inl, inr, length, slice_get, subst, sym, take, ℕ, ◌++◌, ◌+◌, ◌-◌, ◌<◌, ◌∙◌}
use Rattle.std.proofs.Common.{◌∷◌, ◌≡◌, ◌≤◌, ◌⊎◌}
use Rattle.std.proofs.lemmas.List.{length-append, length-map, take-append-le, take-take, take_all}
use Rattle.bk_laws.proofs.ListPlaces.{slice_get-snoc_cases}
use Rattle.bk_tiling.specs.Tiling.{IsTiling}
use Rattle.bk_word.specs.Outline.{valley_of}
use Rattle.bk_word.specs.Play.{new_squares, outline_of}
use Rattle.bk_word.specs.Word.{Move, Word, order_of}
use Rattle.bk_word.proofs.StoredBytes.{order_append, order_more}
use Rattle.bk_forms.specs.Form.{Form}
use Rattle.bk_forms.specs.FormLaws.{MeetsEquations}
use Rattle.bk_word.proofs.PlayLists.{numbers-length}
use Rattle.bk_walk_cuts.proofs.SmallForms.{small_level, small_new}
use Rattle.bk_walk_cuts.specs.KnownSides.{KeepsFirst}
use Rattle.bk_walk_cuts.specs.SideForms.{level_of, new_bottoms}
use Rattle.bk_walk_cuts.specs.SidesOfTilings.{AreSidesOf, HoldAfter, HoldFor, LaidBy}
use Rattle.bk_walk_cuts.specs.Trace.{IsMarked, IsTraceOf}
use Rattle.bk_walk_cuts.specs.declared.tracing.Mark.{Mark}
use Rattle.bk_walk_cuts.proofs.Traces.{Asked, asks}

-- ---- one move more

module _ (w : Word) (m : Move) (kept bottoms : List Form) (marks : List Mark)
    (is : IsTraceOf w (record { kept = kept; bottoms = bottoms; marks = marks })) (all : length marks ≡ length w) (few : order_of w + m.count ≤ 5)
    (hangs : 0 < m.count)
    (kept_then : List Form) (first : KeepsFirst kept kept_then) (meets : (sides : List ℕ) → Asked w m kept bottoms sides
    → MeetsEquations 16 kept_then sides) where
  -- the mark of what was kept before the move
  pub mark_before : Mark
  mark_before = record { equations = length kept; squares = length bottoms }

  whole : take (length marks) w ≡ w
  whole = take_all (length marks) w (omega (arith, all))

  whole_then : take (length (marks ++ record { equations = length kept; squares = length bottoms } ∷ [])) (w ++ m ∷ []) ≡ w ++ m ∷ []
  whole_then = take_all (length (marks ++ record { equations = length kept; squares = length bottoms } ∷ [])) (w ++ m ∷ [])
      (omega (arith, all, length-append w (m ∷ []), length-append marks (record { equations = length kept; squares = length bottoms } ∷ [])))

  order_is : length bottoms ≡ order_of w
  order_is = is.count ∙ ap order_of whole

  news : length (new_bottoms (outline_of w) m bottoms) ≡ m.count
  news = length-map (new_squares (outline_of w) m) (λ n. Rattle.bk_forms.specs.Form.with_column (level_of bottoms (valley_of (outline_of w))) (n - 1))
      ∙ numbers-length (length (outline_of w).hung + 1) m.count

  begun : HoldAfter w kept bottoms
  begun = subst (λ (u : Word). HoldAfter u kept bottoms) whole is.hold

  same_front : (j : ℕ) → j ≤ length marks → take j (w ++ m ∷ []) ≡ take j w
  same_front j h = take-append-le j w (m ∷ []) (omega (arith, all))

  equations_still : (n : ℕ) → n ≤ length kept → take n kept_then ≡ take n kept
  equations_still n h = sym (take-take n (length kept) kept_then h) ∙ ap (take n) first.same

  squares_still : (n : ℕ) → n ≤ length bottoms → take n (bottoms ++ new_bottoms (outline_of w) m bottoms) ≡ take n bottoms
  squares_still n h = take-append-le n bottoms (new_bottoms (outline_of w) m bottoms) h

  hold_then : HoldAfter (w ++ m ∷ []) kept_then (bottoms ++ new_bottoms (outline_of w) m bottoms)
  hold_then t laid_then sides tiling p are = let a = asks w m kept bottoms begun t laid_then sides tiling p are
      in record { equations = meets sides a.asked; levels = a.levels }

  old_mark : (j : ℕ) (k : Mark) → j < length marks → slice_get marks j ≡ Some k
      → IsMarked (w ++ m ∷ []) (record {
        kept = kept_then;
        bottoms = bottoms ++ new_bottoms (outline_of w) m bottoms;
        marks = marks ++ record { equations = length kept; squares = length bottoms } ∷ [];
      }) j k
  old_mark j k h e = record {
    squares_are = old.squares_are ∙ ap order_of (sym (same_front j (omega arith)));
    some = old.some;
    equations_within = (let a = old.equations_within in let b = first.more in omega arith);
    squares_within = (let a = old.squares_within in omega (arith, length-append bottoms (new_bottoms (outline_of w) m bottoms)));
    later = λ i after low f. by i after low (slice_get-snoc_cases marks (record { equations = length kept; squares = length bottoms }) i after f);
    hold = (λ t laid sides. subst (λ (u : Word). (tiling : IsTiling t) → LaidBy t [] u laid → AreSidesOf laid sides
        → HoldFor laid sides (take k.equations kept_then) (take k.squares (bottoms ++ new_bottoms (outline_of w) m bottoms))) (sym (same_front j (omega arith)))
        (λ tiling p are. subst (λ (ks : List Form). HoldFor laid sides ks (take k.squares (bottoms ++ new_bottoms (outline_of w) m bottoms)))
        (sym (equations_still k.equations old.equations_within))
        (subst (λ (bs : List Form). HoldFor laid sides (take k.equations kept) bs) (sym (squares_still k.squares old.squares_within))
        (old.hold t laid sides tiling p are))));
  }
    where
      old : IsMarked w (record { kept = kept; bottoms = bottoms; marks = marks }) j k
      old = is.marked j k e

      by : (i : ℕ) (after : Mark) → j ≤ i → ((i < length marks) × (slice_get marks i ≡ Some after))
          ⊎ ((i ≡ length marks) × (record { equations = length kept; squares = length bottoms } ≡ after)) → (k.equations ≤ after.equations)
          × (k.squares ≤ after.squares)
      by i after low (inl f) = old.later i after low f.1
      by i after low (inr f) = (
        let a = old.equations_within in omega (arith, ap (λ (x : Mark). x.equations) f.1),
        let a = old.squares_within
            in omega (arith, ap (λ (x : Mark). x.squares) f.1),
      )

  new_mark : IsMarked (w ++ m ∷ []) (record {
    kept = kept_then;
    bottoms = bottoms ++ new_bottoms (outline_of w) m bottoms;
    marks = marks ++ record { equations = length kept; squares = length bottoms } ∷ [];
  }) (length marks)
      (record { equations = length kept; squares = length bottoms })
  new_mark = record {
    squares_are = is.count ∙ ap order_of (sym (same_front (length marks) (omega arith)));
    some = is.some;
    equations_within = first.more;
    squares_within = omega (arith, length-append bottoms (new_bottoms (outline_of w) m bottoms));
    later = λ i after low f. by i after low (slice_get-snoc_cases marks (record { equations = length kept; squares = length bottoms }) i after f);
    hold = (λ t laid sides. subst (λ (u : Word). (tiling : IsTiling t) → LaidBy t [] u laid → AreSidesOf laid sides
        → HoldFor laid sides (take (length kept) kept_then) (take (length bottoms) (bottoms ++ new_bottoms (outline_of w) m bottoms)))
        (sym (same_front (length marks) (omega arith)))
        (λ tiling p are. subst (λ (ks : List Form). HoldFor laid sides ks (take (length bottoms) (bottoms ++ new_bottoms (outline_of w) m bottoms)))
        (sym first.same)
        (subst (λ (bs : List Form). HoldFor laid sides kept bs) (sym (squares_still (length bottoms) (omega arith)
        ∙ take_all (length bottoms) bottoms (omega arith))) (is.hold t laid sides tiling p are))));
  }
    where
      by : (i : ℕ) (after : Mark) → length marks ≤ i → ((i < length marks) × (slice_get marks i ≡ Some after))
          ⊎ ((i ≡ length marks) × (record { equations = length kept; squares = length bottoms } ≡ after)) → (length kept ≤ after.equations)
          × (length bottoms ≤ after.squares)
      by i after low (inl f) = absurd (omega (arith, f.0))
      by i after low (inr f) = (omega (arith, ap (λ (x : Mark). x.equations) f.1), omega (arith, ap (λ (x : Mark). x.squares) f.1))

  -- after the move the trace has its equations, its bottoms and its mark
  pub trace_more : IsTraceOf (w ++ m ∷ []) (record {
    kept = kept_then;
    bottoms = bottoms ++ new_bottoms (outline_of w) m bottoms;
    marks = marks ++ record { equations = length kept; squares = length bottoms } ∷ [];
  })
  trace_more = record {
    followed = omega (arith, all, length-append w (m ∷ []), length-append marks (record { equations = length kept; squares = length bottoms } ∷ []));
    count = length-append bottoms (new_bottoms (outline_of w) m bottoms)
        ∙ omega (arith, order_is, news, ap order_of whole_then, order_append w (m ∷ []), order_more m []);
    few = omega (arith, length-append bottoms (new_bottoms (outline_of w) m bottoms), order_is, news, few);
    some = (let a = is.some in omega (
      arith,
      hangs,
      news,
      length-append bottoms (new_bottoms (outline_of w) m bottoms),
      length-append marks (record { equations = length kept; squares = length bottoms } ∷ []),
    ));
    small = small_new bottoms (level_of bottoms (valley_of (outline_of w))) (new_squares (outline_of w) m) is.small
        (small_level bottoms (valley_of (outline_of w)) is.small);
    hold = subst (λ (u : Word). HoldAfter u kept_then (bottoms ++ new_bottoms (outline_of w) m bottoms)) (sym whole_then) hold_then;
    marked = λ j k e. by j k (slice_get-snoc_cases marks (record { equations = length kept; squares = length bottoms }) j k e);
  }
    where
      by : (j : ℕ) (k : Mark) → ((j < length marks) × (slice_get marks j ≡ Some k))
          ⊎ ((j ≡ length marks) × (record { equations = length kept; squares = length bottoms } ≡ k))
          → IsMarked (w ++ m ∷ []) (record {
            kept = kept_then;
            bottoms = bottoms ++ new_bottoms (outline_of w) m bottoms;
            marks = marks ++ record { equations = length kept; squares = length bottoms } ∷ [];
          }) j k
      by j k (inl h) = old_mark j k h.0 h.1
      by j k (inr h) = subst (λ (x : Mark). IsMarked (w ++ m ∷ []) (record {
        kept = kept_then;
        bottoms = bottoms ++ new_bottoms (outline_of w) m bottoms;
        marks = marks ++ record { equations = length kept; squares = length bottoms } ∷ [];
      }) j x) h.1
          (subst (λ (i : ℕ). IsMarked (w ++ m ∷ []) (record {
            kept = kept_then;
            bottoms = bottoms ++ new_bottoms (outline_of w) m bottoms;
            marks = marks ++ record { equations = length kept; squares = length bottoms } ∷ [];
          }) i
          (record { equations = length kept; squares = length bottoms })) (sym h.0) new_mark)
