-- Pieces that are written one after another.
use Rattle.std.specs.List.{concat}
use Rattle.std.proofs.Common.{List, Option, [], ap, arith, drop, get_or, length, min, subst, sym, take, ℕ, ◌+◌, ◌++◌, ◌<◌, ◌∙◌, ◌∷◌, ◌≡◌, ◌≤◌}
use Rattle.std.specs.Io.KnownBytes.{Appends}
use Rattle.std.proofs.lemmas.List.{append-nil, append_assoc, take-append-drop, take-append-le, take_all, take_min, take_more}
use Rattle.std.proofs.lemmas.List.Folds.{concat-append}
use Rattle.std.proofs.Math.Seq.{take-append-add}
use Rattle.bk_laws.proofs.Bytes.{appends-then}
use Rattle.bk_ports.specs.Causes.{AppendsPrefix}

-- the first k pieces are written
abbrev pub AreWritten : List (List ℕ) → ℕ → Option (List ℕ) → Option (List ℕ) → Type 0
AreWritten pieces k a b = Appends a b (concat (take k pieces))

module _ (pieces : List (List ℕ)) (k : ℕ) (piece : List ℕ) (a b c : Option (List ℕ)) (within : k < length pieces) (here : piece ≡ get_or pieces k []) where
  first_more : concat (take (k + 1) pieces) ≡ concat (take k pieces) ++ piece
  first_more =
      ap concat (take_more pieces k [] within) ∙ concat-append (take k pieces) (get_or pieces k [] ∷ [])
      ∙ ap (λ (l : List ℕ). concat (take k pieces) ++ l) (append-nil (get_or pieces k []) ∙ sym here)

  -- one more is written
  pub pieces_written_with_one_more : AreWritten pieces k a b → Appends b c piece → AreWritten pieces (k + 1) a c
  pieces_written_with_one_more done more = appends-then a b c (concat (take k pieces)) piece (concat (take (k + 1) pieces)) done more first_more

  all_pieces : concat pieces ≡ concat (take k pieces) ++ (piece ++ concat (drop (k + 1) pieces))
  all_pieces =
      ap concat (sym (take-append-drop (k + 1) pieces)) ∙ concat-append (take (k + 1) pieces) (drop (k + 1) pieces)
      ∙ ap (λ (l : List ℕ). l ++ concat (drop (k + 1) pieces)) first_more
      ∙ append_assoc (concat (take k pieces)) piece (concat (drop (k + 1) pieces))

  -- the next write failed, and kept a beginning of its piece
  pub written_part : AreWritten pieces k a b → AppendsPrefix b c piece → AppendsPrefix a c (concat pieces)
  written_part done part =
      let first : List ℕ = concat (take k pieces) in
      let later : List ℕ = concat (drop (k + 1) pieces) in
      let m : ℕ = min part.0 (length piece) in
      let kept : take (length first + m) (concat pieces) ≡ first ++ take part.0 piece =
      ap (λ (l : List ℕ). take (length first + m) l) all_pieces
      ∙ take-append-add first (piece ++ later) m
      ∙ ap (λ (l : List ℕ). first ++ l) (take-append-le m piece later (omega arith) ∙ take_min part.0 piece) in
      (length first + m, appends-then a b c first (take part.0 piece) (take (length first + m) (concat pieces)) done part.1 kept)

-- all are written
pub pieces_written_where_none_is_left : (pieces : List (List ℕ)) (k : ℕ) (a b : Option (List ℕ)) → length pieces ≤ k → AreWritten pieces k a b
    → Appends a b (concat pieces)
pieces_written_where_none_is_left pieces k a b all done = subst (λ (l : List (List ℕ)). Appends a b (concat l)) (take_all k pieces all) done
