-- A word played on a skeleton, move by move, up to its first illegal move.
use Rattle.std.proofs.Common.{Some, [], ap, arith, length, slice_get, subst, suc, sym, take, zero, ℕ, ◌++◌, ◌+◌, ◌-◌, ◌<◌, ◌∙◌, ◌∷◌, ◌≡◌, ◌≤◌}
use Rattle.std.proofs.lemmas.List.{take_all}
use Rattle.bk_word.proofs.StoredBytes.{order_more}
use Rattle.bk_word.specs.Outline.{IsLegalMove, start}
use Rattle.bk_word.specs.Play.{IsLegal, outline_of}
use Rattle.bk_word.specs.Word.{Move, Word, order_of}
use Rattle.bk_word.proofs.PlayLaws.{legal-last, legal-snoc}
use Rattle.bk_skel.specs.SolveRefusal.{IsFirstIllegal}

-- the first moves of a word and the next one
pub take_more : (w : Word) (i : ℕ) (m : Move) → slice_get w i ≡ Some m → take (i + 1) w ≡ take i w ++ m ∷ []
take_more [] i m e = absurd (cc)
take_more (n ∷ w) zero m e = ap (λ (k : Move). k ∷ []) same
  where
    same : n ≡ m
    same = cc
take_more (n ∷ w) (suc i) m e = ap (λ (k : ℕ). take k (n ∷ w)) step ∙ ap (λ (v : Word). n ∷ v) (take_more w i m e)
  where
    step : suc i + 1 ≡ suc (i + 1)
    step = omega arith

order_fits : (w : Word) (i : ℕ) (m : Move) → slice_get w i ≡ Some m → order_of (take i w) + m.count ≤ order_of w
order_fits [] i m e = absurd (cc)
order_fits (n ∷ w) zero m e = omega (arith, order_more n w, ap (λ (k : Move). k.count) same)
  where
    same : n ≡ m
    same = cc
order_fits (n ∷ w) (suc i) m e = omega (arith, order_more n w, order_more n (take i w), order_fits w i m e)

-- what is played after i moves
pub record IsPlayedTo (w : Word) (i : ℕ) (skel : Word) : Type 0 where
  pub moves : skel ≡ take i w
  pub legal : IsLegal skel

-- before the first move nothing is played
pub played_first : (w skel : Word) → skel ≡ [] → IsPlayedTo w 0 skel
played_first w skel e = record { moves = e; legal = subst IsLegal (sym e) tt }

module _ (w : Word) (i : ℕ) (skel : Word) (p : IsPlayedTo w i skel) (m : Move) (at : slice_get w i ≡ Some m) where
  more : skel ++ m ∷ [] ≡ take (i + 1) w
  more = ap (λ (v : Word). v ++ m ∷ []) p.moves ∙ sym (take_more w i m at)

  -- a legal next move of a word, played, makes one move more of it played
  pub played_more : IsLegalMove (outline_of skel) m → (next : Word) → next ≡ skel ++ m ∷ [] → IsPlayedTo w (i + 1) next
  played_more legal next e = record { moves = e ∙ more; legal = subst IsLegal (sym e) (legal-snoc start skel m p.legal legal) }

  -- moves played from a word with the next one hang at most as many squares as the word
  pub played_few : order_of skel + m.count ≤ order_of w
  played_few = omega (arith, order_fits w i m at, ap order_of p.moves)

  -- a next move that isn't legal is the first illegal one of its word
  pub first_illegal : i < length w → (IsLegalMove (outline_of skel) m → ⊥) → IsFirstIllegal w (i + 1)
  first_illegal below never = record {
    some = omega arith;
    within = omega arith;
    before = subst (λ (k : ℕ). IsLegal (take k w)) back (subst IsLegal p.moves p.legal);
    here = λ l. never (legal-last start skel m (subst IsLegal (sym more) l));
  }
    where
      back : i ≡ i + 1 - 1
      back = omega arith

-- once all moves are played, the word is legal and stands on the skeleton
pub played_last : (w : Word) (i : ℕ) (skel : Word) → IsPlayedTo w i skel → length w ≤ i → (skel ≡ w) × IsLegal w
played_last w i skel p done = let same : skel ≡ w = p.moves ∙ take_all i w done in (same, subst IsLegal same p.legal)
