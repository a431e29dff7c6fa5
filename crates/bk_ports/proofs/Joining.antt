-- Lines that are entered one after another: the first and then the others, and lines of which the same fronts are kept.
use Rattle.std.proofs.Common.{◌≡◌, ℕ, ◌+◌, Bool, ◌||◌, List, [], ◌∷◌, ◌++◌, length, map, Option, sym, ap, ◌∙◌, subst, arith}
use Rattle.std.specs.List.{concat}
use Rattle.std.proofs.lemmas.List.{length-map}
use Rattle.std.proofs.lemmas.Grind.{flat_map-append}
use Rattle.std.proofs.lemmas.List.Folds.{list_any-append}
use Rattle.bk_laws.proofs.Bytes.{appends-then}
use Rattle.bk_ports.specs.Lines.{kept_front}
use Rattle.bk_ports.specs.Reply.{Reply, text_of, some_refused}
use Rattle.bk_ports.specs.Entering.{AreAllEntered, AreEntered, Entering, entering_from}

-- lines of which the same fronts are kept are as many
pub fronts_many : (xs ys : List (List ℕ)) → map kept_front xs ≡ map kept_front ys → length xs ≡ length ys
fronts_many xs ys e =
    sym (length-map xs kept_front) ∙ ap (λ (l : List (List ℕ)). length l) e ∙ length-map ys kept_front

module _ {State : Type 0} (rules : Entering State) where
  -- from a number that is the same
  from_number : (s l : State) (m n : ℕ) (xs : List (List ℕ)) (rs : List Reply) → m ≡ n → AreEntered (entering_from rules s m) xs rs l
      → AreEntered (entering_from rules s n) xs rs l
  from_number s l m n xs rs e are = subst (λ (k : ℕ). AreEntered (entering_from rules s k) xs rs l) e are

  -- the first lines are entered, and then the others
  pub entered-append : (s m l : State) (n : ℕ) (xs ys : List (List ℕ)) (rs ss : List Reply) → AreEntered (entering_from rules s n) xs rs m
      → AreEntered (entering_from rules m (n + length xs)) ys ss l → AreEntered (entering_from rules s n) (xs ++ ys) (rs ++ ss) l
  entered-append s m l n [] ys [] ss p q =
      from_number s l (n + 0) n ys ss (omega arith) (subst (λ (t : State). AreEntered (entering_from rules t (n + 0)) ys ss l) p q)
  entered-append s m l n [] ys (r ∷ rs) ss p q = absurd p
  entered-append s m l n (x ∷ xs) ys [] ss p q = absurd p
  entered-append s m l n (x ∷ xs) ys (r ∷ rs) ss p q =
      (p.0, p.1, entered-append p.0 m l (n + 1) xs ys rs ss p.2 (from_number m l (n + length (x ∷ xs)) ((n + 1) + length xs) ys ss (omega arith) q))

  -- lines of which the same fronts are kept are entered alike
  pub entered-fronts : (s l : State) (n : ℕ) (lines others : List (List ℕ)) (rs : List Reply) → map kept_front lines ≡ map kept_front others
      → AreEntered (entering_from rules s n) lines rs l → AreEntered (entering_from rules s n) others rs l
  entered-fronts s l n [] [] rs e are = are
  entered-fronts s l n [] (o ∷ os) rs e are = absurd (cc)
  entered-fronts s l n (x ∷ xs) [] rs e are = absurd (cc)
  entered-fronts s l n (x ∷ xs) (o ∷ os) [] e are = are
  entered-fronts s l n (x ∷ xs) (o ∷ os) (r ∷ rs) e are =
      let here : kept_front x ≡ kept_front o = cc in
      let rest : map kept_front xs ≡ map kept_front os = cc in
      (are.0, subst (λ (f : List ℕ). rules.enters s n f r.pieces r.refused are.0) here are.1, entered-fronts are.0 l (n + 1) xs os rs rest are.2)

  -- lines entered one after another are entered as all of them, with what was written and whether one was refused
  pub entered_more : (s m l : State) (n : ℕ) (xs ys : List (List ℕ)) (a b c : Option (List ℕ)) (p q : Bool) → AreAllEntered (entering_from rules s n) m xs p a b
      → AreAllEntered (entering_from rules m (n + length xs)) l ys q b c → AreAllEntered (entering_from rules s n) l (xs ++ ys) (p || q) a c
  entered_more s m l n xs ys a b c p q first next = record {
    replies = first.replies ++ next.replies;
    each = entered-append s m l n xs ys first.replies next.replies first.each next.each;
    written =
        appends-then a b c (text_of first.replies) (text_of next.replies) (text_of (first.replies ++ next.replies))
        first.written next.written (flat_map-append (λ (reply : Reply). concat reply.pieces) first.replies next.replies);
    any =
        list_any-append (λ (reply : Reply). reply.refused) first.replies next.replies
        ∙ ap (λ (v : Bool). v || some_refused next.replies) first.any
        ∙ ap (λ (v : Bool). p || v) next.any;
  }

  -- lines of which the same fronts are kept are entered alike, with all that was written
  pub entered_fronts : (s l : State) (n : ℕ) (xs ys : List (List ℕ)) (a b : Option (List ℕ)) (p : Bool) → map kept_front xs ≡ map kept_front ys
      → AreAllEntered (entering_from rules s n) l xs p a b → AreAllEntered (entering_from rules s n) l ys p a b
  entered_fronts s l n xs ys a b p e are = record {
    replies = are.replies;
    each = entered-fronts s l n xs ys are.replies e are.each;
    written = are.written;
    any = are.any;
  }
