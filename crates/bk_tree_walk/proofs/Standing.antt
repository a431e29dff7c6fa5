-- What a step of a walk knows of the place where it stands, and where it leads.
use Rattle.std.proofs.Common.{Some, [], ap, arith, inl, inr, length, slice_get, subst, sym, take, ℕ, ◌++◌, ◌+◌, ◌-◌, ◌<◌, ◌∙◌, ◌∷◌, ◌≡◌, ◌≤◌, ◌⊎◌}
use Rattle.std.proofs.lemmas.Bool.{cases_lt}
use Rattle.std.proofs.lemmas.List.{length-append, take_all, take_at}
use Rattle.bk_laws.proofs.ListPlaces.{take-snoc_next}
use Rattle.bk_word.specs.Outline.{IsLegalMove, Outline, open_sides, start}
use Rattle.bk_word.specs.Play.{IsComplete, IsLegal, outline_of}
use Rattle.bk_word.specs.Word.{Move, Word, move_cmp, order_of}
use Rattle.bk_word.proofs.WordOrder.{move_itself}
use Rattle.std.specs.declared.cmp.Ordering.TheVariants.{Equal, Less}
use Rattle.bk_word.specs.declared.Class.{Class}
use Rattle.bk_word.proofs.StoredBytes.{order_append, order_more}
use Rattle.bk_word.proofs.PlayLaws.{at_most_one_sign_more_than_squares, legal_front, legal_rest}
use Rattle.bk_walk_cuts.proofs.CutLaws.{after_near, whole_front}
use Rattle.bk_catalogue.proofs.TreeOfWords.Fitting.{HasShape, IsFit, fit}
use Rattle.bk_catalogue.proofs.TreeOfWords.MoveOrder.{less_from}
use Rattle.bk_catalogue.proofs.TreeOfWords.Places.{IsLast}
use Rattle.bk_tree_walk.proofs.WalkSteps.{goes_down, goes_past_barren, meets_pushed, pushed_tree, walk_ends_without_moves, walk_goes_on_after_last}
use Rattle.bk_tree_walk.proofs.WalkSteps.{walk_goes_on_over_cuts}
use Rattle.bk_catalogue.specs.Catalogue.{Entry, IsEntry}
use Rattle.bk_catalogue.proofs.Members.OneEntry.{entry_complete}
use Rattle.bk_catalogue.specs.Cuts.{IsBarren}
use Rattle.bk_walk_cuts.specs.MoveCuts.{GrowsByAtMostOne, IsCut}
use Rattle.bk_catalogue.specs.NextMove.{IsLeastFrom, IsMoveFrom, first_move, fitted, move_after}
use Rattle.bk_catalogue.specs.Repeated.{HasNoMember}
use Rattle.bk_tree_walk.specs.TreePlace.{Advances, Ends, IsClimbed, IsTreeWalkState, IsTreeWord, Meets}

shape_from : (o : Outline) (m : Move) → IsLegalMove o m → HasShape (open_sides o) m
shape_from o m l = let some = l.some in record { some = l.some; long = omega (arith, l.signs) }

legal_from : (o : Outline) (m : Move) → HasShape (open_sides o) m → IsLegalMove o m
legal_from o m h = let some = h.some in record { some = h.some; signs = omega (arith, h.long) }

-- the move that is fitted is the least legal one that is not before the move
pub fit_least : (o : Outline) (x : Move) → 0 < x.count → IsLeastFrom o x (fitted (open_sides o) x)
fit_least o x some = record {
  legal = legal_from o (fitted (open_sides o) x) f.shape;
  from = f.from;
  least = λ other legal from. f.least other (shape_from o other legal) from;
}
  where
    f : IsFit (open_sides o) x (fitted (open_sides o) x)
    f = fit (open_sides o) x some

count_up : (a b : Move) → IsMoveFrom a b → a.count ≤ b.count
count_up a b from = cases (cases_lt b.count a.count)
  where
    cases : (b.count < a.count) ⊎ (a.count ≤ b.count) → a.count ≤ b.count
    cases (inl h) = absurd (from (less_from b a (inl h)))
    cases (inr h) = h

-- where the move that fits hangs too many squares, no legal move is left
pub last_from_fit : (n : ℕ) (front : Word) (x : Move) → 0 < x.count → n < order_of front + (fitted (open_sides (outline_of front)) x).count → IsLast n front x
last_from_fit n front x some many m legal from few =
    omega (arith, count_up (fitted (open_sides (outline_of front)) x) m ((fit_least (outline_of front) x some).least m legal from))

move_after_near : (m : Move) → GrowsByAtMostOne m (move_after m)
move_after_near m = subst (λ (k : Move). GrowsByAtMostOne m (move_after k)) (whole_front m) (after_near (length m.signs) m)

-- the last move of moves that are legal and few
pub record IsLastMove (front : Word) (m : Move) : Type 0 where
  pub legal_front : IsLegal front
  pub legal : IsLegalMove (outline_of front) m
  pub small : order_of front + m.count ≤ 16
  pub count : m.count ≤ 16
  pub signs : length m.signs ≤ 17

-- the last move of legal moves is legal, and has few squares and signs
pub last_of_legal_moves_is_legal : (before front : Word) (m : Move) → IsLegal before → order_of before ≤ 16 → before ≡ front ++ m ∷ [] → IsLastMove front m
last_of_legal_moves_is_legal before front m l few e = record {
  legal_front = legal_front start front (m ∷ []) lawful;
  legal = legal.0;
  small =
      omega (arith, order);
  count = omega (arith, order);
  signs = omega (arith, at_most_one_sign_more_than_squares (outline_of front) m legal.0, order);
}
  where
    lawful : IsLegal (front ++ m ∷ [])
    lawful = subst IsLegal e l

    legal : IsLegalMove (outline_of front) m × Unit {0}
    legal = legal_rest start front (m ∷ []) lawful

    order : order_of front + m.count ≤ 16
    order = omega (arith, few, ap order_of e, order_append front (m ∷ []), order_more m [])

-- the last move is taken back
pub taken_last : (before front : Word) (m : Move) (moves : ℕ) → moves ≡ length before → 0 < moves → slice_get before (moves - 1) ≡ Some m
    → front ≡ take (length before - 1) before → before ≡ front ++ m ∷ []
taken_last before front m moves e some g f = sym (take_all (moves - 1 + 1) before (omega arith)) ∙ take-snoc_next before (moves - 1) m g
    ∙ ap (λ l. l ++ m ∷ []) (ap (λ k. take (k - 1) before) e ∙ sym f)

front_of_more : (front : Word) (m : Move) → take (length (front ++ m ∷ []) - 1) (front ++ m ∷ []) ≡ front
front_of_more front m = take_at front (m ∷ []) (length (front ++ m ∷ []) - 1) (omega (arith, length-append front (m ∷ [])))

-- the move that is fitted is the least legal one
pub step_least : (n : ℕ) (front : Word) (x m : Move) → IsTreeWalkState n front x → m ≡ fitted (open_sides (outline_of front)) x
    → IsLeastFrom (outline_of front) x m
step_least n front x m s fits = subst (IsLeastFrom (outline_of front) x) (sym fits) (fit_least (outline_of front) x s.some)

-- a step from a place where the move that fits hangs too many squares
module _ (n : ℕ) (class : Class) (front : Word) (x m : Move) (few : n ≤ 16) (s : IsTreeWalkState n front x)
    (fits : m ≡ fitted (open_sides (outline_of front)) x) where
  step_last : n < order_of front + m.count → IsLast n front x
  step_last many = last_from_fit n front x s.some (subst (λ (k : Move). n < order_of front + k.count) fits many)

  -- back, after the last move
  pub step_climbs : (new : Word) (next : Move) (met : ℕ) → IsClimbed front new next → n < order_of front + m.count → met ≤ 0
      → Advances n class (front ++ x ∷ []) (new ++ next ∷ []) met × IsTreeWalkState n new next
  step_climbs new next met c many none = (advances, stand)
    where
      l : IsLastMove new c.last
      l = last_of_legal_moves_is_legal front new c.last s.legal (omega (arith, s.small)) c.was

      near : GrowsByAtMostOne c.last (move_after c.last)
      near = move_after_near c.last

      stand : IsTreeWalkState n new next
      stand = record {
        legal = l.legal_front;
        small = omega (arith, s.small, ap order_of c.was, order_append new (c.last ∷ []), order_more c.last []);
        some = omega (arith, near.least, (l.legal).some, ap (λ (k : Move). k.count) c.next);
        count = omega (arith, near.most, l.count, ap (λ (k : Move). k.count) c.next);
        signs = omega (arith, near.signs, l.signs, ap (λ (k : Move). length k.signs) c.next);
      }

      advances : Advances n class (front ++ x ∷ []) (new ++ next ∷ []) met
      advances = subst (λ (b : Word). Advances n class (b ++ x ∷ []) (new ++ next ∷ []) met) (sym c.was)
          (subst (λ (k : Move). Advances n class ((new ++ c.last ∷ []) ++ x ∷ []) (new ++ k ∷ []) met) (sym c.next)
          (walk_goes_on_after_last n class new c.last x met l.legal (subst (λ (b : Word). IsLast n b x) c.was (step_last many)) none))

  -- to the end
  pub step_ends : (met : ℕ) → front ≡ [] → n < order_of front + m.count → met ≤ 0 → Ends n class (front ++ x ∷ []) met
  step_ends met e many none = subst (λ (b : Word). Ends n class (b ++ x ∷ []) met) (sym e)
      (walk_ends_without_moves n class x met (subst (λ (b : Word). IsLast n b x) e (step_last many)) none)

-- a legal move is the least that isn't before it
pub least_itself : (front : Word) (m : Move) → IsLegalMove (outline_of front) m → IsLeastFrom (outline_of front) m m
least_itself front m legal = record { legal = legal; from = itself; least = λ other is from. from }
  where
    less_equal : Less ≡ Equal → ⊥
    less_equal f = cc

    itself : move_cmp m m ≡ Less → ⊥
    itself e = less_equal (sym e ∙ move_itself m)

-- a step from a place at a legal move
module _ (n : ℕ) (class : Class) (front : Word) (m : Move) (few : n ≤ 16) (s : IsTreeWalkState n front m) (legal : IsLegalMove (outline_of front) m) where
  least : IsLeastFrom (outline_of front) m m
  least = least_itself front m legal

  -- a legal move has at most one sign more than squares
  pub step_signs : length m.signs ≤ m.count + 1
  step_signs = at_most_one_sign_more_than_squares (outline_of front) m legal

  -- over moves that are cut
  pub step_cuts : (next : Move) (met : ℕ) → IsCut n class front m next → GrowsByAtMostOne m next → order_of front + m.count ≤ n → met ≤ 0
      → Advances n class (front ++ m ∷ []) (front ++ next ∷ []) met × IsTreeWalkState n front next
  step_cuts next met cut near small none = (
    walk_goes_on_over_cuts n class front m m next met least cut none,
    record {
      legal = s.legal;
      small = s.small;
      some = omega (arith, near.least, legal.some);
      count = omega (arith, near.most);
      signs = omega (arith, near.signs, step_signs);
    },
  )

  -- down, by a push
  module _ (small : order_of front + m.count ≤ n) (pushed : Word) (push : pushed ≡ front ++ m ∷ []) (met : ℕ) (one : met ≤ 1) where
    tree : IsTreeWord n pushed
    tree = subst (IsTreeWord n) (sym push) (pushed_tree n class front m m met s.legal least small one)

    -- a walk goes back from moves where no member's word begins so
    pub step_past_barren : (popped : Word) (next : Move) → popped ≡ take (length pushed - 1) pushed → next ≡ move_after m → IsBarren n class pushed
        → Advances n class (front ++ m ∷ []) (popped ++ next ∷ []) met × IsTreeWalkState n popped next
    step_past_barren popped next pop after barren = (
      subst (λ (b : Word). Advances n class (front ++ m ∷ []) (b ++ next ∷ []) met) (sym same)
          (subst (λ (k : Move). Advances n class (front ++ m ∷ []) (front ++ k ∷ []) met) (sym after)
          (goes_past_barren n class front m m met s.legal least small one (subst (IsBarren n class) push barren))),
      subst (λ (b : Word). IsTreeWalkState n b next) (sym same) (record {
        legal = s.legal;
        small = s.small;
        some = omega (arith, near.least, legal.some, ap (λ (k : Move). k.count) after);
        count = omega (arith, near.most, ap (λ (k : Move). k.count) after);
        signs = omega (arith, near.signs, step_signs, ap (λ (k : Move). length k.signs) after);
      }),
    )
      where
        same : popped ≡ front
        same = pop ∙ ap (λ b. take (length b - 1) b) push ∙ front_of_more front m

        near : GrowsByAtMostOne m (move_after m)
        near = move_after_near m

    -- on, where the moves are no complete word of the order that a member has
    pub step_goes_down : (next : Move) → next ≡ first_move → (IsComplete pushed → order_of pushed ≡ n → HasNoMember class pushed)
        → Advances n class (front ++ m ∷ []) (pushed ++ next ∷ []) met × IsTreeWalkState n pushed next
    step_goes_down next first none = (
      subst (λ (b : Word). Advances n class (front ++ m ∷ []) (b ++ next ∷ []) met) (sym push)
          (subst (λ (k : Move). Advances n class (front ++ m ∷ []) ((front ++ m ∷ []) ++ k ∷ []) met) (sym first)
          (goes_down n class front m m met s.legal least small one not)),
      subst (IsTreeWalkState n pushed) (sym first)
          (record { legal = tree.legal; small = tree.small; some = omega arith; count = omega arith; signs = omega arith }),
    )
      where
        not : (e : Entry) → IsEntry n class e → e.word ≡ front ++ m ∷ [] → ⊥
        not e is same = none (subst IsComplete (same ∙ sym push) (entry_complete n class e is).0) counted e
            (subst (λ (k : ℕ). IsEntry k class e) (sym counted) is) (same ∙ sym push)
          where
            counted : order_of pushed ≡ n
            counted = sym (ap order_of (same ∙ sym push)) ∙ (entry_complete n class e is).1

    -- to the word of the moves, which is met
    pub step_meets : Meets n class (front ++ m ∷ []) pushed met
    step_meets = subst (λ (b : Word). Meets n class (front ++ m ∷ []) b met) (sym push) (meets_pushed n class front m m met s.legal least small one)
