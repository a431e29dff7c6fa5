-- The leftmost valley of a chain is all that ends on one node; what hangs from that node makes a chain in its place.
use Rattle.std.proofs.Common.{List, Option, Some, [], ap, arith, false, filter, inl, inr, length, refl, slice_get, subst, sym, true, ℕ, ◌++◌, ◌+◌}
use Rattle.std.proofs.Common.{◌<◌, ◌∙◌, ◌∷◌, ◌≡◌}
use Rattle.std.proofs.lemmas.List.{append-nil}
use Rattle.std.proofs.lemmas.Option.{same_Some}
use Rattle.bk_word.specs.declared.Sign.{Sign}
use Rattle.bk_word.specs.declared.Sign.TheVariants.{Above, Under}
use Rattle.bk_word_net.proofs.Outlines.ValleyCut.{Beside}
use Rattle.bk_word.specs.Play.{joined, parts}
use Rattle.bk_layout.proofs.Lists.Pieces.{empty-of_length_zero}
use Rattle.bk_layout.proofs.Sweeps.Chains.{Chain, Known, Linked, Run, chain_behind, chain_known, chain_other, join_chain, known_first, known_last}
use Rattle.bk_layout.proofs.Sweeps.Chains.{last_from, sign, signs_of, singles, singles_before, singles_wall}
use Rattle.bk_layout.proofs.Sweeps.WholeRuns.{above_right, last_is, run_below, under_left}
use Rattle.bk_layout.specs.Layout.{Fits, IsFirst, IsLast, Layout}

-- the first segment stands at the left wall
abbrev pub AtLeft : Layout → List (List ℕ) → Type 0
AtLeft l [] = ⊥
AtLeft l ([] ∷ segments) = ⊥
AtLeft l ((q ∷ qs) ∷ segments) = l.left q ≡ 0

-- one segment alone reaches from wall to wall
pub walls_of : (l : Layout) (signs : List Sign) (s : List ℕ) → Chain l signs (s ∷ []) → AtLeft l (s ∷ [])
    → ((q : ℕ) → IsFirst s q → l.left q ≡ 0) × ((q : ℕ) → IsLast s q → l.right q ≡ 1)
walls_of l signs [] c a = absurd a
walls_of l (g ∷ signs) (p ∷ ps) c a = absurd c
walls_of l [] (p ∷ ps) c a = ((λ q e. ap l.left (sym (same_Some p q e)) ∙ a), last)
  where
    last : (q : ℕ) → IsLast (p ∷ ps) q → l.right q ≡ 1
    last q (k, long, e) = ap l.right (sym (same_Some (last_from p ps) q (sym (last_is p ps) ∙ (λ i. slice_get (p ∷ ps) (same i)) ∙ e))) ∙ c.2
      where
        same : length ps ≡ k
        same = omega (arith, long)

-- a valley and what stands at its right
pub record RightOf (l : Layout) (first : ℕ) (more : List ℕ) (right after : List (List ℕ)) (after_signs : List Sign) : Type 0 where
  pub known : Known l first more
  pub run : Run l first more
  pub last : IsLast (l.ending (l.below (last_from first more))) (last_from first more)
  pub bottom : l.below first ≡ l.bottom → right ≡ []
  pub beyond : List ℕ
  pub beyond_many : length beyond ≡ length right
  pub hang : (p : ℕ) (ps : List ℕ) → Known l p ps → Linked l (p ∷ ps) → l.right (last_from p ps) ≡ l.right (last_from first more)
      → Chain l (signs_of l (p ∷ (ps ++ beyond)) ++ after_signs) (singles (p ∷ ps) ++ (right ++ after))

-- the valley's last square is the last on its node: at the right wall, or beside a line that goes on
pub right_of : (l : Layout) → Fits l → (q : ℕ) (qs : List ℕ) (right after : List (List ℕ)) (right_signs after_signs : List Sign)
    → Beside Above right right_signs → (right ≡ [] → after ≡ []) → length after ≡ length after_signs
    → Chain l (right_signs ++ after_signs) ((q ∷ qs) ∷ (right ++ after)) → RightOf l q qs right after after_signs
right_of l fits q qs right after right_signs after_signs (inl (none, no_signs)) no_after many c =
    at_wall after_signs (empty-of_length_zero after_signs (omega (arith, many, ap length (no_after none))))
    (subst (λ (g : List Sign). Chain l (g ++ after_signs) ((q ∷ qs) ∷ [])) no_signs
    (subst (λ (r : List (List ℕ)). Chain l (right_signs ++ after_signs) ((q ∷ qs) ∷ r)) empty c))
  where
    empty : right ++ after ≡ []
    empty = (λ i. none i ++ no_after none i)

    at_wall : (g : List Sign) → g ≡ [] → Chain l g ((q ∷ qs) ∷ []) → RightOf l q qs right after g
    at_wall (s ∷ g) e c = absurd c
    at_wall [] e c = record {
      known = c.0;
      run = c.1;
      last = fits.go_on.at_right_wall (last_from q qs) (known_last l q qs c.0) c.2;
      bottom = λ h. none;
      beyond = [];
      beyond_many = sym (ap length none);
      hang = hang;
    }
      where
        hang : (p : ℕ) (ps : List ℕ) → Known l p ps → Linked l (p ∷ ps) → l.right (last_from p ps) ≡ l.right (last_from q qs)
            → Chain l (signs_of l (p ∷ (ps ++ [])) ++ []) (singles (p ∷ ps) ++ (right ++ after))
        hang p ps known linked line = subst (λ (r : List (List ℕ)). Chain l (signs_of l (p ∷ (ps ++ [])) ++ []) (singles (p ∷ ps) ++ r)) (sym empty)
            (subst (λ (r : List (List ℕ)). Chain l (signs_of l (p ∷ (ps ++ [])) ++ []) r) (sym (append-nil (singles (p ∷ ps))))
            (subst (λ (g : List Sign). Chain l g (singles (p ∷ ps))) (sym (append-nil (signs_of l (p ∷ (ps ++ [])))))
            (subst (λ (xs : List ℕ). Chain l (signs_of l (p ∷ xs)) (singles (p ∷ ps))) (sym (append-nil ps)) (singles_wall l p ps known linked (line ∙ c.2)))))
right_of l fits q qs right after right_signs after_signs (inr (s, one, one_sign)) no_after many c = beside s one
    (subst (λ (g : List Sign). Chain l (g ++ after_signs) ((q ∷ qs) ∷ (s ∷ after))) one_sign
    (subst (λ (r : List (List ℕ)). Chain l (right_signs ++ after_signs) ((q ∷ qs) ∷ (r ++ after))) one c))
  where
    beside : (s : List ℕ) → right ≡ s ∷ [] → Chain l (Above ∷ after_signs) ((q ∷ qs) ∷ (s ∷ after)) → RightOf l q qs right after after_signs
    beside [] one c = absurd c
    beside (r ∷ rs) one c = record {
      known = c.0;
      run = c.1;
      last = (fits.go_on.on_right (last_from q qs) (known_last l q qs c.0) goes).0;
      bottom = λ h. absurd (omega (arith, h, run_below l fits.lists q qs c.1, (fits.go_on.on_right (last_from q qs) (known_last l q qs c.0) goes).1));
      beyond = r ∷ [];
      beyond_many = sym (ap length one);
      hang = hang;
    }
      where
        goes : l.goes_right (last_from q qs) ≡ true
        goes = above_right l (last_from q qs) r c.2.1

        hang : (p : ℕ) (ps : List ℕ) → Known l p ps → Linked l (p ∷ ps) → l.right (last_from p ps) ≡ l.right (last_from q qs)
            → Chain l (signs_of l (p ∷ (ps ++ r ∷ [])) ++ after_signs) (singles (p ∷ ps) ++ (right ++ after))
        hang p ps known linked line = subst (λ (x : List (List ℕ)). Chain l (signs_of l (p ∷ (ps ++ r ∷ [])) ++ after_signs)
            (singles (p ∷ ps) ++ (x ++ after))) (sym one)
            (singles_before l p ps r rs after_signs after known linked (line ∙ c.2.0) c.3)

-- a valley and what stands at its left
pub record LeftOf (l : Layout) (before left : List (List ℕ)) (before_signs signs : List Sign) (q : ℕ) (qs : List ℕ) (segments : List (List ℕ)) : Type 0 where
  pub rest : Chain l signs ((q ∷ qs) ∷ segments)
  pub first : IsFirst (l.ending (l.below q)) q
  pub bottom : l.below q ≡ l.bottom → left ≡ []
  pub beyond : List ℕ
  pub beyond_many : length beyond ≡ length left
  pub free : (p : ℕ) (xs : List ℕ) → 0 < length beyond → slice_get (signs_of l (beyond ++ p ∷ xs)) 0 ≡ Some Above → ⊥
  pub hang : (p : ℕ) (ps xs : List ℕ) (more : List (List ℕ)) (others : List Sign) → l.left p ≡ l.left q
      → Chain l (signs_of l (p ∷ xs) ++ others) ((p ∷ ps) ∷ more)
      → Chain l (before_signs ++ (signs_of l (beyond ++ p ∷ xs) ++ others)) (before ++ (left ++ (p ∷ ps) ∷ more))
      × AtLeft l (before ++ (left ++ (p ∷ ps) ∷ more))

sign_got : (g h : Sign) → ◌≡◌ {A = Option Sign} (Some g) (Some h) → h ≡ g
sign_got g h e = cc

left_other : (l : Layout) (before : List (List ℕ)) (s : List ℕ) (segments more : List (List ℕ)) → AtLeft l (before ++ s ∷ segments)
    → AtLeft l (before ++ s ∷ more)
left_other l [] [] segments more a = absurd a
left_other l [] (q ∷ qs) segments more a = a
left_other l ([] ∷ before) s segments more a = absurd a
left_other l ((q ∷ qs) ∷ before) s segments more a = a

-- the valley's first square is the first on its node; all signs at its left are under
pub left_of : (l : Layout) → Fits l → (before left : List (List ℕ)) (before_signs left_signs signs : List Sign) (q : ℕ) (qs : List ℕ)
    (segments : List (List ℕ)) → Beside Under left left_signs → (left ≡ [] → before ≡ []) → length before ≡ length before_signs
    → Chain l (before_signs ++ (left_signs ++ signs)) (before ++ (left ++ (q ∷ qs) ∷ segments))
    → AtLeft l (before ++ (left ++ (q ∷ qs) ∷ segments)) → q < l.squares
    → LeftOf l before left before_signs signs q qs segments
left_of l fits before left before_signs left_signs signs q qs segments (inl (none, no_signs)) no_before many c a known =
    at_wall before left before_signs left_signs (no_before none) none no_signs
    (empty-of_length_zero before_signs (omega (arith, many, ap length (no_before none)))) c a
  where
    at_wall : (before left : List (List ℕ)) (before_signs left_signs : List Sign) → before ≡ [] → left ≡ [] → left_signs ≡ []
        → before_signs ≡ [] → Chain l (before_signs ++ (left_signs ++ signs)) (before ++ (left ++ (q ∷ qs) ∷ segments))
        → AtLeft l (before ++ (left ++ (q ∷ qs) ∷ segments)) → LeftOf l before left before_signs signs q qs segments
    at_wall [] [] [] [] e f g h c a = record {
      rest = c;
      first = fits.go_on.at_left_wall q known a;
      bottom = λ h. refl;
      beyond = [];
      beyond_many = refl;
      free = λ p xs h. absurd (omega arith);
      hang = λ p ps xs more others line d. (d, line ∙ a);
    }
    at_wall (b ∷ before) left before_signs left_signs e f g h c a = absurd (omega (arith, ap length e))
    at_wall [] (s ∷ left) before_signs left_signs e f g h c a = absurd (omega (arith, ap length f))
    at_wall [] [] (b ∷ before_signs) left_signs e f g h c a = absurd (omega (arith, ap length h))
    at_wall [] [] [] (s ∷ left_signs) e f g h c a = absurd (omega (arith, ap length g))
left_of l fits before left before_signs left_signs signs q qs segments (inr (s, one, one_sign)) no_before many c a known =
    beside s left left_signs one one_sign c a
  where
    beside : (s : List ℕ) (left : List (List ℕ)) (left_signs : List Sign) → left ≡ s ∷ [] → left_signs ≡ Under ∷ []
        → Chain l (before_signs ++ (left_signs ++ signs)) (before ++ (left ++ (q ∷ qs) ∷ segments))
        → AtLeft l (before ++ (left ++ (q ∷ qs) ∷ segments)) → LeftOf l before left before_signs signs q qs segments
    beside s left left_signs one one_sign c a = here s
        (subst (λ (g : List Sign). Chain l (before_signs ++ (g ++ signs)) (before ++ (s ∷ (q ∷ qs) ∷ segments))) one_sign
        (subst (λ (x : List (List ℕ)). Chain l (before_signs ++ (left_signs ++ signs)) (before ++ (x ++ (q ∷ qs) ∷ segments))) one c))
        (subst (λ (x : List (List ℕ)). AtLeft l (before ++ (x ++ (q ∷ qs) ∷ segments))) one a) one
      where
        here : (s : List ℕ) → Chain l (before_signs ++ (Under ∷ signs)) (before ++ (s ∷ (q ∷ qs) ∷ segments))
            → AtLeft l (before ++ (s ∷ (q ∷ qs) ∷ segments)) → left ≡ s ∷ [] → LeftOf l before left before_signs signs q qs segments
        here [] c a one = absurd (chain_behind l before before_signs (Under ∷ signs) [] ((q ∷ qs) ∷ segments) many c)
        here (r ∷ rs) c a one = record {
          rest = d.3;
          first = (fits.go_on.on_left q known goes.1).0;
          bottom = λ h. absurd (omega (arith, h, (fits.go_on.on_left q known goes.1).1));
          beyond = last_from r rs ∷ [];
          beyond_many = sym (ap length one);
          free = λ p xs h e. never (last_from r rs) p goes.0 e;
          hang = hang;
        }
          where
            d : Chain l (Under ∷ signs) ((r ∷ rs) ∷ (q ∷ qs) ∷ segments)
            d = chain_behind l before before_signs (Under ∷ signs) (r ∷ rs) ((q ∷ qs) ∷ segments) many c

            goes : (l.goes_right (last_from r rs) ≡ false) × (l.goes_left q ≡ true)
            goes = under_left l (last_from r rs) q d.2.1

            never : (x p : ℕ) → l.goes_right x ≡ false → ◌≡◌ {A = Option Sign} (Some (sign l x p)) (Some Above) → ⊥
            never x p f e = let t : l.goes_right x ≡ true = above_right l x p (sign_got (sign l x p) Above e) in absurd (cc)

            hang : (p : ℕ) (ps xs : List ℕ) (more : List (List ℕ)) (others : List Sign) → l.left p ≡ l.left q
                → Chain l (signs_of l (p ∷ xs) ++ others) ((p ∷ ps) ∷ more)
                → Chain l (before_signs ++ (signs_of l (last_from r rs ∷ p ∷ xs) ++ others)) (before ++ (left ++ (p ∷ ps) ∷ more))
                × AtLeft l (before ++ (left ++ (p ∷ ps) ∷ more))
            hang p ps xs more others line e = (
              subst (λ (x : List (List ℕ)). Chain l (before_signs ++ (signs_of l (last_from r rs ∷ p ∷ xs) ++ others))
                  (before ++ (x ++ (p ∷ ps) ∷ more))) (sym one)
                  (chain_other l before before_signs (Under ∷ signs) (signs_of l (last_from r rs ∷ p ∷ xs) ++ others) r rs
                  ((q ∷ qs) ∷ segments) ((p ∷ ps) ∷ more) many c (d.0, d.1, (d.2.0 ∙ sym line, refl), e)),
              subst (λ (x : List (List ℕ)). AtLeft l (before ++ (x ++ (p ∷ ps) ∷ more))) (sym one)
                  (left_other l before (r ∷ rs) ((q ∷ qs) ∷ segments) ((p ∷ ps) ∷ more) a),
            )

-- ---- where a valley stands in a chain

chain_tail : (l : Layout) (signs : List Sign) (s t : List ℕ) (segments : List (List ℕ)) → Chain l signs (s ∷ t ∷ segments)
    → (rest : List Sign) × Chain l rest (t ∷ segments)
chain_tail l signs [] t segments c = absurd c
chain_tail l [] (q ∷ qs) t segments c = absurd c
chain_tail l (g ∷ signs) (q ∷ qs) [] segments c = absurd c
chain_tail l (g ∷ signs) (q ∷ qs) (r ∷ rs) segments c = (signs, c.3)

-- a segment that has squares, of known numbers
pub record Nonempty (l : Layout) (s : List ℕ) : Type 0 where
  pub q : ℕ
  pub qs : List ℕ
  pub is : s ≡ q ∷ qs
  pub known : q < l.squares

chain_head : (l : Layout) (signs : List Sign) (s : List ℕ) (segments : List (List ℕ)) → Chain l signs (s ∷ segments) → Nonempty l s
chain_head l signs [] segments c = absurd c
chain_head l signs (q ∷ qs) segments c = record { q = q; qs = qs; is = refl; known = known_first l q qs (chain_known l signs q qs segments c) }

-- each segment of a chain has squares
pub chain_at : (l : Layout) (front : List (List ℕ)) (signs : List Sign) (s : List ℕ) (segments : List (List ℕ))
    → Chain l signs (front ++ s ∷ segments) → Nonempty l s
chain_at l [] signs s segments c = chain_head l signs s segments c
chain_at l (f ∷ []) signs s segments c = let t = chain_tail l signs f s segments c in chain_head l t.0 s segments t.1
chain_at l (f ∷ g ∷ front) signs s segments c = let t = chain_tail l signs f g (front ++ s ∷ segments) c in chain_at l (g ∷ front) t.0 s segments t.1

-- a chain after even signs have joined its segments
pub chain_joined : (l : Layout) → Fits l → (signs : List Sign) (segments : List (List ℕ)) → AtLeft l segments → Chain l signs segments
    → Chain l (filter parts signs) (joined signs segments) × AtLeft l (joined signs segments)
chain_joined l fits signs [] a c = absurd a
chain_joined l fits signs ([] ∷ segments) a c = absurd a
chain_joined l fits signs ((q ∷ qs) ∷ segments) a c = let j = join_chain l fits.go_on signs q qs segments c in
    (subst (λ (x : List (List ℕ)). Chain l (filter parts signs) x) (sym j.is) j.chain, subst (λ (x : List (List ℕ)). AtLeft l x) (sym j.is) a)

-- there are as many signs as gaps between squares
pub many_signs : (l : Layout) (xs : List ℕ) → 0 < length xs → length (signs_of l xs) + 1 ≡ length xs
many_signs l [] some = absurd (omega arith)
many_signs l (q ∷ []) some = refl
many_signs l (q ∷ r ∷ xs) some = omega (arith, many_signs l (r ∷ xs) (omega arith))
