-- Signs between levels, cut at a level; and runs of one level that are joined.
use Rattle.std.specs.List.{AllZip}
use Rattle.std.proofs.Common.{List, [], ap, arith, drop, filter, inl, inr, length, map, refl, subst, suc, sym, take, ℕ, ◌++◌, ◌+◌, ◌<◌, ◌∙◌, ◌∷◌, ◌≡◌, ◌≤◌, ◌⊎◌}
use Rattle.std.proofs.lemmas.Bool.{cases_lt}
use Rattle.std.proofs.lemmas.Bool.Decides.{nat_tests}
use Rattle.bk_laws.proofs.NumberOrder.{lt_or_eq_or_gt}
use Rattle.bk_tiling.specs.Column.{AreRuns, IsLevel, depth}
use Rattle.bk_tiling.specs.declared.Segment.{Segment}
use Rattle.bk_tiling.specs.declared.Square.{Square}
use Rattle.bk_word.specs.Play.{before_first_list, joined, parts}
use Rattle.bk_word.specs.declared.Sign.{Sign}
use Rattle.bk_word.specs.declared.Sign.TheVariants.{Above, Even, Under}
use Rattle.bk_lay.specs.Depiction.{IsNumbered, IsSegment, Span}
use Rattle.bk_lay.specs.TilingWord.{sign_between, signs_between}

-- the levels of runs of columns
abbrev pub levels : List Segment → List ℕ
levels runs = map (λ v. v.level) runs

-- the signs between levels, cut at one of these: those up to it and those from it on
pub signs-cut : (xs : List ℕ) (a : ℕ) (ys : List ℕ) → signs_between (xs ++ a ∷ ys) ≡ signs_between (xs ++ a ∷ []) ++ signs_between (a ∷ ys)
signs-cut [] a ys = refl
signs-cut (x ∷ []) a ys = refl
signs-cut (x ∷ y ∷ xs) a ys = ap (λ signs. sign_between x y ∷ signs) (signs-cut (y ∷ xs) a ys)

-- the first of them are those up to the level
pub take-signs : (xs : List ℕ) (a : ℕ) (ys : List ℕ) → take (length xs) (signs_between (xs ++ a ∷ ys)) ≡ signs_between (xs ++ a ∷ [])
take-signs [] a ys = refl
take-signs (x ∷ []) a ys = refl
take-signs (x ∷ y ∷ xs) a ys = ap (λ signs. sign_between x y ∷ signs) (take-signs (y ∷ xs) a ys)

-- the signs from a level on are those between it and the levels behind it
pub drop-signs : (xs : List ℕ) (a : ℕ) (ys : List ℕ) → drop (length xs) (signs_between (xs ++ a ∷ ys)) ≡ signs_between (a ∷ ys)
drop-signs [] a ys = refl
drop-signs (x ∷ []) a ys = refl
drop-signs (x ∷ y ∷ xs) a ys = drop-signs (y ∷ xs) a ys

-- a first level and others have as many signs as there are others
pub length-signs : (a : ℕ) (ys : List ℕ) → length (signs_between (a ∷ ys)) ≡ length ys
length-signs a [] = refl
length-signs a (y ∷ ys) = ap suc (length-signs y ys)

-- squares that stand side by side up to a column, and others from there on, stand side by side together
pub span-append : (laid : List Square) (level x : ℕ) (front : List ℕ) (mid : ℕ) (back : List ℕ) (end : ℕ) → Span laid level x front mid
    → Span laid level mid back end → Span laid level x (front ++ back) end
span-append laid level x [] mid back end a b = subst (λ (y : ℕ). Span laid level y back end) (sym a) b
span-append laid level x (n ∷ front) mid back end a b = (a.0, a.1, a.2, a.3, span-append laid level (x + (a.0).s) front mid back end a.4 b)

-- two levels compare so where this sign is between them
abbrev pub Compare : Sign → ℕ → ℕ → Type 0
Compare Above m n = m < n
Compare Even m n = m ≡ n
Compare Under m n = n < m

-- how two levels compare, with the sign between them
pub sign_case : (m n : ℕ) → ((m < n) × (sign_between m n ≡ Above)) ⊎ ((m ≡ n) × (sign_between m n ≡ Even)) ⊎ ((n < m) × (sign_between m n ≡ Under))
sign_case m n = cases (lt_or_eq_or_gt m n)
  where
    above : m < n → sign_between m n ≡ Above
    above h = grind (arith, nat_tests)

    even : m ≡ n → sign_between m n ≡ Even
    even h = grind (arith, nat_tests)

    under : n < m → sign_between m n ≡ Under
    under h = grind (arith, nat_tests)

    cases : (m < n) ⊎ (m ≡ n) ⊎ (n < m) → ((m < n) × (sign_between m n ≡ Above)) ⊎ ((m ≡ n) × (sign_between m n ≡ Even))
        ⊎ ((n < m) × (sign_between m n ≡ Under))
    cases (inl h) = inl (h, above h)
    cases (inr (inl h)) = inr (inl (h, even h))
    cases (inr (inr h)) = inr (inr (h, under h))

-- the sign between two levels tells how they compare
pub compared_by_sign : (m n : ℕ) (sign : Sign) → sign_between m n ≡ sign → Compare sign m n
compared_by_sign m n sign e = subst (λ (s : Sign). Compare s m n) e (own (sign_case m n))
  where
    own : ((m < n) × (sign_between m n ≡ Above)) ⊎ ((m ≡ n) × (sign_between m n ≡ Even)) ⊎ ((n < m) × (sign_between m n ≡ Under))
        → Compare (sign_between m n) m n
    own (inl h) = subst (λ (s : Sign). Compare s m n) (sym h.1) h.0
    own (inr (inl h)) = subst (λ (s : Sign). Compare s m n) (sym h.1) h.0
    own (inr (inr h)) = subst (λ (s : Sign). Compare s m n) (sym h.1) h.0

module _ (width : ℕ) (laid : List Square) (sides : (n : ℕ) (q : Square) → IsNumbered laid n q → 0 < q.s) where
  -- two segments of one level side by side are one
  join_two : (v w : Segment) (s r : List ℕ) → 0 < v.width → 0 < w.width → v.level ≡ w.level → w.x ≡ v.x + v.width → IsSegment laid v s → IsSegment laid w r
      → IsSegment laid (record { x = v.x; width = v.width + w.width; level = w.level }) (s ++ r)
  join_two v w s r a b level place (inl p) (inl q) = inl (span-append laid w.level v.x s (v.x + v.width) r (v.x + (v.width + w.width))
      (subst (λ (l : ℕ). Span laid l v.x s (v.x + v.width)) level p)
      (subst (λ (e : ℕ). Span laid w.level (v.x + v.width) r e) ends (subst (λ (x : ℕ). Span laid w.level x r (w.x + w.width)) place q)))
    where
      ends : w.x + w.width ≡ v.x + (v.width + w.width)
      ends = omega arith
  join_two v w [] r a b level place (inl p) (inr q) = absurd (omega (arith, p))
  join_two v w (n ∷ s) r a b level place (inl p) (inr q) = absurd (omega (arith, p.3, sides n p.0 p.1, q.0))
  join_two v w s [] a b level place (inr p) (inl q) = absurd (omega (arith, q))
  join_two v w s (n ∷ r) a b level place (inr p) (inl q) = absurd (omega (arith, q.3, sides n q.0 q.1, p.0))
  join_two v w s r a b level place (inr p) (inr q) = inr (q.0, λ i. p.1 i ++ q.1 i)

  -- the joined segments are those of the joined runs
  pub record Joined (x level : ℕ) (segments : List (List ℕ)) (signs : List Sign) : Type 0 where
    pub first : Segment
    pub more : List Segment
    pub same_level : first.level ≡ level
    pub cut : AreRuns width laid x (first ∷ more)
    pub depicts : AllZip (IsSegment laid) (first ∷ more) segments
    pub between : signs ≡ signs_between (levels (first ∷ more))

  -- runs that show segments, joined where the sign is even, show the joined segments
  pub join : (v : Segment) (runs : List Segment) (x : ℕ) (s : List ℕ) (segments : List (List ℕ)) → AreRuns width laid x (v ∷ runs)
      → AllZip (IsSegment laid) (v ∷ runs) (s ∷ segments)
      → Joined x v.level (joined (signs_between (levels (v ∷ runs))) (s ∷ segments)) (filter parts (signs_between (levels (v ∷ runs))))
  join v [] x s [] cut zip = record { first = v; more = []; same_level = refl; cut = cut; depicts = zip; between = refl }
  join v [] x s (r ∷ segments) cut zip = absurd zip.1
  join v (u ∷ runs) x s [] cut zip = absurd zip.1
  join v (u ∷ runs) x s (r ∷ segments) cut zip = cases (sign_case v.level u.level) (join u runs (x + v.width) r segments cut.2 zip.1)
    where
      -- a run at another level stays a run of its own
      parted : (sign : Sign) → sign_between v.level u.level ≡ sign
          → Joined (x + v.width) u.level (joined (signs_between (levels (u ∷ runs))) (r ∷ segments)) (filter parts (signs_between (levels (u ∷ runs))))
          → Joined x v.level (s ∷ joined (signs_between (levels (u ∷ runs))) (r ∷ segments)) (sign ∷ filter parts (signs_between (levels (u ∷ runs))))
      parted sign e j = record {
        first = v;
        more = j.first ∷ j.more;
        same_level = refl;
        cut = (cut.0, cut.1, j.cut);
        depicts = (zip.0, j.depicts);
        between = λ i. (sym e ∙ ap (sign_between v.level) (sym j.same_level)) i ∷ j.between i;
      }

      cases : ((v.level < u.level) × (sign_between v.level u.level ≡ Above)) ⊎ ((v.level ≡ u.level) × (sign_between v.level u.level ≡ Even))
          ⊎ ((u.level < v.level) × (sign_between v.level u.level ≡ Under))
          → Joined (x + v.width) u.level (joined (signs_between (levels (u ∷ runs))) (r ∷ segments)) (filter parts (signs_between (levels (u ∷ runs))))
          → Joined x v.level (joined (signs_between (levels (v ∷ u ∷ runs))) (s ∷ r ∷ segments)) (filter parts (signs_between (levels (v ∷ u ∷ runs))))
      cases (inl h) j = subst (λ (sign : Sign). Joined x v.level (joined (sign ∷ signs_between (levels (u ∷ runs))) (s ∷ r ∷ segments))
          (filter parts (sign ∷ signs_between (levels (u ∷ runs))))) (sym h.1) (parted Above h.1 j)
      cases (inr (inr h)) j = subst (λ (sign : Sign). Joined x v.level (joined (sign ∷ signs_between (levels (u ∷ runs))) (s ∷ r ∷ segments))
          (filter parts (sign ∷ signs_between (levels (u ∷ runs))))) (sym h.1) (parted Under h.1 j)
      cases (inr (inl h)) j =
          subst (λ (sign : Sign). Joined x v.level (joined (sign ∷ signs_between (levels (u ∷ runs))) (s ∷ r ∷ segments))
          (filter parts (sign ∷ signs_between (levels (u ∷ runs))))) (sym h.1)
          (onto (joined (signs_between (levels (u ∷ runs))) (r ∷ segments)) j.depicts)
        where
          wide : Segment
          wide = record { x = v.x; width = v.width + (j.first).width; level = (j.first).level }

          flat : IsLevel width laid wide
          flat = record {
            some = let a = (cut.1).some in omega arith;
            within = let a = ((j.cut).1).within in omega (arith, cut.0, (j.cut).0);
            level = λ c lo hi. sides_of c lo hi (cases_lt c (v.x + v.width));
          }
            where
              sides_of : (c : ℕ) → v.x ≤ c → c < v.x + (v.width + (j.first).width) → (c < v.x + v.width) ⊎ (v.x + v.width ≤ c) → depth laid c ≡ (j.first).level
              sides_of c lo hi (inl k) = (cut.1).level c lo k ∙ h.0 ∙ sym j.same_level
              sides_of c lo hi (inr k) = ((j.cut).1).level c (omega (arith, cut.0, (j.cut).0)) (omega (arith, cut.0, (j.cut).0))

          onto : (found : List (List ℕ)) → AllZip (IsSegment laid) (j.first ∷ j.more) found
              → Joined x v.level (before_first_list s found) (filter parts (signs_between (levels (u ∷ runs))))
          onto [] z = absurd z
          onto (f ∷ found) z = record {
            first = wide;
            more = j.more;
            same_level = j.same_level ∙ sym h.0;
            cut = (cut.0, flat, subst (λ (y : ℕ). AreRuns width laid y j.more) (omega arith) ((j.cut).2));
            depicts = (join_two v j.first s f (cut.1).some ((j.cut).1).some (h.0 ∙ sym j.same_level) (omega (arith, cut.0, (j.cut).0)) zip.0 z.0, z.1);
            between = j.between;
          }
