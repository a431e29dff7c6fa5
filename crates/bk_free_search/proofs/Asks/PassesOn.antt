-- How a pass goes on: where it has counted less, or met fewer marks, it ends with no more; and a next move's own squares ask for at least what the
-- segment does that the sign even at its right would make.
use Rattle.std.proofs.Common.{Bool, List, [], ap, arith, count_by, false, length, max, refl, slice_index_or, suc, true, ℕ}
use Rattle.std.proofs.Common.{◌++◌, ◌+◌, ◌<◌, ◌∷◌, ◌≡◌, ◌≤◌}
use Rattle.bk_laws.proofs.TestsAsNumbers.{cond_count-le_of_implies}
use Rattle.bk_word.specs.Signs.{is_under}
use Rattle.bk_word.specs.declared.Sign.{Sign}
use Rattle.bk_word.specs.declared.Sign.TheVariants.{Above, Even, Under}
use Rattle.bk_catalogue.proofs.HangingBounds.ClosingLaws.{unders-cons}
use Rattle.bk_layout.proofs.NormalCuts.PassCounts.{even_asks_least, the_pass_is_strong}
use Rattle.bk_layout.specs.StrongBound.{strong_from, weight_from}
use Rattle.bk_free_search.specs.Strong.{with_mark}
use Rattle.bk_layout.specs.StrongPass.{IsCounted, IsNoMore, Passed, pass, pass_along}

-- one pass before a segment has counted no more than another
pub record IsNoMoreSoFar (p q : Passed) : Type 0 where
  pub most : p.most ≤ q.most
  pub aboves : p.aboves ≤ q.aboves
  pub more : p.more ≤ q.more
  pub low : p.low ≡ q.low

-- where one pass before a segment has counted no more than another, it ends with no more
pub goes_on : (p q : Passed) (signs : List Sign) (sizes : List ℕ) (marks : List Bool) → length sizes ≡ length signs + 1 → length marks ≡ length sizes
    → IsNoMoreSoFar p q → IsNoMore (pass_along p signs sizes marks) (pass_along q signs sizes marks)
goes_on p q signs sizes marks many long h = onto (the_pass_is_strong p signs sizes marks many long) (the_pass_is_strong q signs sizes marks many long)
  where
    onto : IsCounted p signs sizes marks → IsCounted q signs sizes marks → IsNoMore (pass_along p signs sizes marks) (pass_along q signs sizes marks)
    onto c d = record {
      most = omega (
        arith,
        c.most,
        d.most,
        h.most,
        h.aboves,
        ap (λ b. weight_from b signs sizes) h.low,
        ap (λ b. strong_from b signs sizes marks) h.low,
      );
      more = omega (arith, c.more, d.more, h.more, ap (λ b. weight_from b signs sizes) h.low);
    }

-- with fewer marks
pub fewer_marks : (p : Passed) (sign : Sign) (size : ℕ) (m n : Bool) → (m ≡ true → n ≡ true) → IsNoMoreSoFar (pass p sign size m) (pass p sign size n)
fewer_marks p Above size m n f = record { most = omega (arith, cond_count-le_of_implies m n f); aboves = omega arith; more = omega arith; low = refl }
fewer_marks p Even size m n f = record { most = omega (arith, cond_count-le_of_implies m n f); aboves = omega arith; more = omega arith; low = refl }
fewer_marks p Under size m n f = record { most = omega (arith, cond_count-le_of_implies m n f); aboves = omega arith; more = omega arith; low = refl }

marked_first : (low : Bool) (signs : List Sign) (size : ℕ) (sizes : List ℕ) (marks : List Bool)
    → 1 + count_by is_under signs + weight_from low signs (size ∷ sizes) ≤ strong_from low signs (size ∷ sizes) (true ∷ marks)
marked_first low [] size sizes marks = omega arith
marked_first low (Above ∷ signs) size sizes marks = omega (arith, unders-cons Above signs)
marked_first low (Even ∷ signs) size sizes marks = omega (arith, unders-cons Even signs)
marked_first low (Under ∷ signs) size sizes marks = omega (arith, unders-cons Under signs)

-- a mark counted ahead, where the first segment is marked, makes no pass along the segments end with more
pub mark_before : (p : Passed) (signs : List Sign) (sizes : List ℕ) (marks : List Bool) → length sizes ≡ length signs + 1
    → length marks ≡ length sizes → slice_index_or marks 0 false ≡ true → IsNoMore (pass_along (with_mark p) signs sizes marks) (pass_along p signs sizes marks)
mark_before p signs [] marks many long e = absurd (omega (arith, many))
mark_before p signs (size ∷ sizes) [] many long e = absurd (omega (arith, long))
mark_before p signs (size ∷ sizes) (false ∷ marks) many long e = absurd (cc)
mark_before p signs (size ∷ sizes) (true ∷ marks) many long e =
    onto (the_pass_is_strong (with_mark p) signs (size ∷ sizes) (true ∷ marks) many long) (the_pass_is_strong p signs (size ∷ sizes) (true ∷ marks) many long)
  where
    onto : IsCounted (with_mark p) signs (size ∷ sizes) (true ∷ marks) → IsCounted p signs (size ∷ sizes) (true ∷ marks)
        → IsNoMore (pass_along (with_mark p) signs (size ∷ sizes) (true ∷ marks)) (pass_along p signs (size ∷ sizes) (true ∷ marks))
    onto c d = record { most = omega (arith, c.most, d.most, marked_first p.low signs size sizes marks); more = omega (arith, c.more, d.more) }

-- ---- with a next move's further signs

-- a segment of two squares in front of others, with a mark or not
abbrev pub joined_on : Passed → List Sign → List ℕ → Bool → List Bool → Passed
joined_on p signs sizes mark marks = pass_along p signs (2 ∷ sizes) (mark ∷ marks)

wide_first : (low other : Bool) (signs : List Sign) (size : ℕ) (sizes : List ℕ) → weight_from low signs (2 ∷ sizes) ≡ weight_from false signs (size ∷ sizes)
wide_first false other [] size sizes = refl
wide_first true other [] size sizes = refl
wide_first false other (Above ∷ signs) size sizes = refl
wide_first true other (Above ∷ signs) size sizes = refl
wide_first false other (Even ∷ signs) size sizes = refl
wide_first true other (Even ∷ signs) size sizes = refl
wide_first false other (Under ∷ signs) size sizes = refl
wide_first true other (Under ∷ signs) size sizes = refl

wide_strong : (low : Bool) (signs : List Sign) (size : ℕ) (sizes : List ℕ) (mark : Bool) (marks : List Bool)
    → strong_from low signs (2 ∷ sizes) (mark ∷ marks) ≡ strong_from false signs (size ∷ sizes) (mark ∷ marks)
wide_strong false [] size sizes mark marks = refl
wide_strong true [] size sizes mark marks = refl
wide_strong false (Above ∷ signs) size sizes mark marks = refl
wide_strong true (Above ∷ signs) size sizes mark marks = refl
wide_strong false (Even ∷ signs) size sizes mark marks = refl
wide_strong true (Even ∷ signs) size sizes mark marks = refl
wide_strong false (Under ∷ signs) size sizes mark marks = refl
wide_strong true (Under ∷ signs) size sizes mark marks = refl

-- what such a segment asks for is told by that behind the sign even
pub joined_counts : (p : Passed) (signs : List Sign) (size : ℕ) (sizes : List ℕ) (mark : Bool) (marks : List Bool) → length sizes ≡ length signs
    → length marks ≡ length sizes → IsCounted p signs (2 ∷ sizes) (mark ∷ marks)
    → ((joined_on p signs sizes mark marks).most
    ≡ max (p.most + count_by is_under signs + weight_from false signs (size ∷ sizes)) (p.aboves + strong_from false signs (size ∷ sizes) (mark ∷ marks)))
    × ((joined_on p signs sizes mark marks).more ≡ p.more + weight_from false signs (size ∷ sizes))
joined_counts p signs size sizes mark marks many long c = (
  omega (arith, c.most, wide_first p.low false signs size sizes, wide_strong p.low signs size sizes mark marks),
  omega (arith, c.more, wide_first p.low false signs size sizes),
)

-- behind the sign even at the end
even_joins : (p : Passed) (signs : List Sign) (own size : ℕ) (sizes : List ℕ) (first joined mark : Bool) (marks : List Bool) → (joined ≡ true → mark ≡ true)
    → length sizes ≡ length signs → length marks ≡ length sizes
    → IsNoMore (joined_on p signs sizes joined marks) (pass_along (pass p Even own first) signs (size ∷ sizes) (mark ∷ marks))
even_joins p signs own size sizes first joined mark marks f many long =
    onto (the_pass_is_strong p signs (2 ∷ sizes) (joined ∷ marks) (omega (arith, many)) (omega (arith, long)))
    (the_pass_is_strong p signs (2 ∷ sizes) (mark ∷ marks) (omega (arith, many)) (omega (arith, long)))
    (the_pass_is_strong (pass p Even own first) signs (size ∷ sizes) (mark ∷ marks) (omega (arith, many)) (omega (arith, long)))
  where
    less : (b : Bool) (signs : List Sign) → strong_from b signs (2 ∷ sizes) (joined ∷ marks) ≤ strong_from b signs (2 ∷ sizes) (mark ∷ marks)
    less b [] = omega (arith, cond_count-le_of_implies joined mark f)
    less b (Above ∷ signs) = omega (arith, cond_count-le_of_implies joined mark f)
    less b (Even ∷ signs) = omega (arith, cond_count-le_of_implies joined mark f)
    less b (Under ∷ signs) = omega (arith, cond_count-le_of_implies joined mark f)

    onto : IsCounted p signs (2 ∷ sizes) (joined ∷ marks) → IsCounted p signs (2 ∷ sizes) (mark ∷ marks)
        → IsCounted (pass p Even own first) signs (size ∷ sizes) (mark ∷ marks)
        → IsNoMore (joined_on p signs sizes joined marks) (pass_along (pass p Even own first) signs (size ∷ sizes) (mark ∷ marks))
    onto c e d = record {
      most = omega (
        arith,
        c.most,
        d.most,
        less p.low signs,
        wide_first p.low false signs size sizes,
        wide_strong p.low signs size sizes mark marks,
      );
      more = omega (arith, c.more, d.more, wide_first p.low false signs size sizes);
    }

-- all signs but the last are above or under
abbrev pub ArePartsButLast : List Sign → Type 0
ArePartsButLast signs = (i : ℕ) → suc i < length signs → slice_index_or signs i Above ≡ Even → ⊥

-- segments: the signs between them or behind them, how many squares they have, and their marks
pub record Segments : Type 0 where
  pub signs : List Sign
  pub sizes : List ℕ
  pub marks : List Bool

-- one segment or more, with a sign behind each: the first sign and those after it, how many squares the segments have, and their marks
pub record Further : Type 0 where
  pub sign : Sign
  pub more : List Sign
  pub sizes : List ℕ
  pub marks : List Bool

-- further segments stand before one segment, which others follow with a sign before each. Of the further signs only the last may be even, and then that
-- segment has its mark if the two together have theirs
pub record AreFurther (own : Further) (behind : Segments) (joined mark : Bool) : Type 0 where
  pub apart : ArePartsButLast (own.sign ∷ own.more)
  pub many : length own.sizes ≡ length own.more + 1
  pub long : length own.marks ≡ length own.more + 1
  pub many_behind : length behind.sizes ≡ length behind.signs
  pub long_behind : length behind.marks ≡ length behind.sizes
  pub last : slice_index_or (own.sign ∷ own.more) (length own.more) Above ≡ Even → joined ≡ true → mark ≡ true

module _ (behind : Segments) (size : ℕ) (joined mark : Bool) where
  -- a segment of two squares with others behind it asks for no more than further segments do before one of any size
  pub further_signs : (p : Passed) (sign : Sign) (more : List Sign) (sizes : List ℕ) (marks : List Bool)
      → AreFurther (record { sign = sign; more = more; sizes = sizes; marks = marks }) behind joined mark
      → IsNoMore (joined_on p behind.signs behind.sizes joined behind.marks)
      (pass_along p ((sign ∷ more) ++ behind.signs) (sizes ++ size ∷ behind.sizes) (marks ++ mark ∷ behind.marks))
  further_signs p sign more [] marks f = absurd (omega (arith, f.many))
  further_signs p sign more (n ∷ sizes) [] f = absurd (omega (arith, f.long))
  further_signs p Even [] (n ∷ []) (c ∷ []) f =
      even_joins p behind.signs n size behind.sizes c joined mark behind.marks (f.last refl) f.many_behind f.long_behind
  further_signs p Above [] (n ∷ []) (c ∷ []) f = even_asks_least p Above [] behind.signs n [] 2 size behind.sizes c [] joined mark behind.marks
      ((λ e. absurd (cc)), tt) (omega arith) refl refl f.many_behind f.long_behind
  further_signs p Under [] (n ∷ []) (c ∷ []) f = even_asks_least p Under [] behind.signs n [] 2 size behind.sizes c [] joined mark behind.marks
      ((λ e. absurd (cc)), tt) (omega arith) refl refl f.many_behind f.long_behind
  further_signs p sign [] (n ∷ k ∷ sizes) (c ∷ marks) f = absurd (omega (arith, f.many))
  further_signs p sign [] (n ∷ []) (c ∷ d ∷ marks) f = absurd (omega (arith, f.long))
  further_signs p sign (s ∷ more) (n ∷ sizes) (c ∷ marks) f = onto
      (even_asks_least p sign [] behind.signs n [] 2 2 behind.sizes c [] joined joined behind.marks ((λ e. f.apart 0 (omega arith) e), tt) (omega arith)
      refl refl f.many_behind f.long_behind)
      (further_signs (pass p sign n c) s more sizes marks (record {
        apart = λ i low e. f.apart (suc i) (omega (arith, low)) e;
        many = omega (arith, f.many);
        long = omega (arith, f.long);
        many_behind = f.many_behind;
        long_behind = f.long_behind;
        last = f.last;
      }))
    where
      onto : IsNoMore (joined_on p behind.signs behind.sizes joined behind.marks)
          (joined_on (pass p sign n c) behind.signs behind.sizes joined behind.marks)
          → IsNoMore (joined_on (pass p sign n c) behind.signs behind.sizes joined behind.marks)
          (pass_along (pass p sign n c) ((s ∷ more) ++ behind.signs) (sizes ++ size ∷ behind.sizes) (marks ++ mark ∷ behind.marks))
          → IsNoMore (joined_on p behind.signs behind.sizes joined behind.marks)
          (pass_along p ((sign ∷ s ∷ more) ++ behind.signs) ((n ∷ sizes) ++ size ∷ behind.sizes) ((c ∷ marks) ++ mark ∷ behind.marks))
      onto c d = record { most = omega (arith, c.most, d.most); more = omega (arith, c.more, d.more) }
