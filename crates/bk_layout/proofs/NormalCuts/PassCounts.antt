-- One pass over the segments counts the strong bound and the weight; fewer marks ask no more, and the sign even asks for least.
use Rattle.std.proofs.Common.{Bool, List, [], ap, arith, cond, count_by, false, length, max, nat_eq, refl, suc, true, ℕ, ◌+◌, ◌<◌, ◌∷◌, ◌≡◌, ◌≤◌}
use Rattle.std.proofs.lemmas.Bool.Decides.{nat_tests}
use Rattle.bk_laws.proofs.TestsAsNumbers.{cond_count-le_of_implies, cond_count-le_one}
use Rattle.bk_word.specs.Signs.{is_under}
use Rattle.bk_word.specs.declared.Sign.{Sign}
use Rattle.bk_catalogue.specs.SingleValleys.{single_valley}
use Rattle.bk_word.specs.declared.Sign.TheVariants.{Above, Even, Under}
use Rattle.bk_catalogue.proofs.HangingBounds.ClosingLaws.{unders-cons}
use Rattle.bk_layout.specs.StrongBound.{strong_from, weight_from}
use Rattle.bk_layout.specs.StrongPass.{EvenAsksLeast, FewerMarksAskLess, IsBoundCounted, IsCounted, IsNoMore, Passed, ThePassCountsTheBound}
use Rattle.bk_layout.specs.StrongPass.{ThePassIsStrong}
use Rattle.bk_layout.specs.StrongPass.{none_passed, pass, pass_along, pass_each}

-- the law
pub the_pass_is_strong : ThePassIsStrong
the_pass_is_strong p signs [] marks many long = absurd (omega (arith, many))
the_pass_is_strong p signs (size ∷ sizes) [] many long = absurd (omega (arith, long))
the_pass_is_strong p [] (size ∷ sizes) (mark ∷ marks) many long = last p size sizes mark marks (omega (arith, many))
  where
    last : (p : Passed) (size : ℕ) (sizes : List ℕ) (mark : Bool) (marks : List Bool) → length sizes ≡ 0 → IsCounted p [] (size ∷ sizes) (mark ∷ marks)
    last p size sizes mark marks none = record { most = omega arith; more = omega arith }
the_pass_is_strong p (Above ∷ signs) (size ∷ sizes) (mark ∷ marks) many long =
    onto (the_pass_is_strong (pass p Above size mark) signs sizes marks (omega (arith, many)) (omega (arith, long)))
  where
    onto : IsCounted (pass p Above size mark) signs sizes marks → IsCounted p (Above ∷ signs) (size ∷ sizes) (mark ∷ marks)
    onto c = record { most = omega (arith, c.most, unders-cons Above signs); more = omega (arith, c.more) }
the_pass_is_strong p (Even ∷ signs) (size ∷ sizes) (mark ∷ marks) many long =
    onto (the_pass_is_strong (pass p Even size mark) signs sizes marks (omega (arith, many)) (omega (arith, long)))
  where
    onto : IsCounted (pass p Even size mark) signs sizes marks → IsCounted p (Even ∷ signs) (size ∷ sizes) (mark ∷ marks)
    onto c = record { most = omega (arith, c.most, unders-cons Even signs); more = omega (arith, c.more) }
the_pass_is_strong p (Under ∷ signs) (size ∷ sizes) (mark ∷ marks) many long =
    onto (the_pass_is_strong (pass p Under size mark) signs sizes marks (omega (arith, many)) (omega (arith, long)))
  where
    onto : IsCounted (pass p Under size mark) signs sizes marks → IsCounted p (Under ∷ signs) (size ∷ sizes) (mark ∷ marks)
    onto c = record { most = omega (arith, c.most, unders-cons Under signs); more = omega (arith, c.more) }

-- the bound is at least what segments before ask for
seen_most : (low : Bool) (signs : List Sign) (sizes : List ℕ) (marks : List Bool) → length sizes ≡ length signs + 1 → length marks ≡ length sizes
    → count_by is_under signs + weight_from low signs sizes ≤ strong_from low signs sizes marks
seen_most low signs [] marks many long = absurd (omega (arith, many))
seen_most low signs (size ∷ sizes) [] many long = absurd (omega (arith, long))
seen_most low [] (size ∷ sizes) (mark ∷ marks) many long = omega arith
seen_most low (Above ∷ signs) (size ∷ sizes) (mark ∷ marks) many long = omega (arith, unders-cons Above signs)
seen_most low (Even ∷ signs) (size ∷ sizes) (mark ∷ marks) many long = omega (arith, unders-cons Even signs)
seen_most low (Under ∷ signs) (size ∷ sizes) (mark ∷ marks) many long = omega (arith, unders-cons Under signs)

-- a pass from the first segment on counts the strong bound and the weight
pub the_pass_counts_the_bound : ThePassCountsTheBound
the_pass_counts_the_bound signs sizes marks many long = onto (the_pass_is_strong none_passed signs sizes marks many long)
  where
    onto : IsCounted none_passed signs sizes marks → IsBoundCounted signs sizes marks
    onto c = record { bound = omega (arith, c.most, seen_most true signs sizes marks many long); weight = omega (arith, c.more) }

-- fewer marks ask no more
pub fewer_marks_ask_less : FewerMarksAskLess
fewer_marks_ask_less low signs [] fewer marks long each = omega arith
fewer_marks_ask_less low signs (size ∷ sizes) [] marks long each = omega arith
fewer_marks_ask_less low signs (size ∷ sizes) (a ∷ fewer) [] long each = absurd (omega (arith, long))
fewer_marks_ask_less low [] (size ∷ sizes) (a ∷ fewer) (b ∷ marks) long each = omega (arith, cond_count-le_of_implies a b (each 0))
fewer_marks_ask_less low (Above ∷ signs) (size ∷ sizes) (a ∷ fewer) (b ∷ marks) long each =
    omega (arith, cond_count-le_of_implies a b (each 0), fewer_marks_ask_less false signs sizes fewer marks (omega (arith, long)) (λ i e. each (suc i) e))
fewer_marks_ask_less low (Even ∷ signs) (size ∷ sizes) (a ∷ fewer) (b ∷ marks) long each =
    omega (arith, cond_count-le_of_implies a b (each 0), fewer_marks_ask_less false signs sizes fewer marks (omega (arith, long)) (λ i e. each (suc i) e))
fewer_marks_ask_less low (Under ∷ signs) (size ∷ sizes) (a ∷ fewer) (b ∷ marks) long each =
    omega (arith, cond_count-le_of_implies a b (each 0), fewer_marks_ask_less true signs sizes fewer marks (omega (arith, long)) (λ i e. each (suc i) e))

-- ---- the sign even asks for least

-- a segment of two squares or more is no valley of one square
wide_none : (low : Bool) (wide : ℕ) → 1 < wide → single_valley low wide ≡ 0
wide_none false wide h = refl
wide_none true wide h = ap (λ (b : Bool). cond {A = ℕ} b 1 0) (not wide h)
  where
    not : (wide : ℕ) → 1 < wide → nat_eq wide 1 ≡ false
    not wide h = grind (arith, nat_tests)

-- a wide first segment has the least weight
wide_weight : (low other : Bool) (signs : List Sign) (wide next : ℕ) (sizes : List ℕ) → 1 < wide
    → weight_from low signs (wide ∷ sizes) ≤ weight_from other signs (next ∷ sizes)
wide_weight low other [] wide next sizes h = omega (arith, wide_none low wide h)
wide_weight low other (Above ∷ signs) wide next sizes h = omega (arith, wide_none low wide h)
wide_weight low other (Even ∷ signs) wide next sizes h = omega arith
wide_weight low other (Under ∷ signs) wide next sizes h = omega arith

-- a wide first segment, with any mark, has a bound at most one more than any other first segment
wide_bound : (low other : Bool) (signs : List Sign) (wide next : ℕ) (sizes : List ℕ) (joined mark : Bool) (marks : List Bool) → 1 < wide
    → strong_from low signs (wide ∷ sizes) (joined ∷ marks) ≤ strong_from other signs (next ∷ sizes) (mark ∷ marks) + 1
wide_bound low other [] wide next sizes joined mark marks h = omega (arith, wide_none low wide h, cond_count-le_one joined)
wide_bound low other (Above ∷ signs) wide next sizes joined mark marks h = omega (arith, wide_none low wide h, cond_count-le_one joined)
wide_bound low other (Even ∷ signs) wide next sizes joined mark marks h = omega (arith, cond_count-le_one joined)
wide_bound low other (Under ∷ signs) wide next sizes joined mark marks h = omega (arith, cond_count-le_one joined)

-- which is no more than what a closing before it is asked for
wide_under : (low other : Bool) (signs : List Sign) (wide next : ℕ) (sizes : List ℕ) (joined mark : Bool) (marks : List Bool) → 1 < wide
    → strong_from low signs (wide ∷ sizes) (joined ∷ marks)
    ≤ max (1 + count_by is_under signs + weight_from other signs (next ∷ sizes)) (strong_from other signs (next ∷ sizes) (mark ∷ marks))
wide_under low other [] wide next sizes joined mark marks h = omega (arith, wide_none low wide h, cond_count-le_one joined)
wide_under low other (Above ∷ signs) wide next sizes joined mark marks h =
    omega (arith, wide_none low wide h, cond_count-le_one joined, unders-cons Above signs)
wide_under low other (Even ∷ signs) wide next sizes joined mark marks h = omega (arith, cond_count-le_one joined, unders-cons Even signs)
wide_under low other (Under ∷ signs) wide next sizes joined mark marks h = omega (arith, cond_count-le_one joined, unders-cons Under signs)

-- a pass with a wide first segment counts no more than one that has counted as much and sees a bound as great
no_more : (p q : Passed) (signs : List Sign) (wide next : ℕ) (sizes : List ℕ) (joined mark : Bool) (marks : List Bool) → 1 < wide
    → length sizes ≡ length signs → length marks ≡ length sizes → p.most ≤ q.most → p.more ≤ q.more
    → p.aboves + strong_from p.low signs (wide ∷ sizes) (joined ∷ marks)
    ≤ max (q.most + count_by is_under signs + weight_from q.low signs (next ∷ sizes)) (q.aboves + strong_from q.low signs (next ∷ sizes) (mark ∷ marks))
    → IsNoMore (pass_along p signs (wide ∷ sizes) (joined ∷ marks)) (pass_along q signs (next ∷ sizes) (mark ∷ marks))
no_more p q signs wide next sizes joined mark marks h many long most more bound =
    onto (the_pass_is_strong p signs (wide ∷ sizes) (joined ∷ marks) (omega (arith, many)) (omega (arith, long)))
    (the_pass_is_strong q signs (next ∷ sizes) (mark ∷ marks) (omega (arith, many)) (omega (arith, long)))
    (wide_weight p.low q.low signs wide next sizes h)
  where
    onto : IsCounted p signs (wide ∷ sizes) (joined ∷ marks) → IsCounted q signs (next ∷ sizes) (mark ∷ marks)
        → weight_from p.low signs (wide ∷ sizes) ≤ weight_from q.low signs (next ∷ sizes)
        → IsNoMore (pass_along p signs (wide ∷ sizes) (joined ∷ marks)) (pass_along q signs (next ∷ sizes) (mark ∷ marks))
    onto c d w = record { most = omega (arith, c.most, d.most, w, most, bound); more = omega (arith, c.more, d.more, w, more) }

-- with one segment between
one_asks_more : (p : Passed) (sign : Sign) (signs : List Sign) (size wide next : ℕ) (sizes : List ℕ) (own joined mark : Bool) (marks : List Bool)
    → (sign ≡ Even → ⊥) → 1 < wide → length sizes ≡ length signs → length marks ≡ length sizes
    → IsNoMore (pass_along p signs (wide ∷ sizes) (joined ∷ marks)) (pass_along (pass p sign size own) signs (next ∷ sizes) (mark ∷ marks))
one_asks_more p Even signs size wide next sizes own joined mark marks parts h many long = absurd (parts refl)
one_asks_more p Above signs size wide next sizes own joined mark marks parts h many long =
    no_more p (pass p Above size own) signs wide next sizes joined mark marks h many long (omega arith) (omega arith)
    (omega (arith, wide_bound p.low false signs wide next sizes joined mark marks h))
one_asks_more p Under signs size wide next sizes own joined mark marks parts h many long =
    no_more p (pass p Under size own) signs wide next sizes joined mark marks h many long (omega arith) (omega arith)
    (omega (arith, wide_under p.low true signs wide next sizes joined mark marks h))

-- a segment joined by the sign even asks for no more than one with any segments between
pub even_asks_least : EvenAsksLeast
even_asks_least p sign [] signs size own wide next sizes first owns joined mark marks none h a b many long =
    one_asks_more p sign signs size wide next sizes first joined mark marks none.0 h many long
even_asks_least p sign (s ∷ between) signs size [] wide next sizes first owns joined mark marks none h a b many long = absurd (omega (arith, a))
even_asks_least p sign (s ∷ between) signs size (n ∷ own) wide next sizes first [] joined mark marks none h a b many long = absurd (omega (arith, b))
even_asks_least p sign (s ∷ between) signs size (n ∷ own) wide next sizes first (c ∷ owns) joined mark marks none h a b many long = onto
    (one_asks_more p sign signs size wide wide sizes first joined joined marks none.0 h many long)
    (even_asks_least (pass p sign size first) s between signs n own wide next sizes c owns joined mark marks none.1 h (omega (arith, a)) (omega
    (arith, b)) many long)
  where
    onto : IsNoMore (pass_along p signs (wide ∷ sizes) (joined ∷ marks)) (pass_along (pass p sign size first) signs (wide ∷ sizes) (joined ∷ marks))
        → IsNoMore (pass_along (pass p sign size first) signs (wide ∷ sizes) (joined ∷ marks))
        (pass_along (pass_each (pass p sign size first) (s ∷ between) (n ∷ own) (c ∷ owns)) signs (next ∷ sizes) (mark ∷ marks))
        → IsNoMore (pass_along p signs (wide ∷ sizes) (joined ∷ marks))
        (pass_along (pass_each p (sign ∷ s ∷ between) (size ∷ n ∷ own) (first ∷ c ∷ owns)) signs (next ∷ sizes) (mark ∷ marks))
    onto c d = record { most = omega (arith, c.most, d.most); more = omega (arith, c.more, d.more) }
