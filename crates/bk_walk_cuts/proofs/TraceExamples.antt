-- What is kept along 2u: no equation, and the levels at which its two squares end. The sides of the squares are called a and b.
use Rattle.std.specs.Prelude.{negsuc, pos}
use Rattle.std.proofs.Common.{List, [], arith, lit<, lit≤, refl, ◌∷◌, ◌≡◌, ◌≤◌}
use Rattle.bk_word.proofs.WordExamples.{two}
use Rattle.bk_word.specs.declared.Sign.TheVariants.{Under}
use Rattle.bk_forms.specs.Form.{Form}
use Rattle.bk_walk_cuts.proofs.SideFormExamples.{form_of, nothing_holds}
use Rattle.bk_walk_cuts.proofs.TraceMore.{trace_more}
use Rattle.bk_walk_cuts.specs.Trace.{AreFewSmall, IsSmall, IsTraceOf, Trace}
use Rattle.bk_walk_cuts.specs.declared.tracing.Mark.{Mark}

-- ---- small coefficients

-- in a - b each coefficient is at most 1 in magnitude
small : IsSmall 1 (pos 1 ∷ negsuc 0 ∷ [])
small = (lit≤ tt, (lit≤ tt, tt))

-- in 2a the coefficient is greater than 1
not_small : IsSmall 1 (pos 2 ∷ []) → ⊥
not_small s = let at_most : 2 ≤ 1 = s.0 in omega (arith, at_most)

-- ---- traces

-- along no move there is nothing
abbrev nothing : Trace
nothing = record { kept = []; bottoms = []; marks = [] }

-- what is kept along no move is a trace of the word of no move
trace_of_none : IsTraceOf [] nothing
trace_of_none = record {
  followed = lit≤ tt;
  count = refl;
  few = omega arith;
  some = lit≤ tt;
  small = λ i form e. absurd (cc);
  hold = nothing_holds;
  marked = λ j mark e. absurd (cc);
}

-- the squares of 2u end at the levels a and b
abbrev two_bottoms : List Form
two_bottoms = form_of (pos 1 ∷ []) ∷ form_of (pos 0 ∷ pos 1 ∷ []) ∷ []

-- before 2u there was neither an equation nor a square
abbrev mark_of_none : Mark
mark_of_none = record { equations = 0; squares = 0 }

-- a mark that says that a square hung already
abbrev mark_of_one : Mark
mark_of_one = record { equations = 0; squares = 1 }

-- along 2u no equation is kept, and so many equations and squares are said to be there before it
abbrev trace_with : Mark → Trace
trace_with mark = record { kept = []; bottoms = two_bottoms; marks = mark ∷ [] }

-- the bottoms at a and b, with the mark of nothing before, are a trace of 2u
trace_of_2u : IsTraceOf (two Under ∷ []) (trace_with mark_of_none)
trace_of_2u = trace_more [] (two Under) [] [] [] trace_of_none refl (lit≤ tt) (lit< tt) [] (record { more = lit≤ tt; same = refl })
    (λ sides asked. asked.meets)

-- with the mark of one square before they aren't a trace of 2u, since none hung
wrong_mark : IsTraceOf (two Under ∷ []) (trace_with mark_of_one) → ⊥
wrong_mark is = let squares : 1 ≡ 0 = (is.marked 0 mark_of_one refl).squares_are in omega (arith, squares)

-- the bottoms at a and b are few, and have small coefficients
two_are_few_small : AreFewSmall two_bottoms
two_are_few_small = record { few = trace_of_2u.few; small = trace_of_2u.small }
