-- A walk step by step: each begins where the last one led.
use Rattle.std.proofs.Common.{arith, false, refl, subst, sym, true, ℕ, ◌+◌, ◌-◌, ◌<◌, ◌∙◌, ◌≤◌}
use Rattle.bk_tiling.specs.Tiling.{Tiling}
use Rattle.bk_word.specs.declared.Class.{Class}
use Rattle.bk_catalogue.specs.Catalogue.{IsEntry}
use Rattle.bk_tree_walk.proofs.MemberEntries.{same_entry}
use Rattle.bk_catalogue.proofs.TreeOfWords.Ranks.{left_after}
use Rattle.bk_tree_walk.proofs.WalkLoop.{Continues, continues_none, continues_on, counts_known, counts_none, counts_then, ends_then}
use Rattle.bk_tree_walk.proofs.WalkLoop.{later_is_nearer, meets_then}
use Rattle.bk_tree_walk.specs.TreePlace.{Finds, IsKeptTreeWalk, IsTreeWalkState, TreeWalkState, StaysOf, StepLeadsTo, place_of}
use Rattle.bk_tree_walk.specs.declared.Went.{Went}
use Rattle.bk_tree_walk.specs.declared.Went.TheVariants.{End, Met, On}

-- at first
pub no_step_yet : (s : TreeWalkState) (steps : ℕ) → Continues s.order s.class (place_of s) (place_of s) (steps - steps)
no_step_yet s steps = continues_none s.order s.class (place_of s) (steps - steps) (omega arith)

-- a walk that does nothing stays of its order and class and counts no push
pub stays_same : (s : TreeWalkState) (steps : ℕ) → IsKeptTreeWalk s → StaysOf s s steps steps
stays_same s steps kept = record { order = refl; class = refl; counts = counts_none s.pushes steps kept.known }

-- two steps of a walk, one after the other, keep its order and class and count their pushes together
pub stays_then : (s t u : TreeWalkState) (a b c : ℕ) → StaysOf s t a b → StaysOf t u b c → StaysOf s u a c
stays_then s t u a b c st tu = record {
  order = tu.order ∙ st.order;
  class = tu.class ∙ st.class;
  counts = counts_then s.pushes t.pushes u.pushes a b c st.counts tu.counts;
}

-- a step from the state t, to which the walk came from s, to the state u
module _ (s t u : TreeWalkState) (a b c : ℕ) (kept_t : IsKeptTreeWalk t)
    (on : Continues s.order s.class (place_of s) (place_of t) (b - a)) (st : StaysOf s t a b) (tu : StaysOf t u b c) where
  in_order : (went : Went) → StepLeadsTo t u (c - b) went → StepLeadsTo (record t { order = s.order; class = s.class }) u (c - b) went
  in_order went leads = subst (λ (p : ℕ × Class). StepLeadsTo (record t { order = p.0; class = p.1 }) u (c - b) went)
      (λ i. (st.order i, st.class i)) leads

  few : c - a ≤ (b - a) + (c - b)
  few = let k = (st.counts).more in let l = (tu.counts).more in omega arith

  -- a step that leads on leads the whole walk on to where the step ends
  pub step_leads_on : StepLeadsTo t u (c - b) On → Continues s.order s.class (place_of s) (place_of u) (c - a)
  step_leads_on leads = continues_on s.order s.class (place_of s) (place_of t) (place_of u) (b - a) (c - b) (c - a) on (in_order On leads).0 few

  -- a step that leads on leaves a walk that holds what each does
  pub step_keeps : StepLeadsTo t u (c - b) On → IsKeptTreeWalk u
  step_keeps leads = record {
    least = omega (arith, kept_t.least, tu.order);
    most = omega (arith, kept_t.most, tu.order);
    stand = subst (λ (n : ℕ). IsTreeWalkState n u.front u.next) (sym tu.order) leads.1;
    known = counts_known t.pushes u.pushes b c tu.counts;
  }

  -- a step that leads on comes to a place with fewer words left
  pub step_comes_nearer : StepLeadsTo t u (c - b) On → left_after (place_of u) < left_after (place_of t)
  step_comes_nearer leads = later_is_nearer t.order t.front u.front t.next u.next kept_t.most kept_t.stand leads.1 (leads.0).up

  -- a step that comes to the end ends the whole walk
  pub step_ends_walk : StepLeadsTo t u (c - b) End → Finds s u (c - a) false
  step_ends_walk leads = (
    ends_then s.order s.class (place_of s) (place_of t) (b - a) (c - b) (c - a) on (in_order End leads).0 few,
    leads.1,
  )

  -- a step that meets a member's word finds it in the whole walk
  pub step_finds : StepLeadsTo t u (c - b) Met → Finds s u (c - a) true
  step_finds leads = meets_then s.order s.class (place_of s) (place_of t) u.front (b - a) (c - b) (c - a) on (in_order Met leads) few

  -- an entry that a step meets is one of the walk's order and class
  pub entry_of_step : (tiling : Tiling) → IsEntry t.order t.class (record { tiling = tiling; word = u.front })
      → IsEntry s.order s.class (record { tiling = tiling; word = u.front })
  entry_of_step tiling is = same_entry s.order t.order s.class t.class u.front u.front tiling st.order st.class refl is
