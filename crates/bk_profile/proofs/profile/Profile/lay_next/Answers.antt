use Rattle.std.proofs.Common.{List, subst, sym, take, ℕ, ◌≡◌}
use Rattle.std.specs.Prelude.{Err, IfErr, Ok, Result}
use Rattle.std.specs.Result.{IsErrAnd}
use Rattle.bk_profile.proofs.Storing.{gap_read}
use Rattle.bk_profile.specs.Laid.{Laid, LaysGroup, LaysNextGroup, MisfitsGap, MisfitsNextGroup}
use Rattle.bk_profile.specs.declared.profile.GapFault.{GapFault}
use Rattle.bk_profile.proofs.profile.Profile.lay_next.Goals as goal

-- what holds of an error holds where it is handed on
handed_on : {T E : Type 0} {e : E} (P : E → Type 0) (r : Result T E) → IsErrAnd r (λ f. f ≡ e) → P e → IfErr r P
handed_on P (Ok v) is holds = tt
handed_on P (Err f) is holds = subst P (sym is) holds

pub next_group-count-requires-clause-gap : goal.next_group-count-requires-clause-gap
next_group-count-requires-clause-gap c =
    ((gap_read _ _ _ _ c.self.invariant c.deref.ensures.0 c.lowest_runs-runs.ensures).flat).some

pub returns-in_err-lay_under-clause-err : goal.returns-in_err-lay_under-clause-err
returns-in_err-lay_under-clause-err c =
    handed_on (λ (fault : GapFault). MisfitsNextGroup c.args.self.now c.args.sides.now fault.gap fault.sum) c.from_residual.result c.from_residual.ensures.1
    (subst (λ (p : Laid). MisfitsNextGroup p c.args.sides.now c.in_err-lay_under.field-0.0.gap c.in_err-lay_under.field-0.0.sum) c.self.view_is
    (record {
      gap = c.lowest_runs-runs.result.segment;
      is_gap = gap_read _ _ _ _ c.self.invariant c.deref.ensures.0 c.lowest_runs-runs.ensures;
      misfits = subst (λ (l : List ℕ).
          MisfitsGap (record { width = c.self.inside.width; squares = c.self.inside.laid.items }) l c.in_err-lay_under.field-0.0.gap
          c.in_err-lay_under.field-0.0.sum) c.next_group-count.ensures.group
          (subst (λ (w : ℕ).
          MisfitsGap (record { width = w; squares = c.self.inside.laid.items }) (take c.next_group-count.result.0 c.args.sides.now)
          c.in_err-lay_under.field-0.0.gap c.in_err-lay_under.field-0.0.sum)
          ((c.self.invariant).outline).whole c.in_err-lay_under.ensures.err);
    }))

pub returns-clause-ok : goal.returns-clause-ok
returns-clause-ok c =
    subst (λ (p : Laid).
    LaysNextGroup p c.args.sides.now c.next_group-count.result.0 (record { width = c.self.inside.width; squares = c.lay_under.new.laid.items }))
    c.self.view_is
    (record {
      some = c.next_group-count.ensures.some;
      within = c.next_group-count.ensures.within;
      gap = c.lowest_runs-runs.result.segment;
      is_gap = gap_read _ _ _ _ c.self.invariant c.deref.ensures.0 c.lowest_runs-runs.ensures;
      next = c.next_group-count.ensures.group;
      lays = subst (λ (w : ℕ).
          LaysGroup (record { width = w; squares = c.self.inside.laid.items }) (take c.next_group-count.result.0 c.args.sides.now)
          (record { width = w; squares = c.lay_under.new.laid.items })) ((c.self.invariant).outline).whole c.in_ok-lay_under.ensures.ok;
    })
