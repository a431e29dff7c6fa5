use Rattle.std.proofs.Common.{List, ap, arith, length, subst, sym, ℕ, ◌<◌, ◌≡◌}
use Rattle.std.specs.Prelude.{IfErr, OnErr, OnOk}
use Rattle.std.proofs.lemmas.Result.{on_err_weaker}
use Rattle.bk_profile.proofs.Storing.{narrow_runs, some_runs}
use Rattle.bk_profile.specs.Laid.{Laid, LaysGroup, MisfitsGap}
use Rattle.bk_profile.specs.OutlineRuns.{AreLowestRuns, width_of}
use Rattle.bk_profile.specs.StoredProfile.{IsStoredProfile}
use Rattle.bk_profile.specs.declared.runs.OutlineRun.{OutlineRun}
use Rattle.bk_profile.proofs.profile.Profile.lay.Goals as goal

pub lowest_runs-runs-requires-clause-some : goal.lowest_runs-runs-requires-clause-some
lowest_runs-runs-requires-clause-some c = subst (λ (l : List OutlineRun). 0 < length l) (sym c.deref.ensures.0) (some_runs _ _ c.self.invariant)

pub lowest_runs-runs-requires-clause-narrow : goal.lowest_runs-runs-requires-clause-narrow
lowest_runs-runs-requires-clause-narrow c =
    subst (λ (l : List OutlineRun). width_of l < 9223372036854775808) (sym c.deref.ensures.0) (narrow_runs _ _ c.self.invariant)

pub sum_of-sum-requires-clause-few : goal.sum_of-sum-requires-clause-few
sum_of-sum-requires-clause-few c = omega (arith, c.requires.room)

pub sum_of-sum-requires-clause-sides : goal.sum_of-sum-requires-clause-sides
sum_of-sum-requires-clause-sides c = c.requires.sides

pub lay_under-requires-clause-stored : goal.lay_under-requires-clause-stored
lay_under-requires-clause-stored c =
    subst (λ (w : ℕ). IsStoredProfile (record { width = w; squares = c.self.inside.laid.items }) c.self.inside.outline.items)
    (sym ((c.self.invariant).outline).whole) c.self.invariant

pub lay_under-requires-clause-runs : goal.lay_under-requires-clause-runs
lay_under-requires-clause-runs c = subst (λ (l : List OutlineRun). AreLowestRuns l c.lowest_runs-runs.result) c.deref.ensures.0 c.lowest_runs-runs.ensures

pub lay_under-requires-clause-total : goal.lay_under-requires-clause-total
lay_under-requires-clause-total c = sym c.sum_of-sum.ensures.sum

pub lay_under-requires-clause-some : goal.lay_under-requires-clause-some
lay_under-requires-clause-some c = c.requires.some

pub lay_under-requires-clause-sides : goal.lay_under-requires-clause-sides
lay_under-requires-clause-sides c = c.requires.sides

pub lay_under-requires-clause-room : goal.lay_under-requires-clause-room
lay_under-requires-clause-room c = omega (arith, c.requires.room, ap (λ (p : Laid). length p.squares) c.self.view_is)

pub invariant_of-self : goal.invariant_of-self
invariant_of-self c =
    subst (λ (w : ℕ). IsStoredProfile (record { width = w; squares = c.lay_under.new.laid.items }) c.lay_under.new.outline.items)
    ((c.self.invariant).outline).whole c.lay_under.ensures.stored

pub returns-clause-ok : goal.returns-clause-ok
returns-clause-ok c =
    subst (λ (p : Laid). OnOk c.lay_under.result
    (LaysGroup p c.args.sides.now (record { width = c.self.inside.width; squares = c.lay_under.new.laid.items }))) c.self.view_is
    (subst (λ (w : ℕ). OnOk c.lay_under.result
    (LaysGroup (record { width = w; squares = c.self.inside.laid.items }) c.args.sides.now (record { width = w; squares = c.lay_under.new.laid.items })))
    ((c.self.invariant).outline).whole c.lay_under.ensures.ok)

pub returns-clause-err : goal.returns-clause-err
returns-clause-err c =
    subst (λ (p : Laid). IfErr c.lay_under.result (λ fault. MisfitsGap p c.args.sides.now fault.gap fault.sum)) c.self.view_is
    (subst (λ (w : ℕ). IfErr c.lay_under.result
    (λ fault. MisfitsGap (record { width = w; squares = c.self.inside.laid.items }) c.args.sides.now fault.gap fault.sum))
    ((c.self.invariant).outline).whole c.lay_under.ensures.err)

pub returns-clause-same : goal.returns-clause-same
returns-clause-same c =
    subst (λ (p : Laid). OnErr c.lay_under.result (record { width = c.self.inside.width; squares = c.lay_under.new.laid.items } ≡ p)) c.self.view_is
    (on_err_weaker c.lay_under.result (ap (λ l. record { width = c.self.inside.width; squares = l })) c.lay_under.ensures.same)
