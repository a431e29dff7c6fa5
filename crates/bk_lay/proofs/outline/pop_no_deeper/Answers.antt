use Rattle.std.proofs.Common.{Bor, List, None, Option, Some, [], ap, arith, length, lit<, refl, subst, sym, ℕ, ◌++◌, ◌+◌, ◌-◌, ◌<◌, ◌∙◌, ◌∷◌, ◌≡◌, ◌≤◌}
use Rattle.std.specs.List.{slice_get}
use Rattle.std.specs.Option.{option_copied}
use Rattle.std.specs.Prelude.{IfNone, IfSome, option_to_list}
use Rattle.std.proofs.lemmas.List.{get_or_at, length-append}
use Rattle.std.proofs.lemmas.Option.{slice_get_read}
use Rattle.bk_lay.specs.LevelRuns.{IsDeeperAtEnd}
use Rattle.bk_lay.specs.declared.outline.LevelRun.{LevelRun}
use Rattle.bk_lay.proofs.outline.pop_no_deeper.Goals as goal

-- what the last one of the runs is
read_last : (shown items : List LevelRun) (last o : Option (Bor LevelRun)) → shown ≡ items → option_copied last ≡ slice_get shown (length shown - 1) → last ≡ o
    → slice_get items (length items - 1) ≡ option_copied o
read_last shown items last o same value e =
    ap (λ (l : List LevelRun). slice_get l (length l - 1)) (sym same) ∙ sym value ∙ ap option_copied e

-- a run behind others is the last one
last_read : (front : List LevelRun) (r : LevelRun) → slice_get (front ++ r ∷ []) (length (front ++ r ∷ []) - 1) ≡ Some r
last_read front r =
    let size : length (front ++ r ∷ []) ≡ length front + 1 = length-append front (r ∷ []) in
    slice_get_read (front ++ r ∷ []) (length (front ++ r ∷ [])) (length (front ++ r ∷ []) - 1) r refl (omega (arith, size))
    (sym (get_or_at front r [] r (length (front ++ r ∷ []) - 1) (omega (arith, size))))

-- the last run is deeper, or there is none
deeper : (runs : List LevelRun) (level : ℕ) (last : LevelRun) → slice_get runs (length runs - 1) ≡ Some last → level < last.level → IsDeeperAtEnd level runs
deeper runs level last read low front r e =
    let same : slice_get runs (length runs - 1) ≡ Some r = ap (λ (l : List LevelRun). slice_get l (length l - 1)) e ∙ last_read front r in
    let k : last ≡ r = cc in
    omega (arith, low, ap (λ (q : LevelRun). q.level) k)

none_last : (runs : List LevelRun) (level : ℕ) → slice_get runs (length runs - 1) ≡ None → IsDeeperAtEnd level runs
none_last runs level read front r e =
    let same : slice_get runs (length runs - 1) ≡ Some r = ap (λ (l : List LevelRun). slice_get l (length l - 1)) e ∙ last_read front r in
    cc

-- what is taken out
taken : (old new : List LevelRun) (level : ℕ) (o : Option LevelRun) (r : LevelRun) → old ≡ new ++ option_to_list o → o ≡ Some r → r.level ≤ level
    → IfSome o (λ q. (old ≡ new ++ q ∷ []) × (q.level ≤ level))
taken old new level o r items e low =
    subst (λ (p : Option LevelRun). IfSome p (λ q. (old ≡ new ++ q ∷ []) × (q.level ≤ level))) (sym e)
    (items ∙ ap (λ (p : Option LevelRun). new ++ option_to_list p) e, low)

some_kept : (P : Type 0) (o : Option LevelRun) (r : LevelRun) → o ≡ Some r → IfNone o P
some_kept P o r e = subst (λ (p : Option LevelRun). IfNone p P) (sym e) tt

pub deref-requires : goal.deref-requires
deref-requires c = lit< tt

pub returns-in_err-last-clause-kept : goal.returns-in_err-last-clause-kept
returns-in_err-last-clause-kept c = rw c.from_residual.ensures (
  refl,
  none_last c.args.runs.now.items c.args.level
      (read_last c.deref.result.now c.args.runs.now.items c.last.result None c.deref.ensures.0 c.last.ensures.value c.in_err-last.was),
)

pub returns-then-last-level-clause-kept : goal.returns-then-last-level-clause-kept
returns-then-last-level-clause-kept c = (
  refl,
  deeper c.args.runs.now.items c.args.level c.in_ok-last.field-0.now
      (read_last c.deref.result.now c.args.runs.now.items c.last.result (Some c.in_ok-last.field-0) c.deref.ensures.0 c.last.ensures.value c.in_ok-last.was)
      c.if-last-level.true,
)

pub returns-clause-taken : goal.returns-clause-taken
returns-clause-taken c =
    taken c.args.runs.now.items c.pop.new.self.items c.args.level c.pop.result c.in_ok-last.field-0.now c.pop.ensures.items (c.pop.ensures.value
    ∙ read_last c.deref.result.now c.args.runs.now.items c.last.result (Some c.in_ok-last.field-0) c.deref.ensures.0 c.last.ensures.value c.in_ok-last.was)
    c.if-last-level.false

pub returns-clause-kept : goal.returns-clause-kept
returns-clause-kept c = some_kept _ c.pop.result c.in_ok-last.field-0.now (c.pop.ensures.value
    ∙ read_last c.deref.result.now c.args.runs.now.items c.last.result (Some c.in_ok-last.field-0) c.deref.ensures.0 c.last.ensures.value c.in_ok-last.was)
