use Rattle.std.proofs.Common.{List, [], add-one, ap, append_assoc, arith, drop, get_or, length, length-append, lit<, remove, suc, sym, take, ℕ, ◌++◌}
use Rattle.std.proofs.Common.{◌-◌, ◌<◌, ◌∙◌, ◌∷◌, ◌≡◌, ◌≤◌}
use Rattle.std.proofs.lemmas.List.{drop_at, length-take-le, take-append-drop, take_at, take_more}
use Rattle.bk_profile.proofs.RunStarts.{no_run}
use Rattle.bk_profile.specs.declared.runs.OutlineRun.{OutlineRun}
use Rattle.bk_profile.proofs.runs.take_out.Goals as goal

-- the last of the runs to be taken out
last_is_there : (old now : List OutlineRun) (last end : ℕ) → 0 < last → last ≤ end → end ≤ length old → now ≡ take last old ++ drop end old
    → last - 1 < length now
last_is_there old now last end some before within is =
    omega (arith, some, ap length is, length-append (take last old) (drop end old), length-take-le last old (omega (arith, before, within)))

less_left : (last first : ℕ) → first < last → last - 1 - first < last - first
less_left last first before = omega (arith, before)

-- without it
last_taken_out : (old now new : List OutlineRun) (m end : ℕ) → m < end → end ≤ length old → now ≡ take (suc m) old ++ drop end old
    → new ≡ remove now m → new ≡ take m old ++ drop end old
last_taken_out old now new m end before within is removed =
    let front : take (suc m) old ≡ take m old ++ get_or old m no_run ∷ [] = ap (λ n. take n old) (sym (add-one m))
    ∙ take_more old m no_run (omega (arith, before, within)) in
    let size : length (take m old) ≡ m = length-take-le m old (omega (arith, before, within)) in
    let whole : now ≡ take m old ++ get_or old m no_run ∷ drop end old = is ∙ ap (λ l. l ++ drop end old) front
    ∙ append_assoc (take m old) (get_or old m no_run ∷ []) (drop end old) in
    let left : take m now ≡ take m old = ap (take m) whole ∙ take_at (take m old) (get_or old m no_run ∷ drop end old) m size in
    let right : drop (suc m) now ≡ drop end old = ap (drop (suc m)) is
    ∙ drop_at (take (suc m) old) (drop end old) (suc m) (length-take-le (suc m) old (omega (arith, before, within))) in
    removed ∙ (λ i. left i ++ right i)

pub runs-init : goal.runs-init
runs-init c = record { from = c.requires.order; up_to = omega arith; items = sym (take-append-drop c.args.end c.args.outline.now.items) }

pub returns : goal.returns
returns c =
    let e : c.runs.last ≡ c.args.first = omega (arith, c.runs.invariant.from, c.runs-test.false) in
    c.runs.invariant.items ∙ ap (λ (n : ℕ). take n c.args.outline.now.items ++ drop c.args.end c.args.outline.now.items) e

pub overflow_sub-last : goal.overflow_sub-last
overflow_sub-last c = omega (arith, c.runs-test.true)

pub remove-requires : goal.remove-requires
remove-requires c = (
  lit< tt,
  last_is_there c.args.outline.now.items c.runs.outline.items c.runs.last c.args.end (omega (arith, c.runs-test.true)) c.runs.invariant.up_to
      c.requires.within c.runs.invariant.items,
)

pub runs-smaller : goal.runs-smaller
runs-smaller c = less_left c.runs.last c.args.first c.runs-test.true

pub runs-preserved : goal.runs-preserved
runs-preserved c = record {
  from = omega (arith, c.runs-test.true);
  up_to = omega (arith, c.runs.invariant.up_to);
  items =
      let size : c.runs.last ≡ suc (c.runs.last - 1) = omega (arith, c.runs-test.true) in
      last_taken_out c.args.outline.now.items c.runs.outline.items c.remove.new.self.items (c.runs.last - 1) c.args.end
      (omega (arith, c.runs-test.true, c.runs.invariant.up_to)) c.requires.within
      (c.runs.invariant.items ∙ ap (λ n. take n c.args.outline.now.items ++ drop c.args.end c.args.outline.now.items) size) c.remove.ensures.items;
}
