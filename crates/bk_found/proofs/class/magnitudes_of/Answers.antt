use Rattle.std.specs.Int.{w64}
use Rattle.std.specs.Prelude.{FitsSigned, map, nat_abs, pos}
use Rattle.std.proofs.Common.{[], ap, arith, length, lit<, rules, slice_index_or, sym, ◌++◌, ◌∷◌, ◌∙◌}
use Rattle.std.proofs.lemmas.List.{map_more, take_all}
use Rattle.std.proofs.lemmas.Int.{to_z-of_z}
use Rattle.bk_found.proofs.class.magnitudes_of.Goals as goal

pub currents-init : goal.currents-init
currents-init c = record { read = c.new-magnitudes.ensures; many = ap length c.new-magnitudes.ensures }

pub push-requires : goal.push-requires
push-requires c = (lit< tt, omega (arith, c.currents.invariant.many, c.currents-test.true, c.requires.few))

pub returns : goal.returns
returns c = c.currents.invariant.read ∙ ap (map nat_abs) (take_all c.currents.current-index c.args.currents.now c.currents-test.false)

pub new-magnitudes-requires : goal.new-magnitudes-requires
new-magnitudes-requires c = lit< tt

pub offset_bounds-currents-current-index : goal.offset_bounds-currents-current-index
offset_bounds-currents-current-index c = omega (arith, c.currents-test.true, c.requires.few)

pub bounds-currents-current-index : goal.bounds-currents-current-index
bounds-currents-current-index c = c.currents-test.true

pub unsigned_abs-requires : goal.unsigned_abs-requires
unsigned_abs-requires c = tt

pub currents-smaller : goal.currents-smaller
currents-smaller c = omega (arith, c.currents-test.true)

pub currents-preserved : goal.currents-preserved
currents-preserved c =
    let fits : FitsSigned w64 (slice_index_or c.args.currents.now c.currents.current-index (pos 0)) = search rules in
    record {
      read = c.push.ensures.items
          ∙ (λ i. c.currents.invariant.read i ++ (c.unsigned_abs.ensures.value ∙ ap nat_abs (to_z-of_z w64 _ fits)) i ∷ [])
          ∙ sym (map_more nat_abs c.args.currents.now c.currents.current-index (pos 0) c.currents-test.true);
      many = omega (arith, c.push.ensures.len, c.currents.invariant.many);
    }
