-- What is kept of the wires with the one at hand, in each branch.
use Rattle.std.proofs.Common.{Bool, List, [], ap, arith, false, length, subst, sym, true, ℕ, ◌++◌, ◌∙◌, ◌∷◌, ◌≡◌}
use Rattle.std.specs.Prelude.{Err, Ok, OnErr, OnOk, Option, Result, is_err}
use Rattle.std.proofs.lemmas.Bool.{false≢true, true≢false}
use Rattle.std.proofs.lemmas.List.{length-append}
use Rattle.bk_net.specs.GatheredWires.{KeepsWires, and_wire}
use Rattle.bk_net.proofs.read.with_wire.Goals as goal

-- where there are too many already, a further wire changes nothing
keeps_full : (all kept : List (ℕ × ℕ)) (w : ℕ × ℕ) (many : Bool) → many ≡ true → KeepsWires all kept many → KeepsWires (all ++ w ∷ []) kept many
keeps_full all kept w many full keeps = record {
  same = λ few. absurd (true≢false (sym full ∙ few));
  more = λ e. omega (arith, keeps.more e, length-append all (w ∷ []));
}

-- a further wire is kept if there is room, or else there are too many
keeps_tried : {T E : Type 0} (r : Result T E) (all kept after : List (ℕ × ℕ)) (w : ℕ × ℕ) (many full : Bool) → many ≡ false → full ≡ is_err r
    → OnOk r (after ≡ kept ++ w ∷ []) → OnErr r (length kept ≡ 200) → KeepsWires all kept many → KeepsWires (all ++ w ∷ []) after full
keeps_tried (Ok x) all kept after w many full few is put none keeps = record {
  same = λ e. put ∙ ap (λ (l : List (ℕ × ℕ)). l ++ w ∷ []) (keeps.same few);
  more = λ e. absurd (true≢false (sym e ∙ is));
}
keeps_tried (Err x) all kept after w many full few is put none keeps = record {
  same = λ e. absurd (false≢true (sym e ∙ is));
  more = λ e. omega (arith, length-append all (w ∷ []), ap length (keeps.same few), none);
}

pub try_push-requires : goal.try_push-requires
try_push-requires c = omega arith

pub returns-then-many : goal.returns-then-many
returns-then-many c = λ all keeps. subst (λ (o : Option (ℕ × ℕ)). KeepsWires (and_wire o all) c.args.wires.now.items c.args.many) (sym c.in-Some.is)
    (keeps_full all c.args.wires.now.items c.in-Some.wire c.args.many c.if-many.true keeps)

pub returns-else-many : goal.returns-else-many
returns-else-many c = λ all keeps. subst (λ (o : Option (ℕ × ℕ)). KeepsWires (and_wire o all) c.try_push.new.self.items c.is_err.result) (sym c.in-Some.is)
    (keeps_tried c.try_push.result all c.args.wires.now.items c.try_push.new.self.items c.in-Some.wire c.args.many c.is_err.result c.if-many.false
    c.is_err.ensures.value c.try_push.ensures.ok c.try_push.ensures.full keeps)

pub returns-in-None : goal.returns-in-None
returns-in-None c = λ all keeps.
    subst (λ (o : Option (ℕ × ℕ)). KeepsWires (and_wire o all) c.args.wires.now.items c.args.many) (sym c.in-None.is) keeps
