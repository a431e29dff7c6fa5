use Rattle.std.proofs.lemmas.List.{length-append}
use Rattle.std.specs.Prelude.{codes, decimal}
use Rattle.std.proofs.Common.{List, [], ap, append_assoc, arith, length, ℕ, ◌++◌, ◌∷◌, ◌≡◌}
use Rattle.bk_report.proofs.net.push_wire.Goals as goal

-- a blank, a node, a dash and a node
wire_pieces : (front from to : List ℕ) → (((front ++ 32 ∷ []) ++ from) ++ 45 ∷ []) ++ to ≡ front ++ 32 ∷ (from ++ codes "-" ++ to)
wire_pieces front from to = simp append_assoc

pub push-requires : goal.push-requires
push-requires c = omega arith

pub push_place-requires-clause-small : goal.push_place-requires-clause-small
push_place-requires-clause-small c = c.requires.from

pub push_place-requires-clause-room : goal.push_place-requires-clause-room
push_place-requires-clause-room c = omega arith

pub push-requires-2 : goal.push-requires-2
push-requires-2 c = omega (arith, length-append {A = ℕ}, ap length c.push_place.ensures.text)

pub push_place-requires-2-clause-small : goal.push_place-requires-2-clause-small
push_place-requires-2-clause-small c = c.requires.to

pub push_place-requires-2-clause-room : goal.push_place-requires-2-clause-room
push_place-requires-2-clause-room c = omega (arith, length-append {A = ℕ}, ap length c.push_place.ensures.text)

pub returns-clause-short : goal.returns-clause-short
returns-clause-short c = omega (arith, length-append {A = ℕ}, ap length c.push_place.ensures.text, ap length c.push_place-2.ensures.text)

pub returns-clause-text : goal.returns-clause-text
returns-clause-text c =
    rw (c.push_place-2.ensures.text, c.push-2.ensures.items, c.push_place.ensures.text, c.push.ensures.items)
    (wire_pieces c.args.out.now.items (decimal c.args.from) (decimal c.args.to))
