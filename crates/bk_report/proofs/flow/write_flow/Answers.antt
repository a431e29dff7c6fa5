use Rattle.std.specs.Fmt.{signed_decimal}
use Rattle.std.specs.Int.{w128}
use Rattle.std.specs.Prelude.{FitsSigned, [], flat_map, ◌++◌, ◌∷◌, ◌≡◌}
use Rattle.std.proofs.Common.{of_z, rules, to_z, ◌∙◌}
use Rattle.std.proofs.lemmas.Int.{to_z-of_z}
use Rattle.bk_report.proofs.Spaces.{flow_pieces}
use Rattle.bk_report.proofs.flow.write_flow.Goals as goal

pub returns : goal.returns
returns c =
    let fits : FitsSigned w128 c.total.result = search rules in
    let total : to_z w128 (of_z w128 c.total.result) ≡ c.args.flow.now.total = to_z-of_z w128 c.total.result fits ∙ c.total.ensures.value in
    let currents = c.currents.ensures.value in
    rw (c.push.ensures.items, c.push_currents.ensures.text, c.push_whole.ensures.text, c.clear.ensures)
    ((λ i. (signed_decimal (total i) ++ flat_map (λ k. 32 ∷ signed_decimal k) (currents i)) ++ 10 ∷ [])
    ∙ flow_pieces signed_decimal (signed_decimal c.args.flow.now.total) c.args.flow.now.currents)
