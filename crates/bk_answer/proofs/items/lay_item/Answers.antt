-- What was gathered is laid as a code or as a table row.
use Rattle.std.proofs.Common.{List, ap, arith, subst, sym, ℕ, ◌∙◌, ◌≡◌, ◌≤◌}
use Rattle.std.proofs.lemmas.Result.{IfOk-from_err}
use Rattle.bk_text.specs.CodeLine.{Flat, Item, Line}
use Rattle.bk_text.specs.GatheredSides.{line_gathered}
use Rattle.bk_text.specs.ReadLine.{IsInRange}
use Rattle.bk_text.specs.declared.reader.Ending.{Ending}
use Rattle.bk_answer.specs.Item.{IsStatedBy, side_count}
use Rattle.bk_answer.proofs.ItemSteps.{handed_on}
use Rattle.bk_answer.proofs.items.lay_item.Goals as goal

pub lay_groups-requires : goal.lay_groups-requires
lay_groups-requires c =
    let is : line_gathered c.args.ending c.args.desk.now.gatherer ≡ Item c.in-Coded.header.order c.in-Coded.header.size c.code.result.now =
    ap (λ (e : Ending). line_gathered e c.args.desk.now.gatherer) c.in-Coded.is
    ∙ ap (λ (groups : List (List ℕ)). Item c.in-Coded.header.order c.in-Coded.header.size groups) (sym c.code.ensures) in
    subst IsInRange is c.requires

pub returns-in_err-lay_groups-in-Coded-clause-laid : goal.returns-in_err-lay_groups-in-Coded-clause-laid
returns-in_err-lay_groups-in-Coded-clause-laid c =
    IfOk-from_err c.from_residual.result _ c.from_residual.ensures.0

pub returns-in_err-lay_groups-in-Coded-clause-refused : goal.returns-in_err-lay_groups-in-Coded-clause-refused
returns-in_err-lay_groups-in-Coded-clause-refused c =
    let is : line_gathered c.args.ending c.args.desk.now.gatherer ≡ Item c.in-Coded.header.order c.in-Coded.header.size c.code.result.now =
    ap (λ (e : Ending). line_gathered e c.args.desk.now.gatherer) c.in-Coded.is
    ∙ ap (λ (groups : List (List ℕ)). Item c.in-Coded.header.order c.in-Coded.header.size groups) (sym c.code.ensures) in
    handed_on _ _ _ c.from_residual.result is c.from_residual.ensures.1 c.in_err-lay_groups-in-Coded.ensures.refused

pub returns-in_err-lay_groups-in-Coded-clause-few : goal.returns-in_err-lay_groups-in-Coded-clause-few
returns-in_err-lay_groups-in-Coded-clause-few c =
    let is : line_gathered c.args.ending c.args.desk.now.gatherer ≡ Item c.in-Coded.header.order c.in-Coded.header.size c.code.result.now =
    ap (λ (e : Ending). line_gathered e c.args.desk.now.gatherer) c.in-Coded.is
    ∙ ap (λ (groups : List (List ℕ)). Item c.in-Coded.header.order c.in-Coded.header.size groups) (sym c.code.ensures) in
    subst (λ (l : Line). side_count l ≤ 200) (sym is) c.lay_groups.ensures.few

pub lay_row-requires : goal.lay_row-requires
lay_row-requires c =
    let is : line_gathered c.args.ending c.args.desk.now.gatherer ≡ Flat c.in-Row.table.order c.in-Row.table.width c.in-Row.table.height c.sides.result.now =
    ap (λ (e : Ending). line_gathered e c.args.desk.now.gatherer) c.in-Row.is
    ∙ ap (λ (sides : List ℕ). Flat c.in-Row.table.order c.in-Row.table.width c.in-Row.table.height sides) (sym c.sides.ensures) in
    subst IsInRange is c.requires

pub returns-in_err-lay_row-in-Row-clause-laid : goal.returns-in_err-lay_row-in-Row-clause-laid
returns-in_err-lay_row-in-Row-clause-laid c =
    IfOk-from_err c.from_residual-in_err-lay_row-in-Row.result _ c.from_residual-in_err-lay_row-in-Row.ensures.0

pub returns-in_err-lay_row-in-Row-clause-refused : goal.returns-in_err-lay_row-in-Row-clause-refused
returns-in_err-lay_row-in-Row-clause-refused c =
    let is : line_gathered c.args.ending c.args.desk.now.gatherer ≡ Flat c.in-Row.table.order c.in-Row.table.width c.in-Row.table.height c.sides.result.now =
    ap (λ (e : Ending). line_gathered e c.args.desk.now.gatherer) c.in-Row.is
    ∙ ap (λ (sides : List ℕ). Flat c.in-Row.table.order c.in-Row.table.width c.in-Row.table.height sides) (sym c.sides.ensures) in
    handed_on _ _ _ c.from_residual-in_err-lay_row-in-Row.result is c.from_residual-in_err-lay_row-in-Row.ensures.1 c.in_err-lay_row-in-Row.ensures.refused

pub returns-in_err-lay_row-in-Row-clause-few : goal.returns-in_err-lay_row-in-Row-clause-few
returns-in_err-lay_row-in-Row-clause-few c =
    let is : line_gathered c.args.ending c.args.desk.now.gatherer ≡ Flat c.in-Row.table.order c.in-Row.table.width c.in-Row.table.height c.sides.result.now =
    ap (λ (e : Ending). line_gathered e c.args.desk.now.gatherer) c.in-Row.is
    ∙ ap (λ (sides : List ℕ). Flat c.in-Row.table.order c.in-Row.table.width c.in-Row.table.height sides) (sym c.sides.ensures) in
    let range = subst IsInRange is c.requires in
    subst (λ (l : Line). side_count l ≤ 200) (sym is) range.4

pub returns-in-Empty-clause-laid : goal.returns-in-Empty-clause-laid
returns-in-Empty-clause-laid c =
    ap (λ (e : Ending). line_gathered e c.args.desk.now.gatherer) c.in-Empty.is

pub returns-in-Empty-clause-few : goal.returns-in-Empty-clause-few
returns-in-Empty-clause-few c =
    subst (λ (e : Ending). side_count (line_gathered e c.args.desk.now.gatherer) ≤ 200) (sym c.in-Empty.is) (omega arith)

pub returns-in_ok-lay_groups-in-Coded-clause-laid : goal.returns-in_ok-lay_groups-in-Coded-clause-laid
returns-in_ok-lay_groups-in-Coded-clause-laid c =
    let is : line_gathered c.args.ending c.args.desk.now.gatherer ≡ Item c.in-Coded.header.order c.in-Coded.header.size c.code.result.now =
    ap (λ (e : Ending). line_gathered e c.args.desk.now.gatherer) c.in-Coded.is
    ∙ ap (λ (groups : List (List ℕ)). Item c.in-Coded.header.order c.in-Coded.header.size groups) (sym c.code.ensures) in
    subst (λ (l : Line). IsStatedBy l c.lay_groups.new.tiling) (sym is) c.in_ok-lay_groups-in-Coded.ensures.laid

pub returns-in_ok-lay_groups-in-Coded-clause-few : goal.returns-in_ok-lay_groups-in-Coded-clause-few
returns-in_ok-lay_groups-in-Coded-clause-few c =
    let is : line_gathered c.args.ending c.args.desk.now.gatherer ≡ Item c.in-Coded.header.order c.in-Coded.header.size c.code.result.now =
    ap (λ (e : Ending). line_gathered e c.args.desk.now.gatherer) c.in-Coded.is
    ∙ ap (λ (groups : List (List ℕ)). Item c.in-Coded.header.order c.in-Coded.header.size groups) (sym c.code.ensures) in
    subst (λ (l : Line). side_count l ≤ 200) (sym is) c.lay_groups.ensures.few

pub returns-in_ok-lay_row-in-Row-clause-laid : goal.returns-in_ok-lay_row-in-Row-clause-laid
returns-in_ok-lay_row-in-Row-clause-laid c =
    let is : line_gathered c.args.ending c.args.desk.now.gatherer ≡ Flat c.in-Row.table.order c.in-Row.table.width c.in-Row.table.height c.sides.result.now =
    ap (λ (e : Ending). line_gathered e c.args.desk.now.gatherer) c.in-Row.is
    ∙ ap (λ (sides : List ℕ). Flat c.in-Row.table.order c.in-Row.table.width c.in-Row.table.height sides) (sym c.sides.ensures) in
    subst (λ (l : Line). IsStatedBy l c.lay_row.new.tiling) (sym is) c.in_ok-lay_row-in-Row.ensures.laid

pub returns-in_ok-lay_row-in-Row-clause-few : goal.returns-in_ok-lay_row-in-Row-clause-few
returns-in_ok-lay_row-in-Row-clause-few c =
    let is : line_gathered c.args.ending c.args.desk.now.gatherer ≡ Flat c.in-Row.table.order c.in-Row.table.width c.in-Row.table.height c.sides.result.now =
    ap (λ (e : Ending). line_gathered e c.args.desk.now.gatherer) c.in-Row.is
    ∙ ap (λ (sides : List ℕ). Flat c.in-Row.table.order c.in-Row.table.width c.in-Row.table.height sides) (sym c.sides.ensures) in
    let range = subst IsInRange is c.requires in
    subst (λ (l : Line). side_count l ≤ 200) (sym is) range.4
