use Rattle.std.proofs.lemmas.List.{length-append}
use Rattle.std.proofs.Common.{ap, arith, length, ℕ}
use Rattle.bk_tiling.specs.declared.Square.{Square}
use Rattle.std.specs.Prelude.{decimal}
use Rattle.bk_net.specs.Diagram.{smith_diagram}
use Rattle.bk_report.specs.Answers.{wire_text}
use Rattle.bk_report.proofs.Spaces.{net_pieces}
use Rattle.bk_report.proofs.net.write_net.Goals as goal

pub returns : goal.returns
returns c =
    rw (c.push.ensures.items, c.push_sides.ensures.text, c.push_bytes.ensures, c.push_net.ensures.text, c.clear.ensures, c.net_of-net.ensures.diagram)
    (net_pieces wire_text (λ (q : Square). decimal q.s) (decimal (smith_diagram c.args.tiling.now).nodes) (decimal c.args.tiling.now.width)
    (smith_diagram c.args.tiling.now).wires c.args.tiling.now.squares)

pub clear-requires : goal.clear-requires
clear-requires c = omega arith

pub push_net-requires : goal.push_net-requires
push_net-requires c = omega (arith, ap length c.clear.ensures)

pub push_bytes-requires : goal.push_bytes-requires
push_bytes-requires c = omega (arith, ap length c.clear.ensures)

pub push_sides-requires : goal.push_sides-requires
push_sides-requires c = omega (arith, length-append {A = ℕ}, ap length c.clear.ensures, ap length c.push_bytes.ensures)

pub push-requires : goal.push-requires
push-requires c = omega (arith, length-append {A = ℕ}, ap length c.clear.ensures, ap length c.push_bytes.ensures)
