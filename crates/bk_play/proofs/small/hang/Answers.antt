use Rattle.std.proofs.Common.{List, ap, arith, length, ℕ, ◌++◌, ◌+◌, ◌∙◌, ◌≤◌}
use Rattle.std.proofs.lemmas.List.{length-append, length-take-le}
use Rattle.bk_laws.proofs.ListParts.{splice-from_cut}
use Rattle.bk_word.proofs.PlayLists.{numbers-length}
use Rattle.bk_play.proofs.small.hang.Goals as goal

pub append-requires-2 : goal.append-requires-2
append-requires-2 c =
    let long : length c.append.new.self.items + 16 ≤ 32 = omega (
      arith,
      ap length c.append.ensures,
      length-append c.truncate.new.self.items c.numbers.result.items,
      ap length c.truncate.ensures,
      length-take-le c.args.start c.args.ends.now.items (omega (arith, c.requires.order, c.requires.within)),
      ap length c.numbers.ensures,
      numbers-length c.args.first c.args.count,
      c.requires.order,
      c.requires.within,
      c.requires.fits,
    ) in
    (omega arith, (omega arith, long))

pub returns : goal.returns
returns c = splice-from_cut c.args.ends.now.items c.truncate.new.self.items _ c.append.new.self.items c.part-behind.result.items c.append-2.new.self.items
    c.args.start c.args.end c.len.result c.len.ensures.value c.part-behind.ensures c.truncate.ensures
    (c.append.ensures ∙ ap (λ (l : List ℕ). c.truncate.new.self.items ++ l) c.numbers.ensures) c.append-2.ensures
