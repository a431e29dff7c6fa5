use Rattle.std.proofs.Common.{List, [], ap, arith, length, lit<, suc, sym, ℕ, ◌++◌, ◌+◌, ◌<◌, ◌∙◌, ◌∷◌, ◌≡◌}
use Rattle.bk_word.specs.Play.{numbers_from}
use Rattle.bk_word.proofs.PlayLists.{numbers-length}
use Rattle.bk_play.proofs.Rooms.{numbers-snoc}
use Rattle.bk_walk_cuts.proofs.levels.new_numbers.Goals as goal

pub push-requires : goal.push-requires
push-requires c =
    let many = ap length c.loop-i.invariant ∙ numbers-length (c.args.hung + 1) c.loop-i.i in
    let room : length c.loop-i.numbers.items < 5 = omega (arith, many, c.loop-i-test.true, c.from-i-end.ensures, c.requires) in
    (lit< tt, room)

pub loop-i-preserved : goal.loop-i-preserved
loop-i-preserved c =
    let one : suc c.loop-i.i ≡ c.loop-i.i + 1 = omega arith in
    c.push.ensures.items ∙ ap (λ (l : List ℕ). l ++ (c.args.hung + 1 + c.loop-i.i) ∷ []) c.loop-i.invariant
    ∙ sym (numbers-snoc (c.args.hung + 1) c.loop-i.i) ∙ ap (numbers_from (c.args.hung + 1)) one
