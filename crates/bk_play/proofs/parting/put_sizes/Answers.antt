use Rattle.std.proofs.lemmas.Grind.{common_steps}
use Rattle.std.proofs.Common.{List, ap, arith, count_by, length, sym, take, take_all, ◌++◌, ◌+◌, ◌∙◌, ◌≡◌}
use Rattle.std.proofs.lemmas.List.{drop_all}
use Rattle.bk_laws.proofs.Rooms.{room-last_put}
use Rattle.bk_word.specs.Play.{parts}
use Rattle.bk_word.specs.declared.Sign.{Sign}
use Rattle.bk_play.specs.Skeleton.{joined_sizes}
use Rattle.bk_play.proofs.parting.put_sizes.Goals as goal

pub returns : goal.returns
returns c =
    let i = c.loop-i.invariant in
    let all : take c.loop-i.i c.args.moved.now ≡ c.args.moved.now = take_all c.loop-i.i c.args.moved.now (omega arith) in
    let many : length c.loop-i.room ≡ c.loop-i.place + 1 = omega (arith, i.long, i.place, ap (count_by parts) all) in
    room-last_put c.loop-i.room c.loop-i.place c.loop-i.size many
    ∙ ap (λ (l : List Sign). take c.loop-i.place c.loop-i.room ++ joined_sizes c.loop-i.size c.args.last l)
    (sym (drop_all c.loop-i.i c.args.moved.now (omega arith)))
    ∙ sym i.put

pub bounds-room-place : goal.bounds-room-place
bounds-room-place c = grind (arith, common_steps)

pub overflow_add-place : goal.overflow_add-place
overflow_add-place c = grind (arith, common_steps)

pub loop-i-preserved : goal.loop-i-preserved
loop-i-preserved c = grind (arith, common_steps)

pub bounds-room-place-2 : goal.bounds-room-place-2
bounds-room-place-2 c = grind (arith, common_steps)
