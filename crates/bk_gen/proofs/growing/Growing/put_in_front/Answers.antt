use Rattle.std.proofs.Common.{List, [], ap, arith, length, lit<, map, subst, sym, ◌++◌, ◌+◌, ◌<◌, ◌^◌, ◌∙◌, ◌∷◌, ◌≡◌}
use Rattle.std.specs.List.{AllByRecursion}
use Rattle.arrayvec.proofs.ArrayVecLemmas.{items-with_items}
use Rattle.bk_tiling.specs.Scale.{moved_square}
use Rattle.bk_tiling.specs.Tiling.{Tiling}
use Rattle.bk_tiling.specs.declared.Square.{Square}
use Rattle.bk_gen.specs.Growing.{IsGrowing, moved_all, with_corner}
use Rattle.bk_gen.proofs.GrowingLaws.{fit_moved}
use Rattle.bk_gen.proofs.MovedFront.{as_many_moved}
use Rattle.bk_gen.proofs.growing.Growing.put_in_front.Goals as goal

pub as_mut_slice-requires : goal.as_mut_slice-requires
as_mut_slice-requires c = lit< tt

pub move_all-requires : goal.move_all-requires
move_all-requires c =
    let t : Tiling = record { width = c.self.inside.width; height = c.self.inside.height; squares = c.self.inside.squares.items } in
    subst (λ (l : List Square). AllByRecursion (λ q. (q.x + c.args.right < 2 ^ 64) × (q.y + c.args.down < 2 ^ 64)) l) (sym c.as_mut_slice.ensures.value)
    (fit_moved c.args.right c.args.down t c.self.invariant c.requires.right c.requires.down)

pub push-requires : goal.push-requires
push-requires c =
    let many = as_many_moved c.args.right c.args.down c.self.inside.squares.items c.as_mut_slice.result.now c.move_all.new.squares
    c.as_mut_slice.ensures.value c.move_all.ensures in (
      lit< tt,
      subst (λ (l : List Square). length l < 200) (sym (items-with_items c.self.inside.squares c.move_all.new.squares many))
          (omega (arith, many, c.requires.few, ap (λ (t : Tiling). length t.squares) c.self.view_is)),
    )

-- the squares behind the call
squares : (c : goal.After-self-3-1) → c.push.new.self.items ≡ map (moved_square c.args.right c.args.down) c.self.inside.squares.items
    ++ record { x = 0; y = 0; s = c.args.s } ∷ []
squares c = c.push.ensures.items
    ∙ ap (λ (l : List Square). l ++ record { x = 0; y = 0; s = c.args.s } ∷ [])
    (items-with_items c.self.inside.squares c.move_all.new.squares
    (as_many_moved c.args.right c.args.down c.self.inside.squares.items c.as_mut_slice.result.now c.move_all.new.squares
    c.as_mut_slice.ensures.value c.move_all.ensures)
    ∙ c.move_all.ensures
    ∙ ap (map (moved_square c.args.right c.args.down)) c.as_mut_slice.ensures.value)

pub invariant_of-self : goal.invariant_of-self
invariant_of-self c =
    rw (squares c) (subst (λ (t : Tiling). IsGrowing (with_corner c.args.s c.args.width c.args.height (moved_all c.args.right c.args.down t)))
    (sym c.self.view_is) c.requires.grows)

pub returns : goal.returns
returns c = rw (squares c) (ap (λ (t : Tiling). with_corner c.args.s c.args.width c.args.height (moved_all c.args.right c.args.down t)) c.self.view_is)
