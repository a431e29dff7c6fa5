-- The valley has the place and the squares that are found.
use Rattle.std.proofs.Common.{List, ap, arith, length, lit<, ℕ, ◌++◌, ◌∙◌}
use Rattle.bk_word.specs.Play.{outline_of}
use Rattle.bk_word.specs.Word.{Word}
use Rattle.bk_play.proofs.ValleyReads.{valley_read}
use Rattle.bk_play.proofs.skeleton.Skel.valley.Goals as goal

pub append-requires : goal.append-requires
append-requires c = (lit< tt, omega (arith, ap length c.new-squares.ensures, c.valley_at-place.ensures.few))

pub returns : goal.returns
returns c = valley_read (outline_of c.args.self.now) c.valley_at-place.result.0 c.len.result c.append.new.list.items c.valley_at-place.ensures.place
    (c.len.ensures.value ∙ ap length c.self.invariant.shows.signs_are ∙ ap (λ (w : Word). length (outline_of w).signs) c.self.view_is)
    (c.append.ensures ∙ ap (λ (l : List ℕ). l ++ c.valley_at-place.result.1.now) c.new-squares.ensures ∙ c.valley_at-place.ensures.squares)
