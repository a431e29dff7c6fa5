use Rattle.std.proofs.Common.{ap, length, nat_eq, ◌∙◌, ◌≡◌}
use Rattle.bk_word.specs.Outline.{valley_place}
use Rattle.bk_word.specs.Play.{outline_of}
use Rattle.bk_word.specs.Word.{Word}
use Rattle.bk_word.specs.declared.Sign.{Sign}
use Rattle.bk_play.proofs.ValleyKept.{place_kept}
use Rattle.bk_play.proofs.small.SmallSkel.walls.Goals as goal

pub returns-clause-left : goal.returns-clause-left
returns-clause-left c = ap (λ n. nat_eq n 0) (c.from-place.ensures ∙ place_kept c.self.invariant c.self.view_is)

pub returns-clause-right : goal.returns-clause-right
returns-clause-right c =
    let place : c.from-place.result ≡ valley_place (outline_of c.args.self.now).signs = c.from-place.ensures ∙ place_kept c.self.invariant c.self.view_is in
    let many : c.len.result ≡ length (outline_of c.args.self.now).signs = c.len.ensures.value
    ∙ ap (length {A = Sign}) ((c.self.invariant.stored).shows).signs_are ∙ ap (λ (w : Word). length (outline_of w).signs) c.self.view_is in
    λ i. nat_eq (place i) (many i)
