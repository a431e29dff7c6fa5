use Rattle.std.proofs.Common.{List, [], ap, append_assoc, arith, length, length-append, lit<, ℕ, ◌++◌, ◌+◌, ◌-◌, ◌∙◌, ◌∷◌}
use Rattle.bk_word.specs.Play.{numbers_from}
use Rattle.bk_free_search.proofs.sides.push_lefts.Goals as goal

pub push-requires : goal.push-requires
push-requires c = (lit< tt, omega (arith, c.requires.some, c.requires.fits))

pub push_between-requires-clause-fits : goal.push_between-requires-clause-fits
push_between-requires-clause-fits c =
    omega (arith, c.requires.fits, ap (λ (l : List ℕ). length l) c.push.ensures, length-append c.args.lefts.now.items (c.args.first ∷ []))

pub returns : goal.returns
returns c = c.push_between.ensures ∙ ap (λ l. l ++ numbers_from (c.args.hung + 2) (c.args.count - 1)) c.push.ensures
    ∙ append_assoc c.args.lefts.now.items (c.args.first ∷ []) (numbers_from (c.args.hung + 2) (c.args.count - 1))
