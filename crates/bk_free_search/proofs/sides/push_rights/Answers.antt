use Rattle.std.proofs.Common.{List, [], ap, arith, length, length-append, lit<, ℕ, ◌++◌, ◌+◌, ◌-◌, ◌∙◌, ◌∷◌}
use Rattle.bk_word.proofs.PlayLists.{numbers-length}
use Rattle.bk_word.specs.Play.{numbers_from}
use Rattle.bk_free_search.proofs.sides.push_rights.Goals as goal

pub push-requires : goal.push-requires
push-requires c = (
  lit< tt,
  omega (
    arith,
    c.requires.some,
    c.requires.fits,
    ap (λ (l : List ℕ). length l) c.push_between.ensures,
    length-append c.args.rights.now.items (numbers_from (c.args.hung + 2) (c.args.count - 1)),
    numbers-length (c.args.hung + 2) (c.args.count - 1),
  ),
)

pub returns : goal.returns
returns c = c.push.ensures ∙ ap (λ l. l ++ c.args.last ∷ []) c.push_between.ensures
