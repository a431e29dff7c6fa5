use Rattle.std.proofs.Common.{List, [], ap, arith, length, length-take-le, subst, sym, take, ℕ, ◌++◌, ◌<◌, ◌∙◌, ◌∷◌, ◌≡◌, ◌≤◌}
use Rattle.std.proofs.lemmas.List.{length-set, take_more_set}
use Rattle.bk_short.specs.Short.{Short}
use Rattle.bk_short.proofs.Short.push.Goals as goal

-- there is room for one more behind the items
room : {X : Type 0} (cells items : List X) (len most : ℕ) → take len cells ≡ items → (len ≤ most) × (length cells ≡ most) → length items < most
    → len < most
room cells items len most e within few = omega (arith, few, ap length e, length-take-le len cells (omega (arith, within.0, within.1)))

pub listed : goal.listed
listed g c = subst (λ n. c.self.inside.len < n) (sym c.self.invariant.1) (room c.self.inside.cells c.args.self.now.items c.self.inside.len g.row.N
    (ap (λ (s : Short g.row.T.Denot). s.items) c.self.view_is) c.self.invariant c.requires)

pub bounds-self-inside-self-inside : goal.bounds-self-inside-self-inside
bounds-self-inside-self-inside g c = room c.self.inside.cells c.args.self.now.items c.self.inside.len g.row.N
    (ap (λ (s : Short g.row.T.Denot). s.items) c.self.view_is) c.self.invariant c.requires

pub invariant_of-self : goal.invariant_of-self
invariant_of-self g c = (
  omega (
    arith,
    room c.self.inside.cells c.args.self.now.items c.self.inside.len g.row.N (ap (λ (s : Short g.row.T.Denot). s.items) c.self.view_is)
        c.self.invariant c.requires,
  ),
  length-set c.self.inside.cells c.self.inside.len c.args.item ∙ c.self.invariant.1,
)

pub returns : goal.returns
returns g c = take_more_set c.self.inside.cells c.self.inside.len c.args.item
    (subst (λ n. c.self.inside.len < n) (sym c.self.invariant.1) (room c.self.inside.cells c.args.self.now.items c.self.inside.len g.row.N
    (ap (λ (s : Short g.row.T.Denot). s.items) c.self.view_is) c.self.invariant c.requires))
    ∙ ap (λ (s : Short g.row.T.Denot). s.items ++ c.args.item ∷ []) c.self.view_is
