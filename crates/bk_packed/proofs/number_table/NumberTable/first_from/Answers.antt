use Rattle.std.proofs.Common.{List, refl, slice_index_or, subst, sym, ℕ, ◌∙◌, ap}
use Rattle.bk_packed.specs.KeptNumbers.{AreAscendingNumbers, IsFirstFrom, Numbers}
use Rattle.bk_packed.proofs.FirstNumbers.{number_at_the_bound_is_the_first}
use Rattle.bk_packed.proofs.number_table.NumberTable.first_from.Goals as goal

pub returns-then-place-numbers-clause-first : goal.returns-then-place-numbers-clause-first
returns-then-place-numbers-clause-first g c =
    let read = c.as_slice-numbers.result.now in
    let same = c.as_slice-numbers.ensures.value ∙ ap (λ (t : Numbers). t.kept) c.self.view_is in
    subst (λ (l : List ℕ). IsFirstFrom l c.args.bound (slice_index_or read c.place_of-place.result 0)) same
    (number_at_the_bound_is_the_first read c.args.bound c.place_of-place.result (slice_index_or read c.place_of-place.result 0)
    (subst AreAscendingNumbers (sym same) c.requires) c.place_of-place.ensures c.if-place-numbers.true refl)
