use Rattle.std.proofs.Common.{List, ap, length, sym, ℕ, ◌∙◌}
use Rattle.bk_code.proofs.Storing.{groups_length}
use Rattle.bk_code.proofs.Code.groups.Goals as goal

pub returns-clause-value : goal.returns-clause-value
returns-clause-value c = c.len.ensures.value ∙ sym (groups_length c.self.inside.starts.items c.self.inside.sides.items)
    ∙ ap (λ (code : List (List ℕ)). length code) c.self.view_is
