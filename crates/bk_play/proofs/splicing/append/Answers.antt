use Rattle.std.proofs.Common.{ap, not, sym, true, ◌∙◌, ◌≡◌}
use Rattle.std.proofs.lemmas.Bool.{true≢false}
use Rattle.std.specs.Prelude.{Err, Ok, OnOk, Result}
use Rattle.std.specs.Result.{is_ok}
use Rattle.bk_play.proofs.splicing.append.Goals as goal

-- what holds where there is no error, holds
holds : {T E P : Type 0} (r : Result T E) → is_ok r ≡ true → OnOk r P → P
holds (Ok x) e h = h
holds (Err x) e h = absurd (true≢false (sym e))

pub unreachable-requires : goal.unreachable-requires
unreachable-requires g c =
    true≢false (sym (c.try_extend_from_slice.ensures.variant.1 c.requires) ∙ c.is_err.ensures.negation ∙ ap not c.if-is_err.true)

pub returns : goal.returns
returns g c =
    holds c.try_extend_from_slice.result (c.try_extend_from_slice.ensures.variant.1 c.requires) c.try_extend_from_slice.ensures.ok
