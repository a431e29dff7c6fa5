-- The kind is read, and where it has no meaning nothing is asked.
use Rattle.std.proofs.Common.{false, map, refl, string_bytes, true, ◌≡◌}
use Rattle.bk_laws.proofs.Outcomes.{if_none-intro, if_some-of_none}
use Rattle.bk_ask.proofs.Unasked.{nothing_paired}
use Rattle.bk_ask.proofs.command_options.pair.Goals as goal

pub returns-in_err-kind-clause-none : goal.returns-in_err-kind-clause-none
returns-in_err-kind-clause-none c =
    if_none-intro c.from_residual.result _
    (nothing_paired (map string_bytes c.args.options.now) (λ kind p. c.in_err-kind.ensures.none kind p.has_kind))

pub returns-then-not-are_options-clause-none : goal.returns-then-not-are_options-clause-none
returns-then-not-are_options-clause-none c =
    nothing_paired (map string_bytes c.args.options.now) (λ kind asks. let known : false ≡ true = c.if-not-are_options.ensures.1 asks.options in cc)

pub kind_given-requires : goal.kind_given-requires
kind_given-requires c = (c.if-not-are_options.ensures.0 refl).once

pub returns-in_err-kind-clause-some : goal.returns-in_err-kind-clause-some
returns-in_err-kind-clause-some c = if_some-of_none c.from_residual.result _ c.from_residual.ensures

pub returns-clause-some : goal.returns-clause-some
returns-clause-some c = record {
  options = map string_bytes c.args.options.now;
  line = refl;
  say = record {
    options = c.if-not-are_options.ensures.0 refl;
    has_kind = c.in_ok-kind.ensures.some;
  };
}
