use Rattle.std.specs.Prelude.{None, Some}
use Rattle.std.proofs.Common.{refl, sym, ◌∙◌, ◌≡◌}
use Rattle.std.proofs.lemmas.Bool.{false≢true}
use Rattle.bk_text.specs.LineReader.{close_group}
use Rattle.bk_text.specs.declared.reader.Bracket.{Bracket}
use Rattle.bk_text.specs.declared.reader.Bracket.TheVariants.{Round, Square}
use Rattle.bk_text.specs.declared.reader.Header.{Header}
use Rattle.bk_text.specs.declared.reader.Place.TheVariants.{BehindGroup}
use Rattle.bk_text.proofs.reader.close_group.Goals as goal

-- a bracket closes a group that one of its kind opened
closed : (header : Header) (left right : Bracket) → left ≡ right → Some (BehindGroup header) ≡ close_group header left right
closed header Square Square e = refl
closed header Round Round e = refl
closed header Square Round e = absurd (cc)
closed header Round Square e = absurd (cc)

-- no other bracket closes it
not_closed : (header : Header) (left right : Bracket) → (left ≡ right → ⊥) → None ≡ close_group header left right
not_closed header Square Square other = absurd (other refl)
not_closed header Round Round other = absurd (other refl)
not_closed header Square Round other = refl
not_closed header Round Square other = refl

pub returns-then-is_like : goal.returns-then-is_like
returns-then-is_like c = closed c.args.header c.args.left c.args.right (c.is_like.ensures.0 c.if-is_like.true)

pub returns-else-is_like : goal.returns-else-is_like
returns-else-is_like c =
    not_closed c.args.header c.args.left c.args.right (λ e. false≢true (sym c.if-is_like.false ∙ c.is_like.ensures.1 e))
