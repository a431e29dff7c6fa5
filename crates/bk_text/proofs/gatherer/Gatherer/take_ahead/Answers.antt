-- Each arm of `take_ahead` leads where its callee says: a number, the sides of a group, or a comment to its end.
use Rattle.std.specs.Prelude.{Some, length, refl, take}
use Rattle.std.proofs.Common.{ap, inl, inr, le_refl, subst, sym, zero-le, ◌∙◌}
use Rattle.bk_text.specs.GatheredSides.{IsGathered}
use Rattle.bk_text.specs.Onward.{BeginsFieldNumber, OpensGroup, behind_sides, onward}
use Rattle.bk_text.specs.declared.reader.Field.TheVariants.{First, Height, Second}
use Rattle.bk_text.proofs.CommentBytes.{comment_to_end}
use Rattle.bk_text.proofs.Fronts.{group_follows, group_goes_on}
use Rattle.bk_text.proofs.NumberBytes.{height_begins, order_begins, width_begins}
use Rattle.bk_text.proofs.gatherer.Gatherer.take_ahead.Goals as goal

pub returns-in-Comment-clause-leads : goal.returns-in-Comment-clause-leads
returns-in-Comment-clause-leads c = rw c.in-Comment.is (comment_to_end c.args.bytes.now c.in-Comment.field-0 c.args.self.now)

pub same-self : goal.same-self
same-self c = refl

pub same-self-in-BeforeGroup-1 : goal.same-self-in-BeforeGroup-1
same-self-in-BeforeGroup-1 c = refl

pub same-self-in-BehindGroup-1 : goal.same-self-in-BehindGroup-1
same-self-in-BehindGroup-1 c = refl

pub same-self-in-Start-1 : goal.same-self-in-Start-1
same-self-in-Start-1 c = refl

pub same-self-in-BehindFirst-1 : goal.same-self-in-BehindFirst-1
same-self-in-BehindFirst-1 c = refl

pub same-self-in-BeforeHeight-1 : goal.same-self-in-BeforeHeight-1
same-self-in-BeforeHeight-1 c = refl

pub same-self-in-Comment-1 : goal.same-self-in-Comment-1
same-self-in-Comment-1 c = refl

pub same-self-in-Number-1 : goal.same-self-in-Number-1
same-self-in-Number-1 c = refl

pub take_number-requires-clause-first : goal.take_number-requires-clause-first
take_number-requires-clause-first c = subst (λ p. BeginsFieldNumber p First) (sym c.in-Start.is) order_begins

pub take_number-requires-clause-header : goal.take_number-requires-clause-header
take_number-requires-clause-header c = refl

pub take_number-requires-in-BehindFirst-clause-first : goal.take_number-requires-in-BehindFirst-clause-first
take_number-requires-in-BehindFirst-clause-first c =
    subst (λ p. BeginsFieldNumber p (Second c.in-BehindFirst.order)) (sym c.in-BehindFirst.is) (width_begins c.in-BehindFirst.order)

pub take_number-requires-in-BehindFirst-clause-header : goal.take_number-requires-in-BehindFirst-clause-header
take_number-requires-in-BehindFirst-clause-header c = refl

pub take_number-requires-in-BeforeHeight-clause-first : goal.take_number-requires-in-BeforeHeight-clause-first
take_number-requires-in-BeforeHeight-clause-first c =
    subst (λ p. BeginsFieldNumber p (Height c.in-BeforeHeight.order c.in-BeforeHeight.width)) (sym c.in-BeforeHeight.is)
    (height_begins c.in-BeforeHeight.order c.in-BeforeHeight.width)

pub take_number-requires-in-BeforeHeight-clause-header : goal.take_number-requires-in-BeforeHeight-clause-header
take_number-requires-in-BeforeHeight-clause-header c = refl

pub take_next_group-requires : goal.take_next_group-requires
take_next_group-requires c =
    elim c.in-BeforeGroup.is [
      | inl e ↦ subst (λ p. OpensGroup p c.in-BeforeGroup.header) (sym e) (group_follows c.in-BeforeGroup.header)
      | inr e ↦ subst (λ p. OpensGroup p c.in-BeforeGroup.header) (sym e) (group_goes_on c.in-BeforeGroup.header)
    ]

pub returns-then-closed-clause-within : goal.returns-then-closed-clause-within
returns-then-closed-clause-within c = c.take_group-taken.ensures.within

pub returns-then-closed-clause-leads : goal.returns-then-closed-clause-leads
returns-then-closed-clause-leads c =
    ap (λ p. onward (take c.take_group-taken.result.0 c.args.bytes.now) p c.args.self.now) c.in-BeforeSide.is
    ∙ c.take_group-taken.ensures.leads c.in-BeforeSide.header
    ∙ ap (λ closed. Some (behind_sides c.in-BeforeSide.header c.in-BeforeSide.bracket closed, c.take_group-taken.new.self)) c.if-closed.true

pub returns-then-closed-clause-was : goal.returns-then-closed-clause-was
returns-then-closed-clause-was c = subst IsGathered c.self.view_is c.self.invariant

pub returns-else-closed-clause-within : goal.returns-else-closed-clause-within
returns-else-closed-clause-within c = c.take_group-taken.ensures.within

pub returns-else-closed-clause-leads : goal.returns-else-closed-clause-leads
returns-else-closed-clause-leads c =
    ap (λ p. onward (take c.take_group-taken.result.0 c.args.bytes.now) p c.args.self.now) c.in-BeforeSide.is
    ∙ c.take_group-taken.ensures.leads c.in-BeforeSide.header
    ∙ ap (λ closed. Some (behind_sides c.in-BeforeSide.header c.in-BeforeSide.bracket closed, c.take_group-taken.new.self)) c.if-closed.false
    ∙ ap (λ p. Some (p, c.take_group-taken.new.self)) (sym c.in-BeforeSide.is)

pub returns-in-Start-clause-within : goal.returns-in-Start-clause-within
returns-in-Start-clause-within c = c.take_number.ensures.within

pub returns-in-Start-clause-leads : goal.returns-in-Start-clause-leads
returns-in-Start-clause-leads c = c.take_number.ensures.leads c.args.self.now

pub returns-in-BehindFirst-clause-within : goal.returns-in-BehindFirst-clause-within
returns-in-BehindFirst-clause-within c = c.take_number-in-BehindFirst.ensures.within

pub returns-in-BehindFirst-clause-leads : goal.returns-in-BehindFirst-clause-leads
returns-in-BehindFirst-clause-leads c = c.take_number-in-BehindFirst.ensures.leads c.args.self.now

pub returns-in-BeforeHeight-clause-within : goal.returns-in-BeforeHeight-clause-within
returns-in-BeforeHeight-clause-within c = c.take_number-in-BeforeHeight.ensures.within

pub returns-in-BeforeHeight-clause-leads : goal.returns-in-BeforeHeight-clause-leads
returns-in-BeforeHeight-clause-leads c = c.take_number-in-BeforeHeight.ensures.leads c.args.self.now

pub returns-in-Comment-clause-within : goal.returns-in-Comment-clause-within
returns-in-Comment-clause-within c = le_refl (length c.args.bytes.now)

pub returns-in_default-clause-within : goal.returns-in_default-clause-within
returns-in_default-clause-within c = zero-le

pub returns-in_default-clause-leads : goal.returns-in_default-clause-leads
returns-in_default-clause-leads c = refl

pub returns-in-BeforeGroup-clause-within : goal.returns-in-BeforeGroup-clause-within
returns-in-BeforeGroup-clause-within c = c.take_next_group.ensures.within

pub returns-in-BeforeGroup-clause-leads : goal.returns-in-BeforeGroup-clause-leads
returns-in-BeforeGroup-clause-leads c = c.take_next_group.ensures.leads

pub returns-else-closed-clause-was : goal.returns-else-closed-clause-was
returns-else-closed-clause-was c = subst IsGathered c.self.view_is c.self.invariant

pub returns-in-Start-clause-was : goal.returns-in-Start-clause-was
returns-in-Start-clause-was c = subst IsGathered c.self.view_is c.self.invariant

pub returns-in-BehindFirst-clause-was : goal.returns-in-BehindFirst-clause-was
returns-in-BehindFirst-clause-was c = subst IsGathered c.self.view_is c.self.invariant

pub returns-in-BeforeHeight-clause-was : goal.returns-in-BeforeHeight-clause-was
returns-in-BeforeHeight-clause-was c = subst IsGathered c.self.view_is c.self.invariant

pub returns-in-Comment-clause-was : goal.returns-in-Comment-clause-was
returns-in-Comment-clause-was c = subst IsGathered c.self.view_is c.self.invariant

pub returns-in_default-clause-was : goal.returns-in_default-clause-was
returns-in_default-clause-was c = subst IsGathered c.self.view_is c.self.invariant

pub returns-in-BeforeGroup-clause-was : goal.returns-in-BeforeGroup-clause-was
returns-in-BeforeGroup-clause-was c = subst IsGathered c.self.view_is c.self.invariant
