use Rattle.std.specs.Prelude.{MatchOption}
use Rattle.std.proofs.Common.{List, arith, refl, subst, sym, true≢false, ◌∙◌, ◌≡◌, ◌≤◌}
use Rattle.bk_laws.proofs.Outcomes.{match_option-none, match_option-some}
use Rattle.bk_word.specs.declared.Class.TheVariants.{Perfect}
use Rattle.bk_verify_report.proofs.CountedMembers.{few_members}
use Rattle.bk_verify_report.specs.KeptEntries.{IsKeptFrom, IsNotKept, IsUpTo, Kept}
use Rattle.bk_verify_report.proofs.Passing.{IsPassing, passing_all, passing_counted, passing_end, passing_few, passing_missing}
use Rattle.bk_verify_report.proofs.Passing.{passing_more, passing_none, passing_stays}
use Rattle.bk_verify_report.specs.Rest.{RestState}
use Rattle.bk_verify_report.proofs.rest.Rest.advance_in.Goals as goal

pub members-init : goal.members-init
members-init g c =
    let start = g.M.Members.at c.self.inside.walk in
    subst (λ (s : RestState). IsPassing s.walk s.pairs start c.self.inside.members × (c.self.inside.entries.pairs ≡ s.pairs))
    c.self.view_is
    (passing_none start c.self.inside.entries.pairs c.self.inside.members c.self.invariant.class c.self.invariant.reached, refl)

pub overflow_add-self : goal.overflow_add-self
overflow_add-self g c =
    let here = g.M.Members.at c.members.self-inside.walk in
    omega (
      arith,
      few_members c.args.self.now.walk.order (IsUpTo here.cursor) c.members.self-inside.members
          (subst (λ (s : RestState). s.walk.order ≤ 16) c.self.view_is c.self.invariant.most)
          c.members.invariant.0.counted,
    )

pub returns-then-is_none-clause-entry : goal.returns-then-is_none-clause-entry
returns-then-is_none-clause-entry g c _ =
    let here = g.M.Members.at c.members.self-inside.walk in
    let looked = subst (λ (pairs : List Kept). MatchOption c.line_of.result (IsNotKept pairs c.advance_in.new.entry.tiling)
    (IsKeptFrom pairs c.advance_in.new.entry.tiling)) c.members.invariant.1 c.line_of.ensures in
    passing_missing c.args.self.now.walk c.args.self.now.pairs here c.members.self-inside.members c.members.invariant.0 c.advance_in.new.entry.tiling
    c.advance_in.new.entry.word (c.advance_in.ensures.entry c.members-test.true)
    (match_option-none (IsNotKept c.args.self.now.pairs c.advance_in.new.entry.tiling)
    (IsKeptFrom c.args.self.now.pairs c.advance_in.new.entry.tiling) c.line_of.result c.if-is_none.ensures looked)

pub returns-then-is_none-clause-code : goal.returns-then-is_none-clause-code
returns-then-is_none-clause-code g c _ = c.advance_in.ensures.code c.members-test.true

pub returns-then-is_none-clause-none : goal.returns-then-is_none-clause-none
returns-then-is_none-clause-none g c e = absurd (true≢false e)

pub returns-then-is_none-clause-end : goal.returns-then-is_none-clause-end
returns-then-is_none-clause-end g c e = absurd (true≢false e)

pub members-preserved : goal.members-preserved
members-preserved g c =
    let here = g.M.Members.at c.members.self-inside.walk in
    let then = g.M.Members.at c.advance_in.new.self in
    let looked = subst (λ (pairs : List Kept). MatchOption c.line_of.result (IsNotKept pairs c.advance_in.new.entry.tiling)
    (IsKeptFrom pairs c.advance_in.new.entry.tiling)) c.members.invariant.1 c.line_of.ensures in
    let found = match_option-some (IsNotKept c.args.self.now.pairs c.advance_in.new.entry.tiling)
    (IsKeptFrom c.args.self.now.pairs c.advance_in.new.entry.tiling)
    c.line_of.result c.if-is_none.ensures looked in (
      passing_more c.args.self.now.walk c.args.self.now.pairs here c.members.self-inside.members c.members.invariant.0 c.advance_in.new.entry.tiling
          c.advance_in.new.entry.word (c.advance_in.ensures.entry c.members-test.true)
          then c.advance_in.ensures.order c.advance_in.ensures.class
          (c.advance_in.ensures.cursor c.members-test.true)
          (λ e. true≢false (sym c.members-test.true ∙ c.advance_in.ensures.later e)) found.0 found.1,
      c.members.invariant.1,
    )

pub returns-clause-ended : goal.returns-clause-ended
returns-clause-ended g c = (λ _. refl, λ _. c.advance_in.ensures.ended.1 c.members-test.false)

pub returns-clause-later : goal.returns-clause-later
returns-clause-later g c _ = refl

pub returns-then-is_none-clause-cursor : goal.returns-then-is_none-clause-cursor
returns-then-is_none-clause-cursor g c _ = c.advance_in.ensures.cursor c.members-test.true

pub returns-then-is_none-clause-ended : goal.returns-then-is_none-clause-ended
returns-then-is_none-clause-ended g c =
    (λ e. absurd (true≢false (sym c.members-test.true ∙ c.advance_in.ensures.ended.0 e)), λ e. absurd (true≢false e))

pub returns-clause-order : goal.returns-clause-order
returns-clause-order g c = c.advance_in.ensures.order ∙ c.members.invariant.0.order

pub returns-clause-class : goal.returns-clause-class
returns-clause-class g c = c.advance_in.ensures.class ∙ c.members.invariant.0.class
    ∙ sym (subst (λ (s : RestState). s.walk.class ≡ Perfect) c.self.view_is c.self.invariant.class)

pub returns-then-is_none-clause-order : goal.returns-then-is_none-clause-order
returns-then-is_none-clause-order g c = c.advance_in.ensures.order ∙ c.members.invariant.0.order

pub returns-then-is_none-clause-class : goal.returns-then-is_none-clause-class
returns-then-is_none-clause-class g c = c.advance_in.ensures.class ∙ c.members.invariant.0.class
    ∙ sym (subst (λ (s : RestState). s.walk.class ≡ Perfect) c.self.view_is c.self.invariant.class)

pub returns-then-is_none-clause-later : goal.returns-then-is_none-clause-later
returns-then-is_none-clause-later g c e = sym c.members-test.true ∙ c.advance_in.ensures.later (c.members.invariant.0.still e)

pub returns-clause-none : goal.returns-clause-none
returns-clause-none g c _ =
    let here = g.M.Members.at c.members.self-inside.walk in
    passing_all c.args.self.now.walk c.args.self.now.pairs here c.members.self-inside.members c.members.invariant.0
    (c.advance_in.ensures.none c.members-test.false)

pub line_of-requires : goal.line_of-requires
line_of-requires g c =
    let here = g.M.Members.at c.members.self-inside.walk in
    passing_few c.args.self.now.walk c.args.self.now.pairs here c.members.self-inside.members c.members.invariant.0 c.advance_in.new.entry.tiling
    c.advance_in.new.entry.word (c.advance_in.ensures.entry c.members-test.true)
    (subst (λ (s : RestState). s.walk.order ≤ 16) c.self.view_is c.self.invariant.most)

pub members-smaller : goal.members-smaller
members-smaller g c =
    let here = g.M.Members.at c.members.self-inside.walk in
    omega (
      arith,
      few_members c.args.self.now.walk.order (IsUpTo here.cursor) c.members.self-inside.members
          (subst (λ (s : RestState). s.walk.order ≤ 16) c.self.view_is c.self.invariant.most)
          c.members.invariant.0.counted,
    )

pub returns-clause-entry : goal.returns-clause-entry
returns-clause-entry g c e = absurd (true≢false (sym e))

pub returns-clause-code : goal.returns-clause-code
returns-clause-code g c e = absurd (true≢false (sym e))

pub returns-clause-end : goal.returns-clause-end
returns-clause-end g c _ =
    let here = g.M.Members.at c.members.self-inside.walk in
    let then = g.M.Members.at c.advance_in.new.self in
    passing_end c.args.self.now.walk c.args.self.now.pairs here c.members.self-inside.members c.members.invariant.0
    (c.advance_in.ensures.none c.members-test.false) then.cursor (c.advance_in.ensures.stays c.members-test.false)

pub returns-clause-cursor : goal.returns-clause-cursor
returns-clause-cursor g c e = absurd (true≢false (sym e))

pub invariant_of-self : goal.invariant_of-self
invariant_of-self g c =
    let here = g.M.Members.at c.members.self-inside.walk in
    let then = g.M.Members.at c.advance_in.new.self in
    record {
      most =
          omega (
            arith,
            c.advance_in.ensures.order,
            c.members.invariant.0.order,
            (subst (λ (s : RestState). s.walk.order ≤ 16) c.self.view_is c.self.invariant.most),
          );
      class = c.advance_in.ensures.class ∙ c.members.invariant.0.class;
      reached =
          passing_stays c.args.self.now.walk c.args.self.now.pairs here c.members.self-inside.members c.members.invariant.0 then
          c.advance_in.ensures.order (c.advance_in.ensures.stays c.members-test.false);
    }

pub invariant_of-self-then-is_none : goal.invariant_of-self-then-is_none
invariant_of-self-then-is_none g c =
    let here = g.M.Members.at c.members.self-inside.walk in
    let then = g.M.Members.at c.advance_in.new.self in
    record {
      most =
          omega (
            arith,
            c.advance_in.ensures.order,
            c.members.invariant.0.order,
            (subst (λ (s : RestState). s.walk.order ≤ 16) c.self.view_is c.self.invariant.most),
          );
      class = c.advance_in.ensures.class ∙ c.members.invariant.0.class;
      reached =
          passing_counted c.args.self.now.walk c.args.self.now.pairs here c.members.self-inside.members c.members.invariant.0 c.advance_in.new.entry.tiling
          c.advance_in.new.entry.word (c.advance_in.ensures.entry c.members-test.true)
          then c.advance_in.ensures.order (c.advance_in.ensures.cursor c.members-test.true);
    }

pub returns-clause-pairs : goal.returns-clause-pairs
returns-clause-pairs g c = c.members.invariant.1

pub returns-then-is_none-clause-pairs : goal.returns-then-is_none-clause-pairs
returns-then-is_none-clause-pairs g c = c.members.invariant.1
