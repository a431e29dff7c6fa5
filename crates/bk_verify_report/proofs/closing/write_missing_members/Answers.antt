use Rattle.std.proofs.Common.{arith, ◌∙◌}
use Rattle.bk_laws.proofs.Outcomes.{if_ok-of_error, on_err-intro}
use Rattle.bk_verify_report.proofs.MissingListed.{word_some}
use Rattle.bk_verify_report.proofs.Listing.{kept_behind, listing_broken, listing_end, listing_more, listing_none, none_behind}
use Rattle.bk_answer.proofs.Failing.{cause-of_error_later, cause-of_same}
use Rattle.bk_verify_report.proofs.closing.write_missing_members.Goals as goal

pub members-init : goal.members-init
members-init g c = listing_none c.args.rest.now (g.O.Sink.written c.args.out.now) (g.O.Sink.faults c.args.out.now) c.requires.start

pub returns-in_err-write_missing_entry-clause-begun : goal.returns-in_err-write_missing_entry-clause-begun
returns-in_err-write_missing_entry-clause-begun g c =
    on_err-intro c.from_residual.result
    (listing_broken c.args.rest.now c.members.rest c.members.missing (g.O.Sink.written c.args.out.now) (g.O.Sink.written c.members.out)
    (g.O.Sink.faults c.args.out.now) (g.O.Sink.faults c.members.out) c.members.invariant (g.O.Sink.written c.write_missing_entry.new.out)
    (record {
      tiling = c.advance_in.new.entry.tiling;
      word = c.advance_in.new.entry.word;
      next = c.advance_in.ensures.entry c.members-test.true;
      begins = c.in_err-write_missing_entry.ensures.begun;
    }))

pub write_missing_entry-requires-clause-code : goal.write_missing_entry-requires-clause-code
write_missing_entry-requires-clause-code g c = c.advance_in.ensures.code c.members-test.true

pub write_missing_entry-requires-clause-some : goal.write_missing_entry-requires-clause-some
write_missing_entry-requires-clause-some g c =
    word_some c.members.rest.walk.order c.members.rest.pairs c.members.rest.walk.cursor c.advance_in.new.entry.tiling
    c.advance_in.new.entry.word (c.advance_in.ensures.entry c.members-test.true)

pub overflow_add-missing : goal.overflow_add-missing
overflow_add-missing g c = let few = c.members.invariant.listed.few in omega (arith, few)

pub members-preserved : goal.members-preserved
members-preserved g c =
    listing_more c.args.rest.now c.members.rest c.members.missing (g.O.Sink.written c.args.out.now) (g.O.Sink.written c.members.out)
    (g.O.Sink.faults c.args.out.now) (g.O.Sink.faults c.members.out) c.members.invariant
    c.advance_in.new.entry.tiling c.advance_in.new.entry.word c.advance_in.new.self (g.O.Sink.written c.write_missing_entry.new.out)
    (g.O.Sink.faults c.write_missing_entry.new.out) c.requires.most
    (c.advance_in.ensures.entry c.members-test.true) (c.advance_in.ensures.cursor c.members-test.true)
    c.in_ok-write_missing_entry.ensures.written c.advance_in.ensures.order c.advance_in.ensures.pairs (c.in_ok-write_missing_entry.ensures.cause).ok

pub returns-clause-listed : goal.returns-clause-listed
returns-clause-listed g c =
    listing_end c.args.rest.now c.members.rest c.members.missing (g.O.Sink.written c.args.out.now) (g.O.Sink.written c.members.out)
    (g.O.Sink.faults c.args.out.now) (g.O.Sink.faults c.members.out) c.members.invariant
    (c.advance_in.ensures.none c.members-test.false) c.advance_in.new.self.walk.cursor (c.advance_in.ensures.end c.members-test.false)

pub returns-clause-all : goal.returns-clause-all
returns-clause-all g c =
    kept_behind c.args.rest.now c.members.rest c.members.missing (g.O.Sink.written c.args.out.now) (g.O.Sink.written c.members.out)
    (g.O.Sink.faults c.args.out.now) (g.O.Sink.faults c.members.out) c.members.invariant
    (c.advance_in.ensures.none c.members-test.false) c.advance_in.new.self.walk.cursor (c.advance_in.ensures.end c.members-test.false)

pub returns-clause-ended : goal.returns-clause-ended
returns-clause-ended g c =
    none_behind c.args.rest.now c.members.rest c.members.missing (g.O.Sink.written c.args.out.now) (g.O.Sink.written c.members.out)
    (g.O.Sink.faults c.args.out.now) (g.O.Sink.faults c.members.out) c.members.invariant
    (c.advance_in.ensures.none c.members-test.false) c.advance_in.new.self.walk.cursor (c.advance_in.ensures.end c.members-test.false)

pub returns-clause-order : goal.returns-clause-order
returns-clause-order g c = c.advance_in.ensures.order ∙ c.members.invariant.order

pub returns-in_err-write_missing_entry-clause-listed : goal.returns-in_err-write_missing_entry-clause-listed
returns-in_err-write_missing_entry-clause-listed g c =
    if_ok-of_error _ c.from_residual.result _ c.from_residual.ensures.1

pub returns-in_err-write_missing_entry-clause-all : goal.returns-in_err-write_missing_entry-clause-all
returns-in_err-write_missing_entry-clause-all g c =
    if_ok-of_error _ c.from_residual.result _ c.from_residual.ensures.1

pub returns-in_err-write_missing_entry-clause-ended : goal.returns-in_err-write_missing_entry-clause-ended
returns-in_err-write_missing_entry-clause-ended g c =
    if_ok-of_error _ c.from_residual.result _ c.from_residual.ensures.1

pub returns-in_err-write_missing_entry-clause-cause : goal.returns-in_err-write_missing_entry-clause-cause
returns-in_err-write_missing_entry-clause-cause g c =
    cause-of_error_later _ c.from_residual.result c.from_residual.ensures.1 c.members.invariant.faults c.in_err-write_missing_entry.ensures.cause

pub returns-in_err-write_missing_entry-clause-order : goal.returns-in_err-write_missing_entry-clause-order
returns-in_err-write_missing_entry-clause-order g c = c.advance_in.ensures.order ∙ c.members.invariant.order

pub members-smaller : goal.members-smaller
members-smaller g c = let few = c.members.invariant.listed.few in omega (arith, few)

pub returns-clause-cause : goal.returns-clause-cause
returns-clause-cause g c = cause-of_same c.members.invariant.faults
