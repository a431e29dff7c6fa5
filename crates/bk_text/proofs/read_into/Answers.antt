use Rattle.std.specs.Prelude.{List, [], false, length, refl, take, true, ℕ, ◌+◌, ◌-◌, ◌<◌, ◌≡◌, ◌≤◌}
use Rattle.std.proofs.lemmas.List.{length-drop}
use Rattle.std.proofs.Common.{ap, arith, le_refl, lit<, subst, sym, zero-le, ◌∙◌}
use Rattle.std.proofs.lemmas.List.{take_all}
use Rattle.bk_text.specs.GatheredSides.{Gathered, gathered_after, line_gathered, nothing_gathered}
use Rattle.bk_text.specs.LineReader.{next_line_place}
use Rattle.bk_text.specs.CodeLine.{IsLine}
use Rattle.bk_text.specs.declared.reader.Place.{Place}
use Rattle.bk_text.specs.declared.reader.Place.TheVariants.{Start}
use Rattle.bk_text.proofs.LineRange.{range_is, read_is, told_many_sides_are_the_fault}
use Rattle.bk_text.proofs.Progress.{Progress, gathered_line_was_read, group_fits, last_fits, many_found, no_line_where_none_may_end}
use Rattle.bk_text.proofs.Progress.{no_line_where_the_reader_stops, progress_to_the_next_place_of_bytes, side_fits}
use Rattle.bk_text.proofs.Strides.{from, from_is_drop, none_further, several_further}
use Rattle.bk_text.proofs.read_into.Goals as goal

-- nothing is read yet
at_start : Progress [] Start nothing_gathered
at_start = record {
  lists = record { groups = []; sides = [] };
  leads = λ _. refl;
  fits = refl;
  keeps = record { groups = λ _. refl; sides = λ _. refl; more = λ many. absurd (cc) };
}

-- several bytes further, still within the line
within_line : (bs : List ℕ) (at taken : ℕ) → at ≤ length bs → taken ≤ length (from at bs) → at + taken ≤ length bs
within_line bs at taken before more = omega (arith, before, more, ap (λ z. length z) (from_is_drop at bs), length-drop at bs)

-- and fewer are left
less_left : (all at taken : ℕ) → at < all → 0 < taken → all - (at + taken) < all - at
less_left all at taken within some = omega (arith, within, some)

pub bytes-preserved-then-taken-gt0 : goal.bytes-preserved-then-taken-gt0
bytes-preserved-then-taken-gt0 c = record {
  within = within_line c.args.line.now c.bytes.at c.take_ahead-taken.result c.bytes.invariant.within c.take_ahead-taken.ensures.within;
  read = several_further c.args.line.now c.bytes.at c.take_ahead-taken.result c.bytes.place c.take_ahead-taken.new.place c.bytes.gatherer
      c.take_ahead-taken.new.self c.bytes.invariant.read c.take_ahead-taken.ensures.was c.take_ahead-taken.ensures.leads;
}

pub returns-in_default-clause-fault : goal.returns-in_default-clause-fault
returns-in_default-clause-fault c =
    no_line_where_the_reader_stops c.args.line.now c.bytes.at c.take_ahead-taken.new.place c.take_ahead-taken.new.self (omega arith)
    (none_further c.args.line.now c.bytes.at c.take_ahead-taken.result c.bytes.place c.take_ahead-taken.new.place c.bytes.gatherer c.take_ahead-taken.new.self
    (omega arith) c.bytes.invariant.read
    c.take_ahead-taken.ensures.was c.take_ahead-taken.ensures.leads)
    (ap (next_line_place c.take_ahead-taken.new.place) (sym c.kind_of-kind.ensures) ∙ sym c.next.ensures ∙ c.in_default.is)

pub take-requires-clause-side : goal.take-requires-clause-side
take-requires-clause-side c = side_fits (take c.bytes.at c.args.line.now) c.take_ahead-taken.new.place c.take_ahead-taken.new.self c.kind_of-kind.result
    (none_further c.args.line.now c.bytes.at c.take_ahead-taken.result c.bytes.place c.take_ahead-taken.new.place c.bytes.gatherer c.take_ahead-taken.new.self
    (omega arith) c.bytes.invariant.read
    c.take_ahead-taken.ensures.was c.take_ahead-taken.ensures.leads)

pub take-requires-clause-group : goal.take-requires-clause-group
take-requires-clause-group c = group_fits (take c.bytes.at c.args.line.now) c.take_ahead-taken.new.place c.take_ahead-taken.new.self c.kind_of-kind.result
    (none_further c.args.line.now c.bytes.at c.take_ahead-taken.result c.bytes.place c.take_ahead-taken.new.place c.bytes.gatherer c.take_ahead-taken.new.self
    (omega arith) c.bytes.invariant.read
    c.take_ahead-taken.ensures.was c.take_ahead-taken.ensures.leads)

pub bytes-preserved : goal.bytes-preserved
bytes-preserved c = record {
  within = omega (arith, c.bytes-test.true);
  read = subst (Progress (take (c.bytes.at + 1) c.args.line.now) c.in-Some.next)
      (ap (λ k. gathered_after c.take_ahead-taken.new.place k c.take_ahead-taken.new.self) (sym c.kind_of-kind.ensures) ∙ sym c.take.ensures.after)
      (progress_to_the_next_place_of_bytes c.args.line.now c.bytes.at c.take_ahead-taken.new.place c.in-Some.next c.take_ahead-taken.new.self (omega arith)
      (none_further c.args.line.now c.bytes.at c.take_ahead-taken.result c.bytes.place c.take_ahead-taken.new.place c.bytes.gatherer c.take_ahead-taken.new.self
      (omega arith) c.bytes.invariant.read
      c.take_ahead-taken.ensures.was c.take_ahead-taken.ensures.leads)
      c.take.ensures.was (ap (next_line_place c.take_ahead-taken.new.place) (sym c.kind_of-kind.ensures) ∙ sym c.next.ensures ∙ c.in-Some.is));
}

-- the whole line was read
whole : (bs : List ℕ) (i : ℕ) (p : Place) (g : Gathered) → length bs ≤ i → Progress (take i bs) p g → Progress bs p g
whole bs i p g all progress = subst (λ (z : List ℕ). Progress z p g) (take_all i bs all) progress

pub returns-in-None-clause-fault : goal.returns-in-None-clause-fault
returns-in-None-clause-fault c =
    no_line_where_none_may_end c.args.line.now c.bytes.place c.bytes.gatherer
    (whole c.args.line.now c.bytes.at c.bytes.place c.bytes.gatherer (omega arith) c.bytes.invariant.read)
    (sym c.ending.ensures ∙ c.in-None.is)

pub take_last-requires : goal.take_last-requires
take_last-requires c = last_fits c.args.line.now c.bytes.place c.bytes.gatherer
    (whole c.args.line.now c.bytes.at c.bytes.place c.bytes.gatherer (omega arith) c.bytes.invariant.read)

whole_line : (c : goal.After-ended) → Progress c.args.line.now c.bytes.place c.bytes.gatherer
whole_line c = whole c.args.line.now c.bytes.at c.bytes.place c.bytes.gatherer (omega arith) c.bytes.invariant.read

pub returns-in-Some-ending-clause-fault : goal.returns-in-Some-ending-clause-fault
returns-in-Some-ending-clause-fault c =
    told_many_sides_are_the_fault c.ended.result c.take_last.new.self.many c.args.line.now c.ended.ensures.many c.ended.ensures.full
    (λ many. many_found c.args.line.now c.bytes.place c.bytes.gatherer c.in-Some-ending.ending (whole_line c) c.take_last.ensures.was
    (sym c.ending.ensures ∙ c.in-Some-ending.is)
    (subst (λ (g : Gathered). g.many ≡ true) c.take_last.ensures.after many))

pub returns-in-Some-ending-clause-read : goal.returns-in-Some-ending-clause-read
returns-in-Some-ending-clause-read c =
    read_is c.ended.result c.in-Some-ending.ending c.take_last.new.self c.args.line.now c.ended.ensures.few
    (λ few. subst (λ (g : Gathered). IsLine (line_gathered c.in-Some-ending.ending g) c.args.line.now) (sym c.take_last.ensures.after)
    (gathered_line_was_read c.args.line.now c.bytes.place c.bytes.gatherer c.in-Some-ending.ending (whole_line c) c.take_last.ensures.was
    (sym c.ending.ensures ∙ c.in-Some-ending.is)
    (subst (λ (g : Gathered). g.many ≡ false) c.take_last.ensures.after few)))

pub returns-in-Some-ending-clause-range : goal.returns-in-Some-ending-clause-range
returns-in-Some-ending-clause-range c = range_is c.ended.result c.take_last.new.self c.args.line.now (returns-in-Some-ending-clause-read c) c.ended.ensures.fits

pub bytes-init : goal.bytes-init
bytes-init c = record { within = zero-le; read = subst (Progress [] Start) (sym c.clear.ensures) at_start }

pub slice_bounds-take_ahead-count : goal.slice_bounds-take_ahead-count
slice_bounds-take_ahead-count c = c.bytes.invariant.within

pub slice_bounds-take_ahead-start : goal.slice_bounds-take_ahead-start
slice_bounds-take_ahead-start c = c.bytes.invariant.within

pub slice_bounds-take_ahead-end : goal.slice_bounds-take_ahead-end
slice_bounds-take_ahead-end c = le_refl (length c.args.line.now)

pub overflow_add-at : goal.overflow_add-at
overflow_add-at c =
    omega (arith, within_line c.args.line.now c.bytes.at c.take_ahead-taken.result c.bytes.invariant.within c.take_ahead-taken.ensures.within)

pub bytes-smaller-then-taken-gt0 : goal.bytes-smaller-then-taken-gt0
bytes-smaller-then-taken-gt0 c = less_left (length c.args.line.now) c.bytes.at c.take_ahead-taken.result c.bytes-test.true c.if-taken-gt0.true

pub bounds-line-at : goal.bounds-line-at
bounds-line-at c = c.bytes-test.true

pub overflow_add-at-in-bytes : goal.overflow_add-at-in-bytes
overflow_add-at-in-bytes c = omega (arith, c.bytes-test.true)

pub bytes-smaller : goal.bytes-smaller
bytes-smaller c = less_left (length c.args.line.now) c.bytes.at 1 c.bytes-test.true (lit< tt)
