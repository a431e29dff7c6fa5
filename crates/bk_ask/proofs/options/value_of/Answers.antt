-- The words passed say nothing of the name, and the first option of this name says its value.
use Rattle.std.proofs.Common.{arith, map, string_bytes}
use Rattle.bk_laws.proofs.ListParts.{length-take_behind_two}
use Rattle.bk_ask.proofs.OptionSteps.{say_found, say_none, say_rest}
use Rattle.bk_ask.proofs.options.value_of.Goals as goal

pub options-preserved : goal.options-preserved
options-preserved c =
    say_rest c.args.name.now (map string_bytes c.args.words.now) c.options.left.now c.first-item.result c.as_str.result.now
    c.in-len2-up.len_at_least c.first-item.is c.as_str.ensures.value c.if-eq.ensures c.options.invariant

pub returns-clause-none : goal.returns-clause-none
returns-clause-none c = say_none c.args.name.now (map string_bytes c.args.words.now) c.options.left.now c.in_default.len_below c.options.invariant

pub options-init : goal.options-init
options-init c = record { out = λ out. out; has = λ value has. has }

pub slice_bounds-rest-count : goal.slice_bounds-rest-count
slice_bounds-rest-count c = c.in-len2-up.len_at_least

pub bounds-left-0 : goal.bounds-left-0
bounds-left-0 c = omega (arith, c.in-len2-up.len_at_least)

pub bounds-left-1 : goal.bounds-left-1
bounds-left-1 c = omega (arith, c.in-len2-up.len_at_least)

pub slice_bounds-rest-start : goal.slice_bounds-rest-start
slice_bounds-rest-start c = omega (arith, c.in-len2-up.len_at_least)

pub slice_bounds-rest-end : goal.slice_bounds-rest-end
slice_bounds-rest-end c = omega (arith, c.in-len2-up.len_at_least)

pub returns-then-eq-clause-some : goal.returns-then-eq-clause-some
returns-then-eq-clause-some c =
    say_found c.args.name.now (map string_bytes c.args.words.now) c.options.left.now c.first-item.result c.value-item.result c.as_str.result.now
    c.as_str-then-eq.result.now c.in-len2-up.len_at_least c.first-item.is c.value-item.is c.as_str.ensures.value c.as_str-then-eq.ensures.value
    c.if-eq.ensures c.options.invariant

pub options-smaller : goal.options-smaller
options-smaller c = length-take_behind_two _ c.in-len2-up.len_at_least
