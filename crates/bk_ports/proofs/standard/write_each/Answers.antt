use Rattle.std.proofs.lemmas.Grind.{common_steps}
use Rattle.std.proofs.Common.{List, None, Option, Some, arith, rules, sym, ℕ, [], ◌+◌, ◌∙◌}
use Rattle.std.proofs.lemmas.List.{append-nil, take_rest}
use Rattle.std.specs.Io.KnownBytes.{Appends, Keeps}
use Rattle.bk_laws.proofs.Bytes.{appends-next_part}
use Rattle.bk_ports.proofs.standard.write_each.Goals as goal

-- bytes that were taken stay where the writer keeps them
kept_after : (a b d : Option (List ℕ)) (bytes : List ℕ) → Appends a b bytes → Keeps b d → Appends a d bytes
kept_after None b d bytes p q = tt
kept_after (Some old) None d bytes p q = absurd p
kept_after (Some old) (Some xs) None bytes p q = absurd q
kept_after (Some old) (Some xs) (Some ys) bytes p q = q ∙ p

-- no byte more
none_more : (a : Option (List ℕ)) → Appends a a []
none_more None = tt
none_more (Some bytes) = sym (append-nil bytes)

pub loop-done-preserved : goal.loop-done-preserved
loop-done-preserved g c = record {
  within = search rules;
  taken = appends-next_part _ _ _ c.args.bytes.now c.loop-done.done c.in-Ok.count c.loop-done.invariant.taken
      (rw (take_rest c.args.bytes.now c.loop-done.done) at c.in-Ok.ensures.bytes);
}

pub returns-clause-ok : goal.returns-clause-ok
returns-clause-ok g c = grind (arith, common_steps)

pub returns-in-Ok-eq0-clause-ok : goal.returns-in-Ok-eq0-clause-ok
returns-in-Ok-eq0-clause-ok g c = search rules

pub loop-done-init : goal.loop-done-init
loop-done-init g c = record { within = omega arith; taken = none_more (g.W.Write.contents c.args.writer.now) }

pub slice_bounds-write-count : goal.slice_bounds-write-count
slice_bounds-write-count g c = c.loop-done.invariant.within

pub returns-in-Ok-eq0-clause-prefix : goal.returns-in-Ok-eq0-clause-prefix
returns-in-Ok-eq0-clause-prefix g c = (
  c.loop-done.done + c.in-Ok-eq0.field-0,
  appends-next_part _ _ _ c.args.bytes.now c.loop-done.done c.in-Ok-eq0.field-0 c.loop-done.invariant.taken
      (rw (take_rest c.args.bytes.now c.loop-done.done) at c.in-Ok-eq0.ensures.bytes),
)

pub returns-in-Err-clause-prefix : goal.returns-in-Err-clause-prefix
returns-in-Err-clause-prefix g c = (
  c.loop-done.done,
  kept_after (g.W.Write.contents c.args.writer.now) (g.W.Write.contents c.loop-done.writer) (g.W.Write.contents c.write.new.self) _
      c.loop-done.invariant.taken c.in-Err.ensures.bytes,
)

pub returns-clause-prefix : goal.returns-clause-prefix
returns-clause-prefix g c = (
  c.loop-done.done,
  kept_after (g.W.Write.contents c.args.writer.now) (g.W.Write.contents c.loop-done.writer) (g.W.Write.contents c.flush.new.writer) _
      c.loop-done.invariant.taken c.flush.ensures,
)
