use Rattle.std.proofs.Common.{List, ap, arith, length, subst, sym, ℕ, ◌-◌, ◌∙◌, ◌≡◌}
use Rattle.std.specs.Option.{IfNone}
use Rattle.std.specs.Prelude.{slice_index}
use Rattle.bk_net.specs.Labels.{EndsBelow}
use Rattle.bk_net.specs.Net.{HasNoLoose}
use Rattle.bk_net.proofs.Joining.{labels_of_net, least_loose_by_label, none_loose}
use Rattle.bk_net.proofs.Net.loose.Goals as goal

-- the label of the last node, as the code reads it
last_is : (labels read : List ℕ) (nodes all at : ℕ) → read ≡ labels → at ≡ nodes - 1 → nodes ≡ all → slice_index read at ≡ slice_index labels (all - 1)
last_is labels read nodes all at r a n = λ k. slice_index (r k) ((a ∙ ap (λ (m : ℕ). m - 1) n) k)

-- the label of a node, as the code reads it
here_is : (labels read : List ℕ) (v : ℕ) → read ≡ labels → slice_index read v ≡ slice_index labels v
here_is labels read v r = λ k. slice_index (r k) v

pub returns-in_err-loose-clause-none : goal.returns-in_err-loose-clause-none
returns-in_err-loose-clause-none c =
    let kept = c.nodes-nodes.ensures.kept in
    let some = kept.is.some in
    let nodes = c.nodes-nodes.ensures.value in
    let read = c.as_slice.ensures.value in
    let labels = c.labels_of-labels.result.items in
    let last = last_is labels c.deref.result.now c.nodes-nodes.result c.args.self.now.nodes c.from.result c.deref.ensures.0 c.from.ensures nodes in
    subst (λ r. IfNone r (HasNoLoose c.args.self.now)) (sym c.from_residual.ensures)
    (none_loose c.args.self.now labels
    (labels_of_net c.args.self.now c.nodes-nodes.result c.wires.result.now labels nodes c.wires.ensures.value c.labels_of-labels.ensures)
    (omega (arith, some))
    (λ u h. sym (here_is labels c.as_slice.result.now u read)
    ∙ c.in_err-loose.ensures.none u (omega (arith, h, nodes, ap length read, c.labels_of-labels.ensures.many)) ∙ last))

pub returns-clause-some : goal.returns-clause-some
returns-clause-some c =
    let kept = c.nodes-nodes.ensures.kept in
    let some = kept.is.some in
    let nodes = c.nodes-nodes.ensures.value in
    let read = c.as_slice.ensures.value in
    let labels = c.labels_of-labels.result.items in
    let found = c.in_ok-loose.ensures in
    let last = last_is labels c.deref.result.now c.nodes-nodes.result c.args.self.now.nodes c.from.result c.deref.ensures.0 c.from.ensures nodes in
    least_loose_by_label c.args.self.now labels
    (labels_of_net c.args.self.now c.nodes-nodes.result c.wires.result.now labels nodes c.wires.ensures.value c.labels_of-labels.ensures)
    c.in_ok-loose.loose (omega (arith, found.within, nodes, ap length read, c.labels_of-labels.ensures.many)) (omega (arith, some))
    (λ u h. sym (here_is labels c.as_slice.result.now u read) ∙ found.before u h ∙ last)
    (λ e. found.other (here_is labels c.as_slice.result.now c.in_ok-loose.loose read ∙ e ∙ sym last))

pub labels_of-labels-requires-clause-few : goal.labels_of-labels-requires-clause-few
labels_of-labels-requires-clause-few c = omega (arith, c.nodes-nodes.ensures.value, (c.nodes-nodes.ensures.kept).few_nodes)

pub labels_of-labels-requires-clause-ends : goal.labels_of-labels-requires-clause-ends
labels_of-labels-requires-clause-ends c =
    let kept = c.nodes-nodes.ensures.kept in
    subst (λ (n : ℕ). EndsBelow n c.wires.result.now) (sym c.nodes-nodes.ensures.value)
    (subst (λ (l : List (ℕ × ℕ)). EndsBelow c.args.self.now.nodes l) (sym c.wires.ensures.value)
    (λ k d h. let e = kept.is.ends k d h in (e.0, e.1)))

pub overflow_sub-nodes : goal.overflow_sub-nodes
overflow_sub-nodes c = let kept = c.nodes-nodes.ensures.kept in omega (arith, c.nodes-nodes.ensures.value, kept.is.some)

pub offset_bounds-deref-from : goal.offset_bounds-deref-from
offset_bounds-deref-from c = let kept = c.nodes-nodes.ensures.kept in
    omega (arith, c.from.ensures, c.nodes-nodes.ensures.value, kept.few_nodes)

pub bounds-deref-from : goal.bounds-deref-from
bounds-deref-from c = let kept = c.nodes-nodes.ensures.kept in omega (
  arith,
  c.from.ensures,
  c.nodes-nodes.ensures.value,
  kept.is.some,
  ap length c.deref.ensures.0,
  c.labels_of-labels.ensures.many,
)
