-- Nodes that are joined by wires, and their labels.
use Rattle.std.specs.Prelude.{List, slice_index, slice_index_or}
use Rattle.std.proofs.Common.{Bool, ap, arith, cond, false, inl, inr, length, nat_eq, refl, subst, sym, true, ℕ, ◌+◌, ◌-◌, ◌<◌, ◌∙◌}
use Rattle.std.proofs.Common.{◌≡◌, ◌≢◌, ◌≤◌, ◌⊎◌}
use Rattle.std.proofs.lemmas.Bool.{cases_lt, eqb-true}
use Rattle.std.proofs.lemmas.Bool.Decides.{nat_tests}
use Rattle.bk_laws.proofs.HasAtLaws.{has_at-below, has_at-read, has_at-within}
use Rattle.bk_laws.proofs.ListItems.{slice_index_or-any_default}
use Rattle.bk_laws.specs.HasAt.{HasAt}
use Rattle.bk_net.specs.Labels.{AreLabels, EndsBelow, IsRelabelled, relabelled}
use Rattle.bk_net.specs.Net.{HasNoLoose, IsJoined, IsLeastLoose, IsLoose, Net, against, along, here}

-- a node that is joined to a second one, and this to a third, is joined to the third
pub joined_on : (wires : List (ℕ × ℕ)) {u v w : ℕ} → IsJoined wires u v → IsJoined wires v w → IsJoined wires u w
joined_on wires here b = b
joined_on wires (along c a) b = along c (joined_on wires a b)
joined_on wires (against c a) b = against c (joined_on wires a b)

-- being joined goes both ways
pub joined_back : (wires : List (ℕ × ℕ)) {u v : ℕ} → IsJoined wires u v → IsJoined wires v u
joined_back wires here = here
joined_back wires (along c a) = joined_on wires (joined_back wires a) (against c here)
joined_back wires (against c a) = joined_on wires (joined_back wires a) (along c here)

relabelled_old : (old new label : ℕ) → label ≡ old → relabelled old new label ≡ new
relabelled_old old new label e = grind (arith, nat_tests)

relabelled_new : (old new : ℕ) → relabelled old new new ≡ new
relabelled_new old new = grind (arith, nat_tests)

-- the labels of one more wire's ends made one
module _ (nodes : ℕ) (wires : List (ℕ × ℕ)) (before after : List ℕ) (done : ℕ) (w : ℕ × ℕ) (ends : EndsBelow nodes wires)
    (below : done < length wires) (at : (d : ℕ × ℕ) → slice_index_or wires done d ≡ w)
    (are : AreLabels nodes wires before done) (many : length after ≡ length before)
    (each : IsRelabelled (slice_index before w.0) (slice_index before w.1) before after) where
  here_ends : (w.0 < nodes) × (w.1 < nodes)
  here_ends = subst (λ (v : ℕ × ℕ). (v.0 < nodes) × (v.1 < nodes)) (at w) (ends done w below)

  each_node : (v : ℕ) → v < nodes → slice_index after v ≡ relabelled (slice_index before w.0) (slice_index before w.1) (slice_index before v)
  each_node v h = each v (omega (arith, are.many))

  new_joined : (v : ℕ) → v < nodes → IsJoined wires v (slice_index after v)
  new_joined v h = subst (IsJoined wires v) (sym (each_node v h)) (cases (nat_eq (slice_index before v) (slice_index before w.0)) refl)
    where
      cases : (b : Bool) → nat_eq (slice_index before v) (slice_index before w.0) ≡ b
          → IsJoined wires v (cond b (slice_index before w.1) (slice_index before v))
      cases false e = are.joined v h
      cases true e = joined_on wires (subst (IsJoined wires v) (eqb-true (slice_index before v) (slice_index before w.0) e) (are.joined v h))
          (joined_on wires (joined_back wires (are.joined w.0 here_ends.0)) (along (done, below, at w) (are.joined w.1 here_ends.1)))

  new_closed : (k : ℕ) (v : ℕ × ℕ) → HasAt wires k v → k < done + 1 → slice_index after v.0 ≡ slice_index after v.1
  new_closed k v has h = cases (cases_lt k done)
    where
      ends_of : (v.0 < nodes) × (v.1 < nodes)
      ends_of = subst (λ (v : ℕ × ℕ). (v.0 < nodes) × (v.1 < nodes)) (has_at-read wires k v v has) (ends k v (has_at-below wires k v has))

      cases : (k < done) ⊎ (done ≤ k) → slice_index after v.0 ≡ slice_index after v.1
      cases (inl old) = each_node v.0 ends_of.0 ∙ ap (relabelled (slice_index before w.0) (slice_index before w.1)) (are.closed k v has old)
          ∙ sym (each_node v.1 ends_of.1)
      cases (inr new) = subst (λ (v : ℕ × ℕ). slice_index after v.0 ≡ slice_index after v.1)
          (sym (at v) ∙ ap (λ (n : ℕ). slice_index_or wires n v) (omega arith) ∙ has_at-read wires k v v has)
          (each_node w.0 here_ends.0 ∙ relabelled_old (slice_index before w.0) (slice_index before w.1) (slice_index before w.0) refl
          ∙ sym (relabelled_new (slice_index before w.0) (slice_index before w.1)) ∙ sym (each_node w.1 here_ends.1))

  -- labels of the nodes by the first wires become those by one wire more
  pub labels_more : AreLabels nodes wires after (done + 1)
  labels_more = record { many = many ∙ are.many; joined = new_joined; closed = new_closed }

-- one wire more is joined, from what is read while labels are changed
pub labels_step : (nodes : ℕ) (wires : List (ℕ × ℕ)) (before first second third after : List ℕ) (done from to : ℕ) → EndsBelow nodes wires
    → done < length wires → AreLabels nodes wires before done
    → first ≡ before → second ≡ before → third ≡ before → from ≡ (slice_index_or wires done (0, 0)).0 → to ≡ (slice_index_or wires done (0, 0)).1
    → length after ≡ length third → IsRelabelled (slice_index first from) (slice_index second to) third after → AreLabels nodes wires after (done + 1)
labels_step nodes wires before first second third after done from to ends below are f s t fromis tois many each =
    labels_more nodes wires before after done (slice_index_or wires done (0, 0)) ends below (λ d. slice_index_or-any_default wires done d (0, 0) below) are
    (many ∙ ap length t)
    (λ v h. each v (omega (arith, ap length t)) ∙ (λ k. relabelled (slice_index (f k) (fromis k)) (slice_index (s k) (tois k)) (slice_index (t k) v)))

-- before the first wire each node has its own number as its label
pub own_are : (nodes : ℕ) (wires : List (ℕ × ℕ)) (labels : List ℕ) → length labels ≡ nodes → ((v : ℕ) → v < nodes → slice_index labels v ≡ v)
    → AreLabels nodes wires labels 0
own_are nodes wires labels many own = record {
  many = many;
  joined = λ v h. subst (IsJoined wires v) (sym (own v h)) here;
  closed = λ k wire has h. absurd (omega arith);
}

-- in the end, joined nodes have one label
module _ (net : Net) (labels : List ℕ) (are : AreLabels net.nodes net.wires labels (length net.wires)) where
  -- joined nodes have one label
  pub one_label : {u v : ℕ} → IsJoined net.wires u v → slice_index labels u ≡ slice_index labels v
  one_label here = refl
  one_label (along {u} {v} {w} c j) = are.closed c.0 (u, v) (subst (HasAt net.wires c.0) c.2 (has_at-within net.wires c.0 (u, v) c.1)) c.1 ∙ one_label j
  one_label (against {u} {v} {w} c j) = sym (are.closed c.0 (v, u) (subst (HasAt net.wires c.0) c.2 (has_at-within net.wires c.0 (v, u) c.1)) c.1)
      ∙ one_label j

  -- nodes with one label are joined
  pub one_joined : (u v : ℕ) → u < net.nodes → v < net.nodes → slice_index labels u ≡ slice_index labels v → IsJoined net.wires u v
  one_joined u v a b e = joined_on net.wires (subst (IsJoined net.wires u) e (are.joined u a)) (joined_back net.wires (are.joined v b))

  -- the first node with another label than the last node is the least loose one
  pub least_loose_by_label : (v : ℕ) → v < net.nodes → 0 < net.nodes → ((u : ℕ) → u < v → slice_index labels u ≡ slice_index labels (net.nodes - 1))
      → slice_index labels v ≢ slice_index labels (net.nodes - 1) → IsLeastLoose net v
  least_loose_by_label v h some before differ = ((h, λ j. differ (one_label j)), λ u loose. cases u loose (cases_lt u v))
    where
      cases : (u : ℕ) → IsLoose net u → (u < v) ⊎ (v ≤ u) → v ≤ u
      cases u loose (inl l) = absurd (loose.1 (one_joined u (net.nodes - 1) loose.0 (omega arith) (before u l)))
      cases u loose (inr l) = l

  -- where all nodes have the label of the last node, none is loose
  pub none_loose : 0 < net.nodes → ((u : ℕ) → u < net.nodes → slice_index labels u ≡ slice_index labels (net.nodes - 1)) → HasNoLoose net
  none_loose some all v h = one_joined v (net.nodes - 1) h (omega arith) (all v h)

-- what the code knows of the labels is what holds of them
pub labels_of_net : (net : Net) (nodes : ℕ) (wires : List (ℕ × ℕ)) (labels : List ℕ) → nodes ≡ net.nodes → wires ≡ net.wires
    → AreLabels nodes wires labels (length wires) → AreLabels net.nodes net.wires labels (length net.wires)
labels_of_net net nodes wires labels n w are =
    subst (λ (k : ℕ). AreLabels k net.wires labels (length net.wires)) n (subst (λ (l : List (ℕ × ℕ)). AreLabels nodes l labels (length l)) w are)
