-- A network line has one answer.
use Rattle.std.proofs.Common.{Bool, List, [], ap, arith, length, refl, subst, ℕ, ◌<◌, ◌∷◌, ◌≡◌, ◌≤◌}
use Rattle.bk_net.specs.Net.{HasNoLoose, IsLeastLoose, Net}
use Rattle.bk_net.specs.NetLine.{IsNetLine, IsNoNetLine, Item, NetLine, Skip}
use Rattle.bk_net.specs.ReadNet.{IsFirstFault, IsNetFaultOf}
use Rattle.bk_net.specs.declared.NetFault.{NetFault}
use Rattle.bk_net.specs.declared.NetFault.TheVariants as fault
use Rattle.bk_net.proofs.NetStopping.{net_line_stands_for_one_thing}
use Rattle.bk_flow.proofs.OnePrimitive.{one_primitive}
use Rattle.bk_report.specs.Answers.{flow_line}
use Rattle.bk_report.specs.Refusals.{refusal_line}
use Rattle.bk_report.specs.declared.refusal.Refused.TheVariants.{Loose}
use Rattle.bk_answer.specs.NetAnswer.{AnswersNet, AnswersNetLine, HasNet, loose, net_too_long, no_net, no_net_item, of_net, refused_net}
use Rattle.bk_answer.specs.NetAnswer.{solved, wide}

-- the nodes and the wires of a line
nodes_in : NetLine → ℕ
nodes_in Skip = 0
nodes_in (Item nodes wires) = nodes

wires_in : NetLine → List (ℕ × ℕ)
wires_in Skip = []
wires_in (Item nodes wires) = wires

same_nodes : (bytes : List ℕ) (m n : ℕ) (v w : List (ℕ × ℕ)) → IsNetLine (Item m v) bytes → IsNetLine (Item n w) bytes → m ≡ n
unfolding nodes_in
same_nodes bytes m n v w p q = ap nodes_in (net_line_stands_for_one_thing bytes (Item m v) (Item n w) p q)

same_wires : (bytes : List ℕ) (m n : ℕ) (v w : List (ℕ × ℕ)) → IsNetLine (Item m v) bytes → IsNetLine (Item n w) bytes → v ≡ w
unfolding wires_in
same_wires bytes m n v w p q = ap wires_in (net_line_stands_for_one_thing bytes (Item m v) (Item n w) p q)

-- a line gives one net
one_net : (bytes : List ℕ) (m n : Net) → HasNet bytes m → HasNet bytes n → m ≡ n
one_net bytes m n p q i = record {
  nodes = same_nodes bytes m.nodes n.nodes m.wires n.wires p.item.meaning q.item.meaning i;
  wires = same_wires bytes m.nodes n.nodes m.wires n.wires p.item.meaning q.item.meaning i;
}

is_item : {m : ℕ} {v : List (ℕ × ℕ)} → Item m v ≡ Skip → ⊥
is_item e = cc

one_place : (bytes : List ℕ) (a b : ℕ) → IsNoNetLine bytes a → IsNoNetLine bytes b → a ≡ b
one_place bytes a b p q = omega (arith, p.1.longest b q.1.inside q.1.begins, q.1.longest a p.1.inside p.1.begins)

-- the first fault is one
one_first : (nodes : ℕ) (wires : List (ℕ × ℕ)) (a b : ℕ) → IsFirstFault nodes wires a → IsFirstFault nodes wires b → a ≡ b
one_first nodes wires a b p q = omega (
  arith,
  p.is,
  q.is,
  no_less p.before q.before (λ less. p.here (0, 0) (q.earlier p.before less (0, 0))),
  no_less q.before p.before (λ less. q.here (0, 0) (p.earlier q.before less (0, 0))),
)
  where
    no_less : (m n : ℕ) → (m < n → ⊥) → n ≤ m
    no_less m n h = grind (arith, h)

one_fault : (bytes : List ℕ) (f g : NetFault) → IsNetFaultOf f bytes → IsNetFaultOf g bytes → f ≡ g
one_fault bytes (fault.Text a) (fault.Text b) p q = ap fault.Text (one_place bytes a b p q)
one_fault bytes (fault.Text a) fault.Many p (m, v, is, long) = absurd (p.0 (Item m v, is))
one_fault bytes (fault.Text a) (fault.Nodes n) p (v, is, few, not) = absurd (p.0 (Item n v, is))
one_fault bytes (fault.Text a) (fault.Wire k) p (m, v, is, few, count, first) = absurd (p.0 (Item m v, is))
one_fault bytes fault.Many (fault.Text b) (m, v, is, long) q = absurd (q.0 (Item m v, is))
one_fault bytes fault.Many fault.Many p q = refl
one_fault bytes fault.Many (fault.Nodes n) (m, v, is, long) (w, is', few, not) =
    absurd (omega (arith, ap (λ (l : List (ℕ × ℕ)). length l) (same_wires bytes m n v w is is')))
one_fault bytes fault.Many (fault.Wire k) (m, v, is, long) (n, w, is', few, count, first) =
    absurd (omega (arith, ap (λ (l : List (ℕ × ℕ)). length l) (same_wires bytes m n v w is is')))
one_fault bytes (fault.Nodes m) (fault.Text b) (v, is, few, not) q = absurd (q.0 (Item m v, is))
one_fault bytes (fault.Nodes m) fault.Many (v, is, few, not) (n, w, is', long) =
    absurd (omega (arith, ap (λ (l : List (ℕ × ℕ)). length l) (same_wires bytes m n v w is is')))
one_fault bytes (fault.Nodes m) (fault.Nodes n) (v, is, few, not) (w, is', few', not') = ap fault.Nodes (same_nodes bytes m n v w is is')
one_fault bytes (fault.Nodes m) (fault.Wire k) (v, is, few, not) (n, w, is', few', count, first) =
    let same : m ≡ n = same_nodes bytes m n v w is is' in absurd (not (omega (arith, count.0), omega (arith, count.1)))
one_fault bytes (fault.Wire k) (fault.Text b) (m, v, is, few, count, first) q = absurd (q.0 (Item m v, is))
one_fault bytes (fault.Wire k) fault.Many (m, v, is, few, count, first) (n, w, is', long) =
    absurd (omega (arith, ap (λ (l : List (ℕ × ℕ)). length l) (same_wires bytes m n v w is is')))
one_fault bytes (fault.Wire k) (fault.Nodes n) (m, v, is, few, count, first) (w, is', few', not) =
    let same : m ≡ n = same_nodes bytes m n v w is is' in absurd (not (omega (arith, count.0), omega (arith, count.1)))
one_fault bytes (fault.Wire k) (fault.Wire l) (m, v, is, few, count, first) (n, w, is', few', count', first') =
    ap fault.Wire
    (one_first n w k l (subst (λ (x : List (ℕ × ℕ)). IsFirstFault n x k) (same_wires bytes m n v w is is')
    (subst (λ (x : ℕ). IsFirstFault x v k) (same_nodes bytes m n v w is is') first)) first')

-- a line that gives a net is at no fault
no_fault : (bytes : List ℕ) (net : Net) (f : NetFault) → HasNet bytes net → IsNetFaultOf f bytes → ⊥
no_fault bytes net (fault.Text a) has p = p.0 (Item net.nodes net.wires, has.item.meaning)
no_fault bytes net fault.Many has (m, v, is, long) =
    omega (arith, ap (λ (l : List (ℕ × ℕ)). length l) (same_wires bytes m net.nodes v net.wires is has.item.meaning), has.kept.few_wires)
no_fault bytes net (fault.Nodes m) has (v, is, few, not) =
    let same : m ≡ net.nodes =
    same_nodes bytes m net.nodes v net.wires is has.item.meaning in not (omega (arith, has.kept.is.some), omega (arith, has.kept.few_nodes))
no_fault bytes net (fault.Wire k) has (m, v, is, few, count, first) =
    at_wire (subst (λ (x : List (ℕ × ℕ)). IsFirstFault net.nodes x k) (same_wires bytes m net.nodes v net.wires is has.item.meaning)
    (subst (λ (x : ℕ). IsFirstFault x v k) (same_nodes bytes m net.nodes v net.wires is has.item.meaning) first))
  where
    at_wire : IsFirstFault net.nodes net.wires k → ⊥
    at_wire f = f.here (0, 0) (has.kept.is.ends f.before (0, 0) f.within)

-- a line without a net is at no fault
skip_no_fault : (bytes : List ℕ) (f : NetFault) → IsNetLine Skip bytes → IsNetFaultOf f bytes → ⊥
skip_no_fault bytes (fault.Text a) skip p = p.0 (Skip, skip)
skip_no_fault bytes fault.Many skip (m, v, is, long) = is_item (net_line_stands_for_one_thing bytes (Item m v) Skip is skip)
skip_no_fault bytes (fault.Nodes m) skip (v, is, few, not) = is_item (net_line_stands_for_one_thing bytes (Item m v) Skip is skip)
skip_no_fault bytes (fault.Wire k) skip (m, v, is, few, count, first) = is_item (net_line_stands_for_one_thing bytes (Item m v) Skip is skip)

-- a net has one answer
not_loose : (net : Net) (node : ℕ) → IsLeastLoose net node → HasNoLoose net → ⊥
not_loose net node l none = l.0.1 (none node l.0.0)

one_of_net : (net : Net) (pieces others : List (List ℕ)) (refused other : Bool) → AnswersNet net pieces refused → AnswersNet net others other
    → (pieces ≡ others) × (refused ≡ other)
one_of_net net pieces others refused other (loose a p) (loose b q) = (ap (λ (v : ℕ). refusal_line (Loose v) ∷ []) (omega (arith, p.1 b q.0, q.1 a p.0)), refl)
one_of_net net pieces others refused other (loose a p) (wide n w) = absurd (not_loose net a p n)
one_of_net net pieces others refused other (loose a p) (solved f n w p') = absurd (not_loose net a p n)
one_of_net net pieces others refused other (wide n w) (loose b q) = absurd (not_loose net b q n)
one_of_net net pieces others refused other (wide n w) (wide n' w') = (refl, refl)
one_of_net net pieces others refused other (wide n w) (solved f n' w' p') = absurd (w' w)
one_of_net net pieces others refused other (solved f n w p') (loose b q) = absurd (not_loose net b q n)
one_of_net net pieces others refused other (solved f n w p') (wide n' w') = absurd (w w')
one_of_net net pieces others refused other (solved f n w p') (solved g n' w' q') =
    let same = one_primitive net f.total g.total f.currents g.currents p' q' in ((λ i. flow_line (record { total = same.0 i; currents = same.1 i }) ∷ []), refl)

-- a network line has one answer at most
pub one_net_answer : (bytes : List ℕ) (pieces others : List (List ℕ)) (refused other : Bool) → AnswersNetLine bytes pieces refused
    → AnswersNetLine bytes others other → (pieces ≡ others) × (refused ≡ other)
one_net_answer bytes pieces others refused other (net_too_long l) (net_too_long m) = (refl, refl)
one_net_answer bytes pieces others refused other (net_too_long l) (no_net g s q) = absurd (omega arith)
one_net_answer bytes pieces others refused other (net_too_long l) (no_net_item q) = absurd (omega (arith, q.short))
one_net_answer bytes pieces others refused other (net_too_long l) (of_net n _ _ q b) = absurd (omega (arith, q.item.short))
one_net_answer bytes pieces others refused other (no_net f s p) (net_too_long m) = absurd (omega arith)
one_net_answer bytes pieces others refused other (no_net f s p) (no_net g s' q) =
    (ap (λ (z : NetFault). refusal_line (refused_net z) ∷ []) (one_fault bytes f g p q), refl)
one_net_answer bytes pieces others refused other (no_net f s p) (no_net_item q) = absurd (skip_no_fault bytes f q.meaning p)
one_net_answer bytes pieces others refused other (no_net f s p) (of_net n _ _ q b) = absurd (no_fault bytes n f q p)
one_net_answer bytes pieces others refused other (no_net_item p) (net_too_long m) = absurd (omega (arith, p.short))
one_net_answer bytes pieces others refused other (no_net_item p) (no_net g s q) = absurd (skip_no_fault bytes g p.meaning q)
one_net_answer bytes pieces others refused other (no_net_item p) (no_net_item q) = (refl, refl)
one_net_answer bytes pieces others refused other (no_net_item p) (of_net n _ _ q b) =
    absurd (is_item (net_line_stands_for_one_thing bytes (Item n.nodes n.wires) Skip q.item.meaning p.meaning))
one_net_answer bytes pieces others refused other (of_net m _ _ p a) (net_too_long l) = absurd (omega (arith, p.item.short))
one_net_answer bytes pieces others refused other (of_net m _ _ p a) (no_net g s q) = absurd (no_fault bytes m g p q)
one_net_answer bytes pieces others refused other (of_net m _ _ p a) (no_net_item q) =
    absurd (is_item (net_line_stands_for_one_thing bytes (Item m.nodes m.wires) Skip p.item.meaning q.meaning))
one_net_answer bytes pieces others refused other (of_net m _ _ p a) (of_net n _ _ q b) =
    one_of_net n pieces others refused other (subst (λ (z : Net). AnswersNet z pieces refused) (one_net bytes m n p q) a) b

-- a line that is too long is answered so, whatever it holds
pub long_net_answer : (bytes others : List ℕ) (pieces : List (List ℕ)) (refused : Bool) → 8192 < length bytes → 8192 < length others
    → AnswersNetLine bytes pieces refused → AnswersNetLine others pieces refused
long_net_answer bytes others pieces refused long longer (net_too_long l) = net_too_long longer
long_net_answer bytes others pieces refused long longer (no_net f s p) = absurd (omega arith)
long_net_answer bytes others pieces refused long longer (no_net_item p) = absurd (omega (arith, p.short))
long_net_answer bytes others pieces refused long longer (of_net n _ _ p a) = absurd (omega (arith, p.item.short))
