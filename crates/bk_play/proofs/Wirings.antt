-- Wires that are appended node by node.
use Rattle.std.specs.List.{concat, list_any}
use Rattle.std.proofs.Common.{List, [], ap, arith, cond, drop, get_or, length, map, nat_eq, refl, replicate, slice_index, subst, suc, sum, sym, take}
use Rattle.std.proofs.Common.{zero, ℕ, ◌++◌, ◌+◌, ◌-◌, ◌<◌, ◌∙◌, ◌∷◌, ◌≡◌, ◌≤◌}
use Rattle.std.proofs.lemmas.List.{append_assoc, drop_all, length-map}
use Rattle.std.proofs.lemmas.List.Sums.{sum_by-cons}
use Rattle.bk_laws.proofs.ListItems.{slice_index_or-replicate}
use Rattle.bk_laws.proofs.Sums.{sum-take_suc}
use Rattle.bk_play.proofs.EndNodes.{marked_node}
use Rattle.bk_play.specs.Wiring.{AreWires, closed_of, hung_and_closed, move_wires_from}
use Rattle.bk_word_net.specs.WordNet.{end_of}
use Rattle.bk_play.specs.declared.records.MoveRecord.{MoveRecord}

-- the record that stands for none
abbrev pub no_record : MoveRecord
no_record = record { place = 0; first = 0; left = 0; closed = 0; right = 0; count = 0; parted = 0; from = 0; to = 0 }

-- wires from one node lead to other nodes that are there
pub wires_from_a_node_lead_to_other_nodes : (nodes node : ℕ) (ends : List ℕ) (i : ℕ) → i < length ends → AreWires nodes (map (λ e. (node, e)) ends)
    → (get_or ends i 0 < nodes) × (node ≡ get_or ends i 0 → ⊥)
wires_from_a_node_lead_to_other_nodes nodes node [] i h all = absurd (omega arith)
wires_from_a_node_lead_to_other_nodes nodes node (e ∷ ends) zero h all = ((all.0).1, (all.0).2)
wires_from_a_node_lead_to_other_nodes nodes node (e ∷ ends) (suc i) h all = wires_from_a_node_lead_to_other_nodes nodes node ends i (omega arith) all.1

wires_front : (nodes : ℕ) (front back : List (ℕ × ℕ)) → AreWires nodes (front ++ back) → AreWires nodes front
wires_front nodes [] back all = tt
wires_front nodes (w ∷ front) back all = (all.0, wires_front nodes front back all.1)

wires_back : (nodes : ℕ) (front back : List (ℕ × ℕ)) → AreWires nodes (front ++ back) → AreWires nodes back
wires_back nodes [] back all = all
wires_back nodes (w ∷ front) back all = wires_back nodes front back all.1

-- the records from a place on: the one there, and those behind it
pub drop_record : (records : List MoveRecord) (node : ℕ) (d : MoveRecord) → node < length records
    → drop node records ≡ get_or records node d ∷ drop (suc node) records
drop_record [] node d h = absurd (omega arith)
drop_record (t ∷ records) zero d h = refl
drop_record (t ∷ records) (suc node) d h = drop_record records node d (omega arith)

-- the wires from one node, and those behind
pub next_wires : (records : List MoveRecord) (rest : List ℕ) (node : ℕ) (d : MoveRecord) → node < length records
    → move_wires_from node (hung_and_closed (drop node records)) rest ≡ map (λ e. (node, e)) (take (get_or records node d).count rest)
    ++ move_wires_from (node + 1) (hung_and_closed (drop (node + 1) records)) (drop (get_or records node d).count rest)
next_wires records rest node d h = let more : suc node ≡ node + 1 = omega arith in
    ap (λ (l : List MoveRecord). move_wires_from node (hung_and_closed l) rest) (drop_record records node d h)
    ∙ (λ i. map (λ e. (node, e)) (take (get_or records node d).count rest)
    ++ move_wires_from (node + 1) (hung_and_closed (drop (more i) records)) (drop (get_or records node d).count rest))

-- the squares that hang from a node and from those behind it are those of the node and those of the others
pub next_count : (records : List MoveRecord) (node : ℕ) (d : MoveRecord) → node < length records
    → sum (hung_and_closed (drop node records)) ≡ (get_or records node d).count + sum (hung_and_closed (drop (node + 1) records))
next_count records node d h = let more : suc node ≡ node + 1 = omega arith in
    ap (λ (l : List MoveRecord). sum (hung_and_closed l)) (drop_record records node d h)
    ∙ sum_by-cons (λ (n : ℕ). n) (get_or records node d).count (hung_and_closed (drop (suc node) records))
    ∙ ap (λ n. (get_or records node d).count + sum (hung_and_closed (drop n records))) more

-- what the wires from one node are known to be
pub wires_here : (nodes most : ℕ) (all had : List (ℕ × ℕ)) (records : List MoveRecord) (rest own : List ℕ) (node count : ℕ) (d : MoveRecord)
    → node < length records → AreWires most all → nodes ≡ most
    → all ≡ had ++ move_wires_from node (hung_and_closed (drop node records)) rest → count ≡ (get_or records node d).count → own ≡ take count rest
    → AreWires nodes (map (λ e. (node, e)) own)
wires_here nodes most all had records rest own node count d h good same whole e f =
    subst (λ (n : ℕ). AreWires n (map (λ e. (node, e)) own)) (sym same)
    (subst (λ (l : List ℕ). AreWires most (map (λ e. (node, e)) l)) (sym (f ∙ ap (λ n. take n rest) e))
    (wires_front most (map (λ e. (node, e)) (take (get_or records node d).count rest))
    (move_wires_from (node + 1) (hung_and_closed (drop (node + 1) records)) (drop (get_or records node d).count rest))
    (subst (AreWires most) (next_wires records rest node d h)
    (wires_back most had (move_wires_from node (hung_and_closed (drop node records)) rest) (subst (AreWires most) whole good)))))

-- the wires so far with those from one node, and the wires from the nodes behind it, are all
pub wires_with_those_from_one_node_more : (all had new : List (ℕ × ℕ)) (records : List MoveRecord) (rest own behind : List ℕ) (node count : ℕ) (d : MoveRecord)
    → node < length records
    → all ≡ had ++ move_wires_from node (hung_and_closed (drop node records)) rest → count ≡ (get_or records node d).count → own ≡ take count rest
    → behind ≡ drop count rest → new ≡ had ++ map (λ e. (node, e)) own
    → all ≡ new ++ move_wires_from (node + 1) (hung_and_closed (drop (node + 1) records)) behind
wires_with_those_from_one_node_more all had new records rest own behind node count d h whole e f g put =
    whole ∙ ap (λ (l : List (ℕ × ℕ)). had ++ l) (next_wires records rest node d h)
    ∙ sym (append_assoc had (map (λ e. (node, e)) (take (get_or records node d).count rest))
    (move_wires_from (node + 1) (hung_and_closed (drop (node + 1) records)) (drop (get_or records node d).count rest)))
    ∙ (λ i. (had ++ map (λ e. (node, e)) (owns i)) ++ move_wires_from (node + 1) (hung_and_closed (drop (node + 1) records)) (behinds i))
    ∙ ap (λ (l : List (ℕ × ℕ)). l ++ move_wires_from (node + 1) (hung_and_closed (drop (node + 1) records)) behind) (sym put)
  where
    owns : take (get_or records node d).count rest ≡ own
    owns = sym (f ∙ ap (λ n. take n rest) e)

    behinds : drop (get_or records node d).count rest ≡ behind
    behinds = sym (g ∙ ap (λ n. drop n rest) e)

-- the number that a record has at its place
pub closed_at : (records : List MoveRecord) (node : ℕ) (d : MoveRecord) → node < length records
    → slice_index (closed_of records) node ≡ (get_or records node d).closed
closed_at [] node d h = absurd (omega arith)
closed_at (t ∷ records) zero d h = refl
closed_at (t ∷ records) (suc node) d h = closed_at records node d (omega arith)

-- the nodes at which squares end, where none is closed yet
pub none_marked : (records : List MoveRecord) (lists : List (List ℕ)) (ended : List ℕ) (k : ℕ) → ended ≡ replicate 200 (length records)
    → closed_of records ≡ map length lists → k < 200
    → slice_index ended k ≡ length records + end_of (drop (length records) lists) (k + 1)
none_marked records lists ended k e long h = ap (λ (l : List ℕ). slice_index l k) e ∙ slice_index_or-replicate 200 (length records) k 0 h
    ∙ omega (arith, ap (λ (l : List (List ℕ)). end_of l (k + 1)) none)
  where
    none : drop (length records) lists ≡ []
    none = drop_all (length records) lists (omega (arith, ap length long, length-map records (λ (t : MoveRecord). t.closed), length-map lists (length {A = ℕ})))

-- the squares that one node closes
pub closed_next : (records : List MoveRecord) (node count end : ℕ) (d : MoveRecord) → 0 < node → node ≤ length records
    → count ≡ (get_or records (node - 1) d).closed → end ≡ sum (take node (closed_of records)) → end ≡ sum (take (node - 1) (closed_of records)) + count
closed_next records zero count end d some within e at = absurd (omega arith)
closed_next records (suc node) count end d some within e at =
    omega (
      arith,
      at,
      e,
      sum-take_suc (closed_of records) node (omega (arith, length-map records (λ (t : MoveRecord). t.closed))),
      closed_at records node d (omega arith),
      same,
      gets,
    )
  where
    back : suc node - 1 ≡ node
    back = omega arith

    same : sum (take (suc node - 1) (closed_of records)) ≡ sum (take node (closed_of records))
    same = ap (λ n. sum (take n (closed_of records))) back

    gets : (get_or records (suc node - 1) d).closed ≡ (get_or records node d).closed
    gets = ap (λ n. (get_or records n d).closed) back

-- with the squares that one more node closes marked, each square up to there has the node where it ends
pub mark_next : (records : List MoveRecord) (lists : List (List ℕ)) (closed ended new : List ℕ) (node count end k : ℕ) (d : MoveRecord) → 0 < node
    → node ≤ length records → count ≡ (get_or records (node - 1) d).closed → end ≡ sum (take node (closed_of records))
    → closed ≡ concat lists → closed_of records ≡ map length lists
    → slice_index new k ≡ cond (list_any (nat_eq (k + 1)) (take (end - (end - count)) (drop (end - count) closed))) (node - 1) (slice_index ended k)
    → slice_index ended k ≡ node + end_of (drop node lists) (k + 1) → slice_index new k ≡ node - 1 + end_of (drop (node - 1) lists) (k + 1)
mark_next records lists closed ended new zero count end k d some within e at flat long marked before = absurd (omega arith)
mark_next records lists closed ended new (suc node) count end k d some within e at flat long marked before =
    subst (λ (n : ℕ). slice_index new k ≡ n + end_of (drop n lists) (k + 1)) (sym back)
    (marked_node lists closed (closed_of records) node (end - count) end (k + 1) (slice_index ended k) (slice_index new k) flat long
    (omega (arith, length-map records (λ (t : MoveRecord). t.closed)))
    (omega (arith, closed_next records (suc node) count end d some within e at, ap (λ n. sum (take n (closed_of records))) back)) at
    (marked ∙ ap (λ n. cond (list_any (nat_eq (k + 1)) (take (end - (end - count)) (drop (end - count) closed))) n (slice_index ended k)) back) before)
  where
    back : suc node - 1 ≡ node
    back = omega arith
