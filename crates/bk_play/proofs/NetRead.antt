-- The net of a word, read from what a skeleton stores.
use Rattle.std.specs.List.{concat}
use Rattle.std.proofs.Common.{List, ap, arith, length, map, slice_index, subst, sum, sym, take, zip, ℕ, ◌++◌, ◌+◌, ◌<◌, ◌∙◌, ◌≡◌}
use Rattle.std.proofs.lemmas.List.{length-take-le}
use Rattle.std.proofs.lemmas.List.Elements.{recursion_from_All}
use Rattle.bk_net.specs.Net.{Net}
use Rattle.bk_word.specs.Outline.{start}
use Rattle.bk_word.specs.Play.{IsComplete, numbers_from, outline_of}
use Rattle.bk_word.specs.Word.{Word, order_of}
use Rattle.bk_word_net.proofs.Outlines.Numbering.{numbered_moves, numbered_start}
use Rattle.bk_word_net.proofs.WordFlows.NoLoose.{a_word_net_has_no_loose, closed_count}
use Rattle.bk_play.proofs.RecordCounts.{closed_sizes}
use Rattle.bk_play.proofs.SkelReads.{counted_in}
use Rattle.bk_play.proofs.StoredMoves.{records_many}
use Rattle.bk_play.specs.Skeleton.{IsStoredSkeleton, SkeletonLists}
use Rattle.bk_play.specs.Wiring.{AreWires, closed_of, hung_and_closed, move_wires_from}
use Rattle.bk_word_net.specs.WordNet.{end_of, net_of_word}
use Rattle.bk_play.specs.declared.records.MoveRecord.{MoveRecord}
use Rattle.bk_play.proofs.RecordCounts.{counts_records, counts_sum}
use Rattle.bk_play.proofs.HungWires.{nodes_from, hung_nodes, zip_nodes}
use Rattle.bk_play.proofs.EndsRead.{ends_read_are_those_of_the_outline}

-- the net of a complete word, as it is read
pub record ReadsNet (w : Word) (records : List MoveRecord) (ends : List ℕ) : Type 0 where
  pub all : length ends ≡ sum (hung_and_closed records)
  pub wires : AreWires (length records + 1) (move_wires_from 0 (hung_and_closed records) ends)
  pub net : (record { nodes = length records + 1; wires = move_wires_from 0 (hung_and_closed records) ends }) ≡ net_of_word w

-- of a complete word, the records and the nodes where the squares end are the net of the word
pub reads_net : {w : Word} {lists : SkeletonLists}
    → IsStoredSkeleton w lists → IsComplete w → (ended : List ℕ) (n : ℕ) → n ≡ order_of w → length ended ≡ 200
    → ((k : ℕ) → k < 200 → slice_index ended k ≡ end_of (outline_of w).closed (k + 1)) → ReadsNet w lists.records (take n ended)
reads_net {w = w} {lists = lists} s complete ended n order long read =
    record { all = all; wires = subst (λ (m : Net). AreWires m.nodes m.wires) (sym net) good; net = net }
  where
    hung : length (outline_of w).hung ≡ order_of w
    hung = (counted_in s).hung

    counts : hung_and_closed lists.records ≡ map (λ m. m.count) w
    counts = ap hung_and_closed s.records_are ∙ counts_records start 0 w

    all : length (take n ended) ≡ sum (hung_and_closed lists.records)
    all = length-take-le n ended (omega (arith, order, (s.kept).few)) ∙ order ∙ sym (ap sum counts ∙ counts_sum w)

    ends_are : take n ended ≡ map (end_of ((outline_of w).closed ++ (outline_of w).segments)) (numbers_from 1 (length (outline_of w).hung))
    ends_are = ends_read_are_those_of_the_outline (outline_of w) n ended (numbered_moves start w numbered_start) complete.one (order ∙ sym hung)
        (omega (arith, order, (s.kept).few)) long read
        ∙ ap (λ k. map (end_of ((outline_of w).closed ++ (outline_of w).segments)) (numbers_from 1 k)) (order ∙ sym hung)

    nodes : length lists.records ≡ length (outline_of w).closed
    nodes = omega (arith, ap length s.records_are, records_many start 0 w, closed_count start w)

    wires_are : move_wires_from 0 (hung_and_closed lists.records) (take n ended)
        ≡ zip (outline_of w).hung (map (end_of ((outline_of w).closed ++ (outline_of w).segments)) (numbers_from 1 (length (outline_of w).hung)))
    wires_are = sym (zip_nodes 0 (hung_and_closed lists.records) (take n ended) all) ∙ (λ i. zip (nodes_from 0 (counts i)) (ends_are i))
        ∙ ap (λ (l : List ℕ). zip l (map (end_of ((outline_of w).closed ++ (outline_of w).segments))
        (numbers_from 1 (length (outline_of w).hung)))) (sym (hung_nodes start w))

    net : (record { nodes = length lists.records + 1; wires = move_wires_from 0 (hung_and_closed lists.records) (take n ended) }) ≡ net_of_word w
    net = λ i. record { nodes = nodes i + 1; wires = wires_are i }

    good : AreWires (net_of_word w).nodes (net_of_word w).wires
    good = recursion_from_All (λ (v : ℕ × ℕ). (v.0 < (net_of_word w).nodes) × (v.1 < (net_of_word w).nodes) × (v.0 ≡ v.1 → ⊥))
        (net_of_word w).wires ((a_word_net_has_no_loose w complete).0).ends

-- the records and nodes that a skeleton shows of a complete word are the net of the word, where these are read of it
pub reads_shown : {w now : Word} {lists : SkeletonLists}
    {first again : List MoveRecord} {read : List ℕ}
    → IsStoredSkeleton w lists → w ≡ now → IsComplete now → first ≡ lists.records → read ≡ lists.closed → again ≡ lists.records
    → (ended : List ℕ) (open_ones closed_ones : ℕ) → open_ones ≡ length lists.ends → closed_ones ≡ length lists.closed → length ended ≡ 200
    → ((groups : List (List ℕ)) → read ≡ concat groups → closed_of first ≡ map length groups
    → (k : ℕ) → k < 200 → slice_index ended k ≡ end_of groups (k + 1))
    → ReadsNet now again (take (open_ones + closed_ones) ended)
reads_shown {w = w} {lists = lists} s shown complete e f g ended open_ones closed_ones many rest long read =
    subst (λ (p : Word × List MoveRecord). ReadsNet p.0 p.1 (take (open_ones + closed_ones) ended)) (λ i. (shown i, sym g i))
    (reads_net s (subst IsComplete (sym shown) complete) ended (open_ones + closed_ones) (omega (arith, many, rest, (counted_in s).all)) long
    (read (outline_of w).closed (f ∙ (s.shows).closed_are) (ap closed_of e ∙ closed_sizes s)))
