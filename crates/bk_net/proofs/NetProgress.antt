-- How far a network line was read, with the wires that are kept.
use Rattle.std.specs.Prelude.{Bool, Err, IfErr, IfOk, List, None, Ok, Result, Some, [], false, length, take, ℕ, ◌++◌, ◌+◌, ◌<◌, ◌∷◌, ◌≡◌, ◌≤◌}
use Rattle.std.proofs.Common.{ap, append_assoc, arith, get_or, refl, subst, sym, ◌∙◌}
use Rattle.std.proofs.lemmas.Bool.{false≢true}
use Rattle.std.proofs.lemmas.List.{take_all, take_more}
use Rattle.bk_net.specs.GatheredWires.{IsNoNet, KeepsWires, and_wire}
use Rattle.bk_net.specs.NetLine.{IsNetLine, IsNoNetLine, Item, NetLine, Skip}
use Rattle.bk_net.specs.ReadNet.{IsNetFaultOf, net_line_of}
use Rattle.bk_net.specs.NetReading.{ended_wire, last_wire, net_ending_at, net_kind_of, next_net_place}
use Rattle.bk_net.specs.declared.NetFault.{NetFault}
use Rattle.bk_net.specs.declared.NetFault.TheVariants.{Many, Nodes as NodesFault, Text, Wire}
use Rattle.bk_net.specs.declared.NetLine.{NetLine as NetLineRead}
use Rattle.bk_net.specs.declared.reader.NetEnding.{NetEnding}
use Rattle.bk_net.specs.declared.reader.NetEnding.TheVariants.{Empty, Nodes}
use Rattle.bk_net.specs.declared.reader.Place.{Place}
use Rattle.bk_net.specs.declared.reader.Place.TheVariants.{Start}
use Rattle.bk_net.proofs.NetLinesMeant.{what_is_read_is_a_net_line}
use Rattle.bk_net.proofs.NetStopping.{LeadsToWires, net_read_where_the_bytes_end, no_net_line_where_bytes_end_early, no_net_line_where_no_place_is_next}
use Rattle.bk_net.proofs.ReadingAll.{net_line_by_its_ending, net_line_where_one_may_end, net_read_from, net_read_of_a_further_byte}

-- the bytes read so far lead to this place with these wires, of which the first are kept
pub record Progress (front : List ℕ) (p : Place) (kept : List (ℕ × ℕ)) (many : Bool) : Type 0 where
  pub all : List (ℕ × ℕ)
  pub leads : LeadsToWires front p all
  pub keeps : KeepsWires all kept many

-- before the first byte
pub progress_before_the_first_byte : (kept : List (ℕ × ℕ)) → kept ≡ [] → Progress [] Start kept false
progress_before_the_first_byte kept none = record { all = []; leads = λ x. refl; keeps = record { same = λ h. none; more = λ h. absurd (false≢true h) } }

-- behind a further byte
pub progress_more : (bs : List ℕ) (i : ℕ) (p q : Place) (kept next_kept : List (ℕ × ℕ)) (many next_many : Bool) → i < length bs
    → Progress (take i bs) p kept many → next_net_place p (net_kind_of (get_or bs i 0)) ≡ Some q
    → ((all : List (ℕ × ℕ)) → KeepsWires all kept many → KeepsWires (and_wire (ended_wire p (net_kind_of (get_or bs i 0))) all) next_kept next_many)
    → Progress (take (i + 1) bs) q next_kept next_many
progress_more bs i p q kept next_kept many next_many within progress next keeps =
    let b = get_or bs i 0 in
    let wires = and_wire (ended_wire p (net_kind_of b)) progress.all in record {
      all = wires;
      leads = λ x.
          ap (λ front. net_read_from (front ++ x) Start []) (take_more bs i 0 within)
          ∙ ap (λ z. net_read_from z Start []) (append_assoc (take i bs) (b ∷ []) x)
          ∙ progress.leads (b ∷ x)
          ∙ net_read_of_a_further_byte p q (net_kind_of b) progress.all wires b x refl next refl;
      keeps = keeps progress.all progress.keeps;
    }

-- where the reader stops, the bytes leave the grammar
pub no_net_line_where_the_reader_stops : (bs : List ℕ) (i : ℕ) (p : Place) (kept : List (ℕ × ℕ)) (many : Bool) → i < length bs
    → Progress (take i bs) p kept many
    → next_net_place p (net_kind_of (get_or bs i 0)) ≡ None → IsNoNetLine bs i
no_net_line_where_the_reader_stops bs i p kept many within progress none = no_net_line_where_no_place_is_next bs i p progress.all within progress.leads none

-- where a line can't end, its bytes leave the grammar at their end
pub no_net_line_where_none_may_end : (bs : List ℕ) (p : Place) (kept : List (ℕ × ℕ)) (many : Bool) → Progress bs p kept many → net_ending_at p ≡ None
    → IsNoNetLine bs (length bs)
no_net_line_where_none_may_end bs p kept many progress none = no_net_line_where_bytes_end_early bs p progress.all progress.leads none

-- the whole line was read
pub progress_all : (bs : List ℕ) (i : ℕ) (p : Place) (kept : List (ℕ × ℕ)) (many : Bool) → length bs ≤ i → Progress (take i bs) p kept many
    → Progress bs p kept many
progress_all bs i p kept many all progress = subst (λ (z : List ℕ). Progress z p kept many) (take_all i bs all) progress

-- at an end the bytes are a line
whole_line : (bs : List ℕ) (p : Place) (ws : List (ℕ × ℕ)) (ending : NetEnding) → LeadsToWires bs p ws → net_ending_at p ≡ Some ending
    → IsNetLine (net_line_by_its_ending ending (and_wire (last_wire p) ws)) bs
whole_line bs p ws ending leads e =
    what_is_read_is_a_net_line bs (net_line_by_its_ending ending (and_wire (last_wire p) ws))
    (net_read_where_the_bytes_end bs p ws leads ∙ ap (λ o. net_line_where_one_may_end o (and_wire (last_wire p) ws)) e)

-- a line that ends without a number of nodes stands for nothing
pub skip_found : (bs : List ℕ) (p : Place) (kept : List (ℕ × ℕ)) (many : Bool) → Progress bs p kept many → net_ending_at p ≡ Some Empty → IsNetLine Skip bs
skip_found bs p kept many progress e = whole_line bs p progress.all Empty progress.leads e

-- all wires of a line of so many nodes, and what is kept of them
pub record HasWires (bs : List ℕ) (nodes : ℕ) (kept : List (ℕ × ℕ)) (many : Bool) : Type 0 where
  pub wires : List (ℕ × ℕ)
  pub line : IsNetLine (Item nodes wires) bs
  pub keeps : KeepsWires wires kept many

-- a line that ends behind its numbers has all its wires, of which the reader kept some
pub wires_found : (bs : List ℕ) (p : Place) (kept last_kept : List (ℕ × ℕ)) (many last_many : Bool) (nodes : ℕ) → Progress bs p kept many
    → net_ending_at p ≡ Some (Nodes nodes)
    → ((all : List (ℕ × ℕ)) → KeepsWires all kept many → KeepsWires (and_wire (last_wire p) all) last_kept last_many) → HasWires bs nodes last_kept last_many
wires_found bs p kept last_kept many last_many nodes progress e keeps =
    record {
      wires = and_wire (last_wire p) progress.all;
      line = whole_line bs p progress.all (Nodes nodes) progress.leads e;
      keeps = keeps progress.all progress.keeps;
    }

-- the kept wires are all of them
all_kept : (bs : List ℕ) (nodes : ℕ) (kept : List (ℕ × ℕ)) (many : Bool) → HasWires bs nodes kept many → many ≡ false → IsNetLine (Item nodes kept) bs
all_kept bs nodes kept many h few = subst (λ (ws : List (ℕ × ℕ)). IsNetLine (Item nodes ws) bs) (sym (h.keeps.same few)) h.line

-- where the wires that are kept are all, what is told of the line is what it stands for
pub item_is : (r : Result NetLineRead NetFault) (bs : List ℕ) (nodes : ℕ) (kept : List (ℕ × ℕ)) (many : Bool) → HasWires bs nodes kept many
    → IfOk r (λ l. many ≡ false) → IfOk r (λ l. net_line_of l ≡ Item nodes kept)
    → IfOk r (λ l. IsNetLine (net_line_of l) bs)
item_is (Ok l) bs nodes kept many h few is = subst (λ (z : NetLine). IsNetLine z bs) (sym is) (all_kept bs nodes kept many h few)
item_is (Err fault) bs nodes kept many h few is = tt

one_fault : (fault : NetFault) (bs : List ℕ) (nodes : ℕ) (kept : List (ℕ × ℕ)) (many : Bool) → HasWires bs nodes kept many → length kept ≤ 200
    → IsNoNet nodes many kept fault → IsNetFaultOf fault bs
one_fault (Text at) bs nodes kept many h few none = absurd none
one_fault Many bs nodes kept many h few none = (nodes, h.wires, h.line, h.keeps.more none)
one_fault (NodesFault count) bs nodes kept many h few none = (
  kept,
  subst (λ (n : ℕ). IsNetLine (Item n kept) bs) (sym none.1) (all_kept bs nodes kept many h none.0),
  few,
  λ is. none.2 (omega (arith, is.0, none.1), omega (arith, is.1, none.1)),
)
one_fault (Wire place) bs nodes kept many h few none = (nodes, kept, all_kept bs nodes kept many h none.0, few, none.1, none.2)

-- a network line that is refused has the fault that is told
pub told_net_fault_is_the_fault : (r : Result NetLineRead NetFault) (bs : List ℕ) (nodes : ℕ) (kept : List (ℕ × ℕ)) (many : Bool) → HasWires bs nodes kept many
    → length kept ≤ 200 → IfErr r (IsNoNet nodes many kept) → IfErr r (λ fault. IsNetFaultOf fault bs)
told_net_fault_is_the_fault (Ok l) bs nodes kept many h few none = tt
told_net_fault_is_the_fault (Err fault) bs nodes kept many h few none = one_fault fault bs nodes kept many h few none
