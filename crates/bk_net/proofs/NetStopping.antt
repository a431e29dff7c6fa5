-- Where the reader of a network line stops, and that it stops right there.
use Rattle.std.specs.Prelude.{List, None, Option, Some, [], codes, length, option_and_then, refl, take, ℕ, ◌++◌, ◌<◌, ◌∷◌, ◌≡◌}
use Rattle.std.proofs.Common.{ap, get_or, sym, ◌∙◌}
use Rattle.std.proofs.lemmas.List.{append-nil}
use Rattle.bk_grammar.proofs.Leaving.{leaves_at_end, leaves_before}
use Rattle.bk_grammar.specs.Longest.{Begins}
use Rattle.bk_net.specs.GatheredWires.{and_wire}
use Rattle.bk_net.specs.NetLine.{IsNetLine, IsNoNetLine, NetLine, SomeNetLine}
use Rattle.bk_net.specs.NetReading.{ended_wire, last_wire, net_ending_at, net_kind_of, next_net_place}
use Rattle.bk_net.specs.declared.reader.Place.{Place}
use Rattle.bk_net.specs.declared.reader.Place.TheVariants.{BehindDash, Between, Comment as InComment, Count, First, Second, Start}
use Rattle.bk_net.proofs.NetLinesMeant.{what_is_read_is_a_net_line}
use Rattle.bk_net.proofs.NetLinesRead.{net_line_is_read}
use Rattle.bk_net.proofs.ReadingAll.{net_line_where_one_may_end, net_read_from}

abbrev Found : Option NetLine → Type 0
Found None = ⊥
Found (Some l) = Unit {0}

found : (o : Option NetLine) → Found o → (l : NetLine) × (o ≡ Some l)
found None h = absurd h
found (Some l) h = (l, refl)

-- from each place some bytes complete a line
completion : (p : Place) (ws : List (ℕ × ℕ)) → (text : List ℕ) × Found (net_read_from text p ws)
completion Start ws = ([], tt)
completion (Count n) ws = ([], tt)
completion (Between n) ws = ([], tt)
completion (First n a) ws = (codes "-0", tt)
completion (BehindDash n a) ws = (codes "0", tt)
completion (Second n a b) ws = ([], tt)
completion (InComment ending) ws = ([], tt)

-- behind the front of a line the reader stands at this place, with these wires
abbrev pub LeadsToWires : List ℕ → Place → List (ℕ × ℕ) → Type 0
LeadsToWires front p ws = (x : List ℕ) → net_read_from (front ++ x) Start [] ≡ net_read_from x p ws

-- a front that leads to a place begins a line
begins : (front : List ℕ) (p : Place) (ws : List (ℕ × ℕ)) → LeadsToWires front p ws → Begins SomeNetLine front
begins front p ws leads =
    let c = completion p ws in
    let l = found (net_read_from c.0 p ws) c.1 in
    (c.0, (l.0, what_is_read_is_a_net_line (front ++ c.0) l.0 (leads c.0 ∙ l.1)))

-- a byte behind which there is no place begins no rest of a line
no_more : (front : List ℕ) (p : Place) (ws : List (ℕ × ℕ)) (b : ℕ) (x : List ℕ) → LeadsToWires front p ws → next_net_place p (net_kind_of b) ≡ None
    → ¬ (SomeNetLine (front ++ b ∷ x))
no_more front p ws b x leads none (l, line) =
    let read' : net_read_from (b ∷ x) p ws ≡ Some l = sym (leads (b ∷ x)) ∙ net_line_is_read l (front ++ b ∷ x) line in
    let stopped : net_read_from (b ∷ x) p ws ≡ None =
    ap (λ next. option_and_then (λ q. net_read_from x q (and_wire (ended_wire p (net_kind_of b)) ws)) next) none in
    absurd (cc)

-- the bytes leave the grammar where the reader has no place for the next one
pub no_net_line_where_no_place_is_next : (bs : List ℕ) (at : ℕ) (p : Place) (ws : List (ℕ × ℕ)) → at < length bs → LeadsToWires (take at bs) p ws
    → next_net_place p (net_kind_of (get_or bs at 0)) ≡ None → IsNoNetLine bs at
no_net_line_where_no_place_is_next bs at p ws within leads none =
    leaves_before SomeNetLine bs at within (begins (take at bs) p ws leads) (λ x. no_more (take at bs) p ws (get_or bs at 0) x leads none)

-- at the end of the bytes the reader has read what the place and the wires tell
pub net_read_where_the_bytes_end : (bs : List ℕ) (p : Place) (ws : List (ℕ × ℕ)) → LeadsToWires bs p ws
    → net_read_from bs Start [] ≡ net_line_where_one_may_end (net_ending_at p) (and_wire (last_wire p) ws)
net_read_where_the_bytes_end bs p ws leads = ap (λ z. net_read_from z Start []) (sym (append-nil bs)) ∙ leads []

-- bytes that end where no line may end leave the grammar at their end
pub no_net_line_where_bytes_end_early : (bs : List ℕ) (p : Place) (ws : List (ℕ × ℕ)) → LeadsToWires bs p ws → net_ending_at p ≡ None
    → IsNoNetLine bs (length bs)
no_net_line_where_bytes_end_early bs p ws leads none = leaves_at_end SomeNetLine bs (begins bs p ws leads) no_line
  where
    no_line : ¬ (SomeNetLine bs)
    no_line (l, line) =
        let read' : net_read_from [] p ws ≡ Some l = sym (net_read_where_the_bytes_end bs p ws leads) ∙ net_line_is_read l bs line in
        let stopped : net_read_from [] p ws ≡ None = ap (λ e. net_line_where_one_may_end e (and_wire (last_wire p) ws)) none in
        absurd (cc)

-- a network line stands for one thing only
pub net_line_stands_for_one_thing : (bs : List ℕ) (l m : NetLine) → IsNetLine l bs → IsNetLine m bs → l ≡ m
net_line_stands_for_one_thing bs l m a b =
    let first : net_read_from bs Start [] ≡ Some l = net_line_is_read l bs a in
    let second : net_read_from bs Start [] ≡ Some m = net_line_is_read m bs b in
    cc
