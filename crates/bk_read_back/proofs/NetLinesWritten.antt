-- The line that is written of a net is a network line that stands for the net.
use Rattle.std.specs.Fmt.{digits}
use Rattle.std.specs.List.{AllByRecursion}
use Rattle.std.specs.Prelude.{List, [], codes, decimal, flat_map, length, map, ℕ, ◌*◌, ◌++◌, ◌+◌, ◌<◌, ◌∷◌, ◌≡◌, ◌≤◌, ◌⊎◌}
use Rattle.std.proofs.Common.{ap, append_assoc, arith, inl, inr, length-append, refl, sym, ◌∙◌}
use Rattle.std.proofs.lemmas.Grind.{flat_map-append}
use Rattle.std.proofs.lemmas.List.Elements.{recursion_from_All}
use Rattle.bk_grammar.proofs.NumberLaws.{number_from_decimal}
use Rattle.bk_laws.proofs.NumberOrder.{zero_or_positive}
use Rattle.bk_net.specs.KeptNet.{IsKeptNet}
use Rattle.bk_net.specs.Net.{Net}
use Rattle.bk_net.specs.NetLine.{NodeNumber, Wire, Wires}
use Rattle.bk_report.proofs.Spaces.{blanks_before, short_place}
use Rattle.bk_report.specs.Answers.{net_words, spaced, wire_text}
use Rattle.bk_read_back.specs.NetReadBack.{AWrittenNetIsRead}

-- pieces with a blank before each
abbrev pub blanked : List (List ℕ) → List ℕ
blanked pieces = flat_map (λ l. 32 ∷ l) pieces

zero_text : decimal 0 ≡ codes "0"
unfolding digits
zero_text = refl

node_spelled : (n : ℕ) → n ≤ 201 → NodeNumber n (decimal n)
node_spelled n few = cases (zero_or_positive n)
  where
    cases : (n ≡ 0) ⊎ (0 < n) → NodeNumber n (decimal n)
    cases (inl none) = inl (ap decimal none ∙ zero_text, none)
    cases (inr some) = inr (number_from_decimal 3 n (omega arith) (omega arith) some (omega (arith, few)) (omega (arith, few)))

wire_spelled : (w : ℕ × ℕ) → w.0 ≤ 201 → w.1 ≤ 201 → Wire w (wire_text w)
wire_spelled w from to = (
  decimal w.0,
  codes "-" ++ decimal w.1,
  append_assoc (decimal w.0) (codes "-") (decimal w.1),
  node_spelled w.0 from,
  (codes "-", decimal w.1, refl, refl, node_spelled w.1 to),
)

wires_spelled : (nodes : ℕ) (ws : List (ℕ × ℕ)) → nodes ≤ 201 → AllByRecursion (λ w. (w.0 < nodes) × (w.1 < nodes) × (w.0 ≡ w.1 → ⊥)) ws
    → Wires ws (blanked (map wire_text ws))
wires_spelled nodes [] few all = refl
wires_spelled nodes (w ∷ ws) few all = (
  32 ∷ [],
  wire_text w ++ blanked (map wire_text ws),
  refl,
  (omega arith, (inl refl, tt)),
  (
    wire_text w,
    blanked (map wire_text ws),
    refl,
    wire_spelled w (omega (arith, few, (all.0).0)) (omega (arith, few, (all.0).1)),
    wires_spelled nodes ws few all.1,
  ),
)

-- the words of a net, and the end of a line behind them, are a network line of the net
pub a_written_net_is_read : AWrittenNetIsRead
a_written_net_is_read net end kept ends = (
  [],
  spaced (net_words net) ++ end,
  refl,
  tt,
  (
    decimal net.nodes,
    blanked (map wire_text net.wires) ++ end,
    ap (λ (l : List ℕ). l ++ end) (sym (blanks_before (decimal net.nodes) (map wire_text net.wires)))
        ∙ append_assoc (decimal net.nodes) (blanked (map wire_text net.wires)) end,
    node_spelled net.nodes kept.few_nodes,
    (
      blanked (map wire_text net.wires),
      end,
      refl,
      wires_spelled net.nodes net.wires kept.few_nodes
          (recursion_from_All (λ w. (w.0 < net.nodes) × (w.1 < net.nodes) × (w.0 ≡ w.1 → ⊥)) net.wires (kept.is).ends),
      ends,
    ),
  ),
)

short_wire : (w : ℕ × ℕ) → w.0 ≤ 201 → w.1 ≤ 201 → length (wire_text w) ≤ 7
short_wire w from to = omega (
  arith,
  length-append (decimal w.0 ++ codes "-") (decimal w.1),
  length-append (decimal w.0) (codes "-"),
  short_place w.0 (omega (arith, from)),
  short_place w.1 (omega (arith, to)),
)

short_wires : (nodes : ℕ) (ws : List (ℕ × ℕ)) → nodes ≤ 201 → AllByRecursion (λ w. (w.0 < nodes) × (w.1 < nodes) × (w.0 ≡ w.1 → ⊥)) ws
    → length (blanked (map wire_text ws)) ≤ 8 * length ws
short_wires nodes [] few all = omega arith
short_wires nodes (w ∷ ws) few all = omega (
  arith,
  length-append (wire_text w) (blanked (map wire_text ws)),
  short_wire w (omega (arith, few, (all.0).0)) (omega (arith, few, (all.0).1)),
  short_wires nodes ws few all.1,
)

-- the words of a net, and what stands behind them
pub words_behind : (net : Net) (more : List (List ℕ)) → spaced (net_words net ++ more) ≡ spaced (net_words net) ++ blanked more
words_behind net more =
    sym (blanks_before (decimal net.nodes) (map wire_text net.wires ++ more))
    ∙ ap (λ (l : List ℕ). decimal net.nodes ++ l) (flat_map-append (λ (l : List ℕ). 32 ∷ l) (map wire_text net.wires) more)
    ∙ sym (append_assoc (decimal net.nodes) (blanked (map wire_text net.wires)) (blanked more))
    ∙ ap (λ (l : List ℕ). l ++ blanked more) (blanks_before (decimal net.nodes) (map wire_text net.wires))

-- the words of a net take at most 3 bytes and 8 for each wire
pub words_short : (net : Net) → IsKeptNet net → length (spaced (net_words net)) ≤ 3 + 8 * length net.wires
words_short net kept = omega (
  arith,
  ap length (blanks_before (decimal net.nodes) (map wire_text net.wires)),
  length-append (decimal net.nodes) (blanked (map wire_text net.wires)),
  short_place net.nodes (omega (arith, kept.few_nodes)),
  short_wires net.nodes net.wires kept.few_nodes
      (recursion_from_All (λ w. (w.0 < net.nodes) × (w.1 < net.nodes) × (w.0 ≡ w.1 → ⊥)) net.wires (kept.is).ends),
)
