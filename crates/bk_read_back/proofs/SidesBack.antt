-- What `net` writes of a tiling is read as its Smith diagram, and `flow` finds the sides again.
use Rattle.std.specs.Fmt.{signed_decimal}
use Rattle.std.specs.List.{AllByRecursion, list_any}
use Rattle.std.specs.Prelude.{Bool, List, [], codes, decimal, false, length, map, pos, true, ℕ, ◌*◌, ◌∷◌, ◌≡◌, ◌≤◌, ◌⊎◌}
use Rattle.std.proofs.Common.{ap, arith, inl, inr, length-append, refl, subst, sym, ◌∙◌}
use Rattle.std.proofs.lemmas.Bool.{cases_Bool, true≢false}
use Rattle.std.proofs.lemmas.Fmt.{length-decimal-le}
use Rattle.bk_frac.specs.Fraction.{passes}
use Rattle.bk_grammar.specs.Grammar.{LineEnd}
use Rattle.bk_tiling.proofs.Sizes.{most_width}
use Rattle.bk_tiling.specs.KeptTiling.{IsKept, IsSide}
use Rattle.bk_tiling.specs.Tiling.{Tiling}
use Rattle.bk_tiling.specs.declared.Square.{Square}
use Rattle.bk_text.proofs.Spelling.{short_side}
use Rattle.bk_sym.specs.Canonical.{scaled_down_tiling}
use Rattle.bk_net.proofs.Hanging.{groups_few}
use Rattle.bk_net.proofs.SidesFlow.{sides_are_the_one_flow}
use Rattle.bk_net.specs.Diagram.{smith_diagram}
use Rattle.bk_net.specs.KeptNet.{IsKeptNet}
use Rattle.bk_net.specs.Net.{HasNoLoose}
use Rattle.bk_net.specs.NetLine.{IsNetLine, Item}
use Rattle.bk_flow.specs.FlowNumbers.{FlowNumbers}
use Rattle.bk_flow.specs.Wide.{IsWide, numbers_written}
use Rattle.bk_report.specs.Answers.{flow_line, line, net_words, side_words, spaced}
use Rattle.bk_report.specs.Refusals.{refusal_line}
use Rattle.bk_report.specs.declared.refusal.Refused.TheVariants.{Wide}
use Rattle.bk_answer.proofs.OneNetAnswer.{one_net_answer}
use Rattle.bk_answer.specs.NetAnswer.{AnswersNetLine, HasNet, of_net, solved, wide}
use Rattle.bk_read_back.proofs.LowestSides.{lowest_sides_are_the_primitive_flow}
use Rattle.bk_read_back.proofs.NetLinesWritten.{a_written_net_is_read, blanked, words_behind, words_short}
use Rattle.bk_read_back.proofs.SmallMembers.{as_many_wires}
use Rattle.bk_read_back.specs.NetReadBack.{ASmithDiagramIsRead, FindsSides, TheSidesAreFound, finds, net_text, too_wide}

short_sides : (squares : List Square) → AllByRecursion (λ q. IsSide q.s) squares → length (blanked (map (λ q. decimal q.s) squares)) ≤ 16 * length squares
short_sides [] all = omega arith
short_sides (q ∷ squares) all =
    omega (arith, length-append (decimal q.s) (blanked (map (λ q. decimal q.s) squares)), short_side q.s all.0, short_sides squares all.1)

-- the sides of squares as signed numbers
side_texts : (squares : List Square) → map signed_decimal (map (λ q. pos q.s) squares) ≡ map (λ q. decimal q.s) squares
side_texts [] = refl
side_texts (q ∷ squares) = ap (λ (words : List (List ℕ)). decimal q.s ∷ words) (side_texts squares)

module _ (t : Tiling) (kept : IsKept t) where
  diagram_kept : IsKeptNet (smith_diagram t)
  diagram_kept = record {
    is = (sides_are_the_one_flow t kept.tiling).0;
    few_nodes = omega (arith, groups_few t.squares, kept.few);
    few_wires = omega (arith, as_many_wires t kept.tiling, kept.few);
  }

  -- what stands behind the diagram is a comment
  behind : LineEnd (blanked (codes ";" ∷ side_words t))
  behind = (32 ∷ [], 59 ∷ blanked (side_words t), refl, (inl refl, tt), inr (blanked (side_words t), refl))

  short : length (net_text t) ≤ 8192
  short = omega (
    arith,
    ap length (words_behind (smith_diagram t) (codes ";" ∷ side_words t)),
    length-append (spaced (net_words (smith_diagram t))) (blanked (codes ";" ∷ side_words t)),
    words_short (smith_diagram t) diagram_kept,
    as_many_wires t kept.tiling,
    kept.few,
    length-append (decimal t.width) (blanked (map (λ q. decimal q.s) t.squares)),
    length-decimal-le 18 t.width (omega arith) (omega (arith, most_width t kept)) (omega (arith, most_width t kept)),
    short_sides t.squares kept.sides,
  )

  -- what `net` writes of a tiling is read as the Smith diagram
  pub diagram_read : HasNet (net_text t) (smith_diagram t)
  diagram_read = record {
    item = record {
      short = short;
      meaning = subst (IsNetLine (Item (smith_diagram t).nodes (smith_diagram t).wires)) (sym (words_behind (smith_diagram t) (codes ";" ∷ side_words t)))
          (a_written_net_is_read (smith_diagram t) (blanked (codes ";" ∷ side_words t)) diagram_kept behind);
    };
    kept = diagram_kept;
  }

  abbrev lowest : FlowNumbers
  lowest = record { total = pos (scaled_down_tiling t).width; currents = map (λ q. pos q.s) (scaled_down_tiling t).squares }

  -- the line of that flow
  answered : flow_line lowest ≡ line (side_words (scaled_down_tiling t))
  answered = ap (λ (words : List (List ℕ)). line (decimal (scaled_down_tiling t).width ∷ words)) (side_texts (scaled_down_tiling t).squares)

  -- each answer of `flow` to it
  pub sides_found : (pieces : List (List ℕ)) (refused : Bool) → AnswersNetLine (net_text t) pieces refused → FindsSides t pieces refused
  sides_found pieces refused answer = by (cases_Bool (list_any passes (numbers_written (smith_diagram t))))
    where
      joined : HasNoLoose (smith_diagram t)
      joined = (sides_are_the_one_flow t kept.tiling).1

      one : (others : List (List ℕ)) (other : Bool) → AnswersNetLine (net_text t) others other → FindsSides t others other → FindsSides t pieces refused
      one others other own found =
          let same = one_net_answer (net_text t) others pieces other refused own answer in
          subst (λ (r : Bool). FindsSides t pieces r) same.1 (subst (λ (l : List (List ℕ)). FindsSides t l other) same.0 found)

      by : (list_any passes (numbers_written (smith_diagram t)) ≡ true) ⊎ (list_any passes (numbers_written (smith_diagram t)) ≡ false)
          → FindsSides t pieces refused
      by (inl yes') = one (refusal_line Wide ∷ []) true
          (of_net (smith_diagram t) (refusal_line Wide ∷ []) true diagram_read (wide joined yes')) (too_wide yes')
      by (inr no') = one (flow_line lowest ∷ []) false
          (of_net (smith_diagram t) (flow_line lowest ∷ []) false diagram_read
          (solved lowest joined narrow (lowest_sides_are_the_primitive_flow t kept.tiling)))
          (subst (λ (l : List ℕ). FindsSides t (l ∷ []) false) (sym answered) (finds narrow))
        where
          narrow : IsWide (smith_diagram t) → ⊥
          narrow yes' = true≢false (sym yes' ∙ no')

-- the line that `net` writes of a tiling is read as its Smith diagram
pub a_smith_diagram_is_read : ASmithDiagramIsRead
a_smith_diagram_is_read = diagram_read

-- `flow` answers that line by the width and the sides in lowest terms, or `wide`
pub the_sides_are_found : TheSidesAreFound
the_sides_are_found t pieces refused kept = sides_found t kept pieces refused
