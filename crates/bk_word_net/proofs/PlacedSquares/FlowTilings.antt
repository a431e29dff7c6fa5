-- A flow that places the squares of a complete word is a tiling of this word, primitive where the flow is.
use Rattle.std.specs.List.{AllByRecursion, concat}
use Rattle.std.specs.Prelude.{nat_abs, pos, ℤ, ◌-ℤ◌}
use Prim.Native.Nat.{◌∣◌}
use Rattle.std.proofs.Common.{Bool, List, [], ap, arith, cond, false, inl, inr, length, map, nat_eq, refl, slice_get, slice_index_or, subst, suc}
use Rattle.std.proofs.Common.{sym, true, zero, ℕ, ◌*◌, ◌++◌, ◌+◌, ◌<◌, ◌∙◌, ◌∷◌, ◌≡◌, ◌≤◌, ◌⊎◌}
use Rattle.std.proofs.Math.Nat.{dvd-mul_left, mul_comm}
use Rattle.std.proofs.lemmas.Int.{ints}
use Rattle.std.proofs.lemmas.List.Elements.{All-from_recursion}
use Rattle.std.proofs.lemmas.List.{append-nil, length-append, length-map}
use Rattle.bk_laws.proofs.Occurrences.{slice_index_or-of_times_positive}
use Rattle.bk_tiling.proofs.Cells.{in_all}
use Rattle.bk_tiling.proofs.Rows.{laid_sides}
use Rattle.bk_tiling.specs.declared.Segment.{Segment}
use Rattle.bk_tiling.specs.Tiling.{IsOneOf, IsTiling, Tiling}
use Rattle.bk_tiling.specs.declared.Square.{Square}
use Rattle.bk_tiling.proofs.PuttingInOrder.{in_order}
use Rattle.bk_tiling.specs.SquareGroups.{laid_group}
use Rattle.bk_net.specs.Flow.{Flow, IsFlow, potential}
use Rattle.bk_word.specs.Outline.{Outline, start}
use Rattle.bk_word.specs.Play.{IsComplete, after_move, outline_of}
use Rattle.bk_word.specs.Word.{Word}
use Rattle.bk_lay.proofs.Steps.{start_depicts_nothing}
use Rattle.bk_lay.proofs.Words.{nothing_laid}
use Rattle.bk_lay.specs.Depiction.{IsNumbered}
use Rattle.bk_lay.specs.TilingWord.{IsWordOf}
use Rattle.bk_word_net.proofs.TilingWords.AlongWord.{AtEnd, HasBegun, NotBegun, at_end}
use Rattle.bk_word_net.proofs.Outlines.BottomChain.{BottomChain}
use Rattle.bk_word_net.proofs.PlacedSquares.Built.{BuiltMoves, Result, all_deep, bottom_at, build_all, built, is_tiling}
use Rattle.bk_word_net.proofs.WordFlows.FlowFacts.{HasSides, has_sides, is_later, sides_count, total_is}
use Rattle.bk_word_net.proofs.PlacedSquares.PlacedValley.{Placing}
use Rattle.bk_word_net.proofs.PlacedSquares.FlowWord.{follow}
use Rattle.bk_word_net.proofs.WordFlows.LaidFlow.{pos_sides}
use Rattle.bk_word_net.proofs.WordFlows.NoLoose.{Played, closed_count, played_start, played_word}
use Rattle.bk_word_net.proofs.WordFlows.Sums.{out_sum, weighted, weighted_nil}
use Rattle.bk_word_net.specs.FlowTiling.{AFlowPlacesATiling, APrimitiveFlowIsAPrimitiveTiling, IsTilingByFlow, PlacesWord}
use Rattle.bk_word_net.specs.WordFlow.{LaidAlong, laid_so_far}
use Rattle.bk_word_net.specs.WordNet.{end_of, net_after}

module _ (w : Word) (f : Flow) (complete : IsComplete w) (flow : IsFlow (net_after (outline_of w)) f) (places : PlacesWord w f) where
  abbrev own : Played (outline_of w)
  own = played_word w complete

  abbrev s : HasSides f
  s = has_sides f places.long

  abbrev width : ℕ
  width = out_sum (outline_of w).hung (has_sides f places.long).sides 0

  r : Result (outline_of w) (played_word w complete) f flow (has_sides f places.long)
      (out_sum (outline_of w).hung (has_sides f places.long).sides 0) refl [] start w
  r = build_all (outline_of w) (played_word w complete) f flow (has_sides f places.long)
      (out_sum (outline_of w).hung (has_sides f places.long).sides 0) refl w complete.legal played_start refl

  begun : 0 < length (outline_of w).closed
  begun = omega (arith, closed_count start w, complete.some)

  chain : BottomChain r.all 0 (concat (outline_of w).segments) (out_sum (outline_of w).hung (has_sides f places.long).sides 0)
  chain = cases r.last
    where
      cases : ((r.all ≡ []) × (outline_of w ≡ start))
          ⊎ ((0 < length (outline_of w).closed) × BottomChain r.all 0 (concat (outline_of w).segments)
          (out_sum (outline_of w).hung (has_sides f places.long).sides 0))
          → BottomChain r.all 0 (concat (outline_of w).segments) (out_sum (outline_of w).hung (has_sides f places.long).sides 0)
      cases (inl (none, is)) = absurd (omega (arith, begun, ap (λ (p : Outline). length p.closed) is))
      cases (inr h) = h.1

  some_hung : 0 < length (outline_of w).hung
  some_hung = let k = slice_index_or-of_times_positive 0 (outline_of w).hung (own.used 0 begun) in omega (arith, k.1)

  some_laid : 0 < length r.all
  some_laid = omega (arith, some_hung, (r.base).count)

  wide : 0 < out_sum (outline_of w).hung (has_sides f places.long).sides 0
  wide = from r.all some_laid (λ q h. (r.base).inside q h)
    where
      from : (squares : List Square) → 0 < length squares
          → ((q : Square) → IsOneOf q squares → (0 < q.s) × (q.x + q.s ≤ out_sum (outline_of w).hung (has_sides f places.long).sides 0))
          → 0 < out_sum (outline_of w).hung (has_sides f places.long).sides 0
      from [] h g = absurd (omega arith)
      from (q ∷ squares) h g = let i = g q (inl refl) in omega (arith, i.0, i.1)

  abbrev the_tiling : Tiling
  the_tiling = built (outline_of w) (played_word w complete) f flow (has_sides f places.long)
      (out_sum (outline_of w).hung (has_sides f places.long).sides 0) refl r.all r.base complete.one chain wide

  tiling : IsTiling the_tiling
  tiling = is_tiling (outline_of w) (played_word w complete) f flow (has_sides f places.long)
      (out_sum (outline_of w).hung (has_sides f places.long).sides 0) refl r.all r.base complete.one chain wide some_laid

  placing : (laid : List Square) (o : Outline) (v : Word) (all : List Square)
      → BuiltMoves (outline_of w) (played_word w complete) f flow (has_sides f places.long)
      (out_sum (outline_of w).hung (has_sides f places.long).sides 0) refl laid o v all
      → Placing (out_sum (outline_of w).hung (has_sides f places.long).sides 0) laid o v all
  placing laid o [] all p = p
  placing laid o (m ∷ v) all (x, (level, (new, (step, rest)))) = (
    x,
    (
      level,
      (
        new,
        (
          record { count = step.count; some = step.some; place = (step.valley).place },
          placing (laid ++ laid_group x level new) (after_move o m) v all rest,
        ),
      ),
    ),
  )

  bottom_is : (n : ℕ) (q : Square) → IsNumbered r.all n q
      → nat_abs (potential f 0 -ℤ potential f (end_of ((outline_of w).closed ++ (outline_of w).segments) n)) ≡ q.y + q.s
  bottom_is n q (k, is, at) = (λ i. nat_abs (potential f 0 -ℤ potential f (end_of ((outline_of w).closed ++ (outline_of w).segments) (number i))))
      ∙ sym (ap nat_abs (bottom_at (outline_of w) (played_word w complete) f flow (has_sides f places.long)
      (out_sum (outline_of w).hung (has_sides f places.long).sides 0) refl r.all r.base complete.one chain wide k q at))
    where
      number : n ≡ 1 + k
      number = omega (arith, is)

  followed : IsWordOf the_tiling w × ((all_levels : List ℕ) × LaidAlong the_tiling (laid_so_far [] []) w (laid_so_far r.all all_levels))
  followed = follow the_tiling tiling r.all (λ q h. in_order r.all q h)
      (all_deep (outline_of w) (played_word w complete) f flow (has_sides f places.long)
      (out_sum (outline_of w).hung (has_sides f places.long).sides 0) refl r.all r.base complete.one chain wide)
      (λ n. nat_abs (potential f 0 -ℤ potential f (end_of ((outline_of w).closed ++ (outline_of w).segments) n))) bottom_is
      w start [] [] [] (nothing_laid the_tiling tiling) (start_depicts_nothing the_tiling tiling) complete.legal (placing [] start w r.all r.moves) places.signs

  no_rest : (xs : List ℕ) → length xs ≡ 0 → xs ≡ []
  no_rest [] e = refl
  no_rest (x ∷ xs) e = absurd (omega arith)

  all_sides : (has_sides f places.long).sides ≡ laid_sides r.all
  all_sides = (r.base).prefix ∙ ap (λ (l : List ℕ). laid_sides r.all ++ l) (no_rest (r.base).rest (omega (
    arith,
    ap length (r.base).prefix,
    length-append (laid_sides r.all) (r.base).rest,
    length-map r.all (λ q. q.s),
    sides_count (outline_of w) own.numbered f flow (has_sides f places.long),
    (r.base).count,
  ))) ∙ append-nil (laid_sides r.all)

  first_closed : (v : Word) (o : Outline) → 0 < length v → outline_of v ≡ o → slice_index_or (o.closed ++ o.segments) 0 [] ≡ []
  first_closed [] o h e = absurd (omega arith)
  first_closed (m ∷ v) o h e = ap (λ (p : Outline). slice_index_or (p.closed ++ p.segments) 0 []) (sym e)
      ∙ ap (λ (l : List (List ℕ)). slice_index_or (l ++ (outline_of (m ∷ v)).segments) 0 []) (is_later (after_move start m) v).closed_is

  total : pos (out_sum (outline_of w).hung (has_sides f places.long).sides 0) ≡ f.total
  total = omega (
    arith,
    ints,
    total_is (outline_of w) own.numbered f flow (has_sides f places.long),
    ap (weighted (has_sides f places.long).sides 1) (first_closed w (outline_of w) complete.some refl),
    weighted_nil (has_sides f places.long).sides 1,
  )

  -- the tiling that the flow lays
  pub by_flow : (t : Tiling) × IsTilingByFlow w f t
  by_flow = (
    the_tiling,
    record {
      tiling = tiling;
      word = followed.0;
      laid = r.all;
      levels = (followed.1).0;
      along = (followed.1).1;
      sides = pos_sides r.all ∙ sym (ap (map pos) all_sides) ∙ sym (has_sides f places.long).currents;
      width = total;
    },
  )

-- the law: laid move by move, the columns come to one depth
pub a_flow_places_a_tiling : AFlowPlacesATiling
a_flow_places_a_tiling w f complete flow places = by_flow w f complete flow places

abbrev Multiple : ℕ → ℕ → Type 0
Multiple d n = (m : ℕ) × (n ≡ d * m)

sum_multiple : (d : ℕ) (hung : List ℕ) (squares : List Square) (v : ℕ) → AllByRecursion (λ q. Multiple d q.s) squares
    → Multiple d (out_sum hung (laid_sides squares) v)
sum_multiple d [] squares v all = (0, omega arith)
sum_multiple d (h ∷ hung) [] v all = (0, omega arith)
sum_multiple d (h ∷ hung) (q ∷ squares) v all = let rest = sum_multiple d hung squares v all.1 in let m = all.0 in
    (cond (nat_eq h v) m.0 0 + rest.0, omega (arith, rest.1, one (nat_eq h v) m.0 m.1))
  where
    one : (b : Bool) (m : ℕ) → q.s ≡ d * m → cond b q.s 0 ≡ d * cond b m 0
    one true m e = e
    one false m e = omega arith

divides : (d n : ℕ) → Multiple d n → d ∣ n
divides d n (m, e) = subst (λ (k : ℕ). d ∣ k) (mul_comm m d ∙ sym e) (dvd-mul_left d m)

-- the law: the currents are the sides
pub a_primitive_flow_is_a_primitive_tiling : APrimitiveFlowIsAPrimitiveTiling
a_primitive_flow_is_a_primitive_tiling w f t complete flow primitive is d each =
    omega (arith, most, least t.squares ((is.tiling).tiles).some ((is.tiling).tiles).sides each)
  where
    e : AtEnd t (outline_of w) is.laid is.levels
    e = at_end t w is.tiling is.word is.laid is.levels is.along

    all_from_list : (squares : List Square) → AllByRecursion (λ q. IsOneOf q t.squares) squares → AllByRecursion (λ q. Multiple d q.s) squares
    all_from_list [] all = tt
    all_from_list (q ∷ squares) all = (in_all (λ q. Multiple d q.s) t.squares each q all.0, all_from_list squares all.1)

    laid_each : AllByRecursion (λ q. Multiple d q.s) is.laid
    laid_each = all_from_list is.laid ((e.along).fills).squares

    currents : (squares : List Square) → AllByRecursion (λ q. Multiple d q.s) squares → AllByRecursion (λ c. d ∣ nat_abs c) (map (λ q. pos q.s) squares)
    currents [] all = tt
    currents (q ∷ squares) all = (divides d q.s all.0, currents squares all.1)

    width_multiple : NotBegun is.laid e.nodes (outline_of w) ⊎ HasBegun t is.laid e.nodes (outline_of w) → Multiple d t.width
    width_multiple (inl n) = absurd (omega (arith, closed_count start w, complete.some, ap length n.no_list))
    width_multiple (inr b) = let m = sum_multiple d (outline_of w).hung is.laid 0 laid_each in
        (m.0, sym ((e.along).out 0 b.top (ap (λ (l : List Segment). slice_get l 0) b.nodes_are) ∙ b.width) ∙ m.1)

    most : d ≤ 1
    most = primitive d (subst (λ (z : ℤ). d ∣ nat_abs z) is.width (divides d t.width (width_multiple (e.along).begun)))
        (All-from_recursion (λ c. d ∣ nat_abs c) f.currents (subst (AllByRecursion (λ c. d ∣ nat_abs c)) is.sides (currents is.laid laid_each)))

    least : (squares : List Square) → 0 < length squares → AllByRecursion (λ q. 0 < q.s) squares → AllByRecursion (λ q. Multiple d q.s) squares → 1 ≤ d
    least [] h a b = absurd (omega arith)
    least (q ∷ squares) h a b = cases d refl
      where
        cases : (k : ℕ) → d ≡ k → 1 ≤ d
        cases zero z = absurd (omega (arith, a.0, (b.0).1, ap (λ (n : ℕ). n * (b.0).0) z))
        cases (suc k) z = omega (arith, z)
