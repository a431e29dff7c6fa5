-- The sides of a tiling's squares, in the order in which its word lays them, are a flow of the word's net, with the
-- height left under each node's level as its potential.
use Rattle.std.specs.List.{AllByRecursion, AllZip}
use Rattle.std.specs.Prelude.{pos, ℤ, ◌-ℤ◌}
use Rattle.std.proofs.Common.{List, Some, [], ap, arith, cond, inl, inr, length, map, nat_eq, refl, slice_get, slice_index_or, subst, suc, sym, true}
use Rattle.std.proofs.Common.{zero, ℕ, ◌++◌, ◌+◌, ◌<◌, ◌∙◌, ◌∷◌, ◌≡◌, ◌⊎◌}
use Rattle.std.proofs.lemmas.Int.{ints}
use Rattle.std.proofs.lemmas.Option.{slice_get_within}
use Rattle.std.proofs.lemmas.List.{length-append, length-map, map-append}
use Rattle.bk_laws.proofs.Occurrences.{times}
use Rattle.bk_laws.proofs.ZippedLists.{all_zip-slice_get, zip_append, zip_length}
use Rattle.bk_laws.proofs.ListPlaces.{get_append, get_front, get_some, slice_get-unique}
use Rattle.bk_laws.proofs.TestsAsNumbers.{nat_eq-same_or_no_count}
use Rattle.bk_tiling.proofs.Rows.{laid_sides}
use Rattle.bk_tiling.proofs.TilingLaws.{wide_enough}
use Rattle.bk_tiling.specs.Column.{AreRuns}
use Rattle.bk_tiling.specs.declared.Segment.{Segment}
use Rattle.bk_tiling.specs.Tiling.{IsTiling, Tiling}
use Rattle.bk_tiling.specs.declared.Square.{Square}
use Rattle.bk_net.specs.Flow.{IsFlow, outflow, potential}
use Rattle.bk_word.specs.Outline.{Outline, start}
use Rattle.bk_word.specs.Play.{outline_of, parts}
use Rattle.bk_word.specs.Word.{Word}
use Rattle.bk_word.specs.declared.Sign.{Sign}
use Rattle.bk_lay.proofs.Joining.{levels}
use Rattle.bk_lay.proofs.WordPlay.{one_run, tiling_word_is_complete}
use Rattle.bk_lay.specs.Depiction.{Depicts, Hangs, IsNumbered, IsSegment, Span}
use Rattle.bk_lay.specs.TilingWord.{IsWordOf}
use Rattle.bk_word_net.proofs.TilingWords.AlongWord.{AtEnd, HasBegun, NotBegun, at_end}
use Rattle.bk_word_net.proofs.WordFlows.NoLoose.{closed_count}
use Rattle.bk_word_net.proofs.Outlines.Numbering.{HasPlace, Numbered, numbered_moves, numbered_start, place_of_number}
use Rattle.bk_word_net.proofs.WordFlows.Sums.{in_is_weighted, out_sum, outflow_is, span_sum, weighted, weighted_nil}
use Rattle.bk_word_net.proofs.WordFlows.Wires.{wires_by}
use Rattle.bk_word_net.specs.WordFlow.{LaidSidesAreAFlow, laid_flow}
use Rattle.bk_word_net.specs.WordNet.{end_of, net_after}

get_mapped : (g : ℕ → ℤ) (segments : List Segment) (k : ℕ) (v : Segment) (d : ℤ) → slice_get segments k ≡ Some v
    → slice_index_or (map g (levels segments)) k d ≡ g v.level
get_mapped g [] k v d e = absurd (cc)
get_mapped g (u ∷ segments) zero v d e = let same : u ≡ v = cc in ap (λ (s : Segment). g s.level) same
get_mapped g (u ∷ segments) (suc k) v d e = get_mapped g segments k v d e

-- the sides as currents
pub pos_sides : (squares : List Square) → map (λ q. pos q.s) squares ≡ map pos (laid_sides squares)
pos_sides [] = refl
pos_sides (q ∷ squares) = ap (λ rest. pos q.s ∷ rest) (pos_sides squares)

-- currents that are what g gives for their wires
currents_by : (laid : List Square) (hung : List ℕ) (f : ℕ → ℕ) (b : ℕ) (g : ℕ × ℕ → ℤ) → length hung ≡ length laid
    → ((k : ℕ) (q : Square) → slice_get laid k ≡ Some q → pos q.s ≡ g (slice_index_or hung k 0, f (b + k)))
    → map (λ q. pos q.s) laid ≡ map g (wires_by f b hung)
currents_by [] [] f b g long each = refl
currents_by [] (h ∷ hung) f b g long each = absurd (omega arith)
currents_by (q ∷ laid) [] f b g long each = absurd (omega arith)
currents_by (q ∷ laid) (h ∷ hung) f b g long each =
    λ i. first i ∷ currents_by laid hung f (b + 1) g (omega arith) (λ k r e. each (suc k) r e ∙ (λ j. g (slice_index_or hung k 0, f (next k j)))) i
  where
    same : b + 0 ≡ b
    same = omega arith

    next : (k : ℕ) → b + suc k ≡ b + 1 + k
    next k = omega arith

    first : pos q.s ≡ g (h, f b)
    first = each 0 q refl ∙ (λ j. g (h, f (same j)))

-- a number that stands in a span is that of a square that ends at its level
in_span : (laid : List Square) (level x : ℕ) (numbers : List ℕ) (end m : ℕ) → Span laid level x numbers end → 0 < times m numbers
    → (q : Square) × IsNumbered laid m q × (q.y + q.s ≡ level)
in_span laid level x [] end m span h = absurd (omega arith)
in_span laid level x (n ∷ numbers) end m (q, at, place, bottom, rest) h = cases (nat_eq-same_or_no_count m n) (in_span laid level (x + q.s) numbers end m rest)
  where
    cases : (n ≡ m) ⊎ ◌≡◌ {A = ℕ} (cond (nat_eq m n) 1 0) 0
        → (0 < times m numbers → (q : Square) × IsNumbered laid m q × (q.y + q.s ≡ level)) → (q : Square) × IsNumbered laid m q × (q.y + q.s ≡ level)
    cases (inl e) more = (q, subst (λ (k : ℕ). IsNumbered laid k q) e at, bottom)
    cases (inr e) more = more (omega (arith, e))

module _ (t : Tiling) (w : Word) (tiling : IsTiling t) (p : IsWordOf t w) (o : Outline) (numbered : Numbered o) (some : 0 < length o.closed)
    (laid : List Square) (all_levels : List ℕ) (e : AtEnd t o laid all_levels) where
  -- what the outline depicts at the end
  abbrev pub d : Depicts t laid e.nodes o
  d = (e.along).depicts

  hung_count : length o.hung ≡ length laid
  hung_count = sym (zip_length (Hangs e.nodes) laid o.hung d.hung)

  closed_is : length o.closed ≡ length e.nodes
  closed_is = sym (zip_length (IsSegment laid) e.nodes o.closed d.closed)

  -- at the end there is one run, at the height
  one : (runs : List Segment) → AreRuns t.width laid 0 runs → length runs ≡ 1 → levels runs ≡ t.height ∷ []
  one [] cut h = absurd (omega arith)
  one (r ∷ u ∷ runs) cut h = absurd (omega arith)
  one (r ∷ []) cut h = ap (λ (l : ℕ). l ∷ []) (sym ((cut.1).level r.x (omega arith) (let a = (cut.1).some in omega arith))
      ∙ e.full r.x (let a = (cut.1).some in let b = (cut.1).within in omega arith))

  single : length d.runs ≡ 1
  single = one_run t laid e.full 0 (wide_enough t tiling) d.runs d.cut
      (subst (λ (signs : List Sign). AllByRecursion (λ sign. parts sign ≡ true) signs) d.signs d.parted)

  segments : List Segment
  segments = e.nodes ++ d.runs

  level_list : levels (e.nodes ++ d.runs) ≡ all_levels
  level_list = map-append (λ v. v.level) e.nodes d.runs ∙ ap (λ ls. levels e.nodes ++ ls) (one d.runs d.cut single) ∙ e.levels_are

  lists : AllZip (IsSegment laid) (e.nodes ++ d.runs) (o.closed ++ o.segments)
  lists = zip_append (IsSegment laid) e.nodes d.runs o.closed o.segments d.closed d.segments

  -- the potential of a node is the height left under its level
  pub potential_at : (k : ℕ) (v : Segment) → slice_get (e.nodes ++ d.runs) k ≡ Some v → potential (laid_flow t laid all_levels) k ≡ pos t.height -ℤ pos v.level
  potential_at k v h = ap (λ (ls : List ℕ). slice_index_or (map (λ l. pos t.height -ℤ pos l) ls) k (pos 0)) (sym level_list)
      ∙ get_mapped (λ l. pos t.height -ℤ pos l) (e.nodes ++ d.runs) k v (pos 0) h

  place : (k : ℕ) → k < length laid → HasPlace (1 + k) (o.closed ++ o.segments) (end_of (o.closed ++ o.segments) (1 + k))
  place k h = place_of_number o numbered (1 + k) (omega arith) (omega (arith, hung_count))

  -- the bottom of a square is the level of the node at which it ends
  pub end_level : (k : ℕ) (q : Square) → slice_get laid k ≡ Some q
      → potential (laid_flow t laid all_levels) (end_of (o.closed ++ o.segments) (1 + k)) ≡ pos t.height -ℤ pos (q.y + q.s)
  end_level k q h = at (get_some (e.nodes ++ d.runs) (end_of (o.closed ++ o.segments) (1 + k))
      (omega (arith, (place k few).below, zip_length (IsSegment laid) (e.nodes ++ d.runs) (o.closed ++ o.segments) lists)))
    where
      few : k < length laid
      few = slice_get_within laid k q h

      at : (v : Segment) × (slice_get (e.nodes ++ d.runs) (end_of (o.closed ++ o.segments) (1 + k)) ≡ Some v)
          → potential (laid_flow t laid all_levels) (end_of (o.closed ++ o.segments) (1 + k)) ≡ pos t.height -ℤ pos (q.y + q.s)
      at (v, f) = potential_at (end_of (o.closed ++ o.segments) (1 + k)) v f
          ∙ ap (λ (l : ℕ). pos t.height -ℤ pos l)
          (bottom (all_zip-slice_get (IsSegment laid) (e.nodes ++ d.runs) (o.closed ++ o.segments) (end_of (o.closed ++ o.segments) (1 + k)) v [] lists f))
        where
          bottom : IsSegment laid v (slice_index_or (o.closed ++ o.segments) (end_of (o.closed ++ o.segments) (1 + k)) []) → v.level ≡ q.y + q.s
          bottom (inl span) = found (in_span laid v.level v.x
              (slice_index_or (o.closed ++ o.segments) (end_of (o.closed ++ o.segments) (1 + k)) []) (v.x + v.width) (1 + k) span (place k few).here)
            where
              found : (r : Square) × IsNumbered laid (1 + k) r × (r.y + r.s ≡ v.level) → v.level ≡ q.y + q.s
              found (r, (j, is, at), b) =
                  sym b ∙ ap (λ (s : Square). s.y + s.s) (slice_get-unique laid k r q (subst (λ (n : ℕ). slice_get laid n ≡ Some r) same at) h)
                where
                  same : j ≡ k
                  same = omega (arith, is)
          bottom (inr (top, none)) = absurd (omega (arith, (place k few).here, ap (times (1 + k)) none))

  start_level : (k : ℕ) (q : Square) → slice_get laid k ≡ Some q → potential (laid_flow t laid all_levels) (slice_index_or o.hung k 0) ≡ pos t.height -ℤ pos q.y
  start_level k q h = at (all_zip-slice_get (Hangs e.nodes) laid o.hung k q 0 d.hung h)
    where
      at : Hangs e.nodes q (slice_index_or o.hung k 0) → potential (laid_flow t laid all_levels) (slice_index_or o.hung k 0) ≡ pos t.height -ℤ pos q.y
      at hang = potential_at (slice_index_or o.hung k 0) hang.0 (get_append e.nodes d.runs (slice_index_or o.hung k 0) hang.0 hang.1)
          ∙ ap (λ (l : ℕ). pos t.height -ℤ pos l) (sym hang.2)

  differences : map (λ q. pos q.s) laid ≡ map
      (λ w. potential (laid_flow t laid all_levels) w.0 -ℤ potential (laid_flow t laid all_levels) w.1) (net_after o).wires
  differences = currents_by laid o.hung (end_of (o.closed ++ o.segments)) 1
      (λ w. potential (laid_flow t laid all_levels) w.0 -ℤ potential (laid_flow t laid all_levels) w.1) hung_count
      (λ k q h. omega (arith, ints, start_level k q h, end_level k q h))

  -- what flows in and out
  flows : (v : ℕ) → outflow (net_after o).wires (map (λ q. pos q.s) laid) v
      ≡ pos (out_sum o.hung (laid_sides laid) v) -ℤ pos (weighted (laid_sides laid) 1 (slice_index_or (o.closed ++ o.segments) v []))
  flows v = ap (λ cs. outflow (net_after o).wires cs v) (pos_sides laid)
      ∙ outflow_is (end_of (o.closed ++ o.segments)) 1 o.hung (laid_sides laid) v (hung_count ∙ sym (length-map laid (λ q. q.s)))
      ∙ ap (λ (n : ℕ). pos (out_sum o.hung (laid_sides laid) v) -ℤ pos n)
      (in_is_weighted (end_of (o.closed ++ o.segments)) 1 (laid_sides laid) v (slice_index_or (o.closed ++ o.segments) v [])
      (λ k h. (place k (omega (arith, length-map laid (λ q. q.s)))).counts v))

  begun : NotBegun laid e.nodes o ⊎ HasBegun t laid e.nodes o → HasBegun t laid e.nodes o
  begun (inl n) = absurd (omega (arith, some, ap length n.no_list))
  begun (inr b) = b

  b : HasBegun t laid e.nodes o
  b = begun (e.along).begun

  first : outflow (net_after o).wires (map (λ q. pos q.s) laid) 0 ≡ pos t.width
  first = flows 0 ∙ (λ i. pos (out i) -ℤ pos (into i)) ∙ omega (arith, ints)
    where
      out : out_sum o.hung (laid_sides laid) 0 ≡ t.width
      out = (e.along).out 0 b.top (ap (λ (s : List Segment). slice_get s 0) b.nodes_are) ∙ b.width

      into : weighted (laid_sides laid) 1 (slice_index_or (o.closed ++ o.segments) 0 []) ≡ 0
      into = ap (λ (s : List (List ℕ)). weighted (laid_sides laid) 1 (slice_index_or (s ++ o.segments) 0 [])) b.closed_are ∙ weighted_nil (laid_sides laid) 1

  all_get : (P : Segment → Type 0) (xs : List Segment) (k : ℕ) (x : Segment) → AllByRecursion P xs → slice_get xs k ≡ Some x → P x
  all_get P [] k x all f = absurd (cc)
  all_get P (y ∷ xs) zero x all f = let same : y ≡ x = cc in subst P same all.0
  all_get P (y ∷ xs) (suc k) x all f = all_get P xs k x all.1 f

  between : (v : ℕ) → 0 < v → v + 1 < length o.closed + 1 → outflow (net_after o).wires (map (λ q. pos q.s) laid) v ≡ pos 0
  between zero pos_v few = absurd (omega arith)
  between (suc v) pos_v few = at (get_some e.nodes (suc v) (omega (arith, closed_is)))
    where
      at : (n : Segment) × (slice_get e.nodes (suc v) ≡ Some n) → outflow (net_after o).wires (map (λ q. pos q.s) laid) (suc v) ≡ pos 0
      at (n, f) = flows (suc v) ∙ (λ i. pos ((e.along).out (suc v) n f i) -ℤ pos (into i)) ∙ omega (arith, ints)
        where
          deep : 0 < n.level
          deep = all_get (λ v. 0 < v.level) b.rest v n b.below (subst (λ (s : List Segment). slice_get s (suc v) ≡ Some n) b.nodes_are f)

          sum : IsSegment laid n (slice_index_or o.closed (suc v) []) → weighted (laid_sides laid) 1 (slice_index_or o.closed (suc v) []) ≡ n.width
          sum (inl span) = omega (arith, span_sum laid n.level n.x (slice_index_or o.closed (suc v) []) (n.x + n.width) span)
          sum (inr top) = absurd (omega (arith, deep, top.0))

          into : weighted (laid_sides laid) 1 (slice_index_or (o.closed ++ o.segments) (suc v) []) ≡ n.width
          into = ap (weighted (laid_sides laid) 1) (get_front o.closed o.segments (suc v) [] (omega arith))
              ∙ sum (all_zip-slice_get (IsSegment laid) e.nodes o.closed (suc v) n [] d.closed f)

  -- the sides are a flow of the word's net
  pub is_flow : IsFlow (net_after o) (laid_flow t laid all_levels)
  is_flow = record {
    nodes = length-map all_levels (λ l. pos t.height -ℤ pos l) ∙ sym (ap length e.levels_are)
        ∙ omega (arith, length-append (levels e.nodes) (t.height ∷ []), length-map e.nodes (λ v. v.level), closed_is);
    differences = differences;
    first = first;
    between = between;
  }

-- the law: each node is as wide as what hangs from it, and as what ends on it
pub laid_sides_are_a_flow : LaidSidesAreAFlow
laid_sides_are_a_flow t w laid all_levels tiling p l =
    is_flow t w tiling p (outline_of w) (numbered_moves start w numbered_start) some laid all_levels (at_end t w tiling p laid all_levels l)
  where
    some : 0 < length (outline_of w).closed
    some = let complete = (tiling_word_is_complete t w tiling p).0 in let long = complete.some in omega (arith, closed_count start w)
