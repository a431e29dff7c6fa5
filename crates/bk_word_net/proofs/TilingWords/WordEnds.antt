-- The squares that the word of a tiling lays end at the nodes as they do in the Smith diagram.
use Rattle.std.specs.List.{AllByRecursion, AllZip}
use Rattle.std.proofs.Common.{List, Some, [], ap, arith, count_by, inl, inr, length, nat_eq, refl, slice_get, slice_index_or, subst, sym, true, ℕ}
use Rattle.std.proofs.Common.{◌&&◌, ◌++◌, ◌+◌, ◌<◌, ◌∙◌, ◌∷◌, ◌≡◌, ◌≤◌, ◌⊎◌}
use Rattle.std.proofs.lemmas.Bool.{cases_lt}
use Rattle.std.proofs.lemmas.Option.{slice_get_within}
use Rattle.std.proofs.lemmas.List.{length-append}
use Rattle.bk_laws.proofs.Occurrences.{times}
use Rattle.bk_laws.proofs.ZippedLists.{all_zip-slice_get, zip_append, zip_length}
use Rattle.bk_laws.proofs.ListPlaces.{get_after, get_append, get_some, slice_get-unique}
use Rattle.bk_laws.proofs.TestsAsNumbers.{nat_eq-same_if_counted}
use Rattle.bk_tiling.proofs.Cells.{one_counted, over_from}
use Rattle.bk_tiling.proofs.TilingLaws.{side_of, wide_enough}
use Rattle.bk_tiling.specs.Column.{AreRuns, covers_column}
use Rattle.bk_tiling.specs.declared.Segment.{Segment}
use Rattle.bk_tiling.specs.Tiling.{IsOneOf, IsTiling, Tiling, covers}
use Rattle.bk_tiling.specs.declared.Square.{Square}
use Rattle.bk_tiling.specs.SquareGroups.{square_groups}
use Rattle.bk_net.proofs.GroupSquares.{get_index, group_of, in_group, top_of}
use Rattle.bk_net.proofs.NodeBelow.{below_from, has_node_below, stands_on}
use Rattle.bk_net.specs.Diagram.{group_level, node_below}
use Rattle.bk_word.specs.Play.{outline_of, parts}
use Rattle.bk_word.specs.Word.{Word}
use Rattle.bk_word.specs.declared.Sign.{Sign}
use Rattle.bk_lay.proofs.LaidRuns.{one_of}
use Rattle.bk_lay.proofs.WordPlay.{one_run}
use Rattle.bk_lay.specs.Depiction.{IsNumbered, IsSegment}
use Rattle.bk_lay.specs.TilingWord.{IsWordOf}
use Rattle.bk_word_net.proofs.TilingWords.GroupRuns.{IsGroupRun}
use Rattle.bk_word_net.proofs.Outlines.Numbering.{HasPlace, place_of_number}
use Rattle.bk_word_net.specs.WordNet.{end_of}
use Rattle.bk_word_net.proofs.WordFlows.PlacesInLists.{span_within}
use Rattle.bk_word_net.proofs.TilingWords.CellGroups.{complete, d, e, heads, laid_in, low, over_node, played}
use Rattle.bk_word_net.proofs.TilingWords.WordNodes.{node_last, node_of_word, node_run}
use Rattle.bk_word_net.proofs.TilingWords.WordSquares.{closed_is, hung_is}

module _ (t : Tiling) (w : Word) (tiling : IsTiling t) (p : IsWordOf t w) where
  -- the node at which a laid square ends is that below it in the Smith diagram
  pub ends_there : (k : ℕ) (q : Square) → slice_get (e t w tiling p).laid k ≡ Some q
      → node_of_word t w tiling p (end_of ((outline_of w).closed ++ (outline_of w).segments) (1 + k)) ≡ node_below (square_groups t.squares) q
  ends_there k q f = at (cases_lt (end_of ((outline_of w).closed ++ (outline_of w).segments) (1 + k)) (length (e t w tiling p).nodes))
    where
      q_in : IsOneOf q t.squares
      q_in = laid_in t w tiling p q (one_of (e t w tiling p).laid k q f)

      pl : HasPlace (1 + k) ((outline_of w).closed ++ (outline_of w).segments) (end_of ((outline_of w).closed ++ (outline_of w).segments) (1 + k))
      pl = place_of_number (outline_of w) (played t w tiling p).numbered (1 + k) (omega arith) (omega (
        arith,
        slice_get_within (e t w tiling p).laid k q f,
        hung_is t w tiling p,
      ))

      lists : AllZip (IsSegment (e t w tiling p).laid) ((e t w tiling p).nodes ++ (d t w tiling p).runs) ((outline_of w).closed ++ (outline_of w).segments)
      lists = zip_append (IsSegment (e t w tiling p).laid) (e t w tiling p).nodes (d t w tiling p).runs (outline_of w).closed (outline_of w).segments (d t
          w tiling p).closed (d t w tiling p).segments

      ends_on : (u : Segment) → slice_get ((e t w tiling p).nodes ++ (d t w tiling p).runs) (end_of ((outline_of w).closed ++ (outline_of w).segments) (1 +
          k)) ≡ Some u
          → (q.y + q.s ≡ u.level) × (u.x ≤ q.x) × (q.x + q.s ≤ u.x + u.width)
      ends_on u is = from (all_zip-slice_get (IsSegment (e t w tiling p).laid) ((e t w tiling p).nodes ++ (d t w tiling p).runs) ((outline_of w).closed ++
          (outline_of w).segments)
          (end_of ((outline_of w).closed ++ (outline_of w).segments) (1 + k)) u [] lists is)
        where
          from : IsSegment (e t w tiling p).laid u (slice_index_or ((outline_of w).closed ++ (outline_of w).segments)
              (end_of ((outline_of w).closed ++ (outline_of w).segments) (1 + k)) []) → (q.y + q.s ≡ u.level) × (u.x ≤ q.x) × (q.x + q.s ≤ u.x + u.width)
          from (inr top) = absurd (omega (arith, pl.here, ap (times (1 + k)) top.1))
          from (inl span) = of (span_within (e t w tiling p).laid u.level u.x
              (slice_index_or ((outline_of w).closed ++ (outline_of w).segments)
              (end_of ((outline_of w).closed ++ (outline_of w).segments) (1 + k)) []) (u.x + u.width) (1 + k) span pl.here)
            where
              of : (r : Square) × IsNumbered (e t w tiling p).laid (1 + k) r × (r.y + r.s ≡ u.level) × (u.x ≤ r.x) × (r.x + r.s ≤ u.x + u.width)
                  → (q.y + q.s ≡ u.level) × (u.x ≤ q.x) × (q.x + q.s ≤ u.x + u.width)
              of (r, (j, n, g), b, l, h) = subst (λ (s : Square). (s.y + s.s ≡ u.level) × (u.x ≤ s.x) × (s.x + s.s ≤ u.x + u.width))
                  (slice_get-unique (e t w tiling p).laid k r q (subst (λ (i : ℕ). slice_get (e t w tiling p).laid i ≡ Some r) number g) f) (b, l, h)
                where
                  number : j ≡ k
                  number = omega (arith, n)

      at : (end_of ((outline_of w).closed ++ (outline_of w).segments) (1 + k) < length (e t w tiling p).nodes)
          ⊎ (length (e t w tiling p).nodes ≤ end_of ((outline_of w).closed ++ (outline_of w).segments) (1 + k))
          → node_of_word t w tiling p (end_of ((outline_of w).closed ++ (outline_of w).segments) (1 + k)) ≡ node_below (square_groups t.squares) q
      at (inl h) = on (node_run t w tiling p (end_of ((outline_of w).closed ++ (outline_of w).segments) (1 + k)) h)
        where
          on : (v : Segment) × ((r : IsGroupRun t v)
              × (slice_get (e t w tiling p).nodes (end_of ((outline_of w).closed ++ (outline_of w).segments) (1 + k)) ≡ Some v)
              × (node_of_word t w tiling p (end_of ((outline_of w).closed ++ (outline_of w).segments) (1 + k)) ≡ r.place))
              → node_of_word t w tiling p (end_of ((outline_of w).closed ++ (outline_of w).segments) (1 + k)) ≡ node_below (square_groups t.squares) q
          on (v, (r, is, same)) = same ∙ sym (found (over_node t w tiling p v r q.x b.1 (omega (arith, b.2, side_of t tiling q q_in))))
            where
              b : (q.y + q.s ≡ v.level) × (v.x ≤ q.x) × (q.x + q.s ≤ v.x + v.width)
              b = ends_on v (get_append (e t w tiling p).nodes (d t w tiling p).runs (end_of ((outline_of w).closed ++ (outline_of w).segments) (1 + k)) v is)

              found : (s : Square) × IsOneOf s r.group × (covers q.x v.level s ≡ true) → node_below (square_groups t.squares) q ≡ r.place
              found (s, m, c) = nat_eq-same_if_counted (node_below (square_groups t.squares) q) r.place (omega (
                arith,
                (has_node_below t tiling q q_in).counts r.place (slice_get_within (square_groups t.squares) r.place r.group r.is),
                ap (count_by (λ z. nat_eq z.y (q.y + q.s) && covers_column q.x z)) (get_index (square_groups t.squares) r.place r.group r.is),
                one_counted (λ z. nat_eq z.y (q.y + q.s) && covers_column q.x z) r.group s m
                    (below_from q s (level_of ∙ sym b.0) (over_from q.x v.level s c).left (over_from q.x v.level s c).right),
              ))
                where
                  level_of : s.y ≡ v.level
                  level_of = top_of t tiling r.group (group_of t tiling r.place r.group r.is).0.row s m
                      ∙ ap (λ (z : Square). z.y) (heads (group_of t tiling r.place r.group r.is).0.row.is r.squares) ∙ r.y
      at (inr h) = on (get_some ((e t w tiling p).nodes ++ (d t w tiling p).runs) (end_of ((outline_of w).closed ++ (outline_of w).segments) (1 + k))
          (omega (
            arith,
            pl.below,
            zip_length (IsSegment (e t w tiling p).laid) ((e t w tiling p).nodes ++ (d t w tiling p).runs) ((outline_of w).closed ++
                (outline_of w).segments) lists,
          )))
        where
          single : length (d t w tiling p).runs ≡ 1
          single = one_run t (e t w tiling p).laid (e t w tiling p).full 0 (wide_enough t tiling) (d t w tiling p).runs (d t w tiling p).cut
              (subst (λ (signs : List Sign). AllByRecursion (λ sign. parts sign ≡ true) signs) (d t w tiling p).signs (d t w tiling p).parted)

          last_is : end_of ((outline_of w).closed ++ (outline_of w).segments) (1 + k) ≡ length (e t w tiling p).nodes
          last_is = omega (arith, pl.below, length-append (outline_of w).closed (outline_of w).segments, (complete t w tiling p).one, closed_is t w tiling p, h)

          level_of : (runs : List Segment) → length runs ≡ 1 → AreRuns t.width (e t w tiling p).laid 0 runs → (u : Segment) → slice_get runs 0 ≡ Some u →
              u.level ≡ t.height
          level_of [] l cut u g = absurd (omega arith)
          level_of (x ∷ y ∷ runs) l cut u g = absurd (omega arith)
          level_of (x ∷ []) l cut u g = let same : x ≡ u = cc in sym (ap (λ (s : Segment). s.level) same)
              ∙ sym ((cut.1).level x.x (omega arith) (let a = (cut.1).some in omega arith))
              ∙ (e t w tiling p).full x.x (let a = (cut.1).some in let b = (cut.1).within in omega arith)

          on : (u : Segment) × (slice_get ((e t w tiling p).nodes ++ (d t w tiling p).runs) (end_of ((outline_of w).closed ++ (outline_of w).segments) (1 +
              k)) ≡ Some u)
              → node_of_word t w tiling p (end_of ((outline_of w).closed ++ (outline_of w).segments) (1 + k)) ≡ node_below (square_groups t.squares) q
          on (u, is) = node_last t w tiling p (end_of ((outline_of w).closed ++ (outline_of w).segments) (1 + k)) last_is ∙ sym (below (stands_on t tiling
              q q_in).is)
            where
              high : q.y + q.s ≡ t.height
              high = (ends_on u is).0 ∙ level_of (d t w tiling p).runs single (d t w tiling p).cut u
                  (sym (get_after (e t w tiling p).nodes (d t w tiling p).runs 0 (end_of ((outline_of w).closed ++ (outline_of w).segments) (1 + k)) (omega
                  (arith, last_is))) ∙ is)

              below : ((node_below (square_groups t.squares) q ≡ length (square_groups t.squares)) × (q.y + q.s ≡ t.height))
                  ⊎ ((g : List Square) × (slice_get (square_groups t.squares) (node_below (square_groups t.squares) q) ≡ Some g)
                  × (group_level g ≡ q.y + q.s)) → node_below (square_groups t.squares) q ≡ length (square_groups t.squares)
              below (inl z) = z.0
              below (inr (g, z, l)) = absurd (omega (
                arith,
                l,
                high,
                ap group_level (group_of t tiling (node_below (square_groups t.squares) q) g z).0.row.is,
                low t w tiling p (group_of t tiling (node_below (square_groups t.squares) q) g z).0.row.first
                    (in_group t tiling (node_below (square_groups t.squares) q) g z
                    (group_of t tiling (node_below (square_groups t.squares) q) g z).0.row.first
                    (subst (IsOneOf (group_of t tiling (node_below (square_groups t.squares) q) g z).0.row.first)
                    (sym (group_of t tiling (node_below (square_groups t.squares) q) g z).0.row.is) (inl refl))),
              ))
