-- The squares of a move, placed from a flow of a complete word's net in the valley of the move: what is laid fills its columns
-- once, and the open squares stand side by side. The word's signs play no part here.
use Rattle.std.specs.List.{concat}
use Rattle.std.specs.Prelude.{pos, ◌-ℤ◌}
use Rattle.std.proofs.Common.{List, Some, [], ap, arith, drop, inl, inr, length, map, refl, replicate, slice_get, slice_index_or, subst, suc, sym, take, ℕ}
use Rattle.std.proofs.Common.{◌++◌, ◌+◌, ◌<◌, ◌∙◌, ◌∷◌, ◌≡◌, ◌≤◌, ◌⊎◌}
use Rattle.std.proofs.lemmas.List.{append_assoc, length-append, length-map, length-replicate, map-append}
use Rattle.std.proofs.lemmas.Option.{slice_get_within}
use Rattle.std.proofs.lemmas.List.Folds.{concat-append}
use Rattle.bk_laws.proofs.ListPlaces.{get_back, get_either, get_front}
use Rattle.bk_laws.proofs.Totals.{total}
use Rattle.bk_laws.proofs.ListItems.{slice_index_or-replicate}
use Rattle.bk_laws.proofs.ListsOfLists.{concat-singletons}
use Rattle.bk_tiling.proofs.Cells.{from_append}
use Rattle.bk_tiling.proofs.Rows.{laid_sides}
use Rattle.bk_tiling.specs.Tiling.{IsOneOf}
use Rattle.bk_tiling.specs.declared.Square.{Square}
use Rattle.bk_tiling.proofs.Group.{group_list, group_sides, group_top, group_within}
use Rattle.bk_tiling.proofs.FilledGroup.{depth_beside, depth_under, filled_group}
use Rattle.bk_tiling.specs.SquareGroups.{laid_group}
use Rattle.bk_net.specs.Flow.{Flow, IsFlow, potential}
use Rattle.bk_word.specs.Outline.{Outline, valley_place}
use Rattle.bk_word.specs.Play.{after_move, new_squares, numbers_from, segments_apart, signs_apart}
use Rattle.bk_word.specs.Word.{Move}
use Rattle.bk_lay.proofs.LaidRuns.{one_of}
use Rattle.bk_word_net.proofs.Outlines.BottomChain.{BottomChain, chain_group, chain_join, chain_more, concat-joined}
use Rattle.bk_word_net.proofs.WordFlows.FlowFacts.{HasSides, IsLater}
use Rattle.bk_word_net.proofs.WordFlows.NoLoose.{Played}
use Rattle.bk_word_net.proofs.PlacedSquares.NextSides.{Base, NextSides, ValleyAt, hung_is}
use Rattle.bk_word_net.proofs.WordFlows.Sums.{out_sum}
use Rattle.bk_word_net.specs.WordNet.{net_after}

module _ (O : Outline) (played : Played O) (f : Flow) (flow : IsFlow (net_after O) f) (s : HasSides f) (width : ℕ)
    (width_is : width ≡ out_sum O.hung s.sides 0)
    (laid : List Square) (o : Outline) (m : Move) (own : Played o) (base : Base O played f flow s width width_is laid o) (some : 0 < m.count)
    (later : IsLater (after_move o m) O) (x level : ℕ) (n : NextSides O played f flow s width width_is laid o m base.rest)
    (valley : ValleyAt O played f flow s width width_is laid o x level (total n.new)) where
  -- the squares of a move, laid in its valley, keep what holds of the laid ones
  pub base_move : Base O played f flow s width width_is (laid ++ laid_group x level n.new) (after_move o m)
  base_move = record {
    filled = filled_group laid x level n.new valley.deep width base.filled;
    inside = λ q h. inside q (from_append laid (laid_group x level n.new) q h);
    tops = λ k q e. tops k q (get_either laid (laid_group x level n.new) k q e);
    rest = n.further;
    prefix = base.prefix ∙ ap (λ (r : List ℕ). laid_sides laid ++ r) n.parts ∙ sym (append_assoc (laid_sides laid) n.new n.further)
        ∙ ap (λ (r : List ℕ). r ++ n.further) (ap (λ (r : List ℕ). laid_sides laid ++ r) (sym (group_list x level n.new))
        ∙ sym (map-append (λ q. q.s) laid (laid_group x level n.new)));
    count = omega (
      arith,
      length-append laid (laid_group x level n.new),
      length-append o.hung (replicate m.count (length o.closed)),
      length-replicate m.count (length o.closed),
      base.count,
      n.count,
      ap length (group_list x level n.new),
      length-map (laid_group x level n.new) (λ q. q.s),
    );
  }
    where
      inside : (q : Square) → IsOneOf q laid ⊎ IsOneOf q (laid_group x level n.new) → (0 < q.s) × (q.x + q.s ≤ width)
      inside q (inl h) = base.inside q h
      inside q (inr h) = (group_sides x level n.new n.some q h, omega (arith, (group_within x level n.new q h).1, valley.fits))

      tops : (k : ℕ) (q : Square) → (slice_get laid k ≡ Some q)
          ⊎ ((j : ℕ) × (k ≡ length laid + j) × (slice_get (laid_group x level n.new) j ≡ Some q))
          → pos q.y ≡ potential f 0 -ℤ potential f (slice_index_or O.hung k 0)
      tops k q (inl h) = base.tops k q h
      tops k q (inr (j, e, at)) = ap pos (group_top x level n.new q (one_of (laid_group x level n.new) j q at)) ∙ valley.level_is
          ∙ ap (λ (v : ℕ). potential f 0 -ℤ potential f v) (sym hangs)
        where
          few : j < m.count
          few = omega (
            arith,
            slice_get_within (laid_group x level n.new) j q at,
            n.count,
            ap length (group_list x level n.new),
            length-map (laid_group x level n.new) (λ q. q.s),
          )

          hangs : slice_index_or O.hung k 0 ≡ length o.closed
          hangs = ap (λ (h : List ℕ). slice_index_or h k 0) (hung_is O played f flow s width width_is laid o m own base some later)
              ∙ get_back o.hung (replicate m.count (length o.closed) ++ later.hung) j k 0 (omega (arith, e, base.count))
              ∙ get_front (replicate m.count (length o.closed)) later.hung j 0 (omega (arith, few, length-replicate m.count (length o.closed)))
              ∙ slice_index_or-replicate m.count (length o.closed) j 0 few

  -- after a move the open squares stand side by side over the whole width
  pub chain_move : BottomChain (laid ++ laid_group x level n.new) 0 (concat (after_move o m).segments) width
  chain_move = subst (λ (ns : List ℕ). BottomChain (laid ++ laid_group x level n.new) 0 ns width) (sym row)
      (chain_join (laid ++ laid_group x level n.new) 0 (concat (take (valley_place o.signs) o.segments) ++ new_squares o m)
      (x + total n.new) (concat (drop (suc (valley_place o.signs)) o.segments)) width
      (chain_join (laid ++ laid_group x level n.new) 0 (concat (take (valley_place o.signs) o.segments)) x (new_squares o m) (x + total n.new)
      (chain_more laid (laid_group x level n.new) 0 (concat (take (valley_place o.signs) o.segments)) x valley.before
      (λ c lo hi. depth_beside laid x level n.new valley.deep c (inl hi)))
      group)
      (chain_more laid (laid_group x level n.new) (x + total n.new) (concat (drop (suc (valley_place o.signs)) o.segments)) width
      valley.after (λ c lo hi. depth_beside laid x level n.new valley.deep c (inr lo))))
    where
      group : BottomChain (laid ++ laid_group x level n.new) x (new_squares o m) (x + total n.new)
      group = subst (λ (k : ℕ). BottomChain (laid ++ laid_group x level n.new) x (numbers_from (length o.hung + 1) k) (x + total n.new)) n.count
          (chain_group (laid ++ laid_group x level n.new) laid x level n.new refl
          (λ q h c lo hi. depth_under laid x level n.new valley.deep c q h lo hi) (length o.hung + 1) (omega (arith, base.count)))

      same : valley_place o.signs + 1 ≡ suc (valley_place o.signs)
      same = omega arith

      row : concat (after_move o m).segments ≡ (concat (take (valley_place o.signs) o.segments) ++ new_squares o m)
          ++ concat (drop (suc (valley_place o.signs)) o.segments)
      row = concat-joined (signs_apart o m) (segments_apart o m)
          ∙ concat-append (take (valley_place o.signs) o.segments ++ map (λ q. q ∷ []) (new_squares o m)) (drop (valley_place o.signs + 1) o.segments)
          ∙ (λ i. (concat-append (take (valley_place o.signs) o.segments) (map (λ q. q ∷ []) (new_squares o m)) i) ++ concat (drop (same i) o.segments))
          ∙ ap (λ (ns : List ℕ). (concat (take (valley_place o.signs) o.segments) ++ ns)
          ++ concat (drop (suc (valley_place o.signs)) o.segments)) (concat-singletons (new_squares o m))
