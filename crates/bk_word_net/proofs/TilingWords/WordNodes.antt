-- Each node of the net of a tiling's word but the last is a group of the tiling's squares, that is a node of its Smith
-- diagram, no two are one group, and the squares hang from the nodes as they do there.
use Rattle.std.specs.List.{list_any, position_or_len}
use Rattle.std.proofs.Common.{List, Some, [], ap, arith, length, map, slice_get, slice_index_or, subst, sym, ℕ, ◌++◌, ◌<◌, ◌∙◌, ◌∷◌, ◌≡◌}
use Rattle.std.proofs.lemmas.Option.{get_or_from_slice_get, slice_get_within}
use Rattle.std.proofs.lemmas.List.{length-map}
use Rattle.bk_laws.proofs.Totals.{total}
use Rattle.bk_laws.proofs.ListPlaces.{get_back, get_front, get_map, get_some, slice_get-unique}
use Rattle.bk_laws.proofs.ZippedLists.{all_zip-slice_get}
use Rattle.bk_tiling.proofs.Rows.{laid_sides}
use Rattle.bk_tiling.proofs.TilingLaws.{own_cell, side_of}
use Rattle.bk_tiling.specs.declared.Segment.{Segment}
use Rattle.bk_tiling.specs.Tiling.{IsOneOf, IsTiling, Tiling, covers}
use Rattle.bk_tiling.specs.declared.Square.{Square}
use Rattle.bk_tiling.specs.SquareGroups.{square_groups}
use Rattle.bk_word.specs.Play.{outline_of}
use Rattle.bk_word.specs.Word.{Word}
use Rattle.bk_lay.proofs.LaidRuns.{one_of}
use Rattle.bk_lay.specs.Depiction.{Hangs}
use Rattle.bk_lay.specs.TilingWord.{IsWordOf}
use Rattle.bk_word_net.proofs.TilingWords.GroupRuns.{IsGroupRun}
use Rattle.bk_word_net.proofs.TilingWords.CellGroups.{d, e, heads, in_place, laid_in, node_place, of_node}

module _ (t : Tiling) (w : Word) (tiling : IsTiling t) (p : IsWordOf t w) where
  -- the group of a node of the word
  abbrev pub node_of_word : ℕ → ℕ
  node_of_word i = slice_index_or (map (λ v. position_or_len (list_any (covers v.x v.level)) (square_groups t.squares)) (e t w tiling p).nodes
      ++ length (square_groups t.squares) ∷ []) i 0

  names_count : length (map (λ (v : Segment). position_or_len (list_any (covers v.x v.level)) (square_groups t.squares)) (e t w tiling p).nodes) ≡ length
      (e t w tiling p).nodes
  names_count = length-map (e t w tiling p).nodes (λ v. position_or_len (list_any (covers v.x v.level)) (square_groups t.squares))

  node_at : (k : ℕ) (v : Segment) → slice_get (e t w tiling p).nodes k ≡ Some v → node_of_word k ≡ position_or_len (list_any (covers v.x v.level))
      (square_groups t.squares)
  node_at k v f = get_front (map (λ v. position_or_len (list_any (covers v.x v.level)) (square_groups t.squares)) (e t w tiling p).nodes)
      (length (square_groups t.squares) ∷ []) k 0 (omega (arith, names_count, slice_get_within (e t w tiling p).nodes k v f))
      ∙ get_or_from_slice_get (map (λ v. position_or_len (list_any (covers v.x v.level)) (square_groups t.squares)) (e t w tiling p).nodes) k
      (position_or_len (list_any (covers v.x v.level)) (square_groups t.squares)) 0
      (get_map (λ v. position_or_len (list_any (covers v.x v.level)) (square_groups t.squares)) (e t w tiling p).nodes k v f)

  -- the last node is the bottom
  pub node_last : (k : ℕ) → k ≡ length (e t w tiling p).nodes → node_of_word k ≡ length (square_groups t.squares)
  node_last k f = get_back (map (λ v. position_or_len (list_any (covers v.x v.level)) (square_groups t.squares)) (e t w tiling p).nodes)
      (length (square_groups t.squares) ∷ []) 0 k 0 (omega (arith, names_count, f))

  -- each other one is the run of a group
  pub node_run : (k : ℕ) → k < length (e t w tiling p).nodes → (v : Segment) × ((r : IsGroupRun t v) × (slice_get (e t w tiling p).nodes k ≡ Some v) ×
      (node_of_word k ≡ r.place))
  node_run k h = let v = get_some (e t w tiling p).nodes k h in let r = ((e t w tiling p).exact).runs k v.0 v.1 in (
    v.0,
    (
      r,
      v.1,
      node_at k v.0 v.1 ∙
          node_place t w tiling p v.0 r,
    ),
  )

  -- the place of a word's node is among the groups
  pub node_below_groups : (k : ℕ) → k < length (e t w tiling p).nodes → node_of_word k < length (square_groups t.squares)
  node_below_groups k h = let n = node_run k h in let r = (n.1).0 in omega (arith, (n.1).2, slice_get_within (square_groups t.squares) r.place r.group r.is)

  same_run : (u v : Segment) (a : IsGroupRun t u) (b : IsGroupRun t v) → a.place ≡ b.place → u ≡ v
  same_run u v a b f = λ i. record { x = xs i; width = widths i; level = levels i }
    where
      group : a.group ≡ b.group
      group = slice_get-unique (square_groups t.squares) b.place a.group b.group
          (subst (λ (k : ℕ). slice_get (square_groups t.squares) k ≡ Some a.group) f a.is) b.is

      first : a.first ≡ b.first
      first = heads a.squares (group ∙ b.squares)

      xs : u.x ≡ v.x
      xs = sym a.x ∙ ap (λ (s : Square). s.x) first ∙ b.x

      levels : u.level ≡ v.level
      levels = sym a.y ∙ ap (λ (s : Square). s.y) first ∙ b.y

      widths : u.width ≡ v.width
      widths = sym a.wide ∙ ap (λ (l : List Square). total (laid_sides l)) group ∙ b.wide

  -- two nodes have two groups
  pub node_apart : (j k : ℕ) → j < length (e t w tiling p).nodes → k < length (e t w tiling p).nodes → node_of_word j ≡ node_of_word k → j ≡ k
  node_apart j k a b f = let m = node_run j a in let n = node_run k b in
      ((e t w tiling p).exact).once j k n.0 (subst (λ (s : Segment). slice_get (e t w tiling p).nodes j ≡ Some s)
      (same_run m.0 n.0 (m.1).0 (n.1).0 (sym (m.1).2 ∙ f ∙ (n.1).2)) (m.1).1) (n.1).1

  -- the node_of_word from which a laid square hangs is its group
  pub hung_group : (k : ℕ) (q : Square) → slice_get (e t w tiling p).laid k ≡ Some q → (slice_index_or (outline_of w).hung k 0 < length (e t w tiling p).nodes)
      × (node_of_word (slice_index_or (outline_of w).hung k 0) ≡ position_or_len (list_any (covers q.x q.y)) (square_groups t.squares))
  hung_group k q f = from (all_zip-slice_get (Hangs (e t w tiling p).nodes) (e t w tiling p).laid (outline_of w).hung k q 0 (d t w tiling p).hung f)
    where
      q_in : IsOneOf q t.squares
      q_in = laid_in t w tiling p q (one_of (e t w tiling p).laid k q f)

      from : Hangs (e t w tiling p).nodes q (slice_index_or (outline_of w).hung k 0) → (slice_index_or (outline_of w).hung k 0 < length (e t w tiling p).nodes)
          × (node_of_word (slice_index_or (outline_of w).hung k 0) ≡ position_or_len (list_any (covers q.x q.y)) (square_groups t.squares))
      from (v, is, y, lo, hi) = let r = ((e t w tiling p).exact).runs (slice_index_or (outline_of w).hung k 0) v is in (
        slice_get_within (e t w tiling p).nodes (slice_index_or (outline_of w).hung k 0) v is,
        node_at (slice_index_or (outline_of w).hung k 0) v is ∙ node_place t w tiling p v r
            ∙ sym (in_place t w tiling p r.place r.group q q.x q.y r.is (of_node t w tiling p v r q q_in y lo (omega (arith, hi, side_of t tiling q q_in)))
            (own_cell t tiling q q_in)),
      )
