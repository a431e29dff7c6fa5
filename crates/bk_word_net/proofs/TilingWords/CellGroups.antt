-- The squares that a tiling's word lays, and the groups of the tiling over the cells and the columns of its nodes.
use Rattle.std.specs.List.{list_any, position_or_len}
use Rattle.std.proofs.Common.{List, Some, ap, arith, count_by, inl, refl, slice_get, subst, sym, true, ℕ, ◌+◌, ◌<◌, ◌∙◌, ◌∷◌, ◌≡◌, ◌≤◌}
use Rattle.std.proofs.lemmas.Option.{slice_get_within}
use Rattle.bk_laws.proofs.TestsAsNumbers.{nat_eq-same_if_counted}
use Rattle.bk_tiling.proofs.Cells.{covers_from, in_all, one_counted, over_from}
use Rattle.bk_tiling.proofs.Rows.{chain_total}
use Rattle.bk_tiling.proofs.TilingLaws.{cell_once, own_cell, side_of, within_of}
use Rattle.bk_tiling.specs.declared.Segment.{Segment}
use Rattle.bk_tiling.specs.Tiling.{IsOneOf, IsTiling, Tiling, covers}
use Rattle.bk_tiling.specs.declared.Square.{Square}
use Rattle.bk_tiling.proofs.TilingGroups.{one_there}
use Rattle.bk_tiling.specs.SquareGroups.{square_groups}
use Rattle.bk_net.proofs.GroupEdges.{at_level}
use Rattle.bk_net.proofs.GroupSquares.{get_index, group_of, in_group, row_is}
use Rattle.bk_net.proofs.SmithLists.{has_group}
use Rattle.bk_word.specs.Play.{IsComplete, outline_of}
use Rattle.bk_word.specs.Word.{Word}
use Rattle.bk_lay.proofs.WordPlay.{NoneTwice, none_twice, tiling_word_is_complete}
use Rattle.bk_lay.specs.Depiction.{Depicts}
use Rattle.bk_lay.specs.TilingWord.{IsWordOf}
use Rattle.bk_word_net.proofs.TilingWords.GroupRuns.{IsGroupRun}
use Rattle.bk_word_net.proofs.TilingWords.ExactNodes.{ExactEnd, exact_end}
use Rattle.bk_word_net.proofs.WordFlows.NoLoose.{Played, played_word}

-- a list has one first square
pub heads : {group xs ys : List Square} {a b : Square} → group ≡ a ∷ xs → group ≡ b ∷ ys → a ≡ b
heads g h = cc

module _ (t : Tiling) (w : Word) (tiling : IsTiling t) (p : IsWordOf t w) where
  -- what is laid at the end, node by node
  abbrev pub e : ExactEnd t (outline_of w)
  e = exact_end t w tiling p

  -- the nodes depict what is laid
  abbrev pub d : Depicts t e.laid e.nodes (outline_of w)
  d = (e.along).depicts

  -- the word of a tiling is complete
  pub complete : IsComplete w
  complete = (tiling_word_is_complete t w tiling p).0

  -- the outline is played
  pub played : Played (outline_of w)
  played = played_word w complete

  -- what is laid is the tiling's
  pub laid_in : (q : Square) → IsOneOf q e.laid → IsOneOf q t.squares
  laid_in q h = in_all (λ s. IsOneOf s t.squares) e.laid ((e.along).fills).squares q h

  wide : (q : Square) → IsOneOf q t.squares → q.x < t.width
  wide q h = let a = (within_of t tiling q h).right in omega (arith, side_of t tiling q h)

  -- a square begins above the bottom
  pub low : (q : Square) → IsOneOf q t.squares → q.y < t.height
  low q h = let a = (within_of t tiling q h).bottom in omega (arith, side_of t tiling q h)

  -- no square is laid twice
  pub laid_once : NoneTwice e.laid
  laid_once = none_twice e.laid (λ q h. omega (
    arith,
    ((e.along).fills).filled q.x q.y (wide q (laid_in q h))
        (omega (arith, low q (laid_in q h), e.full q.x (wide q (laid_in q h)))),
  )) (λ q h. own_cell t tiling q (laid_in q h))

  -- the group that covers a cell is found at its place
  pub in_place : (k : ℕ) (g : List Square) (q : Square) (i j : ℕ) → slice_get (square_groups t.squares) k ≡ Some g → IsOneOf q g
      → covers i j q ≡ true → position_or_len (list_any (covers i j)) (square_groups t.squares) ≡ k
  in_place k g q i j is h c = nat_eq-same_if_counted (position_or_len (list_any (covers i j)) (square_groups t.squares)) k (omega (
    arith,
    (has_group (covers i j) (square_groups t.squares)
        (omega (
          arith,
          ap (count_by (covers i j)) (row_is t tiling),
          cell_once t tiling i j (omega (arith, (over_from i j q c).right, (within_of t tiling q q_in).right))
              (omega (arith, (over_from i j q c).bottom, (within_of t tiling q q_in).bottom)),
        ))).counts k (slice_get_within (square_groups t.squares) k g is),
    ap (count_by (covers i j)) (get_index (square_groups t.squares) k g is),
    one_counted (covers i j) g q h c,
  ))
    where
      q_in : IsOneOf q t.squares
      q_in = in_group t tiling k g is q h

  -- a node's group is found at the group's place
  pub node_place : (v : Segment) (r : IsGroupRun t v) → position_or_len (list_any (covers v.x v.level)) (square_groups t.squares) ≡ r.place
  node_place v r = in_place r.place r.group r.first v.x v.level r.is first_in
      (covers_from v.x v.level r.first (omega (arith, r.x)) (omega (arith, r.x, side)) (omega (arith, r.y)) (omega (arith, r.y, side)))
    where
      first_in : IsOneOf r.first r.group
      first_in = subst (IsOneOf r.first) (sym r.squares) (inl refl)

      side : 0 < (r.first).s
      side = side_of t tiling r.first (in_group t tiling r.place r.group r.is r.first first_in)

  -- the groups' squares over the columns of a node_of_word
  pub over_node : (v : Segment) (r : IsGroupRun t v) (c : ℕ) → v.x ≤ c → c < v.x + v.width → (s : Square) × IsOneOf s r.group × (covers c v.level s ≡ true)
  over_node v r c lo hi = from (at_level t tiling r.place r.group r.is c (omega (arith, ap (λ (s : Square). s.x) same, r.x))
      (omega (
        arith,
        chain_total r.group (group_of t tiling r.place r.group r.is).0.row.first.x
            (group_of t tiling r.place r.group r.is).0.row.end (group_of t tiling r.place r.group r.is).0.row.chain,
        r.wide,
        ap (λ (s : Square). s.x) same,
        r.x,
      )))
    where
      same : (group_of t tiling r.place r.group r.is).0.row.first ≡ r.first
      same = heads (group_of t tiling r.place r.group r.is).0.row.is r.squares

      from : (s : Square) × IsOneOf s r.group × (covers c (group_of t tiling r.place r.group r.is).0.row.first.y s ≡ true) → (s : Square)
          × IsOneOf s r.group × (covers c v.level s ≡ true)
      from (s, h, f) = (s, h, subst (λ (j : ℕ). covers c j s ≡ true) (ap (λ (z : Square). z.y) same ∙ r.y) f)

  -- a square under a node is one of its group
  pub of_node : (v : Segment) (r : IsGroupRun t v) (q : Square) → IsOneOf q t.squares → q.y ≡ v.level → v.x ≤ q.x → q.x < v.x + v.width → IsOneOf q r.group
  of_node v r q h y lo hi = from (over_node v r q.x lo hi)
    where
      from : (s : Square) × IsOneOf s r.group × (covers q.x v.level s ≡ true) → IsOneOf q r.group
      from (s, k, f) = subst (λ (z : Square). IsOneOf z r.group) (one_there t tiling s q q.x v.level (in_group t tiling r.place r.group r.is s k) f h
          (covers_from q.x v.level q (omega arith) (omega (arith, side_of t tiling q h)) (omega (arith, y)) (omega (arith, y, side_of t tiling q h)))) k
