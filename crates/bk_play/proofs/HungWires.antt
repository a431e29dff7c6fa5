-- The wires of squares that hang from the nodes in order, so many from each.
use Rattle.std.proofs.Common.{List, [], ap, arith, drop, length, map, refl, replicate, sum, sym, take, zip, ℕ, ◌++◌, ◌+◌, ◌∙◌, ◌∷◌, ◌≡◌, ◌≤◌}
use Rattle.std.proofs.lemmas.List.{append-nil, append_assoc, length-append, length-replicate, length-take-le, take-append-drop}
use Rattle.std.proofs.lemmas.List.Sums.{sum_by-cons}
use Rattle.bk_laws.proofs.ZippedLists.{zip-append, zip-replicate_take}
use Rattle.bk_word.specs.Outline.{Outline, valley_of}
use Rattle.bk_word.specs.Play.{after_move, after_moves}
use Rattle.bk_word.specs.Word.{Word}
use Rattle.bk_play.specs.Wiring.{move_wires_from}

-- the nodes from which squares hang, so many from each
abbrev pub nodes_from : ℕ → List ℕ → List ℕ
nodes_from node [] = []
nodes_from node (count ∷ counts) = replicate count node ++ nodes_from (node + 1) counts

-- the squares of each move hang from the node that it closes, and nodes are closed in order
pub hung_nodes : (o : Outline) (w : Word) → (after_moves o w).hung ≡ o.hung ++ nodes_from (length o.closed) (map (λ m. m.count) w)
hung_nodes o [] = sym (append-nil o.hung)
hung_nodes o (m ∷ w) = hung_nodes (after_move o m) w
    ∙ append_assoc o.hung (replicate m.count (length o.closed)) (nodes_from (length (o.closed ++ valley_of o ∷ [])) (map (λ m. m.count) w))
    ∙ ap (λ n. o.hung ++ (replicate m.count (length o.closed) ++ nodes_from n (map (λ m. m.count) w))) (length-append o.closed (valley_of o ∷ []))

-- squares that hang from nodes in order, and the nodes where they end, are the wires
pub zip_nodes : (node : ℕ) (counts ends : List ℕ) → length ends ≡ sum counts → zip (nodes_from node counts) ends ≡ move_wires_from node counts ends
zip_nodes node [] ends e = refl
zip_nodes node (count ∷ counts) ends e =
    ap (zip (replicate count node ++ nodes_from (node + 1) counts)) (sym (take-append-drop count ends))
    ∙ zip-append (replicate count node) (take count ends) (nodes_from (node + 1) counts) (drop count ends)
    (length-replicate count node ∙ sym (length-take-le count ends within))
    ∙ (λ i. zip-replicate_take node count ends within i ++ zip_nodes (node + 1) counts (drop count ends) left i)
  where
    all : length ends ≡ count + sum counts
    all = e ∙ sum_by-cons (λ (n : ℕ). n) count counts

    within : count ≤ length ends
    within = omega (arith, all)

    left : length (drop count ends) ≡ sum counts
    left = omega (
      arith,
      all,
      within,
      ap length (take-append-drop count ends),
      length-append (take count ends) (drop count ends),
      length-take-le count ends within,
    )
