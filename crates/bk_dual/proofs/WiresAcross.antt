-- Each wire of the dual diagram leads from the vertical segment at its square's left to the one at its right.
use Rattle.std.specs.List.{AllZip, enumerate_from, flat_map}
use Rattle.std.proofs.Common.{List, Some, [], ap, arith, count_by, inl, inr, length, map, nat_eq, refl, slice_get, slice_index}
use Rattle.std.proofs.Common.{slice_index_or, subst, suc, sym, true, zero, ℕ, ◌&&◌, ◌+◌, ◌-◌, ◌<◌, ◌∙◌, ◌∷◌, ◌≡◌, ◌⊎◌}
use Rattle.std.proofs.lemmas.Bool.Decides.{nat_tests}
use Rattle.std.proofs.lemmas.List.{length-map}
use Rattle.std.proofs.lemmas.Option.{get_or_from_slice_get, slice_get-get_or, slice_get_within}
use Rattle.bk_laws.proofs.ListPlaces.{get_map, get_some}
use Rattle.bk_laws.proofs.ZippedLists.{zip_append}
use Rattle.bk_laws.proofs.Outcomes.{is_some_and-intro}
use Rattle.bk_tiling.proofs.Cells.{counted_one}
use Rattle.bk_tiling.proofs.Groups.{row_of}
use Rattle.bk_tiling.proofs.Members.{one_at}
use Rattle.bk_tiling.specs.CodeOrder.{InCodeOrder}
use Rattle.bk_tiling.specs.Column.{covers_column}
use Rattle.bk_tiling.specs.SquareGroups.{square_groups}
use Rattle.bk_tiling.specs.Tiling.{IsOneOf, IsTiling, Tiling}
use Rattle.bk_tiling.specs.declared.Square.{Square}
use Rattle.bk_sym.proofs.Images.{in_map}
use Rattle.bk_sym.specs.Image.{image}
use Rattle.bk_sym.specs.declared.Turn.TheVariants.{Swap}
use Rattle.bk_net.proofs.NodeNumbers.{diagram_has_a_wire_for_each_square, wire_leads_from_the_group_to_the_node_below}
use Rattle.bk_net.proofs.GroupSquares.{get_index, row_is}
use Rattle.bk_net.proofs.NodeBelow.{has_node_below, stands_on}
use Rattle.bk_net.specs.Diagram.{group_level, node_below}
use Rattle.bk_net.specs.GroupNumbers.{group_numbers, numbered}
use Rattle.bk_dual.proofs.Numbers.{HasPlace, from_image, has_place}
use Rattle.bk_dual.specs.Dual.{dual_diagram, dual_order, number_at}
use Rattle.bk_dual.specs.DualWires.{IsAtLeft, IsAtRight, IsBeside, LeadsAcross, WiresLeadAcross, exchanged, vertical_segments}

-- a square below another, in the tiling with columns and levels exchanged, is at its right
beside : (q r : Square) → (nat_eq r.y (q.y + q.s) && covers_column q.x r) ≡ true → IsBeside (exchanged q) (exchanged r)
beside q r e = record { column = grind (arith, nat_tests); top = grind (arith, nat_tests); bottom = grind (arith, nat_tests) }

-- the square is one of the group with this number
abbrev HangsFrom : List (List Square) → ℕ → Square → Type 0
HangsFrom groups v q = (g : List Square) × (slice_get groups v ≡ Some g) × IsOneOf q g

-- and so is each with the number that stands for it
one_hangs : (groups : List (List Square)) (n : ℕ) (g : List Square) → slice_get groups n ≡ Some g → (squares : List Square)
    → ((q : Square) → IsOneOf q squares → IsOneOf q g) → AllZip (HangsFrom groups) (map (λ q. n) squares) squares
one_hangs groups n g e [] each = tt
one_hangs groups n g e (q ∷ squares) each = ((g, e, each q (inl refl)), one_hangs groups n g e squares (λ r h. each r (inr h)))

all_hang : (groups : List (List Square)) (n : ℕ) (rest : List (List Square))
    → ((v : ℕ) (g : List Square) → slice_get rest v ≡ Some g → slice_get groups (n + v) ≡ Some g)
    → AllZip (HangsFrom groups) (flat_map numbered (enumerate_from n rest)) (row_of rest)
all_hang groups n [] at = tt
all_hang groups n (g ∷ rest) at =
    zip_append (HangsFrom groups) (map (λ q. n) g) (flat_map numbered (enumerate_from (n + 1) rest)) g (row_of rest)
    (one_hangs groups n g (subst (λ (k : ℕ). slice_get groups k ≡ Some g) (omega arith) (at 0 g refl)) g (λ q h. h))
    (all_hang groups (n + 1) rest (λ v h e. subst (λ (k : ℕ). slice_get groups k ≡ Some h) (omega arith) (at (suc v) h e)))

zip_index : (R : ℕ → Square → Type 0) (numbers : List ℕ) (squares : List Square) → AllZip R numbers squares
    → (k : ℕ) (d : Square) → k < length squares → R (slice_index numbers k) (slice_index_or squares k d)
zip_index R [] [] z k d h = absurd (omega (arith, h))
zip_index R [] (q ∷ squares) z k d h = absurd z
zip_index R (n ∷ numbers) [] z k d h = absurd z
zip_index R (n ∷ numbers) (q ∷ squares) z zero d h = z.0
zip_index R (n ∷ numbers) (q ∷ squares) z (suc k) d h = zip_index R numbers squares z.1 k d (omega (arith, h))

module _ (t : Tiling) (tiling : IsTiling (image Swap t)) where
  -- a vertical segment
  segment : (v : ℕ) (g : List Square) → slice_get (square_groups (image Swap t).squares) v ≡ Some g
      → slice_get (vertical_segments t) v ≡ Some (map exchanged g)
  segment v g e = get_map (map exchanged) (square_groups (image Swap t).squares) v g e

  at_left : (m : ℕ) (q : Square) → m < length (image Swap t).squares → slice_index_or (image Swap t).squares m q ≡ q
      → IsAtLeft t (exchanged q) (slice_index (group_numbers (image Swap t).squares) m)
  at_left m q within is =
      is_some_and-intro (λ (squares : List Square). IsOneOf (exchanged q) squares)
      (slice_get (vertical_segments t) (slice_index (group_numbers (image Swap t).squares) m)) (map exchanged g.0)
      (segment (slice_index (group_numbers (image Swap t).squares) m) g.0 g.1)
      (in_map exchanged g.0 q (subst (λ (r : Square). IsOneOf r g.0) is g.2))
    where
      g : HangsFrom (square_groups (image Swap t).squares) (slice_index (group_numbers (image Swap t).squares) m) (slice_index_or (image Swap t).squares m q)
      g = zip_index (HangsFrom (square_groups (image Swap t).squares)) (group_numbers (image Swap t).squares) (image Swap t).squares
          (subst (AllZip (HangsFrom (square_groups (image Swap t).squares)) (group_numbers (image Swap t).squares)) (row_is (image Swap t) tiling)
          (all_hang (square_groups (image Swap t).squares) 0 (square_groups (image Swap t).squares)
          (λ v g e. subst (λ (k : ℕ). slice_get (square_groups (image Swap t).squares) k ≡ Some g) (omega arith) e))) m q within

  at_right : (q : Square) → IsOneOf q (image Swap t).squares → IsAtRight t (exchanged q) (node_below (square_groups (image Swap t).squares) q)
  at_right q one = by (has_node_below (image Swap t) tiling q one).found
    where
      inner : (g : List Square) → slice_get (square_groups (image Swap t).squares) (node_below (square_groups (image Swap t).squares) q) ≡ Some g
          → 0 < count_by (λ r. nat_eq r.y (q.y + q.s) && covers_column q.x r) g → IsAtRight t (exchanged q)
          (node_below (square_groups (image Swap t).squares) q)
      inner g e some =
          let r = counted_one (λ r. nat_eq r.y (q.y + q.s) && covers_column q.x r) g some in
          inl (is_some_and-intro (λ (squares : List Square). (r : Square) × IsOneOf r squares × IsBeside (exchanged q) r)
          (slice_get (vertical_segments t) (node_below (square_groups (image Swap t).squares) q)) (map exchanged g)
          (segment (node_below (square_groups (image Swap t).squares) q) g e)
          (exchanged r.0, in_map exchanged g r.0 r.1, beside q r.0 r.2))

      outer : node_below (square_groups (image Swap t).squares) q ≡ length (square_groups (image Swap t).squares)
          → ((node_below (square_groups (image Swap t).squares) q ≡ length (square_groups (image Swap t).squares)) × (q.y + q.s ≡ t.width))
          ⊎ ((g : List Square) × (slice_get (square_groups (image Swap t).squares) (node_below (square_groups (image Swap t).squares) q) ≡ Some g) ×
          (group_level g ≡ q.y + q.s))
          → IsAtRight t (exchanged q) (node_below (square_groups (image Swap t).squares) q)
      outer e (inl (f, w)) = inr (e ∙ sym (length-map (square_groups (image Swap t).squares) (map exchanged)), w)
      outer e (inr (g, f, l)) = absurd (omega (
        arith,
        slice_get_within (square_groups (image Swap t).squares)
            (node_below (square_groups (image Swap t).squares) q) g f,
        e,
      ))

      by : ((node_below (square_groups (image Swap t).squares) q < length (square_groups (image Swap t).squares))
          × (0 < count_by (λ r. nat_eq r.y (q.y + q.s) && covers_column q.x r)
          (slice_index_or (square_groups (image Swap t).squares) (node_below (square_groups (image Swap t).squares) q) [])))
          ⊎ ((node_below (square_groups (image Swap t).squares) q ≡ length (square_groups (image Swap t).squares))
          × (count_by (λ r. nat_eq r.y (q.y + q.s) && covers_column q.x r) (row_of (square_groups (image Swap t).squares)) ≡ 0))
          → IsAtRight t (exchanged q) (node_below (square_groups (image Swap t).squares) q)
      by (inl (within, some)) =
          let g = get_some (square_groups (image Swap t).squares) (node_below (square_groups (image Swap t).squares) q) within in
          inner g.0 g.1 (subst (λ (l : List Square). 0 < count_by (λ r. nat_eq r.y (q.y + q.s) && covers_column q.x r) l)
          (get_index (square_groups (image Swap t).squares) (node_below (square_groups (image Swap t).squares) q) g.0 g.1) some)
      by (inr (e, none)) = outer e (stands_on (image Swap t) tiling q one).is

-- the square with the number that stands for a square of the image
module _ (t : Tiling) (ordered : InCodeOrder t.squares) (tiling : IsTiling (image Swap t)) where
  record IsNumbered (q : Square) : Type 0 where
    some : 0 < number_at t q.y q.x
    is : slice_get t.squares (number_at t q.y q.x - 1) ≡ Some (exchanged q)

  is_numbered : (q : Square) → IsOneOf q (image Swap t).squares → IsNumbered q
  is_numbered q one =
      let p : HasPlace t.squares ordered (exchanged q) (from_image t q one) = has_place t.squares ordered (exchanged q) (from_image t q one) in
      record {
        some = omega arith;
        is = ap (slice_get t.squares) (omega (arith, p.is)) ∙ slice_get-get_or t.squares p.place (exchanged q) p.within
            ∙ ap (λ (r : Square). Some r) (p.at (exchanged q));
      }

  -- the wire and the number of the square at a place of the image
  leads_at : (k : ℕ) (q : Square) → k < length (image Swap t).squares → slice_index_or (image Swap t).squares k q ≡ q
      → LeadsAcross t (slice_index (group_numbers (image Swap t).squares) k, node_below (square_groups (image Swap t).squares) q) (number_at t q.y q.x)
  leads_at k q within is =
      let one : IsOneOf q (image Swap t).squares = subst (λ (r : Square). IsOneOf r (image Swap t).squares) is (one_at (image Swap t).squares k q within) in
      let n : IsNumbered q = is_numbered q one in
      record {
        square = exchanged q;
        some = n.some;
        is = n.is;
        left = at_left t tiling k q within is;
        right = at_right t tiling q one;
      }

  -- each wire leads from the segment at the left of its square to that at its right
  pub wires_lead_across : WiresLeadAcross t (dual_order t)
  wires_lead_across k wire number at_wire at_number =
      subst (λ (w : ℕ × ℕ). LeadsAcross t w number) here
      (subst (LeadsAcross t (slice_index (group_numbers (image Swap t).squares) k, node_below (square_groups (image Swap t).squares) q.0)) counted
      (leads_at k q.0 within own))
    where
      within : k < length (image Swap t).squares
      within = omega (arith, slice_get_within (dual_diagram t).wires k wire at_wire, diagram_has_a_wire_for_each_square (image Swap t) tiling)

      q : (q : Square) × (slice_get (image Swap t).squares k ≡ Some q)
      q = get_some (image Swap t).squares k within

      own : slice_index_or (image Swap t).squares k q.0 ≡ q.0
      own = get_or_from_slice_get (image Swap t).squares k q.0 q.0 q.1

      counted : number_at t q.0.y q.0.x ≡ number
      counted = one_of (sym (get_map (λ (q : Square). number_at t q.y q.x) (image Swap t).squares k q.0 q.1) ∙ at_number)
        where
          one_of : {a b : ℕ} → Some a ≡ Some b → a ≡ b
          one_of e = cc

      here : (slice_index (group_numbers (image Swap t).squares) k, node_below (square_groups (image Swap t).squares) q.0) ≡ wire
      here = ap (λ (r : Square). (slice_index (group_numbers (image Swap t).squares) k, node_below (square_groups (image Swap t).squares) r)) (sym own)
          ∙ sym (wire_leads_from_the_group_to_the_node_below (image Swap t) tiling k q.0 wire within)
          ∙ get_or_from_slice_get (dual_diagram t).wires k wire wire at_wire
