-- Texts whose pieces have a blank before each.
use Rattle.std.proofs.Common.{List, [], ap, append_assoc, arith, length, sym, ℕ, ◌++◌, ◌∙◌, ◌∷◌, ◌≡◌, ◌≤◌}
use Rattle.std.specs.Prelude.{codes, decimal, flat_map, map}
use Rattle.std.proofs.lemmas.Fmt.{length-decimal-le}
use Rattle.std.proofs.lemmas.Grind.{flat_map-append}
use Rattle.std.proofs.lemmas.List.{append-nil}
use Rattle.bk_laws.proofs.ListsOfLists.{flat_map-blanks, flat_map-blanks_then_pieces}
use Rattle.bk_report.specs.Answers.{line, spaced}
use Rattle.bk_report.specs.declared.net.TheConstants.{LARGEST_PLACE, LONGEST_PLACE_TEXT}

-- the pieces of an answer of check, one after another
pub verdict_pieces : (front number size perfect simple : List ℕ)
    → ((((((front ++ (codes "ok " ++ (number ++ codes " "))) ++ size) ++ 32 ∷ []) ++ perfect) ++ 32 ∷ []) ++ simple) ++ 10 ∷ []
    ≡ front ++ line (codes "ok" ∷ number ∷ size ∷ perfect ∷ simple ∷ [])
verdict_pieces front number size perfect simple = simp append_assoc

-- the pieces of a rectangle that some of the squares form, one after another
pub compound_pieces : (front x y size : List ℕ)
    → (front ++ (codes "compound " ++ (x ++ (codes "," ++ (y ++ codes " "))))) ++ size ≡ front ++ spaced (codes "compound" ∷ (x ++ codes "," ++ y) ∷ size ∷ [])
compound_pieces front x y size = simp append_assoc

-- the pieces of a size and a code, one after another
pub tiling_words : (front size code : List ℕ) → ((front ++ size) ++ 32 ∷ []) ++ code ≡ front ++ spaced (size ∷ code ∷ [])
tiling_words front size code = simp append_assoc

-- pieces with a blank before each
pub blanks_before : (piece : List ℕ) (pieces : List (List ℕ)) → piece ++ flat_map (λ l. 32 ∷ l) pieces ≡ spaced (piece ∷ pieces)
blanks_before piece [] = append-nil piece
blanks_before piece (next ∷ pieces) = ap (λ (l : List ℕ). piece ++ 32 ∷ l) (blanks_before next pieces)

-- pieces with a blank between each two, and more with a blank before each
pub more_pieces : (piece : List ℕ) (pieces more : List (List ℕ)) → spaced (piece ∷ pieces) ++ flat_map (λ l. 32 ∷ l) more ≡ spaced (piece ∷ pieces ++ more)
more_pieces piece [] more = blanks_before piece more
more_pieces piece (next ∷ pieces) more =
    append_assoc piece (32 ∷ spaced (next ∷ pieces)) (flat_map (λ l. 32 ∷ l) more) ∙ ap (λ (l : List ℕ). piece ++ 32 ∷ l) (more_pieces next pieces more)

-- a number and pieces, `;`, and a number and pieces again: the pieces of a Smith diagram, one after another
pub net_pieces : {A B : Type 0} (f : A → List ℕ) (g : B → List ℕ) (nodes width : List ℕ) (xs : List A) (ys : List B)
    → ((((nodes ++ flat_map (λ x. 32 ∷ f x) xs) ++ codes " ; ") ++ width) ++ flat_map (λ y. 32 ∷ g y) ys) ++ 10 ∷ []
    ≡ line ((nodes ∷ map f xs) ++ codes ";" ∷ width ∷ map g ys)
net_pieces f g nodes width xs ys =
    let blanks : List (List ℕ) → List ℕ = flat_map (λ l. 32 ∷ l) in
    ap (λ (l : List ℕ). l ++ 10 ∷ [])
    (append_assoc ((nodes ++ flat_map (λ x. 32 ∷ f x) xs) ++ codes " ; ") width (flat_map (λ y. 32 ∷ g y) ys)
    ∙ append_assoc (nodes ++ flat_map (λ x. 32 ∷ f x) xs) (codes " ; ") (width ++ flat_map (λ y. 32 ∷ g y) ys)
    ∙ append_assoc nodes (flat_map (λ x. 32 ∷ f x) xs) (codes " ; " ++ (width ++ flat_map (λ y. 32 ∷ g y) ys))
    ∙ ap (λ (l : List ℕ). nodes ++ (l ++ (codes " ; " ++ (width ++ flat_map (λ y. 32 ∷ g y) ys)))) (flat_map-blanks f xs)
    ∙ ap (λ (l : List ℕ). nodes ++ (blanks (map f xs) ++ (codes " ; " ++ (width ++ l)))) (flat_map-blanks g ys)
    ∙ ap (λ (l : List ℕ). nodes ++ l) (sym (flat_map-append (λ (l : List ℕ). 32 ∷ l) (map f xs) (codes ";" ∷ width ∷ map g ys)))
    ∙ blanks_before nodes (map f xs ++ codes ";" ∷ width ∷ map g ys))

-- a number and numbers with a blank before each: the pieces of a flow, one after another
pub flow_pieces : {A : Type 0} (f : A → List ℕ) (total : List ℕ) (xs : List A)
    → (total ++ flat_map (λ x. 32 ∷ f x) xs) ++ 10 ∷ [] ≡ line (total ∷ map f xs)
flow_pieces f total xs =
    ap (λ (l : List ℕ). (total ++ l) ++ 10 ∷ []) (flat_map-blanks f xs) ∙ ap (λ (l : List ℕ). l ++ 10 ∷ []) (blanks_before total (map f xs))

-- a Smith diagram, `;`, pieces, `;` and a number: the pieces of a dual diagram, one after another
pub dual_pieces : {A B C : Type 0} (f : A → List ℕ) (g : B → List ℕ) (h : C → List ℕ) (nodes height count : List ℕ) (xs : List A) (ys : List B) (zs : List C)
    → ((((((((nodes ++ flat_map (λ x. 32 ∷ f x) xs) ++ codes " ; ") ++ height) ++ flat_map (λ y. 32 ∷ g y) ys) ++ codes " ;")
    ++ flat_map (λ z. 32 ∷ h z) zs) ++ codes " ; ") ++ count) ++ 10 ∷ []
    ≡ line ((nodes ∷ map f xs) ++ (codes ";" ∷ (height ∷ map g ys) ++ (codes ";" ∷ map h zs ++ (codes ";" ∷ count ∷ []))))
dual_pieces f g h nodes height count xs ys zs =
    let wires : List ℕ = flat_map (λ x. 32 ∷ f x) xs in
    let sides : List ℕ = flat_map (λ y. 32 ∷ g y) ys in
    let numbers : List ℕ = flat_map (λ z. 32 ∷ h z) zs in
    let last : List (List ℕ) = codes ";" ∷ count ∷ [] in
    let third : List (List ℕ) = codes ";" ∷ map h zs ++ last in
    let second : List (List ℕ) = codes ";" ∷ height ∷ map g ys ++ third in
    to_the_right nodes wires height sides numbers count
    ∙ ap (λ (l : List ℕ). (nodes ++ (wires ++ (codes " ; " ++ (height ++ (sides ++ (codes " ;" ++ (numbers ++ (codes " ; " ++ l)))))))) ++ 10 ∷ [])
    (sym (append-nil count))
    ∙ ap (λ (l : List ℕ). (nodes ++ (wires ++ (codes " ; " ++ (height ++ (sides ++ (codes " ;" ++ l)))))) ++ 10 ∷ []) (flat_map-blanks_then_pieces h zs last)
    ∙ ap (λ (l : List ℕ). (nodes ++ (wires ++ (codes " ; " ++ (height ++ l)))) ++ 10 ∷ []) (flat_map-blanks_then_pieces g ys third)
    ∙ ap (λ (l : List ℕ). (nodes ++ l) ++ 10 ∷ []) (flat_map-blanks_then_pieces f xs second)
    ∙ ap (λ (l : List ℕ). l ++ 10 ∷ []) (blanks_before nodes (map f xs ++ second))
  where
    to_the_right : (nodes wires height sides numbers count : List ℕ)
        → ((((((((nodes ++ wires) ++ codes " ; ") ++ height) ++ sides) ++ codes " ;") ++ numbers) ++ codes " ; ") ++ count) ++ 10 ∷ []
        ≡ (nodes ++ (wires ++ (codes " ; " ++ (height ++ (sides ++ (codes " ;" ++ (numbers ++ (codes " ; " ++ count)))))))) ++ 10 ∷ []
    to_the_right nodes wires height sides numbers count = simp append_assoc

-- the number of a node, or of a square, has at most three digits
pub short_place : (n : ℕ) → n ≤ LARGEST_PLACE → length (decimal n) ≤ LONGEST_PLACE_TEXT
short_place n small = length-decimal-le 3 n (omega arith) (omega arith) (omega arith)
