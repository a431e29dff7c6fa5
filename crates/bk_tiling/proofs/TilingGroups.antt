-- The groups of a tiling: each is a group among its squares, and the first stands at the top left corner.
use Rattle.std.specs.List.{AllByRecursion}
use Rattle.std.proofs.Common.{List, [], ap, arith, inl, inr, length, refl, subst, sym, true, ℕ, ◌∙◌, ◌∷◌, ◌≡◌}
use Rattle.bk_tiling.proofs.Cells.{no_two}
use Rattle.bk_tiling.proofs.TilingLaws.{cell_most, side_of, wide_enough, within_of}
use Rattle.bk_tiling.specs.Tiling.{IsOneOf, IsTiling, Tiling, covers}
use Rattle.bk_tiling.specs.declared.Square.{Square}
use Rattle.bk_tiling.proofs.Groups.{AllIn, Apart, IsGroup, Split, first_group_split}
use Rattle.bk_tiling.proofs.NextCorner.{next_corner}
use Rattle.bk_tiling.specs.SquareGroups.{square_groups}

module _ (t : Tiling) (tiling : IsTiling t) where
  -- two squares of the tiling over one cell are one square
  pub one_there : (q r : Square) (i j : ℕ) → IsOneOf q t.squares → covers i j q ≡ true → IsOneOf r t.squares → covers i j r ≡ true → q ≡ r
  one_there q r i j a e b f = no_two (covers i j) t.squares (cell_most t tiling i j) q r a e b f

  apart : Apart t.squares
  apart = record { ordered = tiling.ordered; sides = side_of t tiling; apart = λ q r a b i j e f. one_there q r i j a e b f }

  -- all groups, and the first of them
  pub record Known : Type 0 where
    pub first : Square
    pub group : List Square
    pub others : List (List Square)
    pub is : square_groups t.squares ≡ group ∷ others
    pub own : IsGroup t.squares group
    pub at_first : own.row.first ≡ first
    pub x : first.x ≡ 0
    pub y : first.y ≡ 0
    pub all : AllByRecursion (λ g. IsGroup t.squares g × AllIn t.squares g) (square_groups t.squares)

  -- the squares of a tiling have what the laws on groups ask of them
  pub known_groups : Known
  known_groups = from t.squares refl
    where
      more : (p : Square) (squares : List Square) (gs : List (List Square)) → AllByRecursion (λ g. IsGroup (p ∷ squares) g × AllIn squares g) gs
          → AllByRecursion (λ g. IsGroup (p ∷ squares) g × AllIn (p ∷ squares) g) gs
      more p squares [] all = tt
      more p squares (g ∷ gs) all = ((all.0.0, wider g all.0.1), more p squares gs all.1)
        where
          wider : (g : List Square) → AllIn squares g → AllIn (p ∷ squares) g
          wider [] a = tt
          wider (q ∷ g) a = (inr a.0, wider g a.1)

      from : (squares : List Square) → t.squares ≡ squares → Known
      from [] e = absurd (omega (arith, (tiling.tiles).some, ap length e))
      from (p ∷ squares) e = record {
        first = p;
        group = s.group;
        others = s.groups;
        is = ap square_groups e ∙ s.is;
        own = subst (λ (l : List Square). IsGroup l s.group) (sym e) group_is;
        at_first = at_first;
        x = corner.1;
        y = corner.0;
        all = subst (λ (l : List Square). AllByRecursion (λ g. IsGroup l g × AllIn l g) (square_groups l)) (sym e)
            (subst (AllByRecursion (λ g. IsGroup (p ∷ squares) g × AllIn (p ∷ squares) g)) (sym s.is) ((group_is, s.own), more p squares s.groups s.others));
      }
        where
          s : Split p squares
          s = first_group_split p squares (subst Apart e apart)

          p_in : IsOneOf p t.squares
          p_in = subst (IsOneOf p) (sym e) (inl refl)

          corner : (p.y ≡ 0) × (p.x ≡ 0)
          corner = let k = next_corner t [] p squares tiling e 0 0 (wide_enough t tiling)
              (let w = (within_of t tiling p p_in).bottom in omega (arith, side_of t tiling p p_in)) (λ r h f. h) in
              let level : p.y ≡ 0 = omega (arith, k.level) in (level, omega (arith, k.column level))

          group_is : IsGroup (p ∷ squares) s.group
          group_is =
              record {
                row = s.row;
                left =
                    λ z h ey ex. omega (arith, side_of t tiling z (subst (IsOneOf z) (sym e) h), ex, ap (λ (q : Square). q.x) s.first, corner.1);
              }

          at_first : (subst (λ (l : List Square). IsGroup l s.group) (sym e) group_is).row.first ≡ p
          at_first = first_of (p ∷ squares) t.squares (sym e) group_is ∙ s.first
            where
              first_of : (l m : List Square) (f : l ≡ m) (k : IsGroup l s.group) → (subst (λ (l : List Square). IsGroup l s.group) f k).row.first ≡ k.row.first
              first_of l m f k = heads (subst (λ (l : List Square). IsGroup l s.group) f k).row.is k.row.is
                where
                  heads : {a b : Square} {xs ys : List Square} → s.group ≡ a ∷ xs → s.group ≡ b ∷ ys → a ≡ b
                  heads f g = cc

  -- each group of the tiling's squares is a group among them
  pub all_groups : AllByRecursion (λ g. IsGroup t.squares g × AllIn t.squares g) (square_groups t.squares)
  all_groups = known_groups.all
