-- A tiling of a word with given sides, held against the play of the word with these sides: each move of the play is one
-- of the tiling's.
use Rattle.std.specs.List.{AllByRecursion}
use Rattle.std.proofs.Common.{List, [], ap, arith, length, map, refl, subst, sym, ℕ, ◌++◌, ◌+◌, ◌<◌, ◌∙◌, ◌∷◌, ◌≡◌}
use Rattle.std.proofs.lemmas.List.{append_assoc, length-map, map-append}
use Rattle.bk_laws.proofs.Totals.{sum_is_total, total}
use Rattle.bk_laws.proofs.ListParts.{append-equal_parts}
use Rattle.bk_tiling.proofs.Cells.{all_from, in_all}
use Rattle.bk_tiling.proofs.Groups.{chain_is_group}
use Rattle.bk_tiling.proofs.Rows.{Chain, chain_total, laid_sides}
use Rattle.bk_tiling.specs.Tiling.{IsTiling, Tiling}
use Rattle.bk_tiling.specs.SquareGroups.{laid_group}
use Rattle.bk_tiling.specs.declared.Segment.{Segment}
use Rattle.bk_tiling.specs.declared.Square.{Square}
use Rattle.bk_word.specs.Outline.{Outline, start}
use Rattle.bk_word.specs.Play.{after_move}
use Rattle.bk_word.specs.Word.{Move, Word}
use Rattle.bk_lay.proofs.Filling.{in_tiling, is_under}
use Rattle.bk_lay.proofs.ValleySquares.{under_chain}
use Rattle.bk_lay.proofs.Valleys.{one_leftmost_valley}
use Rattle.bk_lay.specs.TilingWord.{IsLeftmostValley, MovesFollow, depth_before, depth_from, move_under, signs_between, squares_under}
use Rattle.bk_word_net.proofs.TilingWords.AlongWord.{Along, along_move, along_start, top_valley}
use Rattle.bk_word_net.proofs.Outlines.RunsAfterMove.{fills_total}
use Rattle.bk_word_net.proofs.WordFlows.Sums.{positive_sides}
use Rattle.bk_word_net.specs.LaidTiling.{IsLaidWith}
use Rattle.bk_word_net.specs.LaidOutline.{FillsValley}
use Rattle.bk_word_net.specs.WordFlow.{LaidAlong, laid_so_far}
use Rattle.bk_word_net.proofs.PlacedSquares.GrownAlike.{along_prefix}

-- the tiling has this width; these squares of it are laid, these moves follow, and these sides
pub record AgreesAt (width : ℕ) (t : Tiling) (laid : List Square) (o : Outline) (w : Word) (rest : List ℕ) : Type 0 where
  pub tiling : IsTiling t
  pub same_width : t.width ≡ width
  pub nodes : List Segment
  pub along : Along t laid nodes o
  pub follow : MovesFollow t laid w
  pub levels : List ℕ
  pub all : List Square
  pub all_levels : List ℕ
  pub later : LaidAlong t (laid_so_far laid levels) w (laid_so_far all all_levels)
  pub sides : laid_sides all ≡ laid_sides laid ++ rest

-- what the tiling's own move says
record OwnMove (t : Tiling) (laid : List Square) (o : Outline) (m : Move) (w : Word) (new further : List ℕ) (v : Segment) : Type 0 where
  pub filled : FillsValley t.width laid m new v
  pub next : AgreesAt t.width t (laid ++ laid_group v.x v.level new) (after_move o m) w further

module _ (t : Tiling) (tiling : IsTiling t) (laid : List Square) (nodes : List Segment) (o : Outline) (m : Move) (w : Word)
    (new further : List ℕ) (some : 0 < m.count) (count : length new ≡ m.count)
    (a : Along t laid nodes o) (v : Segment) (found : IsLeftmostValley t.width laid v) (low : v.level < t.height)
    (same : m ≡ move_under t laid v) (follow : MovesFollow t (laid ++ squares_under t v) w)
    (levels : List ℕ) (all : List Square) (all_levels : List ℕ)
    (later : LaidAlong t (laid_so_far (laid ++ squares_under t v) (levels ++ v.level ∷ [])) w (laid_so_far all all_levels))
    (sides : laid_sides all ≡ laid_sides laid ++ (new ++ further)) where
  pre : (more : List Square) × (all ≡ (laid ++ squares_under t v) ++ more)
  pre = along_prefix t (laid ++ squares_under t v) (levels ++ v.level ∷ []) w all all_levels later

  chain : Chain v.x (squares_under t v) (v.x + v.width)
  chain = under_chain t laid v tiling a.fills found low

  long : length (laid_sides (squares_under t v)) ≡ length new
  long = length-map (squares_under t v) (λ q. q.s) ∙ sym (ap (λ (n : Move). n.count) same) ∙ sym count

  parts : (laid_sides (squares_under t v) ≡ new) × (laid_sides pre.0 ≡ further)
  parts = append-equal_parts (laid_sides (squares_under t v)) (laid_sides pre.0) new further long rest
    where
      rest : laid_sides (squares_under t v) ++ laid_sides pre.0 ≡ new ++ further
      rest = (append-equal_parts (laid_sides laid) (laid_sides (squares_under t v) ++ laid_sides pre.0) (laid_sides laid) (new ++ further) refl
          (sym (ap (λ (xs : List ℕ). laid_sides laid ++ xs) (map-append (λ q. q.s) (squares_under t v) pre.0))
          ∙ sym (map-append (λ q. q.s) laid (squares_under t v ++ pre.0))
          ∙ ap laid_sides (sym (append_assoc laid (squares_under t v) pre.0)) ∙ sym (ap laid_sides pre.1) ∙ sides)).1

  group : squares_under t v ≡ laid_group v.x v.level new
  group = chain_is_group (squares_under t v) v.x v.level (v.x + v.width) chain
      (all_from (λ r. r.y ≡ v.level) (squares_under t v) (λ r h. (is_under t laid v tiling a.fills found low r h).level))
      ∙ ap (laid_group v.x v.level) parts.0

  its_move : OwnMove t laid o m w new further v
  its_move = record {
    filled = record {
      found = found;
      count = count;
      some = some;
      positive = subst (AllByRecursion (λ s. 0 < s)) parts.0
          (positive_sides (squares_under t v) (λ r h. in_all (λ q. 0 < q.s) t.squares (tiling.tiles).sides r
          (in_tiling t laid v tiling a.fills found low r h)));
      fills = omega (arith, chain_total (squares_under t v) v.x (v.x + v.width) chain, ap total parts.0, sum_is_total new);
      signs = ap (λ (n : Move). n.signs) same ∙ ap
          (λ (squares : List Square). signs_between (depth_before laid v.x ++ map (λ q. q.y + q.s) squares ++ depth_from t.width laid (v.x + v.width))) group;
    };
    next = subst (λ (squares : List Square). AgreesAt t.width t (laid ++ squares) (after_move o m) w further) group (record {
      tiling = tiling;
      same_width = refl;
      nodes = nodes ++ v ∷ [];
      along = subst (λ (n : Move). Along t (laid ++ squares_under t v) (nodes ++ v ∷ []) (after_move o n)) (sym same)
          (along_move t laid nodes o v tiling a found low);
      follow = follow;
      levels = levels ++ v.level ∷ [];
      all = all;
      all_levels = all_levels;
      later = later;
      sides = ap laid_sides pre.1 ∙ map-append (λ q. q.s) (laid ++ squares_under t v) pre.0
          ∙ ap (λ (xs : List ℕ). laid_sides (laid ++ squares_under t v) ++ xs) parts.1;
    });
  }

-- the next move of the play is the tiling's
pub record AgreesOn (width : ℕ) (t : Tiling) (laid : List Square) (o : Outline) (m : Move) (w : Word) (new further : List ℕ) : Type 0 where
  pub valley : Segment
  pub filled : FillsValley width laid m new valley
  pub next : AgreesAt width t (laid ++ laid_group valley.x valley.level new) (after_move o m) w further

own_move : (t : Tiling) (laid : List Square) (o : Outline) (m : Move) (w : Word) (new further : List ℕ) → 0 < m.count → length new ≡ m.count
    → AgreesAt t.width t laid o (m ∷ w) (new ++ further) → (v : Segment) × OwnMove t laid o m w new further v
own_move t laid o m w new further some count g = (
  g.follow.0,
  its_move t g.tiling laid g.nodes o m w new further some count g.along g.follow.0 g.follow.1 g.follow.2 g.follow.3
      g.follow.4 g.levels g.all g.all_levels rest g.sides,
)
  where
    rest : LaidAlong t (laid_so_far (laid ++ squares_under t g.follow.0) (g.levels ++ (g.follow.0).level ∷ [])) w (laid_so_far g.all g.all_levels)
    rest = subst (λ (u : Segment). LaidAlong t (laid_so_far (laid ++ squares_under t u) (g.levels ++ u.level ∷ [])) w (laid_so_far g.all g.all_levels))
        (one_leftmost_valley t.width laid g.later.0 g.follow.0 g.later.1 g.follow.1) g.later.2

-- a tiling that agrees with what is laid agrees with the next move
pub agrees_on : (width : ℕ) (t : Tiling) (laid : List Square) (o : Outline) (m : Move) (w : Word) (new further : List ℕ) → 0 < m.count
    → length new ≡ m.count → AgreesAt width t laid o (m ∷ w) (new ++ further) → AgreesOn width t laid o m w new further
agrees_on width t laid o m w new further some count g =
    subst (λ (n : ℕ). AgreesOn n t laid o m w new further) g.same_width (from (own_move t laid o m w new further some count (record {
      tiling = g.tiling;
      same_width = refl;
      nodes = g.nodes;
      along = g.along;
      follow = g.follow;
      levels = g.levels;
      all = g.all;
      all_levels = g.all_levels;
      later = g.later;
      sides = g.sides;
    })))
  where
    from : (v : Segment) × OwnMove t laid o m w new further v → AgreesOn t.width t laid o m w new further
    from (v, r) = record { valley = v; filled = r.filled; next = r.next }

-- at the start: the width is the sum of the first move's sides
pub agrees_start : (t : Tiling) (m : Move) (w : Word) (new further : List ℕ) → 0 < m.count → length new ≡ m.count
    → IsLaidWith (m ∷ w) (new ++ further) t → AgreesAt (total new) t [] start (m ∷ w) (new ++ further)
agrees_start t m w new further some count l = subst (λ (n : ℕ). AgreesAt n t [] start (m ∷ w) (new ++ further)) width here
  where
    here : AgreesAt t.width t [] start (m ∷ w) (new ++ further)
    here = record {
      tiling = l.tiling;
      same_width = refl;
      nodes = [];
      along = along_start t l.tiling;
      follow = l.word;
      levels = [];
      all =
          l.laid;
      all_levels = l.levels;
      later = l.along;
      sides = l.sides;
    }

    first : (v : Segment) × OwnMove t [] start m w new further v
    first = own_move t [] start m w new further some count here

    width : t.width ≡ total new
    width = let filled = (first.1).filled in sym (top_valley t l.tiling first.0 filled.found).1 ∙ sym (fills_total t.width [] m new first.0 filled)
