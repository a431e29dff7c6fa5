-- The squares placed from a flow of a complete word's net, to the last move: they tile the rectangle whose width is
-- the total.
use Rattle.std.specs.List.{AllByRecursion, concat}
use Rattle.std.specs.Prelude.{nat_abs, pos, ◌-ℤ◌}
use Rattle.std.proofs.Common.{List, Some, [], ap, arith, drop, inl, inr, length, refl, slice_get, slice_index_or, subst, suc, sym, take, ℕ, ◌++◌}
use Rattle.std.proofs.Common.{◌+◌, ◌<◌, ◌∙◌, ◌∷◌, ◌≡◌, ◌⊎◌}
use Rattle.std.proofs.lemmas.Int.{ints}
use Rattle.std.proofs.lemmas.Option.{get_or_from_slice_get, slice_get_within}
use Rattle.bk_laws.proofs.Occurrences.{times, times-concat, times_in}
use Rattle.bk_laws.proofs.ListPlaces.{get_append, get_back}
use Rattle.bk_laws.proofs.Totals.{total}
use Rattle.bk_laws.proofs.TestsAsNumbers.{nat_eq-same_if_counted}
use Rattle.bk_tiling.proofs.Rows.{laid_sides}
use Rattle.bk_tiling.specs.CodeOrder.{in_code_order}
use Rattle.bk_tiling.specs.Column.{depth}
use Rattle.bk_tiling.specs.Tiling.{IsTiling, Tiling}
use Rattle.bk_tiling.specs.declared.Square.{Square}
use Rattle.bk_tiling.specs.SquareGroups.{laid_group}
use Rattle.bk_net.specs.Flow.{Flow, IsFlow, potential}
use Rattle.bk_word.specs.Outline.{Outline, start, valley_of, valley_place}
use Rattle.bk_word.specs.Play.{AreLegalFrom, after_move, after_moves}
use Rattle.bk_word.specs.Word.{Move, Word}
use Rattle.bk_lay.specs.Depiction.{IsNumbered}
use Rattle.bk_word_net.proofs.Outlines.BottomChain.{BottomChain, chain_level}
use Rattle.bk_word_net.proofs.PlacedSquares.PlacedMoves.{base_move, chain_move}
use Rattle.bk_word_net.proofs.PlacedSquares.FilledValley.{valley_at}
use Rattle.bk_word_net.proofs.PlacedSquares.FilledColumns.{columns_are_tiling}
use Rattle.bk_word_net.proofs.WordFlows.FlowFacts.{HasSides, IsLater, drop_of, is_later}
use Rattle.bk_word_net.proofs.WordFlows.NoLoose.{Played, played_move}
use Rattle.bk_word_net.proofs.Outlines.Numbering.{HasPlace, place_of_number}
use Rattle.bk_word_net.proofs.PlacedSquares.NextSides.{Base, NextSides, ValleyAt, more, next_sides}
use Rattle.bk_word_net.proofs.WordFlows.Sums.{get_side, out_sum}
use Rattle.bk_word_net.specs.WordNet.{end_of, net_after}

module _ (O : Outline) (played : Played O) (f : Flow) (flow : IsFlow (net_after O) f) (s : HasSides f) (width : ℕ)
    (width_is : width ≡ out_sum O.hung s.sides 0) where
  -- one move: the group that is laid, and its valley
  pub record BuiltMove (laid : List Square) (o : Outline) (m : Move) (x level : ℕ) (new : List ℕ) : Type 0 where
    pub count : length new ≡ m.count
    pub some : AllByRecursion (λ s. 0 < s) new
    pub valley : ValleyAt O played f flow s width width_is laid o x level (total new)
    pub base : Base O played f flow s width width_is laid o

  -- the moves, to all squares
  abbrev pub BuiltMoves : List Square → Outline → Word → List Square → Type 0
  BuiltMoves laid o [] all = laid ≡ all
  BuiltMoves laid o (m ∷ w) all = (x : ℕ) × ((level : ℕ)
      × ((new : List ℕ) × (BuiltMove laid o m x level new × BuiltMoves (laid ++ laid_group x level new) (after_move o m) w all)))

  abbrev State : List Square → Outline → Type 0
  State laid o = ((laid ≡ []) × (o ≡ start)) ⊎ ((0 < length o.closed) × BottomChain laid 0 (concat o.segments) width)

  -- the squares laid by the moves of a word
  pub record Result (laid : List Square) (o : Outline) (w : Word) : Type 0 where
    pub all : List Square
    pub moves : BuiltMoves laid o w all
    pub base : Base O played f flow s width width_is all O
    pub last : State all O

  build : (w : Word) (o : Outline) (laid : List Square) → Played o → AreLegalFrom o w → after_moves o w ≡ O
      → Base O played f flow s width width_is laid o → ((laid ≡ []) × (o ≡ start))
      ⊎ ((0 < length o.closed) × BottomChain laid 0 (concat o.segments) width) → Result laid o w
  build [] o laid own legal e base state = record {
    all = laid;
    moves = refl;
    base = subst (Base O played f flow s width width_is laid) e base;
    last = subst (λ (p : Outline). ((laid ≡ []) × (p ≡ start)) ⊎ ((0 < length p.closed) × BottomChain laid 0 (concat p.segments) width)) e state;
  }
  build (m ∷ w) o laid own legal e base state = from (valley state) (build w)
    where
      later : IsLater (after_move o m) O
      later = subst (IsLater (after_move o m)) e (is_later (after_move o m) w)

      n : NextSides O played f flow s width width_is laid o m base.rest
      n = next_sides O played f flow s width width_is laid o m own base (legal.0).some later

      valley : ((laid ≡ []) × (o ≡ start)) ⊎ ((0 < length o.closed) × BottomChain laid 0 (concat o.segments) width) → (x : ℕ)
          × ((level : ℕ) × ValleyAt O played f flow s width width_is laid o x level (total n.new))
      valley (inr (begun, chain)) = valley_at O played f flow s width width_is laid o m own base (legal.0).some later begun chain
      valley (inl (none, is)) = (
        0,
        (
          0,
          record {
            place = inr (none, ap valley_of is, refl, refl, whole_width);
            deep = λ c lo hi. ap (λ (l : List Square). depth l c) none;
            fits = omega (arith, whole_width);
            level_is = omega (arith, ints, ap (λ (k : ℕ). potential f k) no_node);
            before = subst (λ (p : Outline). BottomChain laid 0 (concat (take (valley_place p.signs) p.segments)) 0) (sym is) refl;
            after = subst (λ (p : Outline). BottomChain laid (0 + total n.new) (concat (drop (suc (valley_place p.signs)) p.segments))
                width) (sym is) (omega (arith, whole_width));
          },
        ),
      )
        where
          no_node : length o.closed ≡ 0
          no_node = ap (λ (p : Outline). length p.closed) is

          whole_width : total n.new ≡ width
          whole_width = n.sum ∙ ap (out_sum O.hung s.sides) no_node ∙ sym width_is

      from : (x : ℕ) × ((level : ℕ) × ValleyAt O played f flow s width width_is laid o x level (total n.new))
          → ((o : Outline) (laid : List Square) → Played o → AreLegalFrom o w → after_moves o w ≡ O
          → Base O played f flow s width width_is laid o → ((laid ≡ []) × (o ≡ start))
          ⊎ ((0 < length o.closed) × BottomChain laid 0 (concat o.segments) width) → Result laid o w) → Result laid o (m ∷ w)
      from (x, (level, v)) again = onto (again (after_move o m) (laid ++ laid_group x level n.new) (played_move o m (legal.0).some own) legal.1 e
          (base_move O played f flow s width width_is laid o m own base (legal.0).some later x level n v)
          (inr (
            omega (arith, more O played f flow s width width_is laid o m own base (legal.0).some later),
            chain_move O played f flow s width width_is laid o m own base (legal.0).some later x level n v,
          )))
        where
          onto : Result (laid ++ laid_group x level n.new) (after_move o m) w → Result laid o (m ∷ w)
          onto r = record {
            all = r.all;
            moves = (
              x,
              (level, (n.new, (record { count = n.count; some = n.some; valley = v; base = base }, r.moves))),
            );
            base = r.base;
            last = r.last;
          }

  -- a complete word, laid by a flow of its net
  pub build_all : (w : Word) → AreLegalFrom start w → Played start → after_moves start w ≡ O → Result [] start w
  build_all w legal own e = build w start [] own legal e
      (record {
        filled = λ c j a b. absurd (omega arith);
        inside = λ q h. absurd h;
        tops = λ k q g. absurd (cc);
        rest = s.sides;
        prefix =
            refl;
        count = refl;
      }) (inl (refl, refl))

-- the squares of a complete word, laid by a flow of its net, are a tiling at the end
module _ (O : Outline) (played : Played O) (f : Flow) (flow : IsFlow (net_after O) f) (s : HasSides f) (width : ℕ)
    (width_is : width ≡ out_sum O.hung s.sides 0)
    (all : List Square) (base : Base O played f flow s width width_is all O) (one : length O.segments ≡ 1) (chain : BottomChain all 0 (concat O.segments) width)
    (some : 0 < width) where
  -- the bottom of a square
  pub bottom_at : (k : ℕ) (q : Square) → slice_get all k ≡ Some q → pos (q.y + q.s) ≡ potential f 0 -ℤ potential f (end_of (O.closed ++ O.segments) (1 + k))
  bottom_at k q e = omega (arith, ints, base.tops k q e, drop_of O played.numbered f flow s k few, side)
    where
      few : k < length O.hung
      few = omega (arith, slice_get_within all k q e, base.count)

      side : slice_index_or s.sides k 0 ≡ q.s
      side = get_or_from_slice_get s.sides k q.s 0 (subst (λ (l : List ℕ). slice_get l k ≡ Some q.s) (sym base.prefix)
          (get_append (laid_sides all) base.rest k q.s (get_side all k q e)))

  height : ℕ
  height = nat_abs (potential f 0 -ℤ potential f (length O.closed))

  only : (n : ℕ) (lists : List (List ℕ)) → length lists ≡ 1 → times_in n lists ≡ times n (slice_index_or lists 0 [])
  only n [] e = absurd (omega arith)
  only n (numbers ∷ []) e = omega arith
  only n (numbers ∷ more ∷ lists) e = absurd (omega arith)

  ends_last : (n : ℕ) (q : Square) → 0 < times n (concat O.segments) → IsNumbered all n q
      → q.y + q.s ≡ nat_abs (potential f 0 -ℤ potential f (length O.closed))
  ends_last n q h (k, is, at) = ap nat_abs (bottom_at k q at ∙ ap (λ (v : ℕ). potential f 0 -ℤ potential f v) place)
    where
      p : HasPlace (1 + k) (O.closed ++ O.segments) (end_of (O.closed ++ O.segments) (1 + k))
      p = place_of_number O played.numbered (1 + k) (omega arith) (omega (arith, slice_get_within all k q at, base.count))

      number : 1 + k ≡ n
      number = omega (arith, is)

      stands : times (1 + k) (slice_index_or (O.closed ++ O.segments) (length O.closed) []) ≡ times n (concat O.segments)
      stands = ap (times (1 + k)) (get_back O.closed O.segments 0 (length O.closed) [] (omega arith))
          ∙ (λ i. times (number i) (slice_index_or O.segments 0 [])) ∙ sym (only n O.segments one) ∙ sym (times-concat n O.segments)

      place : end_of (O.closed ++ O.segments) (1 + k) ≡ length O.closed
      place = nat_eq-same_if_counted (end_of (O.closed ++ O.segments) (1 + k)) (length O.closed) (omega (arith, h, stands, p.counts (length O.closed)))

  -- at the end all columns are as deep as the potential drops
  pub all_deep : (c : ℕ) → c < width → depth all c ≡ nat_abs (potential f 0 -ℤ potential f (length O.closed))
  all_deep c h = (chain_level all (nat_abs (potential f 0 -ℤ potential f (length O.closed))) 0 (concat O.segments) width chain ends_last).1 c (omega arith) h

  -- the rectangle of these squares
  abbrev pub built : Tiling
  built = record { width = width; height = nat_abs (potential f 0 -ℤ potential f (length O.closed)); squares = in_code_order all }

  -- the squares that were placed make a tiling
  pub is_tiling : 0 < length all → IsTiling built
  is_tiling = columns_are_tiling width (nat_abs (potential f 0 -ℤ potential f (length O.closed))) all base.inside base.filled all_deep
