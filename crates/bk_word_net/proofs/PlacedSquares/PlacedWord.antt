-- Where a tiling has a word, each flow of the word's net of a positive total places its squares: its bottoms compare as those of
-- the tiling do.
use Rattle.std.specs.List.{AllByRecursion}
use Rattle.std.specs.Prelude.{negsuc, pos, ℤ, ◌≤ℤ◌}
use Rattle.std.proofs.Common.{List, [], ap, arith, inl, inr, length, map, refl, replicate, subst, suc, sym, true, zero, ℕ, ◌*◌, ◌++◌, ◌+◌, ◌<◌, ◌∙◌}
use Rattle.std.proofs.Common.{◌∷◌, ◌≡◌, ◌≤◌, ◌⊎◌}
use Rattle.std.proofs.lemmas.Int.{ints}
use Rattle.std.proofs.lemmas.List.{length-append, length-map, length-replicate}
use Rattle.bk_laws.proofs.Occurrences.{times_in-append}
use Rattle.bk_laws.proofs.Totals.{total}
use Rattle.bk_tiling.proofs.Cells.{all_from, in_all}
use Rattle.bk_tiling.proofs.Rows.{Chain, chain_total, laid_sides}
use Rattle.bk_tiling.proofs.TilingLaws.{wide_enough}
use Rattle.bk_tiling.specs.declared.Segment.{Segment}
use Rattle.bk_tiling.specs.Tiling.{IsOneOf, IsTiling, Tiling}
use Rattle.bk_tiling.specs.declared.Square.{Square}
use Rattle.bk_tiling.proofs.Groups.{chain_is_group}
use Rattle.bk_tiling.specs.SquareGroups.{laid_group}
use Rattle.bk_net.specs.Flow.{Flow, IsFlow}
use Rattle.bk_word.specs.Outline.{Outline, start, valley_of}
use Rattle.bk_word.specs.Play.{AreLegalFrom, after_move, after_moves, outline_of, parts}
use Rattle.bk_word.specs.Word.{Move, Word}
use Rattle.bk_word.specs.declared.Sign.{Sign}
use Rattle.bk_lay.proofs.Filling.{in_tiling, is_under}
use Rattle.bk_lay.proofs.ValleySquares.{under_chain}
use Rattle.bk_lay.proofs.Places.{Placed, placed}
use Rattle.bk_lay.proofs.ValleySegment.{valley_segment}
use Rattle.bk_lay.proofs.Valleys.{one_leftmost_valley}
use Rattle.bk_lay.specs.Depiction.{IsSegment, Span}
use Rattle.bk_lay.specs.TilingWord.{IsLeftmostValley, IsWordOf, MovesFollow, bottoms, signs_between, squares_under}
use Rattle.bk_word_net.proofs.TilingWords.AlongWord.{Along, HasBegun, NotBegun, along_move, along_start, top_valley}
use Rattle.bk_word_net.proofs.WordFlows.FlowFacts.{IsLater, is_later}
use Rattle.bk_word_net.proofs.PlacedSquares.PlacedValley.{IsPlacing}
use Rattle.bk_word_net.proofs.WordFlows.NoLoose.{Played, hung_number, played_move, played_start}
use Rattle.bk_word_net.proofs.WordFlows.Sums.{positive_sides}
use Rattle.bk_word_net.specs.FlowTiling.{AWordOfATilingIsPlaced, PlacesWord, SignsCompare, bottom_in, bottoms_of_move}
use Rattle.bk_word_net.specs.WordFlow.{LaidAlong, laid_flow, laid_so_far}
use Rattle.bk_word_net.specs.WordNet.{net_after}
use Rattle.bk_word_net.proofs.PlacedSquares.GrownAlike.{along_prefix}
use Rattle.bk_word_net.proofs.PlacedSquares.AlikeBottoms.{bottoms_alike, signs_scaled}
use Rattle.bk_word_net.proofs.PlacedSquares.PlacedSides.{alike, bottom_is, complete, currents, e, proportion, tl}
use Rattle.bk_word_net.proofs.PlacedSquares.MoveBottoms.{bottoms_are}

module _ (t : Tiling) (w : Word) (f : Flow) (tiling : IsTiling t) (p : IsWordOf t w) (flow : IsFlow (net_after (outline_of w)) f) (all : ℕ)
    (some : 0 < all) (total_is : f.total ≡ pos all) where
  compare : (v : Word) (o : Outline) (laid : List Square) (nodes : List Segment) (ls : List ℕ) → Played o → AreLegalFrom o v
      → Along t laid nodes o → MovesFollow t laid v → LaidAlong t (laid_so_far laid ls) v (laid_so_far (tl t w f tiling p flow all some total_is).0
      ((tl t w f tiling p flow all some total_is).1).0) → after_moves o v ≡ outline_of w
      → SignsCompare (bottom_in f ((outline_of w).closed ++ (outline_of w).segments)) o v
  compare [] o laid nodes ls own legal a q l same = tt
  compare (m ∷ v) o laid nodes ls own legal a q l same = (
    signs,
    compare v (after_move o m) (laid ++ squares_under t q.0) (nodes ++ q.0 ∷ []) (ls ++ (q.0).level ∷ []) (played_move o m (legal.0).some own) legal.1
        (subst (λ (n : Move). Along t (laid ++ squares_under t q.0) (nodes ++ q.0 ∷ []) (after_move o n)) (sym q.3)
        (along_move t laid nodes o q.0 tiling a q.1 q.2)) q.4 next same,
  )
    where
      next : LaidAlong t (laid_so_far (laid ++ squares_under t q.0) (ls ++ (q.0).level ∷ [])) v (laid_so_far
          (tl t w f tiling p flow all some total_is).0 ((tl t w f tiling p flow all some total_is).1).0)
      next = subst (λ (s : Segment). LaidAlong t (laid_so_far (laid ++ squares_under t s) (ls ++ s.level ∷ [])) v (laid_so_far
          (tl t w f tiling p flow all some total_is).0 ((tl t w f tiling p flow all some total_is).1).0))
          (one_leftmost_valley t.width laid l.0 q.0 l.1 q.1) l.2

      later : IsLater (after_move o m) (outline_of w)
      later = subst (IsLater (after_move o m)) same (is_later (after_move o m) v)

      chain : Chain (q.0).x (squares_under t q.0) ((q.0).x + (q.0).width)
      chain = under_chain t laid q.0 tiling a.fills q.1 q.2

      new_sum : total (laid_sides (squares_under t q.0)) ≡ (q.0).width
      new_sum = omega (arith, chain_total (squares_under t q.0) (q.0).x ((q.0).x + (q.0).width) chain)

      place_of : IsSegment laid q.0 (valley_of o) → NotBegun laid nodes o ⊎ HasBegun t laid nodes o
          → Span laid (q.0).level (q.0).x (valley_of o) ((q.0).x + total (laid_sides (squares_under t q.0)))
          ⊎ ((laid ≡ []) × (valley_of o ≡ []) × ((q.0).x ≡ 0) × ((q.0).level ≡ 0) × (total (laid_sides (squares_under t q.0)) ≡ t.width))
      place_of (inl span) b = inl (subst (λ (n : ℕ). Span laid (q.0).level (q.0).x (valley_of o) ((q.0).x + n)) (sym new_sum) span)
      place_of (inr top) (inl n) = let at = top_valley t tiling q.0
          (subst (λ (s : List Square). IsLeftmostValley t.width s q.0) n.no_square q.1) in inr (n.no_square, top.1, at.0, top.0, new_sum ∙ at.1)
      place_of (inr top) (inr b) = let flat = ((q.1).valley).flat in let within = flat.within in
          absurd (omega (arith, flat.level (q.0).x (omega arith) (omega (arith, flat.some)), b.deep (q.0).x (omega (arith, flat.some)), top.0))

      step : IsPlacing t.width laid o m (q.0).x (q.0).level (laid_sides (squares_under t q.0))
      step = record {
        count = length-map (squares_under t q.0) (λ r. r.s) ∙ sym (ap (λ (n : Move). n.count) q.3);
        some = positive_sides (squares_under t q.0)
            (λ r h. in_all (λ q. 0 < q.s) t.squares (tiling.tiles).sides r (in_tiling t laid q.0 tiling a.fills q.1 q.2 r h));
        place = place_of (valley_segment t laid nodes o q.0 tiling a.depicts q.1) a.begun;
      }

      group : squares_under t q.0 ≡ laid_group (q.0).x (q.0).level (laid_sides (squares_under t q.0))
      group = chain_is_group (squares_under t q.0) (q.0).x (q.0).level ((q.0).x + (q.0).width) chain
          (all_from (λ r. r.y ≡ (q.0).level) (squares_under t q.0) (λ r h. (is_under t laid q.0 tiling a.fills q.1 q.2 r h).level))

      pre : (more : List Square) × ((tl t w f tiling p flow all some total_is).0 ≡ (laid ++ squares_under t q.0) ++ more)
      pre = along_prefix t (laid ++ squares_under t q.0) (ls ++ (q.0).level ∷ []) v (tl t w f tiling p flow all some total_is).0 ((tl t w f tiling p flow
          all some total_is).1).0 next

      runs : Placed t.width laid 0 (a.depicts).runs
      runs = placed t.width laid (a.depicts).runs (wide_enough t tiling) (a.depicts).cut
          (subst (λ (signs : List Sign). AllByRecursion (λ sign. parts sign ≡ true) signs) (a.depicts).signs (a.depicts).parted)

      own_bottoms : bottoms_of_move (bottom_in (laid_flow t (tl t w f tiling p flow all some total_is).0 ((tl t w f tiling p flow all some total_is).1).0)
          ((outline_of w).closed ++ (outline_of w).segments)) o m ≡ bottoms t laid q.0
      own_bottoms = bottoms_are t tiling (tl t w f tiling p flow all some total_is).0 (λ r h. in_all (λ s. IsOneOf s t.squares) (tl t w f tiling p flow all
          some total_is).0 (((e t w f tiling p flow all some total_is).along).fills).squares r h) (e t w f tiling p flow all some total_is).full
          (bottom_in (laid_flow t (tl t w f tiling p flow all some total_is).0 ((tl t w f tiling p flow all some total_is).1).0) ((outline_of w).closed ++
          (outline_of w).segments)) (bottom_is t w f tiling p flow all some total_is)
          laid nodes o a.fills a.depicts q.0 q.1 m (legal.0).some (q.0).x (q.0).level (laid_sides (squares_under t q.0)) step pre.0
          (pre.1 ∙ ap (λ (s : List Square). (laid ++ s) ++ pre.0) group) runs
          (one_leftmost_valley t.width laid runs.valley q.0 runs.leftmost q.1)

      few : length o.hung + m.count ≤ length (outline_of w).hung
      few = omega (
        arith,
        ap length later.hung_is,
        length-append (after_move o m).hung later.hung,
        length-append o.hung (replicate m.count (length o.closed)),
        length-replicate m.count (length o.closed),
      )

      scaled : map (λ n. all * n) (bottoms_of_move
          (bottom_in (laid_flow t (tl t w f tiling p flow all some total_is).0 ((tl t w f tiling p flow all some total_is).1).0) ((outline_of w).closed ++
          (outline_of w).segments)) o m)
          ≡ map (λ n. t.width * n) (bottoms_of_move (bottom_in f ((outline_of w).closed ++ (outline_of w).segments)) o m)
      scaled = bottoms_alike all t.width (length (outline_of w).hung)
          (bottom_in (laid_flow t (tl t w f tiling p flow all some total_is).0 ((tl t w f tiling p flow all some total_is).1).0) ((outline_of w).closed ++
          (outline_of w).segments))
          (bottom_in f ((outline_of w).closed ++ (outline_of w).segments)) (alike t w f tiling p flow all some total_is) o m
          (λ n h. let r = hung_number o own.numbered n (omega (arith, h, times_in-append n o.closed o.segments)) in (r.0, omega (arith, r.1, few))) few

      signs : m.signs ≡ signs_between (bottoms_of_move (bottom_in f ((outline_of w).closed ++ (outline_of w).segments)) o m)
      signs = ap (λ (n : Move). n.signs) q.3 ∙ ap signs_between (sym own_bottoms)
          ∙ sym (signs_scaled all (bottoms_of_move (bottom_in (laid_flow t (tl t w f tiling p flow all some total_is).0 ((tl t w f tiling p flow all some
          total_is).1).0) ((outline_of w).closed ++ (outline_of w).segments)) o m) some)
          ∙ ap signs_between scaled
          ∙ signs_scaled t.width (bottoms_of_move (bottom_in f ((outline_of w).closed ++ (outline_of w).segments)) o m) (wide_enough t tiling)

  -- the flow places the squares as the tiling's sides do
  pub is_placed : PlacesWord w f
  is_placed = record {
    long = currents t w f tiling p flow all some total_is f.currents (tl t w f tiling p flow all some total_is).0 (proportion t w f tiling p flow all some
        total_is) (((e t w f tiling p flow all some total_is).along).fills).squares;
    signs = compare w start [] [] [] played_start (complete t w f tiling p flow all some total_is).legal (along_start t tiling) p ((tl t w f tiling p flow
        all some total_is).1).1 refl;
  }

-- the law: flows of one net are in one proportion
pub a_word_of_a_tiling_is_placed : AWordOfATilingIsPlaced
a_word_of_a_tiling_is_placed t w f tiling p flow positive = cases f.total refl positive
  where
    cases : (z : ℤ) → f.total ≡ z → pos 1 ≤ℤ z → PlacesWord w f
    cases (pos zero) e h = absurd (omega (arith, ints, h))
    cases (pos (suc n)) e h = is_placed t w f tiling p flow (suc n) (omega arith) e
    cases (negsuc n) e h = absurd (omega (arith, ints, h))
