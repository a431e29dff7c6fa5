-- While the squares of a complete word are placed from a flow of its net: what holds of those laid so far, the valley that the next move
-- closes, and the sides that it lays.
use Rattle.std.specs.List.{AllByRecursion, concat}
use Rattle.std.specs.Prelude.{pos, ◌-ℤ◌}
use Rattle.std.proofs.Common.{List, Some, [], ap, arith, count_by, drop, length, replicate, slice_get, slice_index_or, subst, suc, sym, take, ℕ, ◌++◌, ◌+◌, ◌<◌}
use Rattle.std.proofs.Common.{◌∙◌, ◌∷◌, ◌≡◌, ◌≤◌, ◌⊎◌}
use Rattle.std.proofs.lemmas.List.{append_assoc, length-append, length-map, length-replicate, length-take-le, take-append-drop}
use Rattle.bk_laws.proofs.AllOfLists.{all_left, all_right}
use Rattle.bk_laws.proofs.Totals.{total}
use Rattle.bk_laws.proofs.Occurrences.{times-zero_of_all_below}
use Rattle.bk_tiling.proofs.Rows.{laid_sides}
use Rattle.bk_tiling.specs.Column.{depth}
use Rattle.bk_tiling.specs.Tiling.{IsOneOf, covers}
use Rattle.bk_tiling.specs.declared.Square.{Square}
use Rattle.bk_net.specs.Flow.{Flow, IsFlow, potential}
use Rattle.bk_word.specs.Outline.{Outline, valley_of, valley_place}
use Rattle.bk_word.specs.Play.{after_move}
use Rattle.bk_word.specs.Word.{Move}
use Rattle.bk_lay.specs.Depiction.{Span}
use Rattle.bk_word_net.proofs.Outlines.BottomChain.{BottomChain}
use Rattle.bk_word_net.proofs.WordFlows.FlowFacts.{HasSides, IsLater, sides_count}
use Rattle.bk_word_net.proofs.WordFlows.NoLoose.{Played}
use Rattle.bk_word_net.proofs.WordFlows.Sums.{out_sum, out_sum-append, out_sum-here, out_sum-none}
use Rattle.bk_word_net.specs.WordNet.{net_after}

module _ (O : Outline) (played : Played O) (f : Flow) (flow : IsFlow (net_after O) f) (s : HasSides f) (width : ℕ)
    (width_is : width ≡ out_sum O.hung s.sides 0) where
  -- what is laid while the outline is o
  pub record Base (laid : List Square) (o : Outline) : Type 0 where
    pub filled : (c j : ℕ) → c < width → j < depth laid c → count_by (covers c j) laid ≡ 1
    pub inside : (q : Square) → IsOneOf q laid → (0 < q.s) × (q.x + q.s ≤ width)
    pub tops : (k : ℕ) (q : Square) → slice_get laid k ≡ Some q → pos q.y ≡ potential f 0 -ℤ potential f (slice_index_or O.hung k 0)
    pub rest : List ℕ
    pub prefix : s.sides ≡ laid_sides laid ++ rest
    pub count : length laid ≡ length o.hung

  -- the valley that the next move closes
  pub record ValleyAt (laid : List Square) (o : Outline) (x level wide : ℕ) : Type 0 where
    pub place : Span laid level x (valley_of o) (x + wide) ⊎ ((laid ≡ []) × (valley_of o ≡ []) × (x ≡ 0) × (level ≡ 0) × (wide ≡ width))
    pub deep : (c : ℕ) → x ≤ c → c < x + wide → depth laid c ≡ level
    pub fits : x + wide ≤ width
    pub level_is : pos level ≡ potential f 0 -ℤ potential f (length o.closed)
    pub before : BottomChain laid 0 (concat (take (valley_place o.signs) o.segments)) x
    pub after : BottomChain laid (x + wide) (concat (drop (suc (valley_place o.signs)) o.segments)) width

  -- the sides that the next move lays
  pub record NextSides (laid : List Square) (o : Outline) (m : Move) (rest : List ℕ) : Type 0 where
    pub new : List ℕ
    pub further : List ℕ
    pub parts : rest ≡ new ++ further
    pub count : length new ≡ m.count
    pub some : AllByRecursion (λ s. 0 < s) new
    pub sum : total new ≡ out_sum O.hung s.sides (length o.closed)

  module _ (laid : List Square) (o : Outline) (m : Move) (own : Played o) (base : Base laid o) (some : 0 < m.count) (later : IsLater (after_move o m) O) where
    -- one node more is closed
    pub more : length (o.closed ++ valley_of o ∷ []) ≡ length o.closed + 1
    more = omega (arith, length-append o.closed (valley_of o ∷ []))

    -- the squares that hang at the end: those before, those of the move, and the later ones
    pub hung_is : O.hung ≡ o.hung ++ (replicate m.count (length o.closed) ++ later.hung)
    hung_is = later.hung_is ∙ append_assoc o.hung (replicate m.count (length o.closed)) later.hung

    long : length base.rest ≡ m.count + length later.hung
    long = omega (
      arith,
      sides_count O played.numbered f flow s,
      ap length base.prefix,
      length-append (laid_sides laid) base.rest,
      length-map laid (λ q. q.s),
      base.count,
      ap length hung_is,
      length-append o.hung (replicate m.count (length o.closed) ++ later.hung),
      length-append (replicate m.count (length o.closed)) later.hung,
      length-replicate m.count (length o.closed),
    )

    -- the sides that the next move lays
    pub next_sides : NextSides laid o m base.rest
    next_sides = record {
      new = take m.count base.rest;
      further = drop m.count base.rest;
      parts = sym (take-append-drop m.count base.rest);
      count = counts;
      some = all_left (λ s. 0 < s) (take m.count base.rest) (drop m.count base.rest) positive;
      sum = sum;
    }
      where
        counts : length (take m.count base.rest) ≡ m.count
        counts = length-take-le m.count base.rest (omega (arith, long))

        positive : AllByRecursion (λ s. 0 < s) (take m.count base.rest ++ drop m.count base.rest)
        positive = subst (AllByRecursion (λ s. 0 < s)) (sym (take-append-drop m.count base.rest))
            (all_right (λ s. 0 < s) (laid_sides laid) base.rest (subst (AllByRecursion (λ s. 0 < s)) base.prefix s.positive))

        all_sides : s.sides ≡ laid_sides laid ++ (take m.count base.rest ++ drop m.count base.rest)
        all_sides = base.prefix ∙ ap (λ (r : List ℕ). laid_sides laid ++ r) (sym (take-append-drop m.count base.rest))

        sum : total (take m.count base.rest) ≡ out_sum O.hung s.sides (length o.closed)
        sum = omega (
          arith,
          (ap (λ (h : List ℕ). out_sum h s.sides (length o.closed)) hung_is
              ∙ ap (λ (r : List ℕ). out_sum (o.hung ++ (replicate m.count (length o.closed) ++ later.hung)) r (length o.closed)) all_sides),
          out_sum-append o.hung (replicate m.count (length o.closed) ++ later.hung) (laid_sides laid)
              (take m.count base.rest ++ drop m.count base.rest) (length o.closed) (omega (arith, base.count, length-map laid (λ q. q.s))),
          out_sum-append (replicate m.count (length o.closed)) later.hung (take m.count base.rest) (drop m.count base.rest)
              (length o.closed) (omega (arith, counts, length-replicate m.count (length o.closed))),
          out_sum-none o.hung (laid_sides laid) (length o.closed) (times-zero_of_all_below o.hung (length o.closed) own.below),
          out_sum-none later.hung (drop m.count base.rest) (length o.closed) (later.hung_from (length o.closed) (omega (arith, more))),
          (ap (λ (n : ℕ). out_sum (replicate n (length o.closed)) (take m.count base.rest) (length o.closed)) (sym counts)
              ∙ out_sum-here (take m.count base.rest) (length o.closed)),
        )
