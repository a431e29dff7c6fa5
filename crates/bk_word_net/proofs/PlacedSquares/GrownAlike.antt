-- Two tilings of one word, laid square by square with sides in one proportion: they are alike.
use Rattle.std.specs.List.{AllByRecursion}
use Rattle.std.proofs.Common.{List, Some, [], ap, arith, inl, inr, length, map, refl, slice_get, subst, suc, sym, true, zero, ℕ, ◌*◌, ◌++◌, ◌+◌, ◌-◌}
use Rattle.std.proofs.Common.{◌<◌, ◌∙◌, ◌∷◌, ◌≡◌, ◌≤◌, ◌⊎◌}
use Rattle.std.proofs.Math.Nat.{mul-le-mul_left}
use Rattle.std.proofs.lemmas.List.{append-nil, append_assoc, length-append, length-map, map-append}
use Rattle.bk_laws.proofs.ListParts.{append-equal_parts}
use Rattle.bk_tiling.proofs.Cells.{all_from, counted_one, over_from}
use Rattle.bk_tiling.proofs.Rows.{Chain}
use Rattle.bk_tiling.proofs.Scaling.{from_enlarged, in_enlarged}
use Rattle.bk_tiling.proofs.TilingLaws.{cell_once, side_of, wide_enough, within_of}
use Rattle.bk_tiling.specs.declared.Segment.{Segment}
use Rattle.bk_tiling.specs.Scale.{enlarged, enlarged_square}
use Rattle.bk_tiling.specs.Tiling.{IsOneOf, IsTiling, Tiling, covers}
use Rattle.bk_tiling.specs.declared.Square.{Square}
use Rattle.bk_word.specs.Outline.{Outline, valley_of}
use Rattle.bk_word.specs.Play.{after_move}
use Rattle.bk_word.specs.Word.{Move, Word}
use Rattle.bk_lay.proofs.Filling.{is_under}
use Rattle.bk_lay.proofs.ValleySquares.{under_chain}
use Rattle.bk_lay.proofs.ValleySegment.{valley_segment}
use Rattle.bk_lay.proofs.Valleys.{one_leftmost_valley}
use Rattle.bk_lay.specs.Depiction.{IsNumbered, IsSegment}
use Rattle.bk_lay.specs.TilingWord.{IsLeftmostValley, MovesFollow, squares_under}
use Rattle.bk_word_net.proofs.TilingWords.AlongWord.{Along, HasBegun, NotBegun, along_move, top_valley}
use Rattle.bk_word_net.specs.WordFlow.{LaidAlong, laid_so_far}

get_enlarged : (k : ℕ) (squares : List Square) (n : ℕ) (q : Square) → slice_get squares n ≡ Some q
    → slice_get (map (enlarged_square k) squares) n ≡ Some (enlarged_square k q)
get_enlarged k [] n q e = absurd (cc)
get_enlarged k (r ∷ squares) zero q e = let same : r ≡ q = cc in ap (λ (s : Square). Some (enlarged_square k s)) same
get_enlarged k (r ∷ squares) (suc n) q e = get_enlarged k squares n q e

-- squares side by side on one level, with sides in proportion, are in proportion where their first columns and levels are
chains_alike : (m n : ℕ) (ts us : List Square) (x y tend uend tlevel ulevel : ℕ) → Chain x ts tend → Chain y us uend
    → AllByRecursion (λ q. q.y ≡ tlevel) ts → AllByRecursion (λ q. q.y ≡ ulevel) us
    → m * x ≡ n * y → m * tlevel ≡ n * ulevel → map (λ q. m * q.s) ts ≡ map (λ q. n * q.s) us → map (enlarged_square m) ts ≡ map (enlarged_square n) us
chains_alike m n [] [] x y tend uend tlevel ulevel c d a b ex el e = refl
chains_alike m n [] (r ∷ us) x y tend uend tlevel ulevel c d a b ex el e = absurd (cc)
chains_alike m n (q ∷ ts) [] x y tend uend tlevel ulevel c d a b ex el e = absurd (cc)
chains_alike m n (q ∷ ts) (r ∷ us) x y tend uend tlevel ulevel c d a b ex el e =
    λ i. record { x = xs i; y = ys i; s = side i }
    ∷ chains_alike m n ts us (x + q.s) (y + r.s) tend uend tlevel ulevel c.1 d.1 a.1 b.1 (omega (arith, ex, side)) el rest i
  where
    side : m * q.s ≡ n * r.s
    side = cc

    rest : map (λ q. m * q.s) ts ≡ map (λ q. n * q.s) us
    rest = cc

    xs : m * q.x ≡ n * r.x
    xs = ap (λ (k : ℕ). m * k) c.0 ∙ ex ∙ sym (ap (λ (k : ℕ). n * k) d.0)

    ys : m * q.y ≡ n * r.y
    ys = ap (λ (k : ℕ). m * k) a.0 ∙ el ∙ sym (ap (λ (k : ℕ). n * k) b.0)

-- what was laid stays first
pub along_prefix : (t : Tiling) (laid : List Square) (levels : List ℕ) (w : Word) (all_laid : List Square) (all_levels : List ℕ)
    → LaidAlong t (laid_so_far laid levels) w (laid_so_far all_laid all_levels) → (more : List Square) × (all_laid ≡ laid ++ more)
along_prefix t laid levels [] all_laid all_levels l = ([], sym l.0 ∙ sym (append-nil laid))
along_prefix t laid levels (m ∷ w) all_laid all_levels l = let p =
    along_prefix t (laid ++ squares_under t l.0) (levels ++ (l.0).level ∷ []) w all_laid all_levels l.2 in
    (squares_under t l.0 ++ p.0, p.1 ∙ append_assoc laid (squares_under t l.0) p.0)

module _ (m n : ℕ) (t u : Tiling) (tiling : IsTiling t) (other : IsTiling u) where
  -- the valleys that the two take stand in proportion
  valleys_alike : (tl ul : List Square) (tn un : List Segment) (o : Outline) (v z : Segment) → Along t tl tn o → Along u ul un o
      → IsLeftmostValley t.width tl v → IsLeftmostValley u.width ul z
      → map (enlarged_square m) tl ≡ map (enlarged_square n) ul → (m * v.x ≡ n * z.x) × (m * v.level ≡ n * z.level)
  valleys_alike tl ul tn un o v z a b found also step =
      cases (valley_of o) refl (valley_segment t tl tn o v tiling a.depicts found) (valley_segment u ul un o z other b.depicts also)
    where
      top_of : (s : Tiling) (sl : List Square) (sn : List Segment) (r : Segment) → IsTiling s → NotBegun sl sn o ⊎ HasBegun s sl sn o
          → IsLeftmostValley s.width sl r → r.level ≡ 0 → r.x ≡ 0
      top_of s sl sn r is (inl none) f e = (top_valley s is r (subst (λ (l : List Square). IsLeftmostValley s.width l r) none.no_square f)).0
      top_of s sl sn r is (inr more) f e = let flat = (f.valley).flat in let some = flat.some in let within = flat.within in
          absurd (omega (arith, flat.level r.x (omega arith) (omega arith), more.deep r.x (omega arith)))

      level_zero : (sl : List Square) (s : Segment) → 0 < s.width → IsSegment sl s [] → s.level ≡ 0
      level_zero sl s some (inl span) = absurd (omega (arith, span))
      level_zero sl s some (inr top) = top.0

      not_nil : (k : ℕ) (ks : List ℕ) → k ∷ ks ≡ [] → ⊥
      not_nil k ks e = cc

      numbered : (k : ℕ) (q r : Square) → IsNumbered tl k q → IsNumbered ul k r → enlarged_square m q ≡ enlarged_square n r
      numbered k q r (i, is, at) (j, same, there) =
          inside (sym (get_enlarged m tl i q at) ∙ (λ h. slice_get (step h) i) ∙ (λ h. slice_get (map (enlarged_square n) ul) (ij h))
          ∙ get_enlarged n ul j r there)
        where
          ij : i ≡ j
          ij = omega (arith, is, same)

          inside : Some (enlarged_square m q) ≡ Some (enlarged_square n r) → enlarged_square m q ≡ enlarged_square n r
          inside e = cc

      cases : (numbers : List ℕ) → valley_of o ≡ numbers → IsSegment tl v (valley_of o) → IsSegment ul z (valley_of o) → (m * v.x ≡ n * z.x)
          × (m * v.level ≡ n * z.level)
      cases [] e s r = (omega (arith, ap (λ (k : ℕ). m * k) vx, ap (λ (k : ℕ). n * k) zx), omega (arith, ap (λ (k : ℕ). m * k) vl, ap (λ (k : ℕ). n * k) zl))
        where
          vl : v.level ≡ 0
          vl = level_zero tl v ((found.valley).flat).some (subst (IsSegment tl v) e s)

          zl : z.level ≡ 0
          zl = level_zero ul z ((also.valley).flat).some (subst (IsSegment ul z) e r)

          vx : v.x ≡ 0
          vx = top_of t tl tn v tiling a.begun found vl

          zx : z.x ≡ 0
          zx = top_of u ul un z other b.begun also zl
      cases (k ∷ numbers) e s r = both (subst (IsSegment tl v) e s) (subst (IsSegment ul z) e r)
        where
          both : IsSegment tl v (k ∷ numbers) → IsSegment ul z (k ∷ numbers) → (m * v.x ≡ n * z.x) × (m * v.level ≡ n * z.level)
          both (inr top) r = absurd (not_nil k numbers top.1)
          both (inl s) (inr top) = absurd (not_nil k numbers top.1)
          both (inl (p, at, px, pb, prest)) (inl (q, there, qx, qb, qrest)) = let e = numbered k p q at there in
              let ex : m * p.x ≡ n * q.x = ap (λ (s : Square). s.x) e in let ey : m * p.y ≡ n * q.y = ap (λ (s : Square). s.y) e in
              let es : m * p.s ≡ n * q.s = ap (λ (s : Square). s.s) e in (
                sym (ap (λ (k : ℕ). m * k) px) ∙ ex ∙ ap (λ (k : ℕ). n * k) qx,
                sym (ap (λ (k : ℕ). m * k) pb) ∙ omega (arith, ey, es)
                    ∙ ap (λ (k : ℕ). n * k) qb,
              )

  -- where the sides stand in proportion, so do the squares that the moves lay
  pub same_laid : (tl ul : List Square) (tn un : List Segment) (tv uv : List ℕ) (o : Outline) (w : Word) → Along t tl tn o → Along u ul un o
      → MovesFollow t tl w → MovesFollow u ul w
      → (te ue : List Square) (ve we : List ℕ) → LaidAlong t (laid_so_far tl tv) w (laid_so_far te ve) → LaidAlong u (laid_so_far ul uv) w (laid_so_far ue we)
      → map (λ q. m * q.s) te ≡ map (λ q. n * q.s) ue → map (enlarged_square m) tl ≡ map (enlarged_square n) ul
      → map (enlarged_square m) te ≡ map (enlarged_square n) ue
  same_laid tl ul tn un tv uv o [] a b p q te ue ve we l k sides step = sym (ap (map (enlarged_square m)) l.0) ∙ step ∙ ap (map (enlarged_square n)) k.0
  same_laid tl ul tn un tv uv o (mv ∷ w) a b p q te ue ve we l k sides step =
      same_laid (tl ++ squares_under t p.0) (ul ++ squares_under u q.0) (tn ++ p.0 ∷ []) (un ++ q.0 ∷ []) (tv ++ (p.0).level ∷ [])
      (uv ++ (q.0).level ∷ []) (after_move o mv) w
      (subst (λ (n : Move). Along t (tl ++ squares_under t p.0) (tn ++ p.0 ∷ []) (after_move o n)) (sym p.3) (along_move t tl tn o p.0 tiling a p.1 p.2))
      (subst (λ (n : Move). Along u (ul ++ squares_under u q.0) (un ++ q.0 ∷ []) (after_move o n)) (sym q.3) (along_move u ul un o q.0 other b q.1 q.2))
      p.4 q.4 te ue ve we tl_along ul_along sides next
    where
      tl_along : LaidAlong t (laid_so_far (tl ++ squares_under t p.0) (tv ++ (p.0).level ∷ [])) w (laid_so_far te ve)
      tl_along = subst (λ (v : Segment). LaidAlong t (laid_so_far (tl ++ squares_under t v) (tv ++ v.level ∷ [])) w (laid_so_far te ve))
          (one_leftmost_valley t.width tl l.0 p.0 l.1 p.1) l.2

      ul_along : LaidAlong u (laid_so_far (ul ++ squares_under u q.0) (uv ++ (q.0).level ∷ [])) w (laid_so_far ue we)
      ul_along = subst (λ (v : Segment). LaidAlong u (laid_so_far (ul ++ squares_under u v) (uv ++ v.level ∷ [])) w (laid_so_far ue we))
          (one_leftmost_valley u.width ul k.0 q.0 k.1 q.1) k.2

      counts : length (squares_under t p.0) ≡ length (squares_under u q.0)
      counts = sym (ap (λ (n : Move). n.count) p.3) ∙ ap (λ (n : Move). n.count) q.3

      long : length tl ≡ length ul
      long = sym (length-map tl (enlarged_square m)) ∙ ap length step ∙ length-map ul (enlarged_square n)

      tm : (more : List Square) × (te ≡ (tl ++ squares_under t p.0) ++ more)
      tm = along_prefix t (tl ++ squares_under t p.0) (tv ++ (p.0).level ∷ []) w te ve tl_along

      um : (more : List Square) × (ue ≡ (ul ++ squares_under u q.0) ++ more)
      um = along_prefix u (ul ++ squares_under u q.0) (uv ++ (q.0).level ∷ []) w ue we ul_along

      new_sides : map (λ q. m * q.s) (squares_under t p.0) ≡ map (λ q. n * q.s) (squares_under u q.0)
      new_sides = (append-equal_parts (map (λ q. m * q.s) tl) (map (λ q. m * q.s) (squares_under t p.0)) (map (λ q. n * q.s) ul)
          (map (λ q. n * q.s) (squares_under u q.0)) (length-map tl (λ q. m * q.s) ∙ long ∙ sym (length-map ul (λ q. n * q.s)))
          (sym (map-append (λ q. m * q.s) tl (squares_under t p.0)) ∙ front ∙ map-append (λ q. n * q.s) ul (squares_under u q.0))).1
        where
          front : map (λ q. m * q.s) (tl ++ squares_under t p.0) ≡ map (λ q. n * q.s) (ul ++ squares_under u q.0)
          front = (append-equal_parts (map (λ q. m * q.s) (tl ++ squares_under t p.0)) (map (λ q. m * q.s) tm.0)
              (map (λ q. n * q.s) (ul ++ squares_under u q.0)) (map (λ q. n * q.s) um.0)
              (length-map (tl ++ squares_under t p.0) (λ q. m * q.s)
              ∙ omega (arith, length-append tl (squares_under t p.0), length-append ul (squares_under u q.0), long, counts)
              ∙ sym (length-map (ul ++ squares_under u q.0) (λ q. n * q.s)))
              (sym (map-append (λ q. m * q.s) (tl ++ squares_under t p.0) tm.0) ∙ sym (ap (map (λ q. m * q.s)) tm.1) ∙ sides
              ∙ ap (map (λ q. n * q.s)) um.1 ∙ map-append (λ q. n * q.s) (ul ++ squares_under u q.0) um.0)).0

      places : (m * (p.0).x ≡ n * (q.0).x) × (m * (p.0).level ≡ n * (q.0).level)
      places = valleys_alike tl ul tn un o p.0 q.0 a b p.1 q.1 step

      next : map (enlarged_square m) (tl ++ squares_under t p.0) ≡ map (enlarged_square n) (ul ++ squares_under u q.0)
      next = map-append (enlarged_square m) tl (squares_under t p.0) ∙ (λ i. step i ++ new i) ∙ sym (map-append (enlarged_square n) ul (squares_under u q.0))
        where
          new : map (enlarged_square m) (squares_under t p.0) ≡ map (enlarged_square n) (squares_under u q.0)
          new = chains_alike m n (squares_under t p.0) (squares_under u q.0) (p.0).x (q.0).x ((p.0).x + (p.0).width) ((q.0).x + (q.0).width)
              (p.0).level (q.0).level
              (under_chain t tl p.0 tiling a.fills p.1 p.2) (under_chain u ul q.0 other b.fills q.1 q.2)
              (all_from (λ s. s.y ≡ (p.0).level) (squares_under t p.0) (λ s h. (is_under t tl p.0 tiling a.fills p.1 p.2 s h).level))
              (all_from (λ s. s.y ≡ (q.0).level) (squares_under u q.0) (λ s h. (is_under u ul q.0 other b.fills q.1 q.2 s h).level))
              places.0 places.1 new_sides

-- where the enlarged squares of one are those of the other, the one reaches no further
module _ (m n : ℕ) (t u : Tiling) (tiling : IsTiling t) (other : IsTiling u) (some : 0 < m)
    (same : map (enlarged_square m) t.squares ≡ map (enlarged_square n) u.squares) where
  partner : (q : Square) → IsOneOf q t.squares → (r : Square) × IsOneOf r u.squares × (enlarged_square m q ≡ enlarged_square n r)
  partner q h = from_enlarged n u.squares (enlarged_square m q) (subst (IsOneOf (enlarged_square m q)) same (in_enlarged m t.squares q h))

  high_enough : 0 < t.height
  high_enough = cases t.squares refl
    where
      cases : (squares : List Square) → t.squares ≡ squares → 0 < t.height
      cases [] e = absurd (omega (arith, (tiling.tiles).some, ap length e))
      cases (q ∷ squares) e = let h : IsOneOf q t.squares = subst (IsOneOf q) (sym e) (inl refl) in let b =
          (within_of t tiling q h).bottom in omega (arith, side_of t tiling q h)

  not_wider : m * t.width ≤ n * u.width
  not_wider = from (counted_one (covers (t.width - 1) 0) t.squares
      (omega (arith, cell_once t tiling (t.width - 1) 0 (omega (arith, wide_enough t tiling)) high_enough)))
    where
      from : (q : Square) × IsOneOf q t.squares × (covers (t.width - 1) 0 q ≡ true) → m * t.width ≤ n * u.width
      from (q, h, e) = let p = partner q h in let r = p.0 in let a = (over_from (t.width - 1) 0 q e).right in let b = (within_of t tiling q h).right in
          let ex : m * q.x ≡ n * (p.0).x = ap (λ (s : Square). s.x) p.2 in let es : m * q.s ≡ n * (p.0).s = ap (λ (s : Square). s.s) p.2 in
          let edge : q.x + q.s ≡ t.width = omega arith in
          let inside : (p.0).x + (p.0).s ≤ u.width = omega (arith, (within_of u other p.0 p.1).right) in
          omega (arith, ap (λ (k : ℕ). m * k) edge, ex, es, mul-le-mul_left n inside)

  not_higher : m * t.height ≤ n * u.height
  not_higher = from (counted_one (covers 0 (t.height - 1)) t.squares
      (omega (arith, cell_once t tiling 0 (t.height - 1) (wide_enough t tiling) (omega (arith, high_enough)))))
    where
      from : (q : Square) × IsOneOf q t.squares × (covers 0 (t.height - 1) q ≡ true) → m * t.height ≤ n * u.height
      from (q, h, e) = let p = partner q h in let a = (over_from 0 (t.height - 1) q e).bottom in let b = (within_of t tiling q h).bottom in
          let ey : m * q.y ≡ n * (p.0).y = ap (λ (s : Square). s.y) p.2 in let es : m * q.s ≡ n * (p.0).s = ap (λ (s : Square). s.s) p.2 in
          let edge : q.y + q.s ≡ t.height = omega arith in
          let inside : (p.0).y + (p.0).s ≤ u.height = omega (arith, (within_of u other p.0 p.1).bottom) in
          omega (arith, ap (λ (k : ℕ). m * k) edge, ey, es, mul-le-mul_left n inside)

-- two tilings, enlarged, are one where their squares are
pub enlarged_alike : (m n : ℕ) (t u : Tiling) → IsTiling t → IsTiling u → 0 < m → 0 < n
    → map (enlarged_square m) t.squares ≡ map (enlarged_square n) u.squares → enlarged m t ≡ enlarged n u
enlarged_alike m n t u tiling other a b same = λ i. record { width = widths i; height = heights i; squares = same i }
  where
    widths : m * t.width ≡ n * u.width
    widths = omega (arith, not_wider m n t u tiling other a same, not_wider n m u t other tiling b (sym same))

    heights : m * t.height ≡ n * u.height
    heights = omega (arith, not_higher m n t u tiling other a same, not_higher n m u t other tiling b (sym same))
