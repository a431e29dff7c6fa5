-- Where the last move is taken back, what the flat lists give up is there, and what they become is few.
use Rattle.std.specs.List.{concat}
use Rattle.std.proofs.Common.{List, ap, arith, filter, length, map, max, refl, ℕ, ◌++◌, ◌+◌, ◌-◌, ◌∙◌, ◌≡◌, ◌≤◌}
use Rattle.std.proofs.lemmas.List.{length-append, length-map}
use Rattle.std.proofs.lemmas.List.Sums.{length-filter}
use Rattle.bk_word.proofs.PlayLists.{numbers-length}
use Rattle.bk_word.specs.Outline.{IsLegalMove, Outline, sizes_of}
use Rattle.bk_word.specs.Play.{after_move, new_squares, outline_of, parts}
use Rattle.bk_word.specs.Word.{Move, Word, order_of}
use Rattle.bk_word.specs.declared.Sign.{Sign}
use Rattle.bk_word_net.proofs.Outlines.OutlineParts.{many_segments}
use Rattle.bk_play.proofs.PlayedFlat.{closed_are, ends_are, ends_were, signs_are, sizes_after_many, sizes_are}
use Rattle.bk_word_net.proofs.Outlines.Shape.{Filled, filled_parts, valley_in}
use Rattle.bk_play.proofs.SkelFacts.{Counted, counted}
use Rattle.bk_play.proofs.RecordParts.{closed_is, record_says_squares_before_the_valley, sides_are, start_is}
use Rattle.bk_word_net.proofs.Outlines.ValleyCut.{AtValley}
use Rattle.bk_play.specs.Skeleton.{exchange_back_of, GiveWay, Shows, first_touched, open_sides_of_record, sizes_after, record_of}
use Rattle.bk_play.specs.Valley.{IsKeptSkeleton}
use Rattle.bk_play.specs.declared.records.MoveRecord.{MoveRecord}

shows_self : (o : Outline) → Shows o (concat o.segments) (sizes_of o) o.signs (concat o.closed)
shows_self o = record { ends_are = refl; sizes_are = refl; signs_are = refl; closed_are = refl }

module _ (front : Word) (m : Move) (kept : IsKeptSkeleton front) (legal : IsLegalMove (outline_of front) m)
    (few : order_of front + m.count ≤ 200) (from : ℕ) where
  c : Counted front (concat (outline_of front).segments) (sizes_of (outline_of front)) (outline_of front).signs (concat (outline_of front).closed)
  c = counted front (concat (outline_of front).segments) (sizes_of (outline_of front)) (outline_of front).signs
      (concat (outline_of front).closed) kept (shows_self (outline_of front))

  abbrev v : AtValley (outline_of front)
  v = valley_in (outline_of front) c.shaped

  abbrev f : Filled (outline_of front) v
  f = filled_parts (outline_of front) v c.shaped

  abbrev noted : MoveRecord
  noted = record_of (sizes_of (outline_of front)) (outline_of front).signs m from

  -- the squares that the move closed are there
  pub closed_in : (closed : List ℕ) → closed ≡ concat (after_move (outline_of front) m).closed → noted.closed ≤ length closed
  closed_in closed e = omega (
    arith,
    closed_is (outline_of front) c.shaped m from v f,
    ap length (e ∙ closed_are (outline_of front) c.shaped m legal from),
    length-append (concat (outline_of front).closed) v.valley,
  )

  long_ends : (ends : List ℕ) → ends ≡ concat (after_move (outline_of front) m).segments
      → length ends ≡ length (concat v.before) + length (concat v.left) + (m.count + (length (concat v.right) + length (concat v.after)))
  long_ends ends e = ap length (e ∙ ends_are (outline_of front) c.shaped m legal from) ∙ omega (
    arith,
    length-append (concat v.before ++ concat v.left) (new_squares (outline_of front) m ++ (concat v.right ++ concat v.after)),
    length-append (concat v.before) (concat v.left),
    length-append (new_squares (outline_of front) m) (concat v.right ++ concat v.after),
    length-append (concat v.right) (concat v.after),
    numbers-length (length (outline_of front).hung + 1) m.count,
  )

  -- the squares that the move hung are there
  pub ends_in : (ends : List ℕ) → ends ≡ concat (after_move (outline_of front) m).segments → noted.first + m.count ≤ length ends
  ends_in ends e = omega (arith, record_says_squares_before_the_valley (outline_of front) c.shaped m from v f, long_ends ends e)

  long_sizes : (sizes : List ℕ) → sizes ≡ sizes_of (after_move (outline_of front) m)
      → length sizes ≡ length v.before + ((noted.parted + 1) + length v.after)
  long_sizes sizes e = ap length (e ∙ sizes_are (outline_of front) c.shaped m legal from) ∙ omega (
    arith,
    length-append (map length v.before) (sizes_after noted m.signs ++ map length v.after),
    length-append (sizes_after noted m.signs) (map length v.after),
    length-map v.before (length {A = ℕ}),
    length-map v.after (length {A = ℕ}),
    sizes_after_many (max noted.left 1) (max noted.right 1) m.signs,
  )

  long_signs : (signs : List Sign) → signs ≡ (after_move (outline_of front) m).signs → length signs ≡ length v.before + (noted.parted + length v.after)
  long_signs signs e = ap length (e ∙ signs_are (outline_of front) c.shaped m legal from) ∙ omega (
    arith,
    length-append v.before_signs (filter parts m.signs ++ v.after_signs),
    length-append (filter parts m.signs) v.after_signs,
    length-filter parts m.signs,
    v.before_many,
    v.after_many,
  )

  -- the segments that came in the place of those touched are there, and with those in their place the segments are few
  pub gives_back : (sizes : List ℕ) (signs : List Sign) → sizes ≡ sizes_of (after_move (outline_of front) m)
      → signs ≡ (after_move (outline_of front) m).signs
      → GiveWay 200 (exchange_back_of noted) sizes signs
  gives_back sizes signs e g = record {
    sizes_within = omega (arith, start, long_sizes sizes e);
    signs_within = omega (arith, start, long_signs signs g);
    sizes_fit = omega (arith, sides, long_sizes sizes e, many, c.few);
    signs_fit = omega (arith, sides, long_signs signs g, many, c.few);
  }
    where
      start : first_touched noted ≡ length v.before
      start = start_is (outline_of front) c.shaped m from v f

      sides : open_sides_of_record noted ≡ length v.left + length v.right
      sides = sides_are (outline_of front) c.shaped m from v f

      many : length (sizes_of (outline_of front)) ≡ length v.before + (open_sides_of_record noted + 1 + length v.after)
      many = length-map (outline_of front).segments (length {A = ℕ}) ∙ omega (arith, many_segments (outline_of front) v, sides)

  -- the squares that stand after the move, without the new ones and with those closed, are those that stood before
  pub ends_few : (ends : List ℕ) → ends ≡ concat (after_move (outline_of front) m).segments → length ends - m.count + noted.closed ≤ 200
  ends_few ends e = omega (
    arith,
    closed_is (outline_of front) c.shaped m from v f,
    long_ends ends e,
    kept.few,
    c.all,
    ap length (ends_were (outline_of front) c.shaped m legal from),
    length-append (concat v.before ++ concat v.left) (v.valley ++ (concat v.right ++ concat v.after)),
    length-append (concat v.before) (concat v.left),
    length-append v.valley (concat v.right ++ concat v.after),
    length-append (concat v.right) (concat v.after),
  )
