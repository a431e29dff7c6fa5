-- What is known of what a skeleton stores.
use Rattle.std.specs.List.{concat, splice}
use Rattle.std.proofs.Common.{List, [], ap, arith, count_by, filter, inl, inr, length, map, max, replicate, slice_range, subst, sum, sym, ℕ, ◌++◌}
use Rattle.std.proofs.Common.{◌+◌, ◌∙◌, ◌∷◌, ◌≡◌, ◌≤◌, ◌⊎◌}
use Rattle.std.proofs.lemmas.List.Sums.{length-filter}
use Rattle.std.proofs.lemmas.List.{length-append, length-map, length-replicate}
use Rattle.bk_laws.proofs.Sums.{sum-map_length}
use Rattle.bk_word.proofs.StoredBytes.{order_one}
use Rattle.bk_word.specs.Outline.{IsLegalMove, Outline, sizes_of, start}
use Rattle.bk_word.specs.Play.{after_move, joined, new_squares, numbers_from, outline_of, parts}
use Rattle.bk_word.specs.Word.{Move, Word, order_of}
use Rattle.bk_word.specs.declared.Sign.{Sign}
use Rattle.bk_word_net.proofs.Outlines.OutlineParts.{many_segments, many_signs}
use Rattle.bk_word_net.proofs.Outlines.MovedParts.{many_between, segments_after}
use Rattle.bk_play.proofs.PlayedFlat.{ends_were, shows_move}
use Rattle.bk_word_net.proofs.Outlines.Shape.{AllFilled, Filled, Shaped, filled_many, filled_move, filled_parts, hung_many, joined_many, shaped_move}
use Rattle.bk_word_net.proofs.Outlines.Shape.{shaped_moves, shaped_start, valley_in}
use Rattle.bk_word.proofs.PlayLaws.{after-snoc, at_most_one_sign_more_than_squares, legal-snoc}
use Rattle.bk_play.proofs.StoredMoves.{signs-snoc, records-snoc}
use Rattle.bk_play.proofs.RecordParts.{closed_is, record_says_squares_at_the_left, record_says_squares_at_the_right, record_says_squares_before_the_valley}
use Rattle.bk_play.proofs.RecordParts.{sides_are, start_is}
use Rattle.bk_word_net.proofs.Outlines.ValleyCut.{AtValley}
use Rattle.bk_play.specs.Skeleton.{GiveWay, IsStoredSkeleton, Shows, SkeletonLists, exchange_of, first_touched, open_sides_of_record, record_of}
use Rattle.bk_play.specs.Skeleton.{signs_of, sizes_after}
use Rattle.bk_play.specs.Valley.{IsKeptSkeleton}
use Rattle.bk_play.specs.declared.records.MoveRecord.{MoveRecord}

-- the lists show an outline
abbrev pub ShowsIn : Outline → SkeletonLists → Type 0
ShowsIn o lists = Shows o lists.ends lists.sizes lists.signs lists.closed

-- the numbers of what a kept skeleton's outline has
pub record Counted (w : Word) (ends sizes : List ℕ) (signs : List Sign) (closed : List ℕ) : Type 0 where
  pub shaped : Shaped (outline_of w)
  pub hung : length (outline_of w).hung ≡ order_of w
  pub all : length closed + length ends ≡ order_of w
  pub many : length sizes ≡ length signs + 1
  pub few : length sizes ≤ 200
  pub filled : length sizes ≤ max 1 (order_of w)
  pub total : sum sizes ≡ length ends

-- of a kept skeleton the lists have as many items as its word has squares and segments
pub counted : (w : Word) (ends sizes : List ℕ) (signs : List Sign) (closed : List ℕ) → IsKeptSkeleton w
    → Shows (outline_of w) ends sizes signs closed → Counted w ends sizes signs closed
counted w ends sizes signs closed kept s = record {
  shaped = shaped;
  hung = hung;
  all = omega (arith, ap length s.closed_are, ap length s.ends_are, shaped.counted, hung);
  many = omega (arith, long, shaped.many, ap length s.signs_are);
  few = few shaped.filled;
  filled = filled shaped.filled;
  total = ap sum s.sizes_are ∙ sum-map_length (outline_of w).segments ∙ sym (ap length s.ends_are);
}
  where
    shaped : Shaped (outline_of w)
    shaped = shaped_moves start w kept.legal shaped_start

    hung : length (outline_of w).hung ≡ order_of w
    hung = hung_many start w ∙ omega arith

    long : length sizes ≡ length (outline_of w).segments
    long = ap length s.sizes_are ∙ length-map (outline_of w).segments length

    few : (length (outline_of w).segments ≡ 1) ⊎ AllFilled (outline_of w).segments → length sizes ≤ 200
    few (inl one) = omega (arith, long, one)
    few (inr all) = omega (arith, long, filled_many (outline_of w).segments all, shaped.counted, hung, kept.few)

    filled : (length (outline_of w).segments ≡ 1) ⊎ AllFilled (outline_of w).segments → length sizes ≤ max 1 (order_of w)
    filled (inl one) = omega (arith, long, one)
    filled (inr all) = omega (arith, long, filled_many (outline_of w).segments all, shaped.counted, hung)

-- the numbers of what a legal move touches, where at most so many squares hang after it
pub record Touches (most : ℕ) (w : Word) (m : Move) (ends sizes : List ℕ) (signs : List Sign) (closed : List ℕ) (noted : MoveRecord) : Type 0 where
  pub first : noted.first + noted.closed ≤ length ends
  pub gives : GiveWay most (exchange_of noted) sizes signs
  pub beside : noted.left + noted.closed + noted.right ≤ length ends
  pub few_signs : length m.signs ≤ m.count + 1

-- what a legal move touches lies within the lists, and what it leaves has room in them
pub touches : (most : ℕ) (w : Word) (m : Move) (ends sizes : List ℕ) (signs : List Sign) (closed : List ℕ) (from : ℕ) → IsKeptSkeleton w
    → Shows (outline_of w) ends sizes signs closed
    → IsLegalMove (outline_of w) m → order_of w + m.count ≤ most
    → Touches most w m ends sizes signs closed (record_of (sizes_of (outline_of w)) (outline_of w).signs m from)
touches most w m ends sizes signs closed from kept s legal room = record {
  first = omega (arith, record_says_squares_before_the_valley (outline_of w) c.shaped m from v f, closed_is (outline_of w) c.shaped m from v f, squares);
  gives = record {
    sizes_within =
        omega (arith, start_is (outline_of w) c.shaped m from v f, sides_are (outline_of w) c.shaped m from v f, many_segments (outline_of w) v, long);
    signs_within = omega (
      arith,
      start_is (outline_of w) c.shaped m from v f,
      sides_are (outline_of w) c.shaped m from v f,
      many_signs (outline_of w) v,
      ap length s.signs_are,
    );
    sizes_fit = omega (arith, sides_are (outline_of w) c.shaped m from v f, many_segments (outline_of w) v, long, after_long, after_few);
    signs_fit = omega (arith, sides_are (outline_of w) c.shaped m from v f, many_signs (outline_of w) v, ap length s.signs_are, after_long, after_few);
  };
  beside = omega (
    arith,
    record_says_squares_at_the_left (outline_of w) c.shaped m from v f,
    closed_is (outline_of w) c.shaped m from v f,
    record_says_squares_at_the_right (outline_of w) c.shaped m from v f,
    squares,
  );
  few_signs = at_most_one_sign_more_than_squares (outline_of w) m legal;
}
  where
    c : Counted w ends sizes signs closed
    c = counted w ends sizes signs closed kept s

    v : AtValley (outline_of w)
    v = valley_in (outline_of w) c.shaped

    f : Filled (outline_of w) v
    f = filled_parts (outline_of w) v c.shaped

    long : length sizes ≡ length (outline_of w).segments
    long = ap length s.sizes_are ∙ length-map (outline_of w).segments length

    squares : length ends ≡ length (concat v.before) + (length (concat v.left) + (length v.valley + (length (concat v.right) + length (concat v.after))))
    squares = ap length (s.ends_are ∙ ends_were (outline_of w) c.shaped m legal from) ∙ omega (
      arith,
      length-append (concat v.before ++ concat v.left) (v.valley ++ (concat v.right ++ concat v.after)),
      length-append (concat v.before) (concat v.left),
      length-append v.valley (concat v.right ++ concat v.after),
      length-append (concat v.right) (concat v.after),
    )

    after_long : length (after_move (outline_of w) m).segments ≡ length v.before + ((count_by parts m.signs + 1) + length v.after)
    after_long = ap length (segments_after (outline_of w) v m legal)
        ∙ length-append v.before (joined m.signs (v.left ++ (map (λ q. q ∷ []) (new_squares (outline_of w) m) ++ v.right)) ++ v.after)
        ∙ ap (λ n. length v.before + n) (length-append (joined m.signs (v.left ++ (map (λ q. q ∷ []) (new_squares (outline_of w) m) ++ v.right))) v.after
        ∙ ap (λ n. n + length v.after) (joined_many m.signs (v.left ++ (map (λ q. q ∷ []) (new_squares (outline_of w) m) ++ v.right))
        (many_between (outline_of w) v m legal) ∙ ap (λ n. n + 1) (length-filter parts m.signs)))

    after_few : length (after_move (outline_of w) m).segments ≤ most
    after_few = omega (
      arith,
      filled_many (after_move (outline_of w) m).segments (filled_move (outline_of w) m legal c.shaped),
      (shaped_move (outline_of w) m legal c.shaped).counted,
      length-append (outline_of w).hung (replicate m.count (length (outline_of w).closed)),
      length-replicate m.count (length (outline_of w).closed),
      c.hung,
      room,
    )

-- the lists after a move of this record
abbrev pub skeleton_lists_after_a_move : SkeletonLists → Move → MoveRecord → SkeletonLists
skeleton_lists_after_a_move lists m noted = record {
  ends = splice lists.ends noted.first (noted.first + noted.closed) (numbers_from (length lists.ends + length lists.closed + 1) m.count);
  sizes = splice lists.sizes (first_touched noted) (first_touched noted + (open_sides_of_record noted + 1)) (sizes_after noted m.signs);
  signs = splice lists.signs (first_touched noted) (first_touched noted + open_sides_of_record noted) (filter parts m.signs);
  closed = lists.closed ++ slice_range lists.ends noted.first (noted.first + noted.closed);
  records = lists.records ++ noted ∷ [];
  played = lists.played ++ m.signs;
}

-- after a legal move the lists with the move store the word with it
pub stored_move : (w : Word) (m : Move) (lists : SkeletonLists) (noted : MoveRecord)
    → IsStoredSkeleton w lists → IsLegalMove (outline_of w) m → order_of w + m.count ≤ 200
    → noted ≡ record_of lists.sizes lists.signs m (length lists.played) → IsStoredSkeleton (w ++ m ∷ []) (skeleton_lists_after_a_move lists m noted)
stored_move w m lists noted s legal room e = record {
  kept = record { legal = legal-snoc start w m (s.kept).legal legal; few = omega (arith, order_one w m, room) };
  shows = subst (λ (o : Outline). ShowsIn o (skeleton_lists_after_a_move lists m noted)) (sym (after-snoc start w m)) shown;
  records_are = (λ i. s.records_are i ++ record_is i ∷ []) ∙ sym (records-snoc start 0 w m);
  played_are = (λ i. s.played_are i ++ m.signs) ∙ sym (signs-snoc w m);
}
  where
    c : Counted w lists.ends lists.sizes lists.signs lists.closed
    c = counted w lists.ends lists.sizes lists.signs lists.closed s.kept s.shows

    record_was : noted ≡ record_of (sizes_of (outline_of w)) (outline_of w).signs m (length lists.played)
    record_was = e ∙ (λ i. record_of ((s.shows).sizes_are i) ((s.shows).signs_are i) m (length lists.played))

    record_is : noted ≡ record_of (sizes_of (outline_of w)) (outline_of w).signs m (0 + length (signs_of w))
    record_is = record_was ∙ ap (record_of (sizes_of (outline_of w)) (outline_of w).signs m) (ap length s.played_are ∙ omega arith)

    number : length lists.ends + length lists.closed + 1 ≡ length (outline_of w).hung + 1
    number = omega (arith, c.all, c.hung)

    shown : ShowsIn (after_move (outline_of w) m) (skeleton_lists_after_a_move lists m noted)
    shown = subst (λ (t : MoveRecord). ShowsIn (after_move (outline_of w) m) (skeleton_lists_after_a_move lists m t)) (sym record_was)
        (subst (λ (n : ℕ). let t : MoveRecord = record_of (sizes_of (outline_of w)) (outline_of w).signs m (length lists.played) in
        let after : SkeletonLists = skeleton_lists_after_a_move lists m t in
        Shows (after_move (outline_of w) m) (splice lists.ends t.first (t.first + t.closed) (numbers_from n m.count)) after.sizes after.signs after.closed)
        (sym number)
        (shows_move (outline_of w) c.shaped m legal (length lists.played) lists.ends lists.sizes lists.signs lists.closed s.shows))
