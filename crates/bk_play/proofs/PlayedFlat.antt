-- The flat lists of an outline, where a move is played and where it is taken back.
use Rattle.std.specs.List.{concat, splice}
use Rattle.std.proofs.Common.{List, [], ap, arith, cond, count_by, drop, filter, length, map, max, refl, slice_range, sym, take, ℕ, ◌++◌, ◌+◌, ◌-◌}
use Rattle.std.proofs.Common.{◌∙◌, ◌∷◌, ◌≡◌}
use Rattle.std.proofs.lemmas.List.{append-nil, append_assoc, drop_at, length-append, length-map, map-append, take_at}
use Rattle.std.proofs.lemmas.List.Sums.{length-filter, sum_by-cons}
use Rattle.std.proofs.lemmas.List.Folds.{concat-append}
use Rattle.bk_laws.proofs.ListParts.{append-regroup_five, splice-middle}
use Rattle.bk_laws.proofs.ListsOfLists.{concat-singletons}
use Rattle.bk_word.proofs.PlayLists.{numbers-length}
use Rattle.bk_word.specs.Outline.{IsLegalMove, Outline, sizes_of, valley_of}
use Rattle.bk_word.specs.Play.{after_move, joined, new_squares, parts}
use Rattle.bk_word.specs.Word.{Move}
use Rattle.bk_word.specs.declared.Sign.{Sign}
use Rattle.bk_word.specs.declared.Sign.TheVariants.{Above, Even, Under}
use Rattle.bk_word_net.proofs.Outlines.BottomChain.{concat-joined}
use Rattle.bk_play.proofs.FlatMoves.{sizes_between}
use Rattle.bk_word_net.proofs.Outlines.OutlineParts.{left_one, right_one, valley_is}
use Rattle.bk_word_net.proofs.Outlines.MovedParts.{many_between, segments_after, signs_after}
use Rattle.bk_word_net.proofs.Outlines.Shape.{Filled, Shaped, filled_parts, valley_in}
use Rattle.bk_play.proofs.RecordParts.{closed_is, record_says_squares_at_the_left, record_says_squares_at_the_right, record_says_squares_before_the_valley}
use Rattle.bk_play.proofs.RecordParts.{sides_are, signs_before_are, sizes_before_are, start_is}
use Rattle.bk_word_net.proofs.Outlines.ValleyCut.{AtValley}
use Rattle.bk_play.specs.Skeleton.{Shows, first_touched, joined_sizes, next_size, open_sides_of_record, signs_before, sizes_after, sizes_before, record_of}
use Rattle.bk_play.specs.declared.records.MoveRecord.{MoveRecord}

-- how many segments the signs leave
pub sizes_after_many : (size last : ℕ) (signs : List Sign) → length (joined_sizes size last signs) ≡ count_by parts signs + 1
sizes_after_many size last [] = refl
sizes_after_many size last (Above ∷ signs) =
    omega (arith, sum_by-cons (λ g. cond (parts g) 1 0) Above signs, sizes_after_many (next_size last signs) last signs)
sizes_after_many size last (Even ∷ signs) =
    omega (arith, sum_by-cons (λ g. cond (parts g) 1 0) Even signs, sizes_after_many (size + next_size last signs) last signs)
sizes_after_many size last (Under ∷ signs) =
    omega (arith, sum_by-cons (λ g. cond (parts g) 1 0) Under signs, sizes_after_many (next_size last signs) last signs)

module _ (o : Outline) (shaped : Shaped o) (m : Move) (legal : IsLegalMove o m) (from : ℕ) where
  abbrev v : AtValley o
  v = valley_in o shaped

  abbrev f : Filled o (valley_in o shaped)
  f = filled_parts o (valley_in o shaped) shaped

  abbrev noted : MoveRecord
  noted = record_of (sizes_of o) o.signs m from

  -- the segments that come in the place of those touched
  abbrev between : List (List ℕ)
  between = v.left ++ (map (λ q. q ∷ []) (new_squares o m) ++ v.right)

  -- the flat lists by parts, before
  pub ends_were : concat o.segments ≡ (concat v.before ++ concat v.left) ++ (v.valley ++ (concat v.right ++ concat v.after))
  ends_were = ap concat v.segments ∙ concat-append v.before (v.left ++ (v.valley ∷ (v.right ++ v.after)))
      ∙ ap (λ (l : List ℕ). concat v.before ++ l) (concat-append v.left (v.valley ∷ (v.right ++ v.after))
      ∙ ap (λ (l : List ℕ). concat v.left ++ (v.valley ++ l)) (concat-append v.right v.after))
      ∙ sym (append_assoc (concat v.before) (concat v.left) (v.valley ++ (concat v.right ++ concat v.after)))

  sizes_were : sizes_of o ≡ map length v.before ++ ((map length v.left ++ (length v.valley ∷ map length v.right)) ++ map length v.after)
  sizes_were = ap (map length) v.segments ∙ map-append length v.before (v.left ++ (v.valley ∷ (v.right ++ v.after)))
      ∙ ap (λ (l : List ℕ). map length v.before ++ l) (map-append length v.left (v.valley ∷ (v.right ++ v.after))
      ∙ ap (λ (l : List ℕ). map length v.left ++ (length v.valley ∷ l)) (map-append length v.right v.after)
      ∙ sym (append_assoc (map length v.left) (length v.valley ∷ map length v.right) (map length v.after)))

  signs_were : o.signs ≡ v.before_signs ++ ((v.left_signs ++ v.right_signs) ++ v.after_signs)
  signs_were = v.signs ∙ ap (λ (l : List Sign). v.before_signs ++ l) (sym (append_assoc v.left_signs v.right_signs v.after_signs))

  -- the flat lists by parts, after a move
  pub ends_are : concat (after_move o m).segments ≡ (concat v.before ++ concat v.left) ++ (new_squares o m ++ (concat v.right ++ concat v.after))
  ends_are = ap concat (segments_after o v m legal) ∙ concat-append v.before (joined m.signs between ++ v.after)
      ∙ ap (λ (l : List ℕ). concat v.before ++ l) (concat-append (joined m.signs between) v.after
      ∙ ap (λ (l : List ℕ). l ++ concat v.after) (concat-joined m.signs between ∙ concat-append v.left (map (λ q. q ∷ []) (new_squares o m) ++ v.right)
      ∙ ap (λ (l : List ℕ). concat v.left ++ l) (concat-append (map (λ q. q ∷ []) (new_squares o m)) v.right
      ∙ ap (λ (l : List ℕ). l ++ concat v.right) (concat-singletons (new_squares o m)))))
      ∙ append-regroup_five (concat v.before) (concat v.left) (new_squares o m) (concat v.right) (concat v.after)

  -- how many squares each segment has after it
  pub sizes_are : sizes_of (after_move o m) ≡ map length v.before ++ (sizes_after noted m.signs ++ map length v.after)
  sizes_are = ap (map length) (segments_after o v m legal) ∙ map-append length v.before (joined m.signs between ++ v.after)
      ∙ ap (λ (l : List ℕ). map length v.before ++ l) (map-append length (joined m.signs between) v.after ∙ ap (λ (l : List ℕ). l ++ map length v.after) middle)
    where
      middle : map length (joined m.signs between) ≡ sizes_after noted m.signs
      middle = sizes_between v.left v.right (new_squares o m) m.signs (left_one o v).1 (right_one o v).1 f.left f.right
          (omega (arith, legal.some, numbers-length (length o.hung + 1) m.count)) (many_between o v m legal)
          ∙ (λ i. joined_sizes (max (sym (record_says_squares_at_the_left o shaped m from v f) i) 1)
          (max (sym (record_says_squares_at_the_right o shaped m from v f) i) 1) m.signs)

  -- the signs after it
  pub signs_are : (after_move o m).signs ≡ v.before_signs ++ (filter parts m.signs ++ v.after_signs)
  signs_are = signs_after o v m legal

  -- the closed squares after it: those of the valley come behind those before
  pub closed_are : concat (after_move o m).closed ≡ concat o.closed ++ v.valley
  closed_are = concat-append o.closed (valley_of o ∷ []) ∙ ap (λ (l : List ℕ). concat o.closed ++ l) (append-nil (valley_of o) ∙ valley_is o v)

  -- how far the parts reach
  first_long : length (concat v.before ++ concat v.left) ≡ noted.first
  first_long = length-append (concat v.before) (concat v.left) ∙ sym (record_says_squares_before_the_valley o shaped m from v f)

  start_long : length (map length v.before) ≡ first_touched noted
  start_long = length-map v.before length ∙ sym (start_is o shaped m from v f)

  start_signs : length v.before_signs ≡ first_touched noted
  start_signs = sym v.before_many ∙ sym (start_is o shaped m from v f)

  sizes_long : first_touched noted + length (map length v.left ++ (length v.valley ∷ map length v.right))
      ≡ first_touched noted + (open_sides_of_record noted + 1)
  sizes_long = omega (
    arith,
    sides_are o shaped m from v f,
    length-append (map length v.left) (length v.valley ∷ map length v.right),
    length-map v.left length,
    length-map v.right length,
  )

  signs_long : first_touched noted + length (v.left_signs ++ v.right_signs) ≡ first_touched noted + open_sides_of_record noted
  signs_long = omega (arith, sides_are o shaped m from v f, length-append v.left_signs v.right_signs, (left_one o v).0, (right_one o v).0)

  -- the lists that are stored after a move
  pub shows_move : (ends sizes : List ℕ) (signs : List Sign) (closed : List ℕ) → Shows o ends sizes signs closed
      → Shows (after_move o m)
      (splice ends noted.first (noted.first + noted.closed) (new_squares o m))
      (splice sizes (first_touched noted) (first_touched noted + (open_sides_of_record noted + 1)) (sizes_after noted m.signs))
      (splice signs (first_touched noted) (first_touched noted + open_sides_of_record noted) (filter parts m.signs))
      (closed ++ slice_range ends noted.first (noted.first + noted.closed))
  shows_move ends sizes signs closed s = record {
    ends_are = ap (λ (l : List ℕ). splice l noted.first (noted.first + noted.closed) (new_squares o m)) (s.ends_are ∙ ends_were)
        ∙ splice-middle (concat v.before ++ concat v.left) v.valley (concat v.right ++ concat v.after) (new_squares o m) noted.first
        (noted.first + noted.closed) first_long (omega (arith, closed_is o shaped m from v f))
        ∙ sym ends_are;
    sizes_are = ap (λ (l : List ℕ). splice l (first_touched noted) (first_touched noted + (open_sides_of_record noted + 1)) (sizes_after noted m.signs))
        (s.sizes_are ∙ sizes_were)
        ∙ splice-middle (map length v.before) (map length v.left ++ (length v.valley ∷ map length v.right)) (map length v.after)
        (sizes_after noted m.signs) (first_touched noted) (first_touched noted + (open_sides_of_record noted + 1)) start_long sizes_long
        ∙ sym sizes_are;
    signs_are = ap (λ (l : List Sign). splice l (first_touched noted) (first_touched noted + open_sides_of_record noted) (filter parts m.signs))
        (s.signs_are ∙ signs_were)
        ∙ splice-middle v.before_signs (v.left_signs ++ v.right_signs) v.after_signs (filter parts m.signs) (first_touched noted)
        (first_touched noted + open_sides_of_record noted) start_signs signs_long
        ∙ sym signs_are;
    closed_are = (λ i. s.closed_are i ++ slice_range ((s.ends_are ∙ ends_were) i) noted.first (noted.first + noted.closed))
        ∙ ap (λ (l : List ℕ). concat o.closed ++ l) middle ∙ sym closed_are;
  }
    where
      middle : slice_range ((concat v.before ++ concat v.left) ++ (v.valley ++ (concat v.right ++ concat v.after))) noted.first
          (noted.first + noted.closed) ≡ v.valley
      middle = ap (take (noted.first + noted.closed - noted.first))
          (drop_at (concat v.before ++ concat v.left) (v.valley ++ (concat v.right ++ concat v.after)) noted.first first_long)
          ∙ take_at v.valley (concat v.right ++ concat v.after) (noted.first + noted.closed - noted.first) (omega (arith, closed_is o shaped m from v f))

  -- the lists that are stored where a move is taken back
  pub shows_back : (ends sizes : List ℕ) (signs : List Sign) (closed : List ℕ) → Shows (after_move o m) ends sizes signs closed
      → Shows o
      (splice ends noted.first (noted.first + noted.count) (drop (length closed - noted.closed) closed))
      (splice sizes (first_touched noted) (first_touched noted + (noted.parted + 1)) (sizes_before noted))
      (splice signs (first_touched noted) (first_touched noted + noted.parted) (signs_before noted))
      (take (length closed - noted.closed) closed)
  shows_back ends sizes signs closed s = record {
    ends_are = (λ i. splice ((s.ends_are ∙ ends_are) i) noted.first (noted.first + noted.count) (last i))
        ∙ splice-middle (concat v.before ++ concat v.left) (new_squares o m) (concat v.right ++ concat v.after) v.valley noted.first
        (noted.first + noted.count) first_long (ap (λ n. noted.first + n) (numbers-length (length o.hung + 1) m.count))
        ∙ sym ends_were;
    sizes_are = (λ i. splice ((s.sizes_are ∙ sizes_are) i) (first_touched noted) (first_touched noted + (noted.parted + 1))
        (sizes_before_are o shaped m from v f i))
        ∙ splice-middle (map length v.before) (sizes_after noted m.signs) (map length v.after)
        (map length v.left ++ (length v.valley ∷ map length v.right)) (first_touched noted) (first_touched noted + (noted.parted + 1))
        start_long (ap (λ n. first_touched noted + n) sizes_many)
        ∙ sym sizes_were;
    signs_are = (λ i. splice ((s.signs_are ∙ signs_are) i) (first_touched noted) (first_touched noted + noted.parted) (signs_before_are o shaped m from v f i))
        ∙ splice-middle v.before_signs (filter parts m.signs) v.after_signs (v.left_signs ++ v.right_signs) (first_touched noted)
        (first_touched noted + noted.parted) start_signs (ap (λ n. first_touched noted + n) (length-filter parts m.signs))
        ∙ sym signs_were;
    closed_are = (λ i. take (length (whole i) - noted.closed) (whole i))
        ∙ take_at (concat o.closed) v.valley (length (concat o.closed ++ v.valley) - noted.closed) rest;
  }
    where
      whole : closed ≡ concat o.closed ++ v.valley
      whole = s.closed_are ∙ closed_are

      rest : length (concat o.closed) ≡ length (concat o.closed ++ v.valley) - noted.closed
      rest = omega (arith, length-append (concat o.closed) v.valley, closed_is o shaped m from v f)

      last : drop (length closed - noted.closed) closed ≡ v.valley
      last = (λ i. drop (length (whole i) - noted.closed) (whole i))
          ∙ drop_at (concat o.closed) v.valley (length (concat o.closed ++ v.valley) - noted.closed) rest

      sizes_many : length (sizes_after noted m.signs) ≡ noted.parted + 1
      sizes_many = sizes_after_many (max noted.left 1) (max noted.right 1) m.signs
