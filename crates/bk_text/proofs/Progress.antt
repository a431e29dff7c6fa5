-- How far a line was read: the place, and the sides that were kept.
use Rattle.std.specs.Prelude.{Bool, List, None, Option, Some, [], false, if◌then◌else◌, length, nat_lt, refl, take, true, ℕ, ◌++◌, ◌+◌, ◌<◌, ◌∷◌, ◌≡◌, ◌≤◌}
use Rattle.std.proofs.Common.{ap, arith, get_or, length-append, ltb-false, ltb-true, subst, sym, ◌∙◌}
use Rattle.std.proofs.lemmas.Grind.{flat_map-append}
use Rattle.std.proofs.lemmas.List.{append-nil, take_more}
use Rattle.bk_code.specs.Code.{flat}
use Rattle.bk_tiling.specs.KeptTiling.{IsSide}
use Rattle.bk_text.specs.CodeLine.{Flat, IsLine, IsNoLine, Item, Line}
use Rattle.bk_text.specs.GatheredSides.{Gathered, IsGathered, gathered_after, kept_side_count, line_gathered, with_closed, with_ended}
use Rattle.bk_text.specs.GatheredSides.{with_gathered_side, with_group}
use Rattle.bk_text.specs.ReadLine.{sides_of_line}
use Rattle.bk_text.specs.LineReader.{closes_group, ended_side, last_side, line_ending_at, line_kind_of, next_line_place}
use Rattle.bk_text.specs.declared.reader.Ending.{Ending}
use Rattle.bk_text.specs.declared.reader.Ending.TheVariants.{Coded, Empty, Row}
use Rattle.bk_text.specs.declared.reader.Field.TheVariants.{Side as SideOf}
use Rattle.bk_text.specs.declared.reader.ByteKind.{ByteKind}
use Rattle.bk_text.specs.declared.reader.ByteKind.TheVariants.{Close}
use Rattle.bk_text.specs.declared.reader.Place.{Place}
use Rattle.bk_text.specs.declared.reader.Place.TheVariants.{BehindSide, Number as InNumber}
use Rattle.bk_text.proofs.ByteKinds.{line_kind_of-means}
use Rattle.bk_text.proofs.Fitting.{Fits, FitsNext, sides_of_line-read_count, ended_is_side, fits_after, last_is_side, read_count}
use Rattle.bk_text.proofs.KeepingAll.{Lists, and_group, and_side, line_by_its_ending, line_where_one_may_end, lists_behind_a_byte}
use Rattle.bk_text.proofs.Stopping.{LeadsToLists, leads_on, line_read_where_the_bytes_end, no_line_where_bytes_end_early, no_line_where_no_place_is_next}
use Rattle.bk_text.proofs.WhatWasRead.{read_is_line}

-- all sides that were read are kept, or there are more than 200 of them
pub record Keeps (g : Gathered) (t : Lists) : Type 0 where
  pub groups : g.many ≡ false → g.groups ≡ t.groups
  pub sides : g.many ≡ false → g.sides ≡ t.sides
  pub more : g.many ≡ true → 200 < read_count t

-- the bytes read so far lead to this place with lists that go with it, of which so much is kept
pub record Progress (front : List ℕ) (p : Place) (g : Gathered) : Type 0 where
  pub lists : Lists
  pub leads : LeadsToLists front p lists
  pub fits : Fits p lists
  pub keeps : Keeps g lists

-- a side is kept, or is one too many
keeps_side : (n : ℕ) (g : Gathered) (t : Lists) → IsGathered g → Keeps g t
    → Keeps (with_gathered_side n g) (record { groups = t.groups; sides = t.sides ++ n ∷ [] })
keeps_side n g t is keeps = cases (nat_lt (kept_side_count g) 200) (λ e. ltb-true (kept_side_count g) 200 e) (λ e. ltb-false (kept_side_count g) 200 e)
  where
    longer : length (t.sides ++ n ∷ []) ≡ length t.sides + 1
    longer = length-append t.sides (n ∷ [])

    all : g.many ≡ false → kept_side_count g ≡ read_count t
    all few = λ i. length (flat (keeps.groups few i)) + length (keeps.sides few i)

    which : (many : Bool) → g.many ≡ many → 200 ≤ kept_side_count g → 200 < length (flat t.groups) + length (t.sides ++ n ∷ [])
    which true e full = omega (arith, keeps.more e, longer)
    which false e full = omega (arith, all e, longer, full)

    cases : (room : Bool) → (room ≡ true → kept_side_count g < 200) → (room ≡ false → 200 ≤ kept_side_count g)
        → Keeps (if room then record { groups = g.groups; sides = g.sides ++ n ∷ []; many = g.many } else record {
          groups = g.groups;
          sides = g.sides;
          many = true;
        }) (record { groups = t.groups; sides = t.sides ++ n ∷ [] })
    cases true fits full = record {
      groups = keeps.groups;
      sides = λ e. ap (λ z. z ++ n ∷ []) (keeps.sides e);
      more = λ e. absurd (omega (arith, is.full e, fits refl));
    }
    cases false fits full = record {
      groups = λ e. absurd (cc);
      sides = λ e. absurd (cc);
      more = λ e. which g.many refl (full refl);
    }

keeps_ended : (o : Option ℕ) (g : Gathered) (t : Lists) → IsGathered g → Keeps g t → Keeps (with_ended o g) (and_side o t)
keeps_ended None g t is keeps = keeps
keeps_ended (Some n) g t is keeps = keeps_side n g t is keeps

-- closing a group moves its sides
pub flat-of_closed_group : (t : Lists) → length (flat (t.groups ++ t.sides ∷ [])) + 0 ≡ read_count t
flat-of_closed_group t =
    let joined : flat (t.groups ++ t.sides ∷ []) ≡ flat t.groups ++ (t.sides ++ []) = flat_map-append (λ (x : List ℕ). x) t.groups (t.sides ∷ []) in
    let size : length (flat t.groups ++ (t.sides ++ [])) ≡ length (flat t.groups) + length t.sides =
    ap (λ (z : List ℕ). length (flat t.groups ++ z)) (append-nil t.sides) ∙ length-append (flat t.groups) t.sides in
    omega (arith, size, ap (λ (z : List ℕ). length z) joined)

keeps_group : (g : Gathered) (t : Lists) → Keeps g t → Keeps (with_group g) (record { groups = t.groups ++ t.sides ∷ []; sides = [] })
keeps_group g t keeps = cases g.many refl
  where
    cases : (many : Bool) → g.many ≡ many
        → Keeps (if many then g else record { groups = g.groups ++ g.sides ∷ []; sides = []; many = false })
        (record { groups = t.groups ++ t.sides ∷ []; sides = [] })
    cases true e = record { groups = λ few. absurd (cc); sides = λ few. absurd (cc); more = λ many. omega (arith, keeps.more e, flat-of_closed_group t) }
    cases false e = record { groups = λ few i. keeps.groups e i ++ keeps.sides e i ∷ []; sides = λ few. refl; more = λ many. absurd (cc) }

keeps_closed : (closes : Bool) (g : Gathered) (t : Lists) → Keeps g t → Keeps (with_closed closes g) (and_group closes t)
keeps_closed false g t keeps = keeps
keeps_closed true g t keeps = keeps_group g t keeps

-- what the code asks before a byte is taken
pub side_fits : (front : List ℕ) (p : Place) (g : Gathered) (k : ByteKind) → Progress front p g → (n : ℕ) → ended_side p k ≡ Some n → IsSide n
side_fits front p g k progress n e = ended_is_side p k progress.lists progress.fits n e

-- a side that ends here is one that a square may have
pub last_fits : (front : List ℕ) (p : Place) (g : Gathered) → Progress front p g → (n : ℕ) → last_side p ≡ Some n → IsSide n
last_fits front p g progress n e = last_is_side p progress.lists progress.fits n e

abbrev with_room : Bool → ℕ → Gathered → Gathered
with_room room n g =
    if room then record { groups = g.groups; sides = g.sides ++ n ∷ []; many = g.many } else record { groups = g.groups; sides = g.sides; many = true }

-- a side that is kept is there
pub a_gathered_side_is_there : (n : ℕ) (g : Gathered) → (with_gathered_side n g).many ≡ false → 0 < length (with_gathered_side n g).sides
a_gathered_side_is_there n g few = cases (nat_lt (kept_side_count g) 200) few
  where
    cases : (room : Bool) → (with_room room n g).many ≡ false → 0 < length (with_room room n g).sides
    cases true few' = omega (arith, length-append g.sides (n ∷ []))
    cases false few' = absurd (cc)

-- a group that closes here has a side
pub group_fits : (front : List ℕ) (p : Place) (g : Gathered) (k : ByteKind) → Progress front p g → closes_group p k ≡ true
    → (with_ended (ended_side p k) g).many ≡ false → 0 < length (with_ended (ended_side p k) g).sides
group_fits front (InNumber (SideOf h c) v) g (Close d) progress closes few = a_gathered_side_is_there v g few
group_fits front (BehindSide h c) g (Close d) progress closes few =
    subst (λ (z : List ℕ). 0 < length z) (sym (progress.keeps.sides few)) progress.fits
group_fits front p g k progress closes few = absurd (cc)

-- one byte further
pub progress_with_one_byte_more : (front : List ℕ) (p q : Place) (g : Gathered) (b : ℕ) → Progress front p g → IsGathered g
    → next_line_place p (line_kind_of b) ≡ Some q
    → Progress (front ++ b ∷ []) q (gathered_after p (line_kind_of b) g)
progress_with_one_byte_more front p q g b progress is next = record {
  lists = lists_behind_a_byte p (line_kind_of b) progress.lists;
  leads = leads_on front p q progress.lists b progress.leads next;
  fits = subst (λ (o : Option Place). FitsNext o (lists_behind_a_byte p (line_kind_of b) progress.lists)) next
      (fits_after p (line_kind_of b) progress.lists b (line_kind_of-means b) progress.fits);
  keeps = keeps_closed (closes_group p (line_kind_of b)) (with_ended (ended_side p (line_kind_of b)) g)
      (and_side (ended_side p (line_kind_of b)) progress.lists)
      (keeps_ended (ended_side p (line_kind_of b)) g progress.lists is progress.keeps);
}

-- one byte further, behind a place of the bytes
pub progress_to_the_next_place_of_bytes : (bs : List ℕ) (i : ℕ) (p q : Place) (g : Gathered) → i < length bs → Progress (take i bs) p g → IsGathered g
    → next_line_place p (line_kind_of (get_or bs i 0)) ≡ Some q
    → Progress (take (i + 1) bs) q (gathered_after p (line_kind_of (get_or bs i 0)) g)
progress_to_the_next_place_of_bytes bs i p q g within progress is next =
    subst (λ (z : List ℕ). Progress z q (gathered_after p (line_kind_of (get_or bs i 0)) g)) (sym (take_more bs i 0 within))
    (progress_with_one_byte_more (take i bs) p q g (get_or bs i 0) progress is next)

-- where the reader stops, the bytes leave the grammar
pub no_line_where_the_reader_stops : (bs : List ℕ) (i : ℕ) (p : Place) (g : Gathered) → i < length bs → Progress (take i bs) p g
    → next_line_place p (line_kind_of (get_or bs i 0)) ≡ None → IsNoLine bs i
no_line_where_the_reader_stops bs i p g within progress none = no_line_where_no_place_is_next bs i p progress.lists within progress.leads none

-- bytes that end where no line may end are no line
pub no_line_where_none_may_end : (bs : List ℕ) (p : Place) (g : Gathered) → Progress bs p g → line_ending_at p ≡ None → IsNoLine bs (length bs)
no_line_where_none_may_end bs p g progress none = no_line_where_bytes_end_early bs p progress.lists progress.leads none

-- at an end the bytes are a line
whole_line : (bs : List ℕ) (p : Place) (g : Gathered) (ending : Ending) (progress : Progress bs p g) → line_ending_at p ≡ Some ending
    → IsLine (line_by_its_ending ending (and_side (last_side p) progress.lists)) bs
whole_line bs p g ending progress ends =
    read_is_line bs (line_by_its_ending ending (and_side (last_side p) progress.lists))
    (line_read_where_the_bytes_end bs p progress.lists progress.leads ∙ ap (λ e. line_where_one_may_end e (and_side (last_side p) progress.lists)) ends)

same_line : (ending : Ending) (g : Gathered) (t : Lists) → Keeps g t → g.many ≡ false → line_by_its_ending ending t ≡ line_gathered ending g
same_line Empty g t keeps few = refl
same_line (Coded h) g t keeps few = ap (Item h.order h.size) (sym (keeps.groups few))
same_line (Row r) g t keeps few = ap (Flat r.order r.width r.height) (sym (keeps.sides few))

-- bytes that end where a line may end are the line that was gathered
pub gathered_line_was_read : (bs : List ℕ) (p : Place) (g : Gathered) (ending : Ending) → Progress bs p g → IsGathered g → line_ending_at p ≡ Some ending
    → (with_ended (last_side p) g).many ≡ false → IsLine (line_gathered ending (with_ended (last_side p) g)) bs
gathered_line_was_read bs p g ending progress is ends few =
    subst (λ (l : Line). IsLine l bs)
    (same_line ending (with_ended (last_side p) g) (and_side (last_side p) progress.lists)
    (keeps_ended (last_side p) g progress.lists is progress.keeps) few)
    (whole_line bs p g ending progress ends)

-- bytes that end where a line may end, of which not all sides were kept, are a line of more than 200 sides
pub many_found : (bs : List ℕ) (p : Place) (g : Gathered) (ending : Ending) → Progress bs p g → IsGathered g → line_ending_at p ≡ Some ending
    → (with_ended (last_side p) g).many ≡ true → (line : Line) × IsLine line bs × (200 < length (sides_of_line line))
many_found bs p g ending progress is ends many =
    let keeps = keeps_ended (last_side p) g progress.lists is progress.keeps in (
      line_by_its_ending ending (and_side (last_side p) progress.lists),
      whole_line bs p g ending progress ends,
      omega (arith, sides_of_line-read_count p ending progress.lists progress.fits ends, keeps.more many),
    )
