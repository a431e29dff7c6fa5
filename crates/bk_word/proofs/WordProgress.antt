-- How far the text of a word was read, with what was taken of it.
use Rattle.std.specs.List.{AllByRecursion}
use Rattle.std.specs.Prelude.{List, None, Option, Some, [], false, if◌then◌else◌, length, nat_le, nat_lt, option_and_then, option_map, refl, take, true, ℕ}
use Rattle.std.specs.Prelude.{◌*◌, ◌++◌, ◌+◌, ◌-◌, ◌<◌, ◌==◌, ◌∷◌, ◌≡◌, ◌≤◌}
use Rattle.std.proofs.Common.{Bool, ap, arith, get_or, length-append, subst, sym, ◌∙◌}
use Rattle.std.proofs.lemmas.List.{append-nil, take_all, take_more}
use Rattle.bk_grammar.specs.Longest.{Begins}
use Rattle.bk_grammar.proofs.Leaving.{leaves_at_end, leaves_before}
use Rattle.bk_word.specs.WordReading.{may_end, next_word_place, word_kind_of}
use Rattle.bk_word.specs.Taken.{Before, Count, KeepsTextOf, KeepsWord, Reading, Signs, bare, moves_counted, reader_place, step, taken, with_sign}
use Rattle.bk_word.specs.Word.{Move, Word, order_of}
use Rattle.bk_word.specs.WordText.{IsNoWordText, IsTextOf, IsWordText, IsWrittenMove}
use Rattle.bk_word.specs.declared.reader.ByteKind.{ByteKind}
use Rattle.bk_word.specs.declared.reader.ByteKind.TheVariants.{Digit, Dot, Letter, Other}
use Rattle.bk_word.specs.declared.reader.Place.{Place}
use Rattle.bk_word.specs.declared.reader.Place.TheVariants.{BeforeCount, InCount, InSigns}
use Rattle.bk_word.specs.declared.reading.Taken.{Taken}
use Rattle.bk_word.proofs.StoredBytes.{stored-le_three_times_order}
use Rattle.bk_word.proofs.WordsRead.{ended_word, word_read_from, text_is_read}
use Rattle.bk_word.proofs.WordsSpelled.{CanBeRead, further_is_spelled, spelled, text_found}
use Rattle.bk_word.proofs.ReadSoFar.{begins, spelled_leads_to_reading}

-- ---- the place goes along with what was read

place_when : (test : Bool) (next : Reading) (p : Place) → (test ≡ true → reader_place next ≡ p)
    → option_map reader_place (if test then Some next else None) ≡ (if test then Some p else None)
place_when true next p f = ap (λ (q : Place). Some q) (f refl)
place_when false next p f = refl

steps_place : (r : Reading) (k : ByteKind) → CanBeRead r → option_map reader_place (step r k) ≡ next_word_place (reader_place r) k
steps_place (Before w) (Digit d) can = place_when (nat_lt 0 d) (Count w d) (InCount d) (λ h. refl)
steps_place (Before w) (Letter s) can = refl
steps_place (Before w) Dot can = refl
steps_place (Before w) Other can = refl
steps_place (Count w c) (Digit d) can = place_when (nat_lt c 100) (Count w (c * 10 + d)) (InCount (c * 10 + d)) (λ h. refl)
steps_place (Count w c) (Letter s) can =
    let least : c - 1 - 1 ≡ c - 2 = omega arith in
    let most : c + 1 - 1 ≡ c = omega arith in
    λ i. Some (InSigns (least i) (most i))
steps_place (Count w c) Dot can = place_when (nat_le c 1) (Before (w ++ bare c ∷ [])) BeforeCount (λ h. refl)
steps_place (Count w c) Other can = refl
steps_place (Signs w m) (Digit d) can = refl
steps_place (Signs w m) (Letter s) can =
    let least : m.count - 1 - length (m.signs ++ s ∷ []) ≡ m.count - 1 - length m.signs - 1 = omega (arith, length-append m.signs (s ∷ [])) in
    let most : m.count + 1 - length (m.signs ++ s ∷ []) ≡ m.count + 1 - length m.signs - 1 = omega (arith, length-append m.signs (s ∷ [])) in
    place_when (nat_lt 0 (m.count + 1 - length m.signs)) (Signs w (with_sign m s))
    (InSigns (m.count - 1 - length m.signs - 1) (m.count + 1 - length m.signs - 1)) (λ h i. InSigns (least i) (most i))
steps_place (Signs w m) Dot can = place_when ((m.count - 1 - length m.signs) == 0) (Before (w ++ m ∷ [])) BeforeCount (λ h. refl)
steps_place (Signs w m) Other can = refl

-- where a word may end
none_when : (test : Bool) (w : Word) → test ≡ false → (if test then Some w else None) ≡ None
none_when true w e = absurd (cc)
none_when false w e = refl

some_when : (test : Bool) (w : Word) → test ≡ true → (if test then Some w else None) ≡ Some w
some_when true w e = refl
some_when false w e = absurd (cc)

no_end : (r : Reading) → may_end (reader_place r) ≡ false → ended_word r ≡ None
no_end (Before w) e = refl
no_end (Count w c) e = none_when (nat_le c 1) (w ++ bare c ∷ []) e
no_end (Signs w m) e = none_when ((m.count - 1 - length m.signs) == 0) (w ++ m ∷ []) e

an_end : (r : Reading) → may_end (reader_place r) ≡ true → ended_word r ≡ Some (moves_counted r)
an_end (Before w) e = absurd (cc)
an_end (Count w c) e = some_when (nat_le c 1) (w ++ bare c ∷ []) e
an_end (Signs w m) e = some_when ((m.count - 1 - length m.signs) == 0) (w ++ m ∷ []) e

-- ---- progress

-- the bytes read so far spell what the reader stands behind, and of that the word taken is kept
pub record Progress (front : List ℕ) (p : Place) (t : Taken) : Type 0 where
  pub r : Reading
  pub can : CanBeRead r
  pub spells : spelled r ≡ front
  pub place : p ≡ reader_place r
  pub keeps : KeepsWord (taken r) t

-- nothing is read yet, and nothing taken
pub at_start : (t : Taken) → KeepsWord [] t → Progress [] BeforeCount t
at_start t keeps = record { r = Before []; can = tt; spells = refl; place = refl; keeps = keeps }

from_some : (o : Option Reading) (p : Place) → option_map reader_place o ≡ Some p → (next : Reading) × (o ≡ Some next) × (p ≡ reader_place next)
from_some None p e = absurd (cc)
from_some (Some next) p e = (next, refl, cc)

from_none : (o : Option Reading) → option_map reader_place o ≡ None → o ≡ None
from_none None e = refl
from_none (Some next) e = absurd (cc)

step_at : (p next : Place) (r : Reading) (k : ByteKind) → CanBeRead r → p ≡ reader_place r → next_word_place p k ≡ Some next
    → (to : Reading) × (step r k ≡ Some to) × (next ≡ reader_place to)
step_at p next r k can place e = from_some (step r k) next (steps_place r k can ∙ ap (λ (q : Place). next_word_place q k) (sym place) ∙ e)

-- one byte further
pub word_progress_to_the_next_place : (bs : List ℕ) (i : ℕ) (p next : Place) (t more : Taken) → i < length bs → Progress (take i bs) p t
    → next_word_place p (word_kind_of (get_or bs i 0)) ≡ Some next
    → ((r to : Reading) → p ≡ reader_place r → step r (word_kind_of (get_or bs i 0)) ≡ Some to → KeepsWord (taken r) t → KeepsWord (taken to) more)
    → Progress (take (i + 1) bs) next more
word_progress_to_the_next_place bs i p next t more within g e keeps =
    let to = step_at p next g.r (word_kind_of (get_or bs i 0)) g.can g.place e in
    let f = further_is_spelled g.r to.0 (get_or bs i 0) g.can to.1 in
    record {
      r = to.0;
      can = f.can;
      spells = f.spells ∙ ap (λ (z : List ℕ). z ++ get_or bs i 0 ∷ []) g.spells ∙ sym (take_more bs i 0 within);
      place = to.2;
      keeps = keeps g.r to.0 g.place to.1 g.keeps;
    }

-- a byte behind which there is no place begins no rest of a text
pub no_word_behind_stop : (bs : List ℕ) (i : ℕ) (p : Place) (t : Taken) → i < length bs → Progress (take i bs) p t
    → next_word_place p (word_kind_of (get_or bs i 0)) ≡ None
    → IsNoWordText bs i
no_word_behind_stop bs i p t within g e =
    let none : step g.r (word_kind_of (get_or bs i 0)) ≡ None =
    from_none (step g.r (word_kind_of (get_or bs i 0))) (steps_place g.r (word_kind_of (get_or bs i 0)) g.can
    ∙ ap (λ (q : Place). next_word_place q (word_kind_of (get_or bs i 0))) (sym g.place) ∙ e) in
    leaves_before IsWordText bs i within (subst (Begins IsWordText) g.spells (begins g.r g.can)) (λ x h. no_more x none h)
  where
    no_more : (x : List ℕ) → step g.r (word_kind_of (get_or bs i 0)) ≡ None → ¬ (IsWordText (take i bs ++ get_or bs i 0 ∷ x))
    no_more x none (w, text) =
        let found : word_read_from (take i bs ++ get_or bs i 0 ∷ x) (Before []) ≡ Some w = text_is_read (take i bs ++ get_or bs i 0 ∷ x) w text in
        let led : word_read_from (take i bs ++ get_or bs i 0 ∷ x) (Before []) ≡ word_read_from (get_or bs i 0 ∷ x) g.r =
        ap (λ (z : List ℕ). word_read_from (z ++ get_or bs i 0 ∷ x) (Before [])) (sym g.spells) ∙ spelled_leads_to_reading g.r (get_or bs i 0 ∷ x) g.can in
        let stuck : word_read_from (get_or bs i 0 ∷ x) g.r ≡ None = ap (λ (o : Option Reading). option_and_then (word_read_from x) o) none in
        absurd (cc)

-- once the place is at the end, all bytes are read
pub progress_whole : (bs : List ℕ) (i : ℕ) (p : Place) (t : Taken) → length bs ≤ i → Progress (take i bs) p t → Progress bs p t
progress_whole bs i p t all g = subst (λ (z : List ℕ). Progress z p t) (take_all i bs all) g

-- bytes that end where no text may end leave the grammar at their end
pub no_word_text_where_bytes_end_early : (bs : List ℕ) (p : Place) (t : Taken) → Progress bs p t → may_end p ≡ false → IsNoWordText bs (length bs)
no_word_text_where_bytes_end_early bs p t g e =
    leaves_at_end IsWordText bs (subst (Begins IsWordText) g.spells (begins g.r g.can)) (λ h. no_text h)
  where
    no_text : ¬ (IsWordText bs)
    no_text (w, text) =
        let found : word_read_from bs (Before []) ≡ Some w = text_is_read bs w text in
        let led : word_read_from bs (Before []) ≡ ended_word g.r =
        ap (λ (z : List ℕ). word_read_from z (Before [])) (sym g.spells ∙ sym (append-nil (spelled g.r)))
        ∙ spelled_leads_to_reading g.r [] g.can in
        let stuck : ended_word g.r ≡ None = no_end g.r (ap may_end (sym g.place) ∙ e) in
        absurd (cc)

-- at an end the bytes are a text
pub text_kept : (bs : List ℕ) (p : Place) (t last : Taken) → Progress bs p t → may_end p ≡ true
    → ((r : Reading) → p ≡ reader_place r → KeepsWord (taken r) t → KeepsWord (moves_counted r) last) → KeepsTextOf bs last
text_kept bs p t last g e keeps = (
  moves_counted g.r,
  subst (λ (z : List ℕ). IsTextOf z (moves_counted g.r)) g.spells
      (text_found g.r (moves_counted g.r) g.can (an_end g.r (ap may_end (sym g.place) ∙ e))),
  keeps g.r g.place g.keeps,
)

-- ---- room

abbrev Short : Word → Type 0
Short w = AllByRecursion (λ (m : Move). (0 < m.count) × (length m.signs ≤ m.count + 1)) w

all_short : (w : Word) → AllByRecursion IsWrittenMove w → Short w
all_short [] all = tt
all_short (m ∷ w) all = ((all.0.stands.some, all.0.stands.most), all_short w all.1)

one_short : (w : Word) (m : Move) → Short w → 0 < m.count → length m.signs ≤ m.count + 1 → Short (w ++ m ∷ [])
one_short [] m all some most = ((some, most), tt)
one_short (n ∷ w) m all some most = (all.0, one_short w m all.1 some most)

taken_short : (r : Reading) → CanBeRead r → Short (taken r)
taken_short (Before w) can = all_short w can
taken_short (Count w c) can = all_short w can.0
taken_short (Signs w m) can = one_short w m (all_short w can.0) can.1.0 can.3

-- a word of at most 200 squares takes at most 600 bytes
pub at_most_600_bytes_for_200_squares : (front : List ℕ) (p : Place) (t : Taken) → Progress front p t → t.order ≤ 200 → length t.bytes.items ≤ 600
at_most_600_bytes_for_200_squares front p t g few =
    let order : order_of (taken g.r) ≤ 200 = omega (arith, few, g.keeps.order) in
    omega (arith, stored-le_three_times_order (taken g.r) (taken_short g.r g.can), ap (λ (z : List ℕ). length z) (g.keeps.bytes order), order)
