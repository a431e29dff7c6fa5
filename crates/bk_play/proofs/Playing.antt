-- What is known of a skeleton where a legal move is played.
use Rattle.std.proofs.Common.{List, [], ap, arith, length, subst, sym, ℕ, ◌*◌, ◌++◌, ◌+◌, ◌-◌, ◌<◌, ◌∙◌, ◌∷◌, ◌≡◌, ◌≤◌}
use Rattle.bk_word.specs.Outline.{IsLegalMove, start}
use Rattle.bk_word.specs.Play.{outline_of}
use Rattle.bk_word.specs.Word.{Move, Word, order_of}
use Rattle.bk_word.specs.declared.Sign.{Sign}
use Rattle.bk_play.proofs.SkelFacts.{Counted, Touches, counted, skeleton_lists_after_a_move, stored_move, touches}
use Rattle.bk_word.proofs.PlayLaws.{moves_many}
use Rattle.bk_play.proofs.StoredMoves.{signs_many, stored_word, records_many}
use Rattle.bk_play.specs.Skeleton.{exchange_of, GiveWay, IsStoredSkeleton, SkeletonLists, moves_stored, record_of}
use Rattle.bk_play.specs.declared.records.MoveRecord.{MoveRecord}

-- the move is legal, at most `most` squares hang after it, and what it needs of the lists is there
pub record Playing (most : ℕ) (w : Word) (m : Move) (lists : SkeletonLists) (noted : MoveRecord) : Type 0 where
  pub legal : IsLegalMove (outline_of w) m
  pub few : order_of w + m.count ≤ 200
  pub room : order_of w + m.count ≤ most
  pub record_is : noted ≡ record_of lists.sizes lists.signs m (length lists.played)
  pub numbers : length lists.ends + length lists.closed + 1 + m.count ≤ most + 1
  pub first : noted.first + noted.closed ≤ length lists.ends
  pub closed_fit : length lists.closed + noted.closed ≤ most
  pub ends_fit : length lists.ends - noted.closed + m.count ≤ most
  pub sizes_few : length lists.sizes ≤ most
  pub signs_few : length lists.signs ≤ most
  pub gives : GiveWay most (exchange_of noted) lists.sizes lists.signs
  pub small : noted.left + length m.signs + noted.right ≤ most + 1
  pub played_fit : length lists.played + length m.signs ≤ 2 * most
  pub records_fit : length lists.records < most

-- a legal move after which at most `most` squares hang has room in all lists
pub playing_at : (most : ℕ) → most ≤ 200 → (w : Word) (m : Move) (lists : SkeletonLists) (noted : MoveRecord) → IsStoredSkeleton w lists
    → IsLegalMove (outline_of w) m → order_of w + m.count ≤ most → noted ≡ record_of lists.sizes lists.signs m (length lists.played)
    → Playing most w m lists noted
playing_at most h w m lists noted s legal few e = record {
  legal = legal;
  few = omega (arith, few, h);
  room = few;
  record_is = e;
  numbers = omega (arith, c.all, few);
  first = t.first;
  closed_fit = omega (arith, t.first, c.all, few);
  ends_fit = omega (arith, c.all, few);
  sizes_few = omega (arith, c.filled, few, legal.some);
  signs_few = omega (arith, c.filled, c.many, few, legal.some);
  gives = t.gives;
  small = omega (arith, t.beside, t.few_signs, c.all, few);
  played_fit = omega (arith, ap length s.played_are, signs_many start w (s.kept).legal, t.few_signs, legal.some, few);
  records_fit = omega (arith, ap length s.records_are, records_many start 0 w, moves_many start w (s.kept).legal, legal.some, few);
}
  where
    c : Counted w lists.ends lists.sizes lists.signs lists.closed
    c = counted w lists.ends lists.sizes lists.signs lists.closed s.kept s.shows

    t : Touches most w m lists.ends lists.sizes lists.signs lists.closed noted
    t = subst (Touches most w m lists.ends lists.sizes lists.signs lists.closed)
        (sym (e ∙ (λ i. record_of ((s.shows).sizes_are i) ((s.shows).signs_are i) m (length lists.played))))
        (touches most w m lists.ends lists.sizes lists.signs lists.closed (length lists.played) s.kept s.shows legal few)

-- a legal move after which at most `most` squares hang has room in all lists, where these and the move are read
pub playing_within : (most : ℕ) → most ≤ 200 → {w : Word} {lists : SkeletonLists} {now : Word} {count : ℕ} {moved : List Sign} {m : Move}
    {noted : MoveRecord} {read_sizes : List ℕ} {read_signs read_moved : List Sign} {from : ℕ}
    → IsStoredSkeleton w lists → w ≡ now → record { count = count; signs = moved } ≡ m
    → IsLegalMove (outline_of now) m → order_of now + m.count ≤ most
    → noted ≡ record_of read_sizes read_signs (record { count = count; signs = read_moved }) from
    → read_sizes ≡ lists.sizes → read_signs ≡ lists.signs → read_moved ≡ moved → from ≡ length lists.played
    → Playing most w (record { count = count; signs = moved }) lists noted
playing_within most within {w} {lists} {now} {count} {moved} {m} {noted} {read_sizes} {read_signs} {read_moved} {from} s e f legal few g a b d h =
    playing_at most within w (record { count = count; signs = moved }) lists noted s
    (subst (λ (p : Word × Move). IsLegalMove (outline_of p.0) p.1) (λ i. (sym e i, sym f i)) legal)
    (omega (arith, few, ap order_of e, ap (λ (m : Move). m.count) f))
    (g ∙ (λ i. record_of (a i) (b i) (record { count = count; signs = d i }) (h i)))

-- a legal move has room in all lists where at most 200 squares hang after it
pub playing : {w : Word} {lists : SkeletonLists} {now : Word} {count : ℕ} {moved : List Sign} {m : Move} {noted : MoveRecord} {read_sizes : List ℕ}
    {read_signs read_moved : List Sign} {from : ℕ}
    → IsStoredSkeleton w lists → w ≡ now → record { count = count; signs = moved } ≡ m
    → IsLegalMove (outline_of now) m → order_of now + m.count ≤ 200
    → noted ≡ record_of read_sizes read_signs (record { count = count; signs = read_moved }) from
    → read_sizes ≡ lists.sizes → read_signs ≡ lists.signs → read_moved ≡ moved → from ≡ length lists.played
    → Playing 200 w (record { count = count; signs = moved }) lists noted
playing s e f legal few g a b d h = playing_within 200 (omega arith) s e f legal few g a b d h

-- what is stored is stored of the moves that it shows
pub moves_shown : {w : Word} {lists : SkeletonLists} → IsStoredSkeleton w lists → moves_stored lists.records lists.played ≡ w
moves_shown {w = w} s = (λ i. moves_stored (s.records_are i) (s.played_are i)) ∙ stored_word w

-- what is stored is the word that its records and signs spell
pub stored_shown : {w : Word} {lists : SkeletonLists} → IsStoredSkeleton w lists → IsStoredSkeleton (moves_stored lists.records lists.played) lists
stored_shown {lists = lists} s = subst (λ (v : Word). IsStoredSkeleton v lists) (sym (moves_shown s)) s

-- with a move played, the lists store the word with that move
pub stored_played : {most : ℕ} {w : Word} {m : Move} {lists : SkeletonLists} {noted : MoveRecord} {new : SkeletonLists}
    → IsStoredSkeleton w lists → Playing most w m lists noted → new ≡ skeleton_lists_after_a_move lists m noted → IsStoredSkeleton (w ++ m ∷ []) new
stored_played {w = w} {m = m} {lists = lists} {noted = noted} s p n =
    subst (IsStoredSkeleton (w ++ m ∷ [])) (sym n) (stored_move w m lists noted s p.legal p.few p.record_is)
