-- The line of an entry of a member is read as that member.
use Rattle.std.specs.List.{AllByRecursion}
use Rattle.std.specs.Prelude.{List, [], codes, decimal, length, ℕ, ◌++◌, ◌+◌, ◌<◌, ◌^◌, ◌∷◌, ◌≡◌, ◌≤◌}
use Rattle.std.proofs.Common.{ap, arith, length-append, refl, sym}
use Rattle.std.proofs.lemmas.Fmt.{length-decimal-le}
use Rattle.bk_tiling.proofs.Sizes.{most_height, most_width}
use Rattle.bk_tiling.specs.KeptTiling.{IsKept}
use Rattle.bk_tiling.specs.Tiling.{Tiling, order}
use Rattle.bk_code.proofs.CodeOfTiling.{code_kept}
use Rattle.bk_code.proofs.FlatList.{a_flat_list_fixes_a_tiling}
use Rattle.bk_code.specs.Code.{code_of, flat}
use Rattle.bk_text.proofs.Spelling.{short_kept}
use Rattle.bk_text.specs.CodeText.{code_text, size_text}
use Rattle.bk_word.proofs.PlayLaws.{at_most_one_sign_more_than_squares}
use Rattle.bk_word.proofs.StoredBytes.{order_more}
use Rattle.bk_word.proofs.WordPieces.{short_text}
use Rattle.bk_word.specs.KeptWord.{CanStand, IsKeptWord}
use Rattle.bk_word.specs.Outline.{IsLegalMove, Outline, start}
use Rattle.bk_word.specs.Play.{AreLegalFrom, IsComplete, after_move}
use Rattle.bk_word.specs.Word.{Move, Word, order_of}
use Rattle.bk_word.specs.WordText.{word_text}
use Rattle.bk_word.specs.declared.Class.{Class}
use Rattle.bk_lay.proofs.WordPlay.{tiling_word_is_complete}
use Rattle.bk_read_back.proofs.SmallMembers.{members_are_small}
use Rattle.bk_catalogue.specs.Catalogue.{Entry, IsEntry}
use Rattle.bk_report.proofs.EntriesRead.{a_written_entry_is_read}
use Rattle.bk_report.specs.AnswerWords.{semicolon}
use Rattle.bk_report.specs.Listings.{entry_text}
use Rattle.bk_answer.specs.Item.{IsStatedBy}
use Rattle.bk_read_back.proofs.PrintedBytes.{IsPrinted, code_printed, decimal_printed, joined_printed, size_printed, word_printed}
use Rattle.bk_read_back.specs.ReadBack.{AListedEntryIsRead, IsReadAs, item_of}

-- the word of a small tiling can be kept
can_stand : (o : Outline) (m : Move) → IsLegalMove o m → CanStand m
can_stand o m legal = record { some = legal.some; least = omega (arith, legal.signs); most = at_most_one_sign_more_than_squares o m legal }

all_stand : (o : Outline) (w : Word) → AreLegalFrom o w → AllByRecursion CanStand w
all_stand o [] legal = tt
all_stand o (m ∷ w) legal = (can_stand o m legal.0, all_stand (after_move o m) w legal.1)

few_each : (w : Word) (k : ℕ) → order_of w ≤ k → k ≤ 200 → AllByRecursion (λ m. m.count ≤ 200) w
few_each [] k few most = tt
few_each (m ∷ w) k few most = (omega (arith, order_more m w, few, most), few_each w k (omega (arith, order_more m w, few)) most)

-- how long an entry is
length_of : (a b c d : List ℕ) → length (a ++ 32 ∷ (b ++ 32 ∷ (c ++ 32 ∷ (codes ";" ++ 32 ∷ d)))) ≡ length a + length b + length c + length d + 5
length_of a b c d = omega (
  arith,
  length-append a (32 ∷ (b ++ 32 ∷ (c ++ 32 ∷ (codes ";" ++ 32 ∷ d)))),
  length-append b (32 ∷ (c ++ 32 ∷ (codes ";" ++ 32 ∷ d))),
  length-append c (32 ∷ (codes ";" ++ 32 ∷ d)),
)

short_size : (w h : ℕ) → w < 10 ^ 18 → h < 10 ^ 18 → length (size_text w h) ≤ 37
short_size w h wide high = omega (
  arith,
  length-append (decimal w ++ codes "x") (decimal h),
  length-append (decimal w) (codes "x"),
  length-decimal-le 18 w (omega arith) wide (omega (arith, wide)),
  length-decimal-le 18 h (omega arith) high (omega (arith, high)),
)

module _ (t : Tiling) (w : Word) (kept : IsKept t) (legal : AreLegalFrom start w) (some : 0 < length w) (few : order_of w ≤ 200) where
  word_kept : IsKeptWord w
  word_kept = record { moves = all_stand start w legal; few = few }

  width : t.width < 10 ^ 18
  width = omega (arith, most_width t kept)

  height : t.height < 10 ^ 18
  height = omega (arith, most_height t kept)

  squares : order t ≤ 200
  squares = kept.few

  entry_length : length (entry_text t w) ≡ length (decimal (order t)) + length (size_text t.width t.height) + length (code_text (code_of t)) + length
      (word_text w) + 5
  entry_length = length_of (decimal (order t)) (size_text t.width t.height) (code_text (code_of t)) (word_text w)

  -- the entry of a kept tiling with a word has at most 8,192 bytes
  pub entry_short : length (entry_text t w) ≤ 8192
  entry_short = omega (
    arith,
    entry_length,
    length-decimal-le 3 (order t) (omega arith) (omega (arith, squares)) (omega (arith, squares)),
    short_size t.width t.height width height,
    short_kept (code_of t) (code_kept t kept),
    short_text w word_kept some,
  )

  -- the entry of a kept tiling with a word has no byte at or below a line feed
  pub entry_printed : IsPrinted (entry_text t w)
  entry_printed = joined_printed 32 (omega arith)
      (decimal (order t) ∷ size_text t.width t.height ∷ code_text (code_of t) ∷ semicolon ∷ word_text w ∷ []) (
        decimal_printed (order t) (omega (arith, squares)),
        (
          size_printed t.width t.height (omega (arith, width)) (omega (arith, height)),
          (code_printed (code_of t) (code_kept t kept).groups, ((omega arith, tt), (word_printed w (few_each w 200 few (omega arith)), tt))),
        ),
      )

-- the item of a tiling speaks of it alone
own_item : (t : Tiling) → IsKept t → IsStatedBy (item_of t) t
own_item t kept = record { laid = record { tiling = kept.tiling; code_is = refl }; order_is = refl; size_is = (refl, refl) }

one_item : (t u : Tiling) → IsKept t → IsStatedBy (item_of t) u → u ≡ t
one_item t u kept st =
    a_flat_list_fixes_a_tiling u t (st.laid).tiling kept.tiling (sym (st.size_is).0) (ap flat (st.laid).code_is)

module _ (n : ℕ) (class : Class) (e : Entry) (small : n ≤ 16) (is : IsEntry n class e) where
  kept : IsKept e.tiling
  kept = (members_are_small n class e.tiling small is.member).kept

  word : IsComplete e.word × (order_of e.word ≡ length e.tiling.squares)
  word = tiling_word_is_complete e.tiling e.word (is.member).tiling is.word

  few : order_of e.word ≤ 200
  few = omega (arith, word.1, (is.member).order, small)

  -- the entry of a member has no byte at or below a line feed
  pub member_printed : IsPrinted (entry_text e.tiling e.word)
  member_printed = entry_printed e.tiling e.word kept (word.0).legal (word.0).some few

  -- the entry of a member is read as its tiling
  pub read_as : IsReadAs (entry_text e.tiling e.word) e.tiling
  read_as = record {
    item = record {
      short = entry_short e.tiling e.word kept (word.0).legal (word.0).some few;
      meaning = a_written_entry_is_read e.tiling e.word kept;
      few = (code_kept e.tiling kept).few;
    };
    stated = own_item e.tiling kept;
    only = λ u st. one_item e.tiling u kept st;
  }

-- each entry of a list is read as the tiling of the member
pub a_listed_entry_is_read : AListedEntryIsRead
a_listed_entry_is_read n class e small is = read_as n class e small is
