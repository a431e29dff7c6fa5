-- The lines of a list: the entries, and a last line that is a comment.
use Rattle.std.specs.List.{AllByRecursion, list_all}
use Rattle.std.specs.Prelude.{IsTrue, List, [], codes, decimal, length, nat_lt, ℕ, ◌*◌, ◌++◌, ◌<◌, ◌^◌, ◌∷◌, ◌≡◌, ◌≤◌}
use Rattle.std.proofs.Common.{ap, arith, inr, length-append, ltb-true, refl, ◌∙◌}
use Rattle.std.proofs.lemmas.Fmt.{length-decimal-le}
use Rattle.bk_laws.proofs.AllOfLists.{all_from_test}
use Rattle.bk_text.specs.CodeLine.{Skip}
use Rattle.bk_word.specs.declared.Class.{Class}
use Rattle.bk_word.specs.declared.Class.TheVariants.{Imperfect, Perfect, Simple}
use Rattle.bk_report.specs.Listings.{class_words, last_name}
use Rattle.bk_report.specs.Answers.{spaced}
use Rattle.bk_report.specs.declared.listing_lines.Last.{Last}
use Rattle.bk_report.specs.declared.listing_lines.Last.TheVariants.{End, Limit, Wide}
use Rattle.bk_ports.proofs.Cuts.{HasNoFeed, closed-append, closed-none, open-append, open-none}
use Rattle.bk_ports.specs.Lines.{closed_lines, line_at_end, lines_of, open_line}
use Rattle.bk_answer.specs.Item.{HasItem}
use Rattle.bk_read_back.proofs.PrintedBytes.{IsPrinted, decimal_printed, joined_printed, printed_bytes_have_no_feed}

-- the lines behind a line and its line feed
pub first_line : (text rest : List ℕ) → IsPrinted text → lines_of (text ++ 10 ∷ rest) ≡ text ∷ lines_of rest
first_line text rest printed =
    ap (λ (l : List (List ℕ)). l ++ line_at_end (open_line [] (text ++ 10 ∷ rest))) closed
    ∙ ap (λ (l : List ℕ). text ∷ (closed_lines [] rest ++ line_at_end l)) opened
  where
    free : HasNoFeed text
    free = printed_bytes_have_no_feed text printed

    begun : open_line [] text ≡ text
    begun = open-none [] text free

    closed : closed_lines [] (text ++ 10 ∷ rest) ≡ text ∷ closed_lines [] rest
    closed = closed-append [] text (10 ∷ rest)
        ∙ ap (λ (l : List (List ℕ)). l ++ closed_lines (open_line [] text) (10 ∷ rest)) (closed-none [] text free)
        ∙ ap (λ (l : List ℕ). l ∷ closed_lines [] rest) begun

    opened : open_line [] (text ++ 10 ∷ rest) ≡ open_line [] rest
    opened = open-append [] text (10 ∷ rest)

-- the pieces of a last line at the end or at the limit
abbrev pub last_words : Last → ℕ → Class → ℕ → List (List ℕ)
last_words last n class listed =
    (codes ";" ∷ last_name last ∷ codes "order" ∷ decimal n ∷ []) ++ (class_words class ++ (codes "listed" ∷ decimal listed ∷ []))

-- the text of a listing's last line
abbrev pub last_text : Last → ℕ → Class → ℕ → List ℕ
last_text last n class listed = spaced (last_words last n class listed)

-- a text whose bytes are known
by_test : (bytes : List ℕ) → IsTrue (list_all (λ b. nat_lt 10 b) bytes) → IsPrinted bytes
by_test bytes h = all_from_test (λ (b : ℕ). 10 < b) (λ b. nat_lt 10 b) (λ b e. ltb-true 10 b e) bytes h

-- so long at most, and printed
record IsPiece (piece : List ℕ) : Type 0 where
  printed : IsPrinted piece
  short : length piece ≤ 20

known : (piece : List ℕ) → IsTrue (list_all (λ b. nat_lt 10 b) piece) → length piece ≤ 20 → IsPiece piece
known piece test short = record { printed = by_test piece test; short = short }

a_number : (n : ℕ) → n < 2 ^ 64 → IsPiece (decimal n)
a_number n small = record { printed = decimal_printed n small; short = length-decimal-le 20 n (omega arith) (omega (arith, small)) small }

name_piece : (last : Last) → IsPiece (last_name last)
name_piece End = known (codes "end") refl (omega arith)
name_piece Limit = known (codes "limit") refl (omega arith)
name_piece Wide = known (codes "wide") refl (omega arith)

-- pieces with a blank between each two
pieces_printed : (pieces : List (List ℕ)) → AllByRecursion IsPiece pieces → AllByRecursion IsPrinted pieces
pieces_printed [] all = tt
pieces_printed (p ∷ pieces) all = ((all.0).printed, pieces_printed pieces all.1)

pieces_short : (pieces : List (List ℕ)) → AllByRecursion IsPiece pieces → length (spaced pieces) ≤ 21 * length pieces
pieces_short [] all = omega arith
pieces_short (p ∷ []) all = omega (arith, (all.0).short)
pieces_short (p ∷ q ∷ pieces) all =
    omega (arith, (all.0).short, length-append p (32 ∷ spaced (q ∷ pieces)), pieces_short (q ∷ pieces) all.1)

module _ (last : Last) (n listed : ℕ) (small : n ≤ 16) (fits : listed < 2 ^ 64) where
  count : AllByRecursion IsPiece (codes "listed" ∷ decimal listed ∷ [])
  count = (known (codes "listed") refl (omega arith), (a_number listed fits, tt))

  words : (class : Class) → AllByRecursion IsPiece (class_words class ++ (codes "listed" ∷ decimal listed ∷ []))
  words Perfect = count
  words Imperfect = (known (codes "class") refl (omega arith), (known (codes "imperfect") refl (omega arith), count))
  words Simple = (known (codes "class") refl (omega arith), (known (codes "simple") refl (omega arith), count))

  all_words : (class : Class) → AllByRecursion IsPiece (last_words last n class listed)
  all_words class = (
    known (codes ";") refl (omega arith),
    (
      name_piece last,
      (known (codes "order") refl (omega arith), (a_number n (omega (arith, small)), words class)),
    ),
  )

  few_words : (class : Class) → length (last_words last n class listed) ≤ 8
  few_words Perfect = omega arith
  few_words Imperfect = omega arith
  few_words Simple = omega arith

  -- a listing's last line has no byte at or below a line feed
  pub last_printed : (class : Class) → IsPrinted (last_text last n class listed)
  last_printed class = joined_printed 32 (omega arith) (last_words last n class listed) (pieces_printed (last_words last n class listed) (all_words class))

  -- a listing's last line is a comment
  pub last_has_none : (class : Class) → HasItem (last_text last n class listed) Skip
  last_has_none class = record {
    short = omega (arith, pieces_short (last_words last n class listed) (all_words class), few_words class);
    meaning = (
      [],
      last_text last n class listed,
      refl,
      tt,
      inr
          (32 ∷ spaced (last_name last ∷ codes "order" ∷ decimal n ∷ (class_words class ++ (codes "listed" ∷ decimal listed ∷ []))), refl),
    );
    few = omega arith;
  }
