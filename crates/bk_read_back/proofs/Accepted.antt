-- What `check` answers to the lines of a list.
use Rattle.std.specs.List.{AllByRecursion, concat}
use Rattle.std.specs.Prelude.{Bool, List, [], false, flat_map, length, ℕ, ◌++◌, ◌+◌, ◌<◌, ◌^◌, ◌||◌, ◌∷◌, ◌≡◌, ◌≤◌}
use Rattle.std.proofs.Common.{ap, append_assoc, arith, refl, subst, sym, ◌∙◌}
use Rattle.std.proofs.lemmas.List.{append-nil}
use Rattle.bk_tiling.specs.Tiling.{Tiling}
use Rattle.bk_text.proofs.LinesRead.{line_stands_for_one_thing}
use Rattle.bk_text.specs.CodeLine.{Line, Skip}
use Rattle.bk_word.specs.declared.Class.{Class}
use Rattle.bk_catalogue.proofs.TreeOfWords.WordCounts.{few_entries}
use Rattle.bk_catalogue.specs.Catalogue.{Entry, IsEntry}
use Rattle.bk_report.specs.Answers.{IsCheckLine}
use Rattle.bk_report.specs.Listings.{entry_text}
use Rattle.bk_report.specs.declared.listing_lines.Last.{Last}
use Rattle.bk_report.specs.declared.listing_lines.Last.TheVariants.{End, Limit, Wide}
use Rattle.bk_ports.specs.Lines.{lines_of}
use Rattle.bk_ports.specs.Reply.{AreReplies, Reply, some_refused, text_of}
use Rattle.bk_answer.proofs.OneAnswer.{cause_of, command_cause, not_refused, one_answer, skip_not_stated}
use Rattle.bk_answer.specs.Answer.{AnswersLine}
use Rattle.bk_answer.specs.CodeAnswer.{AnswersCodeLine, answers, no_item, refuses}
use Rattle.bk_answer.specs.Item.{HasItem, IsStatedBy}
use Rattle.bk_answer.specs.declared.command.Command.TheVariants.{Plain}
use Rattle.bk_answer.specs.declared.plain.PlainCommand.TheVariants.{Check}
use Rattle.bk_answer.proofs.Accepting.{check_refuses}
use Rattle.bk_list.specs.Listing.{IsListing, line_of}
use Rattle.bk_read_back.proofs.EntryLines.{member_printed, read_as}
use Rattle.bk_read_back.proofs.ListLines.{first_line, last_has_none, last_printed, last_text}
use Rattle.bk_read_back.specs.ReadBack.{AListIsAccepted, AcceptsAll, IsReadAs, item_of}

-- the answer to a line that is read as a tiling
record IsAccepted (t : Tiling) (pieces : List (List ℕ)) (refused : Bool) : Type 0 where
  line : List ℕ
  is : IsCheckLine t line
  pieces_are : pieces ≡ line ∷ []
  not_refused_is : refused ≡ false

accepted : (bytes : List ℕ) (t : Tiling) → IsReadAs bytes t → (pieces : List (List ℕ)) (refused : Bool) → AnswersCodeLine (Plain Check) bytes pieces refused
    → IsAccepted t pieces refused
accepted bytes t read pieces refused (no_item skip) = absurd (skip_not_stated bytes (item_of t) t skip read.item read.stated)
accepted bytes t read pieces refused (refuses r h) =
    absurd (not_refused bytes (item_of t) t r read.item read.stated (cause_of bytes r (check_refuses bytes r (command_cause (Plain Check) bytes r h))))
accepted bytes t read pieces refused (answers u _ has _ (line, c, e)) = record {
  line = line;
  is = subst (λ (z : Tiling). IsCheckLine z line) (read.only u own) c;
  pieces_are = e;
  not_refused_is = refl;
}
  where
    own : IsStatedBy (item_of t) u
    own = subst (λ (i : Line). IsStatedBy i u) (line_stands_for_one_thing bytes has.item (item_of t) has.is_item.meaning read.item.meaning) has.stated

-- a short line is kept whole
-- the replies to a last line
module _ (text : List ℕ) (skip : HasItem text Skip) where
  last_reply : (replies : List Reply) → AreReplies (AnswersLine (Plain Check)) (text ∷ []) replies → AcceptsAll [] replies
  last_reply [] each = absurd each
  last_reply (r ∷ s ∷ replies) each = absurd each.1
  last_reply (r ∷ []) each = record { none_refused = none; lines = []; each = tt; text = empty }
    where
      one : ([] ≡ r.pieces) × (false ≡ r.refused)
      one = one_answer (Plain Check) text [] r.pieces false r.refused (no_item skip) each.0

      none : some_refused (r ∷ []) ≡ false
      none = subst (λ (b : Bool). (b || false) ≡ false) one.1 refl

      empty : text_of (r ∷ []) ≡ concat []
      empty = ap (λ (pieces : List (List ℕ)). concat pieces ++ []) (sym one.0)

-- one reply more
more_replies : (e : Entry) (entries : List Entry) (r : Reply) (replies : List Reply) → IsAccepted e.tiling r.pieces r.refused → AcceptsAll entries replies
    → AcceptsAll (e ∷ entries) (r ∷ replies)
more_replies e entries r replies a rest = record {
  none_refused = subst (λ (b : Bool). (b || some_refused replies) ≡ false) (sym a.not_refused_is) rest.none_refused;
  lines = a.line ∷ rest.lines;
  each = (a.is, rest.each);
  text = ap (λ (pieces : List (List ℕ)). concat pieces ++ text_of replies) a.pieces_are
      ∙ ap (λ (l : List ℕ). l ++ text_of replies) (append-nil a.line)
      ∙ ap (λ (l : List ℕ). a.line ++ l) rest.text;
}

-- the replies to the lines of the entries and of what is behind them
module _ (n : ℕ) (class : Class) (small : n ≤ 16) (behind : List ℕ)
    (last : (replies : List Reply) → AreReplies (AnswersLine (Plain Check)) (lines_of behind) replies → AcceptsAll [] replies) where
  abbrev Replied : List (List ℕ) → List Reply → Type 0
  Replied lines replies = AreReplies (AnswersLine (Plain Check)) lines replies

  -- the line of the first entry, and the lines behind it
  lines_more : (e : Entry) (entries : List Entry) → IsEntry n class e
      → lines_of (flat_map line_of (e ∷ entries) ++ behind) ≡ entry_text e.tiling e.word ∷ lines_of (flat_map line_of entries ++ behind)
  lines_more e entries is =
      ap lines_of (append_assoc (line_of e) (flat_map line_of entries) behind
      ∙ append_assoc (entry_text e.tiling e.word) (10 ∷ []) (flat_map line_of entries ++ behind))
      ∙ first_line (entry_text e.tiling e.word) (flat_map line_of entries ++ behind) (member_printed n class e small is)

  first_reply : (e : Entry) → IsEntry n class e → (r : Reply) → AnswersCodeLine (Plain Check) (entry_text e.tiling e.word) r.pieces r.refused
      → IsAccepted e.tiling r.pieces r.refused
  first_reply e is r answer =
      let read : IsReadAs (entry_text e.tiling e.word) e.tiling = read_as n class e small is in
      accepted (entry_text e.tiling e.word) e.tiling read r.pieces r.refused answer

  all_accepted : (entries : List Entry) → AllByRecursion (IsEntry n class) entries → (replies : List Reply)
      → Replied (lines_of (flat_map line_of entries ++ behind)) replies → AcceptsAll entries replies
  all_accepted [] all replies each = last replies each
  all_accepted (e ∷ entries) all replies each =
      split replies (subst (λ (lines : List (List ℕ)). Replied lines replies) (lines_more e entries all.0) each) (all_accepted entries all.1)
    where
      split : (replies : List Reply) → Replied (entry_text e.tiling e.word ∷ lines_of (flat_map line_of entries ++ behind)) replies
          → ((replies : List Reply) → Replied (lines_of (flat_map line_of entries ++ behind)) replies → AcceptsAll entries replies) → AcceptsAll (e ∷ entries)
          replies
      split [] each rest = absurd each
      split (r ∷ replies) each rest = more_replies e entries r replies (first_reply e all.0 r each.0) (rest replies each.1)

-- the replies to a last line of this name
last_of : (n : ℕ) (class : Class) (last : Last) (listed : ℕ) → n ≤ 16 → listed < 2 ^ 64 → (replies : List Reply)
    → AreReplies (AnswersLine (Plain Check)) (lines_of (last_text last n class listed ++ 10 ∷ [])) replies → AcceptsAll [] replies
last_of n class last listed small fits replies each =
    last_reply (last_text last n class listed) (last_has_none last n listed small fits class) replies
    (subst (λ (lines : List (List ℕ)). AreReplies (AnswersLine (Plain Check)) lines replies)
    (first_line (last_text last n class listed) [] (last_printed last n listed small fits class)) each)

-- a list that ends with it
named : (n : ℕ) (class : Class) (last : Last) (entries : List Entry) → n ≤ 16 → AllByRecursion (IsEntry n class) entries → length entries < 2 ^ 64
    → (replies : List Reply)
    → AreReplies (AnswersLine (Plain Check)) (lines_of (flat_map line_of entries ++ (last_text last n class (length entries) ++ 10 ∷ []))) replies
    → AcceptsAll entries replies
named n class last entries small all fits replies each =
    all_accepted n class small (last_text last n class (length entries) ++ 10 ∷ [])
    (λ others some. last_of n class last (length entries) small fits others some) entries all replies each

-- where each line of a list has a reply of check, all are accepted
pub a_list_is_accepted : AListIsAccepted
a_list_is_accepted asked last bytes small list replies each = by last list each
  where
    fits : (entries : List Entry) → length entries + 1 < 2 ^ 64 → length entries < 2 ^ 64
    fits entries h = omega (arith, h)

    by : (last : Last) → (l : IsListing asked last bytes) → AreReplies (AnswersLine (Plain Check)) (lines_of bytes) replies
        → AcceptsAll l.entries replies
    by End l each = named asked.catalogue.order asked.catalogue.class End l.entries small (l.first).each
        (fits l.entries (few_entries asked.catalogue.order asked.catalogue.class l.entries small (l.first).each (l.first).ascending)) replies
        (subst (λ (bytes : List ℕ). AreReplies (AnswersLine (Plain Check)) (lines_of bytes) replies) l.text each)
    by Limit l each = named asked.catalogue.order asked.catalogue.class Limit l.entries small (l.first).each
        (fits l.entries (few_entries asked.catalogue.order asked.catalogue.class l.entries small (l.first).each (l.first).ascending)) replies
        (subst (λ (bytes : List ℕ). AreReplies (AnswersLine (Plain Check)) (lines_of bytes) replies) l.text each)
    by Wide l each = absurd l.ends
