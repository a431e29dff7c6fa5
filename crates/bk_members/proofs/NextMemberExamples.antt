-- What a walk through the catalogues of order 2 gives from the start.
use Rattle.std.proofs.Common.{[], refl, subst, sym}
use Rattle.bk_word.specs.Word.{Follows, Word}
use Rattle.bk_word.specs.declared.Class.TheVariants.{Imperfect, Perfect}
use Rattle.bk_word.proofs.FollowLaws.{not_itself}
use Rattle.bk_catalogue.specs.Following.{HasNoneAfter}
use Rattle.bk_members.specs.NextMember.{IsNextMember}
use Rattle.bk_catalogue.proofs.Members.CatalogueExamples.{row_entry, row_word, entry_is, row_word_of, no_perfect}

-- a walk gives the row first, and nothing after it; in the class perfect nothing at all
row_first : IsNextMember 2 Imperfect [] row_entry
row_first = record {
  is = entry_is;
  after = refl;
  least = λ e is after before. not_itself row_word (subst (λ (w : Word). Follows row_word w) (sym (row_word_of e is)) before);
}

none_after_it : HasNoneAfter 2 Imperfect row_word
none_after_it e is after = not_itself row_word (subst (λ (w : Word). Follows w row_word) (sym (row_word_of e is)) after)

none_at_all : HasNoneAfter 2 Perfect []
none_at_all e is after = no_perfect e is
