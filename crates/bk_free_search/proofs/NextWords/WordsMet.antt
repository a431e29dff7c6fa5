-- What calls of the search meet, one after the other.
use Rattle.std.proofs.Common.{List, [], refl, ◌++◌, ◌<◌, ◌∷◌}
use Rattle.bk_word.specs.Outline.{IsLegalMove}
use Rattle.bk_word.specs.Play.{outline_of}
use Rattle.bk_word.specs.Word.{Word}
use Rattle.bk_word.specs.declared.Sign.{Sign}
use Rattle.bk_word.specs.declared.Sign.TheVariants.{Above}
use Rattle.bk_layout.specs.NormalCuts.{IsNormalBarren}
use Rattle.bk_free_search.proofs.NextWords.NextMoves.{by_sign, next_sign, sought_in}
use Rattle.bk_free_search.proofs.NextWords.SignPhases.{none_goes_on_so}
use Rattle.bk_free_search.proofs.NextWords.HandedOn.{met_twice, none_met, unchanged_twice, untouched}
use Rattle.bk_free_search.specs.AskedSigns.{BarsSigns}
use Rattle.bk_free_search.specs.Unchanged.{BegunState, MeetsAllBy, MeetsAllFrom}
use Rattle.bk_free_search.specs.declared.state.Begun.{Begun}
use Rattle.bk_free_search.specs.declared.state.Search.{Search}

-- from barren moves there is nothing to meet
pub none_from : {L F : Type 0} {has_met : L → Word → Type 0} {fixed : L → F} {s : Search} {front : Word} (l : L) → IsNormalBarren s.order front
    → MeetsAllFrom has_met fixed front (record { search = s; leaves = l }) (record { search = s; leaves = l })
none_from {front = front} l barren =
    record { all = λ w sought on. absurd (sought.fertile front on.rest on.is barren); kept = none_met l; same = refl }

-- by barred signs there is nothing to meet
pub none_by : {L F : Type 0} {has_met : L → Word → Type 0} {fixed : L → F} {s : Search} {a : Begun} {signs : List Sign} (l : L)
    → BarsSigns s.order s.board a.m.count signs
    → MeetsAllBy has_met fixed signs (record { search = s; begun = a; leaves = l }) (record { search = s; begun = a; leaves = l })
none_by {s = s} {a = a} l bars = record { all = λ w sought on. absurd (none_goes_on_so bars sought on); kept = none_met l; same = untouched s a }

module _ {L F : Type 0} {has_met : L → Word → Type 0} {fixed : L → F} {r s t : BegunState L} {others : List Sign} where
  -- what a call meets stays met over the next
  pub then_kept : {signs : List Sign} → MeetsAllBy has_met fixed signs r s → MeetsAllBy has_met fixed others s t
      → MeetsAllBy has_met fixed signs r t
  then_kept first second = record {
    all = λ w sought on. second.kept.kept w (first.all w sought on);
    kept = met_twice first.kept second.kept;
    same = unchanged_twice first.same second.same;
  }

  -- what the next meets by a sign more is met by that sign from before the first
  pub then_by : (sign : Sign) → MeetsAllBy has_met fixed others r s → MeetsAllBy has_met fixed (s.begun.m.signs ++ sign ∷ []) s t
      → MeetsAllBy has_met fixed (r.begun.m.signs ++ sign ∷ []) r t
  then_by sign first second = record {
    all = λ w sought on. second.all w (sought_in w first.same.search sought) (by_sign sign w first.same on);
    kept = met_twice first.kept second.kept;
    same = unchanged_twice first.same second.same;
  }

-- where signs are still to come, all is met that is met by each of them
pub by_each_sign : {L F : Type 0} {has_met : L → Word → Type 0} {fixed : L → F} {s t : BegunState L} → 0 < s.begun.m.count
    → (IsLegalMove (outline_of s.search.board) s.begun.m → ⊥) → ((sign : Sign) → MeetsAllBy has_met fixed (s.begun.m.signs ++ sign ∷ []) s t)
    → MeetsAllBy has_met fixed s.begun.m.signs s t
by_each_sign {s = s} some not each = record {
  all = λ w sought on.
      let next = next_sign s.search.order s.search.board w s.begun.m sought some not on in (each next.sign).all w sought next.on;
  kept = (each Above).kept;
  same = (each Above).same;
}
