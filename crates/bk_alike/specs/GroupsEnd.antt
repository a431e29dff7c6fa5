-- What is written behind the lines of a list, and how a run ends that lists lines.
-- Example (GroupExamples): `; groups 2 items 3 refused 1`.
use Rattle.std.specs.List.{concat, flat_map}
use Rattle.std.specs.Option.{option_map_or}
use Rattle.std.specs.Prelude.{Bool, List, [], length, slice_get, ℕ, ◌++◌, ◌∷◌, ◌≡◌}
use Rattle.std.specs.Io.KnownBytes.{Appends}
use Rattle.bk_ports.specs.Answered.{AreAnswered, AreBegun, AreCutShort}
use Rattle.bk_ports.specs.Causes.{AppendsPrefix}
use Rattle.bk_ports.specs.Ending.{Output}
use Rattle.bk_ports.specs.Entering.{AreEntered, CanBeEntered, MayWantBehind}
use Rattle.bk_ports.specs.Reply.{Reply, some_refused, text_of}
use Rattle.bk_report.specs.ListLines.{alike_line, group_line, member_line, pairs_line}
use Rattle.bk_alike.specs.Alike.{group_of, sizes}
use Rattle.bk_alike.specs.declared.item.KeptItem.{KeptItem}
use Rattle.bk_alike.specs.Listed.{Listed, listing_start}
use Rattle.bk_alike.specs.Pairs.{all_pairs}
use Rattle.bk_alike.specs.declared.Wanted.{Wanted}
use Rattle.bk_alike.specs.declared.Wanted.TheVariants.{Groups, Pairs}

-- the line of the item at a place
abbrev pub member_at : List KeptItem → ℕ → List (List ℕ)
member_at items place = option_map_or (λ item. member_line item.line item.tiling ∷ []) (slice_get items place) []

-- the lines of a group: its size and how many items it has, and then its items
abbrev pub group_lines : List KeptItem → ℕ × ℕ → List (List ℕ)
group_lines items a = group_line a.0 a.1 (length (group_of items a)) ∷ flat_map (member_at items) (group_of items a)

-- what is written behind the lines: the groups, or the pairs, and a last line
abbrev pub closing_lines : Wanted → Listed → List (List ℕ)
closing_lines Groups s = flat_map (group_lines s.items) (sizes s.items)
    ++ alike_line (length (sizes s.items)) (length s.items) s.refused ∷ []
closing_lines (Pairs kind) s = all_pairs kind s.items
    ++ pairs_line (length (all_pairs kind s.items)) (length s.items) s.refused ∷ []

-- the text of a list: the replies to its lines, some of them refusals or none, and behind them what is wanted
pub record IsListText (wanted : Wanted) (lines : List (List ℕ)) (refused : Bool) (text : List ℕ) : Type 0 where
  pub replies : List Reply
  pub last : Listed
  pub each : AreEntered listing_start lines replies last
  pub any : some_refused replies ≡ refused
  pub text_is : text ≡ text_of replies ++ concat (closing_lines wanted last)

-- what a run writes that lists lines
abbrev pub list_output : Wanted → Output
list_output wanted = record {
  lines = AreAnswered (CanBeEntered listing_start);
  whole = λ lines refused before after. (text : List ℕ) × IsListText wanted lines refused text
      × Appends before after text;
  begun = AreBegun (CanBeEntered listing_start);
  begun_behind = λ lines before after. (refused : Bool) × (text : List ℕ) × IsListText wanted lines refused text
      × AppendsPrefix before after text;
  short = AreCutShort (MayWantBehind listing_start);
}
