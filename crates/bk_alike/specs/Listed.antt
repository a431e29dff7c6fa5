-- Lines of codes that are listed one after another: the items that are kept, and how many lines are refused.
-- Example (GroupExamples): of `[1,2][1]` the canonical tiling is kept, `[18,15][7,9]` is refused by `line 2 no gap 2 15
-- 16`; where 16,384 items are kept, the next one is refused too.
use Rattle.std.specs.Prelude.{List, [], false, length, true, ℕ, ◌++◌, ◌+◌, ◌<◌, ◌∷◌, ◌≡◌, ◌≤◌}
use Rattle.bk_tiling.specs.Tiling.{Tiling}
use Rattle.bk_sym.specs.Canonical.{IsCanonicalOf}
use Rattle.bk_text.specs.CodeLine.{Skip}
use Rattle.bk_report.specs.ListLines.{refused_line}
use Rattle.bk_report.specs.declared.refusal.Refused.{Refused}
use Rattle.bk_report.specs.declared.refusal.Refused.TheVariants.{More}
use Rattle.bk_answer.specs.Item.{HasItem, HasTiling}
use Rattle.bk_answer.specs.Refusing.{IsLineRefused}
use Rattle.bk_ports.specs.Entering.{AreEntered, EnteringFrom}
use Rattle.bk_ports.specs.Reply.{Reply, some_refused}
use Rattle.bk_alike.specs.declared.TheConstants.{MOST_ITEMS}
use Rattle.bk_alike.specs.declared.item.KeptItem.{KeptItem}

-- the items that are kept, and how many lines were refused
pub record Listed : Type 0 where
  pub items : List KeptItem
  pub refused : ℕ

-- what is kept, with one more item
abbrev pub with_item : Listed → ℕ → Tiling → Listed
with_item s number c = record s { items = s.items ++ record { line = number; tiling = c } ∷ [] }

-- what is kept, with one more refused line
abbrev pub with_refused : Listed → Listed
with_refused s = record s { refused = s.refused + 1 }

-- how a line is listed
pub data ListsLine (s : Listed) (number : ℕ) (bytes : List ℕ) : Reply → Listed → Type 0 where
  -- a line without an item is passed over
  skipped : HasItem bytes Skip → ListsLine s number bytes (record { pieces = []; refused = false }) s
  -- a line that `check` refuses is answered by its number and the cause
  refuses : (refused : Refused) → IsLineRefused bytes refused
      → ListsLine s number bytes (record { pieces = refused_line number refused ∷ []; refused = true }) (with_refused s)
  -- a line that `check` accepts is kept with the canonical tiling, as long as fewer than 16,384 items are kept
  keeps : (t c : Tiling) → HasTiling bytes t → length s.items < MOST_ITEMS → IsCanonicalOf t c
      → ListsLine s number bytes (record { pieces = []; refused = false }) (with_item s number c)
  -- a line that `check` accepts is refused where 16,384 items are kept
  no_more : (t : Tiling) → HasTiling bytes t → MOST_ITEMS ≤ length s.items
      → ListsLine s number bytes (record { pieces = refused_line number More ∷ []; refused = true }) (with_refused s)

-- memory may be wanting at an accepted line alone, where fewer than 16,384 items are kept
abbrev pub MayWantItem : Listed → ℕ → List ℕ → Type 0
MayWantItem s number bytes = (t : Tiling) × HasTiling bytes t × (length s.items < MOST_ITEMS)

-- lines to be listed: how, with no items and no refused lines, and from line 1 on
abbrev pub listing_start : EnteringFrom Listed
listing_start = record {
  rules = record {
    enters = λ s number bytes pieces refused next.
        ListsLine s number bytes (record { pieces = pieces; refused = refused }) next;
    may_want = MayWantItem;
  };
  state = record { items = []; refused = 0 };
  number = 1;
}

-- where these lines are listed one after another, some line is refused: `check` refuses it, or it accepts it and 16,384
-- items are kept before it
pub record HasRefusedLine (lines : List (List ℕ)) : Type 0 where
  pub replies : List Reply
  pub last : Listed
  pub each : AreEntered listing_start lines replies last
  pub some : some_refused replies ≡ true
