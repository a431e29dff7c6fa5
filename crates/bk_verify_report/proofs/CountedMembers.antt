-- The members up to a word are counted: none at the start, one more at each next one, and all where none follows.
use Rattle.std.specs.List.{AllByRecursion}
use Rattle.std.specs.Prelude.{⊤}
use Rattle.std.proofs.Common.{List, [], arith, refl, ℕ}
use Rattle.std.proofs.Common.{◌++◌, ◌+◌, ◌<◌, ◌^◌, ◌∷◌, ◌≤◌}
use Rattle.std.proofs.lemmas.List.{length-append}
use Rattle.bk_tiling.specs.Tiling.{Tiling}
use Rattle.bk_word.specs.Word.{Word}
use Rattle.bk_word.specs.declared.Class.TheVariants.{Perfect}
use Rattle.bk_catalogue.specs.Catalogue.{Entry}
use Rattle.bk_catalogue.specs.Following.{HasNoneAfter}
use Rattle.bk_catalogue.proofs.TreeOfWords.WordCounts.{few_entries}
use Rattle.bk_verify_report.specs.KeptEntries.{AreUpTo, CountsMembers, IsUpTo}
use Rattle.bk_verify_report.proofs.MembersUpTo.{IsNextSuch, up_to_more, up_to_none}

-- all members
abbrev pub any : Tiling → Type 0
any t = ⊤

all_any : (entries : List Entry) → AllByRecursion (λ e. any e.tiling) entries
all_any [] = tt
all_any (e ∷ entries) = (tt, all_any entries)

-- none is up to the word of no moves
pub count_none : (n : ℕ) → CountsMembers n (IsUpTo []) 0
count_none n =
    let are = up_to_none n any in
    record { entries = []; each = tt; counted = tt; ascending = tt; all = λ e is up. are.all e is tt up; number = refl }

-- the next member is counted
pub members_counted_with_the_next : (n : ℕ) (cursor : Word) (e : Entry) (members : ℕ) → IsNextSuch n any cursor e → CountsMembers n (IsUpTo cursor) members
    → CountsMembers n (IsUpTo e.word) (members + 1)
members_counted_with_the_next n cursor e members next c =
    let number = c.number in
    let are : AreUpTo n any e.word (c.entries ++ e ∷ []) = up_to_more n any cursor e next c.entries
    (record { each = c.each; such = all_any c.entries; up = c.counted; ascending = c.ascending; all = λ f is such up. c.all f is up })
    in record {
      entries = c.entries ++ e ∷ [];
      each = are.each;
      counted = are.up;
      ascending = are.ascending;
      all = λ f is up. are.all f is tt up;
      number = omega (arith, number, length-append c.entries (e ∷ []));
    }

-- where no member follows the cursor, all are counted
pub all_members_counted_with_none_after : (n : ℕ) (cursor : Word) (members : ℕ) → HasNoneAfter n Perfect cursor → CountsMembers n (IsUpTo cursor) members
    → CountsMembers n (λ word. ⊤) members
all_members_counted_with_none_after n cursor members none c = record {
  entries = c.entries;
  each = c.each;
  counted = all_any c.entries;
  ascending = c.ascending;
  all = λ e is it. c.all e is (none e is);
  number = c.number;
}

-- the members of an order of at most 16 are fewer than 2^64
pub few_members : (n : ℕ) (P : Word → Type 0) (members : ℕ) → n ≤ 16 → CountsMembers n P members → members + 1 < 2 ^ 64
few_members n P members few c = let number = c.number in omega (arith, number, few_entries n Perfect c.entries few c.each c.ascending)
