-- A walk over the members that are kept: what it has passed, and the next one that is missing.
use Rattle.std.specs.Prelude.{IsTrue, false, length}
use Rattle.std.proofs.Common.{List, [], ap, arith, inl, inr, refl, subst, sym, ℕ}
use Rattle.std.proofs.Common.{◌+◌, ◌∙◌, ◌≡◌, ◌≢◌, ◌≤◌, ◌⊎◌}
use Rattle.bk_laws.proofs.Membership.{all-contains}
use Rattle.bk_tiling.specs.Tiling.{Tiling}
use Rattle.bk_word.proofs.WordOrder.{follows_trans}
use Rattle.bk_word.specs.Word.{Follows, Word}
use Rattle.bk_word.specs.declared.Class.{Class}
use Rattle.bk_word.specs.declared.Class.TheVariants.{Perfect}
use Rattle.bk_catalogue.specs.Catalogue.{Entry, IsEntry}
use Rattle.bk_catalogue.specs.Following.{HasNoneAfter}
use Rattle.bk_members.specs.NextMember.{IsNextMember, MembersState}
use Rattle.bk_verify_report.specs.KeptEntries.{AreKeptAfter, CountsMembers, IsKeptFrom, IsNextMissing, IsNotKept, IsUpTo, Kept}
use Rattle.bk_verify_report.proofs.MembersUpTo.{IsNextSuch, up_to_next}
use Rattle.bk_verify_report.proofs.CountedMembers.{any, count_none, members_counted_with_the_next}
use Rattle.bk_verify_report.specs.Rest.{IsKeptRest}

-- the next member is the next one of all
next_any : (n : ℕ) (cursor : Word) (t : Tiling) (word : Word) → IsNextMember n Perfect cursor (record { tiling = t; word = word })
    → IsNextSuch n any cursor (record { tiling = t; word = word })
next_any n cursor t word next = record {
  entry = next.is;
  such = tt;
  after = next.after;
  least = λ f is such. next.least f is;
}

-- from one cursor to another each member is kept
pub record IsPassed (n : ℕ) (pairs : List Kept) (start cursor : Word) : Type 0 where
  pub at : (cursor ≡ start) ⊎ Follows cursor start
  pub kept : (e : Entry) → IsEntry n Perfect e → Follows e.word start → IsUpTo cursor e.word → IsNotKept pairs e.tiling → ⊥

-- where the walk is at its start, there is nothing to pass
pub passed_none : (n : ℕ) (pairs : List Kept) (start : Word) → IsPassed n pairs start start
passed_none n pairs start = record { at = inl refl; kept = λ e is after up new. up after }

later : (start cursor word : Word) → (cursor ≡ start) ⊎ Follows cursor start → Follows word cursor → Follows word start
later start cursor word (inl e) f = subst (Follows word) e f
later start cursor word (inr g) f = follows_trans start cursor word g f

module _ (n : ℕ) (pairs : List Kept) (start cursor : Word) (passed : IsPassed n pairs start cursor) where
  module _ (t : Tiling) (word : Word) (next : IsNextMember n Perfect cursor (record { tiling = t; word = word })) where
    -- the next member is kept, and passed
    pub passed_more : (line : ℕ) → IsKeptFrom pairs t line → IsPassed n pairs start word
    passed_more line from = record {
      at = inr (later start cursor word passed.at next.after);
      kept = λ e is after up new. cases e is after new (up_to_next n any cursor (record { tiling = t; word = word }) (next_any n cursor t word next)
          e is tt up);
    }
      where
        cases : (e : Entry) → IsEntry n Perfect e → Follows e.word start → IsNotKept pairs e.tiling → IsUpTo cursor e.word
            ⊎ (record { tiling = t; word = word } ≡ e) → ⊥
        cases e is after new (inl up) = passed.kept e is after up new
        cases e is after new (inr it) =
            all-contains (λ (p : Kept). p.tiling ≢ e.tiling) pairs (record { line = line; tiling = t }) new from (ap (λ (f : Entry). f.tiling) it)

    -- a member that isn't kept is the next that is missing
    pub next_is_missing : IsNotKept pairs t → IsNextMissing n pairs start t word
    next_is_missing new = record {
      member = (next.is).member;
      word_is = (next.is).word;
      after = later start cursor word passed.at next.after;
      new = new;
      least = λ e is after below not. passed.kept e is after (λ f. next.least e is f below) not;
    }

-- the next member, by other names of the order and of the class
pub next_as : (k n : ℕ) (one : Class) (cursor : Word) (t : Tiling) (word : Word) → k ≡ n → one ≡ Perfect
    → IsNextMember k one cursor (record { tiling = t; word = word })
    → IsNextMember n Perfect cursor (record { tiling = t; word = word })
next_as k n one cursor t word e f next = subst (λ (k : ℕ). IsNextMember k Perfect cursor (record { tiling = t; word = word })) e
    (subst (λ (one : Class). IsNextMember k one cursor (record { tiling = t; word = word })) f next)

-- a walk at the start has reached none
pub rest_none : (n : ℕ) → n ≤ 16 → IsKeptRest (record { order = n; class = Perfect; cursor = []; ended = false; pushes = 0 }) 0
rest_none n most = record { most = most; class = refl; reached = count_none n }

-- a walk goes over members that are kept, from where it was first
pub record IsPassing (first : MembersState) (pairs : List Kept) (walk : MembersState) (members : ℕ) : Type 0 where
  pub passed : IsPassed first.order pairs first.cursor walk.cursor
  pub counted : CountsMembers first.order (IsUpTo walk.cursor) members
  pub order : walk.order ≡ first.order
  pub class : walk.class ≡ Perfect
  pub still : IsTrue first.ended → IsTrue walk.ended

-- the walk is where it was first
pub passing_none : (first : MembersState) (pairs : List Kept) (members : ℕ) → first.class ≡ Perfect
    → CountsMembers first.order (IsUpTo first.cursor) members → IsPassing first pairs first members
passing_none first pairs members class counted = record {
  passed = passed_none first.order pairs first.cursor;
  counted = counted;
  order = refl;
  class = class;
  still = λ e. e;
}

-- no member follows the walk
module _ (first : MembersState) (pairs : List Kept) (walk : MembersState) (members : ℕ) (p : IsPassing first pairs walk members)
    (none : HasNoneAfter walk.order walk.class walk.cursor) where
  -- where no member follows the walk, no perfect member follows its cursor
  pub passing_end : (cursor : Word) → cursor ≡ walk.cursor → HasNoneAfter first.order Perfect cursor
  passing_end cursor stays = subst (HasNoneAfter first.order Perfect) (sym stays) (subst (λ (k : ℕ). HasNoneAfter k Perfect walk.cursor) p.order
      (subst (λ (one : Class). HasNoneAfter walk.order one walk.cursor) p.class none))

  -- where no member follows the walk, each member from the start on is kept
  pub passing_all : AreKeptAfter first.order pairs first.cursor
  passing_all e is after new = p.passed.kept e is after (passing_end walk.cursor refl e is) new

-- the walk stays where it is
pub passing_stays : (first : MembersState) (pairs : List Kept) (walk : MembersState) (members : ℕ) → IsPassing first pairs walk members → (after : MembersState)
    → after.order ≡ walk.order → after.cursor ≡ walk.cursor → CountsMembers after.order (IsUpTo after.cursor) members
passing_stays first pairs walk members p after order cursor =
    subst (λ (n : ℕ). CountsMembers n (IsUpTo after.cursor) members) (sym (order ∙ p.order))
    (subst (λ (w : Word). CountsMembers first.order (IsUpTo w) members) (sym cursor) p.counted)

-- the walk goes on to its next member
module _ (first : MembersState) (pairs : List Kept) (walk : MembersState) (members : ℕ) (p : IsPassing first pairs walk members) (t : Tiling) (word : Word)
    (next : IsNextMember walk.order walk.class walk.cursor (record { tiling = t; word = word })) where
  the_next : IsNextMember first.order Perfect walk.cursor (record { tiling = t; word = word })
  the_next = next_as walk.order first.order walk.class walk.cursor t word p.order p.class next

  the_next_any : IsNextSuch first.order any walk.cursor (record { tiling = t; word = word })
  the_next_any = next_any first.order walk.cursor t word the_next

  -- a member that the walk goes on to has few squares
  pub passing_few : first.order ≤ 16 → length t.squares ≤ 16
  passing_few most = omega (arith, ((the_next.is).member).order, most)

  -- a next member that isn't kept is the next missing one
  pub passing_missing : IsNotKept pairs t → IsNextMissing first.order pairs first.cursor t word
  passing_missing new = next_is_missing first.order pairs first.cursor walk.cursor p.passed t word the_next new

  -- a member that the walk goes on to is counted
  pub passing_counted : (after : MembersState) → after.order ≡ walk.order → after.cursor ≡ word → CountsMembers after.order (IsUpTo after.cursor) (members + 1)
  passing_counted after order cursor =
      subst (λ (n : ℕ). CountsMembers n (IsUpTo after.cursor) (members + 1)) (sym (order ∙ p.order))
      (subst (λ (w : Word). CountsMembers first.order (IsUpTo w) (members + 1)) (sym cursor)
      (members_counted_with_the_next first.order walk.cursor (record { tiling = t; word = word }) members the_next_any p.counted))

  -- one that is kept is passed
  pub passing_more : (after : MembersState) → after.order ≡ walk.order → after.class ≡ walk.class → after.cursor ≡ word → (IsTrue walk.ended → ⊥)
      → (line : ℕ) → IsKeptFrom pairs t line
      → IsPassing first pairs after (members + 1)
  passing_more after order class cursor on line from = record {
    passed = subst (IsPassed first.order pairs first.cursor) (sym cursor)
        (passed_more first.order pairs first.cursor walk.cursor p.passed t word the_next line from);
    counted = subst (λ (w : Word). CountsMembers first.order (IsUpTo w) (members + 1)) (sym cursor)
        (members_counted_with_the_next first.order walk.cursor (record { tiling = t; word = word }) members the_next_any p.counted);
    order = order ∙ p.order;
    class = class ∙ p.class;
    still = λ e. absurd (on (p.still e));
  }
