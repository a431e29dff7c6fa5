-- What a walk answers, from what its walk of the tree found.
use Rattle.std.proofs.Common.{Bool, None, Some, [], ap, arith, false, length, refl, subst, sym, take, ℕ, ◌+◌, ◌-◌, ◌<◌, ◌^◌, ◌∙◌, ◌≡◌, ◌≤◌}
use Rattle.std.proofs.lemmas.Bool.{false≢true}
use Rattle.bk_tiling.specs.Tiling.{Tiling}
use Rattle.bk_word.specs.Word.{Word, order_of}
use Rattle.bk_word.specs.declared.Class.{Class}
use Rattle.bk_catalogue.specs.Catalogue.{IsEntry}
use Rattle.bk_catalogue.proofs.Members.OneEntry.{entry_complete}
use Rattle.std.proofs.lemmas.List.{take_all}
use Rattle.bk_tree_walk.specs.TreePlace.{Ends, Finds, HasPassed, Meets, TreeWalkState}
use Rattle.bk_catalogue.specs.Tree.{IsAtMostTree}
use Rattle.bk_catalogue.proofs.TreeOfWords.TreeCounts.{at_least_fewer}
use Rattle.bk_catalogue.specs.Following.{HasNoneAfter}
use Rattle.bk_members.specs.NextMember.{IsNextMember, MembersState}
use Rattle.bk_walk.specs.KeptWalk.{IsKeptWalk}

module _ (n : ℕ) (class : Class) (cursor place : Word) (p : HasPassed n class cursor place 0) (start began ended : ℕ) (few : began ≤ start + 16) where
  -- where the walk ends, no member's word is after the cursor
  pub none_after : Ends n class place (ended - began) → HasNoneAfter n class cursor
  none_after e = (e cursor 0 p).passed

  -- where the walk ends, all steps are at most 16 more than the tree has words after the cursor
  pub steps_to_end : Ends n class place (ended - began) → IsAtMostTree n cursor None (ended - start)
  steps_to_end e = at_least_fewer n cursor None (0 + (ended - began)) (ended - start - 16) (omega arith) (e cursor 0 p).count

  -- where the walk finds a word, all steps are at most 16 more than the tree has words after the cursor up to this word
  pub steps_to_word : (word found : Word) → found ≡ word → Meets n class place word (ended - began) → IsAtMostTree n cursor (Some found) (ended - start)
  steps_to_word word found same m = subst (λ (w : Word). IsAtMostTree n cursor (Some w) (ended - start)) (sym same)
      (at_least_fewer n cursor (Some word) (0 + (ended - began)) (ended - start - 16) (omega arith) (m cursor 0 p).count)

  -- the member that a walk finds is the least after the cursor
  pub next_member : (t : Tiling) (word found : Word) → found ≡ word → IsEntry n class (record { tiling = t; word = word })
      → Meets n class place word (ended - began) → IsNextMember n class cursor (record { tiling = t; word = found })
  next_member t word found same is m = subst (λ (w : Word). IsNextMember n class cursor (record { tiling = t; word = w })) (sym same)
      (record { is = is; after = (m cursor 0 p).after; least = (m cursor 0 p).passed })

-- a walk that comes to the end, where no move is played, keeps what it has to
pub kept_at_end : (w : MembersState) (played : Word) → 2 ≤ w.order → w.order ≤ 16 → order_of w.cursor ≤ 16 → played ≡ []
    → HasNoneAfter w.order w.class w.cursor → w.pushes < 2 ^ 64 → IsKeptWalk w played
kept_at_end w played least most few e none known = record {
  least = least;
  most = most;
  few = few;
  begun = subst (λ (v : Word). take (length v) w.cursor ≡ v) (sym e) refl;
  small = omega (arith, ap order_of e);
  none = λ _. none;
  known = known;
}

-- what a walk finds is found from a state of an equal order and class, and whether it is a member is known
pub finds_of : (s t u : TreeWalkState) (met : ℕ) (found known : Bool) → t.order ≡ s.order → t.class ≡ s.class → found ≡ known
    → Finds t u met found → Finds (record t { order = s.order; class = s.class }) u met known
finds_of s t u met found known e f is finds = subst (λ (p : ℕ × Class). Finds (record t { order = p.0; class = p.1 }) u met known)
    (λ i. (e i, f i)) (subst (Finds t u met) is finds)

-- a member's word is of its order
pub members_order : (n : ℕ) (class : Class) (t : Tiling) (word : Word) → IsEntry n class (record { tiling = t; word = word }) → order_of word ≡ n
members_order n class t word is = (entry_complete n class (record { tiling = t; word = word }) is).1

-- what a walk that has ended keeps, it keeps by an equal order and class
pub kept_ended : (w : MembersState) (played : Word) (m : ℕ) (other : Class) → m ≡ w.order → other ≡ w.class → IsKeptWalk w played
    → IsKeptWalk (record w { order = m; class = other }) played
kept_ended w played m other e f kept = subst (λ (p : ℕ × Class). IsKeptWalk (record w { order = p.0; class = p.1 }) played)
    (λ i. (sym e i, sym f i)) kept

-- a walk at the word of a member keeps what it has to
pub kept_at_word : (n : ℕ) (w : MembersState) (played : Word) → 2 ≤ n → n ≤ 16 → w.order ≡ n → w.cursor ≡ played → order_of played ≡ n
    → w.ended ≡ false → w.pushes < 2 ^ 64 → IsKeptWalk w played
kept_at_word n w played least most e same order going known = record {
  least = omega (arith, e, least);
  most = omega (arith, e, most);
  few = omega (arith, ap order_of same, order, most);
  begun = ap (take (length played)) same ∙ take_all (length played) played (omega arith);
  small = omega (arith, order, e);
  none = λ done. absurd (false≢true (sym going ∙ done));
  known = known;
}
