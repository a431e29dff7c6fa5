use Rattle.std.proofs.Common.{List, [], ap, arith, length, map, rules, suc, sym, ℕ, ◌++◌, ◌+◌, ◌-◌, ◌<◌, ◌∙◌, ◌∷◌, ◌≡◌, ◌≤◌}
use Rattle.std.proofs.lemmas.List.{append-nil, append_assoc, length-append, length-map, map-append}
use Rattle.bk_word.specs.Play.{numbers_from}
use Rattle.bk_word.proofs.PlayLists.{numbers-length}
use Rattle.bk_play.proofs.Rooms.{numbers-snoc}
use Rattle.bk_forms.specs.Form.{Form as SeenForm, with_column}
use Rattle.bk_walk_cuts.proofs.SmallForms.{small_at}
use Rattle.bk_walk_cuts.proofs.levels.push_bottoms.Goals as goal

-- the level of one square more
one_more : (before now then : List SeenForm) (valley level : SeenForm) (hung i : ℕ)
    → now ≡ before ++ map (λ n. with_column valley (n - 1)) (numbers_from (hung + 1) i) → level ≡ with_column valley (hung + i) → then ≡ now ++ level ∷ []
    → then ≡ before ++ map (λ n. with_column valley (n - 1)) (numbers_from (hung + 1) (i + 1))
one_more before now then valley level hung i is e f = f ∙ (λ j. is j ++ e j ∷ [])
    ∙ append_assoc before (map (λ n. with_column valley (n - 1)) (numbers_from (hung + 1) i)) (with_column valley (hung + i) ∷ [])
    ∙ ap (λ (l : List SeenForm). before ++ l)
    (ap (λ (k : ℕ). map (λ n. with_column valley (n - 1)) (numbers_from (hung + 1) i) ++ with_column valley k ∷ []) less
    ∙ sym (map-append (λ n. with_column valley (n - 1)) (numbers_from (hung + 1) i) ((hung + 1 + i) ∷ []))
    ∙ ap (map (λ n. with_column valley (n - 1))) (sym (numbers-snoc (hung + 1) i) ∙ ap (numbers_from (hung + 1)) one))
  where
    less : hung + i ≡ hung + 1 + i - 1
    less = omega arith

    one : suc i ≡ i + 1
    one = omega arith

-- there is room for it
still_room : (before now : List SeenForm) (f : ℕ → SeenForm) (numbers : List ℕ) (i count most : ℕ) → now ≡ before ++ map f numbers → length numbers ≡ i
    → i < count → length before + count ≤ most → length now < most
still_room before now f numbers i count most e long more room = omega (
  arith,
  more,
  room,
  long,
  ap length e,
  length-append before (map f numbers),
  length-map numbers f,
)

pub plus_side-requires : goal.plus_side-requires
plus_side-requires g c = omega (arith, small_at 5 c.args.valley.now (c.args.hung + c.loop-i.i) c.requires.small)

pub loop-i-preserved : goal.loop-i-preserved
loop-i-preserved g c = one_more c.args.levels.now.items c.loop-i.levels.items c.push.new.self.items c.args.valley.now c.plus_side.result c.args.hung
    c.loop-i.i c.loop-i.invariant c.plus_side.ensures c.push.ensures.items

pub loop-i-init : goal.loop-i-init
loop-i-init g c = sym (append-nil c.args.levels.now.items)

pub push-requires : goal.push-requires
push-requires g c = (
  search rules,
  still_room c.args.levels.now.items c.loop-i.levels.items (λ n. with_column c.args.valley.now (n - 1)) (numbers_from (c.args.hung + 1) c.loop-i.i)
      c.loop-i.i c.args.count g.row.N c.loop-i.invariant (numbers-length (c.args.hung + 1) c.loop-i.i)
      (omega (arith, c.loop-i-test.true, c.from-i-end.ensures)) c.requires.room,
)

pub returns : goal.returns
returns g c = c.loop-i.invariant
    ∙ ap (λ (k : ℕ). c.args.levels.now.items ++ map (λ n. with_column c.args.valley.now (n - 1)) (numbers_from (c.args.hung + 1) k))
    (omega (arith, c.loop-i-test.false, c.from-i-end.ensures))
