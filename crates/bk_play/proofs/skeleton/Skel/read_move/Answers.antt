-- The move has the count and the signs that are read.
use Rattle.std.proofs.Common.{List, Some, [], ap, arith, get_or, length, lit<, slice_get, sym, ℕ, ◌++◌, ◌<◌, ◌∙◌, ◌≡◌}
use Rattle.std.proofs.lemmas.Option.{slice_get-get_or}
use Rattle.bk_word.specs.Word.{Move, Word}
use Rattle.bk_word.specs.declared.Sign.{Sign}
use Rattle.bk_play.proofs.RecordReads.{a_move_has_at_most_201_signs}
use Rattle.bk_play.proofs.skeleton.Skel.read_move.Goals as goal

-- the move that stands there
there : (w : Word) (i : ℕ) → i < length w → (m : Move) × (slice_get w i ≡ Some m)
there w i h = (get_or w i (record { count = 1; signs = [] }), slice_get-get_or w i (record { count = 1; signs = [] }) h)

pub append-requires : goal.append-requires
append-requires c = let m = there c.args.self.now c.args.i c.requires in (
  lit< tt,
  omega (
    arith,
    ap (length {A = Sign}) c.clear.ensures,
    ap (length {A = Sign}) (c.signs_at.ensures m.0 m.1),
    a_move_has_at_most_201_signs m.0 c.record_at.ensures m.1,
  ),
)

pub returns : goal.returns
returns c = let m = there c.args.self.now c.args.i c.requires in m.1 ∙ (λ j. Some (record {
  count = sym (c.record_at.ensures.count m.0 m.1) j;
  signs = sym (c.append.ensures ∙ ap (λ (l : List Sign). l ++ c.signs_at.result.now) c.clear.ensures ∙ c.signs_at.ensures m.0 m.1) j;
}))
