use Rattle.std.proofs.Common.{Bool, List, [], ap, false, length, refl, subst, sym, true, ℕ, ◌<◌, ◌∙◌, ◌∷◌, ◌≡◌}
use Rattle.std.specs.Prelude.{Some, cond, slice_get}
use Rattle.std.specs.Io.KnownBytes.{Appends}
use Rattle.std.specs.List.{concat}
use Rattle.bk_ports.specs.Causes.{AppendsPrefix}
use Rattle.bk_pair.specs.declared.Kind.{Kind}
use Rattle.bk_pair.specs.declared.Kind.TheVariants as kinds
use Rattle.bk_tiling.specs.Tiling.{Tiling}
use Rattle.bk_pair.specs.Pair.{CanBeLaid, joined_square}
use Rattle.bk_report.specs.ListLines.{pair_line}
use Rattle.bk_alike.specs.declared.item.KeptItem.{KeptItem}
use Rattle.bk_pair.proofs.PairTests.{laid_to, pair_to}
use Rattle.bk_alike.specs.LaterLines.{later_lines}
use Rattle.bk_alike.specs.Pairs.{is_pair}
use Rattle.bk_alike.proofs.LaterPairs.{line_behind, no_line_before}
use Rattle.bk_alike.proofs.ListLoops.{lines_broken_by_a_failed_call}
use Rattle.bk_alike.proofs.PairLines.{IsItemAt, number_of_an_item_is_its_line, tiling_at}
use Rattle.bk_alike.proofs.WrittenLines.{lines_written_where_none_is_left, no_line_written_yet}
use Rattle.bk_laws.proofs.Outcomes.{if_ok-of_error}
use Rattle.bk_answer.proofs.Failing.{cause-of_error, cause-of_same}
use Rattle.bk_alike.proofs.pairs.write_if_pair.Goals as goal

-- the lines of an item with one behind it, by whether their tilings are a pair
lines_by : (v : Bool) (kind : Kind) (items : List KeptItem) (i j n m : ℕ) (t u : Tiling) → i < j → IsItemAt items i n t → IsItemAt items j m u
    → v ≡ is_pair kind t u → (a : KeptItem) → slice_get items i ≡ Some a
    → later_lines kind items i a j ≡ cond v (pair_line n m (joined_square t u) ∷ []) []
lines_by v kind items i j n m t u behind first second is a e =
    let tiling = tiling_at items i n t a first e in
    let line = number_of_an_item_is_its_line items i n t a first e in
    line_behind kind items i j a second.0 behind second.1
    ∙ sym (λ k. cond (is_pair kind (tiling k) (second.3 k)) (pair_line (line k) (second.2 k) (joined_square (tiling k) (second.3 k)) ∷ []) [])
    ∙ ap (λ (b : Bool). cond {A = List (List ℕ)} b (pair_line n m (joined_square t u) ∷ []) []) (sym is)

pub returns-then-j-i-clause-lines : goal.returns-then-j-i-clause-lines
returns-then-j-i-clause-lines g c a e =
    lines_written_where_none_is_left _ _ _ _ (no_line_written_yet _ _)
    (no_line_before c.args.kind c.args.items.now c.args.places.0 c.args.places.1 a c.if-j-i.true)

pub returns-then-j-i-clause-count : goal.returns-then-j-i-clause-count
returns-then-j-i-clause-count g c a e =
    sym (ap (λ (l : List (List ℕ)). length l) (no_line_before c.args.kind c.args.items.now c.args.places.0 c.args.places.1 a c.if-j-i.true))

pub returns-then-j-i-clause-cause : goal.returns-then-j-i-clause-cause
returns-then-j-i-clause-cause g c = cause-of_same refl

pub item-first-requires : goal.item-first-requires
item-first-requires g c = c.requires.first

pub item-second-requires : goal.item-second-requires
item-second-requires g c = c.requires.second

pub returns-then-not-is_pair-clause-lines : goal.returns-then-not-is_pair-clause-lines
returns-then-not-is_pair-clause-lines g c a e =
    lines_written_where_none_is_left _ _ _ _ (no_line_written_yet _ _) (lines_by false c.args.kind c.args.items.now c.args.places.0 c.args.places.1
    c.item-first.result.0 c.item-second.result.0 c.item-first.result.1.now c.item-second.result.1.now c.if-j-i.false c.item-first.ensures c.item-second.ensures
    (sym c.if-not-is_pair.true ∙ c.is_pair.ensures) a e)

pub returns-then-not-is_pair-clause-count : goal.returns-then-not-is_pair-clause-count
returns-then-not-is_pair-clause-count g c a e =
    sym (ap (λ (l : List (List ℕ)). length l) (lines_by false c.args.kind c.args.items.now c.args.places.0 c.args.places.1 c.item-first.result.0
    c.item-second.result.0 c.item-first.result.1.now c.item-second.result.1.now c.if-j-i.false c.item-first.ensures c.item-second.ensures
    (sym c.if-not-is_pair.true ∙ c.is_pair.ensures) a e))

pub returns-then-not-is_pair-clause-cause : goal.returns-then-not-is_pair-clause-cause
returns-then-not-is_pair-clause-cause g c = cause-of_same refl

pub returns-in_err-write_square-clause-lines : goal.returns-in_err-write_square-clause-lines
returns-in_err-write_square-clause-lines g c a e =
    lines_broken_by_a_failed_call _ (later_lines c.args.kind c.args.items.now c.args.places.0 a c.args.places.1) (g.O.Sink.written c.args.out.now)
    (g.O.Sink.written c.write_square.new.out)
    c.from_residual.result c.from_residual.ensures.1
    (subst (λ (l : List (List ℕ)). AppendsPrefix (g.O.Sink.written c.args.out.now) (g.O.Sink.written c.write_square.new.out) (concat l))
    (sym (lines_by true c.args.kind c.args.items.now c.args.places.0 c.args.places.1 c.item-first.result.0 c.item-second.result.0
    c.item-first.result.1.now c.item-second.result.1.now c.if-j-i.false c.item-first.ensures c.item-second.ensures
    (sym c.if-not-is_pair.false ∙ c.is_pair.ensures) a e)) c.in_err-write_square.ensures.lines)

pub returns-in_err-write_square-clause-count : goal.returns-in_err-write_square-clause-count
returns-in_err-write_square-clause-count g c =
    if_ok-of_error _ c.from_residual.result _ c.from_residual.ensures.1

pub returns-in_err-write_square-clause-few : goal.returns-in_err-write_square-clause-few
returns-in_err-write_square-clause-few g c =
    if_ok-of_error _ c.from_residual.result _ c.from_residual.ensures.1

pub returns-in_err-write_square-clause-cause : goal.returns-in_err-write_square-clause-cause
returns-in_err-write_square-clause-cause g c =
    cause-of_error _ c.from_residual.result c.from_residual.ensures.1 c.in_err-write_square.ensures.cause

pub returns-clause-lines : goal.returns-clause-lines
returns-clause-lines g c a e =
    subst (λ (l : List (List ℕ)). Appends (g.O.Sink.written c.args.out.now) (g.O.Sink.written c.write_square.new.out) (concat l))
    (sym (lines_by true c.args.kind c.args.items.now c.args.places.0 c.args.places.1 c.item-first.result.0 c.item-second.result.0
    c.item-first.result.1.now c.item-second.result.1.now c.if-j-i.false c.item-first.ensures c.item-second.ensures
    (sym c.if-not-is_pair.false ∙ c.is_pair.ensures) a e)) c.in_ok-write_square.ensures.lines

pub returns-clause-count : goal.returns-clause-count
returns-clause-count g c a e =
    sym (ap (λ (l : List (List ℕ)). length l) (lines_by true c.args.kind c.args.items.now c.args.places.0 c.args.places.1 c.item-first.result.0
    c.item-second.result.0 c.item-first.result.1.now c.item-second.result.1.now c.if-j-i.false c.item-first.ensures c.item-second.ensures
    (sym c.if-not-is_pair.false ∙ c.is_pair.ensures) a e))

pub returns-clause-cause : goal.returns-clause-cause
returns-clause-cause g c =
    cause-of_same c.in_ok-write_square.ensures.cause.ok

-- a pair can be laid
laid_of : (kind : Kind) (a b : Tiling) → is_pair kind a b ≡ true → CanBeLaid a b
laid_of kinds.Perfect a b h = (pair_to a b h).laid
laid_of kinds.Any a b h = laid_to a b h

pub write_square-requires : goal.write_square-requires
write_square-requires g c = laid_of c.args.kind _ _ (sym c.is_pair.ensures ∙ c.if-not-is_pair.false)
