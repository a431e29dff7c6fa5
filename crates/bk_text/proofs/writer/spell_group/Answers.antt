use Rattle.std.specs.Fmt.{decimal}
use Rattle.std.specs.List.{AllByRecursion}
use Rattle.std.proofs.Common.{List, [], ap, append-nil, append_assoc, arith, drop, get_or, length, length-append, lit<, subst, suc, sym, take, take_all}
use Rattle.std.proofs.Common.{flat_map, le_refl, length-drop, zero, ℕ, ◌++◌, ◌+◌, ◌-◌, ◌<◌, ◌∙◌, ◌∷◌, ◌≡◌}
use Rattle.std.proofs.lemmas.Grind.{flat_map-append}
use Rattle.std.proofs.lemmas.List.{take_more}
use Rattle.bk_tiling.specs.KeptTiling.{IsSide}
use Rattle.bk_text.proofs.Spelling.{side_text, whole_group}
use Rattle.bk_text.proofs.writer.spell_group.Goals as goal

-- each side of a group is one
side_at : (ns : List ℕ) (i : ℕ) → AllByRecursion IsSide ns → i < length ns → IsSide (get_or ns i 0)
side_at [] i sides within = absurd (omega arith)
side_at (n ∷ ns) zero sides within = sides.0
side_at (n ∷ ns) (suc i) sides within = side_at ns i sides.1 (omega arith)

-- and so is each behind the first one
rest_at : (ns : List ℕ) (i : ℕ) → AllByRecursion IsSide ns → i < length ns - 1 → IsSide (get_or (take (length ns - 1) (drop 1 ns)) i 0)
rest_at [] i sides within = absurd (omega arith)
rest_at (n ∷ ns) i sides within =
    subst (λ (l : List ℕ). IsSide (get_or l i 0)) (sym (take_all (length (n ∷ ns) - 1) ns (omega arith))) (side_at ns i sides.1 (omega arith))

-- a comma and a side more
side_further : (start line comma new ns : List ℕ) (i : ℕ) → i < length ns → line ≡ start ++ flat_map side_text (take i ns)
    → comma ≡ line ++ 44 ∷ [] → new ≡ comma ++ decimal (get_or ns i 0) → new ≡ start ++ flat_map side_text (take (i + 1) ns)
side_further start line comma new ns i within text with_comma with_side =
    let side : List ℕ = decimal (get_or ns i 0) in
    let before : List ℕ = flat_map side_text (take i ns) in
    let more : flat_map side_text (take (i + 1) ns) ≡ before ++ 44 ∷ side = ap (λ l. flat_map side_text l) (take_more ns i 0 within)
    ∙ flat_map-append side_text (take i ns) (get_or ns i 0 ∷ []) ∙ ap (λ l. before ++ l) (append-nil (44 ∷ side)) in
    with_side ∙ ap (λ l. l ++ side) (with_comma ∙ ap (λ l. l ++ 44 ∷ []) text)
    ∙ append_assoc (start ++ before) (44 ∷ []) side ∙ append_assoc start before (44 ∷ side) ∙ ap (λ l. start ++ l) (sym more)

-- how many sides are behind the first one
rest_length : (ns : List ℕ) → length (take (length ns - 1) (drop 1 ns)) ≡ length ns - 1
rest_length ns = ap length (take_all (length ns - 1) (drop 1 ns) (omega (arith, length-drop 1 ns))) ∙ length-drop 1 ns

pub returns : goal.returns
returns c = whole_group c.args.sides.now c.args.line.now.items c.loop-side.line.items c.push_bytes-2.new.line.items c.loop-side.side-index
    c.requires.some (omega arith) c.loop-side.invariant.text c.push_bytes-2.ensures

pub push_bytes-requires : goal.push_bytes-requires
push_bytes-requires c = (lit< tt, omega (arith, c.requires.room, c.requires.some))

pub push_side-requires-clause-side : goal.push_side-requires-clause-side
push_side-requires-clause-side c = side_at c.args.sides.now 0 c.requires.sides c.requires.some

pub push_side-requires-clause-room : goal.push_side-requires-clause-room
push_side-requires-clause-room c = omega (
  arith,
  ap length c.push_bytes.ensures,
  length-append c.args.line.now.items (91 ∷ []),
  c.requires.room,
  c.requires.some,
)

pub slice_bounds-others-count : goal.slice_bounds-others-count
slice_bounds-others-count c = c.requires.some

pub loop-side-init : goal.loop-side-init
loop-side-init c = record {
  text = c.push_side.ensures.text ∙ ap (λ l. l ++ decimal (get_or c.args.sides.now 0 0)) c.push_bytes.ensures
      ∙ append_assoc c.args.line.now.items (91 ∷ []) (decimal (get_or c.args.sides.now 0 0))
      ∙ sym (append-nil (c.args.line.now.items ++ 91 ∷ decimal (get_or c.args.sides.now 0 0)));
  short = omega (
    arith,
    ap length c.push_side.ensures.text,
    length-append c.push_bytes.new.line.items (decimal (get_or c.args.sides.now 0 0)),
    ap length c.push_bytes.ensures,
    length-append c.args.line.now.items (91 ∷ []),
    c.push_side.ensures.short,
  );
}

pub push_bytes-requires-in-loop-side : goal.push_bytes-requires-in-loop-side
push_bytes-requires-in-loop-side c = (lit< tt, omega (arith, c.loop-side.invariant.short, c.loop-side-test.true, c.requires.room))

pub push_side-requires-in-loop-side-clause-side : goal.push_side-requires-in-loop-side-clause-side
push_side-requires-in-loop-side-clause-side c = rest_at c.args.sides.now c.loop-side.side-index c.requires.sides (omega (arith, c.loop-side-test.true))

pub push_side-requires-in-loop-side-clause-room : goal.push_side-requires-in-loop-side-clause-room
push_side-requires-in-loop-side-clause-room c = omega (
  arith,
  ap length c.push_bytes-in-loop-side.ensures,
  length-append c.loop-side.line.items (44 ∷ []),
  c.loop-side.invariant.short,
  c.loop-side-test.true,
  c.requires.room,
)

pub push_bytes-requires-2 : goal.push_bytes-requires-2
push_bytes-requires-2 c = (
  lit< tt,
  omega (arith, c.loop-side.invariant.short, c.loop-side.auto.side-index-end, c.requires.room, c.requires.some),
)

pub bounds-sides-0 : goal.bounds-sides-0
bounds-sides-0 c = c.requires.some

pub slice_bounds-others-start : goal.slice_bounds-others-start
slice_bounds-others-start c = c.requires.some

pub slice_bounds-others-end : goal.slice_bounds-others-end
slice_bounds-others-end c = le_refl (length c.args.sides.now)

pub offset_bounds-others-side-index : goal.offset_bounds-others-side-index
offset_bounds-others-side-index c = omega (arith, c.loop-side-test.true)

pub loop-side-preserved : goal.loop-side-preserved
loop-side-preserved c = record {
  text = side_further (c.args.line.now.items ++ 91 ∷ decimal (get_or c.args.sides.now 0 0)) c.loop-side.line.items c.push_bytes-in-loop-side.new.line.items
      c.push_side-in-loop-side.new.line.items (take (length c.args.sides.now - 1) (drop 1 c.args.sides.now)) c.loop-side.side-index
      (omega (arith, c.loop-side-test.true, rest_length c.args.sides.now)) c.loop-side.invariant.text c.push_bytes-in-loop-side.ensures
      c.push_side-in-loop-side.ensures.text;
  short = omega (
    arith,
    ap length c.push_side-in-loop-side.ensures.text,
    length-append c.push_bytes-in-loop-side.new.line.items (decimal (get_or (take (length c.args.sides.now - 1) (drop 1 c.args.sides.now))
        c.loop-side.side-index 0)),
    ap length c.push_bytes-in-loop-side.ensures,
    length-append c.loop-side.line.items (44 ∷ []),
    c.push_side-in-loop-side.ensures.short,
    c.loop-side.invariant.short,
  );
}
