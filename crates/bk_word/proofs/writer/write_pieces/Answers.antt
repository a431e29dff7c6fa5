-- What is written of the bytes passed is behind what `out` held.
use Rattle.std.specs.Prelude.{List, [], decimal, flat_map, length, take, true, false, ◌++◌, ◌+◌, ◌<◌, ◌∷◌, ◌≡◌}
use Rattle.std.proofs.Common.{ap, append_assoc, arith, get_or, length-append, lit<, sym, ℕ, ◌∙◌}
use Rattle.std.proofs.lemmas.Bool.{cond-false, cond-true}
use Rattle.std.proofs.lemmas.List.{append-nil, take_all}
use Rattle.bk_word.specs.StoredWord.{is_count, piece, sign_of}
use Rattle.bk_word.specs.WordText.{letter}
use Rattle.bk_word.proofs.WordPieces.{further_piece, room_for_piece}
use Rattle.bk_word.proofs.writer.write_pieces.Goals as goal
use Rattle.bk_word.proofs.writer.write_pieces.Goals.{else-is_count, then-is_count}

pub push_bytes-requires : goal.push_bytes-requires
push_bytes-requires c =
    let room = room_for_piece c.loop-byte.out.items c.args.out.now.items c.args.bytes.now c.loop-byte.byte-index c.loop-byte-test.true c.requires
    c.loop-byte.invariant in
    (lit< tt, omega (arith, room))

pub push_number-requires : goal.push_number-requires
push_number-requires c =
    let room = room_for_piece c.loop-byte.out.items c.args.out.now.items c.args.bytes.now c.loop-byte.byte-index c.loop-byte-test.true c.requires
    c.loop-byte.invariant in
    (lit< tt, omega (arith, room, ap (λ (z : List ℕ). length z) c.push_bytes.ensures, length-append c.loop-byte.out.items (46 ∷ [])))

pub push-requires : goal.push-requires
push-requires c =
    let room = room_for_piece c.loop-byte.out.items c.args.out.now.items c.args.bytes.now c.loop-byte.byte-index c.loop-byte-test.true c.requires
    c.loop-byte.invariant in
    (lit< tt, omega (arith, room))

-- one piece more
piece_more : (start out new bytes : List ℕ) (i : ℕ) → i < length bytes → out ≡ start ++ flat_map piece (take i bytes)
    → new ≡ out ++ piece (get_or bytes i 0) → new ≡ start ++ flat_map piece (take (i + 1) bytes)
piece_more start out new bytes i within so_far is =
    is ∙ ap (λ (z : List ℕ). z ++ piece (get_or bytes i 0)) so_far
    ∙ append_assoc start (flat_map piece (take i bytes)) (piece (get_or bytes i 0))
    ∙ ap (λ (z : List ℕ). start ++ z) (sym (further_piece bytes i within))

-- the piece of a count, and that of a sign
count_piece : (out dotted new : List ℕ) (b n : ℕ) → is_count b ≡ true → dotted ≡ out ++ 46 ∷ [] → n ≡ b → new ≡ dotted ++ decimal n → new ≡ out ++ piece b
count_piece out dotted new b n h dot same is =
    is ∙ (λ i. dot i ++ decimal (same i)) ∙ append_assoc out (46 ∷ []) (decimal b)
    ∙ ap (λ (z : List ℕ). out ++ z) (sym (cond-true _ _ _ h))

sign_piece : (out new : List ℕ) (b l : ℕ) → is_count b ≡ false → l ≡ letter (sign_of b) → new ≡ out ++ l ∷ [] → new ≡ out ++ piece b
sign_piece out new b l h same is = is ∙ (λ i. out ++ same i ∷ []) ∙ ap (λ (z : List ℕ). out ++ z) (sym (cond-false _ _ _ h))

pub loop-byte-init : goal.loop-byte-init
loop-byte-init c = sym (append-nil c.args.out.now.items)

pub loop-byte-preserved : goal.loop-byte-preserved
loop-byte-preserved c =
    piece_more c.args.out.now.items c.loop-byte.out.items c.if-is_count.out.items c.args.bytes.now c.loop-byte.byte-index c.loop-byte-test.true
    c.loop-byte.invariant
    (elim c.if-is_count.branch [
      | then-is_count w ↦ (λ i. (w.out-is i).items)
          ∙ count_piece c.loop-byte.out.items w.push_bytes.new.line.items w.push_number.new.line.items (get_or c.args.bytes.now c.loop-byte.byte-index 0)
          w.from.result (sym c.is_count.ensures ∙ w.if-is_count.true) w.push_bytes.ensures w.from.ensures w.push_number.ensures.text
      | else-is_count w ↦ (λ i. (w.out-is i).items)
          ∙ sign_piece c.loop-byte.out.items w.push.new.self.items (get_or c.args.bytes.now c.loop-byte.byte-index 0) w.letter.result
          (sym c.is_count.ensures ∙ w.if-is_count.false) (w.letter.ensures ∙ ap letter w.sign_of.ensures) w.push.ensures.items
    ])

pub returns : goal.returns
returns c =
    c.loop-byte.invariant
    ∙ ap (λ (z : List ℕ). c.args.out.now.items ++ flat_map piece z) (take_all c.loop-byte.byte-index c.args.bytes.now c.loop-byte-test.false)
