-- A further sign changes no order, and its byte follows those of its move.
use Rattle.std.specs.Prelude.{List, [], min, ℕ, ◌++◌, ◌<◌, ◌∷◌, ◌≡◌}
use Rattle.std.proofs.Common.{ap, append_assoc, arith, lit<, refl, sym, ◌∙◌}
use Rattle.std.proofs.lemmas.List.{map_push}
use Rattle.bk_word.specs.StoredWord.{sign_byte, stored, stored_move}
use Rattle.bk_word.specs.Taken.{KeepsWord, with_sign}
use Rattle.bk_word.specs.Word.{Move, Word, order_of}
use Rattle.bk_word.specs.declared.Sign.{Sign}
use Rattle.bk_word.specs.declared.reading.Taken.{Taken}
use Rattle.bk_word.proofs.StoredBytes.{order_one, stored_one}
use Rattle.bk_word.proofs.reading.Taken.add_sign.Goals as goal

-- the order is as it was
same_order : (w : Word) (m : Move) (s : Sign) → order_of (w ++ m ∷ []) ≡ order_of (w ++ with_sign m s ∷ [])
same_order w m s = order_one w m ∙ sym (order_one w (with_sign m s))

-- the bytes of the word with a further sign
stored_sign : (w : Word) (m : Move) (s : Sign) → stored (w ++ m ∷ []) ++ sign_byte s ∷ [] ≡ stored (w ++ with_sign m s ∷ [])
stored_sign w m s =
    ap (λ (z : List ℕ). z ++ sign_byte s ∷ []) (stored_one w m)
    ∙ append_assoc (stored w) (stored_move m) (sign_byte s ∷ [])
    ∙ ap (λ (z : List ℕ). stored w ++ m.count ∷ z) (sym (map_push sign_byte m.signs s))
    ∙ sym (stored_one w (with_sign m s))

-- what is kept once the byte of a sign is pushed
sign_kept : (w : Word) (m : Move) (s : Sign) (old new : Taken) (b : ℕ) → new.order ≡ old.order → b ≡ sign_byte s
    → new.bytes.items ≡ old.bytes.items ++ b ∷ [] → KeepsWord (w ++ m ∷ []) old → KeepsWord (w ++ with_sign m s ∷ []) new
sign_kept w m s old new b same byte is keeps = record {
  order = same ∙ keeps.order ∙ ap (λ (n : ℕ). min n 201) (same_order w m s);
  bytes = λ few. is ∙ (λ i. keeps.bytes (omega (arith, few, same_order w m s)) i ++ byte i ∷ []) ∙ stored_sign w m s;
}

-- nothing is pushed where the order is too large
sign_passed : (w : Word) (m : Move) (s : Sign) (old : Taken) → 200 < old.order → KeepsWord (w ++ m ∷ []) old → KeepsWord (w ++ with_sign m s ∷ []) old
sign_passed w m s old many keeps = record {
  order = keeps.order ∙ ap (λ (n : ℕ). min n 201) (same_order w m s);
  bytes = λ few. absurd (omega (arith, few, many, keeps.order, same_order w m s));
}

pub push-requires : goal.push-requires
push-requires c = (lit< tt, omega (arith, c.requires.room (omega (arith, c.if-from-le-LARGEST_ORDER.true, c.from.ensures))))

pub returns-then-from-le-LARGEST_ORDER : goal.returns-then-from-le-LARGEST_ORDER
returns-then-from-le-LARGEST_ORDER c = λ w m keeps.
    sign_kept w m c.args.sign c.args.self.now _ c.byte_of.result refl c.byte_of.ensures c.push.ensures.items keeps

pub returns-else-from-le-LARGEST_ORDER : goal.returns-else-from-le-LARGEST_ORDER
returns-else-from-le-LARGEST_ORDER c = λ w m keeps.
    sign_passed w m c.args.sign c.args.self.now (omega (arith, c.if-from-le-LARGEST_ORDER.false, c.from.ensures)) keeps
