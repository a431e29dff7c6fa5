-- The signs read and those from the place on are those at the front.
use Rattle.std.proofs.Common.{Bool, List, [], ap, append_assoc, arith, cond, drop, false, get_or, length, length-append, lit<, sym, true, ℕ}
use Rattle.std.proofs.Common.{◌++◌, ◌+◌, ◌<◌, ◌∙◌, ◌∷◌, ◌≡◌}
use Rattle.std.proofs.lemmas.List.{append-nil, at_drop_all, at_drop_more}
use Rattle.bk_word.specs.StoredWord.{is_count, leading_signs, sign_of}
use Rattle.bk_word.specs.declared.Sign.{Sign}
use Rattle.bk_word.proofs.storage.signs_at.Goals as goal

-- the signs from a place on, by what stands there
module _ (bytes : List ℕ) (k : ℕ) (below : k < length bytes) where
  front_at : (v : Bool) → v ≡ is_count (get_or bytes k 0)
      → leading_signs (drop k bytes) ≡ cond v [] (sign_of (get_or bytes k 0) ∷ leading_signs (drop (k + 1) bytes))
  front_at v is =
      at_drop_more leading_signs bytes k 0 below
      ∙ ap (λ (b : Bool). cond b [] (sign_of (get_or bytes k 0) ∷ leading_signs (drop (k + 1) bytes))) (sym is)

  front_more : (s : Sign) (old new : List Sign) → false ≡ is_count (get_or bytes k 0) → s ≡ sign_of (get_or bytes k 0) → new ≡ old ++ s ∷ []
      → old ++ leading_signs (drop k bytes) ≡ leading_signs bytes → new ++ leading_signs (drop (k + 1) bytes) ≡ leading_signs bytes
  front_more s old new sign same is so_far =
      let rest = leading_signs (drop (k + 1) bytes) in
      ap (λ (l : List Sign). l ++ rest) is ∙ append_assoc old (s ∷ []) rest
      ∙ ap (λ (l : List Sign). old ++ l) (ap (λ (x : Sign). x ∷ rest) same ∙ sym (front_at false sign)) ∙ so_far

-- the signs that were read are all, where none is left
front_all : (bytes : List ℕ) (signs left : List Sign) → left ≡ [] → signs ++ left ≡ leading_signs bytes → signs ≡ leading_signs bytes
front_all bytes signs left none so_far = sym (append-nil signs) ∙ ap (λ (l : List Sign). signs ++ l) (sym none) ∙ so_far

pub loop-byte-preserved : goal.loop-byte-preserved
loop-byte-preserved c =
    front_more c.args.bytes.now c.loop-byte.byte-index c.loop-byte-test.true c.sign_of.result c.loop-byte.signs.items c.push.new.self.items
    c.if-is_count.ensures c.sign_of.ensures c.push.ensures.items c.loop-byte.invariant

pub returns-then-is_count : goal.returns-then-is_count
returns-then-is_count c =
    front_all c.args.bytes.now c.loop-byte.signs.items (leading_signs (drop c.loop-byte.byte-index c.args.bytes.now))
    (front_at c.args.bytes.now c.loop-byte.byte-index c.loop-byte-test.true true c.if-is_count.ensures) c.loop-byte.invariant

pub returns : goal.returns
returns c =
    front_all c.args.bytes.now c.loop-byte.signs.items (leading_signs (drop c.loop-byte.byte-index c.args.bytes.now))
    (at_drop_all leading_signs c.args.bytes.now c.loop-byte.byte-index c.loop-byte-test.false) c.loop-byte.invariant

pub new-signs-requires : goal.new-signs-requires
new-signs-requires c = lit< tt

pub loop-byte-init : goal.loop-byte-init
loop-byte-init c = ap (λ (l : List Sign). l ++ leading_signs c.args.bytes.now) c.new-signs.ensures

pub push-requires : goal.push-requires
push-requires c = (
  lit< tt,
  omega (
    arith,
    c.requires,
    ap length c.loop-byte.invariant,
    length-append c.loop-byte.signs.items (leading_signs (drop c.loop-byte.byte-index c.args.bytes.now)),
    ap length (front_at c.args.bytes.now c.loop-byte.byte-index c.loop-byte-test.true false c.if-is_count.ensures),
  ),
)
