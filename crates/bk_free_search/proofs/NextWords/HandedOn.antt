-- What a search hands on from call to call: a move that is begun, on a board and with signs that are as before, and the number that falls.
use Rattle.std.proofs.Common.{List, [], ap, arith, false, length, refl, subst, sym, take, ◌*◌, ◌++◌, ◌+◌, ◌-◌, ◌<◌, ◌∙◌, ◌∷◌, ◌≡◌, ◌≤◌}
use Rattle.std.proofs.Math.Seq.{take-append_seam}
use Rattle.std.proofs.lemmas.List.{length-append}
use Rattle.bk_word.proofs.PlayLaws.{side_has_one_sign_at_most}
use Rattle.bk_word.specs.Outline.{has_left_wall, has_right_wall, open_side}
use Rattle.bk_word.specs.Play.{outline_of}
use Rattle.bk_word.specs.Word.{Move, Word}
use Rattle.bk_word.specs.declared.Sign.{Sign}
use Rattle.bk_word.specs.declared.TheConstants.{INLINE_ORDER}
use Rattle.bk_free_search.specs.AskedSigns.{IsMoveBegun}
use Rattle.bk_free_search.specs.declared.asking.Beside.{Beside}
use Rattle.bk_free_search.specs.declared.asking.Next.{Next}
use Rattle.bk_free_search.specs.declared.state.Begun.{Begun}
use Rattle.bk_free_search.specs.declared.state.Search.{Search}
use Rattle.bk_free_search.specs.Unchanged.{IsUnchanged, KeepsMet}

-- what holds of a search and a move begun holds of those that are as they were
as_before : (P : Search → Begun → Type 0) {s t : Search} {a b : Begun} → IsUnchanged s a t b → P s a → P t b
as_before P {s = s} {t = t} {a = a} {b = b} same p =
    subst (λ (x : Search). P x b) (sym same.search) (subst (λ (x : Begun). P s x) (sym same.begun) p)

-- if a number falls and a claim holds, they do for a search and a move begun that are as they were, with what follows from the claim
pub handed_on : {W Q : Type 0} (F P : Search → Begun → Type 0) {s t : Search} {a b : Begun} → IsUnchanged s a t b → F s a → W → P s a → (P t b → Q)
    → F t b × (W × Q)
handed_on F P same falls within p follows = (as_before F same falls, (within, follows (as_before P same p)))

-- a search and a move begun that nothing touches are as they were
pub untouched : (s : Search) (b : Begun) → IsUnchanged s b s b
untouched s b = record { search = refl; begun = refl }

-- what two calls one after the other leave as it was
pub unchanged_twice : {s t u : Search} {a b c : Begun} → IsUnchanged s a t b → IsUnchanged t b u c → IsUnchanged s a u c
unchanged_twice first second = record { search = second.search ∙ first.search; begun = second.begun ∙ first.begun }

-- leaves that meet nothing keep what they met
pub none_met : {L F : Type 0} {has_met : L → Word → Type 0} {fixed : L → F} (l : L) → KeepsMet has_met fixed l l
none_met l = record { kept = λ w met. met; fixed_is = refl }

-- leaves keep what they met over two calls
pub met_twice : {L F : Type 0} {has_met : L → Word → Type 0} {fixed : L → F} {k l m : L} → KeepsMet has_met fixed k l → KeepsMet has_met fixed l m
    → KeepsMet has_met fixed k m
met_twice first second = record { kept = λ w met. second.kept w (first.kept w met); fixed_is = second.fixed_is ∙ first.fixed_is }

-- how often signs can be pushed, in steps of four: less than the steps of a word
pub few_steps : {s : Search} {b : Begun} {around : Beside} → IsMoveBegun s b around → 4 * (b.m.count + 2 - length b.m.signs) < 800
few_steps begun = omega (arith, begun.fits, begun.most)

-- a move begun goes on with one sign more
pub begun_with : {s : Search} {b : Begun} {around : Beside} (c : Begun) (sign : Sign) → IsMoveBegun s b around → c.m.count ≡ b.m.count
    → c.m.signs ≡ b.m.signs ++ sign ∷ [] → c.next ≡ b.next → length b.m.signs < b.next.wanted → IsMoveBegun s c around
begun_with {s = s} {b = b} c sign begun count signs next low = record {
  least = begun.least;
  most = begun.most;
  some = omega (arith, begun.some, count);
  fits = omega (arith, begun.fits, count);
  signs = omega (arith, low, longer, ap (λ (x : Next). x.wanted) next);
  next_is = record {
    own_is = omega (arith, begun.next_is.own_is, count, ap (λ (x : Next). x.own) next);
    wanted_is = omega (arith, begun.next_is.wanted_is, count, ap (λ (x : Next). x.wanted) next);
    left_is = omega (arith, begun.next_is.left_is, count, ap (λ (x : Next). x.left) next);
  };
  around_is = begun.around_is;
}
  where
    longer : length c.m.signs ≡ length b.m.signs + 1
    longer = ap (λ (l : List Sign). length l) signs ∙ length-append b.m.signs (sign ∷ [])

-- a move has no more own signs than squares
pub own_few : {s : Search} {b : Begun} {around : Beside} → IsMoveBegun s b around → b.next.own ≤ b.m.count
own_few {s = s} begun = omega (arith, begun.next_is.own_is, side_has_one_sign_at_most (has_left_wall (outline_of s.board)))

-- a move that is begun wants few signs
pub wanted_few : {s : Search} {b : Begun} {around : Beside} → IsMoveBegun s b around → b.next.wanted ≤ 16
wanted_few {s = s} begun = omega (
  arith,
  begun.fits,
  begun.most,
  begun.next_is.wanted_is,
  side_has_one_sign_at_most (has_left_wall (outline_of s.board)),
  side_has_one_sign_at_most (has_right_wall (outline_of s.board)),
)

-- no sign is too many for a small move
pub room_for_sign : {s : Search} {b : Begun} {around : Beside} → IsMoveBegun s b around → length b.m.signs < b.next.wanted
    → length b.m.signs ≤ INLINE_ORDER
room_for_sign begun low = omega (arith, low, wanted_few begun)

-- the sign at a left neighbour is one of the move's own
pub first_fits : {s : Search} {b : Begun} {around : Beside} → IsMoveBegun s b around → b.m.signs ≡ [] → has_left_wall (outline_of s.board) ≡ false
    → length b.m.signs + 1 ≤ b.next.own
first_fits begun none apart =
    omega (arith, ap (λ (l : List Sign). length l) none, begun.next_is.own_is, begun.some, ap open_side apart)

-- an own sign of a move is one that it wants
pub own_wanted : {s : Search} {b : Begun} {around : Beside} → IsMoveBegun s b around → length b.m.signs + 1 ≤ b.next.own
    → length b.m.signs < b.next.wanted
own_wanted begun own = omega (arith, own, begun.next_is.own_is, begun.next_is.wanted_is)

-- the word before a move that is taken back
pub without_last : (w v : Word) (m : Move) → v ≡ w ++ m ∷ [] → take (length v - 1) v ≡ w
without_last w v m is = ap (λ k. take k v) (omega (arith, ap (λ (l : Word). length l) is, length-append w (m ∷ [])))
    ∙ ap (λ l. take (length w) l) is ∙ take-append_seam w (m ∷ [])
