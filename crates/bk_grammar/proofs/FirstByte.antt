-- The first byte of a text of a grammar, and parts of it in another grouping.
use Rattle.std.specs.Prelude.{List, [], refl, ℕ, ◌++◌, ◌∷◌, ◌≡◌}
use Rattle.std.proofs.Common.{ap, append_assoc, arith, inr, sym, ◌∙◌}
use Rattle.bk_grammar.specs.Grammar.{Blanks, Is, IsBlank, LineEnd, SomeBlanks, ◌then◌}

-- parts in another grouping, and a later part by another
pub regroup : (A B C : List ℕ → Type 0) (bs : List ℕ) → (A then B then C) bs → ((A then B) then C) bs
regroup A B C bs (a, x, e, ha, (b, c, f, hb, hc)) = (a ++ b, c, e ∙ ap (λ z. a ++ z) f ∙ sym (append_assoc a b c), (a, b, refl, ha, hb), hc)

-- a part of a text seen as one of a wider grammar
pub then_weaken_second : (A B C : List ℕ → Type 0) (bs : List ℕ) → ((x : List ℕ) → B x → C x) → (A then B) bs → (A then C) bs
then_weaken_second A B C bs f (a, x, e, ha, hb) = (a, x, e, ha, f x hb)

-- a byte before what completes a line
pub blank_first : (R : List ℕ → Type 0) (b : ℕ) (bs : List ℕ) → IsBlank b → (Blanks then R) bs → (Blanks then R) (b ∷ bs)
blank_first R b bs blank (a, x, e, ha, hx) = (b ∷ a, x, ap (λ z. b ∷ z) e, (blank, ha), hx)

-- a blank before blanks is a gap
pub gap_first : (R : List ℕ → Type 0) (b : ℕ) (bs : List ℕ) → IsBlank b → (Blanks then R) bs → (SomeBlanks then R) (b ∷ bs)
gap_first R b bs blank (a, x, e, ha, hx) = (b ∷ a, x, ap (λ z. b ∷ z) e, (omega arith, (blank, ha)), hx)

-- there may be no blank
pub no_blank : (R : List ℕ → Type 0) (bs : List ℕ) → R bs → (Blanks then R) bs
no_blank R bs h = ([], bs, refl, tt, h)

-- a byte and what follows it
pub byte_first : (R : List ℕ → Type 0) (c b : ℕ) (bs : List ℕ) → b ≡ c → R bs → (Is (c ∷ []) then R) (b ∷ bs)
byte_first R c b bs e h = (c ∷ [], bs, ap (λ z. z ∷ bs) e, refl, h)

-- a semicolon begins a comment, to the end of the line
pub comment_first : (b : ℕ) (bs : List ℕ) → b ≡ 59 → LineEnd (b ∷ bs)
comment_first b bs e = ([], b ∷ bs, refl, tt, inr (bs, ap (λ z. z ∷ bs) e))
