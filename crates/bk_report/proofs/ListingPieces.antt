-- The pieces of an entry and of the last line of a listing, one after another.
use Rattle.std.proofs.Common.{List, [], ap, append_assoc, sym, ℕ, ◌++◌, ◌∙◌, ◌∷◌, ◌≡◌}
use Rattle.std.specs.Prelude.{codes, flat_map}
use Rattle.std.proofs.lemmas.Grind.{flat_map-append}
use Rattle.bk_report.proofs.Spaces.{blanks_before}
use Rattle.bk_report.specs.Answers.{line, spaced}

-- the pieces of an entry are its front, number, size and code, then its word behind a semicolon
pub entry_pieces : (front number size code word : List ℕ)
    → (((front ++ (number ++ codes " ")) ++ spaced (size ∷ code ∷ [])) ++ codes " ; ") ++ word
    ≡ front ++ spaced (number ∷ size ∷ code ∷ codes ";" ∷ word ∷ [])
entry_pieces front number size code word = simp append_assoc

-- the pieces of a listing's last line are its name, order, class, number of entries and wide words
pub last_pieces : (name order listed : List ℕ) (class wide : List (List ℕ))
    → (((((codes "; " ++ name) ++ (codes " order " ++ order)) ++ flat_map (λ l. 32 ∷ l) class) ++ (codes " listed " ++ listed))
    ++ flat_map (λ l. 32 ∷ l) wide) ++ 10 ∷ []
    ≡ line ((codes ";" ∷ name ∷ codes "order" ∷ order ∷ []) ++ (class ++ (codes "listed" ∷ listed ∷ wide)))
last_pieces name order listed class wide =
    ap (λ (l : List ℕ). l ++ 10 ∷ [])
    (regrouped (codes "; " ++ name) (codes " order " ++ order) (flat_map (λ l. 32 ∷ l) class) (codes " listed " ++ listed) (flat_map (λ l. 32 ∷ l) wide)
    ∙ ap (λ (l : List ℕ). codes ";" ++ ((32 ∷ name) ++ ((32 ∷ codes "order") ++ ((32 ∷ order) ++ l))))
    (sym (flat_map-append (λ (l : List ℕ). 32 ∷ l) class (codes "listed" ∷ listed ∷ wide)))
    ∙ blanks_before (codes ";") (name ∷ codes "order" ∷ order ∷ class ++ (codes "listed" ∷ listed ∷ wide)))
  where
    regrouped : (a b c d e : List ℕ) → (((a ++ b) ++ c) ++ d) ++ e ≡ a ++ (b ++ (c ++ (d ++ e)))
    regrouped a b c d e = simp append_assoc
