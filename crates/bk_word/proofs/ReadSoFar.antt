-- What was read of a word leads to where the reader stands, and begins a text.
use Rattle.std.specs.List.{AllByRecursion}
use Rattle.std.specs.Prelude.{List, [], decimal, length, map, refl, replicate, ℕ, ◌++◌, ◌+◌, ◌-◌, ◌<◌, ◌∷◌, ◌≡◌}
use Rattle.std.proofs.Common.{ap, append_assoc, arith, length-append, subst, sym, ◌∙◌}
use Rattle.std.proofs.lemmas.List.{append-nil, length-replicate, map-append}
use Rattle.bk_grammar.specs.Longest.{Begins}
use Rattle.bk_word.specs.Taken.{Before, Count, Reading, Signs, bare}
use Rattle.bk_word.specs.Word.{Move, Word}
use Rattle.bk_word.specs.WordText.{IsTextOf, IsWordText, IsWrittenMove, letter, move_text}
use Rattle.bk_word.specs.declared.Sign.{Sign}
use Rattle.bk_word.specs.declared.Sign.TheVariants.{Even}
use Rattle.bk_word.proofs.WordsRead.{behind, count_read, dotted_read, move_read, word_read_from}
use Rattle.bk_word.proofs.WordsSpelled.{CanBeRead, dotted, is_text, spelled}

-- ---- what was read leads to where the reader stands

dotted_leads : (v w : Word) (x : List ℕ) → AllByRecursion IsWrittenMove w → word_read_from (dotted w ++ x) (Before v) ≡ word_read_from x (Before (v ++ w))
dotted_leads v [] x all = ap (λ (z : Word). word_read_from x (Before z)) (sym (append-nil v))
dotted_leads v (m ∷ w) x all =
    ap (λ (z : List ℕ). word_read_from z (Before v)) (append_assoc (move_text m ++ 46 ∷ []) (dotted w) x ∙ append_assoc (move_text m) (46 ∷ []) (dotted w ++ x))
    ∙ dotted_read v m (dotted w ++ x) all.0
    ∙ dotted_leads (v ++ m ∷ []) w x all.1
    ∙ ap (λ (z : Word). word_read_from x (Before z)) (append_assoc v (m ∷ []) w)

behind_signs : (w : Word) (m : Move) (ss : List Sign) → 0 < length ss → behind w m ss ≡ Signs w m
behind_signs w m [] some = absurd (omega arith)
behind_signs w m (s ∷ ss) some = refl

-- what was read leads to where the reader stands
pub spelled_leads_to_reading : (r : Reading) (x : List ℕ) → CanBeRead r → word_read_from (spelled r ++ x) (Before []) ≡ word_read_from x r
spelled_leads_to_reading (Before w) x can = dotted_leads [] w x can
spelled_leads_to_reading (Count w c) x can =
    ap (λ (z : List ℕ). word_read_from z (Before [])) (append_assoc (dotted w) (decimal c) x)
    ∙ dotted_leads [] w (decimal c ++ x) can.0
    ∙ count_read w c x can.1.0 can.1.1
spelled_leads_to_reading (Signs w m) x can =
    ap (λ (z : List ℕ). word_read_from z (Before [])) (append_assoc (dotted w) (move_text m) x)
    ∙ dotted_leads [] w (move_text m ++ x) can.0
    ∙ move_read w m x can.1.0 can.1.1 can.3
    ∙ ap (λ (r : Reading). word_read_from x r) (behind_signs w m m.signs can.2)

-- ---- what was read begins a text

more_signs : ℕ → List Sign
more_signs n = replicate n Even

many_signs : (n : ℕ) → length (more_signs n) ≡ n
unfolding more_signs
many_signs n = length-replicate n Even

-- what was read is the beginning of a text of a word
pub begins : (r : Reading) → CanBeRead r → Begins IsWordText (spelled r)
begins (Before w) can =
    let text : IsTextOf (dotted w ++ move_text (bare 1)) (w ++ bare 1 ∷ []) =
    is_text w (bare 1) can (record { stands = record { some = omega arith; least = omega arith; most = omega arith }; digits = omega arith }) in
    (move_text (bare 1), (w ++ bare 1 ∷ [], text))
begins (Count w c) can =
    let ss : List Sign = more_signs (c - 1) in
    let n : length (more_signs (c - 1)) ≡ c - 1 = many_signs (c - 1) in
    let m : Move = record { count = c; signs = more_signs (c - 1) } in
    let text : IsTextOf (dotted w ++ (decimal c ++ map letter (more_signs (c - 1)))) (w ++ record { count = c; signs = more_signs (c - 1) } ∷ []) =
    is_text w (record { count = c; signs = more_signs (c - 1) }) can.0
    (record { stands = record { some = can.1.0; least = omega (arith, n); most = omega (arith, n) }; digits = can.1.1 }) in (
      map letter (more_signs (c - 1)),
      (
        w ++ record { count = c; signs = more_signs (c - 1) } ∷ [],
        subst (λ (z : List ℕ). IsTextOf z (w ++ record { count = c; signs = more_signs (c - 1) } ∷ []))
            (sym (append_assoc (dotted w) (decimal c) (map letter (more_signs (c - 1))))) text,
      ),
    )
begins (Signs w m) can = filled w m (more_signs (m.count - 1 - length m.signs)) can (many_signs (m.count - 1 - length m.signs))
  where
    filled : (w : Word) (m : Move) (ss : List Sign) → CanBeRead (Signs w m) → length ss ≡ m.count - 1 - length m.signs → Begins IsWordText (spelled (Signs w m))
    filled w m ss can n =
        let all : length (m.signs ++ ss) ≡ length m.signs + length ss = length-append m.signs ss in
        let text : IsTextOf (dotted w ++ (decimal m.count ++ map letter (m.signs ++ ss))) (w ++ record { count = m.count; signs = m.signs ++ ss } ∷ []) =
        is_text w (record { count = m.count; signs = m.signs ++ ss }) can.0
        (record { stands = record { some = can.1.0; least = omega (arith, n, all); most = omega (arith, n, all, can.3) }; digits = can.1.1 }) in
        let same : dotted w ++ (decimal m.count ++ map letter (m.signs ++ ss)) ≡ (dotted w ++ move_text m) ++ map letter ss =
        ap (λ (z : List ℕ). dotted w ++ (decimal m.count ++ z)) (map-append letter m.signs ss)
        ∙ ap (λ (z : List ℕ). dotted w ++ z) (sym (append_assoc (decimal m.count) (map letter m.signs) (map letter ss)))
        ∙ sym (append_assoc (dotted w) (move_text m) (map letter ss)) in (
          map letter ss,
          (
            w ++ record { count = m.count; signs = m.signs ++ ss } ∷ [],
            subst (λ (z : List ℕ). IsTextOf z (w ++ record { count = m.count; signs = m.signs ++ ss } ∷ [])) same text,
          ),
        )
