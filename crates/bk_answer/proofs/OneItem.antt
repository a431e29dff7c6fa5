-- A line has one item.
use Rattle.std.specs.List.{AllByRecursion}
use Rattle.std.specs.Prelude.{List, [], length, refl, slice_range, take, ℕ, ◌++◌, ◌∷◌, ◌≡◌, ◌≢◌, ◌<◌}
use Rattle.std.proofs.Common.{ap, append_assoc, arith, get_or, inl, inr, subst, sym, ◌∙◌}
use Rattle.bk_laws.proofs.ListParts.{length-take_before_end}
use Rattle.bk_grammar.specs.Grammar.{Blanks, Comment, IsBlank, LineEnd, Nothing, ◌or◌}
use Rattle.bk_word.specs.WordItem.{IsItemAt, IsItemOf}

-- the first byte is no blank
abbrev BeginsBare : List ℕ → Type 0
BeginsBare bytes = (b : ℕ) (back : List ℕ) → bytes ≡ b ∷ back → IsBlank b → ⊥

-- nor is the last one
abbrev EndsBare : List ℕ → Type 0
EndsBare bytes = (front : List ℕ) (b : ℕ) → bytes ≡ front ++ b ∷ [] → IsBlank b → ⊥

abbrev Bare : List ℕ → Type 0
Bare bytes = AllByRecursion (λ b. b ≢ 59) bytes

-- the blanks before two texts that begin with none are as many
same_front : (a b r s : List ℕ) → Blanks a → Blanks b → a ++ r ≡ b ++ s → BeginsBare r → BeginsBare s → (length a ≡ length b) × (r ≡ s)
same_front [] [] r s p q e u v = (refl, e)
same_front [] (y ∷ b) r s p q e u v = absurd (u y (b ++ s) e q.0)
same_front (x ∷ a) [] r s p q e u v = absurd (v x (a ++ r) (sym e) p.0)
same_front (x ∷ a) (y ∷ b) r s p q e u v =
    let tails : a ++ r ≡ b ++ s = cc in let same = same_front a b r s p.1 q.1 tails u v in (omega (arith, same.0), same.1)

-- bytes without a semicolon at the front of blanks and a comment are blanks
blank_front : (j r after comment : List ℕ) → Bare j → j ++ r ≡ after ++ comment → Blanks after → (Nothing or Comment) comment → Blanks j
blank_front [] r after comment bare e blanks rest = tt
blank_front (y ∷ j) r [] comment bare e blanks (inl none) = let no : y ∷ (j ++ r) ≡ [] = e ∙ none in absurd (cc)
blank_front (y ∷ j) r [] comment bare e blanks (inr (text, is)) = let first : y ≡ 59 = ap (λ (l : List ℕ). get_or l 0 0) (e ∙ is) in absurd (bare.0 first)
blank_front (y ∷ j) r (x ∷ after) comment bare e blanks rest =
    let head : x ≡ y = cc in let tails : j ++ r ≡ after ++ comment =
    cc in (subst IsBlank head blanks.0, blank_front j r after comment bare.1 tails blanks.1 rest)

-- no blanks end bare
not_blank : (y : ℕ) (j : List ℕ) → Blanks (y ∷ j) → EndsBare (y ∷ j) → ⊥
not_blank y [] blanks ends = ends [] y refl blanks.0
not_blank y (z ∷ j) blanks ends = not_blank z j blanks.1 (λ front b e. ends (y ∷ front) b (ap (λ (l : List ℕ). y ∷ l) e))

ends_on : (x : ℕ) (i : List ℕ) → EndsBare (x ∷ i) → EndsBare i
ends_on x i ends front b e = ends (x ∷ front) b (ap (λ (l : List ℕ). x ∷ l) e)

-- the items before blanks and comments are the same
same_item : (i j after after' comment comment' : List ℕ) → Bare i → Bare j → EndsBare i → EndsBare j → Blanks after → Blanks after'
    → (Nothing or Comment) comment → (Nothing or Comment) comment'
    → i ++ (after ++ comment) ≡ j ++ (after' ++ comment') → i ≡ j
same_item [] [] after after' comment comment' p q u v m n k l e = refl
same_item [] (y ∷ j) after after' comment comment' p q u v m n k l e =
    absurd (not_blank y j (blank_front (y ∷ j) (after' ++ comment') after comment q (sym e) m k) v)
same_item (x ∷ i) [] after after' comment comment' p q u v m n k l e = absurd (not_blank x i (blank_front (x ∷ i) (after ++ comment) after' comment' p e n l) u)
same_item (x ∷ i) (y ∷ j) after after' comment comment' p q u v m n k l e =
    let head : x ≡ y = cc in let tails : i ++ (after ++ comment) ≡ j ++ (after' ++ comment') = cc in
    let same : i ≡ j = same_item i j after after' comment comment' p.1 q.1 (ends_on x i u) (ends_on y j v) m n k l tails in (λ c. head c ∷ same c)

begins_on : (item rest : List ℕ) → 0 < length item → BeginsBare item → BeginsBare (item ++ rest)
begins_on [] rest some bare b back e blank = absurd (omega arith)
begins_on (x ∷ item) rest some bare b back e blank = let head : b ≡ x = cc in bare x item refl (subst IsBlank head blank)

-- the parts of a line, from the right
parts_of : (bytes before item after comment : List ℕ) → IsItemOf bytes before item after comment → bytes ≡ before ++ (item ++ (after ++ comment))
parts_of bytes before item after comment h = h.whole ∙ regroup
  where
    regroup : ((before ++ item) ++ after) ++ comment ≡ before ++ (item ++ (after ++ comment))
    regroup = simp append_assoc

-- the bytes of a line have one item at most
pub one_item : (bytes : List ℕ) (start stop start' stop' : ℕ) → IsItemAt bytes start stop → IsItemAt bytes start' stop'
    → (start ≡ start') × (slice_range bytes start stop ≡ slice_range bytes start' stop')
one_item bytes start stop start' stop' p q =
    let fronts = same_front (take start bytes) (take start' bytes) (slice_range bytes start stop ++ (p.after ++ p.comment))
    (slice_range bytes start' stop' ++ (q.after ++ q.comment))
    p.item.blanks_before q.item.blanks_before (sym (parts_of bytes (take start bytes) (slice_range bytes start stop) p.after p.comment p.item)
    ∙ parts_of bytes (take start' bytes) (slice_range bytes start' stop') q.after q.comment q.item)
    (begins_on (slice_range bytes start stop) (p.after ++ p.comment) p.item.some p.item.begins_bare)
    (begins_on (slice_range bytes start' stop') (q.after ++ q.comment) q.item.some q.item.begins_bare) in (
      sym (length-take_before_end bytes start stop p.order p.within) ∙ fronts.0 ∙ length-take_before_end bytes start' stop' q.order q.within,
      same_item (slice_range bytes start stop) (slice_range bytes start' stop') p.after q.after p.comment q.comment p.item.no_comment q.item.no_comment
          p.item.ends_bare q.item.ends_bare p.item.blanks_after q.item.blanks_after p.item.rest q.item.rest fronts.1,
    )

-- a line that has an item doesn't end before it
no_end : (before front item r rest : List ℕ) → Blanks before → Blanks front → 0 < length item → BeginsBare item → Bare item
    → (Nothing or Comment) rest → before ++ (item ++ r) ≡ front ++ rest → ⊥
no_end [] front [] r rest p q some u bare k e = omega arith
no_end [] [] (x ∷ item) r rest p q some u bare (inl none) e = let no : x ∷ (item ++ r) ≡ [] = e ∙ none in cc
no_end [] [] (x ∷ item) r rest p q some u bare (inr (text, is)) e = bare.0 (ap (λ (l : List ℕ). get_or l 0 0) (e ∙ is))
no_end [] (y ∷ front) (x ∷ item) r rest p q some u bare k e = let head : y ≡ x = cc in u x item refl (subst IsBlank head q.0)
no_end (x ∷ before) [] item r rest p q some u bare (inl none) e = let no : x ∷ (before ++ (item ++ r)) ≡ [] = e ∙ none in cc
no_end (x ∷ before) [] item r rest p q some u bare (inr (text, is)) e = not_59 p.0 (ap (λ (l : List ℕ). get_or l 0 0) (e ∙ is))
  where
    not_59 : IsBlank x → x ≡ 59 → ⊥
    not_59 (inl b) f = omega arith
    not_59 (inr (inl b)) f = omega arith
    not_59 (inr (inr b)) f = omega arith
no_end (x ∷ before) (y ∷ front) item r rest p q some u bare k e =
    let tails : before ++ (item ++ r) ≡ front ++ rest = cc in no_end before front item r rest p.1 q.1 some u bare k tails

-- a line that has an item is more than blanks and a comment
pub item_no_end : (bytes : List ℕ) (start stop : ℕ) → IsItemAt bytes start stop → LineEnd bytes → ⊥
item_no_end bytes start stop p (front, rest, e, blanks, k) =
    no_end (take start bytes) front (slice_range bytes start stop) (p.after ++ p.comment) rest p.item.blanks_before blanks p.item.some
    p.item.begins_bare p.item.no_comment k (sym (parts_of bytes (take start bytes) (slice_range bytes start stop) p.after p.comment p.item) ∙ e)
