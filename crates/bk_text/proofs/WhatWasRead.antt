-- What is read is a line, and stands for what was read.
use Rattle.std.specs.Prelude.{List, None, Option, Some, [], option_and_then, refl, ℕ, ◌++◌, ◌∷◌, ◌≡◌}
use Rattle.std.proofs.Common.{ap, inl, subst, sym, ◌∙◌}
use Rattle.std.proofs.lemmas.List.{append-nil}
use Rattle.bk_text.specs.CodeLine.{Flat, IsLine, Item, Line, Skip}
use Rattle.bk_text.specs.LineReader.{last_side, line_ending_at, line_kind_of, next_line_place}
use Rattle.bk_text.specs.declared.reader.Field.TheVariants.{First, Height, RowSide, Second, Side as SideOf, Third}
use Rattle.bk_text.specs.declared.reader.Place.TheVariants.{BehindGroup, BehindRowSide, Comment as InComment, Number as InNumber, Start}
use Rattle.bk_text.specs.declared.reader.Place.{Place}
use Rattle.bk_text.proofs.ByteKinds.{line_kind_of-means}
use Rattle.bk_text.proofs.KeepingAll.{Lists, and_side, line_by_its_ending, line_read_from, line_where_one_may_end, lists_behind_a_byte, no_lists}
use Rattle.bk_text.proofs.Rests.{Rest, RestAfter, item, line_onto, onto, row}
use Rattle.bk_text.proofs.FrontBytes.{behind_byte}

-- where a line may end, nothing more completes it
at_end : (p : Place) (t : Lists) (l : Line) → line_where_one_may_end (line_ending_at p) (and_side (last_side p) t) ≡ Some l → Rest p t l []
at_end Start t l e = let is : Skip ≡ l = cc in (Skip, ([], [], refl, tt, inl refl), sym is)
at_end (InNumber (RowSide r) v) t l e = let is : row r (t.sides ++ v ∷ []) ≡ l =
    cc in (v, [], [], refl, (tt, refl, (λ few. few)), ([], ([], [], refl, tt, inl refl), sym is))
at_end (BehindRowSide r) t l e = let is : row r t.sides ≡ l = cc in ([], ([], [], refl, tt, inl refl), sym is ∙ ap (row r) (sym (append-nil t.sides)))
at_end (BehindGroup g) t l e = let is : item g t.groups ≡ l = cc in ([], ([], [], refl, tt, inl refl), sym is)
at_end (InComment ending) t l e = let is : line_by_its_ending ending t ≡ l = cc in sym is
at_end (InNumber First v) t l e = absurd (cc)
at_end (InNumber (Second o) v) t l e = absurd (cc)
at_end (InNumber (Height o w) v) t l e = absurd (cc)
at_end (InNumber (Third o w) v) t l e = absurd (cc)
at_end (InNumber (SideOf g c) v) t l e = absurd (cc)
at_end p t l e = absurd (cc)

-- what is read from a place on completes a line
pub rest-of_read : (bs : List ℕ) (p : Place) (t : Lists) (l : Line) → line_read_from bs p t ≡ Some l → Rest p t l bs
rest-of_read [] p t l e = at_end p t l e
rest-of_read (b ∷ bs) p t l e =
    behind_byte p (line_kind_of b) t l b bs (line_kind_of-means b)
    (from (next_line_place p (line_kind_of b)) (λ q k. rest-of_read bs q (lists_behind_a_byte p (line_kind_of b) t) l k) e)
  where
    from : (next : Option Place)
        → ((q : Place) → line_read_from bs q (lists_behind_a_byte p (line_kind_of b) t) ≡ Some l → Rest q (lists_behind_a_byte p (line_kind_of b) t) l bs)
        → option_and_then (λ q. line_read_from bs q (lists_behind_a_byte p (line_kind_of b) t)) next ≡ Some l
        → RestAfter next (lists_behind_a_byte p (line_kind_of b) t) l bs
    from None each h = absurd (cc)
    from (Some q) each h = each q h

-- groups and lines before which nothing was read are themselves
onto_none : (code : List (List ℕ)) → onto no_lists code ≡ code
onto_none [] = refl
onto_none (g ∷ gs) = refl

line_onto_none : (l : Line) → line_onto no_lists l ≡ l
line_onto_none Skip = refl
line_onto_none (Item order size code) = ap (Item order size) (onto_none code)
line_onto_none (Flat order w h ns) = refl

-- what is read is a line that stands for it
pub read_is_line : (bs : List ℕ) (l : Line) → line_read_from bs Start no_lists ≡ Some l → IsLine l bs
read_is_line bs l e =
    let h = rest-of_read bs Start no_lists l e in
    subst (λ (m : Line). IsLine m bs) (sym (h.2 ∙ line_onto_none h.0)) h.1
