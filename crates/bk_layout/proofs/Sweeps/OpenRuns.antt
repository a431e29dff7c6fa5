-- The squares of one open segment stay side by side until their node is closed.
use Rattle.std.proofs.Common.{List, Option, Some, [], ap, arith, inl, inr, length, map, refl, slice_get, slice_index_or, subst, suc, sym}
use Rattle.std.proofs.Common.{zero, ℕ, ◌++◌, ◌+◌, ◌-◌, ◌∙◌, ◌∷◌, ◌≡◌, ◌⊎◌}
use Rattle.std.proofs.lemmas.Bool.{cases_eq}
use Rattle.std.proofs.lemmas.Option.{same_Some}
use Rattle.bk_laws.proofs.ListPlaces.{get_after, get_append, get_map, slice_get-empty, slice_get-only_first, slice_get-others_kept, slice_index_or-of_slice_get}
use Rattle.bk_word.specs.Outline.{Outline, start, valley_place}
use Rattle.bk_word.specs.Play.{after_move, after_moves, before_first_list, joined, new_squares, outline_of, segments_apart, signs_apart}
use Rattle.bk_word.specs.Word.{Word}
use Rattle.bk_word.specs.declared.Sign.{Sign}
use Rattle.bk_word.specs.declared.Sign.TheVariants.{Above, Even, Under}
use Rattle.bk_layout.specs.Layout.{Layout}
use Rattle.bk_layout.specs.LayoutLaws.{HangByNodesFrom}
use Rattle.bk_word.proofs.PlayLaws.{after_moves-append}
use Rattle.bk_layout.proofs.FreeCuts.CutsOfLayouts.{nodes_rest}
use Rattle.bk_layout.specs.OpenSegments.{EndsTogether, OpenSegmentsEndTogether}

-- one list stands within another, from a place on
record StandsIn (s t : List ℕ) : Type 0 where
  from : ℕ
  at : (k a : ℕ) → slice_get s k ≡ Some a → slice_get t (from + k) ≡ Some a

itself : (s : List ℕ) → StandsIn s s
itself s = record { from = 0; at = λ k a e. subst (λ (j : ℕ). slice_get s j ≡ Some a) (same k) e }
  where
    same : (k : ℕ) → k ≡ 0 + k
    same k = omega arith

in_front : (s t : List ℕ) → StandsIn s (s ++ t)
in_front s t = record { from = 0; at = λ k a e. get_append s t (0 + k) a (subst (λ (j : ℕ). slice_get s j ≡ Some a) (same k) e) }
  where
    same : (k : ℕ) → k ≡ 0 + k
    same k = omega arith

behind : (s u t : List ℕ) → StandsIn s t → StandsIn s (u ++ t)
behind s u t h = record { from = length u + h.from; at = λ k a e. get_after u t (h.from + k) (length u + h.from + k) (omega arith) ∙ h.at k a e }

-- it stands within one of the lists
record StandsAmong (s : List ℕ) (lists : List (List ℕ)) : Type 0 where
  place : ℕ
  list : List ℕ
  is : slice_get lists place ≡ Some list
  within : StandsIn s list

one_later : (s t : List ℕ) (lists : List (List ℕ)) → StandsAmong s lists → StandsAmong s (t ∷ lists)
one_later s t lists h = record { place = suc h.place; list = h.list; is = h.is; within = h.within }

at_head : (s t : List ℕ) (lists : List (List ℕ)) → ◌≡◌ {A = Option (List ℕ)} (Some t) (Some s) → StandsAmong s (t ∷ lists)
at_head s t lists e = record { place = 0; list = s; is = e; within = itself s }

before_later : (s t : List ℕ) (lists : List (List ℕ)) → StandsAmong s lists → StandsAmong s (before_first_list t lists)
before_later s t [] h = absurd (slice_get-empty h.place h.list h.is)
before_later s t (u ∷ lists) h = by_place h.place h.list h.is h.within
  where
    by_place : (place : ℕ) (list : List ℕ) → slice_get (u ∷ lists) place ≡ Some list → StandsIn s list → StandsAmong s ((t ++ u) ∷ lists)
    by_place zero list e w = record { place = 0; list = t ++ u; is = refl; within = behind s t u (subst (StandsIn s) (sym (same_Some u list e)) w) }
    by_place (suc place) list e w = record { place = suc place; list = list; is = e; within = w }

before_head : (s t : List ℕ) (lists : List (List ℕ)) → ◌≡◌ {A = Option (List ℕ)} (Some t) (Some s) → StandsAmong s (before_first_list t lists)
before_head s t [] e = at_head s t [] e
before_head s t (u ∷ lists) e = record {
  place = 0;
  list = t ++ u;
  is = refl;
  within =
      subst (λ (x : List ℕ). StandsIn x (t ++ u)) (same_Some t s e) (in_front t u);
}

joined_stand : (signs : List Sign) (lists : List (List ℕ)) (i : ℕ) (s : List ℕ) → slice_get lists i ≡ Some s → StandsAmong s (joined signs lists)
joined_stand signs [] i s e = absurd (slice_get-empty i s e)
joined_stand [] (t ∷ lists) i s e = record { place = i; list = s; is = e; within = itself s }
joined_stand (Above ∷ signs) (t ∷ lists) zero s e = at_head s t (joined signs lists) e
joined_stand (Above ∷ signs) (t ∷ lists) (suc i) s e = one_later s t (joined signs lists) (joined_stand signs lists i s e)
joined_stand (Under ∷ signs) (t ∷ lists) zero s e = at_head s t (joined signs lists) e
joined_stand (Under ∷ signs) (t ∷ lists) (suc i) s e = one_later s t (joined signs lists) (joined_stand signs lists i s e)
joined_stand (Even ∷ signs) (t ∷ lists) zero s e = before_head s t (joined signs lists) e
joined_stand (Even ∷ signs) (t ∷ lists) (suc i) s e = before_later s t (joined signs lists) (joined_stand signs lists i s e)

module _ (l : Layout) (f : ℕ → ℕ) where
  -- all that ends on a node
  whole : (s : List ℕ) (v : ℕ) → map f s ≡ l.ending v → EndsTogether l f s
  whole s v e = record {
    node = v;
    from = 0;
    stands = λ k a g. ap (λ (xs : List ℕ). slice_get xs (0 + k)) (sym e)
        ∙ get_map f s (0 + k) a (subst (λ (j : ℕ). slice_get s j ≡ Some a) (same k) g);
  }
    where
      same : (k : ℕ) → k ≡ 0 + k
      same k = omega arith

  part : (s t : List ℕ) → StandsIn s t → EndsTogether l f t → EndsTogether l f s
  part s t h e = record {
    node = e.node;
    from = e.from + h.from;
    stands =
        λ k a g. subst (λ (j : ℕ). slice_get (l.ending e.node) j ≡ Some (f a)) (same k) (e.stands (h.from + k) a (h.at k a g));
  }
    where
      same : (k : ℕ) → e.from + (h.from + k) ≡ e.from + h.from + k
      same k = omega arith

  together : (o : Outline) (rest : Word) → HangByNodesFrom l f o rest → length (after_moves o rest).segments ≡ 1
      → map f (slice_index_or (after_moves o rest).segments 0 []) ≡ l.ending l.bottom
      → (i : ℕ) (s : List ℕ) → slice_get o.segments i ≡ Some s → EndsTogether l f s
  together o [] nodes one end i s e = whole s l.bottom (ap (map f) (sym (slice_get-only_first o.segments i s one e)) ∙ end)
  together o (m ∷ rest) nodes one end i s e = cases (cases_eq i (valley_place o.signs)) (together (after_move o m) rest nodes.1 one end)
    where
      cases : (i ≡ valley_place o.signs) ⊎ (i ≡ valley_place o.signs → ⊥)
          → ((j : ℕ) (t : List ℕ) → slice_get (after_move o m).segments j ≡ Some t → EndsTogether l f t) → EndsTogether l f s
      cases (inl at) later = whole s (nodes.0).node
          (ap (map f) (sym (slice_index_or-of_slice_get o.segments (valley_place o.signs) s (subst (λ (j : ℕ). slice_get o.segments j ≡ Some s) at e))) ∙
          (nodes.0).ends)
      cases (inr other) later = stay (slice_get-others_kept o.segments (map (λ q. q ∷ []) (new_squares o m)) (valley_place o.signs) i s e other)
        where
          stay : (j : ℕ) × (slice_get (segments_apart o m) j ≡ Some s) → EndsTogether l f s
          stay (j, g) = on (joined_stand (signs_apart o m) (segments_apart o m) j s g)
            where
              on : StandsAmong s (joined (signs_apart o m) (segments_apart o m)) → EndsTogether l f s
              on a = part s a.list a.within (later a.place a.list a.is)

-- the law: segments stay together until their node is closed
pub open_segments_end_together : OpenSegmentsEndTogether
open_segments_end_together l w front rest word is i s e = together l square (outline_of front) rest
    (nodes_rest l square start front rest (subst (HangByNodesFrom l square start) is word.nodes))
    (ap (λ (o : Outline). length o.segments) (sym at_end) ∙ (word.complete).one)
    (ap (λ (o : Outline). map square (slice_index_or o.segments 0 [])) (sym at_end) ∙ word.end)
    i s e
  where
    square : ℕ → ℕ
    square = λ number. word.square (number - 1)

    at_end : outline_of w ≡ after_moves (outline_of front) rest
    at_end = ap outline_of is ∙ after_moves-append start front rest
