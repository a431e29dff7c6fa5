-- An outline cut at its leftmost valley, and the outline after a move as one of the same parts: only the valley and the
-- segments beside it give way.
use Rattle.std.specs.List.{AllByRecursion}
use Rattle.std.proofs.Common.{Bool, List, [], ap, arith, false, inl, inr, length, refl, suc, true, ℕ, ◌++◌, ◌+◌, ◌∙◌, ◌∷◌, ◌≡◌, ◌⊎◌}
use Rattle.std.proofs.lemmas.Bool.{both_ways}
use Rattle.std.proofs.lemmas.List.{append_assoc, length-append}
use Rattle.bk_word.specs.Outline.{Outline, valley_place}
use Rattle.bk_word.specs.Play.{parts}
use Rattle.bk_word.specs.declared.Sign.{Sign}
use Rattle.bk_word.specs.declared.Sign.TheVariants.{Above, Even, Under}

-- none of the signs is even
abbrev pub AllPart : List Sign → Type 0
AllPart signs = AllByRecursion (λ s. parts s ≡ true) signs

-- the segments and the signs at both sides of the leftmost valley
pub record Split (segments : List (List ℕ)) (signs : List Sign) : Type 0 where
  pub fronts : List (List ℕ)
  pub valley : List ℕ
  pub backs : List (List ℕ)
  pub front_signs : List Sign
  pub back_signs : List Sign
  pub segments_are : segments ≡ fronts ++ valley ∷ backs
  pub signs_are : signs ≡ front_signs ++ back_signs
  pub front_many : length fronts ≡ length front_signs
  pub back_many : length backs ≡ length back_signs
  pub place : valley_place signs ≡ length fronts
  pub falls : AllByRecursion (λ s. s ≡ Under) front_signs
  pub rises : (back_signs ≡ []) ⊎ ((rest : List Sign) × (back_signs ≡ Above ∷ rest))
  pub part : AllPart back_signs

-- segments and signs, cut at the leftmost valley
pub split : (segments : List (List ℕ)) (signs : List Sign) → AllPart signs → length segments ≡ length signs + 1 → Split segments signs
split [] signs part many = absurd (omega arith)
split (s ∷ []) [] part many = record {
  fronts = [];
  valley = s;
  backs = [];
  front_signs = [];
  back_signs = [];
  segments_are = refl;
  signs_are = refl;
  front_many = refl;
  back_many = refl;
  place = refl;
  falls = tt;
  rises = inl refl;
  part = tt;
}
split (s ∷ t ∷ segments) [] part many = absurd (omega arith)
split (s ∷ segments) (Above ∷ signs) part many = record {
  fronts = [];
  valley = s;
  backs = segments;
  front_signs = [];
  back_signs = Above ∷ signs;
  segments_are = refl;
  signs_are = refl;
  front_many = refl;
  back_many = omega arith;
  place = refl;
  falls = tt;
  rises = inr (signs, refl);
  part = part;
}
split (s ∷ segments) (Even ∷ signs) part many = absurd (both_ways false refl part.0)
split (s ∷ segments) (Under ∷ signs) part many = let r = split segments signs part.1 (omega arith) in record {
  fronts = s ∷ r.fronts;
  valley = r.valley;
  backs = r.backs;
  front_signs = Under ∷ r.front_signs;
  back_signs = r.back_signs;
  segments_are = ap (λ (l : List (List ℕ)). s ∷ l) r.segments_are;
  signs_are = ap (λ (l : List Sign). Under ∷ l) r.signs_are;
  front_many = ap suc r.front_many;
  back_many = r.back_many;
  place = ap suc r.place;
  falls = (refl, r.falls);
  rises = r.rises;
  part = r.part;
}

-- the segment beside a valley with the sign between them, or none of both at a wall
abbrev pub Beside : Sign → List (List ℕ) → List Sign → Type 0
Beside sign segments signs = ((segments ≡ []) × (signs ≡ [])) ⊎ ((s : List ℕ) × (segments ≡ s ∷ []) × (signs ≡ sign ∷ []))

-- an outline cut at its leftmost valley: what stands before and behind it and the segments beside it
pub record AtValley (o : Outline) : Type 0 where
  pub before : List (List ℕ)
  pub left : List (List ℕ)
  pub valley : List ℕ
  pub right : List (List ℕ)
  pub after : List (List ℕ)
  pub before_signs : List Sign
  pub left_signs : List Sign
  pub right_signs : List Sign
  pub after_signs : List Sign
  pub segments : o.segments ≡ before ++ (left ++ (valley ∷ (right ++ after)))
  pub signs : o.signs ≡ before_signs ++ (left_signs ++ (right_signs ++ after_signs))
  pub before_many : length before ≡ length before_signs
  pub after_many : length after ≡ length after_signs
  pub place : valley_place o.signs ≡ length before + length left
  pub left_beside : Beside Under left left_signs
  pub right_beside : Beside Above right right_signs
  pub no_before : (left ≡ []) → before ≡ []
  pub no_after : (right ≡ []) → after ≡ []
  pub before_part : AllPart before_signs
  pub after_part : AllPart after_signs

-- a list with what stands at its end, or at its start
abbrev pub with_end : {A : Type 0} → Bool → List A → List A → List A
with_end true rest end = rest ++ end
with_end false rest end = end ++ rest

no_end : {A : Type 0} (last : Bool) → [] ≡ with_end {A = A} last [] []
no_end true = refl
no_end false = refl

-- the last of some segments, or the first, and the sign between it and the valley beside them
pub record End (last : Bool) (sign : Sign) (segments : List (List ℕ)) (signs : List Sign) : Type 0 where
  pub rest : List (List ℕ)
  pub end : List (List ℕ)
  pub rest_signs : List Sign
  pub end_signs : List Sign
  pub segments_are : segments ≡ with_end last rest end
  pub signs_are : signs ≡ with_end last rest_signs end_signs
  pub many : length rest ≡ length rest_signs
  pub beside : Beside sign end end_signs
  pub none : (end ≡ []) → rest ≡ []
  pub part : AllPart rest_signs

-- of no segment there is no end
end_of_none : (last : Bool) (sign : Sign) → End last sign [] []
end_of_none last sign = record {
  rest = [];
  end = [];
  rest_signs = [];
  end_signs = [];
  segments_are = no_end last;
  signs_are = no_end last;
  many = refl;
  beside = inl (refl, refl);
  none = λ e. refl;
  part = tt;
}

last_of : (segments : List (List ℕ)) (signs : List Sign) → length segments ≡ length signs → AllByRecursion (λ s. s ≡ Under) signs
    → End true Under segments signs
last_of [] [] many falls = end_of_none true Under
last_of [] (g ∷ signs) many falls = absurd (omega arith)
last_of (s ∷ segments) [] many falls = absurd (omega arith)
last_of (s ∷ []) (g ∷ []) many falls = record {
  rest = [];
  end = s ∷ [];
  rest_signs = [];
  end_signs = g ∷ [];
  segments_are = refl;
  signs_are = refl;
  many = refl;
  beside = inr (s, refl, ap (λ (g : Sign). g ∷ []) falls.0);
  none = λ e. refl;
  part = tt;
}
last_of (s ∷ []) (g ∷ h ∷ signs) many falls = absurd (omega arith)
last_of (s ∷ t ∷ segments) (g ∷ signs) many falls = more (last_of (t ∷ segments) signs (omega arith) falls.1)
  where
    some : (l : List (List ℕ)) → t ∷ segments ≡ [] ++ l → l ≡ [] → ⊥
    some l e n = let f : t ∷ segments ≡ [] = e ∙ n in cc

    more : End true Under (t ∷ segments) signs → End true Under (s ∷ t ∷ segments) (g ∷ signs)
    more r = record {
      rest = s ∷ r.rest;
      end = r.end;
      rest_signs = g ∷ r.rest_signs;
      end_signs = r.end_signs;
      segments_are = ap (λ (l : List (List ℕ)). s ∷ l) r.segments_are;
      signs_are = ap (λ (l : List Sign). g ∷ l) r.signs_are;
      many = ap suc r.many;
      beside = r.beside;
      none = λ e. absurd (some r.end (r.segments_are ∙ ap (λ (l : List (List ℕ)). l ++ r.end) (r.none e)) e);
      part = (ap parts falls.0, r.part);
    }

first_of : (segments : List (List ℕ)) (signs : List Sign) → length segments ≡ length signs → (signs ≡ [])
    ⊎ ((rest : List Sign) × (signs ≡ Above ∷ rest)) → AllPart signs → End false Above segments signs
first_of [] [] many rises part = end_of_none false Above
first_of [] (g ∷ signs) many rises part = absurd (omega arith)
first_of (s ∷ segments) [] many rises part = absurd (omega arith)
first_of (s ∷ segments) (g ∷ signs) many rises part = record {
  rest = segments;
  end = s ∷ [];
  rest_signs = signs;
  end_signs = g ∷ [];
  segments_are = refl;
  signs_are = refl;
  many = omega arith;
  beside = inr (s, refl, ap (λ (g : Sign). g ∷ []) (head rises));
  none = λ e. absurd (some e);
  part = part.1;
}
  where
    head : (g ∷ signs ≡ []) ⊎ ((rest : List Sign) × (g ∷ signs ≡ Above ∷ rest)) → g ≡ Above
    head (inl e) = cc
    head (inr (rest, e)) = cc

    some : s ∷ [] ≡ [] → ⊥
    some e = cc

-- an outline whose signs all part, cut so
pub at_valley : (o : Outline) → AllPart o.signs → length o.segments ≡ length o.signs + 1 → AtValley o
at_valley o part many = whole (split o.segments o.signs part many)
  where
    ends : (r : Split o.segments o.signs) → End true Under r.fronts r.front_signs → End false Above r.backs r.back_signs → AtValley o
    ends r l f = record {
      before = l.rest;
      left = l.end;
      valley = r.valley;
      right = f.end;
      after = f.rest;
      before_signs = l.rest_signs;
      left_signs = l.end_signs;
      right_signs = f.end_signs;
      after_signs = f.rest_signs;
      segments = r.segments_are ∙ (λ i. l.segments_are i ++ r.valley ∷ f.segments_are i) ∙ append_assoc l.rest l.end (r.valley ∷ (f.end ++ f.rest));
      signs = r.signs_are ∙ (λ i. l.signs_are i ++ f.signs_are i) ∙ append_assoc l.rest_signs l.end_signs (f.end_signs ++ f.rest_signs);
      before_many = l.many;
      after_many = f.many;
      place = r.place ∙ ap length l.segments_are ∙ length-append l.rest l.end;
      left_beside = l.beside;
      right_beside = f.beside;
      no_before = l.none;
      no_after = f.none;
      before_part = l.part;
      after_part = f.part;
    }

    whole : Split o.segments o.signs → AtValley o
    whole r = ends r (last_of r.fronts r.front_signs r.front_many r.falls) (first_of r.backs r.back_signs r.back_many r.rises r.part)
