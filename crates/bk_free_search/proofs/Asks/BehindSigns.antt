-- What is asked for behind a next move's first signs, whatever further signs it has: where they are all there, and where some are still to come.
use Rattle.std.proofs.Common.{Bool, List, [], ap, append_assoc, arith, cond, count_by, drop, false, length, map, max, refl, slice_index_or, subst}
use Rattle.std.proofs.Common.{suc, sym, take, true, zero, ℕ, ◌++◌, ◌+◌, ◌-◌, ◌∙◌, ◌∷◌, ◌≡◌, ◌≤◌}
use Rattle.std.proofs.lemmas.List.{drop-drop, drop_at, drop_more, get_or-drop, length-append, length-drop, length-map, length-take, take-append-drop}
use Rattle.bk_laws.proofs.ListPlaces.{get_back}
use Rattle.bk_word.specs.Outline.{has_right_wall, valley_place}
use Rattle.bk_word.specs.Play.{IsLegal, outline_of, signs_apart}
use Rattle.bk_word.specs.Signs.{is_under}
use Rattle.bk_word.specs.Word.{Move, Word}
use Rattle.bk_word.specs.declared.Sign.{Sign}
use Rattle.bk_word.specs.declared.Sign.TheVariants.{Above, Even}
use Rattle.bk_word.proofs.PlayLists.{place_within}
use Rattle.bk_catalogue.specs.VerticalCut.{edges_on_lines}
use Rattle.bk_layout.proofs.NormalCuts.PassCounts.{fewer_marks_ask_less, the_pass_is_strong}
use Rattle.bk_layout.proofs.NormalCuts.WideSegments.{wide_long}
use Rattle.bk_layout.specs.NormalCuts.{touched_or_wide}
use Rattle.bk_layout.specs.StrongBound.{strong_bound_of, strong_from, weight_from, weight_of}
use Rattle.bk_layout.specs.StrongPass.{IsCounted, IsNoMore, Passed, pass_along}
use Rattle.bk_layout.specs.WordNumbers.{first_count}
use Rattle.bk_free_search.proofs.Asks.CountedSigns.{marks_long, signs_long, sizes_long}
use Rattle.bk_free_search.proofs.Asks.PassesOn.{AreFurther, ArePartsButLast, Further, Segments, further_signs, joined_counts, joined_on}
use Rattle.bk_free_search.proofs.Asks.SharedAround.{joined_marks_shared, marks_behind_shared, signs_behind, sizes_behind}
use Rattle.bk_free_search.specs.Apart.{AreAskedBehind, IsCountedTo, behind_marks, behind_signs, behind_sizes, joined_marks, marks_apart, sizes_apart}
use Rattle.bk_free_search.specs.Apart.{wide_first}
use Rattle.bk_free_search.specs.declared.behind.Asks.{Asks}

-- a pass ends with at least these
pub record EndsWith (p : Passed) (most more : ℕ) : Type 0 where
  pub most_least : most ≤ p.most
  pub more_least : more ≤ p.more

-- where all signs are there
all_told : (p : Passed) (signs : List Sign) (sizes : List ℕ) (fewer marks : List Bool) → length sizes ≡ length signs + 1 → length marks ≡ length sizes
    → length fewer ≡ length marks → ((t : ℕ) → slice_index_or fewer t false ≡ true → slice_index_or marks t false ≡ true)
    → EndsWith (pass_along p signs sizes marks)
    (max (p.most + count_by is_under signs + weight_from p.low signs sizes) (p.aboves + strong_from p.low signs sizes fewer))
    (p.more + weight_from p.low signs sizes)
all_told p signs sizes fewer marks many long same each = onto (the_pass_is_strong p signs sizes marks many long)
  where
    onto : IsCounted p signs sizes marks → EndsWith (pass_along p signs sizes marks)
        (max (p.most + count_by is_under signs + weight_from p.low signs sizes) (p.aboves + strong_from p.low signs sizes fewer))
        (p.more + weight_from p.low signs sizes)
    onto c = record {
      most_least = omega (arith, c.most, fewer_marks_ask_less p.low signs sizes fewer marks same each);
      more_least = omega (arith, c.more);
    }

-- where some are still to come
some_told : (p : Passed) (own : Further) (behind : Segments) (size : ℕ) (joined mark : Bool) (fewer : List Bool) → AreFurther own behind joined mark
    → length fewer ≡ length behind.marks → ((t : ℕ) → slice_index_or fewer t false ≡ true → slice_index_or behind.marks t false ≡ true)
    → EndsWith (pass_along p ((own.sign ∷ own.more) ++ behind.signs) (own.sizes ++ size ∷ behind.sizes) (own.marks ++ mark ∷ behind.marks))
    (max (p.most + count_by is_under behind.signs + weight_from false behind.signs (size ∷ behind.sizes))
    (p.aboves + strong_from false behind.signs (size ∷ behind.sizes) (joined ∷ fewer))) (p.more + weight_from false behind.signs (size ∷ behind.sizes))
some_told p own behind size joined mark fewer further same each = onto
    (joined_counts p behind.signs size behind.sizes joined behind.marks further.many_behind further.long_behind
    (the_pass_is_strong p behind.signs (2 ∷ behind.sizes) (joined ∷ behind.marks) (omega (arith, further.many_behind))
    (omega (arith, further.long_behind))))
    (further_signs behind size joined mark p own.sign own.more own.sizes own.marks further)
  where
    each_then : (t : ℕ) → slice_index_or (joined ∷ fewer) t false ≡ true → slice_index_or (joined ∷ behind.marks) t false ≡ true
    each_then zero e = e
    each_then (suc t) e = each t e

    onto : ((joined_on p behind.signs behind.sizes joined behind.marks).most
        ≡ max (p.most + count_by is_under behind.signs + weight_from false behind.signs (size ∷ behind.sizes))
        (p.aboves + strong_from false behind.signs (size ∷ behind.sizes) (joined ∷ behind.marks)))
        × ((joined_on p behind.signs behind.sizes joined behind.marks).more ≡ p.more + weight_from false behind.signs (size ∷ behind.sizes))
        → IsNoMore (joined_on p behind.signs behind.sizes joined behind.marks)
        (pass_along p ((own.sign ∷ own.more) ++ behind.signs) (own.sizes ++ size ∷ behind.sizes) (own.marks ++ mark ∷ behind.marks))
        → EndsWith (pass_along p ((own.sign ∷ own.more) ++ behind.signs) (own.sizes ++ size ∷ behind.sizes) (own.marks ++ mark ∷ behind.marks))
        (max (p.most + count_by is_under behind.signs + weight_from false behind.signs (size ∷ behind.sizes))
        (p.aboves + strong_from false behind.signs (size ∷ behind.sizes) (joined ∷ fewer)))
        (p.more + weight_from false behind.signs (size ∷ behind.sizes))
    onto c d = record {
      most_least = omega (
        arith,
        c.0,
        d.most,
        fewer_marks_ask_less false behind.signs (size ∷ behind.sizes) (joined ∷ fewer) (joined ∷ behind.marks) (omega (arith, same)) each_then,
      );
      more_least = omega (arith, c.1, d.more);
    }

-- of all segments, those from a place on have this sign and more ones behind them, up to the end, where other ones begin, which stand behind. Each of
-- these is marked only if it is so among all, but for the first one where the sign before it isn't even
record ComeBefore (sign : Sign) (more : List Sign) (all behind : Segments) (i : ℕ) : Type 0 where
  end : ℕ
  end_is : i + (length more + 1) ≡ end
  signs_are : drop i all.signs ≡ (sign ∷ more) ++ behind.signs
  sizes_are : drop end all.sizes ≡ behind.sizes
  many : length all.sizes ≡ length all.signs + 1
  long : length all.marks ≡ length all.signs + 1
  low : i ≤ length all.signs
  many_behind : length behind.sizes ≡ length behind.signs + 1
  long_behind : length behind.marks ≡ length behind.sizes
  apart : ArePartsButLast (sign ∷ more)
  last : slice_index_or (sign ∷ more) (length more) Above ≡ Even → slice_index_or behind.marks 0 false ≡ true → slice_index_or all.marks end false ≡ true
  each : (t : ℕ) → slice_index_or behind.marks (suc t) false ≡ true → slice_index_or all.marks (end + suc t) false ≡ true

-- one pass ends with at least what segments of these signs, sizes and marks ask for behind what another pass has counted
abbrev EndsBehind : Passed → Passed → List Sign → List ℕ → List Bool → Type 0
EndsBehind p q signs sizes marks = EndsWith q
    (max (p.most + count_by is_under signs + weight_from false signs sizes) (p.aboves + strong_from false signs sizes marks))
    (p.more + weight_from false signs sizes)

-- if some signs are to come, what is asked for by places in the lists of all segments
some_at : (p : Passed) (sign : Sign) (more : List Sign) (all behind : Segments) (i : ℕ) → ComeBefore sign more all behind i
    → EndsBehind p (pass_along p (drop i all.signs) (drop i all.sizes) (drop i all.marks)) behind.signs behind.sizes behind.marks
some_at p sign more all behind i come = cases behind.sizes behind.marks refl refl
  where
    all_long : length all.signs ≡ i + (length more + 1) + length behind.signs
    all_long = omega (
      arith,
      come.low,
      ap (λ (l : List Sign). length l) come.signs_are,
      length-append (sign ∷ more) behind.signs,
      length-drop i all.signs,
    )

    next : (t : ℕ) → come.end + 1 + t ≡ come.end + suc t
    next t = omega arith

    mark_seam : drop (length more + 1) (drop i all.marks) ≡ slice_index_or all.marks come.end false ∷ drop (come.end + 1) all.marks
    mark_seam = drop-drop (length more + 1) i all.marks ∙ ap (λ k. drop k all.marks) come.end_is
        ∙ drop_more all.marks come.end false (omega (arith, come.long, all_long, come.end_is))

    marks_are : drop i all.marks ≡ take (length more + 1) (drop i all.marks) ++ slice_index_or all.marks come.end false ∷ drop (come.end + 1) all.marks
    marks_are = sym (take-append-drop (length more + 1) (drop i all.marks)) ∙ ap (λ l. take (length more + 1) (drop i all.marks) ++ l) mark_seam

    cases : (sizes : List ℕ) (fewer : List Bool) → behind.sizes ≡ sizes → behind.marks ≡ fewer
        → EndsBehind p (pass_along p (drop i all.signs) (drop i all.sizes) (drop i all.marks)) behind.signs sizes fewer
    cases [] fewer a b = absurd (omega (arith, come.many_behind, ap (λ (l : List ℕ). length l) a))
    cases (size ∷ sizes) [] a b = absurd (omega (
      arith,
      come.many_behind,
      come.long_behind,
      ap (λ (l : List Bool). length l) b,
    ))
    cases (size ∷ sizes) (joined ∷ fewer) a b = subst (λ (q : Passed). EndsBehind p q behind.signs (size ∷ sizes) (joined ∷ fewer)) (sym whole)
        (some_told p
        (record { sign = sign; more = more; sizes = take (length more + 1) (drop i all.sizes); marks = take (length more + 1) (drop i all.marks) })
        (record { signs = behind.signs; sizes = sizes; marks = drop (come.end + 1) all.marks })
        size joined (slice_index_or all.marks come.end false) fewer
        (record {
          apart = come.apart;
          many = omega (
            arith,
            all_long,
            come.many,
            come.low,
            length-take (length more + 1) (drop i all.sizes),
            length-drop i all.sizes,
          );
          long = omega (
            arith,
            all_long,
            come.long,
            come.low,
            length-take (length more + 1) (drop i all.marks),
            length-drop i all.marks,
          );
          many_behind = omega (arith, many);
          long_behind = omega (arith, many, all_long, come.long, come.end_is, length-drop (come.end + 1) all.marks);
          last = λ even marked. come.last even (ap (λ (l : List Bool). slice_index_or l 0 false) b ∙ marked);
        })
        (omega (arith, long, many, all_long, come.long, come.end_is, length-drop (come.end + 1) all.marks))
        (λ t e. get_or-drop (come.end + 1) all.marks t false ∙ ap (λ k. slice_index_or all.marks k false) (next t)
        ∙ come.each t (ap (λ (l : List Bool). slice_index_or l (suc t) false) b ∙ e)))
      where
        many : length sizes ≡ length behind.signs
        many = omega (arith, come.many_behind, ap (λ (l : List ℕ). length l) a)

        long : length fewer ≡ length sizes
        long = omega (arith, come.long_behind, ap (λ (l : List ℕ). length l) a, ap (λ (l : List Bool). length l) b)

        seam : drop (length more + 1) (drop i all.sizes) ≡ size ∷ sizes
        seam = drop-drop (length more + 1) i all.sizes ∙ ap (λ k. drop k all.sizes) come.end_is ∙ come.sizes_are ∙ a

        sizes_are : drop i all.sizes ≡ take (length more + 1) (drop i all.sizes) ++ size ∷ sizes
        sizes_are = sym (take-append-drop (length more + 1) (drop i all.sizes)) ∙ ap (λ l. take (length more + 1) (drop i all.sizes) ++ l) seam

        whole : pass_along p (drop i all.signs) (drop i all.sizes) (drop i all.marks) ≡ pass_along p ((sign ∷ more) ++ behind.signs)
            (take (length more + 1) (drop i all.sizes) ++ size ∷ sizes)
            (take (length more + 1) (drop i all.marks) ++ slice_index_or all.marks come.end false ∷ drop (come.end + 1) all.marks)
        whole = λ j. pass_along p (come.signs_are j) (sizes_are j) (marks_are j)

-- ---- after a next move

module _ (front : Word) (m : Move) (legal : IsLegal (front ++ m ∷ [])) where
  behind_long : length (behind_sizes (outline_of front)) ≡ length (behind_signs (outline_of front)) + 1
  behind_long = omega (
    arith,
    sizes_long front m legal,
    signs_long front m legal,
    ap (λ (l : List Sign). length l) (signs_behind front m legal),
    ap (λ (l : List ℕ). length l) (sizes_behind front m legal),
    length-drop (valley_place (outline_of front).signs - 1 + length m.signs) (signs_apart (outline_of front) m),
    length-drop (valley_place (outline_of front).signs - 1 + length m.signs) (sizes_apart front m),
  )

  marks_behind_long : length (drop (valley_place (outline_of front).signs - 1 + length m.signs) (marks_apart front m))
      ≡ length (behind_sizes (outline_of front))
  marks_behind_long = omega (
    arith,
    behind_long,
    signs_long front m legal,
    marks_long front m legal,
    ap (λ (l : List Sign). length l) (signs_behind front m legal),
    length-drop (valley_place (outline_of front).signs - 1 + length m.signs) (signs_apart (outline_of front) m),
    length-drop (valley_place (outline_of front).signs - 1 + length m.signs) (marks_apart front m),
  )

  -- what is asked for where the move has all its signs
  pub asked_with_all : (p : Passed) (low : Bool) (marks : List Bool) (asks : Asks)
      → IsCountedTo front m (valley_place (outline_of front).signs - 1 + length m.signs) p → p.low ≡ low
      → length marks ≡ length (behind_sizes (outline_of front)) → ((t : ℕ) → slice_index_or marks t false ≡ true
      → slice_index_or (marks_apart front m) (valley_place (outline_of front).signs - 1 + length m.signs + t) false ≡ true)
      → AreAskedBehind low marks front asks
      → (max (p.most + asks.add) (p.aboves + asks.most) ≤ strong_bound_of (front ++ m ∷ [])) × (p.more + asks.more ≤ weight_of (front ++ m ∷ []))
  asked_with_all p low marks asks counted is_low same each asked = onto
      (all_told p (behind_signs (outline_of front)) (behind_sizes (outline_of front)) marks
      (drop (valley_place (outline_of front).signs - 1 + length m.signs) (marks_apart front m)) behind_long
      marks_behind_long
      (same ∙ sym marks_behind_long)
      (λ t e. get_or-drop (valley_place (outline_of front).signs - 1 + length m.signs) (marks_apart front m) t false ∙ each t e))
    where
      same_pass : pass_along p (drop (valley_place (outline_of front).signs - 1 + length m.signs) (signs_apart (outline_of front) m))
          (drop (valley_place (outline_of front).signs - 1 + length m.signs) (sizes_apart front m))
          (drop (valley_place (outline_of front).signs - 1 + length m.signs) (marks_apart front m))
          ≡ pass_along p (behind_signs (outline_of front)) (behind_sizes (outline_of front))
          (drop (valley_place (outline_of front).signs - 1 + length m.signs) (marks_apart front m))
      same_pass = λ i. pass_along p (signs_behind front m legal i) (sizes_behind front m legal i)
          (drop (valley_place (outline_of front).signs - 1 + length m.signs) (marks_apart front m))

      onto : EndsWith (pass_along p (behind_signs (outline_of front)) (behind_sizes (outline_of front))
          (drop (valley_place (outline_of front).signs - 1 + length m.signs) (marks_apart front m)))
          (max (p.most + count_by is_under (behind_signs (outline_of front)) + weight_from p.low (behind_signs (outline_of front)) (behind_sizes
          (outline_of front)))
          (p.aboves + strong_from p.low (behind_signs (outline_of front)) (behind_sizes (outline_of front)) marks))
          (p.more + weight_from p.low (behind_signs (outline_of front)) (behind_sizes (outline_of front)))
          → (max (p.most + asks.add) (p.aboves + asks.most) ≤ strong_bound_of (front ++ m ∷ [])) × (p.more + asks.more ≤ weight_of (front ++ m ∷ []))
      onto e = (
        omega (
          arith,
          e.most_least,
          counted.most,
          ap (λ (q : Passed). q.most) same_pass,
          asked.add_is,
          asked.most_is,
          ap (λ b. weight_from b (behind_signs (outline_of front)) (behind_sizes (outline_of front))) is_low,
          ap (λ b. strong_from b (behind_signs (outline_of front)) (behind_sizes (outline_of front)) marks) is_low,
        ),
        omega (
          arith,
          e.more_least,
          counted.more,
          ap (λ (q : Passed). q.more) same_pass,
          asked.more_is,
          ap (λ b. weight_from b (behind_signs (outline_of front)) (behind_sizes (outline_of front))) is_low,
        ),
      )

  -- there is a mark for each segment behind the valley
  pub behind_marks_long : length (behind_marks front) ≡ length (behind_sizes (outline_of front))
  behind_marks_long = cases (has_right_wall (outline_of front)) refl
    where
      marks_by : (b : Bool) → has_right_wall (outline_of front) ≡ b → length (behind_marks front)
          ≡ length (cond b (false ∷ []) (touched_or_wide (first_count front) (edges_on_lines front)
          (drop (valley_place (outline_of front).signs + 1) (outline_of front).segments)))
      marks_by b w = ap (λ (b : Bool). length (cond b (false ∷ []) (touched_or_wide (first_count front) (edges_on_lines front)
          (drop (valley_place (outline_of front).signs + 1) (outline_of front).segments)))) w

      sizes_by : (b : Bool) → has_right_wall (outline_of front) ≡ b → length (behind_sizes (outline_of front))
          ≡ length (cond b (1 ∷ []) (map (λ (s : List ℕ). length s) (drop (valley_place (outline_of front).signs + 1) (outline_of front).segments)))
      sizes_by b w = ap (λ (b : Bool). length (cond b (1 ∷ []) (map (λ (s : List ℕ). length s) (drop (valley_place (outline_of front).signs + 1)
          (outline_of front).segments)))) w

      cases : (b : Bool) → has_right_wall (outline_of front) ≡ b → length (behind_marks front) ≡ length (behind_sizes (outline_of front))
      cases true w = omega (arith, marks_by true w, sizes_by true w)
      cases false w = omega (
        arith,
        marks_by false w,
        sizes_by false w,
        wide_long (first_count front) (edges_on_lines front) (drop (valley_place (outline_of front).signs + 1) (outline_of front).segments),
        length-map (drop (valley_place (outline_of front).signs + 1) (outline_of front).segments) (λ (s : List ℕ). length s),
      )

  wide_first_long : (top : ℕ) (segments : List (List ℕ)) (marks : List Bool) → length (wide_first top segments marks) ≡ length marks
  wide_first_long top [] marks = refl
  wide_first_long top (s ∷ segments) [] = refl
  wide_first_long top (s ∷ segments) (mark ∷ marks) = omega arith

  wide_first_rest : (top : ℕ) (segments : List (List ℕ)) (marks : List Bool) (t : ℕ)
      → slice_index_or (wide_first top segments marks) (suc t) false ≡ slice_index_or marks (suc t) false
  wide_first_rest top [] marks t = refl
  wide_first_rest top (s ∷ segments) [] t = refl
  wide_first_rest top (s ∷ segments) (mark ∷ marks) t = refl

  -- behind the valley, where a square more joins the first segment, are as many marks as sizes
  pub joined_marks_long : length (joined_marks front) ≡ length (behind_sizes (outline_of front))
  joined_marks_long = cases (has_right_wall (outline_of front)) refl ∙ behind_marks_long
    where
      cases : (b : Bool) → has_right_wall (outline_of front) ≡ b → length (joined_marks front) ≡ length (behind_marks front)
      cases b w = subst (λ (b : Bool). length (cond b (false ∷ []) (wide_first (first_count front) (drop (valley_place (outline_of front).signs + 1)
          (outline_of front).segments) (touched_or_wide (first_count front) (edges_on_lines front)
          (drop (valley_place (outline_of front).signs + 1) (outline_of front).segments)))) ≡ length (cond b (false ∷ []) (touched_or_wide (first_count front)
          (edges_on_lines front) (drop (valley_place (outline_of front).signs + 1) (outline_of front).segments)))) (sym w) (by b)
        where
          by : (b : Bool) → length (cond b (false ∷ []) (wide_first (first_count front) (drop (valley_place (outline_of front).signs + 1)
              (outline_of front).segments) (touched_or_wide (first_count front) (edges_on_lines front)
              (drop (valley_place (outline_of front).signs + 1) (outline_of front).segments)))) ≡ length (cond b (false ∷ []) (touched_or_wide
              (first_count front)
              (edges_on_lines front) (drop (valley_place (outline_of front).signs + 1) (outline_of front).segments)))
          by true = refl
          by false = wide_first_long (first_count front) (drop (valley_place (outline_of front).signs + 1) (outline_of front).segments)
              (touched_or_wide (first_count front) (edges_on_lines front) (drop (valley_place (outline_of front).signs + 1) (outline_of front).segments))

  joined_rest : (t : ℕ) → slice_index_or (joined_marks front) (suc t) false ≡ true → slice_index_or (behind_marks front) (suc t) false ≡ true
  joined_rest t e = sym (by (has_right_wall (outline_of front))) ∙ e
    where
      by : (b : Bool) → slice_index_or (cond b (false ∷ []) (wide_first (first_count front) (drop (valley_place (outline_of front).signs + 1)
          (outline_of front).segments) (touched_or_wide (first_count front) (edges_on_lines front)
          (drop (valley_place (outline_of front).signs + 1) (outline_of front).segments)))) (suc t) false
          ≡ slice_index_or (cond b (false ∷ []) (touched_or_wide (first_count front)
          (edges_on_lines front) (drop (valley_place (outline_of front).signs + 1) (outline_of front).segments))) (suc t) false
      by true = refl
      by false = wide_first_rest (first_count front) (drop (valley_place (outline_of front).signs + 1) (outline_of front).segments)
          (touched_or_wide (first_count front) (edges_on_lines front) (drop (valley_place (outline_of front).signs + 1) (outline_of front).segments)) t

  -- if some signs are still to come behind a move's first ones, what is asked for behind them
  pub asked_with_some : (p : Passed) (signs : List Sign) (sign : Sign) (more_signs : List Sign) (asks : Asks)
      → m.signs ≡ signs ++ sign ∷ more_signs → IsCountedTo front m (valley_place (outline_of front).signs - 1 + length signs) p
      → ArePartsButLast (sign ∷ more_signs) → AreAskedBehind false (joined_marks front) front asks
      → (max (p.most + asks.add) (p.aboves + asks.most) ≤ strong_bound_of (front ++ m ∷ [])) × (p.more + asks.more ≤ weight_of (front ++ m ∷ []))
  asked_with_some p signs sign more_signs asks are counted apart asked = onto
      (some_at p sign more_signs
      (record { signs = signs_apart (outline_of front) m; sizes = sizes_apart front m; marks = marks_apart front m })
      (record { signs = behind_signs (outline_of front); sizes = behind_sizes (outline_of front); marks = joined_marks front })
      (valley_place (outline_of front).signs - 1 + length signs)
      (record {
        end = valley_place (outline_of front).signs - 1 + length m.signs;
        end_is = omega (arith, long);
        signs_are = from;
        sizes_are = sizes_behind front m legal;
        many = sizes_long front m legal;
        long = marks_long front m legal;
        low = omega (arith, signs_long front m legal, long);
        many_behind = behind_long;
        long_behind = joined_marks_long;
        apart = apart;
        last = last;
        each = λ t e. marks_behind_shared front m legal (suc t) (joined_rest t e);
      }))
    where
      long : length m.signs ≡ length signs + (length more_signs + 1)
      long = omega (arith, ap (λ (l : List Sign). length l) are, length-append signs (sign ∷ more_signs))

      all : signs_apart (outline_of front) m ≡ (take (valley_place (outline_of front).signs - 1) (outline_of front).signs ++ signs)
          ++ ((sign ∷ more_signs) ++ behind_signs (outline_of front))
      all = (λ i. take (valley_place (outline_of front).signs - 1) (outline_of front).signs ++ are i ++ behind_signs (outline_of front))
          ∙ ap (λ l. l ++ behind_signs (outline_of front))
          (sym (append_assoc (take (valley_place (outline_of front).signs - 1) (outline_of front).signs) signs (sign ∷ more_signs)))
          ∙ append_assoc (take (valley_place (outline_of front).signs - 1) (outline_of front).signs ++ signs) (sign ∷ more_signs) (behind_signs
          (outline_of front))

      from : drop (valley_place (outline_of front).signs - 1 + length signs) (signs_apart (outline_of front) m)
          ≡ (sign ∷ more_signs) ++ behind_signs (outline_of front)
      from = ap (drop (valley_place (outline_of front).signs - 1 + length signs)) all
          ∙ drop_at (take (valley_place (outline_of front).signs - 1) (outline_of front).signs ++ signs)
          ((sign ∷ more_signs) ++ behind_signs (outline_of front)) (valley_place (outline_of front).signs - 1 + length signs)
          (omega (
            arith,
            place_within (outline_of front).signs,
            length-append (take (valley_place (outline_of front).signs - 1) (outline_of front).signs) signs,
            length-take (valley_place (outline_of front).signs - 1) (outline_of front).signs,
          ))

      last : slice_index_or (sign ∷ more_signs) (length more_signs) Above ≡ Even → slice_index_or (joined_marks front) 0 false ≡ true
          → slice_index_or (marks_apart front m) (valley_place (outline_of front).signs - 1 + length m.signs) false ≡ true
      last even e = ap (λ i. slice_index_or (marks_apart front m) i false) zeroth
          ∙ joined_marks_shared front m legal (ap (λ (l : List Sign). slice_index_or l (length m.signs - 1) Above) are
          ∙ get_back signs (sign ∷ more_signs) (length more_signs) (length m.signs - 1) Above (omega (arith, long)) ∙ even) (omega (arith, long)) 0 e
        where
          zeroth : valley_place (outline_of front).signs - 1 + length m.signs ≡ valley_place (outline_of front).signs - 1 + length m.signs + 0
          zeroth = omega arith

      onto : EndsWith (pass_along p (drop (valley_place (outline_of front).signs - 1 + length signs) (signs_apart (outline_of front) m))
          (drop (valley_place (outline_of front).signs - 1 + length signs) (sizes_apart front m))
          (drop (valley_place (outline_of front).signs - 1 + length signs) (marks_apart front m)))
          (max (p.most + count_by is_under (behind_signs (outline_of front)) + weight_from false (behind_signs (outline_of front)) (behind_sizes
          (outline_of front)))
          (p.aboves + strong_from false (behind_signs (outline_of front)) (behind_sizes (outline_of front)) (joined_marks front)))
          (p.more + weight_from false (behind_signs (outline_of front)) (behind_sizes (outline_of front)))
          → (max (p.most + asks.add) (p.aboves + asks.most) ≤ strong_bound_of (front ++ m ∷ [])) × (p.more + asks.more ≤ weight_of (front ++ m ∷ []))
      onto e = (
        omega (arith, e.most_least, counted.most, asked.add_is, asked.most_is),
        omega (arith, e.more_least, counted.more, asked.more_is),
      )
