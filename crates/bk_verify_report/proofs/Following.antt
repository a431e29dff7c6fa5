-- The lines of a list, one after another: what was entered is what is told of them among all entries.
use Rattle.std.specs.List.{AllByRecursion, concat}
use Rattle.std.proofs.Common.{Bool, List, [], ap, append-nil, append_assoc, arith, cond, count_by, inl, inr, refl, subst, sym, true, ℕ, ◌+◌, ◌++◌}
use Rattle.std.proofs.Common.{◌<◌, ◌∙◌, ◌∷◌, ◌≡◌, ◌≢◌}
use Rattle.std.proofs.lemmas.List.Sums.{sum_by-cons}
use Rattle.bk_laws.proofs.AllOfLists.{all_append}
use Rattle.bk_laws.proofs.NumberOrder.{lt-differs}
use Rattle.bk_tiling.specs.Tiling.{IsTiling, Tiling}
use Rattle.bk_text.specs.CodeLine.{Skip}
use Rattle.bk_ports.specs.Entering.{AreEntered, entering_from}
use Rattle.bk_ports.specs.Lines.{kept_front}
use Rattle.bk_ports.specs.Reply.{Reply, text_of}
use Rattle.bk_report.specs.declared.refusal.Refused.{Refused}
use Rattle.bk_answer.proofs.OneAnswer.{cause_of, laid_by_an_item_is_a_tiling, not_refused, skip_not_stated}
use Rattle.bk_answer.specs.Item.{HasItem, HasTiling}
use Rattle.bk_answer.specs.Refusing.{IsLineRefused}
use Rattle.bk_verify_report.proofs.Firsts.{a_verifier_tells_the_truth, truths_stay}
use Rattle.bk_verify_report.specs.KeptEntries.{IsFed, EntriesState}
use Rattle.bk_verify_report.specs.Verify.{Accepted}
use Rattle.bk_verify_report.specs.VerifyLaws.{IsTrueOf, KeepsFirsts}
use Rattle.bk_verify_report.specs.declared.entries.Fed.{Fed}
use Rattle.bk_verify_report.specs.declared.entries.Fed.TheVariants.{Foreign, New, Repeats}
use Rattle.bk_verify_report.specs.ListReading.{rules}
use Rattle.bk_verify_report.specs.ListLine.{EntersLine, after_fed, fed_pieces, feeds, no_item, refuses}
use Rattle.bk_verify_report.specs.Told.{AreEntries, AreTold, IsTold, Told, accepted, foreign, is_foreign, is_line_refused, is_repeat, no_line}
use Rattle.bk_verify_report.specs.Told.{nothing, passed, refused, repeats, texts_from, told_text}
use Rattle.bk_verify_report.specs.declared.entering.Verifying.{Verifying}

-- what is accepted is a tiling
has_tiling : (line : List ℕ) (t : Tiling) → HasTiling line t → IsTiling t
has_tiling line t has = laid_by_an_item_is_a_tiling has.item t (has.stated).laid

-- a line without an item and a line that is refused have none
skip_has_none : (line : List ℕ) → HasItem line Skip → (t : Tiling) → HasTiling line t → ⊥
skip_has_none line skip t has = skip_not_stated line has.item t skip has.is_item has.stated

refused_has_none : (line : List ℕ) (cause : Refused) → IsLineRefused line cause → (t : Tiling) → HasTiling line t → ⊥
refused_has_none line cause is t has = not_refused line has.item t cause has.is_item has.stated (cause_of line cause is)

-- what is told of an entry
told_of : Fed → Told
told_of New = nothing
told_of (Repeats first) = repeats first
told_of Foreign = foreign

fed_is_told : (n number : ℕ) (entries : List Accepted) (line : List ℕ) (t : Tiling) (fed : Fed) → HasTiling line t
    → IsTrueOf n entries (record { line = number; tiling = t }) fed → IsTold n entries number line (told_of fed)
unfolding told_of
fed_is_told n number entries line t New has is = inr (record { tiling = t; has = has; is = is })
fed_is_told n number entries line t (Repeats first) has is = record { tiling = t; has = has; is = is }
fed_is_told n number entries line t Foreign has is = record { tiling = t; has = has; is = is }

-- the counts after a line of which this is told
record CountsOne (s next : Verifying) (told : Told) : Type 0 where
  foreign : (tolds : List Told) → next.lines.foreign + count_by is_foreign tolds ≡ s.lines.foreign + count_by is_foreign (told ∷ tolds)
  repeated : (tolds : List Told) → next.lines.repeated + count_by is_repeat tolds ≡ s.lines.repeated + count_by is_repeat (told ∷ tolds)
  refused : (tolds : List Told) → next.lines.refused + count_by is_line_refused tolds ≡ s.lines.refused + count_by is_line_refused (told ∷ tolds)

counts_nothing : (s : Verifying) (v : EntriesState) → CountsOne s (record s { entries = v }) nothing
counts_nothing s v = record { foreign = λ tolds. refl; repeated = λ tolds. refl; refused = λ tolds. refl }

-- a count of what passes a test rises by one where one more passes it
pub count_yes : (p : Told → Bool) (told : Told) (tolds : List Told) (k : ℕ) → p told ≡ true → (k + 1) + count_by p tolds ≡ k + count_by p (told ∷ tolds)
count_yes p told tolds k e =
    let cons : count_by p (told ∷ tolds) ≡ cond {A = ℕ} (p told) 1 0 + count_by p tolds = sum_by-cons (λ (t : Told). cond {A = ℕ} (p t) 1 0) told tolds in
    let one : cond {A = ℕ} (p told) 1 0 ≡ 1 = ap (λ (b : Bool). cond {A = ℕ} b 1 0) e in
    omega (arith, cons, one)

counts_fed : (s : Verifying) (v : EntriesState) (fed : Fed) → CountsOne s (after_fed s v fed) (told_of fed)
unfolding told_of
counts_fed s v New = counts_nothing s v
counts_fed s v (Repeats first) = record {
  foreign = λ tolds. refl;
  repeated = λ tolds. count_yes is_repeat (repeats first) tolds s.lines.repeated refl;
  refused = λ tolds. refl;
}
counts_fed s v Foreign = record {
  foreign = λ tolds. count_yes is_foreign foreign tolds s.lines.foreign refl;
  repeated = λ tolds. refl;
  refused = λ tolds. refl;
}

counts_refused : (s : Verifying) (cause : Refused) → CountsOne s (record s { lines = record s.lines { refused = s.lines.refused + 1 } }) (refused cause)
counts_refused s cause = record {
  foreign = λ tolds. refl;
  repeated = λ tolds. refl;
  refused = λ tolds. count_yes is_line_refused (refused cause) tolds s.lines.refused refl;
}

-- the state keeps the first of the entries seen before, whose lines are before this number
pub record IsAfter (n : ℕ) (seen : List Accepted) (number : ℕ) (s : Verifying) : Type 0 where
  pub keeps : KeepsFirsts n seen (s.entries).pairs
  pub order : (s.entries).order ≡ n
  pub before : AllByRecursion (λ e. e.line < number) seen

still_before : (seen : List Accepted) (number : ℕ) → AllByRecursion (λ e. e.line < number) seen → AllByRecursion (λ e. e.line < number + 1) seen
still_before [] number all = tt
still_before (e ∷ seen) number all = (omega (arith, all.0), still_before seen number all.1)

apart_from : (seen : List Accepted) (number : ℕ) → AllByRecursion (λ e. e.line < number) seen → AllByRecursion (λ e. e.line ≢ number) seen
apart_from [] number all = tt
apart_from (e ∷ seen) number all = (lt-differs e.line number all.0, apart_from seen number all.1)

-- what is told of lines from this number on, behind the entries seen before
pub record AreFollowed (n : ℕ) (seen : List Accepted) (number : ℕ) (lines : List (List ℕ)) (s : Verifying) (text : List ℕ) (last : Verifying) : Type 0 where
  pub entries : List Accepted
  pub tolds : List Told
  pub are_entries : AreEntries number lines entries
  pub told : AreTold n (seen ++ entries) number lines tolds
  pub text_is : text ≡ texts_from number tolds
  pub keeps : KeepsFirsts n (seen ++ entries) (last.entries).pairs
  pub order : (last.entries).order ≡ n
  pub foreign_is : last.lines.foreign ≡ s.lines.foreign + count_by is_foreign tolds
  pub repeated_is : last.lines.repeated ≡ s.lines.repeated + count_by is_repeat tolds
  pub refused_is : last.lines.refused ≡ s.lines.refused + count_by is_line_refused tolds

module _ (n : ℕ) (seen : List Accepted) (number : ℕ) (line : List ℕ) (lines : List (List ℕ)) (s next : Verifying) (told : Told)
    (counts : CountsOne s next told) (text : List ℕ) (last : Verifying) where
  -- a line without an entry, and the lines behind it
  line_passed : ((t : Tiling) → HasTiling (kept_front line) t → ⊥) → ((entries : List Accepted) → IsTold n entries number (kept_front line) told)
      → AreFollowed n seen (number + 1) lines next text last → AreFollowed n seen number (line ∷ lines) s (told_text number told ++ text) last
  line_passed not is f = record {
    entries = f.entries;
    tolds = told ∷ f.tolds;
    are_entries = passed number line lines f.entries not f.are_entries;
    told = (is (seen ++ f.entries), f.told);
    text_is = ap (λ (l : List ℕ). told_text number told ++ l) f.text_is;
    keeps = f.keeps;
    order = f.order;
    foreign_is = f.foreign_is ∙ counts.foreign f.tolds;
    repeated_is = f.repeated_is ∙ counts.repeated f.tolds;
    refused_is = f.refused_is ∙ counts.refused f.tolds;
  }

  -- a line with an entry, and the lines behind it
  line_accepted : (t : Tiling) → HasTiling (kept_front line) t
      → ((more : List Accepted) → IsTold n ((seen ++ record { line = number; tiling = t } ∷ []) ++ more) number (kept_front line) told)
      → AreFollowed n (seen ++ record { line = number; tiling = t } ∷ []) (number + 1) lines next text last
      → AreFollowed n seen number (line ∷ lines) s (told_text number told ++ text) last
  line_accepted t has is f =
      let e : Accepted = record { line = number; tiling = t } in
      let all : (seen ++ e ∷ []) ++ f.entries ≡ seen ++ (e ∷ f.entries) = append_assoc seen (e ∷ []) f.entries in
      record {
        entries = record { line = number; tiling = t } ∷ f.entries;
        tolds = told ∷ f.tolds;
        are_entries = accepted number line lines t f.entries has f.are_entries;
        told = (
          subst (λ (l : List Accepted). IsTold n l number (kept_front line) told) all (is f.entries),
          subst (λ (l : List Accepted). AreTold n l (number + 1) lines f.tolds) all f.told,
        );
        text_is = ap (λ (l : List ℕ). told_text number told ++ l) f.text_is;
        keeps = subst (λ (l : List Accepted). KeepsFirsts n l (last.entries).pairs) all f.keeps;
        order = f.order;
        foreign_is = f.foreign_is ∙ counts.foreign f.tolds;
        repeated_is = f.repeated_is ∙ counts.repeated f.tolds;
        refused_is = f.refused_is ∙ counts.refused f.tolds;
      }

-- a tiling that is fed: what is told of it is true, and what is kept then is right
module _ (n : ℕ) (seen : List Accepted) (number : ℕ) (line : List ℕ) (s : Verifying) (after : IsAfter n seen number s) (t : Tiling) (fed : Fed)
    (v : EntriesState) (has : HasTiling line t) (is : IsFed s.entries number t fed v) where
  fed_order : v.order ≡ s.entries.order
  fed_order = by fed is
    where
      by : (fed : Fed) → IsFed s.entries number t fed v → v.order ≡ s.entries.order
      by New k = ap (λ (w : EntriesState). w.order) k.taken
      by (Repeats first) k = ap (λ (w : EntriesState). w.order) k.1
      by Foreign k = ap (λ (w : EntriesState). w.order) k.1

  fed_true : (more : List Accepted) → IsTold n ((seen ++ record { line = number; tiling = t } ∷ []) ++ more) number line (told_of fed)
  fed_true more =
      let e : Accepted = record { line = number; tiling = t } in
      let keeps = subst (λ (k : ℕ). KeepsFirsts k seen (s.entries).pairs) (sym after.order) after.keeps in
      let truth = a_verifier_tells_the_truth.told s.entries seen e fed v (has_tiling line t has) (apart_from seen number after.before) keeps is in
      fed_is_told n number ((seen ++ e ∷ []) ++ more) line t fed has
      (truths_stay n (seen ++ e ∷ []) more e fed (subst (λ (k : ℕ). IsTrueOf k (seen ++ e ∷ []) e fed) after.order truth))

  fed_after : IsAfter n (seen ++ record { line = number; tiling = t } ∷ []) (number + 1) (after_fed s v fed)
  fed_after =
      let e : Accepted = record { line = number; tiling = t } in
      let keeps = subst (λ (k : ℕ). KeepsFirsts k seen (s.entries).pairs) (sym after.order) after.keeps in
      let kept = a_verifier_tells_the_truth.kept s.entries seen e fed v (has_tiling line t has) keeps is in
      let order : v.order ≡ n = fed_order ∙ after.order in
      let now : KeepsFirsts n (seen ++ e ∷ []) v.pairs = subst (λ (k : ℕ). KeepsFirsts k (seen ++ e ∷ []) v.pairs) order kept in
      let before = all_append (λ (f : Accepted). f.line < number + 1) seen (e ∷ []) (still_before seen number after.before) (omega arith, tt) in
      by fed now order before
    where
      by : (fed : Fed) → KeepsFirsts n (seen ++ record { line = number; tiling = t } ∷ []) v.pairs → v.order ≡ n
          → AllByRecursion (λ (f : Accepted). f.line < number + 1) (seen ++ record { line = number; tiling = t } ∷ [])
          → IsAfter n (seen ++ record { line = number; tiling = t } ∷ []) (number + 1) (after_fed s v fed)
      by New keeps order before = record { keeps = keeps; order = order; before = before }
      by (Repeats first) keeps order before = record { keeps = keeps; order = order; before = before }
      by Foreign keeps order before = record { keeps = keeps; order = order; before = before }

-- the pieces of an entry, as the text of what is told of it
fed_text : (number : ℕ) (fed : Fed) → concat (fed_pieces number fed) ≡ told_text number (told_of fed)
unfolding told_of
fed_text number New = refl
fed_text number (Repeats first) = append-nil (told_text number (repeats first))
fed_text number Foreign = append-nil (told_text number foreign)

-- one line that is entered, and the lines behind it
one_line : (n : ℕ) (seen : List Accepted) (number : ℕ) (line : List ℕ) (lines : List (List ℕ)) (s : Verifying) (pieces : List (List ℕ))
    (is_line_refused : Bool) (next : Verifying) (text : List ℕ) (last : Verifying)
    → IsAfter n seen number s → EntersLine s number (kept_front line) (record { pieces = pieces; refused = is_line_refused }) next
    → ((now : List Accepted) → IsAfter n now (number + 1) next → AreFollowed n now (number + 1) lines next text last)
    → AreFollowed n seen number (line ∷ lines) s (concat pieces ++ text) last
one_line n seen number line lines s _ _ _ text last after (no_item skip) rest =
    line_passed n seen number line lines s s nothing (counts_nothing s s.entries) text last (skip_has_none (kept_front line) skip) (λ entries. inl skip)
    (rest seen (record { keeps = after.keeps; order = after.order; before = still_before seen number after.before }))
one_line n seen number line lines s _ _ _ text last after (refuses cause is) rest =
    subst (λ (l : List ℕ). AreFollowed n seen number (line ∷ lines) s (l ++ text) last) (sym (append-nil (told_text number (refused cause))))
    (line_passed n seen number line lines s (record s { lines = record s.lines { refused = s.lines.refused + 1 } }) (refused cause)
    (counts_refused s cause) text last
    (refused_has_none (kept_front line) cause is) (λ entries. is)
    (rest seen (record { keeps = after.keeps; order = after.order; before = still_before seen number after.before })))
one_line n seen number line lines s _ _ _ text last after (feeds t fed v has is) rest =
    subst (λ (l : List ℕ). AreFollowed n seen number (line ∷ lines) s (l ++ text) last) (sym (fed_text number fed))
    (line_accepted n seen number line lines s (after_fed s v fed) (told_of fed) (counts_fed s v fed) text last t has
    (fed_true n seen number (kept_front line) s after t fed v has is)
    (rest (seen ++ record { line = number; tiling = t } ∷ []) (fed_after n seen number (kept_front line) s after t fed v has is)))

-- lines that were entered one after another
pub followed : (n : ℕ) (seen : List Accepted) (number : ℕ) (lines : List (List ℕ)) (replies : List Reply) (s last : Verifying) → IsAfter n seen number s
    → AreEntered (entering_from rules s number) lines replies last
    → AreFollowed n seen number lines s (text_of replies) last
followed n seen number [] [] s last after e = subst (AreFollowed n seen number [] s []) (sym e) (record {
  entries = [];
  tolds = [];
  are_entries = no_line number;
  told = tt;
  text_is = refl;
  keeps = subst (λ (l : List Accepted). KeepsFirsts n l (s.entries).pairs) (sym (append-nil seen)) after.keeps;
  order = after.order;
  foreign_is = omega arith;
  repeated_is = omega arith;
  refused_is = omega arith;
})
followed n seen number [] (reply ∷ replies) s last after e = absurd e
followed n seen number (line ∷ lines) [] s last after e = absurd e
followed n seen number (line ∷ lines) (reply ∷ replies) s last after e =
    one_line n seen number line lines s reply.pieces reply.refused e.0 (text_of replies) last after e.1
    (λ now later. followed n now (number + 1) lines replies e.0 last later e.2)
