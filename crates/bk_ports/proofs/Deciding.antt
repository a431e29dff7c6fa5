-- How a run over lines ends follows from its lines, where the source tells its bytes.
use Rattle.std.proofs.Common.{Bool, List, Some, [], arith, false, inl, inr, refl, subst, sym, true, ℕ, ◌∙◌, ◌∷◌, ◌≡◌}
use Rattle.std.specs.Prelude.{Contains}
use Rattle.std.specs.Io.KnownBytes.{Consumes, IsAtEnd}
use Rattle.std.proofs.lemmas.Bool.{or_parts, true≢false}
use Rattle.std.proofs.lemmas.List.Elements.{Contains-append_left, Contains-append_right}
use Rattle.bk_laws.proofs.Membership.{contains-first, contains-first_or_later, contains-later}
use Rattle.bk_laws.proofs.Truth.{or-right_of_false}
use Rattle.bk_ports.specs.Answered.{AreAnswered, Replies, answers_of}
use Rattle.bk_ports.specs.Deciding.{HasRefused, HasWanting}
use Rattle.bk_ports.specs.Ending.{EndsWith, IsStoppedAt, Streams}
use Rattle.bk_ports.specs.Lines.{lines_of}
use Rattle.bk_ports.specs.Reply.{AreReplies, Reply, some_refused}
use Rattle.bk_ports.specs.declared.Ended.TheVariants.{NoneRefused, SomeRefused}
use Rattle.bk_ports.proofs.TakenBytes.{read_front, taken_all}

-- ---- which line is refused

-- a line has one reply
abbrev pub HasOneReply : (List ℕ → List (List ℕ) → Bool → Type 0) → Type 0
HasOneReply answers = (line : List ℕ) (pieces others : List (List ℕ)) (p q : Bool) → answers line pieces p → answers line others q → (pieces ≡ others) × (p ≡ q)

module _ (replies : Replies) where
  here_or_later : (line : List ℕ) (lines : List (List ℕ)) (r : Reply) → replies.answers line r.pieces r.refused → (p : Bool)
      → r.refused ≡ p → (r.refused ≡ false → HasRefused replies lines) → HasRefused replies (line ∷ lines)
  here_or_later line lines r answer true e later =
      (line, contains-first line lines, r.pieces, subst (λ (q : Bool). replies.answers line r.pieces q) e answer)
  here_or_later line lines r answer false e later =
      let found = later e in
      (found.0, contains-later line lines found.0 found.1, found.2, found.3)

  -- where some reply is a refusal, some line is refused
  refused_line : (lines : List (List ℕ)) (given : List Reply) → AreReplies replies.answers lines given
      → some_refused given ≡ true → HasRefused replies lines
  refused_line [] [] are some = absurd (true≢false (sym some))
  refused_line [] (r ∷ rs) are some = absurd are
  refused_line (line ∷ lines) [] are some = absurd are
  refused_line (line ∷ lines) (r ∷ rs) are some =
      here_or_later line lines r are.0 r.refused refl
      (λ e. refused_line lines rs are.1 (or-right_of_false r.refused (some_refused rs) e some))

  -- where no reply is one, no line is refused
  none_refused : HasOneReply replies.answers → (lines : List (List ℕ)) (given : List Reply) → AreReplies replies.answers lines given
      → some_refused given ≡ false → HasRefused replies lines → ⊥
  none_refused one [] [] are none found = omega (arith, found.1.1)
  none_refused one [] (r ∷ rs) are none found = absurd are
  none_refused one (line ∷ lines) [] are none found = absurd are
  none_refused one (line ∷ lines) (r ∷ rs) are none found =
      let parts = or_parts r.refused (some_refused rs) none in
      elim (contains-first_or_later line lines found.0 found.1) [
        | inl e ↦
            let own : replies.answers line found.2 true = subst (λ (l : List ℕ). replies.answers l found.2 true) (sym e) found.3 in
            true≢false ((one line found.2 r.pieces true r.refused own are.0).1 ∙ parts.0)
        | inr later ↦ none_refused one lines rs are.1 parts.1 (found.0, later, found.2, found.3)
      ]

-- ---- the endings

module _ (replies : Replies) (streams : Streams) (input : List ℕ) (tells : streams.left ≡ Some input) where
  -- memory was wanting at a line of the input
  pub memory_wanting_at_a_line_of_the_input : IsStoppedAt (answers_of replies).short streams → HasWanting replies (lines_of input)
  memory_wanting_at_a_line_of_the_input h =
      let s = h.written in
      let front = read_front input streams.left streams.left_after tells h.input h.lines h.taken h.read in
      let here : Contains h.lines s.line =
      subst (λ (l : List (List ℕ)). Contains l s.line) (sym s.split)
      (Contains-append_right s.done (s.line ∷ s.unseen) s.line (contains-first s.line s.unseen)) in (
        s.line,
        subst (λ (l : List (List ℕ)). Contains l s.line) (sym front.1) (Contains-append_left h.lines front.0 s.line here),
        s.cause.1,
      )

  -- all lines of the input are answered
  all_answered : (p : Bool) (taken : List ℕ) → Consumes streams.left streams.left_after taken → IsAtEnd streams.left_after
      → AreAnswered (AreReplies replies.answers) (lines_of taken) p streams.written streams.written_after
      → AreAnswered (AreReplies replies.answers) (lines_of input) p streams.written streams.written_after
  all_answered p taken h at_end answered =
      subst (λ (l : List ℕ). AreAnswered (AreReplies replies.answers) (lines_of l) p streams.written streams.written_after)
      (sym (taken_all input streams.left streams.left_after tells taken h at_end)) answered

  -- some of them are refused or none, as the ending says
  pub refused_some : EndsWith (answers_of replies) streams SomeRefused → HasRefused replies (lines_of input)
  refused_some h =
      let a = all_answered true h.input h.taken h.at_end h.written in
      refused_line replies (lines_of input) a.replies a.each a.any

  -- where the ending says that none was, no line is refused
  pub refused_none : HasOneReply replies.answers → EndsWith (answers_of replies) streams NoneRefused → HasRefused replies (lines_of input) → ⊥
  refused_none one h =
      let a = all_answered false h.input h.taken h.at_end h.written in
      none_refused replies one (lines_of input) a.replies a.each a.any
