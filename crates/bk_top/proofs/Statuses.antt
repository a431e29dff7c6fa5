-- The status of a run says how it ended.
use Rattle.std.proofs.Common.{ap, cond, false, inl, inr, subst, refl, sym, true, ℕ, ◌==◌, ◌∙◌, ◌≡◌, ◌⊎◌}
use Rattle.std.specs.Prelude.{List, Option, Some, length, ◌<◌, ◌↔◌, ◌≤◌, IsSomeAnd}
use Rattle.bk_ports.proofs.CountedFaults.{calm_is_done}
use Rattle.bk_ports.proofs.TakenBytes.{TookBy, ends_took, more_come, too_many_exactly}
use Rattle.bk_ports.specs.Deciding.{TookTooMany}
use Rattle.bk_ports.specs.Ending.{EndsWith, Output, Streams}
use Rattle.bk_ports.specs.Faults.{CountsTell, Faults, HasNoFault, IsCalm, IsDoneOrWanting}
use Rattle.bk_ports.specs.declared.Ended.{Ended}
use Rattle.bk_ports.specs.declared.Ended.TheVariants.{NoMemory, NoneRefused, ReadFailed, SomeRefused, TooMany, WriteFailed}
use Rattle.bk_ports.specs.declared.input.TheConstants.{MOST_BYTES}
use Rattle.bk_top.specs.Outside.{Outside, faults_of, status_of}
use Rattle.bk_top.specs.ReadsToEnd.{ReadsToEnd}

-- each status belongs to one ending
named_by : ℕ → Ended
named_by n = cond (n == 0) NoneRefused (cond (n == 1) SomeRefused (cond (n == 3) ReadFailed (cond (n == 4) WriteFailed (cond (n == 6) NoMemory TooMany))))

named_ending : (ended : Ended) → named_by (status_of ended) ≡ ended
unfolding named_by
named_ending NoneRefused = refl
named_ending SomeRefused = refl
named_ending ReadFailed = refl
named_ending WriteFailed = refl
named_ending NoMemory = refl
named_ending TooMany = refl

-- a status is that of one ending
pub one_ending : (status : ℕ) (a b : Ended) → status ≡ status_of a → status ≡ status_of b → a ≡ b
one_ending status a b p q = sym (named_ending a) ∙ ap named_by (sym p ∙ q) ∙ named_ending b

-- where more bytes come and no call fails, the status is 7 or 6; and it is 7 exactly where too many were taken
module _ (streams : Streams) (input : List ℕ) (tells : streams.left ≡ Some input) (ended : Ended) (status : ℕ) (s : status ≡ status_of ended)
    (took : TookBy streams ended) where
  -- more bytes came than may be taken
  pub more_status : (ended ≡ ReadFailed → ⊥) → (ended ≡ WriteFailed → ⊥) → MOST_BYTES < length input → (status ≡ 7) ⊎ (status ≡ 6)
  more_status reads writes many =
      elim (more_come streams input tells many ended took reads writes) [ inl e ↦ inl (s ∙ ap status_of e) | inr e ↦ inr (s ∙ ap status_of e) ]

  -- the status is 7 exactly where too many were taken
  pub exactly_seven : status ≡ 7 ↔ TookTooMany streams.left streams.left_after
  exactly_seven =
      let exactly = too_many_exactly streams input tells ended took in (
        λ (seven : status ≡ 7). exactly.0 (one_ending status ended TooMany s seven),
        λ (many : TookTooMany streams.left streams.left_after). s ∙ ap status_of (exactly.1 many),
      )

-- where all was read, the status is 0 or 1
done_status : (ended : Ended) (status : ℕ) → status ≡ status_of ended → IsDoneOrWanting ended → (status ≡ 0) ⊎ ((status ≡ 1) ⊎ (status ≡ 6))
done_status ended status s (inl (false, e)) = inl (s ∙ ap status_of e)
done_status ended status s (inl (true, e)) = inr (inl (s ∙ ap status_of e))
done_status ended status s (inr e) = inr (inr (s ∙ ap status_of e))

-- all that the statuses say of a run that reads lines to their end
pub reads_to_end : (output : Output) (streams : Streams) (faults : Faults) (ended : Ended) (status : ℕ) → status ≡ status_of ended
    → EndsWith output streams ended → CountsTell ended faults → ReadsToEnd output streams faults status
reads_to_end output streams faults ended status s ends tell = record {
  ended = ended;
  status_is = s;
  ending = ends;
  counts = tell;
  complete = λ calm. done_status ended status s (calm_is_done output streams faults ended ends tell calm);
  more = λ input tells many none.
      more_status streams input tells ended status s (ends_took output streams ended ends)
      (λ e. none.reads (subst (λ (x : Ended). CountsTell x faults) e tell).0) (λ e. none.writes (subst (λ (x : Ended). CountsTell x faults) e tell).1) many;
  exactly_7 = λ input tells. exactly_seven streams input tells ended status s (ends_took output streams ended ends);
}

-- what each ending says of such a run, by its status
pub ending_at : (output : Output) (streams : Streams) (faults : Faults) (status : ℕ) → ReadsToEnd output streams faults status → (ended : Ended)
    → status ≡ status_of ended → EndsWith output streams ended
ending_at output streams faults status reads ended s =
    subst (λ (e : Ended). EndsWith output streams e) (one_ending status reads.ended ended reads.status_is s) reads.ending

-- where no call fails and at most 2^30 bytes come
pub is_calm : (before after : Outside) (input : List ℕ) → before.source.bytes ≡ Some input → length input ≤ MOST_BYTES → HasNoFault (faults_of before after)
    → IsCalm before.source.bytes (faults_of before after)
is_calm before after input tells few none = record {
  no_fault = none;
  within = subst (λ (l : Option (List ℕ)). IsSomeAnd l (λ bytes. length bytes ≤ MOST_BYTES)) (sym tells) few;
}

-- the status is 1 where it is neither 0 nor 6
pub one_of_three : (P : Type 0) (status : ℕ) → (status ≡ 0 → P → ⊥) → P → (status ≡ 6 → ⊥) → (status ≡ 0) ⊎ ((status ≡ 1) ⊎ (status ≡ 6)) → status ≡ 1
one_of_three P status not p other (inl zero) = absurd (not zero p)
one_of_three P status not p other (inr (inl one)) = one
one_of_three P status not p other (inr (inr six)) = absurd (other six)
