-- A list that was read to its end, and what is written behind it.
use Rattle.std.specs.List.{concat}
use Rattle.std.specs.Prelude.{Err, Ok, OnErr, OnOk, Result}
use Rattle.std.proofs.Common.{List, Option, Bool, false, inl, inr, refl, subst, sym, true, ℕ, ◌++◌, ◌≡◌, ◌⊎◌}
use Rattle.bk_laws.proofs.Bytes.{appends-then}
use Rattle.bk_ports.proofs.KnownSteps.{prefix_after}
use Rattle.bk_ports.specs.Causes.{HasCause, Rose}
use Rattle.bk_ports.specs.declared.Failed.{Failed}
use Rattle.bk_ports.proofs.OtherOutputs.{IsStop, stops_as, whole_behind}
use Rattle.bk_ports.specs.Ending.{EndsWith, HasVerdict, IsReadWhole, Streams, streams_told}
use Rattle.bk_ports.specs.Entering.{AreAllEntered, entering_from, entries_of}
use Rattle.bk_ports.specs.Faults.{CountsTell, faults_told}
use Rattle.bk_ports.specs.Reply.{text_of}
use Rattle.bk_ports.specs.declared.Ended.{Ended}
use Rattle.bk_ports.specs.declared.Ended.TheVariants.{NoMemory, NoneRefused, ReadFailed, SomeRefused, TooMany, WriteFailed}
use Rattle.bk_alike.specs.GroupsEnd.{IsListText, closing_lines, list_output}
use Rattle.bk_alike.specs.Listed.{Listed, listing_start}
use Rattle.bk_alike.specs.declared.Wanted.{Wanted}
use Rattle.bk_alike.specs.WrittenLines.{WritesLines}

-- all lines are entered
abbrev pub IsVerdict : Ended → Type 0
IsVerdict NoneRefused = Unit {0}
IsVerdict SomeRefused = Unit {0}
IsVerdict _ = ⊥

-- a run that ends with none or some refused has a verdict
pub verdict_told : (ended : Ended) → (ended ≡ NoneRefused) ⊎ (ended ≡ SomeRefused) → IsVerdict ended
verdict_told ended (inl e) = subst IsVerdict (sym e) tt
verdict_told ended (inr e) = subst IsVerdict (sym e) tt

-- what was entered into a list without items or refused lines yet was entered from the start
pub entered_from_the_start_of_listing : (s last : Listed) (streams : Streams) (ended : Ended) → s ≡ listing_start.state
    → EndsWith (entries_of (entering_from listing_start.rules s 1) last) streams ended → EndsWith (entries_of listing_start last) streams ended
entered_from_the_start_of_listing s last streams ended = subst
    (λ (t : Listed). EndsWith (entries_of (entering_from listing_start.rules t 1) last) streams ended)

-- a run that stops at its lines
pub stops_listing : (wanted : Wanted) (last : Listed) (streams : Streams) (ended : Ended) → IsStop ended
    → EndsWith (entries_of listing_start last) streams ended → EndsWith (list_output wanted) streams ended
stops_listing wanted last =
    stops_as (entries_of listing_start last) (list_output wanted)
    (record {
      lines = λ lines refused a b all. record { replies = all.replies; each = (last, all.each); written = all.written; any = all.any };
      begun = λ lines a b begun. begun;
      begun_behind = λ lines a b none. absurd none;
      short = λ lines a b short. short;
    })

module _ (wanted : Wanted) (last : Listed) (left left_after a b c : Option (List ℕ)) where
  -- the text of a list whose lines are all entered
  list_text : (refused : Bool) (lines : List (List ℕ)) → (h : AreAllEntered listing_start last lines refused a b)
      → IsListText wanted lines refused (text_of h.replies ++ concat (closing_lines wanted last))
  list_text refused lines h = record { replies = h.replies; last = last; each = h.each; any = h.any; text_is = refl }

  listed : (refused : Bool) (lines : List (List ℕ)) → (r : Result (Unit {0}) Failed) → WritesLines (closing_lines wanted last) b c r → r ≡ Ok tt
      → AreAllEntered listing_start last lines refused a b → (list_output wanted).whole lines refused a c
  listed refused lines (Ok x) w e h = (
    text_of h.replies ++ concat (closing_lines wanted last),
    list_text refused lines h,
    appends-then a b c (text_of h.replies) (concat (closing_lines wanted last)) (text_of h.replies ++ concat (closing_lines wanted last))
        h.written w refl,
  )
  listed refused lines (Err f) w e h = absurd (cc)

  broken : (refused : Bool) (lines : List (List ℕ)) → (r : Result (Unit {0}) Failed) → WritesLines (closing_lines wanted last) b c r → (f : Failed)
      → r ≡ Err f → AreAllEntered listing_start last lines refused a b → (list_output wanted).begun_behind lines a c
  broken refused lines (Ok x) w f e h = absurd (cc)
  broken refused lines (Err g) w f e h = (
    refused,
    text_of h.replies ++ concat (closing_lines wanted last),
    list_text refused lines h,
    prefix_after a b c (text_of h.replies) (concat (closing_lines wanted last)) h.written w,
  )

  listed_behind : (refused : Bool) → (r : Result (Unit {0}) Failed) → WritesLines (closing_lines wanted last) b c r → r ≡ Ok tt
      → IsReadWhole (λ lines. AreAllEntered listing_start last lines refused) (streams_told left left_after a b)
      → IsReadWhole (λ lines. (list_output wanted).whole lines refused) (streams_told left left_after a c)
  listed_behind refused r w e all =
      whole_behind (λ lines. AreAllEntered listing_start last lines refused) (λ lines. (list_output wanted).whole lines refused)
      left left_after a b c all (λ lines. listed refused lines r w e)

  closing_broken : (refused : Bool) → (r : Result (Unit {0}) Failed) → WritesLines (closing_lines wanted last) b c r → (f : Failed) → r ≡ Err f
      → IsReadWhole (λ lines. AreAllEntered listing_start last lines refused) (streams_told left left_after a b)
      → IsReadWhole (list_output wanted).begun_behind (streams_told left left_after a c)
  closing_broken refused r w f e all =
      whole_behind (λ lines. AreAllEntered listing_start last lines refused) (list_output wanted).begun_behind left left_after a b c all
      (λ lines. broken refused lines r w f e)

  -- where all lines are entered, and what is wanted was written or not
  pub closes_well : (ended : Ended) → EndsWith (entries_of listing_start last) (streams_told left left_after a b) ended → IsVerdict ended
      → (r : Result (Unit {0}) Failed) → WritesLines (closing_lines wanted last) b c r → r ≡ Ok tt
      → EndsWith (list_output wanted) (streams_told left left_after a c) ended
  closes_well NoneRefused h v r w e = listed_behind false r w e h
  closes_well SomeRefused h v r w e = listed_behind true r w e h
  closes_well ReadFailed h v r w e = absurd v
  closes_well WriteFailed h v r w e = absurd v
  closes_well NoMemory h v r w e = absurd v
  closes_well TooMany h v r w e = absurd v

  -- a listing with a verdict whose closing lines can't be written ends with a failed write
  pub closes_broken : (ended : Ended) → EndsWith (entries_of listing_start last) (streams_told left left_after a b) ended → IsVerdict ended
      → (r : Result (Unit {0}) Failed) → WritesLines (closing_lines wanted last) b c r → (f : Failed) → r ≡ Err f
      → EndsWith (list_output wanted) (streams_told left left_after a c) WriteFailed
  closes_broken NoneRefused h v r w f e = inr (closing_broken false r w f e h)
  closes_broken SomeRefused h v r w f e = inr (closing_broken true r w f e h)
  closes_broken ReadFailed h v r w f e = absurd v
  closes_broken WriteFailed h v r w f e = absurd v
  closes_broken NoMemory h v r w f e = absurd v
  closes_broken TooMany h v r w f e = absurd v

-- a run that comes to an end of its lines has a verdict
pub has_verdict : (ended : Ended) → IsVerdict ended → HasVerdict ended
has_verdict NoneRefused v = (false, refl)
has_verdict SomeRefused v = (true, refl)
has_verdict ReadFailed v = absurd v
has_verdict WriteFailed v = absurd v
has_verdict NoMemory v = absurd v
has_verdict TooMany v = absurd v

module _ (read read_after write between now : ℕ) where
  -- no count rises at the lines of such a run
  no_fault : (ended : Ended) → IsVerdict ended → CountsTell ended (faults_told read read_after write between) → (read_after ≡ read) × (between ≡ write)
  no_fault NoneRefused v h = h
  no_fault SomeRefused v h = h
  no_fault ReadFailed v h = absurd v
  no_fault WriteFailed v h = absurd v
  no_fault NoMemory v h = absurd v
  no_fault TooMany v h = absurd v

  -- none where what is wanted was written
  pub well_told : (ended : Ended) → CountsTell ended (faults_told read read_after write between) → (r : Result (Unit {0}) Failed)
      → HasCause between now r → r ≡ Ok tt → CountsTell ended (faults_told read read_after write now)
  well_told ended h r cause e = subst (λ (n : ℕ). CountsTell ended (faults_told read read_after write n))
      (sym (subst (λ (w : Result (Unit {0}) Failed). OnOk w (now ≡ between)) e cause.ok)) h

  -- where what is wanted was not written, the counts of faults tell that a write failed
  pub badly_told : (ended : Ended) → IsVerdict ended → CountsTell ended (faults_told read read_after write between) → (r : Result (Unit {0}) Failed)
      → HasCause between now r → (f : Failed) → r ≡ Err f → CountsTell WriteFailed (faults_told read read_after write now)
  badly_told ended v h r cause f e =
      let calm = no_fault ended v h in (
        calm.0,
        subst (λ (n : ℕ). Rose n now) calm.1 (subst (λ (w : Result (Unit {0}) Failed). OnErr w (Rose between now)) e cause.failed),
      )
