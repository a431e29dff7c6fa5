-- The order of the calls of a program whose runs end as said, whatever its calls give.
use Rattle.std.proofs.Common.{◌≡◌, ℕ, ◌+◌, ◌≤◌, ◌++◌, ◌∷◌, ◌∙◌, [], Bool, List, Some, ap, arith, refl, subst, sym}
use Rattle.std.proofs.lemmas.Grind.{flat_map-append}
use Rattle.std.proofs.lemmas.List.{append_cancel_right, append-nil}
use Rattle.bk_ports.specs.CallLaws.{AfterAFailedCallTheOtherStreamIsLeft, EachLineIsAnsweredBeforeTheNextRead}
use Rattle.bk_ports.specs.Calls.{Call, EndsAsSaid, GiveAllBytes, MakesCalls, Program, bytes_given, bytes_written, ends, failed_reads}
use Rattle.bk_ports.specs.Calls.{failed_writes, faults_by, gave, gave_nothing, given_by, kept, reads, streams_by, took, writes, written_by}
use Rattle.bk_ports.specs.Ending.{EndsWith, Output}
use Rattle.bk_ports.specs.Faults.{CountsTell, faults_told}
use Rattle.bk_ports.specs.Lines.{closed_lines}
use Rattle.bk_ports.specs.declared.Ended.{Ended}
use Rattle.bk_ports.specs.declared.Ended.TheVariants.{NoMemory, NoneRefused, ReadFailed, SomeRefused, TooMany, WriteFailed}

-- one more than a sum
one_more : (c a b : ℕ) → c ≡ a + b → c + 1 ≡ (a + 1) + b
one_more c a b e = omega (arith, e)

-- failed reads of calls one after another add up
failed_reads_append : (a b : List Call) → failed_reads (a ++ b) ≡ failed_reads a + failed_reads b
failed_reads_append [] b = omega arith
failed_reads_append (gave bytes ∷ a) b = failed_reads_append a b
failed_reads_append (gave_nothing ∷ a) b =
    let e : failed_reads (a ++ b) ≡ failed_reads a + failed_reads b = failed_reads_append a b in
    one_more (failed_reads (a ++ b)) (failed_reads a) (failed_reads b) e
failed_reads_append (took bytes ∷ a) b = failed_reads_append a b
failed_reads_append (kept bytes ∷ a) b = failed_reads_append a b

-- failed writes of calls one after another add up
failed_writes_append : (a b : List Call) → failed_writes (a ++ b) ≡ failed_writes a + failed_writes b
failed_writes_append [] b = omega arith
failed_writes_append (gave bytes ∷ a) b = failed_writes_append a b
failed_writes_append (gave_nothing ∷ a) b = failed_writes_append a b
failed_writes_append (took bytes ∷ a) b = failed_writes_append a b
failed_writes_append (kept bytes ∷ a) b =
    let e : failed_writes (a ++ b) ≡ failed_writes a + failed_writes b = failed_writes_append a b in
    one_more (failed_writes (a ++ b)) (failed_writes a) (failed_writes b) e

-- calls after calls
goes_on_further : (p q r : Program) (a b : List Call) → MakesCalls p a q → MakesCalls q b r → MakesCalls p (a ++ b) r
goes_on_further p q r [] b first then = subst (λ (x : Program). MakesCalls x b r) first then
goes_on_further (ends ended) q r (c ∷ a) b first then = absurd first
goes_on_further (reads room on otherwise) q r (gave bytes ∷ a) b first then =
    (first.0, goes_on_further (on bytes) q r a b first.1 then)
goes_on_further (reads room on otherwise) q r (gave_nothing ∷ a) b first then = goes_on_further otherwise q r a b first then
goes_on_further (reads room on otherwise) q r (took bytes ∷ a) b first then = absurd first
goes_on_further (reads room on otherwise) q r (kept bytes ∷ a) b first then = absurd first
goes_on_further (writes piece on otherwise) q r (gave bytes ∷ a) b first then = absurd first
goes_on_further (writes piece on otherwise) q r (gave_nothing ∷ a) b first then = absurd first
goes_on_further (writes piece on otherwise) q r (took bytes ∷ a) b first then =
    (first.0, goes_on_further on q r a b first.1 then)
goes_on_further (writes piece on otherwise) q r (kept bytes ∷ a) b first then =
    (first.0, goes_on_further otherwise q r a b first.1 then)

-- calls that take nothing leave the source with the same bytes
give_all_further : (a b : List Call) (rest : List ℕ) → GiveAllBytes a rest → GiveAllBytes b rest → bytes_given b ≡ [] → GiveAllBytes (a ++ b) rest
give_all_further [] b rest ga gb none = gb
give_all_further (gave [] ∷ a) b rest ga gb none = (
  ap (λ (l : List ℕ). l ++ rest)
      (flat_map-append given_by a b ∙ ap (λ (l : List ℕ). bytes_given a ++ l) none ∙ append-nil (bytes_given a))
      ∙ ga.0,
  give_all_further a b rest ga.1 gb none,
)
give_all_further (gave (x ∷ xs) ∷ a) b rest ga gb none = give_all_further a b rest ga gb none
give_all_further (gave_nothing ∷ a) b rest ga gb none = give_all_further a b rest ga gb none
give_all_further (took bytes ∷ a) b rest ga gb none = give_all_further a b rest ga gb none
give_all_further (kept bytes ∷ a) b rest ga gb none = give_all_further a b rest ga gb none

-- no ending tells that both counts rose
not_both : (ended : Ended) (r w : ℕ) → CountsTell ended (faults_told 0 r 0 w) → 1 ≤ r → 1 ≤ w → ⊥
not_both NoneRefused r w tell a b = let e = tell.0 in omega (arith, e, a)
not_both SomeRefused r w tell a b = let e = tell.0 in omega (arith, e, a)
not_both ReadFailed r w tell a b = let e = tell.1 in omega (arith, e, b)
not_both WriteFailed r w tell a b = let e = tell.0 in omega (arith, e, a)
not_both NoMemory r w tell a b = let e = tell.0 in omega (arith, e, a)
not_both TooMany r w tell a b = let e = tell.0 in omega (arith, e, a)

-- where a read failed and no write, the run ended for that
module _ (output : Output) (program : Program) (said : EndsAsSaid output program) (rest : List ℕ) where
  -- a failed read adds itself and nothing else
  module _ (calls : List Call) where
    read_more : bytes_given (calls ++ gave_nothing ∷ []) ≡ bytes_given calls
    read_more = flat_map-append given_by calls (gave_nothing ∷ []) ∙ append-nil (bytes_given calls)

    write_same : bytes_written (calls ++ gave_nothing ∷ []) ≡ bytes_written calls
    write_same = flat_map-append written_by calls (gave_nothing ∷ []) ∙ append-nil (bytes_written calls)

  -- no run is left with a failed read and a failed write
  no_end : (next : Program) (calls : List Call) → MakesCalls program calls next → GiveAllBytes calls rest → 1 ≤ failed_reads calls → 1 ≤ failed_writes calls → ⊥
  no_end (ends ended) calls on all r w = not_both ended (failed_reads calls) (failed_writes calls) (said calls rest ended on all).1 r w
  no_end (reads room go otherwise) calls on all r w =
      let more = calls ++ gave_nothing ∷ [] in
      let er : failed_reads more ≡ failed_reads calls + 1 = failed_reads_append calls (gave_nothing ∷ []) in
      let ew : failed_writes more ≡ failed_writes calls + 0 = failed_writes_append calls (gave_nothing ∷ []) in
      no_end otherwise more (goes_on_further program (reads room go otherwise) otherwise calls (gave_nothing ∷ []) on refl)
      (give_all_further calls (gave_nothing ∷ []) rest all tt refl) (omega (arith, er, r)) (omega (arith, ew, w))
  no_end (writes piece go otherwise) calls on all r w =
      let more = calls ++ kept [] ∷ [] in
      let er : failed_reads more ≡ failed_reads calls + 0 = failed_reads_append calls (kept [] ∷ []) in
      let ew : failed_writes more ≡ failed_writes calls + 1 = failed_writes_append calls (kept [] ∷ []) in
      no_end otherwise more (goes_on_further program (writes piece go otherwise) otherwise calls (kept [] ∷ []) on ((0, refl), refl))
      (give_all_further calls (kept [] ∷ []) rest all tt refl) (omega (arith, er, r)) (omega (arith, ew, w))

  -- where a read failed, the run doesn't write any more
  no_write_more : (piece : List ℕ) (go otherwise : Program) (calls : List Call) → MakesCalls program calls (writes piece go otherwise)
      → GiveAllBytes calls rest → 1 ≤ failed_reads calls → ⊥
  no_write_more piece go otherwise calls on all r =
      let more = calls ++ kept [] ∷ [] in
      let er : failed_reads more ≡ failed_reads calls + 0 = failed_reads_append calls (kept [] ∷ []) in
      let ew : failed_writes more ≡ failed_writes calls + 1 = failed_writes_append calls (kept [] ∷ []) in
      no_end otherwise more (goes_on_further program (writes piece go otherwise) otherwise calls (kept [] ∷ []) on ((0, refl), refl))
      (give_all_further calls (kept [] ∷ []) rest all tt refl) (omega (arith, er, r)) (omega (arith, ew))

  -- where a write failed, the run doesn't read any more
  no_read_more : (room : ℕ) (go : List ℕ → Program) (otherwise : Program) (calls : List Call) → MakesCalls program calls (reads room go otherwise)
      → GiveAllBytes calls rest → 1 ≤ failed_writes calls → ⊥
  no_read_more room go otherwise calls on all w =
      let more = calls ++ gave_nothing ∷ [] in
      let er : failed_reads more ≡ failed_reads calls + 1 = failed_reads_append calls (gave_nothing ∷ []) in
      let ew : failed_writes more ≡ failed_writes calls + 0 = failed_writes_append calls (gave_nothing ∷ []) in
      no_end otherwise more (goes_on_further program (reads room go otherwise) otherwise calls (gave_nothing ∷ []) on refl)
      (give_all_further calls (gave_nothing ∷ []) rest all tt refl) (omega (arith, er)) (omega (arith, ew, w))

  -- what stands written where a read failed
  abbrev Stands : List Call → Type 0
  Stands calls = (refused : Bool) × output.lines (closed_lines [] (bytes_given calls)) refused (Some []) (Some (bytes_written calls))

  -- calls that give and write the same have the same written
  stands_same : (a b : List Call) → bytes_given a ≡ bytes_given b → bytes_written a ≡ bytes_written b → Stands a → Stands b
  stands_same a b g w (refused, h) = (
    refused,
    subst (λ (l : List ℕ). output.lines (closed_lines [] (bytes_given b)) refused (Some []) (Some l)) w
        (subst (λ (l : List ℕ). output.lines (closed_lines [] l) refused (Some []) (Some (bytes_written a))) g h),
  )

  -- the run ended with a failed read
  ended_there : (ended : Ended) (calls : List Call) → EndsWith output (streams_by calls rest) ended → CountsTell ended (faults_by calls)
      → 1 ≤ failed_reads calls → Stands calls
  ended_there NoneRefused calls h tell r = let e = tell.0 in absurd (omega (arith, e, r))
  ended_there SomeRefused calls h tell r = let e = tell.0 in absurd (omega (arith, e, r))
  ended_there WriteFailed calls h tell r = let e = tell.0 in absurd (omega (arith, e, r))
  ended_there NoMemory calls h tell r = let e = tell.0 in absurd (omega (arith, e, r))
  ended_there TooMany calls h tell r = let e = tell.0 in absurd (omega (arith, e, r))
  ended_there ReadFailed calls h tell r =
      let same : h.input ≡ bytes_given calls = sym (append_cancel_right (bytes_given calls) h.input rest h.taken) in (
        h.refused,
        subst (λ (l : List ℕ). output.lines (closed_lines [] l) h.refused (Some []) (Some (bytes_written calls))) same h.written,
      )

  -- where a read failed, what is written for the lines whose line feed was taken stands there
  stands_after : (next : Program) (calls : List Call) → MakesCalls program calls next → GiveAllBytes calls rest → 1 ≤ failed_reads calls → Stands calls
  stands_after (ends ended) calls on all r =
      let s = said calls rest ended on all in ended_there ended calls s.0 s.1 r
  stands_after (reads room go otherwise) calls on all r =
      let more = calls ++ gave_nothing ∷ [] in
      let er : failed_reads more ≡ failed_reads calls + 1 = failed_reads_append calls (gave_nothing ∷ []) in
      stands_same more calls (read_more calls) (write_same calls)
      (stands_after otherwise more (goes_on_further program (reads room go otherwise) otherwise calls (gave_nothing ∷ []) on refl)
      (give_all_further calls (gave_nothing ∷ []) rest all tt refl) (omega (arith, er)))
  stands_after (writes piece go otherwise) calls on all r = absurd (no_write_more piece go otherwise calls on all r)

-- before each read, what is written for the lines whose line feed was taken stands there, and nothing else
pub each_line_answered : (output : Output) → EachLineIsAnsweredBeforeTheNextRead output
each_line_answered output program said calls rest room go otherwise on all =
    let more = calls ++ gave_nothing ∷ [] in
    let er : failed_reads more ≡ failed_reads calls + 1 = failed_reads_append calls (gave_nothing ∷ []) in
    stands_same output program said rest more calls (read_more output program said rest calls) (write_same output program said rest calls)
    (stands_after output program said rest otherwise more
    (goes_on_further program (reads room go otherwise) otherwise calls (gave_nothing ∷ []) on refl)
    (give_all_further calls (gave_nothing ∷ []) rest all tt refl) (omega (arith, er)))

-- a number that isn't at least 1 is 0
zero_else : (n : ℕ) → (1 ≤ n → ⊥) → n ≡ 0
zero_else n not = grind arith

-- once a read failed nothing is written, and once a write failed nothing is read
pub other_stream_left : (output : Output) → AfterAFailedCallTheOtherStreamIsLeft output
other_stream_left output program said calls rest all = (
  λ piece go otherwise on. zero_else (failed_reads calls) (no_write_more output program said rest piece go otherwise calls on all),
  λ room go otherwise on. zero_else (failed_writes calls) (no_read_more output program said rest room go otherwise calls on all),
)
