-- Where what one run writes is what another writes, the endings of the one are those of the other.
use Rattle.std.proofs.Common.{Bool, List, Option, false, inl, inr, subst, sym, true, ℕ, ◌≡◌, ◌⊎◌}
use Rattle.bk_ports.specs.Ending.{EndsWith, IsReadWhole, IsStoppedAt, OfWritten, Output, Streams, streams_told}
use Rattle.bk_ports.specs.declared.Ended.{Ended}
use Rattle.bk_ports.specs.declared.Ended.TheVariants.{NoMemory, NoneRefused, ReadFailed, SomeRefused, TooMany, WriteFailed}

-- what one run writes is what another writes, as far as the input wasn't read to its end, or a write failed
pub record StopsAs (one other : Output) : Type 0 where
  pub lines : (lines : List (List ℕ)) (refused : Bool) (a b : Option (List ℕ)) → one.lines lines refused a b → other.lines lines refused a b
  pub begun : (lines : List (List ℕ)) (a b : Option (List ℕ)) → one.begun lines a b → other.begun lines a b
  pub begun_behind : (lines : List (List ℕ)) (a b : Option (List ℕ)) → one.begun_behind lines a b → other.begun_behind lines a b
  pub short : (lines : List (List ℕ)) (a b : Option (List ℕ)) → one.short lines a b → other.short lines a b

-- what one run writes is what another writes, also where the input was read to its end
pub record EndsAs (one other : Output) : Type 0 where
  pub stops : StopsAs one other
  pub whole : (lines : List (List ℕ)) (refused : Bool) (a b : Option (List ℕ)) → one.whole lines refused a b → other.whole lines refused a b

-- an ending at which the whole output isn't there
abbrev pub IsStop : Ended → Type 0
IsStop NoneRefused = ⊥
IsStop SomeRefused = ⊥
IsStop _ = Unit {0}

-- a run that ends in one of these four ways stops
pub stop_told : (ended : Ended) → (ended ≡ ReadFailed) ⊎ ((ended ≡ WriteFailed) ⊎ ((ended ≡ NoMemory) ⊎ (ended ≡ TooMany))) → IsStop ended
stop_told ended (inl e) = subst IsStop (sym e) tt
stop_told ended (inr (inl e)) = subst IsStop (sym e) tt
stop_told ended (inr (inr (inl e))) = subst IsStop (sym e) tt
stop_told ended (inr (inr (inr e))) = subst IsStop (sym e) tt

-- what stands written of all lines is also something else that is said of them
whole_as : (One Other : List (List ℕ) → OfWritten) (streams : Streams)
    → ((lines : List (List ℕ)) (a b : Option (List ℕ)) → One lines a b → Other lines a b) → IsReadWhole One streams → IsReadWhole Other streams
whole_as One Other streams more h = record {
  input = h.input;
  taken = h.taken;
  at_end = h.at_end;
  within = h.within;
  written = more _ streams.written streams.written_after h.written;
}

-- what stands written of the lines that were read is also something else that is said of them
stopped_as : (One Other : List (List ℕ) → OfWritten) (streams : Streams)
    → ((lines : List (List ℕ)) (a b : Option (List ℕ)) → One lines a b → Other lines a b) → IsStoppedAt One streams → IsStoppedAt Other streams
stopped_as One Other streams more h = record {
  input = h.input;
  taken = h.taken;
  within = h.within;
  lines = h.lines;
  read = h.read;
  written = more h.lines streams.written streams.written_after h.written;
}

module _ (one other : Output) where
  -- a run that stops ends alike
  pub stops_as : StopsAs one other → (streams : Streams) (ended : Ended) → IsStop ended → EndsWith one streams ended → EndsWith other streams ended
  stops_as at_stops streams NoneRefused stop h = absurd stop
  stops_as at_stops streams SomeRefused stop h = absurd stop
  stops_as at_stops streams ReadFailed stop h = record {
    input = h.input;
    taken = h.taken;
    within = h.within;
    refused = h.refused;
    written = at_stops.lines _ h.refused streams.written streams.written_after h.written;
  }
  stops_as at_stops streams WriteFailed stop (inl h) = inl (stopped_as one.begun other.begun streams at_stops.begun h)
  stops_as at_stops streams WriteFailed stop (inr h) = inr (whole_as one.begun_behind other.begun_behind streams at_stops.begun_behind h)
  stops_as at_stops streams NoMemory stop h = stopped_as one.short other.short streams at_stops.short h
  stops_as at_stops streams TooMany stop h = record {
    first = h.first;
    more = h.more;
    taken = h.taken;
    full = h.full;
    one = h.one;
    refused = h.refused;
    written = at_stops.lines _ h.refused streams.written streams.written_after h.written;
  }

  -- any run ends alike by the outputs of one and of another
  pub ends_as : EndsAs one other → (streams : Streams) (ended : Ended) → EndsWith one streams ended → EndsWith other streams ended
  ends_as alike streams NoneRefused h =
      whole_as (λ lines. one.whole lines false) (λ lines. other.whole lines false) streams (λ lines. alike.whole lines false) h
  ends_as alike streams SomeRefused h =
      whole_as (λ lines. one.whole lines true) (λ lines. other.whole lines true) streams (λ lines. alike.whole lines true) h
  ends_as alike streams ReadFailed h = stops_as alike.stops streams ReadFailed tt h
  ends_as alike streams WriteFailed h = stops_as alike.stops streams WriteFailed tt h
  ends_as alike streams NoMemory h = stops_as alike.stops streams NoMemory tt h
  ends_as alike streams TooMany h = stops_as alike.stops streams TooMany tt h

-- what stands written of all lines, with what is written behind them, is something else that is said of all lines
pub whole_behind : (One Other : List (List ℕ) → OfWritten) (left left_after a b c : Option (List ℕ))
    → IsReadWhole One (streams_told left left_after a b)
    → ((lines : List (List ℕ)) → One lines a b → Other lines a c)
    → IsReadWhole Other (streams_told left left_after a c)
whole_behind One Other left left_after a b c all more =
    record { input = all.input; taken = all.taken; at_end = all.at_end; within = all.within; written = more _ all.written }
