-- Worked examples of sources and sinks in memory.
use Rattle.std.proofs.Common.{◌≡◌, ℕ, List, [], ◌∷◌, Some, None, Ok, Err, refl}
use Rattle.std.specs.Prelude.{codes}
use Rattle.bk_ports.specs.Causes.{counted}
use Rattle.bk_ports.specs.ToldCalls.{count_after, told_of}
use Rattle.bk_ports.specs.Stores.{Supply, given_count, after_read, limit_of, Store, kept_count, after_write}

-- a count rises, and stays at the last value of a `u64`
rises : counted 0 ≡ 1
rises = refl

stays : counted 18446744073709551615 ≡ 18446744073709551615
stays = refl

-- an error is counted, and what was given is told
an_error : count_after {T = ℕ} {E = ℕ} (Err 9) 4 ≡ 5
an_error = refl

what_was_given : told_of {T = ℕ} {E = ℕ} (Ok 7) ≡ Ok 7
what_was_given = refl

-- `abcdef`, at most 4 bytes a call, where call 1 fails
abbrev six : ℕ → Supply
six call = record { left = codes "abcdef"; most = 4; fails = 1 ∷ []; call = call; faults = 0 }

-- a buffer of 3 bytes gets 3, one of 9 gets 4
three : given_count (six 0) 3 ≡ 3
three = refl

four : given_count (six 0) 9 ≡ 4
four = refl

-- after 4 bytes two are left, after a failed call all six
taken : after_read {E = ℕ} (six 0) (Ok 4) ≡ record { left = codes "ef"; most = 4; fails = 1 ∷ []; call = 1; faults = 0 }
taken = refl

failed : after_read {E = ℕ} (six 1) (Err 0) ≡ record { left = codes "abcdef"; most = 4; fails = 1 ∷ []; call = 2; faults = 1 }
failed = refl

-- the first pair with the number of a call says how many bytes it keeps
abbrev pairs : List (ℕ × ℕ)
pairs = (2, 0) ∷ (5, 3) ∷ (5, 9) ∷ []

third : limit_of pairs 5 ≡ Some 3
third = refl

unlimited : limit_of pairs 4 ≡ None
unlimited = refl

-- room for 8 bytes, of which `abc` is kept
abbrev store : ℕ → Store
store call = record { room = 8; kept = codes "abc"; fails = pairs; call = call; faults = 0 }

-- call 5 keeps 3 bytes of `defg`, call 4 all of it, and 5 of a longer piece
within : kept_count (store 5) (codes "defg") ≡ 3
within = refl

whole : kept_count (store 4) (codes "defg") ≡ 4
whole = refl

cut : kept_count (store 4) (codes "defghij") ≡ 5
cut = refl

-- a failed call has kept its part, and is counted
kept : after_write {T = ℕ} {E = ℕ} (store 5) (codes "defg") (Err 0) ≡ record { room = 8; kept = codes "abcdef"; fails = pairs; call = 6; faults = 1 }
kept = refl
