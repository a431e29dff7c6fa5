use Rattle.std.proofs.Common.{Err, IfOk, List, Ok, Option, Result, arith, length, lit≤, max, min, subst, sym, ℕ, ◌++◌, ◌+◌, ◌-◌, ◌<◌, ◌≡◌, ◌≤◌}
use Rattle.std.proofs.lemmas.List.{length-take-le, take-append-le}
use Rattle.std.specs.Io.KnownBytes.{Consumes, ReadConsumes}
use Rattle.bk_ports.proofs.input.read_block.Goals as goal

-- how many bytes are asked for
most_asked : (taken most : ℕ) → taken ≤ 1073741824 → most ≡ max 1 (min (1073741824 - taken) 16384)
    → (most ≤ 16384) × (taken < 1073741824 → taken + most ≤ 1073741824) × (taken ≡ 1073741824 → most ≤ 1)
most_asked taken most within is = (omega (arith, within, is), λ before. omega (arith, before, is), λ all. omega (arith, all, is))

at_least_one : (taken most : ℕ) → most ≡ max 1 (min (1073741824 - taken) 16384) → 0 < most
at_least_one taken most is = omega (arith, is)

-- what is read into the front of a block is read into it
read_longer : {E : Type 0} (old new : Option (List ℕ)) (r : Result ℕ E) (front back : List ℕ) → IfOk r (λ n. n ≤ length front) → 0 < length front
    → ReadConsumes old new r front → ReadConsumes old new r (front ++ back)
read_longer old new (Ok n) front back within some read =
    (subst (Consumes old new) (sym (take-append-le n front back within)) read.0, λ none _. read.1 none some)
read_longer old new (Err e) front back within some read = read

ok_as : {E : Type 0} (r : Result ℕ E) (P Q : ℕ → Type 0) → ((n : ℕ) → P n → Q n) → IfOk r P → IfOk r Q
ok_as (Ok n) P Q more h = more n h
ok_as (Err e) P Q more h = tt

pub read_once-requires : goal.read_once-requires
read_once-requires g c =
    let most = most_asked c.args.taken c.clamp-most.result c.requires c.clamp-most.ensures in
    record {
      asked = omega (
        arith,
        c.clamp-most.ensures,
        length-take-le c.clamp-most.result c.args.block.now (omega (arith, c.told-block, most.0)),
      );
    }

pub returns-clause-within : goal.returns-clause-within
returns-clause-within g c =
    let most = most_asked c.args.taken c.clamp-most.result c.requires c.clamp-most.ensures in
    ok_as c.read_once.result (λ n. n ≤ length c.read_once.new.buf) (λ n. c.args.taken < 1073741824 → c.args.taken + n ≤ 1073741824)
    (λ n h before. omega (arith, h, most.1 before, c.read_once.auto.buf)) c.read_once.ensures.count

pub overflow_sub-taken : goal.overflow_sub-taken
overflow_sub-taken g c = c.requires

pub clamp-most-requires : goal.clamp-most-requires
clamp-most-requires g c = lit≤ tt

pub returns-clause-cause : goal.returns-clause-cause
returns-clause-cause g c = c.read_once.ensures.cause

pub slice_bounds-read_once-end : goal.slice_bounds-read_once-end
slice_bounds-read_once-end g c = (most_asked c.args.taken c.clamp-most.result c.requires c.clamp-most.ensures).0

pub returns-clause-count : goal.returns-clause-count
returns-clause-count g c =
    let most = most_asked c.args.taken c.clamp-most.result c.requires c.clamp-most.ensures in
    ok_as c.read_once.result (λ n. n ≤ length c.read_once.new.buf) (λ n. n ≤ 16384)
    (λ n h. omega (arith, h, most.0, c.read_once.auto.buf)) c.read_once.ensures.count

pub returns-clause-one : goal.returns-clause-one
returns-clause-one g c =
    let most = most_asked c.args.taken c.clamp-most.result c.requires c.clamp-most.ensures in
    ok_as c.read_once.result (λ n. n ≤ length c.read_once.new.buf) (λ n. c.args.taken ≡ 1073741824 → n ≤ 1)
    (λ n h all. omega (arith, h, most.2 all, c.read_once.auto.buf)) c.read_once.ensures.count

pub returns-clause-bytes : goal.returns-clause-bytes
returns-clause-bytes g c =
    let most = most_asked c.args.taken c.clamp-most.result c.requires c.clamp-most.ensures in
    read_longer _ _ c.read_once.result c.read_once.new.buf _ c.read_once.ensures.count (omega (
      arith,
      at_least_one c.args.taken c.clamp-most.result c.clamp-most.ensures,
      most.0,
      c.read_once.auto.buf,
    )) c.read_once.ensures.bytes
