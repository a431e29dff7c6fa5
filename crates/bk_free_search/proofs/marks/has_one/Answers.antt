use Rattle.std.proofs.Common.{IsTrue, arith, nat_eq, not, rules, ℕ, ◌<◌, ◌^◌}
use Rattle.bk_laws.proofs.Bits.{some_bit-in_window}
use Rattle.bk_free_search.proofs.marks.has_one.Goals as goal

some : (x : ℕ) → IsTrue (not (nat_eq x 0)) → 0 < x
some x told = cases x told
  where
    cases : (x : ℕ) → IsTrue (not (nat_eq x 0)) → 0 < x
    cases x told = grind arith

pub returns : goal.returns
returns c told =
    let below : c.args.places.bits < 2 ^ 32 = search rules in
    let few : c.args.many < 31 = omega (arith, c.requires.many) in
    let one = some_bit-in_window c.args.places.bits c.args.start c.args.many below few (some _ told) in
    record { more = one.0; few = one.1; has = one.2 }
