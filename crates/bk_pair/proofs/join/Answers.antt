use Rattle.std.proofs.Common.{subst, sym}
use Rattle.bk_simple.specs.Simple.{IsPerfect}
use Rattle.bk_tiling.specs.Tiling.{Tiling}
use Rattle.bk_pair.specs.Pair.{IsLayingFault, IsPairFault}
use Rattle.bk_pair.specs.declared.PairFault.{PairFault}
use Rattle.bk_pair.specs.declared.PairFault.TheVariants.{Long, Many, Size, Square, Twice}
use Rattle.bk_pair.proofs.SharedSides.{perfect_square}
use Rattle.bk_pair.proofs.join.Goals as goal

pub returns-in-None-shared_side-clause-perfect : goal.returns-in-None-shared_side-clause-perfect
returns-in-None-shared_side-clause-perfect c =
    subst IsPerfect (sym c.joined_square.ensures) (perfect_square c.args.a.now c.args.b.now c.in-None-shared_side.ensures.none)

-- what can't be laid together is no pair
no_pair : (a b : Tiling) (fault : PairFault) → IsLayingFault a b fault → IsPairFault a b fault
no_pair a b Size is = is
no_pair a b Square is = is
no_pair a b (Many n) is = is
no_pair a b (Long side) is = is
no_pair a b (Twice side) is = absurd is

pub shared_side-requires : goal.shared_side-requires
shared_side-requires c = (c.in-None.ensures.none).few

pub joined_square-requires : goal.joined_square-requires
joined_square-requires c = c.in-None.ensures.none

pub returns-in-Some-clause-refused : goal.returns-in-Some-clause-refused
returns-in-Some-clause-refused c = no_pair c.args.a.now c.args.b.now c.in-Some.fault c.in-Some.ensures.some

pub returns-in-Some-shared_side-clause-refused : goal.returns-in-Some-shared_side-clause-refused
returns-in-Some-shared_side-clause-refused c = (c.in-None.ensures.none, c.in-Some-shared_side.ensures.some)

pub returns-in-None-shared_side-clause-pair : goal.returns-in-None-shared_side-clause-pair
returns-in-None-shared_side-clause-pair c = record { laid = c.in-None.ensures.none; differ = c.in-None-shared_side.ensures.none }

pub returns-in-None-shared_side-clause-joined : goal.returns-in-None-shared_side-clause-joined
returns-in-None-shared_side-clause-joined c = c.joined_square.ensures
