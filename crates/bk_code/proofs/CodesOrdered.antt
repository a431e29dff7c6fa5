-- The order of codes.
use Rattle.std.specs.Cmp.{on_total}
use Rattle.std.specs.Cmp.Lexicographic.{nat_list_cmp_total}
use Rattle.bk_code.specs.Code.{flat}
use Rattle.bk_code.specs.CodeLaws.{CodesAreOrdered}

-- codes are totally ordered by their flat lists
pub codes_are_ordered : CodesAreOrdered
codes_are_ordered = on_total flat nat_list_cmp_total
