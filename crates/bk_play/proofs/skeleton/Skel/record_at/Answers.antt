use Rattle.std.proofs.Common.{arith, lit<}
use Rattle.bk_play.proofs.RecordReads.{place_there, says_where}
use Rattle.bk_play.proofs.skeleton.Skel.record_at.Goals as goal

pub returns : goal.returns
returns c = says_where c.self.invariant c.self.view_is c.deref.ensures.0 c.args.i _ c.requires

pub deref-requires : goal.deref-requires
deref-requires c = lit< tt

pub bounds-deref-i : goal.bounds-deref-i
bounds-deref-i c = place_there c.self.inside.played.items c.self.view_is c.deref.ensures.0 c.requires

pub offset_bounds-deref-i : goal.offset_bounds-deref-i
offset_bounds-deref-i c = omega (arith, c.deref.type_inv.1, bounds-deref-i c)
