use Rattle.std.specs.List.{concat}
use Rattle.std.proofs.Common.{refl, slice_index_or}
use Rattle.bk_word.specs.Play.{outline_of}
use Rattle.bk_free_search.proofs.NextWords.Cutting.{lone_is_barren}
use Rattle.bk_free_search.proofs.Boards.ValleyPlaces.{place_low, valley_long}
use Rattle.bk_free_search.proofs.cuts.least_count.Goals as goal

pub bounds-sizes-valley : goal.bounds-sizes-valley
bounds-sizes-valley c = place_low c.args.skel.now c.requires.word c.sizes.result.now (concat (outline_of c.args.skel.now).segments) c.sizes.ensures refl
    c.args.valley.now c.requires.valley

pub returns-then-sizes-valley-eq1-clause-barren : goal.returns-then-sizes-valley-eq1-clause-barren
returns-then-sizes-valley-eq1-clause-barren c n m few some = lone_is_barren c.args.skel.now (slice_index_or c.sizes.result.now c.args.valley.now.place 0) 2
    (valley_long c.args.skel.now c.requires.word c.sizes.result.now (concat (outline_of c.args.skel.now).segments) c.sizes.ensures refl
    c.args.valley.now c.requires.valley) c.if-sizes-valley-eq1.true n m few some
