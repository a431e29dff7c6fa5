-- The lists that a skeleton keeps, and a small one, and the moves that lists keep.
use Rattle.bk_word.specs.Word.{Word}
use Rattle.bk_play.specs.Skeleton.{SkeletonLists, moves_stored}
use Rattle.bk_play.specs.declared.skeleton.Skel.TheInside.{Inside}
use Rattle.bk_play.specs.declared.small.SmallSkel.TheInside.{Inside as SmallInside}

-- the lists of a skeleton
abbrev pub lists_of : Inside → SkeletonLists
lists_of s = record {
  ends = s.ends.items;
  sizes = s.sizes.items;
  signs = s.signs.items;
  closed = s.closed.items;
  records = s.records.items;
  played = s.played.items;
}

-- the lists of a small skeleton
abbrev pub small_lists_of : SmallInside → SkeletonLists
small_lists_of s = record {
  ends = s.open.ends.items;
  sizes = s.open.sizes.items;
  signs = s.open.signs.items;
  closed = s.closed.items;
  records = s.records.items;
  played = s.played.items;
}

-- the moves that lists keep
abbrev pub moves_in : SkeletonLists → Word
moves_in lists = moves_stored lists.records lists.played
