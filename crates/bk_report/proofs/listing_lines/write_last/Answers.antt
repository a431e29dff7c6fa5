use Rattle.std.specs.Prelude.{decimal}
use Rattle.bk_report.specs.Listings.{class_words, last_name, wide_words}
use Rattle.bk_report.proofs.ListingPieces.{last_pieces}
use Rattle.bk_report.proofs.listing_lines.write_last.Goals as goal

pub returns : goal.returns
returns c =
    rw (
      c.push.ensures.items,
      c.push_wide.ensures.text,
      c.push_filled-2.ensures.text,
      c.push_class.ensures.text,
      c.push_filled.ensures.text,
      c.from.ensures,
      c.push_name.ensures.text,
      c.push_bytes.ensures,
      c.clear.ensures,
    )
    (last_pieces (last_name c.args.last) (decimal c.args.order) (decimal c.args.listed) (class_words c.args.class) (wide_words c.args.last c.args.word.now))

pub push_wide-requires-clause-some : goal.push_wide-requires-clause-some
push_wide-requires-clause-some c = c.requires
