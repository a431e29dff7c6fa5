use Rattle.std.proofs.Common.{IfOk, OnErr, ap, arith, subst}
use Rattle.bk_members.specs.NextMember.{MembersState}
use Rattle.bk_list.specs.ListedMembers.{listing_of}
use Rattle.bk_list.specs.Writing.{BeginsListing, WritesListing}
use Rattle.bk_top.proofs.listing.list_catalogue.Goals as goal

pub list_members-requires-clause-most : goal.list_members-requires-clause-most
list_members-requires-clause-most g c = omega (arith, c.requires.most, ap (λ (s : MembersState). s.order) c.after-members.ensures)

pub returns-clause-listed : goal.returns-clause-listed
returns-clause-listed g c =
    subst (λ (s : MembersState). IfOk c.list_members.result (λ last. WritesListing (listing_of s c.args.asked.limit) last
    (g.O.Sink.written c.args.out.now) (g.O.Sink.written c.list_members.new.out))) c.after-members.ensures
    c.list_members.ensures.listed

pub returns-clause-begun : goal.returns-clause-begun
returns-clause-begun g c =
    subst (λ (s : MembersState). OnErr c.list_members.result (BeginsListing (listing_of s c.args.asked.limit)
    (g.O.Sink.written c.args.out.now) (g.O.Sink.written c.list_members.new.out))) c.after-members.ensures
    c.list_members.ensures.begun

pub returns-clause-cause : goal.returns-clause-cause
returns-clause-cause g c = c.list_members.ensures.cause
