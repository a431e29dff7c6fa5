use Rattle.bk_top.proofs.listing.list_members.Goals as goal

pub returns-clause-stands : goal.returns-clause-stands
returns-clause-stands g c = search
