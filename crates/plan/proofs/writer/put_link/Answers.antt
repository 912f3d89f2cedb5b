-- `put_link` puts the link's three numbers one after the other, as Putting says.
use Rattle.plan.proofs.Putting.{low_fits, difference_fits, weight_fits, link_put}
use Rattle.plan.proofs.writer.put_link.Goals as goal

pub put_number-second-requires : goal.put_number-second-requires
put_number-second-requires c = low_fits c.requires

pub put_number-third-requires : goal.put_number-third-requires
put_number-third-requires c =
    difference_fits c.requires c.put_number-second.ensures

pub put_number-requires : goal.put_number-requires
put_number-requires c =
    weight_fits c.requires c.put_number-second.ensures c.put_number-third.ensures

pub returns : goal.returns
returns c =
    link_put c.requires c.put_number-second.ensures c.put_number-third.ensures
    c.put_number.ensures
