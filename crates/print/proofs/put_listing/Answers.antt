use Rattle.lists.specs.Lists.{range, flat}
use Rattle.net.specs.Image.{transition_count}
use Rattle.print.specs.Listing.{header_line, transition_line, listing}
use Rattle.print.proofs.Writing.{then}
use Rattle.print.proofs.put_listing.Goals as goal

pub returns : goal.returns
unfolding listing
returns c =
    let image = c.args.image.now in
    let lines = flat (transition_line image) (range (transition_count image)) in
    then _ (header_line image) lines c.put_header-p.ensures c.put_transitions.ensures
