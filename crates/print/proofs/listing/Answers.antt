use Rattle.print.specs.Listing.{listing}
use Rattle.print.proofs.Writing.{counted-long, counted-written}
use Rattle.print.proofs.listing.Goals as goal

pub returns-then-lines-out : goal.returns-then-lines-out
returns-then-lines-out c =
    let b = c.begin-start.ensures in
    counted-long (listing c.args.image.now) c.args.out.now _ _ (rw (b.0, b.1) at c.put_listing-lines.ensures) c.if-lines-out.true

pub returns : goal.returns
returns c =
    let b = c.begin-start.ensures in
    counted-written (listing c.args.image.now) c.args.out.now _ _ (rw (b.0, b.1) at c.put_listing-lines.ensures) _ c.if-lines-out.false
    (rw (b.0, b.1) at c.put_listing-end.ensures)
