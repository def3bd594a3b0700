use Rattle.print.proofs.Lines.{refusal-written}
use Rattle.print.proofs.put_refusal.Goals as goal

pub returns : goal.returns
returns c =
    let number = c.args.number in
    let next = c.put_next-b in
    refusal-written number _ c.copy-a.ensures next.ensures c.put.ensures
