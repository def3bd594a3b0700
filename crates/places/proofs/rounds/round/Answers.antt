use Rattle.scheme.specs.Scheme.{scheme}
use Rattle.table.proofs.Accepted.{accepted}
use Rattle.places.proofs.Settled.{heard-ears, round-made}
use Rattle.places.proofs.rounds.round.Goals as goal

pub returns : goal.returns
returns c =
    let said = c.say_all-said in
    let called = c.call_all in
    let heard = c.listen_all in
    let w = c.args.table.now in
    let ears = heard.new.ears in
    let after = called.new.words in
    let r = round-made (scheme w) (accepted w c.requires.0.accepted) c.args.words.now said.new.words after ears said.result called.result
    c.requires.2 heard.ensures said.ensures called.ensures in
    (r, heard-ears (scheme w) c.args.words.now after ears r.keeps heard.ensures)
