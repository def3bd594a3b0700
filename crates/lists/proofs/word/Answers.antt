use Rattle.lists.proofs.word.Goals as goal

pub returns-then-i-words : goal.returns-then-i-words
returns-then-i-words g c = g.met.T.Unsigned.inside c.args.words.now c.args.i c.number.result c.index-words-i.result c.if-i-words.true c.index-words-i.is c.number.ensures

pub returns : goal.returns
returns g c = g.met.T.Unsigned.past c.args.words.now c.args.i c.if-i-words.false
