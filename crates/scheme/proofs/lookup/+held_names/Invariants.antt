-- Measure: the node's number, since a step up leads below.
use Rattle.scheme.proofs.lookup.+held_names.Given as goal

abbrev pub decreases-held_names : goal.decreases-held_names
decreases-held_names l = l.node
