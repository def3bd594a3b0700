use native.Mathlib.Omega.{arith}
use Rattle.process.proofs.Numbering.{turn-missing, turn-public, turn-old, turn-new, place-few}
use Rattle.process.proofs.values.number.Goals as goal

pub returns-then-value-eq65535 : goal.returns-then-value-eq65535
returns-then-value-eq65535 c = turn-missing _ _ _ _ c.requires c.if-value-eq65535.true

pub returns-then-value-publics : goal.returns-then-value-publics
returns-then-value-publics c = turn-public _ _ _ _ c.requires c.if-value-eq65535.false c.if-value-publics.true

pub returns-then-place-count : goal.returns-then-place-count
returns-then-place-count c = rw c.store.ensures (turn-new _ _ _ _ c.requires c.if-value-eq65535.false _ c.if-value-publics.false c.place_of-place.ensures c.if-place-count.true)

pub overflow_add-result-2 : goal.overflow_add-result-2
overflow_add-result-2 c = omega (arith, c.requires.few, c.requires.few-seen, place-few _ _ _ _ c.requires c.if-value-eq65535.false _ c.if-value-publics.false c.place_of-place.ensures)

pub returns : goal.returns
returns c = turn-old _ _ _ _ c.requires c.if-value-eq65535.false _ c.if-value-publics.false c.place_of-place.ensures c.if-place-count.false
