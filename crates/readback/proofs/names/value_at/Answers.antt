use mathlib.Core.Path.{ap, ◌∙◌}
use Prim.Native.Nat.{ℕ, ◌+◌, ◌-◌}
use Rattle.scheme.specs.Words.{publics}
use Rattle.places.specs.Sets.{bit_at}
use Rattle.places.proofs.Names.{reached-low, reached-high, nth-below}
use Rattle.readback.proofs.names.value_at.Goals as goal

pub returns-then-k-count : goal.returns-then-k-count
returns-then-k-count c =
    let a = c.args in
    let p = publics a.table.now in
    λ n l.
    let k = rw c.publics_of-count.ensures.0 at c.if-k-count.true in
    c.nth.ensures.0 ∙ nth-below (bit_at a.reach.publics) p 64 a.k c.requires.0 k ∙ reached-low p n a.reach a.k k

pub returns : goal.returns
returns c =
    let a = c.args in
    let p = publics a.table.now in
    λ n l.
    ap (λ (q : ℕ). q + (a.k - c.publics_of-count.result)) c.word-publics.ensures.is
    ∙ ap (λ (q : ℕ). p + (a.k - q)) c.publics_of-count.ensures.0 ∙ reached-high p n a.reach a.k (rw c.publics_of-count.ensures.0 at c.if-k-count.false) l
