use mathlib.Core.Path.{ap, ◌∙◌}
use Prim.Native.Nat.{ℕ, ◌+◌, ◌-◌}
use Rattle.places.specs.Sets.{bit_at}
use Rattle.places.proofs.Names.{reached-low, reached-high, nth-below}
use Rattle.builder.proofs.layout.value_at.Goals as goal

pub returns-then-k-count : goal.returns-then-k-count
returns-then-k-count c =
    let a = c.args in
    λ n l.
    let k = rw c.rank-count.ensures.0 at c.if-k-count.true in
    c.nth.ensures.0 ∙ nth-below (bit_at a.values.publics) a.publics 64 a.k c.requires.0 k ∙ reached-low a.publics n a.values a.k k

pub returns : goal.returns
returns c =
    let a = c.args in
    λ n l.
    ap (λ (q : ℕ). a.publics + (a.k - q)) c.rank-count.ensures.0
    ∙ reached-high a.publics n a.values a.k (rw c.rank-count.ensures.0 at c.if-k-count.false) l
