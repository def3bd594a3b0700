-- The releases of a name whose values follow one another in its row: each takes the next place of the row.
use Rattle.std.specs.Prelude.{[], ◌∷◌, ℕ, ◌+◌, ◌<◌, Option, Some, None, ltb}
use Rattle.lists.specs.Lists.{pick}
use Rattle.net.specs.Net.{Transition}
use Rattle.builder.specs.Inner.Parts.{arrow}
use Rattle.builder.specs.declared.chain.Chain.{Chain}
use Rattle.builder.specs.declared.chain.Held.{Held}

-- the place that place k of a chain leads to
abbrev pub on_from : Chain → ℕ → ℕ
on_from c k = pick (ltb (k + 1) c.controls) (c.first + k + 1) c.last

-- value i of those whose places start at `row`, where nothing is given back
abbrev pub released : Chain → Held → ℕ → ℕ → Transition
released c x row i = arrow 1 c.node x.name ((row + i) ∷ (c.first + x.k) ∷ []) (on_from c x.k ∷ [])

-- so, where what is given back starts at `back`
abbrev pub returned : Chain → Held → ℕ → ℕ → ℕ → Transition
returned c x row back i = arrow 1 c.node x.name ((row + i) ∷ (c.first + x.k) ∷ []) ((back + i) ∷ on_from c x.k ∷ [])

-- so, where what is given back starts at `back`, if anything is
abbrev pub given : Chain → Held → ℕ → Option ℕ → ℕ → Transition
given c x row None = released c x row
given c x row (Some back) = returned c x row back

-- a name that is released at a place of a chain, all in 32 bits
pub record Releasing (c : Chain) (x : Held) : Type 0 where
  pub node-few : c.node < 65536
  pub name-few : x.name < 65536
  pub inside : x.k < c.controls
  pub first-few : c.first + c.controls < 4294967296
  pub last-few : c.last < 4294967296
