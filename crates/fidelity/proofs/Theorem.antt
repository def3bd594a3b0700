-- Demand 3 holds of every accepted table, its built image and every list of calls.
use mathlib.Core.Path.{◌≡◌}
use mathlib.Core.List.{List}
use Prim.Native.Nat.{ℕ}
use Rattle.table.specs.Causes.{cause}
use Rattle.scheme.specs.Scheme.{scheme}
use Rattle.table.proofs.Accepted.{accepted}
use Rattle.process.proofs.Renaming.{words-renamed}
use Rattle.places.specs.Image.{image_of}
use Rattle.places.proofs.Size.{image-size}
use Rattle.fidelity.specs.Calls.{Call}
use Rattle.fidelity.specs.Demand.{Demand3}
use Rattle.fidelity.proofs.Whole.{demand-3}

pub demand3 : (w : List ℕ) → cause w ≡ 0 → (calls : List Call) → Demand3 w (image_of w) calls
demand3 w h calls = demand-3 w (accepted w h) (words-renamed (scheme w)) (image-size w h) calls
