-- What passes of stores leave in a buffer.
use Rattle.std.specs.Prelude.{List, [], ◌∷◌, ℕ, zero, suc, ◌+◌, set}

-- v at every one of the numbers
unfoldable pub put_all : ℕ → List ℕ → List ℕ → List ℕ
put_all v [] out = out
put_all v (x ∷ xs) out = put_all v xs (set out x v)

-- tag + i at each number of the list i, the lists n - 1, .., 0 in this order
unfoldable pub scatter : (ℕ → List ℕ) → ℕ → ℕ → List ℕ → List ℕ
scatter f tag zero out = out
scatter f tag (suc i) out = scatter f tag i (put_all (tag + i) (f i) out)
