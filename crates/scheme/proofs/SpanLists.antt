-- The numbers of a span.
use mathlib.Core.Path.{◌≡◌}
use mathlib.Core.List.{List}
use Prim.Native.Nat.{ℕ, ◌+◌, ◌-◌}
use native.Mathlib.Omega.{arith}
use Rattle.lists.specs.Lists.{from}
use Rattle.scheme.specs.Words.{Number}
use Rattle.scheme.specs.Spans.{span_first_of, span_count_of, span_of}
use Rattle.scheme.specs.declared.spans.Source.{Source}

-- the numbers from a span's first up to its end
pub span-is : (w : List ℕ) (s : Source) (i r q : ℕ) → Number (span_first_of w s i) r → Number (span_count_of w s i) q → from r (r + q - r) ≡ span_of w s i
span-is w s i r q a b = let e : r + q - r ≡ q = omega arith in rw (e, a.is, b.is)
