-- What chains of iterators give, in the words of `specs/`.
use Rattle.std.specs.Prelude.{◌≡◌, Bool, ◌&&◌, ◌||◌, List, [], ◌∷◌, ℕ, zero, suc, ◌+◌}
use Rattle.std.proofs.Common.{refl, ap}
use Rattle.std.specs.List.{list_all, list_any, range_with_len}
use Rattle.lists.specs.Lists.{every, some, from}

pub every_all : {A : Type 0} (p : A → Bool) (xs : List A) → every p xs ≡ list_all p xs
unfolding every
every_all p [] = refl
every_all p (x ∷ xs) = ap (λ b. p x && b) (every_all p xs)

pub some_any : {A : Type 0} (p : A → Bool) (xs : List A) → some p xs ≡ list_any p xs
unfolding some
some_any p [] = refl
some_any p (x ∷ xs) = ap (λ b. p x || b) (some_any p xs)

pub from_counted : (a n : ℕ) → from a n ≡ range_with_len a n
unfolding from
from_counted a zero = refl
from_counted a (suc n) = ap (λ w. a ∷ w) (from_counted (a + 1) n)
