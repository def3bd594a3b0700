-- Sets of transitions in 64-bit words (document 02, Item 5): "transition k at bit k mod 64 of word k div 64, spare bits 0".
use Rattle.std.specs.Prelude.{ℕ, zero, suc, ◌+◌, ◌*◌, ◌/◌, ◌%◌, ◌^◌, Bool, List, map, length}
use Rattle.std.proofs.Math.Option.{Option, none, some}
use Rattle.lists.specs.Lists.{pick, bit, same, word, range, keep, first_from}

-- bit k of a word
unfoldable pub has_bit : ℕ → ℕ → Bool
has_bit x k = same (x / 2 ^ k % 2) 1

-- "transition k at bit k mod 64 of word k div 64" (document 02, Item 5)
unfoldable pub is_in_set : List ℕ → ℕ → Bool
is_in_set set k = has_bit (word set (k / 64)) (k % 64)

-- the number whose n lowest bits are the tests of the numbers from a on
unfoldable pub packed : (ℕ → Bool) → ℕ → ℕ → ℕ
packed p zero a = 0
packed p (suc n) a = bit (p a) + 2 * packed p n (a + 1)

-- the set of those that pass the test, in n words
unfoldable pub words_of : (ℕ → Bool) → ℕ → List ℕ
words_of p n = map (λ j. packed p 64 (64 * j)) (range n)

-- a set with one number put in or taken out
unfoldable pub with_bit_set : List ℕ → ℕ → Bool → List ℕ
with_bit_set set k on = words_of (λ j. pick (same j k) on (is_in_set set j)) (length set)

-- "The lowest enabled one is found by counting trailing zeros and their number by counting ones, in the set as lent." (document 02, Item 5):
-- spare bits and further words count
unfoldable pub lowest_in : List ℕ → Option ℕ
lowest_in set =
    let bits = 64 * length set in
    let k = first_from bits (is_in_set set) 0 bits in
    pick (same k bits) none (some k)

unfoldable pub number_in : List ℕ → ℕ
number_in set = length (keep (is_in_set set) (range (64 * length set)))
