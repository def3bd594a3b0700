-- Markings that stand for a state, and reading one back (document 01, Transitions, last paragraph): "A marking stands for a state when each thread has one
-- marked
-- control place, each name held there one marked value and every other name none, [x≠n] is marked exactly without [x=n], and [*≠n] exactly when no restricted
-- name has n; two restricted names never share n."
use Rattle.std.specs.Prelude.{Bool, false, not, ◌&&◌, ◌||◌, List, [], ◌∷◌, ℕ, ◌+◌, ltb, length}
use Rattle.std.proofs.Math.Option.{Option, none, some}
use Rattle.lists.specs.Lists as Lists
use Rattle.lists.specs.Lists.{pick, bit, same, from, range, every, keep, member}
use Rattle.scheme.specs.Scheme.{Scheme, scheme}
use Rattle.process.specs.StateWords.{state_words}
use Rattle.net.specs.Firing.{is_marking}
use Rattle.places.specs.Values.{Values, private_value_list, private_values_of}
use Rattle.places.specs.Reach.{values_for}
use Rattle.places.specs.Places.{Place, equals, differs, free, control, places}
use Rattle.readback.specs.Configurations.{Spot, spot, Configuration, held_here, state_shown}

abbrev pub is_same_place : Place → Place → Bool
is_same_place (equals a b) (equals c d) = same a c && same b d
is_same_place (equals a b) (differs c d) = false
is_same_place (equals a b) (free d) = false
is_same_place (equals a b) (control c d) = false
is_same_place (differs a b) (equals c d) = false
is_same_place (differs a b) (differs c d) = same a c && same b d
is_same_place (differs a b) (free d) = false
is_same_place (differs a b) (control c d) = false
is_same_place (free b) (equals c d) = false
is_same_place (free b) (differs c d) = false
is_same_place (free b) (free d) = same b d
is_same_place (free b) (control c d) = false
is_same_place (control a b) (equals c d) = false
is_same_place (control a b) (differs c d) = false
is_same_place (control a b) (free d) = false
is_same_place (control a b) (control c d) = same a c && same b d

-- the places with a token
unfoldable pub marked : List Place → List ℕ → List Place
marked [] m = []
marked (p ∷ ps) [] = []
marked (p ∷ ps) (b ∷ bs) = pick (same b 1) (p ∷ marked ps bs) (marked ps bs)

unfoldable pub has : List Place → Place → Bool
has ms p = Lists.some (is_same_place p) ms

-- the control places of a thread, and the values of a name, among marked places
abbrev pub spot_list : Scheme → ℕ → Place → List Spot
spot_list S t (equals x v) = []
spot_list S t (differs x v) = []
spot_list S t (free v) = []
spot_list S t (control n k) = pick (same (S.thread n) t) (spot n k ∷ []) []

abbrev pub values_in : ℕ → Place → List ℕ
values_in x (equals y v) = pick (same x y) (v ∷ []) []
values_in x (differs y v) = []
values_in x (free v) = []
values_in x (control n k) = []

module _ (S : Scheme) (U : Values) (ms : List Place) where
  unfoldable pub spots : ℕ → List Spot
  spots t = Lists.flat (spot_list S t) ms

  unfoldable pub values : ℕ → List ℕ
  values x = Lists.flat (values_in x) ms

  abbrev pub first_spot : List Spot → Spot
  first_spot [] = spot 0 0
  first_spot (p ∷ ps) = p

  abbrev pub first_value_of : List ℕ → Option ℕ
  first_value_of [] = none
  first_value_of (v ∷ vs) = some v

  -- a public name has itself
  unfoldable pub configuration : Configuration
  configuration = record { at = λ t. first_spot (spots t); value = λ x. pick (ltb x S.publics) (some x) (first_value_of (values x)) }

  -- "each thread has one marked control place"
  abbrev pub has_one_spot : ℕ → Bool
  has_one_spot t = same (length (spots t)) 1

  -- "each name held there one marked value and every other name none"
  abbrev pub is_one_value : ℕ → Bool
  is_one_value x = same (length (values x)) (bit (member x (held_here S (configuration.at (S.thread_of_name x)))))

  -- "[x≠n] is marked exactly without [x=n]"
  abbrev pub opposite : ℕ → ℕ → Bool
  opposite x v = pick (has ms (differs x v)) (not (has ms (equals x v))) (has ms (equals x v))

  -- "[*≠n] exactly when no restricted name has n; two restricted names never share n"
  abbrev pub free_right : ℕ → Bool
  free_right v =
      same (length (keep (λ x. S.restricted x && has ms (equals x v)) (from S.publics S.bounds))) (pick (has ms (free v)) 0 1)

  unfoldable pub stands_for_state : Bool
  stands_for_state =
      every has_one_spot (range S.threads) &&
      (every is_one_value (from S.publics S.bounds) &&
      (every (λ x. S.restricted x || every (opposite x) (private_values_of S U x)) (from S.publics S.bounds) &&
      every free_right (private_value_list S U)))

-- a marking read: the cause that refuses it, or the state's words
pub data Reading : Type 0 where
  refused : ℕ → Reading
  words : List ℕ → Reading

-- "marking length not the place count, or a byte above 1 | 13", "marking stands for no state | 17"
unfoldable pub reading_back : List ℕ → List ℕ → Reading
reading_back w m =
    let S = scheme w in
    let U = values_for S in
    let ms = marked (places S U) m in
    pick (not (is_marking (length (places S U)) m)) (refused 13)
    (pick (not (stands_for_state S U ms)) (refused 17)
    (words (state_words S (state_shown S (S.publics + U.privates) (configuration S U ms)))))
