-- The size of an image: at most (table words + P)⁴ words, and below 2³², for every accepted table.
use Rattle.std.proofs.Common.{◌≡◌, ℕ, ◌+◌, ◌*◌, ◌^◌, ◌<◌, ◌≤◌, Bool, true, false, List, [], ◌∷◌, map, length, refl, arith}
use Rattle.lists.specs.Lists.{pick, from, range, keep, positions, total}
use Rattle.lists.proofs.Ranges.{from-length}
use Rattle.lists.proofs.Members.{keep-length}
use Rattle.scheme.specs.Words.{publics}
use Rattle.table.specs.Causes.{cause}
use Rattle.scheme.specs.Scheme.{Scheme, Node, stop, choice, new, call, scheme}
use Rattle.scheme.specs.Kinds.{is_receive}
use Rattle.table.specs.Accepted.{Accepted}
use Rattle.table.proofs.Accepted.{accepted}
use Rattle.net.specs.Net.{Transition, encode}
use Rattle.net.proofs.Encode
use Rattle.places.specs.Values.{Values, private_value_list, values_of, private_values_of}
use Rattle.places.specs.Reach.{values_for}
use Rattle.places.specs.Places.{controls_at, controls, places, is_initial}
use Rattle.places.specs.Rows.{row_length, control_start}
use Rattle.places.specs.Transitions.{Description, descriptions}
use Rattle.places.specs.Image.{transition_of, net_with, image_of}
use Rattle.places.proofs.Rows.{free-start, places-length}
use Rattle.places.proofs.Numbers.{all-positions}
use Rattle.places.proofs.Arcs.{words_of}
use Rattle.lists.proofs.Sums.{sum, sum-few}
use Rattle.places.proofs.Weights.{value_bound, receives, node_words, pair_words, values-few, held-few, descriptions-weigh}
use Rattle.places.proofs.Products.{below-fourth, below-words}
use Rattle.places.proofs.Ascends.{image-is}
use Rattle.places.proofs.Few.{private-few}

-- ---- the words of a list of transitions

module _ (S : Scheme) (U : Values) where
  abbrev made : List Description → List Transition
  made ds = map (transition_of S U) ds

  words_are : (ds : List Description)
      → 6 * length (made ds) + total (map (λ t. length t.inputs) (made ds)) + total (map (λ t. length t.outputs) (made ds)) ≡ sum (words_of S U) ds
  unfolding total words_of
  words_are [] = refl
  words_are (d ∷ ds) = omega (arith, words_are ds)

  pub image-length : length (encode (net_with S U)) ≡ 8 + length (positions (is_initial S U) (places S U)) + sum (words_of S U) (descriptions S U)
  unfolding net_with
  image-length = omega (arith, Encode.image-length (net_with S U), words_are (descriptions S U))

module _ (S : Scheme) (U : Values) (ok : Accepted S) (few : U.privates ≤ S.bounds) where
  abbrev top : ℕ
  top = value_bound S U ok few

  -- ---- how many places there are

  row-few : (x : ℕ) → row_length S U x ≤ top + S.bounds
  unfolding row_length private_values_of
  row-few x = go (S.restricted x)
    where
      go : (b : Bool) → length (values_of S U x) + pick b 0 (length (keep (U.reach x) (private_value_list S U))) ≤ top + S.bounds
      go true = omega (arith, values-few S U ok few x)
      go false =
          omega (arith, values-few S U ok few x, keep-length (U.reach x) (private_value_list S U), from-length S.publics U.privates)

  controls-few : (n : ℕ) → controls S n ≤ 1 + 2 * S.bounds
  unfolding controls
  controls-few n = go (S.node n)
    where
      go : (ν : Node) → controls_at S n ν ≤ 1 + 2 * S.bounds
      go stop = omega (arith, held-few S U ok few n)
      go (choice f c) = omega arith
      go (new r l) = omega arith
      go (call d) = omega (arith, held-few S U ok few n, ok.few-formals d)

  places-few : length (places S U) ≤ S.bounds * (top + S.bounds) + S.bounds + S.nodes * (1 + 2 * S.bounds)
  unfolding control_start
  places-few =
      let a = sum-few (row_length S U) (top + S.bounds) (from S.publics S.bounds) (λ x m. row-few x) in
      let b = sum-few (controls S) (1 + 2 * S.bounds) (range S.nodes) (λ n m. controls-few n) in
      omega (
        arith,
        places-length S U,
        free-start S U,
        rw (from-length S.publics S.bounds) at a,
        rw (from-length 0 S.nodes) at b,
      )

  -- ---- the bounds, for any choice of at most B private values

  initial-few : length (positions (is_initial S U) (places S U)) ≤ S.bounds * (top + S.bounds) + S.bounds + S.nodes * (1 + 2 * S.bounds)
  initial-few = omega (arith, all-positions S U (is_initial S U), places-few)

  image-few : length (encode (net_with S U))
      ≤ 8 + length (positions (is_initial S U) (places S U)) + (S.nodes * node_words S U ok few + S.branches * (receives S U ok few * pair_words S U ok few))
  image-few = omega (arith, image-length S U, descriptions-weigh S U ok few)

  receives-few : receives S U ok few ≤ S.branches
  receives-few = omega (arith, keep-length (λ b. is_receive (S.branch b)) (range S.branches), from-length 0 S.branches)

  pub net-size : length (encode (net_with S U)) ≤ (S.size + S.publics) ^ 4
  net-size =
      omega (
        arith,
        image-few,
        below-fourth S.nodes S.branches (receives S U ok few) S.bounds top (length (positions (is_initial S U) (places S U))) initial-few
            (S.size + S.publics) (omega (arith, ok.words, ok.definition-inside 0, ok.some-thread))
            (omega (arith, ok.enough-nodes, ok.definition-inside 0))
            (omega arith) receives-few,
      )

  pub net-below : length (encode (net_with S U)) < 2 ^ 32
  net-below =
      omega (
        arith,
        image-few,
        below-words S.nodes S.branches (receives S U ok few) S.bounds top (length (positions (is_initial S U) (places S U))) initial-few
            ok.few-nodes ok.few-branches (omega (arith, ok.few-receives, ok.few-bounds)) ok.few-bounds
            (omega (arith, ok.few-publics, ok.few-bounds)),
      )

-- ---- the image of an accepted table

module _ (w : List ℕ) (h : cause w ≡ 0) where
  as_many : (values_for (scheme w)).privates ≤ (scheme w).bounds
  unfolding values_for
  as_many = private-few (scheme w) (accepted w h)

  table-words : (scheme w).size + (scheme w).publics ≡ length w + publics w
  unfolding scheme
  table-words = refl

  -- "image words ≤ (table words + P)⁴"
  pub image-size : length (image_of w) ≤ (length w + publics w) ^ 4
  image-size = rw (image-is w, ← table-words) (net-size (scheme w) (values_for (scheme w)) (accepted w h) as_many)

  -- every count, offset and arc fits 32 bits
  pub image-below : length (image_of w) < 2 ^ 32
  image-below = rw (image-is w) (net-below (scheme w) (values_for (scheme w)) (accepted w h) as_many)
