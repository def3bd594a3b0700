-- How many words the records and arcs of an accepted scheme take, for any choice of at most B private values.
use Rattle.std.proofs.Common.{◌≡◌, ℕ, suc, ◌+◌, ◌*◌, ◌≤◌, Bool, true, false, ltb, List, [], ◌∷◌, map, length, refl, mul-le-mul_right, suc-mul, arith}
use Rattle.lists.specs.Lists.{pick, same, from, range, keep, flat, member, total}
use Rattle.lists.proofs.Ranges.{from-length}
use Rattle.lists.proofs.Members.{keep-length}
use Rattle.lists.proofs.Counts.{distinct-length}
use Rattle.scheme.specs.Scheme.{Scheme, Node, stop, choice, new, call, Branch, absent, silent, send, receive}
use Rattle.scheme.specs.Kinds.{is_receive}
use Rattle.table.specs.Accepted.{Accepted}
use Rattle.places.specs.Values.{Values, private_value_list, values_of}
use Rattle.places.specs.Places.{common, is_common}
use Rattle.places.specs.Transitions.{Description, releases, releasing, copies, copying, making, going, silents, calling, from_node_descriptions, communicating}
use Rattle.places.specs.Transitions.{sent_on, of_pair, descriptions}
use Rattle.places.proofs.Arcs.{words_of, words-few}
use Rattle.lists.proofs.Sums.{sum, sum-append, sum-map, sum-flat, sum_kept}

module _ (S : Scheme) (U : Values) (ok : Accepted S) (few : U.privates ≤ S.bounds) where
  -- at most so many values has a name
  abbrev pub value_bound : ℕ
  value_bound = S.publics + S.bounds + 1

  abbrev pub receives : ℕ
  receives = length (keep (λ b. is_receive (S.branch b)) (range S.branches))

  abbrev pub weight : List Description → ℕ
  weight ds = sum (words_of S U) ds

  one-few : (d : Description) → length d.moves ≤ 2 → length d.tests ≤ 3 → words_of S U d ≤ 83
  one-few d m t = omega (arith, words-few S U d m t, ok.few-bounds)

  pub values-few : (x : ℕ) → length (values_of S U x) ≤ value_bound
  unfolding values_of
  values-few x = go (ltb x S.publics)
    where
      go : (b : Bool) → length (pick b (x ∷ []) (keep (U.reach x) (range (S.publics + U.privates)))) ≤ value_bound
      go true = omega arith
      go false =
          omega (arith, keep-length (U.reach x) (range (S.publics + U.privates)), from-length 0 (S.publics + U.privates))

  pub held-few : (n : ℕ) → length (S.held n) ≤ S.bounds
  held-few n =
      distinct-length (S.held n) S.publics S.bounds (λ x m. let r = ok.held-name n x m in (r.low, r.high)) (ok.held-distinct n)

  -- one description for each value of a name
  by_value : (g : ℕ → Description) (x : ℕ) → ((v : ℕ) → words_of S U (g v) ≤ 83) → weight (map g (values_of S U x)) ≤ value_bound * 83
  by_value g x h = omega (arith, sum-map (words_of S U) g 83 h (values_of S U x), values-few x)

  releases-weigh : (n m k : ℕ) (zs : List ℕ) → weight (releases S U n m k zs) ≤ length zs * (value_bound * 83)
  unfolding releases total
  releases-weigh n m k [] = omega arith
  releases-weigh n m k (z ∷ zs) =
      omega (
        arith,
        sum-append (words_of S U) (map (releasing S U n m k z) (values_of S U z)) (releases S U n m (suc k) zs),
        by_value (releasing S U n m k z) z (λ v. one-few (releasing S U n m k z v) (omega arith) (omega arith)),
        releases-weigh n m (suc k) zs,
        suc-mul (length zs) (value_bound * 83),
      )

  copies-weigh : (n m k : ℕ) (fs as' : List ℕ) → weight (copies S U n m k fs as') ≤ length fs * (value_bound * 83)
  unfolding copies total
  copies-weigh n m k [] as' = omega arith
  copies-weigh n m k (f ∷ fs) [] = omega (arith, suc-mul (length fs) (value_bound * 83))
  copies-weigh n m k (f ∷ fs) (a ∷ as') =
      omega (
        arith,
        sum-append (words_of S U) (map (copying S U n m k f a) (values_of S U a)) (copies S U n m (suc k) fs as'),
        by_value (copying S U n m k f a) a (λ v. one-few (copying S U n m k f a v) (omega arith) (omega arith)),
        copies-weigh n m (suc k) fs as',
        suc-mul (length fs) (value_bound * 83),
      )

  silents-weigh : (n b : ℕ) (β : Branch) → weight (silents S U n b β) ≤ 83
  unfolding total
  silents-weigh n b absent = omega arith
  silents-weigh n b (silent l) = omega (arith, one-few (going S U n b l) (omega arith) (omega arith))
  silents-weigh n b (send a z l) = omega arith
  silents-weigh n b (receive a y l) = omega arith

  -- ---- a node

  abbrev pub node_words : ℕ
  node_words = (1 + S.bounds + S.branches) * 83 + 2 * (S.bounds * (value_bound * 83))

  held-weigh : (n : ℕ) → length (S.held n) * (value_bound * 83) ≤ S.bounds * (value_bound * 83)
  held-weigh n = mul-le-mul_right (value_bound * 83) (held-few n)

  node-weigh : (n : ℕ) → weight (from_node_descriptions S U n (S.node n)) ≤ node_words
  unfolding total
  node-weigh n = go (S.node n) refl
    where
      go : (ν : Node) → S.node n ≡ ν → weight (from_node_descriptions S U n ν) ≤ node_words
      go stop e = omega (arith, releases-weigh n n 0 (S.held n), held-weigh n)
      go (choice f c) e =
          omega (
            arith,
            sum-flat (words_of S U) (λ b. silents S U n b (S.branch b)) 83 (from f c) (λ b m. silents-weigh n b (S.branch b)),
            from-length f c,
            (ok.choice-inside n f c e).2,
          )
      go (new r l) e =
          omega (
            arith,
            sum-map (words_of S U) (making S U n r l) 83 (λ v. one-few (making S U n r l v) (omega arith) (omega arith)) (private_value_list S U),
            from-length S.publics U.privates,
          )
      go (call d) e =
          let cs = copies S U n (S.root d) 1 (S.formals d) (S.arguments n) in
          let rs = releases S U n (S.root d) (suc (length (S.formals d))) (S.held n) in
          omega (
            arith,
            one-few (calling S U n (S.root d)) (omega arith) (omega arith),
            sum-append (words_of S U) cs rs,
            copies-weigh n (S.root d) 1 (S.formals d) (S.arguments n),
            mul-le-mul_right (value_bound * 83) (ok.few-formals d),
            releases-weigh n (S.root d) (suc (length (S.formals d))) (S.held n),
            held-weigh n,
          )

  -- ---- a send and a receive

  abbrev pub pair_words : ℕ
  pair_words = value_bound * (value_bound * 83)

  sent-few : (a z i : ℕ) → length (sent_on S U a z i) ≤ value_bound
  sent-few a z i = go (same z a)
    where
      go : (b : Bool) → length (pick b (i ∷ []) (values_of S U z)) ≤ value_bound
      go true = omega arith
      go false = values-few z

  common-few : (a e : ℕ) → length (common S U a e) ≤ value_bound
  common-few a e = omega (arith, keep-length (is_common S U a e) (values_of S U a), values-few a)

  communications-weigh : (s a z l r e y m : ℕ)
      → weight (flat (λ i. map (communicating S U s a z l r e y m i) (sent_on S U a z i)) (common S U a e)) ≤ pair_words
  communications-weigh s a z l r e y m =
      omega (
        arith,
        sum-flat (words_of S U) (λ i. map (communicating S U s a z l r e y m i) (sent_on S U a z i)) (value_bound * 83) (common S U a e) each,
        mul-le-mul_right (value_bound * 83) (common-few a e),
      )
    where
      each : (i : ℕ) → member i (common S U a e) ≡ true → weight (map (communicating S U s a z l r e y m i) (sent_on S U a z i)) ≤ value_bound * 83
      each i h =
          omega (
            arith,
            sum-map (words_of S U) (communicating S U s a z l r e y m i) 83
                (λ j. one-few (communicating S U s a z l r e y m i j) (omega arith) (omega arith)) (sent_on S U a z i),
            sent-few a z i,
          )

  pair-weigh : (s : ℕ) (σ : Branch) (r : ℕ) (ρ : Branch) → weight (of_pair S U s σ r ρ) ≤ pick (is_receive ρ) pair_words 0
  unfolding total
  pair-weigh s absent r ρ = omega arith
  pair-weigh s (silent l) r ρ = omega arith
  pair-weigh s (send a z l) r absent = omega arith
  pair-weigh s (send a z l) r (silent m) = omega arith
  pair-weigh s (send a z l) r (send e y m) = omega arith
  pair-weigh s (send a z l) r (receive e y m) = go (same (S.thread (S.home s)) (S.thread (S.home r)))
    where
      go : (b : Bool) → weight (pick b [] (flat (λ i. map (communicating S U s a z l r e y m i) (sent_on S U a z i)) (common S U a e))) ≤ pair_words
      go true = omega arith
      go false = communications-weigh s a z l r e y m
  pair-weigh s (receive a y l) r ρ = omega arith

  -- ---- all of them

  pub descriptions-weigh : weight (descriptions S U) ≤ S.nodes * node_words + S.branches * (receives * pair_words)
  unfolding descriptions
  descriptions-weigh =
      let ns = flat (λ n. from_node_descriptions S U n (S.node n)) (range S.nodes) in
      let bs = flat (λ s. flat (λ r. of_pair S U s (S.branch s) r (S.branch r)) (range S.branches)) (range S.branches) in
      let a = sum-flat (words_of S U) (λ n. from_node_descriptions S U n (S.node n)) node_words (range S.nodes) (λ n m. node-weigh n) in
      let b = sum-flat (words_of S U) (λ s. flat (λ r. of_pair S U s (S.branch s) r (S.branch r)) (range S.branches)) (receives * pair_words)
      (range S.branches)
      (λ s m. sum_kept (words_of S U) (λ r. of_pair S U s (S.branch s) r (S.branch r)) (λ r. is_receive (S.branch r)) pair_words
      (λ r. pair-weigh s (S.branch s) r (S.branch r)) (range S.branches)) in
      omega (
        arith,
        sum-append (words_of S U) ns bs,
        rw (from-length 0 S.nodes) at a,
        rw (from-length 0 S.branches) at b,
      )
