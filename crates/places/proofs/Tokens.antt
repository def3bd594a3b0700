-- How many places are marked at first: N for each input and formal that may hold private values, N for [*≠n], one for each thread.
use Rattle.std.proofs.Common.{◌≡◌, ℕ, ◌+◌, ◌*◌, ◌<◌, ◌≤◌, Bool, true, false, not, ◌&&◌, List, [], ◌∷◌, ◌++◌, map, length, sym, refl, ap, ◌∙◌, mul-le-mul, arith, length-append}
use lib.ListN.{length-map}
use Rattle.lists.specs.Lists.{pick, same, from, range, keep, flat, some, member, Distinct, none, more}
use Rattle.lists.proofs.Tests.{and_intro, and_left, false-true, not-true-false}
use Rattle.lists.proofs.Ranges.{from-length, from_member, member-from}
use Rattle.lists.proofs.Members.{member-here, member-there, member-keep, map-member, keep-length, flat-length}
use Rattle.lists.proofs.Members.{distinct_head, distinct_tail, distinct_from, distinct-keep}
use Rattle.lists.proofs.Counts.{flat-keep-length}
use Rattle.lists.proofs.Positions.{distinct-within}
use Rattle.lists.proofs.Sums.{total-pick}
use Rattle.scheme.specs.Words.{publics, bounds, threads}
use Rattle.scheme.specs.Scheme.{Scheme, scheme}
use Rattle.table.specs.Causes.{cause}
use Rattle.table.specs.Accepted.{Accepted}
use Rattle.table.proofs.Accepted.{accepted}
use Rattle.places.specs.Values.{Values, values_of, private_values_of}
use Rattle.places.specs.Reach.{values_for, has_private_values}
use Rattle.places.specs.Rows.{row_start_of, free_start_of, control_start}
use Rattle.places.specs.Inner.Arcs.{starts_at, initial_numbers}
use Rattle.places.specs.Inner.Plan.{today, privates_word, read_names_word}
use Rattle.places.proofs.ReachRows.{privates-count}
use Rattle.places.proofs.Controls.{few-bounds, few-privates}

some-member : (f : ℕ → ℕ) (n : ℕ) (xs : List ℕ) → some (λ t. same n (f t)) xs ≡ member n (map f xs)
unfolding some member
some-member f n [] = refl
some-member f n (x ∷ xs) = rw (some-member f n xs)

-- a map that can be undone keeps numbers apart
distinct-map : (f g : ℕ → ℕ) (xs : List ℕ) → ((x : ℕ) → member x xs ≡ true → g (f x) ≡ x) → Distinct xs → Distinct (map f xs)
distinct-map f g [] h d = none
distinct-map f g (x ∷ xs) h d =
    more (not-true-false (member (f x) (map f xs)) apart) (distinct-map f g xs (λ z m. h z (member-there z x xs m)) (distinct_tail d))
  where
    apart : member (f x) (map f xs) ≡ true → ⊥
    apart m =
        let s = map-member f (f x) xs m in
        let e : x ≡ s.source = sym (h x (member-here x xs)) ∙ ap g s.gives ∙ h s.source (member-there s.source x xs s.stands) in
        false-true (distinct_head d) (rw e s.stands)

module _ (S : Scheme) (ok : Accepted S) where
  abbrev U : Values
  U = values_for S

  abbrev first : ℕ → ℕ
  first t = S.root (S.entry t)

  abbrev firsts : List ℕ
  firsts = map first (range S.threads)

  -- the nodes where threads start are the roots of their entries
  starts-count : length (keep (starts_at S U) (range S.nodes)) ≡ S.threads
  starts-count =
      let a = distinct-within (keep (starts_at S U) (range S.nodes)) firsts
      (distinct-keep (starts_at S U) (range S.nodes) (distinct_from 0 S.nodes)) to in
      let b = distinct-within firsts (keep (starts_at S U) (range S.nodes))
      (distinct-map first S.thread (range S.threads) (λ t m. ok.entry-thread t (inside t m)) (distinct_from 0 S.threads)) of in
      omega (arith, a, b, length-map (range S.threads) first, from-length 0 S.threads)
    where
      inside : (t : ℕ) → member t (range S.threads) ≡ true → t < S.threads
      inside t m = omega (arith, from_member t 0 S.threads m)

      to : (z : ℕ) → member z (keep (starts_at S U) (range S.nodes)) ≡ true → member z firsts ≡ true
      to z m =
          sym (some-member first z (range S.threads))
          ∙ and_left (starts_at S U z) (member z (range S.nodes)) (sym (member-keep (starts_at S U) z (range S.nodes)) ∙ m)

      of : (z : ℕ) → member z firsts ≡ true → member z (keep (starts_at S U) (range S.nodes)) ≡ true
      of z m =
          let s = map-member first z (range S.threads) m in
          let l = ok.root-inside (S.entry s.source) (ok.entry-inside s.source (inside s.source s.stands)) in
          member-keep (starts_at S U) z (range S.nodes)
          ∙ and_intro (starts_at S U z) (member z (range S.nodes)) (some-member first z (range S.threads) ∙ m)
          (member-from z 0 S.nodes (omega arith) (omega (arith, s.gives, l)))

  abbrev differing : ℕ → List ℕ
  differing x = pick (S.restricted x) [] (from (row_start_of S U x + length (values_of S U x)) (length (private_values_of S U x)))

  -- the names whose rows New reads
  abbrev is_name_read : ℕ → Bool
  is_name_read x = not (S.restricted x) && has_private_values S x

  row-tokens : (x : ℕ) → length (differing x) ≡ pick (is_name_read x) U.privates 0
  row-tokens x = go (S.restricted x) (has_private_values S x) refl
    where
      go : (b c : Bool) → has_private_values S x ≡ c
          → length (pick b [] (from (row_start_of S U x + length (values_of S U x)) (length (private_values_of S U x)))) ≡ pick (not b && c) U.privates 0
      go true c e = refl
      go false true e =
          from-length (row_start_of S U x + length (values_of S U x)) (length (private_values_of S U x)) ∙ privates-count S x ∙ rw e
      go false false e =
          from-length (row_start_of S U x + length (values_of S U x)) (length (private_values_of S U x)) ∙ privates-count S x ∙ rw e

  initial-count : length (initial_numbers S U) ≡ length (keep is_name_read (from S.publics S.bounds)) * U.privates + U.privates + S.threads
  unfolding initial_numbers
  initial-count =
      let xs = from S.publics S.bounds in
      let fs = from (free_start_of S U) U.privates in
      let ns = flat (λ n. pick (starts_at S U n) (control_start S U n ∷ []) []) (range S.nodes) in
      omega (
        arith,
        length-append (flat differing xs) (fs ++ ns),
        length-append fs ns,
        flat-length differing xs,
        total-pick (λ x. length (differing x)) is_name_read U.privates 0 xs (λ x m. row-tokens x),
        from-length (free_start_of S U) U.privates,
        flat-keep-length (starts_at S U) (control_start S U) (range S.nodes),
        starts-count,
      )

module _ (w : List ℕ) (h : cause w ≡ 0) where
  pub tokens-are : length (initial_numbers (scheme w) (today w)) ≡ read_names_word w * privates_word w + privates_word w + threads w
  unfolding scheme
  tokens-are = initial-count (scheme w) (accepted w h)

  pub few-threads : threads w ≤ 8
  unfolding scheme
  few-threads = (accepted w h).few-threads

  pub read-few : read_names_word w ≤ bounds w
  read-few = omega (
    arith,
    keep-length (λ x. not ((scheme w).restricted x) && has_private_values (scheme w) x) (from (publics w) (bounds w)),
    from-length (publics w)
        (bounds w),
  )

  pub product-few : (f b : ℕ) → f ≤ bounds w → b ≤ 32 → f * b ≤ 1024
  product-few f b l v =
      let u : f ≤ 32 = omega (arith, few-bounds w h) in
      mul-le-mul u v

  pub tokens-few : length (initial_numbers (scheme w) (today w)) < 65536
  tokens-few =
      omega (arith, tokens-are, few-threads, few-privates w h, product-few (read_names_word w) (privates_word w) read-few (few-privates w h))
