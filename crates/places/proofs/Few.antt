-- N: no more private values than bound names, and the places of a thread hold no more names than its share of N.
use Rattle.std.proofs.Common.{◌≡◌, ℕ, suc, ◌+◌, ◌-◌, ◌<◌, ◌≤◌, Bool, true, false, ◌⊎◌, List, ◌++◌, map, length, take, drop, sym, refl, ◌∙◌, inl, inr, true≢false, arith}
use native.Mathlib.Nat.{zero-sub}
use Rattle.lists.specs.Lists.{pick, same, from, range, some, keep, flat, member, total, Distinct}
use Rattle.lists.proofs.Tests.{and_intro, and_left, same_true, same-yes, not-true-false}
use Rattle.lists.proofs.Ranges.{member-from}
use Rattle.lists.proofs.Members.{member-keep, member-map, map-member, member-flat, flat-member}
use Rattle.lists.proofs.Members.{member-take, member-drop, append-member, distinct_append, distinct-take, distinct-drop}
use Rattle.scheme.specs.Scheme.{Scheme, Node, stop, choice, new, call}
use Rattle.table.specs.Accepted.{NameOf, Accepted}
use Rattle.places.specs.Places.{controls}
use Rattle.places.specs.Held.{names_at, held_counts, most_held, private_count}
use Rattle.places.specs.Inner.Holding.{count}
use Rattle.places.proofs.Tallies.{sum, sum-le, total-sum, distinct-count, owned-most, largest-most, largest-least, some-intro}

module _ (S : Scheme) (ok : Accepted S) where
  -- the names of a thread
  abbrev pub own_names : ℕ → ℕ
  own_names t = count (λ x. same (S.thread_of_name x) t) S.publics S.bounds

  within : (t x : ℕ) → NameOf S t x → (S.publics ≤ x) × (x < S.publics + S.bounds) × (same (S.thread_of_name x) t ≡ true)
  within t x nm = (nm.low, nm.high, same-yes (S.thread_of_name x) t nm.of)

  few-names : (t : ℕ) (l : List ℕ) → Distinct l → ((x : ℕ) → member x l ≡ true → NameOf S t x) → length l ≤ own_names t
  few-names t l nd h = distinct-count l (λ x. same (S.thread_of_name x) t) S.publics S.bounds nd (λ x m. within t x (h x m))

  names-few : (n k : ℕ) → length (names_at S (S.node n) n k) ≤ own_names (S.thread n)
  names-few n k = go (S.node n) refl
    where
      plain : length (S.held n) ≤ own_names (S.thread n)
      plain = few-names (S.thread n) (S.held n) (ok.held-distinct n) (ok.held-name n)

      go : (ν : Node) → S.node n ≡ ν → length (names_at S ν n k) ≤ own_names (S.thread n)
      go stop e =
          few-names (S.thread n) (drop k (S.held n)) (distinct-drop k (S.held n) (ok.held-distinct n))
          (λ x m. ok.held-name n x (member-drop x k (S.held n) m))
      go (choice f c) e = plain
      go (new r l) e = plain
      go (call d) e =
          few-names (S.thread n) (fs ++ hs)
          (distinct_append fs hs (distinct-take (k - 1) (S.formals d) (ok.formals-distinct d)) (distinct-drop i (S.held n) (ok.held-distinct n)) apart)
          name
        where
          i : ℕ
          i = k - suc (length (S.formals d))

          fs : List ℕ
          fs = take (k - 1) (S.formals d)

          hs : List ℕ
          hs = drop i (S.held n)

          apart : (x : ℕ) → member x fs ≡ true → member x hs ≡ false
          apart x m =
              not-true-false (member x hs)
              (λ q. true≢false (sym (member-drop x i (S.held n) q) ∙ ok.call-fresh n d x e (member-take x (k - 1) (S.formals d) m)))

          name : (x : ℕ) → member x (fs ++ hs) ≡ true → NameOf S (S.thread n) x
          name x m = side (append-member x fs hs m)
            where
              side : (member x fs ≡ true) ⊎ (member x hs ≡ true) → NameOf S (S.thread n) x
              side (inl q) = rw (← ok.call-thread n d e) (ok.formal-name d x (member-take x (k - 1) (S.formals d) q))
              side (inr q) = ok.held-name n x (member-drop x i (S.held n) q)

  most-few : (t : ℕ) → most_held S t ≤ own_names t
  unfolding most_held held_counts
  most-few t = largest-least (own_names t) (flat (held_counts S) (keep own (range S.nodes))) each
    where
      own : ℕ → Bool
      own n = same (S.thread n) t

      each : (x : ℕ) → member x (flat (held_counts S) (keep own (range S.nodes))) ≡ true → x ≤ own_names t
      each x m =
          let s = flat-member (held_counts S) x (keep own (range S.nodes)) m in
          let k = map-member (λ k. length (names_at S (S.node s.source) s.source k)) x (range (controls S s.source)) s.gives in
          let e : S.thread s.source ≡ t
          = same_true (S.thread s.source) t (and_left (own s.source) (member s.source (range S.nodes))
          (sym (member-keep own s.source (range S.nodes)) ∙ s.stands)) in
          omega (arith, rw e at (names-few s.source k.source), k.gives)

  -- the first place of a node holds what the node holds
  pub first-length : (l : ℕ) → length (names_at S (S.node l) l 0) ≡ length (S.held l)
  first-length l = go (S.node l)
    where
      go : (ν : Node) → length (names_at S ν l 0) ≡ length (S.held l)
      go stop = refl
      go (choice f c) = refl
      go (new r m) = refl
      go (call d) = rw (zero-sub (suc (length (S.formals d))))

  pub first-place : (l : ℕ) → 0 < controls S l
  unfolding controls
  first-place l = go (S.node l) refl
    where
      go : (ν : Node) → S.node l ≡ ν → 0 < controls S l
      go stop e = rw e (omega arith)
      go (choice f c) e = rw e (omega arith)
      go (new r m) e = rw e (omega arith)
      go (call d) e = rw e (omega arith)

  -- what a place of a thread holds is no more than the most
  pub held-most : (t n k : ℕ) → n < S.nodes → S.thread n ≡ t → k < controls S n → length (names_at S (S.node n) n k) ≤ most_held S t
  unfolding most_held held_counts
  held-most t n k ln e lk =
      largest-most (length (names_at S (S.node n) n k)) (flat (held_counts S) (keep own (range S.nodes)))
      (member-flat (held_counts S) (length (names_at S (S.node n) n k)) n (keep own (range S.nodes))
      (member-keep own n (range S.nodes)
      ∙ and_intro (own n) (member n (range S.nodes)) (same-yes (S.thread n) t e) (member-from n 0 S.nodes (omega arith) (omega arith)))
      (member-map (λ k. length (names_at S (S.node n) n k)) k (range (controls S n)) (member-from k 0 (controls S n) (omega arith) (omega arith))))
    where
      own : ℕ → Bool
      own n = same (S.thread n) t

  -- N is no more than the bound names
  pub private-few : private_count S ≤ S.bounds
  unfolding private_count
  private-few = go (some S.restricted (from S.publics S.bounds))
    where
      go : (b : Bool) → pick b (total (map (most_held S) (range S.threads))) 0 ≤ S.bounds
      go true =
          omega (
            arith,
            total-sum (most_held S) S.threads,
            sum-le (most_held S) own_names S.threads (λ t l. most-few t),
            owned-most S.thread_of_name S.publics S.bounds S.threads,
          )
      go false = omega arith

  -- where a name is restricted, N is the threads' sum
  pub private-sum : (r : ℕ) → S.restricted r ≡ true → private_count S ≡ sum (most_held S) S.threads
  unfolding private_count
  private-sum r h = rw (any (some S.restricted (from S.publics S.bounds)) refl) (total-sum (most_held S) S.threads)
    where
      any : (b : Bool) → some S.restricted (from S.publics S.bounds) ≡ b → some S.restricted (from S.publics S.bounds) ≡ true
      any true e = e
      any false e =
          absurd (true≢false (sym (some-intro S.restricted r (from S.publics S.bounds)
          (member-from r S.publics S.bounds (ok.restricted-bound r h).0 (ok.restricted-bound r h).1) h) ∙ e))
