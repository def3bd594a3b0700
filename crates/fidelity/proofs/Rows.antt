-- No more than 2B bookkeeping firings follow in a row: each takes one from what is left of its thread's chain, and a call into a Stop body goes on into the
-- Stop's chain.
use Prim.Native.Nat.{ℕ, zero, suc, ◌+◌, ◌-◌, ◌≤◌, ◌<◌}
use mathlib.Core.Path.{◌≡◌, refl, ◌∙◌}
use mathlib.Core.Logic.{◌≢◌}
use mathlib.Core.Bool.{Bool, true, false, false≢true}
use mathlib.Core.List.{List}
use native.Mathlib.Decide.{ℕ_discrete}
use native.Mathlib.Omega.{arith}
use lib.Dec.{ltb}
use lib.ListN.{length}
use borrow.Author.Tests.{ltb-false}
use Rattle.lists.specs.Lists.{pick, same}
use Rattle.lists.proofs.Tests.{same_self, same-no}
use Rattle.scheme.specs.Scheme.{Scheme, Node, stop, choice, new, call}
use Rattle.table.specs.Accepted.{Accepted}
use Rattle.places.specs.Values.{Values}
use Rattle.places.specs.Transitions.{Description}
use Rattle.readback.specs.Configurations.{Spot, spot, Configuration}
use Rattle.fidelity.specs.Inner.Marks.{ends, thread_of, motion, after, Fits, WellFormed}
use Rattle.fidelity.specs.Inner.Shapes.{single, chain, onward, copying_at, releasing_at, ending}
use Rattle.fidelity.specs.Inner.Shapes.{Described, is-new, is-call, is-copy, is-release, is-ending, is-silent, is-communication, EnoughValues}
use Rattle.fidelity.specs.Inner.Runs.{quiet, AllQuiet, Run, done, more}
use Rattle.fidelity.proofs.Tables.{root-held}
use Rattle.places.proofs.Tallies.{sum, distinct-count, owned-most}
use Rattle.fidelity.proofs.Live.{names, chain-le, name-within}

sum_same : (f g : ℕ → ℕ) (n : ℕ) → ((θ : ℕ) → θ < n → f θ ≡ g θ) → sum f n ≡ sum g n
unfolding sum
sum_same f g zero h = refl
sum_same f g (suc n) h = rw (h n (omega arith), sum_same f g n (λ θ l. h θ (omega arith)))

sum_less : (f g : ℕ → ℕ) (η n : ℕ) → η < n → f η ≡ suc (g η) → ((θ : ℕ) → θ ≢ η → f θ ≡ g θ) → sum f n ≡ suc (sum g n)
unfolding sum
sum_less f g η zero l e h = absurd (omega arith)
sum_less f g η (suc n) l e h = go (ℕ_discrete n η) (λ k. sum_less f g η n k e h)
  where
    go : Dec (n ≡ η) → (η < n → sum f n ≡ suc (sum g n)) → f n + sum f n ≡ suc (g n + sum g n)
    go (yes p) ih = rw (sum_same f g n (λ θ k. h θ (λ q. omega arith)), p, e) (omega arith)
    go (no p) ih = rw (ih (omega arith), h n p) (omega arith)

sum-double : (f g : ℕ → ℕ) (n : ℕ) → ((θ : ℕ) → f θ ≤ g θ + g θ) → sum f n ≤ sum g n + sum g n
unfolding sum
sum-double f g zero h = omega arith
sum-double f g (suc n) h = omega (arith, h n, sum-double f g n h)

module _ (S : Scheme) (U : Values) (A : Accepted S) (E : EnoughValues S U) where
  -- the releases of a Stop that is a called root
  abbrev tail : Node → ℕ → ℕ
  tail stop n = n
  tail (choice f c) n = 0
  tail (new r l) n = 0
  tail (call d) n = 0

  -- how many bookkeeping firings a thread at this place can make in a row
  abbrev left_at : Node → ℕ → ℕ → ℕ
  left_at stop k i = length (S.held k) - i
  left_at (choice f c) k i = 0
  left_at (new r l) k i = 0
  left_at (call d) k zero = 0
  left_at (call d) k (suc j) = (chain S d k - j) + tail (S.node (S.root d)) (length (S.formals d))

  abbrev pub left : Spot → ℕ
  left p = left_at (S.node p.node) p.node p.index

  tail-le : (ν : Node) (n : ℕ) → tail ν n ≤ n
  tail-le stop n = omega arith
  tail-le (choice f c) n = omega arith
  tail-le (new r l) n = omega arith
  tail-le (call d) n = omega arith

  names-le : (k : ℕ) → length (S.held k) ≤ names S U A E (S.thread k)
  names-le k =
      distinct-count (S.held k) (λ x. same (S.thread_of_name x) (S.thread k)) S.publics S.bounds (A.held-distinct k)
      (λ x m. name-within S U A E (S.thread k) x (A.held-name k x m))

  left_le : (p : Spot) → left p ≤ names S U A E (thread_of S p) + names S U A E (thread_of S p)
  left_le p = go (S.node k) refl p.index
    where
      k : ℕ
      k = p.node

      go : (ν : Node) → S.node k ≡ ν → (i : ℕ) → left_at ν k i ≤ names S U A E (S.thread k) + names S U A E (S.thread k)
      go stop ν i = omega (arith, names-le k)
      go (choice f c) ν i = omega arith
      go (new r l) ν i = omega arith
      go (call d) ν zero = omega arith
      go (call d) ν (suc j) = omega (arith, chain-le S U A E k d ν, tail-le (S.node (S.root d)) (length (S.formals d)))

  left-first : (l : ℕ) → left (spot l 0) ≡ tail (S.node l) (length (S.held l))
  left-first l = go (S.node l)
    where
      go : (ν : Node) → left_at ν l 0 ≡ tail ν (length (S.held l))
      go stop = omega arith
      go (choice f c) = refl
      go (new r m) = refl
      go (call d) = refl

  left-onward : (k d j : ℕ) → S.node k ≡ call d → j < chain S d k → left (spot k (suc j)) ≡ suc (left (onward S d k (suc j)))
  left-onward k d j h l = go (ltb (suc j) (chain S d k)) refl
    where
      go : (β : Bool) → ltb (suc j) (chain S d k) ≡ β → left (spot k (suc j)) ≡ suc (left (pick β (spot k (suc (suc j))) (spot (S.root d) 0)))
      go true e = rw h (omega arith)
      go false e = let m : chain S d k ≤ suc j = ltb-false (suc j) (chain S d k) e in rw (left-first (S.root d), h, root-held S A k d h) (omega arith)

  abbrev pub left_in_all : Configuration → ℕ
  left_in_all c = sum (λ θ. left (c.at θ)) S.threads

  one_less : (c : Configuration) (t : Description) (θ : ℕ) (a b : Spot) → θ < S.threads → ((ϑ : ℕ) → motion S t.moves ϑ ≡ single θ a b ϑ)
      → c.at θ ≡ a → left a ≡ suc (left b) → left_in_all c ≡ suc (left_in_all (after S t c))
  one_less c t θ a b l m p e =
      sum_less (λ ϑ. left (c.at ϑ)) (λ ϑ. left (ends (motion S t.moves ϑ) (c.at ϑ))) θ S.threads l (rw (m θ, same_self θ, p) e)
      (λ ϑ n. rw (m ϑ, same-no ϑ θ n))

  pub quiet-less : {t : Description} (c : Configuration) → Described S U t → Fits S t c → quiet t ≡ true → left_in_all c ≡ suc (left_in_all (after S t c))
  quiet-less c (is-new k r l v h p re) f b = absurd (false≢true b)
  quiet-less c (is-call k d h) f b = absurd (false≢true b)
  quiet-less c (is-copy k d j v h l u re) f b =
      one_less c (copying_at S U d k j v) (S.thread k) (spot k (suc j)) (onward S d k (suc j)) (A.thread-inside k) (λ ϑ. refl)
      (f.stands (S.thread k) (spot k (suc j)) (onward S d k (suc j)) (rw (same_self (S.thread k)))) (left-onward k d j h (omega arith))
  quiet-less c (is-release k d j v h l re p) f b =
      let i : ℕ = length (S.formals d) + j in
      one_less c (releasing_at S U d k j v) (S.thread k) (spot k (suc i)) (onward S d k (suc i)) (A.thread-inside k) (λ ϑ. refl)
      (f.stands (S.thread k) (spot k (suc i)) (onward S d k (suc i)) (rw (same_self (S.thread k)))) (left-onward k d i h (omega arith))
  quiet-less c (is-ending k j v km h l re p) f b =
      one_less c (ending S U k j v) (S.thread k) (spot k j) (spot k (suc j)) (A.thread-inside k) (λ ϑ. refl)
      (f.stands (S.thread k) (spot k j) (spot k (suc j)) (rw (same_self (S.thread k)))) (rw h (omega arith))
  quiet-less c (is-silent g l h) f b = absurd (false≢true b)
  quiet-less c (is-communication s a z l r x y m i j hs hr df im tz re own) f b = absurd (false≢true b)

  quiet-run : {c d : Configuration} {ls : List Description} → Run S U c ls d → AllQuiet ls → left_in_all c ≡ length ls + left_in_all d
  quiet-run done b = omega arith
  quiet-run (more {c = c} {t = t} v f r) b = quiet-less c v f b.0 ∙ rw (quiet-run r b.1) (omega arith)

  left-names : (c : Configuration) → WellFormed S U c → (n : ℕ) → n ≤ S.threads → sum (λ θ. left (c.at θ)) n ≤ sum (names S U A E) n + sum (names S U A E) n
  unfolding sum
  left-names c W zero l = omega arith
  left-names c W (suc n) l =
      let h : left (c.at n) ≤ names S U A E n + names S U A E n = rw (W.stands n l).0 at (left_le (c.at n)) in
      omega (arith, left-names c W n (omega arith))

  -- what is left in all is at most twice the bound names
  pub left-bound : (c : Configuration) → WellFormed S U c → left_in_all c ≤ S.bounds + S.bounds
  left-bound c W = omega (arith, left-names c W S.threads (omega arith), owned-most S.thread_of_name S.publics S.bounds S.threads)

  -- at most 2 B bookkeeping firings in a row
  pub quiet-bound : {c d : Configuration} {ls : List Description} → WellFormed S U c → Run S U c ls d → AllQuiet ls → length ls ≤ S.bounds + S.bounds
  quiet-bound {c} {d} {ls} W r b =
      omega (arith, quiet-run r b, left-names c W S.threads (omega arith), owned-most S.thread_of_name S.publics S.bounds S.threads)
