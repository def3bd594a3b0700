-- The labels of an accepted table's net are small: nodes and branches are at most 256, names at most 64.
use mathlib.Core.Path.{◌≡◌, refl}
use mathlib.Core.Bool.{Bool, true, false}
use mathlib.Core.List.{List, [], ◌∷◌, ◌++◌, map}
use Prim.Native.Nat.{ℕ, zero, suc, ◌<◌}
use native.Mathlib.Omega.{arith}
use lib.ListN.{length, get_or}
use Rattle.lists.specs.Lists.{pick, same, from, range, flat, member}
use Rattle.lists.proofs.Ranges.{from_member}
use Rattle.lists.proofs.Members.{member-here, member-there}
use Rattle.scheme.specs.Scheme.{Scheme, Node, stop, choice, new, call, Branch, absent, silent, send, receive}
use Rattle.table.specs.Accepted.{NameOf, Accepted}
use Rattle.places.specs.Values.{Values, private_value_list, values_of}
use Rattle.places.specs.Places.{common}
use Rattle.places.specs.Transitions.{Description, releases, releasing, copies, copying, making, silents, from_node_descriptions, communicating, sent_on}
use Rattle.places.specs.Transitions.{of_pair, descriptions}
use Rattle.print.proofs.Lengths.{Each, Small, SmallLabel}

abbrev pub Labelled : Description → Type 0
Labelled d = SmallLabel d.label

-- ---- lists made by ++, map and flat

both : (xs ys : List Description) → Each Labelled xs → Each Labelled ys → Each Labelled (xs ++ ys)
both [] ys h k = k
both (x ∷ xs) ys h k = (h.0, both xs ys h.1 k)

by_value : (g : ℕ → Description) → ((v : ℕ) → Labelled (g v)) → (vs : List ℕ) → Each Labelled (map g vs)
by_value g h [] = tt
by_value g h (v ∷ vs) = (h v, by_value g h vs)

by_number : (g : ℕ → List Description) (xs : List ℕ) → ((x : ℕ) → member x xs ≡ true → Each Labelled (g x)) → Each Labelled (flat g xs)
unfolding flat
by_number g [] h = tt
by_number g (x ∷ xs) h = both (g x) (flat g xs) (h x (member-here x xs)) (by_number g xs (λ z m. h z (member-there z x xs m)))

pub label-of : (ds : List Description) (d : Description) (k : ℕ) → Each Labelled ds → k < length ds → Labelled (get_or ds k d)
label-of [] d k h l = absurd (omega arith)
label-of (x ∷ ds) d zero h l = h.0
label-of (x ∷ ds) d (suc k) h l = label-of ds d k h.1 (omega arith)

module _ (S : Scheme) (U : Values) (ok : Accepted S) where
  name-small : (t x : ℕ) → NameOf S t x → Small x
  name-small t x n = omega (arith, n.high, ok.few-publics, ok.few-bounds)

  releases-small : (n m k : ℕ) (zs : List ℕ) → Small n → ((z : ℕ) → member z zs ≡ true → Small z) → Each Labelled (releases S U n m k zs)
  unfolding releases
  releases-small n m k [] h f = tt
  releases-small n m k (z ∷ zs) h f =
      both (map (releasing S U n m k z) (values_of S U z)) (releases S U n m (suc k) zs)
      (by_value (releasing S U n m k z) (λ v. (omega arith, h, f z (member-here z zs))) (values_of S U z))
      (releases-small n m (suc k) zs h (λ x i. f x (member-there x z zs i)))

  copies-small : (n m k : ℕ) (fs as' : List ℕ) → Small n → ((f : ℕ) → member f fs ≡ true → Small f) → Each Labelled (copies S U n m k fs as')
  unfolding copies
  copies-small n m k [] as' h g = tt
  copies-small n m k (f ∷ fs) [] h g = tt
  copies-small n m k (f ∷ fs) (a ∷ as') h g =
      both (map (copying S U n m k f a) (values_of S U a)) (copies S U n m (suc k) fs as')
      (by_value (copying S U n m k f a) (λ v. (omega arith, h, g f (member-here f fs))) (values_of S U a))
      (copies-small n m (suc k) fs as' h (λ x i. g x (member-there x f fs i)))

  silents-small : (n b : ℕ) (β : Branch) → Small b → Each Labelled (silents S U n b β)
  silents-small n b absent h = tt
  silents-small n b (silent l) h = ((omega arith, h, omega arith), tt)
  silents-small n b (send a z l) h = tt
  silents-small n b (receive a y l) h = tt

  held_small : (n z : ℕ) → member z (S.held n) ≡ true → Small z
  held_small n z m = name-small (S.thread n) z (ok.held-name n z m)

  node-small : (n : ℕ) → n < S.nodes → Each Labelled (from_node_descriptions S U n (S.node n))
  node-small n h = go (S.node n) refl
    where
      few : Small n
      few = omega (arith, ok.few-nodes)

      go : (ν : Node) → S.node n ≡ ν → Each Labelled (from_node_descriptions S U n ν)
      go stop e = releases-small n n 0 (S.held n) few (held_small n)
      go (choice f c) e =
          by_number (λ b. silents S U n b (S.branch b)) (from f c)
          (λ b m. silents-small n b (S.branch b) (omega (arith, (from_member b f c m).1, (ok.choice-inside n f c e).2, ok.few-branches)))
      go (new r l) e = by_value (making S U n r l) (λ v. (omega arith, few, name-small (S.thread n) r (ok.new-name n r l e))) (private_value_list S U)
      go (call d) e = (
        (omega arith, few, omega arith),
        both (copies S U n (S.root d) 1 (S.formals d) (S.arguments n)) (releases S U n (S.root d) (suc (length (S.formals d))) (S.held n))
            (copies-small n (S.root d) 1 (S.formals d) (S.arguments n) few (λ f m. name-small (S.thread (S.root d)) f (ok.formal-name d f m)))
            (releases-small n (S.root d) (suc (length (S.formals d))) (S.held n) few (held_small n)),
      )

  pair_small : (s : ℕ) (σ : Branch) (r : ℕ) (ρ : Branch) → Small s → Small r → Each Labelled (of_pair S U s σ r ρ)
  pair_small s absent r ρ h k = tt
  pair_small s (silent l) r ρ h k = tt
  pair_small s (send a z l) r absent h k = tt
  pair_small s (send a z l) r (silent m) h k = tt
  pair_small s (send a z l) r (send e y m) h k = tt
  pair_small s (send a z l) r (receive e y m) h k = go (same (S.thread (S.home s)) (S.thread (S.home r)))
    where
      go : (b : Bool) → Each Labelled (pick b [] (flat (λ i. map (communicating S U s a z l r e y m i) (sent_on S U a z i)) (common S U a e)))
      go true = tt
      go false =
          by_number (λ i. map (communicating S U s a z l r e y m i) (sent_on S U a z i)) (common S U a e)
          (λ i n. by_value (communicating S U s a z l r e y m i) (λ j. (omega arith, h, k)) (sent_on S U a z i))
  pair_small s (receive a y l) r ρ h k = tt

  pub labels-small : Each Labelled (descriptions S U)
  unfolding descriptions
  labels-small =
      both (flat (λ n. from_node_descriptions S U n (S.node n)) (range S.nodes))
      (flat (λ s. flat (λ r. of_pair S U s (S.branch s) r (S.branch r)) (range S.branches)) (range S.branches))
      (by_number (λ n. from_node_descriptions S U n (S.node n)) (range S.nodes) (λ n m. node-small n (omega (arith, (from_member n 0 S.nodes m).1))))
      (by_number (λ s. flat (λ r. of_pair S U s (S.branch s) r (S.branch r)) (range S.branches)) (range S.branches)
      (λ s m. by_number (λ r. of_pair S U s (S.branch s) r (S.branch r)) (range S.branches)
      (λ r i. pair_small s (S.branch s) r (S.branch r) (branch s m) (branch r i))))
    where
      branch : (b : ℕ) → member b (range S.branches) ≡ true → Small b
      branch b m = omega (arith, (from_member b 0 S.branches m).1, ok.few-branches)
