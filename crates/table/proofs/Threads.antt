-- Formals, entries, threads and names of an accepted table, as a Scheme has them.
use mathlib.Core.Path.{◌≡◌, sym, ◌∙◌}
use mathlib.Core.Bool.{true, false, ◌&&◌}
use mathlib.Core.List.{List, []}
use mathlib.Core.Logic.{◌⊎◌}
use Prim.Native.Nat.{ℕ, ◌≤◌, ◌<◌}
use native.Mathlib.Decide.{dec_lt}
use native.Mathlib.Omega.{arith}
use lib.Dec.{ltb}
use lib.ListN.{length}
use borrow.Author.Tests.{lt-ltb, le-ltb}
use Rattle.lists.specs.Lists.{pick, same, from, member, Distinct, none}
use Rattle.lists.proofs.Tests.{and_intro, and_both, and-false, same-yes, same-no}
use Rattle.lists.proofs.Ranges.{from-length}
use Rattle.lists.proofs.Members.{member-nil}
use Rattle.scheme.specs.Words.{publics, bounds, definitions, threads, nodes, branches, names, is_bound_name, name_kind_of, definition_thread, root, first_formal}
use Rattle.scheme.specs.Words.{formal_count, formals, entry, node_first, is_new, branch_name, is_receive}
use Rattle.scheme.specs.Owners.{home, held, definition, thread, branch_thread_of}
use Rattle.scheme.specs.Scheme.{by_new, by_receive, by_formal, unbound, binder_of, binder_thread, scheme}
use Rattle.table.specs.Accepted.{NameOf}
use Rattle.table.proofs.Inside
use Rattle.table.proofs.Trees
use Rattle.table.proofs.Decoded
use Rattle.table.proofs.Binders
use Rattle.table.proofs.Binders.{Bound, by-new, by-receive, by-formal}
use Rattle.table.proofs.Held
use Rattle.table.proofs.Uses
use Rattle.table.proofs.Passed.{Passed}

-- a definition's formals, none past the definitions
abbrev pub formals_at : List ℕ → ℕ → List ℕ
formals_at w d = pick (ltb d (definitions w)) (formals w d) []

pub formals-at : (w : List ℕ) (d : ℕ) → d < definitions w → formals_at w d ≡ formals w d
formals-at w d l = rw (lt-ltb d (definitions w) l)

formals-out : (w : List ℕ) (d : ℕ) → definitions w ≤ d → formals_at w d ≡ []
formals-out w d l = rw (le-ltb d (definitions w) l)

pub formals-length : (w : List ℕ) (d : ℕ) → length (formals w d) ≡ formal_count w d
unfolding formals
formals-length w d = from-length (first_formal w d) (formal_count w d)

pub no-formals : (w : List ℕ) (d : ℕ) → formal_count w d ≡ 0 → formals w d ≡ []
unfolding formals from
no-formals w d e = rw e

pub formal-of : (w : List ℕ) (d x : ℕ) → member x (formals_at w d) ≡ true → (d < definitions w) × (member x (formals w d) ≡ true)
formal-of w d x m = go (dec_lt d (definitions w))
  where
    go : Dec (d < definitions w) → (d < definitions w) × (member x (formals w d) ≡ true)
    go (yes l) = (l, rw (lt-ltb d (definitions w) l) at m)
    go (no l) = member-nil x (rw (formals-out w d (omega arith)) at m)

-- a bound name of thread t
pub name_of : (w : List ℕ) (t x : ℕ) → (publics w ≤ x) × (x < names w) → binder_thread w (binder_of w x) ≡ t → NameOf (scheme w) t x
unfolding scheme
name_of w t x i e = record { low = i.0; high = i.1; of = e }

module _ (w : List ℕ) (p : Passed w) where
  pub some-definition : 1 ≤ definitions w
  some-definition = omega (arith, Inside.entry-inside w p.ranges 0 (Inside.counted w p.counts).some-thread)

  -- ---- threads

  pub definition-inside : (n : ℕ) → definition w n < definitions w
  definition-inside n = Held.definition-inside w p.ranges p.shape p.binding some-definition n

  pub thread-inside : (n : ℕ) → thread w n < threads w
  thread-inside n = Inside.thread-inside w p.ranges (definition w n) (definition-inside n)

  pub root-thread : (d : ℕ) → d < definitions w → thread w (root w d) ≡ definition_thread w d
  root-thread d l = rw (Trees.root-definition w p.ranges p.shape d l)

  pub entry-thread : (t : ℕ) → t < threads w → thread w (root w (entry w t)) ≡ t
  entry-thread t l = root-thread (entry w t) (Inside.entry-inside w p.ranges t l) ∙ (Uses.entry-own w p.calls t l).0

  pub entry-formals : (t : ℕ) → t < threads w → formals_at w (entry w t) ≡ []
  entry-formals t l = formals-at w (entry w t) (Inside.entry-inside w p.ranges t l) ∙ no-formals w (entry w t) (Uses.entry-own w p.calls t l).1

  -- ---- formals

  pub few-formals : (d : ℕ) → length (formals_at w d) ≤ bounds w
  few-formals d = go (dec_lt d (definitions w))
    where
      go : Dec (d < definitions w) → length (formals_at w d) ≤ bounds w
      go (yes l) = rw (formals-at w d l, formals-length w d) (Inside.few-formals w p.ranges d l)
      go (no l) = rw (formals-out w d (omega arith)) (omega arith)

  pub formals-distinct : (d : ℕ) → Distinct (formals_at w d)
  formals-distinct d = go (dec_lt d (definitions w))
    where
      go : Dec (d < definitions w) → Distinct (formals_at w d)
      go (yes l) = rw (formals-at w d l) (Held.formals-distinct w p.ranges p.shape p.binding d)
      go (no l) = rw (formals-out w d (omega arith)) none

  -- a name of another kind is not restricted
  not-restricted : (x kind : ℕ) → name_kind_of w x ≡ kind → (kind ≡ 0 → ⊥) → (is_bound_name w x && same (name_kind_of w x) 0) ≡ false
  not-restricted x kind e d = rw (same-no (name_kind_of w x) 0 (λ f. d (sym e ∙ f))) (and-false (is_bound_name w x))

  pub formal-free : (d x : ℕ) → member x (formals_at w d) ≡ true → (is_bound_name w x && same (name_kind_of w x) 0) ≡ false
  formal-free d x m = let i = formal-of w d x m in not-restricted x 2 (Binders.formal-kind w p.ranges p.binding d x i.0 i.1) (λ e. omega arith)

  pub formal-name : (d x : ℕ) → member x (formals_at w d) ≡ true → NameOf (scheme w) (thread w (root w d)) x
  formal-name d x m =
      let i = formal-of w d x m in
      name_of w (thread w (root w d)) x (Inside.formals-inside w p.ranges d x i.0 i.1)
      (rw (Binders.binder-formal w p.ranges p.binding d x i.0 i.1) (sym (root-thread d i.0)))

  -- ---- held names

  pub held-name : (n x : ℕ) → member x (held w n) ≡ true → NameOf (scheme w) (thread w n) x
  held-name n x m =
      name_of w (thread w n) x (Held.held-bound w p.ranges p.shape p.binding n x m) (Held.held-thread w p.ranges p.shape p.binding n x m)

  -- ---- every bound name has a binder, of a thread

  bound : (x : ℕ) → publics w ≤ x → x < names w → Bound w x
  bound x l u = Binders.bound w p.ranges p.binding x l u (Decoded.name-kind w p.kinds x l u)

  pub name-bound : (x : ℕ) → publics w ≤ x → x < names w → binder_of w x ≡ unbound → ⊥
  name-bound x l u e = go (bound x l u)
    where
      go : Bound w x → ⊥
      go (by-new n i k q) =
          let b : binder_of w x ≡ by_new n = rw q at (Binders.binder-new w p.ranges p.binding n i k) in
          let z : ◌≡◌ {A = ℕ} 0 1 = cc in
          omega arith
      go (by-receive n i k q) =
          let b : binder_of w x ≡ by_receive n = rw q at (Binders.binder-receive w p.ranges p.binding n i k) in
          let z : ◌≡◌ {A = ℕ} 0 1 = cc in
          omega arith
      go (by-formal d i m) =
          let b : binder_of w x ≡ by_formal d = Binders.binder-formal w p.ranges p.binding d x i m in
          let z : ◌≡◌ {A = ℕ} 0 1 = cc in
          omega arith

  pub name-thread : (x : ℕ) → publics w ≤ x → x < names w → binder_thread w (binder_of w x) < threads w
  name-thread x l u = go (bound x l u)
    where
      go : Bound w x → binder_thread w (binder_of w x) < threads w
      go (by-new n i k q) = rw (← q, Binders.binder-new w p.ranges p.binding n i k) (thread-inside n)
      go (by-receive b i k q) = rw (← q, Binders.binder-receive w p.ranges p.binding b i k) (thread-inside (home w b))
      go (by-formal d i m) = rw (Binders.binder-formal w p.ranges p.binding d x i m) (Inside.thread-inside w p.ranges d i)

  pub no-thread : (x : ℕ) → (x < publics w) ⊎ (names w ≤ x) → binder_thread w (binder_of w x) ≡ threads w
  no-thread x o = rw (Binders.outside-unbound w p.ranges p.binding x o)

  pub restricted-bound : (x : ℕ) → (is_bound_name w x && same (name_kind_of w x) 0) ≡ true → (publics w ≤ x) × (x < names w)
  restricted-bound x h = Inside.bound-inside w x (and_both (is_bound_name w x) (same (name_kind_of w x) 0) h).0

  -- ---- what New and receive bind

  pub new-name : (n : ℕ) → n < nodes w → is_new w n ≡ true → NameOf (scheme w) (thread w n) (node_first w n)
  new-name n l k =
      name_of w (thread w n) (node_first w n) (Inside.bound-inside w (node_first w n) (Inside.new-inside w p.ranges n l k).0)
      (rw (Binders.binder-new w p.ranges p.binding n l k))

  pub new-restricted : (n : ℕ) → n < nodes w → is_new w n ≡ true → (is_bound_name w (node_first w n) && same (name_kind_of w (node_first w n)) 0) ≡ true
  new-restricted n l k =
      and_intro (is_bound_name w (node_first w n)) (same (name_kind_of w (node_first w n)) 0) (Inside.new-inside w p.ranges n l k).0
      (same-yes (name_kind_of w (node_first w n)) 0 (Binders.new-kind w p.ranges p.binding n l k))

  pub receive-name : (b : ℕ) → b < branches w → is_receive w b ≡ true → NameOf (scheme w) (branch_thread_of w b) (branch_name w b)
  receive-name b l k =
      name_of w (branch_thread_of w b) (branch_name w b) (Inside.bound-inside w (branch_name w b) (Inside.receive_inside w p.ranges b l k))
      (rw (Binders.binder-receive w p.ranges p.binding b l k))

  pub receive-free : (b : ℕ) → b < branches w → is_receive w b ≡ true → (is_bound_name w (branch_name w b) && same (name_kind_of w (branch_name w b)) 0) ≡ false
  receive-free b l k = not-restricted (branch_name w b) 1 (Binders.receive-kind w p.ranges p.binding b l k) (λ e. omega arith)
