-- The thread of a name by lent homes, definitions and binders is the table's own where these are.
use mathlib.Core.Path.{◌≡◌, refl}
use mathlib.Core.Bool.{Bool, true, false}
use mathlib.Core.List.{List}
use Prim.Native.Nat.{ℕ, ◌+◌, ◌-◌, ◌≤◌, ◌<◌}
use native.Mathlib.Omega.{arith}
use lib.Dec.{ltb}
use borrow.Author.Tests.{lt-ltb, le-ltb, ltb-true}
use Rattle.lists.specs.Lists.{pick, word, first_from}
use Rattle.scheme.specs.Words.{definitions, nodes, branches}
use Rattle.scheme.specs.Owners.{home, definition, thread, branch_thread_of}
use Rattle.scheme.specs.Scheme.{by_new, by_receive, by_formal, unbound, pick_binder, binder_of, binder_thread, scheme}
use Rattle.scheme.specs.Index.{binder_number, binder_thread_in}
use Rattle.table.specs.Causes.{cause}
use Rattle.table.proofs.Accepted.{accepted}

module _ (w homes defs : List ℕ) (ok : cause w ≡ 0) (homes-right : (b : ℕ) → b < branches w → word homes b ≡ home w b)
    (definitions-right : (n : ℕ) → n < nodes w → word defs n ≡ definition w n) where
  few-nodes : nodes w ≤ 256
  unfolding scheme
  few-nodes = (accepted w ok).few-nodes

  few-branches : branches w ≤ 256
  unfolding scheme
  few-branches = (accepted w ok).few-branches

  home-inside : (b : ℕ) → home w b < nodes w
  unfolding scheme
  home-inside b = (accepted w ok).home-inside b

  by-new : (n : ℕ) → n < nodes w → binder_thread_in w homes defs (65536 + n) ≡ thread w n
  unfolding binder_thread_in
  by-new n h =
      let e : 65536 + n - 65536 ≡ n = omega arith in
      rw (le-ltb (65536 + n) 65536 (omega arith), lt-ltb (65536 + n) 131072 (omega (arith, few-nodes)), e, definitions-right n h)

  by-receive : (b : ℕ) → b < branches w → binder_thread_in w homes defs (131072 + b) ≡ branch_thread_of w b
  unfolding binder_thread_in
  by-receive b h =
      let e : 131072 + b - 131072 ≡ b = omega arith in
      rw (
        le-ltb (131072 + b) 65536 (omega arith),
        le-ltb (131072 + b) 131072 (omega arith),
        lt-ltb (131072 + b) 196608 (omega (arith, few-branches)),
        e,
        homes-right b h,
        definitions-right (home w b) (home-inside b),
      )

  by-formal : (d : ℕ) → binder_thread_in w homes defs (196608 + d) ≡ binder_thread w (by_formal d)
  unfolding binder_thread_in
  by-formal d =
      let e : 196608 + d - 196608 ≡ d = omega arith in
      rw (le-ltb (196608 + d) 65536 (omega arith), le-ltb (196608 + d) 131072 (omega arith), le-ltb (196608 + d) 196608 (omega arith), e)

  by-nothing : binder_thread_in w homes defs 0 ≡ binder_thread w unbound
  unfolding binder_thread_in
  by-nothing = refl

  by-any : (n b d : ℕ) → binder_thread_in w homes defs (binder_number (pick_binder w n b d)) ≡ binder_thread w (pick_binder w n b d)
  unfolding pick_binder
  by-any n b d = go (ltb n (nodes w)) refl (ltb b (branches w)) refl (ltb d (definitions w))
    where
      go : (x : Bool) → ltb n (nodes w) ≡ x → (y : Bool) → ltb b (branches w) ≡ y → (z : Bool)
          → binder_thread_in w homes defs (binder_number (pick x (by_new n) (pick y (by_receive b) (pick z (by_formal d) unbound))))
          ≡ binder_thread w (pick x (by_new n) (pick y (by_receive b) (pick z (by_formal d) unbound)))
      go true p y q z = by-new n (ltb-true n (nodes w) p)
      go false p true q z = by-receive b (ltb-true b (branches w) q)
      go false p false q true = by-formal d
      go false p false q false = by-nothing

  pub name-thread-in : (x : ℕ) → binder_thread_in w homes defs (binder_number (binder_of w x)) ≡ (scheme w).thread_of_name x
  unfolding scheme binder_of
  name-thread-in x =
      by-any (first_from (nodes w) _ 0 (nodes w)) (first_from (branches w) _ 0 (branches w)) (first_from (definitions w) _ 0 (definitions w))
