-- The definition that each node and each bound name belongs to, by the index of a table.
use mathlib.Core.Path.{◌≡◌, ap, ◌∙◌}
use mathlib.Core.List.{List}
use Prim.Native.Nat.{ℕ, ◌+◌, ◌-◌, ◌≤◌, ◌<◌}
use native.Mathlib.Decide.{ℕ_discrete}
use native.Mathlib.Omega.{arith}
use lib.ListN.{length, set, take, drop}
use lib.Seq.{get_or-set_same, get_or-set_other}
use borrow.Author.Tests.{lt-ltb, le-ltb}
use Rattle.lists.specs.Lists.{word}
use Rattle.lists.proofs.Slices.{lent-part}
use Rattle.scheme.specs.Words.{publics, names}
use Rattle.scheme.specs.Owners.{home}
use Rattle.scheme.specs.Scheme.{Binder, by_new, by_receive, by_formal, binder_of}
use Rattle.scheme.specs.Index.{binder_number, definitions_in, binders_in}
use Rattle.scheme.proofs.Joined.{has-bodies, home-told, binder-told, definition-told}
use Rattle.table.proofs.Inside.{Counted, counted}
use Rattle.table.proofs.Owned
use Rattle.table.proofs.Decoded
use Rattle.table.proofs.Binders
use Rattle.table.proofs.Binders.{Bound, by-new, by-receive, by-formal}
use Rattle.rewriting.specs.Rewriting.{name_definition_of}
use Rattle.rewriting.specs.Inner.Belonging.{binder_definition_in, name_definition_at, Bodies, Spared}
use Rattle.rewriting.proofs.Family
use Rattle.rewriting.proofs.Family.{Sound, sound}

module _ (w index : List ℕ) (I : Spared w index) where
  few-of : Counted w
  few-of = counted w (sound w I.ok).counts

  pub bodies : Bodies w (definitions_in index)
  bodies n l =
      definition-told w index (has-bodies w index I.right) (omega (arith, few-of.few-nodes))
      (omega (arith, few-of.few-branches)) (omega (arith, few-of.few-definitions)) n l

  -- the same in the part of the index as it is lent
  pub bodies-lent : Bodies w (take 256 (drop 512 index))
  unfolding definitions_in
  bodies-lent n l = rw (lent-part index 512 256) (bodies n l)

-- ---- a bound name's definition

record Named (w index : List ℕ) (x : ℕ) : Type 0 where
  is : name_definition_at w index x ≡ name_definition_of w x
  small : name_definition_of w x < 32

module _ (w index : List ℕ) (I : Spared w index) (x : ℕ) (l : publics w ≤ x) (u : x < names w) where
  p : Sound w
  p = sound w I.ok

  few : Counted w
  few = counted w p.counts

  by-binder : (b : Binder) → binder_of w x ≡ b → word (binders_in index) x ≡ binder_number b
  by-binder b e = binder-told w index I.right x (omega (arith, few.few-publics, few.few-bounds)) ∙ ap binder_number e

  named : Bound w x → Named w index x
  unfolding binder_definition_in
  named (by-new n i k e) =
      let c : binder_of w x ≡ by_new n = rw e at (Binders.binder-new w p.ranges p.binding n i k) in
      let q : 65536 + n - 65536 ≡ n = omega arith in
      record {
        is = rw (by-binder (by_new n) c, c, le-ltb (65536 + n) 65536 (omega arith), lt-ltb (65536 + n) 131072 (omega (arith, few.few-nodes)), q)
            (bodies w index I n i);
        small = rw c (omega (arith, Family.definition-inside w p n, few.few-definitions));
      }
  named (by-receive b i k e) =
      let c : binder_of w x ≡ by_receive b = rw e at (Binders.binder-receive w p.ranges p.binding b i k) in
      let q : 131072 + b - 131072 ≡ b = omega arith in
      record {
        is = rw (
          by-binder (by_receive b) c,
          c,
          le-ltb (131072 + b) 65536 (omega arith),
          le-ltb (131072 + b) 131072 (omega arith),
          lt-ltb (131072 + b) 196608 (omega (arith, few.few-branches)),
          q,
          home-told w index (has-bodies w index I.right) b (omega (arith, few.few-branches)),
        ) (bodies w index I (home w b) (Owned.home-has w p.shape b i).inside);
        small = rw c (omega (arith, Family.definition-inside w p (home w b), few.few-definitions));
      }
  named (by-formal d i k) =
      let c : binder_of w x ≡ by_formal d = Binders.binder-formal w p.ranges p.binding d x i k in
      let q : 196608 + d - 196608 ≡ d = omega arith in
      record {
        is = rw (
          by-binder (by_formal d) c,
          c,
          le-ltb (196608 + d) 65536 (omega arith),
          le-ltb (196608 + d) 131072 (omega arith),
          le-ltb (196608 + d) 196608 (omega arith),
          q,
        );
        small = rw c (omega (arith, few.few-definitions));
      }

  all_named : Named w index x
  all_named = named (Binders.bound w p.ranges p.binding x l u (Decoded.name-kind w p.kinds x l u))

  pub name-definition-is : name_definition_at w index x ≡ name_definition_of w x
  name-definition-is = all_named.is

  pub name-definition-small : (d : ℕ) → d ≡ name_definition_at w index x → d < 32
  name-definition-small d e = rw (e ∙ name-definition-is) all_named.small

-- one name more
pub named-next : (w out after : List ℕ) (x d : ℕ) → x < length out → d ≡ name_definition_of w x → after ≡ set out x d
    → ((y : ℕ) → publics w ≤ y → y < x → word out y ≡ name_definition_of w y) → (y : ℕ) → publics w ≤ y → y < x + 1 → word after y ≡ name_definition_of w y
named-next w out after x d r e s h y l u = rw s (go (ℕ_discrete y x))
  where
    go : Dec (y ≡ x) → word (set out x d) y ≡ name_definition_of w y
    go (yes q) = rw q (get_or-set_same out x d 0 r ∙ e)
    go (no q) = get_or-set_other out x y d 0 q ∙ h y l (omega arith)
