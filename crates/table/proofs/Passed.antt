-- A table that no cause refuses passes every test.
use mathlib.Core.Path.{◌≡◌, refl}
use mathlib.Core.Bool.{Bool, true, false}
use mathlib.Core.List.{List, [], ◌∷◌}
use Prim.Native.Nat.{ℕ, ◌≤◌}
use native.Mathlib.Omega.{arith}
use Rattle.lists.specs.Lists.{pick}
use Rattle.table.specs.Causes.{long_enough, are_counts_right, is_layout_right, are_kinds_right, are_ranges_right, is_shape_right, is_binding_right, is_scope_right, are_calls_right, first_failed, tests, cause_sparing, cause}

pub record Passed (w : List ℕ) : Type 0 where
  pub long : long_enough w ≡ true
  pub counts : are_counts_right w ≡ true
  pub layout : is_layout_right w ≡ true
  pub kinds : are_kinds_right w ≡ true
  pub ranges : are_ranges_right w ≡ true
  pub shape : is_shape_right w ≡ true
  pub binding : is_binding_right w ≡ true
  pub scope : is_scope_right w ≡ true
  pub calls : are_calls_right w false ≡ true

-- the causes have numbers from 1 on
abbrev Numbered : List (ℕ × Bool) → Type 0
Numbered [] = Unit {0}
Numbered (t ∷ ts) = (1 ≤ t.0) × Numbered ts

abbrev AllHold : List (ℕ × Bool) → Type 0
AllHold [] = Unit {0}
AllHold (t ∷ ts) = (t.1 ≡ true) × AllHold ts

one-held : (b : Bool) (rest n : ℕ) → 1 ≤ n → pick b rest n ≡ 0 → (b ≡ true) × (rest ≡ 0)
one-held true rest n l h = (refl, h)
one-held false rest n l h = absurd (omega arith)

none-failed : (ts : List (ℕ × Bool)) → Numbered ts → first_failed ts ≡ 0 → AllHold ts
unfolding first_failed
none-failed [] n h = tt
none-failed (t ∷ ts) n h =
    let o = one-held t.1 (first_failed ts) t.0 n.0 h in
    (o.0, none-failed ts n.1 o.1)

-- in whatever order the tests stand
pub passed : (w : List ℕ) → cause w ≡ 0 → Passed w
unfolding cause cause_sparing
passed w h =
    let l : Numbered (tests w false) =
    (omega arith, (omega arith, (omega arith, (omega arith, (omega arith, (omega arith, (omega arith, (omega arith, (omega arith, tt))))))))) in
    let t = none-failed (tests w false) l h in
    let t1 = t.0 in
    let t2 = t.1.0 in
    let t3 = t.1.1.0 in
    let t4 = t.1.1.1.0 in
    let t5 = t.1.1.1.1.0 in
    let t6 = t.1.1.1.1.1.0 in
    let t7 = t.1.1.1.1.1.1.0 in
    let t8 = t.1.1.1.1.1.1.1.0 in
    let t9 = t.1.1.1.1.1.1.1.1.0 in
    record {
      long = cc;
      counts = cc;
      layout = cc;
      kinds = cc;
      ranges = cc;
      shape = cc;
      binding = cc;
      scope = cc;
      calls = cc;
    }
