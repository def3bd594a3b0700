-- The searches of both rules: what the one that settles first finds, on any image; that on a built net neither meets a malformed record, and that what either
-- finds is refused at a contact only.
use Prim.Native.Nat.{ℕ, zero, suc, ◌+◌, ◌≤◌, ◌<◌}
use mathlib.Core.Path.{◌≡◌, refl, sym, ap, ◌∙◌}
use mathlib.Core.Logic.{◌⊎◌, inl, inr}
use mathlib.Core.Bool.{Bool, true, false, not, ◌&&◌, false≢true}
use mathlib.Core.List.{List}
use native.Mathlib.Decide.{ℕ_discrete}
use native.Mathlib.Omega.{arith}
use lib.ListN.{length}
use Rattle.lists.specs.Lists.{pick}
use Rattle.lists.proofs.Tests.{and_left, and_right}
use Rattle.net.specs.Image.{transition_count, label_at, is_bookkeeping, inputs_at, outputs_at, record_right}
use Rattle.net.specs.Net.{Net, encode, is_ascending}
use Rattle.net.specs.Firing.{is_enabled, has_contact, moved, Search, lowest, malformed, nothing, lowest_enabled, quiet_from, or_else, settle_first}
use Rattle.net.specs.Firing.{step_of, step, made, refused}
use Rattle.net.proofs.Encode.{transition-count, record-passes}
use Rattle.net.proofs.Built.{never-malformed}
use Rattle.net.proofs.Runs.{lowest-met}
use Rattle.net.proofs.Steps.{step-as, step-contact, step-made}

lowest-nothing : (t : ℕ) → lowest t ≡ nothing → ⊥
lowest-nothing t e = cc

malformed-nothing : malformed ≡ nothing → ⊥
malformed-nothing e = cc

malformed-lowest : (t : ℕ) → malformed ≡ lowest t → ⊥
malformed-lowest t e = cc

lowest-malformed : (t : ℕ) → lowest t ≡ malformed → ⊥
lowest-malformed t e = cc

nothing-malformed : nothing ≡ malformed → ⊥
nothing-malformed e = cc

same-lowest : (t u : ℕ) → lowest t ≡ lowest u → t ≡ u
same-lowest t u e = cc

module _ (w m : List ℕ) where
  abbrev pub quietly : ℕ → Bool
  quietly k = is_enabled m (inputs_at w k) && is_bookkeeping (label_at w k).kind

  quiet-none-from : (n a : ℕ) → quiet_from w m n a ≡ nothing → (k : ℕ) → a ≤ k → k < a + n → quietly k ≡ false
  unfolding quiet_from
  quiet-none-from zero a e k x y = absurd (omega arith)
  quiet-none-from (suc n) a e k x y = go (record_right w a) (quietly a) refl e (λ p z. quiet-none-from n (a + 1) p k z (omega arith)) (ℕ_discrete k a)
    where
      go : (b d : Bool) → quietly a ≡ d → pick (not b) malformed (pick d (lowest a) (quiet_from w m n (a + 1))) ≡ nothing
          → (quiet_from w m n (a + 1) ≡ nothing → a + 1 ≤ k → quietly k ≡ false) → Dec (k ≡ a) → quietly k ≡ false
      go true true q p f δ = absurd (lowest-nothing a p)
      go true false q p f (yes h) = ap quietly h ∙ q
      go true false q p f (no h) = f p (omega arith)
      go false d q p f δ = absurd (malformed-nothing p)

  quiet-met-from : (n a t : ℕ) → quiet_from w m n a ≡ lowest t → (quietly t ≡ true) × (t < a + n)
  unfolding quiet_from
  quiet-met-from zero a t e = absurd (lowest-nothing t (sym e))
  quiet-met-from (suc n) a t e = go (record_right w a) (quietly a) refl e (quiet-met-from n (a + 1) t)
    where
      go : (b d : Bool) → quietly a ≡ d → pick (not b) malformed (pick d (lowest a) (quiet_from w m n (a + 1))) ≡ lowest t
          → (quiet_from w m n (a + 1) ≡ lowest t → (quietly t ≡ true) × (t < a + 1 + n)) → (quietly t ≡ true) × (t < a + suc n)
      go true true q p f = let h : a ≡ t = same-lowest a t p in (rw h at q, omega arith)
      go true false q p f = let (x, y) = f p in (x, omega arith)
      go false d q p f = absurd (malformed-lowest t p)

  -- what the search that settles first finds
  pub data Finds (s : Search) : Type 0 where
    finds-quiet : (t : ℕ) → s ≡ lowest t → is_bookkeeping (label_at w t).kind ≡ true → is_enabled m (inputs_at w t) ≡ true → t < transition_count w → Finds s
    finds-other : (t : ℕ) → s ≡ lowest t → ((k : ℕ) → k < transition_count w → quietly k ≡ false) → is_enabled m (inputs_at w t) ≡ true → t < transition_count w
        → Finds s
    finds-none : s ≡ nothing → lowest_enabled w m ≡ nothing → Finds s
    finds-wrong : s ≡ malformed → (quiet_from w m (transition_count w) 0 ≡ malformed) ⊎ (lowest_enabled w m ≡ malformed) → Finds s

  pub finds : Finds (settle_first w m)
  unfolding settle_first
  finds = go (quiet_from w m (transition_count w) 0) refl (lowest_enabled w m) refl
    where
      go : (a : Search) → quiet_from w m (transition_count w) 0 ≡ a → (b : Search) → lowest_enabled w m ≡ b → Finds (or_else a b)
      go (lowest t) p b q =
          let (x, y) = quiet-met-from (transition_count w) 0 t p in
          finds-quiet t refl (and_right (is_enabled m (inputs_at w t)) (is_bookkeeping (label_at w t).kind) x)
          (and_left (is_enabled m (inputs_at w t)) (is_bookkeeping (label_at w t).kind) x) (omega arith)
      go malformed p b q = finds-wrong refl (inl p)
      go nothing p (lowest t) q =
          finds-other t refl (λ k l. quiet-none-from (transition_count w) 0 p k (omega arith) (omega arith)) (lowest-met w m t q).enabled
          (omega (arith, (lowest-met w m t q).high))
      go nothing p malformed q = finds-wrong refl (inr q)
      go nothing p nothing q = finds-none refl q

-- no record of a built net is malformed
module _ (net : Net) (good : is_ascending net ≡ true) where
  quiet-right : (m : List ℕ) (n k : ℕ) → k + n ≤ length net.transitions → quiet_from (encode net) m n k ≡ malformed → ⊥
  unfolding quiet_from
  quiet-right m zero k h e = nothing-malformed e
  quiet-right m (suc n) k h e =
      go (record_right (encode net) k) (record-passes net k (omega arith) good) (quietly (encode net) m k) e (quiet-right m n (k + 1) (omega arith))
    where
      go : (b : Bool) → b ≡ true → (d : Bool) → pick (not b) malformed (pick d (lowest k) (quiet_from (encode net) m n (k + 1))) ≡ malformed
          → (quiet_from (encode net) m n (k + 1) ≡ malformed → ⊥) → ⊥
      go true r true p f = lowest-malformed k p
      go true r false p f = f p
      go false r d p f = false≢true r

  pub never-wrong : (m : List ℕ) → (quiet_from (encode net) m (transition_count (encode net)) 0 ≡ malformed) ⊎ (lowest_enabled (encode net) m ≡ malformed) → ⊥
  never-wrong m (inl p) = quiet-right m (transition_count (encode net)) 0 (omega (arith, transition-count net)) p
  never-wrong m (inr p) = never-malformed net good m p

-- an enabled transition whose record is right is refused at a contact only
enabled-refused : (w m : List ℕ) (t k : ℕ) → t < transition_count w → record_right w t ≡ true → is_enabled m (inputs_at w t) ≡ true
    → step w m t ≡ refused k → k ≡ 16
enabled-refused w m t k h r on q =
    go (has_contact m (inputs_at w t) (outputs_at w t)) refl (sym q ∙ step-as w m t h r (inputs_at w t) (outputs_at w t) refl refl)
  where
    apart : (n : List ℕ) → refused k ≡ made n → ⊥
    apart n e = cc

    go : (b : Bool) → has_contact m (inputs_at w t) (outputs_at w t) ≡ b → refused k ≡ step_of m (inputs_at w t) (outputs_at w t) → k ≡ 16
    go true c e = let z : refused k ≡ refused 16 = e ∙ step-contact m (inputs_at w t) (outputs_at w t) on c in cc
    go false c e = absurd (apart (moved m (inputs_at w t) (outputs_at w t)) (e ∙ step-made m (inputs_at w t) (outputs_at w t) on c))

-- a rule that meets no malformed record, and whose find is refused at a contact only
pub record Sound (w : List ℕ) (rule : List ℕ → Search) : Type 0 where
  pub whole : (m : List ℕ) → rule m ≡ malformed → ⊥
  pub refuses : (m : List ℕ) (t k : ℕ) → rule m ≡ lowest t → step w m t ≡ refused k → k ≡ 16

-- both rules are, on a built net
module _ (net : Net) (good : is_ascending net ≡ true) where
  found : (m : List ℕ) (u t k : ℕ) → u ≡ t → u < transition_count (encode net) → is_enabled m (inputs_at (encode net) u) ≡ true
      → step (encode net) m t ≡ refused k → k ≡ 16
  found m u t k e h on q =
      enabled-refused (encode net) m u k h (record-passes net u (omega (arith, transition-count net)) good) on (ap (step (encode net) m) e ∙ q)

  pub settles-sound : Sound (encode net) (settle_first (encode net))
  settles-sound = record { whole = λ m e. whole m e (finds (encode net) m); refuses = λ m t k p q. refuses m t k p q (finds (encode net) m) }
    where
      whole : (m : List ℕ) → settle_first (encode net) m ≡ malformed → Finds (encode net) m (settle_first (encode net) m) → ⊥
      whole m e (finds-quiet t p b on h) = lowest-malformed t (sym p ∙ e)
      whole m e (finds-other t p b on h) = lowest-malformed t (sym p ∙ e)
      whole m e (finds-none p n) = nothing-malformed (sym p ∙ e)
      whole m e (finds-wrong p h) = never-wrong net good m h

      refuses : (m : List ℕ) (t k : ℕ) → settle_first (encode net) m ≡ lowest t → step (encode net) m t ≡ refused k
          → Finds (encode net) m (settle_first (encode net) m) → k ≡ 16
      refuses m t k p q (finds-quiet u r b on h) = found m u t k (same-lowest u t (sym r ∙ p)) h on q
      refuses m t k p q (finds-other u r b on h) = found m u t k (same-lowest u t (sym r ∙ p)) h on q
      refuses m t k p q (finds-none r n) = absurd (lowest-nothing t (sym p ∙ r))
      refuses m t k p q (finds-wrong r h) = absurd (malformed-lowest t (sym r ∙ p))

  pub lowest-sound : Sound (encode net) (lowest_enabled (encode net))
  lowest-sound = record {
    whole = never-malformed net good;
    refuses = λ m t k p q. let g = lowest-met (encode net) m t p in found m t t k refl (omega (arith, g.high)) g.enabled q;
  }
