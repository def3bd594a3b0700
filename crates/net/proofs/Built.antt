-- What the calls give on the image of an abstract net whose lists ascend: the checks of the image pass, so only markings and firings are left.
use mathlib.Core.Path.{◌≡◌, sym, ap, ◌∙◌}
use mathlib.Core.Bool.{Bool, true, false, not}
use mathlib.Core.List.{List, [], ◌∷◌}
use Prim.Native.Nat.{ℕ, zero, suc, ◌+◌, ◌≤◌}
use native.Mathlib.Omega.{arith}
use lib.ListN.{length}
use Rattle.lists.specs.Lists.{pick}
use Rattle.net.specs.Image.{place_count_of, transition_count, inputs_at, record_right}
use Rattle.net.specs.Firing.{is_marking, is_enabled, initial_marking, in_turn, fire, replay, Search}
use Rattle.net.specs.Firing.{lowest, malformed, search_from, lowest_enabled, run_by, run_of}
use Rattle.net.specs.Net.{Net, encode, is_ascending}
use Rattle.net.proofs.Steps.{fire-as, replay-as}
use Rattle.net.proofs.Runs.{run-as}
use Rattle.net.proofs.Encode.{place-count, transition-count, header-passes, record-passes}
use Rattle.net.proofs.Outcomes.{initial-keeps}

module _ (net : Net) where
  marking-for : (m : List ℕ) → is_marking net.places m ≡ true → is_marking (place_count_of (encode net)) m ≡ true
  marking-for m h = ap (λ (n : ℕ). is_marking n m) (place-count net) ∙ h

  pub initial-is-marking : is_marking net.places (initial_marking (encode net)) ≡ true
  initial-is-marking = ap (λ (n : ℕ). is_marking n (initial_marking (encode net))) (sym (place-count net)) ∙ initial-keeps (encode net)

  module _ (good : is_ascending net ≡ true) where
    pub fire-built : (m : List ℕ) (k : ℕ) → is_marking net.places m ≡ true → fire (encode net) m k ≡ in_turn (encode net) m (k ∷ [])
    fire-built m k h = fire-as (encode net) m k (header-passes net good) (marking-for m h)

    pub replay-built : (m ks : List ℕ) → length m ≡ net.places → replay (encode net) m ks ≡ in_turn (encode net) (initial_marking (encode net)) ks
    replay-built m ks h = replay-as (encode net) m ks (header-passes net good) (h ∙ sym (place-count net))

    pub run-built : (rule : List ℕ → Search) (m : List ℕ) (limit room : ℕ) → is_marking net.places m ≡ true
        → run_of (encode net) rule m limit room ≡ run_by (encode net) rule limit room m
    run-built rule m limit room h = run-as (encode net) rule m limit room (header-passes net good) (marking-for m h)

    -- a search meets no malformed record
    search-right : (m : List ℕ) (n k : ℕ) → k + n ≤ length net.transitions → search_from (encode net) m n k ≡ malformed → ⊥
    unfolding search_from
    search-right m zero k h e = let z : ◌≡◌ {A = ℕ} 0 1 = cc in omega arith
    search-right m (suc n) k h e = go (record_right (encode net) k) (record-passes net k (omega arith) good) e (search-right m n (k + 1) (omega arith))
      where
        go2 : (b : Bool) → pick b (lowest k) (search_from (encode net) m n (k + 1)) ≡ malformed → (search_from (encode net) m n (k + 1) ≡ malformed → ⊥) → ⊥
        go2 true p f = let z : ◌≡◌ {A = ℕ} 0 1 = cc in omega arith
        go2 false p f = f p

        go : (b : Bool) → b ≡ true → pick (not b) malformed
            (pick (is_enabled m (inputs_at (encode net) k)) (lowest k) (search_from (encode net) m n (k + 1))) ≡ malformed
            → (search_from (encode net) m n (k + 1) ≡ malformed → ⊥) → ⊥
        go true r p f = go2 (is_enabled m (inputs_at (encode net) k)) p f
        go false r p f = let z : ◌≡◌ {A = ℕ} 0 1 = cc in omega arith

    pub never-malformed : (m : List ℕ) → lowest_enabled (encode net) m ≡ malformed → ⊥
    unfolding lowest_enabled
    never-malformed m e = search-right m (transition_count (encode net)) 0 (omega (arith, transition-count net)) e
