-- One pass finds what the rule of a run finds, and what one turn of it does.
use mathlib.Core.Path.{◌≡◌, refl, sym, ap, ◌∙◌}
use mathlib.Core.Bool.{Bool, true, false, not, ◌&&◌}
use mathlib.Core.List.{List}
use Prim.Native.Nat.{ℕ, zero, suc, ◌+◌, ◌-◌, ◌≤◌, ◌<◌}
use native.Mathlib.Decide.{dec_lt}
use native.Mathlib.Omega.{arith}
use Rattle.std.specs.Prelude.{Option, Some, None, Ok}
use Rattle.std.specs.Prelude.{max}
use Rattle.std.specs.Option.{option_or}
use Rattle.lists.specs.Lists.{pick}
use Rattle.net.specs.Image.{transition_count, label_at, is_bookkeeping, record_right, inputs_at}
use Rattle.net.specs.Firing.{is_enabled, Search, lowest, malformed, nothing, search_from, lowest_enabled, quiet_from, or_else, settle_first}
use Rattle.net.specs.Inner.Passes.{rule_of, is_end_at, pass_from, kept_as, Chosen, Finds}
use Rattle.net.specs.Inner.Arcs.{ArcsOf}

module _ (w m : List ℕ) where
  -- by the old rule nothing is kept
  lowest-pass : (n t : ℕ) → pass_from w m false nothing n t ≡ search_from w m n t
  unfolding pass_from search_from
  lowest-pass zero t = refl
  lowest-pass (suc n) t = rw (lowest-pass n (t + 1)) refl

  -- one that settles first, with u kept
  kept-pass : (u n t : ℕ) → pass_from w m true (lowest u) n t ≡ or_else (quiet_from w m n t) (lowest u)
  unfolding pass_from quiet_from
  kept-pass u zero t = refl
  kept-pass u (suc n) t = go (record_right w t) (is_enabled m (inputs_at w t)) (is_bookkeeping (label_at w t).kind) (kept-pass u n (t + 1))
    where
      go : (r e q : Bool) → pass_from w m true (lowest u) n (t + 1) ≡ or_else (quiet_from w m n (t + 1)) (lowest u)
          → pick (not r) malformed (pick e (pick q (lowest t) (pass_from w m true (lowest u) n (t + 1))) (pass_from w m true (lowest u) n (t + 1)))
          ≡ or_else (pick (not r) malformed (pick (e && q) (lowest t) (quiet_from w m n (t + 1)))) (lowest u)
      go false e q ih = refl
      go true true true ih = refl
      go true true false ih = ih
      go true false q ih = ih

  -- with nothing kept
  settling-pass : (n t : ℕ) → pass_from w m true nothing n t ≡ or_else (quiet_from w m n t) (search_from w m n t)
  unfolding pass_from quiet_from search_from
  settling-pass zero t = refl
  settling-pass (suc n) t =
      go (record_right w t) (is_enabled m (inputs_at w t)) (is_bookkeeping (label_at w t).kind) (settling-pass n (t + 1)) (kept-pass t n (t + 1))
    where
      go : (r e q : Bool) → pass_from w m true nothing n (t + 1) ≡ or_else (quiet_from w m n (t + 1)) (search_from w m n (t + 1))
          → pass_from w m true (lowest t) n (t + 1) ≡ or_else (quiet_from w m n (t + 1)) (lowest t)
          → pick (not r) malformed (pick e (pick q (lowest t) (pass_from w m true (lowest t) n (t + 1))) (pass_from w m true nothing n (t + 1)))
          ≡ or_else (pick (not r) malformed (pick (e && q) (lowest t) (quiet_from w m n (t + 1))))
          (pick (not r) malformed (pick e (lowest t) (search_from w m n (t + 1))))
      go false e q ih k = refl
      go true true true ih k = refl
      go true true false ih k = k
      go true false q ih k = ih

  -- a single pass finds what the rule finds
  one-pass : (settle : Bool) → rule_of settle w m ≡ pass_from w m settle nothing (transition_count w) 0
  unfolding settle_first lowest_enabled
  one-pass true = sym (settling-pass (transition_count w) 0)
  one-pass false = sym (lowest-pass (transition_count w) 0)

-- ---- the pass at transition t, with something kept

or_kept : (kept : Option ℕ) (t : ℕ) → or_else (kept_as kept) (lowest t) ≡ kept_as (option_or kept (Some t))
or_kept None t = refl
or_kept (Some best) t = refl

module _ (w m : List ℕ) (settle : Bool) (t : ℕ) (kept : Search) where
  pub pass-end : transition_count w ≤ t → pass_from w m settle kept (transition_count w - t) t ≡ kept
  unfolding pass_from
  pass-end h = let e : transition_count w - t ≡ 0 = omega arith in rw e

  module _ (h : t < transition_count w) where
    left_over : transition_count w - t ≡ suc (transition_count w - (t + 1))
    left_over = omega arith

    pub pass-wrong : record_right w t ≡ false → pass_from w m settle kept (transition_count w - t) t ≡ malformed
    unfolding pass_from
    pass-wrong a = rw (left_over, a)

    module _ (a : record_right w t ≡ true) where
      pub pass-off : is_enabled m (inputs_at w t) ≡ false
          → pass_from w m settle kept (transition_count w - t) t ≡ pass_from w m settle kept (transition_count w - (t + 1)) (t + 1)
      unfolding pass_from
      pass-off p = rw (left_over, a, p)

      module _ (p : is_enabled m (inputs_at w t) ≡ true) where
        pub pass-stop : is_end_at w settle t ≡ true → pass_from w m settle kept (transition_count w - t) t ≡ lowest t
        unfolding pass_from
        pass-stop q = rw (left_over, a, p, q)

        pub pass_on : is_end_at w settle t ≡ false
            → pass_from w m settle kept (transition_count w - t) t ≡ pass_from w m settle (or_else kept (lowest t)) (transition_count w - (t + 1)) (t + 1)
        unfolding pass_from
        pass_on q = rw (left_over, a, p, q)

-- what a pass has come to at transition t: the records met are right, and so is what it kept
pub record Passed (w m : List ℕ) (settle : Bool) (kept : Option ℕ) (t : ℕ) : Type 0 where
  pub finds : rule_of settle w m ≡ pass_from w m settle (kept_as kept) (transition_count w - t) t
  pub right : (k : ℕ) → k < t → record_right w k ≡ true
  pub keeps : (b : ℕ) → kept ≡ Some b → Chosen w m b

module _ (w m : List ℕ) (settle : Bool) where
  pub passed_start : Passed w m settle None 0
  passed_start =
      let z : transition_count w - 0 ≡ transition_count w = omega arith in record {
        finds = one-pass w m settle ∙ rw z refl;
        right = λ k h. absurd (omega arith);
        keeps = λ b e. absurd (none_some b e);
      }
    where
      none_some : (b : ℕ) → None ≡ Some b → ⊥
      none_some b e = cc

  module _ (kept : Option ℕ) (t : ℕ) (P : Passed w m settle kept t) where
    -- the search ends with what was kept
    pub passed-end : transition_count w ≤ t → Finds w m settle (Ok kept)
    passed-end h = go kept refl
      where
        go : (k : Option ℕ) → kept ≡ k → Finds w m settle (Ok k)
        go None e = P.finds ∙ pass-end w m settle t (kept_as kept) h ∙ ap kept_as e
        go (Some b) e = (P.finds ∙ pass-end w m settle t (kept_as kept) h ∙ ap kept_as e, P.keeps b e)

    module _ (h : t < transition_count w) where
      pub passed-wrong : record_right w t ≡ false → rule_of settle w m ≡ malformed
      passed-wrong a = P.finds ∙ pass-wrong w m settle t (kept_as kept) h a

      module _ (ins outs : List ℕ) (a : ArcsOf w t ins outs) where
        pub met_right : (k : ℕ) → k < t + 1 → record_right w k ≡ true
        met_right k l = go (dec_lt k t)
          where
            go : Dec (k < t) → record_right w k ≡ true
            go (yes d) = P.right k d
            go (no d) = let e : k ≡ t = omega arith in ap (record_right w) e ∙ a.right

        pub passed-off : is_enabled m ins ≡ false → Passed w m settle kept (t + 1)
        passed-off p =
            record {
              finds = P.finds ∙ pass-off w m settle t (kept_as kept) h a.right (ap (is_enabled m) (sym a.inputs-are) ∙ p);
              right = met_right;
              keeps = P.keeps;
            }

        module _ (p : is_enabled m ins ≡ true) where
          here : Chosen w m t
          here = record { below = h; right = a.right; enabled = ap (is_enabled m) (sym a.inputs-are) ∙ p }

          pub passed_on : is_end_at w settle t ≡ false → (next : Option ℕ) → next ≡ option_or kept (Some t) → Passed w m settle next (t + 1)
          passed_on q next e =
              record {
                finds = P.finds ∙ pass_on w m settle t (kept_as kept) h a.right here.enabled q
                    ∙ ap (λ (s : Search). pass_from w m settle s (transition_count w - (t + 1)) (t + 1)) (or_kept kept t ∙ ap kept_as (sym e));
                right = met_right;
                keeps = λ b f. go kept refl b (sym e ∙ f);
              }
            where
              same_some : (x y : ℕ) → Some x ≡ Some y → y ≡ x
              same_some x y f = cc

              go : (k : Option ℕ) → kept ≡ k → (b : ℕ) → option_or k (Some t) ≡ Some b → Chosen w m b
              go None i b f = rw (same_some t b f) here
              go (Some x) i b f = P.keeps b (i ∙ f)

          pub passed-stop : is_end_at w settle t ≡ true → Finds w m settle (Ok (Some t))
          passed-stop q = (P.finds ∙ pass-stop w m settle t (kept_as kept) h a.right here.enabled q, here)

-- the records met, and those met before, are right
pub seen_more : (w : List ℕ) (seen met n : ℕ) → ((k : ℕ) → k < seen → record_right w k ≡ true) → ((k : ℕ) → k < met → record_right w k ≡ true)
    → n ≡ max seen met → (k : ℕ) → k < n → record_right w k ≡ true
seen_more w seen met n f g e k h = go (dec_lt k seen)
  where
    go : Dec (k < seen) → record_right w k ≡ true
    go (yes p) = f k p
    go (no p) = g k (omega (arith, e, h))
