-- Every firing keeps the origins of private values: a copy and a communication pass a value to a name whose reach takes in the reach of the name that had it,
-- and New takes a value that no name has, which stems from its own name.
use Prim.Native.Nat.{ℕ, ◌≤◌}
use mathlib.Core.Path.{◌≡◌, sym, ◌∙◌}
use mathlib.Core.Logic.{◌≢◌}
use mathlib.Core.Bool.{true}
use mathlib.Core.Option.{Option, none, some}
use mathlib.Core.List.{[], ◌∷◌}
use native.Mathlib.Decide.{ℕ_discrete}
use lib.ListN.{get_or}
use Rattle.scheme.specs.Scheme.{Scheme}
use Rattle.table.specs.Accepted.{Accepted}
use Rattle.process.specs.States.{put}
use Rattle.places.specs.Values.{Values}
use Rattle.places.specs.Transitions.{test, Description}
use Rattle.readback.specs.Configurations.{Configuration}
use Rattle.fidelity.specs.Inner.Marks.{after, Fits, Sourced}
use Rattle.fidelity.specs.Inner.Shapes.{Described, is-new, is-call, is-copy, is-release, is-ending, is-silent, is-communication, EnoughValues}
use Rattle.fidelity.proofs.Basics.{none-some, put_self, put_other, asks-here, asks-there}

module _ (S : Scheme) (U : Values) where
  -- the values e stem from origins
  Stem : (ℕ → Option ℕ) → (ℕ → ℕ) → Type 0
  Stem e g = (x v : ℕ) → S.publics ≤ v → e x ≡ some v → (U.origins x (g v) ≡ true) × (S.restricted (g v) ≡ true)

  stem-release : (e : ℕ → Option ℕ) (g : ℕ → ℕ) (z : ℕ) → Stem e g → Stem (put e z none) g
  unfolding Stem
  stem-release e g z h x v l q = go (ℕ_discrete x z)
    where
      go : Dec (x ≡ z) → (U.origins x (g v) ≡ true) × (S.restricted (g v) ≡ true)
      go (yes p) = absurd (none-some (put_self e z none) (rw p at q))
      go (no d) = h x v l (sym (put_other e z none x d) ∙ q)

  -- y takes the value of z
  stem-take : (e : ℕ → Option ℕ) (g : ℕ → ℕ) (y z u : ℕ) → Stem e g → e z ≡ some u → ((o : ℕ) → U.origins z o ≡ true → U.origins y o ≡ true)
      → Stem (put e y (some u)) g
  unfolding Stem
  stem-take e g y z u h ez flow x v l q = go (ℕ_discrete x y)
    where
      go : Dec (x ≡ y) → (U.origins x (g v) ≡ true) × (S.restricted (g v) ≡ true)
      go (yes p) =
          let i : u ≡ v = cc (put_self e y (some u)) in
          let (a, b) = h z v l (ez ∙ rw i) in
          (rw p (flow (g v) a), b)
      go (no d) = h x v l (sym (put_other e y (some u) x d) ∙ q)

  -- r takes a value that no name has
  stem-new : (e : ℕ → Option ℕ) (g : ℕ → ℕ) (r u : ℕ) → Stem e g → ((x : ℕ) → e x ≢ some u) → S.restricted r ≡ true → U.origins r r ≡ true
      → Stem (put e r (some u)) (put g u r)
  unfolding Stem
  stem-new e g r u h fr rr own x v l q = go (ℕ_discrete v u) (ℕ_discrete x r)
    where
      go : Dec (v ≡ u) → Dec (x ≡ r) → (U.origins x (put g u r v) ≡ true) × (S.restricted (put g u r v) ≡ true)
      go (yes p) (yes d) = rw (p, put_self g u r, d) (own, rr)
      go (yes p) (no d) = absurd (fr x (rw (← p) (sym (put_other e r (some u) x d) ∙ q)))
      go (no p) (yes d) = absurd (p (let i : u ≡ v = cc (put_self e r (some u)) in sym i))
      go (no p) (no d) = rw (put_other g u r v p) (h x v l (sym (put_other e r (some u) x d) ∙ q))

module _ (S : Scheme) (U : Values) (A : Accepted S) (E : EnoughValues S U) where
  pub sourced-after : {t : Description} (c : Configuration) → Sourced S U c → Described S U t → Fits S t c → Sourced S U (after S t c)
  unfolding Stem
  sourced-after c Q (is-new n r l v h p re) f =
      record {
        origin = put Q.origin v r;
        stems =
            stem-new S U c.value Q.origin r v Q.stems (λ x. f.suits.1 (A.new-restricted n r l h) x) (A.new-restricted n r l h)
            (E.own r (A.new-restricted n r l h));
      }
  sourced-after c Q (is-call n d h) f = record { origin = Q.origin; stems = Q.stems }
  sourced-after c Q (is-copy n d j v h l t re) f =
      record {
        origin = Q.origin;
        stems =
            stem-take S U c.value Q.origin (get_or (S.formals d) j 0) (get_or (S.arguments n) j 0) v Q.stems
            (f.tests (get_or (S.arguments n) j 0) v (asks-here (get_or (S.arguments n) j 0) v [])) (λ o. E.copied n d j o h l);
      }
  sourced-after c Q (is-release n d j v h l re p) f =
      record { origin = Q.origin; stems = stem-release S U c.value Q.origin (get_or (S.held n) j 0) Q.stems }
  sourced-after c Q (is-ending n j v k h l re p) f =
      record { origin = Q.origin; stems = stem-release S U c.value Q.origin (get_or (S.held n) j 0) Q.stems }
  sourced-after c Q (is-silent b l h) f = record { origin = Q.origin; stems = Q.stems }
  sourced-after c Q (is-communication s a z l r e y m i j hs hr df im tz re own) f =
      record {
        origin = Q.origin;
        stems =
            stem-take S U c.value Q.origin y z j Q.stems
            (f.tests z j (asks-there a i (test e i ∷ test z j ∷ []) z j (asks-there e i (test z j ∷ []) z j (asks-here z j []))))
            (λ o. E.met s a z l r e y m i o hs hr df im);
      }
