-- Numbers fired in turn on a built net follow the plain process: each is bookkeeping or an open step, and no more than 2B bookkeeping firings are in a row.
use Prim.Native.Nat.{ℕ, suc, ◌+◌, ◌*◌, ◌≤◌, ◌<◌}
use mathlib.Core.Path.{◌≡◌, refl, sym, ap, ◌∙◌}
use mathlib.Core.Logic.{◌⊎◌, inl, inr}
use mathlib.Core.Bool.{Bool, true, false, ◌||◌}
use mathlib.Core.List.{List, [], ◌∷◌}
use native.Mathlib.Omega.{arith}
use lib.Dec.{leb}
use lib.ListN.{length}
use borrow.Author.Tests.{le-leb}
use Rattle.lists.specs.Lists.{pick}
use Rattle.lists.proofs.Tests.{and_intro}
use Rattle.scheme.specs.Scheme.{Scheme, scheme}
use Rattle.table.specs.Accepted.{Accepted}
use Rattle.process.specs.States.{State}
use Rattle.process.specs.Steps.{is_step_open}
use Rattle.net.specs.Image.{Label, label_at, is_bookkeeping}
use Rattle.net.specs.Firing.{Outcome, made, refused, step, in_turn}
use Rattle.net.specs.Firing as Firing
use Rattle.net.proofs.Steps.{turn-made, turn-refused}
use Rattle.places.specs.Values.{Values}
use Rattle.places.specs.Reach.{values_for}
use Rattle.places.specs.Image.{net_of, image_of}
use Rattle.places.specs.Transitions.{descriptions}
use Rattle.readback.specs.Configurations.{Configuration}
use Rattle.fidelity.specs.Calls.{is_quiet, step_at, advance, advances}
use Rattle.fidelity.specs.Demand.{lawful, rows_within}
use Rattle.fidelity.specs.Inner.Marks.{after, Fits, WellFormed}
use Rattle.fidelity.specs.Inner.Shapes.{EnoughValues}
use Rattle.fidelity.specs.Inner.Standing.{advanced, Shows, marking_of}
use Rattle.fidelity.specs.Inner.Runs.{quiet}
use Rattle.fidelity.proofs.Enough.{enough-values}
use Rattle.fidelity.proofs.Rows.{left_in_all, quiet-less, left-bound}
use Rattle.fidelity.proofs.Built as Built
use Rattle.fidelity.proofs.Built.{description_at, described-at, label_is, Does, fires, past, idle, does, fired-shows, fired-lawful}

abbrev pub image : List ℕ → List ℕ
image w = image_of w

-- a firing that stops a turn has a cause
pub has-cause : {cause : ℕ} → (cause ≡ 14) ⊎ (cause ≡ 15) → cause ≡ 0 → ⊥
has-cause (inl a) b = omega arith
has-cause (inr a) b = omega arith

module _ (w : List ℕ) (A : Accepted (scheme w)) where
  abbrev pub S : Scheme
  S = scheme w

  abbrev pub U : Values
  U = values_for S

  abbrev pub E : EnoughValues S U
  E = enough-values S A

  pub image-is : image w ≡ Built.image S U A E
  unfolding image_of net_of
  image-is = refl

  -- what is left of all chains
  abbrev left : Configuration → ℕ
  left c = left_in_all S U A E c

  -- what a list of numbers that all fire leaves
  pub record Kept (row : ℕ) (c : Configuration) (s : State) (ns : List ℕ) : Type 0 where
    pub last : Configuration
    pub shows : Shows S U last (advances w (image w) s ns)
    pub marks : (in_turn (image w) (marking_of S U c) ns).marking ≡ marking_of S U last
    pub lawfully : lawful w (image w) s ns ≡ true
    pub rows : rows_within w (image w) (2 * S.bounds) row ns ≡ true

  -- the step of a number, on the image of the words
  pub data Acts (c : Configuration) (s : State) (row k : ℕ) : Type 0 where
    goes : (d : Configuration) → Shows S U d (advance w (image w) s k) → step (image w) (marking_of S U c) k ≡ made (marking_of S U d)
        → (is_quiet w (image w) k || is_step_open S s (step_at w (image w) k)) ≡ true → pick (is_quiet w (image w) k) (suc row) 0 + left d ≤ 2 * S.bounds
        → Acts c s row k
    stops : (cause : ℕ) → (cause ≡ 14) ⊎ (cause ≡ 15) → step (image w) (marking_of S U c) k ≡ refused cause → Acts c s row k

  quiet_is : (k : ℕ) → k < length (descriptions S U) → is_quiet w (image w) k ≡ quiet (description_at S U A E k)
  unfolding image_of net_of
  quiet_is k l = ap (λ (λ' : Label). is_bookkeeping λ'.kind) (label_is S U A E k l)

  row_kept : (c : Configuration) (row k : ℕ) → WellFormed S U c → (l : k < length (descriptions S U)) → (f : Fits S (description_at S U A E k) c)
      → WellFormed S U (after S (description_at S U A E k) c) → row + left c ≤ 2 * S.bounds
      → pick (is_quiet w (image w) k) (suc row) 0 + left (after S (description_at S U A E k) c) ≤ 2 * S.bounds
  row_kept c row k W l f N h = go (quiet (description_at S U A E k)) refl (quiet_is k l)
    where
      go : (b : Bool) → quiet (description_at S U A E k) ≡ b → is_quiet w (image w) k ≡ quiet (description_at S U A E k)
          → pick (is_quiet w (image w) k) (suc row) 0 + left (after S (description_at S U A E k) c) ≤ 2 * S.bounds
      go true e q = rw (q ∙ e) (omega (arith, quiet-less S U A E c (described-at S U A E k l) f e))
      go false e q = rw (q ∙ e) (omega (arith, left-bound S U A E (after S (description_at S U A E k) c) N))

  pub acts : (c : Configuration) (s : State) (row k : ℕ) → Shows S U c s → row + left c ≤ 2 * S.bounds → Acts c s row k
  unfolding image_of net_of
  acts c s row k R h = go (does S U A E c R.formed k)
    where
      go : Does S U A E c k → Acts c s row k
      go (fires l f e) =
          let N : Shows S U (after S (description_at S U A E k) c) (advanced S (label_at (image w) k) s) = fired-shows S U A E c s R k l f in
          goes (after S (description_at S U A E k) c) N e (fired-lawful S U A E c s R k l f) (row_kept c row k R.formed l f N.formed h)
      go (past e) = stops 14 (inl refl) e
      go (idle e) = stops 15 (inr refl) e

  -- all numbers fire
  pub turns : (ns : List ℕ) (row : ℕ) (c : Configuration) (s : State) → Shows S U c s → row + left c ≤ 2 * S.bounds
      → (in_turn (image w) (marking_of S U c) ns).cause ≡ 0 → Kept row c s ns
  unfolding in_turn advances lawful rows_within
  turns [] row c s R h e = record { last = c; shows = R; marks = refl; lawfully = refl; rows = le-leb row (2 * S.bounds) (omega arith) }
  turns (k ∷ ns) row c s R h e = go (acts c s row k R h) (turns ns)
    where
      go : Acts c s row k
          → ((row : ℕ) (c : Configuration) (s : State) → Shows S U c s → row + left c ≤ 2 * S.bounds
          → (in_turn (image w) (marking_of S U c) ns).cause ≡ 0 → Kept row c s ns)
          → Kept row c s (k ∷ ns)
      go (stops cause h14 q) ih = absurd (has-cause h14 (sym (ap (λ (o : Outcome). o.cause) (turn-refused (image w) (marking_of S U c) k ns cause q)) ∙ e))
      go (goes d N q o b) ih =
          build (ih (pick (is_quiet w (image w) k) (suc row) 0) d (advance w (image w) s k) N b (sym (ap (λ (o : Outcome). o.cause) p) ∙ e))
        where
          p : in_turn (image w) (marking_of S U c) (k ∷ ns) ≡ Firing.after 1 (in_turn (image w) (marking_of S U d) ns)
          p = turn-made (image w) (marking_of S U c) k ns (marking_of S U d) q

          build : Kept (pick (is_quiet w (image w) k) (suc row) 0) d (advance w (image w) s k) ns → Kept row c s (k ∷ ns)
          build K = record {
            last = K.last;
            shows = K.shows;
            marks = ap (λ (o : Outcome). o.marking) p ∙ K.marks;
            lawfully = and_intro (is_quiet w (image w) k || is_step_open S s (step_at w (image w) k)) (lawful w (image w) (advance w (image w) s k) ns) o K.lawfully;
            rows =
                and_intro (leb row (2 * S.bounds)) (rows_within w (image w) (2 * S.bounds) (pick (is_quiet w (image w) k) (suc row) 0) ns)
                (le-leb row (2 * S.bounds) (omega arith)) K.rows;
          }
