-- Words written one after another: what a loop has left to write, and the labels of a node, a branch and a pair.
use mathlib.Core.Path.{◌≡◌, refl, sym, ap, ◌∙◌}
use mathlib.Core.Bool.{Bool, true, false, ◌&&◌, false≢true}
use mathlib.Core.List.{List, [], ◌∷◌, ◌++◌, map}
use Prim.Native.Nat.{ℕ, suc, ◌+◌, ◌≤◌, ◌<◌}
use native.Mathlib.Nat.{add-zero}
use native.Mathlib.Omega.{arith}
use lib.Dec.{ltb}
use lib.ListN.{length, set, length-append}
use lib.Seq.{sets, slice, length-sets, take-length}
use Rattle.lists.specs.Lists.{pick, same, word, from, range, keep, flat}
use Rattle.lists.proofs.Slices.{slice-step, slice-none}
use Rattle.lists.proofs.Stores.{sets-append}
use Rattle.scheme.specs.Words.{nodes, branches, branch_kind, node_first, node_second, is_choice, is_new, is_call_node}
use Rattle.scheme.specs.Scheme.{Scheme, scheme, Node, stop, choice, new, call, node_at}
use Rattle.scheme.specs.Kinds
use Rattle.process.specs.States.{State}
use Rattle.process.specs.Steps.{new_step, silent_step, communication, step_call, is_step_open, is_standing_at}
use Rattle.process.specs.Labels.{label_of, steps_of_node}
use Rattle.process.specs.Inner.Listed.{Listed, silent_words, step_words, node_words, pair_words, pairs_words, meeting_words, list_words, standing}
use Rattle.process.proofs.Decoding.{choice-at, new-at, call_at, stop-else}

-- ---- one after another

pub none-listed : (most : ℕ) (out : List ℕ) (i : ℕ) → Listed most [] out i out i
none-listed most out i = record { written = refl; next = sym (add-zero i); few = omega arith }

pub one-listed : (out after : List ℕ) (i v : ℕ) → after ≡ set out i v → Listed 1 (v ∷ []) out i after (i + 1)
one-listed out after i v e = record { written = e; next = refl; few = omega arith }

pub three-listed : (out one two after : List ℕ) (i k a b : ℕ) → one ≡ set out i k → two ≡ set one (i + 1) a → after ≡ set two (i + 2) b
    → Listed 3 (k ∷ a ∷ b ∷ []) out i after (i + 3)
three-listed out one two after i k a b p q r =
    let e : i + 1 ≡ suc i = omega arith in
    let f : i + 2 ≡ suc (suc i) = omega arith in
    record { written = r ∙ rw (q, p, e, f); next = refl; few = omega arith }

module _ (words out : List ℕ) (i : ℕ) (after : List ℕ) (r : ℕ) where
  pub listed_more : (m n : ℕ) → m ≤ n → Listed m words out i after r → Listed n words out i after r
  listed_more m n h l = record { written = l.written; next = l.next; few = omega arith }

  pub listed-length : (m : ℕ) → Listed m words out i after r → length after ≡ length out
  listed-length m l = rw l.written (length-sets out i words)

pub listed-append : (m n : ℕ) (us vs out : List ℕ) (i : ℕ) (middle : List ℕ) (j : ℕ) (after : List ℕ) (r : ℕ) → Listed m us out i middle j
    → Listed n vs middle j after r → Listed (m + n) (us ++ vs) out i after r
listed-append m n us vs out i middle j after r k l =
    record {
      written = l.written ∙ rw (k.written, k.next, ← sets-append out i us vs);
      next = l.next ∙ rw (k.next, length-append us vs) (omega arith);
      few = omega arith;
    }

-- ---- what a loop has left to write: the words left from place i on complete what was to be written from place i₀ on
pub record Left (words₀ out₀ : List ℕ) (i₀ : ℕ) (words out : List ℕ) (i : ℕ) : Type 0 where
  pub same-words : sets out₀ i₀ words₀ ≡ sets out i words
  pub same_end : i₀ + length words₀ ≡ i + length words
  pub same_length : length out ≡ length out₀

pub left-start : (words₀ words out : List ℕ) (i : ℕ) → words₀ ≡ words → Left words₀ out i words out i
left-start words₀ words out i e = record { same-words = rw e; same_end = rw e; same_length = refl }

module _ (words₀ out₀ : List ℕ) (i₀ : ℕ) (words out : List ℕ) (i : ℕ) (L : Left words₀ out₀ i₀ words out i) where
  pub left-more : (m : ℕ) (here rest after : List ℕ) (r : ℕ) → words ≡ here ++ rest → Listed m here out i after r → Left words₀ out₀ i₀ rest after r
  left-more m here rest after r e l =
      record {
        same-words = L.same-words ∙ rw (e, sets-append out i here rest, l.written, l.next);
        same_end = L.same_end ∙ rw (e, length-append here rest, l.next) (omega arith);
        same_length = listed-length here out i after r m l ∙ L.same_length;
      }

  pub left_end : (m : ℕ) → words ≡ [] → i ≤ i₀ + m → Listed m words₀ out₀ i₀ out i
  left_end m e h =
      let z : length words ≡ 0 = rw e in
      record { written = sym (L.same-words ∙ rw e); next = omega (arith, L.same_end, z); few = h }

-- a run over the first words of a buffer
module _ (f : ℕ → List ℕ) (l : List ℕ) (i e : ℕ) where
  pub slice-more : (v : ℕ) → v ≡ word l i → i < e → e ≤ length l → flat f (slice i e l) ≡ f v ++ flat f (slice (i + 1) e l)
  unfolding flat
  slice-more v q h k = rw (slice-step l i e h k, q)

  pub slice-done : e ≤ i → flat f (slice i e l) ≡ []
  unfolding flat
  slice-done h = rw (slice-none l i e h)

pub slice_all : (f : ℕ → List ℕ) (l : List ℕ) → flat f l ≡ flat f (slice 0 (length l) l)
slice_all f l = ap (flat f) (sym (take-length l))

-- ---- the labels of a branch and a node

module _ (S : Scheme) where
  abbrev silents : List ℕ → List ℕ
  silents xs = keep (λ b. Kinds.is_silent (S.branch b)) xs

  pub silent-yes : (b : ℕ) → Kinds.is_silent (S.branch b) ≡ true → silent_words S b ≡ label_of S (silent_step b)
  unfolding silent_words
  silent-yes b h = rw h

  pub silent-no : (b : ℕ) → Kinds.is_silent (S.branch b) ≡ false → silent_words S b ≡ []
  unfolding silent_words
  silent-no b h = rw h

  -- the silent branches of a Choice, one by one
  pub silent-labels : (xs : List ℕ) → flat (label_of S) (map silent_step (silents xs)) ≡ flat (silent_words S) xs
  unfolding keep flat
  silent-labels [] = refl
  silent-labels (b ∷ xs) = go (Kinds.is_silent (S.branch b)) refl (silent-labels xs)
    where
      go : (d : Bool) → Kinds.is_silent (S.branch b) ≡ d → flat (label_of S) (map silent_step (silents xs)) ≡ flat (silent_words S) xs
          → flat (label_of S) (map silent_step (silents (b ∷ xs))) ≡ silent_words S b ++ flat (silent_words S) xs
      go true h ih = rw (h, silent-yes b h, ih)
      go false h ih = rw (h, silent-no b h, ih)

  no_steps : (n : ℕ) (ν : Node) → Kinds.is_stop_node ν ≡ true → steps_of_node S n ν ≡ []
  no_steps n stop h = refl
  no_steps n (choice f c) h = absurd (false≢true h)
  no_steps n (new r l) h = absurd (false≢true h)
  no_steps n (call d) h = absurd (false≢true h)

module _ (w : List ℕ) (n : ℕ) where
  pub steps-choice : (ltb n (nodes w) && is_choice w n) ≡ true → step_words (scheme w) n ≡ flat (silent_words (scheme w)) (from (node_first w n) (node_second w n))
  unfolding step_words
  steps-choice h = rw (choice-at w n h) (silent-labels (scheme w) (from (node_first w n) (node_second w n)))

  pub steps-new : (ltb n (nodes w) && is_new w n) ≡ true → step_words (scheme w) n ≡ label_of (scheme w) (new_step n)
  unfolding step_words flat
  steps-new h = rw (new-at w n h) (rw (new-at w n h))

  pub steps-call : (ltb n (nodes w) && is_call_node w n) ≡ true → step_words (scheme w) n ≡ label_of (scheme w) (step_call n)
  unfolding step_words flat
  steps-call h = rw (call_at w n h)

  pub steps-none : (ltb n (nodes w) && is_choice w n) ≡ false → (ltb n (nodes w) && is_new w n) ≡ false → (ltb n (nodes w) && is_call_node w n) ≡ false
      → step_words (scheme w) n ≡ []
  unfolding step_words flat scheme
  steps-none a b d = rw (no_steps (scheme w) n (node_at w n) (stop-else w n a b d))

module _ (S : Scheme) (s : State) where
  pub node-yes : (n : ℕ) → is_standing_at S s n ≡ true → node_words S s n ≡ step_words S n
  unfolding node_words
  node-yes n h = rw h

  pub node-no : (n : ℕ) → is_standing_at S s n ≡ false → node_words S s n ≡ []
  unfolding node_words
  node-no n h = rw h

  pub pair-yes : (b c : ℕ) → is_step_open S s (communication b c) ≡ true → pair_words S s b c ≡ label_of S (communication b c)
  unfolding pair_words
  pair-yes b c h = rw h

  pub pair-no : (b c : ℕ) → is_step_open S s (communication b c) ≡ false → pair_words S s b c ≡ []
  unfolding pair_words
  pair-no b c h = rw h

  pub pairs-are : (b : ℕ) (l : List ℕ) → pairs_words S s l b ≡ flat (pair_words S s b) l
  unfolding pairs_words
  pairs-are b l = refl

  pub meetings-are : (l r : List ℕ) → meeting_words S s l r ≡ flat (pairs_words S s r) l
  unfolding meeting_words
  meetings-are l r = refl

pub all_are : (w : List ℕ) (s : State) (l r : List ℕ)
    → list_words (scheme w) s l r ≡ flat (node_words (scheme w) s) (range (nodes w)) ++ meeting_words (scheme w) s l r
unfolding list_words scheme
all_are w s l r = refl

module _ (w : List ℕ) (s : State) (kind b : ℕ) where
  pub standing-other : (ltb b (branches w) && same (branch_kind w b) kind) ≡ false → standing w s kind b ≡ []
  unfolding standing
  standing-other h = rw h

  pub standing-away : is_standing_at (scheme w) s ((scheme w).home b) ≡ false → standing w s kind b ≡ []
  unfolding standing
  standing-away h = go (ltb b (branches w) && same (branch_kind w b) kind)
    where
      go : (d : Bool) → pick (d && is_standing_at (scheme w) s ((scheme w).home b)) (b ∷ []) [] ≡ []
      go true = rw h
      go false = refl

  pub standing-there : (ltb b (branches w) && same (branch_kind w b) kind) ≡ true → is_standing_at (scheme w) s ((scheme w).home b) ≡ true
      → standing w s kind b ≡ b ∷ []
  unfolding standing
  standing-there h k = rw (h, k)
