-- A scheme R whose numbers read as those of S: every open step of S is the reading of exactly one open step of R, so both allow the same sequences.
use mathlib.Core.Path.{◌≡◌, refl, sym, ap, ◌∙◌}
use mathlib.Core.Bool.{true, not}
use mathlib.Core.List.{List, [], ◌∷◌, map}
use Prim.Native.Nat.{ℕ, ◌+◌, ◌-◌, ◌<◌}
use native.Mathlib.Omega.{arith}
use Rattle.lists.specs.Lists.{same}
use Rattle.lists.proofs.Tests.{false-true, and_intro, and_both, and_left, and_right, all_hold, same_self, same-yes, same_true}
use Rattle.scheme.specs.Scheme.{Scheme, Node, stop, choice, new, call, Branch, absent, silent, send, receive, present}
use Rattle.scheme.specs.Kinds.{is_new, is_call_node, is_silent}
use Rattle.table.specs.Accepted.{Accepted, Usable, Chosen}
use Rattle.process.specs.States.{State, is_one_value, start}
use Rattle.process.specs.Steps.{Step, new_step, silent_step, communication, step_call, no_step, take, is_step_open, is_standing_at, can_communicate}
use Rattle.process.specs.Labels.{label_of, new_name}
use Rattle.rewriting.specs.Sequences.{take_steps, open_in_turn, origin_step, origin_label, OneReading, SameSequences}
use Rattle.rewriting.proofs.Following
use Rattle.rewriting.proofs.Following.{Reads, read_node, read_branch, Followed, silent-present}

-- a step open in R that reads as y
pub record OpenReading (R : Scheme) (read : Step → Step) (s' : State) (y : Step) : Type 0 where
  pub step : Step
  pub opens : is_step_open R s' step ≡ true
  pub reads : read step ≡ y

module _ (R S : Scheme) (A : Accepted R) (node branch name definition : ℕ → ℕ) (M : Reads R S node branch name definition) where
  abbrev Stands : State → State → Type 0
  Stands = Following.Stands R S A node branch name definition M

  module _ (s' s : State) (H : Stands s' s) where
    abbrev read : Step → Step
    read = origin_step node branch

    used : (n x : ℕ) → s'.node (R.thread n) ≡ n → Usable R n x → s.value (name x) ≡ s'.value x
    used = Following.used R S A node branch name definition M s' s H

    branch-there : (b : ℕ) → present (R.branch b) ≡ true → (S.home (branch b) ≡ node (R.home b)) × (S.thread (node (R.home b)) ≡ R.thread (R.home b))
    branch-there = Following.branch-there R S A node branch name definition M s' s H

    follow : (x : Step) → is_step_open R s' x ≡ true → Followed R S A node branch name definition M s' s H x
    follow = Following.follow R S A node branch name definition M s' s H

    -- ---- the step of R that reads as a step of S: its thread says where it stands

    abbrev pub first_branch : Node → ℕ
    first_branch stop = 0
    first_branch (choice f c) = f
    first_branch (new r l) = 0
    first_branch (call d) = 0

    pub lift_branch : ℕ → ℕ
    lift_branch b = first_branch (R.node (s'.node (S.thread (S.home b)))) + (b - branch (first_branch (R.node (s'.node (S.thread (S.home b))))))

    abbrev pub lift : Step → Step
    lift (new_step n) = new_step (s'.node (S.thread n))
    lift (silent_step b) = silent_step (lift_branch b)
    lift (communication b c) = communication (lift_branch b) (lift_branch c)
    lift (step_call n) = step_call (s'.node (S.thread n))
    lift no_step = no_step

    lift-branch : (b : ℕ) → present (R.branch b) ≡ true → s'.node (R.thread (R.home b)) ≡ R.home b → lift_branch (branch b) ≡ b
    unfolding lift_branch
    lift-branch b p h =
        let t = branch-there b p in
        let c = A.home-choice b (A.branch-inside b p) in
        let e : c.first + (b - c.first) ≡ b = omega (arith, c.low) in
        let r : branch (c.first + (b - c.first)) ≡ branch c.first + (b - c.first) =
        M.branch_run (R.home b) c.first c.count (b - c.first) c.at (omega (arith, c.low, c.high)) in
        let g : branch b ≡ branch c.first + (b - c.first) = sym (ap branch e) ∙ r in
        rw (t.0, t.1, h, c.at) (omega (arith, g, c.low))

    pub lift-read : (x : Step) → is_step_open R s' x ≡ true → lift (read x) ≡ x
    unfolding is_step_open
    lift-read (new_step n) k = go (R.node n) refl (and_left (is_new (R.node n)) (is_standing_at R s' n) k)
      where
        h : s'.node (R.thread n) ≡ n
        h = same_true _ _ (and_right (is_new (R.node n)) (is_standing_at R s' n) k)

        go : (ν : Node) → R.node n ≡ ν → is_new ν ≡ true → new_step (s'.node (S.thread (node n))) ≡ new_step n
        go stop e o = false-true refl o
        go (choice f c) e o = false-true refl o
        go (new r l) e o = rw (M.thread n (A.new-inside n r l e).0, h)
        go (call d) e o = false-true refl o
    lift-read (step_call n) k = go (R.node n) refl (and_left (is_call_node (R.node n)) (is_standing_at R s' n) k)
      where
        h : s'.node (R.thread n) ≡ n
        h = same_true _ _ (and_right (is_call_node (R.node n)) (is_standing_at R s' n) k)

        go : (ν : Node) → R.node n ≡ ν → is_call_node ν ≡ true → step_call (s'.node (S.thread (node n))) ≡ step_call n
        go stop e o = false-true refl o
        go (choice f c) e o = false-true refl o
        go (new r l) e o = false-true refl o
        go (call d) e o = rw (M.thread n (A.call-inside n d e).0, h)
    lift-read (silent_step b) k =
        let t = and_both (is_silent (R.branch b)) (is_standing_at R s' (R.home b)) k in
        ap silent_step (lift-branch b (silent-present (R.branch b) t.0) (same_true _ _ t.1))
    lift-read (communication b c) k = go (R.branch b) refl (R.branch c) refl k
      where
        go : (β : Branch) → R.branch b ≡ β → (γ : Branch) → R.branch c ≡ γ → can_communicate R s' b β c γ ≡ true
            → communication (lift_branch (branch b)) (lift_branch (branch c)) ≡ communication b c
        go absent p γ q o = false-true refl o
        go (silent l) p γ q o = false-true refl o
        go (send a z l) p absent q o = false-true refl o
        go (send a z l) p (silent m) q o = false-true refl o
        go (send a z l) p (send e y m) q o = false-true refl o
        go (send a z l) p (receive e y m) q o =
            let t =
            all_hold (not (same (R.thread (R.home b)) (R.thread (R.home c))))
            (is_standing_at R s' (R.home b) ∷ is_standing_at R s' (R.home c) ∷ is_one_value (s'.value a) (s'.value e) ∷ []) o in
            rw (lift-branch b (rw p) (same_true _ _ t.1.0), lift-branch c (rw q) (same_true _ _ t.1.1.0))
        go (receive a y l) p γ q o = false-true refl o
    lift-read no_step k = refl

    -- ---- a step of S is open in R at its place

    pub record Answered (y : Step) : Type 0 where
      pub opens : is_step_open R s' (lift y) ≡ true
      pub reads : read (lift y) ≡ y

    -- where the thread of node n of S stands
    stand-back : (n : ℕ) → s.node (S.thread n) ≡ n → node (s'.node (S.thread n)) ≡ n
    stand-back n h = sym (H.nodes (S.thread n) (M.thread-inside n)) ∙ h

    stands-there : (n : ℕ) → is_standing_at R s' (s'.node (S.thread n)) ≡ true
    stands-there n = rw (H.own (S.thread n) (M.thread-inside n)) (same_self (s'.node (S.thread n)))

    new-kind : (ν : Node) → is_new (read_node node branch name definition ν) ≡ is_new ν
    new-kind stop = refl
    new-kind (choice f c) = refl
    new-kind (new r l) = refl
    new-kind (call d) = refl

    call-kind : (ν : Node) → is_call_node (read_node node branch name definition ν) ≡ is_call_node ν
    call-kind stop = refl
    call-kind (choice f c) = refl
    call-kind (new r l) = refl
    call-kind (call d) = refl

    answer-new : (n : ℕ) → is_new (S.node n) ≡ true → s.node (S.thread n) ≡ n → Answered (new_step n)
    unfolding is_step_open
    answer-new n k h =
        let e = stand-back n h in
        let i = H.inside (S.thread n) (M.thread-inside n) in
        let g : is_new (R.node (s'.node (S.thread n))) ≡ true = sym (new-kind (R.node (s'.node (S.thread n))))
        ∙ ap is_new (sym (M.node-read (s'.node (S.thread n)) i)) ∙ ap (λ (m : ℕ). is_new (S.node m)) e ∙ k in
        record { opens = and_intro _ _ g (stands-there n); reads = ap new_step e }

    answer-call : (n : ℕ) → is_call_node (S.node n) ≡ true → s.node (S.thread n) ≡ n → Answered (step_call n)
    unfolding is_step_open
    answer-call n k h =
        let e = stand-back n h in
        let i = H.inside (S.thread n) (M.thread-inside n) in
        let g : is_call_node (R.node (s'.node (S.thread n))) ≡ true = sym (call-kind (R.node (s'.node (S.thread n))))
        ∙ ap is_call_node (sym (M.node-read (s'.node (S.thread n)) i)) ∙ ap (λ (m : ℕ). is_call_node (S.node m)) e ∙ k in
        record { opens = and_intro _ _ g (stands-there n); reads = ap step_call e }

    record Lifted (b : ℕ) : Type 0 where
      is : branch (lift_branch b) ≡ b
      there : lift_branch b < R.branches
      at : R.home (lift_branch b) ≡ s'.node (S.thread (S.home b))

    lifted : (b : ℕ) → present (S.branch b) ≡ true → s.node (S.thread (S.home b)) ≡ S.home b → Lifted b
    unfolding lift_branch
    lifted b p h = go (R.node n') refl
      where
        n' : ℕ
        n' = s'.node (S.thread (S.home b))

        c : Chosen S (S.home b) b
        c = M.chosen b p

        i : n' < R.nodes
        i = H.inside (S.thread (S.home b)) (M.thread-inside (S.home b))

        said : choice c.first c.count ≡ read_node node branch name definition (R.node n')
        said = sym c.at ∙ ap S.node (sym (stand-back (S.home b) h)) ∙ M.node-read n' i

        go : (ν : Node) → R.node n' ≡ ν → Lifted b
        go stop e = let q : choice c.first c.count ≡ stop = said ∙ rw e in let z : ◌≡◌ {A = ℕ} 0 1 = cc in absurd (omega arith)
        go (new r l) e = let q : choice c.first c.count ≡ new (name r) (node l) = said ∙ rw e in let z : ◌≡◌ {A = ℕ} 0 1 = cc in absurd (omega arith)
        go (call d) e = let q : choice c.first c.count ≡ call (definition d) = said ∙ rw e in let z : ◌≡◌ {A = ℕ} 0 1 = cc in absurd (omega arith)
        go (choice f k) e =
            let q : choice c.first c.count ≡ choice (branch f) k = said ∙ rw e in
            let qf : c.first ≡ branch f = cc in
            let qk : c.count ≡ k = cc in
            let j : b - branch f < k = omega (arith, c.low, c.high) in
            let run = M.branch_run n' f k (b - branch f) e j in
            let x = A.choice-inside n' f k e in
            record {
              is = rw e (run ∙ omega (arith, c.low, qf));
              there = rw e (omega (arith, x.2, j));
              at = rw e (A.choice-home n' f k (f + (b - branch f)) e (omega arith) (omega (arith, j)));
            }

    -- the branch that reads as b
    branch-said : (b : ℕ) → Lifted b → S.branch b ≡ read_branch node name (R.branch (lift_branch b))
    branch-said b L = sym (ap S.branch L.is) ∙ M.branch_read (lift_branch b) L.there

    silent-kind : (β : Branch) → is_silent (read_branch node name β) ≡ is_silent β
    silent-kind absent = refl
    silent-kind (silent l) = refl
    silent-kind (send a z l) = refl
    silent-kind (receive a y l) = refl

    answer-silent : (b : ℕ) → is_silent (S.branch b) ≡ true → s.node (S.thread (S.home b)) ≡ S.home b → Answered (silent_step b)
    unfolding is_step_open
    answer-silent b k h =
        let L = lifted b (silent-present (S.branch b) k) h in
        let g : is_silent (R.branch (lift_branch b)) ≡ true = sym (silent-kind (R.branch (lift_branch b))) ∙ ap is_silent (sym (branch-said b L)) ∙ k in
        record { opens = and_intro _ _ g (rw L.at (stands-there (S.home b))); reads = ap silent_step L.is }

    answer-meet : (b c : ℕ) (β γ : Branch) → S.branch b ≡ β → S.branch c ≡ γ → can_communicate S s b β c γ ≡ true → Answered (communication b c)
    unfolding is_step_open
    answer-meet b c absent γ p q k = false-true refl k
    answer-meet b c (silent l) γ p q k = false-true refl k
    answer-meet b c (send a z l) absent p q k = false-true refl k
    answer-meet b c (send a z l) (silent m) p q k = false-true refl k
    answer-meet b c (send a z l) (send e y m) p q k = false-true refl k
    answer-meet b c (send a z l) (receive e y m) p q k =
        let t =
        all_hold (not (same (S.thread (S.home b)) (S.thread (S.home c))))
        (is_standing_at S s (S.home b) ∷ is_standing_at S s (S.home c) ∷ is_one_value (s.value a) (s.value e) ∷ []) k in
        let B = lifted b (rw p) (same_true _ _ t.1.0) in
        let C = lifted c (rw q) (same_true _ _ t.1.1.0) in
        record {
          opens =
              go (R.branch (lift_branch b)) refl (R.branch (lift_branch c)) refl (sym p ∙ branch-said b B) (sym q ∙ branch-said c C)
              (L b B) (L c C) t.0 t.1.1.1;
          reads = rw (B.is, C.is);
        }
      where
        -- where the lifted branch stands
        L : (b : ℕ) → Lifted b
            → (R.thread (R.home (lift_branch b)) ≡ S.thread (S.home b)) × (s'.node (R.thread (R.home (lift_branch b))) ≡ R.home (lift_branch b))
        L b B =
            let o : R.thread (R.home (lift_branch b)) ≡ S.thread (S.home b) = ap R.thread B.at
            ∙ H.own (S.thread (S.home b)) (M.thread-inside (S.home b)) in
            (o, ap s'.node o ∙ sym B.at)

        go : (β : Branch) → R.branch (lift_branch b) ≡ β → (γ : Branch) → R.branch (lift_branch c) ≡ γ
            → send a z l ≡ read_branch node name β → receive e y m ≡ read_branch node name γ
            → (R.thread (R.home (lift_branch b)) ≡ S.thread (S.home b)) × (s'.node (R.thread (R.home (lift_branch b))) ≡ R.home (lift_branch b))
            → (R.thread (R.home (lift_branch c)) ≡ S.thread (S.home c)) × (s'.node (R.thread (R.home (lift_branch c))) ≡ R.home (lift_branch c))
            → not (same (S.thread (S.home b)) (S.thread (S.home c))) ≡ true → is_one_value (s.value a) (s.value e) ≡ true
            → can_communicate R s' (lift_branch b) β (lift_branch c) γ ≡ true
        go absent p' γ q' f g x w u v = let z : ◌≡◌ {A = ℕ} 0 1 = cc in absurd (omega arith)
        go (silent l) p' γ q' f g x w u v = let z : ◌≡◌ {A = ℕ} 0 1 = cc in absurd (omega arith)
        go (receive a y l) p' γ q' f g x w u v = let z : ◌≡◌ {A = ℕ} 0 1 = cc in absurd (omega arith)
        go (send a' z' l') p' absent q' f g x w u v = let z : ◌≡◌ {A = ℕ} 0 1 = cc in absurd (omega arith)
        go (send a' z' l') p' (silent m') q' f g x w u v = let z : ◌≡◌ {A = ℕ} 0 1 = cc in absurd (omega arith)
        go (send a' z' l') p' (send e' y' m') q' f g x w u v = let z : ◌≡◌ {A = ℕ} 0 1 = cc in absurd (omega arith)
        go (send a' z' l') p' (receive e' y' m') q' f g x w u v =
            let fa : a ≡ name a' = cc in
            let ge : e ≡ name e' = cc in
            let va : s.value a ≡ s'.value a' = ap s.value fa ∙ used (R.home (lift_branch b)) a' x.1 (A.send-usable (lift_branch b) a' z' l' p').0 in
            let ve : s.value e ≡ s'.value e' = ap s.value ge ∙ used (R.home (lift_branch c)) e' w.1 (A.receive-usable (lift_branch c) e' y' m' q') in
            let one : is_one_value (s'.value a') (s'.value e') ≡ true = rw (← va, ← ve) v in
            let apart' : not (same (R.thread (R.home (lift_branch b))) (R.thread (R.home (lift_branch c)))) ≡ true = rw (x.0, w.0) u in
            and_intro _ _ apart' (and_intro _ _ (same-yes _ _ x.1) (and_intro _ _ (same-yes _ _ w.1) one))
    answer-meet b c (receive a y l) γ p q k = false-true refl k

    pub answer : (y : Step) → is_step_open S s y ≡ true → Answered y
    unfolding is_step_open
    answer (new_step n) k =
        let t = and_both (is_new (S.node n)) (is_standing_at S s n) k in
        answer-new n t.0 (same_true _ _ t.1)
    answer (silent_step b) k =
        let t = and_both (is_silent (S.branch b)) (is_standing_at S s (S.home b)) k in
        answer-silent b t.0 (same_true _ _ t.1)
    answer (communication b c) k = answer-meet b c (S.branch b) (S.branch c) refl refl k
    answer (step_call n) k =
        let t = and_both (is_call_node (S.node n)) (is_standing_at S s n) k in
        answer-call n t.0 (same_true _ _ t.1)
    answer no_step k = false-true refl k

  -- ---- sequences

  forth : (xs : List Step) (s' s : State) → Stands s' s → open_in_turn R s' xs ≡ true → open_in_turn S s (map (origin_step node branch) xs) ≡ true
  unfolding open_in_turn
  forth [] s' s H h = refl
  forth (x ∷ xs) s' s H h =
      let t = and_both (is_step_open R s' x) (open_in_turn R (take R x s') xs) h in
      let F = follow s' s H x t.0 in
      and_intro _ _ F.opens (forth xs (take R x s') (take S (origin_step node branch x) s) F.stands t.1)

  back : (ys : List Step) (s' s : State) → Stands s' s → open_in_turn S s ys ≡ true → OneReading R (origin_step node branch) s' ys
  unfolding open_in_turn
  back [] s' s H h = record { steps = []; reads = refl; opens = refl; alone = none-else }
    where
      none-else : (xs : List Step) → map (origin_step node branch) xs ≡ [] → open_in_turn R s' xs ≡ true → xs ≡ []
      none-else [] e o = refl
      none-else (x ∷ xs) e o = let z : ◌≡◌ {A = ℕ} 0 1 = cc in absurd (omega arith)
  back (y ∷ ys) s' s H h =
      let t = and_both (is_step_open S s y) (open_in_turn S (take S y s) ys) h in
      let W = answer s' s H y t.0 in
      let F = follow s' s H (lift s' s H y) W.opens in
      let K : Stands (take R (lift s' s H y) s') (take S y s) = rw W.reads at F.stands in
      let B = back ys (take R (lift s' s H y) s') (take S y s) K t.1 in
      record {
        steps = lift s' s H y ∷ B.steps;
        reads = rw (W.reads, B.reads);
        opens = and_intro _ _ W.opens B.opens;
        alone = alone B.steps B.alone;
      }
    where
      alone : (zs : List Step)
          → ((xs : List Step) → map (origin_step node branch) xs ≡ ys → open_in_turn R (take R (lift s' s H y) s') xs ≡ true → xs ≡ zs)
          → (xs : List Step) → map (origin_step node branch) xs ≡ y ∷ ys → open_in_turn R s' xs ≡ true → xs ≡ lift s' s H y ∷ zs
      alone zs f [] e o = let z : ◌≡◌ {A = ℕ} 0 1 = cc in absurd (omega arith)
      alone zs f (x ∷ xs) e o =
          let t = and_both (is_step_open R s' x) (open_in_turn R (take R x s') xs) o in
          let ey : origin_step node branch x ≡ y = cc in
          let ex : map (origin_step node branch) xs ≡ ys = cc in
          let q : x ≡ lift s' s H y = sym (lift-read s' s H x t.0) ∙ ap (lift s' s H) ey in
          rw (q, f xs ex (rw q at t.1))

  began : Stands (start R) (start S)
  began = Following.stands-start R S A node branch name definition M

  pub same-sequences : SameSequences R S (origin_step node branch)
  same-sequences = record { forth = λ xs. forth xs (start R) (start S) began; back = λ ys. back ys (start R) (start S) began }

  open_after : (xs : List Step) (s' s : State) → Stands s' s → open_in_turn R s' xs ≡ true
      → (y : Step) → is_step_open S (take_steps S s (map (origin_step node branch) xs)) y ≡ true → OpenReading R (origin_step node branch) (take_steps R s' xs) y
  unfolding open_in_turn take_steps
  open_after [] s' s H h y o = let W = answer s' s H y o in record { step = lift s' s H y; opens = W.opens; reads = W.reads }
  open_after (x ∷ xs) s' s H h y o =
      let t = and_both (is_step_open R s' x) (open_in_turn R (take R x s') xs) h in
      open_after xs (take R x s') (take S (origin_step node branch x) s) (follow s' s H x t.0).stands t.1 y o

  -- after the same steps from the start, each step open in S is the reading of one open in R
  pub open-reading : (xs : List Step) → open_in_turn R (start R) xs ≡ true
      → (y : Step) → is_step_open S (take_steps S (start S) (map (origin_step node branch) xs)) y ≡ true
      → OpenReading R (origin_step node branch) (take_steps R (start R) xs) y
  open-reading xs = open_after xs (start R) (start S) began

  -- an open step's label, read, is the label of the step read
  pub label-read : (s : State) (x : Step) → is_step_open R s x ≡ true → label_of S (origin_step node branch x) ≡ origin_label node branch name (label_of R x)
  unfolding is_step_open origin_label same
  label-read s (new_step n) k = go (R.node n) refl (and_left (is_new (R.node n)) (is_standing_at R s n) k)
    where
      go : (ν : Node) → R.node n ≡ ν → is_new ν ≡ true → label_of S (new_step (node n)) ≡ 2 ∷ node n ∷ name (new_name (R.node n)) ∷ []
      go stop e o = false-true refl o
      go (choice f c) e o = false-true refl o
      go (new r l) e o = let g : S.node (node n) ≡ new (name r) (node l) = M.node-read n (A.new-inside n r l e).0 ∙ rw e in rw (g, e)
      go (call d) e o = false-true refl o
  label-read s (silent_step b) k = refl
  label-read s (communication b c) k = refl
  label-read s (step_call n) k = refl
  label-read s no_step k = false-true refl k
