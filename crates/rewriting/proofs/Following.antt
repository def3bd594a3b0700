-- A scheme R whose numbers read as those of S: a thread of S stands where the thread of R stands, read, and the names that it holds have the values of
-- the names that they read as. Every open step of R, read, is open in S, and taking both keeps this so.
use mathlib.Core.Path.{◌≡◌, refl, sym, ap, ◌∙◌}
use mathlib.Core.Logic.{◌⊎◌, inl, inr}
use mathlib.Core.Bool.{Bool, true, false, not, ◌&&◌}
use mathlib.Core.Option.{Option, none, some}
use mathlib.Core.List.{List, [], ◌∷◌, ◌++◌, map}
use Prim.Native.Nat.{ℕ, suc, ◌+◌, ◌<◌}
use native.Mathlib.Decide.{ℕ_discrete}
use native.Mathlib.Omega.{arith}
use lib.Dec.{ltb}
use Rattle.lists.specs.Lists.{pick, same, member}
use Rattle.lists.proofs.Tests.{false-true, and_both, all_hold, same_self, same-yes, same-no, same_true, same_false}
use Rattle.lists.proofs.Members.{member-here, member-there, member-nil, member-last, snoc-member}
use Rattle.scheme.specs.Scheme.{Scheme, Node, stop, choice, new, call, Branch, absent, silent, send, receive, present}
use Rattle.scheme.specs.Kinds.{is_stop_node, is_new, is_call_node, is_silent}
use Rattle.table.specs.Accepted.{Accepted, Usable, Chosen}
use Rattle.process.specs.States.{State, put, value_of, is_one_value, start}
use Rattle.process.specs.Steps.{Step, new_step, silent_step, communication, step_call, no_step, take, is_step_open, is_standing_at, can_communicate, passed, arrived, called}
use Rattle.process.specs.Steps.{received, newly, silently, calling, meeting}
use Rattle.rewriting.specs.Sequences.{origin_step}

abbrev pub read_node : (ℕ → ℕ) → (ℕ → ℕ) → (ℕ → ℕ) → (ℕ → ℕ) → Node → Node
read_node node branch name definition stop = stop
read_node node branch name definition (choice f c) = choice (branch f) c
read_node node branch name definition (new r l) = new (name r) (node l)
read_node node branch name definition (call d) = call (definition d)

abbrev pub read_branch : (ℕ → ℕ) → (ℕ → ℕ) → Branch → Branch
read_branch node name absent = absent
read_branch node name (silent l) = silent (node l)
read_branch node name (send a z l) = send (name a) (name z) (node l)
read_branch node name (receive a y l) = receive (name a) (name y) (node l)

-- what R says of a number is what S says of the number that it reads as
pub record Reads (R S : Scheme) (node branch name definition : ℕ → ℕ) : Type 0 where
  pub publics : S.publics ≡ R.publics
  pub public-name : (x : ℕ) → x < R.publics → name x ≡ x
  pub name-thread : (x : ℕ) → x < R.publics + R.bounds → S.thread_of_name (name x) ≡ R.thread_of_name x
  pub entry-root : (t : ℕ) → t < R.threads → S.root (S.entry t) ≡ node (R.root (R.entry t))
  pub root : (d : ℕ) → d < R.definitions → S.root (definition d) ≡ node (R.root d)
  pub formals : (d : ℕ) → d < R.definitions → S.formals (definition d) ≡ map name (R.formals d)
  pub node-read : (n : ℕ) → n < R.nodes → S.node (node n) ≡ read_node node branch name definition (R.node n)
  pub arguments : (n : ℕ) → n < R.nodes → S.arguments (node n) ≡ map name (R.arguments n)
  pub thread : (n : ℕ) → n < R.nodes → S.thread (node n) ≡ R.thread n
  pub thread-inside : (n : ℕ) → S.thread n < R.threads
  pub branch_read : (b : ℕ) → b < R.branches → S.branch (branch b) ≡ read_branch node name (R.branch b)
  pub home : (b : ℕ) → b < R.branches → S.home (branch b) ≡ node (R.home b)
  -- the branches of one Choice, the names held at one node
  pub branch_run : (n f c i : ℕ) → R.node n ≡ choice f c → i < c → branch (f + i) ≡ branch f + i
  pub one : (n x y : ℕ) → member x (R.held n) ≡ true → member y (R.held n) ≡ true → name x ≡ name y → x ≡ y
  pub chosen : (b : ℕ) → present (S.branch b) ≡ true → Chosen S (S.home b) b

put-here : {A : Type 0} (f : ℕ → A) (t : ℕ) (a : A) → put f t a t ≡ a
unfolding put
put-here f t a = rw (same_self t)

put-there : {A : Type 0} (f : ℕ → A) (t : ℕ) (a : A) (x : ℕ) → (x ≡ t → ⊥) → put f t a x ≡ f x
unfolding put
put-there f t a x d = rw (same-no x t d)

passed-hit : (f b x : ℕ) (fs bs : List ℕ) → same x f ≡ true → passed (f ∷ fs) (b ∷ bs) x ≡ some b
unfolding passed
passed-hit f b x fs bs h = rw (h, passed)

passed-miss : (f b x : ℕ) (fs bs : List ℕ) → same x f ≡ false → passed (f ∷ fs) (b ∷ bs) x ≡ passed fs bs x
unfolding passed
passed-miss f b x fs bs h = rw (h, passed)

pub silent-present : (β : Branch) → is_silent β ≡ true → present β ≡ true
silent-present absent h = h
silent-present (silent l) h = refl
silent-present (send a z l) h = refl
silent-present (receive a y l) h = refl

module _ (R S : Scheme) (A : Accepted R) (node branch name definition : ℕ → ℕ) (M : Reads R S node branch name definition) where
  stop-read : (n : ℕ) → n < R.nodes → is_stop_node (S.node (node n)) ≡ is_stop_node (R.node n)
  stop-read n l = rw (M.node-read n l) (go (R.node n))
    where
      go : (ν : Node) → is_stop_node (read_node node branch name definition ν) ≡ is_stop_node ν
      go stop = refl
      go (choice f c) = refl
      go (new r k) = refl
      go (call d) = refl

  -- a name that some thread can use
  pub data Live (f : ℕ → ℕ) (x : ℕ) : Type 0 where
    public : x < R.publics → Live f x
    held_at : (t : ℕ) → t < R.threads → member x (R.held (f t)) ≡ true → Live f x

  live_inside : (f : ℕ → ℕ) (x : ℕ) → Live f x → x < R.publics + R.bounds
  live_inside f x (public l) = omega arith
  live_inside f x (held_at t l m) = (A.held-name (f t) x m).high

  live-use : (f : ℕ → ℕ) (n x : ℕ) → f (R.thread n) ≡ n → Usable R n x → Live f x
  live-use f n x e (inl l) = public l
  live-use f n x e (inr m) = held_at (R.thread n) (A.thread-inside n) (rw e m)

  pub record Stands (s' s : State) : Type 0 where
    pub own : (t : ℕ) → t < R.threads → R.thread (s'.node t) ≡ t
    pub inside : (t : ℕ) → t < R.threads → s'.node t < R.nodes
    pub nodes : (t : ℕ) → t < R.threads → s.node t ≡ node (s'.node t)
    pub counter : s.counter ≡ s'.counter
    pub values : (x : ℕ) → Live s'.node x → s.value (name x) ≡ s'.value x

  -- ---- at the start

  pub stands-start : Stands (start R) (start S)
  unfolding start
  stands-start = record {
    own = λ t l. A.entry-thread t l;
    inside = λ t l. A.root-inside (R.entry t) (A.entry-inside t l);
    nodes = λ t l. M.entry-root t l;
    counter = M.publics;
    values = value;
  }
    where
      value : (x : ℕ) → Live (λ t. R.root (R.entry t)) x
          → ◌≡◌ {A = Option ℕ} (pick (ltb (name x) S.publics) (some (name x)) none) (pick (ltb x R.publics) (some x) none)
      value x (public l) = rw (M.public-name x l, M.publics)
      value x (held_at t l m) = member-nil x (rw (A.root-held (R.entry t) (A.entry-inside t l), A.entry-formals t l) at m)

  -- ---- one thread moves

  -- names in use after thread θ went to l: those held at l, and those of others
  moved : (f : ℕ → ℕ) → ((t : ℕ) → t < R.threads → R.thread (f t) ≡ t) → (θ l x : ℕ) → θ < R.threads → Live (put f θ l) x
      → (member x (R.held l) ≡ true) ⊎ (Live f x × (R.thread_of_name x ≡ θ → ⊥))
  moved f own θ l x i (public u) = inr (public u, λ e. let q = A.no-thread x (inl u) in omega arith)
  moved f own θ l x i (held_at t u m) = go (ℕ_discrete t θ)
    where
      go : Dec (t ≡ θ) → (member x (R.held l) ≡ true) ⊎ (Live f x × (R.thread_of_name x ≡ θ → ⊥))
      go (yes e) = inl (rw (e, put-here f θ l) at m)
      go (no d) =
          let k : member x (R.held (f t)) ≡ true = rw (put-there f θ l t d) at m in
          inr (held_at t u k, λ e. d (sym ((A.held-name (f t) x k).of ∙ own t u) ∙ e))

  -- the same for two threads
  arrive : (v v' : ℕ → Option ℕ) (θ l x : ℕ) → l < R.nodes → x < R.publics + R.bounds → v (name x) ≡ v' x
      → value_of v (arrived S θ (node l) (name x)) ≡ value_of v' (arrived R θ l x)
  arrive v v' θ l x i u e = rw (stop-read l i, M.name-thread x u) (go (is_stop_node (R.node l) && same (R.thread_of_name x) θ))
    where
      go : (β : Bool) → value_of v (pick β none (some (name x))) ≡ value_of v' (pick β none (some x))
      go true = refl
      go false = e

  module _ (s' s : State) (H : Stands s' s) where
    -- the thread of a node at which it stands
    at-node : (n : ℕ) → n < R.nodes → s'.node (R.thread n) ≡ n → s.node (R.thread n) ≡ node n
    at-node n l e = H.nodes (R.thread n) (A.thread-inside n) ∙ ap node e

    pub used : (n x : ℕ) → s'.node (R.thread n) ≡ n → Usable R n x → s.value (name x) ≡ s'.value x
    used n x e u = H.values x (live-use s'.node n x e u)

    module _ (θ l : ℕ) (i : θ < R.threads) (j : l < R.nodes) (o : R.thread l ≡ θ) where
      put-own : (t : ℕ) → t < R.threads → R.thread (put s'.node θ l t) ≡ t
      put-own t u = go (ℕ_discrete t θ)
        where
          go : Dec (t ≡ θ) → R.thread (put s'.node θ l t) ≡ t
          go (yes e) = rw (e, put-here s'.node θ l) o
          go (no d) = rw (put-there s'.node θ l t d) (H.own t u)

      put-inside : (t : ℕ) → t < R.threads → put s'.node θ l t < R.nodes
      put-inside t u = go (ℕ_discrete t θ)
        where
          go : Dec (t ≡ θ) → put s'.node θ l t < R.nodes
          go (yes e) = rw (e, put-here s'.node θ l) j
          go (no d) = rw (put-there s'.node θ l t d) (H.inside t u)

      put-nodes : (t : ℕ) → t < R.threads → put s.node θ (node l) t ≡ node (put s'.node θ l t)
      put-nodes t u = go (ℕ_discrete t θ)
        where
          go : Dec (t ≡ θ) → put s.node θ (node l) t ≡ node (put s'.node θ l t)
          go (yes e) = rw (e, put-here s'.node θ l, put-here s.node θ (node l))
          go (no d) = rw (put-there s'.node θ l t d, put-there s.node θ (node l) t d) (H.nodes t u)

    -- ---- silent

    silent-stands : (b l : ℕ) → R.branch b ≡ silent l → s'.node (R.thread (R.home b)) ≡ R.home b
        → Stands (silently R (R.thread (R.home b)) l s') (silently S (R.thread (R.home b)) (node l) s)
    silent-stands b l e h =
        let p : present (R.branch b) ≡ true = rw e in
        let j : l < R.nodes = rw e at (A.next-inside b p) in
        let o : R.thread l ≡ R.thread (R.home b) = rw e at (A.next-thread b p) in
        let i = A.thread-inside (R.home b) in
        record {
          own = put-own (R.thread (R.home b)) l i j o;
          inside = put-inside (R.thread (R.home b)) l i j o;
          nodes = put-nodes (R.thread (R.home b)) l i j o;
          counter = H.counter;
          values = λ x v. arrive s.value s'.value (R.thread (R.home b)) l x j (live_inside (put s'.node (R.thread (R.home b)) l) x v)
              (H.values x (before x p (moved s'.node H.own (R.thread (R.home b)) l x i v)));
        }
      where
        before : (x : ℕ) → present (R.branch b) ≡ true
            → (member x (R.held l) ≡ true) ⊎ (Live s'.node x × (R.thread_of_name x ≡ R.thread (R.home b) → ⊥)) → Live s'.node x
        before x p (inl m) =
            let q : R.held l ≡ R.held (R.home b) ++ [] = rw e at (A.next-held b p) in
            held_at (R.thread (R.home b)) (A.thread-inside (R.home b)) (rw (h, ← mathlib.Core.List.append-nil (R.held (R.home b)), ← q) m)
        before x p (inr r) = r.0

    -- ---- New

    -- a name of another thread does not read as a name of thread θ
    apart : (x y θ : ℕ) → x < R.publics + R.bounds → y < R.publics + R.bounds → (R.thread_of_name x ≡ θ → ⊥) → R.thread_of_name y ≡ θ → name x ≡ name y → ⊥
    apart x y θ u v d e q = d (sym (M.name-thread x u) ∙ ap S.thread_of_name q ∙ M.name-thread y v ∙ e)

    put-read : (r x : ℕ) → (name x ≡ name r → x ≡ r) → ((x ≡ r → ⊥) → s.value (name x) ≡ s'.value x)
        → put s.value (name r) (some s.counter) (name x) ≡ put s'.value r (some s'.counter) x
    put-read r x inj e = go (ℕ_discrete x r)
      where
        go : Dec (x ≡ r) → put s.value (name r) (some s.counter) (name x) ≡ put s'.value r (some s'.counter) x
        go (yes p) = rw (p, put-here s.value (name r) (some s.counter), put-here s'.value r (some s'.counter), H.counter)
        go (no d) =
            rw (put-there s.value (name r) (some s.counter) (name x) (λ p. d (inj p)), put-there s'.value r (some s'.counter) x d) (e d)

    new-stands : (n r l : ℕ) → R.node n ≡ new r l → s'.node (R.thread n) ≡ n
        → Stands (newly R (R.thread n) r l s') (newly S (R.thread n) (name r) (node l) s)
    new-stands n r l e h =
        let j : l < R.nodes = (A.new-inside n r l e).1 in
        let o : R.thread l ≡ R.thread n = A.new-thread n r l e in
        let i = A.thread-inside n in
        record {
          own = put-own (R.thread n) l i j o;
          inside = put-inside (R.thread n) l i j o;
          nodes = put-nodes (R.thread n) l i j o;
          counter = ap suc H.counter;
          values = λ x v.
              let u = live_inside (put s'.node (R.thread n) l) x v in
              arrive (put s.value (name r) (some s.counter)) (put s'.value r (some s'.counter)) (R.thread n) l x j u
              (value x u (moved s'.node H.own (R.thread n) l x i v));
        }
      where
        made : member r (R.held l) ≡ true
        made = rw (A.new-held n r l e) (member-last r (R.held n))

        value : (x : ℕ) → x < R.publics + R.bounds → (member x (R.held l) ≡ true) ⊎ (Live s'.node x × (R.thread_of_name x ≡ R.thread n → ⊥))
            → put s.value (name r) (some s.counter) (name x) ≡ put s'.value r (some s'.counter) x
        value x u (inl m) = put-read r x (M.one l x r m made) (λ d. used n x h (inr (old d (snoc-member x r (R.held n) (rw (A.new-held n r l e) at m)))))
          where
            old : (x ≡ r → ⊥) → (member x (R.held n) ≡ true) ⊎ (x ≡ r) → member x (R.held n) ≡ true
            old d (inl k) = k
            old d (inr k) = absurd (d k)
        value x u (inr q) =
            let y = A.new-name n r l e in
            put-read r x (λ p. absurd (apart x r (R.thread n) u y.high q.1 y.of p)) (λ d. H.values x q.0)

    -- ---- Call

    pass : (v v' : ℕ → Option ℕ) (fs zs : List ℕ) (x : ℕ) → ((y : ℕ) → member y fs ≡ true → name x ≡ name y → x ≡ y)
        → ((a : ℕ) → member a zs ≡ true → v (name a) ≡ v' a) → value_of v (passed (map name fs) (map name zs) (name x)) ≡ value_of v' (passed fs zs x)
    unfolding passed
    pass v v' [] zs x inj e = refl
    pass v v' (f ∷ fs) [] x inj e = refl
    pass v v' (f ∷ fs) (a ∷ zs) x inj e =
        go (ℕ_discrete x f) (pass v v' fs zs x (λ y m. inj y (member-there y f fs m)) (λ y m. e y (member-there y a zs m)))
      where
        go : Dec (x ≡ f) → value_of v (passed (map name fs) (map name zs) (name x)) ≡ value_of v' (passed fs zs x)
            → value_of v (passed (map name (f ∷ fs)) (map name (a ∷ zs)) (name x)) ≡ value_of v' (passed (f ∷ fs) (a ∷ zs) x)
        go (yes p) ih =
            rw (
              passed-hit f a x fs zs (same-yes x f p),
              passed-hit (name f) (name a) (name x) (map name fs) (map name zs)
                  (same-yes (name x) (name f) (ap name p)),
            )
            (e a (member-here a zs))
        go (no d) ih =
            rw (
              passed-miss f a x fs zs (same-no x f d),
              passed-miss (name f) (name a) (name x) (map name fs) (map name zs) (same-no (name x) (name f) (λ p. d (inj f (member-here f fs) p))),
            ) ih

    call-stands : (n d : ℕ) → R.node n ≡ call d → s'.node (R.thread n) ≡ n → Stands (calling R n d s') (calling S (node n) (definition d) s)
    call-stands n d e h =
        let l : n < R.nodes = (A.call-inside n d e).0 in
        let k : d < R.definitions = (A.call-inside n d e).1 in
        let j : R.root d < R.nodes = A.root-inside d k in
        let o : R.thread (R.root d) ≡ R.thread n = A.call-thread n d e in
        let i = A.thread-inside n in
        rw (M.thread n l, M.root d k) (record {
          own = put-own (R.thread n) (R.root d) i j o;
          inside = put-inside (R.thread n) (R.root d) i j o;
          nodes = put-nodes (R.thread n) (R.root d) i j o;
          counter = H.counter;
          values = λ x v.
              value x l k j (live_inside (put s'.node (R.thread n) (R.root d)) x v)
              (moved s'.node H.own (R.thread n) (R.root d) x i v);
        })
      where
        value : (x : ℕ) → n < R.nodes → d < R.definitions → R.root d < R.nodes → x < R.publics + R.bounds
            → (member x (R.held (R.root d)) ≡ true) ⊎ (Live s'.node x × (R.thread_of_name x ≡ R.thread n → ⊥))
            → value_of s.value
            (pick (same (S.thread_of_name (name x)) (R.thread n))
            (pick (is_stop_node (S.node (node (R.root d)))) none (passed (S.formals (definition d)) (S.arguments (node n)) (name x))) (some (name x)))
            ≡ value_of s'.value (called R n d x)
        value x l k j u (inl m) =
            let q : member x (R.formals d) ≡ true = rw (A.root-held d k) at m in
            let t : R.thread_of_name x ≡ R.thread n = (A.formal-name d x q).of ∙ A.call-thread n d e in
            rw (M.name-thread x u, t, same_self (R.thread n), stop-read (R.root d) j, M.formals d k, M.arguments n l)
            (go (is_stop_node (R.node (R.root d))))
          where
            go : (β : Bool) → value_of s.value (pick β none (passed (map name (R.formals d)) (map name (R.arguments n)) (name x)))
                ≡ value_of s'.value (pick β none (passed (R.formals d) (R.arguments n) x))
            go true = refl
            go false =
                pass s.value s'.value (R.formals d) (R.arguments n) x (λ y g p. M.one (R.root d) x y m (rw (A.root-held d k) g) p)
                (λ a g. used n a h (A.argument-usable n d a e g))
        value x l k j u (inr q) = rw (M.name-thread x u, same-no (R.thread_of_name x) (R.thread n) q.1) (H.values x q.0)

    -- ---- communication

    module _ (b a z l c e y m : ℕ) (p : R.branch b ≡ send a z l) (q : R.branch c ≡ receive e y m) (θ u : ℕ) (tb : R.thread (R.home b) ≡ θ)
        (tc : R.thread (R.home c) ≡ u) (d : θ ≡ u → ⊥) (hb : s'.node θ ≡ R.home b) (hc : s'.node u ≡ R.home c) where
      pb : present (R.branch b) ≡ true
      pb = rw p

      pc : present (R.branch c) ≡ true
      pc = rw q

      iθ : θ < R.threads
      iθ = rw (← tb) (A.thread-inside (R.home b))

      iu : u < R.threads
      iu = rw (← tc) (A.thread-inside (R.home c))

      jl : l < R.nodes
      jl = rw p at (A.next-inside b pb)

      jm : m < R.nodes
      jm = rw q at (A.next-inside c pc)

      ol : R.thread l ≡ θ
      ol = (rw p at (A.next-thread b pb)) ∙ tb

      om : R.thread m ≡ u
      om = (rw q at (A.next-thread c pc)) ∙ tc

      held-l : R.held l ≡ R.held (R.home b)
      held-l = (rw p at (A.next-held b pb)) ∙ mathlib.Core.List.append-nil (R.held (R.home b))

      held-m : R.held m ≡ R.held (R.home c) ++ (y ∷ [])
      held-m = rw q at (A.next-held c pc)

      after : ℕ → ℕ
      after = put (put s'.node θ l) u m

      -- what is read there: one of three values
      either : (β γ δ : Bool) (x : ℕ) → (δ ≡ false → s.value (name x) ≡ s'.value x)
          → value_of s.value (pick β none (pick γ none (pick δ (some (name z)) (some (name x)))))
          ≡ value_of s'.value (pick β none (pick γ none (pick δ (some z) (some x))))
      either true γ δ x h = refl
      either false true δ x h = refl
      either false false true x h = used (R.home b) z (rw tb hb) (A.send-usable b a z l p).1
      either false false false x h = h refl

      value : (x : ℕ) → x < R.publics + R.bounds → (name x ≡ name y → x ≡ y) → ((x ≡ y → ⊥) → s.value (name x) ≡ s'.value x)
          → value_of s.value (received S θ (name z) (node l) u (name y) (node m) (name x)) ≡ value_of s'.value (received R θ z l u y m x)
      value x i inj h = rw (stop-read l jl, stop-read m jm, M.name-thread x i) (go (ℕ_discrete x y))
        where
          go : Dec (x ≡ y)
              → value_of s.value (pick (is_stop_node (R.node l) && same (R.thread_of_name x) θ) none
              (pick (is_stop_node (R.node m) && same (R.thread_of_name x) u) none (pick (same (name x) (name y)) (some (name z)) (some (name x)))))
              ≡ value_of s'.value (received R θ z l u y m x)
          go (yes k) =
              rw (same-yes (name x) (name y) (ap name k), same-yes x y k)
              (either (is_stop_node (R.node l) && same (R.thread_of_name x) θ) (is_stop_node (R.node m) && same (R.thread_of_name x) u) true x (λ w. false-true w refl))
          go (no k) =
              rw (same-no (name x) (name y) (λ w. k (inj w)), same-no x y k)
              (either (is_stop_node (R.node l) && same (R.thread_of_name x) θ) (is_stop_node (R.node m) && same (R.thread_of_name x) u) false x (λ w. h k))

      -- a name held after the communication by thread t
      own-after : (t : ℕ) → t < R.threads → R.thread (after t) ≡ t
      unfolding after
      own-after t i = go (ℕ_discrete t u)
        where
          go : Dec (t ≡ u) → R.thread (put (put s'.node θ l) u m t) ≡ t
          go (yes k) = rw (k, put-here (put s'.node θ l) u m) om
          go (no k) = rw (put-there (put s'.node θ l) u m t k) (put-own θ l iθ jl ol t i)

      inside-after : (t : ℕ) → t < R.threads → after t < R.nodes
      unfolding after
      inside-after t i = go (ℕ_discrete t u)
        where
          go : Dec (t ≡ u) → put (put s'.node θ l) u m t < R.nodes
          go (yes k) = rw (k, put-here (put s'.node θ l) u m) jm
          go (no k) = rw (put-there (put s'.node θ l) u m t k) (put-inside θ l iθ jl ol t i)

      nodes-after : (t : ℕ) → t < R.threads → put (put s.node θ (node l)) u (node m) t ≡ node (after t)
      unfolding after
      nodes-after t i = go (ℕ_discrete t u)
        where
          go : Dec (t ≡ u) → put (put s.node θ (node l)) u (node m) t ≡ node (put (put s'.node θ l) u m t)
          go (yes k) = rw (k, put-here (put s'.node θ l) u m, put-here (put s.node θ (node l)) u (node m))
          go (no k) = rw (put-there (put s'.node θ l) u m t k, put-there (put s.node θ (node l)) u (node m) t k) (put-nodes θ l iθ jl ol t i)

      values-after : (x : ℕ) → Live after x
          → value_of s.value (received S θ (name z) (node l) u (name y) (node m) (name x)) ≡ value_of s'.value (received R θ z l u y m x)
      unfolding after
      values-after x v = go (moved (put s'.node θ l) (put-own θ l iθ jl ol) u m x iu v)
        where
          i : x < R.publics + R.bounds
          i = live_inside (put (put s'.node θ l) u m) x v

          old : (x ≡ y → ⊥) → (member x (R.held (R.home c)) ≡ true) ⊎ (x ≡ y) → member x (R.held (R.home c)) ≡ true
          old k (inl g) = g
          old k (inr g) = absurd (k g)

          before : (member x (R.held l) ≡ true) ⊎ (Live s'.node x × (R.thread_of_name x ≡ θ → ⊥)) → Live s'.node x
          before (inl g) = held_at θ iθ (rw (hb, ← held-l) g)
          before (inr g) = g.0

          go : (member x (R.held m) ≡ true) ⊎ (Live (put s'.node θ l) x × (R.thread_of_name x ≡ u → ⊥))
              → value_of s.value (received S θ (name z) (node l) u (name y) (node m) (name x)) ≡ value_of s'.value (received R θ z l u y m x)
          go (inl g) =
              value x i (M.one m x y g (rw held-m (member-last y (R.held (R.home c)))))
              (λ k. H.values x (held_at u iu (rw hc (old k (snoc-member x y (R.held (R.home c)) (rw held-m at g))))))
          go (inr g) =
              let n = A.receive-name c e y m q in
              value x i (λ k. absurd (apart x y u i n.high g.1 (n.of ∙ tc) k))
              (λ k. H.values x (before (moved s'.node H.own θ l x iθ g.0)))

      pub meeting-stands : Stands (meeting R θ z l u y m s') (meeting S θ (name z) (node l) u (name y) (node m) s)
      unfolding after
      meeting-stands = record { own = own-after; inside = inside-after; nodes = nodes-after; counter = H.counter; values = values-after }

    -- ---- a step of R, read, is open in S, and taking both keeps the threads together

    abbrev pub read : Step → Step
    read = origin_step node branch

    pub record Followed (x : Step) : Type 0 where
      pub opens : is_step_open S s (read x) ≡ true
      pub stands : Stands (take R x s') (take S (read x) s)

    stood : (n : ℕ) → n < R.nodes → s'.node (R.thread n) ≡ n → is_standing_at S s (node n) ≡ true
    stood n l h = rw (M.thread n l, at-node n l h) (same_self (node n))

    follow-new : (n : ℕ) (ν : Node) → R.node n ≡ ν → is_new ν ≡ true → s'.node (R.thread n) ≡ n → Followed (new_step n)
    unfolding is_step_open take
    follow-new n stop e k h = false-true refl k
    follow-new n (choice f c) e k h = false-true refl k
    follow-new n (new r l) e k h =
        let i : n < R.nodes = (A.new-inside n r l e).0 in
        let g : S.node (node n) ≡ new (name r) (node l) = M.node-read n i ∙ rw e in
        record { opens = rw g (stood n i h); stands = rw (e, g, M.thread n i) (new-stands n r l e h) }
    follow-new n (call d) e k h = false-true refl k

    follow-call : (n : ℕ) (ν : Node) → R.node n ≡ ν → is_call_node ν ≡ true → s'.node (R.thread n) ≡ n → Followed (step_call n)
    unfolding is_step_open take
    follow-call n stop e k h = false-true refl k
    follow-call n (choice f c) e k h = false-true refl k
    follow-call n (new r l) e k h = false-true refl k
    follow-call n (call d) e k h =
        let i : n < R.nodes = (A.call-inside n d e).0 in
        let g : S.node (node n) ≡ call (definition d) = M.node-read n i ∙ rw e in
        record { opens = rw g (stood n i h); stands = rw (e, g) (call-stands n d e h) }

    pub branch-there : (b : ℕ) → present (R.branch b) ≡ true
        → (S.home (branch b) ≡ node (R.home b)) × (S.thread (node (R.home b)) ≡ R.thread (R.home b))
    branch-there b p = (M.home b (A.branch-inside b p), M.thread (R.home b) (A.home-inside b))

    follow-silent : (b : ℕ) (β : Branch) → R.branch b ≡ β → is_silent β ≡ true → s'.node (R.thread (R.home b)) ≡ R.home b → Followed (silent_step b)
    unfolding is_step_open take
    follow-silent b absent e k h = false-true refl k
    follow-silent b (silent l) e k h =
        let p : present (R.branch b) ≡ true = rw e in
        let g : S.branch (branch b) ≡ silent (node l) = M.branch_read b (A.branch-inside b p) ∙ rw e in
        let t = branch-there b p in
        record {
          opens = rw (g, t.0) (stood (R.home b) (A.home-inside b) h);
          stands = rw (e, g, t.0, t.1) (silent-stands b l e h);
        }
    follow-silent b (send a z l) e k h = false-true refl k
    follow-silent b (receive a y l) e k h = false-true refl k

    follow-meet : (b c : ℕ) (β γ : Branch) → R.branch b ≡ β → R.branch c ≡ γ → can_communicate R s' b β c γ ≡ true → Followed (communication b c)
    unfolding is_step_open take
    follow-meet b c absent γ p q k = false-true refl k
    follow-meet b c (silent l) γ p q k = false-true refl k
    follow-meet b c (send a z l) absent p q k = false-true refl k
    follow-meet b c (send a z l) (silent m) p q k = false-true refl k
    follow-meet b c (send a z l) (send e y m) p q k = false-true refl k
    follow-meet b c (send a z l) (receive e y m) p q k =
        let t =
        all_hold (not (same (R.thread (R.home b)) (R.thread (R.home c))))
        (is_standing_at R s' (R.home b) ∷ is_standing_at R s' (R.home c) ∷ is_one_value (s'.value a) (s'.value e) ∷ []) k in
        let pb : present (R.branch b) ≡ true = rw p in
        let pc : present (R.branch c) ≡ true = rw q in
        let gb : S.branch (branch b) ≡ send (name a) (name z) (node l) = M.branch_read b (A.branch-inside b pb) ∙ rw p in
        let gc : S.branch (branch c) ≡ receive (name e) (name y) (node m) = M.branch_read c (A.branch-inside c pc) ∙ rw q in
        let tb = branch-there b pb in
        let tc = branch-there c pc in
        let hb : s'.node (R.thread (R.home b)) ≡ R.home b = same_true _ _ t.1.0 in
        let hc : s'.node (R.thread (R.home c)) ≡ R.home c = same_true _ _ t.1.1.0 in
        let d : R.thread (R.home b) ≡ R.thread (R.home c) → ⊥ = same_false _ _ (borrow.Author.Tests.not-true _ t.0) in
        record {
          opens =
              rw (gb, gc, tb.0, tc.0, tb.1, tc.1, t.0, at-node (R.home b) (A.home-inside b) hb, at-node (R.home c) (A.home-inside c) hc)
              (rw (
                same_self (node (R.home b)),
                same_self (node (R.home c)),
                used (R.home b) a hb (A.send-usable b a z l p).0,
                used (R.home c) e hc
                    (A.receive-usable c e y m q),
              )
              t.1.1.1);
          stands =
              rw (p, q, gb, gc, tb.0, tc.0, tb.1, tc.1)
              (meeting-stands b a z l c e y m p q (R.thread (R.home b)) (R.thread (R.home c)) refl refl d hb hc);
        }
    follow-meet b c (receive a y l) γ p q k = false-true refl k

    pub follow : (x : Step) → is_step_open R s' x ≡ true → Followed x
    unfolding is_step_open
    follow (new_step n) k =
        let t = and_both (is_new (R.node n)) (is_standing_at R s' n) k in
        follow-new n (R.node n) refl t.0 (same_true _ _ t.1)
    follow (silent_step b) k =
        let t = and_both (is_silent (R.branch b)) (is_standing_at R s' (R.home b)) k in
        follow-silent b (R.branch b) refl t.0 (same_true _ _ t.1)
    follow (communication b c) k = follow-meet b c (R.branch b) (R.branch c) refl refl k
    follow (step_call n) k =
        let t = and_both (is_call_node (R.node n)) (is_standing_at R s' n) k in
        follow-call n (R.node n) refl t.0 (same_true _ _ t.1)
    follow no_step k = false-true refl k
