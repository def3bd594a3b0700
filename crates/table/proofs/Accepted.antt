-- What acceptance means: the Scheme of a table that no cause refuses is accepted.
use mathlib.Core.Path.{◌≡◌, sym, ◌∙◌}
use mathlib.Core.Bool.{true, false}
use mathlib.Core.List.{List, [], ◌∷◌, ◌++◌}
use mathlib.Core.Logic.{inl, inr}
use Prim.Native.Nat.{ℕ, ◌+◌, ◌≤◌, ◌<◌}
use native.Mathlib.Omega.{arith}
use lib.ListN.{length, length-map}
use borrow.Author.Tests.{lt-ltb}
use Rattle.lists.specs.Lists.{range, from, keep, member, first_from}
use Rattle.lists.proofs.Ranges.{from-length, from_member}
use Rattle.lists.proofs.Members.{keep_same}
use Rattle.lists.proofs.First.{Looked, first-cases}
use Rattle.scheme.specs.Words.{bounds, definitions, nodes, branches, root, formal_count, node_first, node_second, is_choice, is_call_node, branches_of, next}
use Rattle.scheme.specs.Words.{is_receive, argument, arguments_of}
use Rattle.scheme.specs.Owners.{child_of, next_of, owner, home, held, definition, thread}
use Rattle.table.specs.Causes.{cause}
use Rattle.scheme.specs.Scheme.{binds, by_new, by_receive, branch_at, arguments_from, binder_of, scheme}
use Rattle.table.specs.Accepted.{NameOf, Below, Chosen, Accepted}
use Rattle.scheme.specs.Kinds.{is_receive as receives}
use Rattle.table.proofs.Inside
use Rattle.table.proofs.Owned
use Rattle.table.proofs.Owned.{BranchOf, Leads, by-root, by-new, by-branch}
use Rattle.table.proofs.Trees
use Rattle.table.proofs.Decoded
use Rattle.table.proofs.Binders
use Rattle.table.proofs.Held
use Rattle.table.proofs.Uses
use Rattle.table.proofs.Uses.{Usable}
use Rattle.table.proofs.Sizes
use Rattle.table.proofs.Threads
use Rattle.table.proofs.Threads.{formals_at}
use Rattle.table.proofs.Passed.{Passed, passed}

-- a Call's arguments
arguments-at : (w : List ℕ) (n : ℕ) → n < nodes w → is_call_node w n ≡ true → arguments_from w n ≡ arguments_of w n
unfolding arguments_from
arguments-at w n l k = rw (lt-ltb n (nodes w) l, k)

arguments-length : (w : List ℕ) (n : ℕ) → length (arguments_of w n) ≡ formal_count w (node_first w n)
unfolding arguments_of
arguments-length w n =
    length-map (from (node_second w n) (formal_count w (node_first w n))) (argument w) ∙ from-length (node_second w n) (formal_count w (node_first w n))

home-inside : (w : List ℕ) → 1 ≤ nodes w → (b : ℕ) → home w b < nodes w
unfolding home
home-inside w l b = go (first-cases (λ n. member b (branches_of w n)) 0 (nodes w) 0)
  where
    go : Looked (λ n. member b (branches_of w n)) 0 (nodes w) 0 → first_from (nodes w) (λ n. member b (branches_of w n)) 0 0 < nodes w
    go (inl f) = omega (arith, f.high)
    go (inr e) = omega (arith, e.0)

module _ (w : List ℕ) (p : Passed w) where
  home-has : (b : ℕ) → b < branches w → BranchOf w (home w b) b
  home-has = Owned.home-has w p.shape

  owned : (n : ℕ) → n < nodes w → Below (scheme w) n (owner w n)
  unfolding scheme
  owned n l = go (Owned.leads w p.shape n l)
    where
      go : Leads w n → Below (scheme w) n (owner w n)
      go (by-root d i e) = rw (Owned.owner-root w p.shape n d l i e) i
      go (by-new m i k e) = rw (Owned.owner-child w p.shape n m l i k e) (omega (arith, Owned.child-above w p.shape m i k))
      go (by-branch b i e) =
          rw (Owned.owner-next w p.shape n b l i e) (i, omega (arith, Owned.next-above w p.shape (home w b) b (home-has b i)))

  home-choice : (b : ℕ) → b < branches w → Chosen (scheme w) (home w b) b
  unfolding scheme
  home-choice b l =
      let c = home-has b l in
      record {
        first = node_first w (home w b);
        count = node_second w (home w b);
        at = Decoded.node-choice w (home w b) c.inside c.choice;
        low = c.low;
        high = c.high;
      }

  few-receives : length (keep (λ b. receives (branch_at w b)) (range (branches w))) ≤ bounds w
  few-receives =
      rw (keep_same (λ b. receives (branch_at w b)) (is_receive w) (range (branches w))
      (λ b m. Decoded.receives-words w p.kinds b (omega (arith, from_member b 0 (branches w) m))))
      (Sizes.few-receives w p.ranges p.binding)

  call-thread : (n : ℕ) → n < nodes w → is_call_node w n ≡ true → thread w (root w (node_first w n)) ≡ thread w n
  call-thread n l k = Threads.root-thread w p (node_first w n) (Inside.call-inside w p.ranges n l k).0 ∙ (Uses.call-own w p.calls n l k).0

  call-fresh : (n : ℕ) → n < nodes w → is_call_node w n ≡ true → (x : ℕ) → member x (formals_at w (node_first w n)) ≡ true → member x (held w n) ≡ false
  call-fresh n l k x m =
      let i = Threads.formal-of w (node_first w n) x m in
      Held.call-fresh w p.ranges p.shape p.binding n (node_first w n) x i.0 (λ e. (Uses.call-own w p.calls n l k).1 (sym e)) i.1

  call-arguments : (n : ℕ) → n < nodes w → is_call_node w n ≡ true → length (arguments_from w n) ≡ length (formals_at w (node_first w n))
  call-arguments n l k =
      rw (arguments-at w n l k, Threads.formals-at w (node_first w n) (Inside.call-inside w p.ranges n l k).0)
      (arguments-length w n ∙ sym (Threads.formals-length w (node_first w n)))

  argument-usable : (n : ℕ) → n < nodes w → is_call_node w n ≡ true → (x : ℕ) → member x (arguments_from w n) ≡ true → Usable w n x
  argument-usable n l k x m = Uses.argument-usable w p.scope n x l k (rw (arguments-at w n l k) at m)

  choice-home : (n : ℕ) → n < nodes w → is_choice w n ≡ true → (b : ℕ) → node_first w n ≤ b → b < node_first w n + node_second w n → home w b ≡ n
  choice-home n l k b i j = Owned.home-is w p.shape n b (record { inside = l; choice = k; low = i; high = j })

  next-held : (b : ℕ) → b < branches w → held w (next w b) ≡ held w (home w b) ++ binds (branch_at w b)
  next-held b l = rw (Decoded.binds-words w p.kinds b l) (Trees.next-held w p.ranges p.shape (home w b) b (home-has b l))

  next-definition : (b : ℕ) → b < branches w → definition w (next w b) ≡ definition w (home w b)
  next-definition b l = Trees.next-definition w p.ranges p.shape (home w b) b (home-has b l)

  all : Accepted (scheme w)
  unfolding scheme
  all =
      let few = Inside.counted w p.counts in
      record {
        few-publics = few.few-publics;
        few-bounds = few.few-bounds;
        few-definitions = few.few-definitions;
        some-thread = few.some-thread;
        few-threads = few.few-threads;
        some-node = few.some-node;
        few-nodes = few.few-nodes;
        few-branches = few.few-branches;
        words = omega (arith, Sizes.whole_length w p.layout);
        enough-nodes = Sizes.enough-nodes w p.ranges p.shape;
        few-receives = few-receives;
        root-inside = Inside.root-inside w p.ranges;
        root-held = λ d l. Trees.root-held w p.ranges p.shape d l ∙ sym (Threads.formals-at w d l);
        root-definition = Trees.root-definition w p.ranges p.shape;
        few-formals = Threads.few-formals w p;
        formal-free = Threads.formal-free w p;
        formal-name = Threads.formal-name w p;
        formals-distinct = Threads.formals-distinct w p;
        entry-inside = Inside.entry-inside w p.ranges;
        entry-thread = Threads.entry-thread w p;
        entry-formals = Threads.entry-formals w p;
        owned = owned;
        root-owner = Trees.root-owner w p.ranges p.shape;
        child-owner = Decoded.every-new w (λ n r l. owner w l ≡ child_of n) (Trees.child-owner w p.ranges p.shape);
        next-owner = Decoded.every-next w p.kinds (λ b k. owner w k ≡ next_of b) (Trees.next-owner w p.ranges p.shape);
        thread-inside = Threads.thread-inside w p;
        definition-inside = Threads.definition-inside w p;
        thread-definition = λ n. sym (Threads.root-thread w p (definition w n) (Threads.definition-inside w p n));
        held-name = Threads.held-name w p;
        held-distinct = Held.held-distinct w p.ranges p.shape p.binding;
        held-inside = Trees.outside-held w p.ranges p.shape;
        name-bound = Threads.name-bound w p;
        name-thread = Threads.name-thread w p;
        no-thread = Threads.no-thread w p;
        restricted-bound = Threads.restricted-bound w p;
        new-inside = Decoded.every-new w (λ n r l. (n < nodes w) × (l < nodes w)) (λ n i k. (i, (Inside.new-inside w p.ranges n i k).1));
        new-above = Decoded.every-new w (λ n r l. n < l) (Owned.child-above w p.shape);
        new-held = Decoded.every-new w (λ n r l. held w l ≡ held w n ++ (r ∷ [])) (Trees.new-held w p.ranges p.shape);
        new-definition = Decoded.every-new w (λ n r l. definition w l ≡ definition w n) (Trees.new-definition w p.ranges p.shape);
        new-thread = Decoded.every-new w (λ n r l. thread w l ≡ thread w n) (λ n i k. rw (Trees.new-definition w p.ranges p.shape n i k));
        new-name = Decoded.every-new w (λ n r l. NameOf (scheme w) (thread w n) r) (Threads.new-name w p);
        new-binder = Decoded.every-new w (λ n r l. binder_of w r ≡ by_new n) (Binders.binder-new w p.ranges p.binding);
        new-restricted = Decoded.every-new w (λ n r l. (scheme w).restricted r ≡ true) (Threads.new-restricted w p);
        new-fresh = Decoded.every-new w (λ n r l. member r (held w n) ≡ false) (Held.new-fresh w p.ranges p.shape p.binding);
        call-inside = Decoded.every_call w (λ n d. (n < nodes w) × (d < definitions w)) (λ n i k. (i, (Inside.call-inside w p.ranges n i k).0));
        call-thread = Decoded.every_call w (λ n d. thread w (root w d) ≡ thread w n) call-thread;
        call-leaves = Decoded.every_call w (λ n d. definition w n ≡ d → ⊥) (λ n i k e. (Uses.call-own w p.calls n i k).1 (sym e));
        call-fresh = λ n d x e. Decoded.every_call w (λ n d. (x : ℕ) → member x (formals_at w d) ≡ true → member x (held w n) ≡ false) call-fresh n d e x;
        call-arguments = Decoded.every_call w (λ n d. length (arguments_from w n) ≡ length (formals_at w d)) call-arguments;
        argument-usable = λ n d x e. Decoded.every_call w (λ n d. (x : ℕ) → member x (arguments_from w n) ≡ true → Usable w n x) argument-usable n d e x;
        choice-inside =
            Decoded.every-choice w (λ n f c. (n < nodes w) × (1 ≤ c) × (f + c ≤ branches w))
            (λ n i k. (i, Decoded.choice-some w p.kinds n i k, Inside.choice-inside w p.ranges n i k));
        choice-home = λ n f c b e. Decoded.every-choice w (λ n f c. (b : ℕ) → f ≤ b → b < f + c → home w b ≡ n) choice-home n f c e b;
        home-inside = home-inside w few.some-node;
        home-choice = home-choice;
        branch-present = Decoded.inside-present w p.kinds;
        branch-inside = Decoded.present-inside w p.kinds;
        next-inside = Decoded.every-next w p.kinds (λ b k. k < nodes w) (Inside.next-inside w p.ranges);
        next-above = Decoded.every-next w p.kinds (λ b k. home w b < k) (λ b i. Owned.next-above w p.shape (home w b) b (home-has b i));
        next-held = Decoded.every-next w p.kinds (λ b k. held w k ≡ held w (home w b) ++ binds (branch_at w b)) next-held;
        next-definition = Decoded.every-next w p.kinds (λ b k. definition w k ≡ definition w (home w b)) next-definition;
        next-thread = Decoded.every-next w p.kinds (λ b k. thread w k ≡ thread w (home w b)) (λ b i. rw (next-definition b i));
        send-usable =
            Decoded.every-send w p.kinds (λ b a z. Usable w (home w b) a × Usable w (home w b) z)
            (λ b i k.
            let c = home-has b i in
            (Uses.channel-usable w p.scope (home w b) b c (Inside.send-not-silent w b k), Uses.sent-usable w p.scope (home w b) b c k));
        receive-usable =
            Decoded.every-receive w p.kinds (λ b a y. Usable w (home w b) a)
            (λ b i k. Uses.channel-usable w p.scope (home w b) b (home-has b i) (Inside.receive-not-silent w b k));
        receive-name = Decoded.every-receive w p.kinds (λ b a y. NameOf (scheme w) (thread w (home w b)) y) (Threads.receive-name w p);
        receive-binder = Decoded.every-receive w p.kinds (λ b a y. binder_of w y ≡ by_receive b) (Binders.binder-receive w p.ranges p.binding);
        receive-free = Decoded.every-receive w p.kinds (λ b a y. (scheme w).restricted y ≡ false) (Threads.receive-free w p);
        receive-fresh =
            Decoded.every-receive w p.kinds (λ b a y. member y (held w (home w b)) ≡ false) (Held.receive-fresh w p.ranges p.shape p.binding);
      }

pub accepted : (w : List ℕ) → cause w ≡ 0 → Accepted (scheme w)
accepted w h = all w (passed w h)
