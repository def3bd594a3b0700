-- What acceptance means, as named facts of a Scheme. They hold of every accepted table (proofs/Accepted.antt), and everything above the table
-- uses these facts and looks at no test of a cause.
use Rattle.std.specs.Prelude.{◌≡◌, true, false, ◌⊎◌, [], ◌∷◌, ◌++◌, ℕ, ◌+◌, ◌*◌, ◌≤◌, ◌<◌, length}
use Rattle.lists.specs.Lists.{range, keep, member, Distinct}
use Rattle.scheme.specs.Owners.{Owner, root_of, child_of, next_of, nobody}
use Rattle.scheme.specs.Scheme.{choice, new, call, send, receive, present, next_node, binds, by_new, by_receive, unbound, Scheme}
use Rattle.scheme.specs.Kinds.{is_receive}

-- x is a bound name of thread t
pub record NameOf (S : Scheme) (t x : ℕ) : Type 0 where
  pub low : S.publics ≤ x
  pub high : x < S.publics + S.bounds
  pub of : S.thread_of_name x ≡ t

-- x may be used at node n: it is held there or public
abbrev pub Usable : Scheme → ℕ → ℕ → Type 0
Usable S n x = (x < S.publics) ⊎ (member x (S.held n) ≡ true)

-- an owner lies below what it owns
abbrev pub Below : Scheme → ℕ → Owner → Type 0
Below S n (root_of d) = d < S.definitions
Below S n (child_of m) = m < n
Below S n (next_of b) = (b < S.branches) × (S.home b < n)
Below S n nobody = ⊥

-- branch b is one of the c branches from f on that node n chooses among
pub record Chosen (S : Scheme) (n b : ℕ) : Type 0 where
  pub first : ℕ
  pub count : ℕ
  pub at : S.node n ≡ choice first count
  pub low : first ≤ b
  pub high : b < first + count

pub record Accepted (S : Scheme) : Type 0 where
  -- counts
  pub few-publics : S.publics ≤ 32
  pub few-bounds : S.bounds ≤ 32
  pub few-definitions : S.definitions ≤ 32
  pub some-thread : 1 ≤ S.threads
  pub few-threads : S.threads ≤ 8
  pub some-node : 1 ≤ S.nodes
  pub few-nodes : S.nodes ≤ 256
  pub few-branches : S.branches ≤ 256
  pub words : 13 + S.bounds + 4 * S.definitions + S.threads + 3 * S.nodes + 4 * S.branches ≤ S.size
  -- every node is owned once, so there are at least as many nodes as branches and definitions; each receive binds a name of its own
  pub enough-nodes : S.branches + S.definitions ≤ S.nodes
  pub few-receives : length (keep (λ b. is_receive (S.branch b)) (range S.branches)) ≤ S.bounds
  -- definitions and entries
  pub root-inside : (d : ℕ) → d < S.definitions → S.root d < S.nodes
  pub root-held : (d : ℕ) → d < S.definitions → S.held (S.root d) ≡ S.formals d
  pub root-definition : (d : ℕ) → d < S.definitions → S.definition (S.root d) ≡ d
  pub few-formals : (d : ℕ) → length (S.formals d) ≤ S.bounds
  pub formal-free : (d x : ℕ) → member x (S.formals d) ≡ true → S.restricted x ≡ false
  pub formal-name : (d x : ℕ) → member x (S.formals d) ≡ true → NameOf S (S.thread (S.root d)) x
  pub formals-distinct : (d : ℕ) → Distinct (S.formals d)
  pub entry-inside : (t : ℕ) → t < S.threads → S.entry t < S.definitions
  pub entry-thread : (t : ℕ) → t < S.threads → S.thread (S.root (S.entry t)) ≡ t
  pub entry-formals : (t : ℕ) → t < S.threads → S.formals (S.entry t) ≡ []
  -- exactly one owner per node, and it lies below
  pub owned : (n : ℕ) → n < S.nodes → Below S n (S.owner n)
  pub root-owner : (d : ℕ) → d < S.definitions → S.owner (S.root d) ≡ root_of d
  pub child-owner : (n r l : ℕ) → S.node n ≡ new r l → S.owner l ≡ child_of n
  pub next-owner : (b : ℕ) → present (S.branch b) ≡ true → S.owner (next_node (S.branch b)) ≡ next_of b
  -- threads and held names
  pub thread-inside : (n : ℕ) → S.thread n < S.threads
  pub definition-inside : (n : ℕ) → S.definition n < S.definitions
  pub thread-definition : (n : ℕ) → S.thread n ≡ S.thread (S.root (S.definition n))
  pub held-name : (n x : ℕ) → member x (S.held n) ≡ true → NameOf S (S.thread n) x
  pub held-distinct : (n : ℕ) → Distinct (S.held n)
  pub held-inside : (n : ℕ) → S.nodes ≤ n → S.held n ≡ []
  pub name-bound : (x : ℕ) → S.publics ≤ x → x < S.publics + S.bounds → S.binder x ≡ unbound → ⊥
  pub name-thread : (x : ℕ) → S.publics ≤ x → x < S.publics + S.bounds → S.thread_of_name x < S.threads
  pub no-thread : (x : ℕ) → (x < S.publics) ⊎ (S.publics + S.bounds ≤ x) → S.thread_of_name x ≡ S.threads
  pub restricted-bound : (x : ℕ) → S.restricted x ≡ true → (S.publics ≤ x) × (x < S.publics + S.bounds)
  -- New
  pub new-inside : (n r l : ℕ) → S.node n ≡ new r l → (n < S.nodes) × (l < S.nodes)
  pub new-above : (n r l : ℕ) → S.node n ≡ new r l → n < l
  pub new-held : (n r l : ℕ) → S.node n ≡ new r l → S.held l ≡ S.held n ++ (r ∷ [])
  pub new-definition : (n r l : ℕ) → S.node n ≡ new r l → S.definition l ≡ S.definition n
  pub new-thread : (n r l : ℕ) → S.node n ≡ new r l → S.thread l ≡ S.thread n
  pub new-name : (n r l : ℕ) → S.node n ≡ new r l → NameOf S (S.thread n) r
  pub new-binder : (n r l : ℕ) → S.node n ≡ new r l → S.binder r ≡ by_new n
  pub new-restricted : (n r l : ℕ) → S.node n ≡ new r l → S.restricted r ≡ true
  pub new-fresh : (n r l : ℕ) → S.node n ≡ new r l → member r (S.held n) ≡ false
  -- Call
  pub call-inside : (n d : ℕ) → S.node n ≡ call d → (n < S.nodes) × (d < S.definitions)
  pub call-thread : (n d : ℕ) → S.node n ≡ call d → S.thread (S.root d) ≡ S.thread n
  pub call-leaves : (n d : ℕ) → S.node n ≡ call d → S.definition n ≡ d → ⊥
  pub call-fresh : (n d x : ℕ) → S.node n ≡ call d → member x (S.formals d) ≡ true → member x (S.held n) ≡ false
  pub call-arguments : (n d : ℕ) → S.node n ≡ call d → length (S.arguments n) ≡ length (S.formals d)
  pub argument-usable : (n d x : ℕ) → S.node n ≡ call d → member x (S.arguments n) ≡ true → Usable S n x
  -- Choice and branches
  pub choice-inside : (n f c : ℕ) → S.node n ≡ choice f c → (n < S.nodes) × (1 ≤ c) × (f + c ≤ S.branches)
  pub choice-home : (n f c b : ℕ) → S.node n ≡ choice f c → f ≤ b → b < f + c → S.home b ≡ n
  pub home-inside : (b : ℕ) → S.home b < S.nodes
  pub home-choice : (b : ℕ) → b < S.branches → Chosen S (S.home b) b
  pub branch-present : (b : ℕ) → b < S.branches → present (S.branch b) ≡ true
  pub branch-inside : (b : ℕ) → present (S.branch b) ≡ true → b < S.branches
  pub next-inside : (b : ℕ) → present (S.branch b) ≡ true → next_node (S.branch b) < S.nodes
  pub next-above : (b : ℕ) → present (S.branch b) ≡ true → S.home b < next_node (S.branch b)
  pub next-held : (b : ℕ) → present (S.branch b) ≡ true → S.held (next_node (S.branch b)) ≡ S.held (S.home b) ++ binds (S.branch b)
  pub next-definition : (b : ℕ) → present (S.branch b) ≡ true → S.definition (next_node (S.branch b)) ≡ S.definition (S.home b)
  pub next-thread : (b : ℕ) → present (S.branch b) ≡ true → S.thread (next_node (S.branch b)) ≡ S.thread (S.home b)
  pub send-usable : (b a z l : ℕ) → S.branch b ≡ send a z l → Usable S (S.home b) a × Usable S (S.home b) z
  pub receive-usable : (b a y l : ℕ) → S.branch b ≡ receive a y l → Usable S (S.home b) a
  pub receive-name : (b a y l : ℕ) → S.branch b ≡ receive a y l → NameOf S (S.thread (S.home b)) y
  pub receive-binder : (b a y l : ℕ) → S.branch b ≡ receive a y l → S.binder y ≡ by_receive b
  pub receive-free : (b a y l : ℕ) → S.branch b ≡ receive a y l → S.restricted y ≡ false
  pub receive-fresh : (b a y l : ℕ) → S.branch b ≡ receive a y l → member y (S.held (S.home b)) ≡ false
