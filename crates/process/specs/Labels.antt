-- Labels, and what they name (document 01, Transitions): "Labels (kind, a, b): 0 copy, node, formal; 1 release, node, name; 2 new,
-- node, name; 3 silent, branch, 0; 4 communication, send, receive; 5 call, node, 0. Kinds 0 and 1 are bookkeeping."
use Rattle.std.specs.Prelude.{Bool, true, false, not, ◌&&◌, List, [], ◌∷◌, ◌++◌, map, ℕ}
use Rattle.lists.specs.Lists.{pick, same, from, range, keep, flat, member}
use Rattle.scheme.specs.Scheme.{Scheme, Node, stop, choice, new, call, Branch, absent, silent, send, receive}
use Rattle.process.specs.States.{State}
use Rattle.process.specs.Steps.{Step, new_step, silent_step, communication, step_call, no_step, is_step_open}
use Rattle.scheme.specs.Kinds.{is_silent, is_send, is_receive}

-- the copy of a formal and the release of a name, by node and name
pub data Bookkeeping : Type 0 where
  copy : ℕ → ℕ → Bookkeeping
  release : ℕ → ℕ → Bookkeeping

-- what a label names: bookkeeping, a step of the process, or nothing that the table has
pub data Meaning : Type 0 where
  bookkeeping : Bookkeeping → Meaning
  step : Step → Meaning
  missing : Meaning

-- a step as what a label names; where there is no step, the table does not have the label
abbrev pub step_meaning : Step → Meaning
step_meaning (new_step n) = step (new_step n)
step_meaning (silent_step b) = step (silent_step b)
step_meaning (communication b c) = step (communication b c)
step_meaning (step_call n) = step (step_call n)
step_meaning no_step = missing

-- something that the table has
abbrev pub is_there : Meaning → Bool
is_there (bookkeeping k) = true
is_there (step x) = true
is_there missing = false

-- the name that a New makes
abbrev pub new_name : Node → ℕ
new_name stop = 0
new_name (choice f c) = 0
new_name (new r l) = r
new_name (call d) = 0

module _ (S : Scheme) where
  -- the label of a step
  abbrev pub label_of : Step → List ℕ
  label_of (new_step n) = 2 ∷ n ∷ new_name (S.node n) ∷ []
  label_of (silent_step b) = 3 ∷ b ∷ 0 ∷ []
  label_of (communication b c) = 4 ∷ b ∷ c ∷ []
  label_of (step_call n) = 5 ∷ n ∷ 0 ∷ []
  label_of no_step = []

  -- "A table has a label where its numbers fit the kind: a node with that copy, release, new or call, a silent branch, or a send and a receive of
  -- different threads on any channels."

  -- "a node with that copy": a Call, of a formal of the definition called
  abbrev pub copies : ℕ → Node → Bool
  copies x stop = false
  copies x (choice f c) = false
  copies x (new r l) = false
  copies x (call d) = member x (S.formals d)

  -- "release": a Stop or a Call, of a name held there
  abbrev pub releases : List ℕ → ℕ → Node → Bool
  releases held x stop = member x held
  releases held x (choice f c) = false
  releases held x (new r l) = false
  releases held x (call d) = member x held

  abbrev pub named_copy : ℕ → ℕ → Meaning
  named_copy n x = pick (copies x (S.node n)) (bookkeeping (copy n x)) missing

  abbrev pub named_release : ℕ → ℕ → Meaning
  named_release n x = pick (releases (S.held n) x (S.node n)) (bookkeeping (release n x)) missing

  -- "new or call, a silent branch, or a send and a receive": the step that a label of kind 2 to 5 names, no step otherwise
  abbrev pub named_new : ℕ → ℕ → Node → Step
  named_new n x stop = no_step
  named_new n x (choice f c) = no_step
  named_new n x (new r l) = pick (same x r) (new_step n) no_step
  named_new n x (call d) = no_step

  abbrev pub named_call : ℕ → ℕ → Node → Step
  named_call n x stop = no_step
  named_call n x (choice f c) = no_step
  named_call n x (new r l) = no_step
  named_call n x (call d) = pick (same x 0) (step_call n) no_step

  abbrev pub named_silent : ℕ → ℕ → Branch → Step
  named_silent b x absent = no_step
  named_silent b x (silent l) = pick (same x 0) (silent_step b) no_step
  named_silent b x (send a z l) = no_step
  named_silent b x (receive a y l) = no_step

  -- a receive of another thread than branch b's
  abbrev pub is_partner : ℕ → ℕ → Bool
  is_partner b c = is_receive (S.branch c) && not (same (S.thread (S.home b)) (S.thread (S.home c)))

  abbrev pub named_communication : ℕ → ℕ → Step
  named_communication b c = pick (is_send (S.branch b) && is_partner b c) (communication b c) no_step

  unfoldable pub step_of : ℕ → ℕ → ℕ → Step
  step_of kind a b =
      pick (same kind 2) (named_new a b (S.node a))
      (pick (same kind 3) (named_silent a b (S.branch a))
      (pick (same kind 4) (named_communication a b)
      (pick (same kind 5) (named_call a b (S.node a)) no_step)))

  -- what a label of any kind names
  unfoldable pub meaning_of : ℕ → ℕ → ℕ → Meaning
  meaning_of kind a b =
      pick (same kind 0) (named_copy a b)
      (pick (same kind 1) (named_release a b) (step_meaning (step_of kind a b)))

  -- the table has the label
  unfoldable pub has_label : ℕ → ℕ → ℕ → Bool
  has_label kind a b = is_there (meaning_of kind a b)

  -- every step of the table, in the image's label order: by node, then communications by send branch and receive branch
  abbrev pub steps_of_node : ℕ → Node → List Step
  steps_of_node n stop = []
  steps_of_node n (choice f c) = map silent_step (keep (λ b. is_silent (S.branch b)) (from f c))
  steps_of_node n (new r l) = new_step n ∷ []
  steps_of_node n (call d) = step_call n ∷ []

  unfoldable pub steps : List Step
  steps =
      flat (λ n. steps_of_node n (S.node n)) (range S.nodes) ++
      flat (λ b. map (communication b) (keep (is_partner b) (range S.branches))) (keep (λ b. is_send (S.branch b)) (range S.branches))

  -- "A call lists the open steps as labels in the image's label order, each once"
  unfoldable pub open_step_list : State → List Step
  open_step_list s = keep (is_step_open S s) steps

  unfoldable pub open_labels : State → List ℕ
  unfolding open_step_list
  open_labels s = flat label_of (open_step_list s)
