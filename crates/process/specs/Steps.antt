-- The steps of a process, when they are open, and the labels that name them (document 01, Process rules and Transitions).
use Rattle.std.specs.Prelude.{Bool, true, false, not, ◌&&◌, List, [], ◌∷◌, ℕ, suc}
use Rattle.std.proofs.Math.Option.{Option, none, some}
use Rattle.lists.specs.Lists.{pick, same}
use Rattle.scheme.specs.Scheme.{Scheme, Node, stop, choice, new, call, Branch, absent, silent, send, receive}
use Rattle.scheme.specs.Kinds.{is_stop_node, is_new, is_call_node, is_silent}
use Rattle.process.specs.States.{State, put, value_of, is_one_value}

-- a step: New and Call by their node, a silent step by its branch, a communication by the sending and the receiving branch
pub data Step : Type 0 where
  new_step : ℕ → Step
  silent_step : ℕ → Step
  communication : ℕ → ℕ → Step
  step_call : ℕ → Step
  no_step : Step

-- the argument that stands where x stands among the formals
unfoldable pub passed : List ℕ → List ℕ → ℕ → Option ℕ
passed [] args x = none
passed (f ∷ fs) [] x = none
passed (f ∷ fs) (a ∷ args) x = elim (same x f) [ true ↦ some a | false ↦ passed fs args x ]

module _ (S : Scheme) where
  -- "Names end on arrival at Stop.": the name whose value x has once thread t has arrived at node l
  abbrev pub arrived : ℕ → ℕ → ℕ → Option ℕ
  arrived t l x = pick (is_stop_node (S.node l) && same (S.thread_of_name x) t) none (some x)

  -- "Silent: go to the next node."
  abbrev pub silently : ℕ → ℕ → State → State
  silently t l s = record { node = put s.node t l; value = λ x. value_of s.value (arrived t l x); counter = s.counter }

  -- "New: the name takes the counter, which rises by 1."
  abbrev pub newly : ℕ → ℕ → ℕ → State → State
  newly t r l s = record {
    node = put s.node t l;
    value = λ x. value_of (put s.value r (some s.counter)) (arrived t l x);
    counter = suc s.counter;
  }

  -- "Call: all formals take the arguments' values, the caller's names end."
  abbrev pub called : ℕ → ℕ → ℕ → Option ℕ
  called n d x =
      pick (same (S.thread_of_name x) (S.thread n))
      (pick (is_stop_node (S.node (S.root d))) none (passed (S.formals d) (S.arguments n) x))
      (some x)

  abbrev pub calling : ℕ → ℕ → State → State
  calling n d s = record { node = put s.node (S.thread n) (S.root d); value = λ x. value_of s.value (called n d x); counter = s.counter }

  -- "the receiver's name takes the sent value": thread t sends z and goes to l, thread u receives it as y and goes to m
  abbrev pub received : ℕ → ℕ → ℕ → ℕ → ℕ → ℕ → ℕ → Option ℕ
  received t z l u y m x =
      pick (is_stop_node (S.node l) && same (S.thread_of_name x) t) none
      (pick (is_stop_node (S.node m) && same (S.thread_of_name x) u) none (pick (same x y) (some z) (some x)))

  abbrev pub meeting : ℕ → ℕ → ℕ → ℕ → ℕ → ℕ → State → State
  meeting t z l u y m s = record { node = put (put s.node t l) u m; value = λ x. value_of s.value (received t z l u y m x); counter = s.counter }

  -- the step of a node or of branches; where there is none, nothing changes
  abbrev pub new_at : ℕ → Node → State → State
  new_at n stop s = s
  new_at n (choice f c) s = s
  new_at n (new r l) s = newly (S.thread n) r l s
  new_at n (call d) s = s

  abbrev pub call_at : ℕ → Node → State → State
  call_at n stop s = s
  call_at n (choice f c) s = s
  call_at n (new r l) s = s
  call_at n (call d) s = calling n d s

  abbrev pub silent_by : ℕ → Branch → State → State
  silent_by b absent s = s
  silent_by b (silent l) s = silently (S.thread (S.home b)) l s
  silent_by b (send a z l) s = s
  silent_by b (receive a y l) s = s

  abbrev pub meet_by : ℕ → Branch → ℕ → Branch → State → State
  meet_by b absent c β s = s
  meet_by b (silent l) c β s = s
  meet_by b (send a z l) c absent s = s
  meet_by b (send a z l) c (silent m) s = s
  meet_by b (send a z l) c (send e y m) s = s
  meet_by b (send a z l) c (receive e y m) s = meeting (S.thread (S.home b)) z l (S.thread (S.home c)) y m s
  meet_by b (receive a y l) c β s = s

  unfoldable pub take : Step → State → State
  take (new_step n) s = new_at n (S.node n) s
  take (silent_step b) s = silent_by b (S.branch b) s
  take (communication b c) s = meet_by b (S.branch b) c (S.branch c) s
  take (step_call n) s = call_at n (S.node n) s
  take no_step s = s

  -- "A step is open when its threads stand at its nodes and, for a communication, both channels have one value."
  abbrev pub is_standing_at : State → ℕ → Bool
  is_standing_at s n = same (s.node (S.thread n)) n

  -- "threads differ, both channels have one value"
  abbrev pub can_communicate : State → ℕ → Branch → ℕ → Branch → Bool
  can_communicate s b absent c β = false
  can_communicate s b (silent l) c β = false
  can_communicate s b (send a z l) c absent = false
  can_communicate s b (send a z l) c (silent m) = false
  can_communicate s b (send a z l) c (send e y m) = false
  can_communicate s b (send a z l) c (receive e y m) =
      not (same (S.thread (S.home b)) (S.thread (S.home c))) &&
      (is_standing_at s (S.home b) && (is_standing_at s (S.home c) && is_one_value (s.value a) (s.value e)))
  can_communicate s b (receive a y l) c β = false

  unfoldable pub is_step_open : State → Step → Bool
  is_step_open s (new_step n) = is_new (S.node n) && is_standing_at s n
  is_step_open s (silent_step b) = is_silent (S.branch b) && is_standing_at s (S.home b)
  is_step_open s (communication b c) = can_communicate s b (S.branch b) c (S.branch c)
  is_step_open s (step_call n) = is_call_node (S.node n) && is_standing_at s n
  is_step_open s no_step = false
