-- Worked states, computed: table E on the way of its run, definitions that call each other passing a private name, a name sent on itself, and
-- steps of several kinds open at once.
use mathlib.Core.Path.{◌≡◌, refl}
use mathlib.Core.Bool.{Bool, true, not, ◌&&◌}
use mathlib.Core.List.{List, [], ◌∷◌}
use mathlib.Core.Option.{some}
use Prim.Native.Nat.{ℕ}
use lib.ListN.{length}
use Rattle.lists.specs.Lists.{same, from, every, keep, flat, member, first_from}
use Rattle.scheme.specs.Words.{formals, branches_of, arguments_of}
use Rattle.scheme.specs.Owners.{home, owner, pick_owner, held_names_by, definition_by, held, definition}
use Rattle.scheme.specs.Scheme.{Scheme, scheme, node_at, branch_at, arguments_from, pick_binder, binder_of}
use Rattle.process.specs.States.{State, start, put}
use Rattle.process.specs.Steps.{Step, new_step, silent_step, communication, step_call, take, passed, is_step_open}
use Rattle.process.specs.Labels.{step_of, steps, open_step_list, open_labels, bookkeeping, copy, release, step, missing, meaning_of}
use Rattle.process.specs.Outcomes.{Outcome, answered, written, refusal}
use Rattle.process.specs.StateWords.{state_words, place, noted, value_words, is_well_formed, state_of, same_list}

-- "ν r.p⟨r⟩.0 beside p(x).0"
abbrev table_e : List ℕ
table_e =
    1 ∷ 2 ∷ 2 ∷ 2 ∷ 5 ∷ 2 ∷ 0 ∷ 13 ∷ 15 ∷ 23 ∷ 25 ∷ 40 ∷ 48 ∷ 0 ∷ 1 ∷ 0 ∷ 0 ∷ 0 ∷ 0 ∷ 1 ∷ 3 ∷ 0 ∷ 0 ∷ 0 ∷ 1 ∷
    2 ∷ 1 ∷ 1 ∷ 1 ∷ 0 ∷ 1 ∷ 0 ∷ 0 ∷ 0 ∷ 1 ∷ 1 ∷ 1 ∷ 0 ∷ 0 ∷ 0 ∷ 1 ∷ 0 ∷ 1 ∷ 2 ∷ 2 ∷ 0 ∷ 2 ∷ 4 ∷ []

-- ν r.F⟨r⟩ with F(f) = G⟨f⟩ and G(g) = F⟨g⟩
abbrev table_calls : List ℕ
table_calls =
    0 ∷ 3 ∷ 3 ∷ 1 ∷ 4 ∷ 0 ∷ 3 ∷ 13 ∷ 16 ∷ 28 ∷ 29 ∷ 41 ∷ 41 ∷ 0 ∷ 2 ∷ 2 ∷ 0 ∷ 0 ∷ 0 ∷ 0 ∷ 0 ∷ 2 ∷ 1 ∷ 1 ∷ 0 ∷ 3 ∷ 2 ∷ 1 ∷ 0 ∷
    2 ∷ 0 ∷ 1 ∷ 3 ∷ 1 ∷ 0 ∷ 3 ∷ 2 ∷ 1 ∷ 3 ∷ 1 ∷ 2 ∷ 0 ∷ 1 ∷ 2 ∷ []

-- p⟨p⟩.0 beside p(x).τ.0
abbrev table_itself : List ℕ
table_itself =
    1 ∷ 1 ∷ 2 ∷ 2 ∷ 5 ∷ 3 ∷ 0 ∷ 13 ∷ 14 ∷ 22 ∷ 24 ∷ 39 ∷ 51 ∷ 1 ∷ 0 ∷ 0 ∷ 0 ∷ 0 ∷ 1 ∷ 2 ∷ 0 ∷ 0 ∷ 0 ∷ 1 ∷
    1 ∷ 0 ∷ 1 ∷ 0 ∷ 0 ∷ 0 ∷ 1 ∷ 1 ∷ 1 ∷ 1 ∷ 2 ∷ 1 ∷ 0 ∷ 0 ∷ 0 ∷ 1 ∷ 0 ∷ 0 ∷ 1 ∷ 2 ∷ 0 ∷ 1 ∷ 3 ∷ 0 ∷ 0 ∷ 0 ∷ 4 ∷ []

-- p⟨p⟩.0 + τ.0 beside p(x).0 + p(y).0
abbrev table_choice : List ℕ
table_choice =
    1 ∷ 2 ∷ 2 ∷ 2 ∷ 6 ∷ 4 ∷ 0 ∷ 13 ∷ 15 ∷ 23 ∷ 25 ∷ 43 ∷ 59 ∷ 1 ∷ 1 ∷ 0 ∷ 0 ∷ 0 ∷ 0 ∷ 1 ∷ 3 ∷ 0 ∷ 0 ∷ 0 ∷ 1 ∷
    1 ∷ 0 ∷ 2 ∷ 0 ∷ 0 ∷ 0 ∷ 0 ∷ 0 ∷ 0 ∷ 1 ∷ 2 ∷ 2 ∷ 0 ∷ 0 ∷ 0 ∷ 0 ∷ 0 ∷ 0 ∷
    1 ∷ 0 ∷ 0 ∷ 1 ∷ 0 ∷ 0 ∷ 0 ∷ 2 ∷ 2 ∷ 0 ∷ 1 ∷ 4 ∷ 2 ∷ 0 ∷ 2 ∷ 5 ∷ []

-- a table, the steps taken from the start, and then the state's words and the labels of its open steps
pub record Case : Type 0 where
  pub table : List ℕ
  pub way : List Step
  pub words : List ℕ
  pub labels : List ℕ

abbrev case : List ℕ → List Step → List ℕ → List ℕ → Case
case t w s l = record { table = t; way = w; words = s; labels = l }

unfoldable pub after : Scheme → List Step → State → State
after S [] s = s
after S (x ∷ xs) s = after S xs (take S x s)

-- the state's words and labels are as given, and the words are well formed
abbrev right : Case → Bool
right c =
    let S = scheme c.table in
    let s = after S c.way (start S) in
    same_list S (state_words S s) c.words && (same_list S (open_labels S s) c.labels && is_well_formed S c.words)

abbrev cases : List Case
cases =
    -- E's start, after its New, and after the communication, with both threads at Stop
    case table_e [] (0 ∷ 3 ∷ 65535 ∷ 65535 ∷ []) (2 ∷ 0 ∷ 1 ∷ []) ∷
    case table_e (new_step 0 ∷ []) (1 ∷ 3 ∷ 1 ∷ 65535 ∷ []) (4 ∷ 0 ∷ 1 ∷ []) ∷
    case table_e (new_step 0 ∷ communication 0 1 ∷ []) (2 ∷ 4 ∷ 65535 ∷ 65535 ∷ []) [] ∷
    -- a private name goes round
    case table_calls (new_step 0 ∷ []) (1 ∷ 0 ∷ 65535 ∷ 65535 ∷ []) (5 ∷ 1 ∷ 0 ∷ []) ∷
    case table_calls (new_step 0 ∷ step_call 1 ∷ []) (2 ∷ 65535 ∷ 0 ∷ 65535 ∷ []) (5 ∷ 2 ∷ 0 ∷ []) ∷
    case table_calls (new_step 0 ∷ step_call 1 ∷ step_call 2 ∷ []) (3 ∷ 65535 ∷ 65535 ∷ 0 ∷ []) (5 ∷ 3 ∷ 0 ∷ []) ∷
    case table_calls (new_step 0 ∷ step_call 1 ∷ step_call 2 ∷ step_call 3 ∷ []) (2 ∷ 65535 ∷ 0 ∷ 65535 ∷ []) (5 ∷ 2 ∷ 0 ∷ []) ∷
    -- the receiver has the channel itself
    case table_itself [] (0 ∷ 2 ∷ 65535 ∷ []) (4 ∷ 0 ∷ 1 ∷ []) ∷
    case table_itself (communication 0 1 ∷ []) (1 ∷ 3 ∷ 0 ∷ []) (3 ∷ 2 ∷ 0 ∷ []) ∷
    case table_itself (communication 0 1 ∷ silent_step 2 ∷ []) (1 ∷ 4 ∷ 65535 ∷ []) [] ∷
    -- the silent branch first, then the send with each receive; once the sender has gone, nothing
    case table_choice [] (0 ∷ 3 ∷ 65535 ∷ 65535 ∷ []) (3 ∷ 1 ∷ 0 ∷ 4 ∷ 0 ∷ 2 ∷ 4 ∷ 0 ∷ 3 ∷ []) ∷
    case table_choice (silent_step 1 ∷ []) (2 ∷ 3 ∷ 65535 ∷ 65535 ∷ []) [] ∷
    case table_choice (communication 0 3 ∷ []) (1 ∷ 5 ∷ 65535 ∷ 65535 ∷ []) [] ∷ []

pub computed : every right cases ≡ true
unfolding same from every keep flat member first_from formals branches_of arguments_of home owner pick_owner held_names_by definition_by held definition scheme node_at branch_at arguments_from pick_binder binder_of start put take passed is_step_open step_of steps open_step_list open_labels state_words place noted value_words is_well_formed state_of same_list after
computed = refl

-- words that are no state's: numbered otherwise, too short, a name held at Stop
pub malformed : every (λ ws. not (is_well_formed (scheme table_e) ws)) ((1 ∷ 3 ∷ 2 ∷ 65535 ∷ []) ∷ (1 ∷ 3 ∷ 1 ∷ []) ∷ (2 ∷ 4 ∷ 1 ∷ 65535 ∷ []) ∷ (3 ∷ 0 ∷ 65535 ∷ 65535 ∷ []) ∷ []) ≡ true
unfolding same from every keep flat member first_from formals branches_of arguments_of home owner pick_owner held_names_by definition_by held definition scheme node_at branch_at arguments_from pick_binder binder_of start put take passed is_step_open step_of steps open_step_list open_labels state_words place noted value_words is_well_formed state_of same_list after
malformed = refl

-- E's open labels in a longer output, in one that is as long, and in one that is too short
abbrev labelled : List ℕ → Outcome
labelled lent = let S = scheme table_e in answered (length (open_step_list S (start S))) (open_labels S (start S)) lent

pub fitted : (labelled (7 ∷ 7 ∷ 7 ∷ 7 ∷ []) ≡ written 1 (2 ∷ 0 ∷ 1 ∷ []) (7 ∷ 7 ∷ 7 ∷ 7 ∷ []))
    × (labelled (7 ∷ 7 ∷ 7 ∷ []) ≡ record { number = 0; value = some 1; left = 2 ∷ 0 ∷ 1 ∷ [] })
    × (labelled (7 ∷ 7 ∷ []) ≡ refusal 10 (7 ∷ 7 ∷ []))
unfolding same from every keep flat member first_from formals branches_of arguments_of home owner pick_owner held_names_by definition_by held definition scheme node_at branch_at arguments_from pick_binder binder_of start put is_step_open steps open_step_list open_labels answered
fitted = (refl, refl, refl)

-- Labels and what they name. E has two releases, a New and a communication, and none of: a copy at a New, a release at a Choice, a receive before a send,
-- a call at a New, a node outside, a kind above 5.
pub named-of-E :
    (meaning_of (scheme table_e) 1 2 1 ≡ bookkeeping (release 2 1))
    × (meaning_of (scheme table_e) 1 4 2 ≡ bookkeeping (release 4 2))
    × (meaning_of (scheme table_e) 2 0 1 ≡ step (new_step 0))
    × (meaning_of (scheme table_e) 4 0 1 ≡ step (communication 0 1))
    × (meaning_of (scheme table_e) 0 0 1 ≡ missing)
    × (meaning_of (scheme table_e) 1 1 1 ≡ missing)
    × (meaning_of (scheme table_e) 4 1 0 ≡ missing)
    × (meaning_of (scheme table_e) 5 0 0 ≡ missing)
    × (meaning_of (scheme table_e) 1 5 1 ≡ missing)
    × (meaning_of (scheme table_e) 6 0 1 ≡ missing)
unfolding same from member first_from formals branches_of home owner pick_owner held_names_by definition_by held definition scheme node_at branch_at step_of meaning_of
named-of-E = (refl, refl, refl, refl, refl, refl, refl, refl, refl, refl)

-- a Call's copy, release and call; the caller's name is no formal, the formal is not held, and a call's second number is 0
pub named-at-calls :
    (meaning_of (scheme table_calls) 0 1 1 ≡ bookkeeping (copy 1 1))
    × (meaning_of (scheme table_calls) 1 1 0 ≡ bookkeeping (release 1 0))
    × (meaning_of (scheme table_calls) 5 1 0 ≡ step (step_call 1))
    × (meaning_of (scheme table_calls) 0 1 0 ≡ missing)
    × (meaning_of (scheme table_calls) 1 1 1 ≡ missing)
    × (meaning_of (scheme table_calls) 5 1 1 ≡ missing)
    × (meaning_of (scheme table_itself) 3 2 0 ≡ step (silent_step 2))
    × (meaning_of (scheme table_itself) 3 2 1 ≡ missing)
unfolding same from member first_from formals branches_of home owner pick_owner held_names_by definition_by held definition scheme node_at branch_at step_of meaning_of
named-at-calls = (refl, refl, refl, refl, refl, refl, refl, refl)
