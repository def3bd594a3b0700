-- Table E's net and its image of 115 words (document 01, Table E and its listing), computed: one table of firings and looks, looks, runs, replays.
use mathlib.Core.Bool.{true}
use mathlib.Core.Path.{◌≡◌, refl}
use mathlib.Core.List.{List, [], ◌∷◌, ◌++◌}
use Prim.Native.Nat.{ℕ}
use lib.ListN.{length, replicate}
use Rattle.lists.specs.Lists.{same, every, some, flat, member, ascends, total}
use Rattle.net.specs.Image.{label_of, is_header_right, record_right}
use Rattle.net.specs.Firing.{is_marking, is_enabled, has_contact, put, initial_marking, step_of, step, outcome, in_turn, fire}
use Rattle.net.specs.Firing.{replay, search_from, lowest_enabled, quiet_from, settle_first, limit_reached, history_full, nothing_enabled}
use Rattle.net.specs.Firing.{run_by, run_of, run, run_of_lowest}
use Rattle.net.specs.Looking.{looked, shown, look}
use Rattle.net.specs.Net.{Transition, Net, records_from, encode, is_ascending}

transition : ℕ → ℕ → ℕ → List ℕ → List ℕ → Transition
transition kind a b inputs outputs = record { label = label_of kind a b; inputs = inputs; outputs = outputs }

net_e : Net
unfolding transition
net_e =
    record {
      places = 16;
      initial = 5 ∷ 6 ∷ 7 ∷ 8 ∷ 9 ∷ 13 ∷ [];
      transitions =
          transition 2 0 1 (5 ∷ 7 ∷ 9 ∷ []) (0 ∷ 5 ∷ 10 ∷ [])
          ∷ transition 2 0 1 (6 ∷ 8 ∷ 9 ∷ []) (1 ∷ 6 ∷ 10 ∷ [])
          ∷ transition 1 2 1 (0 ∷ 11 ∷ []) (7 ∷ 12 ∷ [])
          ∷ transition 1 2 1 (1 ∷ 11 ∷ []) (8 ∷ 12 ∷ [])
          ∷ transition 1 4 2 (2 ∷ 14 ∷ []) (15 ∷ [])
          ∷ transition 1 4 2 (3 ∷ 14 ∷ []) (5 ∷ 15 ∷ [])
          ∷ transition 1 4 2 (4 ∷ 14 ∷ []) (6 ∷ 15 ∷ [])
          ∷ transition 4 0 1 (0 ∷ 5 ∷ 10 ∷ 13 ∷ []) (0 ∷ 3 ∷ 11 ∷ 14 ∷ [])
          ∷ transition 4 0 1 (1 ∷ 6 ∷ 10 ∷ 13 ∷ []) (1 ∷ 4 ∷ 11 ∷ 14 ∷ [])
          ∷ [];
    }

image_e : List ℕ
image_e =
    16 ∷ 9 ∷ 24 ∷ 23 ∷ 6 ∷ 8 ∷ 14 ∷ 68
    ∷ 5 ∷ 6 ∷ 7 ∷ 8 ∷ 9 ∷ 13
    ∷ 2 ∷ 0 ∷ 1 ∷ 68 ∷ 3 ∷ 3
    ∷ 2 ∷ 0 ∷ 1 ∷ 74 ∷ 3 ∷ 3
    ∷ 1 ∷ 2 ∷ 1 ∷ 80 ∷ 2 ∷ 2
    ∷ 1 ∷ 2 ∷ 1 ∷ 84 ∷ 2 ∷ 2
    ∷ 1 ∷ 4 ∷ 2 ∷ 88 ∷ 2 ∷ 1
    ∷ 1 ∷ 4 ∷ 2 ∷ 91 ∷ 2 ∷ 2
    ∷ 1 ∷ 4 ∷ 2 ∷ 95 ∷ 2 ∷ 2
    ∷ 4 ∷ 0 ∷ 1 ∷ 99 ∷ 4 ∷ 4
    ∷ 4 ∷ 0 ∷ 1 ∷ 107 ∷ 4 ∷ 4
    ∷ 5 ∷ 7 ∷ 9 ∷ 0 ∷ 5 ∷ 10
    ∷ 6 ∷ 8 ∷ 9 ∷ 1 ∷ 6 ∷ 10
    ∷ 0 ∷ 11 ∷ 7 ∷ 12
    ∷ 1 ∷ 11 ∷ 8 ∷ 12
    ∷ 2 ∷ 14 ∷ 15
    ∷ 3 ∷ 14 ∷ 5 ∷ 15
    ∷ 4 ∷ 14 ∷ 6 ∷ 15
    ∷ 0 ∷ 5 ∷ 10 ∷ 13 ∷ 0 ∷ 3 ∷ 11 ∷ 14
    ∷ 1 ∷ 6 ∷ 10 ∷ 13 ∷ 1 ∷ 4 ∷ 11 ∷ 14
    ∷ []

encoded : encode net_e ≡ image_e
unfolding net_e transition image_e flat total records_from encode
encoded = refl

ascending-net : is_ascending net_e ≡ true
unfolding net_e transition every ascends is_ascending
ascending-net = refl

words : length image_e ≡ 115
unfolding image_e
words = refl

marking_e : List ℕ
marking_e = 0 ∷ 0 ∷ 0 ∷ 0 ∷ 0 ∷ 1 ∷ 1 ∷ 1 ∷ 1 ∷ 1 ∷ 0 ∷ 0 ∷ 0 ∷ 1 ∷ 0 ∷ 0 ∷ []

-- after 0, 7, 2 and 5
last_e : List ℕ
last_e = 0 ∷ 0 ∷ 0 ∷ 0 ∷ 0 ∷ 1 ∷ 1 ∷ 1 ∷ 1 ∷ 0 ∷ 0 ∷ 0 ∷ 1 ∷ 0 ∷ 0 ∷ 1 ∷ []

first-marking : initial_marking image_e ≡ marking_e
unfolding image_e marking_e put initial_marking
first-marking = refl

-- a transition number, and the cause that its firing has at first
table : List (ℕ × ℕ)
table = (0, 0) ∷ (1, 0) ∷ (2, 15) ∷ (3, 15) ∷ (4, 15) ∷ (5, 15) ∷ (6, 15) ∷ (7, 15) ∷ (8, 15) ∷ (9, 14) ∷ []

all_right : every (λ line. same (fire image_e marking_e line.0).cause line.1) table ≡ true
unfolding table image_e marking_e same every some member ascends is_header_right record_right is_marking is_enabled has_contact put step_of step in_turn fire
all_right = refl

-- what the firing of 0 leaves at first
next_e : List ℕ
next_e = 1 ∷ 0 ∷ 0 ∷ 0 ∷ 0 ∷ 1 ∷ 1 ∷ 0 ∷ 1 ∷ 0 ∷ 1 ∷ 0 ∷ 0 ∷ 1 ∷ 0 ∷ 0 ∷ []

-- the same causes of looks into a buffer of the place count's length
all_shown : every (λ line. same (look image_e marking_e line.0 (replicate 16 170)).cause line.1) table ≡ true
unfolding table image_e marking_e same every some member ascends is_header_right record_right is_marking is_enabled has_contact put step_of step in_turn fire shown look
all_shown = refl

-- looks into a longer buffer, into one that is a byte short, and into none: a firing's cause comes before 10
looks :
    (look image_e marking_e 0 (replicate 18 170) ≡ looked 0 16 (next_e ++ (170 ∷ 170 ∷ [])))
    × (look image_e marking_e 0 (replicate 15 170) ≡ looked 10 0 (replicate 15 170))
    × (look image_e marking_e 7 [] ≡ looked 15 0 [])
    × (look image_e marking_e 9 [] ≡ looked 14 0 [])
    × (look image_e (replicate 15 0) 0 [] ≡ looked 13 0 [])
    × (look [] marking_e 0 [] ≡ looked 11 0 [])
unfolding image_e marking_e next_e same every some member ascends is_header_right record_right is_marking is_enabled has_contact put step_of step in_turn fire shown look
looks = (refl, refl, refl, refl, refl, refl)

-- runs from the initial marking, by limit and history words: nothing enabled after 0 7 2 5, by both rules; the limit is looked at before the history
runs :
    (run image_e marking_e 5 5 ≡ record { reason = nothing_enabled; firings = 4; marking = last_e; history = 0 ∷ 7 ∷ 2 ∷ 5 ∷ [] })
    × (run_of_lowest image_e marking_e 5 5 ≡ run image_e marking_e 5 5)
    × ((run image_e marking_e 4 5).reason ≡ limit_reached)
    × ((run image_e marking_e 4 5).firings ≡ 4)
    × ((run image_e marking_e 3 3).reason ≡ limit_reached)
    × ((run image_e marking_e 5 3).reason ≡ history_full)
    × ((run image_e marking_e 5 3).history ≡ 0 ∷ 7 ∷ 2 ∷ [])
unfolding image_e marking_e last_e same every some member ascends is_header_right record_right is_marking is_enabled has_contact put step_of step search_from lowest_enabled
    quiet_from settle_first run_by run_of
runs = (refl, refl, refl, refl, refl, refl, refl)

-- what the run wrote is lent to a replay as its numbers; a replay that is stopped leaves the firings made, at its first number the initial marking; "of the lent
-- marking only the length is checked": bytes above 1 are no cause
replays :
    (replay image_e marking_e (0 ∷ 7 ∷ 2 ∷ 5 ∷ []) ≡ outcome 0 4 last_e)
    × (replay image_e marking_e (0 ∷ 9 ∷ 7 ∷ []) ≡ outcome 14 1 (1 ∷ 0 ∷ 0 ∷ 0 ∷ 0 ∷ 1 ∷ 1 ∷ 0 ∷ 1 ∷ 0 ∷ 1 ∷ 0 ∷ 0 ∷ 1 ∷ 0 ∷ 0 ∷ []))
    × (replay image_e last_e (7 ∷ []) ≡ outcome 15 0 marking_e)
    × (replay image_e (9 ∷ 9 ∷ 9 ∷ 9 ∷ 9 ∷ 9 ∷ 9 ∷ 9 ∷ 9 ∷ 9 ∷ 9 ∷ 9 ∷ 9 ∷ 9 ∷ 9 ∷ 9 ∷ []) [] ≡ outcome 0 0 marking_e)
unfolding image_e marking_e last_e same every some member ascends is_header_right record_right is_marking is_enabled has_contact put initial_marking step_of step in_turn replay
replays = (refl, refl, refl, refl)
