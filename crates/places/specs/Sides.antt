-- What a plan tells of a branch, and the list of a table's pairs: the receives in eight words each, with the reach of the receive's channel, and for each
-- branch the set of the receives that it can meet.
use Rattle.std.specs.Prelude.{ℕ, ◌+◌, ◌*◌, Bool, false, not, List, [], ◌∷◌, map, length}
use Rattle.std.proofs.lemmas.List.Edits.{sets}
use Rattle.lists.specs.Lists.{pick, same, word, range, keep, flat}
use Rattle.scheme.specs.Words.{branches, channel, branch_name, next, is_send, is_receive}
use Rattle.scheme.specs.Index.{homes_in, branch_thread_at}
use Rattle.places.specs.Plan.{nodes_in, reach_in}
use Rattle.places.specs.Reaches.{reach, common_reach, is_empty}
use Rattle.places.specs.Sets.{set_from}
use Rattle.places.specs.declared.reach.Reach.{Reach}
use Rattle.places.specs.declared.count.Side.{Side}

abbrev pub side : ℕ → ℕ → ℕ → ℕ → ℕ → ℕ → Side
side branch thread channel name place on =
    record { branch = branch; thread = thread; channel = channel; name = name; place = place; on = on }

-- a branch with its thread, its channel, its name, the place of its node and that of the next one
abbrev pub side_in : List ℕ → List ℕ → ℕ → Side
side_in w x b =
    side b (branch_thread_at w x b) (channel w b) (branch_name w b) (word (nodes_in x) (word (homes_in x) b)) (word (nodes_in x) (next w b))

-- the receives, in order
abbrev pub receives_of : List ℕ → List ℕ
receives_of w = keep (is_receive w) (range (branches w))

-- the words of one, and what they tell where they stand as those of receive k
abbrev pub receive_words : List ℕ → List ℕ → ℕ → List ℕ
receive_words w x b =
    let r = reach_in x (channel w b) in
    b ∷ branch_thread_at w x b ∷ r.publics ∷ r.restricted ∷ channel w b ∷ branch_name w b
    ∷ word (nodes_in x) (word (homes_in x) b) ∷ word (nodes_in x) (next w b) ∷ []

abbrev pub side_at : List ℕ → ℕ → Side
side_at list k =
    side (word list (8 * k)) (word list (8 * k + 1)) (word list (8 * k + 4)) (word list (8 * k + 5)) (word list (8 * k + 6)) (word list (8 * k + 7))

abbrev pub heard_at : List ℕ → ℕ → Reach
heard_at list k = reach (word list (8 * k + 2)) (word list (8 * k + 3))

-- whether a receive can meet a send: "receive branch of another thread", and a channel value in common
abbrev pub meets : List ℕ → List ℕ → ℕ → ℕ → Bool
meets w x s r =
    pick (is_empty (common_reach (reach_in x (channel w s)) (reach_in x (channel w r)))) false (not (same (branch_thread_at w x r) (branch_thread_at w x s)))

-- the receives that a branch can meet, as the set of their numbers in the list; none for a branch that does not send
unfoldable pub partner_set : List ℕ → List ℕ → ℕ → ℕ
partner_set w x s = pick (is_send w s) (set_from (λ k. meets w x s (word (receives_of w) k)) (length (receives_of w))) 0

-- where the sets of branches begin in the list of pairs, and where it ends; the receives stand at 0
abbrev pub sets_at : ℕ
sets_at = 256

abbrev pub pairs_end : ℕ
pairs_end = 512

-- lent words with the receives and the sets
unfoldable pub pair_words : List ℕ → List ℕ → List ℕ → List ℕ
pair_words w x lent = sets (sets lent 0 (flat (receive_words w x) (receives_of w))) sets_at (map (partner_set w x) (range (branches w)))
