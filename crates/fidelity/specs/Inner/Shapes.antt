-- The kinds of descriptions that a net has: what membership in the list of descriptions tells.
use Rattle.std.specs.Prelude.{ℕ, suc, ◌+◌, ◌≤◌, ◌<◌, ◌≡◌, true, List, [], ◌∷◌, ltb, length, get_or}
use Rattle.lists.specs.Lists.{pick, same, member}
use Rattle.scheme.specs.Scheme.{Scheme, stop, new, call, silent, send, receive}
use Rattle.net.specs.Image.{label_of}
use Rattle.places.specs.Values.{Values}
use Rattle.places.specs.Places.{common}
use Rattle.places.specs.Inner.Holding.{count}
use Rattle.places.specs.Transitions.{Move, move, test, skip, take, release, Description, making, going, communicating}
use Rattle.readback.specs.Configurations.{Spot, spot, Configuration}
use Rattle.fidelity.specs.Inner.Marks.{given, Motion, stay, pass, allows, Takes, WellFormed}

-- one thread passes from a to b
abbrev pub single : ℕ → Spot → Spot → ℕ → Motion
single θ a b ϑ = pick (same ϑ θ) (pass a b) stay

-- two threads pass
abbrev pub pair : ℕ → Spot → Spot → ℕ → Spot → Spot → ℕ → Motion
pair θ a b η c d ϑ = pick (same ϑ θ) (pass a b) (pick (same ϑ η) (pass c d) stay)

-- the move from place k of node n to a spot
abbrev pub onto : ℕ → ℕ → Spot → List Move
onto n k b = move n k b.node b.index ∷ []

module _ (S : Scheme) where
  -- the copies and releases of a call
  abbrev pub chain : ℕ → ℕ → ℕ
  chain d n = length (S.formals d) + length (S.held n)

  -- on from place k of a call's node
  abbrev pub onward : ℕ → ℕ → ℕ → Spot
  onward d n k = pick (ltb k (chain d n)) (spot n (suc k)) (spot (S.root d) 0)

module _ (S : Scheme) (U : Values) where
  -- a call, the copy of formal j, the release of held name j in a call's chain, and in a Stop's
  abbrev pub entering : ℕ → ℕ → Description
  entering d n = record { label = label_of 5 n 0; moves = onto n 0 (onward S d n 0); tests = []; command = skip }

  abbrev pub copying_at : ℕ → ℕ → ℕ → ℕ → Description
  copying_at d n j v = record {
    label = label_of 0 n (get_or (S.formals d) j 0);
    moves = onto n (suc j) (onward S d n (suc j));
    tests = test (get_or (S.arguments n) j 0) v ∷ [];
    command = take (get_or (S.formals d) j 0) v;
  }

  abbrev pub releasing_at : ℕ → ℕ → ℕ → ℕ → Description
  releasing_at d n j v = record {
    label = label_of 1 n (get_or (S.held n) j 0);
    moves = onto n (suc (length (S.formals d) + j)) (onward S d n (suc (length (S.formals d) + j)));
    tests = [];
    command = release (get_or (S.held n) j 0) v;
  }

  abbrev pub ending : ℕ → ℕ → ℕ → Description
  ending n j v = record {
    label = label_of 1 n (get_or (S.held n) j 0);
    moves = onto n j (spot n (suc j));
    tests = [];
    command = release (get_or (S.held n) j 0) v;
  }

  abbrev pub going_by : ℕ → ℕ → Description
  going_by b l = going S U (S.home b) b l

  pub data Described : Description → Type 0 where
    is-new : (n r l v : ℕ) → S.node n ≡ new r l → (S.publics ≤ v) × (v < S.publics + U.privates) → allows S U r v ≡ true → Described (making S U n r l v)
    is-call : (n d : ℕ) → S.node n ≡ call d → Described (entering d n)
    is-copy : (n d j v : ℕ) → S.node n ≡ call d → j < length (S.formals d) → Takes S U (get_or (S.arguments n) j 0) v
        → allows S U (get_or (S.formals d) j 0) v ≡ true → Described (copying_at d n j v)
    is-release : (n d j v : ℕ) → S.node n ≡ call d → j < length (S.held n) → allows S U (get_or (S.held n) j 0) v ≡ true
        → (S.restricted (get_or (S.held n) j 0) ≡ true → S.publics ≤ v) → Described (releasing_at d n j v)
    is-ending : (n j v : ℕ) → n < S.nodes → S.node n ≡ stop → j < length (S.held n) → allows S U (get_or (S.held n) j 0) v ≡ true
        → (S.restricted (get_or (S.held n) j 0) ≡ true → S.publics ≤ v) → Described (ending n j v)
    is-silent : (b l : ℕ) → S.branch b ≡ silent l → Described (going_by b l)
    is-communication : (s a z l r e y m i j : ℕ) → S.branch s ≡ send a z l → S.branch r ≡ receive e y m
        → (S.thread (S.home s) ≡ S.thread (S.home r) → ⊥) → member i (common S U a e) ≡ true → Takes S U z j → allows S U y j ≡ true
        → (z ≡ a → j ≡ i) → Described (communicating S U s a z l r e y m i j)

  -- the values suffice: what a name is given it may hold, what comes to a name comes into its reach, and at every New some private value is in no name
  pub record EnoughValues : Type 0 where
    pub copies : (n d j v : ℕ) → S.node n ≡ call d → j < length (S.formals d) → Takes S U (get_or (S.arguments n) j 0) v
        → allows S U (get_or (S.formals d) j 0) v ≡ true
    pub copied : (n d j o : ℕ) → S.node n ≡ call d → j < length (S.formals d) → U.origins (get_or (S.arguments n) j 0) o ≡ true
        → U.origins (get_or (S.formals d) j 0) o ≡ true
    pub meets : (s a z l r e y m i j : ℕ) → S.branch s ≡ send a z l → S.branch r ≡ receive e y m → (S.thread (S.home s) ≡ S.thread (S.home r) → ⊥)
        → member i (common S U a e) ≡ true → Takes S U z j → allows S U y j ≡ true
    pub met : (s a z l r e y m i o : ℕ) → S.branch s ≡ send a z l → S.branch r ≡ receive e y m → (S.thread (S.home s) ≡ S.thread (S.home r) → ⊥)
        → member i (common S U a e) ≡ true → U.origins z o ≡ true → U.origins y o ≡ true
    pub own : (r : ℕ) → S.restricted r ≡ true → U.origins r r ≡ true
    pub makes : (r v : ℕ) → S.restricted r ≡ true → S.publics ≤ v → v < S.publics + U.privates → allows S U r v ≡ true
    pub private : (x v : ℕ) → S.restricted x ≡ true → allows S U x v ≡ true → S.publics ≤ v
    pub room : (c : Configuration) → WellFormed S U c → (n r l : ℕ) → S.node n ≡ new r l → c.at (S.thread n) ≡ spot n 0
        → count (λ x. given (c.value x)) S.publics S.bounds < U.privates
