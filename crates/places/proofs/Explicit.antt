-- The arcs of each kind of transition, written out, for any values. What the net has not is left out by `numbers_for`.
use Rattle.std.proofs.Common.{◌≡◌, ℕ, ◌+◌, ◌-◌, ◌<◌, Bool, true, false, List, [], ◌∷◌, ◌++◌, ◌∙◌}
use Rattle.lists.specs.Lists.{pick, positions}
use Rattle.scheme.specs.Scheme.{Scheme}
use Rattle.places.specs.Values.{Values}
use Rattle.places.specs.Places.{Place, equals, differs, free, control, places}
use Rattle.places.specs.Rows.{number_of, IsBound, IsPrivate, Exists}
use Rattle.places.specs.Transitions.{Description, is_input, is_output, on, releasing, copying, making, going, calling, communicating}
use Rattle.places.specs.Inner.Arcs.{reached_places, numbers_for}
use Rattle.places.proofs.Split.{numbers-none, numbers-one, numbers-no, inputs-split, outputs-split}
use Rattle.places.proofs.ByKind.{differs-public, free-public, on-left, differ_numbers, new-takes, new-gives}

module _ (S : Scheme) (U : Values) where
  abbrev inputs : Description → List ℕ
  inputs d = positions (is_input S d) (places S U)

  abbrev outputs : Description → List ℕ
  outputs d = positions (is_output S d) (places S U)

  abbrev number : Place → ℕ
  number = number_of S U

  one : (p : Place) → Exists S U p → numbers_for S U (p ∷ []) ≡ number p ∷ []
  one = numbers-one S U

  -- ---- silent branches and calls: "one transition on"

  pub going-inputs : (n b l : ℕ) → Exists S U (control n 0) → inputs (going S U n b l) ≡ number (control n 0) ∷ []
  going-inputs n b l e = inputs-split S U (going S U n b l) ∙ rw (numbers-none S U, one (control n 0) e)

  pub going-outputs : (n b l : ℕ) → Exists S U (control l 0) → outputs (going S U n b l) ≡ number (control l 0) ∷ []
  going-outputs n b l e = outputs-split S U (going S U n b l) ∙ rw (numbers-none S U, one (control l 0) e)

  pub calling-inputs : (n m : ℕ) → Exists S U (control n 0) → inputs (calling S U n m) ≡ number (control n 0) ∷ []
  calling-inputs n m e = inputs-split S U (calling S U n m) ∙ rw (numbers-none S U, on-left S U n 0 m, one (control n 0) e)

  -- the chain goes on to place p
  module _ (n k m : ℕ) (p : Place) (goes : reached_places S (on S n k m ∷ []) ≡ p ∷ []) (next : Exists S U p) where
    to-next : numbers_for S U (reached_places S (on S n k m ∷ [])) ≡ number p ∷ []
    to-next = rw goes (one p next)

    -- ---- "release z=v: take [z=v]; give [z≠v] (v private), or [*≠v] if z is restricted; on."

    pub releasing-gives : (z v : ℕ) → Exists S U (pick (S.restricted z) (free v) (differs z v))
        → outputs (releasing S U n m k z v) ≡ number (pick (S.restricted z) (free v) (differs z v)) ∷ number p ∷ []
    releasing-gives z v there = outputs-split S U (releasing S U n m k z v) ∙ rw to-next (go (S.restricted z) there)
      where
        go : (b : Bool) → Exists S U (pick b (free v) (differs z v))
            → numbers_for S U (pick b (free v ∷ []) (differs z v ∷ [])) ++ (number p ∷ []) ≡ number (pick b (free v) (differs z v)) ∷ number p ∷ []
        go true e = rw (one (free v) e)
        go false e = rw (one (differs z v) e)

    pub releasing-public : (z v : ℕ) → v < S.publics → outputs (releasing S U n m k z v) ≡ number p ∷ []
    releasing-public z v h = outputs-split S U (releasing S U n m k z v) ∙ rw to-next (go (S.restricted z))
      where
        go : (b : Bool) → numbers_for S U (pick b (free v ∷ []) (differs z v ∷ [])) ++ (number p ∷ []) ≡ number p ∷ []
        go true = rw (numbers-no S U (free v) [] (free-public S U v h), numbers-none S U)
        go false = rw (numbers-no S U (differs z v) [] (differs-public S U z v h), numbers-none S U)

    -- "copy f from a, by value v of a: read [a=v] if a is bound, …, give [f=v]; on."
    pub copying-outputs : (f a v : ℕ) → S.restricted f ≡ false
        → outputs (copying S U n m k f a v) ≡ numbers_for S U (equals a v ∷ equals f v ∷ []) ++ (number p ∷ [])
    copying-outputs f a v r = outputs-split S U (copying S U n m k f a v) ∙ rw (to-next, r)

  pub calling-outputs : (n m : ℕ) (p : Place) → reached_places S (on S n 0 m ∷ []) ≡ p ∷ [] → Exists S U p → outputs (calling S U n m) ≡ number p ∷ []
  calling-outputs n m p goes e = outputs-split S U (calling S U n m) ∙ rw (numbers-none S U, to-next n 0 m p goes e)

  pub releasing-inputs : (n m k z v : ℕ) → Exists S U (equals z v) → Exists S U (control n k)
      → inputs (releasing S U n m k z v) ≡ number (equals z v) ∷ number (control n k) ∷ []
  releasing-inputs n m k z v e c = inputs-split S U (releasing S U n m k z v) ∙ rw (on-left S U n k m, one (equals z v) e, one (control n k) c)

  -- "take [f≠v] if private"
  pub copying-inputs : (n m k f a v : ℕ) → S.restricted f ≡ false → Exists S U (control n k)
      → inputs (copying S U n m k f a v) ≡ numbers_for S U (equals a v ∷ differs f v ∷ []) ++ (number (control n k) ∷ [])
  copying-inputs n m k f a v r c = inputs-split S U (copying S U n m k f a v) ∙ rw (on-left S U n k m, r, one (control n k) c)

  -- ---- "New r=n: take [*≠n], read [x≠n] for every input and formal; give [r=n]; on."

  module _ (n r l v : ℕ) (h : S.restricted r ≡ true) where
    pub making-inputs : IsPrivate S U v → Exists S U (control n 0)
        → inputs (making S U n r l v) ≡ (differ_numbers S U v S.publics S.bounds ++ (number (free v) ∷ [])) ++ (number (control n 0) ∷ [])
    making-inputs i c = inputs-split S U (making S U n r l v) ∙ rw (h, new-takes S U v i, one (control n 0) c)

    pub making-outputs : IsBound S U r → Exists S U (equals r v) → Exists S U (control l 0)
        → outputs (making S U n r l v)
        ≡ (differ_numbers S U v S.publics (r - S.publics) ++ (number (equals r v) ∷ differ_numbers S U v (r + 1) (S.publics + S.bounds - (r + 1)))) ++
        (number (control l 0) ∷ [])
    making-outputs b e c = outputs-split S U (making S U n r l v) ∙ rw (h, new-gives S U r v b h e, one (control l 0) c)

  -- ---- "Bound channels are read at i, a bound sent name at j, [y≠j] is taken for private j, [y=j] given."

  module _ (s a z l r e y m i j : ℕ) (h : S.restricted y ≡ false) where
    pub communicating-inputs : inputs (communicating S U s a z l r e y m i j)
        ≡ numbers_for S U (equals a i ∷ equals e i ∷ equals z j ∷ differs y j ∷ []) ++ numbers_for S U (control (S.home s) 0 ∷ control (S.home r) 0 ∷ [])
    communicating-inputs = inputs-split S U (communicating S U s a z l r e y m i j) ∙ rw h

    pub communicating-outputs : outputs (communicating S U s a z l r e y m i j)
        ≡ numbers_for S U (equals a i ∷ equals e i ∷ equals z j ∷ equals y j ∷ []) ++ numbers_for S U (control l 0 ∷ control m 0 ∷ [])
    communicating-outputs = outputs-split S U (communicating S U s a z l r e y m i j) ∙ rw h
