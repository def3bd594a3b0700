-- Lists whose elements stand at numbers of their own, put together by ++ and flat: from these laws comes which place stands at which number.
use mathlib.Core.Path.{◌≡◌, refl, sym, ◌∙◌}
use mathlib.Core.Bool.{Bool, true, false}
use mathlib.Core.List.{List, [], ◌∷◌, ◌++◌, map}
use mathlib.Core.Logic.{◌⊎◌, inl, inr}
use Prim.Native.Nat.{ℕ, zero, suc, ◌+◌, ◌-◌, ◌≤◌, ◌<◌}
use native.Mathlib.Decide.{ℕ_discrete, dec_lt}
use native.Mathlib.Omega.{arith}
use lib.ListN.{length, get_or, length-append, get_or-append}
use lib.Seq.{get_or-append-add}
use Rattle.lists.specs.Lists.{pick, from, keep, flat}
use Rattle.lists.proofs.Tests.{false-true, pick_true, pick-false}
use Rattle.lists.proofs.Ranges.{from-snoc}
use Rattle.lists.proofs.Members.{keep_append}

-- ---- maps as lists put one after the other

pub map-flat : {A : Type 0} (g : ℕ → A) (xs : List ℕ) → map g xs ≡ flat (λ v. g v ∷ []) xs
unfolding flat
map-flat g [] = refl
map-flat g (x ∷ xs) = rw (map-flat g xs)

pub map-keep-flat : {A : Type 0} (g : ℕ → A) (q : ℕ → Bool) (xs : List ℕ) → map g (keep q xs) ≡ flat (λ v. pick (q v) (g v ∷ []) []) xs
unfolding flat keep
map-keep-flat g q [] = refl
map-keep-flat g q (x ∷ xs) = go (q x) refl (map-keep-flat g q xs)
  where
    go : (b : Bool) → q x ≡ b → map g (keep q xs) ≡ flat (λ v. pick (q v) (g v ∷ []) []) xs
        → map g (pick (q x) (x ∷ keep q xs) (keep q xs)) ≡ pick (q x) (g x ∷ []) [] ++ flat (λ v. pick (q v) (g v ∷ []) []) xs
    go true h ih = rw (h, ih)
    go false h ih = rw (h, ih)

-- one more number at the end of a range
pub keep-next : {A : Type 0} (g : ℕ → A) (q : ℕ → Bool) (a v : ℕ) → a ≤ v
    → length (keep q (from a (v + 1 - a))) ≡ length (keep q (from a (v - a))) + length (pick (q v) (g v ∷ []) [])
unfolding keep
keep-next g q a v h =
    let e : v + 1 - a ≡ suc (v - a) = omega arith in
    let f : a + (v - a) ≡ v = omega arith in
    rw (e, from-snoc a (v - a), f, keep_append q (from a (v - a)) (v ∷ []), length-append (keep q (from a (v - a))) (keep q (v ∷ []))) (go (q v) refl)
  where
    go : (b : Bool) → q v ≡ b
        → length (keep q (from a (v - a))) + length (pick (q v) (v ∷ []) []) ≡ length (keep q (from a (v - a))) + length (pick (q v) (g v ∷ []) [])
    go true h = rw h
    go false h = rw h

-- p comes from one of the n numbers from a on
pub record Among {A : Type 0} (E : ℕ → A → Type 0) (a n : ℕ) (p : A) : Type 0 where
  pub source : ℕ
  pub low : a ≤ source
  pub high : source < a + n
  pub gives : E source p

-- ---- elements with numbers; d stands past the end of a list

module _ {A : Type 0} (d : A) (number : A → ℕ) where
  -- p stands at its own number in a list whose first element has number s
  pub record Stands (s : ℕ) (xs : List A) (p : A) : Type 0 where
    pub index : ℕ
    pub inside : index < length xs
    pub numbered : number p ≡ s + index
    pub is : get_or xs index d ≡ p

  -- element k is an element with a number of its own
  pub record Element (E : A → Type 0) (s k : ℕ) : Type 0 where
    pub element : A
    pub has : E element
    pub number_is : number element ≡ s + k

  -- the elements of the list are just those of E, each at its number
  pub record Numbered (E : A → Type 0) (s : ℕ) (xs : List A) : Type 0 where
    pub at : (p : A) → E p → Stands s xs p
    pub onto : (k : ℕ) → k < length xs → Element E s k

  pub numbered-like : {E F : A → Type 0} {s : ℕ} {xs : List A} → ((p : A) → E p → F p) → ((p : A) → F p → E p) → Numbered E s xs → Numbered F s xs
  numbered-like {E} {F} {s} {xs} f g n = record { at = λ p h. n.at p (g p h); onto = λ k l. go k (n.onto k l) }
    where
      go : (k : ℕ) → Element E s k → Element F s k
      go k e = record { element = e.element; has = f e.element e.has; number_is = e.number_is }

  pub numbered-none : (E : A → Type 0) (s : ℕ) → ((p : A) → E p → ⊥) → Numbered E s []
  numbered-none E s f = record { at = λ p h. absurd (f p h); onto = λ k l. absurd (omega arith) }

  pub numbered-one : (q : A) (s : ℕ) → number q ≡ s → Numbered (λ p. p ≡ q) s (q ∷ [])
  numbered-one q s e = record { at = here; onto = λ k l. record { element = q; has = refl; number_is = omega arith } }
    where
      here : (p : A) → p ≡ q → Stands s (q ∷ []) p
      here p h = record { index = 0; inside = omega arith; numbered = rw h (omega arith); is = sym h }

  module _ (E F : A → Type 0) (s : ℕ) (xs ys : List A) where
    pub numbered-append : Numbered E s xs → Numbered F (s + length xs) ys → Numbered (λ p. E p ⊎ F p) s (xs ++ ys)
    numbered-append n m = record { at = at'; onto = λ k l. onto' k (dec_lt k (length xs)) (omega (arith, length-append xs ys)) }
      where
        at' : (p : A) → E p ⊎ F p → Stands s (xs ++ ys) p
        at' p (inl h) =
            let r = n.at p h in
            record {
              index = r.index;
              inside = omega (arith, length-append xs ys);
              numbered = r.numbered;
              is = get_or-append xs ys d r.index r.inside ∙ r.is;
            }
        at' p (inr h) =
            let r = m.at p h in
            record {
              index = length xs + r.index;
              inside = omega (arith, length-append xs ys);
              numbered = omega arith;
              is = get_or-append-add xs ys r.index d ∙ r.is;
            }

        onto' : (k : ℕ) → Dec (k < length xs) → k < length xs + length ys → Element (λ p. E p ⊎ F p) s k
        onto' k (yes l) u = let r = n.onto k l in record { element = r.element; has = inl r.has; number_is = r.number_is }
        onto' k (no l) u =
            let r = m.onto (k - length xs) (omega arith) in
            record { element = r.element; has = inr r.has; number_is = omega arith }

  -- the lists of a range of numbers, each starting where the one before it ends
  module _ (f : ℕ → List A) (E : ℕ → A → Type 0) (start : ℕ → ℕ) (lo : ℕ) (each : (x : ℕ) → lo ≤ x → Numbered (E x) (start x) (f x))
      (next : (x : ℕ) → lo ≤ x → start (x + 1) ≡ start x + length (f x)) where
    pub numbered-flat : (a n : ℕ) → lo ≤ a → Numbered (Among E a n) (start a) (flat f (from a n))
    unfolding flat from
    numbered-flat a zero h = numbered-none (Among E a 0) (start a) (λ p e. omega arith)
    numbered-flat a (suc n) h =
        numbered-like to of
        (numbered-append (E a) (Among E (a + 1) n) (start a) (f a) (flat f (from (a + 1) n)) (each a h)
        (rw (next a h) at (numbered-flat (a + 1) n (omega arith))))
      where
        to : (p : A) → E a p ⊎ Among E (a + 1) n p → Among E a (suc n) p
        to p (inl e) = record { source = a; low = omega arith; high = omega arith; gives = e }
        to p (inr e) = record { source = e.source; low = omega arith; high = omega arith; gives = e.gives }

        of : (p : A) → Among E a (suc n) p → E a p ⊎ Among E (a + 1) n p
        of p e = go (ℕ_discrete e.source a)
          where
            go : Dec (e.source ≡ a) → E a p ⊎ Among E (a + 1) n p
            go (yes q) = inl (rw q at e.gives)
            go (no q) = inr (record { source = e.source; low = omega arith; high = omega arith; gives = e.gives })

  -- one element for each number of a range, or for each that passes
  module _ (g : ℕ → A) (a n s : ℕ) where
    pub numbered-map : ((v : ℕ) → a ≤ v → number (g v) ≡ s + (v - a)) → Numbered (Among (λ v p. p ≡ g v) a n) s (map g (from a n))
    numbered-map h =
        let e : s + (a - a) ≡ s = omega arith in
        rw (map-flat g (from a n)) (rw e at (numbered-flat (λ v. g v ∷ []) (λ v p. p ≡ g v) (λ v. s + (v - a)) a
        (λ v l. numbered-one (g v) (s + (v - a)) (h v l)) (λ v l. omega arith) a n (omega arith)))

    module _ (q : ℕ → Bool) (h : (v : ℕ) → a ≤ v → number (g v) ≡ s + length (keep q (from a (v - a)))) where
      kept-one : (v : ℕ) → a ≤ v → Numbered (λ p. (q v ≡ true) × (p ≡ g v)) (s + length (keep q (from a (v - a)))) (pick (q v) (g v ∷ []) [])
      kept-one v l = go (q v) refl
        where
          go : (b : Bool) → q v ≡ b → Numbered (λ p. (q v ≡ true) × (p ≡ g v)) (s + length (keep q (from a (v - a)))) (pick (q v) (g v ∷ []) [])
          go true e = rw (pick_true (g v ∷ []) [] e) (numbered-like (λ p i. (e, i)) (λ p i. i.1) (numbered-one (g v) (s + length (keep q (from a (v - a)))) (h v l)))
          go false e = rw (pick-false (g v ∷ []) [] e)
              (numbered-none (λ p. (q v ≡ true) × (p ≡ g v)) (s + length (keep q (from a (v - a)))) (λ p i. false-true e i.0))

      pub numbered-keep : Numbered (Among (λ v p. (q v ≡ true) × (p ≡ g v)) a n) s (map g (keep q (from a n)))
      unfolding keep from
      numbered-keep =
          let z : a - a ≡ 0 = omega arith in
          let e : s + length (keep q (from a (a - a))) ≡ s = rw z (omega arith) in
          rw (map-keep-flat g q (from a n)) (rw e at
          (numbered-flat (λ v. pick (q v) (g v ∷ []) []) (λ v p. (q v ≡ true) × (p ≡ g v)) (λ v. s + length (keep q (from a (v - a)))) a
          kept-one (λ v l. omega (arith, keep-next g q a v l)) a n (omega arith)))
