-- The arcs of a copy, place by place as the code puts them in.
use mathlib.Core.Path.{◌≡◌, ap, ◌∙◌}
use mathlib.Core.Bool.{false}
use mathlib.Core.List.{List, [], ◌∷◌, ◌++◌}
use Prim.Native.Nat.{ℕ, ◌≤◌, ◌<◌}
use native.Mathlib.Omega.{arith}
use lib.ListN
use Rattle.scheme.specs.Words.{publics}
use Rattle.scheme.specs.Scheme.{Scheme, scheme}
use Rattle.table.specs.Causes.{cause}
use Rattle.places.specs.Values.{Values}
use Rattle.places.specs.Places.{Place, equals, differs, control}
use Rattle.places.specs.Transitions.{take, copying}
use Rattle.places.specs.Inner.Arcs.{taken_places, given_places, exists, numbers_for}
use Rattle.places.specs.Inner.Plan.{today, Holds, Reads, Differs}
use Rattle.builder.specs.Inner.Parts.{Chained, Filled, of_table, arrow}
use Rattle.builder.specs.declared.chain.Chain.{Chain}
use Rattle.places.proofs.Arcs.{inputs-named, outputs-named}
use Rattle.places.proofs.Names.{private-held, held-value}
use Rattle.places.proofs.Split.{numbers-tail, numbers-swap}
use Rattle.places.proofs.ByKind.{on-left, equals-public, differs-public}
use Rattle.places.proofs.Controls.{publics-are}
use Rattle.builder.proofs.Chains.{next_place}

module _ (w : List ℕ) where
  abbrev S : Scheme
  S = scheme w

  abbrev U : Values
  U = today w

  -- ---- the value that is copied

  pub read-holds : (a v : ℕ) → publics w ≤ a → Reads w a v → Holds w a v
  read-holds a v l r = record { low = l; high = r.high; value = r.value }

  -- a name that is not restricted, may hold v and has [f≠v]
  pub holds-differs : cause w ≡ 0 → (f v : ℕ) → S.restricted f ≡ false → Holds w f v → publics w ≤ v → Differs w f v
  holds-differs ok f v r h l = record {
    low = h.low;
    high = h.high;
    free = r;
    reads = private-held w ok f v h.value l;
    private = l;
    value = held-value w ok f v h;
  }

  -- ---- the places that there are not

  pub no_value : (a v : ℕ) → a < publics w → exists S U (equals a v) ≡ false
  no_value a v h = equals-public S U a v (omega (arith, publics-are w))

  pub no_difference : (f v : ℕ) → v < publics w → exists S U (differs f v) ≡ false
  no_difference f v h = differs-public S U f v (omega (arith, publics-are w))

  -- ---- "read [a=v] if a is bound, take [f≠v] if private, give [f=v]; on."

  module _ (c : Chain) (h : Chained w c) (k : ℕ) (inside : k < c.controls) (f a v : ℕ) (r : S.restricted f ≡ false) where
    pub copy-inputs : (of_table w (copying S U c.node c.to k f a v)).inputs
        ≡ numbers_for S U (control c.node k ∷ differs f v ∷ equals a v ∷ [])
    copy-inputs =
        inputs-named S U (copying S U c.node c.to k f a v)
        ∙ ap (λ (l : List Place). numbers_for S U (l ++ (equals a v ∷ taken_places S (take f v)))) (on-left S U c.node k c.to)
        ∙ rw r
        (numbers-tail S U (control c.node k) (equals a v ∷ differs f v ∷ []) (differs f v ∷ equals a v ∷ [])
        (numbers-swap S U (equals a v) (differs f v) []))

    pub copy-outputs : (of_table w (copying S U c.node c.to k f a v)).outputs
        ≡ numbers_for S U ((next_place w c h k inside).place ∷ equals f v ∷ equals a v ∷ [])
    copy-outputs =
        let p = next_place w c h k inside in
        outputs-named S U (copying S U c.node c.to k f a v)
        ∙ ap (λ (l : List Place). numbers_for S U (l ++ (equals a v ∷ given_places S (take f v)))) p.goes
        ∙ rw r
        (numbers-tail S U p.place (equals a v ∷ equals f v ∷ []) (equals f v ∷ equals a v ∷ []) (numbers-swap S U (equals a v) (equals f v) []))

    pub copy-arrow : (ins outs : List ℕ) (i o : ℕ) → Filled w ins i (control c.node k ∷ differs f v ∷ equals a v ∷ [])
        → Filled w outs o ((next_place w c h k inside).place ∷ equals f v ∷ equals a v ∷ [])
        → of_table w (copying S U c.node c.to k f a v) ≡ arrow 0 c.node f (ListN.take i ins) (ListN.take o outs)
    copy-arrow ins outs i o x y = rw (copy-inputs, copy-outputs, x.holds, y.holds)
