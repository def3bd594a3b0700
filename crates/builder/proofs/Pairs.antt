-- A send and a receive: the places that a communication of theirs names, put into two short lists one after the other.
use mathlib.Core.Path.{◌≡◌, refl, sym, ap, subst, ◌∙◌}
use mathlib.Core.Bool.{true, false}
use mathlib.Core.List.{List, [], ◌∷◌, ◌++◌}
use mathlib.Core.Logic.{◌⊎◌, inl, inr}
use Prim.Native.Nat.{ℕ, ◌≤◌, ◌<◌}
use native.Mathlib.Omega.{arith}
use lib.ListN.{length, take}
use Rattle.lists.specs.Lists.{same, member}
use Rattle.lists.proofs.Tests.{true-or-false, same-yes, same-no, same_true}
use Rattle.lists.proofs.Members.{member-place}
use Rattle.lists.proofs.Ascending.{element-below}
use Rattle.scheme.specs.Words.{publics, names, nodes, branches, branch_kind, channel, branch_name, next}
use Rattle.scheme.specs.Owners.{home}
use Rattle.scheme.specs.Scheme.{Scheme, send, receive, present, next_node, scheme}
use Rattle.table.specs.Causes.{cause}
use Rattle.table.proofs.Accepted.{accepted}
use Rattle.places.specs.Places.{Place, equals, differs, control}
use Rattle.places.specs.Rows.{number_of, IsBound, Exists, has-differs, has-control}
use Rattle.places.specs.Inner.Arcs.{insert, exists, numbers_for}
use Rattle.builder.specs.Inner.Writing.{put_one_transition, put_all, Inside}
use Rattle.places.specs.Inner.Plan.{today, control_of, Holds, Reads, Differs}
use Rattle.builder.specs.Inner.Parts.{of_table, state, put, told, Paired, Hears, Can, arrow, ins_of, outs_of, Tells}
use Rattle.builder.specs.Inner.Parts.{Rising, Inserted, Entered, no_spot, spot_of}
use Rattle.builder.specs.declared.write.Heads.{Heads}
use Rattle.builder.specs.declared.write.Arcs.{Arcs}
use Rattle.builder.specs.declared.communications.Pair.{Pair}
use Rattle.places.proofs.Rows.{places-length, number-below}
use Rattle.places.proofs.Numbers.{numbers-few, exists-has, has-exists}
use Rattle.places.proofs.Names.{private-held, held-value}
use Rattle.places.proofs.ReachRows.{private-reach}
use Rattle.places.proofs.CommunicationCounts.{sent-held}
use Rattle.places.proofs.Arcs.{inputs-named, outputs-named}
use Rattle.places.proofs.Initial.{some-control}
use Rattle.places.proofs.Split.{numbers-none, numbers-yes, numbers-no, numbers-tail, numbers-swap, numbers-ascend}
use Rattle.places.proofs.ByKind.{value-exists, equals-public, differs-public}
use Rattle.places.proofs.Controls.{nodes-are, publics-are, bounds-are, control-few}
use Rattle.places.proofs.ByWords.{few-branches, send-branch, receive-branch}

-- ---- eight words that hold the numbers of places

abbrev numbers : List ℕ → List Place → List ℕ
numbers w ps = numbers_for (scheme w) (today w) ps

pub record Filled (w list : List ℕ) (count : ℕ) (ps : List Place) : Type 0 where
  pub eight : length list ≡ 8
  pub size : count ≡ length (numbers w ps)
  pub first : take count list ≡ numbers w ps

module _ (w : List ℕ) where
  pub fill_none : (list : List ℕ) → length list ≡ 8 → Filled w list 0 []
  fill_none list e =
      let n = numbers-none (scheme w) (today w) in
      record { eight = e; size = rw n; first = rw n }

  pub fill-yes : (list after : List ℕ) (count r x : ℕ) (p : Place) (ps : List Place) → Filled w list count ps → Exists (scheme w) (today w) p
      → x ≡ number_of (scheme w) (today w) p → Inserted x count list r after → length after ≡ length list → Filled w after r (p ∷ ps)
  fill-yes list after count r x p ps f e q i l =
      let n : insert x (take count list) ≡ numbers w (p ∷ ps) = rw (f.first, q) (sym (numbers-yes (scheme w) (today w) p ps e)) in
      record { eight = l ∙ f.eight; size = i.size ∙ ap (λ (l : List ℕ). length l) n; first = i.first ∙ n }

  pub fill-fits : (list : List ℕ) (count : ℕ) (ps : List Place) → Filled w list count ps → length ps ≤ 8 → count ≤ length list
  fill-fits list count ps f h = omega (arith, f.eight, f.size, numbers-few (scheme w) (today w) ps)

  pub fill-rising : cause w ≡ 0 → (list : List ℕ) (count : ℕ) (ps : List Place) → Filled w list count ps → length ps ≤ 7 → Rising list count
  fill-rising ok list count ps f h = record {
    room = omega (arith, f.eight, f.size, numbers-few (scheme w) (today w) ps);
    rises = rw f.first (numbers-ascend (scheme w) (today w) 0 4294967296 ps (λ p i e. (
      omega arith,
      omega (
        arith,
        number-below (scheme w) (today w) p p e,
        places-length (scheme w) (today w),
        ap (control_of w) (nodes-are w),
        control-few w ok (nodes w) (omega arith),
      ),
    )));
  }

-- ---- numbers of places, and of none

module _ (w : List ℕ) where
  pub spot-there : (p : Place) → Exists (scheme w) (today w) p → spot_of w p ≡ number_of (scheme w) (today w) p
  unfolding spot_of
  spot-there p e = rw (has-exists (scheme w) (today w) p e)

  pub spot-none : (p : Place) → exists (scheme w) (today w) p ≡ false → spot_of w p ≡ no_spot
  unfolding spot_of
  spot-none p e = rw e

  pub number-few : cause w ≡ 0 → (p : Place) → Exists (scheme w) (today w) p → number_of (scheme w) (today w) p < 65536
  number-few ok p e =
      omega (
        arith,
        number-below (scheme w) (today w) p p e,
        places-length (scheme w) (today w),
        ap (control_of w) (nodes-are w),
        control-few w ok (nodes w) (omega arith),
      )

  -- a number put in, if the net has the place
  pub fill-spot : cause w ≡ 0 → (list after : List ℕ) (count r x : ℕ) (p : Place) (ps : List Place) → Filled w list count ps → x ≡ spot_of w p
      → Entered x count list r after → length after ≡ length list → Filled w after r (p ∷ ps)
  fill-spot ok list after count r x p ps f q i l = go (true-or-false (exists (scheme w) (today w) p))
    where
      go : (exists (scheme w) (today w) p ≡ true) ⊎ (exists (scheme w) (today w) p ≡ false) → Filled w after r (p ∷ ps)
      go (inl b) =
          let e = exists-has (scheme w) (today w) p b in
          let n : x ≡ number_of (scheme w) (today w) p = q ∙ spot-there p e in
          let d : same x no_spot ≡ false = same-no x no_spot (λ k. omega (arith, number-few ok p e)) in
          fill-yes w list after count r x p ps f e n (record { size = i.size ∙ rw d; first = i.first ∙ rw d }) l
      go (inr e) =
          let d : same x no_spot ≡ true = same-yes x no_spot (q ∙ spot-none p e) in
          let n : numbers w (p ∷ ps) ≡ numbers w ps = numbers-no (scheme w) (today w) p ps e in
          let s : r ≡ count = i.size ∙ rw d in
          record {
            eight = l ∙ f.eight;
            size = s ∙ f.size ∙ ap (λ (l : List ℕ). length l) (sym n);
            first = i.first ∙ rw d (f.first ∙ sym n);
          }

-- ---- the order of places

module _ (w : List ℕ) where
  -- a place moved behind others
  numbers-move : (p : Place) (ps qs : List Place) → numbers w (p ∷ (ps ++ qs)) ≡ numbers w (ps ++ (p ∷ qs))
  numbers-move p [] qs = refl
  numbers-move p (x ∷ ps) qs =
      numbers-swap (scheme w) (today w) p x (ps ++ qs)
      ∙ numbers-tail (scheme w) (today w) x (p ∷ (ps ++ qs)) (ps ++ (p ∷ qs)) (numbers-move p ps qs)

  turned : (a e z d : Place) → numbers w (d ∷ z ∷ e ∷ a ∷ []) ≡ numbers w (a ∷ e ∷ z ∷ d ∷ [])
  turned a e z d =
      numbers-move d (z ∷ e ∷ a ∷ []) [] ∙ numbers-move z (e ∷ a ∷ []) (d ∷ []) ∙ numbers-move e (a ∷ []) (z ∷ d ∷ [])

  pub put-in-order : (s r a e z d : Place) → numbers w (r ∷ s ∷ d ∷ z ∷ e ∷ a ∷ []) ≡ numbers w (s ∷ r ∷ a ∷ e ∷ z ∷ d ∷ [])
  put-in-order s r a e z d =
      let t = numbers-tail (scheme w) (today w) in
      numbers-swap (scheme w) (today w) r s (d ∷ z ∷ e ∷ a ∷ [])
      ∙ t s (r ∷ d ∷ z ∷ e ∷ a ∷ []) (r ∷ a ∷ e ∷ z ∷ d ∷ []) (t r (d ∷ z ∷ e ∷ a ∷ []) (a ∷ e ∷ z ∷ d ∷ []) (turned a e z d))

-- ---- the places that names and nodes have

module _ (w : List ℕ) where
  abbrev S : Scheme
  S = scheme w

  pub reads-holds : (x v : ℕ) → Reads w x v → publics w ≤ x → Holds w x v
  reads-holds x v r l = record { low = l; high = r.high; value = r.value }

  bound : (x : ℕ) → publics w ≤ x → x < names w → IsBound S (today w) x
  bound x l h = (omega (arith, publics-are w), omega (arith, publics-are w, bounds-are w))

  pub holds-exists : (x v : ℕ) → Holds w x v → Exists S (today w) (equals x v)
  holds-exists x v h = value-exists S (today w) x v (bound x h.low h.high) h.value

  pub public-none : (x v : ℕ) → x < publics w → exists S (today w) (equals x v) ≡ false
  public-none x v h = equals-public S (today w) x v (omega (arith, publics-are w))

  pub differs-exists : (x v : ℕ) → Differs w x v → Exists S (today w) (differs x v)
  differs-exists x v h =
      has-differs {v = v} (bound x h.low h.high) h.free
      (omega (arith, publics-are w, h.private), omega (arith, publics-are w, h.value))
      (private-reach S x v (omega (arith, publics-are w, h.private)) ∙ h.reads)

  pub differs_none : (x v : ℕ) → v < publics w → exists S (today w) (differs x v) ≡ false
  differs_none x v h = differs-public S (today w) x v (omega (arith, publics-are w))

  pub control-exists : (n : ℕ) → n < nodes w → Exists S (today w) (control n 0)
  control-exists n l = has-control {n = n} {k = 0} (omega (arith, nodes-are w)) (omega (arith, some-control S (today w) n))

  pub control-number : (n x : ℕ) → x ≡ control_of w n → x ≡ number_of S (today w) (control n 0)
  control-number n x e = omega (arith, e)

-- ---- a pair

-- what is known where it communicates at channel value i with sent value j
pub record Speaks (w : List ℕ) (p : Pair) (i j : ℕ) : Type 0 where
  pub channel : Reads w p.channel i
  pub heard : Reads w p.heard i
  pub sent : Reads w p.sent j
  pub differs : publics w ≤ j → Differs w p.bound j
  pub gives : Holds w p.bound j

-- the places in the order in which they are put in
module _ (w : List ℕ) (p : Pair) (i j : ℕ) where
  abbrev pub read_of : List Place
  read_of = equals p.sent j ∷ equals p.heard i ∷ equals p.channel i ∷ []

  abbrev pub takes_of : List Place
  takes_of = control (home w p.receive) 0 ∷ control (home w p.send) 0 ∷ differs p.bound j ∷ read_of

  abbrev pub gives_of : List Place
  gives_of = control (next w p.receive) 0 ∷ control (next w p.send) 0 ∷ equals p.bound j ∷ read_of

-- a control place more
pub move_at : (w list after : List ℕ) (count r : ℕ) (ps : List Place) → Filled w list count ps → (m n : ℕ) → m < nodes w → n ≡ control_of w m
    → Inserted n count list r after → length after ≡ length list → Filled w after r (control m 0 ∷ ps)
move_at w list after count r ps f m n h e i s = fill-yes w list after count r n (control m 0) ps f (control-exists w m h) (control-number w m n e) i s

module _ (w : List ℕ) (ok : cause w ≡ 0) (p : Pair) (k : Paired w p) where
  pub sends : (scheme w).branch p.send ≡ send (channel w p.send) (branch_name w p.send) (next w p.send)
  sends = send-branch w ok p.send k.send-inside (same_true (branch_kind w p.send) 1 k.sends)

  pub receives : (scheme w).branch p.receive ≡ receive (channel w p.receive) (branch_name w p.receive) (next w p.receive)
  receives = receive-branch w ok p.receive k.receive_inside (same_true (branch_kind w p.receive) 2 k.receives)

  abbrev y : ℕ
  y = branch_name w p.receive

  pub heard-free : (scheme w).restricted y ≡ false
  heard-free = (accepted w ok).receive-free p.receive (channel w p.receive) y (next w p.receive) receives

  heard-low : publics w ≤ y
  heard-low =
      omega (arith, publics-are w, ((accepted w ok).receive-name p.receive (channel w p.receive) y (next w p.receive) receives).low)

  heard-high : y < names w
  heard-high =
      omega (arith, publics-are w, bounds-are w, ((accepted w ok).receive-name p.receive (channel w p.receive) y (next w p.receive) receives).high)

  differ : (scheme w).thread ((scheme w).home p.send) ≡ (scheme w).thread ((scheme w).home p.receive) → ⊥
  unfolding scheme
  differ e = k.apart (sym e)

  -- the receive's name may hold what it hears
  pub pair-given : (i j : ℕ) → Hears w p i → Reads w (branch_name w p.send) j → Holds w y j
  pair-given i j h z = record {
    low = heard-low;
    high = heard-high;
    value = sent-held (scheme w) (accepted w ok) p.send (channel w p.send) (branch_name w p.send) (next w p.send) p.receive
        (channel w p.receive) y (next w p.receive) sends receives differ i j h.shared z.value;
  }

  pub pair-differs : (i j : ℕ) → Hears w p i → Reads w (branch_name w p.send) j → publics w ≤ j → Differs w y j
  pair-differs i j h z l =
      let g = pair-given i j h z in
      record {
        low = heard-low;
        high = heard-high;
        free = heard-free;
        reads = private-held w ok y j g.value l;
        private = l;
        value = held-value w ok y j g;
      }

  home-is : (b : ℕ) → (scheme w).home b ≡ home w b
  unfolding scheme
  home-is b = refl

  pub home-inside : (b : ℕ) → home w b < nodes w
  unfolding scheme
  home-inside b = (accepted w ok).home-inside b

  next_of : (b : ℕ) → present ((scheme w).branch b) ≡ true → next_node ((scheme w).branch b) ≡ next w b → next w b < nodes w
  next_of b h e = omega (arith, nodes-are w, (accepted w ok).next-inside b h, e)

  pub send-next : next w p.send < nodes w
  send-next = next_of p.send (rw sends) (rw sends)

  pub receive-next : next w p.receive < nodes w
  receive-next = next_of p.receive (rw receives) (rw receives)

  pub branch-small : (b : ℕ) → b < branches w → b < 65536
  branch-small b l = omega (arith, few-branches w ok)

  pub speaks : (i j : ℕ) → Can w p i j → Speaks w p i j
  speaks i j c = record {
    channel = subst (λ (x : ℕ). Reads w x i) (sym k.channel-is) c.channel;
    heard = subst (λ (x : ℕ). Reads w x i) (sym k.heard-is) c.heard.reads;
    sent = subst (λ (x : ℕ). Reads w x j) (sym k.sent_is) c.sent;
    differs = λ l. subst (λ (x : ℕ). Differs w x j) (sym k.bound-is) (pair-differs i j c.heard c.sent l);
    gives = subst (λ (x : ℕ). Holds w x j) (sym k.bound-is) (pair-given i j c.heard c.sent);
  }

  pub told-inputs : (i j : ℕ) → (of_table w (told w p.send p.receive i j)).inputs ≡ numbers w (takes_of w p i j)
  told-inputs i j =
      inputs-named (scheme w) (today w) (told w p.send p.receive i j)
      ∙ rw (home-is p.send, home-is p.receive, heard-free, k.channel-is, k.heard-is, k.sent_is, k.bound-is)
      (sym (put-in-order w (control (home w p.send) 0) (control (home w p.receive) 0) (equals (channel w p.send) i)
      (equals (channel w p.receive) i) (equals (branch_name w p.send) j) (differs y j)))

  pub told-outputs : (i j : ℕ) → (of_table w (told w p.send p.receive i j)).outputs ≡ numbers w (gives_of w p i j)
  told-outputs i j =
      outputs-named (scheme w) (today w) (told w p.send p.receive i j)
      ∙ rw (heard-free, k.channel-is, k.heard-is, k.sent_is, k.bound-is)
      (sym (put-in-order w (control (next w p.send) 0) (control (next w p.receive) 0) (equals (channel w p.send) i)
      (equals (channel w p.receive) i) (equals (branch_name w p.send) j) (equals y j)))

  few-numbers : (ps : List Place) (x : ℕ) → member x (numbers w ps) ≡ true → x < 65536
  few-numbers ps x m =
      let q = member-place x (numbers w ps) m in
      let a = numbers-ascend (scheme w) (today w) 0 65536 ps (λ p i e. (
        omega arith,
        omega (
          arith,
          number-below (scheme w) (today w) p p e,
          places-length (scheme w) (today w),
          ap (control_of w) (nodes-are w),
          control-few w ok (nodes w) (omega arith),
        ),
      )) in
      omega (arith, element-below 65536 0 (numbers w ps) a q.place q.inside, q.holds)

  pub tells : (i j : ℕ) (ins outs : List ℕ) (c o : ℕ) → Filled w ins c (takes_of w p i j) → Filled w outs o (gives_of w p i j)
      → Tells w p i j (record { ins = ins; inputs = c; outs = outs; outputs = o })
  tells i j ins outs c o f g = record {
    short = record {
      ins-eight = f.eight;
      outs-eight = g.eight;
      ins-fit = omega (arith, fill-fits w ins c (takes_of w p i j) f (omega arith), f.eight);
      outs-fit = omega (arith, fill-fits w outs o (gives_of w p i j) g (omega arith), g.eight);
      ins-small = λ x m. few-numbers (takes_of w p i j) x (ap (member x) (sym f.first) ∙ m);
      outs-small = λ x m. few-numbers (gives_of w p i j) x (ap (member x) (sym g.first) ∙ m);
    };
    ins-are = f.first ∙ sym (told-inputs i j);
    outs-are = g.first ∙ sym (told-outputs i j);
  }

  -- one communication as a transition of its arcs
  pub told-put : (i j : ℕ) (out : List ℕ) (h : Heads) (t : Arcs) → Tells w p i j t
      → put w out h (told w p.send p.receive i j ∷ []) ≡ put_one_transition (state out h) (arrow 4 p.send p.receive (ins_of t) (outs_of t))
  unfolding put_all
  told-put i j out h t e =
      let d = of_table w (told w p.send p.receive i j) in
      ap (λ (l : List ℕ). put_one_transition (state out h) (arrow 4 p.send p.receive l d.outputs)) (sym e.ins-are)
      ∙ ap (λ (l : List ℕ). put_one_transition (state out h) (arrow 4 p.send p.receive (ins_of t) l)) (sym e.outs-are)

  pub told-inside : (i j : ℕ) (out : List ℕ) (h : Heads) (t : Arcs) → Tells w p i j t
      → Inside (put w out h (told w p.send p.receive i j ∷ []))
      → (p.send < 65536) × (p.receive < 65536) × (t.inputs ≤ length t.ins) × (t.outputs ≤ length t.outs)
      × Inside (put_one_transition (state out h) (arrow 4 p.send p.receive (ins_of t) (outs_of t)))
  told-inside i j out h t e n = (
    branch-small p.send k.send-inside,
    branch-small p.receive k.receive_inside,
    omega (arith, e.short.ins-eight, e.short.ins-fit),
    omega (arith, e.short.outs-eight, e.short.outs-fit),
    subst Inside (told-put i j out h t e) n,
  )
