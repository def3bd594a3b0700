-- The communications of a send and a receive: loops over runs of values, and that what they write are the communications of the pair.
use mathlib.Core.Path.{◌≡◌, refl, sym, ap, subst, ◌∙◌}
use mathlib.Core.Bool.{Bool, true, false, ◌&&◌, ◌||◌, true≢false}
use mathlib.Core.List.{List, [], ◌∷◌, ◌++◌, map, append-nil}
use Prim.Native.Nat.{ℕ, ◌≤◌, ◌<◌}
use native.Mathlib.Decide.{ℕ_discrete}
use native.Mathlib.Omega.{arith}
use lib.Dec.{ltb}
use lib.ListN.{length, drop, length-drop}
use Rattle.lists.specs.Lists.{pick, same, word, from, flat, member}
use Rattle.lists.proofs.Tests.{same-yes, same-no, same_true, and_left, and_right}
use Rattle.lists.proofs.Members.{member-left, member-drop, member-get_or, member-keep, map-append}
use Rattle.lists.proofs.Ranges.{member-from}
use Rattle.lists.proofs.Slices.{drop-step}
use Rattle.scheme.specs.Words.{publics, names, branch_kind, channel, branch_name}
use Rattle.scheme.specs.Scheme.{scheme}
use Rattle.table.specs.Causes.{cause}
use Rattle.net.specs.Net.{Transition}
use Rattle.places.specs.Values.{shares}
use Rattle.places.specs.Places.{common, is_common}
use Rattle.places.specs.Transitions.{Description, sent_on}
use Rattle.places.specs.Inner.Plan.{today, values, Reads}
use Rattle.places.proofs.ByWords.{channel-inside, name-inside}
use Rattle.builder.specs.Inner.Writing
use Rattle.builder.specs.Inner.Writing.{put_all, Inside}
use Rattle.builder.specs.Inner.Spans.{values_in, Narrow, Parted, Run, Behind}
use Rattle.builder.specs.Inner.Parts.{told, pair_told, Paired, Hears, Can, channel_at, sent_at, told_by, Telling, Told, Coursed}
use Rattle.builder.specs.declared.spans.Values.{Values}
use Rattle.builder.specs.declared.spans.Span.{Span}
use Rattle.builder.specs.declared.communications.Pair.{Pair}
use Rattle.builder.specs.declared.communications.Way.{Way}
use Rattle.builder.specs.declared.communications.Course.{Course}
use Rattle.builder.proofs.Writing.{put-none, put-append, inside-first}
use Rattle.builder.proofs.ValueRuns.{run-few, run-kind, run_is}

-- ---- what is left of the values of x

pub record Left (x left : Values) : Type 0 where
  pub narrow : Narrow left
  pub parted : (p : ℕ) → Parted p x → Parted p left
  pub within : (v : ℕ) → member v (values_in left) ≡ true → member v (values_in x) ≡ true

pub left-begin : (x : Values) → Narrow x → Left x x
left-begin x n = record { narrow = n; parted = λ p q. q; within = λ v m. m }

pub left-more : (x left rest : Values) (n : ℕ) → Left x left → Behind left n rest → Left x rest
left-more x left rest n l b = record {
  narrow = b.narrow;
  parted = λ p q. b.parted p (l.parted p q);
  within = λ v m. l.within v (member-drop v n (values_in left) (ap (member v) (sym b.is) ∙ m));
}

pub left_here : (x left : Values) → Left x left → 0 < length (values_in left) → (v : ℕ) → v ≡ word (values_in left) 0 → member v (values_in x) ≡ true
left_here x left l h v e = rw e (l.within (word (values_in left) 0) (member-get_or (values_in left) 0 h))

-- how many are left
pub left-some : (left : Values) (b : Bool) → b ≡ same (length (values_in left)) 0 → b ≡ false → 0 < length (values_in left)
left-some left b e f = go (ℕ_discrete (length (values_in left)) 0)
  where
    go : Dec (length (values_in left) ≡ 0) → 0 < length (values_in left)
    go (yes q) = absurd (true≢false (sym (same-yes (length (values_in left)) 0 q) ∙ sym e ∙ f))
    go (no d) = omega (arith, d)

pub left-none : (left : Values) (b : Bool) → b ≡ same (length (values_in left)) 0 → b ≡ true → values_in left ≡ []
left-none left b e f = empty (values_in left) (same_true (length (values_in left)) 0 (sym e ∙ f))
  where
    empty : (xs : List ℕ) → length xs ≡ 0 → xs ≡ []
    empty [] q = refl
    empty (y ∷ ys) q = absurd (omega arith)

pub fewer : (left rest : Values) (n : ℕ) → 0 < n → 0 < length (values_in left) → Behind left n rest → length (values_in rest) < length (values_in left)
fewer left rest n h k b = omega (arith, ap (λ (l : List ℕ). length l) b.is, length-drop n (values_in left))

-- ---- a loop over runs, with one element for each value: `all` is what the whole loop writes, h are the heads where the values `left` are due

module _ {A : Type 0} (f : A → Transition) (all h : Writing.Heads) (left : Values) (g : ℕ → A) (due : all ≡ put_all f h (map g (values_in left))) where
  pub runs_done : values_in left ≡ [] → h ≡ all
  runs_done e = sym (due ∙ ap (λ (vs : List ℕ). put_all f h (map g vs)) e ∙ put-none f h)

  module _ (n : Narrow left) (s : Span) (r : Run left s) where
    abbrev now : List A
    now = map g (from s.low s.count)

    abbrev later : List A
    later = map g (drop s.count (values_in left))

    halves : all ≡ put_all f h (now ++ later)
    halves =
        due ∙ ap (λ (vs : List ℕ). put_all f h (map g vs)) (run_is left n s r)
        ∙ ap (put_all f h) (map-append g (from s.low s.count) (drop s.count (values_in left)))

    pub runs-inside : Inside all → Inside (put_all f h now)
    runs-inside k = inside-first f h now later (subst Inside halves k)

    pub runs-more : (t : Writing.Heads) → t ≡ put_all f h now → (rest : Values) → Behind left s.count rest → all ≡ put_all f t (map g (values_in rest))
    runs-more t e rest b =
        halves ∙ put-append f h now later ∙ ap (λ (k : Writing.Heads). put_all f k later) (sym e)
        ∙ ap (λ (vs : List ℕ). put_all f t (map g vs)) (sym b.is)

-- ---- a loop over values, with a list for each

module _ {A : Type 0} (f : A → Transition) (all h : Writing.Heads) (left : Values) (g : ℕ → List A) (due : all ≡ put_all f h (flat g (values_in left))) where
  pub each-done : values_in left ≡ [] → h ≡ all
  unfolding flat
  each-done e = sym (due ∙ ap (λ (vs : List ℕ). put_all f h (flat g vs)) e ∙ put-none f h)

  module _ (some : 0 < length (values_in left)) (v : ℕ) (is : v ≡ word (values_in left) 0) where
    abbrev others : List A
    others = flat g (drop 1 (values_in left))

    parts : all ≡ put_all f h (g v ++ others)
    unfolding flat
    parts = due ∙ ap (λ (vs : List ℕ). put_all f h (flat g vs)) (drop-step (values_in left) 0 some) ∙ rw is

    pub each-inside : Inside all → Inside (put_all f h (g v))
    each-inside k = inside-first f h (g v) others (subst Inside parts k)

    pub each_more : (t : Writing.Heads) → t ≡ put_all f h (g v) → (rest : Values) → Behind left 1 rest → all ≡ put_all f t (flat g (values_in rest))
    each_more t e rest b =
        parts ∙ put-append f h (g v) others ∙ ap (λ (k : Writing.Heads). put_all f k others) (sym e)
        ∙ ap (λ (vs : List ℕ). put_all f t (flat g vs)) (sym b.is)

-- ---- a run of them can be told

pub telling : (w : List ℕ) (p : Pair) (way : Way) (x left : Values) (s : Span) → Told w p way x → Left x left → Run left s
    → Telling w p way s.low s.count
telling w p way x left s t l r = record {
  some = r.some;
  few = run-few left l.narrow s r;
  kind = run-kind left l.narrow s r (publics w) (l.parted (publics w) t.parted);
  together = t.together;
  can = λ v a b. t.can v (l.within v (ap (member v) (run_is left l.narrow s r)
      ∙ member-left v (from s.low s.count) (drop s.count (values_in left)) (member-from v s.low s.count a b)));
}

-- ---- a pair

-- a list of one element for each, and a list of one
flat-one : {A : Type 0} (g : ℕ → A) (xs : List ℕ) → flat (λ x. g x ∷ []) xs ≡ map g xs
unfolding flat
flat-one g [] = refl
flat-one g (x ∷ xs) = ap (λ (l : List _). g x ∷ l) (flat-one g xs)

just : (xs : List ℕ) → length xs ≡ 1 → xs ≡ word xs 0 ∷ []
just [] e = absurd (omega arith)
just (x ∷ []) e = refl
just (x ∷ y ∷ xs) e = absurd (omega arith)

abbrev pub way_of : Course → ℕ → Way
way_of c o = record { channels = c.channels; sents = c.sents; other = o }

abbrev pub each_told : List ℕ → Pair → Course → Values → ℕ → List Description
each_told w p c inner o = map (told_by w p (way_of c o)) (values_in inner)

-- what is gone through: for each value of one kind, all values of the other
pub record Gone (w : List ℕ) (p : Pair) (c : Course) (outer inner : Values) : Type 0 where
  pub narrow : Narrow outer
  pub is : pair_told w p.send p.receive ≡ flat (each_told w p c inner) (values_in outer)
  pub tells : (o : ℕ) → member o (values_in outer) ≡ true → Told w p (way_of c o) inner

module _ (w : List ℕ) (ok : cause w ≡ 0) (p : Pair) (q : Paired w p) where
  not-silent : (b n : ℕ) → branch_kind w b ≡ n → 1 ≤ n → branch_kind w b ≡ 0 → ⊥
  not-silent b n e h z = omega arith

  sends : branch_kind w p.send ≡ 0 → ⊥
  sends = not-silent p.send 1 (same_true (branch_kind w p.send) 1 q.sends) (omega arith)

  receives : branch_kind w p.receive ≡ 0 → ⊥
  receives = not-silent p.receive 2 (same_true (branch_kind w p.receive) 2 q.receives) (omega arith)

  channel-high : p.channel < names w
  channel-high = rw q.channel-is (channel-inside w ok p.send q.send-inside sends)

  heard-high : p.heard < names w
  heard-high = rw q.heard-is (channel-inside w ok p.receive q.receive_inside receives)

  sent-high : p.sent < names w
  sent-high = rw q.sent_is (name-inside w ok p.send q.send-inside sends)

  abbrev a : ℕ
  a = p.channel

  abbrev e : ℕ
  e = p.heard

  -- the channel values
  abbrev is : List ℕ
  is = common (scheme w) (today w) p.channel p.heard

  abbrev at : ℕ → ℕ → Description
  at i j = told w p.send p.receive i j

  module _ (v : ℕ) (m : member v is ≡ true) where
    shared : (is_common (scheme w) (today w) a e v && member v (values w a)) ≡ true
    shared = sym (member-keep (is_common (scheme w) (today w) a e) v (values w a)) ∙ m

    reads-channel : Reads w (channel w p.send) v
    reads-channel =
        subst (λ (x : ℕ). Reads w x v) q.channel-is
        (record { high = channel-high; value = and_right (is_common (scheme w) (today w) a e v) (member v (values w a)) shared })

    hears : Hears w p v
    hears = record {
      reads = subst (λ (x : ℕ). Reads w x v) q.heard-is (record {
        high = heard-high;
        value = and_left (member v (values w e)) (ltb v (scheme w).publics || shares (scheme w) (today w) a e)
            (and_left (is_common (scheme w) (today w) a e v) (member v (values w a)) shared);
      });
      shared = ap (λ (x : ℕ). member v (common (scheme w) (today w) (channel w p.send) x)) (sym q.heard-is)
          ∙ ap (λ (x : ℕ). member v (common (scheme w) (today w) x e)) (sym q.channel-is) ∙ m;
    }

  reads-sent : (v : ℕ) → member v (values w p.sent) ≡ true → Reads w (branch_name w p.send) v
  reads-sent v m = subst (λ (x : ℕ). Reads w x v) q.sent_is (record { high = sent-high; value = m })

  abbrev sent_along : ℕ → List Description
  sent_along i = map (at i) (sent_on (scheme w) (today w) (channel w p.send) (branch_name w p.send) i)

  -- the sent values at a channel value
  sent-own : p.sent ≡ p.channel → (i : ℕ) → sent_on (scheme w) (today w) (channel w p.send) (branch_name w p.send) i ≡ i ∷ []
  sent-own k i = let z : branch_name w p.send ≡ channel w p.send = sym q.sent_is ∙ k ∙ q.channel-is in rw (same-yes _ _ z)

  sent-other : (p.sent ≡ p.channel → ⊥) → (i : ℕ) → sent_on (scheme w) (today w) (channel w p.send) (branch_name w p.send) i ≡ values w p.sent
  sent-other k i =
      let z : same (branch_name w p.send) (channel w p.send) ≡ false =
      same-no (branch_name w p.send) (channel w p.send) (λ h. k (q.sent_is ∙ h ∙ sym q.channel-is)) in
      rw (z, q.sent_is)

  pair_is : pair_told w p.send p.receive
      ≡ flat sent_along is
  unfolding pair_told
  pair_is = rw (q.channel-is, q.heard-is)

  all_same : {A : Type 0} (f g : ℕ → List A) (xs : List ℕ) → ((i : ℕ) → f i ≡ g i) → flat f xs ≡ flat g xs
  unfolding flat
  all_same f g [] h = refl
  all_same f g (x ∷ xs) h = rw (h x, all_same f g xs h)

  module _ (c : Course) (k : Coursed w p.channel p.sent c) (x : Values) (ix : values_in x ≡ is) where
    abbrev outer : Values
    outer = pick c.channels c.values x

    abbrev inner : Values
    inner = pick c.channels x c.values

    single : c.channels ≡ true → values_in c.values ≡ word (values_in c.values) 0 ∷ []
    single b = just (values_in c.values) (k.single b)

    -- with one value beside the channel values
    alone : (g : ℕ → Description) (h : ℕ → ℕ → Description) → c.channels ≡ true → ((i : ℕ) → g i ≡ h (word (values_in c.values) 0) i)
        → flat (λ i. g i ∷ []) is ≡ flat (λ o. map (h o) (values_in x)) (values_in c.values)
    unfolding flat
    alone g h b f =
        flat-one g is
        ∙ sym (ap (flat (λ o. map (h o) (values_in x))) (single b) ∙ rw ix (append-nil (map (h (word (values_in c.values) 0)) is))
        ∙ sym (map_same g (h (word (values_in c.values) 0)) is f))
      where
        map_same : (f g : ℕ → Description) (xs : List ℕ) → ((i : ℕ) → f i ≡ g i) → map f xs ≡ map g xs
        map_same f g [] h = refl
        map_same f g (y ∷ ys) h = rw (h y, map_same f g ys h)

    course-told : pair_told w p.send p.receive ≡ flat (each_told w p c inner) (values_in outer)
    course-told = pair_is ∙ go (ℕ_discrete p.sent p.channel)
      where
        own : p.sent ≡ p.channel → (b : c.channels ≡ true) → (d : c.sents ≡ true)
            → flat sent_along is ≡ flat (each_told w p c inner) (values_in outer)
        own z b d =
            all_same _ (λ i. at i i ∷ []) is (λ i. rw (sent-own z i))
            ∙ alone (λ i. at i i) (λ o v. at v v) b (λ i. refl) ∙ rw (b, d)

        other : (d : p.sent ≡ p.channel → ⊥) (b : Bool) → c.channels ≡ b
            → flat sent_along is ≡ flat (each_told w p c inner) (values_in outer)
        other d true b =
            let n = k.others d in
            let s : c.sents ≡ false = n.0 ∙ rw b in
            let j = word (values_in c.values) 0 in
            all_same _ (λ i. at i j ∷ []) is (λ i. rw (sent-other d i, ← n.2, single b))
            ∙ alone (λ i. at i j) (λ o v. at v o) b (λ i. refl) ∙ rw (b, s)
        other d false b =
            let n = k.others d in
            let s : c.sents ≡ true = n.0 ∙ rw b in
            all_same _ (λ i. map (at i) (values_in c.values)) is (λ i. rw (sent-other d i, ← n.2))
            ∙ rw (b, s, ix)

        go : Dec (p.sent ≡ p.channel)
            → flat sent_along is ≡ flat (each_told w p c inner) (values_in outer)
        go (yes z) = own z (k.own z).0 (k.own z).1
        go (no d) = other d c.channels refl

    course-can : (o : ℕ) → member o (values_in outer) ≡ true → (v : ℕ) → member v (values_in inner) ≡ true
        → Can w p (channel_at (way_of c o) v) (sent_at (way_of c o) v)
    course-can o m v n = go (ℕ_discrete p.sent p.channel) c.channels refl
      where
        go : Dec (p.sent ≡ p.channel) → (b : Bool) → c.channels ≡ b → Can w p (channel_at (way_of c o) v) (sent_at (way_of c o) v)
        go (yes z) false b = absurd (true≢false (sym (k.own z).0 ∙ b))
        go (yes z) true b =
            let d = (k.own z).1 in
            let i : member v is ≡ true = ap (member v) (sym ix) ∙ (rw b at n) in
            rw (b, d) (record {
              channel = reads-channel v i;
              heard = hears v i;
              sent = subst (λ (y : ℕ). Reads w y v) (sym (sym q.sent_is ∙ z ∙ q.channel-is)) (reads-channel v i);
            })
        go (no d) true b =
            let s : c.sents ≡ false = (k.others d).0 ∙ rw b in
            let i : member v is ≡ true = ap (member v) (sym ix) ∙ (rw b at n) in
            let j : member o (values w p.sent) ≡ true = ap (member o) (sym (k.others d).2) ∙ (rw b at m) in
            rw (b, s) (record { channel = reads-channel v i; heard = hears v i; sent = reads-sent o j })
        go (no d) false b =
            let s : c.sents ≡ true = (k.others d).0 ∙ rw b in
            let i : member o is ≡ true = ap (member o) (sym ix) ∙ (rw b at m) in
            let j : member v (values w p.sent) ≡ true = ap (member v) (sym (k.others d).2) ∙ (rw b at n) in
            rw (b, s) (record { channel = reads-channel o i; heard = hears o i; sent = reads-sent v j })

    pub gone : Narrow x → Parted (publics w) x → (o i : Values) → o ≡ outer → i ≡ inner → Gone w p c o i
    gone nx px o i eo ei = rw (eo, ei) (record {
      narrow = first c.channels;
      is = course-told;
      tells = λ o m. record {
        narrow = second c.channels;
        parted = parts-of (ℕ_discrete p.sent p.channel) c.channels refl;
        together = k.own;
        can = course-can o m;
      };
    })
      where
        first : (b : Bool) → Narrow (pick b c.values x)
        first true = k.narrow
        first false = nx

        second : (b : Bool) → Narrow (pick b x c.values)
        second true = nx
        second false = k.narrow

        parts-of : Dec (p.sent ≡ p.channel) → (b : Bool) → c.channels ≡ b → Parted (publics w) (pick b x c.values)
        parts-of d true b = px
        parts-of (yes z) false b = absurd (true≢false (sym (k.own z).0 ∙ b))
        parts-of (no d) false b = (k.others d).1
